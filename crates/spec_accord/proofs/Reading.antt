-- Headers by their digests: no two that honest members tell of share one, so a signed digest says which header it is of.
use Rattle.std.proofs.Common.{◌≡◌, ℕ, Bool, true, List, ◌∷◌, ◌++◌, length, take, get_or, append_assoc, inl, inr}
use Rattle.std.proofs.Common.{ap, sym, ◌∙◌, subst, arith}
use Rattle.std.specs.Int.{w16, w64, to_be_bytes}
use Rattle.std.proofs.Math.Seq.{take-append_seam}
use Rattle.sha2.proofs.Facts256.{length-sha256}
use Rattle.wire.specs.Digests.{header_digest_of}
use Rattle.wire.specs.Grammar.{IsHeaderBody}
use Rattle.wire_read.proofs.Messages.{one_body}
use Rattle.spec_model.specs.Slots.{header_digest, certificate_digest}
use Rattle.spec_model.specs.Words.{Digest, HeaderBody}
use Rattle.spec_accord.specs.Members.{Party, IsReported, HaveNoClash, header_text, HasVote, IsParty, HasHeaders}
use Rattle.spec_accord.proofs.Reporting.{reported_within}

-- what stands after one letter is one
after_letter : (letter : ℕ) (one other : List ℕ) → letter ∷ one ≡ letter ∷ other → one ≡ other
after_letter letter one other same = cc

-- fronts of one length are one
same_front : (one other x y : List ℕ) → length one ≡ length other → one ++ x ≡ other ++ y → one ≡ other
same_front one other x y long same =
    sym (take-append_seam one x) ∙ ap (take (length one)) same ∙ ap (λ n. take n (other ++ y)) long
    ∙ take-append_seam other y

-- ---- headers

-- a header that an honest member tells of is within its limits
reported_fits : (party : Party) (signed : ℕ → Digest → Bool) → IsParty party signed → (body : HeaderBody)
    → IsReported party body → IsHeaderBody body
reported_fits party signed is body reported =
    reported_within (party.node reported.member) (party.settled reported.member) (is.legal reported.member reported.honest) body reported.reported

-- the letters differ
two_letters : (one other : List ℕ) → 72 ∷ one ≡ 67 ∷ other → ⊥
two_letters one other same =
    let letter : 72 ≡ 67 = ap (λ (text : List ℕ). get_or text 0 0) same in absurd (omega (arith, letter))

-- headers that are told of, of a party's settled histories at least: they are within their limits, and no two texts of them share a digest
pub record AreReported (party : Party) (Reported : HeaderBody → Type 0) : Type 0 where
  pub fits : (body : HeaderBody) → Reported body → IsHeaderBody body
  pub settled : (body : HeaderBody) → IsReported party body → Reported body
  pub clash : HaveNoClash Reported

-- those of the settled histories alone
pub settled_reported : (party : Party) (signed : ℕ → Digest → Bool) → IsParty party signed → AreReported party (IsReported party)
settled_reported party signed is = record { fits = reported_fits party signed is; settled = λ body reported. reported; clash = is.clash }

module _ (party : Party) (signed : ℕ → Digest → Bool) (is : IsParty party signed) (Reported : HeaderBody → Type 0) (all : AreReported party Reported) where
  -- two such headers of one digest are one
  pub one_by_header : (one other : HeaderBody) → Reported one → Reported other → header_digest one ≡ header_digest other → one ≡ other
  one_by_header one other reported also same =
      let text = all.clash.headers one other reported also (ap (λ (d : Digest). d.0) same) in
      one_body one other (all.fits one reported) (all.fits other also) (after_letter 72 _ _ text)

  -- and so are two whose certificates have one digest
  pub one_by_certificate : (one other : HeaderBody) → Reported one → Reported other → certificate_digest one ≡ certificate_digest other → one ≡ other
  one_by_certificate one other reported also same =
      let text = all.clash.certificates one other reported also (ap (λ (d : Digest). d.0) same) in
      let digest = header_digest_of in
      let round : HeaderBody → List ℕ = λ body. to_be_bytes w64 body.round in
      let author : HeaderBody → List ℕ = λ body. to_be_bytes w16 body.author.0 in
      let long : length (digest one) ≡ length (digest other) = length-sha256 (header_text one) ∙ sym (length-sha256 (header_text other)) in
      let parts : digest one ++ (round one ++ author one) ≡ digest other ++ (round other ++ author other) =
      sym (append_assoc (digest one) (round one) (author one)) ∙ after_letter 67 _ _ text
      ∙ append_assoc (digest other) (round other) (author other) in
      let front = same_front (digest one) (digest other) (round one ++ author one) (round other ++ author other) long parts in
      one_by_header one other reported also (ap (λ (bytes : List ℕ). record { 0 = bytes }) front)

  -- ---- votes

  -- an honest member that signed a header's certificate in what it gave out has its vote for that header for good
  pub signed_voted : (member : ℕ) → party.honest member ≡ true → (body : HeaderBody) → Reported body → signed member (certificate_digest body) ≡ true → HasVote party member body
  signed_voted member honest body reported by =
      let was = is.given member honest (certificate_digest body) by in
      let reported' : Reported was.body = all.settled was.body (record { member = member; honest = honest; reported = was.reported }) in
      elim was.is [
        | inl own ↦ absurd (two_letters _ _ (all.clash.both was.body body reported' reported (ap (λ (d : Digest). d.0) (sym own))))
        | inr vote ↦
            let same = one_by_certificate body was.body reported reported' vote.0 in
            subst (HasVote party member) (sym same) vote.1
      ]

  -- and one that signed a header has it for good
  pub signed_header : HasHeaders party signed → (member : ℕ) → party.honest member ≡ true → (body : HeaderBody) → Reported body → signed member (header_digest body) ≡ true → HasVote party member body
  signed_header headers member honest body reported by =
      let was = headers.given member honest (header_digest body) by in
      let reported' : Reported was.body = all.settled was.body (record { member = member; honest = honest; reported = was.reported }) in
      elim was.is [
        | inl own ↦ subst (HasVote party member) (sym (one_by_header body was.body reported reported' own)) was.voted
        | inr vote ↦ absurd (two_letters _ _ (all.clash.both body was.body reported reported' (ap (λ (d : Digest). d.0) vote)))
      ]
