-- The votes that an assembly counts, taken apart and put together again.
use Rattle.std.proofs.Common.{◌≡◌, ◌≢◌, ℕ, zero, suc, ◌+◌, ◌<◌, ◌≤◌, Bool, true, false, cond, List, [], ◌∷◌}
use Rattle.std.proofs.Common.{◌++◌, length, Option, Some, None, inl, inr, refl, ap, sym, ◌∙◌, subst, arith, take, slice_get, get_or}
use Rattle.std.specs.Prelude.{◌⊎◌, ◌==◌, not, filter, All, replicate, nat_le, slice_set}
use Rattle.std.proofs.lemmas.Bool.{cases_Bool, cases_lt, eqb-true, eq-eqb, leb-true, leb-false, true≢false}
use Rattle.std.proofs.lemmas.Grind.{get_or-set_at}
use Rattle.std.proofs.lemmas.List.{length-set, length-replicate, get_or-replicate, get_or-set_other, get_or_past, get_or_default, same_lists}
use Rattle.std.proofs.lemmas.List.Elements.{filter-append, All-filter}
use Rattle.std.proofs.lemmas.Option.{same_Some, none-some}
use Rattle.wire.specs.declared.header.Header.{Header}
use Rattle.wire.specs.declared.header.Vote.{Vote}
use Rattle.wire.specs.declared.keys.Signature.{Signature}
use Rattle.wire.specs.declared.votes.VoteEntry.{VoteEntry}
use Rattle.committee.specs.Charter.{quorum_of}
use Rattle.certify.specs.Assembled.{AssemblyView, IsAssembled, Places, votes_in, votes_weight, with_vote, with_entries, restored}
use Rattle.certify.proofs.Places.{entry, votes_from, votes_from-none, votes_from-some, restored-is}
use Rattle.certify.proofs.VoteLaws.{members-votes_below}
use Rattle.checkpoint.specs.Parts.{AreOf, is_other, other_votes}
use Rattle.checkpoint.proofs.Copied.{one_more}

some_or_none : {X : Type 0} (o : Option X) → ((x : X) × (o ≡ Some x)) ⊎ (o ≡ None)
some_or_none (Some x) = inl (x, refl)
some_or_none None = inr refl

-- ---- reading

-- a vote stands in its voter's place, whether it is the first of a list or a later one
first_or_later : (places : Places) (a : ℕ) (s : Signature) (e : VoteEntry) (rest : List VoteEntry) → get_or places a None ≡ Some s
    → ((k : ℕ) → slice_get rest k ≡ Some e → get_or places e.voter.0 None ≡ Some e.signature)
    → (k : ℕ) → slice_get (entry a s ∷ rest) k ≡ Some e → get_or places e.voter.0 None ≡ Some e.signature
first_or_later places a s e rest there later zero is =
    subst (λ (x : VoteEntry). get_or places x.voter.0 None ≡ Some x.signature) (same_Some (entry a s) e is) there
first_or_later places a s e rest there later (suc k) is = later k is

-- so does each that is counted
from_range : (places : Places) (a n k : ℕ) (e : VoteEntry) → slice_get (votes_from places a n) k ≡ Some e → get_or places e.voter.0 None ≡ Some e.signature
from_range places a zero k e is = absurd (none-some e is)
from_range places a (suc n) k e is =
    elim (some_or_none (get_or places a None)) [
      | inr none ↦ from_range places (a + 1) n k e (ap (λ l. slice_get l k) (sym (votes_from-none places a n none)) ∙ is)
      | inl found ↦ first_or_later places a found.0 e (votes_from places (a + 1) n) found.1 (λ k' is'. from_range places (a + 1) n k' e is') k
          (ap (λ l. slice_get l k) (sym (votes_from-some places a n found.0 found.1)) ∙ is)
    ]

pub in_place : (places : Places) (k voter : ℕ) (e : VoteEntry) → slice_get (votes_in places) k ≡ Some e → e.voter.0 ≡ voter → get_or places voter None ≡ Some e.signature
in_place places k voter e is by = subst (λ (v : ℕ). get_or places v None ≡ Some e.signature) by (from_range places 0 (length places) k e is)

-- ---- of others alone

pub other_more : (own : ℕ) (votes : List VoteEntry) (n : ℕ) (e : VoteEntry) → slice_get votes n ≡ Some e → is_other own e ≡ true
    → filter (is_other own) (take (n + 1) votes) ≡ filter (is_other own) (take n votes) ++ e ∷ []
other_more own votes n e is other =
    ap (filter (is_other own)) (one_more votes n e is) ∙ filter-append (is_other own) (take n votes) (e ∷ [])
    ∙ ap (λ (b : Bool). filter (is_other own) (take n votes) ++ cond b (e ∷ []) []) other

pub own_more : (own : ℕ) (votes : List VoteEntry) (n : ℕ) (e : VoteEntry) → slice_get votes n ≡ Some e → is_other own e ≡ false
    → filter (is_other own) (take (n + 1) votes) ≡ filter (is_other own) (take n votes)
own_more own votes n e is mine =
    ap (filter (is_other own)) (one_more votes n e is) ∙ filter-append (is_other own) (take n votes) (e ∷ [])
    ∙ ap (λ (b : Bool). filter (is_other own) (take n votes) ++ cond b (e ∷ []) []) mine ∙ append_nil (filter (is_other own) (take n votes))
  where
    append_nil : {X : Type 0} (xs : List X) → xs ++ [] ≡ xs
    append_nil [] = refl
    append_nil (x ∷ xs) = ap (λ l. x ∷ l) (append_nil xs)

-- ---- put together again

same_with : (one other : Places) (k : ℕ) (d : Option Signature) → k < length one → k < length other → get_or one k None ≡ get_or other k None → get_or one k d ≡ get_or other k d
same_with one other k d within inside same = get_or_default one k d None within ∙ same ∙ get_or_default other k None d inside

-- votes of the members from one on put those of the members below it, and the own one, into all places
put_from : (places so : Places) (own m j : ℕ) → length so ≡ length places → length places ≡ m + j
    → ((k : ℕ) → k < m → get_or so k None ≡ get_or places k None) → get_or so own None ≡ get_or places own None
    → ((k : ℕ) → m ≤ k → k ≢ own → get_or so k None ≡ None)
    → with_entries so (filter (is_other own) (votes_from places m j)) ≡ places
put_from places so own m zero long all low mine high =
    same_lists so places long (λ k d within. same_with so places k d within (omega (arith, within, long)) (low k (omega (arith, within, long, all))))
put_from places so own m (suc j) long all low mine high =
    elim (some_or_none (get_or places m None)) [
      | inr none ↦
          ap (λ l. with_entries so (filter (is_other own) l)) (votes_from-none places m j none)
          ∙ put_from places so own (m + 1) j long (omega (arith, all)) (λ k below. elim (cases_lt k m) [
            | inl less ↦ low k less
            | inr past ↦
                let here : k ≡ m = omega (arith, below, past) in
                elim (cases_Bool (m == own)) [
                  | inl same ↦ let own_too : k ≡ own = here ∙ eqb-true m own same in rw own_too mine
                  | inr apart ↦ high k past (λ same. (let is : (m == own) ≡ true = eq-eqb m own (sym here ∙ same) in true≢false (sym is ∙ apart))) ∙ sym (ap (λ n. get_or places n None) here ∙ none)
                ]
          ]) mine (λ k past apart. high k (omega (arith, past)) apart)
      | inl found ↦
          let s = found.0 in
          let rest = votes_from places m j in
          ap (λ l. with_entries so (filter (is_other own) l)) (votes_from-some places m j s found.1)
          ∙ elim (cases_Bool (m == own)) [
            | inl same ↦
                let here : m ≡ own = eqb-true m own same in
                ap (λ (b : Bool). with_entries so (cond (not b) (entry m s ∷ filter (is_other own) (votes_from places (m + 1) j)) (filter (is_other own) (votes_from places (m + 1) j)))) same
                ∙ put_from places so own (m + 1) j long (omega (arith, all)) (λ k below. elim (cases_lt k m) [
                  | inl less ↦ low k less
                  | inr past ↦ let own_too : k ≡ own = (let at : k ≡ m = omega (arith, below, past) in at ∙ here) in rw own_too mine
                ]) mine (λ k past apart. high k (omega (arith, past)) apart)
            | inr apart ↦
                let differs : own ≢ m = λ is. true≢false (sym (eq-eqb m own (sym is)) ∙ apart) in
                let inside : m < length so = omega (arith, long, all) in
                ap (λ (b : Bool). with_entries so (cond (not b) (entry m s ∷ filter (is_other own) (votes_from places (m + 1) j)) (filter (is_other own) (votes_from places (m + 1) j)))) apart
                ∙ put_from places (slice_set so m (Some s)) own (m + 1) j (length-set so m (Some s) ∙ long) (omega (arith, all)) (λ k below. elim (cases_lt k m) [
                  | inl less ↦ get_or-set_other so m k (Some s) None (λ is. omega (arith, less, is)) ∙ low k less
                  | inr past ↦
                      let here : k ≡ m = omega (arith, below, past) in
                      get_or-set_at so m k (Some s) None here inside ∙ sym (ap (λ n. get_or places n None) here ∙ found.1)
                ]) (get_or-set_other so m own (Some s) None differs ∙ mine)
                (λ k past other. get_or-set_other so m k (Some s) None (λ is. omega (arith, past, is)) ∙ high k (omega (arith, past)) other)
          ]
    ]

pub no_vote : (n k : ℕ) → ◌≡◌ {A = Option Signature} (get_or (replicate n None) k None) None
no_vote n k =
    let unvoted : Option Signature = None in
    elim (cases_lt k n) [
      | inl within ↦ get_or-replicate n k unvoted unvoted within
      | inr past ↦ get_or_past (replicate n unvoted) k unvoted (omega (arith, past, length-replicate n unvoted))
    ]

weighs : (assembled : AssemblyView) → IsAssembled assembled → assembled.complete ≡ nat_le (quorum_of assembled.charter) (votes_weight assembled.charter assembled.places)
weighs assembled is =
    let quorum = quorum_of assembled.charter in
    let weight = votes_weight assembled.charter assembled.places in
    elim (cases_Bool assembled.complete) [
      | inl complete ↦ elim (cases_Bool (nat_le quorum weight)) [
        | inl enough ↦ complete ∙ sym enough
        | inr few ↦ absurd (omega (arith, is.enough complete, leb-false quorum weight few))
      ]
      | inr going ↦ elim (cases_Bool (nat_le quorum weight)) [
        | inl enough ↦ absurd (omega (arith, is.below going, leb-true quorum weight enough))
        | inr few ↦ going ∙ sym few
      ]
    ]

-- what an assembly is taken apart to makes it again
pub made_again : (own : ℕ) (assembled : AssemblyView) (its : Header) (mine : Vote) (others : List VoteEntry) → IsAssembled assembled → own < length assembled.charter.keys
    → AreOf own assembled its mine others
    → restored assembled.charter its mine others ≡ assembled
made_again own assembled its mine others is member of =
    let n = length assembled.charter.keys in
    let places = assembled.places in
    let none : Places = replicate n None in
    let so : Places = with_vote none mine in
    let size = is.size in
    let voter = of.vote.voter in
    let long : length none ≡ n = length-replicate n None in
    let all : with_entries so (filter (is_other own) (votes_from places 0 (length places))) ≡ places =
    put_from places so own 0 (length places) (length-set none mine.voter.0 (Some mine.signature) ∙ long ∙ sym size) (omega arith) (λ k below. absurd (omega (arith, below)))
    (get_or-set_at none mine.voter.0 own (Some mine.signature) None (sym voter) (omega (arith, voter, member, long)) ∙ sym of.vote.counted)
    (λ k past apart. get_or-set_other none mine.voter.0 k (Some mine.signature) None (λ same. apart (same ∙ voter)) ∙ no_vote n k) in
    ap (λ (h : Header). restored assembled.charter h mine others) of.header
    ∙ ap (λ l. restored assembled.charter assembled.header mine l) of.votes
    ∙ sym (restored-is assembled.charter assembled.header mine (other_votes own places) places assembled.complete (sym all) (weighs assembled is))

-- the votes of others are members'
pub by_members : (own : ℕ) (assembled : AssemblyView) (its : Header) (mine : Vote) (others : List VoteEntry) → IsAssembled assembled → AreOf own assembled its mine others
    → All (λ entry. entry.voter.0 < length assembled.charter.keys) others
by_members own assembled its mine others is of =
    subst (λ l. All (λ (e : VoteEntry). e.voter.0 < length assembled.charter.keys) l) (sym of.votes)
    (subst (λ (n : ℕ). All (λ (e : VoteEntry). e.voter.0 < n) (other_votes own assembled.places)) is.size
    (All-filter (is_other own) (λ e. e.voter.0 < length assembled.places) (votes_in assembled.places) (members-votes_below assembled.places (length assembled.places))))
