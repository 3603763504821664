-- What honest members hold, at any moment: a certificate is of the genesis, or a quorum voted for its header, the honest ones for good.
use Rattle.std.proofs.Common.{◌≡◌, ◌≢◌, ◌≤◌, ℕ, Bool, true, List, [], ◌++◌, map, Some, None, ◌⊎◌, inl, inr}
use Rattle.std.proofs.Common.{refl, ap, sym, ◌∙◌, subst}
use Rattle.std.specs.Prelude.{◌==◌, ◌&&◌, nat_le, is_some, option_map, find, filter_map, Contains}
use Rattle.std.specs.List.{list_any}
use Rattle.std.proofs.lemmas.Bool.{cases_Bool, cases_eq, and_parts, eqb-true, leb-true}
use Rattle.std.proofs.lemmas.List.Elements.{All-contains, Contains-append_cases}
use Rattle.std.proofs.lemmas.Slice.Eq.{bytes_eq-Decides}
use Rattle.committee.specs.Charter.{Charter, numbers, weight, quorum_of}
use Rattle.header.specs.Checks.{Accepts, fault_of, is_signed, vote_signed}
use Rattle.header.proofs.Passing.{message_passes}
use Rattle.header.proofs.Signing.{message_signed}
use Rattle.wire.specs.Digests.{header_digest_of, certificate_digest_of}
use Rattle.wire.specs.Grammar.{IsMessage}
use Rattle.wire.specs.declared.message.Message.TheVariants as message
use Rattle.spec_model.specs.Admitting.{IsTaken}
use Rattle.spec_model.specs.Histories.{History, headers, votes, received}
use Rattle.spec_model.specs.Holdings.{is_vote_on, genesis, has_voted, completed, certificates}
use Rattle.spec_model.specs.Nodes.{size_of, quorum}
use Rattle.spec_model.specs.Slots.{same_digest, header_digest, certificate_digest, is_of_slot}
use Rattle.spec_model.specs.Words.{Certificate, Digest, Event, Header, HeaderBody, Message, Vote, VoteEntry}
use Rattle.spec_laws.proofs.Lists.{given_or_none, found_passes, Contains-made, Contains-first}
use Rattle.spec_laws.proofs.Meeting.{any_to}
use Rattle.spec_laws.proofs.SlotsGrow.{completed-header}
use Rattle.spec_laws.proofs.Votes.{one_header, slot_is}
use Rattle.spec_accord.specs.Members.{Party, bodies_in, Signed, signed_in, HasVote, IsParty, IsMoment}
use Rattle.spec_accord.proofs.Reading.{AreReported, signed_voted}
use Rattle.spec_accord.proofs.Reporting.{HasEvent, vote_event, certificate_event}
use Rattle.spec_accord.proofs.Reporting.{mapped_in, header_reported, certificate_reported}

-- a header is told of, and members who are a quorum voted for it, each honest one of them for good
pub record IsBacked (party : Party) (Reported : HeaderBody → Type 0) (body : HeaderBody) : Type 0 where
  pub reported : Reported body
  pub voters : ℕ → Bool
  pub enough : quorum_of party.charter ≤ weight party.charter voters
  pub voted : (member : ℕ) → party.honest member ≡ true → voters member ≡ true → HasVote party member body

-- an event passed as one of its message
pub passed_as : (charter : Charter) (accepts : Accepts) (event : Event) (m : Message) → event.message ≡ m
    → fault_of charter accepts event ≡ None
    → fault_of charter accepts (record { sender = event.sender; message = m }) ≡ None
passed_as charter accepts event m is none =
    subst (λ (x : Message). fault_of charter accepts (record { sender = event.sender; message = x }) ≡ None) is none

-- a vote on a header signs the digest of its certificate
signs : (body : HeaderBody) (member : ℕ) (vote : Vote) → is_vote_on body member vote ≡ true
    → (vote.voter.0 ≡ member) × (vote_signed vote.header.0 vote.round vote.author ≡ certificate_digest body)
signs body member vote on =
    let header = header_digest_of body in
    let same = same_digest vote.header (header_digest body) in
    let parts = and_parts (is_of_slot vote.round vote.author.0 body) ((vote.voter.0 == member) && same) on in
    let slot = slot_is vote.round vote.author.0 body parts.0 in
    let others = and_parts (vote.voter.0 == member) same parts.1 in
    let bytes = (bytes_eq-Decides vote.header.0 header).0 others.1 in
    let of : List ℕ → ℕ → ℕ → Digest = λ h round author. record { 0 = certificate_digest_of h round author } in (
      eqb-true _ _ others.0,
      ap (λ h. of h vote.round vote.author.0) bytes
          ∙ ap (λ round. of header round vote.author.0) (sym slot.0) ∙ ap (of header body.round) (sym slot.1),
    )

-- What a member held at one moment, of which all headers are told of. Its own vote for an own header of a quorum's is one for good.
module _ (party : Party) (signed : ℕ → Digest → Bool) (is : IsParty party signed) (Reported : HeaderBody → Type 0) (all : AreReported party Reported)
    (holder : ℕ) (history : History) (at : IsMoment party signed holder history) (reports : (body : HeaderBody) → Contains (bodies_in history) body → Reported body) where
  -- an honest member's good vote in it is one that it has for good
  vote_stays : (m : Message) → HasEvent history m → (body : HeaderBody) → Reported body → (vote : Signed) → Contains (signed_in m) vote → vote.digest ≡ certificate_digest body
      → party.honest vote.signer.0 ≡ true → is_signed party.charter party.accepts vote.signer vote.digest vote.signature ≡ true → HasVote party vote.signer.0 body
  vote_stays m brought body reported vote inside same by good =
      let inside' = subst (λ (x : Message). Contains (signed_in x) vote) (sym brought.is) inside in
      let gave = at.unforged brought.event brought.inside vote inside' by good in
      signed_voted party signed is Reported all vote.signer.0 by body reported
      (subst (λ (d : Digest). signed vote.signer.0 d ≡ true) same gave)

  -- ---- certificates that came in

  -- a vote in a certificate is good
  abbrev IsGood : Digest → VoteEntry → Type 0
  IsGood digest entry = is_signed party.charter party.accepts entry.voter digest entry.signature ≡ true

  -- whose vote is good has it for good
  entry_stays : (c : Certificate) → HasEvent history (message.Certificate c) → Reported c.header → (entry : VoteEntry) → Contains c.votes entry
      → IsGood (certificate_digest c.header) entry → (member : ℕ) → party.honest member ≡ true → entry.voter.0 ≡ member → HasVote party member c.header
  entry_stays c brought reported entry inside good member by same =
      let digest = certificate_digest c.header in
      let as_signed : VoteEntry → Signed = λ v. record { signer = v.voter; digest = digest; signature = v.signature } in
      subst (λ (k : ℕ). HasVote party k c.header) same
      (vote_stays (message.Certificate c) brought c.header reported (as_signed entry)
      (mapped_in as_signed c.votes entry inside) refl (subst (λ (k : ℕ). party.honest k ≡ true) (sym same) by) good)

  received_backed : (c : Certificate) → Contains (received history) c → IsBacked party Reported c.header
  received_backed c inside =
      let brought = certificate_event history c inside in
      let event = brought.event in
      let m = message.Certificate c in
      let reported : Reported c.header = reports c.header (certificate_reported history c inside) in
      let none = passed_as party.charter party.accepts event m brought.is (at.passed event brought.inside) in
      let taken = All-contains (IsTaken (party.node holder)) history event at.legal.taken brought.inside in
      let within = subst IsMessage brought.is taken.message in
      let good = message_signed party.charter party.accepts event.sender m none in
      let quorums = message_passes party.charter party.accepts event.sender m is.sound within none in
      record {
        reported = reported;
        voters = λ member. list_any (λ (v : VoteEntry). v.voter.0 == member) c.votes;
        enough = quorums.1;
        voted = λ member by voter.
            let found = any_to (λ (v : VoteEntry). v.voter.0 == member) c.votes voter in
            entry_stays c brought reported found.0 found.1
            (All-contains (IsGood (certificate_digest c.header)) c.votes found.0 good found.1)
            member by (eqb-true _ _ found.2);
      }

  -- ---- own certificates

  -- another member whose vote came in has it for good
  other_stays : (body : HeaderBody) → Reported body → (vote : Vote) → Contains (votes history) vote → (member : ℕ) → party.honest member ≡ true → is_vote_on body member vote ≡ true
      → HasVote party member body
  other_stays body reported vote inside member by on =
      let brought = vote_event history vote inside in
      let event = brought.event in
      let m = message.Vote vote in
      let none = passed_as party.charter party.accepts event m brought.is (at.passed event brought.inside) in
      let good = message_signed party.charter party.accepts event.sender m none in
      let says = signs body member vote on in
      let one : Signed = record {
        signer = vote.voter;
        digest = vote_signed vote.header.0 vote.round vote.author;
        signature = vote.signature;
      } in
      subst (λ (k : ℕ). HasVote party k body) says.0
      (vote_stays (message.Vote vote) brought body reported one
      (Contains-first [] one) says.1 (subst (λ (k : ℕ). party.honest k ≡ true) (sym says.0) by) good)

  -- another one whose vote on an own header counts has it for good
  pub counted_stays : (header : Header) → Contains (headers history) header → (member : ℕ) → party.honest member ≡ true → member ≢ holder
      → has_voted (party.node holder) history header.body member ≡ true → HasVote party member header.body
  counted_stays header inside member by differs voted =
      let node = party.node holder in
      elim (cases_Bool (member == node.own.0)) [
        | inl own ↦ absurd (differs (eqb-true _ _ own ∙ is.number holder at.honest))
        | inr other ↦
            let counted : is_some (find (is_vote_on header.body member) (votes history)) ≡ true = rw other at voted in
            elim (given_or_none (find (is_vote_on header.body member) (votes history))) [
              | inl some ↦
                  let found = found_passes (is_vote_on header.body member) (votes history) some.0 some.1 in
                  other_stays header.body (reports header.body (header_reported history header inside)) some.0 found.1 member by found.0
              | inr none ↦ let bad = rw none at counted in absurd cc
            ]
      ]

  -- the holder has an own header for good for which a quorum's votes count
  abbrev pub OwnStays : Type 0
  OwnStays = (header : Header) → Contains (headers history) header → header.body.author.0 ≡ holder
      → quorum_of party.charter ≤ weight party.charter (has_voted (party.node holder) history header.body) → HasVote party holder header.body

  module _ (own_stays : OwnStays) where
    completed_backed : (header : Header) → Contains (headers history) header → (c : Certificate) → completed (party.node holder) history header ≡ Some c → IsBacked party Reported c.header
    completed_backed header inside c made =
        let node = party.node holder in
        let voters = has_voted node history header.body in
        let own = header.body.author.0 == node.own.0 in
        let many = nat_le (quorum node) (weight node.charter voters) in
        elim (cases_Bool (own && many)) [
          | inl are ↦
              let parts = and_parts own many are in
              let enough : quorum_of party.charter ≤ weight party.charter voters =
              subst (λ (c : Charter). quorum_of c ≤ weight c voters) (is.charter holder at.honest) (leb-true _ _ parts.1) in
              let author : header.body.author.0 ≡ holder = eqb-true _ _ parts.0 ∙ is.number holder at.honest in
              let backed : IsBacked party Reported header.body = record {
                reported = reports header.body (header_reported history header inside);
                voters = voters;
                enough = enough;
                voted = λ member by voted. elim (cases_eq member holder) [
                  | inl same ↦ subst (λ (k : ℕ). HasVote party k header.body) (sym same) (own_stays header inside author enough)
                  | inr differs ↦ counted_stays header inside member by differs voted
                ];
              } in
              subst (IsBacked party Reported) (sym (completed-header node history header c made)) backed
          | inr not ↦ let bad = rw not at made in absurd cc
        ]

    -- ---- all certificates

    -- each that it holds is of the genesis or backed
    pub held_backed : (c : Certificate) → Contains (certificates (party.node holder) history) c
        → Contains (map genesis (numbers (size_of (party.node holder)))) c ⊎ IsBacked party Reported c.header
    held_backed c inside =
        let node = party.node holder in
        let own = filter_map (completed node history) (headers history) in
        let first = map genesis (numbers (size_of node)) in
        elim (Contains-append_cases (first ++ received history) own c inside) [
          | inl there ↦ elim (Contains-append_cases first (received history) c there) [
            | inl of ↦ inl of
            | inr came ↦ inr (received_backed c came)
          ]
          | inr made ↦
              let of = Contains-made (completed node history) (headers history) c made in
              inr (completed_backed of.0 of.1 c of.2)
        ]

-- ---- what was settled

-- a member stands at what it has settled
pub settled_moment : (party : Party) (signed : ℕ → Digest → Bool) → IsParty party signed → (holder : ℕ) → party.honest holder ≡ true → IsMoment party signed holder (party.settled holder)
settled_moment party signed is holder honest = record {
  honest = honest;
  legal = is.legal holder honest;
  passed = is.passed holder honest;
  unforged = is.unforged holder honest;
}

-- and has each header there for good
pub settled_stays : (party : Party) (signed : ℕ → Digest → Bool) → IsParty party signed → (holder : ℕ) → party.honest holder ≡ true → (header : Header)
    → Contains (headers (party.settled holder)) header → HasVote party holder header.body
settled_stays party signed is holder honest header inside =
    ap (option_map (λ (h : Header). header_digest h.body)) (one_header (party.node holder) (party.settled holder) (is.legal holder honest) header inside)
