-- The certificate that a new event adds is a member's, and names a parent.
use Rattle.std.proofs.Common.{◌≡◌, ◌<◌, ◌≤◌, true, List, [], ◌∷◌, ◌++◌, length, Some, None, inl, inr, refl, ap, sym, ◌∙◌, subst, arith}
use Rattle.std.specs.Prelude.{nat_le, option_and_then, sum_by, ◌==◌}
use Rattle.std.proofs.lemmas.Bool.{cases_Bool, leb-true}
use Rattle.std.proofs.lemmas.Option.{same_Some, none-some}
use Rattle.wire.specs.declared.message.Message.TheVariants as message
use Rattle.committee.specs.Charter.{Charter, quorum_of}
use Rattle.header.specs.Checks.{Test, test, first_failing, accepts_all, is_member, named_weight, is_signed, header_signed, body_tests}
use Rattle.header.specs.declared.error.CheckError.TheVariants.{BadSignature}
use Rattle.spec_model.specs.Admitting.{IsTaken}
use Rattle.spec_model.specs.Nodes.{Node, IsNode, size_of}
use Rattle.spec_model.specs.States.{State}
use Rattle.spec_model.specs.Words.{Author, Certificate, Event, Header, HeaderBody, Message, ParentReference, Vote}
use Rattle.spec_laws.proofs.Lists.{given_or_none}
use Rattle.spec_laws.proofs.OrderGrows.{sound_certificate}
use Rattle.spec_laws.proofs.Votes.{slot_is}
use Rattle.spec_machine.specs.Machine.{certificate_of, counted_with}
use Rattle.spec_machine.specs.Sound.{IsSound}
use Rattle.spec_model.specs.Holdings.{certificate_by}
use Rattle.sequencer.specs.Sequence.{SequencerView, ComesTo}
use Rattle.sequencer.specs.Laws.{CertificatesAreNew}
use Rattle.sequencer.proofs.Coming.{made_of, new_in}

-- parents that are a quorum are some
pub some_named : (node : Node) (parents : List ParentReference) → quorum_of node.charter ≤ sum_by (λ p. named_weight node.charter p.author) parents → 0 < length parents
some_named node [] enough = let none : sum_by (λ (p : ParentReference). named_weight node.charter p.author) [] ≡ 0 = refl in absurd (omega (arith, enough, none))
some_named node (p ∷ parents) enough = omega arith

body_names : (node : Node) (body : HeaderBody) (rest : List Test) → is_member node.charter body.author ≡ true → first_failing (body_tests node.charter body ++ rest) ≡ None → 0 < length body.parents
body_names node body rest member none =
    elim (cases_Bool (nat_le (quorum_of node.charter) (sum_by (λ p. named_weight node.charter p.author) body.parents))) [
      | inr few ↦ let bad = rw few at none in absurd cc
      | inl quorum ↦ some_named node body.parents (leb-true _ _ quorum)
    ]

header_names : (node : Node) (sender : Author) (header : Header) → IsTaken node (record { sender = sender; message = message.Header header }) → 0 < length header.body.parents
header_names node sender header taken =
    let none = taken.passed in
    elim (cases_Bool (is_member node.charter sender)) [
      | inr foreign ↦ let bad = rw foreign at none in absurd cc
      | inl by ↦ elim (cases_Bool (is_member node.charter header.body.author)) [
        | inr foreign ↦ let bad = rw (by, foreign) at none in absurd cc
        | inl member ↦ elim (cases_Bool (header.body.author.0 == sender.0)) [
          | inr other ↦ let bad = rw (by, member, other) at none in absurd cc
          | inl same ↦
              let none' = rw (by, member, same) at none in
              body_names node header.body (test (is_signed node.charter accepts_all header.body.author (header_signed header.body) header.signature) BadSignature ∷ []) member none'
        ]
      ]
    ]

-- ---- its author

completed_member : (node : Node) (state : State) (vote : Vote) (certificate : Certificate) → IsNode node → IsSound node state → certificate_of node state (message.Vote vote) ≡ Some certificate
    → certificate.header.author.0 < size_of node
completed_member node state vote certificate node_is sound is =
    let counted = counted_with node state (message.Vote vote) vote.round in
    elim (given_or_none (state.own_headers vote.round)) [
      | inr none ↦ absurd (none-some certificate (sym (ap (option_and_then (certificate_by node counted)) none) ∙ is))
      | inl found ↦
          let own = sound.votes.headers vote.round found.0 found.1 in
          let body = made_of node counted found.0 certificate (sym (ap (option_and_then (certificate_by node counted)) found.1) ∙ is) in
          let place = slot_is vote.round node.own.0 found.0.body own.place in
          subst (λ (b : HeaderBody). b.author.0 < size_of node) body (subst (λ a. a < size_of node) (sym place.1) node_is.member)
    ]

member_by : (node : Node) (state : State) (sender : Author) (m : Message) (certificate : Certificate) → IsNode node → IsSound node state → IsTaken node (record { sender = sender; message = m })
    → certificate_of node state m ≡ Some certificate → certificate.header.author.0 < size_of node
member_by node state sender (message.Certificate new) certificate node_is sound taken is =
    let same : new ≡ certificate = same_Some new certificate is in
    subst (λ (c : Certificate). c.header.author.0 < size_of node) same (sound_certificate node sender new taken).member
member_by node state sender (message.Vote vote) certificate node_is sound taken is = completed_member node state vote certificate node_is sound is
member_by node state sender (message.Batch batch) certificate node_is sound taken is = absurd (none-some certificate is)
member_by node state sender (message.BatchAck ack) certificate node_is sound taken is = absurd (none-some certificate is)
member_by node state sender (message.Header header) certificate node_is sound taken is = absurd (none-some certificate is)
member_by node state sender (message.Coin coin) certificate node_is sound taken is = absurd (none-some certificate is)

-- ---- its parents

completed_names : (node : Node) (state : State) (vote : Vote) (certificate : Certificate) → IsSound node state
    → certificate_of node state (message.Vote vote) ≡ Some certificate → 0 < length certificate.header.parents
completed_names node state vote certificate sound is =
    let counted = counted_with node state (message.Vote vote) vote.round in
    elim (given_or_none (state.own_headers vote.round)) [
      | inr none ↦ absurd (none-some certificate (sym (ap (option_and_then (certificate_by node counted)) none) ∙ is))
      | inl found ↦
          let own = sound.votes.headers vote.round found.0 found.1 in
          let body = made_of node counted found.0 certificate (sym (ap (option_and_then (certificate_by node counted)) found.1) ∙ is) in
          subst (λ (b : HeaderBody). 0 < length b.parents) body (header_names node node.own found.0 own.passed)
    ]

names_by : (node : Node) (state : State) (sender : Author) (m : Message) (certificate : Certificate) → IsSound node state → IsTaken node (record { sender = sender; message = m })
    → certificate_of node state m ≡ Some certificate → 0 < length certificate.header.parents
names_by node state sender (message.Certificate new) certificate sound taken is =
    let same : new ≡ certificate = same_Some new certificate is in
    subst (λ (c : Certificate). 0 < length c.header.parents) same (some_named node new.header.parents (sound_certificate node sender new taken).quorum)
names_by node state sender (message.Vote vote) certificate sound taken is = completed_names node state vote certificate sound is
names_by node state sender (message.Batch batch) certificate sound taken is = absurd (none-some certificate is)
names_by node state sender (message.BatchAck ack) certificate sound taken is = absurd (none-some certificate is)
names_by node state sender (message.Header header) certificate sound taken is = absurd (none-some certificate is)
names_by node state sender (message.Coin coin) certificate sound taken is = absurd (none-some certificate is)

pub names_some : (node : Node) (state : State) (event : Event) (sequence : SequencerView) (certificate : Certificate)
    → ComesTo node state event sequence → certificate_of node state event.message ≡ Some certificate
    → 0 < length certificate.header.parents
names_some node state event sequence certificate comes is = names_by node state event.sender event.message certificate comes.comes.sound comes.comes.taken is

pub certificates_are_new : CertificatesAreNew
certificates_are_new node state event sequence certificate comes is = record {
  new = new_in node state event sequence certificate comes is;
  member = subst (λ (x : Charter). certificate.header.author.0 < length x.keys) (sym comes.at.charter)
      (member_by node state event.sender event.message certificate comes.comes.node_is comes.comes.sound comes.comes.taken is);
  named = names_some node state event sequence certificate comes is;
}
