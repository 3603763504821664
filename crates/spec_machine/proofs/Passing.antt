-- What passing the checks says of a message, and when an own certificate passes them.
use Rattle.std.proofs.Common.{◌≡◌, ℕ, zero, suc, ◌<◌, Bool, true, List, [], ◌∷◌, length, Some, None, inl, inr, refl, ap, sym, ◌∙◌, arith}
use Rattle.std.specs.Prelude.{◌==◌, nat_le, sum_by, slice_get}
use Rattle.std.specs.List.{list_all}
use Rattle.std.proofs.lemmas.Bool.{cases_Bool, eqb-true, lt-ltb, ltb-true}
use Rattle.std.proofs.lemmas.Option.{same_Some, none-some}
use Rattle.committee.specs.Charter.{quorum_of}
use Rattle.header.specs.Checks.{Test, test, first_failing, tests_of, message_tests, accepts_all, is_member, is_worker, named_weight}
use Rattle.header.specs.declared.error.CheckError.{CheckError}
use Rattle.header.specs.declared.error.CheckError.TheVariants.{UnknownAuthor, BadSender, TooFewParents, TooManyParents, UnknownWorker}
use Rattle.wire.specs.declared.message.Message.TheVariants as message
use Rattle.spec_model.specs.Admitting.{IsTaken}
use Rattle.spec_model.specs.Nodes.{Node, size_of}
use Rattle.spec_model.specs.Words.{Author, BatchAck, Certificate, BatchView, Event, Header, HeaderBody, Vote}

-- ---- tests

first_holds : (holds : Bool) (otherwise : CheckError) (rest : List Test) → first_failing (record { holds = holds; otherwise = otherwise } ∷ rest) ≡ None → (holds ≡ true) × (first_failing rest ≡ None)
first_holds holds otherwise rest none =
    elim (cases_Bool holds) [
      | inl is ↦ let later = rw is at none in (is, later)
      | inr not ↦ let bad = rw not at none in absurd cc
    ]

-- of what passed each test holds
test_at : (tests : List Test) (place : ℕ) (t : Test) → first_failing tests ≡ None → slice_get tests place ≡ Some t → t.holds ≡ true
test_at [] place t none is = absurd (none-some t is)
test_at (first ∷ rest) zero t none is = ap (λ (other : Test). other.holds) (sym (same_Some first t is)) ∙ (first_holds first.holds first.otherwise rest none).0
test_at (first ∷ rest) (suc place) t none is = test_at rest place t (first_holds first.holds first.otherwise rest none).1 is

abbrev all_tests : Node → Event → List Test
all_tests node event = tests_of node.charter accepts_all event

-- two numbers name one author
pub same_author : (one other : Author) → (one.0 == other.0) ≡ true → one ≡ other
same_author one other same = ap (λ (n : ℕ). record { 0 = n }) (eqb-true one.0 other.0 same)

-- a sender is a member
pub sender_member : (node : Node) (event : Event) → IsTaken node event → event.sender.0 < size_of node
sender_member node event taken = ltb-true _ _ (test_at (all_tests node event) 0 (test (is_member node.charter event.sender) UnknownAuthor) taken.passed refl)

-- ---- batches and acknowledgements

-- a batch is taken from its author alone
pub batch_sender : (node : Node) (sender : Author) (batch : BatchView) → IsTaken node (record { sender = sender; message = message.Batch batch }) → batch.author ≡ sender
batch_sender node sender batch taken =
    let event : Event = record { sender = sender; message = message.Batch batch } in
    same_author batch.author sender (test_at (all_tests node event) 2 (test (batch.author.0 == sender.0) BadSender) taken.passed refl)

-- who acknowledges is a member
pub ack_member : (node : Node) (sender : Author) (ack : BatchAck) → IsTaken node (record { sender = sender; message = message.BatchAck ack }) → ack.author.0 < size_of node
ack_member node sender ack taken =
    let event : Event = record { sender = sender; message = message.BatchAck ack } in
    let by = sender_member node event taken in
    let same = eqb-true _ _ (test_at (all_tests node event) 1 (test (ack.author.0 == sender.0) BadSender) taken.passed refl) in
    omega (arith, by, same)

-- ---- headers

-- what of a header and its certificate passes
pub record PassesBody (node : Node) (body : HeaderBody) : Type 0 where
  pub member : is_member node.charter body.author ≡ true
  pub quorum : nat_le (quorum_of node.charter) (sum_by (λ parent. named_weight node.charter parent.author) body.parents) ≡ true
  pub few : nat_le (length body.parents) (length node.charter.keys) ≡ true
  pub members : list_all (λ parent. is_member node.charter parent.author) body.parents ≡ true
  pub workers : list_all (λ batch. is_worker node.charter batch.worker) body.batches ≡ true

pub header_passes : (node : Node) (sender : Author) (header : Header) → IsTaken node (record { sender = sender; message = message.Header header })
    → (header.body.author ≡ sender) × PassesBody node header.body
header_passes node sender header taken =
    let event : Event = record { sender = sender; message = message.Header header } in
    let tests = all_tests node event in
    let charter = node.charter in
    let body = header.body in (
      same_author body.author sender (test_at tests 2 (test (body.author.0 == sender.0) BadSender) taken.passed refl),
      record {
        member = test_at tests 1 (test (is_member charter body.author) UnknownAuthor) taken.passed refl;
        quorum = test_at tests 3 (test (nat_le (quorum_of charter) (sum_by (λ parent. named_weight charter parent.author) body.parents)) TooFewParents) taken.passed refl;
        few = test_at tests 4 (test (nat_le (length body.parents) (length charter.keys)) TooManyParents) taken.passed refl;
        members = test_at tests 5 (test (list_all (λ parent. is_member charter parent.author) body.parents) UnknownAuthor) taken.passed refl;
        workers = test_at tests 6 (test (list_all (λ batch. is_worker charter batch.worker) body.batches) UnknownWorker) taken.passed refl;
      },
    )

-- a voter is a member
pub vote_member : (node : Node) (sender : Author) (vote : Vote) → IsTaken node (record { sender = sender; message = message.Vote vote }) → vote.voter.0 < size_of node
vote_member node sender vote taken =
    let event : Event = record { sender = sender; message = message.Vote vote } in
    ltb-true _ _ (test_at (all_tests node event) 2 (test (is_member node.charter vote.voter) UnknownAuthor) taken.passed refl)

-- ---- certificates

-- a certificate is by a member, and may come from any
pub certificate_from : (node : Node) (sender other : Author) (certificate : Certificate) → other.0 < size_of node → IsTaken node (record { sender = sender; message = message.Certificate certificate })
    → (certificate.header.author.0 < size_of node) × IsTaken node (record { sender = other; message = message.Certificate certificate })
certificate_from node sender other certificate member taken =
    let event : Event = record { sender = sender; message = message.Certificate certificate } in
    let by : is_member node.charter other ≡ true = lt-ltb _ _ member in
    let rest = (first_holds (is_member node.charter sender) UnknownAuthor (message_tests node.charter accepts_all sender (message.Certificate certificate)) taken.passed).1 in (
      ltb-true _ _ (test_at (all_tests node event) 1 (test (is_member node.charter certificate.header.author) UnknownAuthor) taken.passed refl),
      record { message = taken.message; passed = rw by rest },
    )
