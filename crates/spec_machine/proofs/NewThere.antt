-- What holds at a state of an event that is new there.
use Rattle.std.proofs.Common.{◌≡◌, ℕ, ◌<◌, true, false, length, Some, None, inl, inr, arith}
use Rattle.std.specs.Prelude.{is_some, nat_le}
use Rattle.std.specs.List.{list_all}
use Rattle.std.proofs.lemmas.Grind.{common_steps}
use Rattle.spec_model.specs.Admitting.{is_new, is_own, batch_answer, ack_answer, header_answer, vote_answer, certificate_answer, may_name}
use Rattle.spec_model.specs.Holdings.{batch_digest, is_low, all_held}
use Rattle.spec_model.specs.Nodes.{Node}
use Rattle.spec_model.specs.Slots.{same_digest, header_digest}
use Rattle.spec_model.specs.States.{State, batch_in, has_own_batch, floor_in}
use Rattle.spec_model.specs.Words.{BatchAck, Certificate, BatchView, Header, Vote}
use Rattle.spec_laws.proofs.Lists.{given_or_none}

-- ---- batches and acknowledgements

-- no batch of the digest is held, and there is room
pub record IsNewBatch (node : Node) (now : State) (batch : BatchView) : Type 0 where
  pub free : batch_in now (batch_digest batch) ≡ None
  pub room : length now.batches < node.charter.batches

held_batch : (node : Node) (now : State) (batch held : BatchView) → batch_in now (batch_digest batch) ≡ Some held → is_new (batch_answer node now batch) ≡ true → ⊥
held_batch node now batch held is h = grind (arith, h, is, common_steps)

with_room : (node : Node) (now : State) (batch : BatchView) → batch_in now (batch_digest batch) ≡ None → is_new (batch_answer node now batch) ≡ true
    → nat_le node.charter.batches (length now.batches) ≡ false
with_room node now batch none h = grind (arith, h, none, common_steps)

more_room : (most held : ℕ) → nat_le most held ≡ false → held < most
more_room most held room = grind (arith, room)

pub new_batch : (node : Node) (now : State) (batch : BatchView) → is_new (batch_answer node now batch) ≡ true → IsNewBatch node now batch
new_batch node now batch h =
    elim (given_or_none (batch_in now (batch_digest batch))) [
      | inl found ↦ absurd (held_batch node now batch found.0 found.1 h)
      | inr none ↦ record { free = none; room = more_room _ _ (with_room node now batch none h) }
    ]

-- an acknowledgement is of an own batch, by another member
pub record IsNewAck (node : Node) (now : State) (ack : BatchAck) : Type 0 where
  pub own : has_own_batch node now ack.batch ≡ true
  pub foreign : is_own node ack.author ≡ false

ack_own : (node : Node) (now : State) (ack : BatchAck) → is_new (ack_answer node now ack) ≡ true → has_own_batch node now ack.batch ≡ true
ack_own node now ack h = grind (arith, h, common_steps)

ack_foreign : (node : Node) (now : State) (ack : BatchAck) → is_new (ack_answer node now ack) ≡ true → is_own node ack.author ≡ false
ack_foreign node now ack h = grind (arith, h, common_steps)

pub new_ack : (node : Node) (now : State) (ack : BatchAck) → is_new (ack_answer node now ack) ≡ true → IsNewAck node now ack
new_ack node now ack h = record { own = ack_own node now ack h; foreign = ack_foreign node now ack h }

-- ---- headers

-- it isn't low, its parents are held, and it may name what it names; the place of an own one is free
pub record IsNewHeader (node : Node) (now : State) (header : Header) : Type 0 where
  pub high : is_low (floor_in node now) header.body.round ≡ false
  pub held : all_held now.slots (floor_in node now) header.body ≡ true
  pub named : list_all (may_name node now header) header.body.batches ≡ true
  pub free : is_own node header.body.author ≡ true → now.own_headers header.body.round ≡ None

header_high : (node : Node) (now : State) (header : Header) → is_new (header_answer node now header) ≡ true → is_low (floor_in node now) header.body.round ≡ false
header_high node now header h = grind (arith, h, common_steps)

header_held : (node : Node) (now : State) (header : Header) → is_new (header_answer node now header) ≡ true → all_held now.slots (floor_in node now) header.body ≡ true
header_held node now header h = grind (arith, h, common_steps)

header_named : (node : Node) (now : State) (header : Header) → is_new (header_answer node now header) ≡ true → list_all (may_name node now header) header.body.batches ≡ true
header_named node now header h = grind (arith, h, common_steps)

header_free : (node : Node) (now : State) (header : Header) → is_own node header.body.author ≡ true → is_new (header_answer node now header) ≡ true → now.own_headers header.body.round ≡ None
header_free node now header own h = grind (arith, h, own, common_steps)

pub new_header : (node : Node) (now : State) (header : Header) → is_new (header_answer node now header) ≡ true → IsNewHeader node now header
new_header node now header h =
    record { high = header_high node now header h; held = header_held node now header h; named = header_named node now header h; free = λ own. header_free node now header own h }

-- ---- votes

-- it is on the own header of its round, whose slot is free, and the first of its voter
pub record IsNewVote (node : Node) (now : State) (vote : Vote) : Type 0 where
  pub own : is_own node vote.author ≡ true
  pub high : is_low (floor_in node now) vote.round ≡ false
  pub header : Header
  pub held : now.own_headers vote.round ≡ Some header
  pub same : same_digest (header_digest header.body) vote.header ≡ true
  pub free : now.slots vote.round node.own.0 ≡ None
  pub uncounted : is_some (now.counted vote.round vote.voter.0) ≡ false

vote_own : (node : Node) (now later : State) (vote : Vote) → is_new (vote_answer node now later vote) ≡ true → is_own node vote.author ≡ true
vote_own node now later vote h = grind (arith, h, common_steps)

vote_high : (node : Node) (now later : State) (vote : Vote) → is_new (vote_answer node now later vote) ≡ true → is_low (floor_in node now) vote.round ≡ false
vote_high node now later vote h = grind (arith, h, common_steps)

vote_headed : (node : Node) (now later : State) (vote : Vote) → now.own_headers vote.round ≡ None → is_new (vote_answer node now later vote) ≡ true → ⊥
vote_headed node now later vote none h = grind (arith, h, none, common_steps)

vote_same : (node : Node) (now later : State) (vote : Vote) (header : Header) → now.own_headers vote.round ≡ Some header
    → is_new (vote_answer node now later vote) ≡ true → same_digest (header_digest header.body) vote.header ≡ true
vote_same node now later vote header is h = grind (arith, h, is, common_steps)

vote_free : (node : Node) (now later : State) (vote : Vote) (header : Header) → now.own_headers vote.round ≡ Some header
    → is_new (vote_answer node now later vote) ≡ true → now.slots vote.round node.own.0 ≡ None
vote_free node now later vote header is h = grind (arith, h, is, common_steps)

vote_uncounted : (node : Node) (now later : State) (vote : Vote) (header : Header) → now.own_headers vote.round ≡ Some header
    → is_new (vote_answer node now later vote) ≡ true → is_some (now.counted vote.round vote.voter.0) ≡ false
vote_uncounted node now later vote header is h = grind (arith, h, is, common_steps)

pub new_vote : (node : Node) (now later : State) (vote : Vote) → is_new (vote_answer node now later vote) ≡ true → IsNewVote node now vote
new_vote node now later vote h =
    elim (given_or_none (now.own_headers vote.round)) [
      | inl found ↦ record {
        own = vote_own node now later vote h;
        high = vote_high node now later vote h;
        header = found.0;
        held = found.1;
        same = vote_same node now later vote found.0 found.1 h;
        free = vote_free node now later vote found.0 found.1 h;
        uncounted = vote_uncounted node now later vote found.0 found.1 h;
      }
      | inr none ↦ absurd (vote_headed node now later vote none h)
    ]

-- ---- certificates

-- its slot is free, it isn't low, and its parents are held
pub record IsNewCertificate (node : Node) (now : State) (certificate : Certificate) : Type 0 where
  pub free : now.slots certificate.header.round certificate.header.author.0 ≡ None
  pub high : is_low (floor_in node now) certificate.header.round ≡ false
  pub held : all_held now.slots (floor_in node now) certificate.header ≡ true

certificate_free : (node : Node) (now later : State) (certificate : Certificate) → is_new (certificate_answer node now later certificate) ≡ true
    → now.slots certificate.header.round certificate.header.author.0 ≡ None
certificate_free node now later certificate h = grind (arith, h, common_steps)

certificate_high : (node : Node) (now later : State) (certificate : Certificate) → is_new (certificate_answer node now later certificate) ≡ true
    → is_low (floor_in node now) certificate.header.round ≡ false
certificate_high node now later certificate h = grind (arith, h, common_steps)

certificate_held : (node : Node) (now later : State) (certificate : Certificate) → is_new (certificate_answer node now later certificate) ≡ true
    → all_held now.slots (floor_in node now) certificate.header ≡ true
certificate_held node now later certificate h = grind (arith, h, common_steps)

pub new_certificate : (node : Node) (now later : State) (certificate : Certificate) → is_new (certificate_answer node now later certificate) ≡ true → IsNewCertificate node now certificate
new_certificate node now later certificate h =
    record { free = certificate_free node now later certificate h; high = certificate_high node now later certificate h; held = certificate_held node now later certificate h }
