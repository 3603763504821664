-- Which messages lack a parent.
use Rattle.std.proofs.Common.{◌≡◌, ℕ, Bool, true, false, List, [], Option, Some, None, refl, ap, sym, ◌∙◌}
use Rattle.std.specs.Prelude.{not, ◌==◌, ◌||◌, nat_le, length, is_some, slice_get, ◌-◌, ◌+◌, ◌*◌, Result, Ok, Err, if◌then◌else◌}
use Rattle.std.specs.Str.{bytes_eq}
use Rattle.wire.specs.Batches.{batch_body}
use Rattle.wire.specs.declared.message.Message.TheVariants as message
use Rattle.spec_model.specs.Admitting.{when◌gives◌else◌, is_own, held_batch_answer, batch_outputs, held_answer, vote_outputs, order_outputs}
use Rattle.spec_model.specs.Holdings.{batch_digest, is_low, is_full}
use Rattle.spec_model.specs.Nodes.{Node}
use Rattle.spec_model.specs.Slots.{same_digest, header_digest}
use Rattle.spec_model.specs.States.{State, batch_in, has_own_batch, floor_in}
use Rattle.spec_model.specs.Words.{Author, Certificate, Coin, BatchView, Event, Header, Message, Output, Vote}
use Rattle.header.specs.declared.admission.Admission.TheVariants.{New, Known, Refused}
use Rattle.header.specs.declared.refusal.Refusal.{Refusal}
use Rattle.header.specs.declared.refusal.Refusal.TheVariants as refusal
use Rattle.spec_machine.specs.Machine.{answered, grown, is_missing_parents, is_ready}
use Rattle.admission.specs.Decisions.{reported, lacks_parents}
use Rattle.admission.specs.Standing.{has_parents, OthersAreReady}
use Rattle.admission.specs.declared.tables.answer.Answer.{Answer}
use Rattle.admission.specs.declared.tables.answer.Answer.TheVariants as answer

-- what is told lacks a parent where the decision does
reported_missing : (new known : List Output) (decision : Result Answer Refusal) → is_missing_parents (reported new known decision) ≡ lacks_parents decision
reported_missing new known (Ok answer.New) = refl
reported_missing new known (Ok answer.Known) = refl
reported_missing new known (Err refusal.Memory) = refl
reported_missing new known (Err refusal.Down) = refl
reported_missing new known (Err refusal.TooOld) = refl
reported_missing new known (Err refusal.MissingParents) = refl
reported_missing new known (Err refusal.MissingBatch) = refl
reported_missing new known (Err refusal.Equivocation) = refl
reported_missing new known (Err refusal.CertConflict) = refl
reported_missing new known (Err refusal.DigestClash) = refl
reported_missing new known (Err refusal.AlreadyProposed) = refl
reported_missing new known (Err refusal.NotOurs) = refl
reported_missing new known (Err refusal.CoinOutOfTurn) = refl
reported_missing new known (Err refusal.CoinEarly) = refl
reported_missing new known (Err refusal.CoinConflict) = refl
reported_missing new known (Err refusal.StoreFull) = refl

pub ready_is_reported : (node : Node) (state : State) (event : Event) (new known : List Output) (decision : Result Answer Refusal) → answered node state event ≡ reported new known decision
    → not (lacks_parents decision) ≡ is_ready node state event
ready_is_reported node state event new known decision is =
    ap not (sym (reported_missing new known decision)) ∙ ap (λ a. not (is_missing_parents a)) (sym is)

-- ---- messages without parents

same_batch : (new known : List Output) (same : Bool) → is_missing_parents (if same then Known known else Refused refusal.DigestClash) ≡ false
same_batch new known true = refl
same_batch new known false = refl

batch_case : (node : Node) (batch : BatchView) (held : Option BatchView) (full : Bool)
    → is_missing_parents (when held gives (λ h. held_batch_answer node h batch) else if full then Refused refusal.StoreFull else New (batch_outputs node batch)) ≡ false
batch_case node batch (Some h) full = same_batch (batch_outputs node h) (batch_outputs node h) (bytes_eq (batch_body h) (batch_body batch))
batch_case node batch None true = refl
batch_case node batch None false = refl

ack_case : (own acked : Bool) → is_missing_parents (if not own then Refused refusal.NotOurs else if acked then Known [] else New []) ≡ false
ack_case false acked = refl
ack_case true true = refl
ack_case true false = refl

held_case : (outs : List Output) (same : Bool) → is_missing_parents (if same then Known outs else Refused refusal.CertConflict) ≡ false
held_case outs true = refl
held_case outs false = refl

on_case : (vote : Vote) (new : List Output) (on : Bool) (slot : Option Certificate) (voted : Bool)
    → is_missing_parents (if not on then Refused refusal.NotOurs else when slot gives (λ held. held_answer held vote) else if voted then Known [] else New new) ≡ false
on_case vote new false slot voted = refl
on_case vote new true (Some c) voted = held_case _ (same_digest (header_digest c.header) vote.header)
on_case vote new true None true = refl
on_case vote new true None false = refl

vote_case : (vote : Vote) (new : List Output) (own low : Bool) (held : Option Header) (slot : Option Certificate) (voted : Bool)
    → is_missing_parents (if not own then Refused refusal.NotOurs else if low then Refused refusal.TooOld
    else when held gives (λ header. if not (same_digest (header_digest header.body) vote.header) then Refused refusal.NotOurs
    else when slot gives (λ c. held_answer c vote) else if voted then Known [] else New new)
    else Refused refusal.NotOurs) ≡ false
vote_case vote new false low held slot voted = refl
vote_case vote new true true held slot voted = refl
vote_case vote new true false None slot voted = refl
vote_case vote new true false (Some header) slot voted = on_case vote new (same_digest (header_digest header.body) vote.header) slot voted

taken_case : (same : Bool) → is_missing_parents (if same then Known [] else Refused refusal.CoinConflict) ≡ false
taken_case true = refl
taken_case false = refl

coin_case : (coin : Coin) (new : List Output) (own : Bool) (taken : Option ℕ) (turn full : Bool)
    → is_missing_parents (if not own then Refused refusal.NotOurs else when taken gives (λ value. if value == coin.value then Known [] else Refused refusal.CoinConflict)
    else if not turn then Refused refusal.CoinOutOfTurn else if not full then Refused refusal.CoinEarly else New new) ≡ false
coin_case coin new false taken turn full = refl
coin_case coin new true (Some value) turn full = taken_case (value == coin.value)
coin_case coin new true None false full = refl
coin_case coin new true None true false = refl
coin_case coin new true None true true = refl

by_message : (node : Node) (state : State) (sender : Author) (m : Message) → has_parents m ≡ false → is_ready node state (record { sender = sender; message = m }) ≡ true
by_message node state sender (message.Batch batch) is =
    ap not (batch_case node batch (batch_in state (batch_digest batch)) (nat_le node.charter.batches (length state.batches)))
by_message node state sender (message.BatchAck ack) is =
    ap not (ack_case (has_own_batch node state ack.batch) (is_own node ack.author || state.acked ack.batch ack.author.0))
by_message node state sender (message.Vote vote) is =
    ap not (vote_case vote (vote_outputs node state (grown node state (message.Vote vote)) vote.round) (is_own node vote.author) (is_low (floor_in node state) vote.round)
    (state.own_headers vote.round) (state.slots vote.round node.own.0) (is_some (state.counted vote.round vote.voter.0)))
by_message node state sender (message.Coin coin) is =
    ap not (coin_case coin (order_outputs state (grown node state (message.Coin coin))) (is_own node sender) (slice_get state.coins (coin.wave - 1)) (coin.wave == length state.coins + 1)
    (is_full node state.slots (2 * coin.wave + 1)))
by_message node state sender (message.Header header) is = absurd cc
by_message node state sender (message.Certificate certificate) is = absurd cc

pub others_are_ready : OthersAreReady
others_are_ready node state event is = by_message node state event.sender event.message is
