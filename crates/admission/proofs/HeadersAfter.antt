-- The table after an event: what is forgotten there is what the state doesn't keep.
use Rattle.std.proofs.Common.{◌≡◌, ℕ, Bool, true, false, Option, Some, None, refl, ap, sym, ◌∙◌, arith}
use Rattle.std.specs.Prelude.{◌==◌, ◌&&◌, not, nat_le, option_map, option_and_then, if◌then◌else◌}
use Rattle.std.specs.Option.{option_or}
use Rattle.std.proofs.lemmas.Grind.{common_steps}
use Rattle.wire.specs.declared.message.Message.TheVariants as message
use Rattle.certify.specs.Assembled.{AssemblyView}
use Rattle.spec_laws.proofs.SlotsGrow.{or_none}
use Rattle.spec_model.specs.Admitting.{is_own}
use Rattle.spec_model.specs.Giving.{collected}
use Rattle.spec_model.specs.Holdings.{is_low, own_vote}
use Rattle.spec_model.specs.Nodes.{Node}
use Rattle.spec_model.specs.States.{State, floor_in}
use Rattle.spec_model.specs.Words.{Event, Header, Message, Vote}
use Rattle.spec_machine.specs.Machine.{header_at, vote_at, grown, after}
use Rattle.admission.specs.Headers.{AssembliesView, assembly_at, vote_in, IsForgotten, IsAt}
use Rattle.spec_machine.specs.Laws.{FloorsAgree, Comes}
use Rattle.admission.specs.HeaderLaws.{IsTableAfter, is_other}

-- a round is low exactly where it is no higher than the floor
pub low_is : (floor round : ℕ) → is_low floor round ≡ nat_le round floor
low_is floor round = grind (arith, common_steps)

unless : {X Y : Type 0} (look : Option X → Option Y) (b : Bool) (o : Option X) → look None ≡ None → look (if b then None else o) ≡ (if b then None else look o)
unless look true o none = none
unless look false o none = refl

-- a table at a state is at what is kept of it once the rounds up to its floor are forgotten
forgotten_at : (node : Node) (state : State) (headers later : AssembliesView) (floor : ℕ) → floor_in node state ≡ floor → IsAt node state headers → IsForgotten headers later floor
    → IsAt node (collected node state) later
forgotten_at node state headers later floor floors at less =
    let low : (round : ℕ) → nat_le round floor ≡ is_low (floor_in node state) round = λ round. sym (low_is (floor_in node state) round ∙ ap (nat_le round) floors) in
    record {
      charter = less.charter ∙ at.charter;
      own = less.own ∙ at.own;
      held = λ round.
          let look : Option AssemblyView → Option Header = option_map (λ a. a.header) in
          ap look (less.rounds round) ∙ unless look (nat_le round floor) (assembly_at headers round) refl
          ∙ ap (λ o. if nat_le round floor then None else o) (at.held round)
          ∙ ap (λ b. if b then None else state.own_headers round) (low round);
      counted = λ round voter.
          let look : Option AssemblyView → Option Vote = option_and_then (λ a. vote_in a voter) in
          ap look (less.rounds round) ∙ unless look (nat_le round floor) (assembly_at headers round) refl
          ∙ ap (λ o. if nat_le round floor then None else o) (at.counted round voter)
          ∙ ap (λ b. if b then None else state.counted round voter) (low round);
    }

-- so one at a state with all that an event adds is that after the event
pub table_after : FloorsAgree → (node : Node) (state : State) (event : Event) (headers : AssembliesView) → Comes node state event → IsAt node (grown node state event.message) headers
    → IsTableAfter node state event headers
table_after agree node state event headers step at later less =
    forgotten_at node (grown node state event.message) headers later (floor_in node (after node state event)) (agree node state event step) at less

-- ---- other messages

foreign : (node : Node) (header : Header) (round : ℕ) → not (is_own node header.body.author) ≡ true → ((header.body.round == round) && (header.body.author.0 == node.own.0)) ≡ false
foreign node header round other = grind (arith, other, common_steps)

no_header : (node : Node) (m : Message) (round : ℕ) → is_other node m ≡ true → header_at m round node.own.0 ≡ None
no_header node (message.Header header) round other = ap (λ b. if b then Some header else None) (foreign node header round other)
no_header node (message.Vote vote) round other = refl
no_header node (message.Batch batch) round other = refl
no_header node (message.BatchAck ack) round other = refl
no_header node (message.Certificate certificate) round other = refl
no_header node (message.Coin coin) round other = refl

no_vote : (node : Node) (m : Message) (round voter : ℕ) → is_other node m ≡ true → vote_at node m round voter ≡ None
no_vote node (message.Header header) round voter other = ap (λ b. if b && (voter == node.own.0) then Some (own_vote node header.body) else None) (foreign node header round other)
no_vote node (message.Vote vote) round voter other = absurd cc
no_vote node (message.Batch batch) round voter other = refl
no_vote node (message.BatchAck ack) round voter other = refl
no_vote node (message.Certificate certificate) round voter other = refl
no_vote node (message.Coin coin) round voter other = refl

-- where a message is neither a vote nor an own header a table is at the state with it as it was before
pub others_at : (node : Node) (state : State) (m : Message) (headers : AssembliesView) → is_other node m ≡ true → IsAt node state headers → IsAt node (grown node state m) headers
others_at node state m headers other at = record {
  charter = at.charter;
  own = at.own;
  held = λ round. at.held round ∙ sym (ap (option_or (state.own_headers round)) (no_header node m round other) ∙ or_none (state.own_headers round));
  counted = λ round voter. at.counted round voter ∙ sym (ap (option_or (state.counted round voter)) (no_vote node m round voter other) ∙ or_none (state.counted round voter));
}
