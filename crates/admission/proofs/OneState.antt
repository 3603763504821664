-- Tables have what one sound state has, and of no other.
use Rattle.std.proofs.Common.{◌≡◌, ℕ, ◌≤◌, arith, Option, inl, inr, ap, sym, ◌∙◌}
use Rattle.std.proofs.Math.Path.{fun_ext}
use Rattle.std.specs.Prelude.{option_map}
use Rattle.std.proofs.lemmas.Bool.{cases_eq}
use Rattle.spec_model.specs.Nodes.{Node}
use Rattle.spec_model.specs.Slots.{header_digest}
use Rattle.spec_model.specs.States.{State}
use Rattle.spec_model.specs.Words.{Author, Digest, Header}
use Rattle.spec_machine.specs.Sound.{IsSound}
use Rattle.spec_machine.proofs.Grown.{same_state}
use Rattle.admission.specs.Standing.{AreAt, OneState}
use Rattle.admission.specs.declared.tables.Tables.{Tables}

-- a state, to be as another one
record Has (node : Node) (tables : Tables) (state : State) : Type 0 where
  sound : IsSound node state
  at : AreAt node state tables

same_slots : (node : Node) (tables : Tables) (one other : State) → Has node tables one → Has node tables other → one.slots ≡ other.slots
same_slots node tables one other has also = sym has.at.sequence.slots ∙ also.at.sequence.slots

-- an own header's round has its digest for a vote, and the book has the votes for the others
same_vote : (node : Node) (tables : Tables) (one other : State) → Has node tables one → Has node tables other → (round author : ℕ)
    → one.votes round author ≡ other.votes round author
same_vote node tables one other has also round author =
    let digest : Option Header → Option Digest = option_map (λ header. header_digest header.body) in
    elim (cases_eq author node.own.0) [
      | inl own ↦
          ap (one.votes round) own ∙ has.sound.votes.own round
          ∙ ap digest (sym (has.at.headers.held round) ∙ also.at.headers.held round)
          ∙ sym (ap (other.votes round) own ∙ also.sound.votes.own round)
      | inr peer ↦
          let by : Author = record { 0 = author } in
          sym (has.at.votes.others by round peer) ∙ also.at.votes.others by round peer
    ]

-- a slot of the greatest round holds a certificate, so none is greater
not_above : (node : Node) (tables : Tables) (one other : State) → Has node tables one → Has node tables other → one.highest ≤ other.highest
not_above node tables one other has also =
    let reached = has.sound.certificates.reached in
    let same = same_slots node tables one other has also in
    also.sound.certificates.highest one.highest reached.0 reached.1
    (sym (ap (λ slots. slots one.highest reached.0) same) ∙ reached.2)

same_highest : (node : Node) (tables : Tables) (one other : State) → Has node tables one → Has node tables other → one.highest ≡ other.highest
same_highest node tables one other has also =
    let up = not_above node tables one other has also in
    let down = not_above node tables other one also has in
    omega (arith, up, down)

pub one_state : OneState
one_state node tables one other sound at sound' at' =
    let has : Has node tables one = record { sound = sound; at = at } in
    let also : Has node tables other = record { sound = sound'; at = at' } in
    same_state one other
    (sym at.batches.batches ∙ at'.batches.batches)
    (fun_ext (λ digest. fun_ext (λ member. sym (at.batches.acked digest member) ∙ at'.batches.acked digest member)))
    (fun_ext (λ digest. sym (at.batches.named digest) ∙ at'.batches.named digest))
    (fun_ext (λ round. fun_ext (λ author. same_vote node tables one other has also round author)))
    (fun_ext (λ round. sym (at.headers.held round) ∙ at'.headers.held round))
    (fun_ext (λ round. fun_ext (λ voter. sym (at.headers.counted round voter) ∙ at'.headers.counted round voter)))
    (same_slots node tables one other has also)
    (same_highest node tables one other has also)
    (sym at.sequence.coins ∙ at'.sequence.coins)
    (sym at.sequence.order ∙ at'.sequence.order)
