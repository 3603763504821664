use Rattle.std.proofs.Common.{◌∙◌, ℕ, Bool, false, length, Option, inl, inr, ap, sym}
use Rattle.std.specs.Option.{option_map_or}
use Rattle.committee.specs.Charter.{Charter}
use Rattle.spec_model.specs.Slots.{Slots, reaches}
use Rattle.spec_model.specs.Words.{Certificate}
use Rattle.spec_laws.proofs.Growing.{is_in}
use Rattle.spec_laws.proofs.Lists.{given_or_none}
use Rattle.dag.specs.Graph.{size_in, slots_in}
use Rattle.dag.proofs.Answering.{is_new}
use Rattle.dag.proofs.Reaching.{IsMore, stays, old_reaches}
use Rattle.dag.proofs.Unnamed.{unnamed_high}
use Rattle.dag.proofs.facts.reach_stays.Goals as goal

pub returns : goal.returns
returns c before after certificate graph member new with round author below other some =
    let n = size_in before in
    let fresh = is_new before certificate new in
    let more : IsMore n before.floor (slots_in before) (slots_in after) certificate = record {
      placed = graph.placed;
      members = graph.of_members;
      closed = graph.held;
      grown = with.slots;
      free = fresh.free;
      member = member;
      unnamed = unnamed_high before certificate graph fresh.high fresh.free;
      held = fresh.held;
    } in
    let over : ℕ → Slots → Option Certificate → Bool = λ m s starts. option_map_or (λ start. option_map_or (reaches m s start) (s below other) false) starts false in
    elim (given_or_none (slots_in before round author)) [
      | inr none ↦ let bad = rw none at some in absurd cc
      | inl start ↦
          let held = is_in (slots_in before) round author start.0 graph.placed start.1 in
          let also = stays n before.floor (slots_in before) (slots_in after) certificate more round author start.0 start.1 in
          ap (λ (charter : Charter). over (length charter.keys) (slots_in after) (slots_in after round author)) with.charter ∙ ap (over n (slots_in after)) also
          ∙ old_reaches n before.floor (slots_in before) (slots_in after) certificate more start.0 held below other
          ∙ sym (ap (over n (slots_in before)) start.1)
    ]
