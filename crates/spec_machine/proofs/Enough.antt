-- Slots that hold a sound state's certificates from a round on, which is no higher than its floor, say the same as the state.
use Rattle.std.proofs.Common.{List, arith, ◌++◌, map, refl, ap, sym, ◌∙◌}
use Rattle.std.specs.Prelude.{None, if◌then◌else◌}
use Rattle.std.specs.Option.{option_or, option_to_list}
use Rattle.std.proofs.lemmas.List.{length-append}
use Rattle.spec_model.specs.Histories.{as_coin}
use Rattle.spec_model.specs.Holdings.{ledger_of}
use Rattle.spec_model.specs.Nodes.{Node}
use Rattle.spec_model.specs.Ordering.{last_wave, newer, segments}
use Rattle.spec_model.specs.Slots.{certificate_digest, slots_of}
use Rattle.spec_model.specs.States.{State, ledger_in}
use Rattle.spec_model.specs.Words.{Certificate, Digest, Event}
use Rattle.spec_laws.proofs.FromFloor.{Stays, say_the_same}
use Rattle.spec_laws.proofs.Growing.{leader_kept, directly_committed_kept}
use Rattle.spec_laws.proofs.Lengthening.{last_is}
use Rattle.spec_laws.proofs.OrderGrows.{members_some}
use Rattle.spec_machine.specs.Laws.{HeldGoesOn, HeldIsEnoughNow, HeldIsEnoughAfter}
use Rattle.spec_machine.specs.Machine.{last_leader, grown}
use Rattle.spec_machine.proofs.AfterStep.{step_next, is_after_step}
use Rattle.spec_machine.proofs.Collected.{IsNext, agree, kept_was, not_below, placed_with}

pub held_goes_on : HeldGoesOn
held_goes_on low held all from = record {
  grows = λ certificate. record {
    placed = placed_with held certificate from.placed;
    same = λ round author above. ap (λ o. option_or o (slots_of (option_to_list certificate) round author)) (from.same round author above);
  };
  drops = λ high above. record {
    placed = λ round author c is. from.placed round author c (kept_was high held round author c is);
    same = λ round author higher. ap (λ b. if b then None else held round author) (not_below high round higher) ∙ from.same round author (omega (arith, above, higher));
  };
}

pub held_is_enough_now : HeldIsEnoughNow
held_is_enough_now node state low held node_is sound within from =
    say_the_same node low (ledger_in node state) state.coins held state.slots (members_some node node_is) sound.certificates.placed within from
    (record { charter = refl; leaders = λ wave c is. is; committed = λ wave is. is; longer = omega arith })

stays_after : (node : Node) (state : State) (event : Event) → IsNext node state event.message
    → Stays node (ledger_in node state) (grown node state event.message).coins (grown node state event.message).slots
stays_after node state event next =
    let more = option_to_list (as_coin event.message) in
    let size = length-append state.coins more in
    record {
      charter = refl;
      leaders = leader_kept (ledger_in node state) (grown node state event.message).slots next.extends more;
      committed = directly_committed_kept (ledger_in node state) (grown node state event.message).slots next.extends more;
      longer = omega (arith, size);
    }

pub held_is_enough_after : HeldIsEnoughAfter
held_is_enough_after node state event low held node_is sound taken new within from =
    let m = event.message in
    let before = ledger_in node state in
    let later = grown node state m in
    let now = ledger_of node held later.coins in
    let base = last_wave before in
    let digests : List Certificate → List Digest = map (λ c. certificate_digest c.header) in
    let next = step_next node state event.sender m (record { node_is = node_is; sound = sound; taken = taken; new = new }) in
    let placed = next.extends.placed_after in
    let same = say_the_same node low before later.coins held later.slots next.members placed within from (stays_after node state event next) in
    let back = is_after_step node state m next in
    let floors = back.floors in
    let rises = back.rises in
    record {
      same = same;
      order = ap (λ l. state.order ++ digests l) (sym (same.same_segments (last_leader before)))
          ∙ ap (λ previous. state.order ++ digests (segments now previous (newer now base))) (sym (last_is before) ∙ sym same.same_last);
      afterwards = record {
        placed = from.placed;
        same = λ round author above.
            from.same round author (omega (arith, within, rises, above)) ∙ (agree node later placed).same round author (omega (arith, floors, above));
      };
    }
