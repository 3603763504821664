-- The floor after a new event, and which rounds are low by it.
use Rattle.std.proofs.Common.{arith, refl}
use Rattle.std.proofs.lemmas.Grind.{common_steps}
use Rattle.spec_laws.specs.Laws.{HoldsFrom}
use Rattle.spec_model.specs.States.{floor_in}
use Rattle.spec_machine.specs.Laws.{FloorsAgree, LowIsToTheFloor}
use Rattle.spec_machine.specs.Machine.{certificate_of, grown, after}
use Rattle.spec_machine.proofs.Enough.{held_goes_on, held_is_enough_after, held_is_enough_now}
use Rattle.spec_machine.proofs.Staying.{sound_stays}

pub floors_agree : FloorsAgree
floors_agree node state event comes =
    let later = grown node state event.message in
    let afterwards = after node state event in
    let now : HoldsFrom 0 state.slots state.slots = record { placed = comes.sound.certificates.placed; same = λ round author above. refl } in
    let all : HoldsFrom 0 later.slots later.slots = (held_goes_on 0 state.slots state.slots now).grows (certificate_of node state event.message) in
    let enough = held_is_enough_after node state event 0 later.slots comes.node_is comes.sound comes.taken comes.new (omega arith) all in
    let sound = sound_stays node state event comes.node_is comes.sound comes.taken comes.new in
    (held_is_enough_now node afterwards (floor_in node afterwards) later.slots comes.node_is sound (omega arith) enough.afterwards).same_floor

pub low_is_to_the_floor : LowIsToTheFloor
low_is_to_the_floor floor round = grind (arith, common_steps)
