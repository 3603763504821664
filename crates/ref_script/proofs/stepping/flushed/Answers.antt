use Rattle.std.proofs.Common.{length, take, drop, refl, ap, ◌∙◌, arith}
use Rattle.std.proofs.lemmas.List.{take_rest}
use Rattle.ref_machine.specs.Tables.{state_of}
use Rattle.spec_world.specs.Text.{group_of}
use Rattle.ref_script.proofs.Steps.{flushed_is}
use Rattle.ref_script.proofs.stepping.flushed.Goals as goal

pub returns : goal.returns
returns c =
    let desk = c.args.desk in
    let group = c.group_of-more.result.now in
    let pending = take_rest c.deref.result.now desk.settled ∙ ap (drop desk.settled) c.deref.ensures.value in
    flushed_is (state_of desk.base) desk.accepted.items desk.settled (length group) desk.waiting.items group (omega (arith, desk.within, desk.accepted.ok.0))
    (c.group_of-more.ensures.value ∙ ap group_of pending) (c.group_of-more.ensures.beginning ∙ ap (take (length group)) pending) refl
