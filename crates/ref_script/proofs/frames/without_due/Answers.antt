use Rattle.std.proofs.Common.{◌≡◌, rules, ap, ◌∙◌, arith}
use Rattle.std.specs.Prelude.{filter, nat_lt}
use Rattle.std.proofs.lemmas.Fn.{filter_same}
use Rattle.ref_machine.specs.Tables.{state_of}
use Rattle.spec_world.specs.World.{Waiting}
use Rattle.ref_script.specs.Desks.{desk_of}
use Rattle.ref_script.proofs.Steps.{left_is}
use Rattle.ref_script.proofs.frames.without_due.Goals as goal

pub returns : goal.returns
returns c =
    let desk = c.args.desk in
    let kept : c.retain.new.self.items ≡ filter (λ (w : Waiting). nat_lt desk.settled w.ticket) desk.waiting.items =
    filter_same _ (λ (w : Waiting). nat_lt desk.settled w.ticket) _ (λ x b f' k. search rules) _ _ c.retain.ensures.filtered in
    ap (λ l. record (desk_of desk) { waiting = l })
    (kept ∙ left_is (state_of desk.base) desk.accepted.items desk.settled desk.waiting.items desk.waiting.items (omega (arith, desk.within, desk.accepted.ok.0)))
