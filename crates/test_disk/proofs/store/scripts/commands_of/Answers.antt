use Rattle.std.proofs.Common.{subst, sym}
use Rattle.std.specs.Prelude.{All, IfSome}
use Rattle.std.proofs.lemmas.List.Elements.{All-push}
use Rattle.recovery.specs.Script.{Passes, CarriesOut}
use Rattle.test_disk.proofs.store.scripts.commands_of.Goals as goal

pub loop-line-preserved : goal.loop-line-preserved
loop-line-preserved c =
    let charter = c.args.config.now.charter in
    let commands = c.loop-line.commands.items in
    let next = c.in-Some.command in
    let passes = subst (λ found. IfSome found (Passes charter)) c.in-Some.is c.in_ok-command.ensures.passed in
    let on_disks = subst (λ found. IfSome found (CarriesOut c.args.two)) c.in-Some.is c.in_ok-command.ensures.on_disks in
    record {
      passed = subst (All (Passes charter)) (sym c.in_ok-push-in-Some.ensures.items) (All-push (Passes charter) commands next c.loop-line.invariant.passed passes);
      on_disks = subst (All (CarriesOut c.args.two)) (sym c.in_ok-push-in-Some.ensures.items) (All-push (CarriesOut c.args.two) commands next c.loop-line.invariant.on_disks on_disks);
    }
