use Rattle.std.specs.Prelude.{slice_get, string_bytes}
use Rattle.node_run.proofs.Runs.{run_as}
use Rattle.node_run.proofs.running.run_named.Goals as goal

pub returns-clause-named : goal.returns-clause-named
returns-clause-named g c =
    let opened = c.in-Ok.opened in
    let member = c.in-Ok.ensures.member in
    let ran = c.run_member in
    run_as _ _ g.W.Write.contents (slice_get c.args.args.now 1) string_bytes opened.0 opened.1 _ c.args.writer ran.result member.0 member.1 c.in-Ok.ensures.two ran.ensures.runs ran.ensures.gives
