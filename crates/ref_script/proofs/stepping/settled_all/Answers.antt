use Rattle.std.proofs.Common.{ap, arith}
use Rattle.std.proofs.lemmas.List.{take_all}
use Rattle.ref_script.specs.Desks.{desk_of}
use Rattle.ref_script.proofs.stepping.settled_all.Goals as goal

pub returns : goal.returns
returns c =
    let desk = c.args.desk in
    ap (λ l. record (desk_of desk) { settled = l }) (take_all c.len.result desk.accepted.items (omega (arith, c.len.ensures, desk.accepted.ok.0)))
