use Rattle.std.proofs.Common.{ℕ, Bool, ◌∙◌, ap}
use Rattle.std.proofs.Math.Path.{fun_ext}
use Rattle.std.specs.Prelude.{nat_le}
use Rattle.committee.specs.Charter.{weight, support_of}
use Rattle.tusk.proofs.Supporting.{supports_in}
use Rattle.tusk.proofs.support.is_supported.Goals as goal

pub returns : goal.returns
returns c held coins is =
    let graph = c.args.dag.now in
    c.is_enough.ensures
    ∙ ap (λ (f : ℕ → Bool). nat_le (support_of graph.charter) (weight graph.charter f))
    (fun_ext (λ m. c.supporters.ensures m ∙ supports_in graph c.limits_hold.ensures coins c.args.leader.0 c.args.leader.1.0 held is m))
