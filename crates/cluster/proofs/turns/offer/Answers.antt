use Rattle.std.proofs.Common.{◌≡◌, None, subst}
use Rattle.committee.specs.Charter.{Charter}
use Rattle.header.specs.Checks.{fault_of}
use Rattle.opening.proofs.Reporting.{ok_weaker}
use Rattle.spec_model.specs.Words.{Event}
use Rattle.std.specs.Prelude.{IfOk}
use Rattle.desk.specs.AtWorld.{IsAt}
use Rattle.spec_world.specs.World.{World}
use Rattle.validator.specs.Setting.{node_of}
use Rattle.cluster.specs.Answers.{TakesIn, HasMoved}
use Rattle.cluster.proofs.turns.offer.Goals as goal

pub returns-in-Ok-clause-ok : goal.returns-in-Ok-clause-ok
returns-in-Ok-clause-ok g c =
    let node = node_of g.S.Sign.scheme c.args.desk.now.book.validator.setting in
    let accepts = g.V.Verify.accepts c.args.verifier.now in
    let passed = subst (λ (k : Charter). fault_of k accepts c.in-Ok.event ≡ None) c.committee.ensures c.in-Ok.ensures.passed in
    subst (λ (e : Event). IfOk c.hand_in.result (λ applied. (world : World) → IsAt node g.D.Disk.device world c.args.desk.now
    → HasMoved node g.D.Disk.device (TakesIn node accepts e applied) world c.args.desk.now c.hand_in.new.desk)) c.in-Ok.ensures.checked
    (ok_weaker c.hand_in.result _ _ (λ applied moves world at. moves accepts world passed at) c.hand_in.ensures.ok)
