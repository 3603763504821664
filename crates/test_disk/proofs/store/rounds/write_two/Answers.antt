use Rattle.std.proofs.Common.{◌∷◌, [], List, ℕ, sym, subst}
use Rattle.book.specs.InFlight.{AreInFlight}
use Rattle.test_disk.proofs.Settling.{node_in, taken_is, way_here}
use Rattle.test_disk.proofs.store.rounds.write_two.Goals as goal

pub write_second-requires-clause-way : goal.write_second-requires-clause-way
write_second-requires-clause-way c =
    let way : AreInFlight (node_in c.args.own.now.validator.setting) c.take.new.self (c.in-Ok-Some.group ∷ []) =
    taken_is (node_in c.args.own.now.validator.setting) c.args.own.now c.take.new.self c.in-Ok-Some.field-0 c.in-Ok-Some.group
    c.in-Ok-Some.field-0-is c.in-Ok-Some.ensures.way [] (c.is_settled.ensures.way c.if-not-is_settled.false) in
    subst (λ (group : List (List ℕ)). AreInFlight (node_in c.take.new.self.validator.setting) c.take.new.self (group ∷ [])) (sym c.in-Ok.ensures.synced)
    (way_here c.args.own.now.validator.setting c.take.new.self (c.in-Ok-Some.group ∷ []) c.in-Ok-Some.ensures.setting way)
