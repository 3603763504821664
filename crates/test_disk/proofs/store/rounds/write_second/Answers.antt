use Rattle.std.proofs.Common.{◌∷◌, [], List, ℕ, sym, subst}
use Rattle.book.specs.InFlight.{AreInFlight}
use Rattle.test_disk.proofs.Settling.{node_in, taken_is, way_here}
use Rattle.test_disk.proofs.store.rounds.write_second.Goals as goal

pub settle_two-requires : goal.settle_two-requires
settle_two-requires c =
    let way : AreInFlight (node_in c.args.own.now.validator.setting) c.take.new.self (c.args.first ∷ c.in-Ok-Some.group ∷ []) =
    taken_is (node_in c.args.own.now.validator.setting) c.args.own.now c.take.new.self c.in-Ok-Some.field-0 c.in-Ok-Some.group
    c.in-Ok-Some.field-0-is c.in-Ok-Some.ensures.way (c.args.first ∷ []) c.requires.way in
    subst (λ (group : List (List ℕ)). AreInFlight (node_in c.take.new.self.validator.setting) c.take.new.self (c.args.first ∷ group ∷ [])) (sym c.in-Ok.ensures.synced)
    (way_here c.args.own.now.validator.setting c.take.new.self (c.args.first ∷ c.in-Ok-Some.group ∷ []) c.in-Ok-Some.ensures.setting way)
