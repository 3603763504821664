use Rattle.std.proofs.Common.{arith}
use Rattle.certify.specs.Assembled.{AssemblyView}
use Rattle.certify.proofs.Places.{kept-with, weight-with, counted_member, counted_few, counted_many}
use Rattle.certify.proofs.assembly.Assembly.count.Goals as goal

pub invariant_of-self : goal.invariant_of-self
invariant_of-self c =
    let inside = c.self.inside in
    let old : AssemblyView = record { charter = inside.committee.now; header = inside.header; places = inside.places.items; complete = inside.complete } in
    let vote = c.args.vote in
    let complete = c.args.complete in
    let counted = rw (← c.self.view_is) at c.requires in
    let member = counted_member old vote complete counted in
    let weighs = weight-with old vote inside.digest inside.voters c.insert.new.self c.self.invariant member c.insert.ensures in
    kept-with old vote inside.digest inside.voters c.insert.new.self complete c.self.invariant member c.insert.ensures
    (λ few. omega (arith, weighs, counted_few old vote complete counted few))
    (λ many. omega (arith, weighs, counted_many old vote complete counted many))
