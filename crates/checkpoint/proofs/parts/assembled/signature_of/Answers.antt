use Rattle.std.proofs.Common.{sym, ◌∙◌}
use Rattle.std.proofs.lemmas.Bool.{eqb-true}
use Rattle.checkpoint.proofs.Counted.{in_place}
use Rattle.checkpoint.proofs.parts.assembled.signature_of.Goals as goal

pub returns-then-eq : goal.returns-then-eq
returns-then-eq c =
    in_place c.args.assembly.now.places c.loop-place.place c.args.voter.0 c.in-Some.entry (sym c.nth.ensures ∙ c.in-Some.is)
    (eqb-true c.in-Some.entry.voter.0 c.args.voter.0 (sym c.eq.ensures ∙ c.if-eq.true))
