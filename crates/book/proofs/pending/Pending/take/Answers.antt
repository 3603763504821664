use Rattle.std.proofs.Common.{ap, length, sym, ◌∙◌, arith}
use Rattle.book.proofs.Packs.{none_packed}
use Rattle.book.proofs.pending.Pending.take.Goals as goal

pub returns-in-Ok-clause-none : goal.returns-in-Ok-clause-none
returns-in-Ok-clause-none c = (
  λ no. absurd cc,
  λ none. absurd (omega (arith, ap length (sym c.in-Some.ensures.items ∙ none_packed c.self.inside.drafts.items c.self.invariant (c.self.view_is ∙ none)))),
)
