use Rattle.std.proofs.Common.{inl, sym, subst}
use Rattle.book.specs.Book.{BookView, run_on}
use Rattle.validator.specs.Setting.{node_of}
use Rattle.validator.specs.Standing.{ValidatorView}
use Rattle.book.specs.InFlight.{StandsSomewhere}
use Rattle.book.proofs.own.OwnBook.new.Goals as goal

pub invariant_of-result : goal.invariant_of-result
invariant_of-result g c =
    let book : BookView g.row.S.Denot = c.new.result in (
      subst (λ (v : ValidatorView g.row.S.Denot). StandsSomewhere (node_of g.S.Sign.scheme v.setting) book) (sym c.new.ensures.validator)
          (run_on c.limits_hold.ensures.sound.0, c.new.ensures.stands c.limits_hold.ensures.sound.0 c.limits_hold.ensures.sound.1),
      inl c.new.ensures.free,
    )
