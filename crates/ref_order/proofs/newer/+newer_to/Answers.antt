use Rattle.std.proofs.Common.{◌≡◌, ℕ, zero, suc, ◌≤◌, [], ◌∷◌, refl}
use Rattle.std.proofs.lemmas.Bool.{le-leb}
use Rattle.spec_model.specs.Ordering.{Ledger, newer_to}
use Rattle.spec_model.specs.Words.{Certificate}
use Rattle.ref_order.proofs.newer.+newer_to.Goals as goal
use Rattle.ref_order.specs.Ledgers.{ledger_view}

-- from the waves up to the base comes no leader
none_newer : (ledger : Ledger) (base wave : ℕ) (last : Certificate) → wave ≤ base → newer_to ledger base wave last ≡ last ∷ []
none_newer ledger base zero last within = refl
none_newer ledger base (suc wave) last within = rw (le-leb _ _ within) refl

pub returns-then-wave-base : goal.returns-then-wave-base
returns-then-wave-base t c =
    rw (none_newer (ledger_view c.args.ledger.now) c.args.base c.args.wave c.args.last.now c.if-wave-base.true) c.alone-then-wave-base.ensures
