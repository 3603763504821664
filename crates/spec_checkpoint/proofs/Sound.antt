-- A checkpoint without a fault is a sound state.
use Rattle.std.proofs.Common.{◌≡◌, ℕ, true, false, List, [], ◌∷◌, length, refl, sym, ◌∙◌, arith}
use Rattle.std.specs.Prelude.{◌↔◌, ◌==◌, not, Option, Some, None, is_some, if◌then◌else◌}
use Rattle.spec_model.specs.Holdings.{ledger_of}
use Rattle.spec_model.specs.Ordering.{top}
use Rattle.spec_model.specs.Words.{Digest}
use Rattle.spec_checkpoint.specs.Laws.{NoFaultIsSound}
use Rattle.spec_checkpoint.specs.Meaning.{listed}
use Rattle.spec_checkpoint.proofs.Batches.{batches_sound}
use Rattle.spec_checkpoint.proofs.Certificates.{certificates_sound}
use Rattle.spec_checkpoint.proofs.Floors.{same_top}
use Rattle.spec_checkpoint.proofs.Tests.{all_sound}
use Rattle.spec_checkpoint.proofs.Votes.{votes_sound}

-- an order is empty exactly where no wave is committed
empty_where : (order : List Digest) (committed : Option ℕ) → (if length order == 0 then not (is_some committed) else is_some committed) ≡ true → (order ≡ []) ↔ (committed ≡ None)
empty_where [] None is = (λ _. refl, λ _. refl)
empty_where [] (Some wave) is = absurd cc
empty_where (first ∷ order) None is = absurd (let some : (length (first ∷ order) == 0) ≡ false = grind (arith) in let bad = rw some at is in cc)
empty_where (first ∷ order) (Some wave) is = (λ none. absurd cc, λ none. absurd cc)

pub no_fault_is_sound : NoFaultIsSound
no_fault_is_sound node checkpoint sound canonical none =
    let all = all_sound node checkpoint none in
    let whole = empty_where checkpoint.order (top (ledger_of node (listed checkpoint) checkpoint.coins)) all.whole in
    let top_is = same_top node checkpoint in
    record {
      batches = batches_sound node checkpoint canonical.batches all.batches;
      votes = votes_sound node checkpoint sound canonical.votes canonical.headers canonical.certificates all.votes all.headers;
      certificates = certificates_sound node checkpoint sound canonical.certificates all.certificates;
      coins = canonical.coins;
      ordered = canonical.order;
      order = (λ empty. top_is ∙ whole.0 empty, λ no_top. whole.1 (sym top_is ∙ no_top));
    }
