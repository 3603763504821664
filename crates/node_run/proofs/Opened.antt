-- The own number among the arguments.
use Rattle.std.proofs.Common.{◌≡◌, ◌≤◌, ℕ, List, [], ◌∷◌, length, get_or, String, subst, ap, ◌∙◌, arith}
use Rattle.std.specs.Prelude.{IfSome, slice_get, string_bytes}
use Rattle.std.specs.declared.alloc.Global.{Global}

-- what holds of the bytes of the second argument
pub of_second : (P : List ℕ → Type 0) (args : List (String Global)) (own : String Global) (bytes : List ℕ) → 3 ≤ length args → own ≡ get_or args 1 own → bytes ≡ string_bytes own → P bytes
    → IfSome (slice_get args 1) (λ it. P (string_bytes it))
of_second P [] own bytes three is same holds = absurd (omega arith)
of_second P (file ∷ []) own bytes three is same holds = absurd (omega arith)
of_second P (file ∷ second ∷ rest) own bytes three is same holds = subst P (same ∙ ap (λ (it : String Global). string_bytes it) is) holds
