-- Entries that a loop reads one after the other.
use Rattle.std.proofs.Common.{◌≡◌, ℕ, suc, ◌-◌, ◌+◌, ◌≤◌, ◌<◌, List, [], ◌∷◌, ◌++◌, Result, Ok, refl, sym, ◌∙◌, arith}
use Rattle.wire.specs.declared.error.WireError.{WireError}
use Rattle.wire.specs.declared.error.WireError.TheVariants.{Memory, Short, Trailing, BadTag, NotCanonical, TooMany, BadRound}
use Rattle.wire.specs.Reading.{◌>>=◌, Read, Faults, more_at}

-- one more was read
pub goes_on : {X : Type 0} (entry_at : List X → List ℕ → Read X) (count i : ℕ) (before : List X) (bytes : List ℕ) (entry : X) (rest : List ℕ) (total : Read (List X)) → i < count
    → entry_at before bytes ≡ Ok (entry, rest)
    → more_at entry_at (count - i) before bytes ≡ total → more_at entry_at (count - (i + 1)) (before ++ entry ∷ []) rest ≡ total
unfolding more_at
goes_on entry_at count i before bytes entry rest total lt h so_far =
    let k : count - i ≡ suc (count - (i + 1)) = omega arith in
    let one : more_at entry_at (count - i) before bytes ≡ more_at entry_at (count - (i + 1)) (before ++ entry ∷ []) rest = rw (k, h) refl in
    sym one ∙ so_far

passes_on : {X Y : Type 0} (e : WireError) (read : Result X WireError) (f : X → Result Y WireError) → Faults e read → Faults e (read >>= f)
passes_on Memory read f h = tt
passes_on Short read f h = rw h refl
passes_on Trailing read f h = rw h refl
passes_on BadTag read f h = rw h refl
passes_on NotCanonical read f h = rw h refl
passes_on TooMany read f h = rw h refl
passes_on BadRound read f h = rw h refl

-- one could not be read
pub ends : {X : Type 0} (entry_at : List X → List ℕ → Read X) (e : WireError) (count i : ℕ) (before : List X) (bytes : List ℕ) (total : Read (List X)) → i < count → Faults e (entry_at before bytes)
    → more_at entry_at (count - i) before bytes ≡ total → Faults e total
unfolding more_at
ends entry_at e count i before bytes total lt h so_far =
    let k : count - i ≡ suc (count - (i + 1)) = omega arith in
    let one : Faults e (more_at entry_at (suc (count - (i + 1))) before bytes) = passes_on e (entry_at before bytes) (λ entry. more_at entry_at (count - (i + 1)) (before ++ entry.0 ∷ []) entry.1) h in
    rw (← so_far, k) one

-- all were read
pub is_done : {X : Type 0} (entry_at : List X → List ℕ → Read X) (count i : ℕ) (before : List X) (bytes : List ℕ) (total : Read (List X)) → count ≤ i
    → more_at entry_at (count - i) before bytes ≡ total → total ≡ Ok (before, bytes)
unfolding more_at
is_done entry_at count i before bytes total le so_far =
    let k : count - i ≡ 0 = omega arith in
    let one : more_at entry_at (count - i) before bytes ≡ Ok (before, bytes) = rw k refl in
    sym so_far ∙ one
