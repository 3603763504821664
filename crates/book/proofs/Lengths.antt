-- How long the order is at which record.
use Rattle.std.proofs.Common.{◌≡◌, ◌≢◌, ◌⊎◌, ℕ, ◌≤◌, ◌<◌, List, [], ◌∷◌, ◌++◌, length, get_or, drop, Bor, inl, inr, true, false, refl, sym, ap, ◌∙◌, arith}
use Rattle.std.specs.Prelude.{All, nat_le, Bool, if◌then◌else◌, Option, Some, None, IsSome, IfSome, ◌↔◌}
use Rattle.std.specs.Option.{option_copied}
use Rattle.std.proofs.lemmas.Option.{none-some, same_Some}
use Rattle.std.proofs.lemmas.Bool.{cases_Bool, leb-true, leb-false, le-leb}
use Rattle.std.proofs.lemmas.List.Elements.{All-head, All-tail}
use Rattle.book.specs.declared.reached.Reached.{Reached}
use Rattle.book.specs.Queue.{length_at}

-- a number is another one, or isn't; it is within another one, or above it
pub cases_le : (a b : ℕ) → (a ≤ b) ⊎ (b < a)
cases_le a b = elim (cases_Bool (nat_le a b)) [ inl le ↦ inl (leb-true a b le) | inr not ↦ inr (leb-false a b not) ]

pub cases_eq : (a b : ℕ) → (a ≡ b) ⊎ (a ≢ b)
cases_eq a b =
    elim (cases_le a b) [
      | inr more ↦ inr (λ e. absurd (omega (arith, e, more)))
      | inl le ↦ elim (cases_le b a) [ inl also ↦ inl (omega (arith, le, also)) | inr less ↦ inr (λ e. absurd (omega (arith, e, less))) ]
    ]

-- the tickets are no greater than this number
abbrev pub UpTo : ℕ → List Reached → Type 0
UpTo limit reached = All (λ r. r.ticket ≤ limit) reached

-- one more, whose ticket is greater, says nothing of lower numbers
pub not_there : (count first : ℕ) (reached : List Reached) (last : Reached) → count < last.ticket → length_at count first (reached ++ last ∷ []) ≡ length_at count first reached
not_there count first [] last low = elim (cases_Bool (nat_le last.ticket count)) [ inl le ↦ (let under = leb-true last.ticket count le in absurd (omega (arith, under, low))) | inr not ↦ rw not refl ]
not_there count first (r ∷ reached) last low =
    elim (cases_Bool (nat_le r.ticket count)) [
      | inl le ↦ rw le (not_there count r.length reached last low)
      | inr not ↦ rw not refl
    ]

-- one more with a ticket that is no lower than the others says how long the order is there
pub there : (count first : ℕ) (reached : List Reached) (last : Reached) → UpTo count reached → last.ticket ≤ count → length_at count first (reached ++ last ∷ []) ≡ last.length
there count first [] last upto low = elim (cases_Bool (nat_le last.ticket count)) [ inl le ↦ rw le refl | inr not ↦ (let over = leb-false last.ticket count not in absurd (omega (arith, low, over))) ]
there count first (r ∷ reached) last upto low =
    let here = All-head (λ r. r.ticket ≤ count) r reached upto in
    elim (cases_Bool (nat_le r.ticket count)) [
      | inl le ↦ rw le (there count r.length reached last (All-tail (λ r. r.ticket ≤ count) r reached upto) low)
      | inr not ↦ (let over = leb-false r.ticket count not in absurd (omega (arith, here, over)))
    ]

-- after all tickets the length stays
pub stays : (count later first : ℕ) (reached : List Reached) → UpTo count reached → count ≤ later → length_at later first reached ≡ length_at count first reached
stays count later first [] upto le = refl
stays count later first (r ∷ reached) upto le =
    let here = All-head (λ r. r.ticket ≤ count) r reached upto in
    let there : nat_le r.ticket count ≡ true = le-leb r.ticket count here in
    let also : nat_le r.ticket later ≡ true = le-leb r.ticket later (omega (arith, here, le)) in
    rw (there, also) (stays count later r.length reached (All-tail (λ r. r.ticket ≤ count) r reached upto) le)

-- what stands first and counts is left away
pub left_away : (later before : ℕ) (items rest : List Reached) (next : Reached) → items ≡ next ∷ rest → next.ticket ≤ later → length_at later before items ≡ length_at later next.length rest
left_away later before items rest next is low =
    ap (length_at later before) is ∙ ap (λ (b : Bool). if b then length_at later next.length rest else before) (le-leb next.ticket later low)

-- what stands first and doesn't count yet ends it
pub ends_at : (count before : ℕ) (items rest : List Reached) (next : Reached) → items ≡ next ∷ rest → count < next.ticket → length_at count before items ≡ before
ends_at count before items rest next is high =
    ap (length_at count before) is ∙ ap (λ (b : Bool). if b then length_at count next.length rest else before) (not_low (cases_Bool (nat_le next.ticket count)))
  where
    not_low : (nat_le next.ticket count ≡ true) ⊎ (nat_le next.ticket count ≡ false) → nat_le next.ticket count ≡ false
    not_low (inl le) = (let under = leb-true next.ticket count le in absurd (omega (arith, under, high)))
    not_low (inr not) = not

-- what was read of the first one is what stands first
head_is : (items : List Reached) (first : Reached) → 0 < length items → first ≡ get_or items 0 first → items ≡ first ∷ drop 1 items
head_is [] first some is = absurd (omega (arith, some))
head_is (r ∷ rest) first some is = ap (λ q. q ∷ rest) (sym is)

pub first_stands : (items rest : List Reached) (front : Option (Bor Reached)) (next : Reached) (len : ℕ) → len ≡ length items
    → (IsSome front ↔ (0 < len)) → IfSome front (λ x. x.now ≡ get_or items 0 x.now)
    → option_copied front ≡ Some next → rest ≡ drop 1 items → items ≡ next ∷ rest
first_stands items rest None next len long some is copied after = absurd (none-some next copied)
first_stands items rest (Some x) next len long some is copied after =
    let there : 0 < len = some.0 refl in
    let same : x.now ≡ next = same_Some x.now next copied in
    let back : drop 1 items ≡ rest = sym after in
    head_is items x.now (omega (arith, there, long)) is ∙ (λ i. same i ∷ back i)

-- which says what was said before
pub left_to : (count later before : ℕ) (items rest : List Reached) (next : Reached) → items ≡ next ∷ rest → next.ticket ≤ count → count ≤ later
    → length_at later next.length rest ≡ length_at later before items
left_to count later before items rest next is low le = sym (left_away later before items rest next is (omega (arith, low, le)))

pub said_here : (count before : ℕ) (items rest : List Reached) (next : Reached) (said : ℕ → ℕ) → items ≡ next ∷ rest → count < next.ticket
    → ((later : ℕ) → count ≤ later → length_at later before items ≡ said later) → before ≡ said count
said_here count before items rest next said is high all = sym (ends_at count before items rest next is high) ∙ all count (omega arith)
