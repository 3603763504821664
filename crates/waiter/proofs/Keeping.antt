-- What the map says of those that wait.
use Rattle.std.proofs.Common.{◌≡◌, ℕ, zero, suc, Bool, true, false, cond, List, [], ◌∷◌, ◌++◌, Option, Some, None, refl, sym, ap, subst, ◌∙◌, arith, is_some, take, drop, slice_get, length, ◌≤◌}
use Rattle.std.specs.Prelude.{remove}
use Rattle.std.specs.Fn.{Mut, CalledAt}
use Rattle.std.specs.List.{AllByRecursion}
use Rattle.std.specs.Map.{lookup, values_of}
use Rattle.std.specs.Str.{bytes_eq}
use Rattle.std.proofs.lemmas.Slice.Eq.{bytes_eq-Decides}
use Rattle.wire.specs.Events.{Event}
use Rattle.wire.specs.declared.keys.Digest.{Digest}
use Rattle.header.specs.Digested.{certificate_digest_in}
use Rattle.waiter.specs.Keyed.{IsUnderItsDigest}
use Rattle.waiter.specs.Waiting.{Waits, AnswersNo}
use denote.Ref.{Bor}

-- each event stands under its digest, one after the other
abbrev pub Keyed : List (Digest × Event) → Type 0
Keyed entries = AllByRecursion IsUnderItsDigest entries

-- one that waits still does after another
after : (first : Event) (rest : List Event) (event : Event) → Waits rest event → Waits (first ∷ rest) event
after first rest event (k, x, within, at, same) = (suc k, x, omega arith, at, same)

-- the entry under the digest is the first, or waits among the others
found_at : (digest : Digest) (event : Event) (e : Digest × Event) (rest : List Event) (b : Bool) → certificate_digest_in event.message ≡ Some digest → certificate_digest_in e.1.message ≡ Some e.0
    → bytes_eq digest.0 e.0.0 ≡ b → (b ≡ false → Waits rest event) → Waits (e.1 ∷ rest) event
found_at digest event e rest true is under equal later =
    let bytes : digest.0 ≡ e.0.0 = (bytes_eq-Decides digest.0 e.0.0).0 equal in
    let one : digest ≡ e.0 = ap (λ (l : List ℕ). record { 0 = l }) bytes in
    (0, e.1, omega arith, refl, under ∙ ap Some (sym one) ∙ sym is)
found_at digest event e rest false is under equal later = after e.1 rest event (later refl)

-- an entry under the digest waits
pub found : (digest : Digest) (event : Event) → certificate_digest_in event.message ≡ Some digest → (entries : List (Digest × Event)) → Keyed entries
    → is_some (lookup (λ (k : Digest). bytes_eq digest.0 k.0) entries) ≡ true → Waits (values_of entries) event
found digest event is [] keyed there = absurd cc
found digest event is (e ∷ rest) keyed there =
    found_at digest event e (values_of rest) (bytes_eq digest.0 e.0.0) is keyed.0 refl (λ unequal. found digest event is rest keyed.1 (rw unequal at there))

-- neither the entry at the front is under the digest, nor one of the others
absent_at : (digest : Digest) (event : Event) (e : Digest × Event) (rest : List Event) (b : Bool) → certificate_digest_in event.message ≡ Some digest → certificate_digest_in e.1.message ≡ Some e.0
    → bytes_eq digest.0 e.0.0 ≡ b → (b ≡ true → ⊥) → (Waits rest event → ⊥) → Waits (e.1 ∷ rest) event → ⊥
absent_at digest event e rest true is under equal apart later waits = apart refl
absent_at digest event e rest false is under equal apart later (zero, x, within, at, same) =
    let one : Some e.0 ≡ Some digest = sym under ∙ ap (λ (v : Event). certificate_digest_in v.message) at ∙ same ∙ is in
    let bytes : digest.0 ≡ e.0.0 = cc in
    let yes_equal : bytes_eq digest.0 e.0.0 ≡ true = (bytes_eq-Decides digest.0 e.0.0).1 bytes in
    cc
absent_at digest event e rest false is under equal apart later (suc k, x, within, at, same) = later (k, x, omega arith, at, same)

-- what is not found is not found after the first entry either
absent_after : (digest : Digest) (e : Digest × Event) (rest : List (Digest × Event)) → (bytes_eq digest.0 e.0.0 ≡ true → ⊥)
    → is_some (lookup (λ (k : Digest). bytes_eq digest.0 k.0) (e ∷ rest)) ≡ false → is_some (lookup (λ (k : Digest). bytes_eq digest.0 k.0) rest) ≡ false
absent_after digest e rest apart there = split (bytes_eq digest.0 e.0.0) (lookup (λ (k : Digest). bytes_eq digest.0 k.0) rest) apart there
  where
    split : (b : Bool) (later : Option Event) → (b ≡ true → ⊥) → is_some (cond b (Some e.1) later) ≡ false → is_some later ≡ false
    split true later apart there = absurd (apart refl)
    split false later apart there = there

-- where no entry is under the digest, none waits
pub absent : (digest : Digest) (event : Event) → certificate_digest_in event.message ≡ Some digest → (entries : List (Digest × Event)) → Keyed entries
    → is_some (lookup (λ (k : Digest). bytes_eq digest.0 k.0) entries) ≡ false → Waits (values_of entries) event → ⊥
absent digest event is [] keyed there (k, x, within, at, same) = omega arith
absent digest event is (e ∷ rest) keyed there waits =
    let b = bytes_eq digest.0 e.0.0 in
    let apart : bytes_eq digest.0 e.0.0 ≡ true → ⊥ = λ equal. let wrong : true ≡ false = rw equal at there in cc in
    absent_at digest event e (values_of rest) b is keyed.0 refl apart (absent digest event is rest keyed.1 (absent_after digest e rest apart there)) waits

-- what has no certificate digest doesn't wait
pub no_other_waits : (event : Event) → certificate_digest_in event.message ≡ None → (entries : List (Digest × Event)) → Keyed entries → Waits (values_of entries) event → ⊥
no_other_waits event is [] keyed (k, x, within, at, same) = omega arith
no_other_waits event is (e ∷ rest) keyed (zero, x, within, at, same) =
    let one : Some e.0 ≡ None = sym keyed.0 ∙ ap (λ (v : Event). certificate_digest_in v.message) at ∙ same ∙ is in
    cc
no_other_waits event is (e ∷ rest) keyed (suc k, x, within, at, same) = no_other_waits event is rest keyed.1 (k, x, omega arith, at, same)

-- one more entry is one more event
pub one_more : (entries : List (Digest × Event)) (digest : Digest) (event : Event) → values_of (entries ++ (digest, event) ∷ []) ≡ values_of entries ++ event ∷ []
one_more [] digest event = refl
one_more (e ∷ rest) digest event = ap (λ (l : List Event). e.1 ∷ l) (one_more rest digest event)

-- the value at a place stands where its entry does
pub value_at : (entries : List (Digest × Event)) (place : ℕ) (e : Digest × Event) → slice_get entries place ≡ Some e → slice_get (values_of entries) place ≡ Some e.1
value_at [] place e at = absurd cc
value_at (first ∷ rest) zero e at = let same : first ≡ e = cc in ap (λ (f : Digest × Event). Some f.1) same
value_at (first ∷ rest) (suc place) e at = value_at rest place e at

-- the first elements with one more
pub take_next : (events : List Event) (place : ℕ) (event : Event) → slice_get events place ≡ Some event → take (suc place) events ≡ take place events ++ event ∷ []
take_next [] place event at = absurd cc
take_next (first ∷ rest) zero event at = let same : first ≡ event = cc in ap (λ (e : Event). e ∷ []) same
take_next (first ∷ rest) (suc place) event at = ap (λ (l : List Event). first ∷ l) (take_next rest place event at)

-- what stands at a place, what stands before it and what after it
pub parted : (events : List Event) (place : ℕ) (event : Event) → slice_get events place ≡ Some event → events ≡ take place events ++ event ∷ drop (suc place) events
parted [] place event at = absurd cc
parted (first ∷ rest) zero event at = let same : first ≡ event = cc in ap (λ (e : Event). e ∷ rest) same
parted (first ∷ rest) (suc place) event at = ap (λ (l : List Event). first ∷ l) (parted rest place event at)

-- as many stand before a place as its number says, and none stands beyond the last
pub front_len : (events : List Event) (place : ℕ) (event : Event) → slice_get events place ≡ Some event → length (take place events) ≡ place
front_len [] place event at = absurd cc
front_len (first ∷ rest) zero event at = refl
front_len (first ∷ rest) (suc place) event at = ap suc (front_len rest place event at)

pub beyond : (entries : List (Digest × Event)) (place : ℕ) → slice_get entries place ≡ None → length (values_of entries) ≤ place
beyond [] place none = omega arith
beyond (first ∷ rest) zero none = absurd cc
beyond (first ∷ rest) (suc place) none = let few = beyond rest place none in omega (arith, few)

module _ {F : Type 0} (closure : Mut F (Bor Event × Unit {0}) Bool) where
  -- one more is asked of, with the answer no
  pub asked_more : (first asked next : F) (events : List Event) (event : Event) → AnswersNo closure first events asked → CalledAt closure asked event false next
      → AnswersNo closure first (events ++ event ∷ []) next
  asked_more first asked next [] event before call = (next, subst (λ (f : F). CalledAt closure f event false next) (sym before) call, refl)
  asked_more first asked next (e ∷ rest) event before call = (before.0, before.1, asked_more before.0 asked next rest event before.2 call)

-- what is no Some is None
pub none_from : {X : Type 0} (o : Option X) → is_some o ≡ false → o ≡ None
none_from None none = refl
none_from (Some x) none = absurd cc

-- without one of the entries the others are under their digests
pub keyed_without : (entries : List (Digest × Event)) (place : ℕ) → Keyed entries → Keyed (remove entries place)
keyed_without [] zero keyed = tt
keyed_without [] (suc place) keyed = tt
keyed_without (e ∷ rest) zero keyed = keyed.1
keyed_without (e ∷ rest) (suc place) keyed = (keyed.0, keyed_without rest place keyed.1)
