-- What is left of a list of entries whose low ones were taken out, from its front.
use Rattle.std.proofs.Common.{◌≡◌, ℕ, ◌<◌, ◌≤◌, Bool, true, false, cond, List, [], ◌∷◌, length, Option, Some, None, refl, sym, ap, ◌∙◌, subst, arith}
use Rattle.std.specs.Prelude.{nat_le, IsSome}
use Rattle.std.specs.Cmp.{nat_cmp_is}
use Rattle.std.specs.declared.cmp.Ordering.TheVariants.{Greater}
use Rattle.std.specs.Ordering.{nat_cmp, is_gt, ordering_then}
use Rattle.std.specs.FinMap.{from_entries}
use Rattle.std.proofs.lemmas.Bool.{leb-true}
use Rattle.wire.specs.declared.keys.Digest.{Digest}
use Rattle.votebook.specs.declared.slot.Slot.{Slot}
use Rattle.votebook.specs.Slot.{slot_cmp}
use Rattle.votebook.specs.Votes.{Votes, ForgetsTo}
use Rattle.votebook.proofs.Lookups.{digest_at, get-entries}

-- a slot above a round is greater than each that isn't
greater_slot : (round : ℕ) (first slot : Slot) → round < first.round → nat_le slot.round round ≡ true → is_gt (slot_cmp first slot) ≡ true
greater_slot round first slot high low =
    let is : Greater ≡ nat_cmp first.round slot.round = nat_cmp_is first.round slot.round Greater (omega (arith, high, leb-true _ _ low)) in
    ap (λ o. is_gt (ordering_then o (nat_cmp first.author slot.author))) (sym is)

-- where no key is below a slot above the round, nothing is at or below the round
pub none_low : (es : List (Slot × Digest)) (first : Slot) (round : ℕ) → round < first.round → ((slot : Slot) → IsSome (digest_at es slot) → is_gt (slot_cmp first slot) ≡ false)
    → (slot : Slot) → nat_le slot.round round ≡ true → digest_at es slot ≡ None
none_low es first round high least slot low = by_found (digest_at es slot) refl
  where
    by_found : (found : Option Digest) → digest_at es slot ≡ found → digest_at es slot ≡ None
    by_found None is = is
    by_found (Some digest) is =
        let bad : true ≡ false = sym (greater_slot round first slot high low) ∙ least slot (subst IsSome (sym is) refl) in absurd cc

-- and where nothing is left
pub none_left : (round : ℕ) (es : List (Slot × Digest)) → length es ≤ 0 → (slot : Slot) → nat_le slot.round round ≡ true → digest_at es slot ≡ None
none_left round [] none slot low = refl
none_left round (e ∷ es) none slot low = absurd (omega (arith, none))

-- so what is left is what was there above the round
pub forgets : (round last : ℕ) (old new : List (Slot × Digest)) (votes : Votes) → last ≡ round → from_entries {R = slot_cmp} old ≡ votes
    → ((slot : Slot) → nat_le slot.round last ≡ false → digest_at new slot ≡ digest_at old slot) → ((slot : Slot) → nat_le slot.round last ≡ true → digest_at new slot ≡ None)
    → ForgetsTo round votes (from_entries {R = slot_cmp} new)
forgets round last old new votes same view above low =
    subst (λ r. ForgetsTo r votes (from_entries {R = slot_cmp} new)) same (subst (λ v. ForgetsTo last v (from_entries {R = slot_cmp} new)) view
    (λ slot. get-entries new slot ∙ by_round slot (nat_le slot.round last) refl ∙ ap (cond (nat_le slot.round last) None) (sym (get-entries old slot))))
  where
    by_round : (slot : Slot) (is : Bool) → nat_le slot.round last ≡ is → digest_at new slot ≡ cond (nat_le slot.round last) None (digest_at old slot)
    by_round slot true is = low slot is ∙ ap (λ b. cond b None (digest_at old slot)) (sym is)
    by_round slot false is = above slot is ∙ ap (λ b. cond b None (digest_at old slot)) (sym is)
