-- That a step keeps the rule.
use Rattle.std.proofs.Common.{◌≡◌, ◌≢◌, ⊎_elim, Bool, ℕ, zero, suc, ◌≤◌, ◌<◌, true, false, List, [], ◌∷◌, length, take, set, refl, sym, ◌∙◌, subst, arith}
use Rattle.std.proofs.lemmas.List.{length-set}
use mathlib.Core.Option.{some, some-ne-none}
use lib.ListN.{get_elem?}
use Rattle.atomic_table.proofs.Lists.{at_set}
use Rattle.spec_model.specs.Histories.{History}
use Rattle.wire.specs.Lists.{Begins}
use Rattle.node_seats.specs.declared.view.Marked.{Marked}
use Rattle.node_seats.specs.declared.view.View.{View}
use Rattle.node_seats.specs.Views.{events, events_by, flag}
use Rattle.node_seats.specs.Rule.{Fits, IsKept}
use Rattle.node_seats.proofs.Beginnings.{begins_trans}

pub there : {X : Type 0} (xs : List X) (i : ℕ) (x : X) → get_elem? xs i ≡ some x → i < length xs
there [] i x at = absurd (some-ne-none x (sym at))
there (y ∷ ys) zero x at = omega arith
there (y ∷ ys) (suc i) x at = let rest = there ys i x at in omega (arith, rest)

pub not_here : {X : Type 0} (xs : List X) (i : ℕ) (x : X) → length xs ≤ i → get_elem? xs i ≡ some x → ⊥
not_here xs i x past at = let inside = there xs i x at in omega (arith, past, inside)

-- what a seat knows stays so where the lists grow and nothing of its own is added
pub fits_longer : (accepted settled longer more_settled : List Marked) (was down : Bool) (number : ℕ) (view : View) → Fits accepted settled was number view
    → Begins accepted longer → Begins settled more_settled → (was ≡ true → down ≡ true) → (number ≡ 0 → was ≡ false → down ≡ false)
    → events_by number longer ≡ events_by number accepted → Fits longer more_settled down number view
fits_longer accepted settled longer more_settled was down number view fits more durable stays up same = record {
  number_is = fits.number_is;
  seen = begins_trans view.seen accepted longer fits.seen more;
  durable = begins_trans view.durable settled more_settled fits.durable durable;
  durable_seen = fits.durable_seen;
  heard = begins_trans view.heard accepted longer fits.heard more;
  heard_durable = begins_trans view.heard_durable settled more_settled fits.heard_durable durable;
  mine = same ∙ fits.mine;
  own = fits.own;
  down_is = λ is. stays (fits.down_is is);
  right = λ able. let has = fits.right able in (has.0, up has.0 has.1);
}

module _ (Legal : History → Type 0) (words : List ℕ) (views : List View) where
  module _ (kept : IsKept Legal words views) (id : ℕ) (before later : View) (at : get_elem? views id ≡ some before)
      (accepted settled : List Marked) (down : Bool)
      (more : Begins kept.accepted accepted) (more_settled : Begins kept.settled settled) (begins : Begins settled accepted) (stays : kept.down ≡ true → down ≡ true)
      (up : id ≢ 0 → kept.down ≡ false → down ≡ false)
      (legal : (count : ℕ) → Legal (events (take count accepted)))
      (others : (number : ℕ) → number ≢ id → events_by number accepted ≡ events_by number kept.accepted)
      (mine : later.live ≡ true → Fits accepted settled down id later)
    where
      -- a seat's step after which the lists are these, and it knows this
      pub step_keeps : IsKept Legal (length accepted ∷ length settled ∷ flag down ∷ []) (set views id later)
      step_keeps = record {
        accepted = accepted;
        settled = settled;
        down = down;
        words_are = refl;
        begins = begins;
        legal = legal;
        nobody = λ number past.
            let inside = there views id before at in
            let size = length-set views id later in
            others number (omega (arith, past, inside, size)) ∙ kept.nobody number (omega (arith, past, size));
        fits = λ number view here live.
            ⊎_elim
            (λ (t : (number ≡ id) × (later ≡ view)).
            subst (λ (v : View). Fits accepted settled down number v) t.1
            (subst (λ (n : ℕ). Fits accepted settled down n later) (sym t.0) (mine (subst (λ (v : View). v.live ≡ true) (sym t.1) live))))
            (λ (t : (number ≢ id) × (get_elem? views number ≡ some view)).
            fits_longer kept.accepted kept.settled accepted settled kept.down down number view (kept.fits number view t.1 live) more more_settled stays
            (λ first. up (λ (is : id ≡ 0). t.0 (first ∙ sym is))) (others number t.0))
            (at_set views id number later view here);
      }
