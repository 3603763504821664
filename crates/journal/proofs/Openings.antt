-- What an opening leaves of both areas.
use Rattle.std.proofs.Common.{◌≡◌, inl, inr, ℕ, ◌+◌, List, [], ◌∷◌, take, None, Err, refl, sym, ap, ◌∙◌, subst, arith}
use Rattle.std.proofs.lemmas.Bool.{cases_eq}
use Rattle.std.proofs.lemmas.Option.{none-some}
use Rattle.diskmodel.specs.Disk.{Device, LeavesOnly, AtEachMoment}
use Rattle.journal.specs.declared.side.Side.{Side}
use Rattle.journal.specs.declared.side.Side.TheVariants.{First, Second}
use Rattle.journal.specs.Areas.{reports, chosen, pair, pair_of, stands_at, stands_in, read_from, IsAtRest, IsOlder}
use Rattle.journal.specs.Format.{stands}
use Rattle.diskmodel.proofs.Clock.{joins, weaker}
use Rattle.journal.specs.Journal.{EndsClosed, IsClosedUp, IsAlivePair, IsSameAs, IsAsOneOf, AreSame}
use Rattle.journal.specs.Opened.{IsChoice, IsChosen, IsRested, AreOpened, spare_with}
use Rattle.journal.proofs.Closing.{shut_scans, shut_stands}
use Rattle.journal.proofs.Stops.{gate_of}
use Rattle.journal.proofs.Reporting.{by_reporting, both_older, same_together, reports_first}

-- where neither tells anything, nothing
nothing : (live other : List ℕ) → reports live ≡ None → reports other ≡ None → stands_in (pair live other) ≡ stands live
unfolding chosen
nothing live other none also = by_reporting live other None None none also ∙ sym (shut_stands live none)

-- what is read
pub read_chosen : (side : Side) (generation : ℕ) (live other : List ℕ) → IsChosen side generation live other → stands_in (pair_of side live other) ≡ stands_at side live
read_chosen side generation live other (inl reported) = both_older side generation live other reported.0 reported.1
read_chosen side generation live other (inr new) =
    subst (λ (at : Side). stands_in (pair_of at live other) ≡ stands_at at live) (sym new.2) (nothing live other new.0 new.1)

-- an area that told nothing is one closed gate
pub shut_is : (file now : List ℕ) → reports file ≡ None → IsClosedUp file now → now ≡ 0 ∷ []
shut_is [] now none closed = closed.short (omega arith)
shut_is (gate ∷ []) now none closed = closed.short (omega arith)
shut_is (gate ∷ byte ∷ rest) now none closed = elim (cases_eq gate 0) [
  | inl shut ↦
      let at = closed.long (omega arith) in
      let end_is : at.0 ≡ 0 = ap gate_of (sym at.1.1 ∙ shut_scans (gate ∷ byte ∷ rest) none) in
      at.2 ∙ ap (λ (n : ℕ). take (n + 1) (gate ∷ byte ∷ rest)) end_is ∙ ap (λ (g : ℕ). g ∷ []) shut
  | inr is_open ↦ absurd (none-some _ (sym none ∙ reports_first gate (byte ∷ rest) is_open (omega arith)))
]

-- the other area is at rest
rests : (generation : ℕ) (other also : List ℕ) → IsOlder generation other → IsRested other also → IsAtRest generation also
rests generation other also (inl none) rested = inl (rested.short none)
rests generation other also (inr lower) rested = inr (lower.0, rested.reported ∙ lower.1, lower.2)

older : (side : Side) (generation : ℕ) (live other : List ℕ) → IsChosen side generation live other → IsOlder generation other
older side generation live other (inl reported) = reported.1
older side generation live other (inr new) = inl new.1

same_pair : (side : Side) (live other now also : List ℕ) → reports now ≡ reports live → reports also ≡ reports other → stands now ≡ stands live → stands also ≡ stands other
    → stands_in (pair_of side now also) ≡ stands_in (pair_of side live other)
same_pair First live other now also reported reported_also stand stand_also = same_together live other now also reported reported_also stand stand_also
same_pair Second live other now also reported reported_also stand stand_also = same_together other live also now reported_also reported stand_also stand

module _ {D : Type 0} (device : Device D) (side : Side) (generation : ℕ) (live other now also : D)
    (choice : IsChosen side generation (device.content live) (device.content other)) (ends : EndsClosed (device.content now))
    (reported : reports (device.content now) ≡ reports (device.content live)) (stand : stands (device.content now) ≡ stands (device.content live))
    (closed : IsClosedUp (device.content live) (device.content now)) (rested : IsRested (device.content other) (device.content also)) where
  alive_pair : LeavesOnly (device.content also) (device.outcome also) → IsAlivePair device now (spare_with also side generation)
  alive_pair durable = record {
    of_generation = elim choice [
      | inl is ↦ inl (reported ∙ is.0)
      | inr new ↦ inr (record {
        empty = shut_is (device.content live) (device.content now) new.0 closed;
        lowest = new.3;
        first = new.2;
        other_short = rested.short new.1;
      })
    ];
    at_rest = rests generation (device.content other) (device.content also) (older side generation (device.content live) (device.content other) choice) rested;
    durable = durable;
  }

  pub are_opened : LeavesOnly (device.content now) (device.outcome now) → LeavesOnly (device.content also) (device.outcome also) → AreOpened device side generation live other now also
  are_opened durable other_durable = record {
    ends_closed = ends;
    durable = durable;
    pair = alive_pair other_durable;
    same = same_pair side (device.content live) (device.content other) (device.content now) (device.content also) reported rested.reported stand rested.stand;
    closed = closed;
    rested = rested;
  }

-- a choice by what both tell is one of their bytes
pub choice_first : (side : Side) (generation : ℕ) (one other : List ℕ) → side ≡ First → IsChoice side generation (reports one) (reports other) → IsChosen First generation one other
choice_first side generation one other is choice = by_side (subst (λ (at : Side). IsChoice at generation (reports one) (reports other)) is choice)
  where
    by_side : IsChoice First generation (reports one) (reports other) → IsChosen First generation one other
    by_side (inl reported) = inl reported
    by_side (inr new) = inr (new.0, new.1, refl, new.3)

pub choice_second : (side : Side) (generation : ℕ) (one other : List ℕ) → side ≡ Second → IsChoice side generation (reports one) (reports other) → IsChosen Second generation other one
choice_second side generation one other is choice = by_side (subst (λ (at : Side). IsChoice at generation (reports one) (reports other)) is choice)
  where
    by_side : IsChoice Second generation (reports one) (reports other) → IsChosen Second generation other one
    by_side (inl reported) = inl reported
    by_side (inr new) = absurd (cc new.2)

-- what tells and stands for the same as durable bytes does so as an outcome from before
pub as_outcome : (outcome : List ℕ → Type 0) (file mid left : List ℕ) → outcome file → mid ≡ file → IsSameAs mid left → IsAsOneOf outcome left
as_outcome outcome file mid left possible same (inl is) = inl (subst outcome (sym (is ∙ same)) possible)
as_outcome outcome file mid left possible same (inr also) = inr (file, possible, subst (λ (l : List ℕ). AreSame l left) same also)

module _ {D : Type 0} (device : Device D) (old mid new : D) (possible : device.outcome old (device.content old)) where
  -- over an opening of an area
  pub over_opening : AtEachMoment device old mid (device.outcome old) → device.content mid ≡ device.content old → AtEachMoment device mid new (IsSameAs (device.content mid))
      → AtEachMoment device old new (IsAsOneOf (device.outcome old))
  over_opening first same second =
      let P : List ℕ → Type 0 = IsAsOneOf (device.outcome old) in
      joins device old mid new P (IsSameAs (device.content mid)) (weaker device old mid P (device.outcome old) first (λ left now. inl now)) second
      (λ left is. as_outcome (device.outcome old) (device.content old) (device.content mid) left possible same is)

-- a choice that fails is of damaged areas
pub choice_fails : (one other : List ℕ) (place : ℕ) → chosen (reports one) (reports other) ≡ Err place → stands_in (pair one other) ≡ Err place
choice_fails one other place is = by_reporting one other (reports one) (reports other) refl refl ∙ ap (read_from one other) is
