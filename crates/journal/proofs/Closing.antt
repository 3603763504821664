-- What an area tells while its end is closed, and what it was before.
use Rattle.diskmodel.proofs.Clock.{weaker, joins}
use Rattle.std.specs.Option.{option_and_then}
use Rattle.std.proofs.Common.{take-add, suc, drop, Option, ◌++◌, ◌-◌, length-drop, take-append-drop, ◌≡◌, inl, inr, subst, ⊎_elim, ℕ, ◌+◌, ◌<◌, ◌≤◌, List, [], ◌∷◌, length, take, length-take, Some, None, Ok, refl, sym, ap, ◌∙◌, arith}
use Rattle.std.proofs.lemmas.Bool.{cases_eq, cases_lt}
use Rattle.std.proofs.lemmas.List.{take-take, take_all, length-take-le}
use Rattle.std.proofs.lemmas.Option.{none-some}
use Rattle.diskmodel.specs.Disk.{Device, ComesBy, LeavesOnly, AtEachMoment, TimePasses, IsTorn, IsCut}
use Rattle.journal.specs.declared.record.Record.{Record}
use Rattle.journal.specs.Format.{body_at, group_of, scan, stands, ScansTo}
use Rattle.journal.specs.Areas.{generation_of, reports}
use Rattle.journal.specs.Journal.{IsSameAs}
use Rattle.journal.proofs.Moments.{from_only}
use Rattle.journal.proofs.Rewritten.{SoFar, begins, then_left}
use Rattle.journal.proofs.Sides.{scans_long, short_scans}
use Rattle.journal.proofs.Stops.{scan_ok, walked}
use Rattle.journal.proofs.Reporting.{reports_short, reports_closed, reports_first, cuts_keep_reporting}
use Rattle.journal.proofs.Walks.{walk_closed, body_stands, body_same}

pub torn_reports : (file left : List ℕ) → length file < 2 → IsTorn 0 1 file left → reports left ≡ reports file
torn_reports file left short torn = reports_short left (omega (arith, torn.no_longer)) ∙ sym (reports_short file short)

pub cut_reports : (file left : List ℕ) (gate : ℕ) → ScansTo file gate → 2 ≤ length file → IsCut (gate + 1) file left → reports left ≡ reports file
cut_reports file left gate scans long cut = cuts_keep_reporting file left scans.0 gate long (walked file gate scans long) cut

module _ {D : Type 0} (device : Device D) where
  -- one call that changes durable bytes
  pub changes : (change : List ℕ → List ℕ → Type 0) (old one : D) (P : List ℕ → Type 0) → ((left : List ℕ) → device.outcome_since old (device.clock old) left → device.outcome old left)
      → LeavesOnly (device.content old) (device.outcome old) → P (device.content old)
      → TimePasses device old one → ComesBy change (device.outcome old) (device.outcome one) → ((left : List ℕ) → change (device.content old) left → P left) → SoFar device old one P
  changes change old one P only_now durable before time comes after =
      then_left device old old one P (begins device old P only_now (λ left now. subst P (sym (durable left now)) before)) time
      (from_only change (device.content old) (device.outcome old) (device.outcome one) P durable comes after)

  -- both hold at each moment
  pub both_hold : (old new : D) (P Q R : List ℕ → Type 0) → AtEachMoment device old new P → AtEachMoment device old new Q → ((left : List ℕ) → P left → Q left → R left) → AtEachMoment device old new R
  both_hold old new P Q R first second both = record {
    later = first.later;
    each = λ left since. both left (first.each left since) (second.each left since);
    before = λ t left le since. ⊎_elim (λ earlier. inl earlier)
        (λ one. ⊎_elim (λ earlier. inl earlier) (λ other. inr (both left one other)) (second.before t left le since)) (first.before t left le since);
  }

-- an area that tells nothing has no group
pub shut_scans : (file : List ℕ) → reports file ≡ None → scan file ≡ Ok ([], 0)
shut_scans [] shut = short_scans [] (omega arith)
shut_scans (gate ∷ []) shut = short_scans (gate ∷ []) (omega arith)
shut_scans (gate ∷ byte ∷ rest) shut = elim (cases_eq gate 0) [
  | inl closed ↦ scans_long (gate ∷ byte ∷ rest) (omega arith) ∙ walk_closed 0 gate (byte ∷ rest) closed
  | inr is_open ↦ absurd (none-some _ (sym shut ∙ reports_first gate (byte ∷ rest) is_open (omega arith)))
]

pub shut_stands : (file : List ℕ) → reports file ≡ None → stands file ≡ Ok []
shut_stands file shut = scan_ok file ([], 0) (shut_scans file shut)

-- what tells and stands for the same as bytes that stand for records
pub same_as : (file left : List ℕ) (records : List Record) → stands file ≡ Ok records → stands left ≡ stands file → reports left ≡ reports file → IsSameAs file left
same_as file left records stand same reported = inr (reported, (records, stand, same ∙ stand))

pub cut_whole : (len : ℕ) (file : List ℕ) → IsCut len file (take len file)
cut_whole len file = record { front = take-take len len file (omega arith); no_shorter = omega (arith, length-take len file); no_longer = omega (arith, length-take len file) }

module _ {D : Type 0} (device : Device D) (old mid new : D) where
  -- nothing was written to a durable disk yet
  pub until_read : LeavesOnly (device.content old) (device.outcome old) → AtEachMoment device old mid (device.outcome old) → AtEachMoment device old mid (IsSameAs (device.content old))
  until_read durable reading = weaker device old mid (IsSameAs (device.content old)) (device.outcome old) reading (λ left now. inl (durable left now))

  -- and then its end is closed
  pub until_closed : (records : List Record) → stands (device.content old) ≡ Ok records → device.content mid ≡ device.content old → AtEachMoment device old mid (IsSameAs (device.content old))
      → AtEachMoment device mid new (λ left. stands left ≡ stands (device.content mid)) → AtEachMoment device mid new (λ left. reports left ≡ reports (device.content mid))
      → AtEachMoment device old new (IsSameAs (device.content old))
  until_closed records stand same so_far standing reporting =
      let file = device.content old in
      joins device old mid new (IsSameAs file) (IsSameAs file) so_far
      (both_hold device mid new (λ left. stands left ≡ stands (device.content mid)) (λ left. reports left ≡ reports (device.content mid)) (IsSameAs file) standing reporting
      (λ left one other. same_as file left records stand (one ∙ ap stands same) (other ∙ ap reports same)))
      (λ left here. here)

-- ---- the front of an area

body_ends : (front old new : List ℕ) → 4194308 ≤ length front → 1 ≤ length old → 1 ≤ length new → body_at (front ++ old) ≡ body_at (front ++ new)
body_ends front old new long some more = go (body_at (front ++ old)) (body_at (front ++ new)) refl refl
  where
    go : (o p : Option (List ℕ)) → body_at (front ++ old) ≡ o → body_at (front ++ new) ≡ p → o ≡ p
    go None None is also = refl
    go (Some body) p is also =
        let at = body_stands (front ++ old) body is in
        sym (body_same front old new body is (omega (arith, at.not_long, at.long)) more) ∙ also
    go None (Some body) is also =
        let at = body_stands (front ++ new) body also in
        sym is ∙ body_same front new old body also (omega (arith, at.not_long, at.long)) some

body_front : (m : ℕ) (rest : List ℕ) → m ≡ 4194309 → m ≤ length rest → body_at (take m rest) ≡ body_at rest
body_front m rest is long =
    let n = m - 1 in
    let next : n + 1 ≡ m = omega arith in
    let front = take n rest in
    let size : length front ≡ n = length-take-le n rest (omega arith) in
    let whole : front ++ drop n rest ≡ rest = take-append-drop n rest in
    let short : take m rest ≡ front ++ take 1 (drop n rest) = ap (λ (k : ℕ). take k rest) (sym next) ∙ take-add n 1 rest in
    ap body_at short
    ∙ body_ends front (take 1 (drop n rest)) (drop n rest) (omega arith) (omega (arith, length-take 1 (drop n rest), length-drop n rest)) (omega (arith, length-drop n rest))
    ∙ ap body_at whole

-- the first group of an area stands in so many bytes
pub reports_front : (m : ℕ) (file : List ℕ) → m ≡ 4194309 → reports (take (suc m) file) ≡ reports file
reports_front m [] is = refl
reports_front m (gate ∷ rest) is = elim (cases_lt m (length rest)) [
  | inr within ↦ ap (λ (l : List ℕ). reports (gate ∷ l)) (take_all m rest within)
  | inl longer ↦ elim (cases_eq gate 0) [
    | inl closed ↦ reports_closed gate (take m rest) closed ∙ sym (reports_closed gate rest closed)
    | inr is_open ↦
        reports_first gate (take m rest) is_open (omega (arith, length-take m rest))
        ∙ ap (λ (o : Option (List ℕ)). Some (option_and_then (λ body. option_and_then generation_of (group_of body)) o)) (body_front m rest is (omega arith))
        ∙ sym (reports_first gate rest is_open (omega arith))
  ]
]
