-- What an area tells by its first group, and what two areas stand for by it.
use Rattle.std.proofs.Common.{◌≡◌, ◌≢◌, inl, inr, ℕ, suc, ◌+◌, ◌<◌, ◌≤◌, List, [], ◌∷◌, ◌++◌, length, take, drop, Option, Some, None, Result, Ok, Err}
use Rattle.std.proofs.Common.{refl, sym, ◌∙◌, ap, subst, arith, append_assoc, length-append, take-append-drop, eqb, ltb, cond}
use Rattle.std.specs.Option.{option_and_then}
use Rattle.std.proofs.lemmas.Bool.{cases_eq, ne_eqb, eq-eqb, lt-ltb, le-ltb, cond-true, cond-false}
use Rattle.std.proofs.lemmas.Option.{none-some}
use Rattle.std.proofs.lemmas.List.{take_at}
use Rattle.diskmodel.specs.Disk.{IsTorn, IsCut}
use Rattle.journal.specs.declared.record.Record.{Record}
use Rattle.journal.specs.declared.side.Side.{Side}
use Rattle.journal.specs.declared.side.Side.TheVariants.{First, Second}
use Rattle.journal.specs.Format.{body_at, group_of, walk, scan, stands, only_records}
use Rattle.journal.specs.Journal.{AreSame, IsAsOneOf}
use Rattle.journal.specs.Areas.{moved, first_generation, generation_of, reports, chosen, pair, pair_of, other_side, stands_at, stands_in, read_from, IsAtRest, IsOlder, IsOlderOrNew}
use Rattle.journal.proofs.Walks.{Found, walk_open, walk_later, walk-skip, goes, closed_is, walk_ended, body_stands, body_same}

-- ---- one area

pub reports_short : (file : List ℕ) → length file < 2 → reports file ≡ None
unfolding reports
reports_short [] short = refl
reports_short (gate ∷ []) short = refl
reports_short (gate ∷ byte ∷ rest) short = absurd (omega arith)

pub reports_closed : (gate : ℕ) (rest : List ℕ) → gate ≡ 0 → reports (gate ∷ rest) ≡ None
unfolding reports
reports_closed gate [] shut = refl
reports_closed gate (byte ∷ rest) shut = cond-true (eqb gate 0) None (Some (first_generation (byte ∷ rest))) (eq-eqb gate 0 shut)

-- after an open gate the first group decides, and not the gate's value
pub reports_first : (gate : ℕ) (rest : List ℕ) → gate ≢ 0 → 1 ≤ length rest → reports (gate ∷ rest) ≡ Some (first_generation rest)
unfolding reports
reports_first gate [] is_open some = absurd (omega arith)
reports_first gate (byte ∷ rest) is_open some = cond-false (eqb gate 0) None (Some (first_generation (byte ∷ rest))) (ne_eqb gate 0 is_open)

pub reports_open : (one other : ℕ) (rest : List ℕ) → one ≢ 0 → other ≢ 0 → reports (one ∷ rest) ≡ reports (other ∷ rest)
unfolding reports
reports_open one other [] is_open also = refl
reports_open one other (byte ∷ rest) is_open also = reports_first one (byte ∷ rest) is_open (omega arith) ∙ sym (reports_first other (byte ∷ rest) also (omega arith))

-- nor does the value of an open gate change what an area stands for
pub stands_any : (one other : ℕ) (rest : List ℕ) → one ≢ 0 → other ≢ 0 → stands (one ∷ rest) ≡ stands (other ∷ rest)
unfolding stands scan
stands_any one other rest is_open also =
    ap (λ (r : Result Found ℕ). only_records (cond (ltb (length (one ∷ rest)) 2) (Ok ([], 0)) r)) (walk_open 0 one rest is_open ∙ sym (walk_open 0 other rest also))

-- a gate that tells something is open
pub gate_open : (gate : ℕ) (rest : List ℕ) (reported : Option ℕ) → reports (gate ∷ rest) ≡ Some reported → gate ≢ 0
gate_open gate rest reported is shut = none-some reported (sym (reports_closed gate rest shut) ∙ is)

-- an area that tells something has two bytes
pub reports_long : (file : List ℕ) (reported : Option ℕ) → reports file ≡ Some reported → 2 ≤ length file
reports_long [] reported is = absurd (none-some reported (sym (reports_short [] (omega arith)) ∙ is))
reports_long (gate ∷ []) reported is = absurd (none-some reported (sym (reports_short (gate ∷ []) (omega arith)) ∙ is))
reports_long (gate ∷ byte ∷ rest) reported is = omega arith

-- bytes that begin with a closed gate
pub closed_front : (file : List ℕ) → take 1 file ≡ 0 ∷ [] → reports file ≡ None
closed_front [] is = absurd (omega (arith, ap length is))
closed_front (gate ∷ rest) is = reports_closed gate rest (cc)

-- ---- a rewriting, at each moment

pub at_rest_older : (generation : ℕ) (file : List ℕ) → IsAtRest generation file → IsOlder generation file
at_rest_older generation file (inl short) = inl (reports_short file (omega arith))
at_rest_older generation file (inr lower) = inr lower

-- another first byte
closing : (generation gate other : ℕ) (rest : List ℕ) → ((lower : ℕ) × (reports (gate ∷ rest) ≡ Some (Some lower)) × (lower < generation)) → IsOlder generation (other ∷ rest)
closing generation gate other rest lower = elim (cases_eq other 0) [
  | inl shut ↦ inl (reports_closed other rest shut)
  | inr is_open ↦ inr (lower.0, reports_open other gate rest is_open (gate_open gate rest (Some lower.0) lower.1) ∙ lower.1, lower.2)
]

-- while the first gate is closed
pub torn_close : (generation : ℕ) (file left : List ℕ) → IsAtRest generation file → IsTorn 0 1 file left → IsOlder generation left
torn_close generation file left (inl short) torn = inl (reports_short left (omega (arith, torn.no_longer)))
torn_close generation [] left (inr lower) torn = absurd (omega (arith, reports_long [] (Some lower.0) lower.1))
torn_close generation (gate ∷ rest) [] (inr lower) torn = absurd (omega (arith, torn.no_shorter))
torn_close generation (gate ∷ rest) (other ∷ after) (inr lower) torn =
    let same : after ≡ rest = torn.after in
    subst (λ (l : List ℕ). IsOlder generation (other ∷ l)) (sym same) (closing generation gate other rest lower)

-- and then while the area is cut
pub torn_cut : (generation : ℕ) (rest left : List ℕ) → IsCut 1 (0 ∷ rest) left → IsOlder generation left
torn_cut generation rest left torn = inl (closed_front left torn.front)

-- while the groups are written
pub torn_fill : (generation count : ℕ) (left : List ℕ) → IsTorn 1 count (0 ∷ []) left → IsOlder generation left
torn_fill generation count left torn = inl (closed_front left torn.before)

-- and while their first gate is opened
pub torn_open : (generation : ℕ) (bytes left : List ℕ) → IsTorn 0 1 (0 ∷ bytes) left → IsOlderOrNew generation bytes left
torn_open generation bytes [] torn = absurd (omega (arith, torn.no_shorter))
torn_open generation bytes (gate ∷ rest) torn =
    let same : rest ≡ bytes = torn.after in
    elim (cases_eq gate 0) [
      | inl shut ↦ inl (inl (reports_closed gate rest shut))
      | inr is_open ↦ inr (gate, is_open, ap (λ (l : List ℕ). gate ∷ l) same)
    ]

-- ---- two areas

-- of two generations the greater one is read
chosen_first : (generation lower : ℕ) → lower < generation → chosen (Some (Some generation)) (Some (Some lower)) ≡ Ok (Some First)
unfolding chosen
chosen_first generation lower less =
    cond-false (eqb generation lower) _ _ (ne_eqb generation lower (λ same. omega arith))
    ∙ cond-true (ltb lower generation) _ _ (lt-ltb lower generation less)

chosen_second : (generation lower : ℕ) → lower < generation → chosen (Some (Some lower)) (Some (Some generation)) ≡ Ok (Some Second)
unfolding chosen
chosen_second generation lower less =
    cond-false (eqb lower generation) _ _ (ne_eqb lower generation (λ same. omega arith))
    ∙ cond-false (ltb generation lower) _ _ (le-ltb generation lower (omega arith))

-- by what both areas tell
pub by_reporting : (one other : List ℕ) (reported also : Option (Option ℕ)) → reports one ≡ reported → reports other ≡ also → stands_in (pair one other) ≡ read_from one other (chosen reported also)
unfolding stands_in
by_reporting one other reported also is_reported is_also = λ i. read_from one other (chosen (is_reported i) (is_also i))

-- beside an older area
pub both_older : (side : Side) (generation : ℕ) (live left : List ℕ) → reports live ≡ Some (Some generation) → IsOlder generation left → stands_in (pair_of side live left) ≡ stands_at side live
unfolding chosen
both_older First generation live left reported (inl none) = by_reporting live left (Some (Some generation)) None reported none
both_older Second generation live left reported (inl none) = by_reporting left live None (Some (Some generation)) none reported
both_older First generation live left reported (inr lower) =
    by_reporting live left (Some (Some generation)) (Some (Some lower.0)) reported lower.1 ∙ ap (read_from live left) (chosen_first generation lower.0 lower.2)
both_older Second generation live left reported (inr lower) =
    by_reporting left live (Some (Some lower.0)) (Some (Some generation)) lower.1 reported ∙ ap (read_from left live) (chosen_second generation lower.0 lower.2)

-- beside a newer one
pub both_newer : (side : Side) (generation newer : ℕ) (live left : List ℕ) → reports live ≡ Some (Some generation) → reports left ≡ Some (Some newer) → generation < newer
    → stands_in (pair_of side live left) ≡ stands_at (other_side side) left
both_newer First generation newer live left reported also less = both_older Second newer left live also (inr (generation, reported, less))
both_newer Second generation newer live left reported also less = both_older First newer left live also (inr (generation, reported, less))

-- beside groups of a greater generation after an open gate
pub both_new : (side : Side) (generation newer gate : ℕ) (live bytes : List ℕ) → reports live ≡ Some (Some generation) → reports (1 ∷ bytes) ≡ Some (Some newer) → generation < newer → gate ≢ 0
    → stands_in (pair_of side live (gate ∷ bytes)) ≡ stands_at (other_side side) (1 ∷ bytes)
both_new side generation newer gate live bytes reported also less is_open =
    both_newer side generation newer live (gate ∷ bytes) reported (reports_open gate 1 bytes is_open (λ one. omega arith) ∙ also) less
    ∙ same_stands (other_side side)
  where
    same_stands : (at : Side) → stands_at at (gate ∷ bytes) ≡ stands_at at (1 ∷ bytes)
    same_stands First = stands_any gate 1 bytes is_open (λ one. omega arith)
    same_stands Second = ap (λ (r : Result (List Record) ℕ). moved 1099511627776 r) (stands_any gate 1 bytes is_open (λ one. omega arith))

-- ---- the first group stays

-- another end, after the first group at least
pub reports_stays : (front old new : List ℕ) (records : List Record) → 0 < length front → 1 ≤ length new → walk 0 0 (front ++ 0 ∷ old) ≡ Ok (records, length front)
    → reports (front ++ new) ≡ reports (front ++ 0 ∷ old)
reports_stays [] old new records some more walked = absurd (omega arith)
reports_stays (gate ∷ front) old new records some more walked =
    let rest = front ++ 0 ∷ old in
    let is_open : gate ≢ 0 = λ shut. omega (arith, ap (λ (f : Found). f.1) (closed_is 0 gate rest (records, suc (length front)) shut walked)) in
    let on = goes 0 gate rest (records, suc (length front)) is_open walked in
    let inside = (body_stands rest on.body on.at_body).inside in
    let later = walk_later (drop (4 + length on.body) rest) (0 + 1 + (4 + length on.body)) 0 on.more (sym (walk-skip (0 + 1) (4 + length on.body) rest (omega arith)) ∙ on.on) in
    let ends : 4 + length on.body ≤ length front = omega (arith, later, ap (λ (f : Found). f.1) on.is) in
    let same : body_at (front ++ new) ≡ body_at rest = body_same front (0 ∷ old) new on.body on.at_body ends more ∙ sym on.at_body in
    reports_first gate (front ++ new) is_open (omega (arith, length-append front new))
    ∙ ap (λ (o : Option (List ℕ)). Some (option_and_then (λ body. option_and_then generation_of (group_of body)) o)) same
    ∙ sym (reports_first gate rest is_open (omega (arith, length-append front (0 ∷ old))))

-- a cut after the closed gate that ends the groups
pub cuts_keep_reporting : (file left : List ℕ) (records : List Record) (gate : ℕ) → 2 ≤ length file → walk 0 0 file ≡ Ok (records, gate) → IsCut (gate + 1) file left → reports left ≡ reports file
cuts_keep_reporting file left records gate long walked cut =
    let ended = walk_ended file 0 0 (records, gate) walked (omega arith) in
    let tail = drop (gate + 1) left in
    let front_is : take (gate + 1) file ≡ ended.front ++ 0 ∷ [] =
    ap (λ (l : List ℕ). take (gate + 1) l) (ended.split ∙ sym (append_assoc ended.front (0 ∷ []) ended.after))
    ∙ take_at (ended.front ++ 0 ∷ []) ended.after (gate + 1) (omega (arith, ended.at_gate, length-append ended.front (0 ∷ []))) in
    let whole : left ≡ ended.front ++ 0 ∷ tail =
    sym (take-append-drop (gate + 1) left) ∙ ap (λ (l : List ℕ). l ++ tail) (cut.front ∙ front_is) ∙ append_assoc ended.front (0 ∷ []) tail in
    let found : walk 0 0 (ended.front ++ 0 ∷ ended.after) ≡ Ok (records, length ended.front) =
    ap (λ (l : List ℕ). walk 0 0 l) (sym ended.split) ∙ walked ∙ ap (λ (n : ℕ). Ok (records, n)) (omega (arith, ended.at_gate)) in
    ap reports whole ∙ keeps ended.front ended.after tail records found ∙ ap reports (sym ended.split)
  where
    keeps : (front old new : List ℕ) (records : List Record) → walk 0 0 (front ++ 0 ∷ old) ≡ Ok (records, length front) → reports (front ++ 0 ∷ new) ≡ reports (front ++ 0 ∷ old)
    keeps [] old new records walked = reports_closed 0 new refl ∙ sym (reports_closed 0 old refl)
    keeps (gate ∷ front) old new records walked = reports_stays (gate ∷ front) old (0 ∷ new) records (omega arith) (omega arith) walked

-- ---- openings

same_records : (file left : List ℕ) → AreSame file left → stands left ≡ stands file
same_records file left same = same.1.2 ∙ sym same.1.1

-- areas that tell the same and stand for the same records, each for itself, do both together
pub same_together : (one other left right : List ℕ) → reports left ≡ reports one → reports right ≡ reports other → stands left ≡ stands one → stands right ≡ stands other
    → stands_in (pair left right) ≡ stands_in (pair one other)
same_together one other left right reported also stand stand_also =
    by_reporting left right (reports one) (reports other) reported also
    ∙ reads (chosen (reports one) (reports other))
    ∙ sym (by_reporting one other (reports one) (reports other) refl refl)
  where
    reads : (choice : Result (Option Side) ℕ) → read_from left right choice ≡ read_from one other choice
    reads (Err place) = refl
    reads (Ok None) = refl
    reads (Ok (Some First)) = stand
    reads (Ok (Some Second)) = ap (moved 1099511627776) stand_also

-- what one of these bytes tell and stand for
record Was (outcome : List ℕ → Type 0) (left : List ℕ) : Type 0 where
  was : List ℕ
  possible : outcome was
  reported : reports left ≡ reports was
  stand : stands left ≡ stands was

was_one : (outcome : List ℕ → Type 0) (left : List ℕ) → IsAsOneOf outcome left → Was outcome left
was_one outcome left (inl here) = record { was = left; possible = here; reported = refl; stand = refl }
was_one outcome left (inr same) = record { was = same.0; possible = same.1; reported = same.2.0; stand = same_records same.0 left same.2 }

-- what both areas were left as stands for what some two outcomes from before stand for
pub both_stand_as_before : (outcome also : List ℕ → Type 0) (left right : List ℕ) → IsAsOneOf outcome left → IsAsOneOf also right
    → (one : List ℕ) × (other : List ℕ) × outcome one × also other × (stands_in (pair left right) ≡ stands_in (pair one other))
both_stand_as_before outcome also left right first second =
    let one = was_one outcome left first in
    let other = was_one also right second in
    (one.was, other.was, one.possible, other.possible, same_together one.was other.was left right one.reported other.reported one.stand other.stand)
