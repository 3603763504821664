-- Marks, round by round.
use Rattle.std.proofs.Common.{◌≡◌, ℕ, ◌+◌, ◌-◌, ◌≤◌, Bool, true, false, List, [], Some, None, inl, inr, refl, ap, sym, ◌∙◌, subst, arith}
use Rattle.std.proofs.Math.Path.{fun_ext}
use Rattle.std.specs.Prelude.{min, not, is_some, length, ◌==◌, ◌&&◌, ◌||◌, nat_le, nat_lt, Option}
use Rattle.std.specs.Option.{option_map_or}
use Rattle.std.proofs.lemmas.Bool.{cases_Bool, eqb-true, leb-true, le-leb, lt-ltb}
use Rattle.committee.specs.Charter.{Charter}
use Rattle.committee.specs.declared.sets.MemberSet.{MemberSet}
use Rattle.spec_model.specs.Ordering.{is_past}
use Rattle.spec_model.specs.Slots.{Slots, reaches}
use Rattle.spec_model.specs.Words.{Certificate}
use Rattle.spec_laws.proofs.Growing.{and_false}
use Rattle.spec_laws.proofs.Lists.{given_or_none}
use Rattle.spec_laws.proofs.Meeting.{same_number}
use Rattle.dag.specs.Changes.{IsMarked}
use Rattle.dag.specs.Graph.{DagView, IsGraph, slots_in, marked_in, size_in, reaches_in, end_in}
use Rattle.dag.proofs.Steps.{or_false}
use Rattle.tusk.specs.Chain.{ledger_in}
use Rattle.flatten.specs.Lengthening.{LengtheningView, FitsTo}
use Rattle.flatten.specs.Segments.{leader_held, IsMarkedPast}
use Rattle.flatten.specs.Sets.{is_in, lowest_in}
use Rattle.dag.proofs.Walking.{reaches_by}
use Rattle.flatten.proofs.Places.{past_end}
use Rattle.flatten.proofs.Taking.{not_above}

-- of so many rounds from one downwards all that is in the sets is marked too
pub record IsSoFar (before now : DagView) (top count : ℕ) (sets : List MemberSet) : Type 0 where
  pub charter : now.charter ≡ before.charter
  pub floor : now.floor ≡ before.floor
  pub base : now.base ≡ before.base
  pub end : end_in now ≡ end_in before
  pub slots : (r a : ℕ) → slots_in now r a ≡ slots_in before r a
  pub marked : (r a : ℕ) → marked_in now r a ≡ (marked_in before r a || ((nat_lt top (r + count) && nat_le r top) && (is_some (slots_in before r a) && is_in sets (top - r) a)))

-- at first nothing more is
pub none_so_far : (graph : DagView) (top : ℕ) (sets : List MemberSet) → IsSoFar graph graph top 0 sets
none_so_far graph top sets = record {
  charter = refl;
  floor = refl;
  base = refl;
  end = refl;
  slots = λ r a. refl;
  marked = λ r a. sym (ap (λ b. marked_in graph r a || (b && (is_some (slots_in graph r a) && is_in sets (top - r) a))) (apart r) ∙ or_false (marked_in graph r a));
}
  where
    apart : (r : ℕ) → (nat_lt top (r + 0) && nat_le r top) ≡ false
    apart r =
        elim (cases_Bool (nat_le r top)) [
          | inl under ↦ let over : nat_lt top (r + 0) ≡ false = grind (arith, under) in ap (λ b. b && nat_le r top) over
          | inr over ↦ ap (λ b. nat_lt top (r + 0) && b) over ∙ and_false (nat_lt top (r + 0))
        ]

-- one round more
pub one_round : (before now next : DagView) (top count : ℕ) (sets : List MemberSet) (authors : ℕ → Bool) → IsSoFar before now top count sets → count ≤ top → IsMarked now next (top - count) authors
    → ((a : ℕ) → authors a ≡ is_in sets count a) → IsSoFar before next top (count + 1) sets
one_round before now next top count sets authors was within more each = record {
  charter = more.charter ∙ was.charter;
  floor = more.floor ∙ was.floor;
  base = more.base ∙ was.base;
  end = more.end ∙ was.end;
  slots = λ r a. more.slots r a ∙ was.slots r a;
  marked = λ r a.
      elim (cases_Bool (r == top - count)) [
        | inl same ↦
            let at : r ≡ top - count = eqb-true r (top - count) same in
            subst (λ q. marked_in next q a ≡ (marked_in before q a || ((nat_lt top (q + (count + 1)) && nat_le q top) && (is_some (slots_in before q a) && is_in sets (top - q) a)))) (sym at) (here a)
        | inr differs ↦
            let alike : nat_lt top (r + count) ≡ nat_lt top (r + (count + 1)) = grind (arith, differs) in
            more.marked r a ∙ ap (λ b. marked_in now r a || (b && (authors a && is_some (slots_in now r a)))) differs ∙ or_false (marked_in now r a) ∙ was.marked r a
            ∙ ap (λ b. marked_in before r a || ((b && nat_le r top) && (is_some (slots_in before r a) && is_in sets (top - r) a))) alike
      ];
}
  where
    swapped : (m s i : Bool) → (m || (i && s)) ≡ (m || (s && i))
    swapped true s i = refl
    swapped false true true = refl
    swapped false true false = refl
    swapped false false true = refl
    swapped false false false = refl

    here : (a : ℕ) → marked_in next (top - count) a
        ≡ (marked_in before (top - count) a ||
        ((nat_lt top ((top - count) + (count + 1)) && nat_le (top - count) top) &&
        (is_some (slots_in before (top - count) a) && is_in sets (top - (top - count)) a)))
    here a =
        let number = top - count in
        let s = is_some (slots_in before number a) in
        let i = is_in sets count a in
        let m = marked_in before number a in
        let back : count ≡ top - number = omega (arith, within) in
        let level : nat_lt top (number + count) ≡ false = grind (arith, within) in
        let next_one : nat_lt top (number + (count + 1)) ≡ true = lt-ltb top (number + (count + 1)) (omega (arith, within)) in
        let under : nat_le number top ≡ true = le-leb number top (omega arith) in
        let none : ((nat_lt top (number + count) && nat_le number top) && (s && is_in sets (top - number) a))
        ≡ false = ap (λ b. (b && nat_le number top) && (s && is_in sets (top - number) a)) level in
        let now_m : marked_in now number a ≡ m = was.marked number a ∙ ap (λ b. m || b) none ∙ or_false m in
        more.marked number a
        ∙ ap (λ b. b || ((number == number) && (authors a && is_some (slots_in now number a)))) now_m
        ∙ ap (λ b. m || (b && (authors a && is_some (slots_in now number a)))) (same_number number)
        ∙ ap (λ b. m || (b && is_some (slots_in now number a))) (each a)
        ∙ ap (λ (o : Option Certificate). m || (i && is_some o)) (was.slots number a)
        ∙ swapped m s i
        ∙ ap (λ k. m || (s && is_in sets k a)) back
        ∙ sym (ap (λ b. m || ((b && nat_le number top) && (s && is_in sets (top - number) a))) next_one ∙ ap (λ b. m || (b && (s && is_in sets (top - number) a))) under)

-- ---- all rounds

-- a slot that holds nothing isn't reached
unheld : (graph : DagView) (round author below other : ℕ) (d : Certificate) → slots_in graph round author ≡ Some d → slots_in graph below other ≡ None
    → reaches_in graph round author below other ≡ false
unheld graph round author below other d held none =
    ap (λ o. option_map_or (λ start. option_map_or (reaches (size_in graph) (slots_in graph) start) (slots_in graph below other) false) o false) held
    ∙ ap (λ o. option_map_or (reaches (size_in graph) (slots_in graph) d) o false) none

-- of the rounds that the last leader orders of, what is in the sets or marked is what it reaches
left_is_reached : (graph : DagView) → IsGraph graph → (made : LengtheningView) → FitsTo graph made → (d : Certificate)
    → slots_in graph made.last.0 made.last.1.0 ≡ Some d → (count : ℕ) → count ≡ min ((made.last.0 + 1) - lowest_in graph made.last.0)
    (length made.ordered)
    → (r a : ℕ) → (marked_in graph r a || ((nat_lt made.last.0 (r + count) && nat_le r made.last.0) && (is_some (slots_in graph r a) && is_in made.ordered (made.last.0 - r) a)))
    ≡ (marked_in graph r a || (nat_le (made.last.0 - graph.charter.depth) r && reaches_in graph made.last.0 made.last.1.0 r a))
left_is_reached graph is made of d leader count all r a =
    let last = made.last.0 in
    let deep = nat_le (last - graph.charter.depth) r in
    let m = marked_in graph r a in
    let inside = is_in made.ordered (last - r) a in
    let range = nat_lt last (r + count) && nat_le r last in
    elim (given_or_none (slots_in graph r a)) [
      | inr none ↦
          ap (λ (o : Option Certificate). m || (range && (is_some o && inside))) none
          ∙ ap (λ b. m || b) (and_false range)
          ∙ sym (ap (λ b. m || (deep && b)) (unheld graph last made.last.1.0 r a d leader none) ∙ ap (λ b. m || b) (and_false deep))
      | inl c ↦
          let floor = is.above r a c.0 c.1 in
          let reached = reaches_by graph last made.last.1.0 r a d c.0 leader c.1 in
          let some : is_some (slots_in graph r a) ≡ true = ap (λ (o : Option Certificate). is_some o) c.1 in
          elim (cases_Bool (nat_le (lowest_in graph last) r)) [
            | inr below ↦
                let out : nat_lt last (r + count) ≡ false = grind (arith, below, all) in
                let shallow : deep ≡ false = grind (arith, below, floor) in
                ap (λ b. m || ((b && nat_le r last) && (is_some (slots_in graph r a) && inside))) out
                ∙ sym (ap (λ b. m || (b && reaches_in graph last made.last.1.0 r a)) shallow)
            | inl above ↦ elim (cases_Bool (nat_le r last)) [
              | inr over ↦
                  let never = not_above graph is last made.last.1.0 r a (grind (arith, over)) in
                  ap (λ b. m || ((nat_lt last (r + count) && b) && (is_some (slots_in graph r a) && inside))) over
                  ∙ ap (λ b. m || (b && (is_some (slots_in graph r a) && inside))) (and_false (nat_lt last (r + count)))
                  ∙ sym (ap (λ b. m || (deep && b)) never ∙ ap (λ b. m || b) (and_false deep))
              | inl within ↦
                  let above' = leb-true (lowest_in graph last) r above in
                  let within' = leb-true r last within in
                  let is_deep : deep ≡ true = le-leb (last - graph.charter.depth) r (omega (arith, above')) in
                  let past = of.unordered r a c.0 above' within' c.1 in
                  let past' : (not m && not inside) ≡ not (reaches (size_in graph) (slots_in graph) d c.0) =
                  sym (ap (λ (o : Option Certificate). (is_some o && not m) && not inside) c.1) ∙ past ∙ ap (λ o. not (is_past (ledger_in graph []) o c.0)) leader in
                  let in_range : (nat_lt last (r + count) && inside) ≡ inside = elim (cases_Bool (nat_lt last (r + count))) [
                    | inl here ↦ ap (λ b. b && inside) here
                    | inr not_here ↦
                        let past_them : length made.ordered ≤ last - r = grind (arith, not_here, all, above', within') in
                        let none = past_end made.ordered (last - r) a past_them in
                        ap (λ b. nat_lt last (r + count) && b) none ∙ and_false (nat_lt last (r + count)) ∙ sym none
                  ] in
                  ap (λ b. m || ((nat_lt last (r + count) && b) && (is_some (slots_in graph r a) && inside))) within
                  ∙ ap (λ b. m || ((nat_lt last (r + count) && true) && (b && inside))) some
                  ∙ ap (λ b. m || (b && inside)) (and_true (nat_lt last (r + count)))
                  ∙ ap (λ b. m || b) in_range
                  ∙ joined m inside (reaches (size_in graph) (slots_in graph) d c.0) past'
                  ∙ sym (ap (λ b. m || (b && reaches_in graph last made.last.1.0 r a)) is_deep ∙ ap (λ b. m || b) reached)
            ]
          ]
    ]
  where
    and_true : (b : Bool) → (b && true) ≡ b
    and_true true = refl
    and_true false = refl

    joined : (m i p : Bool) → (not m && not i) ≡ not p → (m || i) ≡ (m || p)
    joined true i p same = refl
    joined false true true same = refl
    joined false true false same = absurd cc
    joined false false true same = absurd cc
    joined false false false same = refl

pub exact_marks : (before now : DagView) → IsGraph before → (made : LengtheningView) → FitsTo before made → (count : ℕ) → count
    ≡ min ((made.last.0 + 1) - lowest_in before made.last.0) (length made.ordered)
    → IsSoFar before now made.last.0 count made.ordered → (r a : ℕ)
    → marked_in now r a ≡ (marked_in before r a || (nat_le (made.last.0 - before.charter.depth) r && reaches_in before made.last.0 made.last.1.0 r a))
exact_marks before now is made of count all so_far r a =
    elim (given_or_none (slots_in before made.last.0 made.last.1.0)) [
      | inr none ↦ let bad = rw none at of.held in absurd cc
      | inl d ↦ so_far.marked r a ∙ left_is_reached before is made of d.0 d.1 count all r a
    ]

-- the marks are those of the last leader
pub marked_past : (before now : DagView) → IsGraph before → (made : LengtheningView) → FitsTo before made → now.charter ≡ before.charter → ((r a : ℕ) → slots_in now r a ≡ slots_in before r a)
    → ((r a : ℕ) → marked_in now r a ≡ (marked_in before r a || (nat_le (made.last.0 - before.charter.depth) r && reaches_in before made.last.0 made.last.1.0 r a)))
    → IsMarkedPast now (made.last.0 - now.charter.depth) (leader_held now (Some made.last))
marked_past before now is made of charter slots exact r a c above held =
    let held' : slots_in before r a ≡ Some c = sym (slots r a) ∙ held in
    let depth : made.last.0 - now.charter.depth ≡ made.last.0 - before.charter.depth = ap (λ (ch : Charter). made.last.0 - ch.depth) charter in
    let past : Charter → Slots → Bool = λ ch s. option_map_or (λ leader. reaches (length ch.keys) s leader c) (s made.last.0 made.last.1.0) false in
    let alike : past now.charter (slots_in now) ≡ past before.charter (slots_in before) =
    ap (λ ch. past ch (slots_in now)) charter ∙ ap (past before.charter) (fun_ext (λ r. fun_ext (λ a. slots r a))) in
    elim (given_or_none (slots_in before made.last.0 made.last.1.0)) [
      | inr none ↦ let bad = rw none at of.held in absurd cc
      | inl d ↦
          let floor = is.above r a c held' in
          let deep : nat_le (made.last.0 - before.charter.depth) r ≡ true = le-leb (made.last.0 - before.charter.depth) r (omega (arith, above, depth)) in
          let was : past before.charter (slots_in before) ≡ reaches (size_in before) (slots_in before) d.0 c =
          ap (λ o. option_map_or (λ leader. reaches (size_in before) (slots_in before) leader c) o false) d.1 in
          let reached = reaches_by before made.last.0 made.last.1.0 r a d.0 c d.1 held' in
          let marks : marked_in before r a ≡ true → reaches (size_in before) (slots_in before) d.0 c ≡ true =
          λ marked. sym was ∙ of.marked r a c (omega (arith, above, depth, floor)) held' marked in
          exact r a
          ∙ ap (λ b. marked_in before r a || (b && reaches_in before made.last.0 made.last.1.0 r a)) deep
          ∙ ap (λ b. marked_in before r a || b) reached
          ∙ either (marked_in before r a) (reaches (size_in before) (slots_in before) d.0 c) marks
          ∙ sym (alike ∙ was)
    ]
  where
    either : (m p : Bool) → (m ≡ true → p ≡ true) → (m || p) ≡ p
    either true p so = sym (so refl)
    either false p so = refl
