-- Leaders one after the other.
use Rattle.std.proofs.Common.{◌≡◌, ℕ, zero, suc, ◌+◌, ◌-◌, ◌^◌, ◌<◌, ◌≤◌, Bool, true, List, [], ◌∷◌, ◌++◌, length, drop, slice_get, Option, Some}
use Rattle.std.proofs.Common.{None, inl, inr, refl, ap, sym, ◌∙◌, subst, arith, append_assoc, add-one}
use Rattle.std.specs.Prelude.{All, min, not, is_some, nat_le, ◌&&◌}
use Rattle.std.specs.Option.{option_map_or}
use Rattle.std.proofs.lemmas.Bool.{and_parts, and_from, leb-true, le-leb}
use Rattle.std.proofs.lemmas.List.{append-nil, map-append}
use Rattle.std.proofs.lemmas.List.Elements.{All-cons, All-nil, All-head, All-tail}
use Rattle.std.proofs.lemmas.Option.{same_Some}
use Rattle.committee.specs.Charter.{numbers}
use Rattle.committee.specs.declared.sets.MemberSet.{MemberSet}
use Rattle.spec_model.specs.Ordering.{is_past, segment, segments}
use Rattle.spec_model.specs.Slots.{Slots, certificate_digest, round_of, is_parent, has_path, reaches}
use Rattle.spec_model.specs.Words.{Author, Certificate, Digest}
use Rattle.spec_laws.proofs.Growing.{AreInPlace, IsIn, is_in as is_held}
use Rattle.spec_laws.proofs.Lists.{given_or_none, Contains-made}
use Rattle.spec_laws.proofs.Meeting.{any_to}
use Rattle.spec_laws.proofs.Votes.{slot_is}
use Rattle.dag.specs.Graph.{DagView, IsGraph, slots_in, marked_in, size_in, reaches_in}
use Rattle.dag.proofs.Paths.{same_held}
use Rattle.dag.proofs.Tests.{any_from}
use Rattle.tusk.specs.Chain.{ledger_in}
use Rattle.flatten.specs.Lengthening.{FitsTo}
use Rattle.flatten.specs.Segments.{leader_held, references_by, read_references_in, read_references_by, digests_of, leaders_in, AreLinked, IsMarkedFor}
use Rattle.flatten.specs.Sets.{is_free, is_unmarked_in, lowest_in, AreUnordered, Leads, HasAllOf}
use Rattle.dag.proofs.Walking.{reaches_of}
use Rattle.flatten.proofs.Picking.{first_unordered, reads_few}

-- ---- what a leader reaches, who reaches it reaches too

path_over : (n : ℕ) (slots : Slots) → AreInPlace slots → (steps more : ℕ) (start mid end : Certificate) → IsIn slots mid → IsIn slots end
    → has_path n slots steps start mid ≡ true → has_path n slots more mid end ≡ true
    → has_path n slots (more + steps) start end ≡ true
path_over n slots placed steps zero start mid end held held' one other =
    let same : mid ≡ end = same_held slots mid end held held' other in
    let count : steps ≡ 0 + steps = omega arith in
    subst (λ k. has_path n slots k start end ≡ true) count (subst (λ c. has_path n slots steps start c ≡ true) same one)
path_over n slots placed steps (suc more) start mid end held held' one other =
    let found = any_to (λ c. has_path n slots more mid c && is_parent end c) (round_of n slots (end.header.round + 1)) other in
    let parts = and_parts (has_path n slots more mid found.0) (is_parent end found.0) found.2 in
    let made = Contains-made (slots (end.header.round + 1)) (numbers n) found.0 found.1 in
    let longer = path_over n slots placed steps more start mid found.0 held (is_held slots (end.header.round + 1) made.0 found.0 placed made.2) one parts.0 in
    let count : suc (more + steps) ≡ suc more + steps = omega arith in
    subst (λ k. has_path n slots k start end ≡ true) count
    (any_from (λ c. has_path n slots (more + steps) start c && is_parent end c) (round_of n slots (end.header.round + 1)) found.0 found.1 (and_from _ _ longer parts.1))

reach_over : (n : ℕ) (slots : Slots) → AreInPlace slots → (start mid end : Certificate) → IsIn slots mid → IsIn slots end → reaches n slots start mid
    ≡ true → reaches n slots mid end ≡ true → reaches n slots start end ≡ true
reach_over n slots placed start mid end held held' one other =
    let first = and_parts (nat_le mid.header.round start.header.round) (has_path n slots (start.header.round - mid.header.round) start mid) one in
    let then = and_parts (nat_le end.header.round mid.header.round) (has_path n slots (mid.header.round - end.header.round) mid end) other in
    let above = leb-true mid.header.round start.header.round first.0 in
    let below = leb-true end.header.round mid.header.round then.0 in
    let path = path_over n slots placed (start.header.round - mid.header.round) (mid.header.round - end.header.round) start mid end held held' first.1 then.1 in
    let count : (mid.header.round - end.header.round) + (start.header.round - mid.header.round) ≡ start.header.round - end.header.round = omega (arith, above, below) in
    and_from _ _ (le-leb end.header.round start.header.round (omega (arith, above, below))) (subst (λ k. has_path n slots k start end ≡ true) count path)

pub has_all : (graph : DagView) → IsGraph graph → (before : Option (ℕ × Author)) (leader : ℕ × Author) (c : Certificate) → slots_in graph leader.0 leader.1.0 ≡ Some c
    → option_map_or (λ (b : ℕ × Author). reaches_in graph leader.0 leader.1.0 b.0 b.1.0) before true ≡ true → HasAllOf graph (leader_held graph before) c
has_all graph is None leader c held link = λ round author e there past. absurd cc
has_all graph is (Some before) leader c held link =
    let down = reaches_of graph leader.0 leader.1.0 before.0 before.1.0 link in
    let same : down.start ≡ c = same_Some down.start c (sym down.held_start ∙ held) in
    let reached : reaches (size_in graph) (slots_in graph) c down.end ≡ true = subst (λ d. reaches (size_in graph) (slots_in graph) d down.end ≡ true) same down.path in
    let all : HasAllOf graph (Some down.end) c =
    λ round author e there past. reach_over (size_in graph) (slots_in graph) is.placed c down.end e
    (is_held (slots_in graph) before.0 before.1.0 down.end is.placed down.held_end) (is_held (slots_in graph) round author e is.placed there) reached past in
    subst (λ p. HasAllOf graph p c) (sym down.held_end) all

-- a leader isn't below one that it reaches
pub link_above : (graph : DagView) → IsGraph graph → (before leader : ℕ × Author) → reaches_in graph leader.0 leader.1.0 before.0 before.1.0 ≡ true → before.0 ≤ leader.0
link_above graph is before leader link =
    let down = reaches_of graph leader.0 leader.1.0 before.0 before.1.0 link in
    let place = slot_is leader.0 leader.1.0 down.start.header (is.placed leader.0 leader.1.0 down.start down.held_start) in
    let place' = slot_is before.0 before.1.0 down.end.header (is.placed before.0 before.1.0 down.end down.held_end) in
    let parts = and_parts (nat_le down.end.header.round down.start.header.round)
    (has_path (size_in graph) (slots_in graph) (down.start.header.round - down.end.header.round) down.start down.end) down.path in
    let within = leb-true down.end.header.round down.start.header.round parts.0 in
    omega (arith, within, place.0, place'.0)

-- none lies above the last
pub all_within : (graph : DagView) → IsGraph graph → (before : Option (ℕ × Author)) (chain : List (ℕ × Author)) (last : ℕ × Author)
    → AreLinked graph before chain → slice_get chain (length chain - 1) ≡ Some last
    → All (λ (s : ℕ × Author). s.0 ≤ last.0) chain
all_within graph is before [] last linked at = All-nil (λ (s : ℕ × Author). s.0 ≤ last.0)
all_within graph is before (leader ∷ []) last linked at =
    let same : leader ≡ last = same_Some leader last at in
    let round : leader.0 ≡ last.0 = ap (λ (s : ℕ × Author). s.0) same in
    All-cons (λ (s : ℕ × Author). s.0 ≤ last.0) leader [] (omega (arith, round)) (All-nil (λ (s : ℕ × Author). s.0 ≤ last.0))
all_within graph is before (leader ∷ next ∷ more) last linked at =
    let count : length (leader ∷ next ∷ more) - 1 ≡ suc (length (next ∷ more) - 1) = omega arith in
    let rest = all_within graph is (Some leader) (next ∷ more) last linked.2 (ap (slice_get (leader ∷ next ∷ more)) (sym count) ∙ at) in
    let high = All-head (λ (s : ℕ × Author). s.0 ≤ last.0) next more rest in
    let low = link_above graph is leader next linked.2.1 in
    All-cons (λ (s : ℕ × Author). s.0 ≤ last.0) leader (next ∷ more) (omega (arith, high, low)) rest

-- ---- one leader after the other

-- so many leaders were taken, the last of them was `before`, and the others are left; from where the last one orders on those are
-- free that are unordered before these; it reaches what is marked; what they order is still to come, and so is what is read for them
pub record IsAfter (graph : DagView) (total : List Digest) (most high : ℕ) (before : Option (ℕ × Author)) (left : List (ℕ × Author))
    (free : ℕ → ℕ → Bool) (digests : List Digest) (reads : ℕ) : Type 0 where
  pub from : ℕ
  pub next : (leader : ℕ × Author) (more : List (ℕ × Author)) → left ≡ leader ∷ more → from ≤ lowest_in graph leader.0
  pub ends : left ≡ [] → (leader : ℕ × Author) → before ≡ Some leader → (from ≤ lowest_in graph leader.0) × (is_some (slots_in graph leader.0 leader.1.0) ≡ true)
  pub linked : AreLinked graph before left
  pub within : All (λ (s : ℕ × Author). s.0 ≤ high) left
  pub unordered : AreUnordered graph (leader_held graph before) from high free
  pub marked : (round author : ℕ) (c : Certificate) → from ≤ round → slots_in graph round author ≡ Some c → marked_in graph round author ≡ true
      → is_past (ledger_in graph []) (leader_held graph before) c ≡ true
  pub whole : digests ++ digests_of (segments (ledger_in graph []) (leader_held graph before) (leaders_in graph left)) ≡ total
  pub counted : min (reads + read_references_by graph (leader_held graph before) (leaders_in graph left)) (2 ^ 64 - 1) ≡ min most (2 ^ 64 - 1)

-- before any is taken
pub none_taken : (graph : DagView) → IsGraph graph → (previous : Option (ℕ × Author)) (chain : List (ℕ × Author)) (last : ℕ × Author)
    (free : ℕ → ℕ → Bool) (digests : List Digest) → 0 < length chain → AreLinked graph previous chain → IsMarkedFor graph previous chain
    → slice_get chain (length chain - 1) ≡ Some last
    → ((round author : ℕ) → free round author ≡ is_unmarked_in graph round author) → digests ≡ []
    → IsAfter graph (digests_of (segments (ledger_in graph []) (leader_held graph previous) (leaders_in graph chain)))
    (read_references_by graph (leader_held graph previous) (leaders_in graph chain)) last.0 previous chain free digests 0
none_taken graph is previous [] last free digests some linked marks at unmarked none = absurd (omega (arith, some))
none_taken graph is previous (leader ∷ more) last free digests some linked marks at unmarked none =
    let reads = read_references_by graph (leader_held graph previous) (leaders_in graph (leader ∷ more)) in
    let all : 0 + reads ≡ reads = omega arith in
    record {
      from = lowest_in graph leader.0;
      next = λ l m e. let first_one : leader.0 ≡ l.0 = ap (λ (s : ℕ × Author). s.0) (head_same leader l more m e) in
          let there : lowest_in graph leader.0 ≡ lowest_in graph l.0 = ap (lowest_in graph) first_one in
          omega (arith, there);
      ends = λ e. absurd cc;
      linked = linked;
      within = all_within graph is previous (leader ∷ more) last linked at;
      unordered = first_unordered graph (leader_held graph previous) leader.0 last.0 free marks unmarked;
      marked = λ r a c above held marked. sym (marks r a c (omega (arith, above)) held) ∙ marked;
      whole = ap (λ l. l ++ digests_of (segments (ledger_in graph []) (leader_held graph previous) (leaders_in graph (leader ∷ more)))) none;
      counted = ap (λ k. min k (2 ^ 64 - 1)) all;
    }
  where
    head_same : (one other : ℕ × Author) (ones others : List (ℕ × Author)) → one ∷ ones ≡ other ∷ others → one ≡ other
    head_same one other ones others e = same_Some one other (ap (λ l. slice_get l 0) e)

count_on : (reads one reads' rest later all most : ℕ) → reads' ≡ min (reads + one) (2 ^ 64 - 1) → all ≡ one + rest → later ≡ rest
    → min (reads + all) (2 ^ 64 - 1) ≡ min most (2 ^ 64 - 1) → min (reads' + later) (2 ^ 64 - 1) ≡ min most (2 ^ 64 - 1)
count_on reads one reads' rest later all most counted parts same was = omega (arith, counted, parts, same, was)

-- one more is taken
pub one_taken : (graph : DagView) → IsGraph graph → (total : List Digest) (most high : ℕ) (before : Option (ℕ × Author)) (leader : ℕ × Author)
    (more : List (ℕ × Author)) (free free' : ℕ → ℕ → Bool) (digests digests' : List Digest) (reads one reads' : ℕ)
    → IsAfter graph total most high before (leader ∷ more) free digests reads → reads' ≡ min (reads + one) (2 ^ 64 - 1)
    → ((c : Certificate) → Leads graph (leader_held graph before) leader high free c → digests' ≡ digests ++ digests_of (segment (ledger_in graph []) (leader_held graph before) c))
    → ((c : Certificate) → Leads graph (leader_held graph before) leader high free c → HasAllOf graph (leader_held graph before) c → AreUnordered graph (Some c) (lowest_in graph leader.0) high free')
    → ((c : Certificate) → Leads graph (leader_held graph before) leader high free c → one ≡ read_references_in graph (leader_held graph before) c)
    → IsAfter graph total most high (Some leader) more free' digests' reads'
one_taken graph is total most high before leader more free free' digests digests' reads one reads' was counted written unordered read =
    elim (given_or_none (slots_in graph leader.0 leader.1.0)) [
      | inr none ↦ let bad = rw none at was.linked.0 in absurd cc
      | inl c ↦
          let next = was.next leader more refl in
          let leads : Leads graph (leader_held graph before) leader high free c.0 = record {
            held = c.1;
            within = All-head (λ (s : ℕ × Author). s.0 ≤ high) leader more was.within;
            unordered = λ r a e above below held. was.unordered r a e (omega (arith, next, above)) below held;
          } in
          let all = has_all graph is before leader c.0 c.1 was.linked.1 in
          let ledger = ledger_in graph [] in
          let rest = leaders_in graph more in
          let expand : leaders_in graph (leader ∷ more) ≡ c.0 ∷ rest = let at = c.1 in rw at refl in
          let parts : read_references_by graph (leader_held graph before) (leaders_in graph (leader ∷ more)) ≡ one + read_references_by graph (Some c.0) rest =
          ap (read_references_by graph (leader_held graph before)) expand ∙ ap (λ k. k + read_references_by graph (Some c.0) rest) (sym (read c.0 leads)) in
          let later : read_references_by graph (leader_held graph (Some leader)) rest ≡ read_references_by graph (Some c.0) rest = ap (λ p. read_references_by graph p rest) c.1 in
          record {
            from = lowest_in graph leader.0;
            next = λ l m e. let link = (subst (λ (x : List (ℕ × Author)). AreLinked graph (Some leader) x) e was.linked.2).1 in
                let above = link_above graph is leader l link in
                omega (arith, above);
            ends = λ e l same. (
              let round : leader.0 ≡ l.0 = ap (λ (s : ℕ × Author). s.0) (same_Some leader l same) in
                  let there : lowest_in graph leader.0 ≡ lowest_in graph l.0 = ap (lowest_in graph) round in
                  omega (arith, there),
              subst (λ (s : ℕ × Author). is_some (slots_in graph s.0 s.1.0) ≡ true) (same_Some leader l same) was.linked.0,
            );
            linked = was.linked.2;
            within = All-tail (λ (s : ℕ × Author). s.0 ≤ high) leader more was.within;
            unordered = subst (λ p. AreUnordered graph p (lowest_in graph leader.0) high free') (sym c.1) (unordered c.0 leads all);
            marked = λ r a e above held marked. subst (λ p. is_past ledger p e ≡ true) (sym c.1) (all r a e held (was.marked r a e (omega (arith, next, above)) held marked));
            whole = ap (λ d. d ++ digests_of (segments ledger (leader_held graph (Some leader)) rest)) (written c.0 leads)
                ∙ ap (λ p. (digests ++ digests_of (segment ledger (leader_held graph before) c.0)) ++ digests_of (segments ledger p rest)) c.1
                ∙ append_assoc digests (digests_of (segment ledger (leader_held graph before) c.0)) (digests_of (segments ledger (Some c.0) rest))
                ∙ ap (λ l. digests ++ l) (sym (map-append (λ (d : Certificate). certificate_digest d.header) (segment ledger (leader_held graph before) c.0) (segments ledger (Some c.0) rest)))
                ∙ ap (λ l. digests ++ digests_of (segments ledger (leader_held graph before) l)) (sym expand)
                ∙ was.whole;
            counted = count_on reads one reads' (read_references_by graph (Some c.0) rest)
                (read_references_by graph (leader_held graph (Some leader)) rest)
                (read_references_by graph (leader_held graph before) (leaders_in graph (leader ∷ more))) most counted parts later was.counted;
          }
    ]

-- when all are taken, what they order is written, and the rest is that of the last
pub all_taken : (graph : DagView) → (total : List Digest) (most : ℕ) (before : Option (ℕ × Author)) (left : List (ℕ × Author)) (last : ℕ × Author)
    (sets : List MemberSet) (digests : List Digest) (reads : ℕ)
    → IsAfter graph total most last.0 before left (is_free graph last.0 sets) digests reads → reads < 2 ^ 64
    → left ≡ [] → before ≡ Some last → (digests ≡ total) × FitsTo graph (record { digests = digests; last = last; ordered = sets; reads = reads }) × (reads ≡ min most (2 ^ 64 - 1))
all_taken graph total most before left last sets digests reads was small none same =
    let ends = was.ends none last same in
    let within = ends.0 in
    let empty : read_references_by graph (leader_held graph before) (leaders_in graph left) ≡ 0 = ap (λ l. read_references_by graph (leader_held graph before) (leaders_in graph l)) none in
    let counted = was.counted in (
      sym (append-nil digests)
          ∙ ap (λ l. digests ++ digests_of (segments (ledger_in graph []) (leader_held graph before) (leaders_in graph l))) (sym none)
          ∙ was.whole,
      record {
        held = ends.1;
        unordered = λ r a c above below held. was.unordered r a c (omega (arith, above, within)) below held
            ∙ ap (λ p. not (is_past (ledger_in graph []) (leader_held graph p) c)) same;
        marked = λ r a c above held marked. subst (λ p. is_past (ledger_in graph []) (leader_held graph p) c ≡ true) same (was.marked r a c (omega (arith, above, within)) held marked);
      },
      omega (arith, counted, small, empty),
    )

-- no more is read than the references of what is new to each
pub reads_below : (graph : DagView) (previous : Option Certificate) (leaders : List Certificate) → read_references_by graph previous leaders ≤ references_by graph previous leaders
reads_below graph previous [] = omega arith
reads_below graph previous (leader ∷ leaders) =
    let here = reads_few graph previous leader in
    let rest = reads_below graph (Some leader) leaders in
    omega (arith, here, rest)

-- ---- by places

-- the slot before that of a place
abbrev pub before_at : Option (ℕ × Author) → List (ℕ × Author) → ℕ → Option (ℕ × Author)
before_at previous chain zero = previous
before_at previous chain (suc place) = slice_get chain place

pub next_place : (previous : Option (ℕ × Author)) (chain : List (ℕ × Author)) (place : ℕ) → before_at previous chain (place + 1) ≡ slice_get chain place
next_place previous chain place = ap (before_at previous chain) (add-one place)

pub at_end : (previous : Option (ℕ × Author)) (chain : List (ℕ × Author)) (place : ℕ) → 0 < place → before_at previous chain place ≡ slice_get chain (place - 1)
at_end previous chain place some =
    let count : place ≡ suc (place - 1) = omega (arith, some) in
    ap (before_at previous chain) count

pub drop_one : {X : Type 0} (xs : List X) (place : ℕ) (x : X) → slice_get xs place ≡ Some x → drop place xs ≡ x ∷ drop (suc place) xs
drop_one [] place x at = absurd cc
drop_one (y ∷ ys) zero x at = ap (λ z. z ∷ ys) (same_Some y x at)
drop_one (y ∷ ys) (suc place) x at = drop_one ys place x at

pub dropped_all : {X : Type 0} (xs : List X) (place : ℕ) → length xs ≤ place → drop place xs ≡ []
dropped_all [] zero past = refl
dropped_all [] (suc place) past = refl
dropped_all (y ∷ ys) zero past = absurd (omega (arith, past))
dropped_all (y ∷ ys) (suc place) past = dropped_all ys place (omega (arith, past))

-- no coin is asked
pub no_coin : (graph : DagView) (coins other : List ℕ) (previous : Option Certificate) (leaders : List Certificate)
    → segments (ledger_in graph coins) previous leaders ≡ segments (ledger_in graph other) previous leaders
no_coin graph coins other previous [] = refl
no_coin graph coins other previous (leader ∷ leaders) = ap (λ l. segment (ledger_in graph coins) previous leader ++ l) (no_coin graph coins other (Some leader) leaders)
