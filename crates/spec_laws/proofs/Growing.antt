-- What paths, leaders and the order keep where slots fill with certificates that are nobody's parents yet.
use Rattle.std.proofs.Common.{◌≡◌, ℕ, zero, suc, ◌+◌, ◌-◌, ◌*◌, ◌%◌, ◌<◌, ◌≤◌, Bool, true, false, List, [], ◌∷◌, ◌++◌, length, Option, Some, None, inl, inr, refl, ap, sym, ◌∙◌, subst, arith}
use Rattle.std.specs.Prelude.{not, Contains, filter, filter_map, flat_map, nat_le, ◌&&◌, ◌||◌, slice_get}
use Rattle.std.specs.List.{list_any, range_with_len}
use Rattle.std.specs.Option.{option_map_or}
use Rattle.std.proofs.lemmas.Bool.{cases_Bool, leb-true, le-leb}
use Rattle.std.proofs.lemmas.Option.{same_Some, none-some, slice_get_within}
use Rattle.std.proofs.lemmas.List.{append-nil, append_assoc}
use Rattle.std.proofs.lemmas.List.Elements.{filter-append}
use Rattle.committee.specs.Charter.{numbers}
use Rattle.committee.proofs.Weights.{weight-within}
use Rattle.spec_model.specs.Ordering.{Ledger, size_in, leader, is_directly_committed, is_past, is_ordered_by, segment, segments}
use Rattle.spec_model.specs.Slots.{Slots, is_of_slot, round_of, is_parent, has_path, reaches}
use Rattle.spec_model.specs.Words.{Certificate}
use Rattle.spec_laws.proofs.Lists.{given_or_none, Contains-first, Contains-later}
use Rattle.spec_laws.proofs.Votes.{slot_is}

-- each slot holds a certificate of its round and author
abbrev pub AreInPlace : Slots → Type 0
AreInPlace slots = (round author : ℕ) (c : Certificate) → slots round author ≡ Some c → is_of_slot round author c.header ≡ true

-- slots that hold what others held, and else what is no parent of what they hold
pub record Extends (before after : Slots) : Type 0 where
  pub placed_before : AreInPlace before
  pub placed_after : AreInPlace after
  pub kept : (round author : ℕ) (c : Certificate) → before round author ≡ Some c → after round author ≡ Some c
  pub childless : (round author : ℕ) (c : Certificate) → before round author ≡ None → after round author ≡ Some c
      → (above other : ℕ) (child : Certificate) → after above other ≡ Some child → is_parent c child ≡ false

-- a certificate is what its slot holds
abbrev pub IsIn : Slots → Certificate → Type 0
IsIn slots c = slots c.header.round c.header.author.0 ≡ Some c

pub is_in : (slots : Slots) (round author : ℕ) (c : Certificate) → AreInPlace slots → slots round author ≡ Some c → IsIn slots c
is_in slots round author c placed held =
    let place = slot_is round author c.header (placed round author c held) in
    ap (λ r. slots r c.header.author.0) place.0 ∙ ap (slots round) place.1 ∙ held

-- ---- lists that are made of slots

-- a test of what is held passes alike where what is new fails it
pub any_same : {X : Type 0} (before after : ℕ → Option X) (test other : X → Bool) (authors : List ℕ)
    → ((a : ℕ) (x : X) → before a ≡ Some x → (after a ≡ Some x) × (other x ≡ test x))
    → ((a : ℕ) (x : X) → before a ≡ None → after a ≡ Some x → other x ≡ false)
    → list_any other (filter_map after authors) ≡ list_any test (filter_map before authors)
any_same before after test other [] old new = refl
any_same before after test other (a ∷ authors) old new =
    let rest = any_same before after test other authors old new in
    elim (given_or_none (before a)) [
      | inl found ↦ let facts = old a found.0 found.1 in rw (found.1, facts.0, facts.1) (ap (λ b. test found.0 || b) rest)
      | inr none ↦ elim (given_or_none (after a)) [
        | inl fresh ↦ let fails = new a fresh.0 none fresh.1 in rw (none, fresh.1, fails) rest
        | inr nothing ↦ rw (none, nothing) rest
      ]
    ]

-- and picks alike
pub picked_same : {X : Type 0} (before after : ℕ → Option X) (test other : X → Bool) (authors : List ℕ)
    → ((a : ℕ) (x : X) → before a ≡ Some x → (after a ≡ Some x) × (other x ≡ test x))
    → ((a : ℕ) (x : X) → before a ≡ None → after a ≡ Some x → other x ≡ false)
    → filter other (filter_map after authors) ≡ filter test (filter_map before authors)
picked_same before after test other [] old new = refl
picked_same before after test other (a ∷ authors) old new =
    let rest = picked_same before after test other authors old new in
    elim (given_or_none (before a)) [
      | inl found ↦
          let facts = old a found.0 found.1 in
          elim (cases_Bool (test found.0)) [
            | inl passes ↦ let also = facts.1 ∙ passes in rw (found.1, facts.0, also, passes) (ap (λ l. found.0 ∷ l) rest)
            | inr fails ↦ let also = facts.1 ∙ fails in rw (found.1, facts.0, also, fails) rest
          ]
      | inr none ↦ elim (given_or_none (after a)) [
        | inl fresh ↦ let fails = new a fresh.0 none fresh.1 in rw (none, fresh.1, fails) rest
        | inr nothing ↦ rw (none, nothing) rest
      ]
    ]

-- what passed among what is held passes where all that is kept
pub passes_also : {X : Type 0} (before after : Option X) (test : X → Bool) → ((x : X) → before ≡ Some x → after ≡ Some x)
    → option_map_or test before false ≡ true → option_map_or test after false ≡ true
passes_also (Some x) after test kept passes = ap (λ o. option_map_or test o false) (kept x refl) ∙ passes
passes_also None after test kept passes = absurd cc

-- nothing that is held passes a test
none_passes : {X : Type 0} (held : ℕ → Option X) (test : X → Bool) (authors : List ℕ) → ((a : ℕ) (x : X) → held a ≡ Some x → test x ≡ false) → list_any test (filter_map held authors) ≡ false
none_passes held test [] fails = refl
none_passes held test (a ∷ authors) fails =
    let rest = none_passes held test authors fails in
    elim (given_or_none (held a)) [
      | inl found ↦ let fails_here = fails a found.0 found.1 in rw (found.1, fails_here) rest
      | inr none ↦ rw none rest
    ]

-- ---- paths

pub and_false : (b : Bool) → (b && false) ≡ false
and_false true = refl
and_false false = refl

-- no path leads from what was held to what is new
path_to_new : (n : ℕ) (before after : Slots) → Extends before after → (steps : ℕ) (start : Certificate) (round author : ℕ) (c : Certificate)
    → IsIn before start → before round author ≡ None → after round author ≡ Some c → has_path n after steps start c ≡ false
path_to_new n before after ext zero start round author c held none new =
    elim (cases_Bool (is_of_slot start.header.round start.header.author.0 c.header)) [
      | inl here ↦
          let place = slot_is start.header.round start.header.author.0 c.header here in
          let own = slot_is round author c.header (ext.placed_after round author c new) in
          absurd (none-some start (sym none ∙ ap (λ r. before r author) (sym own.0 ∙ place.0) ∙ ap (before start.header.round) (sym own.1 ∙ place.1) ∙ held))
      | inr other ↦ other
    ]
path_to_new n before after ext (suc steps) start round author c held none new =
    none_passes (after (c.header.round + 1)) (λ child. has_path n after steps start child && is_parent c child) (numbers n)
    (λ a child is. ap (λ b. has_path n after steps start child && b) (ext.childless round author c none new (c.header.round + 1) a child is) ∙ and_false (has_path n after steps start child))

-- and those between what was held are as before
paths_same : (n : ℕ) (before after : Slots) → Extends before after → (steps : ℕ) (start end : Certificate) → IsIn before start → has_path n after steps start end ≡ has_path n before steps start end
paths_same n before after ext zero start end held = refl
paths_same n before after ext (suc steps) start end held =
    any_same (before (end.header.round + 1)) (after (end.header.round + 1))
    (λ child. has_path n before steps start child && is_parent end child) (λ child. has_path n after steps start child && is_parent end child) (numbers n)
    (λ a child is. (ext.kept (end.header.round + 1) a child is, ap (λ b. b && is_parent end child) (paths_same n before after ext steps start child held)))
    (λ a child none new. ap (λ b. b && is_parent end child) (path_to_new n before after ext steps start (end.header.round + 1) a child held none new))

pub reaches_same : (n : ℕ) (before after : Slots) → Extends before after → (start end : Certificate) → IsIn before start → reaches n after start end ≡ reaches n before start end
reaches_same n before after ext start end held =
    ap (λ b. nat_le end.header.round start.header.round && b) (paths_same n before after ext (start.header.round - end.header.round) start end held)

pub reaches_new : (n : ℕ) (before after : Slots) → Extends before after → (start : Certificate) (round author : ℕ) (c : Certificate)
    → IsIn before start → before round author ≡ None → after round author ≡ Some c
    → reaches n after start c ≡ false
reaches_new n before after ext start round author c held none new =
    ap (λ b. nat_le c.header.round start.header.round && b) (path_to_new n before after ext (start.header.round - c.header.round) start round author c held none new)
    ∙ and_false (nat_le c.header.round start.header.round)

-- ---- what a leader orders

-- a ledger with these slots, and more coins
abbrev pub grown : Ledger → Slots → List ℕ → Ledger
grown ledger slots more = record { charter = ledger.charter; slots = slots; coins = ledger.coins ++ more }

-- the leader before is none, or was held
abbrev pub WasHeld : Slots → Option Certificate → Type 0
WasHeld slots previous = (c : Certificate) → previous ≡ Some c → IsIn slots c

past_same : (before : Ledger) (after : Slots) → Extends before.slots after → (more : List ℕ) (previous : Option Certificate) (c : Certificate)
    → WasHeld before.slots previous → is_past (grown before after more) previous c ≡ is_past before previous c
past_same before after ext more None c held = refl
past_same before after ext more (Some last) c held = reaches_same (size_in before) before.slots after ext last c (held last refl)

round_picked : (before : Ledger) (after : Slots) → Extends before.slots after → (more : List ℕ) (previous : Option Certificate) (last : Certificate)
    → WasHeld before.slots previous → IsIn before.slots last → (round : ℕ)
    → filter (is_ordered_by (grown before after more) previous last) (round_of (size_in before) after round)
    ≡ filter (is_ordered_by before previous last) (round_of (size_in before) before.slots round)
round_picked before after ext more previous last past held round =
    picked_same (before.slots round) (after round) (is_ordered_by before previous last) (is_ordered_by (grown before after more) previous last) (numbers (size_in before))
    (λ a c is. (
      ext.kept round a c is,
      ap (λ b. nat_le last.header.round (c.header.round + before.charter.depth) && (b && not (is_past (grown before after more) previous c)))
          (reaches_same (size_in before) before.slots after ext last c held)
          ∙ ap (λ b. nat_le last.header.round (c.header.round + before.charter.depth) && (reaches (size_in before) before.slots last c && not b)) (past_same before after ext more previous c past),
    ))
    (λ a c none new.
    ap (λ b. nat_le last.header.round (c.header.round + before.charter.depth) && (b && not (is_past (grown before after more) previous c)))
    (reaches_new (size_in before) before.slots after ext last round a c held none new)
    ∙ and_false (nat_le last.header.round (c.header.round + before.charter.depth)))

rounds_picked : (before : Ledger) (after : Slots) → Extends before.slots after → (more : List ℕ) (previous : Option Certificate) (last : Certificate)
    → WasHeld before.slots previous → IsIn before.slots last → (rounds : List ℕ)
    → filter (is_ordered_by (grown before after more) previous last) (flat_map (round_of (size_in before) after) rounds)
    ≡ filter (is_ordered_by before previous last) (flat_map (round_of (size_in before) before.slots) rounds)
rounds_picked before after ext more previous last past held [] = refl
rounds_picked before after ext more previous last past held (round ∷ rounds) =
    filter-append (is_ordered_by (grown before after more) previous last) (round_of (size_in before) after round) (flat_map (round_of (size_in before) after) rounds)
    ∙ ap (λ l. l ++ filter (is_ordered_by (grown before after more) previous last) (flat_map (round_of (size_in before) after) rounds))
    (round_picked before after ext more previous last past held round)
    ∙ ap (λ l. filter (is_ordered_by before previous last) (round_of (size_in before) before.slots round) ++ l) (rounds_picked before after ext more previous last past held rounds)
    ∙ sym (filter-append (is_ordered_by before previous last) (round_of (size_in before) before.slots round) (flat_map (round_of (size_in before) before.slots) rounds))

segment_same : (before : Ledger) (after : Slots) → Extends before.slots after → (more : List ℕ) (previous : Option Certificate) (last : Certificate)
    → WasHeld before.slots previous → IsIn before.slots last
    → segment (grown before after more) previous last ≡ segment before previous last
segment_same before after ext more previous last past held = rounds_picked before after ext more previous last past held (range_with_len 1 last.header.round)

pub segments_same : (before : Ledger) (after : Slots) → Extends before.slots after → (more : List ℕ) (previous : Option Certificate)
    (chain : List Certificate) → WasHeld before.slots previous → ((c : Certificate) → Contains chain c → IsIn before.slots c)
    → segments (grown before after more) previous chain ≡ segments before previous chain
segments_same before after ext more previous [] past held = refl
segments_same before after ext more previous (last ∷ chain) past held =
    let here = held last (Contains-first chain last) in
    ap (λ l. l ++ segments (grown before after more) (Some last) chain) (segment_same before after ext more previous last past here)
    ∙ ap (λ l. segment before previous last ++ l)
    (segments_same before after ext more (Some last) chain (λ c is. subst (IsIn before.slots) (same_Some last c is) here) (λ c inside. held c (Contains-later last chain c inside)))

-- what leaders after others order comes after
pub segments-append : (ledger : Ledger) (previous : Option Certificate) (front : List Certificate) (last : Certificate) (rest : List Certificate)
    → segments ledger previous ((front ++ last ∷ []) ++ rest) ≡ segments ledger previous (front ++ last ∷ []) ++ segments ledger (Some last) rest
segments-append ledger previous [] last rest =
    ap (λ l. l ++ segments ledger (Some last) rest) (sym (append-nil (segment ledger previous last)))
segments-append ledger previous (first ∷ front) last rest =
    ap (λ l. segment ledger previous first ++ l) (segments-append ledger (Some first) front last rest)
    ∙ sym (append_assoc (segment ledger previous first) (segments ledger (Some first) (front ++ last ∷ [])) (segments ledger (Some last) rest))

-- ---- leaders and the chain

-- the coins may have one more, of a later wave
pub slice_get-longer : {X : Type 0} (xs more : List X) (i : ℕ) → i < length xs → slice_get (xs ++ more) i ≡ slice_get xs i
slice_get-longer [] more i less = absurd (omega (arith, less))
slice_get-longer (x ∷ xs) more zero less = refl
slice_get-longer (x ∷ xs) more (suc i) less = slice_get-longer xs more i (omega (arith, less))

pub leader_kept : (before : Ledger) (after : Slots) → Extends before.slots after → (more : List ℕ) (wave : ℕ) (c : Certificate) → leader before wave
    ≡ Some c → leader (grown before after more) wave ≡ Some c
leader_kept before after ext more zero c is = absurd cc
leader_kept before after ext more (suc wave) c is =
    elim (given_or_none (slice_get before.coins wave)) [
      | inl coin ↦
          let within = slice_get_within before.coins wave coin.0 coin.1 in
          let held = rw coin.1 at is in
          let coin' = slice_get-longer before.coins more wave within ∙ coin.1 in
          rw coin' (ext.kept (2 * wave + 1) (coin.0 % size_in before) c held)
      | inr none ↦ let nothing = rw none at is in absurd cc
    ]

-- a leader that wasn't there before is new
pub leader_new : (before : Ledger) (after : Slots) (more : List ℕ) (wave : ℕ) (c : Certificate) → wave ≤ length before.coins → leader before wave
    ≡ None → leader (grown before after more) wave ≡ Some c
    → (round : ℕ) × (author : ℕ) × (before.slots round author ≡ None) × (after round author ≡ Some c)
leader_new before after more zero c within none new = absurd cc
leader_new before after more (suc wave) c within none new =
    elim (given_or_none (slice_get before.coins wave)) [
      | inl coin ↦
          let coin' = slice_get-longer before.coins more wave (omega (arith, within)) ∙ coin.1 in
          let free = rw coin.1 at none in
          let held = rw coin' at new in
          (2 * wave + 1, coin.0 % size_in before, free, held)
      | inr nothing ↦
          let nothing' = slice_get-longer before.coins more wave (omega (arith, within)) ∙ nothing in
          let bad = rw nothing' at new in
          absurd cc
    ]

pub leader_in : (ledger : Ledger) (wave : ℕ) (c : Certificate) → AreInPlace ledger.slots → leader ledger wave ≡ Some c → IsIn ledger.slots c
leader_in ledger zero c placed is = absurd cc
leader_in ledger (suc wave) c placed is =
    elim (given_or_none (slice_get ledger.coins wave)) [
      | inl coin ↦ let held = rw coin.1 at is in is_in ledger.slots (2 * wave + 1) (coin.0 % size_in ledger) c placed held
      | inr none ↦ let nothing = rw none at is in absurd cc
    ]

-- a wave that was directly committed is
pub directly_committed_kept : (before : Ledger) (after : Slots) → Extends before.slots after → (more : List ℕ) (wave : ℕ)
    → is_directly_committed before wave ≡ true → is_directly_committed (grown before after more) wave ≡ true
directly_committed_kept before after ext more wave is =
    elim (given_or_none (leader before wave)) [
      | inl found ↦
          let also = leader_kept before after ext more wave found.0 found.1 in
          let supported = rw found.1 at is in
          let enough = leb-true _ _ supported in
          let above = found.0.header.round + 1 in
          let more_of = weight-within before.charter (λ m. option_map_or (is_parent found.0) (before.slots above m) false) (λ m. option_map_or (is_parent found.0) (after above m) false)
          (λ m within. passes_also (before.slots above m) (after above m) (is_parent found.0) (λ c held. ext.kept above m c held)) in
          rw also (le-leb _ _ (omega (arith, enough, more_of)))
      | inr none ↦ let nothing = rw none at is in absurd cc
    ]
