-- Ledgers without votes: their paths, leaders and order are those with votes.
use Rattle.std.proofs.Common.{◌≡◌, ℕ, zero, suc, ◌+◌, ◌-◌, Bool, false, List, [], ◌∷◌, ◌++◌, map, Option, Some, None, inl, inr, refl, ap, sym, ◌∙◌, subst}
use Rattle.std.proofs.Math.Path.{fun_ext}
use Rattle.std.specs.Prelude.{not, filter, filter_map, flat_map, nat_le, option_map, slice_get, ◌&&◌, ◌||◌}
use Rattle.std.specs.List.{list_any, range_with_len}
use Rattle.std.specs.Option.{option_map_or}
use Rattle.std.proofs.lemmas.Bool.{cases_Bool}
use Rattle.std.proofs.lemmas.Option.{same_Some, none-some}
use Rattle.std.proofs.lemmas.List.{map-append}
use Rattle.std.proofs.lemmas.List.Elements.{filter-append}
use Rattle.committee.specs.Charter.{Charter, numbers, weight, support_of}
use Rattle.spec_model.specs.Ordering.{Ledger, size_in, reaches_in, leader, supports, has_support, is_directly_committed, newer_to, is_past, is_ordered_by, segment, segments}
use Rattle.spec_model.specs.Slots.{Slots, certificate_digest, is_of_slot, round_of, is_parent, has_path, reaches}
use Rattle.spec_model.specs.Words.{Certificate, Digest}
use Rattle.spec_laws.proofs.Growing.{AreInPlace}
use Rattle.spec_laws.proofs.Lists.{given_or_none}
use Rattle.spec_laws.proofs.Meeting.{IsRooted, AreRooted}

-- a certificate without its votes
abbrev pub bare : Certificate → Certificate
bare c = record { header = c.header; votes = [] }

-- what each slot holds, without votes
abbrev pub bared : Slots → Slots
bared slots round author = option_map bare (slots round author)

-- a ledger without votes
abbrev pub plain : Ledger → Ledger
plain ledger = record { charter = ledger.charter; slots = bared ledger.slots; coins = ledger.coins }

-- what a slot holds without votes it holds with some
pub bared_from : (slots : Slots) (round author : ℕ) (b : Certificate) → bared slots round author ≡ Some b
    → (c : Certificate) × (slots round author ≡ Some c) × (bare c ≡ b)
bared_from slots round author b held =
    elim (given_or_none (slots round author)) [
      | inl found ↦ let held' = rw found.1 at held in (found.0, found.1, same_Some (bare found.0) b held')
      | inr none ↦ let held' = rw none at held in absurd (none-some b held')
    ]

-- and the converse
pub bared_to : (slots : Slots) (round author : ℕ) (c : Certificate) → slots round author ≡ Some c
    → bared slots round author ≡ Some (bare c)
bared_to slots round author c held = ap (option_map bare) held

-- it is of its slot
pub bared_place : (slots : Slots) → AreInPlace slots → AreInPlace (bared slots)
bared_place slots placed round author b held =
    let from = bared_from slots round author b held in
    ap (λ (c : Certificate). is_of_slot round author c.header) (sym from.2) ∙ placed round author from.0 from.1

-- and has its parents there if it had them
pub bared_rooted : (charter : Charter) (slots : Slots) (base : ℕ) → AreRooted charter slots base
    → AreRooted charter (bared slots) base
bared_rooted charter slots base rooted round author b held above =
    let from = bared_from slots round author b held in
    let root = rooted round author from.0 from.1 above in
    let bare_root : IsRooted charter (bared slots) round author (bare from.0) =
    record {
      member = root.member;
      quorum = root.quorum;
      held = λ p among.
          let parent = root.held p among in
          (bare parent.0, bared_to slots (round - 1) p.author.0 parent.0 parent.1, parent.2);
    } in
    subst (IsRooted charter (bared slots) round author) from.2 bare_root

-- ---- lists that are made of slots

-- a test that looks at no votes passes alike
any_bared : (held : ℕ → Option Certificate) (test other : Certificate → Bool)
    → ((c : Certificate) → other (bare c) ≡ test c) → (authors : List ℕ)
    → list_any other (filter_map (λ a. option_map bare (held a)) authors) ≡ list_any test (filter_map held authors)
any_bared held test other same [] = refl
any_bared held test other same (a ∷ authors) =
    let rest = any_bared held test other same authors in
    elim (given_or_none (held a)) [
      | inl found ↦ let here = same found.0 in rw (found.1, here) (ap (λ b. test found.0 || b) rest)
      | inr none ↦ rw none rest
    ]

-- and picks alike
picked_bared : (held : ℕ → Option Certificate) (test other : Certificate → Bool)
    → ((c : Certificate) → other (bare c) ≡ test c) → (authors : List ℕ)
    → filter other (filter_map (λ a. option_map bare (held a)) authors)
    ≡ map bare (filter test (filter_map held authors))
picked_bared held test other same [] = refl
picked_bared held test other same (a ∷ authors) =
    let rest = picked_bared held test other same authors in
    elim (given_or_none (held a)) [
      | inl found ↦ elim (cases_Bool (test found.0)) [
        | inl passes ↦ let here = same found.0 ∙ passes in rw (found.1, here, passes) (ap (λ l. bare found.0 ∷ l) rest)
        | inr fails ↦ let here = same found.0 ∙ fails in rw (found.1, here, fails) rest
      ]
      | inr none ↦ rw none rest
    ]

-- ---- paths

-- paths go by headers
paths_bared : (n : ℕ) (slots : Slots) (steps : ℕ) (start end : Certificate)
    → has_path n (bared slots) steps (bare start) (bare end) ≡ has_path n slots steps start end
paths_bared n slots zero start end = refl
paths_bared n slots (suc steps) start end =
    any_bared (slots (end.header.round + 1)) (λ child. has_path n slots steps start child && is_parent end child)
    (λ child. has_path n (bared slots) steps (bare start) child && is_parent (bare end) child)
    (λ c. ap (λ b. b && is_parent end c) (paths_bared n slots steps start c)) (numbers n)

-- and so does what one certificate reaches
reaches_bared : (n : ℕ) (slots : Slots) (start end : Certificate)
    → reaches n (bared slots) (bare start) (bare end) ≡ reaches n slots start end
reaches_bared n slots start end =
    ap (λ b. nat_le end.header.round start.header.round && b)
    (paths_bared n slots (start.header.round - end.header.round) start end)

-- ---- leaders

-- the leader of a wave is the same
pub leader_bared : (ledger : Ledger) (wave : ℕ) → leader (plain ledger) wave ≡ option_map bare (leader ledger wave)
leader_bared ledger zero = refl
leader_bared ledger (suc wave) =
    elim (given_or_none (slice_get ledger.coins wave)) [
      | inl coin ↦ rw coin.1 refl
      | inr none ↦ rw none refl
    ]

-- it has the same support
support_bared : (ledger : Ledger) (c : Certificate) → has_support (plain ledger) (bare c) ≡ has_support ledger c
support_bared ledger c =
    let same : (member : ℕ) → supports (plain ledger) (bare c) member ≡ supports ledger c member =
    λ member.
    elim (given_or_none (ledger.slots (c.header.round + 1) member)) [
      | inl found ↦ rw found.1 refl
      | inr none ↦ rw none refl
    ] in
    ap (λ (f : ℕ → Bool). nat_le (support_of ledger.charter) (weight ledger.charter f)) (fun_ext same)

-- so the same waves are committed by themselves
pub committed_bared : (ledger : Ledger) (wave : ℕ)
    → is_directly_committed (plain ledger) wave ≡ is_directly_committed ledger wave
committed_bared ledger wave =
    ap (λ o. option_map_or (has_support (plain ledger)) o false) (leader_bared ledger wave)
    ∙ elim (given_or_none (leader ledger wave)) [
      | inl found ↦ rw found.1 (support_bared ledger found.0)
      | inr none ↦ rw none refl
    ]

-- and the same leaders with them
pub newer_bared : (ledger : Ledger) (base wave : ℕ) (last : Certificate)
    → newer_to (plain ledger) base wave (bare last) ≡ map bare (newer_to ledger base wave last)
newer_bared ledger base zero last = refl
newer_bared ledger base (suc wave) last =
    let lower = newer_bared ledger base wave in
    let same = leader_bared ledger (suc wave) in
    elim (cases_Bool (nat_le (suc wave) base)) [
      | inl done ↦ rw done refl
      | inr young ↦ elim (given_or_none (leader ledger (suc wave))) [
        | inr none ↦ let also = same ∙ ap (option_map bare) none in rw (young, none, also) (lower last)
        | inl earlier ↦
            let also = same ∙ ap (option_map bare) earlier.1 in
            let alike = reaches_bared (size_in ledger) ledger.slots last earlier.0 in
            elim (cases_Bool (reaches_in ledger last earlier.0)) [
              | inl reached ↦
                  let reached' = alike ∙ reached in
                  rw (young, earlier.1, also, reached, reached')
                  (ap (λ l. l ++ bare last ∷ []) (lower earlier.0)
                  ∙ sym (map-append bare (newer_to ledger base wave earlier.0) (last ∷ [])))
              | inr missed ↦ let missed' = alike ∙ missed in rw (young, earlier.1, also, missed, missed') (lower last)
            ]
      ]
    ]

-- ---- what leaders order

-- what a leader before reaches
past_bared : (ledger : Ledger) (previous : Option Certificate) (c : Certificate)
    → is_past (plain ledger) (option_map bare previous) (bare c) ≡ is_past ledger previous c
past_bared ledger None c = refl
past_bared ledger (Some last) c = reaches_bared (size_in ledger) ledger.slots last c

-- what a leader orders is tested alike
ordered_bared : (ledger : Ledger) (previous : Option Certificate) (last c : Certificate)
    → is_ordered_by (plain ledger) (option_map bare previous) (bare last) (bare c)
    ≡ is_ordered_by ledger previous last c
ordered_bared ledger previous last c =
    let near = nat_le last.header.round (c.header.round + ledger.charter.depth) in
    ap (λ b. near && (b && not (is_past (plain ledger) (option_map bare previous) (bare c))))
    (reaches_bared (size_in ledger) ledger.slots last c)
    ∙ ap (λ b. near && (reaches_in ledger last c && not b)) (past_bared ledger previous c)

-- so of each round it orders the same
rounds_bared : (ledger : Ledger) (previous : Option Certificate) (last : Certificate) (rounds : List ℕ)
    → filter (is_ordered_by (plain ledger) (option_map bare previous) (bare last))
    (flat_map (round_of (size_in ledger) (bared ledger.slots)) rounds)
    ≡ map bare (filter (is_ordered_by ledger previous last) (flat_map (round_of (size_in ledger) ledger.slots) rounds))
rounds_bared ledger previous last [] = refl
rounds_bared ledger previous last (round ∷ rounds) =
    let n = size_in ledger in
    let test = is_ordered_by ledger previous last in
    let other = is_ordered_by (plain ledger) (option_map bare previous) (bare last) in
    let here = round_of n ledger.slots round in
    let there = flat_map (round_of n ledger.slots) rounds in
    filter-append other (round_of n (bared ledger.slots) round) (flat_map (round_of n (bared ledger.slots)) rounds)
    ∙ ap (λ l. l ++ filter other (flat_map (round_of n (bared ledger.slots)) rounds))
    (picked_bared (ledger.slots round) test other (ordered_bared ledger previous last) (numbers n))
    ∙ ap (λ l. map bare (filter test here) ++ l) (rounds_bared ledger previous last rounds)
    ∙ sym (map-append bare (filter test here) (filter test there))
    ∙ ap (map bare) (sym (filter-append test here there))

-- and so do leaders one after the other
pub segments_bared : (ledger : Ledger) (previous : Option Certificate) (chain : List Certificate)
    → segments (plain ledger) (option_map bare previous) (map bare chain) ≡ map bare (segments ledger previous chain)
segments_bared ledger previous [] = refl
segments_bared ledger previous (last ∷ chain) =
    ap (λ l. l ++ segments (plain ledger) (Some (bare last)) (map bare chain))
    (rounds_bared ledger previous last (range_with_len 1 last.header.round))
    ∙ ap (λ l. map bare (segment ledger previous last) ++ l) (segments_bared ledger (Some last) chain)
    ∙ sym (map-append bare (segment ledger previous last) (segments ledger (Some last) chain))

-- the digests, which are of headers
abbrev pub digests : List Certificate → List Digest
digests certificates = map (λ c. certificate_digest c.header) certificates

-- are the same without votes
pub digests_bared : (certificates : List Certificate) → digests (map bare certificates) ≡ digests certificates
digests_bared [] = refl
digests_bared (c ∷ certificates) = ap (λ l. certificate_digest c.header ∷ l) (digests_bared certificates)
