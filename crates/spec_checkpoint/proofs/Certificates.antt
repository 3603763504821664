-- The certificates of a checkpoint without a fault are as they have to be.
use Rattle.std.proofs.Common.{◌≡◌, ◌⊎◌, ℕ, zero, suc, ◌+◌, ◌-◌, ◌*◌, ◌<◌, ◌≤◌, Bool, true, false, inl, inr, List, [], ◌∷◌, map, max, refl, sym, ap, ◌∙◌, subst, arith}
use Rattle.std.specs.Prelude.{◌==◌, nat_le, find, fold, All, Contains, Option, Some, None, slice_get, option_and_then, length, ◌%◌}
use Rattle.std.specs.List.{list_all}
use Rattle.std.specs.Option.{option_map_or}
use Rattle.std.proofs.lemmas.Bool.{cases_Bool, cases_lt, and_parts, leb-true, eqb-true}
use Rattle.std.proofs.lemmas.List.Elements.{All-contains}
use Rattle.std.proofs.lemmas.Option.{none-some}
use Rattle.committee.specs.Charter.{numbers}
use Rattle.spec_laws.proofs.Lists.{Contains-nothing, Contains-cases, Contains-first, Contains-later, found_passes}
use Rattle.spec_laws.proofs.Meeting.{mapped_from}
use Rattle.spec_laws.proofs.OrderGrows.{members_some, sound_certificate}
use Rattle.spec_laws.proofs.Proposed.{number_below}
use Rattle.spec_laws.proofs.Votes.{slot_is, of_its_slot}
use Rattle.spec_machine.proofs.FreshSound.{genesis_found}
use Rattle.spec_machine.proofs.Grown.{each_within}
use Rattle.spec_machine.specs.Sound.{IsReceived, AreCertificates}
use Rattle.spec_model.specs.Admitting.{IsTaken}
use Rattle.spec_model.specs.Holdings.{genesis, all_held, ledger_of}
use Rattle.spec_model.specs.Nodes.{Node, IsNode, size_of}
use Rattle.spec_model.specs.Ordering.{leader, has_support, is_directly_committed, top_to, floor_by}
use Rattle.spec_model.specs.Slots.{is_of_slot, slots_of}
use Rattle.spec_model.specs.States.{floor_in, highest_of}
use Rattle.spec_model.specs.Words.{Certificate}
use Rattle.wire.specs.declared.message.Message.TheVariants as message
use Rattle.spec_checkpoint.specs.Data.{Checkpoint, IsKeptCertificate}
use Rattle.spec_checkpoint.specs.Faults.{passes, is_certificate_sound}
use Rattle.spec_checkpoint.specs.Meaning.{listed_floor, state_in}
use Rattle.spec_checkpoint.proofs.Floors.{same_floor}
use Rattle.spec_checkpoint.proofs.Tests.{each_passes, passes_none}

-- ---- what a slot holds

-- a certificate of the genesis, where the floor is 0; or one that is kept, of a round above it
pub data IsHeld (node : Node) (checkpoint : Checkpoint) (round author : ℕ) (c : Certificate) : Type 0 where
  first : round ≡ 0 → listed_floor node checkpoint ≡ 0 → author < size_of node → c ≡ genesis author → IsHeld node checkpoint round author c
  kept : (round == 0) ≡ false → Contains checkpoint.certificates c → IsHeld node checkpoint round author c

genesis_of : (node : Node) (author : ℕ) (c : Certificate) → slots_of (map genesis (numbers (size_of node))) 0 author ≡ Some c → (c ≡ genesis author) × (author < size_of node)
genesis_of node author c held =
    let n = size_of node in
    let found = found_passes (λ d. is_of_slot 0 author d.header) (map genesis (numbers n)) c held in
    let from = mapped_from genesis (numbers n) c found.1 in
    let place = slot_is 0 author c.header found.0 in
    let by : from.0 ≡ author = ap (λ (d : Certificate). d.header.author.0) from.2 ∙ place.1 in
    let below = number_below 0 n from.0 from.1 in
    (sym from.2 ∙ ap genesis by, omega (arith, below, by))

pub held_as : (node : Node) (checkpoint : Checkpoint) (round author : ℕ) (c : Certificate) → (state_in node checkpoint).slots round author ≡ Some c → IsHeld node checkpoint round author c
held_as node checkpoint round author c held = elim (cases_Bool (round == 0)) [
  | inl zero_round ↦ elim (cases_Bool (listed_floor node checkpoint == 0)) [
    | inl no_floor ↦
        let it = genesis_of node author c (sym (rw (zero_round, no_floor) refl) ∙ held) in
        first (eqb-true round 0 zero_round) (eqb-true (listed_floor node checkpoint) 0 no_floor) it.1 it.0
    | inr floor ↦ absurd (none-some c (sym (rw (zero_round, floor) refl) ∙ held))
  ]
  | inr above ↦ kept above (found_passes (λ d. is_of_slot round author d.header) checkpoint.certificates c (sym (rw above refl) ∙ held)).1
]

placed : (node : Node) (checkpoint : Checkpoint) (round author : ℕ) (c : Certificate) → (state_in node checkpoint).slots round author ≡ Some c → is_of_slot round author c.header ≡ true
placed node checkpoint round author c held = elim (cases_Bool (round == 0)) [
  | inl zero_round ↦ elim (cases_Bool (listed_floor node checkpoint == 0)) [
    | inl no_floor ↦
        let found = (found_passes (λ d. is_of_slot 0 author d.header) (map genesis (numbers (size_of node))) c (sym (rw (zero_round, no_floor) refl) ∙ held)).0 in
        ap (λ r. is_of_slot r author c.header) (eqb-true round 0 zero_round) ∙ found
    | inr floor ↦ absurd (none-some c (sym (rw (zero_round, floor) refl) ∙ held))
  ]
  | inr above ↦ (found_passes (λ d. is_of_slot round author d.header) checkpoint.certificates c (sym (rw above refl) ∙ held)).0
]

-- ---- the genesis

the_genesis : (node : Node) (checkpoint : Checkpoint) → listed_floor node checkpoint ≡ 0 → (author : ℕ) → author < size_of node → (state_in node checkpoint).slots 0 author ≡ Some (genesis author)
the_genesis node checkpoint none author member =
    let zero_floor : (listed_floor node checkpoint == 0) ≡ true = rw none refl in
    rw zero_floor (genesis_found 0 (size_of node) author (omega arith) (omega (arith, member)))

-- ---- the greatest round

-- it is the one that it begins with, or that of a certificate
reached_by : (most : ℕ) (certificates : List Certificate)
    → (fold max most (map (λ (d : Certificate). d.header.round) certificates) ≡ most)
    ⊎ ((c : Certificate) × Contains certificates c × (c.header.round ≡ fold max most (map (λ (d : Certificate). d.header.round) certificates)))
reached_by most [] = inl refl
reached_by most (d ∷ rest) = elim (reached_by (max most d.header.round) rest) [
  | inr one ↦ inr (one.0, Contains-later d rest one.0 one.1, one.2)
  | inl same ↦ elim (cases_lt most d.header.round) [
    | inl less ↦ inr (d, Contains-first rest d, (let it = same in grind (arith, it, less)))
    | inr past ↦ inl (let it = same in grind (arith, it, past))
  ]
]

-- a certificate that passes a test is found, or another one that does
pub found_some : {X : Type 0} (test : X → Bool) (xs : List X) (x : X) → Contains xs x → test x ≡ true → (y : X) × (find test xs ≡ Some y)
found_some test [] x inside passes = absurd (Contains-nothing x inside)
found_some test (y ∷ xs) x inside passes = elim (cases_Bool (test y)) [
  | inl so ↦ (y, rw so refl)
  | inr off ↦ elim (Contains-cases y xs x inside) [
    | inl same ↦ absurd (let bad : true ≡ false = sym passes ∙ ap test (sym same) ∙ off in cc)
    | inr later ↦ (let rest = found_some test xs x later passes in (rest.0, rw off rest.1))
  ]
]

-- ---- without certificates there is no floor

module _ (node : Node) (coins : List ℕ) where
  none_leads : (wave : ℕ) → leader (ledger_of node (slots_of []) coins) wave ≡ None
  none_leads zero = refl
  none_leads (suc wave) = by (slice_get coins wave)
    where
      by : (coin : Option ℕ) → option_and_then (λ c. slots_of [] (2 * wave + 1) (c % length node.charter.keys)) coin ≡ None
      by None = refl
      by (Some c) = refl

  none_on_top : (wave : ℕ) → top_to (ledger_of node (slots_of []) coins) wave ≡ None
  none_on_top zero = refl
  none_on_top (suc wave) =
      let off : is_directly_committed (ledger_of node (slots_of []) coins) (suc wave) ≡ false =
      ap (λ o. option_map_or (has_support (ledger_of node (slots_of []) coins)) o false) (none_leads (suc wave)) in
      rw off (none_on_top wave)

  no_floor : floor_by (ledger_of node (slots_of []) coins) ≡ 0
  no_floor = ap (λ o. option_map_or (λ wave. (2 * wave - 1) - node.charter.depth) o 0) (none_on_top (length coins))

-- ---- all of it

module _ (node : Node) (checkpoint : Checkpoint) (sound : IsNode node) (canonical : All IsKeptCertificate checkpoint.certificates)
    (tests : list_all (is_certificate_sound node checkpoint) checkpoint.certificates ≡ true) where
  is_kept : (c : Certificate) → Contains checkpoint.certificates c → IsKeptCertificate c
  is_kept c inside = All-contains IsKeptCertificate checkpoint.certificates c canonical inside

  -- what a certificate's test says
  record IsSoundOne (c : Certificate) : Type 0 where
    pub above : listed_floor node checkpoint ≤ c.header.round
    pub taken : IsTaken node (record { sender = node.own; message = message.Certificate c })
    pub held : all_held (state_in node checkpoint).slots (listed_floor node checkpoint) c.header ≡ true

  sound_one : (c : Certificate) → Contains checkpoint.certificates c → IsSoundOne c
  sound_one c inside =
      let all = each_passes (is_certificate_sound node checkpoint) checkpoint.certificates c tests inside in
      let one = and_parts (nat_le (listed_floor node checkpoint) c.header.round) _ all in
      let two = and_parts (passes node node.own (message.Certificate c)) _ one.1 in
      record {
        above = leb-true (listed_floor node checkpoint) c.header.round one.0;
        taken = record { message = (is_kept c inside).certificate; passed = passes_none node node.own (message.Certificate c) two.0 };
        held = two.1;
      }

  at : (round author : ℕ) (c : Certificate) → (state_in node checkpoint).slots round author ≡ Some c → (c.header.round ≡ round) × (c.header.author.0 ≡ author)
  at round author c held = slot_is round author c.header (placed node checkpoint round author c held)

  lies_above : (round author : ℕ) (c : Certificate) → (state_in node checkpoint).slots round author ≡ Some c → floor_in node (state_in node checkpoint) ≤ round
  lies_above round author c held = by (held_as node checkpoint round author c held)
    where
      by : IsHeld node checkpoint round author c → floor_in node (state_in node checkpoint) ≤ round
      by (first is none member same) = omega (arith, same_floor node checkpoint, none)
      by (kept above inside) = omega (arith, same_floor node checkpoint, (sound_one c inside).above, (at round author c held).0)

  came : (round author : ℕ) (c : Certificate) → (state_in node checkpoint).slots round author ≡ Some c → (c ≡ genesis author) ⊎ IsReceived node (state_in node checkpoint) c
  came round author c held = by (held_as node checkpoint round author c held)
    where
      by : IsHeld node checkpoint round author c → (c ≡ genesis author) ⊎ IsReceived node (state_in node checkpoint) c
      by (first is none member same) = inl same
      by (kept above inside) = inr (record {
        above = (is_kept c inside).above;
        passed = (sound_one c inside).taken;
        held = ap (λ f. all_held (state_in node checkpoint).slots f c.header) (same_floor node checkpoint) ∙ (sound_one c inside).held;
      })

  by_member : (round author : ℕ) (c : Certificate) → (state_in node checkpoint).slots round author ≡ Some c → author < size_of node
  by_member round author c held = by (held_as node checkpoint round author c held)
    where
      by : IsHeld node checkpoint round author c → author < size_of node
      by (first is none member same) = member
      by (kept above inside) = subst (λ a. a < size_of node) (at round author c held).1 (sound_certificate node node.own c (sound_one c inside).taken).member

  at_most : (round author : ℕ) (c : Certificate) → (state_in node checkpoint).slots round author ≡ Some c → round ≤ highest_of checkpoint.certificates
  at_most round author c held = by (held_as node checkpoint round author c held)
    where
      by : IsHeld node checkpoint round author c → round ≤ highest_of checkpoint.certificates
      by (first is none member same) = omega (arith, is)
      by (kept above inside) = let within = each_within 0 checkpoint.certificates c inside in omega (arith, within, (at round author c held).0)

  is_reached : (author : ℕ) × (c : Certificate) × ((state_in node checkpoint).slots (highest_of checkpoint.certificates) author ≡ Some c)
  is_reached = elim (reached_by 0 checkpoint.certificates) [
    | inl none ↦ (0, genesis 0, ap (λ r. (state_in node checkpoint).slots r 0) none ∙ the_genesis node checkpoint (no_certificates none) 0 (omega (arith, members_some node sound)))
    | inr one ↦ greatest one.0 one.1 one.2
  ]
    where
      no_certificates : highest_of checkpoint.certificates ≡ 0 → listed_floor node checkpoint ≡ 0
      no_certificates none = by checkpoint.certificates refl
        where
          by : (certificates : List Certificate) → checkpoint.certificates ≡ certificates → listed_floor node checkpoint ≡ 0
          by [] is = ap (λ (l : List Certificate). floor_by (ledger_of node (slots_of l) checkpoint.coins)) is ∙ no_floor node checkpoint.coins
          by (c ∷ rest) is =
              let inside : Contains checkpoint.certificates c = subst (λ (l : List Certificate). Contains l c) (sym is) (Contains-first rest c) in
              let within = each_within 0 checkpoint.certificates c inside in
              let above = (is_kept c inside).above in
              absurd (omega (arith, within, above, none))

      greatest : (c : Certificate) → Contains checkpoint.certificates c → c.header.round ≡ highest_of checkpoint.certificates
          → (author : ℕ) × (d : Certificate) × ((state_in node checkpoint).slots (highest_of checkpoint.certificates) author ≡ Some d)
      greatest c inside is =
          let found = found_some (λ d. is_of_slot c.header.round c.header.author.0 d.header) checkpoint.certificates c inside (of_its_slot c.header) in
          let positive = (is_kept c inside).above in
          let above : (c.header.round == 0) ≡ false = grind (arith, positive) in
          (c.header.author.0, found.0, ap (λ r. (state_in node checkpoint).slots r c.header.author.0) (sym is) ∙ rw above found.1)

  pub certificates_sound : AreCertificates node (state_in node checkpoint)
  certificates_sound = record {
    placed = placed node checkpoint;
    above = lies_above;
    passed = came;
    of_members = by_member;
    genesis = λ none author member. the_genesis node checkpoint (sym (same_floor node checkpoint) ∙ none) author member;
    highest = at_most;
    reached = is_reached;
  }
