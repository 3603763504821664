-- What the areas of a journal that is added to are read as.
use Rattle.std.proofs.Common.{◌≡◌, inl, inr, ℕ, ◌+◌, ◌-◌, ◌<◌, ◌≤◌, List, [], ◌∷◌, ◌++◌, length, map, Option, Some, None, Ok, refl, sym, ap, ◌∙◌, subst, arith}
use Rattle.std.specs.Prelude.{All, IfSome, IsSome}
use Rattle.std.specs.Option.{option_map_or}
use Rattle.std.proofs.lemmas.Bool.{cases_lt}
use Rattle.std.proofs.lemmas.List.{append-nil, length-map}
use Rattle.std.proofs.lemmas.Option.{none-some}
use Rattle.std.proofs.lemmas.List.Elements.{All-nil, All-cons}
use Rattle.diskmodel.specs.Disk.{Device, LeavesOnly}
use Rattle.journal.specs.Areas.{Areas, alone, base_of, moved_by, pair_of, reports, chosen, stands_in, stands_at}
use Rattle.journal.specs.Format.{kept_at, kept, stands}
use Rattle.journal.specs.Journal.{disk_of, spare_of, with_group, stands_with, IsAlive, IsAlivePair, IsNewPair}
use Rattle.journal.specs.Pairs.{areas_of, areas_with, spare_disk, side_in, generation_in}
use Rattle.journal.specs.declared.journal.Journal.{Journal}
use Rattle.journal.specs.declared.record.Record.{Record}
use Rattle.journal.specs.declared.side.Side.{Side}
use Rattle.journal.specs.declared.side.Side.TheVariants.{First, Second}
use Rattle.journal.specs.declared.spare.Spare.{Spare}
use Rattle.journal.proofs.Reporting.{reports_short, by_reporting, both_older, at_rest_older}
use Rattle.journal.proofs.Walks.{stands_short}
use Rattle.spec_model.specs.Nodes.{Node}
use Rattle.spec_model.specs.States.{State}
use Rattle.spec_world.specs.World.{IsPair, Holds}
use Rattle.spec_world.proofs.Recovering.{ok_is, at_side, some_record}
use Rattle.flusher.specs.Rounds.{areas_at}
use Rattle.flusher.proofs.Reporting.{reports_as}

module _ {D : Type 0} (device : Device D) where
  -- what stands beside a live disk, with these bytes on that
  abbrev beside : Option (Spare D) → List ℕ → Areas
  beside spare left = option_map_or (λ (s : Spare D). pair_of s.side left (device.content s.disk)) spare (alone left)

  abbrev side_on : Option (Spare D) → Side
  side_on spare = option_map_or (λ (s : Spare D). s.side) spare First

  -- the bytes that there are
  areas_now : (spare : Option (Spare D)) (live : D) → beside spare (device.content live)
      ≡ option_map_or (λ (s : Spare D). pair_of s.side (device.content live) (device.content (option_map_or (λ (t : Spare D). t.disk) spare live))) spare (alone (device.content live))
  areas_now None live = refl
  areas_now (Some spare) live = refl

  pub areas_here : (journal : Journal D) → areas_at device journal (device.content (disk_of journal)) ≡ areas_of device journal
  areas_here journal = areas_now (spare_of journal) (disk_of journal)

  -- the bytes of a journal with the same disk beside it
  pub areas_then : (old new : Journal D) → spare_of new ≡ spare_of old → areas_at device old (device.content (disk_of new)) ≡ areas_of device new
  areas_then old new same = ap (λ (s : Option (Spare D)). beside s (device.content (disk_of new))) (sym same) ∙ areas_here new

  -- those of one disk
  pub areas_alone : (journal : Journal D) → spare_of journal ≡ None → areas_of device journal ≡ alone (device.content (disk_of journal))
  areas_alone journal one = sym (areas_here journal) ∙ ap (λ (s : Option (Spare D)). beside s (device.content (disk_of journal))) one

  pub alone_at : (journal : Journal D) (left : List ℕ) → spare_of journal ≡ None → areas_at device journal left ≡ alone left
  alone_at journal left one = ap (λ (s : Option (Spare D)). beside s left) one

  -- two areas stay two
  is_pair : (side : Side) (live other : List ℕ) → IsPair (pair_of side live other)
  is_pair First live other = tt
  is_pair Second live other = tt

  pair_at : (spare : Option (Spare D)) (left also : List ℕ) → IsPair (beside spare left) → IsPair (beside spare also)
  pair_at None left also two = two
  pair_at (Some spare) left also two = is_pair spare.side also (device.content spare.disk)

  pub stays_pair : (journal : Journal D) (left : List ℕ) → IsPair (areas_of device journal) → IsPair (areas_at device journal left)
  stays_pair journal left two =
      pair_at (spare_of journal) (device.content (disk_of journal)) left (subst IsPair (sym (areas_here journal)) two)

  two_of : (spare : Option (Spare D)) (live left : List ℕ) → IsSome spare → IsPair (option_map_or (λ (s : Spare D). pair_of s.side live left) spare (alone live))
  two_of None live left some = absurd (cc)
  two_of (Some spare) live left some = is_pair spare.side live left

  pub pair_with : (journal : Journal D) (left : List ℕ) → IsSome (spare_of journal) → IsPair (areas_with device journal left)
  pair_with journal left some = two_of (spare_of journal) (device.content (disk_of journal)) left some

  -- ---- a journal at a state isn't new

  none_chosen : (live other : List ℕ) → reports live ≡ None → reports other ≡ None → stands_in (pair_of First live other) ≡ Ok []
  unfolding chosen
  none_chosen live other none also = by_reporting live other None None none also

  new_is_empty : (side : Side) (live other : List ℕ) (generation : ℕ) → IsNewPair live other side generation → stands_in (pair_of side live other) ≡ Ok []
  new_is_empty side live other generation new =
      ap (λ (s : Side). stands_in (pair_of s live other)) new.first
      ∙ none_chosen live other (reports_short live (omega (arith, ap length new.empty))) (reports_short other (omega (arith, new.other_short)))

  begun_beside : (node : Node) (state_held : State) (spare : Option (Spare D)) (live : D) → IfSome spare (IsAlivePair device live) → Holds node (beside spare (device.content live)) state_held
      → IfSome spare (λ s. reports (device.content live) ≡ Some (Some s.generation))
  begun_beside node state_held None live pair held = tt
  begun_beside node state_held (Some spare) live pair held = elim pair.of_generation [
    | inl reported ↦ reported
    | inr new ↦
        let none = ok_is held.journal.records [] (sym held.journal.stands_for
        ∙ new_is_empty spare.side (device.content live) (device.content spare.disk) spare.generation new) in
        absurd (omega (arith, some_record node (beside (Some spare) (device.content live)) state_held held, ap length none))
  ]

  -- so its area tells the generation
  pub begun : (node : Node) (state_held : State) (journal : Journal D) → IsAlive device journal → Holds node (areas_of device journal) state_held
      → IfSome (spare_of journal) (λ s. reports (device.content (disk_of journal)) ≡ Some (Some s.generation))
  begun node state_held journal alive held =
      begun_beside node state_held (spare_of journal) (disk_of journal) alive.pair (subst (λ (a : Areas). Holds node a state_held) (sym (areas_here journal)) held)

  reported_generation : (spare : Option (Spare D)) (file : List ℕ) → IsSome spare → IfSome spare (λ s. reports file ≡ Some (Some s.generation))
      → reports file ≡ Some (Some (option_map_or (λ (s : Spare D). s.generation) spare 0))
  reported_generation None file some reported = absurd (cc)
  reported_generation (Some spare) file some reported = reported

  pub reports_generation : (node : Node) (state_held : State) (journal : Journal D) → IsSome (spare_of journal) → IsAlive device journal → Holds node (areas_of device journal) state_held
      → reports (device.content (disk_of journal)) ≡ Some (Some (generation_in journal))
  reports_generation node state_held journal some alive held =
      reported_generation (spare_of journal) (device.content (disk_of journal)) some (begun node state_held journal alive held)

  -- and isn't one closed gate
  pub not_new : (node : Node) (state_held : State) (journal : Journal D) → IsSome (spare_of journal) → IsAlive device journal → Holds node (areas_of device journal) state_held
      → device.content (disk_of journal) ≡ 0 ∷ [] → ⊥
  not_new node state_held journal some alive held empty =
      none-some (Some (generation_in journal)) (sym (reports_short (device.content (disk_of journal)) (omega (arith, ap length empty))) ∙ reports_generation node state_held journal some alive held)

  -- ---- what is read

  read_beside : (spare : Option (Spare D)) (live : D) (left : List ℕ) → IfSome spare (IsAlivePair device live) → IfSome spare (λ s. reports left ≡ Some (Some s.generation))
      → stands_in (beside spare left) ≡ stands_at (side_on spare) left
  unfolding stands_in
  read_beside None live left pair reported = refl
  read_beside (Some spare) live left pair reported =
      both_older spare.side spare.generation left (device.content spare.disk) reported (at_rest_older spare.generation (device.content spare.disk) pair.at_rest)

  reported_too : (spare : Option (Spare D)) (file left : List ℕ) → reports left ≡ reports file → IfSome spare (λ s. reports file ≡ Some (Some s.generation))
      → IfSome spare (λ s. reports left ≡ Some (Some s.generation))
  reported_too None file left same reported = tt
  reported_too (Some spare) file left same reported = same ∙ reported

  module _ (node : Node) (state_held : State) (journal : Journal D) (alive : IsAlive device journal) (held : Holds node (areas_of device journal) state_held) where
    abbrev file : List ℕ
    file = device.content (disk_of journal)

    reads_reporting : (left : List ℕ) → reports left ≡ reports file → stands_in (areas_at device journal left) ≡ stands_at (side_in journal) left
    reads_reporting left same =
        read_beside (spare_of journal) (disk_of journal) left alive.pair (reported_too (spare_of journal) file left same (begun node state_held journal alive held))

    -- the records of the area that is read
    pub reads_file : stands_in (areas_of device journal) ≡ stands_at (side_in journal) file
    reads_file = ap stands_in (sym (areas_here journal)) ∙ reads_reporting file refl

    some_records : 1 ≤ length alive.ends_closed.records
    some_records =
        let same = ok_is held.journal.records (map (moved_by (base_of (side_in journal))) alive.ends_closed.records)
        (sym held.journal.stands_for ∙ reads_file ∙ at_side (side_in journal) file alive.ends_closed.records alive.ends_closed.stands_for) in
        omega (arith, some_record node (areas_of device journal) state_held held, ap length same, length-map alive.ends_closed.records (moved_by (base_of (side_in journal))))

    -- what stands for the same or for more in later groups is read from it
    reads_more : (left : List ℕ) (more : List Record) → stands left ≡ Ok (alive.ends_closed.records ++ more) → All (λ (one : Record). 0 < one.gate) more
        → stands_in (areas_at device journal left) ≡ stands_at (side_in journal) left
    reads_more left more is after = reads_reporting left (reports_as file left alive.ends_closed.records more alive.ends_closed.stands_for is some_records after)

    pub reads_same : (left : List ℕ) → stands left ≡ stands file → stands_in (areas_at device journal left) ≡ stands_at (side_in journal) left
    reads_same left same =
        reads_more left [] (same ∙ alive.ends_closed.stands_for ∙ ap Ok (sym (append-nil alive.ends_closed.records))) (All-nil (λ (one : Record). 0 < one.gate))

    long : 2 ≤ length file
    long = elim (cases_lt (length file) 2) [
      | inl short ↦ absurd (omega (arith, some_records, ap length (ok_is alive.ends_closed.records [] (sym alive.ends_closed.stands_for ∙ stands_short file short))))
      | inr is ↦ is
    ]

    kept_after : (gate : ℕ) (group : List (List ℕ)) → 0 < gate → All (λ (one : Record). 0 < one.gate) (kept gate group)
    kept_after gate [] less = All-nil (λ (one : Record). 0 < one.gate)
    kept_after gate (bytes ∷ group) less = All-cons (λ (one : Record). 0 < one.gate) (kept_at gate bytes) (kept gate group) less (kept_after gate group less)

    pub reads_with : (left : List ℕ) (group : List (List ℕ)) → stands left ≡ stands_with file group → stands_in (areas_at device journal left) ≡ stands_at (side_in journal) left
    reads_with left group is =
        reads_more left (kept (length file - 1) group) (is ∙ ap (with_group (length file - 1) group) alive.ends_closed.stands_for)
        (kept_after (length file - 1) group (omega (arith, long)))

-- ---- the disk that isn't read

-- of one disk it is the one that is
spare_leaves : {D : Type 0} (device : Device D) (spare : Option (Spare D)) (live : D) → LeavesOnly (device.content live) (device.outcome live) → IfSome spare (IsAlivePair device live)
    → LeavesOnly (device.content (option_map_or (λ (s : Spare D). s.disk) spare live)) (device.outcome (option_map_or (λ (s : Spare D). s.disk) spare live))
spare_leaves device None live durable pair = durable
spare_leaves device (Some spare) live durable pair = pair.durable

-- a stop leaves it as it is
pub spare_durable : {D : Type 0} (device : Device D) (journal : Journal D) → IsAlive device journal → LeavesOnly (device.content (spare_disk journal)) (device.outcome (spare_disk journal))
spare_durable device journal alive = spare_leaves device (spare_of journal) (disk_of journal) alive.durable alive.pair
