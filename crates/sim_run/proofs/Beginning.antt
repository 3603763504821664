-- Where a node begins on two disks.
use Rattle.std.proofs.Common.{◌≡◌, ◌≢◌, ℕ, ◌+◌, ◌≤◌, ◌<◌, inl, inr, true, false, List, [], ◌∷◌, ◌++◌, length, get_or, Option, Some, None, Result, Ok, Err, refl, sym, ap, ◌∙◌, subst, arith}
use Rattle.std.specs.Prelude.{not, All, ◌⊎◌, IsSome, IfSome}
use Rattle.std.specs.Option.{option_map, option_and_then, option_map_or}
use Rattle.std.proofs.lemmas.Bool.{cases_eq, cases_lt}
use Rattle.std.proofs.lemmas.List.Elements.{All-nil, All-cons, All-head}
use Rattle.admission.specs.declared.tables.Tables.{Tables}
use Rattle.diskmodel.specs.Disk.{AtEachMoment, Device}
use Rattle.flusher.specs.Rounds.{journal_of, seat_of, is_down, HoldsAfter, IsFlusherOf}
use Rattle.flusher.specs.declared.flusher.Flusher.{Flusher}
use Rattle.journal.specs.Areas.{Areas, alone, pair, pair_of, generation_of, reports, moved, stands_at, stands_in, IsOlder}
use Rattle.journal.specs.Configuration.{shaped_version}
use Rattle.journal.specs.Format.{group_of, kept_at, kept, walk, only_records, stands}
use Rattle.journal.specs.Journal.{disk_of, spare_of, IsAlive, IsAlivePair, IsNewPair}
use Rattle.journal.specs.Pairs.{spare_disk, side_in, generation_in, areas_with, areas_of}
use Rattle.journal.specs.declared.journal.Journal.{Journal}
use Rattle.journal.specs.declared.record.Record.{Record}
use Rattle.journal.specs.declared.side.Side.{Side}
use Rattle.journal.specs.declared.side.Side.TheVariants.{First, Second}
use Rattle.journal.specs.declared.spare.Spare.{Spare}
use Rattle.journal.specs.declared.version.Version.{Version}
use Rattle.journal.proofs.Reporting.{reports_short, reports_closed, reports_first, both_older, at_rest_older}
use Rattle.journal.proofs.Walks.{goes, walk_closed, stands_short}
use Rattle.node_seats.specs.Sights.{SeatView}
use Rattle.node_seats.specs.declared.view.Marked.{Marked}
use Rattle.node_shared.specs.Calls.{HasNothing}
use Rattle.node_shared.specs.Home.{NodeView, IsOf, IsFlushOf}
use Rattle.node_shared.specs.declared.flush_seat.FlushSeat.{FlushSeat}
use Rattle.opening.specs.Laws.{HoldsIn}
use Rattle.opening.specs.Decoded.{decoded_in, KeepsOrBegins}
use Rattle.opening.proofs.Empty.{scans_long, walk_open}
use Rattle.opening.proofs.FirstGroups.{walk_from}
use Rattle.opening.proofs.Laws.{configuration_shape}
use Rattle.opening.proofs.PairLaws.{own_free, own_by_bytes}
use Rattle.opening.proofs.PairReporting.{pair_alone, decoded_pair_records}
use Rattle.sigface.specs.Scheme.{Scheme}
use Rattle.spec_machine.proofs.AfterAll.{after_none, legal_none}
use Rattle.spec_machine.specs.Machine.{fresh}
use Rattle.spec_machine.specs.Sound.{IsSound}
use Rattle.spec_model.specs.Nodes.{Node, IsNode}
use Rattle.spec_records.specs.Records.{CanReport}
use Rattle.spec_world.specs.Runs.{AreKeys}
use Rattle.spec_world.specs.World.{own_configuration, as_fresh, Holds}
use Rattle.validator.specs.Setting.{ConfigView, node_of}
use Rattle.validator.specs.Standing.{AreAtSound}
use Rattle.sim_run.specs.Running.{AreOne}

-- ---- a node over a journal

-- a journal at a state at which tables stand is one of a node that begins with these tables, before any event
holds_first : {S : Type 0} (scheme : Scheme S) (node : NodeView S) (areas : Areas) → IsNode (node_of scheme node.setting) → HoldsIn (node_of scheme node.setting) areas node.begun
    → HoldsAfter scheme node [] areas
holds_first scheme node areas is_node held =
    let member = node_of scheme node.setting in
    record {
      base = held.state;
      is_base = held.at;
      legal = legal_none member held.state is_node held.at.sound;
      holds = subst (Holds member areas) (sym (after_none member held.state)) held.holds;
    }

-- a flusher over that journal, whose seat has seen nothing
pub begun_one : {S D : Type 0} (scheme : Scheme S) (device : Device D) (node : NodeView S) (own : SeatView) (flusher : Flusher D) (journal : Journal D) (seat : FlushSeat) (setting : ConfigView S)
    (tables : Tables)
    → node.setting ≡ setting → node.begun ≡ tables → journal_of flusher ≡ journal → seat_of flusher ≡ seat → IsOf node own → IsFlushOf node seat → HasNothing seat.seat → seat.taken ≡ 0
    → seat.rewriting ≡ false → seat.seat.view.may_fail ≡ true → is_down flusher ≡ false → IsNode (node_of scheme setting) → IsAlive device journal
    → IsSome (spare_of journal) → HoldsIn (node_of scheme setting) (areas_of device journal) tables
    → AreOne scheme device setting node own flusher
begun_one {S} {D} scheme device node own flusher journal seat setting tables setting_is begun_is journal_is seat_is of_node of nothing taken idle right up is_node alive two held =
    let areas = areas_of device journal in
    let here : HoldsIn (node_of scheme node.setting) areas node.begun = subst (λ (t : Tables). HoldsIn (node_of scheme node.setting) areas t) (sym begun_is)
    (subst (λ (s : ConfigView S). HoldsIn (node_of scheme s) areas tables) (sym setting_is) held) in
    let is_here : IsNode (node_of scheme node.setting) = subst (λ (s : ConfigView S). IsNode (node_of scheme s)) (sym setting_is) is_node in
    let first : HoldsAfter scheme node seat.seat.view.durable areas =
    subst (λ (l : List Marked). HoldsAfter scheme node l areas) (sym nothing.durable) (holds_first scheme node areas is_here here) in
    record {
      set = setting_is;
      of_node = of_node;
      flushes = record {
        seat = subst (IsFlushOf node) (sym seat_is) of;
        right = ap (λ (s : FlushSeat). s.seat.view.may_fail) seat_is ∙ right ∙ sym (ap not up);
        rests = λ _. subst (λ (s : FlushSeat). s.taken ≡ s.settled) (sym seat_is) (taken ∙ sym (of.settled ∙ ap length nothing.durable));
        idle = λ _. ap (λ (s : FlushSeat). s.rewriting) seat_is ∙ idle;
        alive = λ _. subst (IsAlive device) (sym journal_is) alive;
        holds = λ _. subst (λ (j : Journal D). HoldsAfter scheme node (seat_of flusher).seat.view.durable (areas_of device j)) (sym journal_is)
            (subst (λ (s : FlushSeat). HoldsAfter scheme node s.seat.view.durable areas) (sym seat_is) first);
      };
      pair = subst (λ (j : Journal D). IsSome (spare_of j)) (sym journal_is) two;
    }

-- ---- what a file tells that stands for a configuration alone

ok_same : (one other : List Record) → ◌≡◌ {A = Result (List Record) ℕ} (Ok one) (Ok other) → one ≡ other
ok_same one other same = cc

-- a file that stands for no record tells nothing
reports_of_none : (left : List ℕ) → stands left ≡ Ok [] → reports left ≡ None
unfolding stands
reports_of_none left none = elim (cases_lt (length left) 2) [
  | inl short ↦ reports_short left short
  | inr long ↦ by_first left long none
]
  where
    by_read : (gate : ℕ) (rest : List ℕ) (read : Result (List Record × ℕ) ℕ) → gate ≢ 0 → walk 0 0 (gate ∷ rest) ≡ read → only_records read ≡ Ok [] → ⊥
    by_read gate rest (Ok (records, place)) is_open walked is =
        walk_open gate rest place is_open (walked ∙ ap (λ (l : List Record). Ok (l, place)) (ok_same records [] is))
    by_read gate rest (Err place) is_open walked is = cc

    by_first : (file : List ℕ) → 2 ≤ length file → stands file ≡ Ok [] → reports file ≡ None
    by_first [] long is = absurd (omega (arith, long))
    by_first (gate ∷ rest) long is = elim (cases_eq gate 0) [
      | inl closed ↦ reports_closed gate rest closed
      | inr is_open ↦ absurd (by_read gate rest (walk 0 0 (gate ∷ rest)) is_open refl (sym (ap only_records (scans_long (gate ∷ rest) long)) ∙ is))
    ]

one_of_group : (group : List (List ℕ)) (more : List Record) (own : List ℕ) → All (λ (one : Record). 1 ≤ one.gate) more → kept 0 group ++ more ≡ kept_at 0 own ∷ [] → group ≡ own ∷ []
one_of_group [] [] own above same = absurd (omega (arith, ap length same))
one_of_group [] (one ∷ more) own above same =
    let gate = ap (λ (l : List Record). (get_or l 0 one).gate) same in
    absurd (omega (arith, gate, All-head (λ (r : Record). 1 ≤ r.gate) one more above))
one_of_group (bytes ∷ []) more own above same = ap (λ (l : List Record). (get_or l 0 (kept_at 0 [])).bytes ∷ []) same
one_of_group (bytes ∷ other ∷ others) more own above same = absurd (omega (arith, ap length same))

-- one that stands for a configuration alone has the generation 0
reports_of_one : (left own : List ℕ) (version : Version) → stands left ≡ Ok (kept_at 0 own ∷ []) → shaped_version own ≡ Some version → reports left ≡ Some (Some 0)
unfolding stands generation_of
reports_of_one left own version is shape = elim (cases_lt (length left) 2) [
  | inl short ↦ absurd (some_record (sym (stands_short left short) ∙ is))
  | inr long ↦ by_first left long is
]
  where
    some_record : ◌≡◌ {A = Result (List Record) ℕ} (Ok []) (Ok (kept_at 0 own ∷ [])) → ⊥
    some_record same = cc

    generation_is : (group : List (List ℕ)) → group ≡ own ∷ [] → generation_of group ≡ Some 0
    generation_is group are = ap generation_of are ∙ ap (option_map (λ (v : Version). 0)) shape

    by_read : (gate : ℕ) (rest : List ℕ) (read : Result (List Record × ℕ) ℕ) → gate ≢ 0 → 1 ≤ length rest → walk 0 0 (gate ∷ rest) ≡ read → only_records read ≡ Ok (kept_at 0 own ∷ [])
        → reports (gate ∷ rest) ≡ Some (Some 0)
    by_read gate rest (Err place) is_open some walked found = absurd (cc)
    by_read gate rest (Ok (records, place)) is_open some walked found =
        let on = goes 0 gate rest (records, place) is_open walked in
        let above = walk_from rest 1 (4 + length on.body) on.more on.on in
        let group = one_of_group on.records on.more.0 own above (ap (λ (f : List Record × ℕ). f.0) (sym on.is) ∙ ok_same records (kept_at 0 own ∷ []) found) in
        reports_first gate rest is_open some
        ∙ ap Some (ap (option_and_then (λ body. option_and_then generation_of (group_of body))) on.at_body ∙ ap (option_and_then generation_of) on.is_group ∙ generation_is on.records group)

    by_first : (file : List ℕ) → 2 ≤ length file → stands file ≡ Ok (kept_at 0 own ∷ []) → reports file ≡ Some (Some 0)
    by_first [] long found = absurd (omega (arith, long))
    by_first (gate ∷ rest) long found = elim (cases_eq gate 0) [
      | inl closed ↦
          absurd (some_record (sym (ap only_records (scans_long (gate ∷ rest) long ∙ walk_closed 0 gate rest closed)) ∙ found))
      | inr is_open ↦ by_read gate rest (walk 0 0 (gate ∷ rest)) is_open (omega (arith, long)) refl (sym (ap only_records (scans_long (gate ∷ rest) long)) ∙ found)
    ]

-- ---- a journal on two disks without a record

spare_kept : {D X : Type 0} (f : Spare D → X) (spare other : Option (Spare D)) (one two : X) → other ≡ spare → IsSome spare → option_map_or f other one ≡ option_map_or f spare two
spare_kept f None other one two same some = absurd (cc some)
spare_kept f (Some s) other one two same some = ap (λ (o : Option (Spare _)). option_map_or f o one) same

stands_by : (side : Side) (live : List ℕ) → stands_at side live ≡ Ok [] → stands live ≡ Ok []
stands_by First live none = none
stands_by Second live none = by_read (stands live) refl
  where
    by_read : (read : Result (List Record) ℕ) → stands live ≡ read → stands live ≡ Ok []
    by_read (Ok []) is = is
    by_read (Ok (one ∷ rest)) is = absurd (cc (sym (ap (moved 1099511627776) is) ∙ none))
    by_read (Err place) is = absurd (cc (sym (ap (moved 1099511627776) is) ∙ none))

module _ {D : Type 0} (device : Device D) where
  areas_are : (journal : Journal D) (left : List ℕ) → IsSome (spare_of journal) → areas_with device journal left ≡ pair_of (side_in journal) (device.content (disk_of journal)) left
  areas_are journal left two = by_spare (spare_of journal) two
    where
      by_spare : (spare : Option (Spare D)) → IsSome spare → option_map_or (λ s. pair_of s.side (device.content (disk_of journal)) left) spare (alone (device.content (disk_of journal)))
          ≡ pair_of (option_map_or (λ (s : Spare D). s.side) spare First) (device.content (disk_of journal)) left
      by_spare None some = absurd (cc some)
      by_spare (Some s) some = refl

  -- the other area is older, and the one that is read tells its generation, unless the journal is new
  record IsBeside (live : D) (rest : D) (side : Side) (level : ℕ) : Type 0 where
    pub older : IsOlder level (device.content rest)
    pub of_generation : (reports (device.content live) ≡ Some (Some level)) ⊎ IsNewPair (device.content live) (device.content rest) side level

  beside_by : (live : D) (spare : Option (Spare D)) → IsSome spare → IfSome spare (IsAlivePair device live)
      → IsBeside live (option_map_or (λ (s : Spare D). s.disk) spare live) (option_map_or (λ (s : Spare D). s.side) spare First) (option_map_or (λ (s : Spare D). s.generation) spare 0)
  beside_by live None some is = absurd (cc some)
  beside_by live (Some s) some is = record { older = at_rest_older s.generation (device.content s.disk) is.at_rest; of_generation = is.of_generation }

  module _ (node : Node) (journal : Journal D) (sound : IsNode node) (keys : AreKeys node) (two : IsSome (spare_of journal)) (alive : IsAlive device journal)
      (empty : stands_in (areas_of device journal) ≡ Ok []) where
    abbrev live : List ℕ
    live = device.content (disk_of journal)

    abbrev other : List ℕ
    other = device.content (spare_disk journal)

    -- neither area has a group
    new_pair : IsNewPair live other (side_in journal) (generation_in journal)
    new_pair =
        let beside = beside_by (disk_of journal) (spare_of journal) two alive.pair in
        elim beside.of_generation [
          | inr new ↦ new
          | inl reported ↦
              let now_empty = ap stands_in (sym (areas_are journal other two)) ∙ empty in
              let none = stands_by (side_in journal) live (sym (both_older (side_in journal) (generation_in journal) live other reported beside.older) ∙ now_empty) in
              absurd (some_decoded (sym (reports_of_none live none) ∙ reported))
        ]
      where
        some_decoded : ◌≡◌ {A = Option (Option ℕ)} None (Some (Some (generation_in journal))) → ⊥
        some_decoded same = cc

    pub file_none : stands live ≡ Ok []
    file_none = stands_short live (omega (arith, ap length new_pair.empty))

    -- and then the first one gets the configuration, in a version that can tell the committee
    module _ (version : Version) (report : CanReport version node.charter) (new : Journal D) (same : spare_of new ≡ spare_of journal)
        (keeps : AtEachMoment device (disk_of journal) (disk_of new) (KeepsOrBegins version node live))
        (counts_now : (disk : D) (t : ℕ) (c : List ℕ) → t ≤ device.clock disk → device.outcome disk c → device.outcome_since disk t c)
        (is_outcome : (disk : D) → device.outcome disk (device.content disk)) (some : stands (device.content (disk_of new)) ≢ Ok []) where
      abbrev later : List ℕ
      later = device.content (disk_of new)

      abbrev row : List ℕ
      row = own_configuration version node

      pub two_then : IsSome (spare_of new)
      two_then = subst (λ (o : Option (Spare D)). IsSome o) (sym same) two

      areas_then : areas_of device new ≡ pair later other
      areas_then =
          areas_are new (device.content (spare_disk new)) two_then
          ∙ (λ i. pair_of ((spare_kept (λ (s : Spare D). s.side) (spare_of journal) (spare_of new) First First same two ∙ new_pair.first) i) later
          (device.content (spare_kept (λ (s : Spare D). s.disk) (spare_of journal) (spare_of new) (disk_of new) (disk_of journal) same two i)))

      written : stands later ≡ Ok (kept_at 0 row ∷ [])
      written = by_kind (keeps.each later (counts_now (disk_of new) (device.clock (disk_of journal)) later keeps.later (is_outcome (disk_of new))))
        where
          by_kind : KeepsOrBegins version node live later → stands later ≡ Ok (kept_at 0 row ∷ [])
          by_kind (inl (records, before, now)) = absurd (some (now ∙ ap Ok (ok_same records [] (sym before ∙ file_none))))
          by_kind (inr (none, is)) = is

      both_stand : stands_in (pair later other) ≡ Ok (kept_at 0 row ∷ [])
      both_stand =
          both_older First 0 later other (reports_of_one later row version written (configuration_shape version node sound keys)) (inl (reports_short other (omega (arith, new_pair.other_short))))
          ∙ written

      begun_decoded : decoded_in node (pair later other) ≡ Ok (fresh node)
      begun_decoded =
          let own = kept_at 0 row in
          decoded_pair_records node (pair later other) (own ∷ []) tt both_stand ∙ pair_alone node own (own_free node own (own_by_bytes node own version sound keys report refl))

      begun_holds : IsSound node (fresh node) → Holds node (pair later other) (fresh node)
      begun_holds fresh_sound = record {
        front = row ∷ [];
        in_first = 1;
        base = fresh node;
        begins = as_fresh version report refl refl refl;
        events = [];
        journal = record {
          records = kept_at 0 row ∷ [];
          stands_for = both_stand;
          are = refl;
          first_gate = 0;
          first = All-cons (λ (one : Record). one.gate ≡ 0) (kept_at 0 row) [] refl (All-nil (λ (one : Record). one.gate ≡ 0));
          others = All-nil (λ (one : Record). 0 < one.gate);
        };
        legal = legal_none node (fresh node) sound fresh_sound;
        leads = after_none node (fresh node);
      }

      pub begun_in : (tables : Tables) → AreAtSound node tables (fresh node) → HoldsIn node (areas_of device new) tables
      begun_in tables at = subst (λ (areas : Areas). HoldsIn node areas tables) (sym areas_then)
          (record { state = fresh node; decoded_as = begun_decoded; holds = begun_holds at.sound; at = at })
