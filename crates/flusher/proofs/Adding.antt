-- What adding a group leaves of a journal with what was settled.
use Rattle.std.proofs.Common.{◌≡◌, ℕ, ◌+◌, ◌-◌, ◌≤◌, inl, inr, List, [], ◌∷◌, ◌++◌, length, map, drop, Result, Ok, Err, sym, ap, ◌∙◌, subst, arith, append_assoc, length-append, refl}
use Rattle.std.proofs.lemmas.List.{append-nil, drop_at, length-map, map-append}
use Rattle.diskmodel.specs.Disk.{Device}
use Rattle.journal.specs.Areas.{Areas, base_of, moved, moved_by, stands_at, stands_in}
use Rattle.journal.specs.Format.{kept_at, kept, stands}
use Rattle.journal.specs.Journal.{disk_of, with_group, stands_with, EndsClosed, IsAlive, IsBeforeOrAfter}
use Rattle.journal.specs.Pairs.{areas_of, side_in}
use Rattle.journal.specs.declared.journal.Journal.{Journal}
use Rattle.journal.specs.declared.record.Record.{Record}
use Rattle.journal.specs.declared.side.Side.{Side}
use Rattle.journal.specs.declared.side.Side.TheVariants.{First, Second}
use Rattle.spec_machine.specs.After.{after_all, IsLegalAfter}
use Rattle.spec_machine.proofs.AfterAll.{after_append, after_joins}
use Rattle.spec_model.specs.Histories.{History}
use Rattle.wire.specs.Lists.{Begins}
use Rattle.spec_model.specs.Nodes.{Node}
use Rattle.spec_model.specs.States.{State}
use Rattle.spec_records.specs.Records.{record_of}
use Rattle.node_seats.specs.Views.{events}
use Rattle.node_seats.specs.declared.view.Marked.{Marked}
use Rattle.node_shared.specs.Home.{NodeView}
use Rattle.sigface.specs.Scheme.{Scheme}
use Rattle.validator.specs.Setting.{node_of}
use Rattle.flusher.specs.Rounds.{areas_at, HoldsAfter, KeepsEarlier, HoldsEither}
use Rattle.flusher.proofs.Reading.{areas_here, stays_pair, reads_file, reads_same, reads_with}
use Rattle.spec_world.specs.World.{IsPair, IsJournal, BeginsAs, as_fresh, as_checkpoint, Holds, as_journal}
use Rattle.spec_world.proofs.Recovering.{gates_at, same_at, journal_grows, holds_same, stands_once}

-- ---- an area with a group more

kept_moved : (base gate : ℕ) (group : List (List ℕ)) → map (moved_by base) (kept gate group) ≡ kept (base + gate) group
kept_moved base gate [] = refl
kept_moved base gate (bytes ∷ group) = ap (λ (l : List Record). kept_at (base + gate) bytes ∷ l) (kept_moved base gate group)

moved_with : (base gate : ℕ) (group : List (List ℕ)) (read : Result (List Record) ℕ) → moved base (with_group gate group read) ≡ with_group (base + gate) group (moved base read)
moved_with base gate group (Ok records) =
    ap Ok (map-append (moved_by base) records (kept gate group) ∙ ap (λ (l : List Record). map (moved_by base) records ++ l) (kept_moved base gate group))
moved_with base gate group (Err place) = refl

grows_at : (side : Side) (file left : List ℕ) (group : List (List ℕ)) → stands left ≡ stands_with file group
    → stands_at side left ≡ with_group (base_of side + (length file - 1)) group (stands_at side file)
grows_at First file left group is =
    let same : length file - 1 ≡ 0 + (length file - 1) = omega arith in
    is ∙ ap (λ (n : ℕ). with_group n group (stands file)) same
grows_at Second file left group is = ap (moved (base_of Second)) is ∙ moved_with (base_of Second) (length file - 1) group (stands file)

-- a journal begins as another one of as many areas does
begins_as : (node : Node) (areas other : Areas) (front : List (List ℕ)) (in_first : ℕ) (base : State) → (IsPair areas → IsPair other)
    → BeginsAs node areas front in_first base → BeginsAs node other front in_first base
begins_as node areas other front in_first base two (as_fresh version can is first base_is) = as_fresh version can is first base_is
begins_as node areas other front in_first base two (as_checkpoint version generation data_kept is_pair can written is first base_is) =
    as_checkpoint version generation data_kept (two is_pair) can written is first base_is

front_long : (node : Node) (areas : Areas) (front : List (List ℕ)) (in_first : ℕ) (base : State) → BeginsAs node areas front in_first base → (1 ≤ in_first) × (in_first ≤ length front)
front_long node areas front in_first base (as_fresh version can is first base_is) = (omega (arith, first), omega (arith, first, ap length is))
front_long node areas front in_first base (as_checkpoint version generation data_kept two can written is first base_is) = (omega (arith, first), omega (arith, first, ap length is))

-- with a group of the records of legal events more it is at the state after them
holds_on : (node : Node) (areas other : Areas) (side : Side) (file left : List ℕ) (held_state : State) (more : History) → Holds node areas held_state → (IsPair areas → IsPair other)
    → stands_in areas ≡ stands_at side file → stands_in other ≡ stands_at side left → EndsClosed file → stands left ≡ stands_with file (map record_of more)
    → IsLegalAfter node held_state more → Holds node other (after_all node held_state more)
holds_on node areas other side file left held_state more held two reads also ends is after =
    let front_of = front_long node areas held.front held.in_first held.base held.begins in
    let records = map record_of held.events in
    let group = map record_of more in
    let place = base_of side + (length file - 1) in
    let long : held.in_first ≤ length (held.front ++ records) = omega (arith, front_of.1, length-append held.front records) in
    let before : IsJournal (stands_in areas) (held.front ++ records) held.in_first [] = record {
      records = held.journal.records;
      stands_for = held.journal.stands_for;
      are = held.journal.are ∙ sym (append-nil (held.front ++ records));
      first_gate = held.journal.first_gate;
      first = held.journal.first;
      others = held.journal.others;
    } in
    let grown = journal_grows (stands_in areas) (stands_in other) (held.front ++ records) group held.in_first place before front_of.0 long
    (λ found stand. gates_at side file ends found (sym reads ∙ stand))
    (also ∙ grows_at side file left group is ∙ ap (with_group place group) (sym reads)) in
    record {
      front = held.front;
      in_first = held.in_first;
      base = held.base;
      begins = begins_as node areas other held.front held.in_first held.base two held.begins;
      events = held.events ++ more;
      journal = record {
        records = grown.records;
        stands_for = grown.stands_for;
        are = grown.are ∙ append-nil ((held.front ++ records) ++ group) ∙ append_assoc held.front records group
            ∙ ap (λ (l : List (List ℕ)). held.front ++ l) (sym (map-append record_of held.events more));
        first_gate = grown.first_gate;
        first = grown.first;
        others = grown.others;
      };
      legal = (after_joins node held.base held.events more).joined held.legal (subst (λ (s : State). IsLegalAfter node s more) (sym held.leads) after);
      leads = after_append node held.base held.events more ∙ ap (λ (s : State). after_all node s more) held.leads;
    }

-- ---- events more

-- nothing was written
pub still_holds : {S : Type 0} (scheme : Scheme S) (node : NodeView S) (settled taken : List Marked) (areas left : Areas) → left ≡ areas → HoldsAfter scheme node settled areas
    → HoldsEither scheme node settled taken areas left
still_holds scheme node settled taken areas left is held = inl (record {
  holds = subst (HoldsAfter scheme node settled) (sym is) held;
  earlier = λ base there. subst (λ (a : Areas). Holds (node_of scheme node.setting) a (after_all (node_of scheme node.setting) base (events settled))) (sym is) there;
})

pub holds_here : {S D : Type 0} (scheme : Scheme S) (device : Device D) (node : NodeView S) (settled taken : List Marked) (journal : Journal D)
    → HoldsAfter scheme node settled (areas_of device journal) → (left : List ℕ) → left ≡ device.content (disk_of journal)
    → HoldsEither scheme node settled taken (areas_of device journal) (areas_at device journal left)
holds_here scheme device node settled taken journal held left is =
    still_holds scheme node settled taken (areas_of device journal) (areas_at device journal left) (ap (areas_at device journal) is ∙ areas_here device journal) held

module _ {S : Type 0} (scheme : Scheme S) (node : NodeView S) (settled taken : List Marked) (areas : Areas) (begins : Begins settled taken)
    (held : HoldsAfter scheme node settled areas) (legal : IsLegalAfter (node_of scheme node.setting) held.base (events taken)) where
  abbrev member : Node
  member = node_of scheme node.setting

  -- the events that were taken after what is settled
  abbrev pub more : History
  more = drop (length settled) (events taken)

  -- the state after what is settled
  abbrev pub settled_after : State → State
  settled_after base = after_all member base (events settled)

  parts : events taken ≡ events settled ++ events begins.rest
  parts = ap events begins.parts ∙ map-append (λ (one : Marked). one.event) settled begins.rest

  more_is : more ≡ events begins.rest
  more_is = ap (drop (length settled)) parts ∙ drop_at (events settled) (events begins.rest) (length settled) (length-map settled (λ (one : Marked). one.event))

  joined : events taken ≡ events settled ++ more
  joined = parts ∙ ap (λ (l : History). events settled ++ l) (sym more_is)

  pub leads_on : (base : State) → after_all member base (events taken) ≡ after_all member (settled_after base) more
  leads_on base = ap (after_all member base) joined ∙ after_append member base (events settled) more

  -- each state after which the areas have what is settled leads to the same one
  pub one_after : (base : State) → Holds member areas (settled_after base) → settled_after held.base ≡ settled_after base
  one_after base there = stands_once member areas (settled_after base) (settled_after held.base) there (as_journal held.holds)

  -- so that what was taken is legal there
  pub more_legal : (base : State) → Holds member areas (settled_after base) → IsLegalAfter member (settled_after base) more
  more_legal base there =
      subst (λ (s : State). IsLegalAfter member s more) (one_after base there)
      ((after_joins member held.base (events settled) more).parts (subst (IsLegalAfter member held.base) joined legal)).1

  -- what is the journal with what was taken, from each state on after which there was what is settled, is so from the node's on
  pub holds_after : (left : Areas) → KeepsEarlier scheme node settled taken areas left → HoldsAfter scheme node taken left
  holds_after left earlier = record { base = held.base; is_base = held.is_base; legal = legal; holds = earlier held.base held.holds }

  -- areas that are read as these
  pub still_settled : (left : Areas) → (IsPair areas → IsPair left) → stands_in left ≡ stands_in areas → HoldsEither scheme node settled taken areas left
  still_settled left two same =
      let earlier : KeepsEarlier scheme node settled settled areas left = λ base there. holds_same member areas left (settled_after base) there two same in
      inl (record { holds = record { base = held.base; is_base = held.is_base; legal = held.legal; holds = earlier held.base held.holds }; earlier = earlier })

  pub all_taken : (left : Areas) → KeepsEarlier scheme node settled taken areas left → HoldsEither scheme node settled taken areas left
  all_taken left earlier = inr (record { holds = holds_after left earlier; earlier = earlier })

-- ---- what is left of a journal with a group more

module _ {S D : Type 0} (scheme : Scheme S) (device : Device D) (node : NodeView S) (settled taken : List Marked) (journal : Journal D) (begins : Begins settled taken)
    (alive : IsAlive device journal) (held : HoldsAfter scheme node settled (areas_of device journal)) (legal : IsLegalAfter (node_of scheme node.setting) held.base (events taken)) where
  abbrev before : Areas
  before = areas_of device journal

  abbrev file : List ℕ
  file = device.content (disk_of journal)

  abbrev group : List (List ℕ)
  group = map record_of (more scheme node settled taken before begins held legal)

  pub keeps_taken : (left : List ℕ) → stands left ≡ stands_with file group → KeepsEarlier scheme node settled taken before (areas_at device journal left)
  keeps_taken left is base there =
      let member = node_of scheme node.setting in
      let rest = more scheme node settled taken before begins held legal in
      subst (Holds member (areas_at device journal left)) (sym (leads_on scheme node settled taken before begins held legal base))
      (holds_on member before (areas_at device journal left) (side_in journal) file left (after_all member base (events settled)) rest there (stays_pair device journal left)
      (reads_file device member (after_all member base (events settled)) journal alive there)
      (reads_with device member (after_all member base (events settled)) journal alive there left group is)
      alive.ends_closed is (more_legal scheme node settled taken before begins held legal base there))

  pub holds_either : (left : List ℕ) → IsBeforeOrAfter file group left → HoldsEither scheme node settled taken before (areas_at device journal left)
  holds_either left (inl same) =
      let state_held = after_all (node_of scheme node.setting) held.base (events settled) in
      still_settled scheme node settled taken before begins held legal (areas_at device journal left) (stays_pair device journal left)
      (reads_same device (node_of scheme node.setting) state_held journal alive held.holds left same
      ∙ same_at (side_in journal) file left same
      ∙ sym (reads_file device (node_of scheme node.setting) state_held journal alive held.holds))
  holds_either left (inr with_it) = all_taken scheme node settled taken before begins held legal (areas_at device journal left) (keeps_taken left with_it)
