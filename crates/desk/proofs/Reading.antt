-- What the disks of a journal are read as, after other bytes came into the one that is written to.
use Rattle.std.proofs.Common.{◌≡◌, ◌≢◌, inl, inr, ℕ, ◌-◌, ◌<◌, ◌≤◌, List, [], ◌∷◌, ◌++◌, length, map, Option, Some, None, Result, Ok, refl, sym, ap, ◌∙◌, subst, arith, append-nil}
use Rattle.std.specs.Prelude.{All, IfSome, IsSome}
use Rattle.std.specs.Option.{option_map_or}
use Rattle.std.proofs.lemmas.List.{length-map, map-append}
use Rattle.std.proofs.lemmas.List.Elements.{All-nil, All-cons}
use Rattle.diskmodel.specs.Disk.{Device, LeavesOnly}
use Rattle.journal.specs.Areas.{Areas, alone, pair, pair_of, base_of, moved_by, reports, stands_in, stands_at, IsAtRest}
use Rattle.journal.specs.Configuration.{shaped_version}
use Rattle.journal.specs.Format.{kept_at, kept, stands}
use Rattle.journal.specs.Journal.{disk_of, spare_of, EndsClosed, IsAlive, IsAlivePair, with_group, stands_with}
use Rattle.journal.specs.Pairs.{areas_of, generation_in}
use Rattle.journal.specs.declared.journal.Journal.{Journal}
use Rattle.journal.specs.declared.layout.TheConstants.{CLOSED, OPEN}
use Rattle.journal.specs.declared.record.Record.{Record}
use Rattle.journal.specs.declared.spare.Spare.{Spare}
use Rattle.journal.specs.declared.version.Version.TheVariants.{Second}
use Rattle.journal.proofs.Reporting.{at_rest_older, both_older, reports_short}
use Rattle.opening.specs.Decoded.{decoded, decoded_in}
use Rattle.opening.proofs.PairLaws.{what_stands_is_decoded_in}
use Rattle.opening.proofs.Longer.{decoded_more}
use Rattle.opening.proofs.Reporting.{decoded_same}
use Rattle.spec_machine.specs.After.{after_all, IsLegalAfter}
use Rattle.spec_machine.proofs.AfterAll.{after_is_kept, legal_after}
use Rattle.spec_model.specs.Admitting.{IsLegal}
use Rattle.spec_model.specs.Giving.{kept as kept_in}
use Rattle.spec_model.specs.Histories.{History}
use Rattle.spec_model.specs.Nodes.{Node, IsNode}
use Rattle.spec_model.specs.States.{State}
use Rattle.spec_records.specs.Records.{record_of}
use Rattle.spec_world.specs.Runs.{AreKeys}
use Rattle.spec_world.specs.World.{Holds, IsPair, as_journal}
use Rattle.spec_world.proofs.Recovering.{holds_same, holds_after, some_record, at_side, same_at}
use Rattle.spec_world.proofs.Standing.{pair_is}
use Rattle.opening.specs.Renewing.{HasBegun, IsNewest}
use Rattle.desk.specs.Disks.{AreHeld, AreReadAs, MayLeave, of_one, of_two}
use Rattle.desk.proofs.FirstGroups.{IsLater, reports_alike}

-- ---- the bytes of all disks, by those of the one that is written to

abbrev pub over : {D : Type 0} → Device D → Option (Spare D) → List ℕ → Areas
over device spare live = option_map_or (λ s. pair_of s.side live (device.content s.disk)) spare (alone live)

-- of two, the other one leaves what a read gives
abbrev pub IsDurableBeside : {D : Type 0} → Device D → Option (Spare D) → Type 0
IsDurableBeside device spare = IfSome spare (λ s. LeavesOnly (device.content s.disk) (device.outcome s.disk))

-- and the one that is written to, which has these bytes, is read
pub record IsRead {D : Type 0} (device : Device D) (file : List ℕ) (spare : Spare D) : Type 0 where
  pub reported : reports file ≡ Some (Some spare.generation)
  pub at_rest : IsAtRest spare.generation (device.content spare.disk)

abbrev pub IsReadBeside : {D : Type 0} → Device D → List ℕ → Option (Spare D) → Type 0
IsReadBeside device file spare = IfSome spare (IsRead device file)

pub no_spare : (X : Type 0) → IsSome {T = X} None → ⊥
no_spare X some = absurd cc

areas_by : {D : Type 0} (device : Device D) (disk : D) (spare : Option (Spare D))
    → option_map_or (λ s. pair_of s.side (device.content disk) (device.content (option_map_or (λ s. s.disk) spare disk))) spare (alone (device.content disk))
    ≡ over device spare (device.content disk)
areas_by device disk None = refl
areas_by device disk (Some spare) = refl

pub areas_over : {D : Type 0} (device : Device D) (journal : Journal D) → areas_of device journal ≡ over device (spare_of journal) (device.content (disk_of journal))
areas_over device journal = areas_by device (disk_of journal) (spare_of journal)

-- those of a journal on one disk
pub areas_alone : {D : Type 0} (device : Device D) (journal : Journal D) → spare_of journal ≡ None → areas_of device journal ≡ alone (device.content (disk_of journal))
areas_alone {D} device journal one = areas_over device journal ∙ ap (λ (s : Option (Spare D)). over device s (device.content (disk_of journal))) one

-- it is read as what its bytes are told as
pub decoded_alone : {D : Type 0} (node : Node) (device : Device D) (journal : Journal D) → spare_of journal ≡ None → (state : State) → AreReadAs node (areas_of device journal) state
    → decoded node (device.content (disk_of journal)) ≡ Ok state
decoded_alone node device journal one state read_as = subst (λ (a : Areas). AreReadAs node a state) (areas_alone device journal one) read_as

-- what is said of a journal whose spare is that of another one
pub same_spare : {D : Type 0} (device : Device D) (old new : Journal D) → spare_of new ≡ spare_of old → areas_of device new ≡ over device (spare_of old) (device.content (disk_of new))
same_spare device old new same = areas_over device new ∙ ap (λ (s : Option (Spare _)). over device s (device.content (disk_of new))) same

durable_by : {D : Type 0} (device : Device D) (disk : D) (spare : Option (Spare D)) → IfSome spare (IsAlivePair device disk) → IsDurableBeside device spare
durable_by device disk None both = tt
durable_by device disk (Some spare) both = both.durable

pub durable_beside : {D : Type 0} (device : Device D) (journal : Journal D) → IsAlive device journal → IsDurableBeside device (spare_of journal)
durable_beside device journal alive = durable_by device (disk_of journal) (spare_of journal) alive.pair

read_by : {D : Type 0} (device : Device D) (disk : D) (spare : Option (Spare D)) → IfSome spare (IsAlivePair device disk)
    → (IsSome spare → reports (device.content disk) ≡ Some (Some (option_map_or (λ s. s.generation) spare 0))) → IsReadBeside device (device.content disk) spare
read_by device disk None both begun = tt
read_by device disk (Some spare) both begun = record { reported = begun refl; at_rest = both.at_rest }

pub read_beside : {D : Type 0} (device : Device D) (journal : Journal D) → IsAlive device journal → HasBegun device journal → IsReadBeside device (device.content (disk_of journal)) (spare_of journal)
read_beside device journal alive begun = read_by device (disk_of journal) (spare_of journal) alive.pair begun

-- an area that begins with an open gate has more than one closed gate
pub open_gate : (bytes : List ℕ) → OPEN ∷ bytes ≡ CLOSED ∷ [] → ⊥
open_gate bytes same = cc

-- a journal that has more than one closed gate has its first group
begun_by : {D : Type 0} (device : Device D) (disk : D) (spare : Option (Spare D)) → IfSome spare (IsAlivePair device disk) → (device.content disk ≡ CLOSED ∷ [] → ⊥)
    → IsSome spare → reports (device.content disk) ≡ Some (Some (option_map_or (λ s. s.generation) spare 0))
begun_by {D} device disk None both more some = absurd (no_spare (Spare D) some)
begun_by device disk (Some spare) both more some = elim both.of_generation [
  | inl reported ↦ reported
  | inr new ↦ absurd (more new.empty)
]

pub has_begun : {D : Type 0} (device : Device D) (journal : Journal D) → IsAlive device journal → (device.content (disk_of journal) ≡ CLOSED ∷ [] → ⊥) → HasBegun device journal
has_begun device journal alive more = begun_by device (disk_of journal) (spare_of journal) alive.pair more

some_is : {X : Type 0} (one other : X) → ◌≡◌ {A = Option X} (Some one) (Some other) → one ≡ other
some_is one other same = cc

none_some : {X : Type 0} (one : X) → ◌≡◌ {A = Option X} None (Some one) → ⊥
none_some one same = cc

-- and that isn't a closed gate alone
pub not_shut : {D : Type 0} (device : Device D) (journal : Journal D) → HasBegun device journal → IsSome (spare_of journal) → device.content (disk_of journal) ≢ CLOSED ∷ []
not_shut device journal begun two shut =
    none_some (Some (generation_in journal)) (sym (ap reports shut ∙ reports_short (CLOSED ∷ []) (omega arith)) ∙ begun two)

-- two areas are read as what they hold
pub as_held : (node : Node) (state : State) (areas : Areas) → IsPair areas → AreReadAs node areas state → AreHeld node areas state
as_held node state (alone bytes) two is = absurd two
as_held node state (pair first second) two is = is

pub as_read : (node : Node) (state : State) (areas : Areas) → IsPair areas → AreHeld node areas state → AreReadAs node areas state
as_read node state (alone bytes) two is = absurd two
as_read node state (pair first second) two is = is

-- areas that are told as a state, and are a journal at it, are read as it
pub as_decoded : (node : Node) (state : State) (areas : Areas) → decoded_in node areas ≡ Ok state → Holds node areas state → (IsPair areas → IsNewest areas) → AreReadAs node areas state
as_decoded node state (alone bytes) decoded_as held newest = decoded_as
as_decoded node state (pair first second) decoded_as held newest = record { holds = held; newest = newest tt }

-- and what they are read as they are told as
pub decoded_of : (node : Node) (state : State) (areas : Areas) → IsNode node → (IsPair areas → AreKeys node) → AreReadAs node areas state → decoded_in node areas ≡ Ok state
decoded_of node state (alone bytes) sound keys is = is
decoded_of node state (pair first second) sound keys is = what_stands_is_decoded_in node (pair first second) state sound (keys tt) (as_journal is.holds)

-- where a journal has records, so has the disk that is read
configured_by : {D : Type 0} (device : Device D) (disk : D) (spare : Option (Spare D)) → IsReadBeside device (device.content disk) spare
    → stands_in (over device spare (device.content disk)) ≢ Ok [] → stands (device.content disk) ≢ Ok []
unfolding stands_in
configured_by device disk None read some none = some none
configured_by device disk (Some spare) read some none =
    let other = device.content spare.disk in
    some (both_older spare.side spare.generation (device.content disk) other read.reported (at_rest_older spare.generation other read.at_rest) ∙ at_side spare.side (device.content disk) [] none)

pub configured_in : {D : Type 0} (device : Device D) (journal : Journal D) → IsAlive device journal → HasBegun device journal → stands_in (areas_of device journal) ≢ Ok []
    → stands (device.content (disk_of journal)) ≢ Ok []
configured_in device journal alive begun some =
    configured_by device (disk_of journal) (spare_of journal) (read_beside device journal alive begun)
    (subst (λ (a : Areas). stands_in a ≢ Ok []) (areas_over device journal) some)

-- and where one disk has records, so has its journal
pub alone_configured : {D : Type 0} (device : Device D) (journal : Journal D) → spare_of journal ≡ None → stands (device.content (disk_of journal)) ≢ Ok []
    → stands_in (areas_of device journal) ≢ Ok []
unfolding stands_in
alone_configured device journal one some = subst (λ (a : Areas). stands_in a ≢ Ok []) (sym (areas_alone device journal one)) some

-- two areas that are read as a state have records
pub held_records : (node : Node) (state : State) (areas : Areas) → IsPair areas → AreReadAs node areas state → stands_in areas ≢ Ok []
held_records node state areas two is none =
    let held = (as_held node state areas two is).holds in
    let same : held.journal.records ≡ [] = records_are held.journal.records [] (sym held.journal.stands_for ∙ none) in
    absurd (omega (arith, some_record node areas state held, ap length same))
  where
    records_are : (one other : List Record) → ◌≡◌ {A = Result (List Record) ℕ} (Ok one) (Ok other) → one ≡ other
    records_are one other same = cc

-- what a stop may leave is that of the disk that is written to, with the other one as it is
pub record IsLeftBeside {D : Type 0} (device : Device D) (journal : Journal D) (spare : Option (Spare D)) (areas : Areas) : Type 0 where
  pub live : List ℕ
  pub may : device.outcome (disk_of journal) live
  pub are : areas ≡ over device spare live

pub left_beside : {D : Type 0} (device : Device D) (journal : Journal D) (spare : Option (Spare D)) (areas : Areas) → spare_of journal ≡ spare
    → IsDurableBeside device spare → MayLeave device journal areas
    → IsLeftBeside device journal spare areas
left_beside device journal None areas is durable (of_one left none may are) = record { live = left; may = may; are = are }
left_beside device journal None areas is durable (of_two spare live other some may also are) = absurd (none_some spare (sym is ∙ some))
left_beside device journal (Some spare) areas is durable (of_one left none may are) = absurd (none_some spare (sym none ∙ is))
left_beside device journal (Some spare) areas is durable (of_two one live other some may also are) =
    let same : one ≡ spare = some_is one spare (sym some ∙ is) in
    let kept : other ≡ device.content spare.disk = durable other (subst (λ (s : Spare _). device.outcome s.disk other) same also) in
    record { live = live; may = may; are = are ∙ (λ i. pair_of ((same i).side) live (kept i)) }

-- ---- versions

-- areas that stand for the same records are in the same version
pub newest_same : (one other : Areas) → stands_in other ≡ stands_in one → IsNewest one → IsNewest other
newest_same one other same newest = λ first rest is. newest first rest (sym same ∙ is)

-- and with more records after them
pub newest_more : (one other : Areas) (records more : List Record) → 1 ≤ length records → stands_in one ≡ Ok records → stands_in other ≡ Ok (records ++ more) → IsNewest one → IsNewest other
newest_more one other [] more some before later newest = absurd (omega (arith, some))
newest_more one other (record_read ∷ records) more some before later newest = λ first rest is.
    let same : record_read ≡ first = head_is record_read first (records ++ more) rest (sym later ∙ is) in
    subst (λ (r : Record). shaped_version r.bytes ≡ Some Second) same (newest record_read records before)
  where
    head_is : (a b : Record) (p q : List Record) → ◌≡◌ {A = Result (List Record) ℕ} (Ok (a ∷ p)) (Ok (b ∷ q)) → a ≡ b
    head_is a b p q same = cc

-- ---- records

-- the records of a file that is configured
record HasRecords (file : List ℕ) : Type 0 where
  records : List Record
  stand : stands file ≡ Ok records
  some : 1 ≤ length records

some_records : (file : List ℕ) → EndsClosed file → stands file ≢ Ok [] → HasRecords file
some_records file ends configured = by_records ends.records ends.stands_for
  where
    by_records : (records : List Record) → stands file ≡ Ok records → HasRecords file
    by_records [] is = absurd (configured is)
    by_records (one ∷ records) is = record { records = one ∷ records; stand = is; some = omega arith }

kept_later : (gate : ℕ) (group : List (List ℕ)) → 0 < gate → All IsLater (kept gate group)
kept_later gate [] less = All-nil IsLater
kept_later gate (bytes ∷ group) less = All-cons IsLater (kept_at gate bytes) (kept gate group) less (kept_later gate group less)

module _ {D : Type 0} (device : Device D) (file left : List ℕ) (ends : EndsClosed file) (configured : stands file ≢ Ok []) where
  abbrev has : HasRecords file
  has = some_records file ends configured

  abbrev gate : ℕ
  gate = length file - 1

  same_reports : stands left ≡ stands file → reports left ≡ reports file
  same_reports same = reports_alike file left has.records [] has.stand (same ∙ has.stand ∙ ap Ok (sym (append-nil has.records))) has.some (All-nil IsLater)

  pub more_reports : 2 ≤ length file → (group : List (List ℕ)) → stands left ≡ stands_with file group → reports left ≡ reports file
  more_reports long group with_it =
      reports_alike file left has.records (kept gate group) has.stand
      (with_it ∙ ap (with_group gate group) has.stand) has.some (kept_later gate group (omega (arith, long)))

  reads_same : (spare : Spare D) → IsRead device file spare → reports left ≡ reports file
      → stands_in (pair_of spare.side left (device.content spare.disk)) ≡ stands_at spare.side left
  reads_same spare read same =
      both_older spare.side spare.generation left (device.content spare.disk) (same ∙ read.reported) (at_rest_older spare.generation (device.content spare.disk) read.at_rest)

  -- bytes that stand for the same are read as the same
  pub read_same : (node : Node) (state : State) (spare : Option (Spare D)) → IsReadBeside device file spare → stands left ≡ stands file → AreReadAs node (over device spare file) state
      → AreReadAs node (over device spare left) state
  read_same node state None read same is = decoded_same node left file same ∙ is
  read_same node state (Some spare) read same is =
      let other = device.content spare.disk in
      let before = both_older spare.side spare.generation file other read.reported (at_rest_older spare.generation other read.at_rest) in
      let alike : stands_in (pair_of spare.side left other) ≡ stands_in (pair_of spare.side file other) =
      reads_same spare read (same_reports same) ∙ same_at spare.side file left same ∙ sym before in
      let held = as_held node state (pair_of spare.side file other) (pair_is spare.side file other) is in
      as_read node state (pair_of spare.side left other) (pair_is spare.side left other) (record {
        holds = holds_same node (pair_of spare.side file other) (pair_of spare.side left other) state held.holds (λ two. pair_is spare.side left other) alike;
        newest = newest_same (pair_of spare.side file other) (pair_of spare.side left other) alike held.newest;
      })

  -- and with a group of events more as the state after these
  pub read_after : (node : Node) (state : State) (more : History) (spare : Option (Spare D)) → 2 ≤ length file → IsReadBeside device file spare → stands left ≡ stands_with file (map record_of more)
      → IsLegalAfter node state more → AreReadAs node (over device spare file) state → AreReadAs node (over device spare left) (after_all node state more)
  read_after node state more None long read with_it legal is = decoded_more node file left state configured is more with_it legal
  read_after node state more (Some spare) long read with_it legal is =
      let other = device.content spare.disk in
      let before = both_older spare.side spare.generation file other read.reported (at_rest_older spare.generation other read.at_rest) in
      let later = reads_same spare read (more_reports long (map record_of more) with_it) in
      let held = as_held node state (pair_of spare.side file other) (pair_is spare.side file other) is in
      let base = base_of spare.side in
      let group = map record_of more in
      let all : stands left ≡ Ok (has.records ++ kept gate group) = with_it ∙ ap (with_group gate group) has.stand in
      let parts : map (moved_by base) (has.records ++ kept gate group) ≡ map (moved_by base) has.records ++ map (moved_by base) (kept gate group) =
      map-append (moved_by base) has.records (kept gate group) in
      as_read node (after_all node state more) (pair_of spare.side left other) (pair_is spare.side left other) (record {
        holds = holds_after node (pair_of spare.side file other) (pair_of spare.side left other) spare.side file left state more held.holds
            (λ two. pair_is spare.side left other) before later ends with_it legal;
        newest = newest_more (pair_of spare.side file other) (pair_of spare.side left other) (map (moved_by base) has.records) (map (moved_by base) (kept gate group))
            (omega (arith, has.some, length-map has.records (moved_by base))) (before ∙ at_side spare.side file has.records has.stand)
            (later ∙ at_side spare.side left (has.records ++ kept gate group) all ∙ ap Ok parts) held.newest;
      })

  pub read_more : (node : Node) (history more : History) (spare : Option (Spare D)) → 2 ≤ length file → IsReadBeside device file spare → stands left ≡ stands_with file (map record_of more)
      → IsLegal node (history ++ more) → AreReadAs node (over device spare file) (kept_in node history) → AreReadAs node (over device spare left) (kept_in node (history ++ more))
  read_more node history more spare long read with_it legal is =
      subst (AreReadAs node (over device spare left)) (after_is_kept node history more legal)
      (read_after node (kept_in node history) more spare long read with_it (legal_after node history more legal) is)

  -- they are still configured
  pub still_configured : (group : List (List ℕ)) → stands left ≡ stands_with file group → stands left ≢ Ok []
  still_configured group with_it none =
      some_stays has.records (kept gate group) has.some (sym (with_it ∙ ap (with_group gate group) has.stand) ∙ none)
    where
      some_stays : (one other : List Record) → 1 ≤ length one → ◌≡◌ {A = Result (List Record) ℕ} (Ok (one ++ other)) (Ok []) → ⊥
      some_stays [] other some same = omega (arith, some)
      some_stays (r ∷ one) other some same = cc
