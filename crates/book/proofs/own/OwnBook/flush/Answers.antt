use Rattle.std.proofs.Common.{rules, ◌≡◌, suc, ◌+◌, ◌∷◌, [], ◌++◌, List, ℕ, length, Err, sym, ap, ◌∙◌, subst, arith}
use Rattle.std.proofs.Math.Nat.{lt_of_not-le}
use Rattle.journal.specs.Format.{group_bytes}
use Rattle.journal.specs.Journal.{disk_of, IsBeforeOrAfter}
use Rattle.journal.specs.declared.error.JournalError.{JournalError}
use Rattle.journal.specs.declared.layout.TheConstants.{MAX_JOURNAL_BYTES}
use Rattle.book.specs.Book.{BookView, Run, Stands, Settles, settled_by, settled_to, SettlesNext}
use Rattle.spec_model.specs.Nodes.{Node}
use Rattle.validator.specs.Setting.{ConfigView, node_of}
use Rattle.book.specs.InFlight.{AreInFlight, HasRoomFor, IsWithOrWithout}
use Rattle.book.specs.Pending.{IsLongestBeginning}
use Rattle.book.proofs.Options.{of_some}
use Rattle.book.proofs.InFlight.{way_settles, flushes, goes_down, with_or_without}
use Rattle.diskmodel.proofs.Clock.{weaker}
use Rattle.book.proofs.own.OwnBook.flush.Goals as goal

pub settle-requires : goal.settle-requires
settle-requires g c =
    let before : BookView g.row.S.Denot = c.args.self.now in
    let middle : BookView g.row.S.Denot = c.take.new.self in
    let group : List (List ℕ) = c.in-Some.group in
    let node : ConfigView g.row.S.Denot → Node = node_of g.S.Sign.scheme in
    let way : AreInFlight (node before.validator.setting) middle (group ∷ []) =
    of_some (λ group. (groups : List (List (List ℕ))) → AreInFlight (node before.validator.setting) before groups
    → AreInFlight (node before.validator.setting) middle (groups ++ group ∷ [])) _ group c.in-Some.is c.in_ok-group.ensures.way []
    (c.is_settled.ensures.way (search rules)) in
    subst (λ (s : ConfigView g.row.S.Denot). SettlesNext (node s) middle c.in-Ok.synced) (sym c.take.ensures.setting)
    (subst (SettlesNext (node before.validator.setting) middle) (sym c.in-Ok.ensures.synced) (way_settles (node before.validator.setting) middle group [] way))

pub returns-in-Ok-clause-way : goal.returns-in-Ok-clause-way
returns-in-Ok-clause-way g c =
    let before : BookView g.row.S.Denot = c.args.self.now in
    let middle : BookView g.row.S.Denot = c.take.new.self in
    let group : List (List ℕ) = c.in-Some.group in
    let node : ConfigView g.row.S.Denot → Node = node_of g.S.Sign.scheme in
    let way : AreInFlight (node before.validator.setting) middle (group ∷ []) =
    of_some (λ group. (groups : List (List (List ℕ))) → AreInFlight (node before.validator.setting) before groups
    → AreInFlight (node before.validator.setting) middle (groups ++ group ∷ [])) _ group c.in-Some.is c.in_ok-group.ensures.way []
    (c.is_settled.ensures.way (search rules)) in
    subst (λ (s : ConfigView g.row.S.Denot). AreInFlight (node s) c.settle.new.self []) c.take.ensures.setting
    (c.settle.ensures.way [] (subst (λ (s : ConfigView g.row.S.Denot). AreInFlight (node s) middle (c.in-Ok.synced ∷ [])) (sym c.take.ensures.setting)
    (subst (λ (records : List (List ℕ)). AreInFlight (node before.validator.setting) middle (records ∷ [])) (sym c.in-Ok.ensures.synced) way)))

pub returns-in-Ok-clause-flushed : goal.returns-in-Ok-clause-flushed
returns-in-Ok-clause-flushed g c some =
    let before : BookView g.row.S.Denot = c.args.self.now in
    let middle : BookView g.row.S.Denot = c.take.new.self in
    let group : List (List ℕ) = c.in-Some.group in
    let later : BookView g.row.S.Denot = c.settle.new.self in
    let node : ConfigView g.row.S.Denot → Node = node_of g.S.Sign.scheme in
    let file = g.D.Disk.device.content (disk_of c.args.journal.now) in
    let longest = of_some (λ group. IsLongestBeginning before.pending group middle.pending) _ group c.in-Some.is c.in_ok-group.ensures.group in
    let taken = of_some (λ group. middle ≡ record before { pending = middle.pending; taken = before.taken + length group }) _ group c.in-Some.is c.in_ok-group.ensures.taken in
    let settles =
    subst (λ (s : ConfigView g.row.S.Denot). (run : Run) → Stands (node s) run middle
    → Settles (node s) run middle.rewriting group → Stands (node s) (settled_by run middle.rewriting (length group)) later)
    c.take.ensures.setting
    (subst (λ (records : List (List ℕ)). (run : Run) → Stands (node middle.validator.setting) run middle
    → Settles (node middle.validator.setting) run middle.rewriting records
    → Stands (node middle.validator.setting) (settled_by run middle.rewriting (length records)) later)
    c.in-Ok.ensures.synced c.settle.ensures.stands) in
    let settled : later.settled ≡ settled_to middle.rewriting (middle.settled + length group) =
    c.settle.ensures.settled ∙ ap (λ (records : List (List ℕ)). settled_to middle.rewriting (middle.settled + length records)) c.in-Ok.ensures.synced in
    let settled_before : before.taken ≡ before.settled = search rules in
    let room : HasRoomFor group file = omega (arith, lt_of_not-le {n = suc MAX_JOURNAL_BYTES} (λ over. let bad = c.in-Ok.ensures.full.1 over in absurd cc)) in
    flushes (node before.validator.setting) before middle group longest taken later file (g.D.Disk.device.content (disk_of c.append.new.self)) c.records_count-count.result
    settled_before (c.is_settled.ensures.way (search rules)).alone c.settle.ensures.rest settled settles room c.in-Ok.ensures.content c.in-Ok.ensures.records c.records_count-count.ensures.value

pub returns-in-Ok-clause-any_moment : goal.returns-in-Ok-clause-any_moment
returns-in-Ok-clause-any_moment g c =
    let before : BookView g.row.S.Denot = c.args.self.now in
    let middle : BookView g.row.S.Denot = c.take.new.self in
    let group : List (List ℕ) = c.in-Some.group in
    let file = g.D.Disk.device.content (disk_of c.args.journal.now) in
    let longest = of_some (λ group. IsLongestBeginning before.pending group middle.pending) _ group c.in-Some.is c.in_ok-group.ensures.group in
    weaker g.D.Disk.device (disk_of c.args.journal.now) (disk_of c.append.new.self) (IsWithOrWithout before.pending file) (IsBeforeOrAfter file group) c.append.ensures.any_moment
    (with_or_without before.pending group middle.pending longest file)

pub returns-in-Err-Full-clause-full : goal.returns-in-Err-Full-clause-full
returns-in-Err-Full-clause-full g c is =
    let before : BookView g.row.S.Denot = c.args.self.now in
    let middle : BookView g.row.S.Denot = c.take.new.self in
    let group : List (List ℕ) = c.in-Some.group in
    let node : ConfigView g.row.S.Denot → Node = node_of g.S.Sign.scheme in
    let way : AreInFlight (node before.validator.setting) middle (group ∷ []) =
    of_some (λ group. (groups : List (List (List ℕ))) → AreInFlight (node before.validator.setting) before groups
    → AreInFlight (node before.validator.setting) middle (groups ++ group ∷ [])) _ group c.in-Some.is c.in_ok-group.ensures.way []
    (c.is_settled.ensures.way (search rules)) in
    let longest = of_some (λ group. IsLongestBeginning before.pending group middle.pending) _ group c.in-Some.is c.in_ok-group.ensures.group in
    let taken = of_some (λ group. middle ≡ record before { pending = middle.pending; taken = before.taken + length group }) _ group c.in-Some.is c.in_ok-group.ensures.taken in
    let fell : AreInFlight (node before.validator.setting) c.fail.new.self (group ∷ []) =
    subst (λ (s : ConfigView g.row.S.Denot). AreInFlight (node s) c.fail.new.self (group ∷ [])) c.take.ensures.setting
    (c.fail.ensures.way (group ∷ []) (subst (λ (s : ConfigView g.row.S.Denot). AreInFlight (node s) middle (group ∷ [])) (sym c.take.ensures.setting) way)) in (
      goes_down (node before.validator.setting) before middle group longest taken c.fail.new.self c.fail.ensures.down fell,
      λ room. omega (arith, room, c.in-Err-Full.ensures.full.0 (ap Err c.in-Err-Full.field-0-is)),
    )

pub returns-in-Err-Full-clause-any_moment : goal.returns-in-Err-Full-clause-any_moment
returns-in-Err-Full-clause-any_moment g c =
    let before : BookView g.row.S.Denot = c.args.self.now in
    let middle : BookView g.row.S.Denot = c.take.new.self in
    let group : List (List ℕ) = c.in-Some.group in
    let file = g.D.Disk.device.content (disk_of c.args.journal.now) in
    let longest = of_some (λ group. IsLongestBeginning before.pending group middle.pending) _ group c.in-Some.is c.in_ok-group.ensures.group in
    weaker g.D.Disk.device (disk_of c.args.journal.now) (disk_of c.append.new.self) (IsWithOrWithout before.pending file) (IsBeforeOrAfter file group) c.append.ensures.any_moment
    (with_or_without before.pending group middle.pending longest file)

pub returns-in-Err : goal.returns-in-Err
returns-in-Err g c =
    let before : BookView g.row.S.Denot = c.args.self.now in
    let middle : BookView g.row.S.Denot = c.take.new.self in
    let group : List (List ℕ) = c.in-Some.group in
    let node : ConfigView g.row.S.Denot → Node = node_of g.S.Sign.scheme in
    let way : AreInFlight (node before.validator.setting) middle (group ∷ []) =
    of_some (λ group. (groups : List (List (List ℕ))) → AreInFlight (node before.validator.setting) before groups
    → AreInFlight (node before.validator.setting) middle (groups ++ group ∷ [])) _ group c.in-Some.is c.in_ok-group.ensures.way []
    (c.is_settled.ensures.way (search rules)) in
    let file = g.D.Disk.device.content (disk_of c.args.journal.now) in
    let longest = of_some (λ group. IsLongestBeginning before.pending group middle.pending) _ group c.in-Some.is c.in_ok-group.ensures.group in
    let taken = of_some (λ group. middle ≡ record before { pending = middle.pending; taken = before.taken + length group }) _ group c.in-Some.is c.in_ok-group.ensures.taken in
    let fell : AreInFlight (node before.validator.setting) c.fail-in-Err.new.self (group ∷ []) =
    subst (λ (s : ConfigView g.row.S.Denot). AreInFlight (node s) c.fail-in-Err.new.self (group ∷ [])) c.take.ensures.setting
    (c.fail-in-Err.ensures.way (group ∷ []) (subst (λ (s : ConfigView g.row.S.Denot). AreInFlight (node s) middle (group ∷ [])) (sym c.take.ensures.setting) way)) in
    let room : HasRoomFor group file =
    omega (
      arith,
      lt_of_not-le {n = suc MAX_JOURNAL_BYTES} {m = length file + length (group_bytes group)}
          (λ over. let full : c.append.result ≡ Err JournalError.Full = c.append.ensures.full.1 over in absurd (search rules)),
    ) in
    record {
      idle = search rules;
      flushed = search rules;
      down = search rules;
      unchanged = search rules;
      full = search rules;
      full_same = search rules;
      way = search rules;
      fails = λ is. (goes_down (node before.validator.setting) before middle group longest taken c.fail-in-Err.new.self c.fail-in-Err.ensures.down fell, room);
      any_moment = weaker g.D.Disk.device (disk_of c.args.journal.now) (disk_of c.append.new.self) (IsWithOrWithout before.pending file) (IsBeforeOrAfter file group) c.append.ensures.any_moment
          (with_or_without before.pending group middle.pending longest file);
      alive = search rules;
      dead = search rules;
      cause = search rules;
      setting = search rules;
      spare = search rules;
    }

pub returns-then-is_down : goal.returns-then-is_down
returns-then-is_down g c = search rules

pub returns-then-not-is_settled : goal.returns-then-not-is_settled
returns-then-not-is_settled g c = search rules

pub returns-in_err-group : goal.returns-in_err-group
returns-in_err-group g c = search rules

pub returns-in_default : goal.returns-in_default
returns-in_default g c = search rules
