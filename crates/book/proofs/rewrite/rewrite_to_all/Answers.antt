use Rattle.std.proofs.Common.{rules, ◌≡◌, ◌+◌, List, ℕ, length, Err, inr, sym, ap, ◌∙◌, subst}
use Rattle.diskmodel.proofs.Clock.{weaker}
use Rattle.journal.specs.Journal.{disk_of}
use Rattle.journal.specs.Pairs.{spare_disk, StandsAsOrAfter}
use Rattle.journal.specs.declared.error.JournalError.{JournalError}
use Rattle.spec_model.specs.Nodes.{Node}
use Rattle.validator.specs.Setting.{ConfigView, node_of}
use Rattle.book.specs.Book.{BookView, Run, Stands, Settles, SettlesNext, settled_by, settled_to, with_all_taken, with_all_settled}
use Rattle.book.specs.Checkpoints.{SettlesAll, HasNoRoomFor, GoesDownRewriting, StandsAsOrForAll}
use Rattle.book.proofs.Checkpointing.{comes_next, settles_it, goes_down_with_it, as_or_for_all}
use Rattle.book.proofs.rewrite.rewrite_to_all.Goals as goal

pub settle-requires : goal.settle-requires
settle-requires g c =
    let node : ConfigView g.row.S.Denot → Node = node_of g.S.Sign.scheme in
    let before : BookView g.row.S.Denot = c.args.book.now in
    let middle : BookView g.row.S.Denot = c.take_all.new.self in
    let snapshot : List (List ℕ) = c.in_ok-snapshot.snapshot in
    let took = c.in_ok-snapshot.ensures in
    let setting : middle.validator.setting ≡ before.validator.setting = ap (λ (b : BookView g.row.S.Denot). b.validator.setting) took.taken in
    subst (λ (s : ConfigView g.row.S.Denot). SettlesNext (node s) middle c.in-Ok.synced) (sym setting)
    (subst (SettlesNext (node before.validator.setting) middle) (sym c.in-Ok.ensures.synced)
    (comes_next (node before.validator.setting) before middle snapshot took.writable took.checkpoint took.taken took.stands c.requires.stands))

pub returns-in-Ok-clause-settled : goal.returns-in-Ok-clause-settled
returns-in-Ok-clause-settled g c =
    let node : ConfigView g.row.S.Denot → Node = node_of g.S.Sign.scheme in
    let before : BookView g.row.S.Denot = c.args.book.now in
    let middle : BookView g.row.S.Denot = c.take_all.new.self in
    let snapshot : List (List ℕ) = c.in_ok-snapshot.snapshot in
    let took = c.in_ok-snapshot.ensures in
    let setting : middle.validator.setting ≡ before.validator.setting = ap (λ (b : BookView g.row.S.Denot). b.validator.setting) took.taken in
    let later : BookView g.row.S.Denot = c.settle.new.self in
    let goes =
    subst (λ (s : ConfigView g.row.S.Denot). (run : Run) → Stands (node s) run middle → Settles (node s) run middle.rewriting snapshot
    → Stands (node s) (settled_by run middle.rewriting (length snapshot)) later) setting
    (subst (λ (records : List (List ℕ)). (run : Run) → Stands (node middle.validator.setting) run middle
    → Settles (node middle.validator.setting) run middle.rewriting records
    → Stands (node middle.validator.setting) (settled_by run middle.rewriting (length records)) later) c.in-Ok.ensures.synced c.settle.ensures.stands) in
    let settled : later.settled ≡ settled_to middle.rewriting (middle.settled + length snapshot) =
    c.settle.ensures.settled ∙ ap (λ (records : List (List ℕ)). settled_to middle.rewriting (middle.settled + length records)) c.in-Ok.ensures.synced in
    let settles : SettlesAll (node before.validator.setting) before later snapshot =
    settles_it (node before.validator.setting) before middle snapshot took.writable took.checkpoint took.taken took.stands later c.settle.ensures.rest settled goes in
    let room : HasNoRoomFor c.args.journal.now snapshot → ⊥ = (λ over. let bad = c.in-Ok.ensures.full.1 over in absurd cc) in
    record {
      snapshot = snapshot;
      settles = settles;
      room = room;
      swapped = c.in-Ok.ensures.swapped;
      content = c.in-Ok.ensures.content;
      records = c.in-Ok.ensures.records;
      calls = c.in-Ok.ensures.calls;
    }

pub returns-in-Ok-clause-any_moment : goal.returns-in-Ok-clause-any_moment
returns-in-Ok-clause-any_moment g c =
    let node : ConfigView g.row.S.Denot → Node = node_of g.S.Sign.scheme in
    let before : BookView g.row.S.Denot = c.args.book.now in
    let middle : BookView g.row.S.Denot = c.take_all.new.self in
    let snapshot : List (List ℕ) = c.in_ok-snapshot.snapshot in
    let took = c.in_ok-snapshot.ensures in
    let setting : middle.validator.setting ≡ before.validator.setting = ap (λ (b : BookView g.row.S.Denot). b.validator.setting) took.taken in
    weaker g.D.Disk.device (spare_disk c.args.journal.now) (disk_of c.rewrite.new.self)
    (StandsAsOrForAll (node before.validator.setting) g.D.Disk.device before c.args.journal.now)
    (StandsAsOrAfter g.D.Disk.device c.args.journal.now snapshot) c.in-Ok.ensures.any_moment
    (as_or_for_all (node before.validator.setting) g.D.Disk.device before c.args.journal.now snapshot took.checkpoint)

pub returns-in-Ok-clause-somewhere : goal.returns-in-Ok-clause-somewhere
returns-in-Ok-clause-somewhere g c =
    let node : ConfigView g.row.S.Denot → Node = node_of g.S.Sign.scheme in
    let before : BookView g.row.S.Denot = c.args.book.now in
    let middle : BookView g.row.S.Denot = c.take_all.new.self in
    let snapshot : List (List ℕ) = c.in_ok-snapshot.snapshot in
    let took = c.in_ok-snapshot.ensures in
    let setting : middle.validator.setting ≡ before.validator.setting = ap (λ (b : BookView g.row.S.Denot). b.validator.setting) took.taken in
    let later : BookView g.row.S.Denot = c.settle.new.self in
    let goes =
    subst (λ (s : ConfigView g.row.S.Denot). (run : Run) → Stands (node s) run middle → Settles (node s) run middle.rewriting snapshot
    → Stands (node s) (settled_by run middle.rewriting (length snapshot)) later) setting
    (subst (λ (records : List (List ℕ)). (run : Run) → Stands (node middle.validator.setting) run middle
    → Settles (node middle.validator.setting) run middle.rewriting records
    → Stands (node middle.validator.setting) (settled_by run middle.rewriting (length records)) later) c.in-Ok.ensures.synced c.settle.ensures.stands) in
    let settled : later.settled ≡ settled_to middle.rewriting (middle.settled + length snapshot) =
    c.settle.ensures.settled ∙ ap (λ (records : List (List ℕ)). settled_to middle.rewriting (middle.settled + length records)) c.in-Ok.ensures.synced in
    let settles : SettlesAll (node before.validator.setting) before later snapshot =
    settles_it (node before.validator.setting) before middle snapshot took.writable took.checkpoint took.taken took.stands later c.settle.ensures.rest settled goes in
    (with_all_settled c.requires.stands.0, settles.stands c.requires.stands.0 c.requires.stands.1)

pub returns-in-Err-Full-clause-full : goal.returns-in-Err-Full-clause-full
returns-in-Err-Full-clause-full g c =
    let node : ConfigView g.row.S.Denot → Node = node_of g.S.Sign.scheme in
    let before : BookView g.row.S.Denot = c.args.book.now in
    let middle : BookView g.row.S.Denot = c.take_all.new.self in
    let snapshot : List (List ℕ) = c.in_ok-snapshot.snapshot in
    let took = c.in_ok-snapshot.ensures in
    let setting : middle.validator.setting ≡ before.validator.setting = ap (λ (b : BookView g.row.S.Denot). b.validator.setting) took.taken in
    let later : BookView g.row.S.Denot = c.fail.new.self in
    let falls = subst (λ (s : ConfigView g.row.S.Denot). (run : Run) → Stands (node s) run middle → Stands (node s) run later) setting c.fail.ensures.stands in
    let down : GoesDownRewriting (node before.validator.setting) before later =
    goes_down_with_it (node before.validator.setting) before middle snapshot took.writable took.checkpoint took.taken took.stands later c.fail.ensures.down falls in
    (λ is. (down, c.in-Err-Full.ensures.full.0 (ap Err c.in-Err-Full.field-0-is)))

pub returns-in-Err-Full-clause-any_moment : goal.returns-in-Err-Full-clause-any_moment
returns-in-Err-Full-clause-any_moment g c =
    let node : ConfigView g.row.S.Denot → Node = node_of g.S.Sign.scheme in
    let before : BookView g.row.S.Denot = c.args.book.now in
    let middle : BookView g.row.S.Denot = c.take_all.new.self in
    let snapshot : List (List ℕ) = c.in_ok-snapshot.snapshot in
    let took = c.in_ok-snapshot.ensures in
    let setting : middle.validator.setting ≡ before.validator.setting = ap (λ (b : BookView g.row.S.Denot). b.validator.setting) took.taken in
    weaker g.D.Disk.device (spare_disk c.args.journal.now) (spare_disk c.rewrite.new.self)
    (StandsAsOrForAll (node before.validator.setting) g.D.Disk.device before c.args.journal.now)
    (StandsAsOrAfter g.D.Disk.device c.args.journal.now snapshot) c.in-Err-Full.ensures.any_moment
    (as_or_for_all (node before.validator.setting) g.D.Disk.device before c.args.journal.now snapshot took.checkpoint)

pub returns-in-Err-Full-clause-somewhere : goal.returns-in-Err-Full-clause-somewhere
returns-in-Err-Full-clause-somewhere g c =
    let node : ConfigView g.row.S.Denot → Node = node_of g.S.Sign.scheme in
    let before : BookView g.row.S.Denot = c.args.book.now in
    let middle : BookView g.row.S.Denot = c.take_all.new.self in
    let snapshot : List (List ℕ) = c.in_ok-snapshot.snapshot in
    let took = c.in_ok-snapshot.ensures in
    let setting : middle.validator.setting ≡ before.validator.setting = ap (λ (b : BookView g.row.S.Denot). b.validator.setting) took.taken in
    let later : BookView g.row.S.Denot = c.fail.new.self in
    let falls = subst (λ (s : ConfigView g.row.S.Denot). (run : Run) → Stands (node s) run middle → Stands (node s) run later) setting c.fail.ensures.stands in
    let down : GoesDownRewriting (node before.validator.setting) before later =
    goes_down_with_it (node before.validator.setting) before middle snapshot took.writable took.checkpoint took.taken took.stands later c.fail.ensures.down falls in
    (with_all_taken c.requires.stands.0, down.stands c.requires.stands.0 c.requires.stands.1)

pub returns-in-Err : goal.returns-in-Err
returns-in-Err g c =
    let node : ConfigView g.row.S.Denot → Node = node_of g.S.Sign.scheme in
    let before : BookView g.row.S.Denot = c.args.book.now in
    let middle : BookView g.row.S.Denot = c.take_all.new.self in
    let snapshot : List (List ℕ) = c.in_ok-snapshot.snapshot in
    let took = c.in_ok-snapshot.ensures in
    let setting : middle.validator.setting ≡ before.validator.setting = ap (λ (b : BookView g.row.S.Denot). b.validator.setting) took.taken in
    let later : BookView g.row.S.Denot = c.fail-in-Err.new.self in
    let falls = subst (λ (s : ConfigView g.row.S.Denot). (run : Run) → Stands (node s) run middle → Stands (node s) run later) setting c.fail-in-Err.ensures.stands in
    let down : GoesDownRewriting (node before.validator.setting) before later =
    goes_down_with_it (node before.validator.setting) before middle snapshot took.writable took.checkpoint took.taken took.stands later c.fail-in-Err.ensures.down falls in
    let room : HasNoRoomFor c.args.journal.now snapshot → ⊥ =
    (λ over. let full : c.rewrite.result ≡ Err JournalError.Full = c.rewrite.ensures.full.1 over in absurd (search rules)) in
    record {
      settled = search rules;
      answer = search rules;
      never_down = search rules;
      unchanged = search rules;
      full = search rules;
      full_same = search rules;
      fails = λ is. (down, room);
      any_moment = weaker g.D.Disk.device (spare_disk c.args.journal.now) (spare_disk c.rewrite.new.self)
          (StandsAsOrForAll (node before.validator.setting) g.D.Disk.device before c.args.journal.now)
          (StandsAsOrAfter g.D.Disk.device c.args.journal.now snapshot) c.in-Err.ensures.any_moment
          (as_or_for_all (node before.validator.setting) g.D.Disk.device before c.args.journal.now snapshot took.checkpoint);
      untouched = search rules;
      keeps = search rules;
      alive = search rules;
      dead = search rules;
      cause = search rules;
      somewhere = (with_all_taken c.requires.stands.0, down.stands c.requires.stands.0 c.requires.stands.1);
      only_down = inr (ap (λ (b : BookView g.row.S.Denot). b.down) c.fail-in-Err.ensures.down);
      setting = search rules;
    }
