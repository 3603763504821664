use Rattle.std.proofs.Common.{rules, Option, None, true, false, sym, subst, ◌∙◌, inr}
use Rattle.std.proofs.lemmas.Bool.{or_parts}
use Rattle.std.specs.Prelude.{◌≡◌, IsTrue}
use Rattle.journal.specs.Pairs.{store_of}
use Rattle.journal.specs.Stores.{faults_in}
use Rattle.journal.specs.declared.error.JournalError.{JournalError}
use Rattle.flusher.specs.Rounds.{journal_of, is_down, settled_in}
use Rattle.flusher.specs.declared.flusher.Flusher.{Flusher}
use Rattle.node_run.specs.Ends.{ReportsJournal}
use Rattle.node_run.specs.Rewriting.{ByTheRule, HasCheckpoint, HasNoPlace, point_of}
use Rattle.node_run.proofs.Flushed.{reported_on}
use Rattle.node_run.proofs.Moments.{all_on}
use Rattle.node_run.proofs.Pending.{by_rule_on, by_rule_weaker, no_place_on, place_weaker, reports_weaker, up_before}
use Rattle.node_seats.proofs.Beginnings.{begins_trans}
use Rattle.node_shared.specs.Home.{NodeView}
use Rattle.node_run.proofs.flushing.flush_all.Goals as goal
use Rattle.node_run.proofs.flushing.flush_all.Goals.{then-faults, else-faults}

pub loop-preserved : goal.loop-preserved
loop-preserved g c =
    let first = c.args.rounds.now.flusher in
    let mid = c.loop.rounds.flusher in
    let now = c.flush_pending.new.rounds.flusher in
    let node = c.args.rounds.now.node in
    let Lacks = HasNoPlace g.S.Sign.scheme g.D.Disk.device node c.args.rule c.loop.missed (point_of first) mid in
    let LacksNow = HasNoPlace g.S.Sign.scheme g.D.Disk.device node c.args.rule c.flush_pending.new.missed (point_of first) now in
    let faults = λ (f : Flusher g.row.D.Denot). faults_in g.D.Disk.device (store_of (journal_of f)) in
    let done = c.flush_pending.ensures in
    let reported = subst (λ (j : Option JournalError). ReportsJournal (faults first) (faults now) (is_down first) (is_down now) j LacksNow) (sym c.and-faults.ensures.journal)
    (reported_on (faults first) (faults mid) (faults now) (is_down first) (is_down mid) (is_down now) c.loop.faults.journal c.flush_pending.result.journal Lacks LacksNow c.loop.invariant.4
    done.rounds done.down
    (λ down. let it = done.stays down in (
      it.0,
      subst (λ (f : Flusher g.row.D.Denot). IsTrue (is_down f)) (sym it.1) down,
      λ lacks. subst (λ (f : Flusher g.row.D.Denot). HasNoPlace g.S.Sign.scheme g.D.Disk.device node c.args.rule c.flush_pending.new.missed (point_of first) f) (sym it.1)
          (place_weaker g.S.Sign.scheme g.D.Disk.device node c.args.rule c.loop.missed c.flush_pending.new.missed (point_of first) mid done.missed lacks),
    ))
    (λ up is. no_place_on g.S.Sign.scheme g.D.Disk.device node c.args.rule c.loop.rule first mid now c.loop.missed c.flush_pending.new.missed c.loop.faults.journal (faults first) (faults mid) Lacks
    c.loop.invariant.4 c.loop.invariant.10 c.loop.invariant.8 done.missed up
    (subst (λ (n : NodeView g.row.S.Denot). HasNoPlace g.S.Sign.scheme g.D.Disk.device n c.loop.rule c.flush_pending.new.missed (point_of mid) now) c.loop.invariant.5 (done.full up is)))) in
    let output : c.and-faults.result.output ≡ false = search rules in
    let input : c.and-faults.result.input ≡ false = search rules in
    let leaves = all_on g.S.Sign.scheme g.D.Disk.device c.args.rounds.now.node c.loop.rounds.node first mid now c.loop.invariant.5 c.loop.invariant.6 c.loop.invariant.7
    (λ down. (done.stays down).1) done.any_moment done.at_end done.earlier in
    let Made = HasCheckpoint g.S.Sign.scheme g.D.Disk.device c.args.rounds.now.node in
    let by_rule = λ (up : is_down mid ≡ false) (none : c.flush_pending.result.journal ≡ None).
    subst (λ (n : NodeView g.row.S.Denot). ByTheRule g.D.Disk.device (HasCheckpoint g.S.Sign.scheme g.D.Disk.device n) c.loop.rule c.flush_pending.new.missed
    (point_of mid) c.flush_pending.new.rule (point_of now))
    c.loop.invariant.5 (done.by_rule up none) in (
      tt,
      tt,
      output,
      input,
      reported,
      done.node ∙ c.loop.invariant.5,
      begins_trans (settled_in first) (settled_in mid) (settled_in now) c.loop.invariant.6 done.more,
      inr leaves,
      by_rule_on g.D.Disk.device Made c.args.rule c.loop.rule c.flush_pending.new.rule first mid now Lacks c.loop.faults c.flush_pending.result c.and-faults.result
          c.loop.missed c.flush_pending.new.missed (faults first) (faults mid) c.loop.invariant.4 c.loop.invariant.8 by_rule done.missed c.and-faults.ensures.journal,
      done.pair,
      up_before first mid now c.loop.invariant.10 (λ down. (done.stays down).1),
      begins_trans c.args.rounds.now.seat.view.seen c.loop.rounds.seat.view.seen c.flush_pending.new.rounds.seat.view.seen c.loop.invariant.11 done.seen,
    )

pub returns-then-not-may_go_on-clause-journal : goal.returns-then-not-may_go_on-clause-journal
returns-then-not-may_go_on-clause-journal g c =
    let first = c.args.rounds.now.flusher in
    let mid = c.loop.rounds.flusher in
    let now = c.flush_pending.new.rounds.flusher in
    let node = c.args.rounds.now.node in
    let Lacks = HasNoPlace g.S.Sign.scheme g.D.Disk.device node c.args.rule c.loop.missed (point_of first) mid in
    let LacksNow = HasNoPlace g.S.Sign.scheme g.D.Disk.device node c.args.rule c.flush_pending.new.missed (point_of first) now in
    let faults = λ (f : Flusher g.row.D.Denot). faults_in g.D.Disk.device (store_of (journal_of f)) in
    let done = c.flush_pending.ensures in
    let reported = subst (λ (j : Option JournalError). ReportsJournal (faults first) (faults now) (is_down first) (is_down now) j LacksNow) (sym c.and-faults.ensures.journal)
    (reported_on (faults first) (faults mid) (faults now) (is_down first) (is_down mid) (is_down now) c.loop.faults.journal c.flush_pending.result.journal Lacks LacksNow c.loop.invariant.4
    done.rounds done.down
    (λ down. let it = done.stays down in (
      it.0,
      subst (λ (f : Flusher g.row.D.Denot). IsTrue (is_down f)) (sym it.1) down,
      λ lacks. subst (λ (f : Flusher g.row.D.Denot). HasNoPlace g.S.Sign.scheme g.D.Disk.device node c.args.rule c.flush_pending.new.missed (point_of first) f) (sym it.1)
          (place_weaker g.S.Sign.scheme g.D.Disk.device node c.args.rule c.loop.missed c.flush_pending.new.missed (point_of first) mid done.missed lacks),
    ))
    (λ up is. no_place_on g.S.Sign.scheme g.D.Disk.device node c.args.rule c.loop.rule first mid now c.loop.missed c.flush_pending.new.missed c.loop.faults.journal (faults first) (faults mid) Lacks
    c.loop.invariant.4 c.loop.invariant.10 c.loop.invariant.8 done.missed up
    (subst (λ (n : NodeView g.row.S.Denot). HasNoPlace g.S.Sign.scheme g.D.Disk.device n c.loop.rule c.flush_pending.new.missed (point_of mid) now) c.loop.invariant.5 (done.full up is)))) in
    let raised : c.flush_pending.new.missed ≡ true → c.if-faults.result ≡ true = λ is. elim c.if-faults.branch [
      | then-faults w ↦ w.result-is ∙ w.if-faults.true
      | else-faults w ↦ w.result-is ∙ is
    ] in
    reports_weaker (faults first) (faults now) (is_down first) (is_down now) c.and-faults.result.journal LacksNow
    (HasNoPlace g.S.Sign.scheme g.D.Disk.device node c.args.rule c.if-faults.result (point_of first) now)
    (place_weaker g.S.Sign.scheme g.D.Disk.device node c.args.rule c.flush_pending.new.missed c.if-faults.result (point_of first) now raised) reported

pub returns-then-not-may_go_on-clause-any_moment : goal.returns-then-not-may_go_on-clause-any_moment
returns-then-not-may_go_on-clause-any_moment g c = λ up.
    let done = c.flush_pending.ensures in
    (all_on g.S.Sign.scheme g.D.Disk.device c.args.rounds.now.node c.loop.rounds.node c.args.rounds.now.flusher c.loop.rounds.flusher c.flush_pending.new.rounds.flusher
    c.loop.invariant.5 c.loop.invariant.6 c.loop.invariant.7 (λ down. (done.stays down).1) done.any_moment done.at_end done.earlier up).0

pub returns-then-not-may_go_on-clause-at_end : goal.returns-then-not-may_go_on-clause-at_end
returns-then-not-may_go_on-clause-at_end g c = λ up.
    let done = c.flush_pending.ensures in
    (all_on g.S.Sign.scheme g.D.Disk.device c.args.rounds.now.node c.loop.rounds.node c.args.rounds.now.flusher c.loop.rounds.flusher c.flush_pending.new.rounds.flusher
    c.loop.invariant.5 c.loop.invariant.6 c.loop.invariant.7 (λ down. (done.stays down).1) done.any_moment done.at_end done.earlier up).1

pub returns-then-not-may_go_on-clause-by_rule : goal.returns-then-not-may_go_on-clause-by_rule
returns-then-not-may_go_on-clause-by_rule g c = λ up none.
    let raised : c.flush_pending.new.missed ≡ true → c.if-faults.result ≡ true = λ is. elim c.if-faults.branch [
      | then-faults w ↦ w.result-is ∙ w.if-faults.true
      | else-faults w ↦ w.result-is ∙ is
    ] in
    let first = c.args.rounds.now.flusher in
    let mid = c.loop.rounds.flusher in
    let now = c.flush_pending.new.rounds.flusher in
    let faults = λ (f : Flusher g.row.D.Denot). faults_in g.D.Disk.device (store_of (journal_of f)) in
    let Made = HasCheckpoint g.S.Sign.scheme g.D.Disk.device c.args.rounds.now.node in
    let by_rule = λ (up : is_down mid ≡ false) (none : c.flush_pending.result.journal ≡ None).
    subst (λ (n : NodeView g.row.S.Denot). ByTheRule g.D.Disk.device (HasCheckpoint g.S.Sign.scheme g.D.Disk.device n) c.loop.rule c.flush_pending.new.missed
    (point_of mid) c.flush_pending.new.rule (point_of now))
    c.loop.invariant.5 (c.flush_pending.ensures.by_rule up none) in (
      c.flush_pending.new.rule,
      by_rule_weaker g.D.Disk.device Made Made c.args.rule c.flush_pending.new.rule c.flush_pending.new.missed c.if-faults.result (point_of first) (point_of now) (λ point made. made) raised
          (by_rule_on g.D.Disk.device Made c.args.rule c.loop.rule c.flush_pending.new.rule first mid now
          (HasNoPlace g.S.Sign.scheme g.D.Disk.device c.args.rounds.now.node c.args.rule c.loop.missed (point_of first) mid) c.loop.faults c.flush_pending.result
          c.and-faults.result c.loop.missed c.flush_pending.new.missed (faults first) (faults mid) c.loop.invariant.4 c.loop.invariant.8 by_rule c.flush_pending.ensures.missed
          c.and-faults.ensures.journal up none),
    )

pub returns-then-not-may_go_on-clause-settles : goal.returns-then-not-may_go_on-clause-settles
returns-then-not-may_go_on-clause-settles g c = λ up fine.
    let none : c.and-faults.result.memory ≡ false = elim c.if-faults.branch [
      | then-faults w ↦ absurd (let bad : true ≡ false = sym (w.result-is ∙ w.if-faults.true) ∙ fine in cc)
      | else-faults w ↦ w.if-faults.false
    ] in
    let last = (or_parts c.loop.faults.memory c.flush_pending.result.memory (sym c.and-faults.ensures.memory ∙ none)).1 in
    begins_trans c.args.rounds.now.seat.view.seen c.loop.rounds.seat.view.seen (settled_in c.flush_pending.new.rounds.flusher) c.loop.invariant.11 (c.flush_pending.ensures.all up last)
