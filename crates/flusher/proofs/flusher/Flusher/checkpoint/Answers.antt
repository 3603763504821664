use Rattle.std.proofs.Common.{rules, ◌≡◌, inr, List, ℕ, Result, Ok, Err, sym, ap, ◌∙◌, subst}
use Rattle.std.specs.Prelude.{◌↔◌, IsErrOf}
use Rattle.book.specs.Checkpoints.{HasNoRoomFor}
use Rattle.book.specs.declared.own.error.FlushError.{FlushError}
use Rattle.book.specs.declared.own.error.FlushError.TheVariants.{Full}
use Rattle.diskmodel.proofs.Clock.{started}
use Rattle.diskmodel.specs.Disk.{AtEachMoment}
use Rattle.journal.specs.Journal.{disk_of}
use Rattle.journal.specs.Pairs.{areas_of, areas_with, spare_disk, rewritten_disk}
use Rattle.node_seats.proofs.Beginnings.{begins_same, begins_trans}
use Rattle.node_seats.proofs.Same.{same_then, same_heard, or_second}
use Rattle.node_seats.specs.Sights.{SeatView}
use Rattle.node_seats.specs.Views.{IsSame}
use Rattle.node_seats.specs.declared.view.Marked.{Marked}
use Rattle.node_shared.specs.Home.{IsCheckpointAfter, taken_by}
use Rattle.node_shared.specs.declared.flush_seat.FlushSeat.{FlushSeat}
use Rattle.wire.specs.Lists.{Begins}
use Rattle.flusher.specs.Rounds.{HoldsEither, IsFlusherOf, KeepsEarlier}
use Rattle.flusher.proofs.Reading.{spare_durable}
use Rattle.flusher.proofs.Adding.{still_holds}
use Rattle.flusher.proofs.Taking.{takes_all, takes_all_as, goes_down, stays_up, reports_room}
use Rattle.flusher.proofs.flusher.Flusher.checkpoint.Goals as goal

pub returns-in_err-generation-clause-settles : goal.returns-in_err-generation-clause-settles
returns-in_err-generation-clause-settles g c =
    let flush = c.take_all.new.flush in
    record {
      takes = inr (inr (takes_all_as _ _ _ _ _ c.in-Ok.ensures.flush_durable (sym c.in_err-generation.ensures.taken)
          (takes_all c.args.node.now flush c.in-Ok.ensures.flush c.args.seat.now.view.seen (begins_trans _ _ _ c.in-Ok.ensures.looked.more c.in-Ok.ensures.seen) c.in-Ok.ensures.takes.all.0)));
      memory = search rules;
      settled = search rules;
      reported = search rules;
      not_settled = search rules;
    }

pub returns-clause-settles : goal.returns-clause-settles
returns-clause-settles g c =
    let flush = c.take_all.new.flush in
    let reported = c.report_settled.ensures in
    let wrote = c.in_ok-generation.ensures in
    let taken = ap taken_by reported.flush ∙ wrote.taken in
    record {
      takes = inr (inr (takes_all_as _ _ _ _ _ c.in-Ok.ensures.flush_durable (sym taken)
          (takes_all c.args.node.now flush c.in-Ok.ensures.flush c.args.seat.now.view.seen (begins_trans _ _ _ c.in-Ok.ensures.looked.more c.in-Ok.ensures.seen) c.in-Ok.ensures.takes.all.0)));
      memory = search rules;
      settled = ap (λ (f : FlushSeat). f.seat.view.durable) reported.flush ∙ wrote.ok.1 ∙ sym taken;
      reported = reported.durable ∙ wrote.ok.1 ∙ sym taken;
      not_settled = search rules;
    }

pub returns-clause-flusher : goal.returns-clause-flusher
returns-clause-flusher g c =
    subst (λ f. IsFlusherOf g.S.Sign.scheme g.D.Disk.device c.args.node.now
    (record { journal = c.rewrite.new.self.journal; seat = f; down = c.rewrite.new.self.down })) (sym c.report_settled.ensures.flush) c.in_ok-generation.ensures.flusher

pub returns-clause-reported : goal.returns-clause-reported
returns-clause-reported g c =
    let looked = c.in-Ok.ensures.looked in
    let learned = c.report_settled.ensures.learned in
    let later = c.report_settled.new.seat in
    let mid = c.in_ok-generation.ensures.seat in
    record {
      same = same_then c.args.seat.now c.take_all.new.seat later looked.same (subst (λ s. IsSame s later) mid learned.same);
      more = begins_trans c.args.seat.now.view.seen c.take_all.new.seat.view.seen later.view.seen looked.more (subst (λ s. Begins s.view.seen later.view.seen) mid learned.seen);
      more_durable = subst (λ f. Begins f later.view.durable) looked.durable (subst (λ s. Begins s.view.durable later.view.durable) mid learned.more);
      no_change = search rules;
      device = search rules;
      full = search rules;
    }

pub returns-in_err-generation-clause-reported : goal.returns-in_err-generation-clause-reported
returns-in_err-generation-clause-reported g c =
    let before = c.args.seat.now in
    let mid = c.take_all.new.seat in
    let looked = c.in-Ok.ensures.looked in
    let is = c.in_err-generation.ensures.seat_err in
    let knows = ap (λ (s : SeatView). s.view.down) is ∙ or_second mid.view.down c.rewrite.new.self.seat.seat.view.down c.in_err-generation.ensures.reported_err in
    record {
      same = same_then before mid c.rewrite.new.seat looked.same (same_heard mid c.rewrite.new.seat c.rewrite.new.self.seat.seat.view is);
      more = subst (λ s. Begins before.view.seen s.view.seen) (sym is) looked.more;
      more_durable = subst (λ s. Begins before.view.durable s.view.durable) (sym is) (subst (λ l. Begins before.view.durable l) (sym looked.durable) (begins_same before.view.durable));
      no_change = search rules;
      device = λ _. knows;
      full = λ _. knows;
    }

pub returns-in-Err-clause-any_moment : goal.returns-in-Err-clause-any_moment
returns-in-Err-clause-any_moment g c =
    let had = c.requires.flusher in
    let device = g.D.Disk.device in
    let journal = c.args.self.now.journal in
    let spare = spare_disk journal in
    inr (started device spare _
    (λ left now. still_holds g.S.Sign.scheme c.args.node.now c.args.self.now.seat.seat.view.durable (taken_by c.take_all.new.flush) (areas_of device journal) (areas_with device journal left)
    (ap (areas_with device journal) (spare_durable device journal (had.alive (search rules)) left (g.met.D.Disk.only_now spare left now))) (had.holds (search rules))))

pub returns-in_err-generation-clause-down : goal.returns-in_err-generation-clause-down
returns-in_err-generation-clause-down g c =
    let is : c.from_residual.result ≡ Err c.in_err-generation.field-0.0 = search rules in
    goes_down c.args.self.now c.rewrite.new.self c.from_residual.result c.in_err-generation.field-0.0 is c.in_err-generation.ensures.errors (search rules) c.in_err-generation.ensures.err.1

pub returns-clause-down : goal.returns-clause-down
returns-clause-down g c = stays_up c.args.self.now _ c.in_ok-generation.generation (search rules) c.in_ok-generation.ensures.ok.2

pub returns-in_err-generation-clause-room : goal.returns-in_err-generation-clause-room
returns-in_err-generation-clause-room g c =
    let same : c.from_residual.result ≡ c.rewrite.result = search rules in
    inr (inr (reports_room g.S.Sign.scheme c.args.node.now c.args.self.now c.rewrite.new.self c.from_residual.result c.in-Ok.snapshot (taken_by c.take_all.new.flush)
    c.in_err-generation.ensures.taken c.in-Ok.ensures.takes.checkpoint
    (subst (λ (r : Result ℕ FlushError). IsErrOf r Full ↔ HasNoRoomFor c.args.self.now.journal c.in-Ok.snapshot) (sym same) c.rewrite.ensures.full)
    (subst (λ (r : Result ℕ FlushError). IsErrOf r Full → c.rewrite.new.self.journal ≡ c.args.self.now.journal) (sym same) c.rewrite.ensures.full_same)))

pub returns-clause-room : goal.returns-clause-room
returns-clause-room g c =
    inr (inr (reports_room g.S.Sign.scheme c.args.node.now c.args.self.now _ (Ok c.in_ok-generation.generation) c.in-Ok.snapshot (taken_by c.take_all.new.flush)
    (ap taken_by c.report_settled.ensures.flush ∙ c.in_ok-generation.ensures.taken) c.in-Ok.ensures.takes.checkpoint c.in_ok-generation.ensures.full c.in_ok-generation.ensures.full_same))

pub returns-clause-any_moment : goal.returns-clause-any_moment
returns-clause-any_moment g c =
    let device = g.D.Disk.device in
    let journal = c.args.self.now.journal in
    let taken = ap taken_by c.report_settled.ensures.flush ∙ c.in_ok-generation.ensures.taken in
    let leaves = λ (s t : List Marked).
    AtEachMoment device (spare_disk journal) (disk_of c.rewrite.new.self.journal)
    (λ left. HoldsEither g.S.Sign.scheme c.args.node.now s t (areas_of device journal) (areas_with device journal left)) in
    inr (subst (λ s. leaves s (taken_by c.report_settled.new.flush)) c.in-Ok.ensures.flush_durable
    (subst (leaves c.take_all.new.flush.seat.view.durable) (sym taken) c.in_ok-generation.ensures.any_moment))

pub returns-clause-earlier : goal.returns-clause-earlier
returns-clause-earlier g c =
    let device = g.D.Disk.device in
    let settled = ap (λ (f : FlushSeat). f.seat.view.durable) c.report_settled.ensures.flush ∙ c.in_ok-generation.ensures.ok.1 in
    let keeps = λ (s t : List Marked). KeepsEarlier g.S.Sign.scheme c.args.node.now s t (areas_of device c.args.self.now.journal) (areas_of device c.rewrite.new.self.journal) in
    subst (λ s. keeps s c.report_settled.new.flush.seat.view.durable) c.in-Ok.ensures.flush_durable
    (subst (keeps c.take_all.new.flush.seat.view.durable) (sym settled) c.in_ok-generation.ensures.earlier)

pub returns-in_err-generation-clause-any_moment : goal.returns-in_err-generation-clause-any_moment
returns-in_err-generation-clause-any_moment g c =
    let device = g.D.Disk.device in
    let journal = c.args.self.now.journal in
    let same : c.from_residual.result ≡ c.rewrite.result = search rules in
    let leaves = λ (r : Result ℕ FlushError) (s t : List Marked).
    AtEachMoment device (spare_disk journal) (rewritten_disk r c.rewrite.new.self.journal)
    (λ left. HoldsEither g.S.Sign.scheme c.args.node.now s t (areas_of device journal) (areas_with device journal left)) in
    inr (subst (λ r. leaves r c.args.self.now.seat.seat.view.durable (taken_by c.rewrite.new.self.seat)) (sym same)
    (subst (λ s. leaves c.rewrite.result s (taken_by c.rewrite.new.self.seat)) c.in-Ok.ensures.flush_durable
    (subst (leaves c.rewrite.result c.take_all.new.flush.seat.view.durable) (sym c.rewrite.ensures.taken) c.rewrite.ensures.any_moment)))

pub returns-clause-writes : goal.returns-clause-writes
returns-clause-writes g c =
    let settled = ap (λ (f : FlushSeat). f.seat.view.durable) c.report_settled.ensures.flush ∙ c.in_ok-generation.ensures.ok.1 in
    record {
      records = c.in-Ok.snapshot;
      checkpoint = subst (λ (l : List Marked). IsCheckpointAfter g.S.Sign.scheme c.args.node.now l c.in-Ok.snapshot) (sym settled) c.in-Ok.ensures.takes.checkpoint;
      content = c.in_ok-generation.ensures.content;
    }
