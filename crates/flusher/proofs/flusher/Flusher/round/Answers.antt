use Rattle.std.proofs.Common.{rules, ◌≡◌, inr, List, ◌+◌, length, sym, ap, ◌∙◌, subst, arith}
use Rattle.wire.specs.Lists.{Begins}
use Rattle.node_seats.specs.Views.{IsSame}
use Rattle.node_seats.specs.Sights.{SeatView}
use Rattle.node_seats.proofs.Beginnings.{begins_same, begins_trans}
use Rattle.node_seats.proofs.Same.{same_then, same_heard, or_second}
use Rattle.node_shared.specs.Home.{IsFlushOf, taken_by}
use Rattle.flusher.specs.Rounds.{areas_at, IsFlusherOf, HoldsAfter, HoldsEither, KeepsEarlier, records_after}
use Rattle.flusher.specs.declared.flusher.Flusher.{Flusher}
use Rattle.flusher.proofs.Adding.{holds_here}
use Rattle.diskmodel.proofs.Clock.{started}
use Rattle.diskmodel.specs.Disk.{AtEachMoment}
use Rattle.journal.specs.Format.{file_with}
use Rattle.journal.specs.Journal.{disk_of}
use Rattle.journal.specs.Pairs.{areas_of}
use Rattle.node_seats.specs.declared.view.Marked.{Marked}
use Rattle.node_shared.specs.declared.flush_seat.FlushSeat.{FlushSeat}
use Rattle.book.proofs.Options.{of_some}
use Rattle.flusher.proofs.Taking.{group_after, rests_at, takes_none, takes_some, size_some, takes_as, is_none}
use Rattle.flusher.proofs.flusher.Flusher.round.Goals as goal
use Rattle.flusher.proofs.flusher.Flusher.round.Goals.{in-Some+in_ok-count-in-Some, in-None}

pub returns-in_err-count-in-Some-clause-settles : goal.returns-in_err-count-in-Some-clause-settles
returns-in_err-count-in-Some-clause-settles g c =
    let flush = c.take.new.flush in
    let of = c.in-Ok.ensures.flush in
    record {
      takes = inr (inr (takes_as _ _ _ _ _ c.in-Ok.ensures.flush_durable (sym c.in_err-count-in-Some.ensures.taken)
          (takes_some c.args.node.now flush of c.args.seat.now.view.seen (begins_trans _ _ _ c.in-Ok.ensures.looked.more c.in-Ok.ensures.seen) c.in-Some.group
          (of_some _ _ _ c.in-Some.is c.in-Ok.ensures.takes.group))));
      memory = search rules;
      size = search rules;
      settled = search rules;
      reported = search rules;
      not_settled = search rules;
    }

pub returns-clause-settles : goal.returns-clause-settles
returns-clause-settles g c =
    let flush = c.take.new.flush in
    let of = c.in-Ok.ensures.flush in
    let reported = c.report_settled.ensures in
    let had = begins_trans _ _ _ c.in-Ok.ensures.looked.more c.in-Ok.ensures.seen in
    elim c.match-found.branch [
      | in-Some+in_ok-count-in-Some w ↦
          let self_is = ap (λ f. f.seat) w.self-is in
          let taken = ap taken_by reported.flush ∙ ap taken_by self_is ∙ w.in_ok-count-in-Some.ensures.taken in
          let durable = ap (λ (f : _). f.seat.view.durable) self_is ∙ w.in_ok-count-in-Some.ensures.ok.1 in
          record {
            takes = inr (inr (takes_as _ _ _ _ _ c.in-Ok.ensures.flush_durable (sym taken)
                (takes_some c.args.node.now flush of c.args.seat.now.view.seen had w.in-Some.group (of_some _ _ _ w.in-Some.is c.in-Ok.ensures.takes.group))));
            memory = search rules;
            size = ap length taken ∙ size_some c.args.node.now flush of w.in-Some.group (of_some _ _ _ w.in-Some.is c.in-Ok.ensures.takes.group)
                ∙ (λ i. length (c.in-Ok.ensures.flush_durable i) + (sym w.in_ok-count-in-Some.ensures.ok.0 ∙ sym w.count-is) i);
            settled = ap (λ (f : _). f.seat.view.durable) reported.flush ∙ durable ∙ sym taken;
            reported = reported.durable ∙ durable ∙ sym taken;
            not_settled = search rules;
          }
      | in-None w ↦
          let self_is = ap (λ f. f.seat) w.self-is in
          let none = c.in-Ok.ensures.takes.none (is_none _ w.in-None.is) in
          let rests = none.0 ∙ c.requires.flusher.rests (search rules) ∙ sym c.in-Ok.ensures.flush_settled in
          let taken = ap taken_by reported.flush ∙ ap taken_by self_is ∙ rests_at c.args.node.now flush of rests in
          let durable = ap (λ (f : _). f.seat.view.durable) self_is in
          record {
            takes = inr (inr (takes_as _ _ _ _ _ c.in-Ok.ensures.flush_durable (sym (ap taken_by reported.flush ∙ ap taken_by self_is))
                (takes_none c.args.node.now flush of c.args.seat.now.view.seen had rests none.1)));
            memory = search rules;
            size = ap length (taken ∙ c.in-Ok.ensures.flush_durable) ∙ (search rules) ∙ ap (λ n. length c.args.self.now.seat.seat.view.durable + n) (sym w.count-is);
            settled = ap (λ (f : _). f.seat.view.durable) reported.flush ∙ durable ∙ sym taken;
            reported = reported.durable ∙ durable ∙ sym taken;
            not_settled = search rules;
          }
    ]

pub report_settled-requires-clause-flush : goal.report_settled-requires-clause-flush
report_settled-requires-clause-flush g c = elim c.match-found.branch [
  | in-Some+in_ok-count-in-Some w ↦ subst (λ f. IsFlushOf c.args.node.now f.seat) (sym w.self-is) w.in_ok-count-in-Some.ensures.flusher.seat
  | in-None w ↦ subst (λ f. IsFlushOf c.args.node.now f.seat) (sym w.self-is) c.in-Ok.ensures.flush
]

pub returns-clause-flusher : goal.returns-clause-flusher
returns-clause-flusher g c =
    let had = c.requires.flusher in
    let is : IsFlusherOf g.S.Sign.scheme g.D.Disk.device c.args.node.now c.match-found.self = elim c.match-found.branch [
      | in-Some+in_ok-count-in-Some w ↦ subst (λ f. IsFlusherOf g.S.Sign.scheme g.D.Disk.device c.args.node.now f) (sym w.self-is) w.in_ok-count-in-Some.ensures.flusher
      | in-None w ↦
          subst (λ f. IsFlusherOf g.S.Sign.scheme g.D.Disk.device c.args.node.now f) (sym w.self-is) (record {
            seat = c.in-Ok.ensures.flush;
            right = c.in-Ok.ensures.flush_same.right ∙ had.right;
            rests = λ up. (c.in-Ok.ensures.takes.none (is_none _ w.in-None.is)).0 ∙ had.rests up ∙ sym c.in-Ok.ensures.flush_settled;
            idle = λ up. c.in-Ok.ensures.flush_idle;
            alive = had.alive;
            holds = λ up. subst (λ f. HoldsAfter g.S.Sign.scheme c.args.node.now f (areas_of g.D.Disk.device c.args.self.now.journal))
                (sym c.in-Ok.ensures.flush_durable) (had.holds up);
          })
    ] in
    subst (λ f. IsFlusherOf g.S.Sign.scheme g.D.Disk.device c.args.node.now
    (record { journal = c.match-found.self.journal; seat = f; down = c.match-found.self.down })) (sym c.report_settled.ensures.flush) is

pub returns-clause-reported : goal.returns-clause-reported
returns-clause-reported g c =
    let looked = c.in-Ok.ensures.looked in
    let learned = c.report_settled.ensures.learned in
    let later = c.report_settled.new.seat in
    let mid : c.match-found.seat ≡ c.take.new.seat = elim c.match-found.branch [
      | in-Some+in_ok-count-in-Some w ↦ w.seat-is ∙ w.in_ok-count-in-Some.ensures.seat
      | in-None w ↦ w.seat-is
    ] in
    record {
      same = same_then c.args.seat.now c.take.new.seat later looked.same (subst (λ s. IsSame s later) mid learned.same);
      more = begins_trans c.args.seat.now.view.seen c.take.new.seat.view.seen later.view.seen looked.more (subst (λ s. Begins s.view.seen later.view.seen) mid learned.seen);
      more_durable = subst (λ f. Begins f later.view.durable) looked.durable (subst (λ s. Begins s.view.durable later.view.durable) mid learned.more);
      no_change = search rules;
      device = search rules;
      full = search rules;
    }

pub returns-in_err-count-in-Some-clause-reported : goal.returns-in_err-count-in-Some-clause-reported
returns-in_err-count-in-Some-clause-reported g c =
    let before = c.args.seat.now in
    let mid = c.take.new.seat in
    let looked = c.in-Ok.ensures.looked in
    let is = c.in_err-count-in-Some.ensures.seat_err in
    let knows = ap (λ (s : SeatView). s.view.down) is ∙ or_second mid.view.down c.add.new.self.seat.seat.view.down c.in_err-count-in-Some.ensures.reported_err in
    record {
      same = same_then before mid c.add.new.seat looked.same (same_heard mid c.add.new.seat c.add.new.self.seat.seat.view is);
      more = subst (λ s. Begins before.view.seen s.view.seen) (sym is) looked.more;
      more_durable = subst (λ s. Begins before.view.durable s.view.durable) (sym is) (subst (λ l. Begins before.view.durable l) (sym looked.durable) (begins_same before.view.durable));
      no_change = search rules;
      device = λ _. knows;
      full = λ _. knows;
    }

pub returns-in-Err-clause-any_moment : goal.returns-in-Err-clause-any_moment
returns-in-Err-clause-any_moment g c =
    let had = c.requires.flusher in
    let disk = disk_of c.args.self.now.journal in
    inr (started g.D.Disk.device disk _
    (λ left now. holds_here g.S.Sign.scheme g.D.Disk.device c.args.node.now c.args.self.now.seat.seat.view.durable (taken_by c.take.new.flush) c.args.self.now.journal (had.holds (search rules)) left
    ((had.alive (search rules)).durable left (g.met.D.Disk.only_now disk left now))))

pub returns-clause-any_moment : goal.returns-clause-any_moment
returns-clause-any_moment g c =
    let had = c.requires.flusher in
    let device = g.D.Disk.device in
    let scheme = g.S.Sign.scheme in
    let node = c.args.node.now in
    let journal = c.args.self.now.journal in
    let disk = disk_of journal in
    let settled = c.args.self.now.seat.seat.view.durable in
    let taken = taken_by c.report_settled.new.flush in
    let leaves = λ (f : Flusher g.row.D.Denot) (s t : List Marked).
    AtEachMoment device disk (disk_of f.journal) (λ left. HoldsEither scheme node s t (areas_of device journal) (areas_at device journal left)) in
    elim c.match-found.branch [
      | in-Some+in_ok-count-in-Some w ↦
          let is : taken ≡ taken_by c.take.new.flush =
          ap taken_by c.report_settled.ensures.flush ∙ ap (λ (f : Flusher g.row.D.Denot). taken_by f.seat) w.self-is ∙ w.in_ok-count-in-Some.ensures.taken in
          inr (subst (λ (f : Flusher g.row.D.Denot). leaves f settled taken) (sym w.self-is)
          (subst (λ s. leaves w.add.new.self s taken) c.in-Ok.ensures.flush_durable
          (subst (λ t. leaves w.add.new.self c.take.new.flush.seat.view.durable t) (sym is) w.in_ok-count-in-Some.ensures.any_moment)))
      | in-None w ↦
          inr (subst (λ (f : Flusher g.row.D.Denot). leaves f settled taken) (sym w.self-is)
          (started device disk _
          (λ left now. holds_here scheme device node settled taken journal (had.holds (search rules)) left ((had.alive (search rules)).durable left (g.met.D.Disk.only_now disk left now)))))
    ]

pub returns-clause-earlier : goal.returns-clause-earlier
returns-clause-earlier g c =
    let device = g.D.Disk.device in
    let node = c.args.node.now in
    let settled = c.args.self.now.seat.seat.view.durable in
    let keeps = λ (f : Flusher g.row.D.Denot) (s t : List Marked). KeepsEarlier g.S.Sign.scheme node s t (areas_of device c.args.self.now.journal) (areas_of device f.journal) in
    let reported = ap (λ (f : FlushSeat). f.seat.view.durable) c.report_settled.ensures.flush in
    elim c.match-found.branch [
      | in-Some+in_ok-count-in-Some w ↦
          let is = reported ∙ ap (λ (f : Flusher g.row.D.Denot). f.seat.seat.view.durable) w.self-is ∙ w.in_ok-count-in-Some.ensures.ok.1 in
          subst (λ (f : Flusher g.row.D.Denot). keeps f settled c.report_settled.new.flush.seat.view.durable) (sym w.self-is)
          (subst (λ s. keeps w.add.new.self s c.report_settled.new.flush.seat.view.durable) c.in-Ok.ensures.flush_durable
          (subst (λ t. keeps w.add.new.self c.take.new.flush.seat.view.durable t) (sym is) w.in_ok-count-in-Some.ensures.earlier))
      | in-None w ↦
          let is = reported ∙ ap (λ (f : Flusher g.row.D.Denot). f.seat.seat.view.durable) w.self-is ∙ c.in-Ok.ensures.flush_durable in
          subst (λ (f : Flusher g.row.D.Denot). keeps f settled c.report_settled.new.flush.seat.view.durable) (sym w.self-is)
          (subst (λ t. keeps c.args.self.now settled t) (sym is) (λ base there. there))
    ]

pub returns-in_err-count-in-Some-clause-any_moment : goal.returns-in_err-count-in-Some-clause-any_moment
returns-in_err-count-in-Some-clause-any_moment g c =
    let device = g.D.Disk.device in
    let journal = c.args.self.now.journal in
    let leaves = λ (s t : List Marked).
    AtEachMoment device (disk_of journal) (disk_of c.add.new.self.journal) (λ left. HoldsEither g.S.Sign.scheme c.args.node.now s t (areas_of device journal) (areas_at device journal left)) in
    inr (subst (λ s. leaves s (taken_by c.add.new.self.seat)) c.in-Ok.ensures.flush_durable
    (subst (leaves c.take.new.flush.seat.view.durable) (sym c.in_err-count-in-Some.ensures.taken) c.in_err-count-in-Some.ensures.any_moment))

pub returns-clause-nothing : goal.returns-clause-nothing
returns-clause-nothing g c = elim c.match-found.branch [
  | in-Some+in_ok-count-in-Some w ↦ λ none. absurd (let some = w.in_ok-count-in-Some.ensures.some in omega (arith, some, w.count-is, none))
  | in-None w ↦ λ none. ap (λ (f : _). f.journal) w.self-is
]

-- the group that was taken is of what is settled then
pub returns-clause-adds : goal.returns-clause-adds
returns-clause-adds g c =
    let flush = c.take.new.flush in
    let device = g.D.Disk.device in
    let reported = c.report_settled.ensures in
    elim c.match-found.branch [
      | in-Some+in_ok-count-in-Some w ↦ λ some.
          let added = w.in_ok-count-in-Some.ensures in
          let group = (of_some _ _ _ w.in-Some.is c.in-Ok.ensures.takes.group).is ∙ group_after c.args.node.now flush c.in-Ok.ensures.flush in
          let settled = ap (λ (f : FlushSeat). f.seat.view.durable) reported.flush ∙ ap (λ (f : Flusher g.row.D.Denot). f.seat.seat.view.durable) w.self-is ∙ added.ok.1 in
          ap (λ (f : Flusher g.row.D.Denot). device.content (disk_of f.journal)) w.self-is ∙ added.content
          ∙ ap (file_with (device.content (disk_of c.args.self.now.journal))) (group ∙ (λ i. records_after (c.in-Ok.ensures.flush_durable i) (sym settled i)))
      | in-None w ↦ λ some. absurd (omega (arith, some, w.count-is))
    ]
