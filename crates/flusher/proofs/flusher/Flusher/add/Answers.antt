use Rattle.std.proofs.Common.{◌≡◌, true, false, List, sym, ap, ◌∙◌, subst}
use Rattle.std.specs.Prelude.{not}
use Rattle.journal.specs.Journal.{disk_of, IsBeforeOrAfter}
use Rattle.journal.specs.Pairs.{areas_of}
use Rattle.node_seats.specs.declared.view.Marked.{Marked}
use Rattle.validator.specs.Setting.{node_of}
use Rattle.flusher.proofs.Taking.{still_flush}
use Rattle.node_shared.specs.declared.flush_seat.FlushSeat.{FlushSeat}
use Rattle.flusher.specs.Rounds.{HoldsAfter}
use Rattle.flusher.proofs.Flushing.{either_with, keeps_with, taken_there}
use Rattle.flusher.proofs.Reading.{not_new}
use Rattle.diskmodel.proofs.Clock.{weaker}
use Rattle.flusher.proofs.flusher.Flusher.add.Goals as goal

-- a journal at a state has its first group
pub append-requires-clause-first : goal.append-requires-clause-first
append-requires-clause-first g c = λ some empty. absurd
    (not_new g.D.Disk.device (node_of g.S.Sign.scheme c.args.node.now.setting) _ c.args.self.now.journal some c.requires.alive c.requires.holds.holds empty)

pub settle-requires-clause-group : goal.settle-requires-clause-group
settle-requires-clause-group g c = λ idle. c.in-Ok.ensures.synced ∙ c.requires.group

pub settle-requires-clause-checkpoint : goal.settle-requires-clause-checkpoint
settle-requires-clause-checkpoint g c = λ rewriting. absurd (let bad : false ≡ true = sym c.requires.idle ∙ rewriting in cc)

pub returns-in-Ok-clause-flusher : goal.returns-in-Ok-clause-flusher
returns-in-Ok-clause-flusher g c =
    let flush = c.args.self.now.seat in
    let settles = c.settle.ensures.settles in
    let keeps = keeps_with g.S.Sign.scheme g.D.Disk.device c.args.node.now flush c.args.self.now.journal c.requires.flush_seat c.requires.holds c.requires.legal c.requires.alive
    c.args.group c.requires.group c.append.new.self c.append.ensures.spare c.in-Ok.ensures.records in
    record {
      seat = settles.flush_of;
      right = settles.same.right ∙ c.requires.right ∙ sym (ap not c.requires.up);
      rests = λ up. settles.taken ∙ sym settles.settled;
      idle = λ up. settles.idle;
      alive = λ up. c.in-Ok.ensures.alive;
      holds = λ up. subst (λ (l : List Marked). HoldsAfter g.S.Sign.scheme c.args.node.now l (areas_of g.D.Disk.device c.append.new.self)) (sym settles.durable)
          (taken_there g.S.Sign.scheme g.D.Disk.device c.args.node.now flush c.args.self.now.journal c.requires.flush_seat c.requires.holds c.requires.legal
          (areas_of g.D.Disk.device c.append.new.self) keeps);
    }

pub returns-in-Ok-clause-any_moment : goal.returns-in-Ok-clause-any_moment
returns-in-Ok-clause-any_moment g c =
    weaker g.D.Disk.device (disk_of c.args.self.now.journal) (disk_of c.append.new.self) _
    (IsBeforeOrAfter (g.D.Disk.device.content (disk_of c.args.self.now.journal)) c.args.group) c.append.ensures.any_moment
    (either_with g.S.Sign.scheme g.D.Disk.device c.args.node.now c.args.self.now.seat c.args.self.now.journal c.requires.flush_seat c.requires.holds c.requires.legal c.requires.alive
    c.args.group c.requires.group)

pub returns-in-Ok-clause-earlier : goal.returns-in-Ok-clause-earlier
returns-in-Ok-clause-earlier g c =
    keeps_with g.S.Sign.scheme g.D.Disk.device c.args.node.now c.args.self.now.seat c.args.self.now.journal c.requires.flush_seat c.requires.holds c.requires.legal c.requires.alive
    c.args.group c.requires.group c.append.new.self c.append.ensures.spare c.in-Ok.ensures.records

pub returns-in_default-clause-flusher : goal.returns-in_default-clause-flusher
returns-in_default-clause-flusher g c = record {
  seat = still_flush c.args.node.now c.args.self.now.seat (c.fail.new.flush) c.fail.ensures.flush c.requires.flush_seat;
  right = ap (λ (f : FlushSeat). f.seat.view.may_fail) c.fail.ensures.flush;
  rests = λ up. let bad : true ≡ false = up in absurd cc;
  idle = λ up. let bad : true ≡ false = up in absurd cc;
  alive = λ up. let bad : true ≡ false = up in absurd cc;
  holds = λ up. let bad : true ≡ false = up in absurd cc;
}

pub returns-in_default-clause-any_moment : goal.returns-in_default-clause-any_moment
returns-in_default-clause-any_moment g c =
    weaker g.D.Disk.device (disk_of c.args.self.now.journal) (disk_of c.append.new.self) _
    (IsBeforeOrAfter (g.D.Disk.device.content (disk_of c.args.self.now.journal)) c.args.group) c.append.ensures.any_moment
    (either_with g.S.Sign.scheme g.D.Disk.device c.args.node.now c.args.self.now.seat c.args.self.now.journal c.requires.flush_seat c.requires.holds c.requires.legal c.requires.alive
    c.args.group c.requires.group)
