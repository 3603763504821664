use Rattle.std.proofs.Common.{◌≡◌, true, false, List, ◌∷◌, ℕ, sym, ap, ◌∙◌, subst}
use Rattle.std.specs.Prelude.{not}
use Rattle.diskmodel.proofs.Clock.{weaker}
use Rattle.journal.specs.Journal.{disk_of}
use Rattle.journal.specs.Snapshot.{bytes_for}
use Rattle.journal.specs.declared.layout.TheConstants.{OPEN}
use Rattle.journal.specs.Pairs.{StandsAsOrAfter, areas_of, spare_disk}
use Rattle.node_seats.specs.declared.view.Marked.{Marked}
use Rattle.flusher.proofs.Taking.{still_flush}
use Rattle.node_shared.specs.declared.flush_seat.FlushSeat.{FlushSeat}
use Rattle.node_shared.specs.Home.{IsCheckpointAfter, taken_by}
use Rattle.validator.specs.Setting.{node_of}
use Rattle.flusher.specs.Rounds.{HoldsAfter}
use Rattle.flusher.proofs.Flushing.{either_rewritten, keeps_rewritten, taken_there}
use Rattle.flusher.proofs.Reading.{reports_generation}
use Rattle.flusher.proofs.flusher.Flusher.rewrite.Goals as goal

-- a journal at a state has its first group
pub rewrite-requires-clause-begun : goal.rewrite-requires-clause-begun
rewrite-requires-clause-begun g c =
    reports_generation g.D.Disk.device (node_of g.S.Sign.scheme c.args.node.now.setting) _ c.args.self.now.journal c.requires.pair c.requires.alive c.requires.holds.holds

pub settle-requires-clause-group : goal.settle-requires-clause-group
settle-requires-clause-group g c = λ idle. absurd (let bad : true ≡ false = sym c.requires.rewriting ∙ idle in cc)

pub settle-requires-clause-checkpoint : goal.settle-requires-clause-checkpoint
settle-requires-clause-checkpoint g c = λ rewriting.
    subst (λ (records : List (List ℕ)). IsCheckpointAfter g.S.Sign.scheme c.args.node.now (taken_by c.args.self.now.seat) records) (sym c.in-Ok.ensures.synced) c.requires.checkpoint

pub returns-in-Ok-clause-flusher : goal.returns-in-Ok-clause-flusher
returns-in-Ok-clause-flusher g c =
    let settles = c.settle.ensures.settles in
    let keeps = keeps_rewritten g.S.Sign.scheme g.D.Disk.device c.args.node.now c.args.self.now.seat c.args.self.now.journal c.requires.flush_seat c.requires.holds c.requires.legal
    c.requires.pair c.args.snapshot c.requires.checkpoint c.rewrite.new.self c.in-Ok.ensures.swapped.pair c.in-Ok.ensures.records in
    record {
      seat = settles.flush_of;
      right = settles.same.right ∙ c.requires.right ∙ sym (ap not c.requires.up);
      rests = λ up. settles.taken ∙ sym settles.settled;
      idle = λ up. settles.idle;
      alive = λ up. c.in-Ok.ensures.alive;
      holds = λ up. subst (λ (l : List Marked). HoldsAfter g.S.Sign.scheme c.args.node.now l (areas_of g.D.Disk.device c.rewrite.new.self)) (sym settles.durable)
          (taken_there g.S.Sign.scheme g.D.Disk.device c.args.node.now c.args.self.now.seat c.args.self.now.journal c.requires.flush_seat c.requires.holds c.requires.legal
          (areas_of g.D.Disk.device c.rewrite.new.self) keeps);
    }

pub returns-in-Ok-clause-any_moment : goal.returns-in-Ok-clause-any_moment
returns-in-Ok-clause-any_moment g c =
    weaker g.D.Disk.device (spare_disk c.args.self.now.journal) (disk_of c.rewrite.new.self) _
    (StandsAsOrAfter g.D.Disk.device c.args.self.now.journal c.args.snapshot) c.in-Ok.ensures.any_moment
    (either_rewritten g.S.Sign.scheme g.D.Disk.device c.args.node.now c.args.self.now.seat c.args.self.now.journal c.requires.flush_seat c.requires.holds c.requires.legal
    c.requires.pair c.args.snapshot c.requires.checkpoint)

pub returns-in-Ok-clause-earlier : goal.returns-in-Ok-clause-earlier
returns-in-Ok-clause-earlier g c =
    keeps_rewritten g.S.Sign.scheme g.D.Disk.device c.args.node.now c.args.self.now.seat c.args.self.now.journal c.requires.flush_seat c.requires.holds c.requires.legal
    c.requires.pair c.args.snapshot c.requires.checkpoint c.rewrite.new.self c.in-Ok.ensures.swapped.pair c.in-Ok.ensures.records

pub returns-in_default-clause-flusher : goal.returns-in_default-clause-flusher
returns-in_default-clause-flusher g c = record {
  seat = still_flush c.args.node.now c.args.self.now.seat (c.fail.new.flush) c.fail.ensures.flush c.requires.flush_seat;
  right = ap (λ (f : FlushSeat). f.seat.view.may_fail) c.fail.ensures.flush;
  rests = λ up. let bad : true ≡ false = up in absurd cc;
  idle = λ up. let bad : true ≡ false = up in absurd cc;
  alive = λ up. let bad : true ≡ false = up in absurd cc;
  holds = λ up. let bad : true ≡ false = up in absurd cc;
}

pub returns-in_default-clause-any_moment : goal.returns-in_default-clause-any_moment
returns-in_default-clause-any_moment g c =
    weaker g.D.Disk.device (spare_disk c.args.self.now.journal) (spare_disk c.rewrite.new.self) _
    (StandsAsOrAfter g.D.Disk.device c.args.self.now.journal c.args.snapshot) c.in-Err.ensures.any_moment
    (either_rewritten g.S.Sign.scheme g.D.Disk.device c.args.node.now c.args.self.now.seat c.args.self.now.journal c.requires.flush_seat c.requires.holds c.requires.legal
    c.requires.pair c.args.snapshot c.requires.checkpoint)

pub returns-in-Full-clause-any_moment : goal.returns-in-Full-clause-any_moment
returns-in-Full-clause-any_moment g c =
    weaker g.D.Disk.device (spare_disk c.args.self.now.journal) (spare_disk c.rewrite.new.self) _
    (StandsAsOrAfter g.D.Disk.device c.args.self.now.journal c.args.snapshot) c.in-Err.ensures.any_moment
    (either_rewritten g.S.Sign.scheme g.D.Disk.device c.args.node.now c.args.self.now.seat c.args.self.now.journal c.requires.flush_seat c.requires.holds c.requires.legal
    c.requires.pair c.args.snapshot c.requires.checkpoint)

pub returns-in-Ok-clause-content : goal.returns-in-Ok-clause-content
returns-in-Ok-clause-content g c = c.in-Ok.ensures.content ∙ ap (λ (n : ℕ). OPEN ∷ bytes_for n c.args.snapshot) (sym c.in-Ok.ensures.swapped.generation)
