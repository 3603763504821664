use Rattle.std.proofs.Common.{rules, ◌≡◌, ◌++◌, List, ℕ, sym, ap, ◌∙◌, subst}
use Rattle.journal.specs.Format.{with_front}
use Rattle.journal.specs.Window.{left_from}
use Rattle.journal.proofs.Walks.{with_front-append}
use Rattle.journal.proofs.window.Window.read_on.Goals as goal

pub loop-preserved : goal.loop-preserved
loop-preserved g c =
    let before = c.loop.invariant.taken in
    let more = c.in_ok-next.ensures.group c.if-branch.true in
    let next : left_from c.args.base c.loop.self.gate (g.D.Disk.device.content c.args.disk.now)
    ≡ with_front more.0 (left_from c.args.base c.next.new.self.gate (g.D.Disk.device.content c.args.disk.now)) =
    subst (λ (l : List ℕ). left_from c.args.base c.loop.self.gate l ≡ with_front more.0 (left_from c.args.base c.next.new.self.gate l)) c.loop.invariant.only_read.content more.2 in
    record {
      window = search rules;
      only_read = search rules;
      faults = search rules;
      taken = (
        before.0 ++ more.0,
        g.met.R.Reader.takes_more c.args.reader.now c.loop.reader c.next.new.reader before.0 more.0 before.1 more.1,
        with_front-append before.0 more.0 (left_from c.args.base c.next.new.self.gate (g.D.Disk.device.content c.args.disk.now)) ∙ ap (with_front before.0) (sym next) ∙ before.2,
      );
    }
