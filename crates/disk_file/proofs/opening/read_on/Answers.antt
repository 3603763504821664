use Rattle.std.proofs.Common.{arith}
use Rattle.disk_file.proofs.Steps.{goes_on_twice}
use Rattle.disk_file.proofs.opening.read_on.Goals as goal

pub loop-at-preserved : goal.loop-at-preserved
loop-at-preserved c =
    let before = c.loop-at.invariant.from in
    record {
      from = omega (arith, before);
      within = omega (arith, c.loop-at.invariant.within, c.loop-at-test.true);
      so_far = goes_on_twice _ _ _ c.args.tape.now c.loop-at.tape _ c.loop-at.invariant.so_far c.in_ok-read_piece.ensures (omega (arith, before));
    }
