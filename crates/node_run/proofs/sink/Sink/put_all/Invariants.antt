use Rattle.std.proofs.Common.{◌≡◌, List, ◌++◌}
use Rattle.std.specs.Io.Buffered.{writer_contents}
use Rattle.std.specs.VecDeque.{deque_capacity, deque_len}
use Rattle.spec_model.specs.Words.{Output}
use Rattle.node_run.specs.Writing.{PutsAll}
use Rattle.node_run.proofs.sink.Sink.put_all.Given as goal

-- the first outputs were put, and the others are still to be put
abbrev pub invariant-loop-output : goal.invariant-loop-output
invariant-loop-output g l = record {
  done : List Output;
  parts : l.fn.outputs.items ≡ done ++ l.outputs.items;
  puts : PutsAll done l.fn.self.faults l.self.faults (writer_contents g.W.Write.contents l.fn.self.writer) (writer_contents g.W.Write.contents l.self.writer);
  room : deque_capacity l.outputs ≡ deque_capacity l.fn.outputs;
}

-- each turn puts one of them
abbrev pub decreases-loop-output : goal.decreases-loop-output
decreases-loop-output g l = deque_len l.outputs
