use Rattle.std.proofs.Common.{◌≡◌, ◌-◌, suc, ◌∙◌, arith}
use Rattle.std.specs.VecDeque.{deque_len, deque_capacity}
use Rattle.book.specs.Queue.{queue_of}
use Rattle.book.proofs.Queueing.{moved_one}
use Rattle.book.proofs.queue.move_settled.Goals as goal

pub loop-preserved : goal.loop-preserved
loop-preserved c =
    let outputs = c.loop.outputs in
    let later = c.push_back_reserved.new.self in
    let pushed = c.push_back_reserved.ensures in
    let more : deque_capacity outputs - deque_len outputs ≡ suc (deque_capacity later - deque_len later) =
    omega (arith, pushed.len, pushed.capacity, c.loop.invariant.count, c.loop.invariant.capacity, c.loop-test.true, c.capacity-end.ensures) in
    let moved = moved_one c.args.settled (deque_capacity later - deque_len later) (deque_capacity outputs - deque_len outputs) (queue_of c.loop.queue.items)
    (queue_of c.next_settled.new.queue.items) outputs.items later.items c.in-Some.output more c.in-Some.ensures.output c.in-Some.ensures.queue pushed.items in
    record {
      count = omega (arith, pushed.len, c.loop.invariant.count);
      capacity = pushed.capacity ∙ c.loop.invariant.capacity;
      outputs = moved.0 ∙ c.loop.invariant.outputs;
      queue = moved.1 ∙ c.loop.invariant.queue;
    }
