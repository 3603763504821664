use Rattle.std.proofs.Common.{◌≡◌, ◌-◌, ◌++◌, take, drop, length}
use Rattle.std.specs.VecDeque.{deque_len, deque_capacity}
use Rattle.book.specs.Queue.{queue_of, settled_front}
use Rattle.book.proofs.queue.move_settled.Given as goal

-- what was moved, with what would be moved from here on, is what is moved in all
abbrev pub invariant-loop : goal.invariant-loop
invariant-loop l =
    let all = take (deque_capacity l.fn.outputs - deque_len l.fn.outputs) (settled_front l.settled (queue_of l.fn.queue.items)) in
    let left = take (deque_capacity l.outputs - deque_len l.outputs) (settled_front l.settled (queue_of l.queue.items)) in
    record {
      count : deque_len l.outputs ≡ l.counter;
      capacity : deque_capacity l.outputs ≡ deque_capacity l.fn.outputs;
      outputs : l.outputs.items ++ left ≡ l.fn.outputs.items ++ all;
      queue : drop (length left) (queue_of l.queue.items) ≡ drop (length all) (queue_of l.fn.queue.items);
    }
