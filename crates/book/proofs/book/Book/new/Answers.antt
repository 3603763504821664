use Rattle.std.proofs.Common.{length, false, refl, ap}
use Rattle.std.specs.Prelude.{List, None}
use Rattle.spec_model.specs.Nodes.{Node}
use Rattle.spec_model.specs.Words.{Digest}
use Rattle.validator.specs.Setting.{node_of}
use Rattle.book.specs.Queue.{queue_of}
use Rattle.book.specs.Book.{BookView}
use Rattle.book.specs.declared.queue.Queued.{Queued}
use Rattle.book.proofs.Flushing.{stands_first}
use Rattle.book.proofs.book.Book.new.Goals as goal

pub returns-clause-stands : goal.returns-clause-stands
returns-clause-stands g c = λ base at.
    let node : Node = node_of g.S.Sign.scheme c.args.validator.setting in
    let whole : List Digest = c.order.result.now in
    let book : BookView g.row.S.Denot =
    record {
      validator = c.args.validator;
      pending = c.new.result;
      queue = queue_of c.new-2.result.items;
      accepted = 0;
      taken = 0;
      settled = 0;
      rewriting = None;
      ordered = length whole;
      reached = c.new-3.result.items;
      down = false;
    } in
    stands_first node base book c.limits_hold.ensures.node at c.new.ensures (ap (λ (l : List Queued). queue_of l) c.new-2.ensures.items) refl refl refl refl
    c.new-3.ensures.items (ap (λ (l : List Digest). length l) (c.order.ensures.at base at))
