use Rattle.std.proofs.Common.{rules, ◌≡◌, [], sym, subst}
use Rattle.wire_read.specs.Frames.{bodies_bytes}
use Rattle.node_io.specs.Cutting.{Takes}
use Rattle.node_io.proofs.Cutting.{takes_none}
use Rattle.node_io.proofs.input.cut.Goals as goal

pub returns-in-Ok : goal.returns-in-Ok
returns-in-Ok c = record {
  all = λ none. record { splits = c.in-Ok.ensures.ok };
  broken = λ other. absurd cc;
  memory = λ other. absurd cc;
  never = λ other. absurd cc;
}

pub returns-in-Err-Memory : goal.returns-in-Err-Memory
returns-in-Err-Memory c =
    let none : c.new.result.items ≡ [] = search rules in
    record {
      all = λ other. absurd cc;
      broken = λ other. absurd cc;
      memory = λ _. record {
        taken = [];
        after = c.args.piece.now;
        later = c.args.frames.now;
        parts = cc;
        takes = subst (λ bodies. Takes c.args.frames.now [] (bodies_bytes bodies) c.args.frames.now) (sym none) (takes_none c.args.frames.now);
      };
      never = λ other. absurd cc;
    }
