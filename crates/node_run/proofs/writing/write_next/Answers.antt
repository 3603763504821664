use Rattle.std.proofs.Common.{List, length, sym, ap, subst, ◌∙◌}
use Rattle.std.proofs.lemmas.Bool.{eq-eqb, true≢false}
use Rattle.spec_model.specs.Words.{Output}
use Rattle.node_shared.specs.Answers.{GivesAll}
use Rattle.node_run.proofs.writing.write_next.Goals as goal

pub returns-clause-next : goal.returns-clause-next
returns-clause-next g c =
    let outputs = c.collect_into.new.outputs in
    λ _. record {
      outputs = outputs.items;
      some = λ none. absurd (true≢false (sym (c.is_empty.ensures ∙ eq-eqb outputs.len 0 (outputs.ok.0 ∙ ap length none)) ∙ c.if-is_empty.false));
      given = subst (λ (l : List Output). GivesAll g.S.Sign.scheme c.args.caller.now.node c.collect_into.new.self.seat l outputs.items) c.collected.invariant.0 c.collect_into.ensures.gives;
      puts = c.put_all.ensures.puts;
    }
