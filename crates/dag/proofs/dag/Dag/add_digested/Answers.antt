use Rattle.std.proofs.Common.{◌≡◌, Err}
use Rattle.std.proofs.lemmas.Result.{err_from_is_err_and}
use Rattle.dag.specs.Answer.{answer}
use Rattle.dag.specs.declared.refusal.DagRefusal.TheVariants.{Memory}
use Rattle.dag.proofs.Answering.{never_memory}
use Rattle.dag.proofs.dag.Dag.add_digested.Goals as goal

pub returns-in_err-answer-clause-memory : goal.returns-in_err-answer-clause-memory
returns-in_err-answer-clause-memory c = λ refused.
    let exit = err_from_is_err_and c.from_residual.result c.from_residual.ensures.1 in
    let memory : answer c.args.self.now c.args.certificate ≡ Err Memory = cc (c.in_err-answer.ensures, exit.1, exit.2, refused) in
    absurd (never_memory c.args.self.now c.args.certificate memory)
