use Rattle.std.proofs.Common.{sym, ap, ◌∙◌}
use Rattle.std.specs.Option.{option_and_then}
use Rattle.std.specs.Prelude.{slice_get}
use Rattle.std.proofs.lemmas.Result.{err_from_is_err_and}
use Rattle.cluster.specs.Outputs.{message_of}
use Rattle.cluster.proofs.cluster.Cluster.message_from.Goals as goal

pub returns-in_err-message-clause-no_output : goal.returns-in_err-message-clause-no_output
returns-in_err-message-clause-no_output g c =
    let p = err_from_is_err_and c.from_residual.result c.from_residual.ensures.1 in
    rw (p.1, p.2) (
      λ is. absurd (cc),
      λ none.
          let found = ap (λ o. option_and_then (λ member. option_and_then message_of (slice_get member.out.outputs c.args.output)) o) c.in-Some.ensures ∙ none.1 in
          let output = sym (ap (λ o. option_and_then message_of o) c.in-Some-output.ensures.some) ∙ found in
          absurd (c.in_err-message.ensures.some output),
    )
