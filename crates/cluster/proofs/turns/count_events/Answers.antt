use Rattle.std.proofs.Common.{◌-◌, sym, ap, ◌∙◌}
use Rattle.opening.proofs.Opened.{no_refusal}
use Rattle.opening.proofs.Reporting.{opening_fails}
use Rattle.opening.specs.Decoded.{decoded}
use Rattle.cluster.specs.Answers.{events_among}
use Rattle.cluster.proofs.Members.{err_of}
use Rattle.cluster.proofs.turns.count_events.Goals as goal

pub returns-in-Ok-clause-count : goal.returns-in-Ok-clause-count
returns-in-Ok-clause-count g c = c.saturating_sub.ensures ∙ ap (λ n. n - 1) (c.len.ensures ∙ c.in-Ok.records.ok.0) ∙ sym (ap events_among c.in-Ok.ensures.records)

pub returns-in-Err-clause-refused : goal.returns-in-Err-clause-refused
returns-in-Err-clause-refused g c = λ node state decoded_as.
    let file = g.D.Disk.device.content c.args.disk in
    let error = c.in-Err.failed.error in
    no_refusal error state (decoded node file) decoded_as (opening_fails node file error c.in-Err.ensures.damaged c.in-Err.ensures.never_full c.in-Err.ensures.never_config)

pub returns-in-Err-clause-device : goal.returns-in-Err-clause-device
returns-in-Err-clause-device g c = λ is. (c.in-Err.failed.disk, c.in-Err.ensures.cause.1.0 (err_of c.in-Err.failed.error is))
