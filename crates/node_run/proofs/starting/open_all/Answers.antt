use Rattle.std.proofs.Common.{refl}
use Rattle.journal.specs.declared.error.JournalError.TheVariants.{Device}
use Rattle.node_io.specs.declared.ending.Ending.TheVariants.{Journal}
use Rattle.node_run.specs.Members.{IsConfigOf, RefusesOpening}
use Rattle.node_run.proofs.Opened.{of_second}
use Rattle.node_run.proofs.starting.open_all.Goals as goal

pub returns-in-Ok-clause-member : goal.returns-in-Ok-clause-member
returns-in-Ok-clause-member g c =
    let text = c.deref.result.now in
    let config = c.in_ok-config in
    (text, of_second (λ own. IsConfigOf text own config.config) c.args.args.now c.own-item.result c.as_str-2.result.now c.in-len3.len_at_least c.own-item.is c.as_str-2.ensures.value config.ensures.ok)

pub returns-clause-refused : goal.returns-clause-refused
returns-clause-refused g c =
    let config = c.in_ok-config in
    of_second (λ own. RefusesOpening own (Journal Device)) c.args.args.now c.own-item.result c.as_str-2.result.now c.in-len3.len_at_least c.own-item.is c.as_str-2.ensures.value
    (refl, (c.deref.result.now, config.config, config.ensures.ok))
