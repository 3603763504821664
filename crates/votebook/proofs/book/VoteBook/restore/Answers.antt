use Rattle.std.proofs.Common.{◌∙◌}
use Rattle.std.specs.BTreeMap.{IsFromIterResult}
use Rattle.std.proofs.lemmas.Iterator.Adapters.{fact_from_collect, YieldsList-from_vec}
use Rattle.std.proofs.lemmas.Result.{IfOk-at_ok}
use Rattle.votebook.specs.Slot.{slot_cmp}
use Rattle.votebook.proofs.Rising.{collected}
use Rattle.votebook.proofs.book.VoteBook.restore.Goals as goal

pub returns : goal.returns
returns c =
    let list = c.args.votes.items in
    let road = YieldsList-from_vec list c.into_iter.ensures.rest (c.into_iter.ensures.len ∙ c.args.votes.ok.0) in
    let made = fact_from_collect (λ votes book. IsFromIterResult slot_cmp votes book) c.collect.result c.collect.ensures.ran road in
    let fact = IfOk-at_ok (λ book. IsFromIterResult slot_cmp list book) c.in_ok-votes.was made in
    collected list c.in_ok-votes.votes.entries c.requires.rising fact.0
