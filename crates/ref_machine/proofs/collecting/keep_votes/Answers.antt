use Rattle.std.proofs.Common.{◌≡◌, rules, ap, ◌∙◌}
use Rattle.std.specs.Prelude.{filter, not}
use Rattle.std.proofs.lemmas.Fn.{filter_same}
use Rattle.spec_model.specs.Holdings.{is_low}
use Rattle.ref_machine.specs.declared.tables.SlotVote.{SlotVote}
use Rattle.ref_machine.specs.Tables.{votes_in}
use Rattle.ref_machine.proofs.Kept.{votes_kept}
use Rattle.ref_machine.proofs.collecting.keep_votes.Goals as goal

pub returns : goal.returns
returns c = λ round author.
    let kept : c.retain.new.self.items ≡ filter (λ (x : SlotVote). not (is_low c.args.floor x.round)) c.args.votes.now.items =
    filter_same _ (λ (x : SlotVote). not (is_low c.args.floor x.round)) _ (λ x b f' k. search rules) _ _ c.retain.ensures.filtered in
    ap (λ l. votes_in l round author) kept ∙ votes_kept c.args.floor c.args.votes.now.items round author
