use Rattle.std.proofs.Common.{◌≡◌, rules, ap, ◌∙◌}
use Rattle.std.specs.Prelude.{filter, not}
use Rattle.std.proofs.lemmas.Fn.{filter_same}
use Rattle.spec_model.specs.Holdings.{is_low}
use Rattle.spec_model.specs.Words.{Vote}
use Rattle.ref_machine.specs.Tables.{counted_in}
use Rattle.ref_machine.proofs.Kept.{counted_kept}
use Rattle.ref_machine.proofs.collecting.keep_counted.Goals as goal

pub returns : goal.returns
returns c = λ round voter.
    let kept : c.retain.new.self.items ≡ filter (λ (x : Vote). not (is_low c.args.floor x.round)) c.args.counted.now.items =
    filter_same _ (λ (x : Vote). not (is_low c.args.floor x.round)) _ (λ x b f' k. search rules) _ _ c.retain.ensures.filtered in
    ap (λ l. counted_in l round voter) kept ∙ counted_kept c.args.floor c.args.counted.now.items round voter
