use Rattle.std.proofs.Common.{◌≡◌, rules, ap, ◌∙◌}
use Rattle.std.specs.Prelude.{filter, not}
use Rattle.std.proofs.lemmas.Fn.{filter_same}
use Rattle.spec_model.specs.Holdings.{is_low}
use Rattle.spec_model.specs.Words.{Header}
use Rattle.ref_machine.specs.Tables.{headers_in}
use Rattle.ref_machine.proofs.Kept.{headers_kept}
use Rattle.ref_machine.proofs.collecting.keep_own_headers.Goals as goal

pub returns : goal.returns
returns c = λ round.
    let kept : c.retain.new.self.items ≡ filter (λ (x : Header). not (is_low c.args.floor x.body.round)) c.args.headers.now.items =
    filter_same _ (λ (x : Header). not (is_low c.args.floor x.body.round)) _ (λ x b f' k. search rules) _ _ c.retain.ensures.filtered in
    ap (λ l. headers_in l round) kept ∙ headers_kept c.args.floor c.args.headers.now.items round
