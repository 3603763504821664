use Rattle.std.proofs.Common.{◌≡◌, rules, ap, ◌∙◌}
use Rattle.std.specs.Prelude.{filter, nat_le}
use Rattle.std.proofs.lemmas.Fn.{filter_same}
use Rattle.spec_model.specs.Words.{Certificate}
use Rattle.spec_model.specs.Slots.{slots_of}
use Rattle.ref_machine.proofs.Kept.{certificates_kept}
use Rattle.ref_machine.proofs.collecting.keep_certificates.Goals as goal

pub returns : goal.returns
returns c = λ round author.
    let kept : c.retain.new.self.items ≡ filter (λ (x : Certificate). nat_le c.args.floor x.header.round) c.args.certificates.now.items =
    filter_same _ (λ (x : Certificate). nat_le c.args.floor x.header.round) _ (λ x b f' k. search rules) _ _ c.retain.ensures.filtered in
    ap (λ l. slots_of l round author) kept ∙ certificates_kept c.args.floor c.args.certificates.now.items round author
