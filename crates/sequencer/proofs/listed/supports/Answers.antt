use Rattle.std.proofs.Common.{◌≡◌, ◌∙◌, ◌+◌, ℕ, List, Some, ap, sym}
use Rattle.std.specs.Prelude.{◌==◌, ◌&&◌}
use Rattle.std.specs.List.{list_any}
use Rattle.spec_model.specs.Slots.{same_digest}
use Rattle.spec_model.specs.Words.{ParentReference}
use Rattle.sequencer.specs.Restored.{listed}
use Rattle.sequencer.proofs.Waves.{supports_by}
use Rattle.sequencer.proofs.listed.supports.Goals as goal

pub returns-in-Some : goal.returns-in-Some
returns-in-Some c = λ charter coins.
    let list = c.args.list.now in
    let leader = c.args.leader.now in
    let child = c.in-Some.field-0.now in
    let there : listed list (leader.0.header.round + 1) c.args.member ≡ Some child.0 =
    ap (λ (r : ℕ). listed list (r + 1) c.args.member) (sym c.number.ensures.value) ∙ sym c.in-Some.ensures.value in
    c.is_among.ensures
    ∙ ap (λ (parents : List ParentReference). list_any (λ p. (p.author.0 == leader.0.header.author.0) && same_digest p.certificate leader.1) parents) c.as_slice.ensures.value
    ∙ supports_by charter list coins leader child c.args.member c.requires.digested there
