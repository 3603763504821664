use Rattle.std.proofs.Common.{◌≡◌, ℕ, Some, ap, sym, ◌∙◌}
use Rattle.std.specs.Prelude.{option_copied, option_map}
use Rattle.sequencer.specs.Restored.{Digested, listed}
use Rattle.checkpoint.proofs.judging.headers.has_certificate.Goals as goal

pub returns-in-Some : goal.returns-in-Some
returns-in-Some g c =
    let header = c.args.header.now in
    let there : Some c.in-Some.field-0.now.0 ≡ listed c.args.list.now header.round c.args.node.now.own.0 =
    sym (ap (λ o. option_map (λ (one : Digested). one.0) (option_copied o)) c.in-Some.is) ∙ c.entry_of.ensures.value
    ∙ ap (λ (n : ℕ). listed c.args.list.now n c.args.node.now.own.0) c.number.ensures.value in
    rw (sym there) c.same_body.ensures
