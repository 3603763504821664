use Rattle.std.proofs.Common.{◌≡◌, ◌∙◌, length, Some, false, ap, sym, refl, subst, arith}
use Rattle.std.specs.Prelude.{option_map, option_copied, slice_get}
use Rattle.std.proofs.lemmas.Bool.{ltb-true, ltb-false}
use Rattle.std.proofs.lemmas.Option.{same_Some, slice_get_read, slice_get_within}
use Rattle.spec_model.specs.Slots.{is_of_slot}
use Rattle.sequencer.specs.Restored.{Digested}
use Rattle.sequencer.proofs.Waves.{listed_there, none_there}
use Rattle.checkpoint.proofs.judging.held.entry_of.Goals as goal

pub returns-in_err-entry-clause-value : goal.returns-in_err-entry-clause-value
returns-in_err-entry-clause-value c =
    let list = c.args.list.now in
    let place = c.place_of.result in
    let past = ltb-false place (length list) (sym c.in_err-entry.ensures.lookup.0) in
    ap (λ o. option_map (λ (one : Digested). one.0) (option_copied o)) c.from_residual.ensures
    ∙ sym (none_there list c.args.round c.args.author place c.requires c.place_of.ensures
    (λ one there. let within = slice_get_within list place one there in absurd (omega (arith, past, within))))

pub returns-then-is_of-clause-value : goal.returns-then-is_of-clause-value
returns-then-is_of-clause-value c =
    let list = c.args.list.now in
    let place = c.place_of.result in
    let entry = c.in_ok-entry.entry.now in
    let here : slice_get list place ≡ Some entry =
    slice_get_read list (length list) place entry refl (ltb-true place (length list) (sym c.in_ok-entry.ensures.lookup.0)) c.in_ok-entry.ensures.lookup.1 in
    sym (listed_there list c.args.round c.args.author place entry c.requires here (sym c.is_of.ensures ∙ c.if-is_of.true))

pub returns-clause-value : goal.returns-clause-value
returns-clause-value c =
    let list = c.args.list.now in
    let place = c.place_of.result in
    let entry = c.in_ok-entry.entry.now in
    let here : slice_get list place ≡ Some entry =
    slice_get_read list (length list) place entry refl (ltb-true place (length list) (sym c.in_ok-entry.ensures.lookup.0)) c.in_ok-entry.ensures.lookup.1 in
    sym (none_there list c.args.round c.args.author place c.requires c.place_of.ensures
    (λ one there. subst (λ (x : Digested). is_of_slot c.args.round c.args.author x.0.header ≡ false) (same_Some entry one (sym here ∙ there)) (sym c.is_of.ensures ∙ c.if-is_of.false)))
