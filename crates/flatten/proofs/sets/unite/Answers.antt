use Rattle.std.proofs.Common.{◌≡◌, ◌+◌, ◌-◌, ◌∙◌, length, ap, sym, arith, false}
use Rattle.std.specs.Prelude.{nat_le, nat_lt, ◌&&◌, ◌||◌}
use Rattle.std.specs.Option.{option_map_or}
use Rattle.std.proofs.lemmas.Option.{slice_get-get_or}
use Rattle.committee.specs.Sets.{has}
use Rattle.flatten.specs.Sets.{is_in}
use Rattle.flatten.proofs.Places.{one_united, all_united}
use Rattle.flatten.proofs.sets.unite.Goals as goal

pub loop-i-preserved : goal.loop-i-preserved
loop-i-preserved c =
    one_united c.loop-i.sets c.args.first c.loop-i.i _ c.unite.new.self _ (is_in c.args.sets.now) c.args.more.now
    (omega (arith, c.requires, c.loop-i.auto.sets, c.loop-i-test.true)) c.unite.ensures
    (λ a. sym (ap (λ o. option_map_or (λ s. has s a) o false) (slice_get-get_or c.args.more.now c.loop-i.i (record { bits = 0 }) c.loop-i-test.true))) c.loop-i.invariant

pub returns : goal.returns
returns c place author =
    let end : c.loop-i.i ≡ length c.args.more.now = omega (arith, c.loop-i-test.false, c.loop-i.auto.i-end) in
    c.loop-i.invariant place author
    ∙ ap (λ n. is_in c.args.sets.now place author || ((nat_le c.args.first place && nat_lt place (c.args.first + n)) && is_in c.args.more.now (place - c.args.first) author)) end
    ∙ ap (λ b. is_in c.args.sets.now place author || b) (all_united c.args.first c.args.more.now place author)
