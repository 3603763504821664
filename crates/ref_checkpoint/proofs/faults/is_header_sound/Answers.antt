use Rattle.std.proofs.Common.{◌≡◌, false, true, rules}
use Rattle.std.specs.Prelude.{nat_lt}
use Rattle.std.specs.List.{list_all}
use Rattle.spec_checkpoint.specs.Faults.{passes}
use Rattle.spec_checkpoint.specs.Meaning.{listed_floor, state_in}
use Rattle.spec_model.specs.Holdings.{is_low, all_held}
use Rattle.spec_model.specs.Nodes.{node_view, size_of}
use Rattle.wire.specs.declared.message.Message.TheVariants as message
use Rattle.ref_checkpoint.proofs.faults.is_header_sound.Goals as goal

pub returns : goal.returns
returns g c =
    let node = node_view g.S.Sign.scheme c.args.node.now in
    let kept = c.args.kept.now in
    let floor = listed_floor node c.args.checkpoint.now in
    let high : is_low floor kept.header.body.round ≡ false = search rules in
    let pass : passes node node.own (message.Header kept.header) ≡ true = search rules in
    let held : all_held (state_in node c.args.checkpoint.now).slots floor kept.header.body ≡ true = search rules in
    let members : list_all (λ entry. nat_lt entry.voter.0 (size_of node)) kept.votes ≡ true = search rules in
    rw (high, pass, held, members) c.is_completed_well.ensures
