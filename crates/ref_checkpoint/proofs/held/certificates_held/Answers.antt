use Rattle.std.proofs.Common.{◌≡◌, filter, refl, rules}
use Rattle.std.specs.Prelude.{◌==◌}
use Rattle.spec_checkpoint.specs.Meaning.{listed_floor}
use Rattle.spec_model.specs.Nodes.{node_view}
use Rattle.ref_checkpoint.proofs.SlotsHeld.{firsts, is_above, are_held}
use Rattle.ref_checkpoint.proofs.held.certificates_held.Goals as goal

pub returns : goal.returns
returns g c =
    let node = node_view g.S.Sign.scheme c.args.node.now in
    let above : c.in_ok-above_genesis.field-0.items ≡ filter is_above c.args.checkpoint.now.certificates = search rules in
    let first : c.in_ok-found.found.items ≡ firsts node (listed_floor node c.args.checkpoint.now == 0) = search rules in
    are_held node c.args.checkpoint.now c.append.new.self.items (rw (c.in_ok-append.ensures.items, first, above) refl)
