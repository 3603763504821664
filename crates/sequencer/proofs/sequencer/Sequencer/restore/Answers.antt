use Rattle.std.proofs.Common.{None, refl}
use Rattle.sequencer.proofs.Restored.{floor_limit, can_enter, leader_is_held, restored}
use Rattle.sequencer.proofs.sequencer.Sequencer.restore.Goals as goal

pub empty_dag-requires : goal.empty_dag-requires
empty_dag-requires c =
    let are = c.requires.parts in
    floor_limit are.0 are.1 _ are.2

pub fill-requires : goal.fill-requires
fill-requires c =
    let are = c.requires.parts in
    can_enter c.fresh_is_sound.ensures are.0 are.1 _ c.in_ok-dag.dag are.2 c.in_ok-dag.ensures

pub mark-requires-clause-held : goal.mark-requires-clause-held
mark-requires-clause-held c =
    let are = c.requires.parts in
    leader_is_held c.fresh_is_sound.ensures are.0 are.1 _ c.in_ok-dag.dag c.fill.new.dag are.2 c.in_ok-dag.ensures c.in_ok-fill.ensures

pub returns : goal.returns
returns c node state are =
    restored c.fresh_is_sound.ensures node state _ c.in_ok-dag.dag (record { graph = c.fill.new.dag; coins = c.args.coins; last = None; order = c.args.order.items }) c.mark.new.self are
    (record {
      empty_is = c.in_ok-dag.ensures;
      entered = c.in_ok-fill.ensures;
      none = refl;
      coins = refl;
      order = refl;
      marked = c.in_ok-mark.ensures.ok;
    })
