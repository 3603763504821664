use Rattle.std.proofs.Common.{◌∙◌}
use Rattle.tusk.proofs.Supporting.{leader_chosen}
use Rattle.tusk.proofs.coins.Coins.leader.Goals as goal

pub returns-clause-value : goal.returns-clause-value
returns-clause-value c = c.chosen.ensures.value ∙ leader_chosen c.args.dag.now c.args.self.now c.args.wave c.in_ok-coin.coin c.in_ok-coin.ensures.value
