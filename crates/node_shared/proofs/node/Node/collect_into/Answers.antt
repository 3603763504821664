use Rattle.std.proofs.Common.{rules}
use borrow.Author.Rules.{in_lives}
use Rattle.node_shared.proofs.node.Node.collect_into.Goals as goal

pub acquire-turn-requires : goal.acquire-turn-requires
acquire-turn-requires g c κs = λ h. simp (in_lives, h.0, h.1.0, h.1.1.0, h.1.1.1) (search rules)

pub deref_mut-locked-requires : goal.deref_mut-locked-requires
deref_mut-locked-requires g c κs = λ h. simp (in_lives, h) (search rules)
