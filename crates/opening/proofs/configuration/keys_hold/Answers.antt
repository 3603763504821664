use Rattle.std.proofs.Common.{sym, subst, arith}
use Rattle.std.specs.Prelude.{All}
use Rattle.std.proofs.lemmas.List.{take_all}
use Rattle.std.proofs.lemmas.List.Elements.{All-nil}
use Rattle.wire.specs.Fields.{HasBytes}
use Rattle.wire.specs.declared.keys.Key.{Key}
use Rattle.opening.proofs.Keys.{one_more}
use Rattle.opening.proofs.configuration.keys_hold.Goals as goal

pub loop-member-init : goal.loop-member-init
loop-member-init c = All-nil (λ (key : Key). HasBytes 32 key.0)

pub loop-member-preserved : goal.loop-member-preserved
loop-member-preserved c =
    one_more (λ (key : Key). HasBytes 32 key.0) c.args.committee.now.keys c.loop-member.member c.in-Some.key.now (sym c.in-Some.ensures.value) c.is_key.ensures c.loop-member.invariant

pub returns : goal.returns
returns c =
    let keys = c.args.committee.now.keys in
    subst (All (λ (key : Key). HasBytes 32 key.0)) (take_all c.loop-member.member keys (omega arith)) c.loop-member.invariant
