use Rattle.std.proofs.Common.{◌≡◌, ◌∙◌, ℕ, List, [], ap, map}
use Rattle.std.specs.Option.{option_map_or}
use Rattle.std.proofs.lemmas.Result.{IfOk-weaker}
use Rattle.spec_laws.proofs.Weighing.{size_some}
use Rattle.spec_model.specs.Ordering.{newer, newer_at}
use Rattle.spec_model.specs.Words.{Author}
use Rattle.tusk.proofs.Chains.{chain_all}
use Rattle.tusk.proofs.coins.Coins.chain_from.Goals as goal
use Rattle.tusk.specs.Chain.{ledger_in, slot_of, wave_of}

-- the leaders that are newer than the wave
newer_of : (c : goal.After-newer_at) → (chain : List (ℕ × Author)) → chain ≡ map slot_of (newer_at (ledger_in c.args.dag.now c.args.self.now) c.committed_to.result c.in-Some.wave)
    → chain ≡ map slot_of (newer (ledger_in c.args.dag.now c.args.self.now) (wave_of c.args.last))
newer_of c chain is =
    let ledger = ledger_in c.args.dag.now c.args.self.now in
    is ∙ ap (λ (w : ℕ). map slot_of (newer_at ledger w c.in-Some.wave)) c.committed_to.ensures
    ∙ ap (λ o. map slot_of (option_map_or (newer_at ledger (wave_of c.args.last)) o [])) c.in-Some.ensures

pub returns-in-Some-clause-newer : goal.returns-in-Some-clause-newer
returns-in-Some-clause-newer c = IfOk-weaker c.newer_at.result _ _ (λ chain is. newer_of c chain.items is) c.newer_at.ensures

pub returns-in-Some-clause-chain : goal.returns-in-Some-clause-chain
returns-in-Some-clause-chain c =
    let graph = c.args.dag.now in
    IfOk-weaker c.newer_at.result _ _
    (λ chain is sure. chain_all (ledger_in graph c.args.self.now) c.args.last chain.items (size_some graph.charter c.limits_hold.ensures.charter)
    c.limits_hold.ensures.placed sure (newer_of c chain.items is))
    c.newer_at.ensures

pub returns-in-None-clause-newer : goal.returns-in-None-clause-newer
returns-in-None-clause-newer c =
    let ledger = ledger_in c.args.dag.now c.args.self.now in
    c.new.ensures.items ∙ ap (λ o. map slot_of (option_map_or (newer_at ledger (wave_of c.args.last)) o [])) c.in-None.ensures

pub returns-in-None-clause-chain : goal.returns-in-None-clause-chain
returns-in-None-clause-chain c sure =
    let graph = c.args.dag.now in
    let ledger = ledger_in graph c.args.self.now in
    let last = c.args.last in
    chain_all ledger last c.new.result.items (size_some graph.charter c.limits_hold.ensures.charter) c.limits_hold.ensures.placed sure
    (c.new.ensures.items ∙ ap (λ o. map slot_of (option_map_or (newer_at ledger (wave_of last)) o [])) c.in-None.ensures)
