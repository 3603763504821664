use Rattle.std.proofs.Common.{◌≡◌, ◌+◌, ◌++◌, ◌∷◌, [], List, take, sym, ap, ◌∙◌, subst, arith, append_assoc}
use Rattle.std.proofs.lemmas.List.{take_more, take_all}
use Rattle.journal.specs.declared.record.Record.{Record}
use Rattle.opening.specs.PairReplays.{HasTakenPair}
use Rattle.opening.proofs.pair_replay.PairReplay.take_all.Goals as goal

pub loop-one-preserved : goal.loop-one-preserved
loop-one-preserved g c =
    let records : List Record = c.args.records.now in
    let one : Record = c.one-item.result in
    let at = c.loop-one.one-index in
    let more : take (at + 1) records ≡ take at records ++ one ∷ [] =
    take_more records at one (omega arith) ∙ ap (λ (found : Record). take at records ++ found ∷ []) (sym c.one-item.is) in
    record {
      config = c.take_one.ensures.config ∙ c.loop-one.invariant.config;
      taken = λ before has. subst (HasTakenPair g.S.Sign.scheme c.take_one.new.self) (append_assoc before (take at records) (one ∷ []) ∙ ap (λ (l : List Record). before ++ l) (sym more))
          (subst (λ (found : Record). HasTakenPair g.S.Sign.scheme c.take_one.new.self ((before ++ take at records) ++ found ∷ [])) c.one.view_is
          (c.in_ok-take_one.ensures.taken (before ++ take at records) (c.loop-one.invariant.taken before has)));
    }

pub returns : goal.returns
returns g c = record {
  config = c.loop-one.invariant.config;
  taken = λ before has. subst (λ (l : List Record). HasTakenPair g.S.Sign.scheme c.loop-one.self (before ++ l)) (take_all c.loop-one.one-index c.args.records.now (omega arith))
      (c.loop-one.invariant.taken before has);
}
