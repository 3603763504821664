use Rattle.std.proofs.Common.{◌≡◌, List, [], ◌∷◌, ◌++◌, sym, ap, ◌∙◌, subst}
use Rattle.journal.specs.declared.record.Record.{Record}
use Rattle.std.proofs.lemmas.List.Elements.{All-push}
use Rattle.journal.specs.Configuration.{shaped_version}
use Rattle.opening.specs.PairReplayed.{version_in, HasReached}
use Rattle.opening.specs.Decoded.{IsText}
use Rattle.opening.specs.declared.reached.Reached.{Reached}
use Rattle.opening.proofs.PairReplays.{version_stays, reached_some}
use Rattle.opening.proofs.pair_replay.PairReplay.take_one.Goals as goal
use Rattle.opening.proofs.pair_replay.PairReplay.take_one.Goals.{in-Empty, in_default}

pub returns-clause-taken : goal.returns-clause-taken
returns-clause-taken g c before has =
    let setting = c.args.self.now.config.now in
    let one : Record = record { bytes = c.args.bytes.now; gate = c.args.place } in
    let here = subst (λ (r : Reached g.row.S.Denot). HasReached g.S.Sign.scheme setting before r) (sym c.replace-reached.ensures.value) has.reached in
    elim c.match-reached.branch [
      | in-Empty w ↦
          let none : before ≡ [] = subst (λ (r : Reached g.row.S.Denot). HasReached g.S.Sign.scheme setting before r) w.in-Empty.is here in
          rw w.self-is (record {
            version = w.shaped_version-self.ensures ∙ ap (λ (l : List _). version_in (l ++ one ∷ [])) (sym none);
            reached = (rw w.self-is at c.in_ok-self.ensures) before has.texts here;
            texts = All-push IsText before one has.texts c.is_text.ensures;
          })
      | in_default w ↦
          rw w.self-is (record {
            version = has.version ∙ sym (version_stays before one (reached_some g.S.Sign.scheme setting before c.replace-reached.result here w.in_default.not-Empty));
            reached = (rw w.self-is at c.in_ok-self.ensures) before has.texts here;
            texts = All-push IsText before one has.texts c.is_text.ensures;
          })
    ]
