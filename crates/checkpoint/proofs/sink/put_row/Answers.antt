use Rattle.std.proofs.Common.{◌≡◌, ◌++◌, ◌∷◌, [], List, ℕ, sym, subst}
use Rattle.std.specs.Prelude.{OnOk}
use Rattle.std.proofs.lemmas.List.{append-nil}
use Rattle.checkpoint.proofs.sink.put_row.Goals as goal

pub put-requires : goal.put-requires
put-requires g c = subst g.S.RecordSink.fits (sym (append-nil c.args.row.now)) c.requires

pub returns : goal.returns
returns g c =
    subst (λ (text : List ℕ). OnOk c.put.result (g.S.RecordSink.records c.put.new.self ≡ g.S.RecordSink.records c.args.sink.now ++ text ∷ [])) (append-nil c.args.row.now) c.put.ensures
