use Rattle.std.proofs.Common.{◌≡◌, ◌++◌, ◌∷◌, [], List, ℕ, sym, ap, ◌∙◌, subst}
use Rattle.std.specs.Prelude.{OnOk}
use Rattle.std.proofs.lemmas.List.{append-nil}
use Rattle.spec_checkpoint.specs.Records.{batch_record}
use Rattle.wire.specs.Batches.{BatchView, batch_body}
use Rattle.checkpoint.specs.Kept.{keep_of}
use Rattle.checkpoint.proofs.records.batch.put_batch.Goals as goal

-- the parts are the record
parts_are : (first head last : List ℕ) (batch held : BatchView) (all : List ℕ) → first ≡ head → last ≡ batch_body batch → batch ≡ held → head ++ batch_body held ≡ all
    → first ++ (last ++ []) ≡ all
parts_are first head last batch held all one body same is =
    ap (λ (l : List ℕ). l ++ (last ++ [])) one ∙ ap (λ (l : List ℕ). head ++ l) (append-nil last ∙ body ∙ ap batch_body same) ∙ is

pub put-requires : goal.put-requires
put-requires g c =
    let held = c.args.held.now in
    subst g.S.RecordSink.fits (sym (parts_are c.as_slice.result.now c.in_ok-head.head.items c.body.result.now c.batch.result.now held.batch (batch_record (keep_of held))
    c.as_slice.ensures.value c.body.ensures.value c.batch.ensures c.in_ok-head.ensures)) c.requires

pub returns : goal.returns
returns g c =
    let held = c.args.held.now in
    subst (λ (text : List ℕ). OnOk c.put.result (g.S.RecordSink.records c.put.new.self ≡ g.S.RecordSink.records c.args.sink.now ++ text ∷ []))
    (parts_are c.as_slice.result.now c.in_ok-head.head.items c.body.result.now c.batch.result.now held.batch (batch_record (keep_of held))
    c.as_slice.ensures.value c.body.ensures.value c.batch.ensures c.in_ok-head.ensures) c.put.ensures
