use Rattle.std.proofs.Common.{◌≡◌, ℕ, ◌+◌, ◌<◌, ◌≤◌, List, [], ◌∷◌, ◌++◌, length, take, drop, get_or, Vec, Global, Ok, None, sym, ap, subst, ◌∙◌}
use Rattle.std.specs.Prelude.{◌≢◌, IfErr, IfOk, OnOk}
use Rattle.std.proofs.lemmas.Result.{err_from_is_err_and}
use Rattle.checkpoint.specs.Reader.{fault_of}
use Rattle.checkpoint.specs.declared.error.LoadError.TheVariants.{Memory}
use Rattle.journal.specs.Format.{contents}
use Rattle.spec_checkpoint.specs.Data.{Checkpoint}
use Rattle.spec_checkpoint.specs.Loading.{load_fault}
use Rattle.spec_checkpoint.specs.Meaning.{state_in}
use Rattle.spec_checkpoint.specs.Reading.{checkpoint_read}
use Rattle.validator.specs.Setting.{node_of}
use Rattle.validator.specs.Standing.{AreAtSound}
use Rattle.validator.proofs.Rows.{rows_all, rows_more, rows_split}
use Rattle.validator.proofs.validator.Validator.load.Given as given
use Rattle.validator.proofs.validator.Validator.load.Goals as goal

pub loop-record-init : goal.loop-record-init
loop-record-init g c = record { setting = ap (λ r. r.setting) c.begin-loading.ensures; records = ap (λ r. r.records) c.begin-loading.ensures }

pub returns-in_err-put-clause-err : goal.returns-in_err-put-clause-err
returns-in_err-put-clause-err g c =
    let rows = c.args.records.items in
    let i = c.loop-record.record-index in
    let row = c.record-item.result in
    let loading = c.loop-record.loading in
    let seen = c.deref-record-items.ensures.value in
    let within : i < length rows = subst (λ (l : List (Vec ℕ Global)). i < length l) seen c.loop-record-test.true in
    let is : row ≡ get_or rows i row = subst (λ (l : List (Vec ℕ Global)). row ≡ get_or l i row) seen c.record-item.is in
    let rest = contents (drop (i + 1) rows) in
    let all : contents rows ≡ loading.records ++ c.deref.result.now ∷ rest =
    rows_split rows i row within is ∙ ap (λ (l : List (List ℕ)). l ++ row.items ∷ rest) (sym c.loop-record.invariant.records)
    ∙ ap (λ (b : List ℕ). loading.records ++ b ∷ rest) (sym c.deref.ensures.value) in
    let error = c.in_err-put.field-0.0 in
    let p = err_from_is_err_and c.from_residual.result c.from_residual.ensures.1 in
    rw (p.1, p.2) (λ apart. subst (λ s. load_fault (node_of g.S.Sign.scheme s) (contents rows) ≡ fault_of error) c.loop-record.invariant.setting
    (ap (load_fault (node_of g.S.Sign.scheme loading.setting)) all ∙ c.in_err-put.ensures.fault apart rest))

pub loop-record-preserved : goal.loop-record-preserved
loop-record-preserved g c =
    let rows = c.args.records.items in
    let i = c.loop-record.record-index in
    let row = c.record-item.result in
    let seen = c.deref-record-items.ensures.value in
    let within : i < length rows = subst (λ (l : List (Vec ℕ Global)). i < length l) seen c.loop-record-test.true in
    let is : row ≡ get_or rows i row = subst (λ (l : List (Vec ℕ Global)). row ≡ get_or l i row) seen c.record-item.is in
    record {
      setting = ap (λ r. r.setting) c.in_ok-put.ensures.ok ∙ c.loop-record.invariant.setting;
      records = ap (λ r. r.records) c.in_ok-put.ensures.ok ∙ ap (λ (l : List (List ℕ)). l ++ c.deref.result.now ∷ []) c.loop-record.invariant.records
          ∙ ap (λ (b : List ℕ). contents (take i rows) ++ b ∷ []) c.deref.ensures.value ∙ sym (rows_more rows i row within is);
    }

-- all records came
all_came : (g : given.Over) (c : goal.After-drop-records-2 g) → c.loop-record.loading.records ≡ contents c.args.records.items
all_came g c =
    let rows = c.args.records.items in
    let i = c.loop-record.record-index in
    let past : length rows ≤ i = subst (λ (l : List (Vec ℕ Global)). length l ≤ i) c.deref-record-items.ensures.value c.loop-record-test.false in
    c.loop-record.invariant.records ∙ rows_all rows i past

pub returns-clause-setting : goal.returns-clause-setting
returns-clause-setting g c = subst (λ s. IfOk c.finish.result (λ made. made.setting ≡ s)) c.loop-record.invariant.setting c.finish.ensures.setting

pub returns-clause-ok : goal.returns-clause-ok
returns-clause-ok g c =
    subst (λ s. OnOk c.finish.result (load_fault (node_of g.S.Sign.scheme s) (contents c.args.records.items) ≡ None)) c.loop-record.invariant.setting
    (subst (λ l. OnOk c.finish.result (load_fault (node_of g.S.Sign.scheme c.loop-record.loading.setting) l ≡ None)) (all_came g c) c.finish.ensures.ok)

pub returns-clause-at : goal.returns-clause-at
returns-clause-at g c =
    subst (λ s. IfOk c.finish.result (λ made. (checkpoint : Checkpoint) × (checkpoint_read (node_of g.S.Sign.scheme s) (drop 1 (contents c.args.records.items)) ≡ Ok checkpoint)
    × AreAtSound (node_of g.S.Sign.scheme s) made.tables (state_in (node_of g.S.Sign.scheme s) checkpoint))) c.loop-record.invariant.setting
    (subst (λ l. IfOk c.finish.result (λ made. (checkpoint : Checkpoint) × (checkpoint_read (node_of g.S.Sign.scheme c.loop-record.loading.setting) (drop 1 l) ≡ Ok checkpoint)
    × AreAtSound (node_of g.S.Sign.scheme c.loop-record.loading.setting) made.tables (state_in (node_of g.S.Sign.scheme c.loop-record.loading.setting) checkpoint))) (all_came g c) c.finish.ensures.at)

pub returns-clause-err : goal.returns-clause-err
returns-clause-err g c =
    subst (λ s. IfErr c.finish.result (λ error. error ≢ Memory → load_fault (node_of g.S.Sign.scheme s) (contents c.args.records.items) ≡ fault_of error)) c.loop-record.invariant.setting
    (subst (λ l. IfErr c.finish.result (λ error. error ≢ Memory → load_fault (node_of g.S.Sign.scheme c.loop-record.loading.setting) l ≡ fault_of error)) (all_came g c) c.finish.ensures.err)
