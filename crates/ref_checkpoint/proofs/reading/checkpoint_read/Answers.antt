use Rattle.std.proofs.Common.{◌≡◌, ℕ, ◌+◌, ◌-◌, drop, true, false, Err, Some, None, sym, ap, ◌∙◌, arith}
use Rattle.spec_checkpoint.specs.Reading.{is_cut_short, kind_of, with_record, read_from}
use Rattle.spec_model.specs.Nodes.{node_view}
use Rattle.ref_checkpoint.specs.Lists.{contents}
use Rattle.ref_checkpoint.proofs.RecordsRead.{rows_more, rows_end, read_end, read_cut, read_none, read_next}
use Rattle.ref_checkpoint.proofs.reading.checkpoint_read.Goals as goal

pub returns-then-is_cut_short-clause-read : goal.returns-then-is_cut_short-clause-read
returns-then-is_cut_short-clause-read g c =
    let node = node_view g.S.Sign.scheme c.args.node.now in
    let row = c.record-item.result.items in
    let rest = contents (drop (c.loop-record.record-index + 1) c.args.records.now) in
    let rows = rows_more c.args.records.now c.loop-record.record-index c.record-item.result c.loop-record-test.true c.record-item.is in
    let short : is_cut_short c.loop-record.so_far (kind_of row) ≡ true = cc in
    let less : c.saturating_sub.result ≡ c.loop-record.place - 1 = omega arith in
    ap Err less ∙ sym (read_cut node c.loop-record.place c.loop-record.so_far row rest short) ∙ sym (ap (read_from node c.loop-record.place c.loop-record.so_far) rows) ∙ c.loop-record.invariant.read

pub returns-in-None-clause-read : goal.returns-in-None-clause-read
returns-in-None-clause-read g c =
    let node = node_view g.S.Sign.scheme c.args.node.now in
    let row = c.record-item.result.items in
    let rest = contents (drop (c.loop-record.record-index + 1) c.args.records.now) in
    let rows = rows_more c.args.records.now c.loop-record.record-index c.record-item.result c.loop-record-test.true c.record-item.is in
    let uncut : is_cut_short c.loop-record.so_far (kind_of row) ≡ false = cc in
    let none : with_record node c.loop-record.so_far row ≡ None = cc (c.in_ok-with_record.ensures) in
    sym (read_none node c.loop-record.place c.loop-record.so_far row rest uncut none) ∙ sym (ap (read_from node c.loop-record.place c.loop-record.so_far) rows) ∙ c.loop-record.invariant.read

pub loop-record-preserved : goal.loop-record-preserved
loop-record-preserved g c =
    let node = node_view g.S.Sign.scheme c.args.node.now in
    let row = c.record-item.result.items in
    let rest = contents (drop (c.loop-record.record-index + 1) c.args.records.now) in
    let rows = rows_more c.args.records.now c.loop-record.record-index c.record-item.result c.loop-record-test.true c.record-item.is in
    let uncut : is_cut_short c.loop-record.so_far (kind_of row) ≡ false = cc in
    let some : with_record node c.loop-record.so_far row ≡ Some c.in-Some.next = cc (c.in_ok-with_record.ensures) in
    record {
      at = ap (λ (n : ℕ). n + 1) c.loop-record.invariant.at;
      read = sym (read_next node c.loop-record.place c.loop-record.so_far c.in-Some.next row rest uncut some) ∙ sym (ap (read_from node c.loop-record.place c.loop-record.so_far) rows)
          ∙ c.loop-record.invariant.read;
    }

pub returns-clause-read : goal.returns-clause-read
returns-clause-read g c =
    let node = node_view g.S.Sign.scheme c.args.node.now in
    sym (read_end node c.loop-record.place c.loop-record.so_far)
    ∙ sym (ap (read_from node c.loop-record.place c.loop-record.so_far) (rows_end c.args.records.now c.loop-record.record-index c.loop-record-test.false)) ∙ c.loop-record.invariant.read
