use Rattle.std.proofs.Common.{◌≡◌, drop}
use Rattle.spec_checkpoint.specs.Reading.{read_from, checkpoint_read}
use Rattle.spec_model.specs.Nodes.{node_view}
use Rattle.ref_checkpoint.specs.Lists.{contents}
use Rattle.ref_checkpoint.proofs.reading.checkpoint_read.Given as goal

-- what the records that are left are read as, after those so far, is what all are read as
abbrev pub invariant-loop-record : goal.invariant-loop-record
invariant-loop-record g l = record {
  at : l.place ≡ l.record-index;
  read : read_from (node_view g.S.Sign.scheme l.node) l.place l.so_far (contents (drop l.record-index l.records)) ≡ checkpoint_read (node_view g.S.Sign.scheme l.fn.node) (contents l.fn.records);
}
