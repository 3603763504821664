use Rattle.std.proofs.Common.{◌≡◌, drop, Ok, Some, None, sym, subst}
use Rattle.std.specs.Prelude.{◌≢◌, IfErr, IfOk, OnOk}
use Rattle.spec_checkpoint.specs.Data.{Checkpoint}
use Rattle.spec_checkpoint.specs.Loading.{at_record, load_fault, unsound}
use Rattle.spec_checkpoint.specs.Meaning.{state_in}
use Rattle.spec_checkpoint.specs.Reading.{checkpoint_read}
use Rattle.spec_model.specs.Nodes.{node_view}
use Rattle.admission.specs.Kept.{IsKeptOf}
use Rattle.admission.specs.declared.kept.Kept.{Kept}
use Rattle.checkpoint.specs.Reader.{fault_of, node_of}
use Rattle.checkpoint.specs.declared.error.LoadError.{LoadError}
use Rattle.checkpoint.specs.declared.error.LoadError.TheVariants.{Memory}
use Rattle.checkpoint.proofs.ReadOn.{all_loaded, all_read, if_ok, nothing_came}
use Rattle.checkpoint.proofs.reader.CheckpointReader.finish.Given as given
use Rattle.checkpoint.proofs.reader.CheckpointReader.finish.Goals as goal

pub returns-then-is_none-clause-err : goal.returns-then-is_none-clause-err
returns-then-is_none-clause-err g c apart =
    let inside = c.self.inside in
    let node = node_view g.S.Sign.scheme inside.node.now in
    subst (λ r. load_fault (node_of g.S.Sign.scheme r) r.records ≡ Some (at_record 0)) c.self.view_is (nothing_came node inside.version inside.so_far c.if-is_none.ensures)

-- the fault of all that came is that of what was read
same_fault : (g : given.Over) (c : goal.After-kept_of g)
    → load_fault (node_of g.S.Sign.scheme c.args.self) c.args.self.records ≡ unsound (node_view g.S.Sign.scheme c.self.inside.node.now) c.self.inside.so_far
same_fault g c =
    let inside = c.self.inside in
    let node = node_view g.S.Sign.scheme inside.node.now in
    subst (λ r. load_fault (node_of g.S.Sign.scheme r) r.records ≡ unsound node inside.so_far) c.self.view_is
    (all_loaded c.read_as_written.ensures node inside.so_far inside.count inside.version c.if-is_none.ensures c.self.invariant)

pub returns-clause-ok : goal.returns-clause-ok
returns-clause-ok g c = subst (λ f. OnOk c.kept_of.result (f ≡ None)) (sym (same_fault g c)) c.kept_of.ensures.ok

pub returns-clause-kept : goal.returns-clause-kept
returns-clause-kept g c =
    let inside = c.self.inside in
    let node = node_view g.S.Sign.scheme inside.node.now in
    let reads = all_read c.read_as_written.ensures node inside.so_far inside.count inside.version c.if-is_none.ensures c.self.invariant in
    subst (λ r. IfOk c.kept_of.result (λ (kept : Kept). (checkpoint : Checkpoint) × (checkpoint_read (node_of g.S.Sign.scheme r) (drop 1 r.records) ≡ Ok checkpoint)
    × IsKeptOf (node_of g.S.Sign.scheme r) (state_in (node_of g.S.Sign.scheme r) checkpoint) kept)) c.self.view_is
    (if_ok c.kept_of.result _ _ (λ kept is. (inside.so_far, reads, is)) c.kept_of.ensures.kept)

pub returns-clause-err : goal.returns-clause-err
returns-clause-err g c =
    subst (λ f. IfErr c.kept_of.result (λ (error : LoadError). error ≢ Memory → f ≡ fault_of error)) (sym (same_fault g c)) c.kept_of.ensures.err
