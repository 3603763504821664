use Rattle.std.proofs.Common.{◌≡◌, ap, take, subst, sym, ◌∙◌, rules}
use Rattle.std.specs.Io.KnownBytes.{Consumes}
use Rattle.node_io.proofs.Cutting.{front_same}
use Rattle.node_io.proofs.input.Input.read.Goals as goal

pub returns-in-Ok-clause-ok : goal.returns-in-Ok-clause-ok
returns-in-Ok-clause-ok g c =
    let same : take c.in-Ok.count c.deref.result.now ≡ take c.in-Ok.count c.read.new.buf =
    ap (take c.in-Ok.count) c.deref.ensures.value ∙ front_same _ _ _ _ c.in-Ok.ensures.bound.0 (search rules) in
    rw (← c.self.view_is) record {
      piece = take c.in-Ok.count c.deref.result.now;
      read = subst (Consumes _ _) (sym same) c.in-Ok.ensures.bytes.0;
      cut = c.cut-bodies.ensures;
    }
