use Rattle.std.proofs.Common.{◌≡◌, ℕ, ◌+◌, List, ◌++◌, length, take, Option, sym, ap, ◌∙◌, subst, arith, append-nil, length-append}
use Rattle.std.specs.Io.KnownBytes.{Keeps, Appends}
use Rattle.std.proofs.KnownBytes.{Keeps-refl, Appends-trans, Appends-kept}
use Rattle.std.proofs.lemmas.Bool.{eqb-true, eqb-false}
use Rattle.std.proofs.lemmas.List.{nil_from_length}
use Rattle.wire_write.specs.Frames.{AppendsLess}
use Rattle.wire_write.proofs.Appending.{more_written, on_err}
use Rattle.wire_write.proofs.frames.write_bytes.Goals as goal

-- where some are left, what was written is less than all
less_written : (old mid new : Option (List ℕ)) (all written rest : List ℕ) → Appends old mid written → all ≡ written ++ rest → (length rest ≡ 0 → ⊥) → Keeps mid new → AppendsLess old new all
less_written old mid new all written rest appends parts some keeps =
    let size : length all ≡ length written + length rest = ap length parts ∙ length-append written rest in record {
      part = written;
      begins = record { rest = rest; parts = parts };
      less = omega (arith, size, some);
      appends = Appends-kept old mid new written appends keeps;
    }

-- where none is left, it is all
all_written : (old new : Option (List ℕ)) (all written rest : List ℕ) → Appends old new written → all ≡ written ++ rest → length rest ≡ 0 → Appends old new all
all_written old new all written rest appends parts none =
    subst (Appends old new) (sym (parts ∙ ap (λ (l : List ℕ). written ++ l) (nil_from_length rest none) ∙ append-nil written)) appends

pub loop-preserved : goal.loop-preserved
loop-preserved g c =
    let count = c.in_ok-count.count in
    let rest = c.loop.rest.now in
    let so_far = c.loop.invariant in (
      so_far.0 ++ take count rest,
      Appends-trans (g.W.Write.contents c.args.writer.now) (g.W.Write.contents c.loop.writer) (g.W.Write.contents c.write_some.new.writer) so_far.0 (take count rest) so_far.1 c.in_ok-count.ensures.ok,
      more_written c.args.bytes.now so_far.0 rest count so_far.2 ∙ ap (λ (l : List ℕ). (so_far.0 ++ take count rest) ++ l) (sym c.after-left.ensures),
    )

pub returns-in_err-count-clause-err : goal.returns-in_err-count-clause-err
returns-in_err-count-clause-err g c =
    let mid = g.W.Write.contents c.loop.writer in
    let new = g.W.Write.contents c.write_some.new.writer in
    let so_far = c.loop.invariant in
    on_err c.from_residual.result _
    (less_written (g.W.Write.contents c.args.writer.now) mid new c.args.bytes.now so_far.0 c.loop.rest.now so_far.1 so_far.2
    (eqb-false (length c.loop.rest.now) 0 (sym c.is_empty.ensures ∙ c.if-is_empty.false)) c.in_err-count.ensures.err)

pub returns-then-not-is_empty-clause-err : goal.returns-then-not-is_empty-clause-err
returns-then-not-is_empty-clause-err g c =
    let new = g.W.Write.contents c.loop.writer in
    let so_far = c.loop.invariant in
    less_written (g.W.Write.contents c.args.writer.now) new new c.args.bytes.now so_far.0 c.loop.rest.now so_far.1 so_far.2
    (eqb-false (length c.loop.rest.now) 0 (sym c.is_empty-2.ensures ∙ c.if-not-is_empty.true)) (Keeps-refl new)

pub returns-clause-ok : goal.returns-clause-ok
returns-clause-ok g c =
    let so_far = c.loop.invariant in
    all_written (g.W.Write.contents c.args.writer.now) (g.W.Write.contents c.loop.writer) c.args.bytes.now so_far.0 c.loop.rest.now so_far.1 so_far.2
    (eqb-true (length c.loop.rest.now) 0 (sym c.is_empty-2.ensures ∙ c.if-not-is_empty.false))
