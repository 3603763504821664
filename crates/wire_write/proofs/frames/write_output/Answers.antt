use Rattle.std.proofs.Common.{◌≡◌, ℕ, List, ◌++◌, length, sym, ap, ◌∙◌, subst, arith, length-append}
use Rattle.std.proofs.KnownBytes.{Keeps-refl, Appends-trans}
use Rattle.std.specs.Io.KnownBytes.{Appends}
use Rattle.std.specs.Int.{w32, to_be_bytes}
use Rattle.std.proofs.lemmas.Result.{on_ok_weaker}
use Rattle.wire.specs.Outputs.{output_bytes}
use Rattle.wire.specs.Outputs.{frame_of}
use Rattle.wire_write.specs.Frames.{AppendsLess}
use Rattle.wire_write.proofs.Appending.{part_front, part_after, less_none, on_err, on_err_more}
use Rattle.wire_write.proofs.frames.write_output.Goals as goal

pub returns-in_err-body-clause-err : goal.returns-in_err-body-clause-err
unfolding frame_of
returns-in_err-body-clause-err g c =
    let held = g.W.Write.contents c.args.writer.now in
    let body = output_bytes c.args.output.now in
    on_err c.from_residual.result _ (less_none held held (to_be_bytes w32 (length body) ++ body) (Keeps-refl held) (omega (arith, length-append (to_be_bytes w32 (length body)) body)))

pub returns-in_err-write_bytes-clause-err : goal.returns-in_err-write_bytes-clause-err
unfolding frame_of
returns-in_err-write_bytes-clause-err g c =
    let old = g.W.Write.contents c.args.writer.now in
    let len = c.to_be_bytes.result in
    let body = c.in_ok-body.body.items in
    let whole : frame_of c.args.output.now ≡ len ++ body =
    (λ i. to_be_bytes w32 (length (sym c.in_ok-body.ensures.bytes i)) ++ sym c.in_ok-body.ensures.bytes i)
    ∙ ap (λ (l : List ℕ). l ++ body) (sym (c.to_be_bytes.ensures ∙ ap (to_be_bytes w32) (c.len.ensures ∙ c.in_ok-body.body.ok.0))) in
    let new = g.W.Write.contents c.write_bytes.new.writer in
    on_err c.from_residual-in_err-write_bytes.result _ (subst (AppendsLess old new) (sym whole) (part_front old new len body c.in_err-write_bytes.ensures.err))

pub returns-clause-ok : goal.returns-clause-ok
unfolding frame_of
returns-clause-ok g c =
    let old = g.W.Write.contents c.args.writer.now in
    let len = c.to_be_bytes.result in
    let body = c.in_ok-body.body.items in
    let whole : frame_of c.args.output.now ≡ len ++ body =
    (λ i. to_be_bytes w32 (length (sym c.in_ok-body.ensures.bytes i)) ++ sym c.in_ok-body.ensures.bytes i)
    ∙ ap (λ (l : List ℕ). l ++ body) (sym (c.to_be_bytes.ensures ∙ ap (to_be_bytes w32) (c.len.ensures ∙ c.in_ok-body.body.ok.0))) in
    let mid = g.W.Write.contents c.write_bytes.new.writer in
    let new = g.W.Write.contents c.write_bytes-2.new.writer in
    on_ok_weaker c.write_bytes-2.result
    (λ second. subst (Appends old new) (sym whole) (Appends-trans old mid new len body c.in_ok-write_bytes.ensures.ok (subst (Appends mid new) c.as_slice.ensures.value second)))
    c.write_bytes-2.ensures.ok

pub returns-clause-err : goal.returns-clause-err
unfolding frame_of
returns-clause-err g c =
    let old = g.W.Write.contents c.args.writer.now in
    let len = c.to_be_bytes.result in
    let body = c.in_ok-body.body.items in
    let whole : frame_of c.args.output.now ≡ len ++ body =
    (λ i. to_be_bytes w32 (length (sym c.in_ok-body.ensures.bytes i)) ++ sym c.in_ok-body.ensures.bytes i)
    ∙ ap (λ (l : List ℕ). l ++ body) (sym (c.to_be_bytes.ensures ∙ ap (to_be_bytes w32) (c.len.ensures ∙ c.in_ok-body.body.ok.0))) in
    let mid = g.W.Write.contents c.write_bytes.new.writer in
    let new = g.W.Write.contents c.write_bytes-2.new.writer in
    on_err_more c.write_bytes-2.result _ _
    (λ second. subst (AppendsLess old new) (sym whole) (part_after old mid new len body c.in_ok-write_bytes.ensures.ok (subst (AppendsLess mid new) c.as_slice.ensures.value second)))
    c.write_bytes-2.ensures.err
