use Rattle.std.proofs.Common.{◌≡◌, List, ℕ, ◌++◌, length, sym, ap, ◌∙◌, append_assoc}
use Rattle.std.specs.Int.{w32, to_be_bytes}
use Rattle.wire.specs.Outputs.{frame_of}
use Rattle.ref_script.proofs.frames.put_frame.Goals as goal

pub returns : goal.returns
unfolding frame_of
returns c =
    let old = c.args.bytes.now.items in
    let len = c.to_be_bytes.result in
    let body = c.in_ok-body.body.items in
    let whole : frame_of c.args.output.now ≡ len ++ body =
    (λ i. to_be_bytes w32 (length (sym c.in_ok-body.ensures.bytes i)) ++ sym c.in_ok-body.ensures.bytes i)
    ∙ ap (λ (l : List ℕ). l ++ body) (sym (c.to_be_bytes.ensures ∙ ap (to_be_bytes w32) (c.len.ensures ∙ c.in_ok-body.body.ok.0))) in
    c.in_ok-extend_from_slice-2.ensures.items ∙ (λ i. c.in_ok-extend_from_slice.ensures.items i ++ c.deref.ensures.value i) ∙ append_assoc old len body ∙ ap (λ (l : List ℕ). old ++ l) (sym whole)
