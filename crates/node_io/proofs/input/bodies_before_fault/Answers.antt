use Rattle.std.proofs.Common.{rules, ◌≡◌, ℕ, List, ◌++◌, ◌∷◌, [], ap, sym, ◌∙◌, subst, inl, inr}
use Rattle.wire_read.specs.Frames.{bodies_bytes}
use Rattle.node_io.specs.Cutting.{Takes}
use Rattle.node_io.specs.declared.input.End.TheVariants.{Whole, Memory, Broken}
use Rattle.node_io.proofs.Cutting.{takes_more, parts_more, breaks_more}
use Rattle.node_io.proofs.input.bodies_before_fault.Goals as goal

pub loop-byte-preserved : goal.loop-byte-preserved
loop-byte-preserved c =
    let before = c.loop-byte.invariant in
    let is : c.loop-byte.rest.now ≡ c.in-Some.byte.now ∷ c.in-Some.after.now = search rules in
    let more = c.in-Ok.ensures.ok in (
      before.0 ++ c.in-Some.byte.now ∷ [],
      parts_more _ _ _ _ _ before.1 is,
      takes_more _ _ _ _ _ c.loop-byte.all.items more.0 _ more.1 before.2 more.2,
    )

pub returns-in-Err : goal.returns-in-Err
returns-in-Err c =
    let before = c.loop-byte.invariant in
    let is : c.loop-byte.rest.now ≡ c.in-Some.byte.now ∷ c.in-Some.after.now = search rules in
    let kept : c.add_bodies.new.all.items ≡ c.loop-byte.all.items = c.in-Err.ensures.same in
    let takes_kept : (mid : List ℕ) → Takes c.args.frames.now before.0 (bodies_bytes c.loop-byte.all.items) mid → Takes c.args.frames.now before.0 (bodies_bytes c.add_bodies.new.all.items) mid =
    (λ mid takes. subst (λ all. Takes c.args.frames.now before.0 (bodies_bytes all) mid) (sym kept) takes) in
    record {
      all = λ none. absurd cc;
      broken = λ broken.
          let end : c.in-Err.end ≡ Broken = search (rules, broken) in
          elim c.in-Err.ensures.err [
            | inl memory ↦ let bad : Broken ≡ Memory = sym end ∙ memory in absurd cc
            | inr fault ↦ record {
              taken = before.0;
              byte = c.in-Some.byte.now;
              after = c.in-Some.after.now;
              parts = before.1 ∙ ap (λ l. before.0 ++ l) is;
              takes = subst (λ mid. Takes c.args.frames.now before.0 (bodies_bytes c.add_bodies.new.all.items) mid) (sym fault.1) (takes_kept c.loop-byte.frames before.2);
              breaks = breaks_more _ _ _ _ _ before.2 fault.2;
            }
          ];
      memory = λ _. record {
        taken = before.0;
        after = c.loop-byte.rest.now;
        later = c.loop-byte.frames;
        parts = before.1;
        takes = takes_kept c.loop-byte.frames before.2;
      };
      never = λ whole.
          let end : c.in-Err.end ≡ Whole = search (rules, whole) in
          elim c.in-Err.ensures.err [
            | inl memory ↦ let bad : Whole ≡ Memory = sym end ∙ memory in absurd cc
            | inr fault ↦ let bad : Whole ≡ Broken = sym end ∙ fault.0 in absurd cc
          ];
    }
