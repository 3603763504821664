use Rattle.std.proofs.Common.{◌≡◌, ℕ, ◌-◌, [], ◌∷◌, ◌++◌, append-nil, length-append, filter_map, arith, ap, sym, ◌∙◌}
use Rattle.std.specs.List.{range_with_len}
use Rattle.std.specs.Prelude.{option_map}
use Rattle.ref_admission.proofs.Parents.{parent_follows_more, parent_follows_next, mapped_filter}
use Rattle.ref_order.proofs.Ranges.{one_more, none_more}
use Rattle.committee.specs.Charter.{numbers}
use Rattle.spec_model.specs.Proposing.{as_parent}
use Rattle.spec_model.specs.Slots.{slots_of}
use Rattle.ref_admission.proofs.proposing.parents_of.Goals as goal
use Rattle.ref_admission.proofs.proposing.parents_of.Goals.{in-Some+in_ok-push, in_default}

pub loop-author-preserved : goal.loop-author-preserved
loop-author-preserved c =
    let make = λ (author : ℕ). option_map as_parent (slots_of c.args.certificates.now c.args.round author) in
    let so_far = c.loop-author.found in
    let author = c.loop-author.author in
    let less = c.loop-author-test.true in
    elim c.match-parent_at.branch [
      | in-Some+in_ok-push w ↦
          let parent = w.in-Some.parent in
          rw (w.found-is, w.in_ok-push.ensures.ok)
          (record {
            all = one_more make so_far parent author c.args.size less (sym c.parent_at.ensures.value ∙ w.in-Some.is) ∙ c.loop-author.invariant.all;
            few = omega (arith, c.loop-author.invariant.few, length-append so_far (parent ∷ []));
            follows = parent_follows_next so_far parent author w.in-Some.ensures.author;
          })
      | in_default w ↦
          rw w.found-is
          (record {
            all = none_more make so_far author c.args.size less (sym c.parent_at.ensures.value ∙ w.in_default.is) ∙ c.loop-author.invariant.all;
            few = omega (arith, c.loop-author.invariant.few);
            follows = parent_follows_more so_far author c.loop-author.invariant.follows;
          })
    ]

pub returns : goal.returns
returns c =
    let make = λ (author : ℕ). option_map as_parent (slots_of c.args.certificates.now c.args.round author) in
    let so_far = c.loop-author.found in
    let none_left : c.args.size - c.loop-author.author ≡ 0 = omega (arith, c.loop-author-test.false) in
    sym (append-nil so_far)
    ∙ ap (λ (left : ℕ). so_far ++ filter_map make (range_with_len c.loop-author.author left)) (sym none_left)
    ∙ c.loop-author.invariant.all
    ∙ sym (mapped_filter as_parent (slots_of c.args.certificates.now c.args.round) (numbers c.args.size))
