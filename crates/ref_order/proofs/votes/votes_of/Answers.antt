use Rattle.std.proofs.Common.{ℕ, [], ◌∷◌, length-append, arith, sym, ◌∙◌}
use Rattle.std.specs.Prelude.{option_map}
use Rattle.ref_order.proofs.Ranges.{one_more, none_more}
use Rattle.ref_order.proofs.Voters.{follows_more, follows_next}
use Rattle.spec_model.specs.Holdings.{entry_of}
use Rattle.ref_order.proofs.votes.votes_of.Goals as goal
use Rattle.ref_order.proofs.votes.votes_of.Goals.{in-Some+in_ok-push, in_default}

pub loop-voter-preserved : goal.loop-voter-preserved
loop-voter-preserved g c =
    let make = λ (voter : ℕ). option_map entry_of (g.C.Counted.vote_of c.args.counted.now voter) in
    let so_far = c.loop-voter.found in
    let less = c.loop-voter-test.true in
    elim c.match-entry.branch [
      | in-Some+in_ok-push w ↦
          let entry = w.in-Some.entry in
          let voter = c.loop-voter.voter in
          rw (w.found-is, w.in_ok-push.ensures.ok)
          (record {
            all = one_more make so_far entry voter c.args.size less (sym c.entry.ensures.value ∙ w.in-Some.is) ∙ c.loop-voter.invariant.all;
            few = omega (arith, c.loop-voter.invariant.few, length-append so_far (entry ∷ []));
            follows = follows_next so_far entry voter w.in-Some.ensures.voter;
          })
      | in_default w ↦
          rw w.found-is
          (record {
            all = none_more make so_far c.loop-voter.voter c.args.size less (sym c.entry.ensures.value ∙ w.in_default.is) ∙ c.loop-voter.invariant.all;
            few = omega (arith, c.loop-voter.invariant.few);
            follows = follows_more so_far c.loop-voter.voter c.loop-voter.invariant.follows;
          })
    ]
