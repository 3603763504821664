use Rattle.std.proofs.Common.{◌≡◌, ℕ, ◌+◌, Bool, true, false, ap, ◌∙◌, rules}
use Rattle.std.specs.Prelude.{◌&&◌, ◌||◌, ◌==◌, not, nat_lt}
use Rattle.committee.specs.Sets.{has}
use Rattle.committee.specs.declared.sets.MemberSet.{MemberSet}
use Rattle.spec_checkpoint.specs.Faults.{has_kept}
use Rattle.spec_model.specs.Nodes.{node_view}
use Rattle.ref_order.proofs.Sets.{in_more, out_more}
use Rattle.ref_checkpoint.proofs.faults.other_voters.Goals.{then-has_kept_of_others, else-has_kept_of_others}
use Rattle.ref_checkpoint.proofs.faults.other_voters.Goals as goal

-- a member who passes a test is put into the set of those so far who do, and one who doesn't isn't
with_member : (test : ℕ → Bool) (voter : ℕ) (before set found : MemberSet) → ((m : ℕ) → has before m ≡ (nat_lt m voter && test m)) → ((m : ℕ) → has set m ≡ (has before m || (m == voter)))
    → found ≡ set → test voter ≡ true → (m : ℕ) → has found m ≡ (nat_lt m (voter + 1) && test m)
with_member test voter before set found so_far put is holds m =
    ap (λ (one : MemberSet). has one m) is ∙ put m ∙ ap (λ (b : Bool). b || (m == voter)) (so_far m) ∙ in_more test voter m holds

without_member : (test : ℕ → Bool) (voter : ℕ) (before found : MemberSet) → ((m : ℕ) → has before m ≡ (nat_lt m voter && test m)) → found ≡ before → test voter ≡ false
    → (m : ℕ) → has found m ≡ (nat_lt m (voter + 1) && test m)
without_member test voter before found so_far is fails m = ap (λ (one : MemberSet). has one m) is ∙ so_far m ∙ out_more test voter m fails

pub loop-voter-preserved : goal.loop-voter-preserved
loop-voter-preserved g c =
    elim c.if-has_kept_of_others.branch [
      | then-has_kept_of_others w ↦
          with_member (λ (m : ℕ). has_kept (node_view g.S.Sign.scheme c.args.node.now) c.args.kept.now m && not (m == c.args.left_out)) c.loop-voter.voter c.loop-voter.found
          w.insert.new.self c.if-has_kept_of_others.found c.loop-voter.invariant w.insert.ensures w.found-is (search rules)
      | else-has_kept_of_others w ↦
          without_member (λ (m : ℕ). has_kept (node_view g.S.Sign.scheme c.args.node.now) c.args.kept.now m && not (m == c.args.left_out)) c.loop-voter.voter c.loop-voter.found
          c.if-has_kept_of_others.found c.loop-voter.invariant w.found-is (search rules)
    ]
