use Rattle.std.proofs.Common.{◌≡◌, ◌∙◌, [], ℕ, Bool, length, ap, sym, arith}
use Rattle.std.specs.Prelude.{nat_le, nat_lt, ◌&&◌}
use Rattle.committee.specs.Charter.{support_of}
use Rattle.committee.specs.Sets.{has}
use Rattle.committee.specs.declared.sets.MemberSet.{MemberSet}
use Rattle.committee.proofs.Weights.{weight-same}
use Rattle.spec_model.specs.Ordering.{supports}
use Rattle.dag.proofs.Looking.{all_in, one_in, one_out}
use Rattle.sequencer.specs.Listing.{ledger_of}
use Rattle.sequencer.proofs.listed.is_supported.Goals as goal
use Rattle.sequencer.proofs.listed.is_supported.Goals.{then-supports, else-supports}

pub loop-member-preserved : goal.loop-member-preserved
loop-member-preserved c other =
    let next = c.loop-member.member in
    let test : ℕ → Bool = supports (ledger_of c.args.committee.now c.args.list.now []) c.args.leader.now.0 in
    let tested : c.supports.result ≡ test next = c.supports.ensures c.args.committee.now [] in
    elim c.if-supports.branch [
      | then-supports w ↦
          ap (λ (s : MemberSet). has s other) w.supporters-is ∙ w.insert.ensures other
          ∙ one_in test next other (has c.loop-member.supporters other) (c.loop-member.invariant other) (sym tested ∙ w.if-supports.true)
      | else-supports w ↦
          ap (λ (s : MemberSet). has s other) w.supporters-is
          ∙ one_out test next other (has c.loop-member.supporters other) (c.loop-member.invariant other) (sym tested ∙ w.if-supports.false)
    ]

pub returns : goal.returns
returns c coins =
    let charter = c.args.committee.now in
    let size = length charter.keys in
    let test : ℕ → Bool = supports (ledger_of charter c.args.list.now []) c.args.leader.now.0 in
    let end : c.loop-member.member ≡ size = omega (arith, c.loop-member-test.false, c.loop-member.auto.member-end, c.size-member-end.ensures.value) in
    ap (λ (s : ℕ). nat_le s c.weight.result) c.support.ensures
    ∙ ap (nat_le (support_of charter)) (c.weight.ensures.value
    ∙ weight-same charter (has c.loop-member.supporters) test
    (λ m within. all_in test size m (has c.loop-member.supporters m) (c.loop-member.invariant m ∙ ap (λ (k : ℕ). nat_lt m k && test m) end) (λ passes. within)))
