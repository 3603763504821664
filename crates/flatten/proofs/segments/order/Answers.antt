use Rattle.std.proofs.Common.{◌+◌, ◌-◌, ◌∙◌, ◌++◌, ℕ, Bool, List, max, length, ap, arith}
use Rattle.std.specs.Prelude.{flat_map}
use Rattle.std.specs.List.{range_with_len}
use Rattle.committee.specs.declared.sets.MemberSet.{MemberSet}
use Rattle.flatten.specs.Sets.{is_in, is_free, digests_at}
use Rattle.flatten.proofs.Picking.{closed_before, segment_is, reads_ordered, unordered_next}
use Rattle.flatten.proofs.segments.order.Goals as goal

pub returns-clause-digests : goal.returns-clause-digests
returns-clause-digests c previous certificate leads =
    let graph = c.args.dag.now in
    let leader = c.args.leader in
    let free : ℕ → ℕ → Bool = is_free graph c.args.top c.args.taken.now.items in
    let ordered = c.in_ok-ordered.ordered.items in
    let before = c.args.digests.now.items in
    let bottom = c.lowest-bottom.result in
    let closed = closed_before graph c.limits_hold.ensures previous leader c.args.top free certificate leads bottom c.lowest-bottom.ensures in
    c.in_ok-put_digests.ensures
    ∙ ap (λ (l : List MemberSet). before
    ++ (let first = max (leader.0 + 1 - length l) 1 in flat_map (λ r. digests_at graph r (is_in l (leader.0 - r)))
    (range_with_len first (leader.0 + 1 - first)))) c.deref.ensures.value
    ∙ ap (λ l. before ++ l)
    (segment_is graph c.limits_hold.ensures previous leader c.args.top free ordered certificate leads bottom c.lowest-bottom.ensures
    c.in_ok-ordered.ensures.length (c.in_ok-ordered.ensures.sets closed))

pub returns-clause-reads : goal.returns-clause-reads
returns-clause-reads c previous certificate leads =
    let graph = c.args.dag.now in
    let free : ℕ → ℕ → Bool = is_free graph c.args.top c.args.taken.now.items in
    let bottom = c.lowest-bottom.result in
    let closed = closed_before graph c.limits_hold.ensures previous c.args.leader c.args.top free certificate leads bottom c.lowest-bottom.ensures in
    c.in_ok-ordered.ensures.reads closed ∙ reads_ordered graph c.limits_hold.ensures previous c.args.leader c.args.top free certificate leads bottom c.lowest-bottom.ensures

pub returns-clause-unordered : goal.returns-clause-unordered
returns-clause-unordered c previous certificate leads has_all =
    let graph = c.args.dag.now in
    let free : ℕ → ℕ → Bool = is_free graph c.args.top c.args.taken.now.items in
    let bottom = c.lowest-bottom.result in
    let closed = closed_before graph c.limits_hold.ensures previous c.args.leader c.args.top free certificate leads bottom c.lowest-bottom.ensures in
    unordered_next graph c.limits_hold.ensures previous c.args.leader c.args.top free (is_free graph c.args.top c.walk.new.taken.items) certificate leads
    (λ round other above below. c.in_ok-ordered.ensures.taken closed round other (omega (arith, above, c.lowest-bottom.ensures)) below) has_all
