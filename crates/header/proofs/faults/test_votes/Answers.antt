use Rattle.std.proofs.Common.{rules, ◌≡◌, ◌≤◌, true, None, List, arith}
use Rattle.std.specs.Prelude.{sum_by}
use Rattle.std.specs.List.{list_all}
use Rattle.std.proofs.lemmas.Bool.{le-leb}
use Rattle.committee.specs.Charter.{Charter, quorum_of}
use Rattle.wire.specs.declared.keys.Digest.{Digest}
use Rattle.wire.specs.declared.votes.VoteEntry.{VoteEntry}
use Rattle.header.specs.Checks.{Accepts, first_failing, is_member, named_weight, is_signed, votes_tests}
use Rattle.header.proofs.faults.test_votes.Goals as goal

-- votes that hold each test pass
passes : (charter : Charter) (accepts : Accepts) (digest : Digest) (votes : List VoteEntry)
    → quorum_of charter ≤ sum_by (λ vote. named_weight charter vote.voter) votes
    → list_all (λ vote. is_member charter vote.voter) votes ≡ true
    → list_all (λ vote. is_signed charter accepts vote.voter digest vote.signature) votes ≡ true
    → None ≡ first_failing (votes_tests charter accepts digest votes)
passes charter accepts digest votes enough members signed = rw (le-leb _ _ enough, members, signed)

pub returns : goal.returns
returns g c =
    let votes = c.args.votes.now in
    let enough : quorum_of c.args.committee.now ≤ sum_by (λ vote. named_weight c.args.committee.now vote.voter) votes = omega (arith, c.weight_of_votes.ensures, c.quorum.ensures) in
    let members : list_all (λ vote. is_member c.args.committee.now vote.voter) votes ≡ true = search (rules, rw c.as_slice-votes.ensures.value at c.if-not-voters_are_members.ensures) in
    let signed : list_all (λ vote. is_signed c.args.committee.now (g.V.Verify.accepts c.args.verifier.now) vote.voter c.args.digest.now
    vote.signature) votes ≡ true = search (rules, rw c.as_slice-votes.ensures.value at c.if-not-votes_are_signed.ensures) in
    passes c.args.committee.now (g.V.Verify.accepts c.args.verifier.now) c.args.digest.now votes enough members signed
