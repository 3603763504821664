use Rattle.std.proofs.Common.{◌≡◌, ◌∙◌, length, None, Some, ap}
use Rattle.std.specs.Prelude.{nat_le, replicate}
use Rattle.std.proofs.lemmas.List.{length-set, length-replicate}
use Rattle.committee.specs.Charter.{quorum_of, weight}
use Rattle.committee.specs.Sets.{has}
use Rattle.certify.specs.Assembled.{with_vote, with_entries, started}
use Rattle.certify.proofs.Places.{on-digest, length-with_entries, restored-kept, restored-complete, restored-is}
use Rattle.certify.proofs.assembly.Assembly.restore.Goals as goal

-- what the restored one has in its places
stand : (c : goal.After-result-1) → c.put_votes.new.places.items ≡ with_entries (started c.args.committee.now c.args.header c.args.own).places c.args.votes.items
stand c =
    let own = c.args.own in
    let empty : c.in_ok-places.places.items ≡ replicate (length c.args.committee.now.keys) None = c.in_ok-places.ensures ∙ ap (λ n. replicate n None) c.size.ensures.value in
    c.put_votes.ensures.places
    ∙ ap (with_entries (with_vote c.in_ok-places.places.items own)) c.as_slice.ensures.value
    ∙ ap (λ places. with_entries (with_vote places own) c.args.votes.items) empty

-- it is complete where the voters weigh a quorum
made : (c : goal.After-result-1) → nat_le c.quorum.result c.weight.result ≡ nat_le (quorum_of c.args.committee.now) (weight c.args.committee.now (has c.put_votes.new.voters))
made c = ap (λ quorum. nat_le quorum c.weight.result) c.quorum.ensures ∙ ap (nat_le (quorum_of c.args.committee.now)) c.weight.ensures.value

pub invariant_of-result : goal.invariant_of-result
invariant_of-result c =
    let charter = c.args.committee.now in
    let own = c.args.own in
    let size = length charter.keys in
    restored-kept charter c.args.header c.put_votes.new.places.items own.header c.put_votes.new.voters _ c.limits_hold.ensures
    (ap length (stand c) ∙ length-with_entries (started charter c.args.header own).places c.args.votes.items
    ∙ length-set (replicate size None) own.voter.0 (Some own.signature) ∙ length-replicate size None)
    (on-digest c.args.header.body own c.requires.ours) c.put_votes.ensures.voters (made c)

pub returns : goal.returns
returns c =
    restored-is c.args.committee.now c.args.header c.args.own c.args.votes.items c.put_votes.new.places.items _ (stand c.before)
    (made c.before ∙ restored-complete c.args.committee.now c.put_votes.new.places.items c.put_votes.new.voters c.put_votes.ensures.voters)
