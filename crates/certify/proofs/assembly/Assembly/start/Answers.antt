use Rattle.std.proofs.Common.{◌≡◌, ◌∙◌, false, true, length, None, Some, ap, sym}
use Rattle.std.specs.Prelude.{◌||◌, ◌==◌, replicate}
use Rattle.std.proofs.lemmas.List.{length-set, length-replicate}
use Rattle.certify.proofs.Places.{alone-voted, alone-below, on-digest}
use Rattle.certify.proofs.assembly.Assembly.start.Goals as goal

pub invariant_of-result : goal.invariant_of-result
invariant_of-result c =
    let charter = c.args.committee.now in
    let own = c.args.own in
    let size = length charter.keys in
    let empty : c.in_ok-places.places.items ≡ replicate size None = c.in_ok-places.ensures ∙ ap (λ n. replicate n None) c.size.ensures.value in
    rw empty (record {
      assembly = record {
        committee = c.limits_hold.ensures;
        size = length-set (replicate size None) own.voter.0 (Some own.signature) ∙ length-replicate size None;
        below = λ _. alone-below charter own c.limits_hold.ensures c.requires.member;
        enough = λ (e : false ≡ true). absurd cc;
      };
      digested = on-digest c.args.header.body own c.requires.ours;
      voted = λ m. c.insert.ensures m ∙ ap (λ b. b || (m == own.voter.0)) (c.none-voters.ensures m) ∙ sym (alone-voted size own m c.requires.member);
    })
