use Rattle.std.proofs.Common.{◌<◌, [], length, take, get_or, refl, sym, ap, ◌∙◌, arith}
use Rattle.std.specs.Prelude.{◌||◌, ◌==◌}
use Rattle.std.proofs.lemmas.List.{length-set, take_more}
use Rattle.wire.specs.declared.votes.VoteEntry.{VoteEntry}
use Rattle.certify.specs.Assembled.{has_voted, with_entry, with_entries}
use Rattle.certify.proofs.Places.{voted-entry, with_entries-push}
use Rattle.certify.proofs.assembly.put_votes.Goals as goal

pub loop-entry-init : goal.loop-entry-init
loop-entry-init c = (refl, refl, c.requires.voters)

pub loop-entry-preserved : goal.loop-entry-preserved
loop-entry-preserved c =
    let votes = c.args.votes.now in
    let index = c.loop-entry.entry-index in
    let default : VoteEntry = record { voter = record { 0 = 0 }; signature = record { 0 = [] } } in
    let last : VoteEntry = get_or votes index default in
    let within : last.voter.0 < length c.loop-entry.places.items = omega (arith, c.requires.places index default c.loop-entry-test.true, c.loop-entry.invariant.1) in (
      c.put_vote.ensures.places ∙ ap (λ places. with_entry places last) c.loop-entry.invariant.0
          ∙ sym (with_entries-push c.args.places.now.items (take index votes) last)
          ∙ ap (with_entries c.args.places.now.items) (sym (take_more votes index default c.loop-entry-test.true)),
      ap length c.put_vote.ensures.places ∙ length-set c.loop-entry.places.items last.voter.0 _ ∙ c.loop-entry.invariant.1,
      λ m. c.put_vote.ensures.voters m ∙ ap (λ b. b || (m == last.voter.0)) (c.loop-entry.invariant.2 m)
          ∙ sym (ap (λ places. has_voted places m) c.put_vote.ensures.places ∙ voted-entry c.loop-entry.places.items last m within),
    )

pub put_vote-requires-clause-place : goal.put_vote-requires-clause-place
put_vote-requires-clause-place c =
    let default : VoteEntry = record { voter = record { 0 = 0 }; signature = record { 0 = [] } } in
    omega (arith, c.requires.places c.loop-entry.entry-index default c.loop-entry-test.true, c.loop-entry.invariant.1)
