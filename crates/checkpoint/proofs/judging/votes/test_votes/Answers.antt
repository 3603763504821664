use Rattle.std.proofs.Common.{◌≡◌, true, false, ap, ◌∙◌, rules}
use Rattle.std.specs.Prelude.{not, option_map}
use Rattle.std.specs.List.{position_from}
use Rattle.spec_checkpoint.specs.Loading.{at_record}
use Rattle.spec_model.specs.Nodes.{node_view}
use Rattle.spec_model.specs.Words.{Digest}
use Rattle.votebook.specs.declared.slot.Slot.{Slot}
use Rattle.checkpoint.specs.Judging.{is_vote_sound_at}
use Rattle.checkpoint.specs.Kept.{vote_of}
use Rattle.checkpoint.proofs.FirstFails.{mapped, slice_end, slice_fault_by, slice_fine_by}
use Rattle.checkpoint.proofs.judging.votes.test_votes.Goals as goal

pub returns-then-not-is_vote_sound-clause-err : goal.returns-then-not-is_vote_sound-clause-err
returns-then-not-is_vote_sound-clause-err g c apart =
    let node = node_view g.S.Sign.scheme c.args.node.now in
    let test = is_vote_sound_at node c.args.floor in
    let off : c.is_vote_sound.result ≡ false = search rules in
    ap (option_map at_record) (ap (position_from not c.args.first) (mapped test vote_of c.args.votes.now)
    ∙ slice_fault_by (λ (vote : Slot × Digest). test (vote_of vote)) c.args.first c.args.votes.now c.loop-vote.vote-index _ c.is_vote_sound.result c.loop-vote.place
    c.loop-vote-test.true c.loop-vote.invariant.none c.is_vote_sound.ensures off c.loop-vote.invariant.place)

pub loop-vote-preserved : goal.loop-vote-preserved
loop-vote-preserved g c =
    let node = node_view g.S.Sign.scheme c.args.node.now in
    let test = is_vote_sound_at node c.args.floor in
    let on : c.is_vote_sound.result ≡ true = search rules in
    record {
      place = search rules;
      none = slice_fine_by (λ (vote : Slot × Digest). test (vote_of vote)) c.args.first c.args.votes.now c.loop-vote.vote-index _ c.is_vote_sound.result
          c.loop-vote-test.true c.loop-vote.invariant.none c.is_vote_sound.ensures on;
    }

pub returns-clause-ok : goal.returns-clause-ok
returns-clause-ok g c =
    let node = node_view g.S.Sign.scheme c.args.node.now in
    let test = is_vote_sound_at node c.args.floor in
    ap (position_from not c.args.first) (mapped test vote_of c.args.votes.now)
    ∙ slice_end (λ (vote : Slot × Digest). test (vote_of vote)) c.args.first c.args.votes.now c.loop-vote.vote-index c.loop-vote-test.false c.loop-vote.invariant.none
