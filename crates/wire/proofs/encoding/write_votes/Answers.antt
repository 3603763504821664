use Rattle.std.proofs.Common.{arith, length, take, ◌++◌, ap, ◌∙◌}
use Rattle.std.specs.Int.{w16, to_be_bytes}
use Rattle.std.specs.List.{flat_map}
use Rattle.wire.specs.Encoding.{vote_entry_bytes}
use Rattle.wire.proofs.Pieces.{one_more, all_put}
use Rattle.wire.proofs.encoding.write_votes.Goals as goal

pub write_vote_entry-next-requires : goal.write_vote_entry-next-requires
write_vote_entry-next-requires c =
    let until = c.loop-vote.invariant in
    omega (arith, c.requires, c.loop-vote-test.true, until.place, until.len, ap length c.as_slice-list.ensures.value)

pub loop-vote-preserved : goal.loop-vote-preserved
loop-vote-preserved c =
    let until = c.loop-vote.invariant in
    let put = c.write_vote_entry-next.ensures in
    record {
      bytes = one_more vote_entry_bytes (take c.args.place c.args.area.now) (to_be_bytes w16 (length c.as_slice-list.result.now)) (take c.loop-vote.next c.loop-vote.area)
          (take c.write_vote_entry-next.result c.write_vote_entry-next.new.area) c.as_slice-list.result.now c.loop-vote.vote-index _ c.loop-vote-test.true until.bytes put.bytes;
      place = omega (arith, until.place, put.next);
      len = omega (arith, until.len, put.len);
    }

pub returns-clause-bytes : goal.returns-clause-bytes
returns-clause-bytes c =
    all_put vote_entry_bytes (take c.args.place c.args.area.now) (to_be_bytes w16 (length c.as_slice-list.result.now)) (take c.loop-vote.next c.loop-vote.area) c.as_slice-list.result.now
    c.loop-vote.vote-index c.loop-vote-test.false c.loop-vote.invariant.bytes
    ∙ ap (λ l. take c.args.place c.args.area.now ++ (to_be_bytes w16 (length l) ++ flat_map vote_entry_bytes l)) c.as_slice-list.ensures.value
