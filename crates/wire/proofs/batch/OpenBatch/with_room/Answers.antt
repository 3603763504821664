use Rattle.std.proofs.Common.{◌≡◌, ◌++◌, refl, arith}
use Rattle.std.specs.Int.{w16, w32, to_be_bytes}
use Rattle.std.proofs.lemmas.List.Elements.{All-nil}
use Rattle.wire.specs.Batches.{IsTransaction, transactions_in}
use Rattle.wire.proofs.batch.OpenBatch.with_room.Goals as goal

pub invariant_of-result : goal.invariant_of-result
unfolding transactions_in
invariant_of-result c =
    let whole : c.extend_from_slice-3.new.self.items ≡ to_be_bytes w16 c.args.author.0 ++ to_be_bytes w16 c.args.worker ++ to_be_bytes w32 0 =
    rw (
      c.in_ok-extend_from_slice-3.ensures.items,
      c.in_ok-extend_from_slice-2.ensures.items,
      c.in_ok-extend_from_slice.ensures.items,
      c.in_ok-body.ensures.items,
      c.two_bytes.ensures.bytes,
      c.two_bytes-2.ensures.bytes,
      c.four_bytes.ensures.bytes,
    ) refl in
    rw whole record {
      fits = record { author = c.two_bytes.ensures.range; worker = c.two_bytes-2.ensures.range; each = All-nil IsTransaction; short = omega arith };
      head = refl;
      counted = refl;
      rest = refl;
      len = refl;
    }

pub returns : goal.returns
unfolding transactions_in
returns c = refl
