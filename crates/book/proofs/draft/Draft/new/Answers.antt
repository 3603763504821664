use Rattle.std.proofs.Common.{[], refl, sym, append-nil, arith}
use Rattle.book.proofs.draft.Draft.new.Goals as goal

pub invariant_of-result : goal.invariant_of-result
invariant_of-result c = (
  record {
    records = [];
    not_many = omega arith;
    not_long = omega arith;
    front = c.extend_from_slice.new.self.items;
    room = omega (arith, c.in_ok-extend_from_slice.ensures.len, c.new-bytes.ensures.len);
    written = sym (append-nil c.extend_from_slice.new.self.items);
    counts = refl;
  },
  tt,
)
