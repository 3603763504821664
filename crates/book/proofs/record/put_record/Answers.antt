use Rattle.std.proofs.Common.{◌≡◌, ◌∷◌, ◌++◌, List, ℕ, ap, ◌∙◌, arith}
use Rattle.std.specs.Int.{w16, w32, to_be_bytes}
use Rattle.journal.specs.Format.{record_bytes}
use Rattle.spec_records.specs.Records.{record_of}
use Rattle.wire.specs.Encoding.{encoding}
use Rattle.book.proofs.Recording.{whole_after, part_after}
use Rattle.book.proofs.record.put_record.Goals as goal

pub overflow_cast-len : goal.overflow_cast-len
overflow_cast-len c = omega (arith, c.requires.short)

pub returns-clause-ok : goal.returns-clause-ok
returns-clause-ok c =
    let event = c.args.event.now in
    let whole : c.front_bytes.result ++ encoding c.message.result.now ≡ record_bytes (record_of event) =
    ap (λ (front : List ℕ). front ++ encoding c.message.result.now) c.front_bytes.ensures
    ∙ λ i. to_be_bytes w32 (c.requires.len i) ++ 1 ∷ to_be_bytes w16 (c.sender.ensures i).0 ++ encoding (c.message.ensures i) in
    whole_after c.encode_onto.result c.args.bytes.now.items c.front_bytes.result c.extend_from_slice.new.self.items (encoding c.message.result.now)
    (record_bytes (record_of event)) c.encode_onto.new.out.items c.in_ok-extend_from_slice.ensures.items whole c.encode_onto.ensures.bytes

pub returns-clause-err : goal.returns-clause-err
returns-clause-err c =
    part_after c.encode_onto.result c.args.bytes.now.items c.front_bytes.result c.extend_from_slice.new.self.items c.encode_onto.new.out.items
    c.in_ok-extend_from_slice.ensures.items c.encode_onto.ensures.kept
