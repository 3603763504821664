use Rattle.std.proofs.Common.{List, map, sym, subst}
use Rattle.std.specs.Prelude.{All}
use Rattle.batchstore.specs.declared.held.Held.{Held}
use Rattle.votebook.specs.declared.slot.Slot.{Slot}
use Rattle.admission.specs.declared.kept.VotedHeader.{VotedHeader}
use Rattle.spec_checkpoint.specs.Records.{ORDER_PIECE, batch_record, certificate_record, cut, header_record, order_record, vote_record}
use Rattle.spec_model.specs.Words.{Certificate, Digest}
use Rattle.checkpoint.specs.Kept.{batch_of, certificate_of, checkpoint_of, header_of, vote_of}
use Rattle.checkpoint.proofs.RowsMore.{each_fit}
use Rattle.checkpoint.proofs.records.put_records.Goals as goal

pub put_order-requires : goal.put_order-requires
put_order-requires g c =
    let fits = g.S.RecordSink.fits in
    let each = each_fit fits (checkpoint_of c.args.kept.now) c.requires in
    subst (λ (l : List Digest). All fits (map order_record (cut ORDER_PIECE l))) (sym c.deref.ensures.value) each.order

pub put_batches-requires : goal.put_batches-requires
put_batches-requires g c =
    let fits = g.S.RecordSink.fits in
    let each = each_fit fits (checkpoint_of c.args.kept.now) c.requires in
    subst (λ (l : List (Digest × Held)). All fits (map batch_record (map batch_of l))) (sym c.deref-2.ensures.value) each.batches

pub put_votes-requires : goal.put_votes-requires
put_votes-requires g c =
    let fits = g.S.RecordSink.fits in
    let each = each_fit fits (checkpoint_of c.args.kept.now) c.requires in
    subst (λ (l : List (Slot × Digest)). All fits (map vote_record (map vote_of l))) (sym c.deref-3.ensures.value) each.votes

pub put_headers-requires : goal.put_headers-requires
put_headers-requires g c =
    let fits = g.S.RecordSink.fits in
    let each = each_fit fits (checkpoint_of c.args.kept.now) c.requires in
    subst (λ (l : List VotedHeader). All fits (map header_record (map header_of l))) (sym c.deref-4.ensures.value) each.headers

pub put_certificates-requires : goal.put_certificates-requires
put_certificates-requires g c =
    let fits = g.S.RecordSink.fits in
    let each = each_fit fits (checkpoint_of c.args.kept.now) c.requires in
    subst (λ (l : List (Certificate × Digest)). All fits (map certificate_record (map certificate_of l))) (sym c.deref-5.ensures.value) each.certificates

pub put_coins-requires : goal.put_coins-requires
put_coins-requires g c = (each_fit g.S.RecordSink.fits (checkpoint_of c.args.kept.now) c.requires).coins
