-- What a history has of each kind after one more event.
use Rattle.spec_model.specs.Histories.{as_batch, as_ack, as_header, as_vote, as_certificate, as_coin}
use Rattle.spec_model.specs.Holdings.{batch_digest}
use Rattle.spec_laws.specs.Laws.{OneMore}
use Rattle.spec_model.specs.Slots.{same_digest}
use Rattle.spec_laws.proofs.Lists.{filter_map-push, found-push}
use Rattle.spec_laws.proofs.SlotsGrow.{counted_vote-push}
use Rattle.spec_laws.proofs.Votes.{voted_header-push}

pub one_more : OneMore
one_more history event =
    record {
      of_batches = filter_map-push (λ e. as_batch e.message) history event;
      of_acks = filter_map-push (λ e. as_ack e.message) history event;
      of_headers = filter_map-push (λ e. as_header e.message) history event;
      of_votes = filter_map-push (λ e. as_vote e.message) history event;
      of_received = filter_map-push (λ e. as_certificate e.message) history event;
      of_coins = filter_map-push (λ e. as_coin e.message) history event;
      batch_found = λ digest. found-push (λ e. as_batch e.message) (λ batch. same_digest (batch_digest batch) digest) history event;
      header_found = λ round author. voted_header-push history event round author;
      vote_found = λ node header voter. counted_vote-push node history event header voter;
    }
