use Rattle.std.proofs.Common.{ℕ, ap, sym, subst}
use Rattle.wire.specs.declared.message.Message.TheVariants as message
use Rattle.spec_model.specs.Histories.{as_coin}
use Rattle.certify.specs.Answer.{completion_of}
use Rattle.admission.specs.Headers.{IsForgotten}
use Rattle.admission.specs.Batches.{changes_batches}
use Rattle.admission.specs.Votes.{is_peers_header}
use Rattle.admission.proofs.Closing.{comes_of}
use Rattle.admission.proofs.Committing.{with_high}
use Rattle.admission.proofs.VoteCounting.{vote_high}
use Rattle.admission.proofs.tables.Tables.count_vote.Goals as goal

pub returns-clause-at : goal.returns-clause-at
returns-clause-at c = λ node state event meets new.
    let tables = c.args.self.now in
    let vote = c.args.vote in
    let held = c.count.new.self in
    let others = c.others_stay.ensures in
    let comes = comes_of node state event tables (message.Vote vote) meets new in
    let is = c.vote_comes.ensures node state event vote tables.headers comes c.limits_hold.ensures meets.at.headers meets.message in
    let beside = others.beside node state event tables comes meets.at (is.counted (sym c.requires.added)) (ap as_coin meets.message) in
    let low = others.low node state event tables comes meets.at in
    let forgotten = with_high tables.headers held _ vote.round _ low.headers c.count.ensures
    (vote_high others.high node state event tables vote meets new) in
    record {
      own = meets.at.own;
      batches = beside.batches (ap (changes_batches node) meets.message);
      votes = beside.votes (ap (is_peers_header node) meets.message);
      headers = is.after held c.count.ensures held (subst (λ (f : ℕ). IsForgotten held held f) (sym beside.floor) forgotten);
      sequence = beside.sequence;
    }

pub count-requires : goal.count-requires
count-requires c = ap completion_of (sym c.requires.added)
