use Rattle.std.proofs.Common.{◌≡◌, ℕ, true, false, ap, sym, subst, ◌∙◌}
use Rattle.std.specs.Prelude.{not}
use Rattle.wire.specs.declared.message.Message.TheVariants as message
use Rattle.spec_model.specs.Admitting.{is_own}
use Rattle.spec_model.specs.Histories.{as_coin}
use Rattle.spec_model.specs.Words.{Author}
use Rattle.spec_machine.specs.Machine.{after, certificate_of}
use Rattle.votebook.specs.Votes.{Votes, ForgetsTo}
use Rattle.admission.specs.HeaderLaws.{is_other}
use Rattle.admission.specs.Batches.{changes_batches}
use Rattle.admission.specs.Votes.{HasVotes, is_peers_header, with_vote}
use Rattle.admission.specs.Decisions.{is_own_of}
use Rattle.admission.proofs.Closing.{comes_of}
use Rattle.admission.proofs.Heading.{header_high, with_high_vote}
use Rattle.admission.proofs.tables.Tables.new_peers_header.Goals as goal

pub returns-clause-at : goal.returns-clause-at
returns-clause-at g c = λ node state event meets signs new.
    let tables = c.args.self.now in
    let header = c.args.header.now in
    let others = c.others_stay.ensures in
    let comes = comes_of node state event tables (message.Header header) meets new in
    let theirs : is_own node header.body.author ≡ false = ap (λ (own : Author). is_own_of (record tables { own = own }) header.body.author) (sym meets.at.own) ∙ c.requires.peers in
    let peers : is_peers_header node event.message ≡ true = ap (is_peers_header node) meets.message ∙ ap not theirs in
    let beside = others.beside node state event tables comes meets.at (ap (certificate_of node state) meets.message) (ap as_coin meets.message) in
    let low = others.low node state event tables comes meets.at in
    let held = with_high_vote tables.votes _ header low.votes (header_high others.high node state event tables header meets new) in
    record {
      own = meets.at.own;
      batches = beside.batches (ap (changes_batches node) meets.message ∙ theirs);
      votes = subst (λ (v : Votes). HasVotes node (after node state event) v) (sym c.in_ok-keep_vote.ensures.ok)
          (c.vote_is_kept.ensures node state event header tables.votes (with_vote tables.votes header.body) comes meets.at.votes meets.message peers
          (subst (λ (f : ℕ). ForgetsTo f (with_vote tables.votes header.body) (with_vote tables.votes header.body)) (sym beside.floor) held));
      headers = beside.headers (ap (is_other node) meets.message ∙ ap not theirs);
      sequence = beside.sequence;
    }
