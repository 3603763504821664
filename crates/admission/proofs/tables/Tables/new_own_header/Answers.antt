use Rattle.std.proofs.Common.{◌≡◌, ℕ, true, Some, ap, sym, subst, ◌∙◌}
use Rattle.std.specs.Prelude.{not}
use Rattle.wire.specs.declared.message.Message.TheVariants as message
use Rattle.spec_model.specs.Admitting.{is_own}
use Rattle.spec_model.specs.Histories.{as_coin}
use Rattle.spec_model.specs.Holdings.{own_vote}
use Rattle.spec_model.specs.Words.{Author, Digest, Header, Signature, Vote}
use Rattle.spec_machine.specs.Machine.{certificate_of}
use Rattle.certify.specs.Assembled.{started}
use Rattle.admission.specs.Headers.{IsForgotten, IsWith}
use Rattle.admission.specs.Votes.{is_peers_header}
use Rattle.admission.specs.Decisions.{vote_by, is_own_of}
use Rattle.admission.proofs.Closing.{comes_of}
use Rattle.admission.proofs.Committing.{with_high}
use Rattle.admission.proofs.Heading.{header_high}
use Rattle.admission.proofs.tables.Tables.new_own_header.Goals as goal

pub returns-clause-at : goal.returns-clause-at
returns-clause-at g c = λ node state event meets signs new.
    let tables = c.args.self.now in
    let header = c.args.header in
    let sign : Digest → Signature = g.S.Sign.scheme.signature_of c.args.signer.now in
    let held = c.hold.new.self in
    let others = c.others_stay.ensures in
    let comes = comes_of node state event tables (message.Header header) meets new in
    let mine : is_own node header.body.author ≡ true = ap (λ (own : Author). is_own_of (record tables { own = own }) header.body.author) (sym meets.at.own) ∙ c.requires.own in
    let beside = others.beside node state event tables comes meets.at (ap (certificate_of node state) meets.message) (ap as_coin meets.message) in
    let low = others.low node state event tables comes meets.at in
    let is = c.header_comes.ensures node state event header tables.headers comes meets.at.headers meets.message mine in
    let vote : c.vote_for-vote.result ≡ own_vote node header.body =
    c.vote_for-vote.ensures ∙ ap (λ (own : Author). vote_by own sign header.body) meets.at.own ∙ ap (λ (s : Digest → Signature). vote_by node.own s header.body) (sym signs) in
    let of : Header → Vote → Type 0 = λ h v. IsWith tables.headers held h.body.round (Some (started tables.headers.charter h v)) in
    let with : of header (own_vote node header.body) =
    subst (λ (h : Header). of h (own_vote node header.body)) c.in_ok-held.ensures (subst (λ (v : Vote). of c.in_ok-held.held v) vote c.in_ok-hold.ensures.ok) in
    let forgotten = with_high tables.headers held _ header.body.round _ low.headers with (header_high others.high node state event tables header meets new) in
    record {
      own = meets.at.own;
      batches = c.name_all.ensures.goes_on node state event meets.message mine new meets.at.batches;
      votes = beside.votes (ap (is_peers_header node) meets.message ∙ ap not mine);
      headers = is.after held with held (subst (λ (f : ℕ). IsForgotten held held f) (sym beside.floor) forgotten);
      sequence = beside.sequence;
    }
