use Rattle.std.proofs.Common.{rules, ◌≡◌, ℕ, List, true, Option, None, ap, sym, ◌∙◌}
use Rattle.committee.specs.Charter.{Charter}
use Rattle.wire.specs.Digests.{header_digest_of, certificate_digest_of}
use Rattle.wire.specs.declared.header.Certificate.{Certificate}
use Rattle.wire.specs.declared.header.HeaderBody.{HeaderBody}
use Rattle.wire.specs.declared.keys.Digest.{Digest}
use Rattle.header.specs.Checks.{Accepts, is_member, first_failing, vote_signed, body_tests, votes_tests, certificate_tests}
use Rattle.header.specs.Digested.{digest_of_header}
use Rattle.header.specs.declared.digested.Digested.TheVariants as digested
use Rattle.header.specs.declared.error.CheckError.{CheckError}
use Rattle.header.proofs.Failing.{first_failing-append}
use Rattle.header.proofs.faults.test_certificate.Goals as goal

wrapped : List ℕ → Digest
wrapped bytes = record { 0 = bytes }

-- a digest of these bytes is what the voters sign
is_vote_signed : (found header : Digest) (body : HeaderBody) → header.0 ≡ header_digest_of body → found.0 ≡ certificate_digest_of header.0 body.round body.author.0
    → found ≡ vote_signed (header_digest_of body) body.round body.author
unfolding wrapped
is_vote_signed found header body named digested = ap wrapped (digested ∙ ap (λ bytes. certificate_digest_of bytes body.round body.author.0) named)

is_header_digest : (header : Digest) (body : HeaderBody) → header.0 ≡ header_digest_of body → header ≡ digest_of_header body
unfolding wrapped
is_header_digest header body named = ap wrapped named

-- after a body that passes the votes decide
after_body : (charter : Charter) (accepts : Accepts) (certificate : Certificate) (found : Digest) (fault : Option CheckError)
    → is_member charter certificate.header.author ≡ true → None ≡ first_failing (body_tests charter certificate.header)
    → found ≡ vote_signed (header_digest_of certificate.header) certificate.header.round certificate.header.author
    → fault ≡ first_failing (votes_tests charter accepts found certificate.votes)
    → fault ≡ first_failing (certificate_tests charter accepts certificate)
after_body charter accepts certificate found fault member passes digest tested =
    let body = certificate.header in
    let signed = vote_signed (header_digest_of body) body.round body.author in
    rw member (rw digest at tested ∙ sym (first_failing-append (body_tests charter body) (votes_tests charter accepts signed certificate.votes) (sym passes)))

pub returns-clause-refused : goal.returns-clause-refused
returns-clause-refused g c =
    let body = c.args.certificate.now.header in
    let member : is_member c.args.committee.now body.author ≡ true = search (rules, c.if-not-is_member.ensures) in
    let digest = is_vote_signed c.certificate_digest-certificate_digest.result c.header_digest-header.result body c.header_digest-header.ensures c.certificate_digest-certificate_digest.ensures in
    after_body c.args.committee.now (g.V.Verify.accepts c.args.verifier.now) c.args.certificate.now c.certificate_digest-certificate_digest.result None member c.in_ok-test_body.ensures digest
    c.in_ok-test_votes.ensures

pub returns-in_err-test_votes-clause-refused : goal.returns-in_err-test_votes-clause-refused
returns-in_err-test_votes-clause-refused g c =
    let body = c.args.certificate.now.header in
    let member : is_member c.args.committee.now body.author ≡ true = search (rules, c.if-not-is_member.ensures) in
    let digest = is_vote_signed c.certificate_digest-certificate_digest.result c.header_digest-header.result body c.header_digest-header.ensures c.certificate_digest-certificate_digest.ensures in
    let tested = after_body c.args.committee.now (g.V.Verify.accepts c.args.verifier.now) c.args.certificate.now
    c.certificate_digest-certificate_digest.result _ member c.in_ok-test_body.ensures digest
    c.in_err-test_votes.ensures in
    search (rules, c.from_residual-in_err-test_votes.ensures, tested)

pub returns-clause-digests : goal.returns-clause-digests
returns-clause-digests g c =
    let body = c.args.certificate.now.header in
    let header = is_header_digest c.header_digest-header.result body c.header_digest-header.ensures in
    let certificate = is_vote_signed c.certificate_digest-certificate_digest.result c.header_digest-header.result body c.header_digest-header.ensures c.certificate_digest-certificate_digest.ensures in
    ap (λ d. digested.Certificate d c.certificate_digest-certificate_digest.result) header ∙ ap (λ d. digested.Certificate (digest_of_header body) d) certificate
