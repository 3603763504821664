-- What an honest member signed in what it gave out is of a header that it settled, or its vote for one.
use Rattle.std.proofs.Common.{◌≡◌, ℕ, Bool, true, false, List, [], ◌∷◌, map, Option, Some, None, inl, inr, refl, ap, sym, ◌∙◌, subst}
use Rattle.std.specs.Prelude.{◌||◌, Contains, option_map}
use Rattle.std.specs.List.{list_any}
use Rattle.std.specs.Option.{option_map_or}
use Rattle.std.proofs.lemmas.Bool.{true≢false}
use Rattle.std.proofs.lemmas.List.Elements.{Contains-append_left}
use Rattle.std.proofs.lemmas.List.Folds.{list_any-append}
use Rattle.std.proofs.lemmas.Option.{same_Some, none-some}
use Rattle.std.proofs.lemmas.Slice.Eq.{bytes_eq-Decides}
use Rattle.header.specs.Checks.{vote_signed}
use Rattle.spec_accord.specs.Members.{bodies_in, HasVote, WasSigned, WasVoted}
use Rattle.spec_laws.proofs.Lists.{Contains-nothing, Contains-cases, Contains-first, Contains-later}
use Rattle.spec_laws.proofs.Votes.{one_header}
use Rattle.spec_model.specs.Histories.{headers, received}
use Rattle.wire.specs.Lists.{Begins}
use Rattle.spec_model.specs.Holdings.{voted_header}
use Rattle.spec_model.specs.Slots.{same_digest, header_digest}
use Rattle.spec_model.specs.Words.{Digest, Header, HeaderBody}
use Rattle.wire.specs.declared.output.Output.TheVariants as output
use Rattle.spec_world.specs.World.{Outgoing, put_out, read, Given, World}
use Rattle.spec_world.specs.Lasting.{settled_in}
use Rattle.spec_world.specs.Promise.{Ballot, ballot_for, vote_given}
use Rattle.spec_world.proofs.Ballots.{IsVotedFor, voted_for}
use Rattle.spec_world.proofs.Law.{vote_there}
use Rattle.spec_world.proofs.Standing.{Stands, settled_legal}
use Rattle.spec_cluster.specs.Cluster.{Cluster, Worlds}
use Rattle.spec_cluster.specs.Premises.{party_of, signed_by_giver, has_signed}

-- ---- it stays signed

abbrev signs : Digest → Given → Bool
signs digest given = option_map_or (same_digest digest) (signed_by_giver given.outgoing) false

pub still_signed : (before after : World) (digest : Digest) → Begins before.given after.given → has_signed before digest ≡ true → has_signed after digest ≡ true
still_signed before after digest begins is =
    ap (list_any (signs digest)) begins.parts ∙ list_any-append (signs digest) before.given begins.rest ∙ ap (λ (b : Bool). b || list_any (signs digest) begins.rest) is

-- ---- in what it was signed

signs_by : (digest : Digest) (first : Given) (rest : List Given) (here : Bool) → signs digest first ≡ here
    → (list_any (signs digest) rest ≡ true → (one : Given) × Contains rest one × (signs digest one ≡ true))
    → list_any (signs digest) (first ∷ rest) ≡ true → (one : Given) × Contains (first ∷ rest) one × (signs digest one ≡ true)
signs_by digest first rest true here later all = (first, Contains-first rest first, here)
signs_by digest first rest false here later all =
    let found = later (rw here at all) in
    (found.0, Contains-later first rest found.0 found.1, found.2)

given_signs : (digest : Digest) (given : List Given) → list_any (signs digest) given ≡ true → (one : Given) × Contains given one × (signs digest one ≡ true)
given_signs digest [] is = absurd (true≢false (sym is))
given_signs digest (first ∷ rest) is = signs_by digest first rest (signs digest first) refl (given_signs digest rest) is

digest_is : (digest : Digest) (signed : Option Digest) → option_map_or (same_digest digest) signed false ≡ true → signed ≡ Some digest
digest_is digest None is = absurd (true≢false (sym is))
digest_is digest (Some other) is = ap (λ (l : List ℕ). Some (record { 0 = l })) (sym ((bytes_eq-Decides digest.0 other.0).0 is))

-- ---- of what it is

-- the digest that a vote signs
abbrev vote_digest : Ballot → Digest
vote_digest ballot = vote_signed ballot.header.0 ballot.round ballot.author

-- what is made of an element is in what is made of the list
made : (all : List Header) (header : Header) → Contains all header → Contains (map (λ h. h.body) all) header.body
made [] header inside = absurd (Contains-nothing header inside)
made (first ∷ rest) header inside =
    elim (Contains-cases first rest header inside) [
      | inl same ↦ subst (λ (h : Header). Contains (map (λ h. h.body) (first ∷ rest)) h.body) same (Contains-first (map (λ h. h.body) rest) first.body)
      | inr later ↦ Contains-later first.body (map (λ h. h.body) rest) header.body (made rest header later)
    ]

module _ (cluster : Cluster) (worlds : Worlds) (member : ℕ) (at : Stands (cluster.node member) (worlds member)) where
  world : World
  world = worlds member

  reported : (ballot : Ballot) (voted : IsVotedFor (settled_in (worlds member)) ballot) → Contains (bodies_in (settled_in (worlds member))) voted.header.body
  reported ballot voted =
      Contains-append_left (map (λ header. header.body) (headers (settled_in (worlds member)))) (map (λ certificate. certificate.header) (received (settled_in (worlds member)))) voted.header.body
      (made (headers (settled_in (worlds member))) voted.header voted.there)

  voted_there : (given : Given) (ballot : Ballot) → Contains (worlds member).given given → vote_given given.outgoing ≡ Some ballot → IsVotedFor (settled_in (worlds member)) ballot
  voted_there given ballot there is =
      let has = vote_there (cluster.node member) (worlds member) at given ballot there is in
      voted_for (cluster.node member) (settled_in (worlds member)) has.output ballot has.may has.is

  -- a header's digest
  as_header : (given : Given) (body : HeaderBody) → Contains (worlds member).given given → vote_given given.outgoing ≡ Some (ballot_for body)
      → WasSigned (party_of cluster worlds) member (header_digest body)
  as_header given body there is =
      let voted = voted_there given (ballot_for body) there is in
      record { body = voted.header.body; reported = reported (ballot_for body) voted; is = inl (ap (λ (b : Ballot). b.header) (sym voted.is)) }

  -- or that of the certificate of one with the vote
  as_vote : (given : Given) (ballot : Ballot) → Contains (worlds member).given given → vote_given given.outgoing ≡ Some ballot
      → WasSigned (party_of cluster worlds) member (vote_digest ballot)
  as_vote given ballot there is =
      let voted = voted_there given ballot there is in
      let header = voted.header in
      let held : voted_header (settled_in (worlds member)) header.body.round header.body.author.0 ≡ Some header =
      one_header (cluster.node member) (settled_in (worlds member)) (settled_legal (cluster.node member) (worlds member) at) header voted.there in
      record {
        body = header.body;
        reported = reported ballot voted;
        is = inr (ap vote_digest (sym voted.is), ap (option_map (λ (h : Header). header_digest h.body)) held);
      }

  of_outgoing : (given : Given) (digest : Digest) (outgoing : Outgoing) → given.outgoing ≡ outgoing → Contains (worlds member).given given → signed_by_giver outgoing ≡ Some digest
      → WasSigned (party_of cluster worlds) member digest
  of_outgoing given digest (put_out (output.Header header)) same there is =
      subst (WasSigned (party_of cluster worlds) member) (same_Some _ digest is) (as_header given header.body there (ap vote_given same))
  of_outgoing given digest (put_out (output.Vote vote)) same there is =
      subst (WasSigned (party_of cluster worlds) member) (same_Some _ digest is)
      (as_vote given (record { author = vote.author; round = vote.round; header = vote.header }) there (ap vote_given same))
  of_outgoing given digest (put_out (output.Certificate certificate)) same there is =
      subst (WasSigned (party_of cluster worlds) member) (same_Some _ digest is) (as_vote given (ballot_for certificate.header) there (ap vote_given same))
  of_outgoing given digest (put_out (output.Batch batch)) same there is = absurd (none-some digest is)
  of_outgoing given digest (put_out (output.Ack to ack)) same there is = absurd (none-some digest is)
  of_outgoing given digest (put_out (output.Order start digests)) same there is = absurd (none-some digest is)
  of_outgoing given digest (read digests) same there is = absurd (none-some digest is)

  -- and it has the vote for that
  has_vote : (ballot : Ballot) (voted : IsVotedFor (settled_in (worlds member)) ballot) → HasVote (party_of cluster worlds) member voted.header.body
  has_vote ballot voted =
      ap (option_map (λ (h : Header). header_digest h.body))
      (one_header (cluster.node member) (settled_in (worlds member)) (settled_legal (cluster.node member) (worlds member) at) voted.header voted.there)

  voted_of : (given : Given) (digest : Digest) (outgoing : Outgoing) → given.outgoing ≡ outgoing → Contains (worlds member).given given → signed_by_giver outgoing ≡ Some digest
      → WasVoted (party_of cluster worlds) member digest
  voted_of given digest (put_out (output.Header header)) same there is =
      let ballot = ballot_for header.body in
      let voted = voted_there given ballot there (ap vote_given same) in
      record { body = voted.header.body; reported = reported ballot voted; voted = has_vote ballot voted; is = inl (sym (same_Some _ digest is) ∙ ap (λ (b : Ballot). b.header) (sym voted.is)) }
  voted_of given digest (put_out (output.Vote vote)) same there is =
      let ballot : Ballot = record { author = vote.author; round = vote.round; header = vote.header } in
      let voted = voted_there given ballot there (ap vote_given same) in
      record { body = voted.header.body; reported = reported ballot voted; voted = has_vote ballot voted; is = inr (sym (same_Some _ digest is) ∙ ap vote_digest (sym voted.is)) }
  voted_of given digest (put_out (output.Certificate certificate)) same there is =
      let ballot = ballot_for certificate.header in
      let voted = voted_there given ballot there (ap vote_given same) in
      record { body = voted.header.body; reported = reported ballot voted; voted = has_vote ballot voted; is = inr (sym (same_Some _ digest is) ∙ ap vote_digest (sym voted.is)) }
  voted_of given digest (put_out (output.Batch batch)) same there is = absurd (none-some digest is)
  voted_of given digest (put_out (output.Ack to ack)) same there is = absurd (none-some digest is)
  voted_of given digest (put_out (output.Order start digests)) same there is = absurd (none-some digest is)
  voted_of given digest (read digests) same there is = absurd (none-some digest is)

  pub given_is_voted : (digest : Digest) → has_signed (worlds member) digest ≡ true → WasVoted (party_of cluster worlds) member digest
  given_is_voted digest is =
      let found = given_signs digest (worlds member).given is in
      voted_of found.0 digest found.0.outgoing refl found.1 (digest_is digest (signed_by_giver found.0.outgoing) found.2)

  pub given_is_of : (digest : Digest) → has_signed (worlds member) digest ≡ true → WasSigned (party_of cluster worlds) member digest
  given_is_of digest is =
      let found = given_signs digest (worlds member).given is in
      of_outgoing found.0 digest found.0.outgoing refl found.1 (digest_is digest (signed_by_giver found.0.outgoing) found.2)
