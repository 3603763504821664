-- How long the spelling of a message is.
use Rattle.std.proofs.Common.{◌≡◌, ℕ, ◌+◌, ◌*◌, List, [], ◌∷◌, length, arith, length-append}
use Rattle.std.specs.Prelude.{All}
use Rattle.std.specs.List.{flat_map}
use Rattle.std.specs.Int.{w16, to_be_bytes}
use Rattle.std.proofs.lemmas.List.Elements.{All-head, All-tail}
use Rattle.wire.specs.declared.header.HeaderBody.{HeaderBody}
use Rattle.wire.specs.declared.header.Header.{Header}
use Rattle.wire.specs.declared.header.Certificate.{Certificate}
use Rattle.wire.specs.References.{IsBatchReference, IsParentReference, IsVoteEntry}
use Rattle.wire.specs.Grammar.{IsHeaderBody, IsHeader, IsCertificate}
use Rattle.wire.specs.Encoding.{batch_reference_bytes, parent_reference_bytes, vote_entry_bytes, batches_bytes, parents_bytes, votes_bytes, header_body, header_body_len, header_bytes}
use Rattle.wire.specs.Encoding.{certificate_bytes}

-- entries that are all as long
pub same_length : {X : Type 0} (text : X → List ℕ) (Is : X → Type 0) (len : ℕ) → ((x : X) → Is x → length (text x) ≡ len) → (xs : List X) → All Is xs → length (flat_map text xs) ≡ len * length xs
same_length text Is len each [] all = omega arith
same_length text Is len each (x ∷ xs) all =
    omega (arith, length-append (text x) (flat_map text xs), each x (All-head Is x xs all), same_length text Is len each xs (All-tail Is x xs all))

pub header_length : (h : HeaderBody) → IsHeaderBody h → length (header_body h) ≡ header_body_len h
header_length h is =
    let batches : length (flat_map batch_reference_bytes h.batches) ≡ 34 * length h.batches =
    same_length batch_reference_bytes IsBatchReference 34 (λ b fits. omega (arith, length-append b.digest.0 (to_be_bytes w16 b.worker), fits.digest.count_is)) h.batches is.batches.each in
    let parents : length (flat_map parent_reference_bytes h.parents) ≡ 34 * length h.parents =
    same_length parent_reference_bytes IsParentReference 34 (λ p fits. omega (arith, length-append (to_be_bytes w16 p.author.0) p.certificate.0, fits.certificate.count_is)) h.parents
    is.parents.each in
    omega (arith, length-append (batches_bytes h.batches) (parents_bytes h.parents), batches, parents)

pub header_encoded : (h : Header) → IsHeader h → length (3 ∷ header_bytes h) ≡ 1 + header_body_len h.body + 64
header_encoded h is = omega (arith, length-append (header_body h.body) h.signature.0, header_length h.body is.body, is.signature.count_is)

pub certificate_encoded : (c : Certificate) → IsCertificate c → length (5 ∷ certificate_bytes c) ≡ 1 + header_body_len c.header + (2 + 66 * length c.votes)
certificate_encoded c is =
    let votes : length (flat_map vote_entry_bytes c.votes) ≡ 66 * length c.votes =
    same_length vote_entry_bytes IsVoteEntry 66 (λ v fits. omega (arith, length-append (to_be_bytes w16 v.voter.0) v.signature.0, fits.signature.count_is)) c.votes is.votes.each in
    omega (arith, length-append (header_body c.header) (votes_bytes c.votes), header_length c.header is.header, votes)
