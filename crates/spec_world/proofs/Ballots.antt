-- What goes out, and the votes in it.
use Rattle.std.proofs.Common.{◌≡◌, Bool, true, false, List, [], ◌∷◌, ◌++◌, map, Some, None, inl, inr, refl, ap, sym, ◌∙◌, subst}
use Rattle.std.specs.Prelude.{Contains, filter, flat_map}
use Rattle.std.specs.Option.{option_map_or}
use Rattle.std.proofs.lemmas.Bool.{cases_Bool, and_parts, eqb-true, true≢false}
use Rattle.std.proofs.lemmas.Option.{same_Some, none-some}
use Rattle.std.proofs.lemmas.Slice.Eq.{bytes_eq-Decides}
use Rattle.std.proofs.lemmas.List.Elements.{Contains-append_cases}
use Rattle.wire.specs.declared.output.Output.TheVariants as output
use Rattle.spec_laws.proofs.Lists.{given_or_none, Contains-nothing, Contains-cases, Contains-first, Contains-later, found_passes}
use Rattle.spec_laws.proofs.Votes.{slot_is, one_vote}
use Rattle.spec_model.specs.Admitting.{IsLegal, is_own, batch_outputs, header_outputs}
use Rattle.spec_model.specs.Giving.{MayGive, given, is_given}
use Rattle.spec_model.specs.Histories.{History, batches, headers}
use Rattle.spec_model.specs.Holdings.{voted_header, voted_digest, certificates}
use Rattle.spec_model.specs.Nodes.{Node}
use Rattle.spec_model.specs.Slots.{same_digest, header_digest, is_of_slot}
use Rattle.spec_model.specs.Words.{Certificate, BatchView, Header, Output}
use Rattle.spec_world.specs.Promise.{Ballot, ballot_for, vote_in}

-- ---- lists

-- what is made of a list, element by element
pub mapped_of : {X Y : Type 0} (f : X → Y) (xs : List X) (y : Y) → Contains (map f xs) y → (x : X) × Contains xs x × (f x ≡ y)
mapped_of f [] y inside = absurd (Contains-nothing y inside)
mapped_of f (x ∷ xs) y inside =
    elim (Contains-cases (f x) (map f xs) y inside) [
      | inl same ↦ (x, Contains-first xs x, same)
      | inr rest ↦ let found = mapped_of f xs y rest in (found.0, Contains-later x xs found.0 found.1, found.2)
    ]

-- what is picked of a list
pub picked_of : {X : Type 0} (test : X → Bool) (xs : List X) (x : X) → Contains (filter test xs) x → Contains xs x × (test x ≡ true)
picked_of test [] x inside = absurd (Contains-nothing x inside)
picked_of test (z ∷ xs) x inside =
    elim (cases_Bool (test z)) [
      | inl here ↦
          let inside' = rw here at inside in
          elim (Contains-cases z (filter test xs) x inside') [
            | inl same ↦ (subst (λ w. Contains (z ∷ xs) w) same (Contains-first xs z), ap test (sym same) ∙ here)
            | inr rest ↦ let found = picked_of test xs x rest in (Contains-later z xs x found.0, found.1)
          ]
      | inr other ↦
          let inside' = rw other at inside in
          let found = picked_of test xs x inside' in (Contains-later z xs x found.0, found.1)
    ]

pub picks : {X : Type 0} (test : X → Bool) (xs : List X) (x : X) → Contains xs x → test x ≡ true → Contains (filter test xs) x
picks test [] x inside passes = absurd (Contains-nothing x inside)
picks test (z ∷ xs) x inside passes =
    elim (cases_Bool (test z)) [
      | inl here ↦ elim (Contains-cases z xs x inside) [
        | inl same ↦ rw here (subst (λ w. Contains (z ∷ filter test xs) w) same (Contains-first (filter test xs) z))
        | inr rest ↦ rw here (Contains-later z (filter test xs) x (picks test xs x rest passes))
      ]
      | inr other ↦ elim (Contains-cases z xs x inside) [
        | inl same ↦ absurd (true≢false (sym passes ∙ ap test (sym same) ∙ other))
        | inr rest ↦ rw other (picks test xs x rest passes)
      ]
    ]

-- what lists have that are joined
pub joined_of : {X Y : Type 0} (f : X → List Y) (xs : List X) (y : Y) → Contains (flat_map f xs) y → (x : X) × Contains xs x × Contains (f x) y
joined_of f [] y inside = absurd (Contains-nothing y inside)
joined_of f (x ∷ xs) y inside =
    elim (Contains-append_cases (f x) (flat_map f xs) y inside) [
      | inl here ↦ (x, Contains-first xs x, here)
      | inr rest ↦ let found = joined_of f xs y rest in (found.0, Contains-later x xs found.0 found.1, found.2)
    ]

-- the one element of a list
only_one : {X : Type 0} (x y : X) → Contains (x ∷ []) y → x ≡ y
only_one x y inside = elim (Contains-cases x [] y inside) [ inl same ↦ same | inr none ↦ absurd (Contains-nothing y none) ]

-- ---- votes

-- a header of the history that has this vote
pub record IsVotedFor (history : History) (ballot : Ballot) : Type 0 where
  pub header : Header
  pub there : Contains (headers history) header
  pub is : ballot_for header.body ≡ ballot

-- what is made of an element is in what is made of the list
maps : {X Y : Type 0} (f : X → Y) (xs : List X) (x : X) → Contains xs x → Contains (map f xs) (f x)
maps f [] x inside = absurd (Contains-nothing x inside)
maps f (z ∷ xs) x inside =
    elim (Contains-cases z xs x inside) [
      | inl same ↦ subst (λ w. Contains (f z ∷ map f xs) (f w)) same (Contains-first (map f xs) (f z))
      | inr rest ↦ Contains-later (f z) (map f xs) (f x) (maps f xs x rest)
    ]

batch_votes : (node : Node) (batch : BatchView) → map vote_in (batch_outputs node batch) ≡ None ∷ []
batch_votes node batch = elim (cases_Bool (is_own node batch.author)) [ inl own ↦ rw own refl | inr foreign ↦ rw foreign refl ]

batch_voteless : (node : Node) (batch : BatchView) (o : Output) → Contains (batch_outputs node batch) o → vote_in o ≡ None
batch_voteless node batch o inside =
    sym (only_one None (vote_in o) (subst (λ l. Contains l (vote_in o)) (batch_votes node batch) (maps vote_in (batch_outputs node batch) o inside)))

header_votes : (node : Node) (header : Header) → map vote_in (header_outputs node header) ≡ Some (ballot_for header.body) ∷ []
header_votes node header = elim (cases_Bool (is_own node header.body.author)) [ inl own ↦ rw own refl | inr foreign ↦ rw foreign refl ]

header_vote : (node : Node) (header : Header) (o : Output) → Contains (header_outputs node header) o → vote_in o ≡ Some (ballot_for header.body)
header_vote node header o inside =
    sym (only_one (Some (ballot_for header.body)) (vote_in o)
    (subst (λ l. Contains l (vote_in o)) (header_votes node header) (maps vote_in (header_outputs node header) o inside)))

-- an own certificate that may be given out is of the header that has the node's vote
certificate_vote : (node : Node) (history : History) (certificate : Certificate) → is_given node history certificate ≡ true → IsVotedFor history (ballot_for certificate.header)
certificate_vote node history certificate given =
    let round = certificate.header.round in
    let parts = and_parts (is_own node certificate.header.author) (option_map_or (same_digest (header_digest certificate.header)) (voted_digest history round node.own.0) false) given in
    elim (given_or_none (voted_header history round node.own.0)) [
      | inr none ↦ let fails = rw none at parts.1 in absurd cc
      | inl found ↦
          let header = found.0 in
          let same : same_digest (header_digest certificate.header) (header_digest header.body) ≡ true = rw found.1 at parts.1 in
          let digest : (header_digest certificate.header).0 ≡ (header_digest header.body).0 = (bytes_eq-Decides (header_digest certificate.header).0 (header_digest header.body).0).0 same in
          let passes = found_passes (λ (h : Header). is_of_slot round node.own.0 h.body) (headers history) header found.1 in
          let place = slot_is round node.own.0 header.body passes.0 in
          let author : header.body.author.0 ≡ certificate.header.author.0 = place.1 ∙ sym (eqb-true certificate.header.author.0 node.own.0 parts.0) in
          record {
            header = header;
            there = passes.1;
            is = (λ i. record { author = record { 0 = author i }; round = place.0 i; header = record { 0 = sym digest i } });
          }
    ]

-- each vote that is given is for a header of the history
voted_in : (node : Node) (history : History) (o : Output) (ballot : Ballot) → Contains (given node history) o → vote_in o ≡ Some ballot → IsVotedFor history ballot
voted_in node history o ballot inside is =
    let for_batches = flat_map (batch_outputs node) (batches history) in
    let for_headers = flat_map (header_outputs node) (headers history) in
    let own = map (λ c. output.Certificate c) (filter (is_given node history) (certificates node history)) in
    elim (Contains-append_cases (for_batches ++ for_headers) own o inside) [
      | inl front ↦ elim (Contains-append_cases for_batches for_headers o front) [
        | inl batch ↦
            let found = joined_of (batch_outputs node) (batches history) o batch in
            absurd (none-some ballot (sym (batch_voteless node found.0 o found.2) ∙ is))
        | inr header ↦
            let found = joined_of (header_outputs node) (headers history) o header in
            record { header = found.0; there = found.1; is = same_Some _ _ (sym (header_vote node found.0 o found.2) ∙ is) }
      ]
      | inr made ↦
          let found = mapped_of (λ c. output.Certificate c) (filter (is_given node history) (certificates node history)) o made in
          let picked = picked_of (is_given node history) (certificates node history) found.0 found.1 in
          let ballots : ballot_for found.0.header ≡ ballot = same_Some _ _ (ap vote_in found.2 ∙ is) in
          subst (IsVotedFor history) ballots (certificate_vote node history found.0 picked.1)
    ]

pub voted_for : (node : Node) (history : History) (o : Output) (ballot : Ballot) → MayGive node history o → vote_in o ≡ Some ballot → IsVotedFor history ballot
voted_for node history (output.Order start digests) ballot may is = absurd (none-some ballot is)
voted_for node history (output.Batch batch) ballot may is = voted_in node history (output.Batch batch) ballot may is
voted_for node history (output.Ack to ack) ballot may is = voted_in node history (output.Ack to ack) ballot may is
voted_for node history (output.Header header) ballot may is = voted_in node history (output.Header header) ballot may is
voted_for node history (output.Vote vote) ballot may is = voted_in node history (output.Vote vote) ballot may is
voted_for node history (output.Certificate certificate) ballot may is = voted_in node history (output.Certificate certificate) ballot may is

-- so two votes for one author and round are one
pub votes_agree : (node : Node) (history : History) (one other : Output) (vote also : Ballot) → IsLegal node history → MayGive node history one → MayGive node history other
    → vote_in one ≡ Some vote → vote_in other ≡ Some also → vote.author ≡ also.author → vote.round ≡ also.round → vote.header ≡ also.header
votes_agree node history one other vote also legal may may' is is' author round =
    let for_one = voted_for node history one vote may is in
    let for_other = voted_for node history other also may' is' in
    let same : for_one.header ≡ for_other.header = one_vote node history for_one.header for_other.header legal for_one.there for_other.there
    (ap (λ (b : Ballot). b.author) for_one.is ∙ author ∙ ap (λ (b : Ballot). b.author) (sym for_other.is))
    (ap (λ (b : Ballot). b.round) for_one.is ∙ round ∙ ap (λ (b : Ballot). b.round) (sym for_other.is)) in
    ap (λ (b : Ballot). b.header) (sym for_one.is) ∙ ap (λ (h : Header). header_digest h.body) same ∙ ap (λ (b : Ballot). b.header) for_other.is
