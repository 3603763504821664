-- The votes that count on a header, as an assembly keeps them and as a state says them.
use Rattle.std.proofs.Common.{◌≡◌, ◌≢◌, ℕ, ◌<◌, Bool, true, false, List, length, Option, Some, None, inl, inr, refl, ap, sym, ◌∙◌, arith}
use Rattle.std.proofs.Math.Path.{fun_ext}
use Rattle.std.specs.Prelude.{not, ◌==◌, ◌&&◌, nat_le, nat_lt, is_some, replicate, filter_map, option_map, slice_index_or, if◌then◌else◌}
use Rattle.std.specs.Str.{bytes_eq}
use Rattle.std.proofs.lemmas.Bool.{cases_Bool, cases_lt, and_parts, eqb-true, eq-eqb}
use Rattle.std.proofs.lemmas.Grind.{get_or-set_at}
use Rattle.std.proofs.lemmas.List.{length-replicate, get_or_past, get_or-replicate, get_or-set_other}
use Rattle.std.proofs.lemmas.Slice.Eq.{bytes_eq-Decides}
use Rattle.wire.specs.Digests.{header_digest_of}
use Rattle.wire.specs.declared.keys.Signature.{Signature}
use Rattle.wire.specs.declared.votes.VoteEntry.{VoteEntry}
use Rattle.committee.specs.Charter.{Charter, numbers, weight}
use Rattle.committee.proofs.Weights.{weight-same}
use Rattle.certify.specs.Answer.{certificate_of}
use Rattle.certify.specs.Assembled.{AssemblyView, is_on, has_voted, with_vote, started, votes_in, votes_weight, entry_of}
use Rattle.spec_model.specs.Holdings.{certificate_by, votes_by}
use Rattle.spec_model.specs.Holdings as holdings
use Rattle.spec_model.specs.Nodes.{Node, size_of, quorum}
use Rattle.spec_model.specs.Words.{Certificate, Header, HeaderBody, Vote}
use Rattle.admission.specs.Headers.{vote_in}

-- an assembly with one vote more
abbrev pub with : AssemblyView → Vote → AssemblyView
with assembled vote = record assembled { places = with_vote assembled.places vote }

-- the vote of a member with a signature
abbrev vote_by : HeaderBody → ℕ → Signature → Vote
vote_by body voter signature = record {
  header = record { 0 = header_digest_of body };
  round = body.round;
  author = body.author;
  voter = record { 0 = voter };
  signature = signature;
}

-- a vote on a header is the one with its signature by its voter
on_is : (body : HeaderBody) (vote : Vote) → is_on body vote ≡ true → vote_by body vote.voter.0 vote.signature ≡ vote
on_is body vote on =
    let parts = and_parts (bytes_eq vote.header.0 (header_digest_of body)) ((vote.round == body.round) && (vote.author.0 == body.author.0)) on in
    let slot = and_parts (vote.round == body.round) (vote.author.0 == body.author.0) parts.1 in
    let digest : vote.header.0 ≡ header_digest_of body = (bytes_eq-Decides vote.header.0 (header_digest_of body)).0 parts.0 in
    let make : List ℕ → ℕ → ℕ → Vote = λ d r a. record { header = record { 0 = d }; round = r; author = record { 0 = a }; voter = vote.voter; signature = vote.signature } in
    ap (λ d. make d body.round body.author.0) (sym digest) ∙ ap (λ r. make vote.header.0 r body.author.0) (sym (eqb-true _ _ slot.0)) ∙ ap (make vote.header.0 vote.round) (sym (eqb-true _ _ slot.1))

-- after a vote its voter has it, and each other member what it had
pub vote_with : (assembled : AssemblyView) (vote : Vote) (voter : ℕ) → vote.voter.0 < length assembled.places → is_on assembled.header.body vote ≡ true
    → vote_in (with assembled vote) voter ≡ (if voter == vote.voter.0 then Some vote else vote_in assembled voter)
vote_with assembled vote voter within on =
    let body = assembled.header.body in
    let made : Option Signature → Option Vote = option_map (vote_by body voter) in
    elim (cases_Bool (voter == vote.voter.0)) [
      | inl same ↦
          let is : voter ≡ vote.voter.0 = eqb-true voter vote.voter.0 same in
          ap made (get_or-set_at assembled.places vote.voter.0 voter (Some vote.signature) None is within)
          ∙ ap (λ v. Some (vote_by body v vote.signature)) is ∙ ap Some (on_is body vote on)
          ∙ sym (ap (λ b. if b then Some vote else vote_in assembled voter) same)
      | inr apart ↦
          let differs : voter ≢ vote.voter.0 = λ e. (let same = eq-eqb voter vote.voter.0 e in absurd cc) in
          ap made (get_or-set_other assembled.places vote.voter.0 voter (Some vote.signature) None differs)
          ∙ sym (ap (λ b. if b then Some vote else vote_in assembled voter) apart)
    ]

none_there : (n member : ℕ) (unvoted : Option Signature) → unvoted ≡ None → slice_index_or (replicate n unvoted) member None ≡ None
none_there n member unvoted is =
    elim (cases_lt member n) [
      | inl within ↦ get_or-replicate n member unvoted None within ∙ is
      | inr past ↦ get_or_past (replicate n unvoted) member None (omega (arith, length-replicate n unvoted, past))
    ]

-- with no vote but the own one its voter has it alone
pub vote_started : (charter : Charter) (header : Header) (own : Vote) (voter : ℕ) → own.voter.0 < length charter.keys → is_on header.body own ≡ true
    → vote_in (started charter header own) voter ≡ (if voter == own.voter.0 then Some own else None)
vote_started charter header own voter member on =
    let n = length charter.keys in
    let unvoted : Option Signature = None in
    let bare : AssemblyView = record { charter = charter; header = header; places = replicate n unvoted; complete = false } in
    let long : length (replicate n unvoted) ≡ n = length-replicate n unvoted in
    vote_with bare own voter (omega (arith, long, member)) on
    ∙ ap (λ (o : Option Signature). if voter == own.voter.0 then Some own else option_map (vote_by header.body voter) o) (none_there n voter unvoted refl)

-- ---- who has voted, and what that weighs

is_mapped : {X Y : Type 0} (f : X → Y) (o : Option X) → is_some (option_map f o) ≡ is_some o
is_mapped f (Some x) = refl
is_mapped f None = refl

-- a member has voted where its vote is there
pub voted_is : (assembled : AssemblyView) (voter : ℕ) → is_some (vote_in assembled voter) ≡ has_voted assembled.places voter
voted_is assembled voter = is_mapped (vote_by assembled.header.body voter) (slice_index_or assembled.places voter None)

entry_mapped : (body : HeaderBody) (voter : ℕ) (o : Option Signature)
    → option_map holdings.entry_of (option_map (vote_by body voter) o) ≡ option_map (λ signature. record { voter = record { 0 = voter }; signature = signature }) o
entry_mapped body voter (Some signature) = refl
entry_mapped body voter None = refl

-- the votes of an assembly as a certificate has them
pub votes_are : (node : Node) (assembled : AssemblyView) → length assembled.places ≡ size_of node → votes_by node (vote_in assembled) ≡ votes_in assembled.places
votes_are node assembled long =
    ap (λ (f : ℕ → Option VoteEntry). filter_map f (numbers (size_of node))) (fun_ext (λ voter. entry_mapped assembled.header.body voter (slice_index_or assembled.places voter None)))
    ∙ ap (λ n. filter_map (entry_of assembled.places) (numbers n)) (sym long)

not_low : (weighs quorum : ℕ) → nat_le quorum weighs ≡ not (nat_lt weighs quorum)
not_low weighs quorum = grind arith

-- what an own header's votes make, if they are a quorum
pub certified : (node : Node) (assembled : AssemblyView) → (assembled.header.body.author.0 == node.own.0) ≡ true → length assembled.places ≡ size_of node
    → certificate_by node (vote_in assembled) assembled.header
    ≡ (if nat_lt (votes_weight node.charter assembled.places) (quorum node) then None else Some (certificate_of assembled.header.body assembled.places))
certified node assembled own long =
    let charter = node.charter in
    let header = assembled.header in
    let weighs = weight charter (λ voter. is_some (vote_in assembled voter)) in
    let made : Certificate = record { header = header.body; votes = votes_by node (vote_in assembled) } in
    let same : weighs ≡ votes_weight charter assembled.places = weight-same charter (λ voter. is_some (vote_in assembled voter))
    (has_voted assembled.places) (λ voter within. voted_is assembled voter) in
    ap (λ b. if b && nat_le (quorum node) weighs then Some made else None) own
    ∙ ap (λ w. if nat_le (quorum node) w then Some made else None) same
    ∙ ap (λ b. if b then Some made else None) (not_low (votes_weight charter assembled.places) (quorum node))
    ∙ turned (nat_lt (votes_weight charter assembled.places) (quorum node)) made
    ∙ ap (λ votes. if nat_lt (votes_weight charter assembled.places) (quorum node) then None else Some (record { header = header.body; votes = votes })) (votes_are node assembled long)
  where
    turned : {X : Type 0} (b : Bool) (x : X) → (if not b then Some x else None) ≡ (if b then None else Some x)
    turned true x = refl
    turned false x = refl
