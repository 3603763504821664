-- What a new vote on an own header comes to.
use Rattle.std.proofs.Common.{◌≡◌, ℕ, Bool, true, false, List, [], ◌∷◌, ◌++◌, length, drop, Option, Some, None, ◌⊎◌, inl, inr, refl, ap, sym, ◌∙◌}
use Rattle.std.specs.Prelude.{not, ◌==◌, nat_lt, nat_le, map, if◌then◌else◌}
use Rattle.std.specs.Option.{option_map_or, option_to_list}
use Rattle.std.specs.Str.{bytes_eq}
use Rattle.std.proofs.lemmas.Bool.{and_parts, eqb-true}
use Rattle.std.proofs.Math.Seq.{drop-length}
use Rattle.std.proofs.lemmas.Slice.Eq.{bytes_eq-Decides}
use Rattle.wire.specs.Digests.{header_digest_of, certificate_digest_of}
use Rattle.wire.specs.declared.output.Output.TheVariants as output
use Rattle.wire.specs.declared.message.Message.TheVariants as message
use Rattle.certify.specs.Answer.{answer, is_ours, is_again, is_too_few}
use Rattle.certify.specs.Assembled.{AssemblyView, is_on}
use Rattle.certify.specs.declared.added.Added.TheVariants.{Counted, Complete, Again, NotOurs}
use Rattle.spec_laws.proofs.Lists.{given_or_none}
use Rattle.spec_model.specs.Admitting.{is_new, is_own, vote_outputs, order_outputs, pieces}
use Rattle.spec_model.specs.Holdings.{is_low}
use Rattle.spec_model.specs.Nodes.{Node}
use Rattle.spec_model.specs.Slots.{certificate_digest}
use Rattle.spec_model.specs.States.{State, floor_in}
use Rattle.spec_model.specs.Words.{Certificate, Digest, Event, Vote}
use Rattle.spec_machine.specs.Laws.{LowIsToTheFloor}
use Rattle.spec_machine.specs.Machine.{answered, grown, certificate_of}
use Rattle.admission.specs.Headers.{AssembliesView, assembly_at, answer_in}
use Rattle.admission.specs.HeaderLaws.{VoteComesTo, added_by}
use Rattle.admission.proofs.Answering.{answered_as}
use Rattle.admission.specs.Standing.{Meets}
use Rattle.admission.specs.declared.tables.Tables.{Tables}
use Rattle.admission.proofs.Committing.{vote_is_high}

-- its round isn't low
pub vote_high : LowIsToTheFloor → (node : Node) (state : State) (event : Event) (tables : Tables) (vote : Vote) → Meets node state event tables (message.Vote vote)
    → is_new (answered node state event) ≡ true → nat_le vote.round (floor_in node state) ≡ false
vote_high low_is node state event tables vote meets new =
    sym (low_is (floor_in node state) vote.round)
    ∙ vote_is_high (is_own node vote.author) (is_low (floor_in node state) vote.round) _ (ap is_new (sym (answered_as node state event (message.Vote vote) meets.message)) ∙ new)

-- the certificate that it completes is of its header
same_body : (assembled : AssemblyView) (vote : Vote) (certificate : Certificate) (ours again few : Bool) (made : Certificate)
    → (if not ours then NotOurs else if again then Again else if few then Counted else Complete made) ≡ Complete certificate → (ours ≡ true) × (made ≡ certificate)
same_body assembled vote certificate false again few made is = absurd cc
same_body assembled vote certificate true true few made is = absurd cc
same_body assembled vote certificate true false true made is = absurd cc
same_body assembled vote certificate true false false made is = (refl, cc)

digest_by : (assembled : AssemblyView) (vote : Vote) (certificate : Certificate) → answer assembled vote ≡ Complete certificate
    → ◌≡◌ {A = Digest} (record { 0 = certificate_digest_of vote.header.0 vote.round vote.author.0 }) (certificate_digest certificate.header)
digest_by assembled vote certificate is =
    let parts = same_body assembled vote certificate (is_ours assembled vote) (is_again assembled vote) (is_too_few assembled vote) _ is in
    let body = assembled.header.body in
    let ours = and_parts (nat_lt vote.voter.0 (length assembled.charter.keys)) (is_on body vote) parts.0 in
    let on = and_parts (bytes_eq vote.header.0 (header_digest_of body)) _ ours.1 in
    let place = and_parts (vote.round == body.round) (vote.author.0 == body.author.0) on.1 in
    let text : vote.header.0 ≡ header_digest_of body = (bytes_eq-Decides vote.header.0 (header_digest_of body)).0 on.0 in
    ap (λ (t : List ℕ). record { 0 = certificate_digest_of t vote.round vote.author.0 }) text
    ∙ ap (λ (r : ℕ). record { 0 = certificate_digest_of (header_digest_of body) r vote.author.0 }) (eqb-true vote.round body.round place.0)
    ∙ ap (λ (a : ℕ). record { 0 = certificate_digest_of (header_digest_of body) body.round a }) (eqb-true vote.author.0 body.author.0 place.1)
    ∙ ap (λ (x : Certificate). certificate_digest x.header) parts.1

pub completed_digest : (headers : AssembliesView) (vote : Vote) (certificate : Certificate) → Complete certificate ≡ answer_in headers vote
    → ◌≡◌ {A = Digest} (record { 0 = certificate_digest_of vote.header.0 vote.round vote.author.0 }) (certificate_digest certificate.header)
completed_digest headers vote certificate is =
    elim (given_or_none (assembly_at headers vote.round)) [
      | inl found ↦ digest_by found.0 vote certificate (sym (is ∙ ap (λ o. option_map_or (λ a. answer a vote) o NotOurs) found.1))
      | inr none ↦ absurd (apart (is ∙ ap (λ o. option_map_or (λ a. answer a vote) o NotOurs) none))
    ]
  where
    apart : Complete certificate ≡ NotOurs → ⊥
    apart same = cc

-- what it gives out
pub outputs_with : (node : Node) (state : State) (event : Event) (vote : Vote) (before : AssembliesView) (certificate : Certificate) → event.message ≡ message.Vote vote
    → VoteComesTo node state event vote before → certificate_of node state event.message ≡ Some certificate
    → vote_outputs node state (grown node state (message.Vote vote)) vote.round ≡ (output.Certificate certificate ∷ []) ++ order_outputs state (grown node state event.message)
outputs_with node state event vote before certificate came comes is =
    ap (λ m. vote_outputs node state (grown node state m) vote.round) (sym came)
    ∙ ap (λ (o : Option Certificate). map output.Certificate (option_to_list o) ++ order_outputs state (grown node state event.message)) (comes.completed ∙ is)

-- where the order stays, nothing is put out of it
pub nothing_ordered : (state later : State) → later.order ≡ state.order → order_outputs state later ≡ []
nothing_ordered state later same =
    ap (λ (order : List Digest). pieces (length state.order) (drop (length state.order) order)) same
    ∙ ap (pieces (length state.order)) (drop-length state.order)

pub outputs_without : (node : Node) (state : State) (event : Event) (vote : Vote) (before : AssembliesView) → event.message ≡ message.Vote vote
    → VoteComesTo node state event vote before → certificate_of node state event.message ≡ None → (grown node state event.message).order ≡ state.order
    → vote_outputs node state (grown node state (message.Vote vote)) vote.round ≡ []
outputs_without node state event vote before came comes is same =
    ap (λ m. vote_outputs node state (grown node state m) vote.round) (sym came)
    ∙ ap (λ (o : Option Certificate). map output.Certificate (option_to_list o) ++ order_outputs state (grown node state event.message)) (comes.completed ∙ is)
    ∙ nothing_ordered state (grown node state event.message) same

-- a new vote is counted, or completes a certificate
pub counted_or_complete : (found : Option Certificate) → (added_by found ≡ Again) ⊎ (added_by found ≡ NotOurs) → ⊥
counted_or_complete None (inl is) = cc
counted_or_complete None (inr is) = cc
counted_or_complete (Some certificate) (inl is) = cc
counted_or_complete (Some certificate) (inr is) = cc
