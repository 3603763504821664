-- What the tables decide about a message: the first test that applies decides.
use Rattle.std.specs.Prelude.{ℕ, ◌+◌, ◌-◌, ◌*◌, ◌==◌, not, nat_le, Bool, false, true, List, [], ◌∷◌, length, Option, Result, Ok, Err, slice_get, if◌then◌else◌}
use Rattle.std.specs.List.{list_all}
use Rattle.std.specs.Option.{option_map_or}
use Rattle.wire.specs.declared.output.Output.TheVariants as output
use Rattle.spec_model.specs.Holdings.{is_low, all_held}
use Rattle.spec_model.specs.Slots.{same_digest, header_digest, certificate_digest}
use Rattle.spec_model.specs.Words.{Author, Certificate, Coin, Digest, Header, HeaderBody, Output, Signature, Vote}
use Rattle.header.specs.declared.admission.Admission.{Admission}
use Rattle.header.specs.declared.admission.Admission.TheVariants as admission
use Rattle.header.specs.declared.refusal.Refusal.{Refusal}
use Rattle.header.specs.declared.refusal.Refusal.TheVariants.{Memory, TooOld, MissingParents, MissingBatch, Equivocation, CertConflict, DigestClash}
use Rattle.header.specs.declared.refusal.Refusal.TheVariants.{AlreadyProposed, NotOurs, CoinOutOfTurn, CoinEarly, CoinConflict}
use Rattle.committee.specs.Charter.{quorum_of}
use Rattle.dag.specs.Answer.{answer}
use Rattle.dag.specs.Graph.{slots_in, stake_in}
use Rattle.dag.specs.declared.answers.Added.{Added}
use Rattle.dag.specs.declared.answers.Added.TheVariants as added
use Rattle.dag.specs.declared.refusal.DagRefusal.{DagRefusal}
use Rattle.dag.specs.declared.refusal.DagRefusal.TheVariants as dag
use Rattle.votebook.specs.Votes.{voted_in}
use Rattle.admission.specs.Headers.{digest_in, header_in, has_voted_in, is_complete_in}
use Rattle.admission.specs.Batches.{may_name_by}
use Rattle.admission.specs.declared.tables.Tables.{Tables}
use Rattle.admission.specs.declared.tables.answer.Answer.{Answer}
use Rattle.admission.specs.declared.tables.answer.Answer.TheVariants.{New, Known}

-- admission's answer for a decision of the tables: a new event has the first list of outputs, a known one the second
abbrev pub reported : List Output → List Output → Result Answer Refusal → Admission
reported new known (Ok New) = admission.New new
reported new known (Ok Known) = admission.Known known
reported new known (Err refusal) = admission.Refused refusal

-- the decision is that a parent is missing
abbrev pub lacks_parents : Result Answer Refusal → Bool
lacks_parents (Err MissingParents) = true
lacks_parents _ = false

-- the decision is that the message is new
abbrev pub is_new_decision : Result Answer Refusal → Bool
is_new_decision (Ok New) = true
is_new_decision (Ok Known) = false
is_new_decision (Err refusal) = false

-- this author is the validator itself
abbrev pub is_own_of : Tables → Author → Bool
is_own_of tables author = author.0 == tables.own.0

-- ---- headers

-- the digest of the header that the validator voted for in a slot; in a slot of its own this is the digest of its own header
abbrev pub voted_by : Tables → Author → ℕ → Option Digest
voted_by tables author round = if is_own_of tables author then digest_in tables.headers round else voted_in tables.votes author round

-- the decision where the validator has already voted in the header's slot, for this digest
abbrev pub voted_decision : Tables → Digest → Header → Result Answer Refusal
voted_decision tables voted header =
    if same_digest voted (header_digest header.body) then Ok Known
    else Err (if is_own_of tables header.body.author then AlreadyProposed else Equivocation)

-- the decision where the validator hasn't voted in the header's slot
abbrev pub free_decision : Tables → Header → Result Answer Refusal
free_decision tables header =
    if not (all_held (slots_in tables.sequencer.graph) tables.sequencer.graph.floor header.body) then Err MissingParents
    else if not (list_all (may_name_by tables.batches header.body.author) header.body.batches) then Err MissingBatch
    else Ok New

abbrev pub header_decision : Tables → Header → Result Answer Refusal
header_decision tables header =
    if is_low tables.sequencer.graph.floor header.body.round then Err TooOld
    else option_map_or (λ voted. voted_decision tables voted header) (voted_by tables header.body.author header.body.round) (free_decision tables header)

-- a member's vote for a header: its signature is of the certificate's digest
abbrev pub vote_by : Author → (Digest → Signature) → HeaderBody → Vote
vote_by own sign body = record {
  header = header_digest body;
  round = body.round;
  author = body.author;
  voter = own;
  signature = sign (certificate_digest body);
}

-- the outputs of a new header: an own header itself, or the vote for another member's
abbrev pub new_header_outputs : Tables → (Digest → Signature) → Header → List Output
new_header_outputs tables sign header =
    (if is_own_of tables header.body.author then output.Header header else output.Vote (vote_by tables.own sign header.body)) ∷ []

-- the outputs of a known header: the own header that is held, or the vote again
abbrev pub known_header_outputs : Tables → (Digest → Signature) → Header → List Output
known_header_outputs tables sign header =
    if is_own_of tables header.body.author then option_map_or (λ held. output.Header held ∷ []) (header_in tables.headers header.body.round) []
    else output.Vote (vote_by tables.own sign header.body) ∷ []

-- ---- votes

-- the decision about a vote, where this certificate stands in the own slot of the vote's round
abbrev pub certified_decision : Certificate → Vote → Result Answer Refusal
certified_decision held vote = if same_digest (header_digest held.header) vote.header then Ok Known else Err CertConflict

-- the decision about a vote on the own header of its round, where no certificate stands in the own slot of that round
abbrev pub open_decision : Tables → Vote → Result Answer Refusal
open_decision tables vote = if has_voted_in tables.headers vote.round vote.voter.0 then Ok Known else Ok New

-- a vote is on the own header of its round
abbrev pub is_on_own : Tables → Vote → Bool
is_on_own tables vote = option_map_or (λ digest. same_digest digest vote.header) (digest_in tables.headers vote.round) false

abbrev pub vote_decision : Tables → Vote → Result Answer Refusal
vote_decision tables vote =
    if not (is_own_of tables vote.author) then Err NotOurs
    else if is_low tables.sequencer.graph.floor vote.round then Err TooOld
    else if not (is_on_own tables vote) then Err NotOurs
    else if is_complete_in tables.headers vote.round then Ok Known
    else option_map_or (λ held. certified_decision held vote) (slots_in tables.sequencer.graph vote.round tables.own.0) (open_decision tables vote)

-- the outputs of a known vote: the own certificate of its round, if it is held
abbrev pub known_outputs : Option Certificate → List Output
known_outputs held = option_map_or (λ c. output.Certificate c ∷ []) held []

-- ---- certificates

-- the refusal of admission for a refusal of the DAG
abbrev pub as_refusal : DagRefusal → Refusal
as_refusal dag.Memory = Memory
as_refusal dag.TooOld = TooOld
as_refusal dag.CertConflict = CertConflict
as_refusal dag.DigestClash = DigestClash
as_refusal dag.MissingParents = MissingParents

-- the decision about a certificate, for the answer of the DAG
abbrev pub as_decision : Result Added DagRefusal → Result Answer Refusal
as_decision (Ok added.New) = Ok New
as_decision (Ok added.Known) = Ok Known
as_decision (Err refusal) = Err (as_refusal refusal)

abbrev pub certificate_decision : Tables → Certificate → Result Answer Refusal
certificate_decision tables certificate = as_decision (answer tables.sequencer.graph certificate)

-- ---- coins

-- the decision about a coin whose wave has this value already
abbrev pub taken_decision : ℕ → Coin → Result Answer Refusal
taken_decision taken coin = if taken == coin.value then Ok Known else Err CoinConflict

-- the authors who have certificates of a round weigh a quorum
abbrev pub is_full_in : Tables → ℕ → Bool
is_full_in tables round = nat_le (quorum_of tables.sequencer.graph.charter) (stake_in tables.sequencer.graph round)

-- the decision about a coin whose wave has no value yet
abbrev pub next_decision : Tables → Coin → Result Answer Refusal
next_decision tables coin =
    if not (coin.wave == length tables.sequencer.coins + 1) then Err CoinOutOfTurn
    else if not (is_full_in tables (2 * coin.wave + 1)) then Err CoinEarly
    else Ok New

abbrev pub coin_decision : Tables → Author → Coin → Result Answer Refusal
coin_decision tables sender coin =
    if not (is_own_of tables sender) then Err NotOurs
    else option_map_or (λ taken. taken_decision taken coin) (slice_get tables.sequencer.coins (coin.wave - 1)) (next_decision tables coin)
