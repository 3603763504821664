-- The tests on the records of a checkpoint, given the floor and the slots, and which record fails first.
use Rattle.std.specs.Prelude.{◌≡◌, ◌≢◌, ⊤, ℕ, ◌==◌, ◌&&◌, ◌||◌, not, nat_lt, nat_le, Bool, false, List, [], ◌∷◌, map, None, option_map, if◌then◌else◌}
use Rattle.std.specs.List.{list_any, list_all, position_from}
use Rattle.std.specs.Option.{option_map_or}
use Rattle.committee.specs.Charter.{weight, numbers}
use Rattle.committee.specs.Sets.{has}
use Rattle.batchstore.specs.declared.held.Held.{Held}
use Rattle.sequencer.specs.Restored.{Digested, listed}
use Rattle.spec_model.specs.Holdings.{genesis, is_low, all_held, own_vote}
use Rattle.spec_model.specs.Nodes.{Node, size_of, quorum}
use Rattle.spec_model.specs.Slots.{Slots, same_digest, certificate_digest, slots_of}
use Rattle.spec_model.specs.Words.{Certificate, ParentReference}
use Rattle.wire.specs.declared.message.Message.TheVariants as message
use Rattle.admission.specs.declared.kept.VotedHeader.{VotedHeader}
use Rattle.spec_checkpoint.specs.Data.{KeptBatch, KeptVote, KeptHeader}
use Rattle.spec_checkpoint.specs.Faults.{passes, has_kept, same_body}
use Rattle.spec_checkpoint.specs.Loading.{at_record}
use Rattle.checkpoint.specs.Reader.{fault_of}
use Rattle.checkpoint.specs.declared.error.LoadError.{LoadError}
use Rattle.checkpoint.specs.declared.error.LoadError.TheVariants.{Memory}

-- ---- the first record whose test fails

-- none of the tests of these records fails; the first of them is at this place
abbrev pub NoneFails : ℕ → List Bool → Type 0
NoneFails first tests = position_from not first tests ≡ None

-- an error other than Memory names the place of the first record whose test fails; the first of these records is at the place `first`
abbrev pub ReportsFirst : ℕ → List Bool → LoadError → Type 0
ReportsFirst first tests error = error ≢ Memory → option_map at_record (position_from not first tests) ≡ fault_of error

-- ---- the tests, given a floor and slots; with those of a checkpoint they are the tests of its records

-- the slots of these certificates above the genesis, with the genesis certificates where the floor is 0
abbrev pub slots_at : Node → ℕ → List Digested → Slots
slots_at node floor held = λ round author.
    if round == 0 then (if floor == 0 then slots_of (map genesis (numbers (size_of node))) 0 author else None)
    else listed held round author

abbrev pub is_vote_sound_at : Node → ℕ → KeptVote → Bool
is_vote_sound_at node floor vote = not (is_low floor vote.round) && (nat_lt vote.author (size_of node) && not (vote.author == node.own.0))

abbrev pub is_completed_well_at : Node → Slots → KeptHeader → Bool
is_completed_well_at node slots kept =
    nat_lt (weight node.charter (has_kept node kept)) (quorum node)
    || (option_map_or (λ certificate. same_body certificate.header kept.header.body) (slots kept.header.body.round node.own.0) false
    && list_any (λ entry. nat_lt (weight node.charter (λ voter. has_kept node kept voter && not (voter == entry.voter.0))) (quorum node)) kept.votes)

abbrev pub is_header_sound_at : Node → ℕ → Slots → KeptHeader → Bool
is_header_sound_at node floor slots kept =
    not (is_low floor kept.header.body.round)
    && (passes node node.own (message.Header kept.header)
    && (all_held slots floor kept.header.body
    && (list_all (λ entry. nat_lt entry.voter.0 (size_of node)) kept.votes
    && is_completed_well_at node slots kept)))

-- a certificate passes the checks, which don't depend on its sender
abbrev pub passes_itself : Node → Certificate → Bool
passes_itself node certificate = passes node node.own (message.Certificate certificate)

abbrev pub is_certificate_sound_at : Node → ℕ → Slots → Certificate → Bool
is_certificate_sound_at node floor slots certificate =
    nat_le floor certificate.header.round
    && (passes_itself node certificate
    && all_held slots floor certificate.header)

-- a parent reference names the genesis certificate of a member
abbrev pub is_of_genesis : Node → ParentReference → Bool
is_of_genesis node parent =
    option_map_or (λ c. same_digest (certificate_digest c.header) parent.certificate) (slots_of (map genesis (numbers (size_of node))) 0 parent.author.0) false

-- ---- what the reader keeps of what it read

-- the store's entry for a batch has what was read: the batch, whether an own header named it, and who acknowledged it
pub record IsHeldAs (kept : KeptBatch) (held : Held) : Type 0 where
  pub batch : held.batch ≡ kept.batch
  pub named : held.named ≡ kept.named
  pub acknowledged : (member : ℕ) → has held.acknowledged member ≡ list_any (λ one. one == member) kept.members

-- the store's entries for these batches, in the same order, have what was read of them
abbrev pub AreHeldAs : List KeptBatch → List Held → Type 0
AreHeldAs [] [] = ⊤
AreHeldAs (kept ∷ batches) (held ∷ helds) = IsHeldAs kept held × AreHeldAs batches helds
AreHeldAs _ _ = ⊥

-- the own vote that is restored with an own header is the one that the node signs for it
abbrev pub HasOwnVote : Node → VotedHeader → Type 0
HasOwnVote node voted = voted.vote ≡ own_vote node voted.header.body
