-- Where the records of a checkpoint's state end, and what of them is at fault.
use Rattle.std.proofs.Common.{◌≡◌, ℕ, ◌+◌, true, false, cond, List, [], ◌∷◌, ◌++◌, take, drop, refl, sym, ap, ◌∙◌}
use Rattle.std.specs.Prelude.{◌≢◌, All}
use Rattle.std.proofs.lemmas.List.{append-nil, map-append, take-append-drop}
use Rattle.journal.specs.Format.{FailsAs}
use Rattle.journal.specs.declared.record.Record.{Record}
use Rattle.checkpoint.specs.Reader.{fault_of}
use Rattle.checkpoint.specs.declared.error.LoadError.{LoadError}
use Rattle.checkpoint.specs.declared.error.LoadError.TheVariants as load
use Rattle.spec_checkpoint.specs.Loading.{load_fault, at_record, of_whole}
use Rattle.spec_model.specs.Nodes.{Node}
use Rattle.spec_world.specs.World.{bytes_of}
use Rattle.opening.specs.PairReplayed.{error_at}
use Rattle.opening.specs.Decoded.{gates_of, is_event, events_part, read_state, state_part}
use Rattle.opening.proofs.PairReporting.{events_on, state_fails, state_on}

-- a record of a state
abbrev pub IsState : Record → Type 0
IsState one = is_event one ≡ false

-- records end, or begin with one of an event
abbrev pub Ends : List Record → Type 0
Ends [] = Unit {0}
Ends (one ∷ more) = is_event one ≡ true

state_ends : (records : List Record) → Ends records → state_part records ≡ []
unfolding state_part
state_ends [] ends = refl
state_ends (one ∷ more) event = λ i. cond (event i) [] (one ∷ state_part more)

events_begin : (records : List Record) → Ends records → events_part records ≡ records
unfolding events_part
events_begin [] ends = refl
events_begin (one ∷ more) event = λ i. cond (event i) (one ∷ more) (events_part more)

-- so many records of a state come before such an end
pub state_taken : (records : List Record) (count : ℕ) → All IsState (take count records) → Ends (drop count records) → take count records ≡ state_part records
state_taken records count all ends =
    let front = take count records in
    sym (ap state_part (sym (take-append-drop count records)) ∙ state_on front (drop count records) all
    ∙ ap (λ (l : List Record). front ++ l) (state_ends (drop count records) ends) ∙ append-nil front)

pub events_left : (records : List Record) (count : ℕ) → All IsState (take count records) → Ends (drop count records) → drop count records ≡ events_part records
events_left records count all ends =
    sym (ap events_part (sym (take-append-drop count records)) ∙ events_on (take count records) (drop count records) all ∙ events_begin (drop count records) ends)

-- what is wrong with records that can't be loaded
pub load_fails : (node : Node) (first : Record) (state : List Record) (cause : LoadError) → (cause ≢ load.Memory → load_fault node (bytes_of (first ∷ state)) ≡ fault_of cause)
    → FailsAs (error_at (gates_of (first ∷ state)) cause) (read_state node first state)
load_fails node first state load.Memory is = tt
load_fails node first state (load.Unsound place) is = state_fails node first state (at_record place) (is (λ same. cc))
load_fails node first state load.UnsoundWhole is = state_fails node first state of_whole (is (λ same. cc))

-- the record at a place, with those before it and after it
pub rows_split : (records : List Record) (i : ℕ) (one : Record) → drop i records ≡ one ∷ drop (i + 1) records
    → bytes_of records ≡ bytes_of (take i records) ++ one.bytes ∷ bytes_of (drop (i + 1) records)
rows_split records i one here =
    ap bytes_of (sym (take-append-drop i records) ∙ ap (λ (l : List Record). take i records ++ l) here)
    ∙ map-append (λ (r : Record). r.bytes) (take i records) (one ∷ drop (i + 1) records)
