-- What the writer of a running node gets.
use Rattle.std.specs.Prelude.{◌≤◌, length, take, ◌≡◌, ◌≢◌, ◌⊎◌, ◌||◌, ℕ, Bool, true, false, List, [], ◌++◌, Option, None, Some, ⊤, All}
use Rattle.std.specs.List.{flat_map}
use Rattle.std.specs.Io.KnownBytes.{Keeps, Appends}
use Rattle.wire.specs.Lists.{Begins}
use Rattle.book.specs.Book.{GoesOutAfter}
use Rattle.spec_model.specs.Admitting.{IsLegal}
use Rattle.spec_model.specs.Giving.{kept, MayGive}
use Rattle.spec_model.specs.Histories.{History}
use Rattle.spec_model.specs.States.{State}
use Rattle.spec_model.specs.Words.{Output}
use Rattle.node_io.specs.declared.faults.Faults.{Faults}
use Rattle.node_seats.specs.Sights.{SeatView}
use Rattle.node_seats.specs.Views.{events}
use Rattle.node_seats.specs.declared.view.Marked.{Marked}
use Rattle.node_seats.specs.declared.view.View.{View}
use Rattle.wire.specs.Outputs.{frame_of}
use Rattle.node_shared.specs.Answers.{GivesAll}
use Rattle.node_shared.specs.Home.{NodeView, IsBase}
use Rattle.sigface.specs.Scheme.{Scheme}
use Rattle.validator.specs.Setting.{node_of}

-- the faults of a run in which nothing has failed
abbrev pub no_faults : Faults
no_faults = record { journal = None; output = false; memory = false; input = false }

-- the fault that an allocation failed
abbrev pub no_memory : Faults
no_memory = record { journal = None; output = false; memory = true; input = false }

-- the writer got a prefix of these bytes after what it had
pub record AppendsSome (old new : Option (List ℕ)) (bytes : List ℕ) : Type 0 where
  pub part : List ℕ
  pub begins : Begins part bytes
  pub appends : Appends old new part

-- after these faults a writer gets no more bytes: it failed, or an allocation for its bytes failed
abbrev pub is_over : Faults → Bool
is_over faults = faults.output || faults.memory

-- The bytes of one output are put. If nothing has failed yet, the writer gets all of them; or it fails, and gets some of them; or an
-- allocation for them fails, and it gets none. After a failure it gets no more bytes. No other fault is reported.
pub record Puts (bytes : List ℕ) (before later : Faults) (old new : Option (List ℕ)) : Type 0 where
  pub over : is_over before ≡ true → (later ≡ before) × Keeps old new
  pub fine : later.output ≡ false
      → ((later ≡ before) × Appends old new bytes) ⊎ ((later ≡ record before { memory = true }) × Keeps old new)
  pub some : AppendsSome old new bytes
  pub others : later ≡ record before { output = later.output; memory = later.memory }

-- From each base, this output was put out after some of the events that a seat knows as settled. It may be given out after each legal
-- history that keeps a base, followed by all those events.
pub record MayGo {S : Type 0} (scheme : Scheme S) (node : NodeView S) (view : View) (output : Output) : Type 0 where
  pub settled : List Marked
  pub begins : Begins settled view.durable
  pub may : (base : State) (history : History) → IsBase scheme node base → IsLegal (node_of scheme node.setting) history → kept (node_of scheme node.setting) history ≡ base
      → MayGive (node_of scheme node.setting) (history ++ events settled) output
  pub count : ℕ
  pub within : count ≤ length settled
  pub put_out : (base : State) → IsBase scheme node base → GoesOutAfter (node_of scheme node.setting) base (events (take count settled)) output

-- The frames of these outputs are put, in their order. If nothing has failed yet, the writer gets all of them; or an allocation fails, and
-- it gets the frames of the first outputs, but not of all; or it fails, and gets the frames of the first outputs, the last of which may be
-- cut short. After a failure it gets nothing, and nothing more is reported. No other fault is reported.
pub record PutsAll (outputs : List Output) (before later : Faults) (old new : Option (List ℕ)) : Type 0 where
  pub over : is_over before ≡ true → (later ≡ before) × Keeps old new
  pub put : List Output
  pub begins : Begins put outputs
  pub whole : is_over later ≡ false → put ≡ outputs
  pub lacks : is_over before ≡ false → later.output ≡ false → later.memory ≡ true → put ≢ outputs
  pub written : later.output ≡ false → Appends old new (flat_map frame_of put)
  pub some : AppendsSome old new (flat_map frame_of put)
  pub others : later ≡ record before { output = later.output; memory = later.memory }

-- the outputs that a seat collected, at least one, are put in the order in which they were collected
pub record WritesNext {S : Type 0} (scheme : Scheme S) (node : NodeView S) (seat : SeatView) (before later : Faults) (old new : Option (List ℕ)) : Type 0 where
  pub outputs : List Output
  pub some : outputs ≢ []
  pub given : GivesAll scheme node seat [] outputs
  pub puts : PutsAll outputs before later old new

-- The writer got only frames of outputs that may go out; only if it failed may the last frame be cut short. After a failure it got nothing.
-- No faults are reported but those of the writer and of allocations.
pub record WritesOnly (May : Output → Type 0) (before later : Faults) (old new : Option (List ℕ)) : Type 0 where
  pub over : is_over before ≡ true → Keeps old new
  pub broken : before.output ≡ true → later.output ≡ true
  pub memory : before.memory ≡ true → later.memory ≡ true
  pub outputs : List Output
  pub each : All May outputs
  pub written : later.output ≡ false → Appends old new (flat_map frame_of outputs)
  pub some : AppendsSome old new (flat_map frame_of outputs)
  pub others : later ≡ record before { output = later.output; memory = later.memory }

-- if it is known what the writer held before, it is known what it holds now: that, followed by a prefix of these bytes
abbrev pub HoldsPart : Option (List ℕ) → Option (List ℕ) → List ℕ → Type 0
HoldsPart None new bytes = ⊤
HoldsPart (Some xs) None bytes = ⊥
HoldsPart (Some xs) (Some ys) bytes = Begins ys (xs ++ bytes)

-- At the end the writer holds what it held before, followed by whole frames of some outputs, which meet `AreRight`. Only if `IsWhole`
-- doesn't hold may the last frame be missing or cut short.
pub record HasWritten (AreRight : List Output → Type 0) (IsWhole : Type 0) (old new : Option (List ℕ)) : Type 0 where
  pub outputs : List Output
  pub right : AreRight outputs
  pub part : HoldsPart old new (flat_map frame_of outputs)
  pub whole : IsWhole → Appends old new (flat_map frame_of outputs)
