-- Which questions to a node have the same answer after a new event as before it, so that they need not be asked again.
use Rattle.std.specs.Prelude.{◌≡◌, ◌≢◌, ◌<◌, ◌≤◌, ◌⊎◌, ℕ, suc, min, max, Bool, true, false, ◌||◌, IsTrue, List, ◌∷◌, ◌++◌, Result, Ok}
use Rattle.spec_machine.specs.Machine.{after, answered, is_missing_parents, proposed}
use Rattle.spec_machine.specs.Sound.{IsSound}
use Rattle.spec_model.specs.Admitting.{IsTaken, is_new}
use Rattle.spec_model.specs.Nodes.{Node, IsNode}
use Rattle.spec_model.specs.States.{State, floor_in}
use Rattle.spec_model.specs.Words.{Author, Certificate, Event, Message}
use Rattle.waiter.specs.Rounds.{WaitersView, held}
use Rattle.wire.specs.declared.message.Message.TheVariants as message
use Rattle.node_io.specs.declared.rejection.Rejection.{Rejection}
use Rattle.node_run.specs.declared.due.Due.{Due}
use Rattle.node_run.specs.declared.due.Waiting.{Waiting}
use Rattle.node_run.specs.declared.due.Waiting.TheVariants.{Nothing, Rounds}

-- this message, from this sender, is a new event at this sound state of the member's node
pub record IsNewAt (own : Author) (sent : Message) (node : Node) (state : State) (sender : Author) : Type 0 where
  pub own_is : node.own ≡ own
  pub node_is : IsNode node
  pub sound : IsSound node state
  pub taken : IsTaken node (record { sender = sender; message = sent })
  pub new : IsTrue (is_new (answered node state (record { sender = sender; message = sent })))

-- if this certificate came in at this state, the answer would be that it lacks parents
abbrev pub lacks_parents : Node → State → Author → Certificate → Bool
lacks_parents node state from certificate = is_missing_parents (answered node state (record { sender = from; message = message.Certificate certificate }))

-- at every sound state: once this message is accepted as new, any certificate lacks parents exactly if it lacked them before
abbrev pub LeavesWaiting : Author → Message → Type 0
LeavesWaiting own sent =
    (node : Node) (state : State) (sender from : Author) (certificate : Certificate) → IsNewAt own sent node state sender
    → lacks_parents node (after node state (record { sender = sender; message = sent })) from certificate ≡ lacks_parents node state from certificate

-- at every sound state: once this message is accepted as new, the node proposes the same as before
abbrev pub LeavesProposal : Author → Message → Type 0
LeavesProposal own sent =
    (node : Node) (state : State) (sender : Author) → IsNewAt own sent node state sender
    → proposed node (after node state (record { sender = sender; message = sent })) ≡ proposed node state

-- The floor has risen over the certificates of a round: they are low, or their parents' round is at most the floor, so that no parent is
-- looked up.
abbrev pub IsOver : ℕ → ℕ → Type 0
IsOver floor round = (0 < floor) × (round ≤ suc floor)

-- At every sound state: once this message is accepted as new, a certificate that lacked parents still lacks them, if its round is not in
-- the range from `low` to below `end`, and the floor has not risen over its round.
abbrev pub LeavesOthers : Author → Message → ℕ → ℕ → Type 0
LeavesOthers own sent low end =
    (node : Node) (state : State) (sender from : Author) (certificate : Certificate) → IsNewAt own sent node state sender
    → (low ≤ certificate.header.round → certificate.header.round < end → ⊥) → lacks_parents node state from certificate ≡ true
    → (lacks_parents node (after node state (record { sender = sender; message = sent })) from certificate ≡ true)
    ⊎ IsOver (floor_in node (after node state (record { sender = sender; message = sent }))) certificate.header.round

-- if the floor has risen over the certificates of a round, neither they nor those of lower rounds lack parents
abbrev pub LacksNothingBelow : Type 0
LacksNothingBelow =
    (node : Node) (state : State) (from : Author) (certificate : Certificate) (round : ℕ) → IsOver (floor_in node state) round → certificate.header.round ≤ round
    → lacks_parents node state from certificate ≡ false

-- After this message each question that isn't due has the same answer as before. If the waiting certificates of a range of rounds are due,
-- a certificate of another round that lacked parents still lacks them, unless the floor has risen over its round.
pub record Leaves (own : Author) (sent : Message) (due : Due) : Type 0 where
  pub waiting : due.waiting ≡ Nothing → LeavesWaiting own sent
  pub others : (low end : ℕ) → due.waiting ≡ Rounds low end → LeavesOthers own sent low end
  pub proposal : due.proposal ≡ false → LeavesProposal own sent

abbrev pub nothing_due : Due
nothing_due = record { waiting = Nothing; proposal = false }

-- what is due at the beginning, when nothing was asked yet and no certificate waits: what the node proposes
abbrev pub first_due : Due
first_due = record { waiting = Nothing; proposal = true }

-- The range of rounds that covers both: from the lower beginning up to the higher end.
abbrev pub both_waiting : Waiting → Waiting → Waiting
both_waiting Nothing other = other
both_waiting one Nothing = one
both_waiting (Rounds low end) (Rounds other_low other_end) = Rounds (min low other_low) (max end other_end)

abbrev pub both_due : Due → Due → Due
both_due one other = record { waiting = both_waiting one.waiting other.waiting; proposal = one.proposal || other.proposal }

-- this certificate was taken out of those that wait in this round, and no other certificate was
pub record IsTakenOut (event : Event) (round : ℕ) (old new : WaitersView) : Type 0 where
  pub front : List Event
  pub back : List Event
  pub stood : held old round ≡ front ++ event ∷ back
  pub left : held new round ≡ front ++ back
  pub others : (other : ℕ) → other ≢ round → held new other ≡ held old other

-- all rounds of the due range from this one on are still due, and those below it aren't any more
abbrev pub IsDueFrom : ℕ → Waiting → Waiting → Type 0
IsDueFrom round old new = (low : ℕ) × (end : ℕ) × (old ≡ Rounds low end) × (new ≡ Rounds round end) × (low ≤ round) × (round < end)

-- A waiting certificate was taken out, of some round. Either the same questions are due as before, or the due range now begins with that
-- round.
abbrev pub TakesOne : Event → WaitersView → WaitersView → Due → Due → Type 0
TakesOne event old new due later = (round : ℕ) × IsTakenOut event round old new × ((later ≡ due) ⊎ IsDueFrom round due.waiting later.waiting)

-- What is due after a message. If the message was new, these are the questions that were due before, and every question whose answer the
-- message may change. Otherwise they are those that were due before.
pub record IsDueAfter (own : Author) (sent : Message) (old new : Due) (reported : Result Bool Rejection) : Type 0 where
  pub other : reported ≢ Ok true → new ≡ old
  pub new_one : reported ≡ Ok true → (due : Due) × Leaves own sent due × (new ≡ both_due old due)
