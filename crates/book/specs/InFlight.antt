-- The groups in flight: those that a book handed over to be written and that aren't settled yet.
use Rattle.std.specs.Prelude.{◌≡◌, ◌⊎◌, ℕ, ◌+◌, ◌≤◌, true, None, List, [], ◌∷◌, length, map, drop}
use Rattle.spec_model.specs.Nodes.{Node}
use Rattle.spec_records.specs.Records.{record_of}
use Rattle.journal.specs.Format.{file_with, group_bytes, stands}
use Rattle.journal.specs.Journal.{stands_with}
use Rattle.journal.specs.declared.layout.TheConstants.{MAX_JOURNAL_BYTES}
use Rattle.book.specs.Book.{BookView, Run, Stands, with_taken, with_settled}
use Rattle.book.specs.Pending.{IsLongestBeginning, all_records}

-- these groups are in flight, oldest first: no rewriting is in flight, and at some run at which the book stands the groups have exactly the
-- records that are taken and not settled
pub record AreInFlight {S : Type 0} (node : Node) (book : BookView S) (groups : List (List (List ℕ))) : Type 0 where
  pub alone : book.rewriting ≡ None
  pub run : Run
  pub stands : Stands node run book
  pub are : map record_of (drop (length run.settled) run.taken) ≡ all_records groups

-- there is a run at which the book stands
abbrev pub StandsSomewhere : {S : Type 0} → Node → BookView S → Type 0
StandsSomewhere node book = (run : Run) × Stands node run book

-- a rewriting is in flight only where the book is down
abbrev pub RewritesOnlyDown : {S : Type 0} → BookView S → Type 0
RewritesOnlyDown book = (book.rewriting ≡ None) ⊎ (book.down ≡ true)

-- this group fits into the journal after these bytes of its disk
abbrev pub HasRoomFor : List (List ℕ) → List ℕ → Type 0
HasRoomFor group old = length old + length (group_bytes group) ≤ MAX_JOURNAL_BYTES

-- One round of take, append and settle. The longest prefix of the pending records that fits a group is taken; the disk has room for it; it
-- is written there and settled. The later book stands at each run at which the earlier one stood, with these `count` records taken and
-- settled.
pub record Flushes {S : Type 0} (node : Node) (before later : BookView S) (old new : List ℕ) (count : ℕ) : Type 0 where
  pub group : List (List ℕ)
  pub takes : IsLongestBeginning before.pending group later.pending
  pub room : HasRoomFor group old
  pub written : new ≡ file_with old group
  pub records : stands new ≡ stands_with old group
  pub counts : count ≡ length group
  pub is : later ≡ record before { pending = later.pending; taken = before.taken + length group; settled = before.settled + length group; ordered = later.ordered; reached = later.reached }
  pub stands : (run : Run) → Stands node run before → Stands node (with_settled (with_taken run (length group)) (length group)) later

-- the book goes down in a round: the longest prefix of the pending records that fits a group is taken and stays in flight, as the only
-- group
pub record GoesDown {S : Type 0} (node : Node) (before later : BookView S) : Type 0 where
  pub group : List (List ℕ)
  pub takes : IsLongestBeginning before.pending group later.pending
  pub is : later ≡ record before { pending = later.pending; taken = before.taken + length group; down = true }
  pub way : AreInFlight node later (group ∷ [])

-- the book goes down in a round: because there was no room for the group after these bytes, or although there was room, because a device
-- call failed
abbrev pub FindsNoRoom : {S : Type 0} → Node → BookView S → BookView S → List ℕ → Type 0
FindsNoRoom node before later old = (down : GoesDown node before later) × (HasRoomFor down.group old → ⊥)

abbrev pub FailsWithRoom : {S : Type 0} → Node → BookView S → BookView S → List ℕ → Type 0
FailsWithRoom node before later old = (down : GoesDown node before later) × HasRoomFor down.group old

-- what a stop leaves decodes to the records of this file, or to these and the longest prefix of the pending records that fits a group
abbrev pub IsWithOrWithout : List (List ℕ) → List ℕ → List ℕ → Type 0
IsWithOrWithout pending file left = (stands left ≡ stands file) ⊎ IsWith
  where
    IsWith : Type 0
    IsWith = (group : List (List ℕ)) × (rest : List (List ℕ)) × IsLongestBeginning pending group rest × (stands left ≡ stands_with file group)
