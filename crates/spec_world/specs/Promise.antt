-- What a node never takes back.
use Rattle.std.specs.Prelude.{◌≡◌, ◌⊎◌, ℕ, ◌≤◌, List, [], ◌∷◌, ◌++◌, length, take, Option, Some, None, Contains}
use Rattle.spec_model.specs.Admitting.{admit, IsLegal}
use Rattle.spec_model.specs.Giving.{kept, MayGive}
use Rattle.spec_model.specs.Histories.{History}
use Rattle.wire.specs.Lists.{Begins}
use Rattle.spec_model.specs.Holdings.{order}
use Rattle.spec_model.specs.Nodes.{Node, IsNode}
use Rattle.spec_model.specs.States.{State}
use Rattle.journal.specs.Areas.{Areas}
use Rattle.spec_model.specs.Slots.{header_digest}
use Rattle.spec_model.specs.Words.{Author, Digest, Event, HeaderBody, Output}
use Rattle.header.specs.declared.admission.Admission.TheVariants.{New, Known}
use Rattle.wire.specs.declared.output.Output.TheVariants as output
use Rattle.spec_world.specs.World.{Outgoing, put_out, read, Given, World, taken_in, StandsFor, MayStop}
use Rattle.spec_world.specs.Steps.{Move, IsRecovered, IsRun}

-- ---- votes

-- a vote of the node: the author and the round of a header, and the digest of the header that it votes for
pub record Ballot : Type 0 where
  pub author : Author
  pub round : ℕ
  pub header : Digest

abbrev pub ballot_for : HeaderBody → Ballot
ballot_for header = record { author = header.author; round = header.round; header = header_digest header }

-- the node's vote that an output carries: a vote for another's header. An own header, and an own certificate, carry the vote for that
-- header
abbrev pub vote_in : Output → Option Ballot
vote_in (output.Vote vote) = Some (record { author = vote.author; round = vote.round; header = vote.header })
vote_in (output.Header header) = Some (ballot_for header.body)
vote_in (output.Certificate certificate) = Some (ballot_for certificate.header)
vote_in _ = None

-- the node's vote in something that was given out; None if it has none
abbrev pub vote_given : Outgoing → Option Ballot
vote_given (put_out output) = vote_in output
vote_given (read digests) = None

-- ---- orders

-- The order as far as it was shown by something that was given out; None if that shows no order. A read shows the whole order. An output
-- shows its digests, and so also the order before the place at which they start
abbrev pub order_given : List Digest → Outgoing → Option (List Digest)
order_given order (put_out (output.Order start digests)) = Some (take start order ++ digests)
order_given order (put_out other) = None
order_given order (read digests) = Some digests

-- the order shown by `one` was given out no later than that shown by `other`: its history is a prefix of the other's, and if both histories
-- are equal it is no longer than the other
pub record IsNoLater (one other : Given) (earlier later : List Digest) : Type 0 where
  pub begins : Begins one.history other.history
  pub no_longer : one.history ≡ other.history → length earlier ≤ length later

-- an output was put out at a history: by the last event of the history, which was new, or by an event that is known at that history
pub data WasPutOut (node : Node) (history : History) (output : Output) : Type 0 where
  by_new : (before : History) (event : Event) (outputs : List Output) → history ≡ before ++ event ∷ [] → admit node before event ≡ New outputs
      → Contains outputs output → WasPutOut node history output
  by_known : (event : Event) (outputs : List Output) → admit node history event ≡ Known outputs → Contains outputs output → WasPutOut node history output

-- what may go out at a history: an output that was put out there and may be given out there, or a read of the history's order
abbrev pub GoesOut : Node → History → Outgoing → Type 0
GoesOut node history (put_out output) = WasPutOut node history output × MayGive node history output
GoesOut node history (read digests) = digests ≡ order node history

-- ---- the promise

-- What this run took for the disk (what is settled, and the groups in flight) is a prefix of what it accepted; and all that it accepted is
-- legal after the history with which it began.
pub record IsInOrder (node : Node) (world : World) : Type 0 where
  pub taken : Begins (taken_in world) world.accepted
  pub legal : IsLegal node (world.began ++ world.accepted)

-- What holds at each moment of a node's runs: nothing that was given out is ever taken back, whatever a stop at this moment leaves.
pub record NeverTakesBack (node : Node) (world : World) : Type 0 where
  pub in_order : IsInOrder node world
  -- what a stop leaves is read as the state kept of a history that recovery may find, and as no other state
  pub stands : (found : Areas) → MayStop world found → (history : History) × IsRecovered node world history × StandsFor node found (kept node history)
  pub only : (found : Areas) (one other : State) → MayStop world found → StandsFor node found one → StandsFor node found other → one ≡ other
  -- each thing was given out at a prefix of the settled history, so the event that put it out is settled too
  pub held : (given : Given) → Contains world.given given → Begins given.history (world.began ++ world.settled)
  pub right : (given : Given) → Contains world.given given → GoesOut node given.history given.outgoing
  -- no two votes that were given out differ for the same author and round
  pub votes : (one other : Given) (vote also : Ballot) → Contains world.given one → Contains world.given other
      → vote_given one.outgoing ≡ Some vote → vote_given other.outgoing ≡ Some also → vote.author ≡ also.author → vote.round ≡ also.round → vote.header ≡ also.header
  -- of two histories at which something was given out, one is a prefix of the other; and each order given out is a prefix of every later
  -- one
  pub nested : (one other : Given) → Contains world.given one → Contains world.given other → Begins one.history other.history ⊎ Begins other.history one.history
  pub orders : (one other : Given) (earlier later : List Digest) → Contains world.given one → Contains world.given other
      → order_given (order node one.history) one.outgoing ≡ Some earlier → order_given (order node other.history) other.outgoing ≡ Some later
      → IsNoLater one other earlier later → Begins earlier later

-- For every list of runs of a node, with accepts, takes, writes, syncs, settlements and releases in any order, and each run stopped at any
-- moment, also inside a write: recovery finds the state of a prefix of the accepted events. That prefix has every event whose output was
-- given out. No two votes given out differ for the same author and round, and each order given out is a prefix of every later one.
abbrev pub NothingTakenBack : Type 0
NothingTakenBack = (node : Node) (moves : List Move) (world : World) → IsNode node → IsRun node moves world → NeverTakesBack node world

-- ---- what may go out within one history, whatever the runs

-- this may go out at some prefix of the history
pub record GoesOutWithin (node : Node) (left : History) (given : Given) : Type 0 where
  pub begins : Begins given.history left
  pub right : GoesOut node given.history given.outgoing

-- all that may go out at prefixes of one history is free of contradictions
pub record Agrees (node : Node) (left : History) : Type 0 where
  -- no two votes differ for the same author and round
  pub votes : (one other : Given) (vote also : Ballot) → GoesOutWithin node left one → GoesOutWithin node left other
      → vote_given one.outgoing ≡ Some vote → vote_given other.outgoing ≡ Some also → vote.author ≡ also.author → vote.round ≡ also.round → vote.header ≡ also.header
  -- each order is a prefix of every order that is given out later
  pub orders : (one other : Given) (earlier later : List Digest) → GoesOutWithin node left one → GoesOutWithin node left other
      → order_given (order node one.history) one.outgoing ≡ Some earlier → order_given (order node other.history) other.outgoing ≡ Some later
      → IsNoLater one other earlier later → Begins earlier later

-- What goes out within a legal history never contradicts itself. This covers what several threads collect, if it goes out within what a
-- stop leaves.
abbrev pub WhatGoesOutAgrees : Type 0
WhatGoesOutAgrees = (node : Node) (left : History) → IsLegal node left → Agrees node left
