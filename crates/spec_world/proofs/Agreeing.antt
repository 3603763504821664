-- What goes out within one history does not contradict itself.
use Rattle.std.proofs.Common.{◌≡◌, List, Some, sym, subst}
use Rattle.std.proofs.lemmas.List.Elements.{All-contains}
use Rattle.spec_laws.proofs.Legal.{legal-begins}
use Rattle.spec_model.specs.Admitting.{IsLegal}
use Rattle.spec_model.specs.Histories.{History}
use Rattle.wire.specs.Lists.{Begins}
use Rattle.spec_model.specs.Holdings.{order}
use Rattle.spec_model.specs.Nodes.{Node}
use Rattle.spec_model.specs.Words.{Digest, Output}
use Rattle.spec_world.specs.World.{Outgoing, put_out, read, Given}
use Rattle.spec_world.specs.Promise.{Ballot, vote_given, order_given, IsNoLater, WasPutOut, by_new, by_known, GoesOut, GoesOutWithin, WhatGoesOutAgrees}
use Rattle.spec_world.proofs.Answered.{new_put, known_put}
use Rattle.spec_world.proofs.Ballots.{votes_agree}
use Rattle.spec_world.proofs.Law.{HasVote, has_vote, vote_later}
use Rattle.spec_world.proofs.Orders.{IsPut, IsEnded, order_of, orders_begin}

-- what was put out ends its history
put_of : (node : Node) (history : History) (output : Output) → IsLegal node history → WasPutOut node history output → IsPut node history output
put_of node history output legal (by_new before event outputs parts is inside) =
    subst (λ h. IsPut node h output) (sym parts) (All-contains (IsPut node _) outputs output (new_put node before event outputs (subst (IsLegal node) parts legal) is) inside)
put_of node history output legal (by_known event outputs is inside) = All-contains (IsPut node history) outputs output (known_put node history event outputs is) inside

ended_of : (node : Node) (history : History) (outgoing : Outgoing) → IsLegal node history → GoesOut node history outgoing → IsEnded node history outgoing
ended_of node history (put_out output) legal goes = put_of node history output legal goes.0
ended_of node history (read digests) legal goes = goes

module _ (node : Node) (left : History) (legal : IsLegal node left) where
  legal_within : (given : Given) → GoesOutWithin node left given → IsLegal node given.history
  legal_within given within = legal-begins node given.history within.begins.rest (subst (IsLegal node) within.begins.parts legal)

  ended_within : (given : Given) → GoesOutWithin node left given → IsEnded node given.history given.outgoing
  ended_within given within = ended_of node given.history given.outgoing (legal_within given within) within.right

  vote_within : (given : Given) (ballot : Ballot) → GoesOutWithin node left given → vote_given given.outgoing ≡ Some ballot → HasVote node left ballot
  vote_within given ballot within is =
      vote_later node given.history left ballot legal within.begins (has_vote node given.history given.outgoing ballot (ended_within given within) is)

  votes_within : (one other : Given) (vote also : Ballot) → GoesOutWithin node left one → GoesOutWithin node left other
      → vote_given one.outgoing ≡ Some vote → vote_given other.outgoing ≡ Some also → vote.author ≡ also.author → vote.round ≡ also.round → vote.header ≡ also.header
  votes_within one other vote also within within' is is' author round =
      let first = vote_within one vote within is in
      let second = vote_within other also within' is' in
      votes_agree node left first.output second.output vote also legal first.may second.may first.is second.is author round

  orders_within : (one other : Given) (earlier later : List Digest) → GoesOutWithin node left one → GoesOutWithin node left other
      → order_given (order node one.history) one.outgoing ≡ Some earlier → order_given (order node other.history) other.outgoing ≡ Some later
      → IsNoLater one other earlier later → Begins earlier later
  orders_within one other earlier later within within' is is' no_later =
      orders_begin node one.history other.history earlier later (legal_within other within') no_later.begins no_later.no_longer
      (order_of node one.history one.outgoing earlier (legal_within one within) (ended_within one within) is)
      (order_of node other.history other.outgoing later (legal_within other within') (ended_within other within') is')

pub what_goes_out_agrees : WhatGoesOutAgrees
what_goes_out_agrees node left legal = record { votes = votes_within node left legal; orders = orders_within node left legal }
