-- What callers collected goes out within what a stop leaves.
use Rattle.std.proofs.Common.{◌≡◌, ℕ, ◌≤◌, ◌+◌, ◌-◌, List, [], ◌∷◌, ◌++◌, take, drop, length, refl, sym, ap, ◌∙◌, subst, append_assoc, arith}
use Rattle.std.proofs.lemmas.List.{map-append, take-append-drop, take-append-le, drop-append-le, length-take, length-drop}
use Rattle.std.proofs.Math.Seq.{take-length}
use Rattle.node_seats.proofs.Beginnings.{begins_trans}
use Rattle.node_seats.specs.Views.{events}
use Rattle.node_seats.specs.declared.view.Marked.{Marked}
use Rattle.book.specs.Book.{GoesOutAfter}
use Rattle.spec_laws.proofs.Legal.{legal-begins, legal-last}
use Rattle.spec_laws.proofs.OrderGrows.{order_grows}
use Rattle.spec_machine.specs.After.{WasPutOutAfter, by_new, by_known}
use Rattle.spec_machine.proofs.AfterAll.{after_is_kept, answered_kept, legal_again}
use Rattle.spec_model.specs.Admitting.{IsLegal}
use Rattle.spec_model.specs.Giving.{kept}
use Rattle.spec_model.specs.Histories.{History}
use Rattle.spec_model.specs.Holdings.{order}
use Rattle.spec_model.specs.Nodes.{Node}
use Rattle.spec_model.specs.States.{State}
use Rattle.spec_model.specs.Words.{Digest, Output}
use Rattle.wire.specs.Lists.{Begins}
use Rattle.spec_world.specs.Promise.{WhatGoesOutAgrees, WasPutOut, GoesOut, GoesOutWithin}
use Rattle.spec_world.specs.Promise as promise
use Rattle.spec_world.specs.World.{put_out}
use Rattle.validator.specs.Setting.{node_of}
use Rattle.flusher.specs.Collected.{CollectedIsWithin, CollectedVotesAgree, CollectedOrdersAgree, StandFrom, given_as}

-- the first of some marked events, after a history
first_begin : (start : History) (count : ℕ) (marked : List Marked) → Begins (start ++ events (take count marked)) (start ++ events marked)
first_begin start count marked = record {
  rest = events (drop count marked);
  parts =
      ap (λ (l : List Marked). start ++ events l) (sym (take-append-drop count marked))
      ∙ ap (λ (l : History). start ++ l) (map-append (λ (one : Marked). one.event) (take count marked) (drop count marked))
      ∙ sym (append_assoc start (events (take count marked)) (events (drop count marked)));
}

-- what was put out after the state that is kept of a history was put out at the history with these events
put_out_at : (node : Node) (began events : History) (output : Output) → IsLegal node (began ++ events) → WasPutOutAfter node (kept node began) events output
    → WasPutOut node (began ++ events) output
put_out_at node began events output legal (by_new before event outputs is answer holds) =
    let joined : (began ++ before) ++ event ∷ [] ≡ began ++ events = append_assoc began before (event ∷ []) ∙ ap (λ (l : History). began ++ l) (sym is) in
    let adds = legal-last node (began ++ before) event (subst (IsLegal node) (sym joined) legal) in
    promise.by_new (began ++ before) event outputs (sym joined) (answered_kept node began before event adds.legal adds.taken ∙ answer) holds
put_out_at node began events output legal (by_known event outputs taken answer holds) =
    promise.by_known event outputs (answered_kept node began events event legal taken ∙ answer) holds

-- so it goes out there
goes_out_at : (node : Node) (began events : History) (output : Output) → IsLegal node began → IsLegal node (began ++ events) → GoesOutAfter node (kept node began) events output
    → GoesOut node (began ++ events) (put_out output)
goes_out_at node began events output first legal goes = (put_out_at node began events output legal goes.put, goes.may began first refl)

pub collected_is_within : (S : Type 0) → CollectedIsWithin S
collected_is_within S scheme node began left view output put keeps has =
    let member = node_of scheme node.setting in
    let first = events (take put.count view.durable) in
    let goes = put.goes_out (kept member began) keeps.base in
    record {
      begins = begins_trans (began ++ first) (began ++ events view.durable) left (first_begin began put.count view.durable) has;
      right = goes_out_at member began first output keeps.legal (legal_again member began first keeps.legal goes.legal) goes;
    }

pub collected_votes_agree : (S : Type 0) → WhatGoesOutAgrees → CollectedVotesAgree S
collected_votes_agree S agrees scheme node again began restarted left one other first second vote also same keeps keeps' legal has has' put put' is is' author round =
    let given = given_as scheme again restarted other second put' in
    (agrees (node_of scheme node.setting) left legal).votes (given_as scheme node began one first put) given vote also
    (collected_is_within S scheme node began left one first put keeps has)
    (subst (λ n. GoesOutWithin n left given) same (collected_is_within S scheme again restarted left other second put' keeps' has')) is is' author round

-- ---- orders

-- what stands in an order from a place on stands there in a longer one
stand_in_longer : (whole more : List Digest) (from : ℕ) (digests : List Digest) → StandFrom whole from digests → StandFrom (whole ++ more) from digests
stand_in_longer whole more from [] stand = refl
stand_in_longer whole more from (digest ∷ rest) stand =
    let count = length (digest ∷ rest) in
    let long : count ≤ length whole - from = omega (arith, ap length stand, length-take count (drop from whole), length-drop from whole) in
    stand
    ∙ sym (take-append-le count (drop from whole) more (omega (arith, long, length-drop from whole)))
    ∙ ap (take count) (sym (drop-append-le from whole more (omega (arith, long))))

-- so it does in the order after a legal history, where it does in the one after a beginning of that
stand_later : (node : Node) (first left : History) (from : ℕ) (digests : List Digest) → IsLegal node left → Begins first left → StandFrom (order node first) from digests
    → StandFrom (order node left) from digests
stand_later node first left from digests legal begins stand =
    let grows = order_grows node first begins.rest (subst (IsLegal node) begins.parts legal) in
    subst (λ h. StandFrom (order node h) from digests) (sym begins.parts)
    (subst (λ all. StandFrom all from digests) (sym grows.parts) (stand_in_longer (order node first) grows.rest from digests stand))

-- the rest of an order stands in it
rest_stands : (whole : List Digest) (from : ℕ) (digests : List Digest) → digests ≡ drop from whole → StandFrom whole from digests
rest_stands whole from digests is = is ∙ sym (take-length (drop from whole)) ∙ ap (λ n. take n (drop from whole)) (ap length (sym is))

pub collected_orders_agree : (S : Type 0) → CollectedOrdersAgree S
collected_orders_agree S scheme node began left view keeps legal has =
    let member = node_of scheme node.setting in
    let within = legal-begins member (began ++ events view.durable) has.rest (subst (IsLegal member) has.parts legal) in
    record {
      collected = λ start digests put.
          let first = events (take put.count view.durable) in
          let goes = put.goes_out (kept member began) keeps.base in
          stand_later member (began ++ first) left start digests legal
          (begins_trans (began ++ first) (began ++ events view.durable) left (first_begin began put.count view.durable) has)
          (goes.may began keeps.legal refl).stands;
      read = λ from digests is.
          let same = after_is_kept member began (events view.durable) within in
          stand_later member (began ++ events view.durable) left from digests legal has
          (rest_stands (order member (began ++ events view.durable)) from digests (is (kept member began) keeps.base ∙ ap (λ (s : State). drop from s.order) same));
    }
