-- After an event a state keeps its order at the beginning, and what doesn't fall below the floor.
use Rattle.std.proofs.Common.{◌≡◌, ◌⊎◌, ℕ, arith, Bool, true, Option, Some, None, inl, inr, refl, ap, sym, ◌∙◌}
use Rattle.std.specs.Prelude.{◌||◌, nat_lt, option_map, if◌then◌else◌}
use Rattle.std.specs.Option.{option_or, option_to_list}
use Rattle.std.proofs.lemmas.Bool.{cases_Bool, ltb-true}
use Rattle.spec_model.specs.Giving.{unless_low}
use Rattle.spec_model.specs.Histories.{as_batch, as_coin}
use Rattle.spec_model.specs.Holdings.{is_low}
use Rattle.spec_model.specs.Slots.{header_digest, slots_of}
use Rattle.spec_model.specs.States.{ledger_in, floor_in}
use Rattle.spec_machine.specs.Laws.{StateStands}
use Rattle.spec_machine.specs.Machine.{header_at, vote_at, acknowledges, names, certificate_of, newly_ordered, grown, after}
use Rattle.spec_machine.proofs.AfterStep.{step_next, is_after_step}
use Rattle.spec_machine.proofs.Collected.{unless}

first_stays : {X : Type 0} (one other : Option X) (x : X) → one ≡ Some x → option_or one other ≡ Some x
first_stays one other x is = ap (λ o. option_or o other) is

-- what was there for a round stays, or the round is low
stays_unless : {X : Type 0} (floor floor_after round : ℕ) (one other : Option X) (x : X) → floor ≡ floor_after → one ≡ Some x
    → (unless_low floor round (option_or one other) ≡ Some x) ⊎ (is_low floor_after round ≡ true)
stays_unless floor floor_after round one other x floors is =
    elim (cases_Bool (is_low floor round)) [
      | inl low ↦ inr (ap (λ f. is_low f round) (sym floors) ∙ low)
      | inr high ↦ inl (unless floor round (option_or one other) high ∙ first_stays one other x is)
    ]

true_stays : (one other : Bool) → one ≡ true → (one || other) ≡ true
true_stays one other is = ap (λ b. b || other) is

pub state_stands : StateStands
state_stands node state event sound is taken new =
    let m = event.message in
    let later = grown node state m in
    let floor = floor_in node later in
    let next = step_next node state event.sender m (record { node_is = sound; sound = is; taken = taken; new = new }) in
    let afterwards = is_after_step node state m next in
    let floors = afterwards.floors in
    record {
      floor = afterwards.rises;
      batches = record { rest = option_to_list (as_batch m); parts = refl };
      coins = record { rest = option_to_list (as_coin m); parts = refl };
      order = record { rest = newly_ordered (ledger_in node state) (ledger_in node later); parts = refl };
      acked = λ digest member before. true_stays (state.acked digest member) (acknowledges m digest member) before;
      named = λ digest before. true_stays (state.named digest) (names node m digest) before;
      votes = λ round author digest voted.
          stays_unless floor (floor_in node (after node state event)) round (state.votes round author)
          (option_map (λ header. header_digest header.body) (header_at m round author)) digest floors voted;
      own_headers = λ round header held.
          stays_unless floor (floor_in node (after node state event)) round (state.own_headers round) (header_at m round node.own.0) header floors held;
      counted = λ round voter vote counted.
          stays_unless floor (floor_in node (after node state event)) round (state.counted round voter) (vote_at node m round voter) vote floors counted;
      slots = λ round author c held. elim (cases_Bool (nat_lt round floor)) [
        | inl below ↦ inr (let less = ltb-true round floor below in omega (arith, less, floors))
        | inr above ↦ inl (ap (λ b. if b then None else later.slots round author) above
            ∙ first_stays (state.slots round author) (slots_of (option_to_list (certificate_of node state m)) round author) c held)
      ];
    }
