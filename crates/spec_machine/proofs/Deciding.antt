-- What two histories keep decides what they answer, and what they keep after a new event.
use Rattle.std.proofs.Common.{◌≡◌, ℕ, ◌-◌, ◌≤◌, arith, true, false, Option, refl, ap, sym, ◌∙◌}
use Rattle.std.proofs.Math.Path.{fun_ext}
use Rattle.std.specs.Prelude.{nat_le, is_some}
use Rattle.wire.specs.declared.message.Message.TheVariants as message
use Rattle.committee.specs.Charter.{weight}
use Rattle.spec_model.specs.Admitting.{IsLegal}
use Rattle.spec_model.specs.Giving.{collected, kept}
use Rattle.spec_model.specs.Histories.{History, coins}
use Rattle.spec_model.specs.Holdings.{slots, floor, round, ledger_of, is_full}
use Rattle.spec_model.specs.Nodes.{Node, quorum}
use Rattle.spec_model.specs.Ordering.{order_by}
use Rattle.spec_model.specs.Proposing.{propose_of}
use Rattle.spec_model.specs.States.{State, whole, floor_in}
use Rattle.spec_model.specs.Words.{Author, Certificate, Message}
use Rattle.spec_laws.proofs.Closed.{in_place}
use Rattle.spec_laws.proofs.OrderGrows.{members_some}
use Rattle.spec_laws.proofs.Proposed.{round_above, below_full, round_high}
use Rattle.spec_machine.specs.Laws.{AnswersAlike, KeepSame, KeptDecides, KeptFollows, KeptProposes}
use Rattle.spec_machine.specs.Machine.{after, answered}
use Rattle.spec_machine.proofs.Answering.{state_answers}
use Rattle.spec_machine.proofs.Collected.{agree, kept_floor}
use Rattle.spec_machine.proofs.Following.{state_follows}
use Rattle.spec_machine.proofs.Grown.{same_state}
use Rattle.spec_machine.proofs.Proposing.{below_high, state_proposes}

-- what is answered reads neither the greatest round nor what was named
abbrev bare : State → State
bare state = record state { named = λ digest. false; highest = 0 }

bare_answers : (node : Node) (state : State) (sender : Author) (m : Message) → answered node state (record { sender = sender; message = m })
    ≡ answered node (bare state) (record { sender = sender; message = m })
bare_answers node state sender (message.Batch batch) = refl
bare_answers node state sender (message.BatchAck ack) = refl
bare_answers node state sender (message.Header header) = refl
bare_answers node state sender (message.Vote vote) = refl
bare_answers node state sender (message.Certificate certificate) = refl
bare_answers node state sender (message.Coin coin) = refl

pub answers_alike : AnswersAlike
answers_alike node one other event legal also taken alike =
    let bared : bare (whole node one) ≡ bare (whole node other) =
    same_state (bare (whole node one)) (bare (whole node other)) alike.same_batches
    (fun_ext (λ digest. fun_ext (λ member. alike.same_acks digest member))) refl
    (fun_ext (λ round. fun_ext (λ author. alike.same_votes round author)))
    (fun_ext (λ round. alike.same_headers round))
    (fun_ext (λ round. fun_ext (λ voter. alike.same_counted round voter)))
    (fun_ext (λ round. fun_ext (λ author. alike.same_slots round author))) refl alike.same_coins
    (ap (λ s. order_by (ledger_of node s (coins one))) (fun_ext (λ round. fun_ext (λ author. alike.same_slots round author)))
    ∙ ap (λ c. order_by (ledger_of node (slots node other) c)) alike.same_coins) in
    state_answers node one event legal taken
    ∙ bare_answers node (kept node one) event.sender event.message
    ∙ ap (λ s. answered node (collected node s) event) bared
    ∙ sym (bare_answers node (kept node other) event.sender event.message)
    ∙ sym (state_answers node other event also taken)

-- nor the greatest round alone
abbrev lower : State → State
lower state = record state { highest = 0 }

pub kept_decides : KeptDecides
kept_decides node one other event legal also taken same =
    state_answers node one event legal taken
    ∙ bare_answers node (kept node one) event.sender event.message
    ∙ ap (λ s. answered node (bare s) event) same
    ∙ sym (bare_answers node (kept node other) event.sender event.message)
    ∙ sym (state_answers node other event also taken)

pub kept_follows : KeptFollows
kept_follows node one other event longer also same =
    ap lower (state_follows node one event longer)
    ∙ ap (λ s. lower (after node s event)) same
    ∙ sym (ap lower (state_follows node other event also))

-- the round of one is no greater than that of the other
at_most : (node : Node) (one other : History) → IsLegal node one → IsLegal node other → KeepSame node one other → round node one ≤ round node other
at_most node one other legal also same =
    let r = round node one - 1 in
    let here = agree node (whole node one) (in_place node one) in
    let there = agree node (whole node other) (in_place node other) in
    let low = below_high (floor node one) (round node one) (round_high node one legal) in
    let floors : floor node one ≡ floor node other =
    kept_floor node (whole node one) (members_some node legal.sound) (in_place node one)
    ∙ ap (λ (s : State). floor_in node s) same
    ∙ sym (kept_floor node (whole node other) (members_some node also.sound) (in_place node other)) in
    let full : is_full node (slots node other) r ≡ true =
    ap (λ (f : ℕ → Option Certificate). nat_le (quorum node) (weight node.charter (λ author. is_some (f author))))
    (fun_ext (λ author. there.same r author (omega (arith, low, floors)) ∙ ap (λ (s : State). s.slots r author) (sym same) ∙ sym (here.same r author low)))
    ∙ below_full node one legal.sound in
    let above = round_above node other also.sound r full in
    omega (arith, above)

pub kept_proposes : KeptProposes
kept_proposes node one other legal also same =
    let most = at_most node one other legal also same in
    let least = at_most node other one also legal (sym same) in
    let rounds : round node one ≡ round node other = omega (arith, most, least) in
    let here = state_proposes node one legal in
    let there = state_proposes node other also in (
      rounds,
      sym here.proposed ∙ ap (propose_of node (kept node one)) (here.round ∙ rounds) ∙ ap (λ (s : State). propose_of node s (round node other)) same
          ∙ sym (sym there.proposed ∙ ap (propose_of node (kept node other)) there.round),
    )
