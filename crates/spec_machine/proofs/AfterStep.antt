-- What the state after a step keeps: its slots extend those from before, its floor is no lower, and parents that were held stay held.
use Rattle.std.proofs.Common.{◌≡◌, ℕ, ◌+◌, ◌<◌, ◌≤◌, true, false, Option, Some, None, ◌⊎◌, inl, inr, ap, sym, ◌∙◌, subst, arith}
use Rattle.std.specs.Prelude.{◌==◌, ◌&&◌, nat_lt, option_and_then, if◌then◌else◌}
use Rattle.std.specs.List.{list_any}
use Rattle.std.specs.Option.{option_to_list}
use Rattle.std.proofs.lemmas.Bool.{cases_Bool, and_parts, eqb-true, true≢false}
use Rattle.std.proofs.lemmas.Option.{same_Some, none-some}
use Rattle.wire.specs.declared.message.Message.TheVariants as message
use Rattle.spec_model.specs.Admitting.{IsTaken}
use Rattle.spec_model.specs.Giving.{unless_low, collected}
use Rattle.spec_model.specs.Holdings.{certificate_by, is_low, is_held, all_held}
use Rattle.spec_model.specs.Nodes.{Node, size_of}
use Rattle.spec_model.specs.Slots.{same_digest, header_digest, is_of_slot, slots_of, is_named, is_parent}
use Rattle.spec_model.specs.States.{State, floor_in}
use Rattle.spec_model.specs.Words.{Author, Certificate, HeaderBody, Message}
use Rattle.spec_laws.proofs.Closed.{low_parent, held_stays, all_stay}
use Rattle.spec_laws.proofs.Growing.{Extends}
use Rattle.spec_laws.proofs.OrderGrows.{members_some}
use Rattle.spec_laws.proofs.Votes.{slot_is}
use Rattle.spec_machine.specs.Machine.{certificate_of, grown}
use Rattle.spec_machine.specs.Sound.{IsSound}
use Rattle.spec_machine.proofs.Answering.{held_alike}
use Rattle.spec_machine.proofs.Collected.{IsHigh, IsNext, agree, kept_floor, placed_with, floor_rises, not_below}
use Rattle.spec_machine.proofs.Completing.{AreOfVoters, own_passes, made}
use Rattle.spec_machine.proofs.NewThere.{new_vote, new_certificate}
use Rattle.spec_machine.proofs.Passing.{certificate_from}
use Rattle.spec_machine.proofs.Step.{IsStep, or_left, or_cases, given_where, certificate_new, counted_grown}

-- ---- the certificate that a step adds

-- its slot was free, its parents are held, it isn't low, and it passes the checks
pub record IsAddedWell (node : Node) (state : State) (certificate : Certificate) : Type 0 where
  pub free : state.slots certificate.header.round certificate.header.author.0 ≡ None
  pub held : all_held state.slots (floor_in node state) certificate.header ≡ true
  pub high : is_low (floor_in node state) certificate.header.round ≡ false
  pub member : certificate.header.author.0 < size_of node
  pub taken : IsTaken node (record { sender = node.own; message = message.Certificate certificate })

of_voters : (node : Node) (state : State) (sender : Author) (m : Message) → IsStep node state sender m → (round : ℕ) → AreOfVoters ((grown node state m).counted round)
of_voters node state sender m step round voter vote held =
    let is = counted_grown node state sender m step round voter vote held in
    let by = (and_parts (is_of_slot vote.round vote.author.0 is.header.body) ((vote.voter.0 == voter) && same_digest vote.header (header_digest is.header.body)) is.on).1 in
    (eqb-true vote.voter.0 voter (and_parts (vote.voter.0 == voter) (same_digest vote.header (header_digest is.header.body)) by).0, is.signature)

pub added_well : (node : Node) (state : State) (sender : Author) (m : Message) → IsStep node state sender m → (certificate : Certificate)
    → certificate_of node state m ≡ Some certificate → IsAddedWell node state certificate
added_well node state sender m step certificate is =
    elim (certificate_new node state m certificate is) [
      | inl came ↦
          let step' = subst (λ x. IsStep node state sender x) came step in
          let new = new_certificate node state (grown node state (message.Certificate certificate)) certificate step'.new in
          let from = certificate_from node sender node.own certificate step.node_is.member step'.taken in
          record { free = new.free; held = new.held; high = new.high; member = from.0; taken = from.1 }
      | inr completed ↦
          let vote = completed.vote in
          let counted = (grown node state m).counted vote.round in
          let step' = subst (λ x. IsStep node state sender x) completed.is step in
          let new = new_vote node state (grown node state (message.Vote vote)) vote step'.new in
          let own = step.sound.votes.headers vote.round new.header new.held in
          let by : certificate_by node counted new.header ≡ Some certificate = sym (ap (option_and_then (certificate_by node counted)) new.held) ∙ completed.completes in
          let it = made node counted new.header certificate by in
          let place = slot_is vote.round node.own.0 new.header.body own.place in
          subst (IsAddedWell node state) it.is (record {
            free = ap (λ r. state.slots r new.header.body.author.0) place.0 ∙ ap (state.slots vote.round) place.1 ∙ new.free;
            held = own.held;
            high = ap (is_low (floor_in node state)) place.0 ∙ new.high;
            member = subst (λ a. a < size_of node) (sym place.1) step.node_is.member;
            taken = own_passes node node.own new.header counted step.node_is own.passed (of_voters node state sender m step vote.round) it.enough;
          })
    ]

-- ---- the slots

-- what one thing is in the slots of it alone
alone_is : (o : Option Certificate) (round author : ℕ) (c : Certificate) → slots_of (option_to_list o) round author ≡ Some c → (o ≡ Some c) × (is_of_slot round author c.header ≡ true)
alone_is (Some d) round author c found =
    let given = given_where (is_of_slot round author d.header) d c found in
    (ap (λ e. Some e) given.1, ap (λ (e : Certificate). is_of_slot round author e.header) (sym given.1) ∙ given.0)
alone_is None round author c found = absurd (none-some c found)

-- what a slot holds after a step it held, or it held nothing and the step adds it
pub record IsNewIn (node : Node) (state : State) (m : Message) (round author : ℕ) (c : Certificate) : Type 0 where
  pub free : state.slots round author ≡ None
  pub added : certificate_of node state m ≡ Some c
  pub place : is_of_slot round author c.header ≡ true

pub slot_cases : (node : Node) (state : State) (m : Message) (round author : ℕ) (c : Certificate) → (grown node state m).slots round author ≡ Some c
    → (state.slots round author ≡ Some c) ⊎ IsNewIn node state m round author c
slot_cases node state m round author c held =
    elim (or_cases (state.slots round author) (slots_of (option_to_list (certificate_of node state m)) round author) c held) [
      | inl old ↦ inl old
      | inr new ↦ let it = alone_is (certificate_of node state m) round author c new.1 in inr (record { free = new.0; added = it.0; place = it.1 })
    ]

pub slot_kept : (node : Node) (state : State) (m : Message) (round author : ℕ) (c : Certificate) → state.slots round author ≡ Some c → (grown node state m).slots round author ≡ Some c
slot_kept node state m round author c held = or_left (state.slots round author) (slots_of (option_to_list (certificate_of node state m)) round author) c held

-- what is held above the genesis has its parents held
held_above : (node : Node) (state : State) → IsSound node state → (round author : ℕ) (c : Certificate) → state.slots round author ≡ Some c → all_held state.slots (floor_in node state) c.header ≡ true
held_above node state sound round author c held =
    elim (sound.certificates.passed round author c held) [
      | inl first ↦ ap (λ (d : Certificate). all_held state.slots (floor_in node state) d.header) first
      | inr received ↦ received.held
    ]

extends : (node : Node) (state : State) (sender : Author) (m : Message) → IsStep node state sender m → Extends state.slots (grown node state m).slots
extends node state sender m step =
    let later = grown node state m in
    record {
      placed_before = step.sound.certificates.placed;
      placed_after = placed_with state.slots (certificate_of node state m) step.sound.certificates.placed;
      kept = slot_kept node state m;
      childless = λ round author c none new above other child held.
          elim (cases_Bool (is_parent c child)) [
            | inr not ↦ not
            | inl names ↦ elim (slot_cases node state m round author c new) [
              | inl old ↦ absurd (none-some c (sym none ∙ old))
              | inr fresh ↦
                  let well = added_well node state sender m step c fresh.added in
                  elim (slot_cases node state m above other child held) [
                    | inl old ↦
                        absurd (true≢false (sym (low_parent state.slots (floor_in node state) c child (held_above node state step.sound above other child old) well.free names) ∙ well.high))
                    | inr also ↦
                        let same : c ≡ child = same_Some c child (sym fresh.added ∙ also.added) in
                        let names' : is_parent c c ≡ true = ap (is_parent c) same ∙ names in
                        let round' = eqb-true _ _ (and_parts (c.header.round + 1 == c.header.round) (list_any (is_named c) c.header.parents) names').0 in
                        absurd (omega (arith, round'))
                  ]
            ]
          ];
    }

is_high : (node : Node) (state : State) (sender : Author) (m : Message) → IsStep node state sender m → IsHigh (floor_in node state) m
is_high node state sender (message.Vote vote) step = (new_vote node state (grown node state (message.Vote vote)) vote step.new).high
is_high node state sender (message.Certificate certificate) step = tt
is_high node state sender (message.Batch batch) step = tt
is_high node state sender (message.BatchAck ack) step = tt
is_high node state sender (message.Header header) step = tt
is_high node state sender (message.Coin coin) step = tt

pub step_next : (node : Node) (state : State) (sender : Author) (m : Message) → IsStep node state sender m → IsNext node state m
step_next node state sender m step = record { members = members_some node step.node_is; extends = extends node state sender m step; high = is_high node state sender m step }

-- ---- the state after the step

-- the state after a message
abbrev pub after_step : Node → State → Message → State
after_step node state m = collected node (grown node state m)

-- its floor, and what it keeps by that
pub record IsAfterStep (node : Node) (state : State) (m : Message) : Type 0 where
  pub floors : floor_in node (grown node state m) ≡ floor_in node (after_step node state m)
  pub rises : floor_in node state ≤ floor_in node (after_step node state m)
  pub held : (header : HeaderBody) → all_held state.slots (floor_in node state) header ≡ true → all_held (after_step node state m).slots (floor_in node (after_step node state m)) header ≡ true

held_after : (node : Node) (state : State) (m : Message) → IsNext node state m → (header : HeaderBody) → all_held state.slots (floor_in node state) header ≡ true
    → all_held (after_step node state m).slots (floor_in node (grown node state m)) header ≡ true
held_after node state m next header all =
    let low = floor_in node state in
    let high = floor_in node (grown node state m) in
    let same = agree node (grown node state m) next.extends.placed_after in
    all_stay (is_held state.slots low header.round) (is_held (after_step node state m).slots high header.round) header.parents
    (λ p held.
    sym (held_alike high header.round (grown node state m).slots (after_step node state m).slots same.same p)
    ∙ held_stays state.slots (grown node state m).slots low high header.round p next.extends.kept (floor_rises node state m next) held)
    all

pub is_after_step : (node : Node) (state : State) (m : Message) → IsNext node state m → IsAfterStep node state m
is_after_step node state m next =
    let floors = kept_floor node (grown node state m) next.members next.extends.placed_after in
    record {
      floors = floors;
      rises = subst (λ f. floor_in node state ≤ f) floors (floor_rises node state m next);
      held = λ header all. ap (λ f. all_held (after_step node state m).slots f header) (sym floors) ∙ held_after node state m next header all;
    }

-- what is found there for a round that isn't low was there before
pub found_high : {X : Type 0} (low other round : ℕ) (found : Option X) (x : X) → low ≡ other → unless_low low round found ≡ Some x → (is_low other round ≡ false) × (found ≡ Some x)
found_high low other round found x floors is =
    elim (cases_Bool (is_low low round)) [
      | inl under ↦ let nothing = rw under at is in absurd (none-some x nothing)
      | inr high ↦ let there = rw high at is in (ap (λ f. is_low f round) (sym floors) ∙ high, there)
    ]

pub still_found : {X : Type 0} (low other round : ℕ) (found : Option X) (x : X) → low ≡ other → is_low other round ≡ false → found ≡ Some x → unless_low low round found ≡ Some x
still_found low other round found x floors high is = ap (λ b. if b then None else found) (ap (λ f. is_low f round) floors ∙ high) ∙ is

-- and what a slot holds it held, at or above the floor
pub slot_found : (low other round : ℕ) (found : Option Certificate) (c : Certificate) → low ≡ other → (if nat_lt round low then None else found) ≡ Some c → (other ≤ round) × (found ≡ Some c)
slot_found low other round found c floors is =
    elim (cases_Bool (nat_lt round low)) [
      | inl under ↦ let nothing = rw under at is in absurd (none-some c nothing)
      | inr above ↦ let there = rw above at is in (not_under low other round floors above, there)
    ]
  where
    not_under : (low other round : ℕ) → low ≡ other → nat_lt round low ≡ false → other ≤ round
    not_under low other round floors above = grind (arith, floors, above)

pub slot_stays : (low other round : ℕ) (found : Option Certificate) (c : Certificate) → low ≡ other → other ≤ round → found ≡ Some c → (if nat_lt round low then None else found) ≡ Some c
slot_stays low other round found c floors above is = ap (λ b. if b then None else found) (not_below low round (omega (arith, floors, above))) ∙ is
