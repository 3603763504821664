-- What is kept of a legal history answers each event as admission does.
use Rattle.std.proofs.Common.{◌≡◌, ℕ, ◌+◌, ◌-◌, ◌*◌, ◌≤◌, arith, Bool, true, false, List, [], ◌∷◌, ◌++◌, map, length, drop, Option, Some, None, inl, inr, refl, ap, sym, ◌∙◌}
use Rattle.std.proofs.Math.Path.{fun_ext}
use Rattle.std.specs.Prelude.{◌==◌, ◌&&◌, ◌||◌, not, nat_le, nat_lt, slice_get, is_some, option_map, option_and_then, if◌then◌else◌}
use Rattle.std.specs.List.{list_all}
use Rattle.std.specs.Option.{option_map_or, option_or, option_to_list}
use Rattle.std.proofs.lemmas.Bool.{cases_Bool, cases_lt, and_from, eqb-true, lt-ltb, le-leb}
use Rattle.wire.specs.declared.message.Message.TheVariants as message
use Rattle.wire.specs.declared.output.Output.TheVariants as output
use Rattle.committee.specs.Charter.{weight}
use Rattle.spec_model.specs.Admitting.{when◌gives◌else◌, admit, is_new, is_own, header_outputs, vote_outputs, order_outputs, pieces, may_name}
use Rattle.spec_model.specs.Admitting.{known_header_answer, held_header_answer, voted_answer, held_answer, held_certificate_answer, IsTaken, IsLegal}
use Rattle.spec_model.specs.Giving.{collected, kept}
use Rattle.spec_model.specs.Histories.{History, coins}
use Rattle.spec_model.specs.Holdings.{certificate_by, slots, floor, is_low, is_full, is_held, all_held}
use Rattle.spec_model.specs.Nodes.{Node, quorum}
use Rattle.spec_model.specs.Ordering.{top}
use Rattle.spec_model.specs.Slots.{Slots, same_digest, header_digest, certificate_digest}
use Rattle.spec_model.specs.States.{State, whole, ledger_in, completed_at, floor_in}
use Rattle.spec_model.specs.Words.{Author, Certificate, Coin, Digest, Event, Header, HeaderBody, Message, Output, ParentReference, Vote}
use Rattle.header.specs.declared.admission.Admission.{Admission}
use Rattle.header.specs.declared.admission.Admission.TheVariants.{New, Known, Refused}
use Rattle.header.specs.declared.refusal.Refusal.TheVariants.{TooOld, MissingParents, MissingBatch, NotOurs, CoinOutOfTurn, CoinEarly, CoinConflict}
use Rattle.spec_laws.proofs.Closed.{floor_of, in_place, or_right}
use Rattle.spec_laws.proofs.Legal.{Adds, legal-push}
use Rattle.spec_laws.proofs.Lists.{given_or_none}
use Rattle.spec_laws.proofs.OrderGrows.{members_some}
use Rattle.spec_laws.proofs.OrderLonger.{is_top_of}
use Rattle.spec_machine.specs.Laws.{StateAnswers, StateIsReady}
use Rattle.spec_machine.specs.Machine.{header_at, vote_at, grown, answered, is_missing_parents}
use Rattle.spec_machine.proofs.Collected.{high_above, agree, kept_floor, unless, same_order}
use Rattle.spec_machine.proofs.Following.{is_next}
use Rattle.spec_machine.proofs.Grown.{whole_grows}

-- ---- parents

pub held_alike : (low round : ℕ) (one other : Slots) → ((r a : ℕ) → low ≤ r → one r a ≡ other r a) → (p : ParentReference) → is_held one low round p ≡ is_held other low round p
held_alike low round one other same p =
    elim (cases_lt (round - 1) low) [
      | inl below ↦
          let under : nat_lt 0 low && nat_le (round - 1) low ≡ true = and_from _ _ (lt-ltb 0 low (omega (arith, below))) (le-leb (round - 1) low (omega (arith, below))) in
          or_right (option_map_or (λ c. same_digest (certificate_digest c.header) p.certificate) (one (round - 1) p.author.0) false) (nat_lt 0 low && nat_le (round - 1) low) under
          ∙ sym (or_right (option_map_or (λ c. same_digest (certificate_digest c.header) p.certificate) (other (round - 1) p.author.0) false) (nat_lt 0 low && nat_le (round - 1) low) under)
      | inr above ↦
          ap (λ o. option_map_or (λ c. same_digest (certificate_digest c.header) p.certificate) o false || (nat_lt 0 low && nat_le (round - 1) low)) (same (round - 1) p.author.0 above)
    ]

-- ---- answers that give out something only where they are new

record IsByOutputs (answer : List Output → Admission) : Type 0 where
  only_new : (one other : List Output) → (is_new (answer one) ≡ true → one ≡ other) → answer one ≡ answer other

-- what is kept, and what holds of it
record IsKept (node : Node) (history : History) : Type 0 where
  legal : IsLegal node history
  floors : floor node history ≡ floor_in node (kept node history)
  same : (round author : ℕ) → floor node history ≤ round → slots node history round author ≡ (kept node history).slots round author

is_kept : (node : Node) (history : History) → IsLegal node history → IsKept node history
is_kept node history legal = record {
  legal = legal;
  floors = kept_floor node (whole node history) (members_some node legal.sound) (in_place node history);
  same = (agree node (whole node history) (in_place node history)).same;
}

held_same : (node : Node) (history : History) → IsKept node history → (header : HeaderBody)
    → all_held (slots node history) (floor node history) header ≡ all_held (kept node history).slots (floor_in node (kept node history)) header
held_same node history is header =
    ap (λ (f : ParentReference → Bool). list_all f header.parents)
    (fun_ext (λ p. held_alike (floor node history) header.round (slots node history) (kept node history).slots is.same p))
    ∙ ap (λ f. all_held (kept node history).slots f header) is.floors

-- an answer by what is put out: the history's is that of what is kept, where what is put out is the same if it is new
by_outputs : (node : Node) (history : History) (event : Event) → IsLegal node history → IsTaken node event
    → (answer : List Output → Admission) → IsByOutputs answer → (outputs others : List Output) → admit node history event ≡ answer outputs → answered node (kept node history) event ≡ answer others
    → (Adds node history event → outputs ≡ others) → admit node history event ≡ answered node (kept node history) event
by_outputs node history event legal taken answer by outputs others is is' same =
    is ∙ by.only_new outputs others (λ new.
    let fresh = ap is_new is ∙ new in
    same (record { legal = legal; longer = legal-push node history event legal taken fresh; taken = taken; new = fresh })) ∙ sym is'

-- what a new event adds to the order is put out alike
outputs_same : (node : Node) (history : History) (event : Event) → Adds node history event
    → order_outputs (whole node history) (whole node (history ++ event ∷ [])) ≡ order_outputs (kept node history) (grown node (kept node history) event.message)
outputs_same node history event adds =
    let now = whole node history in
    ap (λ (s : State). pieces (length now.order) (drop (length now.order) s.order)) (sym (whole_grows node history event adds))
    ∙ ap (λ o. pieces (length now.order) (drop (length now.order) o)) (same_order node now event.message (is_next node history event adds))

-- ---- headers

abbrev header_by : Node → Header → Bool → Option Admission → Bool → Bool → Admission
header_by node header low known held named =
    if low then Refused TooOld
    else when known gives (λ answer. answer)
    else if not held then Refused MissingParents
    else if not named then Refused MissingBatch
    else New (header_outputs node header)

known_same : (node : Node) (history : History) (header : Header) → is_low (floor node history) header.body.round ≡ false
    → known_header_answer node (whole node history) header ≡ known_header_answer node (kept node history) header
known_same node history header high =
    let now = whole node history in
    let round = header.body.round in
    let author = header.body.author.0 in
    let by : Option Header → Option Digest → Option Admission = λ held voted.
    if is_own node header.body.author then option_map (λ h. held_header_answer node h header) held else option_map (λ d. voted_answer node d header) voted in
    ap (λ o. by o (now.votes round author)) (sym (unless (floor node history) round (now.own_headers round) high))
    ∙ ap (by ((kept node history).own_headers round)) (sym (unless (floor node history) round (now.votes round author) high))

header_same : (node : Node) (history : History) (sender : Author) (header : Header) → IsKept node history
    → admit node history (record { sender = sender; message = message.Header header }) ≡ answered node (kept node history) (record { sender = sender; message = message.Header header })
header_same node history sender header is =
    let now = whole node history in
    let keeps = kept node history in
    let round = header.body.round in
    let low = is_low (floor node history) round in
    let held = all_held (slots node history) (floor node history) header.body in
    let named = list_all (may_name node now header) header.body.batches in
    let lows : low ≡ is_low (floor_in node keeps) round = ap (λ f. is_low f round) is.floors in
    let first : admit node history (record { sender = sender; message = message.Header header }) ≡ header_by node header low (known_header_answer node now header) held named = refl in
    first ∙ ap (λ h. header_by node header low (known_header_answer node now header) h named) (held_same node history is header.body)
    ∙ elim (cases_Bool low) [
      | inl under ↦
          ap (λ b. header_by node header b (known_header_answer node now header) (all_held keeps.slots (floor_in node keeps) header.body) named) under
          ∙ sym (ap (λ b. header_by node header b (known_header_answer node keeps header) (all_held keeps.slots (floor_in node keeps) header.body) named) (sym lows ∙ under))
      | inr high ↦
          ap (λ k. header_by node header low k (all_held keeps.slots (floor_in node keeps) header.body) named) (known_same node history header high)
          ∙ ap (λ b. header_by node header b (known_header_answer node keeps header) (all_held keeps.slots (floor_in node keeps) header.body) named) lows
    ]

-- ---- certificates

abbrev certificate_answer_by : Certificate → Bool → Option Certificate → Bool → List Output → Admission
certificate_answer_by certificate low found held outputs =
    if low then Refused TooOld
    else when found gives (λ other. held_certificate_answer other certificate)
    else if not held then Refused MissingParents
    else New outputs

certificate_outputs : (certificate : Certificate) (low : Bool) (found : Option Certificate) (held : Bool) → IsByOutputs (certificate_answer_by certificate low found held)
certificate_outputs certificate true found held = record { only_new = λ one other same. refl }
certificate_outputs certificate false (Some first) held = record { only_new = λ one other same. refl }
certificate_outputs certificate false None true = record { only_new = λ one other same. ap (λ o. New o) (same refl) }
certificate_outputs certificate false None false = record { only_new = λ one other same. refl }

certificate_same : (node : Node) (history : History) (sender : Author) (certificate : Certificate) → IsKept node history
    → IsTaken node (record { sender = sender; message = message.Certificate certificate })
    → admit node history (record { sender = sender; message = message.Certificate certificate })
    ≡ answered node (kept node history) (record { sender = sender; message = message.Certificate certificate })
certificate_same node history sender certificate is taken =
    let event : Event = record { sender = sender; message = message.Certificate certificate } in
    let keeps = kept node history in
    let header = certificate.header in
    let low = is_low (floor node history) header.round in
    let held = all_held keeps.slots (floor_in node keeps) header in
    let found = slots node history header.round header.author.0 in
    let outputs = order_outputs (whole node history) (whole node (history ++ event ∷ [])) in
    let others = order_outputs keeps (grown node keeps event.message) in
    let lows : low ≡ is_low (floor_in node keeps) header.round = ap (λ f. is_low f header.round) is.floors in
    let first : admit node history event ≡ certificate_answer_by certificate low found held outputs =
    ap (λ h. certificate_answer_by certificate low found h outputs) (held_same node history is header) in
    elim (cases_Bool low) [
      | inl under ↦
          first ∙ ap (λ b. certificate_answer_by certificate b found held outputs) under
          ∙ sym (ap (λ b. certificate_answer_by certificate b (keeps.slots header.round header.author.0) held others) (sym lows ∙ under))
      | inr high ↦
          by_outputs node history event is.legal taken (certificate_answer_by certificate low (keeps.slots header.round header.author.0) held)
          (certificate_outputs certificate low (keeps.slots header.round header.author.0) held) outputs others
          (first ∙ ap (λ o. certificate_answer_by certificate low o held outputs) (is.same header.round header.author.0 (high_above (floor node history) header.round high)))
          (ap (λ b. certificate_answer_by certificate b (keeps.slots header.round header.author.0) held others) (sym lows))
          (outputs_same node history event)
    ]

-- ---- coins

abbrev coin_by : Bool → Coin → Option ℕ → Bool → Bool → List Output → Admission
coin_by own coin first in_turn full outputs =
    if not own then Refused NotOurs
    else when first gives (λ taken. if taken == coin.value then Known [] else Refused CoinConflict)
    else if not in_turn then Refused CoinOutOfTurn
    else if not full then Refused CoinEarly
    else New outputs

coin_outputs : (own : Bool) (coin : Coin) (first : Option ℕ) (in_turn full : Bool) → IsByOutputs (coin_by own coin first in_turn full)
coin_outputs false coin first in_turn full = record { only_new = λ one other same. refl }
coin_outputs true coin (Some taken) in_turn full = record { only_new = λ one other same. refl }
coin_outputs true coin None true true = record { only_new = λ one other same. ap (λ o. New o) (same refl) }
coin_outputs true coin None true false = record { only_new = λ one other same. refl }
coin_outputs true coin None false full = record { only_new = λ one other same. refl }

-- out of turn it is all the same whether the round is full
out_of_turn : (own : Bool) (coin : Coin) (first : Option ℕ) (full other : Bool) (outputs : List Output) → coin_by own coin first false full outputs ≡ coin_by own coin first false other outputs
out_of_turn false coin first full other outputs = refl
out_of_turn true coin (Some taken) full other outputs = refl
out_of_turn true coin None full other outputs = refl

-- the floor lies below the round that a coin in turn asks for
floor_within : (node : Node) (state : State) → floor_in node state ≤ 2 * length state.coins
floor_within node state =
    elim (given_or_none (top (ledger_in node state))) [
      | inr none ↦ let is : floor_in node state ≡ 0 = ap (floor_of node) none in omega (arith, is)
      | inl found ↦
          let is : floor_in node state ≡ (2 * found.0 - 1) - node.charter.depth = ap (floor_of node) found.1 in
          let within = (is_top_of (ledger_in node state) (length state.coins) found.0 found.1).within in
          omega (arith, is, within)
    ]

coin_same : (node : Node) (history : History) (sender : Author) (coin : Coin) → IsKept node history → IsTaken node (record { sender = sender; message = message.Coin coin })
    → admit node history (record { sender = sender; message = message.Coin coin }) ≡ answered node (kept node history) (record { sender = sender; message = message.Coin coin })
coin_same node history sender coin is taken =
    let event : Event = record { sender = sender; message = message.Coin coin } in
    let keeps = kept node history in
    let own = is_own node sender in
    let in_turn = coin.wave == length (coins history) + 1 in
    let round = 2 * coin.wave + 1 in
    let full : Slots → Bool = λ s. is_full node s round in
    let first = slice_get (coins history) (coin.wave - 1) in
    let outputs = order_outputs (whole node history) (whole node (history ++ event ∷ [])) in
    let others = order_outputs keeps (grown node keeps event.message) in
    let same_full : coin_by own coin first in_turn (full (slots node history)) outputs ≡ coin_by own coin first in_turn (full keeps.slots) outputs =
    elim (cases_Bool in_turn) [
      | inl turn ↦
          let wave = eqb-true _ _ turn in
          let within = floor_within node (whole node history) in
          ap (λ (f : ℕ → Option Certificate). coin_by own coin first in_turn (nat_le (quorum node) (weight node.charter (λ author. is_some (f author)))) outputs)
          (fun_ext (λ author. is.same round author (omega (arith, wave, within))))
      | inr out ↦
          ap (λ b. coin_by own coin first b (full (slots node history)) outputs) out ∙ out_of_turn own coin first (full (slots node history)) (full keeps.slots) outputs
          ∙ sym (ap (λ b. coin_by own coin first b (full keeps.slots) outputs) out)
    ] in
    by_outputs node history event is.legal taken (coin_by own coin first in_turn (full keeps.slots)) (coin_outputs own coin first in_turn (full keeps.slots)) outputs others
    same_full refl (outputs_same node history event)

-- ---- votes

abbrev on_header : Vote → Bool → Option Certificate → Bool → List Output → Admission
on_header vote same slot counted outputs =
    if not same then Refused NotOurs
    else when slot gives (λ held. held_answer held vote)
    else if counted then Known []
    else New outputs

abbrev vote_by : Bool → Vote → Bool → Option Header → Option Certificate → Bool → List Output → Admission
vote_by own vote low found slot counted outputs =
    if not own then Refused NotOurs
    else if low then Refused TooOld
    else when found gives (λ header. on_header vote (same_digest (header_digest header.body) vote.header) slot counted outputs)
    else Refused NotOurs

on_header_outputs : (vote : Vote) (same : Bool) (slot : Option Certificate) (counted : Bool) → IsByOutputs (on_header vote same slot counted)
on_header_outputs vote false slot counted = record { only_new = λ one other same. refl }
on_header_outputs vote true (Some held) counted = record { only_new = λ one other same. refl }
on_header_outputs vote true None true = record { only_new = λ one other same. refl }
on_header_outputs vote true None false = record { only_new = λ one other same. ap (λ o. New o) (same refl) }

vote_by_outputs : (own : Bool) (vote : Vote) (low : Bool) (found : Option Header) (slot : Option Certificate) (counted : Bool) → IsByOutputs (vote_by own vote low found slot counted)
vote_by_outputs false vote low found slot counted = record { only_new = λ one other same. refl }
vote_by_outputs true vote true found slot counted = record { only_new = λ one other same. refl }
vote_by_outputs true vote false None slot counted = record { only_new = λ one other same. refl }
vote_by_outputs true vote false (Some header) slot counted = on_header_outputs vote (same_digest (header_digest header.body) vote.header) slot counted

-- the certificate that a new vote completes is the same
completed_same : (node : Node) (state : State) (m : Message) (round : ℕ) → is_low (floor_in node state) round ≡ false
    → completed_at node (grown node state m) round ≡ completed_at node (grown node (collected node state) m) round
completed_same node state m round high =
    let floor = floor_in node state in
    let later = grown node state m in
    let headers = ap (λ o. option_or o (header_at m round node.own.0)) (sym (unless floor round (state.own_headers round) high)) in
    ap (option_and_then (certificate_by node (later.counted round))) headers
    ∙ ap (λ counted. option_and_then (certificate_by node counted) ((grown node (collected node state) m).own_headers round))
    (fun_ext (λ voter. ap (λ o. option_or o (vote_at node m round voter)) (sym (unless floor round (state.counted round voter) high))))

vote_same : (node : Node) (history : History) (sender : Author) (vote : Vote) → IsKept node history → IsTaken node (record { sender = sender; message = message.Vote vote })
    → admit node history (record { sender = sender; message = message.Vote vote }) ≡ answered node (kept node history) (record { sender = sender; message = message.Vote vote })
vote_same node history sender vote is taken =
    let event : Event = record { sender = sender; message = message.Vote vote } in
    let now = whole node history in
    let keeps = kept node history in
    let own = is_own node vote.author in
    let round = vote.round in
    let low = is_low (floor node history) round in
    let outputs = vote_outputs node now (whole node (history ++ event ∷ [])) round in
    let others = vote_outputs node keeps (grown node keeps event.message) round in
    let lows : low ≡ is_low (floor_in node keeps) round = ap (λ f. is_low f round) is.floors in
    let counted = is_some (now.counted round vote.voter.0) in
    let counted' = is_some (keeps.counted round vote.voter.0) in
    elim (cases_Bool low) [
      | inl under ↦
          ap (λ b. vote_by own vote b (now.own_headers round) (now.slots round node.own.0) counted outputs) under
          ∙ sym (ap (λ b. vote_by own vote b (keeps.own_headers round) (keeps.slots round node.own.0) counted' others) (sym lows ∙ under))
      | inr high ↦
          by_outputs node history event is.legal taken (vote_by own vote low (keeps.own_headers round) (keeps.slots round node.own.0) counted')
          (vote_by_outputs own vote low (keeps.own_headers round) (keeps.slots round node.own.0) counted') outputs others
          (ap (λ o. vote_by own vote low o (now.slots round node.own.0) counted outputs) (sym (unless (floor node history) round (now.own_headers round) high))
          ∙ ap (λ o. vote_by own vote low (keeps.own_headers round) o counted outputs) (is.same round node.own.0 (high_above (floor node history) round high))
          ∙ ap (λ o. vote_by own vote low (keeps.own_headers round) (keeps.slots round node.own.0) (is_some o) outputs) (sym (unless (floor node history) round (now.counted round vote.voter.0) high)))
          (ap (λ b. vote_by own vote b (keeps.own_headers round) (keeps.slots round node.own.0) counted' others) (sym lows))
          (λ adds.
          ap (λ o. map (λ c. output.Certificate c) (option_to_list o) ++ order_outputs now (whole node (history ++ event ∷ [])))
          (ap (λ s. completed_at node s round) (sym (whole_grows node history event adds)) ∙ completed_same node now event.message round high)
          ∙ ap (λ l. map (λ c. output.Certificate c) (option_to_list (completed_at node (grown node keeps event.message) round)) ++ l) (outputs_same node history event adds))
    ]

-- ---- all of them

same_by : (node : Node) (history : History) (sender : Author) (m : Message) → IsKept node history → IsTaken node (record { sender = sender; message = m })
    → admit node history (record { sender = sender; message = m }) ≡ answered node (kept node history) (record { sender = sender; message = m })
same_by node history sender (message.Batch batch) is taken = refl
same_by node history sender (message.BatchAck ack) is taken = refl
same_by node history sender (message.Header header) is taken = header_same node history sender header is
same_by node history sender (message.Vote vote) is taken = vote_same node history sender vote is taken
same_by node history sender (message.Certificate certificate) is taken = certificate_same node history sender certificate is taken
same_by node history sender (message.Coin coin) is taken = coin_same node history sender coin is taken

pub state_answers : StateAnswers
state_answers node history event legal taken = same_by node history event.sender event.message (is_kept node history legal) taken

pub state_is_ready : StateIsReady
state_is_ready node history event legal taken = ap (λ answer. not (is_missing_parents answer)) (sym (state_answers node history event legal taken))
