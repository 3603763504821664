-- What a sound state proposes passes the checks, keeps all limits, and is new there.
use Rattle.std.proofs.Common.{◌≡◌, ℕ, suc, ◌-◌, ◌^◌, ◌<◌, ◌≤◌, true, false, List, [], ◌∷◌, map, take, length, Some, None, inl, inr, refl, ap, sym, ◌∙◌, subst, arith}
use Rattle.std.specs.Prelude.{All, AllPairs, Contains, find, not, filter_map, is_some, nat_le, nat_lt, sum_by, ◌==◌}
use Rattle.std.specs.List.{list_all}
use Rattle.std.specs.Option.{option_map_or}
use Rattle.std.proofs.lemmas.Bool.{cases_Bool, and_from, and_parts, leb-true, le-leb, lt-ltb}
use Rattle.std.proofs.lemmas.List.{length-map}
use Rattle.std.proofs.lemmas.List.Elements.{All-contains, All-contains_itself, All-weaker}
use Rattle.std.proofs.lemmas.List.FromFn.{length-range_with_len}
use Rattle.std.proofs.lemmas.Option.{same_Some, none-some, slice_get-get_or}
use Rattle.wire.specs.Fields.{IsDigest, IsNumber}
use Rattle.wire.specs.Grammar.{IsHeader}
use Rattle.wire.specs.References.{IsBatchReference, AreBatches, AreParents, digest_before}
use Rattle.wire.proofs.DigestLemmas.{are_digest_bytes}
use Rattle.wire.specs.declared.message.Message.TheVariants as message
use Rattle.committee.specs.Charter.{numbers, stake_of, weight, quorum_of}
use Rattle.header.specs.Checks.{fault_of, accepts_all, named_weight, is_member, is_worker, is_signed, header_signed}
use Rattle.spec_model.specs.Admitting.{header_outputs, is_own, may_name, IsTaken}
use Rattle.spec_model.specs.Holdings.{batch_digest, is_held, all_held}
use Rattle.spec_model.specs.Nodes.{Node, IsNode, size_of}
use Rattle.spec_model.specs.Proposing.{is_nameable, to_name, nameable, as_parent, proposal_of, signed}
use Rattle.spec_model.specs.Slots.{Slots, header_digest, round_of, same_digest}
use Rattle.spec_model.specs.States.{State, batch_in, is_available, floor_in}
use Rattle.spec_model.specs.Words.{BatchReference, Certificate, BatchView, Header, HeaderBody, ParentReference}
use Rattle.header.specs.declared.admission.Admission.TheVariants.{New}
use Rattle.spec_model.proofs.Placing.{take-rises}
use Rattle.spec_laws.specs.Laws.{own_event}
use Rattle.spec_laws.proofs.Closed.{or_right}
use Rattle.spec_laws.proofs.Growing.{AreInPlace}
use Rattle.spec_laws.proofs.Lists.{given_or_none, Contains-nothing, Contains-cases, Contains-made}
use Rattle.spec_laws.proofs.Meeting.{mapped_from, same_number}
use Rattle.spec_laws.proofs.Proposed.{all_from, taken_from, held_at_most, number_below, same_bytes, parent_held, passed_batch, all_placed_from, signature_taken, header_by_parts}
use Rattle.spec_laws.proofs.ProposedTaken.{all_placed-rise, few_taken, made_from}
use Rattle.spec_laws.proofs.Votes.{slot_is}
use Rattle.spec_laws.proofs.Weighing.{made_weigh, sum_mapped}
use Rattle.spec_machine.specs.Laws.{SoundProposes}
use Rattle.spec_machine.specs.Machine.{answered, proposed, round_in}
use Rattle.spec_machine.specs.Sound as sound
use Rattle.spec_machine.specs.Sound.{IsSound}
use Rattle.spec_machine.proofs.SoundRounds.{open_round}

-- the body that a state proposes
abbrev proposal_in : Node → State → HeaderBody
proposal_in node state = proposal_of node state (round_in node state)

-- ---- parents

-- what is of the round below
record IsBelow (node : Node) (state : State) (p : ParentReference) : Type 0 where
  member : p.author.0 < size_of node
  held : is_held state.slots (floor_in node state) (round_in node state) p ≡ true

parents_below : (node : Node) (state : State) → AreInPlace state.slots → (p : ParentReference) → Contains (proposal_in node state).parents p → IsBelow node state p
parents_below node state places p inside =
    let n = size_of node in
    let r = round_in node state - 1 in
    let from = mapped_from as_parent (round_of n state.slots r) p inside in
    let made = Contains-made (state.slots r) (numbers n) from.0 from.1 in
    let place = slot_is r made.0 from.0.header (places r made.0 from.0 made.2) in
    let below = number_below 0 n made.0 made.1 in
    subst (IsBelow node state) from.2 (record {
      member = omega (arith, below, place.1);
      held = parent_held state.slots (floor_in node state) (round_in node state) made.0 from.0 place.1 made.2;
    })

-- the certificates of a round as parents weigh what their authors do
parents_weigh : (node : Node) (slots : Slots) → IsNode node → AreInPlace slots → (r : ℕ)
    → sum_by (λ p. named_weight node.charter p.author) (map as_parent (round_of (size_of node) slots r)) ≡ weight node.charter (λ a. is_some (slots r a))
parents_weigh node slots sound places r =
    let charter = node.charter in
    let weigh : Certificate → ℕ = λ c. named_weight charter c.header.author in
    sum_mapped as_parent (λ p. named_weight charter p.author) (round_of (size_of node) slots r)
    ∙ made_weigh charter (slots r) weigh
    (λ m c held within.
    let place = slot_is r m c.header (places r m c held) in
    let there : c.header.author.0 < length charter.stakes = omega (arith, place.1, within, sound.charter.staked) in
    let is = slice_get-get_or charter.stakes c.header.author.0 0 there in
    let here : named_weight charter c.header.author ≡ stake_of charter c.header.author.0 = rw is refl in
    here ∙ ap (stake_of charter) place.1)
    0 (size_of node) (omega arith)

-- they keep the limits
are_parents : (node : Node) (state : State) → IsNode node → AreInPlace state.slots → AreParents (proposal_in node state).parents
are_parents node state sound places =
    let n = size_of node in
    let r = round_in node state - 1 in
    let most = sound.charter.size.1 in
    let made = made_from (state.slots r) (λ a c held. (slot_is r a c.header (places r a c held)).1) 0 n in
    record {
      few = omega (arith, made.few, most);
      each = λ i d within.
          let bound = (made.each i d within).1 in
          record { author = omega (arith, bound, most); certificate = made.digests i d within };
      rise = made.rise;
    }

-- ---- batches

-- where no digest stands twice a batch is the one of its digest
one_batch : (batches : List BatchView) → AllPairs (λ one other. same_digest (batch_digest one) (batch_digest other) ≡ false) batches → (batch : BatchView) → Contains batches batch
    → find (λ b. same_digest (batch_digest b) (batch_digest batch)) batches ≡ Some batch
one_batch [] distinct batch inside = absurd (Contains-nothing batch inside)
one_batch (first ∷ rest) distinct batch inside =
    elim (Contains-cases first rest batch inside) [
      | inl is ↦
          let here : same_digest (batch_digest first) (batch_digest batch) ≡ true = ap (λ b. same_digest (batch_digest first) (batch_digest b)) (sym is) ∙ same_bytes (batch_digest first).0 in
          rw here (ap (λ b. Some b) is)
      | inr later ↦
          let each : All (λ other. same_digest (batch_digest first) (batch_digest other) ≡ false) rest = λ k d within. distinct 0 (suc k) d (omega arith) (omega (arith, within)) in
          let other = All-contains (λ b. same_digest (batch_digest first) (batch_digest b) ≡ false) rest batch each later in
          rw other (one_batch rest (λ i j d less within. distinct (suc i) (suc j) d (omega (arith, less)) (omega (arith, within))) batch later)
    ]

-- what is named of a batch
record IsNamed (node : Node) (state : State) (named : BatchReference) : Type 0 where
  digest : IsDigest named.digest
  number : IsNumber named.worker
  batch : BatchView
  held : batch_in state named.digest ≡ Some batch
  worker : batch.worker ≡ named.worker
  known : is_worker node.charter named.worker ≡ true
  available : is_available node state named.digest ≡ true

-- a batch that is named is own, held and available
named_well : (node : Node) (state : State) → sound.AreBatches node state → (named : BatchReference) (batch : BatchView) → Contains state.batches batch
    → to_name node state batch ≡ Some named → IsNamed node state named
named_well node state good named batch inside names =
    let taken = All-contains (λ b. IsTaken node (record { sender = b.author; message = message.Batch b })) state.batches batch good.passed inside in
    let worker = passed_batch node batch.author (message.Batch batch) batch taken refl in
    elim (cases_Bool (is_nameable node state batch)) [
      | inl may ↦
          let is = rw may at names in
          let same : record { digest = batch_digest batch; worker = batch.worker } ≡ named = same_Some (record { digest = batch_digest batch; worker = batch.worker }) named is in
          let parts = and_parts _ _ (and_parts (batch.author.0 == node.own.0) _ may).1 in
          subst (IsNamed node state) same (record {
            digest = are_digest_bytes _;
            number = taken.message.worker;
            batch = batch;
            held = one_batch state.batches good.distinct batch inside;
            worker = refl;
            known = worker;
            available = parts.0;
          })
      | inr not ↦ let nothing = rw not at names in absurd (none-some named nothing)
    ]

batches_named : (node : Node) (state : State) → sound.AreBatches node state → (named : BatchReference) → Contains (proposal_in node state).batches named → IsNamed node state named
batches_named node state good named inside =
    elim (all_placed_from [] (filter_map (to_name node state) state.batches) named (taken_from 128 (nameable node state) named inside)) [
      | inl none ↦ absurd (Contains-nothing named none)
      | inr among ↦ let from = Contains-made (to_name node state) state.batches named among in named_well node state good named from.0 from.1 from.2
    ]

may_be_named : (node : Node) (state : State) (header : Header) (named : BatchReference) → IsNamed node state named → may_name node state header named ≡ true
may_be_named node state header named is =
    let same : (is.batch.worker == named.worker) ≡ true = ap (λ w. w == named.worker) is.worker ∙ same_number named.worker in
    and_from _ _ (ap (λ o. option_map_or (λ b. b.worker == named.worker) o false) is.held ∙ same) (or_right (not (is_own node header.body.author)) (is_available node state named.digest) is.available)

-- they keep the limits
are_batches : (node : Node) (state : State) → sound.AreBatches node state → AreBatches (proposal_in node state).batches
are_batches node state good =
    let all = nameable node state in
    let named = take 128 all in
    record {
      few = few_taken 128 all;
      each = All-weaker (Contains named) IsBatchReference
          (λ b inside. let is = batches_named node state good b inside in record { digest = is.digest; worker = is.number }) named (All-contains_itself named);
      rise = take-rises (λ a b. digest_before a.digest b.digest) 128 all (all_placed-rise [] (filter_map (to_name node state) state.batches) refl);
    }

-- ---- the proposal

-- it has an own header's parts
record IsProposal (node : Node) (state : State) (header : Header) : Type 0 where
  within : round_in node state ≤ 2 ^ 48
  is : signed node (proposal_in node state) ≡ header
  free : state.own_headers (round_in node state) ≡ None

proposal_is : (node : Node) (state : State) (header : Header) → proposed node state ≡ Some header → IsProposal node state header
proposal_is node state header is =
    elim (given_or_none (state.own_headers (round_in node state))) [
      | inl found ↦ let nothing = rw found.1 at is in absurd (none-some header nothing)
      | inr none ↦
          let is' = rw none at is in
          elim (cases_Bool (nat_lt (2 ^ 48) (round_in node state))) [
            | inl past ↦ let nothing = rw past at is' in absurd (none-some header nothing)
            | inr within ↦ let is'' = rw within at is' in record { within = grind (arith, within); is = same_Some (signed node (proposal_in node state)) header is''; free = none }
          ]
    ]

passes : (node : Node) (state : State) → IsNode node → IsSound node state → fault_of node.charter accepts_all (own_event node (signed node (proposal_in node state))) ≡ None
passes node state known good =
    let n = size_of node in
    let r = round_in node state - 1 in
    let body = proposal_in node state in
    let places = good.certificates.placed in
    let member : is_member node.charter node.own ≡ true = lt-ltb _ _ known.member in
    let own = same_number node.own.0 in
    let enough = leb-true _ _ (open_round node state known good.certificates).full in
    let size = length-map (round_of n state.slots r) as_parent in
    let most = held_at_most (state.slots r) (numbers n) in
    let many = length-range_with_len 0 n in
    let quorum : nat_le (quorum_of node.charter) (sum_by (λ p. named_weight node.charter p.author) body.parents) ≡ true =
    le-leb _ _ (omega (arith, enough, parents_weigh node state.slots known places r)) in
    let few : nat_le (length body.parents) n ≡ true = le-leb _ _ (omega (arith, most, size, many)) in
    let members : list_all (λ p. is_member node.charter p.author) body.parents ≡ true =
    all_from (λ p. is_member node.charter p.author) body.parents (λ p inside. lt-ltb _ _ (parents_below node state places p inside).member) in
    let workers : list_all (λ b. is_worker node.charter b.worker) body.batches ≡ true =
    all_from (λ b. is_worker node.charter b.worker) body.batches (λ b inside. (batches_named node state good.batches b inside).known) in
    let signature : is_signed node.charter accepts_all node.own (header_signed body) (node.sign (header_digest body)) ≡ true = signature_taken node known (signed node body) refl in
    rw (member, own, quorum, few, members, workers, signature) refl

within_limits : (node : Node) (state : State) → IsNode node → IsSound node state → round_in node state ≤ 2 ^ 48 → IsHeader (signed node (proposal_in node state))
within_limits node state known good within =
    let member = known.member in
    let most = known.charter.size.1 in
    record {
      body = record {
        author = omega (arith, member, most);
        round = within;
        batches = are_batches node state good.batches;
        parents = are_parents node state known good.certificates.placed;
      };
      signature = known.signatures (header_digest (proposal_in node state));
    }

is_new_there : (node : Node) (state : State) → IsNode node → IsSound node state → state.own_headers (round_in node state) ≡ None
    → answered node state (own_event node (signed node (proposal_in node state))) ≡ New (header_outputs node (signed node (proposal_in node state)))
is_new_there node state known good free =
    let body = proposal_in node state in
    let header = signed node body in
    let high = (open_round node state known good.certificates).high in
    let held : all_held state.slots (floor_in node state) body ≡ true =
    all_from (is_held state.slots (floor_in node state) body.round) body.parents (λ p inside. (parents_below node state good.certificates.placed p inside).held) in
    let named : list_all (may_name node state header) body.batches ≡ true =
    all_from (may_name node state header) body.batches (λ b inside. may_be_named node state header b (batches_named node state good.batches b inside)) in
    header_by_parts node state header high (same_number node.own.0) free held named

pub sound_proposes : SoundProposes
sound_proposes node state header known good is =
    let parts = proposal_is node state header is in
    subst (λ h. IsTaken node (own_event node h) × (answered node state (own_event node h) ≡ New (header_outputs node h))) parts.is
    (record { message = within_limits node state known good parts.within; passed = passes node state known good }, is_new_there node state known good parts.free)
