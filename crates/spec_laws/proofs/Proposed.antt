-- What is proposed at a legal history passes the checks, and is new there.
use Rattle.std.proofs.Common.{◌≡◌, ℕ, zero, suc, ◌+◌, ◌-◌, ◌*◌, ◌^◌, ◌<◌, ◌≤◌, arith, Bool, true, false, List, [], ◌∷◌, ◌++◌, map, take, length}
use Rattle.std.proofs.Common.{Option, Some, None, ◌⊎◌, inl, inr, refl, ap, sym, ◌∙◌, subst}
use Rattle.std.specs.Prelude.{Contains, filter, filter_map, fold, max, find, not, ◌==◌, nat_le, nat_lt, is_some, sum_by}
use Rattle.std.specs.List.{list_all, range_with_len}
use Rattle.std.specs.Option.{option_map_or, option_or, option_to_list}
use Rattle.std.specs.Str.{bytes_eq}
use Rattle.std.proofs.lemmas.Bool.{cases_Bool, cases_lt, and_parts, and_from, eqb-true, leb-true, le-leb, lt-ltb}
use Rattle.std.proofs.lemmas.Grind.{common_steps}
use Rattle.std.proofs.lemmas.Option.{same_Some, none-some, slice_get-get_or}
use Rattle.std.proofs.lemmas.List.{length-append, length-map}
use Rattle.std.proofs.lemmas.List.Elements.{All-contains, Contains-append_cases, Contains-append_left, Contains-push_cases}
use Rattle.std.proofs.lemmas.List.FromFn.{length-range_with_len}
use Rattle.std.proofs.lemmas.Slice.Eq.{bytes_eq-Decides}
use Rattle.committee.specs.Charter.{numbers, stake_of, weight, quorum_of}
use Rattle.committee.proofs.Weights.{weight-same, weight-within, weight-all, some_of_weight}
use Rattle.header.specs.Checks.{Accepts, test, fault_of, accepts_all, named_weight, is_member, is_worker, is_signed, header_signed}
use Rattle.wire.specs.Batches.{IsBatch}
use Rattle.wire.specs.Fields.{IsDigest, IsNumber}
use Rattle.wire.specs.Grammar.{IsMessage}
use Rattle.wire.specs.References.{digest_before, placed}
use Rattle.wire.proofs.DigestLemmas.{are_digest_bytes}
use Rattle.wire.specs.declared.message.Message.TheVariants as message
use Rattle.spec_model.specs.Admitting.{admit, is_new, is_own, batch_answer, coin_answer, header_answer, header_outputs, may_name, IsTaken, IsLegal}
use Rattle.spec_model.specs.Histories.{History, batches, headers, received, coins, as_batch, as_coin}
use Rattle.spec_model.specs.Holdings.{ledger_at, batch_digest, batch_at, voted_header, completed, certificates, genesis, slots, floor, round, is_low, is_full, is_held, all_held}
use Rattle.spec_laws.specs.Laws.{own_event, ProposalsAreNew, ProposalsPass, OwnVotesPass}
use Rattle.spec_model.specs.Nodes.{Node, IsNode, AreTied, size_of}
use Rattle.spec_model.specs.Ordering.{top}
use Rattle.spec_model.specs.Proposing.{is_nameable, to_name, nameable, as_parent, proposal, signed, propose}
use Rattle.spec_model.specs.States.{State, whole, is_available, floor_in}
use Rattle.spec_model.specs.Slots.{Slots, same_digest, header_digest, certificate_digest, is_of_slot, round_of}
use Rattle.spec_model.specs.Words.{Author, BatchReference, Certificate, Coin, BatchView, Digest, Event, Header, Message, ParentReference}
use Rattle.header.specs.declared.admission.Admission.TheVariants.{New}
use Rattle.spec_laws.proofs.Closed.{floor_of, in_place, kept_slot, coins_later, or_right}
use Rattle.spec_laws.proofs.Legal.{Adds, legal-induction}
use Rattle.spec_laws.proofs.Lists.{given_or_none, filter_map-push, found-push, Contains-nothing, Contains-cases, Contains-first, Contains-later, Contains-made, nothing_found, found_passes}
use Rattle.spec_laws.proofs.Meeting.{picked_was, mapped_from, number_in, same_number}
use Rattle.spec_laws.proofs.OrderLonger.{is_top_of}
use Rattle.spec_laws.proofs.Weighing.{quorum_within, made_weigh, sum_mapped}
use Rattle.spec_laws.proofs.Votes.{slot_is, of_its_slot}

-- ---- lists

pub all_from : {X : Type 0} (test : X → Bool) (xs : List X) → ((x : X) → Contains xs x → test x ≡ true) → list_all test xs ≡ true
all_from test [] each = refl
all_from test (x ∷ xs) each = and_from _ _ (each x (Contains-first xs x)) (all_from test xs (λ y inside. each y (Contains-later x xs y inside)))

pub taken_from : {X : Type 0} (k : ℕ) (xs : List X) (x : X) → Contains (take k xs) x → Contains xs x
taken_from zero xs x inside = absurd (Contains-nothing x inside)
taken_from (suc k) [] x inside = absurd (Contains-nothing x inside)
taken_from (suc k) (y ∷ xs) x inside =
    elim (Contains-cases y (take k xs) x inside) [
      | inl same ↦ subst (λ z. Contains (y ∷ xs) z) same (Contains-first xs y)
      | inr rest ↦ Contains-later y xs x (taken_from k xs x rest)
    ]

mapped_in : {X Y : Type 0} (f : X → Y) (xs : List X) (x : X) → Contains xs x → Contains (map f xs) (f x)
mapped_in f [] x inside = absurd (Contains-nothing x inside)
mapped_in f (y ∷ xs) x inside =
    elim (Contains-cases y xs x inside) [
      | inl same ↦ subst (λ z. Contains (f y ∷ map f xs) (f z)) same (Contains-first (map f xs) (f y))
      | inr rest ↦ Contains-later (f y) (map f xs) (f x) (mapped_in f xs x rest)
    ]

picked_in : {X : Type 0} (test : X → Bool) (xs : List X) (x : X) → Contains xs x → test x ≡ true → Contains (filter test xs) x
picked_in test [] x inside passes = absurd (Contains-nothing x inside)
picked_in test (y ∷ xs) x inside passes =
    elim (Contains-cases y xs x inside) [
      | inl same ↦ let here : test y ≡ true = ap test same ∙ passes in rw here (subst (λ z. Contains (y ∷ filter test xs) z) same (Contains-first (filter test xs) y))
      | inr rest ↦
          let later = picked_in test xs x rest passes in
          elim (cases_Bool (test y)) [ inl here ↦ rw here (Contains-later y (filter test xs) x later) | inr other ↦ rw other later ]
    ]

-- the greatest of numbers is none below one of them, and is one of them or the first
max_least : (one other most : ℕ) → max one other ≤ most → one ≤ most
max_least one other most h = grind (arith, h)

max_other : (one other x most : ℕ) → other ≡ x → max one other ≤ most → x ≤ most
max_other one other x most same h = grind (arith, same, h)

max_either : (one other : ℕ) → (max one other ≡ one) ⊎ (max one other ≡ other)
max_either one other = elim (cases_lt one other) [ inl less ↦ inr (grind (arith, less)) | inr more ↦ inl (grind (arith, more)) ]

at_least : (first : ℕ) (xs : List ℕ) → first ≤ fold max first xs
at_least first [] = omega arith
at_least first (x ∷ xs) = let rest = at_least (max first x) xs in max_least first x (fold max (max first x) xs) rest

greatest : (first : ℕ) (xs : List ℕ) (x : ℕ) → Contains xs x → x ≤ fold max first xs
greatest first [] x inside = absurd (Contains-nothing x inside)
greatest first (y ∷ xs) x inside =
    elim (Contains-cases y xs x inside) [
      | inl same ↦ let rest = at_least (max first y) xs in max_other first y x (fold max (max first y) xs) same rest
      | inr rest ↦ greatest (max first y) xs x rest
    ]

is_one : (first : ℕ) (xs : List ℕ) → (fold max first xs ≡ first) ⊎ Contains xs (fold max first xs)
is_one first [] = inl refl
is_one first (x ∷ xs) =
    elim (is_one (max first x) xs) [
      | inr rest ↦ inr (Contains-later x xs (fold max (max first x) xs) rest)
      | inl same ↦ elim (max_either first x) [
        | inl left ↦ inl (same ∙ left)
        | inr right ↦ inr (subst (λ z. Contains (x ∷ xs) z) (sym (same ∙ right)) (Contains-first xs x))
      ]
    ]

-- a slot that held something holds something
holds_more : (before after : Option Certificate) → ((c : Certificate) → before ≡ Some c → after ≡ Some c) → is_some before ≡ true → is_some after ≡ true
holds_more (Some c) after kept some = ap is_some (kept c refl)
holds_more None after kept some = absurd cc

-- no more is made of numbers than there are
pub held_at_most : (held : ℕ → Option Certificate) (authors : List ℕ) → length (filter_map held authors) ≤ length authors
held_at_most held [] = omega arith
held_at_most held (a ∷ authors) =
    let rest = held_at_most held authors in
    elim (given_or_none (held a)) [ inl found ↦ rw found.1 (omega (arith, rest)) | inr none ↦ rw none (omega (arith, rest)) ]

pub number_below : (from count k : ℕ) → Contains (range_with_len from count) k → k < from + count
number_below from zero k inside = absurd (Contains-nothing k inside)
number_below from (suc count) k inside =
    elim (Contains-cases from (range_with_len (from + 1) count) k inside) [
      | inl same ↦ omega (arith, same)
      | inr rest ↦ let below = number_below (from + 1) count k rest in omega (arith, below)
    ]

pub same_bytes : (bytes : List ℕ) → bytes_eq bytes bytes ≡ true
same_bytes bytes = (bytes_eq-Decides bytes bytes).1 refl

-- ---- rounds

full_stays : (node : Node) (history : History) (event : Event) → Adds node history event → (r : ℕ) → is_full node (slots node history) r ≡ true
    → is_full node (slots node (history ++ event ∷ [])) r ≡ true
full_stays node history event adds r full =
    let enough = leb-true _ _ full in
    let more = weight-within node.charter (λ a. is_some (slots node history r a)) (λ a. is_some (slots node (history ++ event ∷ []) r a))
    (λ a within. holds_more (slots node history r a) (slots node (history ++ event ∷ []) r a) (λ c. kept_slot node history event adds r a c)) in
    le-leb _ _ (omega (arith, enough, more))

new_coin-turn : (node : Node) (history : History) (later : State) (sender : Author) (coin : Coin)
    → is_new (coin_answer node (whole node history) later sender coin) ≡ true → (coin.wave == length (coins history) + 1) ≡ true
new_coin-turn node history later sender coin h = grind (arith, h, common_steps)

new_coin-full : (node : Node) (history : History) (later : State) (sender : Author) (coin : Coin)
    → is_new (coin_answer node (whole node history) later sender coin) ≡ true → is_full node (slots node history) (2 * coin.wave + 1) ≡ true
new_coin-full node history later sender coin h = grind (arith, h, common_steps)

-- the last round of each wave that has a coin is full
abbrev AreFull : Node → History → Type 0
AreFull node history = (wave : ℕ) → wave < length (coins history) → is_full node (slots node history) (2 * suc wave + 1) ≡ true

full_more : (node : Node) (history : History) (sender : Author) (m : Message) → Adds node history (record { sender = sender; message = m }) → (wave : ℕ) → length (coins history) ≤ wave
    → wave < length (coins history ++ option_to_list (as_coin m)) → is_full node (slots node history) (2 * suc wave + 1) ≡ true
full_more node history sender (message.Coin coin) adds wave least most =
    let event : Event = record { sender = sender; message = message.Coin coin } in
    let turn = eqb-true _ _ (new_coin-turn node history (whole node (history ++ event ∷ [])) event.sender coin adds.new) in
    let size = length-append (coins history) (coin.value ∷ []) in
    let same : coin.wave ≡ suc wave = omega (arith, turn, least, most, size) in
    ap (λ w. is_full node (slots node history) (2 * w + 1)) (sym same) ∙ new_coin-full node history (whole node (history ++ event ∷ [])) event.sender coin adds.new
full_more node history sender (message.Batch batch) adds wave least most = let size = length-append (coins history) [] in absurd (omega (arith, least, most, size))
full_more node history sender (message.BatchAck ack) adds wave least most = let size = length-append (coins history) [] in absurd (omega (arith, least, most, size))
full_more node history sender (message.Header header) adds wave least most = let size = length-append (coins history) [] in absurd (omega (arith, least, most, size))
full_more node history sender (message.Vote vote) adds wave least most = let size = length-append (coins history) [] in absurd (omega (arith, least, most, size))
full_more node history sender (message.Certificate certificate) adds wave least most = let size = length-append (coins history) [] in absurd (omega (arith, least, most, size))

full_push : (node : Node) (history : History) (event : Event) → Adds node history event → AreFull node history → AreFull node (history ++ event ∷ [])
full_push node history event adds full wave within =
    full_stays node history event adds (2 * suc wave + 1)
    (elim (cases_lt wave (length (coins history))) [
      | inl old ↦ full wave old
      | inr new ↦ full_more node history event.sender event.message adds wave new (subst (λ (l : List ℕ). wave < length l) (coins_later history event) within)
    ])

full_first : (node : Node) → AreFull node []
full_first node wave within = absurd (omega (arith, within))

each_full : (node : Node) (history : History) → IsLegal node history → AreFull node history
each_full node = legal-induction node (AreFull node) (full_first node) (full_push node)

-- a round that is full has a certificate, and so the node's round is above it
some_held : (node : Node) (history : History) → IsNode node → (r : ℕ) → is_full node (slots node history) r ≡ true → (c : Certificate) × Contains (certificates node history) c × (c.header.round ≡ r)
some_held node history sound r full =
    let some = some_of_weight node.charter (λ a. is_some (slots node history r a)) (omega (arith, leb-true _ _ full)) in
    elim (given_or_none (slots node history r some.member)) [
      | inl one ↦
          let found = found_passes (λ d. is_of_slot r some.member d.header) (certificates node history) one.0 one.1 in
          (one.0, found.1, (slot_is r some.member one.0.header found.0).0)
      | inr none ↦ let nothing = rw none at some.holds in absurd cc
    ]

abbrev full_rounds : Node → History → List ℕ
full_rounds node history = filter (is_full node (slots node history)) (map (λ c. c.header.round) (certificates node history))

pub round_above : (node : Node) (history : History) → IsNode node → (r : ℕ) → is_full node (slots node history) r ≡ true → r < round node history
round_above node history sound r full =
    let held = some_held node history sound r full in
    let among = subst (λ k. Contains (map (λ (c : Certificate). c.header.round) (certificates node history)) k) held.2
    (mapped_in (λ (c : Certificate). c.header.round) (certificates node history) held.0 held.1) in
    let most = greatest 0 (full_rounds node history) r (picked_in (is_full node (slots node history)) (map (λ c. c.header.round) (certificates node history)) r among full) in
    omega (arith, most)

genesis_among : (node : Node) (history : History) (c : Certificate) → Contains (map genesis (numbers (size_of node))) c → Contains (certificates node history) c
genesis_among node history c inside =
    let first = map genesis (numbers (size_of node)) in
    Contains-append_left (first ++ received history) (filter_map (completed node history) (headers history)) c (Contains-append_left first (received history) c inside)

-- all members have a certificate of the genesis
genesis_held : (node : Node) (history : History) (author : ℕ) → Contains (numbers (size_of node)) author → slots node history 0 author ≡ None → ⊥
genesis_held node history author member none =
    let among = mapped_in genesis (numbers (size_of node)) author member in
    nothing_found (λ c. is_of_slot 0 author c.header) (certificates node history) (genesis author) none (genesis_among node history (genesis author) among) (of_its_slot (genesis author).header)

-- the round below the node's is full
pub below_full : (node : Node) (history : History) → IsNode node → is_full node (slots node history) (round node history - 1) ≡ true
below_full node history sound =
    let n = size_of node in
    let top_round = fold max 0 (full_rounds node history) in
    let below : round node history - 1 ≡ top_round = omega arith in
    ap (is_full node (slots node history)) below
    ∙ elim (is_one 0 (full_rounds node history)) [
      | inr one ↦ (picked_was (is_full node (slots node history)) (map (λ c. c.header.round) (certificates node history)) top_round one).1
      | inl none ↦
          let first : (a : ℕ) → a < n → is_some (slots node history 0 a) ≡ true =
          λ a within. elim (given_or_none (slots node history 0 a)) [
            | inl there ↦ rw there.1 refl
            | inr missing ↦ absurd (genesis_held node history a (number_in 0 n a (omega arith) (omega (arith, within))) missing)
          ] in
          let all = weight-same node.charter (λ a. is_some (slots node history 0 a)) (λ _. true) first in
          let whole = weight-all node.charter sound.charter.staked in
          let within = quorum_within node.charter sound.charter in
          ap (is_full node (slots node history)) none ∙ le-leb _ _ (omega (arith, all, whole, within))
    ]

pub above_floor : (floor round : ℕ) → 0 < round → (floor ≡ 0) ⊎ (floor < round) → is_low floor round ≡ false
above_floor floor round some (inl none) = grind (arith, some, none, common_steps)
above_floor floor round some (inr above) = grind (arith, some, above, common_steps)

-- so that round isn't low
pub round_high : (node : Node) (history : History) → IsLegal node history → is_low (floor node history) (round node history) ≡ false
round_high node history legal =
    let r = round node history in
    elim (given_or_none (top (ledger_at node history))) [
      | inr none ↦
          let is : floor node history ≡ 0 = ap (floor_of node) none in
          above_floor (floor node history) r (omega arith) (inl is)
      | inl found ↦
          let facts = is_top_of (ledger_at node history) (length (coins history)) found.0 found.1 in
          let is : floor node history ≡ (2 * found.0 - 1) - node.charter.depth = ap (floor_of node) found.1 in
          let some = facts.some in
          let within = facts.within in
          let full = each_full node history legal (found.0 - 1) (omega (arith, some, within)) in
          let above = round_above node history legal.sound (2 * suc (found.0 - 1) + 1) full in
          above_floor (floor node history) r (omega arith) (inr (omega (arith, is, above, some)))
    ]

-- ---- parents

-- a certificate of the round below is held as a parent
pub parent_held : (held : Slots) (floor round author : ℕ) (c : Certificate) → c.header.author.0 ≡ author → held (round - 1) author ≡ Some c → is_held held floor round (as_parent c) ≡ true
parent_held held floor round author c by is =
    let same = same_bytes (certificate_digest c.header).0 in
    let here : held (round - 1) c.header.author.0 ≡ Some c = ap (held (round - 1)) by ∙ is in
    rw (here, same) refl

-- what is of the round below
record IsBelow (node : Node) (history : History) (p : ParentReference) : Type 0 where
  member : p.author.0 < size_of node
  held : is_held (slots node history) (floor node history) (round node history) p ≡ true

parents_below : (node : Node) (history : History) (p : ParentReference) → Contains (proposal node history).parents p → IsBelow node history p
parents_below node history p inside =
    let n = size_of node in
    let r = round node history - 1 in
    let from = mapped_from as_parent (round_of n (slots node history) r) p inside in
    let made = Contains-made (slots node history r) (numbers n) from.0 from.1 in
    let place = slot_is r made.0 from.0.header (in_place node history r made.0 from.0 made.2) in
    let below = number_below 0 n made.0 made.1 in
    subst (IsBelow node history) from.2 (record {
      member = omega (arith, below, place.1);
      held = parent_held (slots node history) (floor node history) (round node history) made.0 from.0 place.1 made.2;
    })

-- ---- batches

not_free : (node : Node) (history : History) (batch held : BatchView) → batch_at history (batch_digest batch) ≡ Some held → is_new (batch_answer node (whole node history) batch) ≡ true → ⊥
not_free node history batch held is h = grind (arith, h, is, common_steps)

new_batch-free : (node : Node) (history : History) (batch : BatchView) → is_new (batch_answer node (whole node history) batch) ≡ true → batch_at history (batch_digest batch) ≡ None
new_batch-free node history batch h =
    elim (given_or_none (batch_at history (batch_digest batch))) [
      | inr none ↦ none
      | inl found ↦ absurd (not_free node history batch found.0 found.1 h)
    ]

-- each batch is the one of its digest
abbrev IsOnlyBatch : History → Type 0
IsOnlyBatch history = (batch : BatchView) → Contains (batches history) batch → batch_at history (batch_digest batch) ≡ Some batch

only_more : (node : Node) (history : History) (sender : Author) (m : Message) → is_new (admit node history (record { sender = sender; message = m }))
    ≡ true → (batch : BatchView) → Contains (option_to_list (as_batch m)) batch
    → option_or (batch_at history (batch_digest batch)) (find (λ b. same_digest (batch_digest b) (batch_digest batch)) (option_to_list (as_batch m))) ≡ Some batch
only_more node history sender (message.Batch new) fresh batch inside =
    elim (Contains-push_cases [] new batch inside) [
      | inl none ↦ absurd (Contains-nothing batch none)
      | inr same ↦
          let free = new_batch-free node history new fresh in
          let own = same_bytes (batch_digest new).0 in
          let here : option_or (batch_at history (batch_digest new)) (find (λ b. same_digest (batch_digest b) (batch_digest new)) (new ∷ [])) ≡ Some new = rw (free, own) refl in
          subst (λ b. option_or (batch_at history (batch_digest b)) (find (λ d. same_digest (batch_digest d) (batch_digest b)) (new ∷ [])) ≡ Some b) same here
    ]
only_more node history sender (message.BatchAck ack) fresh batch inside = absurd (Contains-nothing batch inside)
only_more node history sender (message.Header header) fresh batch inside = absurd (Contains-nothing batch inside)
only_more node history sender (message.Vote vote) fresh batch inside = absurd (Contains-nothing batch inside)
only_more node history sender (message.Certificate certificate) fresh batch inside = absurd (Contains-nothing batch inside)
only_more node history sender (message.Coin coin) fresh batch inside = absurd (Contains-nothing batch inside)

only_push : (node : Node) (history : History) (event : Event) → Adds node history event → IsOnlyBatch history → IsOnlyBatch (history ++ event ∷ [])
only_push node history event adds only batch inside =
    let inside' = subst (λ l. Contains l batch) (filter_map-push (λ e. as_batch e.message) history event) inside in
    found-push (λ e. as_batch e.message) (λ b. same_digest (batch_digest b) (batch_digest batch)) history event
    ∙ elim (Contains-append_cases (batches history) (option_to_list (as_batch event.message)) batch inside') [
      | inl before ↦ let held = only batch before in rw held refl
      | inr new ↦ only_more node history event.sender event.message adds.new batch new
    ]

one_batch : (node : Node) (history : History) → IsLegal node history → IsOnlyBatch history
one_batch node = legal-induction node IsOnlyBatch (λ batch inside. absurd (Contains-nothing batch inside)) (only_push node)

-- a batch that came passed the checks
pub passed_batch : (node : Node) (sender : Author) (m : Message) (batch : BatchView) → IsTaken node (record { sender = sender; message = m })
    → as_batch m ≡ Some batch → is_worker node.charter batch.worker ≡ true
passed_batch node sender (message.Batch new) batch taken is =
    let none = taken.passed in
    let worker : is_worker node.charter new.worker ≡ true =
    elim (cases_Bool (is_member node.charter sender)) [
      | inr foreign ↦ let bad = rw foreign at none in absurd cc
      | inl by ↦ elim (cases_Bool (is_member node.charter new.author)) [
        | inr foreign ↦ let bad = rw (by, foreign) at none in absurd cc
        | inl member ↦ elim (cases_Bool (new.author.0 == sender.0)) [
          | inr other ↦ let bad = rw (by, member, other) at none in absurd cc
          | inl same ↦ elim (cases_Bool (is_worker node.charter new.worker)) [
            | inl known ↦ known
            | inr unknown ↦ let bad = rw (by, member, same, unknown) at none in absurd cc
          ]
        ]
      ]
    ] in
    ap (λ (b : BatchView). is_worker node.charter b.worker) (sym (same_Some new batch is)) ∙ worker
passed_batch node sender (message.BatchAck ack) batch taken is = absurd (none-some batch is)
passed_batch node sender (message.Header header) batch taken is = absurd (none-some batch is)
passed_batch node sender (message.Vote vote) batch taken is = absurd (none-some batch is)
passed_batch node sender (message.Certificate certificate) batch taken is = absurd (none-some batch is)
passed_batch node sender (message.Coin coin) batch taken is = absurd (none-some batch is)

-- what has its place among others is it or one of them
placed_from : (list : List BatchReference) (batch x : BatchReference) → Contains (placed list batch) x → (batch ≡ x) ⊎ Contains list x
placed_from [] batch x inside = elim (Contains-push_cases [] batch x inside) [ inl none ↦ absurd (Contains-nothing x none) | inr same ↦ inl same ]
placed_from (first ∷ rest) batch x inside =
    elim (cases_Bool (digest_before batch.digest first.digest)) [
      | inl before ↦ let inside' = rw before at inside in Contains-cases batch (first ∷ rest) x inside'
      | inr after ↦ elim (cases_Bool (same_digest first.digest batch.digest)) [
        | inl same ↦ let inside' = rw (after, same) at inside in inr inside'
        | inr other ↦
            let inside' = rw (after, other) at inside in
            elim (Contains-cases first (placed rest batch) x inside') [
              | inl is ↦ inr (subst (λ z. Contains (first ∷ rest) z) is (Contains-first rest first))
              | inr later ↦ elim (placed_from rest batch x later) [ inl it ↦ inl it | inr among ↦ inr (Contains-later first rest x among) ]
            ]
      ]
    ]

pub all_placed_from : (list xs : List BatchReference) (x : BatchReference) → Contains (fold placed list xs) x → Contains list x ⊎ Contains xs x
all_placed_from list [] x inside = inl inside
all_placed_from list (y ∷ xs) x inside =
    elim (all_placed_from (placed list y) xs x inside) [
      | inr rest ↦ inr (Contains-later y xs x rest)
      | inl here ↦ elim (placed_from list y x here) [
        | inl same ↦ inr (subst (λ z. Contains (y ∷ xs) z) same (Contains-first xs y))
        | inr among ↦ inl among
      ]
    ]

-- what a batch is that came
batch_limits : (m : Message) (batch : BatchView) → IsMessage m → as_batch m ≡ Some batch → IsBatch batch
batch_limits (message.Batch new) batch keeps is = subst IsBatch (same_Some new batch is) keeps
batch_limits (message.BatchAck ack) batch keeps is = absurd (none-some batch is)
batch_limits (message.Header header) batch keeps is = absurd (none-some batch is)
batch_limits (message.Vote vote) batch keeps is = absurd (none-some batch is)
batch_limits (message.Certificate certificate) batch keeps is = absurd (none-some batch is)
batch_limits (message.Coin coin) batch keeps is = absurd (none-some batch is)

-- what is named of a batch
pub record IsNamed (node : Node) (history : History) (named : BatchReference) : Type 0 where
  pub digest : IsDigest named.digest
  pub number : IsNumber named.worker
  batch : BatchView
  held : batch_at history named.digest ≡ Some batch
  worker : batch.worker ≡ named.worker
  known : is_worker node.charter named.worker ≡ true
  available : is_available node (whole node history) named.digest ≡ true

pub batches_named : (node : Node) (history : History) → IsLegal node history → (named : BatchReference) → Contains (proposal node history).batches named → IsNamed node history named
batches_named node history legal named inside =
    let made = filter_map (to_name node (whole node history)) (batches history) in
    elim (all_placed_from [] made named (taken_from 128 (nameable node (whole node history)) named inside)) [
      | inl none ↦ absurd (Contains-nothing named none)
      | inr among ↦
          let from = Contains-made (to_name node (whole node history)) (batches history) named among in
          let batch = from.0 in
          let event = Contains-made (λ e. as_batch e.message) history batch from.1 in
          let taken = All-contains (IsTaken node) history event.0 legal.taken event.1 in
          let limits = batch_limits event.0.message batch taken.message event.2 in
          let worker = passed_batch node event.0.sender event.0.message batch taken event.2 in
          elim (cases_Bool (is_nameable node (whole node history) batch)) [
            | inl may ↦
                let is = rw may at from.2 in
                let same : record { digest = batch_digest batch; worker = batch.worker } ≡ named = same_Some (record { digest = batch_digest batch; worker = batch.worker }) named is in
                let parts = and_parts _ _ (and_parts (batch.author.0 == node.own.0) _ may).1 in
                subst (IsNamed node history) same
                (record {
                  digest = are_digest_bytes _;
                  number = limits.worker;
                  batch = batch;
                  held = one_batch node history legal batch from.1;
                  worker = refl;
                  known = worker;
                  available = parts.0;
                })
            | inr not ↦ let nothing = rw not at from.2 in absurd (none-some named nothing)
          ]
    ]

-- ---- the proposal

-- it has an own header's parts
pub record IsProposal (node : Node) (history : History) (header : Header) : Type 0 where
  pub within : round node history ≤ 2 ^ 48
  pub is : signed node (proposal node history) ≡ header
  pub free : voted_header history (round node history) node.own.0 ≡ None

pub proposed : (node : Node) (history : History) (header : Header) → propose node history ≡ Some header → IsProposal node history header
proposed node history header is =
    elim (given_or_none (voted_header history (round node history) node.own.0)) [
      | inl found ↦ let nothing = rw found.1 at is in absurd (none-some header nothing)
      | inr none ↦
          let is' = rw none at is in
          elim (cases_Bool (nat_lt (2 ^ 48) (round node history))) [
            | inl past ↦ let nothing = rw past at is' in absurd (none-some header nothing)
            | inr within ↦ let is'' = rw within at is' in record { within = grind (arith, within); is = same_Some (signed node (proposal node history)) header is''; free = none }
          ]
    ]

pub signature_taken : (node : Node) → IsNode node → (header : Header) → header.body.author ≡ node.own
    → is_signed node.charter accepts_all header.body.author (header_signed header.body) header.signature ≡ true
signature_taken node sound header own =
    ap (λ (a : Author). is_signed node.charter accepts_all a (header_signed header.body) header.signature) own ∙ rw sound.own_key refl

-- the certificates of a round as parents weigh what their authors do
below_weighs : (node : Node) (history : History) → IsNode node → (r : ℕ)
    → sum_by (λ p. named_weight node.charter p.author) (map as_parent (round_of (size_of node) (slots node history) r)) ≡ weight node.charter (λ a. is_some (slots node history r a))
below_weighs node history sound r =
    let charter = node.charter in
    let weigh : Certificate → ℕ = λ c. named_weight charter c.header.author in
    sum_mapped as_parent (λ p. named_weight charter p.author) (round_of (size_of node) (slots node history) r)
    ∙ made_weigh charter (slots node history r) weigh
    (λ m c held within.
    let place = slot_is r m c.header (in_place node history r m c held) in
    let there : c.header.author.0 < length charter.stakes = omega (arith, place.1, within, sound.charter.staked) in
    let is = slice_get-get_or charter.stakes c.header.author.0 0 there in
    let here : named_weight charter c.header.author ≡ stake_of charter c.header.author.0 = rw is refl in
    here ∙ ap (stake_of charter) place.1)
    0 (size_of node) (omega arith)

passes : (node : Node) (history : History) (accepts : Accepts) → IsLegal node history → is_signed node.charter accepts node.own
    (header_signed (proposal node history)) (node.sign (header_digest (proposal node history))) ≡ true
    → fault_of node.charter accepts (own_event node (signed node (proposal node history))) ≡ None
passes node history accepts legal signature =
    let n = size_of node in
    let body = proposal node history in
    let member : is_member node.charter node.own ≡ true = lt-ltb _ _ legal.sound.member in
    let own = same_number node.own.0 in
    let below = round_of n (slots node history) (round node history - 1) in
    let enough = leb-true _ _ (below_full node history legal.sound) in
    let size = length-map below as_parent in
    let most = held_at_most (slots node history (round node history - 1)) (numbers n) in
    let many = length-range_with_len 0 n in
    let quorum : nat_le (quorum_of node.charter) (sum_by (λ p. named_weight node.charter p.author) body.parents) ≡ true =
    le-leb _ _ (omega (arith, enough, below_weighs node history legal.sound (round node history - 1))) in
    let few : nat_le (length body.parents) n ≡ true = le-leb _ _ (omega (arith, most, size, many)) in
    let members : list_all (λ p. is_member node.charter p.author) body.parents ≡ true =
    all_from (λ p. is_member node.charter p.author) body.parents (λ p inside. lt-ltb _ _ (parents_below node history p inside).member) in
    let workers : list_all (λ b. is_worker node.charter b.worker) body.batches ≡ true =
    all_from (λ b. is_worker node.charter b.worker) body.batches (λ b inside. (batches_named node history legal b inside).known) in
    rw (member, own, quorum, few, members, workers, signature) refl

may_be_named : (node : Node) (history : History) (header : Header) (named : BatchReference) (batch : BatchView) → batch_at history named.digest
    ≡ Some batch → batch.worker ≡ named.worker → is_available node (whole node history) named.digest ≡ true
    → may_name node (whole node history) header named ≡ true
may_be_named node history header named batch held worker available =
    let same : (batch.worker == named.worker) ≡ true = ap (λ w. w == named.worker) worker ∙ same_number named.worker in
    and_from _ _ (ap (λ o. option_map_or (λ b. b.worker == named.worker) o false) held ∙ same)
    (or_right (not (is_own node header.body.author)) (is_available node (whole node history) named.digest) available)

pub header_by_parts : (node : Node) (now : State) (header : Header) → is_low (floor_in node now) header.body.round ≡ false
    → is_own node header.body.author ≡ true → now.own_headers header.body.round ≡ None
    → all_held now.slots (floor_in node now) header.body ≡ true → list_all (may_name node now header) header.body.batches ≡ true → header_answer node now header ≡ New (header_outputs node header)
header_by_parts node now header high own free held named = rw (high, own, free, held, named) refl

is_new_there : (node : Node) (history : History) → IsLegal node history → voted_header history (round node history) node.own.0 ≡ None
    → admit node history (own_event node (signed node (proposal node history))) ≡ New (header_outputs node (signed node (proposal node history)))
is_new_there node history legal free =
    let header = signed node (proposal node history) in
    let body = proposal node history in
    let high = round_high node history legal in
    let held : all_held (slots node history) (floor node history) body ≡ true =
    all_from (is_held (slots node history) (floor node history) body.round) body.parents (λ p inside. (parents_below node history p inside).held) in
    let named : list_all (may_name node (whole node history) header) body.batches ≡ true =
    all_from (may_name node (whole node history) header) body.batches
    (λ b inside. let is = batches_named node history legal b inside in may_be_named node history header b is.batch is.held is.worker is.available) in
    header_by_parts node (whole node history) header high (same_number node.own.0) free held named

pub proposals_are_new : ProposalsAreNew
proposals_are_new node history header legal is =
    let parts = proposed node history header is in
    subst (λ h. (fault_of node.charter accepts_all (own_event node h) ≡ None) × (admit node history (own_event node h) ≡ New (header_outputs node h))) parts.is
    (passes node history accepts_all legal (signature_taken node legal.sound (signed node (proposal node history)) refl), is_new_there node history legal parts.free)

-- ---- signatures

-- where the node's signer belongs to the verifier, what the node signs is taken as its member's
pub is_own_signature : (node : Node) (accepts : Accepts) → IsNode node → AreTied node accepts → (digest : Digest) → is_signed node.charter accepts node.own digest (node.sign digest) ≡ true
is_own_signature node accepts sound tied digest = ap (λ o. option_map_or (λ k. accepts k digest (node.sign digest)) o false) sound.own_key ∙ tied digest

pub proposals_pass : ProposalsPass
proposals_pass node history header accepts legal tied is =
    let parts = proposed node history header is in
    subst (λ h. fault_of node.charter accepts (own_event node h) ≡ None) parts.is
    (passes node history accepts legal (is_own_signature node accepts legal.sound tied (header_digest (proposal node history))))

-- a header that was taken is by a member
author_taken : (node : Node) (sender : Author) (header : Header) → IsTaken node (record { sender = sender; message = message.Header header }) → is_member node.charter header.body.author ≡ true
author_taken node sender header taken =
    let none = taken.passed in
    elim (cases_Bool (is_member node.charter sender)) [
      | inr foreign ↦ let bad = rw foreign at none in absurd cc
      | inl by ↦ elim (cases_Bool (is_member node.charter header.body.author)) [
        | inl member ↦ member
        | inr other ↦ let bad = rw (by, other) at none in absurd cc
      ]
    ]

pub own_votes_pass : OwnVotesPass
own_votes_pass node sender header accepts sound tied taken =
    let member : is_member node.charter node.own ≡ true = lt-ltb _ _ sound.member in
    let author = author_taken node sender header taken in
    let own = same_number node.own.0 in
    let signature = is_own_signature node accepts sound tied (certificate_digest header.body) in
    rw (member, author, own, signature) refl
