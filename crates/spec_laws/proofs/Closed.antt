-- The certificates of a legal history have their parents held, or lie too low for them.
use Rattle.std.proofs.Common.{◌≡◌, ℕ, ◌+◌, ◌-◌, ◌*◌, ◌≤◌, Bool, true, false, List, [], ◌∷◌, ◌++◌, map, Option, Some, None, inl, inr, refl, ap, sym, ◌∙◌, subst, arith}
use Rattle.std.specs.Prelude.{Contains, nat_le, nat_lt, ◌==◌, ◌&&◌, ◌||◌, option_and_then}
use Rattle.std.specs.List.{list_all, list_any}
use Rattle.std.specs.Option.{option_map_or, option_or, option_to_list}
use Rattle.std.proofs.lemmas.Bool.{cases_Bool, and_parts, and_from, eqb-true, leb-true, le-leb, ltb-true, lt-ltb, true≢false}
use Rattle.std.proofs.lemmas.Grind.{common_steps}
use Rattle.std.proofs.lemmas.Option.{same_Some, none-some}
use Rattle.std.proofs.lemmas.List.{append-nil}
use Rattle.std.proofs.lemmas.List.Elements.{Contains-append_cases, Contains-push_cases}
use Rattle.wire.specs.declared.message.Message.TheVariants as message
use Rattle.spec_model.specs.States.{State, whole}
use Rattle.spec_model.specs.Admitting.{is_new, header_answer, vote_answer, certificate_answer, IsLegal}
use Rattle.spec_model.specs.Histories.{History, headers, coins, as_header, as_coin}
use Rattle.spec_model.specs.Holdings.{ledger_of, ledger_at, completed, certificates, genesis, slots, floor, is_low, is_held, all_held}
use Rattle.spec_laws.specs.Laws.{added}
use Rattle.committee.specs.Charter.{numbers}
use Rattle.spec_model.specs.Nodes.{Node, size_of}
use Rattle.spec_model.specs.Ordering.{top, floor_by}
use Rattle.spec_model.specs.Slots.{Slots, same_digest, certificate_digest, is_of_slot, slots_of, is_named, is_parent}
use Rattle.spec_model.specs.Words.{Author, Certificate, Event, Header, HeaderBody, Message, ParentReference, Vote}
use Rattle.spec_laws.proofs.Growing.{AreInPlace, Extends}
use Rattle.spec_laws.proofs.InSlots.{genesis_is}
use Rattle.spec_laws.proofs.Legal.{Adds, legal-induction}
use Rattle.spec_laws.proofs.Lists.{given_or_none, Contains-nothing, Contains-cases, filter_map-push, found_passes}
use Rattle.spec_laws.proofs.Meeting.{any_to}
use Rattle.spec_laws.proofs.NewEvents.{new_vote}
use Rattle.spec_laws.proofs.OrderLonger.{top_grows}
use Rattle.spec_laws.proofs.SlotsGrow.{completed-header, slots_grow}
use Rattle.spec_laws.proofs.Votes.{slot_is}

-- ---- what is new isn't low, and has its parents held

new_certificate-high : (node : Node) (history : History) (later : State) (certificate : Certificate) → is_new (certificate_answer node (whole node history) later certificate) ≡ true
    → is_low (floor node history) certificate.header.round ≡ false
new_certificate-high node history later certificate h = grind (arith, h, common_steps)

new_certificate-held : (node : Node) (history : History) (later : State) (certificate : Certificate) → is_new (certificate_answer node (whole node history) later certificate) ≡ true
    → all_held (slots node history) (floor node history) certificate.header ≡ true
new_certificate-held node history later certificate h = grind (arith, h, common_steps)

new_header-held : (node : Node) (history : History) (header : Header) → is_new (header_answer node (whole node history) header) ≡ true
    → all_held (slots node history) (floor node history) header.body ≡ true
new_header-held node history header h = grind (arith, h, common_steps)

pub new_vote-high : (node : Node) (history : History) (later : State) (vote : Vote) → is_new (vote_answer node (whole node history) later vote) ≡ true → is_low (floor node history) vote.round ≡ false
new_vote-high node history later vote h = grind (arith, h, common_steps)

-- what holds of all of a list holds of each
pub all_to : {X : Type 0} (test : X → Bool) (xs : List X) (x : X) → list_all test xs ≡ true → Contains xs x → test x ≡ true
all_to test [] x all inside = absurd (Contains-nothing x inside)
all_to test (y ∷ xs) x all inside =
    let parts = and_parts (test y) (list_all test xs) all in
    elim (Contains-cases y xs x inside) [ inl same ↦ ap test (sym same) ∙ parts.0 | inr rest ↦ all_to test xs x parts.1 rest ]

pub or_right : (a b : Bool) → b ≡ true → (a || b) ≡ true
or_right true b h = refl
or_right false b h = h

-- ---- closed histories

-- all certificates and headers have their parents held
pub record IsClosed (node : Node) (history : History) : Type 0 where
  pub of_slots : (round author : ℕ) (c : Certificate) → slots node history round author ≡ Some c → all_held (slots node history) (floor node history) c.header ≡ true
  pub of_headers : (header : Header) → Contains (headers history) header → all_held (slots node history) (floor node history) header.body ≡ true

pub in_place : (node : Node) (history : History) → AreInPlace (slots node history)
in_place node history round author c held = (found_passes (λ d. is_of_slot round author d.header) (certificates node history) c held).0

-- a certificate that an event adds has its parents held, and isn't low
pub record IsAddedWell (node : Node) (history : History) (certificate : Certificate) : Type 0 where
  pub held : all_held (slots node history) (floor node history) certificate.header ≡ true
  pub high : is_low (floor node history) certificate.header.round ≡ false

pub added_by : (node : Node) (history : History) (sender : Author) (m : Message) → IsClosed node history → Adds node history (record { sender = sender; message = m })
    → (certificate : Certificate) → added node history (record { sender = sender; message = m }) ≡ Some certificate → IsAddedWell node history certificate
added_by node history sender (message.Certificate new) closed adds certificate is =
    let event : Event = record { sender = sender; message = message.Certificate new } in
    let same : new ≡ certificate = same_Some new certificate is in
    subst (IsAddedWell node history) same
    (record {
      held = new_certificate-held node history (whole node (history ++ event ∷ [])) new adds.new;
      high = new_certificate-high node history
          (whole node (history ++ event ∷ [])) new adds.new;
    })
added_by node history sender (message.Vote vote) closed adds certificate is =
    let event : Event = record { sender = sender; message = message.Vote vote } in
    let new = new_vote node history (whole node (history ++ event ∷ [])) vote adds.new in
    let found = found_passes (λ h. is_of_slot vote.round node.own.0 h.body) (headers history) new.header new.held in
    let place = slot_is vote.round node.own.0 new.header.body found.0 in
    let made : completed node (history ++ event ∷ []) new.header ≡ Some certificate = sym (ap (option_and_then (completed node (history ++ event ∷ []))) new.held) ∙ is in
    let of = completed-header node (history ++ event ∷ []) new.header certificate made in
    record {
      held = ap (all_held (slots node history) (floor node history)) of ∙ closed.of_headers new.header found.1;
      high = ap (λ (h : HeaderBody). is_low (floor node history) h.round) of ∙ ap (is_low (floor node history)) place.0 ∙ new_vote-high node history (whole node (history ++ event ∷ [])) vote adds.new;
    }
added_by node history sender (message.Batch batch) closed adds certificate is = absurd (none-some certificate is)
added_by node history sender (message.BatchAck ack) closed adds certificate is = absurd (none-some certificate is)
added_by node history sender (message.Header header) closed adds certificate is = absurd (none-some certificate is)
added_by node history sender (message.Coin coin) closed adds certificate is = absurd (none-some certificate is)

-- what a slot holds that held nothing is what the event adds
pub newly : (node : Node) (history : History) (event : Event) → Adds node history event → (round author : ℕ) (c : Certificate)
    → slots node history round author ≡ None → slots node (history ++ event ∷ []) round author ≡ Some c
    → added node history event ≡ Some c
newly node history event adds round author c none new =
    let found : slots_of (option_to_list (added node history event)) round author ≡ Some c =
    sym (slots_grow node history event adds.longer round author ∙ ap (λ o. option_or o (slots_of (option_to_list (added node history event)) round author)) none) ∙ new in
    elim (given_or_none (added node history event)) [
      | inl is ↦
          let found' = rw is.1 at found in
          elim (cases_Bool (is_of_slot round author is.0.header)) [
            | inl here ↦ let found'' = rw here at found' in is.1 ∙ found''
            | inr other ↦ let nothing = rw other at found' in absurd cc
          ]
      | inr nothing ↦ let found' = rw nothing at found in absurd cc
    ]

pub kept_slot : (node : Node) (history : History) (event : Event) → Adds node history event → (round author : ℕ) (c : Certificate)
    → slots node history round author ≡ Some c → slots node (history ++ event ∷ []) round author ≡ Some c
kept_slot node history event adds round author c held =
    slots_grow node history event adds.longer round author ∙ ap (λ o. option_or o (slots_of (option_to_list (added node history event)) round author)) held

-- a parent that is named and not held lies too low
pub low_parent : (slots : Slots) (floor : ℕ) (c child : Certificate) → all_held slots floor child.header ≡ true
    → slots c.header.round c.header.author.0 ≡ None → is_parent c child ≡ true → is_low floor c.header.round ≡ true
low_parent slots floor c child held none names =
    let parts = and_parts (c.header.round + 1 == child.header.round) (list_any (is_named c) child.header.parents) names in
    let round = eqb-true _ _ parts.0 in
    let p = any_to (is_named c) child.header.parents parts.1 in
    let author = eqb-true _ _ (and_parts (p.0.author.0 == c.header.author.0) (same_digest p.0.certificate (certificate_digest c.header)) p.2).0 in
    let is : is_held slots floor child.header.round p.0 ≡ true = all_to (is_held slots floor child.header.round) child.header.parents p.0 held p.1 in
    let below : child.header.round - 1 ≡ c.header.round = omega (arith, round) in
    let gone : slots (child.header.round - 1) p.0.author.0 ≡ None = ap (λ r. slots r p.0.author.0) below ∙ ap (slots c.header.round) author ∙ none in
    let low = rw gone at is in
    let low' : nat_lt 0 floor && nat_le c.header.round floor ≡ true = ap (λ r. nat_lt 0 floor && nat_le r floor) (sym below) ∙ low in
    or_right (c.header.round == 0) (nat_lt 0 floor && nat_le c.header.round floor) low'

-- ---- one more event

pub extends : (node : Node) (history : History) (event : Event) → IsClosed node history → Adds node history event → Extends (slots node history) (slots node (history ++ event ∷ []))
extends node history event closed adds =
    let later = history ++ event ∷ [] in
    record {
      placed_before = in_place node history;
      placed_after = in_place node later;
      kept = kept_slot node history event adds;
      childless = λ round author c none new above other child held.
          elim (cases_Bool (is_parent c child)) [
            | inr not ↦ not
            | inl names ↦
                let is = newly node history event adds round author c none new in
                let well = added_by node history event.sender event.message closed adds c is in
                let place = slot_is round author c.header (in_place node later round author c new) in
                let free : slots node history c.header.round c.header.author.0 ≡ None = ap (λ r. slots node history r c.header.author.0) place.0 ∙ ap (slots node history round) place.1 ∙ none in
                elim (given_or_none (slots node history above other)) [
                  | inl old ↦
                      let same : old.0 ≡ child = same_Some old.0 child (sym (kept_slot node history event adds above other old.0 old.1) ∙ held) in
                      let names' : is_parent c old.0 ≡ true = ap (is_parent c) same ∙ names in
                      absurd (true≢false (sym (low_parent (slots node history) (floor node history) c old.0 (closed.of_slots above other old.0 old.1) free names') ∙ well.high))
                  | inr fresh ↦
                      let is' = newly node history event adds above other child fresh held in
                      let same : c ≡ child = same_Some c child (sym is ∙ is') in
                      let names' : is_parent c c ≡ true = ap (is_parent c) same ∙ names in
                      let round' = eqb-true _ _ (and_parts (c.header.round + 1 == c.header.round) (list_any (is_named c) c.header.parents) names').0 in
                      absurd (omega (arith, round'))
                ]
          ];
    }

-- the floor doesn't go down
pub coins_later : (history : History) (event : Event) → coins (history ++ event ∷ []) ≡ coins history ++ option_to_list (as_coin event.message)
coins_later history event = filter_map-push (λ e. as_coin e.message) history event

-- the floor by the greatest wave that is directly committed
abbrev pub floor_of : Node → Option ℕ → ℕ
floor_of node top = option_map_or (λ wave. (2 * wave - 1) - node.charter.depth) top 0

pub floor_grows : (node : Node) (history : History) (event : Event) → Extends (slots node history) (slots node (history ++ event ∷ [])) → floor node history ≤ floor node (history ++ event ∷ [])
floor_grows node history event ext =
    let depth = node.charter.depth in
    let later = history ++ event ∷ [] in
    let more = option_to_list (as_coin event.message) in
    elim (given_or_none (top (ledger_at node history))) [
      | inr none ↦
          let least : floor node history ≡ 0 = ap (λ o. option_map_or (λ wave. (2 * wave - 1) - depth) o 0) none in
          omega (arith, least)
      | inl found ↦
          let grown = top_grows (ledger_at node history) (slots node later) ext more found.0 found.1 in
          let is : floor node history ≡ (2 * found.0 - 1) - depth = ap (λ o. option_map_or (λ wave. (2 * wave - 1) - depth) o 0) found.1 in
          let is' : floor node later ≡ (2 * grown.0 - 1) - depth =
          ap (λ c. floor_by (ledger_of node (slots node later) c)) (coins_later history event) ∙ ap (λ o. option_map_or (λ wave. (2 * wave - 1) - depth) o 0) grown.1 in
          let higher = grown.2 in
          omega (arith, is, is', higher)
    ]

-- a parent that is held stays so
pub held_stays : (before after : Slots) (low high round : ℕ) (p : ParentReference)
    → ((r a : ℕ) (c : Certificate) → before r a ≡ Some c → after r a ≡ Some c) → low ≤ high → is_held before low round p ≡ true
    → is_held after high round p ≡ true
held_stays before after low high round p kept higher held =
    let under : nat_lt 0 low && nat_le (round - 1) low ≡ true → nat_lt 0 high && nat_le (round - 1) high ≡ true =
    λ is.
    let parts = and_parts (nat_lt 0 low) (nat_le (round - 1) low) is in
    let some = ltb-true 0 low parts.0 in
    let within = leb-true (round - 1) low parts.1 in
    and_from _ _ (lt-ltb 0 high (omega (arith, some, higher))) (le-leb (round - 1) high (omega (arith, within, higher))) in
    elim (given_or_none (before (round - 1) p.author.0)) [
      | inl found ↦
          let also = kept (round - 1) p.author.0 found.0 found.1 in
          let held' = rw found.1 at held in
          elim (cases_Bool (same_digest (certificate_digest found.0.header) p.certificate)) [
            | inl same ↦ rw (also, same) refl
            | inr other ↦ let low' = rw other at held' in rw (also, other) (under low')
          ]
      | inr none ↦
          let held' = rw none at held in
          or_right (option_map_or (λ c. same_digest (certificate_digest c.header) p.certificate) (after (round - 1) p.author.0) false) (nat_lt 0 high && nat_le (round - 1) high) (under held')
    ]

pub all_stay : {X : Type 0} (test other : X → Bool) (xs : List X) → ((x : X) → test x ≡ true → other x ≡ true) → list_all test xs ≡ true → list_all other xs ≡ true
all_stay test other [] stays all = refl
all_stay test other (x ∷ xs) stays all = let parts = and_parts (test x) (list_all test xs) all in and_from _ _ (stays x parts.0) (all_stay test other xs stays parts.1)

-- a closed history with one more event is closed
header_held : (node : Node) (history : History) (sender : Author) (m : Message) → Adds node history (record { sender = sender; message = m })
    → (header : Header) → Contains (option_to_list (as_header m)) header
    → all_held (slots node history) (floor node history) header.body ≡ true
header_held node history sender (message.Header new) adds header inside =
    elim (Contains-push_cases [] new header inside) [
      | inl none ↦ absurd (Contains-nothing header none)
      | inr same ↦ subst (λ (h : Header). all_held (slots node history) (floor node history) h.body ≡ true) same (new_header-held node history new adds.new)
    ]
header_held node history sender (message.Batch batch) adds header inside = absurd (Contains-nothing header inside)
header_held node history sender (message.BatchAck ack) adds header inside = absurd (Contains-nothing header inside)
header_held node history sender (message.Vote vote) adds header inside = absurd (Contains-nothing header inside)
header_held node history sender (message.Certificate certificate) adds header inside = absurd (Contains-nothing header inside)
header_held node history sender (message.Coin coin) adds header inside = absurd (Contains-nothing header inside)

closed_push : (node : Node) (history : History) (event : Event) → Adds node history event → IsClosed node history → IsClosed node (history ++ event ∷ [])
closed_push node history event adds closed =
    let later = history ++ event ∷ [] in
    let ext = extends node history event closed adds in
    let stays : (h : HeaderBody) → all_held (slots node history) (floor node history) h ≡ true → all_held (slots node later) (floor node later) h ≡ true =
    λ h. all_stay (is_held (slots node history) (floor node history) h.round) (is_held (slots node later) (floor node later) h.round) h.parents
    (λ p. held_stays (slots node history) (slots node later) (floor node history) (floor node later) h.round p ext.kept (floor_grows node history event ext)) in
    record {
      of_slots = λ round author c held.
          elim (given_or_none (slots node history round author)) [
            | inl old ↦
                let same : old.0 ≡ c = same_Some old.0 c (sym (ext.kept round author old.0 old.1) ∙ held) in
                stays c.header (ap (λ (d : Certificate). all_held (slots node history) (floor node history) d.header) (sym same) ∙ closed.of_slots round author old.0 old.1)
            | inr none ↦ stays c.header (added_by node history event.sender event.message closed adds c (newly node history event adds round author c none held)).held
          ];
      of_headers = λ header inside.
          let inside' = subst (λ l. Contains l header) (filter_map-push (λ e. as_header e.message) history event) inside in
          elim (Contains-append_cases (headers history) (option_to_list (as_header event.message)) header inside') [
            | inl old ↦ stays header.body (closed.of_headers header old)
            | inr new ↦ stays header.body (header_held node history event.sender event.message adds header new)
          ];
    }

closed_first : (node : Node) → IsClosed node []
closed_first node =
    let first = map genesis (numbers (size_of node)) in
    let all : certificates node [] ≡ first = append-nil (first ++ []) ∙ append-nil first in
    record {
      of_slots = λ round author c held.
          let found = found_passes (λ d. is_of_slot round author d.header) (certificates node []) c held in
          let is = genesis_is (numbers (size_of node)) c (subst (λ l. Contains l c) all found.1) in
          ap (λ (d : Certificate). all_held (slots node []) (floor node []) d.header) is;
      of_headers = λ header inside. absurd (Contains-nothing header inside);
    }

pub closed : (node : Node) (history : History) → IsLegal node history → IsClosed node history
closed node = legal-induction node (IsClosed node) (closed_first node) (closed_push node)
