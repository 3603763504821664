-- All of a legal history with one more event is the state of the whole history with what the event adds.
use Rattle.std.proofs.Common.{◌≡◌, ℕ, ◌≤◌, arith, Bool, true, false, List, [], ◌∷◌, ◌++◌, map, Option, Some, None, inl, inr, refl, ap, sym, ◌∙◌}
use Rattle.std.proofs.Math.Path.{fun_ext}
use Rattle.std.specs.Prelude.{find, fold, max, Contains, ◌==◌, ◌&&◌, ◌||◌, option_map, option_and_then, if◌then◌else◌}
use Rattle.std.specs.List.{list_any}
use Rattle.std.specs.Option.{option_or, option_to_list}
use Rattle.std.proofs.lemmas.Bool.{cases_Bool, eqb-true, true≢false}
use Rattle.std.proofs.lemmas.Option.{same_Some, none-some}
use Rattle.std.proofs.lemmas.List.Folds.{list_any-append}
use Rattle.std.proofs.lemmas.Slice.Eq.{bytes_eq-Decides}
use Rattle.wire.specs.declared.message.Message.TheVariants as message
use Rattle.spec_model.specs.Histories.{History, batches, acks, headers, votes, coins, as_batch, as_ack, as_header, as_vote, as_coin}
use Rattle.spec_model.specs.Holdings.{has_acked, was_named, voted_header, voted_digest, is_vote_on, counted_vote, own_vote, counted_at}
use Rattle.spec_model.specs.Holdings.{certificate_by, completed, certificates, slots, ledger_of, ledger_at, order}
use Rattle.spec_model.specs.Nodes.{Node}
use Rattle.spec_model.specs.Ordering.{newer, last_wave, segments}
use Rattle.spec_model.specs.Slots.{same_digest, header_digest, certificate_digest, is_of_slot, slots_of}
use Rattle.spec_model.specs.States.{State, whole, highest_of}
use Rattle.spec_model.specs.Words.{Author, BatchAck, Certificate, Digest, Event, Header, HeaderBody, Message, Vote}
use Rattle.spec_laws.specs.Laws.{added}
use Rattle.spec_laws.proofs.Closed.{in_place, coins_later, kept_slot}
use Rattle.spec_laws.proofs.InSlots.{certificate_more, in_slots}
use Rattle.spec_laws.proofs.Legal.{Adds}
use Rattle.spec_laws.proofs.Lengthening.{last_is, order_lengthens}
use Rattle.spec_laws.proofs.Lists.{given_or_none, filter_map-push, found_passes, Contains-nothing, Contains-cases, Contains-first, Contains-later}
use Rattle.spec_laws.proofs.Meeting.{same_number}
use Rattle.spec_laws.proofs.NewEvents.{IsNewVote, new_header-unvoted, new_vote, new_certificate-free}
use Rattle.spec_laws.proofs.SlotsGrow.{or_none, completed-header, counted_vote-push, slots_grow}
use Rattle.spec_laws.proofs.Votes.{slot_is, of_its_slot, voted_header-push, each_headed}
use Rattle.spec_machine.specs.Machine.{header_at, vote_at, acknowledges, names, counted_with, certificate_of, slots_with, highest_with, newly_ordered, grown}

-- ---- batches

acked_later : (history : History) (event : Event) (digest : Digest) (member : ℕ)
    → (has_acked history digest member || acknowledges event.message digest member) ≡ has_acked (history ++ event ∷ []) digest member
acked_later history event digest member =
    let test : BatchAck → Bool = λ ack. same_digest ack.batch digest && (ack.author.0 == member) in
    sym (ap (list_any test) (filter_map-push (λ e. as_ack e.message) history event) ∙ list_any-append test (acks history) (option_to_list (as_ack event.message)))

abbrev names_it : Node → Digest → Header → Bool
names_it node digest header = (header.body.author.0 == node.own.0) && list_any (λ named. same_digest named.digest digest) header.body.batches

named_later : (node : Node) (history : History) (event : Event) (digest : Digest)
    → (was_named node history digest || names node event.message digest) ≡ was_named node (history ++ event ∷ []) digest
named_later node history event digest =
    sym (ap (list_any (names_it node digest)) (filter_map-push (λ e. as_header e.message) history event)
    ∙ list_any-append (names_it node digest) (headers history) (option_to_list (as_header event.message)))

-- ---- headers and votes

found_at : (m : Message) (round author : ℕ) → find (λ (header : Header). is_of_slot round author header.body) (option_to_list (as_header m)) ≡ header_at m round author
found_at (message.Header header) round author = refl
found_at (message.Batch batch) round author = refl
found_at (message.BatchAck ack) round author = refl
found_at (message.Vote vote) round author = refl
found_at (message.Certificate certificate) round author = refl
found_at (message.Coin coin) round author = refl

header_later : (history : History) (event : Event) (round author : ℕ) → voted_header (history ++ event ∷ []) round author
    ≡ option_or (voted_header history round author) (header_at event.message round author)
header_later history event round author = voted_header-push history event round author ∙ ap (option_or (voted_header history round author)) (found_at event.message round author)

abbrev digest_of : Header → Digest
digest_of header = header_digest header.body

map_or : {X Y : Type 0} (f : X → Y) (one other : Option X) → option_map f (option_or one other) ≡ option_or (option_map f one) (option_map f other)
map_or f (Some x) other = refl
map_or f None other = refl

voted_later : (history : History) (event : Event) (round author : ℕ)
    → option_or (voted_digest history round author) (option_map digest_of (header_at event.message round author)) ≡ voted_digest (history ++ event ∷ []) round author
voted_later history event round author =
    sym (ap (option_map digest_of) (header_later history event round author) ∙ map_or digest_of (voted_header history round author) (header_at event.message round author))

abbrev counted_on : Node → History → ℕ → Option Header → Option Vote
counted_on node history voter = option_and_then (λ header. counted_vote node history header.body voter)

-- without a vote the votes on a header stay
unchanged : (node : Node) (history : History) (event : Event) (header : HeaderBody) (voter : ℕ) → as_vote event.message ≡ None
    → counted_vote node (history ++ event ∷ []) header voter ≡ counted_vote node history header voter
unchanged node history event header voter none =
    counted_vote-push node history event header voter
    ∙ ap (λ o. option_or (counted_vote node history header voter) (find (is_vote_on header voter) (option_to_list o))) none
    ∙ or_none (counted_vote node history header voter)

-- where an event is neither a header nor a vote
counted_same : (node : Node) (history : History) (event : Event) (round voter : ℕ) → as_vote event.message ≡ None → header_at event.message round node.own.0 ≡ None
    → counted_at node (history ++ event ∷ []) round voter ≡ option_or (counted_at node history round voter) None
counted_same node history event round voter no_vote no_header =
    ap (counted_on node (history ++ event ∷ []) voter)
    (header_later history event round node.own.0 ∙ ap (option_or (voted_header history round node.own.0)) no_header
    ∙ or_none (voted_header history round node.own.0))
    ∙ elim (given_or_none (voted_header history round node.own.0)) [
      | inl found ↦
          ap (counted_on node (history ++ event ∷ []) voter) found.1 ∙ unchanged node history event found.0.body voter no_vote
          ∙ sym (ap (counted_on node history voter) found.1) ∙ sym (or_none (counted_at node history round voter))
      | inr none ↦ ap (counted_on node (history ++ event ∷ []) voter) none ∙ sym (ap (λ o. option_or (counted_on node history voter o) None) none)
    ]

-- a new own header has the node's own vote alone
counted_header : (node : Node) (history : History) (sender : Author) (header : Header) → Adds node history (record { sender = sender; message = message.Header header }) → (round voter : ℕ)
    → counted_at node (history ++ record { sender = sender; message = message.Header header } ∷ []) round voter
    ≡ option_or (counted_at node history round voter) (vote_at node (message.Header header) round voter)
counted_header node history sender header adds round voter =
    let event : Event = record { sender = sender; message = message.Header header } in
    let own = node.own.0 in
    let unvoted = new_header-unvoted node history header adds.new in
    elim (cases_Bool (is_of_slot round own header.body)) [
      | inr other ↦
          counted_same node history event round voter refl (rw other refl)
          ∙ ap (option_or (counted_at node history round voter)) (sym (ap (λ b. if b && (voter == own) then Some (own_vote node header.body) else None) other))
      | inl here ↦
          let place = slot_is round own header.body here in
          let free : voted_header history round own ≡ None = ap (λ r. voted_header history r own) (sym place.0) ∙ ap (voted_header history header.body.round) (sym place.1) ∙ unvoted in
          let later : voted_header (history ++ event ∷ []) round own ≡ Some header = header_later history event round own ∙ rw (free, here) refl in
          let alone : find (is_vote_on header.body voter) (votes history) ≡ None = each_headed node history adds.legal header.body voter unvoted in
          ap (counted_on node (history ++ event ∷ []) voter) later
          ∙ unchanged node history event header.body voter refl
          ∙ ap (λ o. if voter == own then Some (own_vote node header.body) else o) alone
          ∙ sym (ap (λ o. option_or (counted_on node history voter o) (vote_at node (message.Header header) round voter)) free
          ∙ ap (λ b. if b && (voter == own) then Some (own_vote node header.body) else None) here)
    ]

same_digest-sym : (one other : Digest) → same_digest one other ≡ true → same_digest other one ≡ true
same_digest-sym one other same = (bytes_eq-Decides other.0 one.0).1 (sym ((bytes_eq-Decides one.0 other.0).0 same))

-- a vote is on the own header of its round, and on no other
vote_found : (node : Node) (history : History) (vote : Vote) → IsNewVote node history vote → (round voter : ℕ) (header : Header) → voted_header history round node.own.0 ≡ Some header
    → find (is_vote_on header.body voter) (vote ∷ []) ≡ vote_at node (message.Vote vote) round voter
vote_found node history vote new round voter header found =
    let own = node.own.0 in
    let place = slot_is round own header.body (found_passes (λ h. is_of_slot round own h.body) (headers history) header found).0 in
    elim (cases_Bool (vote.round == round)) [
      | inl same ↦
          let is = eqb-true vote.round round same in
          let it : new.header ≡ header = same_Some new.header header (sym new.held ∙ ap (λ r. voted_header history r own) is ∙ found) in
          let slot : is_of_slot vote.round vote.author.0 header.body ≡ true =
          ap (λ r. is_of_slot r vote.author.0 header.body) (is ∙ sym place.0)
          ∙ ap (λ a. is_of_slot header.body.round a header.body) (eqb-true vote.author.0 own new.own ∙ sym place.1) ∙ of_its_slot header.body in
          let digest : same_digest vote.header (header_digest header.body) ≡ true =
          same_digest-sym (header_digest header.body) vote.header (ap (λ (h : Header). same_digest (header_digest h.body) vote.header) (sym it) ∙ new.same) in
          elim (cases_Bool (vote.voter.0 == voter)) [ inl by ↦ rw (slot, digest, by, same) refl | inr another ↦ rw (slot, another, same) refl ]
      | inr not ↦
          let slot : is_of_slot vote.round vote.author.0 header.body ≡ false = elim (cases_Bool (is_of_slot vote.round vote.author.0 header.body)) [
            | inr other ↦ other
            | inl here ↦
                let at = slot_is vote.round vote.author.0 header.body here in
                let same : (vote.round == round) ≡ true = ap (λ r. r == round) (sym at.0 ∙ place.0) ∙ same_number round in
                absurd (true≢false (sym same ∙ not))
          ] in
          rw (slot, not) refl
    ]

-- a new vote counts on the header that it is on
counted_new : (node : Node) (history : History) (sender : Author) (vote : Vote) → Adds node history (record { sender = sender; message = message.Vote vote }) → (round voter : ℕ)
    → counted_at node (history ++ record { sender = sender; message = message.Vote vote } ∷ []) round voter
    ≡ option_or (counted_at node history round voter) (vote_at node (message.Vote vote) round voter)
counted_new node history sender vote adds round voter =
    let event : Event = record { sender = sender; message = message.Vote vote } in
    let own = node.own.0 in
    let new = new_vote node history (whole node (history ++ event ∷ [])) vote adds.new in
    let same_header : voted_header (history ++ event ∷ []) round own ≡ voted_header history round own = header_later history event round own ∙ or_none (voted_header history round own) in
    ap (counted_on node (history ++ event ∷ []) voter) same_header
    ∙ elim (given_or_none (voted_header history round own)) [
      | inl found ↦
          ap (counted_on node (history ++ event ∷ []) voter) found.1
          ∙ counted_vote-push node history event found.0.body voter
          ∙ ap (option_or (counted_vote node history found.0.body voter)) (vote_found node history vote new round voter found.0 found.1)
          ∙ sym (ap (λ o. option_or (counted_on node history voter o) (vote_at node (message.Vote vote) round voter)) found.1)
      | inr none ↦
          let other : (vote.round == round) ≡ false = elim (cases_Bool (vote.round == round)) [
            | inr not ↦ not
            | inl same ↦ absurd (none-some new.header (sym none ∙ sym (ap (λ r. voted_header history r own) (eqb-true vote.round round same)) ∙ new.held))
          ] in
          ap (counted_on node (history ++ event ∷ []) voter) none
          ∙ sym (ap (λ o. option_or (counted_on node history voter o) (vote_at node (message.Vote vote) round voter)) none
          ∙ ap (λ b. if b && (vote.voter.0 == voter) then Some vote else None) other)
    ]

-- after a new event the votes that count are those from before and what it is
counted_by : (node : Node) (history : History) (sender : Author) (m : Message) → Adds node history (record { sender = sender; message = m }) → (round voter : ℕ)
    → counted_at node (history ++ record { sender = sender; message = m } ∷ []) round voter ≡ option_or (counted_at node history round voter) (vote_at node m round voter)
counted_by node history sender (message.Header header) adds round voter = counted_header node history sender header adds round voter
counted_by node history sender (message.Vote vote) adds round voter = counted_new node history sender vote adds round voter
counted_by node history sender (message.Batch batch) adds round voter = counted_same node history (record { sender = sender; message = message.Batch batch }) round voter refl refl
counted_by node history sender (message.BatchAck ack) adds round voter = counted_same node history (record { sender = sender; message = message.BatchAck ack }) round voter refl refl
counted_by node history sender (message.Certificate certificate) adds round voter = counted_same node history
    (record { sender = sender; message = message.Certificate certificate }) round voter refl refl
counted_by node history sender (message.Coin coin) adds round voter = counted_same node history (record { sender = sender; message = message.Coin coin }) round voter refl refl

-- ---- certificates

-- what an event adds by the history is what it adds by the state
added_is : (node : Node) (history : History) (sender : Author) (m : Message) → Adds node history (record { sender = sender; message = m })
    → added node history (record { sender = sender; message = m }) ≡ certificate_of node (whole node history) m
added_is node history sender (message.Vote vote) adds =
    let event : Event = record { sender = sender; message = message.Vote vote } in
    let later = history ++ event ∷ [] in
    let own = node.own.0 in
    let new = new_vote node history (whole node later) vote adds.new in
    let headed : voted_header later vote.round own ≡ Some new.header = header_later history event vote.round own ∙ or_none (voted_header history vote.round own) ∙ new.held in
    let votes : (voter : ℕ) → counted_vote node later new.header.body voter ≡ counted_with node (whole node history) (message.Vote vote) vote.round voter =
    λ voter. sym (ap (counted_on node later voter) headed) ∙ counted_by node history sender (message.Vote vote) adds vote.round voter in
    ap (option_and_then (completed node later)) new.held
    ∙ ap (λ counted. certificate_by node counted new.header) (fun_ext votes)
    ∙ sym (ap (option_and_then (certificate_by node (counted_with node (whole node history) (message.Vote vote) vote.round))) new.held)
added_is node history sender (message.Certificate certificate) adds = refl
added_is node history sender (message.Batch batch) adds = refl
added_is node history sender (message.BatchAck ack) adds = refl
added_is node history sender (message.Header header) adds = refl
added_is node history sender (message.Coin coin) adds = refl

pub slots_are : (node : Node) (history : History) (event : Event) → Adds node history event
    → slots_with (slots node history) (certificate_of node (whole node history) event.message) ≡ slots node (history ++ event ∷ [])
slots_are node history event adds =
    fun_ext (λ round. fun_ext (λ author.
    sym (slots_grow node history event adds.longer round author
    ∙ ap (λ c. option_or (slots node history round author) (slots_of (option_to_list c) round author)) (added_is node history event.sender event.message adds))))

-- ---- the greatest round

pub at_least : (most : ℕ) (rounds : List ℕ) → most ≤ fold max most rounds
at_least most [] = omega arith
at_least most (round ∷ rounds) = let more = at_least (max most round) rounds in grind (arith, more)

pub each_within : (most : ℕ) (certificates : List Certificate) (c : Certificate) → Contains certificates c → c.header.round ≤ fold max most (map (λ (d : Certificate). d.header.round) certificates)
each_within most [] c inside = absurd (Contains-nothing c inside)
each_within most (first ∷ rest) c inside =
    elim (Contains-cases first rest c inside) [
      | inl same ↦
          let more = at_least (max most first.header.round) (map (λ (d : Certificate). d.header.round) rest) in
          let is : first.header.round ≡ c.header.round = ap (λ (d : Certificate). d.header.round) same in
          grind (arith, more, is)
      | inr later ↦ each_within (max most first.header.round) rest c later
    ]

all_within : (most bound : ℕ) (certificates : List Certificate) → most ≤ bound → ((c : Certificate) → Contains certificates c → c.header.round ≤ bound)
    → fold max most (map (λ (d : Certificate). d.header.round) certificates) ≤ bound
all_within most bound [] less each = less
all_within most bound (first ∷ rest) less each =
    let here = each first (Contains-first rest first) in
    all_within (max most first.header.round) bound rest (grind (arith, less, here)) (λ c inside. each c (Contains-later first rest c inside))

-- a certificate that an event adds is there after it
added_in : (node : Node) (history : History) (event : Event) → Adds node history event → (c : Certificate)
    → slots node history c.header.round c.header.author.0 ≡ None → added node history event ≡ Some c
    → Contains (certificates node (history ++ event ∷ [])) c
added_in node history event adds c free is =
    let held : slots node (history ++ event ∷ []) c.header.round c.header.author.0 ≡ Some c = slots_grow node history event adds.longer c.header.round
    c.header.author.0 ∙ rw (free, is, of_its_slot c.header) refl in
    (found_passes (λ d. is_of_slot c.header.round c.header.author.0 d.header) (certificates node (history ++ event ∷ [])) c held).1

-- the slot of a certificate that an event adds held nothing
added_free : (node : Node) (history : History) (sender : Author) (m : Message) → Adds node history (record { sender = sender; message = m }) → (c : Certificate)
    → added node history (record { sender = sender; message = m }) ≡ Some c → slots node history c.header.round c.header.author.0 ≡ None
added_free node history sender (message.Certificate certificate) adds c is =
    ap (λ (d : Certificate). slots node history d.header.round d.header.author.0) (sym (same_Some certificate c is))
    ∙ new_certificate-free node (whole node history) (whole node (history ++ record { sender = sender; message = message.Certificate certificate } ∷ [])) certificate adds.new
added_free node history sender (message.Vote vote) adds c is =
    let event : Event = record { sender = sender; message = message.Vote vote } in
    let new = new_vote node history (whole node (history ++ event ∷ [])) vote adds.new in
    let made : completed node (history ++ event ∷ []) new.header ≡ Some c = sym (ap (option_and_then (completed node (history ++ event ∷ []))) new.held) ∙ is in
    let of = completed-header node (history ++ event ∷ []) new.header c made in
    let place = slot_is vote.round node.own.0 new.header.body (found_passes (λ h. is_of_slot vote.round node.own.0 h.body) (headers history) new.header new.held).0 in
    ap (λ (h : HeaderBody). slots node history h.round h.author.0) of
    ∙ ap (λ r. slots node history r new.header.body.author.0) place.0 ∙ ap (slots node history vote.round) place.1 ∙ new.free
added_free node history sender (message.Batch batch) adds c is = absurd (none-some c is)
added_free node history sender (message.BatchAck ack) adds c is = absurd (none-some c is)
added_free node history sender (message.Header header) adds c is = absurd (none-some c is)
added_free node history sender (message.Coin coin) adds c is = absurd (none-some c is)

-- no certificate is lost
stays_in : (node : Node) (history : History) (event : Event) → Adds node history event → (c : Certificate) → Contains (certificates node history) c
    → Contains (certificates node (history ++ event ∷ [])) c
stays_in node history event adds c inside =
    let held = kept_slot node history event adds c.header.round c.header.author.0 c (in_slots node history adds.legal c inside) in
    (found_passes (λ d. is_of_slot c.header.round c.header.author.0 d.header) (certificates node (history ++ event ∷ [])) c held).1

highest_is : (node : Node) (history : History) (event : Event) → Adds node history event
    → highest_with (highest_of (certificates node history)) (added node history event) ≡ highest_of (certificates node (history ++ event ∷ []))
highest_is node history event adds =
    let before = certificates node history in
    let later = certificates node (history ++ event ∷ []) in
    let grows : highest_of before ≤ highest_of later = all_within 0 (highest_of later) before (omega arith) (λ c inside. each_within 0 later c (stays_in node history event adds c inside)) in
    elim (given_or_none (added node history event)) [
      | inl new ↦
          let c = new.0 in
          let free = added_free node history event.sender event.message adds c new.1 in
          let here = each_within 0 later c (added_in node history event adds c free new.1) in
          let most : highest_of later ≤ max (highest_of before) c.header.round =
          all_within 0 (max (highest_of before) c.header.round) later (omega arith) (λ d inside. elim (certificate_more node history event d adds inside) [
            | inl old ↦ let within = each_within 0 before d old in grind (arith, within)
            | inr it ↦
                let is : d.header.round ≡ c.header.round = ap (λ (e : Certificate). e.header.round) (same_Some d c (sym it.is ∙ new.1)) in
                grind (arith, is)
          ]) in
          ap (highest_with (highest_of before)) new.1 ∙ grind (arith, grows, here, most)
      | inr none ↦
          let most : highest_of later ≤ highest_of before =
          all_within 0 (highest_of before) later (omega arith) (λ d inside. elim (certificate_more node history event d adds inside) [
            | inl old ↦ each_within 0 before d old
            | inr it ↦ absurd (none-some d (sym none ∙ it.is))
          ]) in
          ap (highest_with (highest_of before)) none ∙ omega (arith, grows, most)
    ]

-- ---- the order

order_is : (node : Node) (history : History) (event : Event) → Adds node history event
    → order node history ++ newly_ordered (ledger_at node history)
    (ledger_of node (slots_with (slots node history) (certificate_of node (whole node history) event.message)) (coins history ++ option_to_list (as_coin event.message)))
    ≡ order node (history ++ event ∷ [])
order_is node history event adds =
    let later = history ++ event ∷ [] in
    let before = ledger_at node history in
    let lengthens = order_lengthens node history (event ∷ []) (slots node later) adds.longer (record { placed = in_place node later; same = λ round author above. refl }) in
    ap (λ s. order node history ++ newly_ordered before (ledger_of node s (coins history ++ option_to_list (as_coin event.message)))) (slots_are node history event adds)
    ∙ ap (λ c. order node history ++ newly_ordered before (ledger_of node (slots node later) c)) (sym (coins_later history event))
    ∙ ap (λ p. order node history ++ map (λ (c : Certificate). certificate_digest c.header)
    (segments (ledger_at node later) p (newer (ledger_at node later) (last_wave before)))) (sym (last_is before))
    ∙ sym lengthens.order

-- ---- all of it

-- two states with the same parts are one
pub same_state : (one other : State) → one.batches ≡ other.batches → one.acked ≡ other.acked → one.named ≡ other.named → one.votes ≡ other.votes → one.own_headers ≡ other.own_headers
    → one.counted ≡ other.counted → one.slots ≡ other.slots → one.highest ≡ other.highest → one.coins ≡ other.coins → one.order ≡ other.order → one ≡ other
same_state one other batches acked named votes own_headers counted slots highest coins order =
    ap (λ x. record one { batches = x }) batches
    ∙ ap (λ x. record one { batches = other.batches; acked = x }) acked
    ∙ ap (λ x. record one { batches = other.batches; acked = other.acked; named = x }) named
    ∙ ap (λ x. record one { batches = other.batches; acked = other.acked; named = other.named; votes = x }) votes
    ∙ ap (λ x. record other { own_headers = x; counted = one.counted; slots = one.slots; highest = one.highest; coins = one.coins; order = one.order }) own_headers
    ∙ ap (λ x. record other { counted = x; slots = one.slots; highest = one.highest; coins = one.coins; order = one.order }) counted
    ∙ ap (λ x. record other { slots = x; highest = one.highest; coins = one.coins; order = one.order }) slots
    ∙ ap (λ x. record other { highest = x; coins = one.coins; order = one.order }) highest
    ∙ ap (λ x. record other { coins = x; order = one.order }) coins
    ∙ ap (λ x. record other { order = x }) order

pub whole_grows : (node : Node) (history : History) (event : Event) → Adds node history event → grown node (whole node history) event.message ≡ whole node (history ++ event ∷ [])
whole_grows node history event adds =
    let now = whole node history in
    same_state (grown node now event.message) (whole node (history ++ event ∷ []))
    (sym (filter_map-push (λ e. as_batch e.message) history event))
    (fun_ext (λ digest. fun_ext (λ member. acked_later history event digest member)))
    (fun_ext (λ digest. named_later node history event digest))
    (fun_ext (λ round. fun_ext (λ author. voted_later history event round author)))
    (fun_ext (λ round. sym (header_later history event round node.own.0)))
    (fun_ext (λ round. fun_ext (λ voter. sym (counted_by node history event.sender event.message adds round voter))))
    (slots_are node history event adds)
    (ap (highest_with (highest_of (certificates node history))) (sym (added_is node history event.sender event.message adds)) ∙ highest_is node history event adds)
    (sym (coins_later history event))
    (order_is node history event adds)
