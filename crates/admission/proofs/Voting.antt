-- What a book of votes has after a new event.
use Rattle.std.proofs.Common.{arith, ◌≡◌, ◌≢◌, ℕ, Bool, true, false, cond, Option, Some, None, inl, inr, refl, ap, sym, subst, ◌∙◌}
use Rattle.std.specs.Prelude.{◌==◌, ◌&&◌, nat_le, option_map, if◌then◌else◌}
use Rattle.std.specs.FinMap.{get-insert}
use Rattle.std.specs.Option.{option_or}
use Rattle.std.proofs.lemmas.Cmp.{eq_by_cmp_equiv}
use Rattle.std.specs.Ordering.{eq_by_cmp}
use Rattle.std.proofs.lemmas.Map.Views.{tells_apart}
use Rattle.std.proofs.lemmas.Bool.{cases_Bool, eqb-true, eq-eqb, false_from_ne_true, and_parts, and_from, not-true, not-false, true≢false}
use Rattle.std.proofs.lemmas.Grind.{common_steps}
use Rattle.wire.specs.declared.message.Message.TheVariants as message
use Rattle.spec_model.specs.Admitting.{is_new, is_own, header_answer}
use Rattle.spec_model.specs.Giving.{unless_low}
use Rattle.spec_model.specs.Nodes.{Node}
use Rattle.spec_model.specs.Slots.{header_digest, is_of_slot}
use Rattle.spec_model.specs.States.{State, floor_in}
use Rattle.spec_model.specs.Words.{Author, Digest, Event, Header, Message}
use Rattle.std.proofs.lemmas.Option.{none-some}
use Rattle.spec_laws.proofs.Lists.{given_or_none}
use Rattle.spec_laws.proofs.Votes.{slot_is}
use Rattle.spec_machine.specs.Machine.{header_at, grown, after}
use Rattle.votebook.specs.Slot.{slot_of}
use Rattle.votebook.specs.Votes.{Votes, voted_in, ForgetsTo}
use Rattle.votebook.specs.declared.slot.Slot.{Slot}
use Rattle.votebook.specs.Slot.{slot_cmp}
use Rattle.votebook.proofs.Lookups.{exact_slots, slots_total}
use Rattle.spec_machine.specs.Laws.{Comes, FloorsAgree}
use Rattle.admission.specs.Laws.{VotesStay, VoteIsKept}
use Rattle.admission.specs.Votes.{HasVotes, with_vote, is_peers_header}
use Rattle.admission.proofs.Answering.{answered_as}
use Rattle.spec_machine.proofs.Floors.{low_is_to_the_floor}

abbrev digest_of : Header → Digest
digest_of header = header_digest header.body

-- what isn't forgotten isn't low
forgotten : (floor other round : ℕ) (found : Option Digest) → floor ≡ other → (if nat_le round other then None else found) ≡ unless_low floor round found
forgotten floor other round found same =
    ap (λ f. if nat_le round f then None else found) (sym same) ∙ ap (λ b. if b then None else found) (sym (low_is_to_the_floor floor round))

-- a book that has the votes with all that an event adds has those after it without what fell low
record HasGrown (node : Node) (state : State) (m : Message) (votes : Votes) : Type 0 where
  others : (author : Author) (round : ℕ) → author.0 ≢ node.own.0 → voted_in votes author round ≡ option_or (state.votes round author.0) (option_map digest_of (header_at m round author.0))
  own : (author : Author) (round : ℕ) → author.0 ≡ node.own.0 → voted_in votes author round ≡ None

without_low : FloorsAgree → (node : Node) (state : State) (event : Event) (votes later : Votes) → Comes node state event → HasGrown node state event.message votes
    → ForgetsTo (floor_in node (after node state event)) votes later → HasVotes node (after node state event) later
without_low agree node state event votes later comes has forgets =
    let floor = floor_in node (grown node state event.message) in
    let other = floor_in node (after node state event) in
    let same : floor ≡ other = agree node state event comes in
    record {
      others = λ author round apart.
          forgets (slot_of author round)
          ∙ ap (λ o. if nat_le round other then None else o) (has.others author round apart)
          ∙ forgotten floor other round ((grown node state event.message).votes round author.0) same;
      own = λ author round mine.
          forgets (slot_of author round) ∙ ap (λ o. if nat_le round other then None else o) (has.own author round mine) ∙ nothing (nat_le round other);
    }
  where
    nothing : (b : Bool) → ◌≡◌ {A = Option Digest} (if b then None else None) None
    nothing true = refl
    nothing false = refl

-- ---- no header of another member

or_nothing : {X : Type 0} (o : Option X) → o ≡ option_or o None
or_nothing (Some x) = refl
or_nothing None = refl

-- a header is of an author
no_slot : (author own : ℕ) (given : ℕ) (round other : ℕ) → (given == own) ≡ true → author ≢ own → ((other == round) && (given == author)) ≡ false
no_slot author own given round other is apart =
    false_from_ne_true ((other == round) && (given == author))
    (λ both. apart (sym (eqb-true given author (and_parts (other == round) (given == author) both).1) ∙ eqb-true given own is))

no_header : (node : Node) (m : Message) → is_peers_header node m ≡ false → (round : ℕ) (author : ℕ) → author ≢ node.own.0 → header_at m round author ≡ None
no_header node (message.Header header) is round author apart =
    ap (λ b. if b then Some header else None)
    (no_slot author node.own.0 header.body.author.0 round header.body.round (not-false (is_own node header.body.author) is) apart)
no_header node (message.Batch batch) is round author apart = refl
no_header node (message.BatchAck ack) is round author apart = refl
no_header node (message.Vote vote) is round author apart = refl
no_header node (message.Certificate certificate) is round author apart = refl
no_header node (message.Coin coin) is round author apart = refl

pub votes_stay : FloorsAgree → VotesStay
votes_stay agree node state event votes later comes has is forgets =
    without_low agree node state event votes later comes (record {
      others = λ author round apart.
          has.others author round apart ∙ or_nothing (state.votes round author.0)
          ∙ ap (λ (o : Option Header). option_or (state.votes round author.0) (option_map digest_of o)) (sym (no_header node event.message is round author.0 apart));
      own = has.own;
    }) forgets

-- ---- a header of another member

-- its author and round have no vote
unvoted : (node : Node) (state : State) (header : Header) → is_own node header.body.author ≡ false → is_new (header_answer node state header) ≡ true
    → state.votes header.body.round header.body.author.0 ≡ None
unvoted node state header peer new =
    elim (given_or_none (state.votes header.body.round header.body.author.0)) [
      | inr none ↦ none
      | inl found ↦ absurd (voted_not_new node state header found.0 peer found.1 new)
    ]
  where
    voted_not_new : (node : Node) (state : State) (header : Header) (voted : Digest) → is_own node header.body.author ≡ false
        → state.votes header.body.round header.body.author.0 ≡ Some voted → is_new (header_answer node state header) ≡ true → ⊥
    voted_not_new node state header voted peer is new = grind (arith, peer, is, new, common_steps)

-- slots compare alike where they are one
same_slot : (round : ℕ) (header : Header) (by : Author) → eq_by_cmp slot_cmp (slot_of by round) (slot_of header.body.author header.body.round) ≡ is_of_slot round by.0 header.body
same_slot round header by =
    let one : Slot = slot_of by round in
    let other : Slot = slot_of header.body.author header.body.round in
    elim (cases_Bool (is_of_slot round by.0 header.body)) [
      | inl here ↦
          let place = slot_is round by.0 header.body here in
          let same : one ≡ other =
          ap (λ (r : ℕ). record { round = r; author = by.0 }) (sym place.0) ∙ ap (λ (a : ℕ). record { round = header.body.round; author = a }) (sym place.1) in
          ap (eq_by_cmp slot_cmp one) (sym same) ∙ (eq_by_cmp_equiv slots_total).refl one ∙ sym here
      | inr apart ↦
          false_from_ne_true (eq_by_cmp slot_cmp one other) (λ tied.
          let same = tells_apart exact_slots one other tied in
          let round_is = ap (λ (s : Slot). s.round) (sym same) in
          let author_is = ap (λ (s : Slot). s.author) (sym same) in
          true≢false (sym (and_from _ _ (eq-eqb header.body.round round round_is) (eq-eqb header.body.author.0 by.0 author_is)) ∙ apart))
          ∙ sym apart
    ]

kept : (voted found : Option Digest) (given : Digest) (here : Bool) → (here ≡ true → found ≡ None) → voted ≡ found
    → cond here (Some given) voted ≡ option_or found (cond here (Some given) None)
kept voted (Some d) given true free is = absurd (none-some d (sym (free refl)))
kept voted None given true free is = refl
kept voted (Some d) given false free is = is
kept voted None given false free is = is

mapped_if : (here : Bool) (header : Header) → cond here (Some (digest_of header)) None ≡ option_map digest_of (if here then Some header else None)
mapped_if true header = refl
mapped_if false header = refl

pub vote_is_kept : FloorsAgree → VoteIsKept
vote_is_kept agree node state event header votes later comes has came peer forgets =
    let theirs : is_own node header.body.author ≡ false = not-true (is_own node header.body.author) (ap (is_peers_header node) (sym came) ∙ peer) in
    let new : is_new (header_answer node state header) ≡ true = ap is_new (sym (answered_as node state event (message.Header header) came)) ∙ comes.new in
    let free = unvoted node state header theirs new in
    without_low agree node state event (with_vote votes header.body) later comes (subst (λ (m : Message). HasGrown node state m (with_vote votes header.body)) (sym came) (record {
      others = λ author round apart.
          get-insert slots_total votes (slot_of header.body.author header.body.round) (digest_of header) (slot_of author round)
          ∙ ap (λ b. cond b (Some (digest_of header)) (voted_in votes author round)) (same_slot round header author)
          ∙ kept (voted_in votes author round) (state.votes round author.0) (digest_of header) (is_of_slot round author.0 header.body)
          (λ here. let place = slot_is round author.0 header.body here in
          ap (λ (r : ℕ). state.votes r author.0) (sym place.0) ∙ ap (state.votes header.body.round) (sym place.1) ∙ free)
          (has.others author round apart)
          ∙ ap (option_or (state.votes round author.0)) (mapped_if (is_of_slot round author.0 header.body) header);
      own = λ author round mine.
          get-insert slots_total votes (slot_of header.body.author header.body.round) (digest_of header) (slot_of author round)
          ∙ ap (λ b. cond b (Some (digest_of header)) (voted_in votes author round)) (same_slot round header author
          ∙ false_from_ne_true (is_of_slot round author.0 header.body)
          (λ here. true≢false (sym (eq-eqb header.body.author.0 node.own.0 ((slot_is round author.0 header.body here).1 ∙ mine)) ∙ theirs)))
          ∙ has.own author round mine;
    })) forgets
