-- After a step from a sound state the votes, own headers and votes on them are as they have to be.
use Rattle.std.proofs.Common.{◌≡◌, ℕ, ◌<◌, ◌≤◌, Bool, true, false, [], ◌∷◌, Option, Some, None, ◌⊎◌, inl, inr, refl, ap, sym, ◌∙◌, subst, arith}
use Rattle.std.specs.Prelude.{◌==◌, ◌&&◌, not, is_some, option_map, option_and_then, if◌then◌else◌}
use Rattle.std.specs.Option.{option_or, option_to_list}
use Rattle.std.proofs.lemmas.Bool.{cases_Bool, cases_lt, and_parts, and_from, eqb-true, ltb-true, le-leb, true≢false}
use Rattle.std.proofs.lemmas.Option.{same_Some, none-some}
use Rattle.wire.specs.Fields.{IsDigest, IsRound}
use Rattle.wire.proofs.DigestLemmas.{are_digest_bytes}
use Rattle.wire.specs.declared.message.Message.TheVariants as message
use Rattle.committee.specs.Charter.{weight}
use Rattle.committee.proofs.Weights.{weight-same, weight-within}
use Rattle.spec_model.specs.Giving.{unless_low}
use Rattle.spec_model.specs.Holdings.{certificate_by, own_vote, is_low}
use Rattle.spec_model.specs.Nodes.{Node, size_of, quorum}
use Rattle.spec_model.specs.Slots.{header_digest, is_of_slot, slots_of}
use Rattle.spec_model.specs.States.{State, floor_in}
use Rattle.spec_model.specs.Words.{Author, Digest, Header, Message, Vote}
use Rattle.spec_laws.proofs.Lists.{given_or_none}
use Rattle.spec_laws.proofs.Meeting.{same_number}
use Rattle.spec_laws.proofs.SlotsGrow.{or_none}
use Rattle.spec_laws.proofs.Votes.{slot_is}
use Rattle.spec_laws.proofs.Weighing.{alone_below}
use Rattle.spec_machine.specs.Machine.{header_at, vote_at, certificate_of, grown}
use Rattle.spec_machine.specs.Sound.{AreVotes, IsOwnHeader, IsCounted, IsCompleted, counts}
use Rattle.spec_machine.proofs.AfterStep.{IsAfterStep, after_step, found_high, still_found, slot_kept, slot_stays}
use Rattle.spec_machine.proofs.Collected.{high_above, unless}
use Rattle.spec_machine.proofs.Completing.{certificate_with}
use Rattle.spec_machine.proofs.NewThere.{new_vote}
use Rattle.spec_machine.proofs.Passing.{header_passes}
use Rattle.spec_machine.proofs.Step.{IsStep, or_left, or_right, or_cases, header_new, own_header, uncounted, own_new, counted_grown}

abbrev digest_of : Header → Digest
digest_of header = header_digest header.body

-- ---- votes

mapped : {X Y : Type 0} (f : X → Y) (o : Option X) (y : Y) → option_map f o ≡ Some y → (x : X) × (o ≡ Some x) × (f x ≡ y)
mapped f (Some x) y is = (x, refl, same_Some (f x) y is)
mapped f None y is = absurd (none-some y is)

map_or : {X Y : Type 0} (f : X → Y) (one other : Option X) → option_or (option_map f one) (option_map f other) ≡ option_map f (option_or one other)
map_or f (Some x) other = refl
map_or f None other = refl

unless_mapped : {X Y : Type 0} (f : X → Y) (floor round : ℕ) (o : Option X) → unless_low floor round (option_map f o) ≡ option_map f (unless_low floor round o)
unless_mapped f floor round o = elim (cases_Bool (is_low floor round)) [ inl low ↦ rw low refl | inr high ↦ rw high refl ]

-- a vote is for a member, and a digest of a round
vote_is : (node : Node) (state : State) (sender : Author) (m : Message) → IsStep node state sender m → (round author : ℕ) (voted : Digest) → (grown node state m).votes round author ≡ Some voted
    → (author < size_of node) × IsDigest voted × IsRound round
vote_is node state sender m step round author voted is =
    elim (or_cases (state.votes round author) (option_map digest_of (header_at m round author)) voted is) [
      | inl old ↦ (step.sound.votes.for_members round author voted old, step.sound.votes.digests round author voted old, step.sound.votes.rounds round author voted old)
      | inr new ↦
          let found = mapped digest_of (header_at m round author) voted new.1 in
          let header = found.0 in
          let it = header_new m round author header found.1 in
          let step' = subst (λ x. IsStep node state sender x) it.0 step in
          let place = slot_is round author header.body it.1 in
          let member = ltb-true _ _ (header_passes node sender header step'.taken).1.member in
          (subst (λ a. a < size_of node) place.1 member, subst IsDigest found.2 (are_digest_bytes _), subst IsRound place.0 step'.taken.message.body.round)
    ]

-- ---- own headers

own_header_stays : (node : Node) (state : State) (sender : Author) (m : Message) → IsStep node state sender m → IsAfterStep node state m → (round : ℕ) (header : Header)
    → (after_step node state m).own_headers round ≡ Some header → IsOwnHeader node (after_step node state m) round header
own_header_stays node state sender m step back round header is =
    let own = node.own.0 in
    let later = grown node state m in
    let low = floor_in node later in
    let other = floor_in node (after_step node state m) in
    let here = found_high low other round (later.own_headers round) header back.floors is in
    let vote = own_vote node header.body in
    elim (own_header node state sender m round header here.1) [
      | inl old ↦
          let was = step.sound.votes.headers round header old in
          record {
            place = was.place;
            passed = was.passed;
            high = here.0;
            held = back.held header.body was.held;
            voted = still_found low other round (later.counted round own) vote back.floors here.0 (or_left (state.counted round own) (vote_at node m round own) vote was.voted);
          }
      | inr new ↦
          let step' = subst (λ x. IsStep node state sender x) new.is step in
          let it = own_new node state sender header round step' new.place in
          let voted : vote_at node (message.Header header) round own ≡ Some vote = ap (λ b. if b then Some vote else None) (and_from _ _ new.place (same_number own)) in
          record {
            place = new.place;
            passed = it.taken;
            high = here.0;
            held = back.held header.body it.held;
            voted = still_found low other round (later.counted round own) vote back.floors here.0
                (or_right (state.counted round own) (vote_at node m round own) (uncounted node state step.sound round own new.free) ∙ ap (λ x. vote_at node x round own) new.is ∙ voted);
          }
    ]

counted_stays : (node : Node) (state : State) (sender : Author) (m : Message) → IsStep node state sender m → IsAfterStep node state m → (round voter : ℕ) (vote : Vote)
    → (after_step node state m).counted round voter ≡ Some vote → IsCounted node (after_step node state m) round voter vote
counted_stays node state sender m step back round voter vote is =
    let later = grown node state m in
    let low = floor_in node later in
    let other = floor_in node (after_step node state m) in
    let here = found_high low other round (later.counted round voter) vote back.floors is in
    let it = counted_grown node state sender m step round voter vote here.1 in
    record {
      header = it.header;
      held = still_found low other round (later.own_headers round) it.header back.floors here.0 it.held;
      on = it.on;
      member = it.member;
      signature = it.signature;
    }

-- ---- completed headers

-- a message counts no vote on an own header from before, or is a vote on it
vote_or_none : (node : Node) (state : State) (sender : Author) (m : Message) → IsStep node state sender m → (round : ℕ) (header : Header) → state.own_headers round ≡ Some header
    → ((voter : ℕ) → vote_at node m round voter ≡ None) ⊎ ((vote : Vote) × (m ≡ message.Vote vote) × (vote.round ≡ round))
vote_or_none node state sender (message.Vote vote) step round header held =
    elim (cases_Bool (vote.round == round)) [
      | inl same ↦ inr (vote, refl, eqb-true _ _ same)
      | inr other ↦ inl (λ voter. ap (λ b. if b && (vote.voter.0 == voter) then Some vote else None) other)
    ]
vote_or_none node state sender (message.Header new) step round header held =
    elim (cases_Bool (is_of_slot round node.own.0 new.body)) [
      | inl place ↦ absurd (none-some header (sym (own_new node state sender new round step place).free ∙ held))
      | inr other ↦ inl (λ voter. ap (λ b. if b && (voter == node.own.0) then Some (own_vote node new.body) else None) other)
    ]
vote_or_none node state sender (message.Batch batch) step round header held = inl (λ voter. refl)
vote_or_none node state sender (message.BatchAck ack) step round header held = inl (λ voter. refl)
vote_or_none node state sender (message.Certificate certificate) step round header held = inl (λ voter. refl)
vote_or_none node state sender (message.Coin coin) step round header held = inl (λ voter. refl)

-- where no vote is new the same count
same_counts : (node : Node) (state : State) (m : Message) (round : ℕ) → ((voter : ℕ) → vote_at node m round voter ≡ None) → (voter : ℕ)
    → counts (grown node state m) round voter ≡ counts state round voter
same_counts node state m round none voter = ap is_some (ap (option_or (state.counted round voter)) (none voter) ∙ or_none (state.counted round voter))

not_some : {X : Type 0} (o : Option X) → is_some o ≡ false → o ≡ None
not_some (Some x) is = absurd cc
not_some None is = refl

-- a header that was complete is so still
still_complete : (node : Node) (state : State) (m : Message) (round : ℕ) (header : Header) → ((voter : ℕ) → vote_at node m round voter ≡ None)
    → IsCompleted node state round header → IsCompleted node (grown node state m) round header
still_complete node state m round header none was =
    let same = same_counts node state m round none in
    let weighs = weight-same node.charter (λ voter. counts (grown node state m) round voter && not (voter == was.last)) (λ voter. counts state round voter && not (voter == was.last))
    (λ voter within. ap (λ b. b && not (voter == was.last)) (same voter)) in
    let short = was.short in
    record {
      certificate = was.certificate;
      held = slot_kept node state m round node.own.0 was.certificate was.held;
      of = was.of;
      last = was.last;
      other = was.other;
      counted = same was.last ∙ was.counted;
      short = omega (arith, weighs, short);
    }

-- who counts after a vote counted before it, but for the voter
counted_before : (node : Node) (state : State) (vote : Vote) (voter : ℕ)
    → (counts (grown node state (message.Vote vote)) vote.round voter && not (voter == vote.voter.0)) ≡ true → counts state vote.round voter ≡ true
counted_before node state vote voter is =
    let m : Message = message.Vote vote in
    let parts = and_parts (counts (grown node state m) vote.round voter) (not (voter == vote.voter.0)) is in
    elim (given_or_none (state.counted vote.round voter)) [
      | inl old ↦ ap is_some old.1
      | inr none ↦ elim (cases_Bool (vote.voter.0 == voter)) [
        | inl same ↦
            let last : (voter == vote.voter.0) ≡ true = ap (λ v. v == vote.voter.0) (sym (eqb-true _ _ same)) ∙ same_number vote.voter.0 in
            absurd (true≢false (sym parts.1 ∙ ap not last))
        | inr other ↦
            let nothing : vote_at node m vote.round voter ≡ None = ap (λ b. if b then Some vote else None) (ap (λ b. (vote.round == vote.round) && b) other ∙ and_none (vote.round == vote.round)) in
            absurd (true≢false (sym parts.0 ∙ ap is_some (or_right (state.counted vote.round voter) (vote_at node m vote.round voter) none ∙ nothing)))
      ]
    ]
  where
    and_none : (b : Bool) → (b && false) ≡ false
    and_none true = refl
    and_none false = refl

-- a vote with which a quorum counts completes its header
completes : (node : Node) (state : State) (sender : Author) (vote : Vote) (header : Header) → IsStep node state sender (message.Vote vote) → state.own_headers vote.round ≡ Some header
    → weight node.charter (counts state vote.round) < quorum node → quorum node ≤ weight node.charter (counts (grown node state (message.Vote vote)) vote.round)
    → IsCompleted node (grown node state (message.Vote vote)) vote.round header
completes node state sender vote header step held few enough =
    let own = node.own.0 in
    let round = vote.round in
    let m : Message = message.Vote vote in
    let later = grown node state m in
    let new = new_vote node state later vote step.new in
    let was = step.sound.votes.headers round header held in
    let certificate = certificate_with node (later.counted round) header.body in
    let by_own = (and_parts (header.body.round == round) (header.body.author.0 == own) was.place).1 in
    let made : certificate_by node (later.counted round) header ≡ Some certificate = ap (λ b. if b then Some certificate else None) (and_from _ _ by_own (le-leb _ _ enough)) in
    let added : certificate_of node state m ≡ Some certificate = ap (option_and_then (certificate_by node (later.counted round))) held ∙ made in
    let here : slots_of (certificate ∷ []) round own ≡ Some certificate = ap (λ b. if b then Some certificate else None) was.place in
    let none = not_some (state.counted round vote.voter.0) new.uncounted in
    let came : vote_at node m round vote.voter.0 ≡ Some vote = ap (λ b. if b then Some vote else None) (and_from _ _ (same_number round) (same_number vote.voter.0)) in
    let less = weight-within node.charter (λ voter. counts later round voter && not (voter == vote.voter.0)) (counts state round) (λ voter within is. counted_before node state vote voter is) in
    record {
      certificate = certificate;
      held = or_right (state.slots round own) (slots_of (option_to_list (certificate_of node state m)) round own) new.free ∙ ap (λ o. slots_of (option_to_list o) round own) added ∙ here;
      of = refl;
      last = vote.voter.0;
      other = λ same. none-some (own_vote node header.body) (sym none ∙ ap (state.counted round) same ∙ was.voted);
      counted = ap is_some (or_right (state.counted round vote.voter.0) (vote_at node m round vote.voter.0) none ∙ came);
      short = omega (arith, few, less);
    }

-- a new own header has one vote, which is no quorum
new_incomplete : (node : Node) (state : State) (sender : Author) (header : Header) (round : ℕ) → IsStep node state sender (message.Header header) → is_of_slot round node.own.0 header.body ≡ true
    → state.own_headers round ≡ None → weight node.charter (counts (grown node state (message.Header header)) round) < quorum node
new_incomplete node state sender header round step place free =
    let own = node.own.0 in
    let m : Message = message.Header header in
    let few = alone_below node.charter step.node_is.charter own step.node_is.member in
    let alone = weight-same node.charter (counts (grown node state m) round) (λ voter. voter == own)
    (λ voter within.
    ap is_some (or_right (state.counted round voter) (vote_at node m round voter) (uncounted node state step.sound round voter free)
    ∙ ap (λ b. if b && (voter == own) then Some (own_vote node header.body) else None) place)
    ∙ is_given (voter == own) (own_vote node header.body)) in
    omega (arith, few, alone)
  where
    is_given : {X : Type 0} (b : Bool) (x : X) → is_some (if b then Some x else None) ≡ b
    is_given true x = refl
    is_given false x = refl

complete_grown : (node : Node) (state : State) (sender : Author) (m : Message) → IsStep node state sender m → (round : ℕ) (header : Header) → (grown node state m).own_headers round ≡ Some header
    → quorum node ≤ weight node.charter (counts (grown node state m) round) → IsCompleted node (grown node state m) round header
complete_grown node state sender m step round header held enough =
    elim (own_header node state sender m round header held) [
      | inr new ↦
          let step' = subst (λ x. IsStep node state sender x) new.is step in
          let few = subst (λ x. weight node.charter (counts (grown node state x) round) < quorum node) (sym new.is) (new_incomplete node state sender header round step' new.place new.free) in
          absurd (omega (arith, few, enough))
      | inl old ↦ elim (vote_or_none node state sender m step round header old) [
        | inl none ↦
            let same = weight-same node.charter (counts (grown node state m) round) (counts state round) (λ voter within. same_counts node state m round none voter) in
            still_complete node state m round header none (step.sound.votes.complete round header old (omega (arith, same, enough)))
        | inr came ↦
            let vote = came.0 in
            let step' = subst (λ x. IsStep node state sender x) came.1 step in
            let new = new_vote node state (grown node state (message.Vote vote)) vote step'.new in
            let few : weight node.charter (counts state round) < quorum node = elim (cases_lt (weight node.charter (counts state round)) (quorum node)) [
              | inl short ↦ short
              | inr full ↦
                  let was = step.sound.votes.complete round header old full in
                  absurd (none-some was.certificate (sym new.free ∙ ap (λ r. state.slots r node.own.0) came.2 ∙ was.held))
            ] in
            let enough' = subst (λ x. quorum node ≤ weight node.charter (counts (grown node state x) round)) came.1 enough in
            let done = completes node state sender vote header step' (ap state.own_headers came.2 ∙ old) (subst (λ r. weight node.charter (counts state r) < quorum node) (sym came.2) few)
            (subst (λ r. quorum node ≤ weight node.charter (counts (grown node state (message.Vote vote)) r)) (sym came.2) enough') in
            subst (λ x. IsCompleted node (grown node state x) round header) (sym came.1) (subst (λ r. IsCompleted node (grown node state (message.Vote vote)) r header) came.2 done)
      ]
    ]

complete_stays : (node : Node) (state : State) (sender : Author) (m : Message) → IsStep node state sender m → IsAfterStep node state m
    → (round : ℕ) (header : Header) → (after_step node state m).own_headers round ≡ Some header
    → quorum node ≤ weight node.charter (counts (after_step node state m) round) → IsCompleted node (after_step node state m) round header
complete_stays node state sender m step back round header is enough =
    let later = grown node state m in
    let low = floor_in node later in
    let other = floor_in node (after_step node state m) in
    let here = found_high low other round (later.own_headers round) header back.floors is in
    let high : is_low low round ≡ false = ap (λ f. is_low f round) back.floors ∙ here.0 in
    let same : (voter : ℕ) → counts (after_step node state m) round voter ≡ counts later round voter = λ voter. ap is_some (unless low round (later.counted round voter) high) in
    let weighs = weight-same node.charter (counts (after_step node state m) round) (counts later round) (λ voter within. same voter) in
    let it = complete_grown node state sender m step round header here.1 (omega (arith, weighs, enough)) in
    let less = weight-same node.charter (λ voter. counts (after_step node state m) round voter && not (voter == it.last)) (λ voter. counts later round voter && not (voter == it.last))
    (λ voter within. ap (λ b. b && not (voter == it.last)) (same voter)) in
    let short = it.short in
    record {
      certificate = it.certificate;
      held = slot_stays low other round (later.slots round node.own.0) it.certificate back.floors (high_above other round here.0) it.held;
      of = it.of;
      last = it.last;
      other = it.other;
      counted = same it.last ∙ it.counted;
      short = omega (arith, less, short);
    }

-- ---- all of it

pub votes_stay : (node : Node) (state : State) (sender : Author) (m : Message) → IsStep node state sender m → IsAfterStep node state m → AreVotes node (after_step node state m)
votes_stay node state sender m step back =
    let later = grown node state m in
    let low = floor_in node later in
    let other = floor_in node (after_step node state m) in
    record {
      high = λ round author digest is. (found_high low other round (later.votes round author) digest back.floors is).0;
      for_members = λ round author digest is. (vote_is node state sender m step round author digest (found_high low other round (later.votes round author) digest back.floors is).1).0;
      digests = λ round author digest is. (vote_is node state sender m step round author digest (found_high low other round (later.votes round author) digest back.floors is).1).1;
      rounds = λ round author digest is. (vote_is node state sender m step round author digest (found_high low other round (later.votes round author) digest back.floors is).1).2;
      own = λ round.
          ap (λ o. unless_low low round (option_or o (option_map digest_of (header_at m round node.own.0)))) (step.sound.votes.own round)
          ∙ ap (unless_low low round) (map_or digest_of (state.own_headers round) (header_at m round node.own.0))
          ∙ unless_mapped digest_of low round (later.own_headers round);
      headers = own_header_stays node state sender m step back;
      counted = counted_stays node state sender m step back;
      complete = complete_stays node state sender m step back;
    }
