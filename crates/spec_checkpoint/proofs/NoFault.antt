-- A checkpoint that a node writes of a sound state has no fault.
use Rattle.std.proofs.Common.{◌≡◌, ◌≢◌, ℕ, ◌<◌, ◌≤◌, suc, Bool, true, false, inl, inr, List, [], ◌∷◌, ◌++◌, length, map, refl, sym, ap, ◌∙◌, subst, append_assoc, length-append, arith}
use Rattle.std.specs.Prelude.{◌==◌, ◌&&◌, ◌||◌, not, nat_lt, find, All, AllPairs, Contains, Option, Some, None, is_some, option_map, option_and_then}
use Rattle.std.specs.List.{list_any, list_all}
use Rattle.std.specs.Option.{option_map_or}
use Rattle.std.proofs.lemmas.Bool.{cases_Bool, and_from, lt-ltb, le-leb, eqb-true, eq-eqb, ne_eqb}
use Rattle.std.proofs.Math.Path.{fun_ext}
use Rattle.std.proofs.lemmas.Option.{none-some}
use Rattle.std.proofs.lemmas.Slice.Eq.{bytes_eq-Decides}
use Rattle.committee.specs.Charter.{weight}
use Rattle.wire.specs.Encoding.{header_body}
use Rattle.std.proofs.lemmas.List.Elements.{All-contains}
use Rattle.std.proofs.lemmas.List.{length-map}
use Rattle.std.proofs.lemmas.List.Folds.{list_all-append, list_all-map}
use Rattle.spec_laws.proofs.Lists.{Contains-nothing, Contains-cases, Contains-first, Contains-later, found_passes}
use Rattle.spec_laws.proofs.Meeting.{any_from}
use Rattle.spec_laws.proofs.Votes.{of_its_slot}
use Rattle.spec_machine.specs.Laws.{KeptIsSound}
use Rattle.spec_machine.specs.Sound.{IsSound, IsOwnHeader, IsReceived, IsCompleted, counts}
use Rattle.spec_model.specs.Nodes.{Node, size_of, quorum}
use Rattle.spec_model.specs.Admitting.{IsTaken}
use Rattle.spec_model.specs.Holdings.{batch_digest, is_low, all_held, ledger_of}
use Rattle.spec_model.specs.Ordering.{top}
use Rattle.spec_model.specs.Slots.{same_digest, is_of_slot}
use Rattle.spec_model.specs.States.{has_own_batch, floor_in}
use Rattle.spec_model.specs.Words.{Author, BatchView, Certificate, Digest, Message, VoteEntry}
use Rattle.header.specs.Checks.{fault_of, accepts_all}
use Rattle.wire.specs.declared.message.Message.TheVariants as message
use Rattle.spec_checkpoint.specs.Data.{KeptBatch, KeptVote, KeptHeader, Checkpoint, IsKeptHeader, IsKeptCertificate, IsWritten, place_before}
use Rattle.spec_checkpoint.specs.Faults.{passes, is_batch_sound, batch_tests, is_vote_sound, has_kept, same_body, is_completed_well, is_header_sound, is_certificate_sound}
use Rattle.spec_checkpoint.specs.Faults.{piece_tests, is_whole_sound, has_no_fault}
use Rattle.spec_checkpoint.specs.Laws.{SoundHasNoFault, KeptHasNoFault}
use Rattle.spec_checkpoint.specs.Meaning.{kept_batch, kept_header, vote_of, kept_vote, listed, listed_floor, state_in}
use Rattle.spec_checkpoint.specs.Records.{ORDER_PIECE, COINS_PIECE, cut}
use Rattle.spec_checkpoint.proofs.Batches.{batch_kept}
use Rattle.spec_checkpoint.proofs.Certificates.{found_some}
use Rattle.spec_checkpoint.proofs.Floors.{same_floor, same_top}
use Rattle.spec_checkpoint.proofs.Rising.{found_itself}
use Rattle.spec_checkpoint.proofs.Votes.{same_itself}

-- ---- tests of a list

pub all_pass : {X : Type 0} (test : X → Bool) (xs : List X) → ((x : X) → Contains xs x → test x ≡ true) → list_all test xs ≡ true
all_pass test [] each = refl
all_pass test (x ∷ xs) each = and_from (test x) (list_all test xs) (each x (Contains-first xs x)) (all_pass test xs (λ y inside. each y (Contains-later x xs y inside)))

pieces_pass : {X : Type 0} (pieces : List X) → list_all (λ sound. sound) (piece_tests pieces) ≡ true
pieces_pass [] = refl
pieces_pass (piece ∷ pieces) = pieces_pass pieces

joined : (xs ys : List Bool) → list_all (λ sound. sound) xs ≡ true → list_all (λ sound. sound) ys ≡ true → list_all (λ sound. sound) (xs ++ ys) ≡ true
joined xs ys one two = list_all-append (λ sound. sound) xs ys ∙ and_from (list_all (λ sound. sound) xs) (list_all (λ sound. sound) ys) one two

mapped : {X : Type 0} (test : X → Bool) (xs : List X) → list_all test xs ≡ true → list_all (λ sound. sound) (map test xs) ≡ true
mapped test xs all = list_all-map (λ sound. sound) test xs ∙ all

passes_where : (node : Node) (sender : Author) (m : Message) → fault_of node.charter accepts_all (record { sender = sender; message = m }) ≡ None → passes node sender m ≡ true
passes_where node sender m none = ap (λ o. not (is_some o)) none

from_false : (b : Bool) → b ≡ false → not b ≡ true
from_false false is = refl
from_false true is = absurd cc

-- ---- places

-- a place comes before those after the next
places_through : (a b c d e f : ℕ) → place_before a b c d ≡ true → place_before c d e f ≡ true → place_before a b e f ≡ true
places_through a b c d e f one two = grind (arith, one, two)

-- and isn't the same as one after it
places_apart : (a b c d : ℕ) → place_before a b c d ≡ true → ((a == c) && (b == d)) ≡ false
places_apart a b c d is = grind (arith, is)

rounds_through : (a b c : ℕ) → nat_lt a b ≡ true → nat_lt b c ≡ true → nat_lt a c ≡ true
rounds_through a b c one two = grind (arith, one, two)

rounds_apart : (a b : ℕ) → nat_lt a b ≡ true → (a == b) ≡ false
rounds_apart a b is = grind (arith, is)

or_later : (a b : Bool) → b ≡ true → (a || b) ≡ true
or_later true b is = refl
or_later false b is = is

-- ---- batches

pairs_head : {X : Type 0} (R : X → X → Type 0) (x : X) (xs : List X) → AllPairs R (x ∷ xs) → All (R x) xs
pairs_head R x xs pairs = λ k d within. pairs 0 (suc k) d (omega arith) (omega (arith, within))

pairs_tail : {X : Type 0} (R : X → X → Type 0) (x : X) (xs : List X) → AllPairs R (x ∷ xs) → AllPairs R xs
pairs_tail R x xs pairs = λ i j d less within. pairs (suc i) (suc j) d (omega (arith, less)) (omega (arith, within))

mapped_in : {X Y : Type 0} (f : X → Y) (xs : List X) (x : X) → Contains xs x → Contains (map f xs) (f x)
mapped_in f [] x inside = absurd (Contains-nothing x inside)
mapped_in f (y ∷ xs) x inside = elim (Contains-cases y xs x inside) [
  | inl same ↦ subst (λ z. Contains (f y ∷ map f xs) (f z)) same (Contains-first (map f xs) (f y))
  | inr later ↦ Contains-later (f y) (map f xs) (f x) (mapped_in f xs x later)
]

inside_middle : {X : Type 0} (xs : List X) (y : X) (zs : List X) → Contains (xs ++ y ∷ zs) y
inside_middle [] y zs = Contains-first zs y
inside_middle (x ∷ xs) y zs = Contains-later x (xs ++ y ∷ zs) y (inside_middle xs y zs)

module _ (node : Node) (checkpoint : Checkpoint) (written : IsWritten node checkpoint) (sound : IsSound node (state_in node checkpoint)) where
  abbrev Differ : BatchView → BatchView → Type 0
  Differ one other = same_digest (batch_digest one) (batch_digest other) ≡ false

  -- each batch before another one has another digest
  apart_from : (before : List KeptBatch) (one : KeptBatch) (rest : List KeptBatch) → AllPairs Differ (map (λ (k : KeptBatch). k.batch) (before ++ one ∷ rest))
      → (other : KeptBatch) → Contains before other → same_digest (batch_digest other.batch) (batch_digest one.batch) ≡ false
  apart_from [] one rest pairs other inside = absurd (Contains-nothing other inside)
  apart_from (first ∷ before) one rest pairs other inside =
      let tail = map (λ (k : KeptBatch). k.batch) (before ++ one ∷ rest) in
      elim (Contains-cases first before other inside) [
        | inl same ↦ subst (λ (k : KeptBatch). Differ k.batch one.batch) same
            (All-contains (Differ first.batch) tail one.batch (pairs_head Differ first.batch tail pairs)
            (mapped_in (λ (k : KeptBatch). k.batch) (before ++ one ∷ rest) one (inside_middle before one rest)))
        | inr later ↦ apart_from before one rest (pairs_tail Differ first.batch tail pairs) other later
      ]

  -- so it is found by its digest
  found_by_digest : (before : List KeptBatch) (one : KeptBatch) (rest : List KeptBatch)
      → ((other : KeptBatch) → Contains before other → same_digest (batch_digest other.batch) (batch_digest one.batch) ≡ false)
      → find (λ k. same_digest (batch_digest k.batch) (batch_digest one.batch)) (before ++ one ∷ rest) ≡ Some one
  found_by_digest [] one rest apart = let self = same_itself (batch_digest one.batch) in rw self refl
  found_by_digest (first ∷ before) one rest apart =
      let off = apart first (Contains-first before first) in
      rw off (found_by_digest before one rest (λ other inside. apart other (Contains-later first before other inside)))

  none_in : (before : List KeptBatch) (one : KeptBatch) → ((other : KeptBatch) → Contains before other → same_digest (batch_digest other.batch) (batch_digest one.batch) ≡ false)
      → list_any (λ other. same_digest (batch_digest other.batch) (batch_digest one.batch)) before ≡ false
  none_in [] one apart = refl
  none_in (first ∷ before) one apart =
      let off = apart first (Contains-first before first) in
      rw off (none_in before one (λ other inside. apart other (Contains-later first before other inside)))

  -- one batch's test
  batch_passes : (before : List KeptBatch) (one : KeptBatch) (rest : List KeptBatch) → before ++ one ∷ rest ≡ checkpoint.batches → is_batch_sound node before one ≡ true
  batch_passes before one rest is =
      and_from _ _ (passes_where node one.batch.author (message.Batch one.batch)
      (All-contains (λ b. IsTaken node (record { sender = b.author; message = message.Batch b })) (state_in node checkpoint).batches one.batch sound.batches.passed
      (mapped_in (λ (k : KeptBatch). k.batch) checkpoint.batches one inside)).passed)
      (and_from _ _ (from_false _ (none_in before one apart))
      (and_from _ _ (lt-ltb (length before) node.charter.batches room)
      (and_from _ _ (all_pass (λ member. nat_lt member (size_of node)) one.members (λ member there. lt-ltb member (size_of node) (sound.batches.by_members digest member (acked member there)).0))
      (owned (one.batch.author.0 == node.own.0) refl one.members refl one.named refl))))
    where
      digest : Digest
      digest = batch_digest one.batch

      inside : Contains checkpoint.batches one
      inside = subst (λ (l : List KeptBatch). Contains l one) is (inside_middle before one rest)

      apart : (other : KeptBatch) → Contains before other → same_digest (batch_digest other.batch) digest ≡ false
      apart = apart_from before one rest (subst (λ (l : List KeptBatch). AllPairs Differ (map (λ (k : KeptBatch). k.batch) l)) (sym is) sound.batches.distinct)

      found : kept_batch checkpoint digest ≡ Some one
      found = ap (find (λ k. same_digest (batch_digest k.batch) digest)) (sym is) ∙ found_by_digest before one rest apart

      room : length before < node.charter.batches
      room =
          let few = sound.batches.few in
          omega (arith, few, length-map checkpoint.batches (λ (k : KeptBatch). k.batch), ap length is, length-append before (one ∷ rest))

      acked : (member : ℕ) → Contains one.members member → (state_in node checkpoint).acked digest member ≡ true
      acked member there =
          ap (λ (o : Option KeptBatch). option_map_or (λ k. list_any (λ m. m == member) k.members) o false) found ∙ any_from (λ m. m == member) one.members member there (eq-eqb member member refl)

      own_batch : has_own_batch node (state_in node checkpoint) digest ≡ true → (one.batch.author.0 == node.own.0) ≡ true
      own_batch has =
          sym (ap (λ (o : Option BatchView). option_map_or (λ b. b.author.0 == node.own.0) o false) (batch_kept checkpoint node digest ∙ ap (option_map (λ (k : KeptBatch). k.batch)) found)) ∙ has

      owned : (own : Bool) → (one.batch.author.0 == node.own.0) ≡ own → (members : List ℕ) → one.members ≡ members → (named : Bool) → one.named ≡ named
          → ((one.batch.author.0 == node.own.0) || ((length one.members == 0) && not one.named)) ≡ true
      owned true mine members are named is = rw mine refl
      owned false other [] none false off = rw (other, none, off) refl
      owned false other [] none true on =
          absurd (let bad : true ≡ false = sym (own_batch (sound.batches.named digest (ap (λ (o : Option KeptBatch). option_map_or (λ k. k.named) o false) found ∙ on))) ∙ other in cc)
      owned false other (m ∷ members) are named on =
          let there : Contains one.members m = subst (λ (l : List ℕ). Contains l m) (sym are) (Contains-first members m) in
          absurd (let bad : true ≡ false = sym (own_batch (sound.batches.acked digest m (acked m there))) ∙ other in cc)

  batches_pass : (before rest : List KeptBatch) → before ++ rest ≡ checkpoint.batches → list_all (λ sound. sound) (batch_tests node before rest) ≡ true
  unfolding batch_tests
  batches_pass before [] is = refl
  batches_pass before (one ∷ rest) is =
      and_from (is_batch_sound node before one) _ (batch_passes before one rest is) (batches_pass (before ++ one ∷ []) rest (append_assoc before (one ∷ []) rest ∙ is))

  -- ---- votes

  -- the floor is that of the certificates
  not_low : (round : ℕ) → is_low (floor_in node (state_in node checkpoint)) round ≡ false → is_low (listed_floor node checkpoint) round ≡ false
  not_low round high = ap (λ f. is_low f round) (sym (same_floor node checkpoint)) ∙ high

  vote_passes : (vote : KeptVote) → Contains checkpoint.votes vote → is_vote_sound node checkpoint vote ≡ true
  vote_passes vote inside =
      and_from _ _ (from_false _ (not_low vote.round (sound.votes.high vote.round vote.author vote.header has)))
      (and_from _ _ (lt-ltb vote.author (size_of node) (sound.votes.for_members vote.round vote.author vote.header has)) (from_false _ foreign))
    where
      foreign : (vote.author == node.own.0) ≡ false
      foreign = ne_eqb vote.author node.own.0 (All-contains (λ (v : KeptVote). v.author ≢ node.own.0) checkpoint.votes vote written.others inside)

      passes_itself : ((vote.round == vote.round) && (vote.author == vote.author)) ≡ true
      passes_itself = and_from _ _ (eq-eqb vote.round vote.round refl) (eq-eqb vote.author vote.author refl)

      has : (state_in node checkpoint).votes vote.round vote.author ≡ Some vote.header
      has =
          let found = found_itself (λ (one other : KeptVote). place_before one.round one.author other.round other.author)
          (λ x y z one two. places_through x.round x.author y.round y.author z.round z.author one two)
          (λ (v : KeptVote). (v.round == vote.round) && (v.author == vote.author)) checkpoint.votes vote written.canonical.votes_rise inside passes_itself
          (λ y before. places_apart y.round y.author vote.round vote.author before) in
          rw (foreign, found) refl

  -- ---- own headers

  module _ (one : KeptHeader) (inside : Contains checkpoint.headers one) where
    abbrev round : ℕ
    round = one.header.body.round

    kept_there : kept_header checkpoint round ≡ Some one
    kept_there =
        found_itself (λ (x y : KeptHeader). nat_lt x.header.body.round y.header.body.round)
        (λ x y z first second. rounds_through x.header.body.round y.header.body.round z.header.body.round first second)
        (λ (k : KeptHeader). k.header.body.round == round) checkpoint.headers one written.canonical.headers_rise inside (eq-eqb round round refl)
        (λ y before. rounds_apart y.header.body.round round before)

    own_there : (state_in node checkpoint).own_headers round ≡ Some one.header
    own_there = ap (option_map (λ (k : KeptHeader). k.header)) kept_there

    counted_as : (voter : ℕ) → (state_in node checkpoint).counted round voter ≡ kept_vote node one voter
    counted_as voter = ap (option_and_then (λ (k : KeptHeader). kept_vote node k voter)) kept_there

    counts_as : counts (state_in node checkpoint) round ≡ has_kept node one
    counts_as = fun_ext (λ voter. ap is_some (counted_as voter))

    is_own : IsOwnHeader node (state_in node checkpoint) round one.header
    is_own = sound.votes.headers round one.header own_there

    canonical : IsKeptHeader node one
    canonical = All-contains (IsKeptHeader node) checkpoint.headers one written.canonical.headers inside

    -- who voted on it are members
    voter_below : (entry : VoteEntry) → Contains one.votes entry → entry.voter.0 < size_of node
    voter_below entry there =
        let other = ne_eqb entry.voter.0 node.own.0 (All-contains (λ (e : VoteEntry). e.voter.0 ≢ node.own.0) one.votes entry canonical.others there) in
        let found = found_some (λ (e : VoteEntry). e.voter.0 == entry.voter.0) one.votes entry there (eq-eqb entry.voter.0 entry.voter.0 refl) in
        let is : kept_vote node one entry.voter.0 ≡ Some (vote_of one.header found.0) = rw (other, found.1) refl in
        (sound.votes.counted round entry.voter.0 (vote_of one.header found.0) (counted_as entry.voter.0 ∙ is)).member

    -- the vote of another member that counts is one of its votes
    voted_entry : (voter : ℕ) → voter ≢ node.own.0 → has_kept node one voter ≡ true → (entry : VoteEntry) × Contains one.votes entry × (entry.voter.0 ≡ voter)
    voted_entry voter differs has = by (find (λ (e : VoteEntry). e.voter.0 == voter) one.votes) refl
      where
        by : (o : Option VoteEntry) → find (λ (e : VoteEntry). e.voter.0 == voter) one.votes ≡ o → (entry : VoteEntry) × Contains one.votes entry × (entry.voter.0 ≡ voter)
        by None same = absurd (let other = ne_eqb voter node.own.0 differs in let bad : false ≡ true = sym (rw (other, same) refl) ∙ has in cc)
        by (Some entry) same = let it = found_passes (λ (e : VoteEntry). e.voter.0 == voter) one.votes entry same in (entry, it.1, eqb-true entry.voter.0 voter it.0)

    completed_well : is_completed_well node checkpoint one ≡ true
    completed_well = elim (cases_Bool (nat_lt (weight node.charter (has_kept node one)) (quorum node))) [
      | inl few ↦ rw few refl
      | inr enough ↦ (let many = enough_of (weight node.charter (has_kept node one)) (quorum node) enough in with_certificate many
          (sound.votes.complete round one.header own_there (subst (λ (f : ℕ → Bool). quorum node ≤ weight node.charter f) (sym counts_as) many)))
    ]
      where
        enough_of : (a b : ℕ) → nat_lt a b ≡ false → b ≤ a
        enough_of a b is = grind (arith, is)

        with_certificate : quorum node ≤ weight node.charter (has_kept node one) → IsCompleted node (state_in node checkpoint) round one.header → is_completed_well node checkpoint one ≡ true
        with_certificate many done =
            let entry = voted_entry done.last done.other (ap (λ (f : ℕ → Bool). f done.last) (sym counts_as) ∙ done.counted) in
            let same : same_body done.certificate.header one.header.body ≡ true = (bytes_eq-Decides (header_body done.certificate.header) (header_body one.header.body)).1 (ap header_body done.of) in
            let there : option_map_or (λ certificate. same_body certificate.header one.header.body) ((state_in node checkpoint).slots round node.own.0) false ≡ true =
            ap (λ (o : Option Certificate). option_map_or (λ certificate. same_body certificate.header one.header.body) o false) done.held ∙ same in
            let short : weight node.charter (λ voter. has_kept node one voter && not (voter == entry.0.voter.0)) < quorum node =
            subst (λ l. weight node.charter (λ voter. has_kept node one voter && not (voter == l)) < quorum node) (sym entry.2)
            (subst (λ (f : ℕ → Bool). weight node.charter (λ voter. f voter && not (voter == done.last)) < quorum node) counts_as done.short) in
            or_later _ _ (and_from _ _ there
            (any_from (λ (e : VoteEntry). nat_lt (weight node.charter (λ voter. has_kept node one voter && not (voter == e.voter.0))) (quorum node)) one.votes entry.0 entry.1
            (lt-ltb (weight node.charter (λ voter. has_kept node one voter && not (voter == entry.0.voter.0))) (quorum node) short)))

    header_passes : is_header_sound node checkpoint one ≡ true
    header_passes =
        and_from _ _ (from_false _ (not_low round is_own.high))
        (and_from _ _ (passes_where node node.own (message.Header one.header) is_own.passed.passed)
        (and_from _ _ (ap (λ f. all_held (state_in node checkpoint).slots f one.header.body) (sym (same_floor node checkpoint)) ∙ is_own.held)
        (and_from _ _ (all_pass (λ (entry : VoteEntry). nat_lt entry.voter.0 (size_of node)) one.votes (λ entry there. lt-ltb entry.voter.0 (size_of node) (voter_below entry there)))
        completed_well)))

  -- ---- certificates

  certificate_passes : (c : Certificate) → Contains checkpoint.certificates c → is_certificate_sound node checkpoint c ≡ true
  certificate_passes c inside =
      and_from _ _ (le-leb (listed_floor node checkpoint) c.header.round above)
      (and_from _ _ (passes_where node node.own (message.Certificate c) came.passed.passed)
      (ap (λ f. all_held (state_in node checkpoint).slots f c.header) (sym (same_floor node checkpoint)) ∙ came.held))
    where
      positive : 0 < c.header.round
      positive = (All-contains IsKeptCertificate checkpoint.certificates c written.canonical.certificates inside).above

      has : (state_in node checkpoint).slots c.header.round c.header.author.0 ≡ Some c
      has =
          let more : (c.header.round == 0) ≡ false = let it = positive in grind (arith, it) in
          rw more (found_itself (λ (one other : Certificate). place_before one.header.round one.header.author.0 other.header.round other.header.author.0)
          (λ x y z one two. places_through x.header.round x.header.author.0 y.header.round y.header.author.0 z.header.round z.header.author.0 one two)
          (λ (d : Certificate). is_of_slot c.header.round c.header.author.0 d.header) checkpoint.certificates c written.canonical.certificates_rise inside (of_its_slot c.header)
          (λ y before. places_apart y.header.round y.header.author.0 c.header.round c.header.author.0 before))

      above : listed_floor node checkpoint ≤ c.header.round
      above = subst (λ f. f ≤ c.header.round) (same_floor node checkpoint) (sound.certificates.above c.header.round c.header.author.0 c has)

      came : IsReceived node (state_in node checkpoint) c
      came = elim (sound.certificates.passed c.header.round c.header.author.0 c has) [
        | inl first ↦ absurd (let it = positive in omega (arith, it, ap (λ (d : Certificate). d.header.round) first))
        | inr received ↦ received
      ]

  -- ---- the whole

  whole_passes : is_whole_sound node checkpoint ≡ true
  whole_passes = by checkpoint.order refl (top (ledger_of node (listed checkpoint) checkpoint.coins)) refl
    where
      by : (order : List Digest) → checkpoint.order ≡ order → (committed : Option ℕ) → top (ledger_of node (listed checkpoint) checkpoint.coins) ≡ committed → is_whole_sound node checkpoint ≡ true
      by [] none None off = rw (none, off) refl
      by [] none (Some wave) on =
          absurd (none-some wave (sym (sound.order.0 none) ∙ same_top node checkpoint ∙ on))
      by (digest ∷ order) are None off =
          absurd (let bad : digest ∷ order ≡ [] = sym are ∙ sound.order.1 (same_top node checkpoint ∙ off) in cc)
      by (digest ∷ order) are (Some wave) on =
          let some : (length checkpoint.order == 0) ≡ false = ap (λ l. l == 0) (ap length are) ∙ grind (arith) in
          rw (some, on) refl

  has_none : has_no_fault node checkpoint ≡ true
  has_none =
      and_from _ _
      (joined (piece_tests (cut ORDER_PIECE checkpoint.order)) _ (pieces_pass (cut ORDER_PIECE checkpoint.order))
      (joined (batch_tests node [] checkpoint.batches) _ (batches_pass [] checkpoint.batches refl)
      (joined (map (is_vote_sound node checkpoint) checkpoint.votes) _ (mapped (is_vote_sound node checkpoint) checkpoint.votes (all_pass (is_vote_sound node checkpoint) checkpoint.votes vote_passes))
      (joined (map (is_header_sound node checkpoint) checkpoint.headers) _
      (mapped (is_header_sound node checkpoint) checkpoint.headers (all_pass (is_header_sound node checkpoint) checkpoint.headers header_passes))
      (joined (map (is_certificate_sound node checkpoint) checkpoint.certificates) _
      (mapped (is_certificate_sound node checkpoint) checkpoint.certificates (all_pass (is_certificate_sound node checkpoint) checkpoint.certificates certificate_passes))
      (pieces_pass (cut COINS_PIECE checkpoint.coins))))))) whole_passes

pub sound_has_no_fault : SoundHasNoFault
sound_has_no_fault node checkpoint written sound = has_none node checkpoint written sound

pub kept_has_no_fault : KeptIsSound → KeptHasNoFault
kept_has_no_fault kept_is_sound node checkpoint history written legal is =
    has_none node checkpoint written (subst (IsSound node) (sym is) (kept_is_sound node history legal))
