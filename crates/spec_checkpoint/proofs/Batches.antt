-- The batches of a checkpoint without a fault are as they have to be.
use Rattle.std.proofs.Common.{◌≡◌, ◌≢◌, ◌⊎◌, ℕ, ◌+◌, ◌<◌, ◌≤◌, suc, Bool, true, false, inl, inr, List, [], ◌∷◌, ◌++◌, length, map, refl, sym, ap, ◌∙◌, subst, length-append, arith}
use Rattle.std.specs.Prelude.{◌==◌, ◌&&◌, ◌||◌, not, nat_lt, find, All, AllPairs, Contains, Option, Some, None, option_map}
use Rattle.std.specs.List.{list_any, list_all}
use Rattle.std.specs.Option.{option_map_or}
use Rattle.std.proofs.lemmas.Bool.{cases_Bool, and_parts, ltb-true, eqb-true}
use Rattle.std.proofs.lemmas.List.Elements.{All-nil, All-cons, All-head, All-tail, All-contains}
use Rattle.std.proofs.lemmas.List.{length-map}
use Rattle.std.proofs.lemmas.List.Kept.{AllPairs-cons}
use Rattle.spec_laws.proofs.Lists.{Contains-nothing, Contains-cases, Contains-first, Contains-later, found_passes}
use Rattle.spec_laws.proofs.Meeting.{any_to}
use Rattle.spec_machine.specs.Sound.{AreBatches}
use Rattle.spec_model.specs.Admitting.{IsTaken}
use Rattle.spec_model.specs.Holdings.{batch_digest}
use Rattle.spec_model.specs.Nodes.{Node, size_of}
use Rattle.spec_model.specs.Slots.{same_digest}
use Rattle.spec_model.specs.States.{has_own_batch, batch_in}
use Rattle.spec_model.specs.Words.{BatchView, Digest}
use Rattle.wire.specs.declared.message.Message.TheVariants as message
use Rattle.spec_checkpoint.specs.Data.{KeptBatch, Checkpoint, IsKeptBatch}
use Rattle.spec_checkpoint.specs.Faults.{passes, is_batch_sound, batch_tests}
use Rattle.spec_checkpoint.specs.Meaning.{kept_batch, state_in}
use Rattle.spec_checkpoint.proofs.Tests.{each_passes, not_true, passes_none}

-- what a batch without a fault says of it and of those before it
record IsSoundBatch (node : Node) (before : List KeptBatch) (kept : KeptBatch) : Type 0 where
  pub passed : passes node kept.batch.author (message.Batch kept.batch) ≡ true
  pub apart : list_any (λ other. same_digest (batch_digest other.batch) (batch_digest kept.batch)) before ≡ false
  pub room : length before < node.charter.batches
  pub members : list_all (λ member. nat_lt member (size_of node)) kept.members ≡ true
  pub own : ((kept.batch.author.0 == node.own.0) || ((length kept.members == 0) && not kept.named)) ≡ true

sound_batch : (node : Node) (before : List KeptBatch) (kept : KeptBatch) → is_batch_sound node before kept ≡ true → IsSoundBatch node before kept
sound_batch node before kept is =
    let one = and_parts (passes node kept.batch.author (message.Batch kept.batch)) _ is in
    let two = and_parts (not (list_any (λ other. same_digest (batch_digest other.batch) (batch_digest kept.batch)) before)) _ one.1 in
    let three = and_parts (nat_lt (length before) node.charter.batches) _ two.1 in
    let four = and_parts (list_all (λ member. nat_lt member (size_of node)) kept.members) _ three.1 in
    record { passed = one.0; apart = not_true _ two.0; room = ltb-true (length before) node.charter.batches three.0; members = four.0; own = four.1 }

-- ---- all of them

abbrev Differ : KeptBatch → KeptBatch → Type 0
Differ one other = same_digest (batch_digest one.batch) (batch_digest other.batch) ≡ false

-- each is sound beside some before it; no two have one digest; and there are no more than the committee allows
record AreSoundBatches (node : Node) (before batches : List KeptBatch) : Type 0 where
  pub each : (kept : KeptBatch) → Contains batches kept → (others : List KeptBatch) × IsSoundBatch node others kept
  pub from_before : All (λ one. All (Differ one) batches) before
  pub pairs : AllPairs Differ batches
  pub few : (batches ≡ []) ⊎ (length before + length batches ≤ node.charter.batches)

none_like : (before : List KeptBatch) (kept : KeptBatch) → list_any (λ other. same_digest (batch_digest other.batch) (batch_digest kept.batch)) before ≡ false → All (λ one. Differ one kept) before
none_like [] kept none = All-nil (λ one. Differ one kept)
none_like (first ∷ before) kept none = elim (cases_Bool (same_digest (batch_digest first.batch) (batch_digest kept.batch))) [
  | inl same ↦ absurd (let bad : true ≡ false = sym (rw same refl) ∙ none in cc)
  | inr other ↦ All-cons (λ one. Differ one kept) first before other (none_like before kept (sym (rw other refl) ∙ none))
]

are_sound : (node : Node) (before batches : List KeptBatch) → list_all (λ sound. sound) (batch_tests node before batches) ≡ true → AreSoundBatches node before batches
unfolding batch_tests
are_sound node before [] all = record {
  each = λ kept inside. absurd (Contains-nothing kept inside);
  from_before = every before;
  pairs = λ i j d less within. absurd (omega (arith, within));
  few = inl refl;
}
  where
    every : (xs : List KeptBatch) → All (λ one. All (Differ one) []) xs
    every [] = All-nil (λ one. All (Differ one) [])
    every (x ∷ xs) = All-cons (λ one. All (Differ one) []) x xs (All-nil (Differ x)) (every xs)
are_sound node before (kept ∷ rest) all =
    let parts = and_parts (is_batch_sound node before kept) (list_all (λ sound. sound) (batch_tests node (before ++ kept ∷ []) rest)) all in
    let here = sound_batch node before kept parts.0 in
    let later = are_sound node (before ++ kept ∷ []) rest parts.1 in
    let apart = none_like before kept here.apart in
    let long : length (before ++ kept ∷ []) ≡ length before + 1 = length-append before (kept ∷ []) in
    record {
      each = λ one inside. elim (Contains-cases kept rest one inside) [
        | inl same ↦ (before, subst (IsSoundBatch node before) same here)
        | inr there ↦ later.each one there
      ];
      from_before = with_first before apart (All-of before later.from_before);
      pairs = AllPairs-cons Differ kept rest (All-last before later.from_before) later.pairs;
      few = elim later.few [
        | inl none ↦ inr (let room = here.room in omega (arith, room, ap length none))
        | inr more ↦ inr (omega (arith, more, long))
      ];
    }
  where
    All-of : (xs : List KeptBatch) → All (λ one. All (Differ one) rest) (xs ++ kept ∷ []) → All (λ one. All (Differ one) rest) xs
    All-of [] every = All-nil (λ one. All (Differ one) rest)
    All-of (x ∷ xs) every = All-cons (λ one. All (Differ one) rest) x xs (All-head (λ one. All (Differ one) rest) x (xs ++ kept ∷ []) every)
        (All-of xs (All-tail (λ one. All (Differ one) rest) x (xs ++ kept ∷ []) every))

    All-last : (xs : List KeptBatch) → All (λ one. All (Differ one) rest) (xs ++ kept ∷ []) → All (Differ kept) rest
    All-last [] every = All-head (λ one. All (Differ one) rest) kept [] every
    All-last (x ∷ xs) every = All-last xs (All-tail (λ one. All (Differ one) rest) x (xs ++ kept ∷ []) every)

    with_first : (xs : List KeptBatch) → All (λ one. Differ one kept) xs → All (λ one. All (Differ one) rest) xs → All (λ one. All (Differ one) (kept ∷ rest)) xs
    with_first [] here later = All-nil (λ one. All (Differ one) (kept ∷ rest))
    with_first (x ∷ xs) here later =
        All-cons (λ one. All (Differ one) (kept ∷ rest)) x xs
        (All-cons (Differ x) kept rest (All-head (λ one. Differ one kept) x xs here) (All-head (λ one. All (Differ one) rest) x xs later))
        (with_first xs (All-tail (λ one. Differ one kept) x xs here) (All-tail (λ one. All (Differ one) rest) x xs later))

-- ---- what the state has

-- a batch that is found in the state is one that is kept
pub batch_kept : (checkpoint : Checkpoint) (node : Node) (digest : Digest) → batch_in (state_in node checkpoint) digest ≡ option_map (λ (kept : KeptBatch). kept.batch) (kept_batch checkpoint digest)
batch_kept checkpoint node digest = by checkpoint.batches
  where
    by : (xs : List KeptBatch) → find (λ batch. same_digest (batch_digest batch) digest) (map (λ (kept : KeptBatch). kept.batch) xs)
        ≡ option_map (λ (kept : KeptBatch). kept.batch) (find (λ kept. same_digest (batch_digest kept.batch) digest) xs)
    by [] = refl
    by (x ∷ xs) = elim (cases_Bool (same_digest (batch_digest x.batch) digest)) [ inl so ↦ rw so refl | inr off ↦ rw off (by xs) ]

-- something that only an own batch has
of_own : (node : Node) (checkpoint : Checkpoint) (test : KeptBatch → Bool) (digest : Digest)
    → ((kept : KeptBatch) → Contains checkpoint.batches kept → test kept ≡ true → (kept.batch.author.0 == node.own.0) ≡ true)
    → option_map_or test (kept_batch checkpoint digest) false ≡ true → has_own_batch node (state_in node checkpoint) digest ≡ true
of_own node checkpoint test digest own is = by (kept_batch checkpoint digest) refl is
  where
    by : (found : Option KeptBatch) → kept_batch checkpoint digest ≡ found → option_map_or test found false ≡ true → has_own_batch node (state_in node checkpoint) digest ≡ true
    by None same so = absurd cc
    by (Some kept) same so =
        ap (λ (o : Option BatchView). option_map_or (λ batch. batch.author.0 == node.own.0) o false) (batch_kept checkpoint node digest ∙ ap (option_map (λ (k : KeptBatch). k.batch)) same)
        ∙ own kept (found_passes (λ k. same_digest (batch_digest k.batch) digest) checkpoint.batches kept same).1 so

acked_own : (members : List ℕ) (named own : Bool) (member : ℕ) → (own || ((length members == 0) && not named)) ≡ true → list_any (λ one. one == member) members ≡ true → own ≡ true
acked_own members named true member sound some = refl
acked_own [] named false member sound some = absurd cc
acked_own (m ∷ members) named false member sound some = absurd (let none : (length (m ∷ members) == 0) ≡ false = grind (arith) in let bad = rw none at sound in cc)

named_own : (none own named : Bool) → (own || (none && not named)) ≡ true → named ≡ true → own ≡ true
named_own none true named sound is = refl
named_own none false false sound is = absurd cc
named_own true false true sound is = absurd cc
named_own false false true sound is = absurd cc

-- what holds of each element, and of what each is made to
all_by : {X : Type 0} (P : X → Type 0) (xs : List X) → ((x : X) → Contains xs x → P x) → All P xs
all_by P [] each = All-nil P
all_by P (x ∷ xs) each = All-cons P x xs (each x (Contains-first xs x)) (all_by P xs (λ y inside. each y (Contains-later x xs y inside)))

all_mapped : {X Y : Type 0} (f : X → Y) (P : Y → Type 0) (xs : List X) → All (λ x. P (f x)) xs → All P (map f xs)
all_mapped f P [] each = All-nil P
all_mapped f P (x ∷ xs) each = All-cons P (f x) (map f xs) (All-head (λ y. P (f y)) x xs each) (all_mapped f P xs (All-tail (λ y. P (f y)) x xs each))

pairs_mapped : {X Y : Type 0} (f : X → Y) (R : Y → Y → Type 0) (xs : List X) → AllPairs (λ x y. R (f x) (f y)) xs → AllPairs R (map f xs)
pairs_mapped f R [] pairs = λ i j d less within. absurd (omega (arith, within))
pairs_mapped f R (x ∷ xs) pairs =
    AllPairs-cons R (f x) (map f xs)
    (all_mapped f (R (f x)) xs (λ k d within. pairs 0 (suc k) d (omega arith) (omega (arith, within))))
    (pairs_mapped f R xs (λ i j d less within. pairs (suc i) (suc j) d (omega (arith, less)) (omega (arith, within))))

-- who acknowledged a batch are other members
by_others : (node : Node) (checkpoint : Checkpoint) → All (IsKeptBatch node) checkpoint.batches
    → ((kept : KeptBatch) → Contains checkpoint.batches kept → list_all (λ member. nat_lt member (size_of node)) kept.members ≡ true) → (digest : Digest) (member : ℕ)
    → option_map_or (λ kept. list_any (λ one. one == member) kept.members) (kept_batch checkpoint digest) false ≡ true → (member < size_of node) × (member ≢ node.own.0)
by_others node checkpoint canonical members digest member is = by (kept_batch checkpoint digest) refl is
  where
    by : (found : Option KeptBatch) → kept_batch checkpoint digest ≡ found → option_map_or (λ (kept : KeptBatch). list_any (λ one. one == member) kept.members) found false ≡ true
        → (member < size_of node) × (member ≢ node.own.0)
    by None same so = absurd cc
    by (Some kept) same so =
        let inside = (found_passes (λ k. same_digest (batch_digest k.batch) digest) checkpoint.batches kept same).1 in
        let one = any_to (λ m. m == member) kept.members so in
        let it : one.0 ≡ member = eqb-true one.0 member one.2 in
        let below = ltb-true one.0 (size_of node) (each_passes (λ m. nat_lt m (size_of node)) kept.members one.0 (members kept inside) one.1) in
        let other : one.0 ≢ node.own.0 = All-contains (λ m. m ≢ node.own.0) kept.members one.0 (All-contains (IsKeptBatch node) checkpoint.batches kept canonical inside).others one.1 in
        (subst (λ m. m < size_of node) it below, subst (λ m. m ≢ node.own.0) it other)

pub batches_sound : (node : Node) (checkpoint : Checkpoint) → All (IsKeptBatch node) checkpoint.batches
    → list_all (λ sound. sound) (batch_tests node [] checkpoint.batches) ≡ true → AreBatches node (state_in node checkpoint)
batches_sound node checkpoint canonical all =
    let are = are_sound node [] checkpoint.batches all in
    let batch : KeptBatch → BatchView = λ kept. kept.batch in
    record {
      passed = all_mapped batch (λ b. IsTaken node (record { sender = b.author; message = message.Batch b })) checkpoint.batches
          (all_by (λ kept. IsTaken node (record { sender = kept.batch.author; message = message.Batch kept.batch })) checkpoint.batches
          (λ kept inside. record {
            message = (All-contains (IsKeptBatch node) checkpoint.batches kept canonical inside).batch;
            passed = passes_none node kept.batch.author (message.Batch kept.batch) (are.each kept inside).1.passed;
          }));
      distinct = pairs_mapped batch (λ one other. same_digest (batch_digest one) (batch_digest other) ≡ false) checkpoint.batches are.pairs;
      few = elim are.few [
        | inl none ↦ omega (arith, length-map checkpoint.batches batch, ap length none)
        | inr some ↦ omega (arith, length-map checkpoint.batches batch, some)
      ];
      acked = λ digest member is.
          of_own node checkpoint (λ kept. list_any (λ one. one == member) kept.members) digest
          (λ kept inside so. acked_own kept.members kept.named (kept.batch.author.0 == node.own.0) member (are.each kept inside).1.own so) is;
      by_members = by_others node checkpoint canonical (λ kept inside. (are.each kept inside).1.members);
      named = λ digest is.
          of_own node checkpoint (λ kept. kept.named) digest
          (λ kept inside so. named_own (length kept.members == 0) (kept.batch.author.0 == node.own.0) kept.named (are.each kept inside).1.own so) is;
    }
