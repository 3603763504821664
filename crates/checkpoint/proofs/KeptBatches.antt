-- The batches of a checkpoint are those of the state.
use Rattle.std.proofs.Common.{◌≡◌, ◌≢◌, ℕ, ◌<◌, true, false, List, [], ◌∷◌, map, Option, Some, None, inl, inr, refl, sym, ap, ◌∙◌, subst, arith}
use Rattle.std.specs.Prelude.{◌==◌, nat_lt, All, AllPairs, Contains, find, option_map}
use Rattle.std.specs.List.{list_any}
use Rattle.std.specs.Map.{values_of}
use Rattle.std.specs.Option.{option_map_or}
use Rattle.std.specs.Str.{bytes_eq}
use Rattle.std.proofs.lemmas.Bool.{cases_Bool}
use Rattle.std.proofs.lemmas.List.Elements.{All-contains, All-weaker}
use Rattle.std.proofs.lemmas.Slice.Eq.{bytes_eq-Decides}
use Rattle.admission.proofs.Reading.{bytes_eq-swap}
use Rattle.sigface.specs.Seeds.{seed_of}
use Rattle.admission.specs.Batches.{HasBatches}
use Rattle.batchstore.specs.Stock.{BatchStoreView, digest_of, found}
use Rattle.batchstore.specs.declared.held.Held.{Held}
use Rattle.committee.specs.Sets.{has}
use Rattle.committee.specs.declared.members.TheConstants.{MAX_MEMBERS}
use Rattle.spec_laws.proofs.Lists.{Contains-nothing, Contains-cases, Contains-first, Contains-later}
use Rattle.spec_machine.specs.Sound.{AreBatches}
use Rattle.spec_model.specs.Admitting.{IsTaken}
use Rattle.spec_model.specs.Holdings.{batch_digest}
use Rattle.spec_model.specs.Nodes.{Node, IsNode}
use Rattle.spec_model.specs.Slots.{same_digest}
use Rattle.spec_model.specs.States.{State}
use Rattle.spec_model.specs.Words.{BatchView, Digest}
use Rattle.wire.specs.Batches.{IsBatch}
use Rattle.wire.specs.Fields.{IsNumber}
use Rattle.wire.specs.declared.message.Message.TheVariants as message
use Rattle.spec_checkpoint.specs.Data.{KeptBatch, IsKeptBatch}
use Rattle.checkpoint.specs.Kept.{members_in, keep_of, batch_of}
use Rattle.checkpoint.proofs.Members.{in_members, members_have, members_rise, members_under, numbers_least}
use Rattle.checkpoint.proofs.Rising.{all_by, all_mapped, all_unmapped, few_between, pairs_first, pairs_rest, pairs_rise}

-- ---- batches

same_itself : (bytes : List ℕ) → bytes_eq bytes bytes ≡ true
same_itself bytes = (bytes_eq-Decides bytes bytes).1 refl

-- what is found of a batch by its digest
kept_found : (items : List (Digest × Held)) (digest : Digest)
    → find (λ (kept : KeptBatch). same_digest (batch_digest kept.batch) digest) (map batch_of items) ≡ option_map keep_of (found digest (values_of items))
kept_found [] digest = refl
kept_found (one ∷ items) digest =
    let swap = bytes_eq-swap (batch_digest one.1.batch).0 digest.0 in
    elim (cases_Bool (bytes_eq digest.0 (digest_of one.1.batch).0)) [
      | inl so ↦ (let also = swap ∙ so in rw (also, so) refl)
      | inr off ↦ (let also = swap ∙ off in rw (also, off) (kept_found items digest))
    ]

abbrev Apart : BatchView → BatchView → Type 0
Apart one other = same_digest (batch_digest one) (batch_digest other) ≡ false

-- each is found by its own digest
held_found : (helds : List Held) (held : Held) → AllPairs Apart (map (λ (h : Held). h.batch) helds) → Contains helds held → found (digest_of held.batch) helds ≡ Some held
held_found [] held pairs inside = absurd (Contains-nothing held inside)
held_found (first ∷ helds) held pairs inside = elim (Contains-cases first helds held inside) [
  | inl same ↦
      let here : bytes_eq (digest_of held.batch).0 (digest_of first.batch).0 ≡ true =
      ap (λ (h : Held). bytes_eq (digest_of held.batch).0 (digest_of h.batch).0) same ∙ same_itself (digest_of held.batch).0 in
      rw here (ap (λ h. Some h) same)
  | inr later ↦
      let apart = All-contains (λ (h : Held). Apart first.batch h.batch) helds held
      (all_unmapped (λ (h : Held). h.batch) (Apart first.batch) helds (pairs_first Apart first.batch (map (λ (h : Held). h.batch) helds) pairs)) later in
      let off : bytes_eq (digest_of held.batch).0 (digest_of first.batch).0 ≡ false = bytes_eq-swap (digest_of held.batch).0 (digest_of first.batch).0 ∙ apart in
      rw off (held_found helds held (pairs_rest Apart first.batch (map (λ (h : Held). h.batch) helds) pairs) later)
]

value_inside : (items : List (Digest × Held)) (entry : Digest × Held) → Contains items entry → Contains (values_of items) entry.1
value_inside [] entry inside = absurd (Contains-nothing entry inside)
value_inside (one ∷ items) entry inside = elim (Contains-cases one items entry inside) [
  | inl same ↦ subst (λ (e : Digest × Held). Contains (values_of (one ∷ items)) e.1) same (Contains-first (values_of items) one.1)
  | inr later ↦ Contains-later one.1 (values_of items) entry.1 (value_inside items entry later)
]

pub same_batches : (items : List (Digest × Held)) → map (λ (kept : KeptBatch). kept.batch) (map batch_of items) ≡ map (λ (held : Held). held.batch) (values_of items)
same_batches [] = refl
same_batches (one ∷ items) = ap (λ l. one.1.batch ∷ l) (same_batches items)

module _ (node : Node) (state : State) (items : List (Digest × Held)) (node_is : IsNode node) (sound : AreBatches node state)
    (has_them : HasBatches node state (record { charter = node.charter; own = node.own.0; seed = seed_of node.sign; held = values_of items })) where
  abbrev stock : BatchStoreView
  stock = record { charter = node.charter; own = node.own.0; seed = seed_of node.sign; held = values_of items }

  few_members : (digest : Digest) (member : ℕ) → state.acked digest member ≡ true → member < MAX_MEMBERS
  few_members digest member is =
      let below = (sound.by_members digest member is).0 in
      let size = node_is.charter.size.1 in
      omega (arith, below, size)

  pub same_named : (digest : Digest) → option_map_or (λ (kept : KeptBatch). kept.named)
      (find (λ (kept : KeptBatch). same_digest (batch_digest kept.batch) digest) (map batch_of items)) false ≡ state.named digest
  same_named digest =
      ap (λ o. option_map_or (λ (kept : KeptBatch). kept.named) o false) (kept_found items digest) ∙ by (found digest (values_of items)) ∙ has_them.named digest
    where
      by : (o : Option Held) → option_map_or (λ (kept : KeptBatch). kept.named) (option_map keep_of o) false ≡ option_map_or (λ (held : Held). held.named) o false
      by None = refl
      by (Some held) = refl

  pub same_acked : (digest : Digest) (member : ℕ)
      → option_map_or (λ (kept : KeptBatch). list_any (λ one. one == member) kept.members) (find (λ (kept : KeptBatch). same_digest (batch_digest kept.batch) digest) (map batch_of items)) false
      ≡ state.acked digest member
  same_acked digest member =
      ap (λ o. option_map_or (λ (kept : KeptBatch). list_any (λ one. one == member) kept.members) o false) (kept_found items digest)
      ∙ by (found digest (values_of items)) refl ∙ has_them.acked digest member
    where
      by : (o : Option Held) → found digest (values_of items) ≡ o
          → option_map_or (λ (kept : KeptBatch). list_any (λ one. one == member) kept.members) (option_map keep_of o) false ≡ option_map_or (λ (held : Held). has held.acknowledged member) o false
      by None is = refl
      by (Some held) is = in_members held.acknowledged member (λ so. few_members digest member
          (sym (has_them.acked digest member) ∙ ap (λ o. option_map_or (λ (h : Held). has h.acknowledged member) o false) is ∙ so))

  -- each is one that a node writes
  kept_batch_is : (entry : Digest × Held) → Contains items entry → IsKeptBatch node (batch_of entry)
  kept_batch_is entry inside =
      let held = entry.1 in
      let set = held.acknowledged in
      let there : found (digest_of held.batch) (values_of items) ≡ Some held =
      held_found (values_of items) held (subst (AllPairs Apart) (sym has_them.batches) sound.distinct) (value_inside items entry inside) in
      let acked : (member : ℕ) → has set member ≡ true → state.acked (digest_of held.batch) member ≡ true =
      λ member is. sym (has_them.acked (digest_of held.batch) member) ∙ ap (λ o. option_map_or (λ (h : Held). has h.acknowledged member) o false) there ∙ is in
      record {
        few = (let most = few_between (λ (member : ℕ). member) 0 MAX_MEMBERS (members_in set) (members_rise set) (numbers_least (members_in set)) (members_under set)
            (omega arith) in omega (arith, most));
        each = All-weaker (λ one. one < MAX_MEMBERS) IsNumber (λ one low. omega (arith, low)) (members_in set) (members_under set);
        rise = pairs_rise (λ one other. nat_lt one other) (members_in set) (members_rise set);
        others = all_by (λ member. member ≢ node.own.0) (members_in set)
            (λ member is. (sound.by_members (digest_of held.batch) member (acked member (members_have set member is))).1);
        batch = All-contains (λ (h : Held). IsBatch h.batch) (values_of items) held
            (all_unmapped (λ (h : Held). h.batch) IsBatch (values_of items) (subst (All IsBatch) (sym has_them.batches)
            (All-weaker (λ batch. IsTaken node (record { sender = batch.author; message = message.Batch batch })) IsBatch (λ batch taken. taken.message) state.batches sound.passed)))
            (value_inside items entry inside);
      }

  pub kept_batches_are : All (IsKeptBatch node) (map batch_of items)
  kept_batches_are = all_mapped batch_of (IsKeptBatch node) items (all_by (λ entry. IsKeptBatch node (batch_of entry)) items kept_batch_is)
