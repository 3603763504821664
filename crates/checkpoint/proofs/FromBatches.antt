-- What is held of the batches that were read is what the state has of them.
use Rattle.std.proofs.Common.{◌≡◌, ℕ, Bool, true, false, cond, inl, inr, List, [], ◌∷◌, ◌++◌, length, map, find, Option, Some, None, refl, sym, ap, ◌∙◌, arith}
use Rattle.std.specs.Prelude.{⊤, ◌==◌, ◌&&◌, ◌||◌, not, is_some}
use Rattle.std.specs.BTreeMap.{is_at}
use Rattle.std.specs.BTreeSet.{BTreeSet, Updates, contains}
use Rattle.std.specs.List.{list_any}
use Rattle.std.specs.Option.{option_map_or}
use Rattle.std.specs.Str.{bytes_eq}
use Rattle.std.proofs.lemmas.Bool.{cases_Bool}
use Rattle.std.proofs.lemmas.List.Folds.{list_any-append}
use Rattle.std.proofs.lemmas.Map.Text.{is_eq-slice_cmp}
use Rattle.admission.proofs.Reading.{bytes_eq-swap}
use Rattle.sigface.specs.declared.seed.TableSeed.{TableSeed}
use Rattle.admission.specs.Batches.{HasBatches}
use Rattle.batchstore.specs.Kept.{compared}
use Rattle.batchstore.specs.Stock.{digest_of, found}
use Rattle.batchstore.specs.declared.held.Held.{Held}
use Rattle.committee.specs.Sets.{has}
use Rattle.spec_model.specs.Holdings.{batch_digest}
use Rattle.spec_model.specs.Nodes.{Node}
use Rattle.spec_model.specs.Slots.{same_digest}
use Rattle.spec_model.specs.Words.{BatchView, Digest}
use Rattle.spec_checkpoint.specs.Data.{KeptBatch, Checkpoint}
use Rattle.spec_checkpoint.specs.Meaning.{state_in}
use Rattle.checkpoint.specs.Judging.{IsHeldAs, AreHeldAs}

-- one batch more
pub held_more : (batches : List KeptBatch) (helds : List Held) (kept : KeptBatch) (held : Held) → AreHeldAs batches helds → IsHeldAs kept held → AreHeldAs (batches ++ kept ∷ []) (helds ++ held ∷ [])
held_more [] [] kept held are is = (is, tt)
held_more [] (h ∷ helds) kept held are is = absurd are
held_more (k ∷ batches) [] kept held are is = absurd are
held_more (k ∷ batches) (h ∷ helds) kept held are is = (are.0, held_more batches helds kept held are.1 is)

-- what is found is alike
abbrev IsFoundAs : Option KeptBatch → Option Held → Type 0
IsFoundAs None None = ⊤
IsFoundAs (Some kept) (Some held) = IsHeldAs kept held
IsFoundAs _ _ = ⊥

found_as : (digest : Digest) (batches : List KeptBatch) (helds : List Held) → AreHeldAs batches helds
    → IsFoundAs (find (λ (kept : KeptBatch). same_digest (batch_digest kept.batch) digest) batches) (found digest helds)
found_as digest [] [] are = tt
found_as digest [] (h ∷ helds) are = absurd are
found_as digest (k ∷ batches) [] are = absurd are
found_as digest (k ∷ batches) (h ∷ helds) are =
    let swap : bytes_eq digest.0 (digest_of h.batch).0 ≡ bytes_eq (batch_digest k.batch).0 digest.0 =
    bytes_eq-swap digest.0 (digest_of h.batch).0 ∙ ap (λ (b : BatchView). bytes_eq (digest_of b).0 digest.0) are.0.batch in
    elim (cases_Bool (bytes_eq (batch_digest k.batch).0 digest.0)) [
      | inl so ↦ (let also = swap ∙ so in rw (so, also) are.0)
      | inr off ↦ (let also = swap ∙ off in rw (off, also) (found_as digest batches helds are.1))
    ]

same_batches : (batches : List KeptBatch) (helds : List Held) → AreHeldAs batches helds → map (λ (held : Held). held.batch) helds ≡ map (λ (kept : KeptBatch). kept.batch) batches
same_batches [] [] are = refl
same_batches [] (h ∷ helds) are = absurd are
same_batches (k ∷ batches) [] are = absurd are
same_batches (k ∷ batches) (h ∷ helds) are =
    ap (λ b. b ∷ map (λ (held : Held). held.batch) helds) are.0.batch ∙ ap (λ l. k.batch ∷ l) (same_batches batches helds are.1)

same_acked : (member : ℕ) (kept : Option KeptBatch) (held : Option Held) → IsFoundAs kept held
    → option_map_or (λ (h : Held). has h.acknowledged member) held false ≡ option_map_or (λ (k : KeptBatch). list_any (λ one. one == member) k.members) kept false
same_acked member None None is = refl
same_acked member None (Some h) is = absurd is
same_acked member (Some k) None is = absurd is
same_acked member (Some k) (Some h) is = is.acknowledged member

same_named : (kept : Option KeptBatch) (held : Option Held) → IsFoundAs kept held → option_map_or (λ (h : Held). h.named) held false ≡ option_map_or (λ (k : KeptBatch). k.named) kept false
same_named None None is = refl
same_named None (Some h) is = absurd is
same_named (Some k) None is = absurd is
same_named (Some k) (Some h) is = is.named

pub has_batches : (node : Node) (checkpoint : Checkpoint) (helds : List Held) → AreHeldAs checkpoint.batches helds
    → (seed : TableSeed) → HasBatches node (state_in node checkpoint) (record { charter = node.charter; own = node.own.0; seed = seed; held = helds })
has_batches node checkpoint helds are seed = record {
  charter = refl;
  own = refl;
  batches = same_batches checkpoint.batches helds are;
  acked = λ digest member. same_acked member (find (λ (kept : KeptBatch). same_digest (batch_digest kept.batch) digest) checkpoint.batches) (found digest helds)
      (found_as digest checkpoint.batches helds are);
  named = λ digest. same_named (find (λ (kept : KeptBatch). same_digest (batch_digest kept.batch) digest) checkpoint.batches) (found digest helds) (found_as digest checkpoint.batches helds are);
}

-- ---- while they are tested

pub held_long : (batches : List KeptBatch) (helds : List Held) → AreHeldAs batches helds → length batches ≡ length helds
held_long [] [] are = refl
held_long [] (h ∷ helds) are = absurd are
held_long (k ∷ batches) [] are = absurd are
held_long (k ∷ batches) (h ∷ helds) are = let rest = held_long batches helds are.1 in omega (arith, rest)

abbrev pub has_digest : List KeptBatch → Digest → Bool
has_digest batches digest = list_any (λ (other : KeptBatch). same_digest (batch_digest other.batch) digest) batches

pub none_seen : (digests : BTreeSet Digest) (digest : Digest) → digests.keys ≡ [] → contains compared digests digest ≡ false
none_seen digests digest is = ap (list_any (is_at (compared digest))) is

-- one digest more
pub seen_more : (before after : BTreeSet Digest) (key : Digest) (batches : List KeptBatch) (kept : KeptBatch) → key ≡ batch_digest kept.batch
    → ((digest : Digest) → contains compared before digest ≡ has_digest batches digest) → Updates compared before after key true
    → (digest : Digest) → contains compared after digest ≡ has_digest (batches ++ kept ∷ []) digest
seen_more before after key batches kept is seen updates digest =
    updates.0 digest
    ∙ ap (λ (b : Bool). cond b true (contains compared before digest)) (is_eq-slice_cmp key.0 digest.0 ∙ ap (λ (d : Digest). same_digest d digest) is)
    ∙ ap (λ (b : Bool). cond (same_digest (batch_digest kept.batch) digest) true b) (seen digest)
    ∙ or_last (same_digest (batch_digest kept.batch) digest) (has_digest batches digest)
    ∙ sym (list_any-append (λ (other : KeptBatch). same_digest (batch_digest other.batch) digest) batches (kept ∷ []))
  where
    or_last : (b any : Bool) → cond b true any ≡ (any || (b || false))
    or_last true true = refl
    or_last true false = refl
    or_last false true = refl
    or_last false false = refl

pub none_is : {X : Type 0} (o : Option X) → ((x : X) → o ≡ Some x → ⊥) → is_some o ≡ false
none_is None none = refl
none_is (Some x) none = absurd (none x refl)

pub unsound_none : {X : Type 0} (sound any : Bool) (o : Option X) → sound ≡ (is_some o && not any) → is_some o ≡ false → sound ≡ false
unsound_none sound any o is none = is ∙ ap (λ b. b && not any) none

pub unsound_seen : {X : Type 0} (sound any : Bool) (o : Option X) → sound ≡ (is_some o && not any) → any ≡ true → sound ≡ false
unsound_seen sound any None is seen = is
unsound_seen sound any (Some x) is seen = is ∙ ap not seen

pub sound_new : {X : Type 0} (sound any : Bool) (o : Option X) (x : X) → sound ≡ (is_some o && not any) → o ≡ Some x → any ≡ false → sound ≡ true
sound_new sound any o x is some new = is ∙ ap (λ p. is_some p && not any) some ∙ ap not new
