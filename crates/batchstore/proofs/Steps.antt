-- What a store keeps after each of its steps.
use Rattle.std.proofs.Common.{◌≡◌, ◌≢◌, ℕ, suc, ◌<◌, Bool, true, false, cond, List, [], ◌∷◌, ◌++◌, length, Option, Some, None, refl, sym, ap, subst}
use Rattle.std.proofs.Common.{◌∙◌, inl, inr, arith, take, drop, slice_get, slice_set, length-append}
use Rattle.std.specs.Prelude.{◌&&◌, ◌||◌, ◌==◌, ◌⊎◌, not, map, find, AllPairs}
use Rattle.std.specs.List.{AllByRecursion, list_any}
use Rattle.std.specs.Map.{remove_entry}
use Rattle.std.specs.BTreeMap.{insert_entry, is_at}
use Rattle.std.specs.Str.{bytes_eq}
use Rattle.std.proofs.Math.Bool.{or-false, and-false}
use Rattle.std.proofs.lemmas.Bool.{cases_Bool, eqb-true, eq-eqb, leb-true, le-leb, lt-leb, and_parts, not-true}
use Rattle.std.proofs.lemmas.List.Folds.{list_any-append}
use Rattle.std.proofs.lemmas.List.Elements.{recursion_from_All, All-from_recursion, All-push}
use Rattle.std.proofs.lemmas.List.Quantifiers.{all_pairs_push}
use Rattle.wire.specs.References.{placed}
use Rattle.wire.specs.declared.keys.Digest.{Digest}
use Rattle.wire.specs.declared.references.BatchReference.{BatchReference}
use Rattle.committee.specs.Charter.{Charter, IsCharter, weight, quorum_of}
use Rattle.committee.specs.Sets.{has}
use Rattle.committee.specs.declared.sets.MemberSet.{MemberSet}
use Rattle.committee.proofs.Weights.{weight-same, weight-one, weight-within}
use Rattle.std.specs.Option.{option_map_or}
use Rattle.sigface.specs.declared.seed.TableSeed.{TableSeed}
use Rattle.batchstore.specs.Stock.{BatchStoreView, IsStock, IsHeld, held_at, has_own, has_acked, holds, as_reference, holders, is_quorate, may_be_named, nameable_among}
use Rattle.batchstore.specs.Answer.{with_member, acked_by, named_by}
use Rattle.batchstore.specs.Kept.{IsKept, compared, reference_of}
use Rattle.batchstore.specs.declared.held.Held.{Held}
use Rattle.batchstore.proofs.Among.{digest_in, is_of, None_of, Distinct, same_digest, set_parted, parted, others, found_is, none_found, map-others}
use Rattle.batchstore.proofs.Among.{map-one, all-one, digests-one, length-one, map-push, others_differ}
use Rattle.batchstore.proofs.Placed.{Absent, inserted, removed, without}
use Rattle.batchstore.proofs.Listing.{to_name-none, to_name-some, unlisted, gains, stays, loses, push-none}
use Rattle.batchstore.proofs.Members.{more_is}

-- the store of these batches, whose table hashes with this seed
abbrev pub stock_in : TableSeed → Charter → ℕ → List Held → BatchStoreView
stock_in seed charter own batches = record { charter = charter; own = own; seed = seed; held = batches }

-- a batch of this digest stands at a place, and no other has it
pub record Stands (batches : List Held) (digest : Digest) (place : ℕ) (held : Held) : Type 0 where
  pub at : slice_get batches place ≡ Some held
  pub stood : batches ≡ take place batches ++ held ∷ drop (suc place) batches
  pub is : digest_in held ≡ digest
  pub before : None_of digest (take place batches)
  pub after : None_of digest (drop (suc place) batches)

pub stands : (batches : List Held) (digest : Digest) (place : ℕ) (held : Held) → Distinct batches → find (is_of digest) batches ≡ Some held
    → slice_get batches place ≡ Some held → Stands batches digest place held
stands batches digest place held distinct found at =
    let stood = parted batches place held at in
    let is = found_is digest batches held found in
    let apart = others (take place batches) held (drop (suc place) batches) (subst Distinct stood distinct) in
    record {
      at = at;
      stood = stood;
      is = is;
      before = subst (λ d. None_of d (take place batches)) is apart.0;
      after = subst (λ d. None_of d (drop (suc place) batches)) is apart.1;
    }

-- what is kept, with another value at a place
pub changed : {seed : TableSeed} (charter : Charter) (own : ℕ) (batches : List Held) (listed after : List (Digest × ℕ)) (digest : Digest) (place : ℕ) (old new : Held)
    → IsKept (stock_in seed charter own batches) listed → Stands batches digest place old → digest_in new ≡ digest_in old
    → (IsHeld charter own old → IsHeld charter own new)
    → map reference_of after ≡ nameable_among charter own (take place batches ++ new ∷ drop (suc place) batches)
    → IsKept (stock_in seed charter own (slice_set batches place new)) after
changed charter own batches listed after digest place old new kept there same goes names =
    let front = take place batches in
    let back = drop (suc place) batches in
    let is : slice_set batches place new ≡ front ++ new ∷ back = set_parted batches place old new there.at in
    let digests : map digest_in (slice_set batches place new) ≡ map digest_in batches =
    ap (map digest_in) is ∙ digests-one front old new back same ∙ ap (map digest_in) (sym there.stood) in
    let long : length (slice_set batches place new) ≡ length batches = ap length is ∙ length-one front old new back ∙ ap length (sym there.stood) in
    let each : AllByRecursion (IsHeld charter own) (front ++ old ∷ back) =
    subst (AllByRecursion (IsHeld charter own)) there.stood (recursion_from_All (IsHeld charter own) batches kept.valid.each) in
    record {
      valid = record {
        charter = kept.valid.charter;
        own = kept.valid.own;
        distinct = subst (λ l. AllPairs (λ one other. one ≢ other) l) (sym digests) kept.valid.distinct;
        few = omega (arith, long, kept.valid.few);
        each = All-from_recursion (IsHeld charter own) (slice_set batches place new)
            (subst (AllByRecursion (IsHeld charter own)) (sym is) (all-one (IsHeld charter own) front old new back goes each));
      };
      named = names ∙ ap (nameable_among charter own) (sym is);
    }

-- ---- a new batch

-- a batch that nobody has acknowledged isn't available: no member is a quorum alone
alone : (charter : Charter) (own : ℕ) (held : Held) → IsCharter charter → own < length charter.keys → ((member : ℕ) → has held.acknowledged member ≡ false) → is_quorate charter own held ≡ false
alone charter own held is mine none =
    let same = weight-same charter (holders own held) (λ m. m == own) (λ m within. ap (λ b. (m == own) || b) (none m) ∙ or-false (m == own)) in
    let shared = is.shared own 0 (omega (arith, is.staked)) in
    lt-leb (quorum_of charter) (weight charter (holders own held)) (omega (arith, same, weight-one charter own mine, shared))

pub pushed : {seed : TableSeed} (charter : Charter) (own : ℕ) (batches : List Held) (listed : List (Digest × ℕ)) (digest : Digest) (new : Held)
    → IsKept (stock_in seed charter own batches) listed → digest ≡ digest_in new → find (is_of digest) batches ≡ None → length batches < charter.batches
    → ((member : ℕ) → has new.acknowledged member ≡ false) → new.named ≡ false
    → IsKept (stock_in seed charter own (batches ++ new ∷ [])) listed
pushed charter own batches listed digest new kept is none room empty unnamed =
    let apart : None_of (digest_in new) batches = subst (λ d. None_of d batches) is (none_found digest batches none) in
    let may : may_be_named charter own new ≡ false = ap (λ b. (new.batch.author.0 == own) && (b && not new.named))
    (alone charter own new kept.valid.charter kept.valid.own empty) ∙ and-false (new.batch.author.0 == own) in
    let fresh : IsHeld charter own new = record {
      acknowledged = λ m there_is. (let there_isnt = empty m in absurd cc);
      named = λ there_is. absurd cc;
    } in
    record {
      valid = record {
        charter = kept.valid.charter;
        own = kept.valid.own;
        distinct = subst (AllPairs (λ one other. one ≢ other)) (sym (map-push batches new))
            (all_pairs_push (λ one other. one ≢ other) (map digest_in batches) (digest_in new) kept.valid.distinct (others_differ (digest_in new) batches apart));
        few = omega (arith, length-append batches (new ∷ []), room);
        each = All-push (IsHeld charter own) batches new kept.valid.each fresh;
      };
      named = kept.named ∙ sym (push-none charter own batches new (to_name-none charter own new may));
    }

-- ---- the list beside it

-- it lists those that may be named, the one at a place among them
listed_around : {seed : TableSeed} (charter : Charter) (own : ℕ) (batches : List Held) (listed : List (Digest × ℕ)) (digest : Digest) (place : ℕ) (old : Held)
    → IsKept (stock_in seed charter own batches) listed → Stands batches digest place old
    → map reference_of listed ≡ nameable_among charter own (take place batches ++ old ∷ drop (suc place) batches)
listed_around charter own batches listed digest place old kept there = kept.named ∙ ap (nameable_among charter own) there.stood

-- a change of the one batch of a digest
pub at_place : (change : Held → Held) (batches : List Held) (digest : Digest) (place : ℕ) (old new : Held) → ((held : Held) → is_of digest held ≡ false → change held ≡ held) → change old ≡ new
    → Stands batches digest place old → map change batches ≡ take place batches ++ new ∷ drop (suc place) batches
at_place change batches digest place old new keeps is there =
    ap (map change) there.stood ∙ map-one change digest keeps (take place batches) old (drop (suc place) batches) there.before there.after
    ∙ ap (λ (h : Held). take place batches ++ h ∷ drop (suc place) batches) is

-- ---- a member more

or_up : (a b c : Bool) → (a || b) ≡ true → (a || (b || c)) ≡ true
or_up true b c h = refl
or_up false true c h = refl
or_up false false c h = absurd cc

more_quorate : (charter : Charter) (own : ℕ) (old new : Held) (member : ℕ) → ((other : ℕ) → has new.acknowledged other ≡ (has old.acknowledged other || (other == member)))
    → is_quorate charter own old ≡ true → is_quorate charter own new ≡ true
more_quorate charter own old new member more is =
    let within = weight-within charter (holders own old) (holders own new)
    (λ m inside holds. ap (λ b. (m == own) || b) (more m) ∙ or_up (m == own) (has old.acknowledged m) (m == member) holds) in
    le-leb (quorum_of charter) (weight charter (holders own new)) (omega (arith, within, leb-true (quorum_of charter) (weight charter (holders own old)) is))

same_may : (named was now : Bool) → (was ≡ true → now ≡ true) → (not named && (not was && now)) ≡ false → (now && not named) ≡ (was && not named)
same_may true was now up there_isnt = and-false now ∙ sym (and-false was)
same_may false true now up there_isnt = ap (λ b. b && true) (up refl)
same_may false false now up there_isnt = ap (λ b. b && true) there_isnt

-- the batch with these members
abbrev pub with_acks : Held → MemberSet → Held
with_acks held members = record held { acknowledged = members }

-- it begins to be nameable
abbrev pub begins : Charter → ℕ → Held → MemberSet → Bool
begins charter own held members = not held.named && (not (is_quorate charter own held) && is_quorate charter own (with_acks held members))

one_member : (held_by before one : Bool) → held_by ≡ (before || one) → held_by ≡ true → (before ≡ true) ⊎ (one ≡ true)
one_member held_by true one is there_is = inl refl
one_member held_by false one is there_is = inr (sym is ∙ there_is)

still_held : (charter : Charter) (own : ℕ) (old : Held) (member : ℕ) (members : MemberSet) → old.batch.author.0 ≡ own → member < length charter.keys → member ≢ own
    → ((other : ℕ) → has members other ≡ (has old.acknowledged other || (other == member))) → IsHeld charter own old → IsHeld charter own (with_acks old members)
still_held charter own old member members ours inside other more is = record {
  acknowledged = λ m there_is. elim (one_member (has members m) (has old.acknowledged m) (m == member) (more m) there_is) [
    | inl before ↦ (let may = is.acknowledged m before in record { ours = ours; inside = may.inside; other = may.other })
    | inr same ↦ (let one : m ≡ member = eqb-true m member same in record { ours = ours; inside = omega (arith, one, inside); other = λ e. other (sym one ∙ e) })
  ];
  named = is.named;
}

pub acked_new : {seed : TableSeed} (charter : Charter) (own : ℕ) (batches : List Held) (listed : List (Digest × ℕ)) (digest : Digest) (place : ℕ) (old : Held) (member : ℕ) (members : MemberSet)
    → IsKept (stock_in seed charter own batches) listed → Stands batches digest place old → old.batch.author.0 ≡ own → member < length charter.keys → member ≢ own
    → ((other : ℕ) → has members other ≡ (has old.acknowledged other || (other == member))) → begins charter own old members ≡ true
    → IsKept (stock_in seed charter own (slice_set batches place (with_acks old members))) (insert_entry compared listed digest old.batch.worker)
acked_new charter own batches listed digest place old member members kept there ours inside other more begin =
    let front = take place batches in
    let back = drop (suc place) batches in
    let new = with_acks old members in
    let parts = and_parts (not old.named) (not (is_quorate charter own old) && is_quorate charter own new) begin in
    let quorums = and_parts (not (is_quorate charter own old)) (is_quorate charter own new) parts.1 in
    let mine : (old.batch.author.0 == own) ≡ true = eq-eqb old.batch.author.0 own ours in
    let may_not : may_be_named charter own old ≡ false =
    ap (λ b. (old.batch.author.0 == own) && (b && not old.named)) (not-true (is_quorate charter own old) quorums.0) ∙ and-false (old.batch.author.0 == own) in
    let may : may_be_named charter own new ≡ true =
    ap (λ b. b && (is_quorate charter own new && not old.named)) mine ∙ ap (λ b. b && not old.named) quorums.1 ∙ parts.0 in
    let before : None_of (digest_in old) front = subst (λ d. None_of d front) (sym there.is) there.before in
    let following : None_of (digest_in old) back = subst (λ d. None_of d back) (sym there.is) there.after in
    let around = listed_around charter own batches listed digest place old kept there in
    let absent : Absent digest (map reference_of listed) =
    subst (Absent digest) (sym around)
    (subst (λ d. Absent d (nameable_among charter own (front ++ old ∷ back))) there.is
    (unlisted charter own front old back (to_name-none charter own old may_not) before following)) in
    let reference : ◌≡◌ {A = BatchReference} (reference_of (digest, old.batch.worker)) (as_reference old.batch) =
    ap (λ (d : Digest). record { digest = d; worker = old.batch.worker }) (sym there.is) in
    changed charter own batches listed (insert_entry compared listed digest old.batch.worker) digest place old new kept there refl
    (still_held charter own old member members ours inside other more)
    (inserted listed digest old.batch.worker absent ∙ ap (λ l. placed l (reference_of (digest, old.batch.worker))) around ∙ ap (placed (nameable_among charter own (front ++ old ∷ back))) reference
    ∙ sym (gains charter own front old new back (to_name-none charter own old may_not) (to_name-some charter own new may) following))

pub acked_same : {seed : TableSeed} (charter : Charter) (own : ℕ) (batches : List Held) (listed : List (Digest × ℕ)) (digest : Digest) (place : ℕ) (old : Held) (member : ℕ) (members : MemberSet)
    → IsKept (stock_in seed charter own batches) listed → Stands batches digest place old → old.batch.author.0 ≡ own → member < length charter.keys → member ≢ own
    → ((other : ℕ) → has members other ≡ (has old.acknowledged other || (other == member))) → begins charter own old members ≡ false
    → IsKept (stock_in seed charter own (slice_set batches place (with_acks old members))) listed
acked_same charter own batches listed digest place old member members kept there ours inside other more begin =
    let front = take place batches in
    let back = drop (suc place) batches in
    let new = with_acks old members in
    let may : may_be_named charter own new ≡ may_be_named charter own old =
    ap (λ b. (old.batch.author.0 == own) && b) (same_may old.named (is_quorate charter own old) (is_quorate charter own new) (more_quorate charter own old new member more) begin) in
    changed charter own batches listed listed digest place old new kept there refl
    (still_held charter own old member members ours inside other more)
    (listed_around charter own batches listed digest place old kept there
    ∙ sym (stays charter own front old new back (ap (λ b. cond b (Some (as_reference old.batch)) None) may)))

-- the store then has what the answer says
pub acked_view : (batches : List Held) (digest : Digest) (place : ℕ) (old : Held) (member : ℕ) (members : MemberSet) → Stands batches digest place old
    → ((other : ℕ) → has members other ≡ (has old.acknowledged other || (other == member)))
    → slice_set batches place (with_acks old members) ≡ map (acked_by digest member) batches
acked_view batches digest place old member members there more =
    let here : is_of digest old ≡ true = ap (λ (d : Digest). bytes_eq digest.0 d.0) there.is ∙ same_digest digest in
    let is : acked_by digest member old ≡ with_acks old members =
    ap (λ b. cond b (with_acks old (with_member old.acknowledged member)) old) here ∙ ap (with_acks old) (sym (more_is old.acknowledged members member more)) in
    set_parted batches place old (with_acks old members) there.at
    ∙ sym (at_place (acked_by digest member) batches digest place old (with_acks old members)
    (λ h there_isnt. ap (λ b. cond b (with_acks h (with_member h.acknowledged member)) h) there_isnt) is there)

-- ---- an own header names a batch

-- the batch with the mark
abbrev pub with_mark : Held → Held
with_mark held = record held { named = true }

pub marked : {seed : TableSeed} (charter : Charter) (own : ℕ) (batches : List Held) (listed : List (Digest × ℕ)) (digest : Digest) (place : ℕ) (old : Held)
    → IsKept (stock_in seed charter own batches) listed → Stands batches digest place old → old.batch.author.0 ≡ own
    → IsKept (stock_in seed charter own (slice_set batches place (with_mark old))) (remove_entry (is_at (compared digest)) listed)
marked charter own batches listed digest place old kept there ours =
    let front = take place batches in
    let back = drop (suc place) batches in
    let may_not : may_be_named charter own (with_mark old) ≡ false =
    ap (λ b. (old.batch.author.0 == own) && b) (and-false (is_quorate charter own old)) ∙ and-false (old.batch.author.0 == own) in
    let before : None_of (digest_in old) front = subst (λ d. None_of d front) (sym there.is) there.before in
    let following : None_of (digest_in old) back = subst (λ d. None_of d back) (sym there.is) there.after in
    changed charter own batches listed (remove_entry (is_at (compared digest)) listed) digest place old (with_mark old) kept there refl
    (λ is. record { acknowledged = λ m there_is. (let may = is.acknowledged m there_is in record { ours = ours; inside = may.inside; other = may.other }); named = λ there_is. ours })
    (removed listed digest ∙ ap (without digest) (listed_around charter own batches listed digest place old kept there)
    ∙ ap (λ d. without d (nameable_among charter own (front ++ old ∷ back))) (sym there.is)
    ∙ loses charter own front old (with_mark old) back (to_name-none charter own (with_mark old) may_not) before following)

named_others : (own : ℕ) (reference : BatchReference) (held : Held) → is_of reference.digest held ≡ false → named_by own (reference ∷ []) held ≡ held
named_others own reference held there_isnt =
    ap (λ b. cond ((held.batch.author.0 == own) && (b || false)) (with_mark held) held) there_isnt ∙ ap (λ b. cond b (with_mark held) held) (and-false (held.batch.author.0 == own))

-- the store then has what the answer says
pub marked_view : (own : ℕ) (batches : List Held) (reference : BatchReference) (place : ℕ) (old : Held) → Stands batches reference.digest place old → old.batch.author.0 ≡ own
    → slice_set batches place (with_mark old) ≡ map (named_by own (reference ∷ [])) batches
marked_view own batches reference place old there ours =
    let here : is_of reference.digest old ≡ true = ap (λ (d : Digest). bytes_eq reference.digest.0 d.0) there.is ∙ same_digest reference.digest in
    let is : named_by own (reference ∷ []) old ≡ with_mark old =
    ap (λ b. cond (b && (is_of reference.digest old || false)) (with_mark old) old) (eq-eqb old.batch.author.0 own ours) ∙ ap (λ b. cond (b || false) (with_mark old) old) here in
    set_parted batches place old (with_mark old) there.at
    ∙ sym (at_place (named_by own (reference ∷ [])) batches reference.digest place old (with_mark old) (named_others own reference) is there)

-- where the batch isn't an own one, or none is held, nothing changes
pub unmarked : (own : ℕ) (batches : List Held) (reference : BatchReference) (place : ℕ) (old : Held) → Stands batches reference.digest place old → (old.batch.author.0 == own) ≡ false
    → map (named_by own (reference ∷ [])) batches ≡ batches
unmarked own batches reference place old there theirs =
    at_place (named_by own (reference ∷ [])) batches reference.digest place old old (named_others own reference)
    (ap (λ b. cond (b && (is_of reference.digest old || false)) (with_mark old) old) theirs) there
    ∙ sym there.stood

pub unheld : (own : ℕ) (batches : List Held) (reference : BatchReference) → find (is_of reference.digest) batches ≡ None → map (named_by own (reference ∷ [])) batches ≡ batches
unheld own batches reference none = map-others (named_by own (reference ∷ [])) reference.digest (named_others own reference) batches (none_found reference.digest batches none)

-- ---- several batches are named one after another

and_or_false : (a b c : Bool) → (a && b) ≡ false → (a && (b || c)) ≡ (a && c)
and_or_false true true c h = absurd cc
and_or_false true false c h = refl
and_or_false false b c h = refl

both_ways : (own : ℕ) (references : List BatchReference) (last : BatchReference) (held : Held) (first : Bool) → ((held.batch.author.0 == own) && list_any (λ r. is_of r.digest held) references) ≡ first
    → named_by own (last ∷ []) (cond first (with_mark held) held)
    ≡ cond ((held.batch.author.0 == own) && (list_any (λ r. is_of r.digest held) references || list_any (λ r. is_of r.digest held) (last ∷ [])))
    (with_mark held) held
both_ways own references last held true is =
    let parts = and_parts (held.batch.author.0 == own) (list_any (λ r. is_of r.digest held) references) is in
    cond-same ((held.batch.author.0 == own) && list_any (λ r. is_of r.digest held) (last ∷ [])) (with_mark held)
    ∙ sym (ap (λ b. cond (b && (list_any (λ r. is_of r.digest held) references || list_any (λ r. is_of r.digest held) (last ∷ []))) (with_mark held) held) parts.0
    ∙ ap (λ b. cond (b || list_any (λ r. is_of r.digest held) (last ∷ [])) (with_mark held) held) parts.1)
  where
    cond-same : (b : Bool) (h : Held) → cond b h h ≡ h
    cond-same true h = refl
    cond-same false h = refl
both_ways own references last held false is =
    ap (λ b. cond b (with_mark held) held) (sym (and_or_false (held.batch.author.0 == own) (list_any (λ r. is_of r.digest held) references) (list_any (λ r. is_of r.digest held) (last ∷ [])) is))

named_twice : (own : ℕ) (references : List BatchReference) (last : BatchReference) (held : Held) → named_by own (last ∷ []) (named_by own references held) ≡ named_by own (references ++ last ∷ []) held
named_twice own references last held =
    both_ways own references last held ((held.batch.author.0 == own) && list_any (λ r. is_of r.digest held) references) refl
    ∙ ap (λ b. cond ((held.batch.author.0 == own) && b) (with_mark held) held) (sym (list_any-append (λ (r : BatchReference). is_of r.digest held) references (last ∷ [])))

-- to name one more batch after others is to name them all
pub named_more : (own : ℕ) (references : List BatchReference) (last : BatchReference) (batches : List Held)
    → map (named_by own (last ∷ [])) (map (named_by own references) batches) ≡ map (named_by own (references ++ last ∷ [])) batches
named_more own references last [] = refl
named_more own references last (h ∷ rest) =
    ap (λ (x : Held). x ∷ map (named_by own (last ∷ [])) (map (named_by own references) rest)) (named_twice own references last h)
    ∙ ap (λ l. named_by own (references ++ last ∷ []) h ∷ l) (named_more own references last rest)

-- to name none changes nothing
pub named_none : (own : ℕ) (batches : List Held) → map (named_by own []) batches ≡ batches
named_none own [] = refl
named_none own (h ∷ rest) =
    ap (λ (x : Held). x ∷ map (named_by own []) rest) (ap (λ b. cond b (with_mark h) h) (and-false (h.batch.author.0 == own))) ∙ ap (λ l. h ∷ l) (named_none own rest)

-- ---- what look-ups say of what is found

pub own_of : (stock : BatchStoreView) (digest : Digest) (held : Held) → held_at stock digest ≡ Some held → has_own stock digest ≡ true → held.batch.author.0 ≡ stock.own
own_of stock digest held is ours =
    eqb-true held.batch.author.0 stock.own (sym (ap (λ (o : Option Held). option_map_or (λ (h : Held). h.batch.author.0 == stock.own) o false) is) ∙ ours)

first_false : (a b : Bool) → (a || b) ≡ false → a ≡ false
first_false true b h = absurd cc
first_false false b h = refl

pub other_than : (stock : BatchStoreView) (digest : Digest) (member : ℕ) → holds stock digest member ≡ false → member ≢ stock.own
other_than stock digest member apart same =
    let is = eq-eqb member stock.own same in
    let isnt = first_false (member == stock.own) (has_acked stock digest member) apart in
    absurd cc

-- what is found holds what each of the batches does
found_one : (P : Held → Type 0) (digest : Digest) (batches : List Held) (held : Held) → AllByRecursion P batches → find (is_of digest) batches ≡ Some held → P held
found_one P digest [] held all is = absurd cc
found_one P digest (h ∷ rest) held all is =
    elim (cases_Bool (is_of digest h)) [
      | inl here ↦
          let one : ◌≡◌ {A = Option Held} (Some h) (Some held) = sym (ap (λ b. cond b (Some h) (find (is_of digest) rest)) here) ∙ is in
          let same : h ≡ held = cc in
          subst P same all.0
      | inr apart ↦ found_one P digest rest held all.1 (sym (ap (λ b. cond b (Some h) (find (is_of digest) rest)) apart) ∙ is)
    ]

acked_by_member : (charter : Charter) (own : ℕ) (found : Option Held) (member : ℕ) → ((held : Held) → found ≡ Some held → IsHeld charter own held)
    → option_map_or (λ held. has held.acknowledged member) found false ≡ true → member < length charter.keys
acked_by_member charter own None member all is = absurd cc
acked_by_member charter own (Some held) member all is = ((all held refl).acknowledged member is).inside

-- only members hold a batch
pub holds_member : (stock : BatchStoreView) (digest : Digest) (member : ℕ) → IsStock stock → holds stock digest member ≡ true → member < length stock.charter.keys
holds_member stock digest member is holds =
    elim (cases_Bool (member == stock.own)) [
      | inl own ↦ let same = eqb-true member stock.own own in omega (arith, same, is.own)
      | inr apart ↦
          acked_by_member stock.charter stock.own (held_at stock digest) member
          (λ held found. found_one (IsHeld stock.charter stock.own) digest stock.held held (recursion_from_All (IsHeld stock.charter stock.own) stock.held is.each) found)
          (sym (ap (λ b. b || has_acked stock digest member) apart) ∙ holds)
    ]
