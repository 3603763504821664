-- What is kept of a sound state makes tables that are at it.
use Rattle.std.proofs.Common.{◌≡◌, ◌≢◌, ℕ, zero, suc, ◌<◌, true, false, List, [], ◌∷◌, map, length, get_or, Some, inl, inr, refl, ap, sym, ◌∙◌, subst, arith}
use Rattle.std.specs.Prelude.{◌==◌, AllPairs, All, option_map, option_and_then}
use Rattle.std.specs.FinMap.{get, get-entries, get-from_entries, entries, from_entries, find}
use Rattle.std.specs.Option.{option_map_or}
use Rattle.std.specs.Str.{bytes_eq}
use Rattle.std.proofs.lemmas.Bool.{cases_Bool, eqb-true, true≢false}
use Rattle.std.proofs.lemmas.List.{get_or-map, length-map}
use Rattle.std.proofs.lemmas.Slice.Eq.{bytes_eq-Decides}
use Rattle.committee.specs.Charter.{Charter, IsCharter}
use Rattle.committee.specs.Sets.{has}
use Rattle.batchstore.specs.Stock.{BatchStoreView, IsStock, IsHeld, digest_of, found, has_own}
use Rattle.batchstore.specs.declared.held.Held.{Held}
use Rattle.certify.specs.Assembled.{AssemblyView}
use Rattle.spec_machine.specs.Sound.{IsSound}
use Rattle.spec_model.specs.Holdings.{batch_digest}
use Rattle.spec_model.specs.Nodes.{Node, IsNode, size_of}
use Rattle.spec_model.specs.Slots.{same_digest}
use Rattle.spec_model.specs.States.{State}
use Rattle.spec_model.specs.Words.{BatchView, Digest}
use Rattle.votebook.specs.Slot.{slot_cmp, slot_of}
use Rattle.votebook.specs.Votes.{Votes}
use Rattle.votebook.specs.declared.slot.Slot.{Slot}
use Rattle.votebook.proofs.Lookups.{slots_total}
use Rattle.admission.specs.Batches.{HasBatches}
use Rattle.admission.specs.Headers.{AssembliesView, vote_in}
use Rattle.admission.specs.Headers as headers
use Rattle.admission.specs.Kept.{IsSameTable}
use Rattle.admission.specs.Votes.{HasVotes}
use Rattle.admission.proofs.Reading.{batches_read}

-- ---- batches

-- no two have one digest
abbrev AreDistinct : List Held → Type 0
AreDistinct = AllPairs (λ one other. digest_of one.batch ≢ digest_of other.batch)

-- each is found by its digest
found_at : (held : List Held) → AreDistinct held → (i : ℕ) (d : Held) → i < length held → found (digest_of (get_or held i d).batch) held ≡ Some (get_or held i d)
found_at [] distinct i d within = absurd (omega (arith, within))
found_at (one ∷ held) distinct zero d within =
    let digest = (digest_of one.batch).0 in
    let same : bytes_eq digest digest ≡ true = (bytes_eq-Decides digest digest).1 refl in
    rw same refl
found_at (one ∷ held) distinct (suc i) d within =
    let later = get_or held i d in
    let apart : bytes_eq (digest_of later.batch).0 (digest_of one.batch).0 ≡ false = elim (cases_Bool (bytes_eq (digest_of later.batch).0 (digest_of one.batch).0)) [
      | inr apart ↦ apart
      | inl same ↦ absurd (distinct 0 (suc i) d (omega arith) within (ap (λ (bytes : List ℕ). let digest : Digest = record { 0 = bytes } in digest)
          (sym ((bytes_eq-Decides (digest_of later.batch).0 (digest_of one.batch).0).0 same))))
    ] in
    rw apart (found_at held (λ i' j' d' less inside. distinct (suc i') (suc j') d' (omega (arith, less)) (omega (arith, inside))) i d (omega (arith, within)))

-- the batches of a sound state are so
distinct_in : (node : Node) (state : State) (stock : BatchStoreView) → IsSound node state → HasBatches node state stock → AreDistinct stock.held
distinct_in node state stock sound alike i j d less within same =
    let batch = λ (h : Held). h.batch in
    let pairs : AllPairs (λ one other. same_digest (batch_digest one) (batch_digest other) ≡ false) (map batch stock.held) =
    subst (AllPairs (λ one other. same_digest (batch_digest one) (batch_digest other) ≡ false)) (sym alike.batches) sound.batches.distinct in
    let long : length (map batch stock.held) ≡ length stock.held = length-map stock.held batch in
    let left = get_or-map batch stock.held i d d.batch (omega (arith, less, within)) in
    let right = get_or-map batch stock.held j d d.batch within in
    let apart : same_digest (batch_digest (get_or stock.held i d).batch) (batch_digest (get_or stock.held j d).batch) ≡ false =
    subst (λ (x : BatchView). same_digest (batch_digest x) (batch_digest (get_or stock.held j d).batch) ≡ false) left
    (subst (λ (y : BatchView). same_digest (batch_digest (get_or (map batch stock.held) i d.batch)) (batch_digest y) ≡ false) right
    (pairs i j d.batch less (omega (arith, long, within)))) in
    true≢false (sym ((bytes_eq-Decides (batch_digest (get_or stock.held i d).batch).0 (batch_digest (get_or stock.held j d).batch).0).1 (ap (λ (x : Digest). x.0) same)) ∙ apart)

held_in : (node : Node) (state : State) (stock : BatchStoreView) → IsSound node state → HasBatches node state stock → All (IsHeld stock.charter stock.own) stock.held
held_in node state stock sound alike i d within =
    let held = get_or stock.held i d in
    let digest = digest_of held.batch in
    let there : found digest stock.held ≡ Some held = found_at stock.held (distinct_in node state stock sound alike) i d within in
    let ours : has_own stock digest ≡ true → held.batch.author.0 ≡ stock.own = λ yes.
    eqb-true held.batch.author.0 stock.own (sym (ap (λ o. option_map_or (λ (h : Held). h.batch.author.0 == stock.own) o false) there) ∙ yes) in
    let reads = (batches_read node state stock alike).same_own digest in
    record {
      acknowledged = λ member yes.
          let acked : state.acked digest member ≡ true = sym (alike.acked digest member) ∙ ap (λ o. option_map_or (λ (h : Held). has h.acknowledged member) o false) there ∙ yes in
          let by = sound.batches.by_members digest member acked in
          let own = alike.own in
          let members : length stock.charter.keys ≡ size_of node = ap (λ (c : Charter). length c.keys) alike.charter in
          let inside = by.0 in
          record {
            ours = ours (reads ∙ sound.batches.acked digest member acked);
            inside = omega (arith, inside, members);
            other = λ same. by.1 (same ∙ own);
          };
      named = λ yes.
          let named : state.named digest ≡ true = sym (alike.named digest) ∙ ap (λ o. option_map_or (λ (h : Held). h.named) o false) there ∙ yes in
          ours (reads ∙ sound.batches.named digest named);
    }

pub stock_in : (node : Node) (state : State) (stock : BatchStoreView) → IsNode node → IsSound node state → HasBatches node state stock → IsStock stock
stock_in node state stock node_is sound alike =
    let batch = λ (h : Held). h.batch in
    let digest = λ (h : Held). digest_of h.batch in
    let own = alike.own in
    let members : length stock.charter.keys ≡ size_of node = ap (λ (c : Charter). length c.keys) alike.charter in
    let member = node_is.member in
    let long : length stock.held ≡ length state.batches = sym (length-map stock.held batch) ∙ ap length alike.batches in
    let most : stock.charter.batches ≡ node.charter.batches = ap (λ (c : Charter). c.batches) alike.charter in
    let few = sound.batches.few in
    record {
      charter = subst IsCharter (sym alike.charter) node_is.charter;
      own = omega (arith, own, members, member);
      distinct = λ i j d less within same.
          let inside : j < length stock.held = let wide : length (map digest stock.held) ≡ length stock.held = length-map stock.held digest in omega (arith, wide, within) in
          let one : Held = some_held stock.held (omega (arith, inside)) in
          distinct_in node state stock sound alike i j one less inside
          (sym (get_or-map digest stock.held i one d (omega (arith, less, inside))) ∙ same ∙ get_or-map digest stock.held j one d inside);
      few = omega (arith, long, most, few);
      each = held_in node state stock sound alike;
    }
  where
    some_held : (held : List Held) → 0 < length held → Held
    some_held [] some = absurd (omega (arith, some))
    some_held (one ∷ held) some = one

-- ---- votes

same_votes : (book : Votes) (list : List (Slot × Digest)) → entries book ≡ list → (slot : Slot) → get book slot ≡ get (from_entries {R = slot_cmp} list) slot
same_votes book list is slot = get-entries book slot ∙ ap (find slot_cmp slot) is ∙ sym (get-from_entries slots_total list slot)

pub votes_in : (node : Node) (state : State) (book : Votes) (list : List (Slot × Digest)) → entries book ≡ list → HasVotes node state (from_entries list) → HasVotes node state book
votes_in node state book list is alike = record {
  others = λ author round apart. same_votes book list is (slot_of author round) ∙ alike.others author round apart;
  own = λ author round mine. same_votes book list is (slot_of author round) ∙ alike.own author round mine;
}

-- ---- own headers

pub headers_in : (node : Node) (state : State) (one other : AssembliesView) → IsSameTable one other → headers.IsAt node state other → headers.IsAt node state one
headers_in node state one other same at = record {
  charter = same.charter ∙ at.charter;
  own = same.own ∙ at.own;
  held = λ round. ap (option_map (λ (a : AssemblyView). a.header)) (same.rounds round) ∙ at.held round;
  counted = λ round voter. ap (option_and_then (λ (a : AssemblyView). vote_in a voter)) (same.rounds round) ∙ at.counted round voter;
}
