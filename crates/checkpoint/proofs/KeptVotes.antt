-- The votes of a checkpoint are those of the state for other members.
use Rattle.std.proofs.Common.{◌≡◌, ◌≢◌, ℕ, Bool, true, List, [], ◌∷◌, map, Some, inl, inr, refl, sym, ap, ◌∙◌, arith}
use Rattle.std.specs.Prelude.{◌==◌, ◌&&◌, All, Contains, find, option_map}
use Rattle.std.specs.FinMap.{get, get-from_entries, from_entries, find as find_in}
use Rattle.std.specs.List.Sorted.{IsStrictlySortedBy}
use Rattle.std.specs.Map.{keys_of}
use Rattle.std.specs.Ordering.{is_eq, eq_by_cmp}
use Rattle.std.specs.declared.cmp.Ordering.{Ordering}
use Rattle.std.specs.declared.cmp.Ordering.TheVariants.{Less, Equal, Greater}
use Rattle.std.proofs.lemmas.Bool.{cases_Bool, and_from, and_parts, eqb-true, eq-eqb, true≢false}
use Rattle.std.proofs.lemmas.Cmp.{tied_itself}
use Rattle.std.proofs.lemmas.Option.{none-some}
use Rattle.admission.specs.Votes.{HasVotes}
use Rattle.votebook.proofs.Lookups.{slots_total, exact_slots}
use Rattle.votebook.specs.Slot.{slot_cmp, slot_of}
use Rattle.votebook.specs.declared.slot.Slot.{Slot}
use Rattle.spec_machine.specs.Sound.{AreVotes}
use Rattle.spec_model.specs.Nodes.{Node, IsNode}
use Rattle.spec_model.specs.States.{State}
use Rattle.spec_model.specs.Words.{Author, Digest}
use Rattle.wire.specs.Rising.{rises}
use Rattle.spec_checkpoint.specs.Data.{KeptVote, IsKeptVote, place_before}
use Rattle.checkpoint.specs.Kept.{vote_of}
use Rattle.checkpoint.proofs.Rising.{all_by, places_apart, places_through, found_itself, rise_pairs}

abbrev vote_before : KeptVote → KeptVote → Bool
vote_before one other = place_before one.round one.author other.round other.author

-- ---- they rise

less_place : (a b : Slot) → slot_cmp a b ≡ Less → place_before a.round a.author b.round b.author ≡ true
less_place a b is = grind (arith, is)

pub votes_rise : (items : List (Slot × Digest)) → IsStrictlySortedBy slot_cmp (keys_of items) → rises vote_before (map vote_of items) ≡ true
unfolding IsStrictlySortedBy
votes_rise [] sorted = refl
votes_rise (one ∷ []) sorted = refl
votes_rise (one ∷ other ∷ items) sorted = and_from (vote_before (vote_of one) (vote_of other)) _ (less_place one.0 other.0 sorted.0.0) (votes_rise (other ∷ items) sorted.1)

-- ---- a vote is found by its slot

equal : (o : Ordering) → is_eq o ≡ true → o ≡ Equal
equal Less is = absurd cc
equal Equal is = refl
equal Greater is = absurd cc

tied : (slot other : Slot) → eq_by_cmp slot_cmp slot other ≡ ((other.round == slot.round) && (other.author == slot.author))
tied slot other = elim (cases_Bool ((other.round == slot.round) && (other.author == slot.author))) [
  | inl so ↦
      let parts = and_parts (other.round == slot.round) (other.author == slot.author) so in
      let same : other ≡ slot = ap (λ (r : ℕ). let s : Slot = record { round = r; author = other.author } in s) (eqb-true other.round slot.round parts.0)
      ∙ ap (λ (a : ℕ). let s : Slot = record { round = slot.round; author = a } in s) (eqb-true other.author slot.author parts.1) in
      ap (λ (s : Slot). is_eq (slot_cmp slot s)) same ∙ ap is_eq (tied_itself slots_total slot) ∙ sym so
  | inr off ↦ elim (cases_Bool (eq_by_cmp slot_cmp slot other)) [
    | inr apart ↦ apart ∙ sym off
    | inl so ↦
        let same : slot ≡ other = exact_slots slot other (equal (slot_cmp slot other) so) in
        let both : ((other.round == slot.round) && (other.author == slot.author)) ≡ true =
        and_from _ _ (eq-eqb other.round slot.round (ap (λ (s : Slot). s.round) (sym same))) (eq-eqb other.author slot.author (ap (λ (s : Slot). s.author) (sym same))) in
        absurd (true≢false (sym both ∙ off))
  ]
]

abbrev at : ℕ → ℕ → KeptVote → Bool
at round author vote = (vote.round == round) && (vote.author == author)

pub vote_found : (items : List (Slot × Digest)) (slot : Slot) → option_map (λ (vote : KeptVote). vote.header) (find (at slot.round slot.author) (map vote_of items)) ≡ find_in slot_cmp slot items
vote_found [] slot = refl
vote_found (one ∷ items) slot = elim (cases_Bool (at slot.round slot.author (vote_of one))) [
  | inl so ↦ (let also = tied slot one.0 ∙ so in rw (so, also) refl)
  | inr off ↦ (let also = tied slot one.0 ∙ off in rw (off, also) (vote_found items slot))
]

module _ (node : Node) (state : State) (items : List (Slot × Digest)) (node_is : IsNode node) (sound : AreVotes node state)
    (sorted : IsStrictlySortedBy slot_cmp (keys_of items)) (has_them : HasVotes node state (from_entries items)) where
  abbrev by : ℕ → Author
  by author = record { 0 = author }

  kept_there : (round author : ℕ) → option_map (λ (vote : KeptVote). vote.header) (find (at round author) (map vote_of items)) ≡ get (from_entries {R = slot_cmp} items) (slot_of (by author) round)
  kept_there round author = vote_found items (slot_of (by author) round) ∙ sym (get-from_entries slots_total items (slot_of (by author) round))

  -- for another member it is the state's
  pub same_votes : (round author : ℕ) → author ≢ node.own.0 → option_map (λ (vote : KeptVote). vote.header) (find (at round author) (map vote_of items)) ≡ state.votes round author
  same_votes round author other = kept_there round author ∙ has_them.others (by author) round other

  -- ---- each is one that a node writes

  kept_itself : (vote : KeptVote) → Contains (map vote_of items) vote → option_map (λ (v : KeptVote). v.header) (find (at vote.round vote.author) (map vote_of items)) ≡ Some vote.header
  kept_itself vote inside =
      ap (option_map (λ (v : KeptVote). v.header)) (found_itself vote_before (at vote.round vote.author) (map vote_of items) vote
      (rise_pairs vote_before (λ x y z one two. places_through x.round x.author y.round y.author z.round z.author one two) (map vote_of items) (votes_rise items sorted))
      inside (and_from _ _ (eq-eqb vote.round vote.round refl) (eq-eqb vote.author vote.author refl))
      (λ y before. places_apart y.round y.author vote.round vote.author before))

  is_other : (vote : KeptVote) → Contains (map vote_of items) vote → vote.author ≢ node.own.0
  is_other vote inside mine = none-some vote.header (sym (kept_there vote.round vote.author ∙ has_them.own (by vote.author) vote.round mine) ∙ kept_itself vote inside)

  is_held : (vote : KeptVote) → Contains (map vote_of items) vote → state.votes vote.round vote.author ≡ Some vote.header
  is_held vote inside = sym (same_votes vote.round vote.author (is_other vote inside)) ∙ kept_itself vote inside

  pub votes_are_of_others : All (λ (vote : KeptVote). vote.author ≢ node.own.0) (map vote_of items)
  votes_are_of_others = all_by (λ (vote : KeptVote). vote.author ≢ node.own.0) (map vote_of items) is_other

  pub kept_votes_are : All IsKeptVote (map vote_of items)
  kept_votes_are = all_by IsKeptVote (map vote_of items) (λ vote inside.
      let held = is_held vote inside in
      let below = sound.for_members vote.round vote.author vote.header held in
      let size = node_is.charter.size.1 in
      record {
        author = omega (arith, below, size);
        round = sound.rounds vote.round vote.author vote.header held;
        header = sound.digests vote.round vote.author vote.header held;
      })
