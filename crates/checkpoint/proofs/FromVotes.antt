-- The votes that were read are those of the state for other members.
use Rattle.std.proofs.Common.{◌≡◌, ◌≢◌, ℕ, Bool, true, false, List, [], ◌∷◌, map, find, Option, Some, None, refl, sym, ap, ◌∙◌, arith}
use Rattle.std.specs.Prelude.{◌==◌, ◌&&◌, All, AllPairs, option_map}
use Rattle.std.specs.FinMap.{get, get-from_entries, from_entries}
use Rattle.std.specs.List.{AllByRecursion}
use Rattle.std.specs.List.Sorted.{IsStrictlySortedBy}
use Rattle.std.specs.Map.{keys_of}
use Rattle.std.specs.declared.cmp.Ordering.TheVariants.{Less}
use Rattle.std.proofs.lemmas.Bool.{and_parts, eqb-true, ne_eqb}
use Rattle.std.proofs.lemmas.List.Elements.{All-head, All-tail, All-contains}
use Rattle.admission.specs.Votes.{HasVotes}
use Rattle.votebook.proofs.Lookups.{slots_total}
use Rattle.votebook.specs.Slot.{slot_cmp, slot_of}
use Rattle.votebook.specs.declared.slot.Slot.{Slot}
use Rattle.spec_laws.proofs.Lists.{found_passes}
use Rattle.spec_model.specs.Nodes.{Node}
use Rattle.spec_model.specs.Words.{Author, Digest}
use Rattle.wire.specs.Rising.{rises}
use Rattle.spec_checkpoint.specs.Data.{KeptVote, Checkpoint, place_before}
use Rattle.spec_checkpoint.specs.Meaning.{state_in}
use Rattle.checkpoint.specs.Kept.{vote_of}
use Rattle.checkpoint.proofs.KeptVotes.{vote_found}
use Rattle.checkpoint.proofs.Rising.{pairs_first, pairs_rest, places_through, rise_pairs, Before}

abbrev pub vote_before : KeptVote → KeptVote → Bool
vote_before one other = place_before one.round one.author other.round other.author

-- ---- they rise

place_less : (a b : Slot) → place_before a.round a.author b.round b.author ≡ true → slot_cmp a b ≡ Less
place_less a b is = grind (arith, is)

above : (slot : Slot) (vote : KeptVote) (items : List (Slot × Digest)) → vote.round ≡ slot.round → vote.author ≡ slot.author → All (Before vote_before vote) (map vote_of items)
    → AllByRecursion (λ other. slot_cmp slot other ≡ Less) (keys_of items)
above slot vote [] round author all = tt
above slot vote (e ∷ items) round author all =
    let here = All-head (Before vote_before vote) (vote_of e) (map vote_of items) all in (
      place_less slot e.0 (ap (λ r. place_before r slot.author e.0.round e.0.author) (sym round) ∙ ap (λ a. place_before vote.round a e.0.round e.0.author) (sym author) ∙ here),
      above slot vote items round author (All-tail (Before vote_before vote) (vote_of e) (map vote_of items) all),
    )

sorted : (items : List (Slot × Digest)) → AllPairs (Before vote_before) (map vote_of items) → IsStrictlySortedBy slot_cmp (keys_of items)
unfolding IsStrictlySortedBy
sorted [] pairs = tt
sorted (e ∷ items) pairs = (
  above e.0 (vote_of e) items refl refl (pairs_first (Before vote_before) (vote_of e) (map vote_of items) pairs),
  sorted items (pairs_rest (Before vote_before) (vote_of e)
      (map vote_of items) pairs),
)

pub votes_sorted : (items : List (Slot × Digest)) → rises vote_before (map vote_of items) ≡ true → IsStrictlySortedBy slot_cmp (keys_of items)
votes_sorted items rise = sorted items (rise_pairs vote_before (λ x y z one two. places_through x.round x.author y.round y.author z.round z.author one two) (map vote_of items) rise)

-- ---- they are found by their slots

abbrev at : ℕ → ℕ → KeptVote → Bool
at round author vote = (vote.round == round) && (vote.author == author)

there : (items : List (Slot × Digest)) (author : Author) (round : ℕ)
    → get (from_entries {R = slot_cmp} items) (slot_of author round) ≡ option_map (λ (vote : KeptVote). vote.header) (find (at round author.0) (map vote_of items))
there items author round = get-from_entries slots_total items (slot_of author round) ∙ sym (vote_found items (slot_of author round))

none_own : (own round : ℕ) (votes : List KeptVote) → All (λ (vote : KeptVote). vote.author ≢ own) votes → find (at round own) votes ≡ None
none_own own round votes others = by (find (at round own) votes) refl
  where
    by : (o : Option KeptVote) → find (at round own) votes ≡ o → find (at round own) votes ≡ None
    by None is = is
    by (Some vote) is =
        let found = found_passes (at round own) votes vote is in
        let mine = eqb-true vote.author own (and_parts (vote.round == round) (vote.author == own) found.0).1 in
        absurd (All-contains (λ (v : KeptVote). v.author ≢ own) votes vote others found.1 mine)

pub has_votes : (node : Node) (checkpoint : Checkpoint) (items : List (Slot × Digest)) → checkpoint.votes ≡ map vote_of items → All (λ (vote : KeptVote). vote.author ≢ node.own.0) checkpoint.votes
    → HasVotes node (state_in node checkpoint) (from_entries items)
has_votes node checkpoint items are others = record {
  others = λ author round apart.
      let off : (author.0 == node.own.0) ≡ false = ne_eqb author.0 node.own.0 apart in
      rw off (there items author round ∙ ap (λ l. option_map (λ (vote : KeptVote). vote.header) (find (at round author.0) l)) (sym are));
  own = λ author round mine.
      there items author round ∙ ap (λ l. option_map (λ (vote : KeptVote). vote.header) (find (at round author.0) l)) (sym are)
      ∙ ap (λ n. option_map (λ (vote : KeptVote). vote.header) (find (at round n) checkpoint.votes)) mine
      ∙ ap (option_map (λ (vote : KeptVote). vote.header)) (none_own node.own.0 round checkpoint.votes others);
}
