-- What is kept of records that were read is what the state has that they are.
use Rattle.std.proofs.Common.{◌≡◌, ◌≢◌, ℕ, ◌+◌, ◌-◌, ◌*◌, Bool, true, false, List, [], ◌∷◌, map, refl, sym, ap, subst, ◌∙◌}
use Rattle.std.specs.Prelude.{◌==◌, ◌&&◌, not, All, option_map}
use Rattle.std.specs.Map.{values_of}
use Rattle.std.specs.Option.{option_map_or}
use Rattle.std.proofs.lemmas.Bool.{eq-eqb, true≢false}
use Rattle.std.proofs.lemmas.List.Elements.{All-nil, All-cons}
use Rattle.std.proofs.lemmas.Option.{none-some}
use Rattle.batchstore.specs.Kept.{IsUnderItsDigest}
use Rattle.sequencer.specs.Listing.{ledger_of as ledger_of_list}
use Rattle.sequencer.specs.Restored.{AreListed, Parts, ArePartsOf}
use Rattle.spec_machine.specs.Machine.{last_leader}
use Rattle.spec_model.specs.Nodes.{Node, IsNode}
use Rattle.spec_model.specs.Ordering.{top}
use Rattle.spec_model.specs.Words.{Author, Digest}
use Rattle.tusk.specs.Chain.{slot_of}
use Rattle.wire.specs.Rising.{rises}
use Rattle.admission.specs.Kept.{IsKeptOf, parts_of}
use Rattle.admission.specs.declared.kept.Kept.{Kept}
use Rattle.spec_checkpoint.specs.Data.{KeptVote, Checkpoint, IsCanonical}
use Rattle.spec_checkpoint.specs.Faults.{has_no_fault}
use Rattle.spec_checkpoint.specs.Laws.{NoFaultIsSound}
use Rattle.spec_checkpoint.specs.Meaning.{state_in}
use Rattle.checkpoint.specs.Judging.{AreHeldAs, HasOwnVote, NoneFails, is_vote_sound_at}
use Rattle.checkpoint.specs.Kept.{certificate_of, header_of, vote_of}
use Rattle.checkpoint.proofs.FromBatches.{has_batches}
use Rattle.checkpoint.proofs.FromCertificates.{are_parts}
use Rattle.checkpoint.proofs.FromHeaders.{are_at, are_voted}
use Rattle.checkpoint.proofs.FromVotes.{has_votes, vote_before, votes_sorted}

-- ---- votes are of others

not_own : (a b c : Bool) → (a && (b && not c)) ≡ true → c ≡ false
not_own true true false is = refl
not_own true true true is = absurd cc
not_own true false c is = absurd cc
not_own false b c is = absurd cc

first_none : (k : ℕ) (sound : Bool) (tests : List Bool) → NoneFails k (sound ∷ tests) → (sound ≡ true) × NoneFails (k + 1) tests
first_none k true tests none = (refl, none)
first_none k false tests none = absurd (none-some k (sym none))

pub votes_of_others : (node : Node) (floor k : ℕ) (votes : List KeptVote) → NoneFails k (map (is_vote_sound_at node floor) votes) → All (λ (vote : KeptVote). vote.author ≢ node.own.0) votes
votes_of_others node floor k [] none = All-nil (λ (vote : KeptVote). vote.author ≢ node.own.0)
votes_of_others node floor k (vote ∷ votes) none =
    let parts = first_none k (is_vote_sound_at node floor vote) (map (is_vote_sound_at node floor) votes) none in
    let off = not_own _ _ (vote.author == node.own.0) parts.0 in
    All-cons (λ (v : KeptVote). v.author ≢ node.own.0) vote votes (λ same. true≢false (sym (eq-eqb vote.author node.own.0 same) ∙ off)) (votes_of_others node floor (k + 1) votes parts.1)

-- ---- all of it

-- what was made of what was read: the batches and the own headers as they are held, and the certificates with the floor and the last leader
pub record IsMadeOf (node : Node) (checkpoint : Checkpoint) (kept : Kept) : Type 0 where
  pub digested : All IsUnderItsDigest kept.batches.items
  pub held : AreHeldAs checkpoint.batches (values_of kept.batches.items)
  pub votes : checkpoint.votes ≡ map vote_of kept.votes.items
  pub others : All (λ (vote : KeptVote). vote.author ≢ node.own.0) checkpoint.votes
  pub voted : All (HasOwnVote node) kept.headers.items
  pub headers : map header_of kept.headers.items ≡ checkpoint.headers
  pub listed : AreListed kept.certificates.items
  pub certificates : map certificate_of kept.certificates.items ≡ checkpoint.certificates
  pub floor : kept.floor ≡ option_map_or (λ (slot : ℕ × Author). slot.0 - node.charter.depth) kept.last 0
  pub last : kept.last ≡ option_map slot_of (last_leader (ledger_of_list node.charter kept.certificates.items checkpoint.coins))
  pub round : option_map (λ (slot : ℕ × Author). slot.0) kept.last ≡ option_map (λ w. 2 * w - 1) (top (ledger_of_list node.charter kept.certificates.items checkpoint.coins))
  pub coins : checkpoint.coins ≡ kept.coins
  pub order : checkpoint.order ≡ kept.order.items

pub kept_of_state : NoFaultIsSound → (node : Node) (checkpoint : Checkpoint) (kept : Kept) → IsNode node → IsCanonical node checkpoint → has_no_fault node checkpoint ≡ true → IsMadeOf
    node checkpoint kept
    → IsKeptOf node (state_in node checkpoint) kept
kept_of_state law node checkpoint kept node_is canonical none made =
    let sound = law node checkpoint node_is canonical none in
    record {
      node_is = node_is;
      sound = sound;
      digested = made.digested;
      batches = has_batches node checkpoint (values_of kept.batches.items) made.held;
      votes_rise = votes_sorted kept.votes.items (sym (ap (rises vote_before) made.votes) ∙ canonical.votes_rise);
      votes = has_votes node checkpoint kept.votes.items made.votes made.others;
      voted = are_voted node checkpoint kept.headers.items node_is sound.votes made.headers canonical.headers canonical.headers_rise made.voted;
      headers = are_at node checkpoint kept.headers.items node_is sound.votes made.headers canonical.headers canonical.headers_rise made.voted;
      parts = subst (ArePartsOf node (state_in node checkpoint)) (parts_same made.coins made.order)
          (are_parts node checkpoint kept.certificates.items made.certificates kept.floor kept.last node_is sound made.listed made.floor made.last made.round);
    }
  where
    with_these : List ℕ → List Digest → Parts
    with_these coins order = record { charter = node.charter; floor = kept.floor; last = kept.last; held = kept.certificates.items; coins = coins; order = order }

    parts_same : checkpoint.coins ≡ kept.coins → checkpoint.order ≡ kept.order.items → with_these checkpoint.coins checkpoint.order ≡ parts_of node.charter kept
    parts_same coins order = ap (λ (l : List ℕ). with_these l checkpoint.order) coins ∙ ap (λ (l : List Digest). with_these kept.coins l) order
