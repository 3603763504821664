-- What tables are taken apart to is what is kept of each sound state that they are at.
use Rattle.std.proofs.Common.{◌≡◌, ℕ, Bool, true, false, List, [], ◌∷◌, refl, ap, sym, ◌∙◌, subst}
use Rattle.std.specs.Prelude.{T, ◌&&◌, All, option_map}
use Rattle.std.specs.FinMap.{get, get-entries, get-from_entries, entries, entries_sorted, from_entries, is_sorted, find}
use Rattle.std.specs.FinMap.Entries.{below_all}
use Rattle.std.specs.List.{AllByRecursion}
use Rattle.std.specs.List.Sorted.{IsStrictlySortedBy}
use Rattle.std.specs.Map.{keys_of, values_of}
use Rattle.std.specs.Ordering.{is_lt}
use Rattle.std.specs.declared.cmp.Ordering.{Ordering}
use Rattle.std.specs.declared.cmp.Ordering.TheVariants.{Less, Equal, Greater}
use Rattle.committee.specs.Charter.{Charter}
use Rattle.batchstore.specs.Kept.{IsUnderItsDigest}
use Rattle.batchstore.specs.Stock.{BatchStoreView}
use Rattle.batchstore.specs.declared.held.Held.{Held}
use Rattle.dag.specs.Graph.{slots_in}
use Rattle.spec_machine.specs.Machine.{last_leader}
use Rattle.spec_machine.specs.Sound.{IsSound}
use Rattle.spec_model.specs.Nodes.{Node, IsNode}
use Rattle.spec_model.specs.Ordering.{Ledger}
use Rattle.spec_model.specs.Slots.{Slots}
use Rattle.spec_model.specs.States.{State, ledger_in as ledger_of_state}
use Rattle.spec_model.specs.Words.{Digest}
use Rattle.tusk.specs.Chain.{ledger_in, slot_of}
use Rattle.votebook.specs.Slot.{slot_cmp, slot_of as vote_slot}
use Rattle.votebook.specs.Votes.{Votes}
use Rattle.votebook.specs.declared.slot.Slot.{Slot}
use Rattle.votebook.proofs.Lookups.{slots_total}
use Rattle.sequencer.specs.Restored.{AreListed, HoldsListed}
use Rattle.sigface.specs.declared.seed.TableSeed.{TableSeed}
use Rattle.admission.specs.Batches.{HasBatches}
use Rattle.admission.specs.Headers.{AssembliesView}
use Rattle.admission.specs.Headers as headers
use Rattle.admission.specs.Kept.{AreVotedBy, IsKeptOf, table_of}
use Rattle.admission.specs.Standing.{AreAt}
use Rattle.admission.specs.Votes.{HasVotes}
use Rattle.admission.specs.declared.kept.Kept.{Kept}
use Rattle.admission.specs.declared.tables.Tables.{Tables}

-- ---- votes

parts-of-and : (a b : Bool) → T (a && b) → T a × T b
parts-of-and true b p = (tt, p)
parts-of-and false b p = absurd p

is_less : (o : Ordering) → T (is_lt o) → o ≡ Less
is_less Less p = refl
is_less Equal p = absurd p
is_less Greater p = absurd p

above : (slot : Slot) (es : List (Slot × Digest)) → T (below_all slot_cmp slot es) → AllByRecursion (λ other. slot_cmp slot other ≡ Less) (keys_of es)
above slot [] p = tt
above slot (e ∷ es) p = let both = parts-of-and (is_lt (slot_cmp slot e.0)) (below_all slot_cmp slot es) p in (is_less (slot_cmp slot e.0) both.0, above slot es both.1)

rising : (es : List (Slot × Digest)) → T (is_sorted slot_cmp es) → IsStrictlySortedBy slot_cmp (keys_of es)
unfolding IsStrictlySortedBy
rising [] p = tt
rising (e ∷ es) p = let both = parts-of-and (below_all slot_cmp e.0 es) (is_sorted slot_cmp es) p in (above e.0 es both.0, rising es both.1)

same_votes : (book : Votes) (list : List (Slot × Digest)) → list ≡ entries book → (slot : Slot) → get (from_entries {R = slot_cmp} list) slot ≡ get book slot
same_votes book list is slot = get-from_entries slots_total list slot ∙ ap (find slot_cmp slot) is ∙ sym (get-entries book slot)

votes_of : (node : Node) (state : State) (book : Votes) (list : List (Slot × Digest)) → list ≡ entries book → HasVotes node state book → HasVotes node state (from_entries list)
votes_of node state book list is alike = record {
  others = λ author round apart. same_votes book list is (vote_slot author round) ∙ alike.others author round apart;
  own = λ author round mine. same_votes book list is (vote_slot author round) ∙ alike.own author round mine;
}

-- ---- all of them

-- what is kept was read from tables
pub record AreRead (tables : Tables) (kept : Kept) : Type 0 where
  pub digested : All IsUnderItsDigest kept.batches.items
  pub held : values_of kept.batches.items ≡ tables.batches.held
  pub votes : kept.votes.items ≡ entries tables.votes
  pub voted : AreVotedBy tables.headers.charter tables.headers.own kept.headers.items
  pub table : table_of tables.headers.charter tables.headers.own kept.headers.items ≡ tables.headers
  pub floor : kept.floor ≡ tables.sequencer.graph.floor
  pub last : kept.last ≡ option_map slot_of (last_leader (ledger_in tables.sequencer.graph kept.coins))
  pub listed : AreListed kept.certificates.items
  pub slots : HoldsListed (slots_in tables.sequencer.graph) kept.certificates.items
  pub coins : kept.coins ≡ tables.sequencer.coins
  pub order : kept.order.items ≡ tables.sequencer.order

-- a store has a state's batches with whatever seed its table hashes
with_seed : (node : Node) (state : State) (stock : BatchStoreView) → HasBatches node state stock → (seed : TableSeed) → HasBatches node state (record stock { seed = seed })
with_seed node state stock has seed = record { charter = has.charter; own = has.own; batches = has.batches; acked = has.acked; named = has.named }

pub kept_of : (node : Node) (state : State) (tables : Tables) (kept : Kept) → IsNode node → IsSound node state → AreAt node state tables → AreRead tables kept → IsKeptOf node state kept
kept_of node state tables kept node_is sound at read =
    let stock : Charter → ℕ → List Held → BatchStoreView = λ c o l. record { charter = c; own = o; seed = tables.batches.seed; held = l } in
    let batches : stock node.charter node.own.0 (values_of kept.batches.items) ≡ tables.batches =
    ap (λ c. stock c node.own.0 (values_of kept.batches.items)) (sym at.batches.charter)
    ∙ ap (λ o. stock tables.batches.charter o (values_of kept.batches.items)) (sym at.batches.own)
    ∙ ap (stock tables.batches.charter tables.batches.own) read.held in
    let table : table_of node.charter node.own.0 kept.headers.items ≡ tables.headers =
    ap (λ c. table_of c node.own.0 kept.headers.items) (sym at.headers.charter)
    ∙ ap (λ o. table_of tables.headers.charter o kept.headers.items) (sym at.headers.own) ∙ read.table in
    let sequence = at.sequence in
    let coins = read.coins ∙ sequence.coins in
    let ledger : ledger_in tables.sequencer.graph kept.coins ≡ ledger_of_state node state =
    ap (λ (c : Charter). let l : Ledger = record { charter = c; slots = slots_in tables.sequencer.graph; coins = kept.coins } in l) sequence.charter
    ∙ ap (λ (s : Slots). let l : Ledger = record { charter = node.charter; slots = s; coins = kept.coins } in l) sequence.slots
    ∙ ap (λ (v : List ℕ). let l : Ledger = record { charter = node.charter; slots = state.slots; coins = v } in l) coins in
    record {
      node_is = node_is;
      sound = sound;
      digested = read.digested;
      batches = with_seed node state (stock node.charter node.own.0 (values_of kept.batches.items)) (subst (HasBatches node state) (sym batches) at.batches);
      votes_rise = subst (λ l. IsStrictlySortedBy slot_cmp (keys_of l)) (sym read.votes) (rising (entries tables.votes) (entries_sorted tables.votes));
      votes = votes_of node state tables.votes kept.votes.items read.votes at.votes;
      voted = subst (λ c. AreVotedBy c node.own.0 kept.headers.items) at.headers.charter (subst (λ o. AreVotedBy tables.headers.charter o kept.headers.items) at.headers.own read.voted);
      headers = subst (headers.IsAt node state) (sym table) at.headers;
      parts = record {
        node_is = node_is;
        sound = sound;
        charter = refl;
        floor = read.floor ∙ sequence.floor;
        last = read.last ∙ ap (λ l. option_map slot_of (last_leader l)) ledger;
        listed = read.listed;
        held = subst (λ s. HoldsListed s kept.certificates.items) sequence.slots read.slots;
        coins = coins;
        order = read.order ∙ sequence.order;
      };
    }
