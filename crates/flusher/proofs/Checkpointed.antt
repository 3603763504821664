-- What rewriting a journal to a checkpoint of all that was accepted leaves of it.
use Rattle.std.proofs.Common.{◌≡◌, Bool, true, false, cond, ℕ, ◌+◌, ◌<◌, inl, inr, List, [], ◌∷◌, ◌++◌, length, drop, sym, ap, ◌∙◌, subst, arith, append_assoc, refl}
use Rattle.std.specs.Prelude.{All, IsSome}
use Rattle.std.specs.List.{flat_map}
use Rattle.std.proofs.lemmas.List.{append-nil, map-append}
use Rattle.std.proofs.lemmas.List.Elements.{All-nil, All-cons, All-append}
use Rattle.diskmodel.specs.Disk.{Device}
use Rattle.book.specs.Book.{IsCheckpoint}
use Rattle.journal.specs.Areas.{Areas, base_of, head_record, other_side, stands_in}
use Rattle.journal.specs.Format.{kept_at, kept, all_kept, sized_body}
use Rattle.journal.specs.Journal.{spare_of}
use Rattle.journal.specs.Pairs.{areas_of, areas_with, side_in, generation_in, stands_as, StandsAsOrAfter}
use Rattle.journal.specs.Snapshot.{has_room, packed_after, packed}
use Rattle.journal.specs.declared.journal.Journal.{Journal}
use Rattle.journal.specs.declared.record.Record.{Record}
use Rattle.journal.specs.declared.side.Side.{Side}
use Rattle.journal.specs.declared.version.Version.TheVariants.{Second}
use Rattle.node_seats.specs.Views.{events}
use Rattle.node_seats.specs.declared.view.Marked.{Marked}
use Rattle.node_shared.specs.Home.{NodeView, IsCheckpointAfter}
use Rattle.sigface.specs.Scheme.{Scheme}
use Rattle.spec_checkpoint.specs.Records.{state_records}
use Rattle.spec_machine.specs.After.{after_all, IsLegalAfter}
use Rattle.spec_machine.proofs.AfterAll.{after_none, legal_none, order_grows_after}
use Rattle.spec_machine.specs.Sound.{IsSound}
use Rattle.spec_model.specs.Nodes.{Node, IsNode}
use Rattle.spec_model.specs.States.{State}
use Rattle.spec_world.specs.World.{bytes_of, IsPair, IsJournal, Holds, own_configuration, as_checkpoint}
use Rattle.validator.specs.Setting.{node_of}
use Rattle.wire.specs.Lists.{Begins}
use Rattle.flusher.specs.Rounds.{HoldsAfter, KeepsEarlier, HoldsEither}
use Rattle.flusher.proofs.Adding.{all_taken, leads_on, one_after, still_settled}
use Rattle.flusher.proofs.Reading.{pair_with}

-- ---- the records of groups

-- those of groups, one after the other
abbrev all_records : List (List (List ℕ)) → List (List ℕ)
all_records groups = flat_map (λ group. group) groups

kept_bytes : (gate : ℕ) (group : List (List ℕ)) → bytes_of (kept gate group) ≡ group
kept_bytes gate [] = refl
kept_bytes gate (bytes ∷ group) = ap (λ (l : List (List ℕ)). bytes ∷ l) (kept_bytes gate group)

all_bytes : (gate : ℕ) (groups : List (List (List ℕ))) → bytes_of (all_kept gate groups) ≡ all_records groups
all_bytes gate [] = refl
all_bytes gate (group ∷ groups) =
    let next = gate + 1 + length (sized_body group) in
    map-append (λ (one : Record). one.bytes) (kept gate group) (all_kept next groups) ∙ (λ i. kept_bytes gate group i ++ all_bytes next groups i)

-- what holds of both that a test may choose
by_test : {A : Type 0} (P : A → Type 0) (b : Bool) (x y : A) → P x → P y → P (cond b x y)
by_test P true x y first second = first
by_test P false x y first second = second

packed_records_after : (group rest : List (List ℕ)) → all_records (packed_after group rest) ≡ group ++ rest
unfolding packed_after
packed_records_after group [] = refl
packed_records_after group (next ∷ rest) =
    by_test (λ (groups : List (List (List ℕ))). all_records groups ≡ group ++ next ∷ rest) (has_room group next) (packed_after (group ++ next ∷ []) rest) (group ∷ packed_after (next ∷ []) rest)
    (packed_records_after (group ++ next ∷ []) rest ∙ append_assoc group (next ∷ []) rest)
    (ap (λ (l : List (List ℕ)). group ++ l) (packed_records_after (next ∷ []) rest))

packed_records : (records : List (List ℕ)) → all_records (packed records) ≡ records
unfolding packed
packed_records [] = refl
packed_records (first ∷ rest) = packed_records_after (first ∷ []) rest

-- ---- the records of a checkpoint

abbrev IsAfter : ℕ → Record → Type 0
IsAfter place one = place < one.gate

kept_after : (gate place : ℕ) (group : List (List ℕ)) → place < gate → All (IsAfter place) (kept gate group)
kept_after gate place [] less = All-nil (IsAfter place)
kept_after gate place (bytes ∷ group) less = All-cons (IsAfter place) (kept_at gate bytes) (kept gate group) less (kept_after gate place group less)

all_after : (gate place : ℕ) (groups : List (List (List ℕ))) → place < gate → All (IsAfter place) (all_kept gate groups)
all_after gate place [] less = All-nil (IsAfter place)
all_after gate place (group ∷ groups) less =
    let next = gate + 1 + length (sized_body group) in
    All-append (IsAfter place) (kept gate group) (all_kept next groups) (kept_after gate place group less) (all_after next place groups (omega (arith, less)))

-- after a configuration and a head come the records of the state
checkpoint_journal : (side : Side) (generation : ℕ) (configuration : List ℕ) (state : List (List ℕ))
    → IsJournal (stands_as side generation (configuration ∷ state)) (configuration ∷ head_record generation ∷ state) 2 []
checkpoint_journal side generation configuration state =
    let first = configuration ∷ head_record generation ∷ [] in
    let gate = base_of side in
    record {
      records = all_kept gate (first ∷ packed state);
      stands_for = refl;
      are = all_bytes gate (first ∷ packed state) ∙ ap (λ (l : List (List ℕ)). configuration ∷ head_record generation ∷ l) (packed_records state)
          ∙ sym (append-nil (configuration ∷ head_record generation ∷ state));
      first_gate = gate;
      first = All-cons (λ (one : Record). one.gate ≡ gate) (kept_at gate configuration) (kept_at gate (head_record generation) ∷ []) refl
          (All-cons (λ (one : Record). one.gate ≡ gate) (kept_at gate (head_record generation)) [] refl (All-nil (λ (one : Record). one.gate ≡ gate)));
      others = all_after (gate + 1 + length (sized_body first)) gate (packed state) (omega arith);
    }

-- so two areas that are read as it are a journal at the state that it is one of
checkpoint_holds : (node : Node) (areas : Areas) (side : Side) (generation : ℕ) (state_held : State) (records : List (List ℕ)) → IsNode node → IsSound node state_held → IsPair areas
    → IsCheckpoint node state_held records → stands_in areas ≡ stands_as side generation records → Holds node areas state_held
checkpoint_holds node areas side generation state_held records node_is sound two is reads =
    let front = own_configuration Second node ∷ head_record generation ∷ state_records is.kept in
    let there : IsJournal (stands_as side generation (own_configuration Second node ∷ state_records is.kept)) front 2 [] =
    checkpoint_journal side generation (own_configuration Second node) (state_records is.kept) in
    record {
      front = front;
      in_first = 2;
      base = state_held;
      begins = as_checkpoint Second generation is.kept two tt is.written refl refl (sym is.is);
      events = [];
      journal = subst (λ (r : _). IsJournal r front 2 []) (sym (reads ∙ ap (stands_as side generation) is.are)) there;
      legal = legal_none node state_held node_is sound;
      leads = after_none node state_held;
    }

-- ---- what is left

module _ {S : Type 0} (scheme : Scheme S) (node : NodeView S) (settled taken : List Marked) (areas : Areas) (begins : Begins settled taken)
    (held : HoldsAfter scheme node settled areas) (legal : IsLegalAfter (node_of scheme node.setting) held.base (events taken))
    (records : List (List ℕ)) (checkpoint : IsCheckpointAfter scheme node taken records) where
  abbrev member : Node
  member = node_of scheme node.setting

  abbrev taken_after : State → State
  taken_after base = after_all member base (events taken)

  -- each state after which the areas had what is settled leads to the one that the checkpoint has
  one_taken : (base : State) → Holds member areas (after_all member base (events settled)) → taken_after held.base ≡ taken_after base
  one_taken base there =
      leads_on scheme node settled taken areas begins held legal held.base
      ∙ ap (λ (s : State). after_all member s (drop (length settled) (events taken))) (one_after scheme node settled taken areas begins held legal base there)
      ∙ sym (leads_on scheme node settled taken areas begins held legal base)

  pub keeps_all : (left : Areas) (side : Side) (generation : ℕ) → IsPair left → stands_in left ≡ stands_as side generation records → KeepsEarlier scheme node settled taken areas left
  keeps_all left side generation two reads base there =
      subst (Holds member left) (one_taken base there)
      (checkpoint_holds member left side generation (taken_after held.base) records legal.node_is (order_grows_after member held.base (events taken) legal).sound two
      (checkpoint held.base held.is_base) reads)

-- what is left of a journal that is rewritten
module _ {S D : Type 0} (scheme : Scheme S) (device : Device D) (node : NodeView S) (settled taken : List Marked) (journal : Journal D) (begins : Begins settled taken)
    (some : IsSome (spare_of journal)) (held : HoldsAfter scheme node settled (areas_of device journal)) (legal : IsLegalAfter (node_of scheme node.setting) held.base (events taken))
    (records : List (List ℕ)) (checkpoint : IsCheckpointAfter scheme node taken records) where
  pub holds_rewritten : (left : List ℕ) → StandsAsOrAfter device journal records left → HoldsEither scheme node settled taken (areas_of device journal) (areas_with device journal left)
  holds_rewritten left (inl same) =
      still_settled scheme node settled taken (areas_of device journal) begins held legal (areas_with device journal left) (λ two. pair_with device journal left some) same
  holds_rewritten left (inr after) =
      all_taken scheme node settled taken (areas_of device journal) begins held legal (areas_with device journal left)
      (keeps_all scheme node settled taken (areas_of device journal) begins held legal records checkpoint (areas_with device journal left)
      (other_side (side_in journal)) (generation_in journal + 1) (pair_with device journal left some) after)
