-- Areas of which one was rewritten to a checkpoint of a state are a journal at it.
use Rattle.std.proofs.Common.{◌≡◌, inl, inr, ℕ, ◌+◌, ◌<◌, Bool, cond, List, [], ◌∷◌, ◌++◌, length, Result, refl, sym, ap, ◌∙◌, arith, append_assoc, append-nil}
use Rattle.std.specs.Prelude.{All, flat_map}
use Rattle.std.proofs.lemmas.Bool.{cases_Bool}
use Rattle.std.proofs.lemmas.List.{map-append}
use Rattle.std.proofs.lemmas.List.Elements.{All-nil, All-cons, All-append}
use Rattle.book.specs.Book.{IsCheckpoint}
use Rattle.journal.specs.Areas.{Areas, base_of, head_record, stands_in}
use Rattle.journal.specs.Format.{kept_at, kept, all_kept, sized_body}
use Rattle.journal.specs.Pairs.{stands_as}
use Rattle.journal.specs.Snapshot.{has_room, packed, packed_after, checkpoint_groups}
use Rattle.journal.specs.declared.record.Record.{Record}
use Rattle.journal.specs.declared.side.Side.{Side}
use Rattle.journal.specs.declared.version.Version.TheVariants.{Second}
use Rattle.spec_checkpoint.specs.Records.{state_records}
use Rattle.spec_machine.specs.Sound.{IsSound}
use Rattle.spec_machine.proofs.AfterAll.{after_none, legal_none}
use Rattle.spec_model.specs.Nodes.{Node, IsNode}
use Rattle.spec_model.specs.States.{State}
use Rattle.spec_world.specs.World.{bytes_of, IsPair, IsJournal, own_configuration, as_checkpoint, Holds}
use Rattle.spec_world.proofs.Recovering.{bytes_of-kept}

-- the records of groups in turn
abbrev in_groups : List (List (List ℕ)) → List (List ℕ)
in_groups groups = flat_map (λ group. group) groups

packed_on : (group rest : List (List ℕ)) → in_groups (packed_after group rest) ≡ group ++ rest
unfolding packed_after
packed_on group [] = refl
packed_on group (next ∷ rest) = elim (cases_Bool (has_room group next)) [
  | inl room ↦ ap (λ (b : Bool). in_groups (cond b (packed_after (group ++ next ∷ []) rest) (group ∷ packed_after (next ∷ []) rest))) room
      ∙ packed_on (group ++ next ∷ []) rest ∙ append_assoc group (next ∷ []) rest
  | inr none ↦ ap (λ (b : Bool). in_groups (cond b (packed_after (group ++ next ∷ []) rest) (group ∷ packed_after (next ∷ []) rest))) none
      ∙ ap (λ (l : List (List ℕ)). group ++ l) (packed_on (next ∷ []) rest)
]

packed_all : (records : List (List ℕ)) → in_groups (packed records) ≡ records
unfolding packed
packed_all [] = refl
packed_all (first ∷ rest) = packed_on (first ∷ []) rest

bytes_in : (place : ℕ) (groups : List (List (List ℕ))) → bytes_of (all_kept place groups) ≡ in_groups groups
bytes_in place [] = refl
bytes_in place (group ∷ groups) =
    map-append (λ (r : Record). r.bytes) (kept place group) (all_kept (place + 1 + length (sized_body group)) groups)
    ∙ (λ i. bytes_of-kept place group i ++ bytes_in (place + 1 + length (sized_body group)) groups i)

-- a gate after this place
abbrev IsAfter : ℕ → Record → Type 0
IsAfter place one = place < one.gate

kept_after : (place gate : ℕ) (group : List (List ℕ)) → place < gate → All (IsAfter place) (kept gate group)
kept_after place gate [] less = All-nil (IsAfter place)
kept_after place gate (bytes ∷ group) less = All-cons (IsAfter place) (kept_at gate bytes) (kept gate group) less (kept_after place gate group less)

all_after : (place gate : ℕ) (groups : List (List (List ℕ))) → place < gate → All (IsAfter place) (all_kept gate groups)
all_after place gate [] less = All-nil (IsAfter place)
all_after place gate (group ∷ groups) less =
    All-append (IsAfter place) (kept gate group) (all_kept (gate + 1 + length (sized_body group)) groups) (kept_after place gate group less)
    (all_after place (gate + 1 + length (sized_body group)) groups (omega (arith, less)))

-- what was written of a checkpoint is a journal without events
journal_of : (side : Side) (generation : ℕ) (configuration : List ℕ) (rows : List (List ℕ)) (read : Result (List Record) ℕ) → read ≡ stands_as side generation (configuration ∷ rows)
    → IsJournal read (configuration ∷ head_record generation ∷ rows) 2 []
journal_of side generation configuration rows read is =
    let base = base_of side in
    let first : List (List ℕ) = configuration ∷ head_record generation ∷ [] in
    let gate = base + 1 + length (sized_body first) in
    record {
      records = all_kept base (checkpoint_groups generation (configuration ∷ rows));
      stands_for = is;
      are = (λ i. configuration ∷ head_record generation ∷ (bytes_in gate (packed rows) ∙ packed_all rows ∙ sym (append-nil rows)) i);
      first_gate = base;
      first = All-cons (λ (one : Record). one.gate ≡ base) (kept_at base configuration) (kept_at base (head_record generation) ∷ []) refl
          (All-cons (λ (one : Record). one.gate ≡ base) (kept_at base (head_record generation)) [] refl (All-nil (λ (one : Record). one.gate ≡ base)));
      others = all_after base gate (packed rows) (omega arith);
    }

pub holds_rewritten : (node : Node) (areas : Areas) (side : Side) (generation : ℕ) (state : State) (records : List (List ℕ)) → IsNode node → IsSound node state → IsPair areas
    → IsCheckpoint node state records → stands_in areas ≡ stands_as side generation records → Holds node areas state
holds_rewritten node areas side generation state records sound state_sound two is reads =
    record {
      front = own_configuration Second node ∷ head_record generation ∷ state_records is.kept;
      in_first = 2;
      base = state;
      begins = as_checkpoint Second generation is.kept two tt is.written refl refl (sym is.is);
      events = [];
      journal = journal_of side generation (own_configuration Second node) (state_records is.kept) (stands_in areas)
          (reads ∙ ap (stands_as side generation) is.are);
      legal = legal_none node state sound state_sound;
      leads = after_none node state;
    }
