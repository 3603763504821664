-- What a stop may leave at each stage of an append.
use Rattle.std.proofs.Common.{◌≡◌, ◌⊎◌, ℕ, ◌+◌, ◌-◌, ◌<◌, ◌≤◌, max, false, List, [], ◌∷◌, ◌++◌, length, take, drop, get_or, Some, inl, inr, ⊎_elim}
use Rattle.std.proofs.Common.{refl, sym, ap, ◌∙◌, subst, arith, length-append, length-take, length-drop, map}
use Rattle.std.proofs.lemmas.Bool.{or_from}
use Rattle.std.proofs.lemmas.List.{ext_get_or, get_or-take, get_or-drop, take-take, take_at, take-append-le}
use Rattle.std.proofs.lemmas.Option.{same_Some, none-some}
use Rattle.std.specs.Prelude.{All}
use Rattle.std.proofs.lemmas.List.Elements.{All-nil, All-head}
use Rattle.diskmodel.specs.declared.call.Call.{Call}
use Rattle.diskmodel.specs.declared.call.Call.TheVariants.{Wrote, Synced}
use Rattle.diskmodel.specs.declared.call.Span.{Span}
use Rattle.diskmodel.specs.Disk.{written, IsTorn}
use Rattle.diskmodel.specs.Outcomes.{State, AreBytes, CanLeave, holds, is_written, after, all_durable}
use Rattle.diskmodel.proofs.Calls.{durable_only, possible_durable, possible_write}
use Rattle.diskmodel.proofs.Places.{is_written-push, outside_before, outside_after}
use Rattle.diskmodel.proofs.Torn.{length-written}
use Rattle.journal.specs.Format.{FitsGroup, group_bytes, file_with, stands}
use Rattle.journal.specs.Journal.{EndsClosed, stands_with, IsBeforeOrAfter}
use Rattle.journal.specs.declared.layout.TheConstants.{OPEN}
use Rattle.journal.proofs.Stops.{torn_after, torn_gate, staged_before, written_after, Added, added}
use Rattle.spec_model.specs.Histories.{History}
use Rattle.spec_records.specs.Records.{record_of}
use Rattle.spec_world.proofs.Bytes.{one_more, joined, longer_bytes}
use Rattle.spec_world.specs.World.{Phase, not_begun, group_written, group_synced, gate_opened, first_of, call_in, call_for}
use Rattle.spec_world.specs.Steps.{next_phase, next_durable}

-- ---- one write on durable bytes

-- a place outside of the one write isn't written
unwritten : (at count place : ℕ) → (place < at) ⊎ (at + count ≤ place) → is_written (record { place = at; count = count } ∷ []) place ≡ false
unwritten at count place off =
    let span : Span = record { place = at; count = count } in
    is_written-push [] span place ∙ or_from false (holds span place) refl (⊎_elim (outside_before at count place) (outside_after at count place) off)

-- what a write on durable bytes may leave is torn
pub torn_on_durable : (file : List ℕ) (at : ℕ) (bytes found : List ℕ) → at ≤ length file → CanLeave (after (all_durable file) (Wrote at bytes)) found → IsTorn at (length bytes) file found
torn_on_durable file at bytes found within left =
    let size : length (written file at bytes) ≡ max (length file) (at + length bytes) = length-written file at bytes within in
    let no_shorter : length file ≤ length found = omega (arith, left.no_shorter, size) in
    let no_longer : length found ≤ max (length file) (at + length bytes) = omega (arith, left.no_longer, size) in
    let same : (place : ℕ) → place < length file → (place < at) ⊎ (at + length bytes ≤ place) → get_or found place 0 ≡ get_or file place 0 =
    λ place below off. left.stays place (omega (arith, below, size)) (unwritten at (length bytes) place off) in
    record {
      before = ext_get_or 0 (take at found) (take at file) (simp length-take (omega (arith, within, no_shorter)))
          (λ place below.
          let inside : place < at = omega (arith, below, length-take at found) in
          get_or-take at found place 0 inside ∙ same place (omega (arith, inside, within)) (inl inside) ∙ sym (get_or-take at file place 0 inside));
      after = ext_get_or 0 (drop (at + length bytes) found) (drop (at + length bytes) file) (simp length-drop (omega (arith, no_shorter, no_longer)))
          (λ place below.
          let inside : at + length bytes + place < length found = omega (arith, below, length-drop (at + length bytes) found) in
          get_or-drop (at + length bytes) found place 0 ∙ same (at + length bytes + place) (omega (arith, inside, no_longer)) (inr (omega arith))
          ∙ sym (get_or-drop (at + length bytes) file place 0));
      no_shorter = no_shorter;
      no_longer = no_longer;
    }

-- ---- how far a group is written

-- how far a group is written: as in a phase, or to its end
pub data Stage : Type 0 where
  none : Stage
  written_after_gate : Stage
  synced_after_gate : Stage
  opened : Stage
  whole : Stage

abbrev pub stage_of : Phase → Stage
stage_of not_begun = none
stage_of group_written = written_after_gate
stage_of group_synced = synced_after_gate
stage_of gate_opened = opened

-- and after the next call
abbrev pub stage_after : Phase → Stage
stage_after not_begun = written_after_gate
stage_after group_written = synced_after_gate
stage_after group_synced = opened
stage_after gate_opened = whole

-- what the calls come to at a stage, where this was the file when the append began
abbrev pub IsAt : Stage → State → List ℕ → List (List ℕ) → Type 0
IsAt none s file group = s ≡ all_durable file
IsAt written_after_gate s file group = s ≡ after (all_durable file) (Wrote (length file) (group_bytes group))
IsAt synced_after_gate s file group = s ≡ all_durable (file ++ group_bytes group)
IsAt opened s file group = s ≡ after (all_durable (file ++ group_bytes group)) (Wrote (length file - 1) (OPEN ∷ []))
IsAt whole s file group = s ≡ all_durable (file_with file group)

-- a group whose append has begun fits
abbrev pub Fits : Stage → List (List ℕ) → Type 0
Fits none group = Unit {0}
Fits _ group = FitsGroup group

-- all but the last byte of a file stays, and it doesn't get shorter
abbrev pub KeepsFront : List ℕ → List ℕ → Type 0
KeepsFront file found = (take (length file - 1) found ≡ take (length file - 1) file) × (length file ≤ length found)

module _ (file : List ℕ) (ends : EndsClosed file) (group : List (List ℕ)) where
  -- with the gate open the file has one group more
  module _ (fits : FitsGroup group) where
    opened_gate : Added file ends group fits 1 (written (file ++ group_bytes group) (length file - 1) (1 ∷ []))
    opened_gate = added file ends group fits (length file) 1 (file ++ group_bytes group) (written (file ++ group_bytes group) (length file - 1) (1 ∷ [])) (λ shut. omega arith) refl refl refl

    pub opened_is : written (file ++ group_bytes group) (length file - 1) (1 ∷ []) ≡ file_with file group
    opened_is = opened_gate.content

    pub longer_stands : stands (file_with file group) ≡ stands_with file group
    longer_stands = subst (λ (l : List ℕ). stands l ≡ stands_with file group) opened_is opened_gate.records

    pub longer_ends : EndsClosed (file_with file group)
    longer_ends = subst EndsClosed opened_is opened_gate.ends_closed

  -- what is left stands for the records of the file, or for these with the whole group
  pub leaves : (stage : Stage) (s : State) (found : List ℕ) → Fits stage group → IsAt stage s file group → CanLeave s found → IsBeforeOrAfter file group found
  leaves none s found fits is left = inl (ap stands (durable_only file found (subst (λ (t : State). CanLeave t found) is left)))
  leaves written_after_gate s found fits is left =
      inl (torn_after file ends (length (group_bytes group)) found
      (torn_on_durable file (length file) (group_bytes group) found (omega arith) (subst (λ (t : State). CanLeave t found) is left)))
  leaves synced_after_gate s found fits is left =
      subst (IsBeforeOrAfter file group) (sym (durable_only (file ++ group_bytes group) found (subst (λ (t : State). CanLeave t found) is left))) (staged_before file ends group fits)
  leaves opened s found fits is left =
      let within : length file - 1 ≤ length (file ++ group_bytes group) = omega (arith, length-append file (group_bytes group)) in
      torn_gate file ends group fits found
      (torn_on_durable (file ++ group_bytes group) (length file - 1) (1 ∷ []) found within (subst (λ (t : State). CanLeave t found) is left))
  leaves whole s found fits is left =
      inr (ap stands (durable_only (file_with file group) found (subst (λ (t : State). CanLeave t found) is left)) ∙ longer_stands fits)

  longer_keeps : (more : List ℕ) → KeepsFront file (file ++ more)
  longer_keeps more = (take-append-le (length file - 1) file more (omega arith), omega (arith, length-append file more))

  pub whole_keeps : KeepsFront file (file_with file group)
  whole_keeps =
      let front = take (length file - 1) file in
      let size : length front ≡ length file - 1 = omega (arith, length-take (length file - 1) file) in
      (take_at front (1 ∷ group_bytes group) (length file - 1) size, omega (arith, size, length-append front (1 ∷ group_bytes group)))

  pub keeps_front : (stage : Stage) (s : State) (found : List ℕ) → IsAt stage s file group → CanLeave s found → KeepsFront file found
  keeps_front none s found is left = subst (KeepsFront file) (sym (durable_only file found (subst (λ (t : State). CanLeave t found) is left))) (refl, omega arith)
  keeps_front written_after_gate s found is left =
      let torn = torn_on_durable file (length file) (group_bytes group) found (omega arith) (subst (λ (t : State). CanLeave t found) is left) in
      let shorter : (l : List ℕ) → take (length file - 1) (take (length file) l) ≡ take (length file - 1) l = λ l. take-take (length file - 1) (length file) l (omega arith) in
      (sym (shorter found) ∙ ap (take (length file - 1)) torn.before ∙ shorter file, torn.no_shorter)
  keeps_front synced_after_gate s found is left =
      subst (KeepsFront file) (sym (durable_only (file ++ group_bytes group) found (subst (λ (t : State). CanLeave t found) is left))) (longer_keeps (group_bytes group))
  keeps_front opened s found is left =
      let within : length file - 1 ≤ length (file ++ group_bytes group) = omega (arith, length-append file (group_bytes group)) in
      let torn = torn_on_durable (file ++ group_bytes group) (length file - 1) (1 ∷ []) found within (subst (λ (t : State). CanLeave t found) is left) in
      let staged = longer_keeps (group_bytes group) in
      (torn.before ∙ staged.0, omega (arith, torn.no_shorter, staged.1))
  keeps_front whole s found is left = subst (KeepsFront file) (sym (durable_only (file_with file group) found (subst (λ (t : State). CanLeave t found) is left))) whole_keeps

  -- what a read gives is what a stop may leave
  pub read_possible : (stage : Stage) (s : State) → AreBytes file → AreBytes (group_bytes group) → IsAt stage s file group → CanLeave s s.content
  read_possible none s are also is = subst (λ (t : State). CanLeave t t.content) (sym is) (possible_durable file are)
  read_possible written_after_gate s are also is =
      subst (λ (t : State). CanLeave t t.content) (sym is) (possible_write (all_durable file) (length file) (group_bytes group) (possible_durable file are) also (omega arith))
  read_possible synced_after_gate s are also is =
      subst (λ (t : State). CanLeave t t.content) (sym is) (possible_durable (file ++ group_bytes group) (joined file (group_bytes group) are also))
  read_possible opened s are also is =
      let staged = file ++ group_bytes group in
      let within : length file - 1 ≤ length staged = omega (arith, length-append file (group_bytes group)) in
      subst (λ (t : State). CanLeave t t.content) (sym is)
      (possible_write (all_durable staged) (length file - 1) (1 ∷ []) (possible_durable staged (joined file (group_bytes group) are also))
      (one_more 1 [] (omega arith) (All-nil (λ b. b < 256))) within)
  read_possible whole s are also is =
      subst (λ (t : State). CanLeave t t.content) (sym is) (possible_durable (file_with file group) (longer_bytes file group are also))

  -- the next call leads to the next stage
  pub called : (phase : Phase) (s : State) (call : Call) → FitsGroup group → IsAt (stage_of phase) s file group → call_in phase s.content group ≡ Some call
      → IsAt (stage_after phase) (after s call) file group
  called not_begun s call fits is due =
      ap (after s) (sym (same_Some _ call due)) ∙ ap (λ (t : State). after t (Wrote (length t.content) (group_bytes group))) is
  called group_written s call fits is due =
      ap (after s) (sym (same_Some _ call due)) ∙ ap (λ (t : State). after t Synced) is ∙ ap all_durable (written_after file ends (group_bytes group))
  called group_synced s call fits is due =
      let place : length (file ++ group_bytes group) - length (group_bytes group) - 1 ≡ length file - 1 = omega (arith, length-append file (group_bytes group)) in
      ap (after s) (sym (same_Some _ call due))
      ∙ ap (λ (t : State). after t (Wrote (length t.content - length (group_bytes group) - 1) (OPEN ∷ []))) is
      ∙ ap (λ (n : ℕ). after (all_durable (file ++ group_bytes group)) (Wrote n (OPEN ∷ []))) place
  called gate_opened s call fits is due =
      ap (after s) (sym (same_Some _ call due)) ∙ ap (λ (t : State). after t Synced) is ∙ ap all_durable (opened_is fits)

-- a group that fits does so at each stage
pub fits_in : (stage : Stage) (group : List (List ℕ)) → FitsGroup group → Fits stage group
fits_in none group fits = tt
fits_in written_after_gate group fits = fits
fits_in synced_after_gate group fits = fits
fits_in opened group fits = fits
fits_in whole group fits = fits

-- before the last call of an append the stage after it is that of the next phase, and no group more is durable
pub data IsNextStage : Phase → Type 0 where
  last_stage : (phase : Phase) → phase ≡ gate_opened → IsNextStage phase
  earlier_stage : (phase : Phase) → stage_after phase ≡ stage_of (next_phase phase) → ((durable : ℕ) → next_durable phase durable ≡ durable) → IsNextStage phase

pub next_stage : (phase : Phase) → IsNextStage phase
next_stage not_begun = earlier_stage not_begun refl (λ durable. refl)
next_stage group_written = earlier_stage group_written refl (λ durable. refl)
next_stage group_synced = earlier_stage group_synced refl (λ durable. refl)
next_stage gate_opened = last_stage gate_opened refl

-- ---- the groups in flight

abbrev pub FitsAsGroup : History → Type 0
FitsAsGroup events = FitsGroup (map record_of events)

pub first_fits : (groups : List History) (phase : Phase) → All FitsAsGroup groups → (groups ≡ [] → phase ≡ not_begun) → Fits (stage_of phase) (map record_of (first_of groups))
first_fits [] phase all idle = subst (λ (p : Phase). Fits (stage_of p) []) (sym (idle refl)) tt
first_fits (group ∷ groups) phase all idle = fits_in (stage_of phase) (map record_of group) (All-head FitsAsGroup group groups all)

-- where a call is due it is that of the first group, which fits
pub due_first : (groups : List History) (phase : Phase) (content : List ℕ) (call : Call) → All FitsAsGroup groups → call_for groups phase content ≡ Some call
    → FitsAsGroup (first_of groups) × (call_in phase content (map record_of (first_of groups)) ≡ Some call)
due_first [] phase content call all due = absurd (none-some call due)
due_first (group ∷ groups) phase content call all due = (All-head FitsAsGroup group groups all, due)
