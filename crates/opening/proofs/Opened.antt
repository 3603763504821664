-- What an opening answers where its bytes are told as a state.
use Rattle.std.proofs.Common.{◌≡◌, ◌≢◌, inl, inr, List, [], ◌∷◌, ℕ, ◌-◌, ◌<◌, arith, length, drop, Result, Ok, Err, refl, sym, ap, ◌∙◌, subst}
use Rattle.std.specs.Prelude.{All}
use Rattle.std.proofs.lemmas.List.Elements.{All-nil, All-cons}
use Rattle.journal.specs.Areas.{alone}
use Rattle.journal.specs.Format.{stands, kept_at}
use Rattle.diskmodel.specs.Disk.{AtEachMoment, Device as Disks}
use Rattle.diskmodel.proofs.Clock.{weaker, joins}
use Rattle.journal.specs.Journal.{with_group, stands_with, StandsAsOneOf}
use Rattle.journal.specs.declared.version.Version.TheVariants.{Second}
use Rattle.journal.specs.declared.error.JournalError.{JournalError}
use Rattle.journal.specs.declared.error.JournalError.TheVariants.{Memory, Device, Damaged, ConfigMismatch, Full}
use Rattle.journal.specs.declared.record.Record.{Record}
use Rattle.spec_machine.specs.Laws.{StartsFresh}
use Rattle.spec_machine.specs.Machine.{fresh}
use Rattle.spec_machine.proofs.AfterAll.{after_none, legal_none}
use Rattle.spec_model.specs.Nodes.{Node, IsNode}
use Rattle.spec_model.specs.States.{State}
use Rattle.validator.specs.Standing.{AreAtSound}
use Rattle.spec_world.proofs.Recovering.{holds_same, some_record}
use Rattle.spec_world.specs.World.{own_configuration, as_fresh, Holds, StandsFor, as_journal, as_empty}
use Rattle.opening.specs.Laws.{IsOfBytes, StandsForAt, HoldsAt, KeepsStates, IsNoRefusal}
use Rattle.opening.specs.Decoded.{IsText, HasTexts, decoded, Reports, StandsAt, IsDecodedAsOneOf, KeepsOrBegins, KeepsRecords}
use Rattle.opening.proofs.Laws.{alone_stands, fresh_sound, found_records}
use Rattle.opening.proofs.Reporting.{decoded_records, decoded_damaged, decoded_same, as_one_of, keeps_one, keeps_same}
use Rattle.admission.specs.declared.tables.Tables.{Tables}

-- the tables stand where the bytes stand, if the records after the first are bytes
pub stands_for_at : StartsFresh → (node : Node) (bytes : List ℕ) (records : List Record) (tables : Tables) → IsNode node → stands bytes ≡ Ok records → All IsText (drop 1 records)
    → StandsAt node (decoded node bytes) tables → StandsForAt node bytes tables
stands_for_at starts node bytes records tables sound is texts at =
    let found = found_records starts node bytes at.state records sound texts is (sym (decoded_records node bytes records is) ∙ at.is_read) in
    record {
      history = found.history;
      stands_for = subst (StandsFor node (alone bytes)) (sym found.keeps) found.stands_for;
      legal = found.legal;
      at = subst (AreAtSound node tables) (sym found.keeps) at.at;
    }

clash : (error : JournalError) (state : State) (read : Result State JournalError) → read ≡ Ok state → read ≡ Err error → ⊥
clash error state read one other = cc

-- what is told as a state is not refused
pub no_refusal : (error : JournalError) (state : State) (read : Result State JournalError) → read ≡ Ok state → (error ≢ Device → Reports error read) → IsNoRefusal error
no_refusal Memory state read is reports = inr refl
no_refusal Device state read is reports = inl refl
no_refusal (Damaged place) state read is reports = absurd (clash (Damaged place) state read is (reports (λ same. cc)))
no_refusal ConfigMismatch state read is reports = absurd (clash ConfigMismatch state read is (reports (λ same. cc)))
no_refusal Full state read is reports = absurd (clash Full state read is (reports (λ same. cc)))

records_are : (one other : List Record) → ◌≡◌ {A = Result (List Record) ℕ} (Ok one) (Ok other) → one ≡ other
records_are one other same = cc

-- a first record with none after it
pub one_text : (before later first : List ℕ) → stands before ≡ Ok [] → stands later ≡ stands_with before (first ∷ []) → HasTexts later
one_text before later first none is records found =
    let same : records ≡ kept_at (length before - 1) first ∷ [] =
    records_are records (kept_at (length before - 1) first ∷ []) (sym found ∙ is ∙ ap (with_group (length before - 1) (first ∷ [])) none) in
    subst (λ (l : List Record). All IsText (drop 1 l)) (sym same) (All-nil IsText)

-- those that were found before
pub same_texts : (later : List ℕ) (records : List Record) → stands later ≡ Ok records → All IsText (drop 1 records) → HasTexts later
same_texts later records is texts other found = subst (λ (l : List Record). All IsText (drop 1 l)) (records_are records other (sym is ∙ found)) texts

-- a journal's records are some
some_records : (node : Node) (bytes : List ℕ) (state : State) → Holds node (alone bytes) state → stands bytes ≡ Ok [] → ⊥
some_records node bytes state held none =
    let same = records_are held.journal.records [] (sym held.journal.stands_for ∙ alone_stands bytes ∙ none) in
    omega (arith, ap length same, some_record node (alone bytes) state held)

-- the configuration alone is a journal at the fresh state
begun : StartsFresh → (node : Node) (bytes : List ℕ) → IsNode node → stands bytes ≡ Ok (kept_at 0 (own_configuration Second node) ∷ []) → Holds node (alone bytes) (fresh node)
begun starts node bytes sound is = record {
  front = own_configuration Second node ∷ [];
  in_first = 1;
  base = fresh node;
  begins = as_fresh Second tt refl refl refl;
  events = [];
  journal = record {
    records = kept_at 0 (own_configuration Second node) ∷ [];
    stands_for = alone_stands bytes ∙ is;
    are = refl;
    first_gate = 0;
    first = All-cons (λ (one : Record). one.gate ≡ 0) (kept_at 0 (own_configuration Second node)) [] refl (All-nil (λ (one : Record). one.gate ≡ 0));
    others = All-nil (λ (one : Record). 0 < one.gate);
  };
  legal = legal_none node (fresh node) sound (fresh_sound starts node sound);
  leads = after_none node (fresh node);
}

-- bytes with a record that have those of other bytes, or begin where these have none, are a journal at each state for which these stand
pub keeps_states : StartsFresh → (node : Node) (before later : List ℕ) → IsNode node → KeepsOrBegins Second node before later → stands later ≢ Ok [] → KeepsStates node before later
keeps_states starts node before later sound (inl (records, first, after)) some state (as_journal held) =
    holds_same node (alone before) (alone later) state held (λ none. none) (alone_stands later ∙ after ∙ sym first ∙ sym (alone_stands before))
keeps_states starts node before later sound (inl (records, first, after)) some state (as_empty none is) = absurd (some (after ∙ sym first ∙ sym (alone_stands before) ∙ none))
keeps_states starts node before later sound (inr (none, is)) some state (as_journal held) = absurd (some_records node before state held none)
keeps_states starts node before later sound (inr (none, is)) some state (as_empty also state_is) = subst (Holds node (alone later)) (sym state_is) (begun starts node later sound is)

-- bytes with a record are a journal of what they are told as
module _ (starts : StartsFresh) (node : Node) (later : List ℕ) (tables : Tables) (sound : IsNode node) (at : StandsAt node (decoded node later) tables) (texts : HasTexts later)
    (some : stands later ≢ Ok []) where
  as_held : (found : IsOfBytes node later at.state) → StandsFor node (alone later) at.state → HoldsAt node later tables
  as_held found (as_journal held) = record {
    history = found.history;
    decoded_as = at.is_read ∙ ap Ok (sym found.keeps);
    holds = subst (Holds node (alone later)) (sym found.keeps) held;
    legal = found.legal;
    at = subst (AreAtSound node tables) (sym found.keeps) at.at;
  }
  as_held found (as_empty none is) = absurd (some (sym (alone_stands later) ∙ none))

  by_reading : (read : Result (List Record) ℕ) → stands later ≡ read → HoldsAt node later tables
  by_reading (Ok records) is =
      let found = found_records starts node later at.state records sound (texts records is) is (sym (decoded_records node later records is) ∙ at.is_read) in
      as_held found found.stands_for
  by_reading (Err place) is = absurd (clash (Damaged place) at.state (decoded node later) at.is_read (decoded_damaged node later place is))

  pub holds_at : HoldsAt node later tables
  holds_at = by_reading (stands later) refl

-- ---- what a stop leaves

-- at any moment of opening the journal
module _ {D : Type 0} (node : Node) (device : Disks D) (old middle : D) (opened : AtEachMoment device old middle (StandsAsOneOf (device.outcome old))) where
  pub first_decoded : AtEachMoment device old middle (IsDecodedAsOneOf node (device.outcome old))
  first_decoded = weaker device old middle (IsDecodedAsOneOf node (device.outcome old)) (StandsAsOneOf (device.outcome old)) opened
      (λ left is. as_one_of node (device.outcome old) left is)

  pub first_kept : AtEachMoment device old middle (KeepsRecords node (device.outcome old))
  first_kept = weaker device old middle (KeepsRecords node (device.outcome old)) (StandsAsOneOf (device.outcome old)) opened
      (λ left is. keeps_one node (device.outcome old) left is)

  -- and then of writing a configuration, where there is none
  module _ (new : D) (same : stands (device.content middle) ≡ stands (device.content old)) (now : device.outcome old (device.content old)) where
    pub reported_on : AtEachMoment device middle new (λ left. decoded node left ≡ decoded node (device.content middle))
        → AtEachMoment device old new (IsDecodedAsOneOf node (device.outcome old))
    reported_on going = joins device old middle new (IsDecodedAsOneOf node (device.outcome old)) (λ left. decoded node left ≡ decoded node (device.content middle)) first_decoded going
        (λ left as_is. (device.content old, now, as_is ∙ decoded_same node (device.content middle) (device.content old) same))

    pub kept_on : AtEachMoment device middle new (KeepsOrBegins Second node (device.content middle)) → AtEachMoment device old new (KeepsRecords node (device.outcome old))
    kept_on going = joins device old middle new (KeepsRecords node (device.outcome old)) (KeepsOrBegins Second node (device.content middle)) first_kept going
        (λ left kept. inr (device.content old, now, keeps_same Second node (device.content old) (device.content middle) left same kept))
