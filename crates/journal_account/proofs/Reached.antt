-- The states that records lead to, one after the other.
use Rattle.std.proofs.Common.{◌≡◌, ℕ, ◌+◌, List, [], ◌∷◌, drop, refl, sym, ap, ◌∙◌, subst}
use Rattle.journal.specs.Format.{FailsAs}
use Rattle.journal.specs.declared.error.JournalError.{JournalError}
use Rattle.journal.specs.declared.record.Record.{Record}
use Rattle.spec_model.specs.Nodes.{Node}
use Rattle.spec_model.specs.States.{State}
use Rattle.opening.specs.Decoded.{read_event, read_events, StandsAt}
use Rattle.opening.proofs.Reporting.{fails_on, read_nil, read_ok}
use Rattle.admission.specs.declared.tables.Tables.{Tables}
use Rattle.validator.specs.Standing.{AreAtSound}

-- so many of the records lead from a state to another one, and tables stand there
pub record IsReachedFrom (node : Node) (base : State) (records : List Record) (count : ℕ) (tables : Tables) : Type 0 where
  pub state : State
  pub at : AreAtSound node tables state
  pub rest : read_events node base records ≡ read_events node state (drop count records)

pub reached_first : (node : Node) (base : State) (records : List Record) (tables : Tables) → AreAtSound node tables base → IsReachedFrom node base records 0 tables
reached_first node base records tables at = record { state = base; at = at; rest = refl }

pub reached_next : (node : Node) (base : State) (records : List Record) (count : ℕ) (one : Record) (tables later : Tables) → drop count records ≡ one ∷ drop (count + 1) records
    → ((state : State) → AreAtSound node tables state → StandsAt node (read_event node state one) later)
    → IsReachedFrom node base records count tables → IsReachedFrom node base records (count + 1) later
reached_next node base records count one tables later is stands reached =
    let next = stands reached.state reached.at in
    record {
      state = next.state;
      at = next.at;
      rest = reached.rest ∙ ap (read_events node reached.state) is ∙ read_ok node reached.state next.state one (drop (count + 1) records) next.is_read;
    }

pub reached_end : (node : Node) (base : State) (records : List Record) (count : ℕ) (tables : Tables) → drop count records ≡ [] → IsReachedFrom node base records count tables
    → StandsAt node (read_events node base records) tables
reached_end node base records count tables none reached = record {
  state = reached.state;
  is_read = reached.rest ∙ ap (read_events node reached.state) none ∙ read_nil node reached.state;
  at = reached.at;
}

pub fails_there : (node : Node) (base : State) (records : List Record) (count : ℕ) (one : Record) (tables : Tables) (error : JournalError) → drop count records ≡ one ∷ drop (count + 1) records
    → ((state : State) → AreAtSound node tables state → FailsAs error (read_event node state one))
    → IsReachedFrom node base records count tables → FailsAs error (read_events node base records)
fails_there node base records count one tables error is fails reached =
    subst (FailsAs error) (ap (read_events node reached.state) (sym is) ∙ sym reached.rest)
    (fails_on node reached.state one (drop (count + 1) records) error (fails reached.state reached.at))
