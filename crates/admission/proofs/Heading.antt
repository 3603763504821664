-- What tables have after a new header.
use Rattle.std.proofs.Common.{◌≡◌, ℕ, Bool, true, false, cond, Option, Some, None, inl, inr, refl, ap, sym, ◌∙◌}
use Rattle.std.specs.Prelude.{nat_le, if◌then◌else◌, Result, Ok, Err}
use Rattle.std.specs.FinMap as map
use Rattle.std.specs.FinMap.{get-insert}
use Rattle.std.specs.Option.{option_map_or}
use Rattle.std.specs.Ordering.{eq_by_cmp}
use Rattle.std.proofs.lemmas.Bool.{cases_Bool}
use Rattle.std.proofs.lemmas.Map.Views.{tells_apart}
use Rattle.wire.specs.declared.message.Message.TheVariants as message
use Rattle.spec_model.specs.Admitting.{is_new}
use Rattle.spec_model.specs.Holdings.{is_low}
use Rattle.spec_model.specs.Nodes.{Node}
use Rattle.spec_model.specs.Slots.{same_digest, header_digest}
use Rattle.spec_model.specs.States.{State, floor_in}
use Rattle.spec_model.specs.Words.{Digest, Event, Header}
use Rattle.header.specs.declared.refusal.Refusal.{Refusal}
use Rattle.header.specs.declared.refusal.Refusal.TheVariants.{TooOld, AlreadyProposed, Equivocation}
use Rattle.spec_machine.specs.Laws.{LowIsToTheFloor}
use Rattle.spec_machine.specs.Machine.{answered}
use Rattle.votebook.specs.Slot.{slot_of, slot_cmp}
use Rattle.votebook.specs.Votes.{Votes, ForgetsTo}
use Rattle.votebook.specs.declared.slot.Slot.{Slot}
use Rattle.votebook.proofs.Lookups.{exact_slots, slots_total}
use Rattle.admission.specs.Votes.{with_vote}
use Rattle.admission.proofs.Answering.{answered_as}
use Rattle.admission.specs.Decisions.{voted_by, voted_decision, free_decision, header_decision, is_own_of}
use Rattle.admission.specs.Standing.{Meets}
use Rattle.admission.specs.declared.tables.answer.Answer.{Answer}
use Rattle.admission.specs.declared.tables.answer.Answer.TheVariants.{New, Known}
use Rattle.admission.specs.declared.tables.Tables.{Tables}
use Rattle.admission.proofs.Beside.{unless_held}
use Rattle.admission.proofs.Committing.{header_is_high}

-- its round isn't low
pub header_high : LowIsToTheFloor → (node : Node) (state : State) (event : Event) (tables : Tables) (header : Header) → Meets node state event tables (message.Header header)
    → is_new (answered node state event) ≡ true → nat_le header.body.round (floor_in node state) ≡ false
header_high low_is node state event tables header meets new =
    sym (low_is (floor_in node state) header.body.round)
    ∙ header_is_high (is_low (floor_in node state) header.body.round) _ (ap is_new (sym (answered_as node state event (message.Header header) meets.message)) ∙ new)

-- votes of which none is low with one more of a round that isn't
pub with_high_vote : (votes : Votes) (floor : ℕ) (header : Header) → ForgetsTo floor votes votes → nat_le header.body.round floor ≡ false
    → ForgetsTo floor (with_vote votes header.body) (with_vote votes header.body)
with_high_vote votes floor header forgets high slot =
    unless_held (nat_le slot.round floor) (map.get (with_vote votes header.body) slot) is_high
  where
    new : Slot
    new = slot_of header.body.author header.body.round

    is_high : (d : Digest) → map.get (with_vote votes header.body) slot ≡ Some d → nat_le slot.round floor ≡ false
    is_high d is =
        elim (cases_Bool (eq_by_cmp slot_cmp slot new)) [
          | inl here ↦ ap (λ (s : Slot). nat_le s.round floor) (tells_apart exact_slots slot new here) ∙ high
          | inr apart ↦
              let there : map.get votes slot ≡ Some d =
              sym (get-insert slots_total votes new (header_digest header.body) slot ∙ ap (λ b. cond b (Some (header_digest header.body)) (map.get votes slot)) apart) ∙ is in
              not_low (nat_le slot.round floor) d (sym there ∙ forgets slot)
        ]
      where
        not_low : (low : Bool) (x : Digest) → Some x ≡ (if low then None else map.get votes slot) → low ≡ false
        not_low true x same = absurd cc
        not_low false x same = refl

-- a new header's author and round have no vote
no_vote : (tables : Tables) (header : Header) (low : Bool) (voted : Option Digest) (free : Result Answer Refusal)
    → ◌≡◌ {A = Result Answer Refusal} (if low then Err TooOld else option_map_or (λ v. voted_decision tables v header) voted free) (Ok New) → voted ≡ None
no_vote tables header true voted free is = absurd cc
no_vote tables header false None free is = refl
no_vote tables header false (Some v) free is = absurd (never (same_digest v (header_digest header.body)) (is_own_of tables header.body.author) is)
  where
    never : (same own : Bool) → ◌≡◌ {A = Result Answer Refusal} (if same then Ok Known else Err (if own then AlreadyProposed else Equivocation)) (Ok New) → ⊥
    never true own same = cc
    never false true same = cc
    never false false same = cc

pub is_free : (tables : Tables) (header : Header) → header_decision tables header ≡ Ok New → voted_by tables header.body.author header.body.round ≡ None
is_free tables header is = no_vote tables header (is_low tables.sequencer.graph.floor header.body.round) (voted_by tables header.body.author header.body.round) (free_decision tables header) is
