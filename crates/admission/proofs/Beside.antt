-- What stays of a validator's tables after an event.
use Rattle.std.proofs.Common.{◌≡◌, ℕ, Bool, true, false, Option, Some, None, inl, inr, refl, ap, sym, subst, ◌∙◌}
use Rattle.std.specs.Prelude.{◌==◌, nat_le, option_map, if◌then◌else◌}
use Rattle.std.specs.FinMap as map
use Rattle.std.proofs.lemmas.Bool.{cases_Bool, eqb-true, true≢false, eq-eqb}
use Rattle.std.proofs.lemmas.Option.{none-some}
use Rattle.spec_model.specs.Nodes.{Node}
use Rattle.spec_model.specs.States.{State, floor_in}
use Rattle.spec_model.specs.Words.{Author, Digest}
use Rattle.spec_machine.specs.Laws.{LowIsToTheFloor}
use Rattle.spec_machine.specs.Machine.{after}
use Rattle.spec_machine.specs.Sound.{IsSound}
use Rattle.votebook.specs.Votes.{Votes, ForgetsTo}
use Rattle.certify.specs.Assembled.{AssemblyView}
use Rattle.admission.specs.Headers.{AssembliesView, assembly_at, IsForgotten}
use Rattle.admission.specs.Headers as headers
use Rattle.admission.specs.HeaderLaws.{OthersCome}
use Rattle.sequencer.specs.Laws.{SequenceStays}
use Rattle.admission.specs.Laws.{BatchesStay, VotesStay}
use Rattle.admission.specs.Votes.{HasVotes}
use Rattle.admission.specs.After.{NothingIsLow, OthersStay}
use Rattle.admission.specs.Standing.{AreAt}
use Rattle.admission.specs.declared.tables.Tables.{Tables}

-- where nothing is held for a low round, leaving out the low ones changes nothing
pub unless_held : {X : Type 0} (low : Bool) (found : Option X) → ((x : X) → found ≡ Some x → low ≡ false) → found ≡ (if low then None else found)
unless_held true (Some x) high = absurd (true≢false (high x refl))
unless_held true None high = refl
unless_held false found high = refl

-- the votes that are held are of rounds above the floor
votes_are_high : LowIsToTheFloor → (node : Node) (state : State) (votes : Votes) → IsSound node state → HasVotes node state votes → ForgetsTo (floor_in node state) votes votes
votes_are_high low_is node state votes sound has slot =
    unless_held (nat_le slot.round (floor_in node state)) (map.get votes slot) high
  where
    author : Author
    author = record { 0 = slot.author }

    high : (d : Digest) → map.get votes slot ≡ Some d → nat_le slot.round (floor_in node state) ≡ false
    high d is =
        elim (cases_Bool (slot.author == node.own.0)) [
          | inl mine ↦ absurd (none-some d (sym (has.own author slot.round (eqb-true slot.author node.own.0 mine)) ∙ is))
          | inr other ↦
              sym (low_is (floor_in node state) slot.round)
              ∙ sound.votes.high slot.round slot.author d (sym (has.others author slot.round (λ same. true≢false (sym (eq-eqb slot.author node.own.0 same) ∙ other))) ∙ is)
        ]

-- so are the own headers
headers_are_high : LowIsToTheFloor → (node : Node) (state : State) (held : AssembliesView) → IsSound node state → headers.IsAt node state held → IsForgotten held held (floor_in node state)
headers_are_high low_is node state held sound at = record {
  charter = refl;
  own = refl;
  rounds = λ round. unless_held (nat_le round (floor_in node state)) (assembly_at held round) (high round);
}
  where
    high : (round : ℕ) (a : AssemblyView) → assembly_at held round ≡ Some a → nat_le round (floor_in node state) ≡ false
    high round a is =
        let own : state.own_headers round ≡ Some a.header = sym (at.held round) ∙ ap (option_map (λ (x : AssemblyView). x.header)) is in
        sym (low_is (floor_in node state) round) ∙ (sound.votes.headers round a.header own).high

nothing_is_low : LowIsToTheFloor → (node : Node) (state : State) (tables : Tables) → IsSound node state → AreAt node state tables → NothingIsLow node state tables
nothing_is_low low_is node state tables sound at = record {
  votes = votes_are_high low_is node state tables.votes sound at.votes;
  headers = headers_are_high low_is node state tables.headers sound at.headers;
}

pub others_stay : LowIsToTheFloor → BatchesStay → VotesStay → OthersCome → SequenceStays → OthersStay
others_stay low_is batches_stay votes_stay others_come sequence_stays = record {
  beside = λ node state event tables comes at no_certificate no_coin.
      let sequence = sequence_stays node state event tables.sequencer (record { comes = comes; at = at.sequence }) no_certificate no_coin in
      let floor : floor_in node (after node state event) ≡ floor_in node state = sym sequence.floor ∙ at.sequence.floor in
      let low = nothing_is_low low_is node state tables comes.sound at in
      record {
        floor = floor;
        sequence = sequence;
        batches = λ stays. batches_stay node state event tables.batches at.batches stays;
        votes = λ stays. votes_stay node state event tables.votes tables.votes comes at.votes stays
            (subst (λ (f : ℕ). ForgetsTo f tables.votes tables.votes) (sym floor) low.votes);
        headers = λ stays. others_come node state event tables.headers comes at.headers stays tables.headers
            (subst (λ (f : ℕ). IsForgotten tables.headers tables.headers f) (sym floor) low.headers);
      };
  low = λ node state event tables comes at. nothing_is_low low_is node state tables comes.sound at;
  batches = batches_stay;
  votes = votes_stay;
  headers = others_come;
  high = low_is;
}
