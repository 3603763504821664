-- The state after an event that is new at a sound state is sound, and so is what is kept of a legal history.
use Rattle.std.proofs.Common.{ℕ, ◌^◌, ◌<◌, ◌++◌, List, [], ◌∷◌, map, sym, ap, ◌∙◌, subst}
use Rattle.std.specs.Prelude.{All}
use Rattle.std.specs.Option.{option_to_list}
use Rattle.std.proofs.lemmas.List.Elements.{All-nil, All-cons, All-append}
use Rattle.wire.specs.Fields.{IsDigest}
use Rattle.wire.specs.Grammar.{IsMessage}
use Rattle.wire.specs.declared.message.Message.TheVariants as message
use Rattle.wire.proofs.DigestLemmas.{are_digest_bytes}
use Rattle.spec_model.specs.Admitting.{is_new}
use Rattle.spec_model.specs.Giving.{kept}
use Rattle.spec_model.specs.Histories.{History, as_coin}
use Rattle.spec_model.specs.Nodes.{Node}
use Rattle.spec_model.specs.Slots.{certificate_digest}
use Rattle.spec_model.specs.States.{State, ledger_in}
use Rattle.spec_model.specs.Words.{Author, Certificate, Event, Message}
use Rattle.spec_laws.proofs.Legal.{Adds, legal-induction}
use Rattle.spec_machine.specs.Laws.{FreshIsSound, SoundStays, KeptIsSound}
use Rattle.spec_machine.specs.Machine.{newly_ordered, grown}
use Rattle.spec_machine.specs.Sound.{IsSound}
use Rattle.spec_machine.proofs.Answering.{state_answers}
use Rattle.spec_machine.proofs.BatchesStay.{batches_stay}
use Rattle.spec_machine.proofs.AfterStep.{after_step, step_next, is_after_step}
use Rattle.spec_machine.proofs.CertificatesStay.{certificates_stay}
use Rattle.spec_machine.proofs.Following.{state_follows}
use Rattle.spec_machine.proofs.OrderStays.{order_stays}
use Rattle.spec_machine.proofs.Starting.{starts_fresh}
use Rattle.spec_machine.proofs.Step.{IsStep}
use Rattle.spec_machine.proofs.VotesStay.{votes_stay}

all_digests : (certificates : List Certificate) → All IsDigest (map (λ (c : Certificate). certificate_digest c.header) certificates)
all_digests [] = All-nil IsDigest
all_digests (c ∷ certificates) = All-cons IsDigest (certificate_digest c.header) (map (λ (d : Certificate). certificate_digest d.header) certificates) (are_digest_bytes _) (all_digests certificates)

abbrev IsWide : ℕ → Type 0
IsWide coin = coin < 2 ^ 64

-- a coin that a node takes is within 64 bits
coin_wide : (m : Message) → IsMessage m → All IsWide (option_to_list (as_coin m))
coin_wide (message.Coin coin) keeps = All-cons IsWide coin.value [] keeps.value (All-nil IsWide)
coin_wide (message.Batch batch) keeps = All-nil IsWide
coin_wide (message.BatchAck ack) keeps = All-nil IsWide
coin_wide (message.Header header) keeps = All-nil IsWide
coin_wide (message.Vote vote) keeps = All-nil IsWide
coin_wide (message.Certificate certificate) keeps = All-nil IsWide

sound_after : (node : Node) (state : State) (sender : Author) (m : Message) → IsStep node state sender m → IsSound node (after_step node state m)
sound_after node state sender m step =
    let next = step_next node state sender m step in
    let back = is_after_step node state m next in
    record {
      batches = batches_stay node state sender m step;
      votes = votes_stay node state sender m step back;
      certificates = certificates_stay node state sender m step next back;
      coins = All-append IsWide state.coins (option_to_list (as_coin m)) step.sound.coins (coin_wide m step.taken.message);
      ordered = All-append IsDigest state.order (newly_ordered (ledger_in node state) (ledger_in node (grown node state m))) step.sound.ordered (all_digests _);
      order = order_stays node state sender m step next;
    }

pub sound_stays : SoundStays
sound_stays node state event node_is sound taken new =
    sound_after node state event.sender event.message (record { node_is = node_is; sound = sound; taken = taken; new = new })

-- with that the fresh state is sound
pub kept_from : FreshIsSound → KeptIsSound
kept_from first node history legal =
    legal-induction node (λ h. IsSound node (kept node h)) (subst (IsSound node) (sym (starts_fresh node)) (first node legal.sound)) (kept_grows node) history legal
  where
    kept_grows : (node : Node) (h : History) (event : Event) → Adds node h event → IsSound node (kept node h) → IsSound node (kept node (h ++ event ∷ []))
    kept_grows node h event adds sound =
        subst (IsSound node) (sym (state_follows node h event adds.longer))
        (sound_stays node (kept node h) event adds.legal.sound sound adds.taken (sym (ap is_new (state_answers node h event adds.legal adds.taken)) ∙ adds.new))
