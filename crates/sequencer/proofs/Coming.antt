-- The certificate that a new event adds is new to the DAG of the state.
use Rattle.std.proofs.Common.{◌≡◌, ℕ, true, false, [], Option, Some, None, inl, inr, refl, ap, sym, ◌∙◌, subst, arith}
use Rattle.std.specs.Prelude.{nat_le, is_some, option_and_then, Ok, ◌==◌, ◌&&◌}
use Rattle.std.specs.Option.{option_to_list}
use Rattle.std.proofs.lemmas.Bool.{cases_Bool}
use Rattle.std.proofs.lemmas.Grind.{common_steps}
use Rattle.std.proofs.lemmas.Option.{same_Some, none-some}
use Rattle.wire.specs.declared.message.Message.TheVariants as message
use Rattle.committee.specs.Charter.{weight}
use Rattle.spec_model.specs.Admitting.{is_new, vote_answer, certificate_answer}
use Rattle.spec_model.specs.Histories.{as_coin}
use Rattle.spec_model.specs.Holdings.{certificate_by, is_low, all_held}
use Rattle.spec_model.specs.Nodes.{Node, quorum}
use Rattle.spec_model.specs.Slots.{Slots}
use Rattle.spec_model.specs.States.{State, floor_in}
use Rattle.spec_model.specs.Words.{Author, Certificate, Event, Header, HeaderBody, Message, Vote}
use Rattle.spec_laws.proofs.Lists.{given_or_none}
use Rattle.spec_laws.proofs.Votes.{slot_is}
use Rattle.spec_machine.specs.Machine.{answered, certificate_of, counted_with, grown}
use Rattle.spec_machine.specs.Sound.{IsSound}
use Rattle.dag.specs.Answer.{answer}
use Rattle.dag.specs.Graph.{slots_in}
use Rattle.dag.specs.declared.answers.Added.TheVariants.{New}
use Rattle.sequencer.specs.Sequence.{SequencerView, ComesTo}

-- a certificate's slot is free, it isn't low, and its parents are held
pub record IsFree (node : Node) (now : State) (certificate : Certificate) : Type 0 where
  pub free : now.slots certificate.header.round certificate.header.author.0 ≡ None
  pub high : is_low (floor_in node now) certificate.header.round ≡ false
  pub held : all_held now.slots (floor_in node now) certificate.header ≡ true

-- ---- one that came in

certificate_free : (node : Node) (now later : State) (certificate : Certificate) → is_new (certificate_answer node now later certificate) ≡ true
    → now.slots certificate.header.round certificate.header.author.0 ≡ None
certificate_free node now later certificate h = grind (arith, h, common_steps)

certificate_high : (node : Node) (now later : State) (certificate : Certificate) → is_new (certificate_answer node now later certificate) ≡ true
    → is_low (floor_in node now) certificate.header.round ≡ false
certificate_high node now later certificate h = grind (arith, h, common_steps)

certificate_held : (node : Node) (now later : State) (certificate : Certificate) → is_new (certificate_answer node now later certificate) ≡ true
    → all_held now.slots (floor_in node now) certificate.header ≡ true
certificate_held node now later certificate h = grind (arith, h, common_steps)

-- ---- one that a vote completes

vote_high : (node : Node) (now later : State) (vote : Vote) → is_new (vote_answer node now later vote) ≡ true → is_low (floor_in node now) vote.round ≡ false
vote_high node now later vote h = grind (arith, h, common_steps)

vote_free : (node : Node) (now later : State) (vote : Vote) (header : Header) → now.own_headers vote.round ≡ Some header
    → is_new (vote_answer node now later vote) ≡ true → now.slots vote.round node.own.0 ≡ None
vote_free node now later vote header is h = grind (arith, h, is, common_steps)

pub made_of : (node : Node) (counted : ℕ → Option Vote) (header : Header) (certificate : Certificate) → certificate_by node counted header ≡ Some certificate → header.body ≡ certificate.header
made_of node counted header certificate is =
    elim (cases_Bool ((header.body.author.0 == node.own.0) && nat_le (quorum node) (weight node.charter (λ voter. is_some (counted voter))))) [
      | inl enough ↦ let made = rw enough at is in ap (λ (c : Certificate). c.header) (same_Some _ certificate made)
      | inr few ↦ let nothing = rw few at is in absurd (none-some certificate nothing)
    ]

completed_free : (node : Node) (state : State) (vote : Vote) (certificate : Certificate) → IsSound node state → is_new (vote_answer node state (grown node state (message.Vote vote)) vote) ≡ true
    → certificate_of node state (message.Vote vote) ≡ Some certificate → IsFree node state certificate
completed_free node state vote certificate sound new is =
    elim (given_or_none (state.own_headers vote.round)) [
      | inr none ↦ absurd (none-some certificate (sym (ap (option_and_then (certificate_by node (counted_with node state (message.Vote vote) vote.round))) none) ∙ is))
      | inl found ↦
          let header = found.0 in
          let own = sound.votes.headers vote.round header found.1 in
          let place = slot_is vote.round node.own.0 header.body own.place in
          let by = sym (ap (option_and_then (certificate_by node (counted_with node state (message.Vote vote) vote.round))) found.1) ∙ is in
          let body = made_of node (counted_with node state (message.Vote vote) vote.round) header certificate by in
          let all : IsFree node state (record certificate { header = header.body }) = record {
            free = ap (λ (r : ℕ). state.slots r header.body.author.0) place.0 ∙ ap (state.slots vote.round) place.1
                ∙ vote_free node state (grown node state (message.Vote vote)) vote header found.1 new;
            high = ap (is_low (floor_in node state)) place.0 ∙ vote_high node state (grown node state (message.Vote vote)) vote new;
            held = own.held;
          } in
          subst (λ (b : HeaderBody). IsFree node state (record certificate { header = b })) body all
    ]

-- ---- either

free_by : (node : Node) (state : State) (sender : Author) (m : Message) (certificate : Certificate) → IsSound node state → is_new (answered node state (record { sender = sender; message = m })) ≡ true
    → certificate_of node state m ≡ Some certificate → IsFree node state certificate
free_by node state sender (message.Certificate new) certificate sound is_new_event is =
    let later = grown node state (message.Certificate new) in
    let same : new ≡ certificate = same_Some new certificate is in
    let all : IsFree node state new = record {
      free = certificate_free node state later new is_new_event;
      high = certificate_high node state later new is_new_event;
      held = certificate_held node state later new is_new_event;
    } in
    subst (IsFree node state) same all
free_by node state sender (message.Vote vote) certificate sound is_new_event is = completed_free node state vote certificate sound is_new_event is
free_by node state sender (message.Batch batch) certificate sound is_new_event is = absurd (none-some certificate is)
free_by node state sender (message.BatchAck ack) certificate sound is_new_event is = absurd (none-some certificate is)
free_by node state sender (message.Header header) certificate sound is_new_event is = absurd (none-some certificate is)
free_by node state sender (message.Coin coin) certificate sound is_new_event is = absurd (none-some certificate is)

pub new_in : (node : Node) (state : State) (event : Event) (sequence : SequencerView) (certificate : Certificate) → ComesTo node state event sequence
    → certificate_of node state event.message ≡ Some certificate
    → answer sequence.graph certificate ≡ Ok New
new_in node state event sequence certificate comes is =
    let at = comes.at in
    let free = free_by node state event.sender event.message certificate comes.comes.sound comes.comes.new is in
    let header = certificate.header in
    let high : is_low sequence.graph.floor header.round ≡ false = ap (λ f. is_low f header.round) at.floor ∙ free.high in
    let none : slots_in sequence.graph header.round header.author.0 ≡ None = ap (λ (s : Slots). s header.round header.author.0) at.slots ∙ free.free in
    let held : all_held (slots_in sequence.graph) sequence.graph.floor header ≡ true = ap (λ (s : Slots). all_held s sequence.graph.floor header)
    at.slots ∙ ap (λ f. all_held state.slots f header) at.floor ∙ free.held in
    rw (high, none, held) refl

-- an event adds no certificate with a coin
pub no_coin : (node : Node) (state : State) (m : Message) (certificate : Certificate) → certificate_of node state m ≡ Some certificate → option_to_list (as_coin m) ≡ []
no_coin node state (message.Coin coin) certificate is = absurd (none-some certificate is)
no_coin node state (message.Certificate new) certificate is = refl
no_coin node state (message.Vote vote) certificate is = refl
no_coin node state (message.Batch batch) certificate is = refl
no_coin node state (message.BatchAck ack) certificate is = refl
no_coin node state (message.Header header) certificate is = refl

pub no_certificate : (node : Node) (state : State) (m : Message) (value : ℕ) → as_coin m ≡ Some value → certificate_of node state m ≡ None
no_certificate node state (message.Coin coin) value is = refl
no_certificate node state (message.Certificate new) value is = absurd (none-some value is)
no_certificate node state (message.Vote vote) value is = absurd (none-some value is)
no_certificate node state (message.Batch batch) value is = absurd (none-some value is)
no_certificate node state (message.BatchAck ack) value is = absurd (none-some value is)
no_certificate node state (message.Header header) value is = absurd (none-some value is)
