-- What tables decide of a message is what each state answers that they have all of.
use Rattle.std.proofs.Common.{◌≡◌, ◌≢◌, ℕ, Bool, true, false, List, [], ◌∷◌, length, ◌+◌, ◌-◌, ◌*◌, Option, Some, None, inl, inr, refl, ap, sym, ◌∙◌}
use Rattle.std.specs.Prelude.{◌==◌, not, nat_le, is_some, option_map, slice_get, Result, Ok, Err, if◌then◌else◌}
use Rattle.std.specs.List.{list_all}
use Rattle.std.specs.Option.{option_map_or}
use Rattle.std.proofs.lemmas.Bool.{cases_Bool, eq-eqb, true≢false}
use Rattle.committee.specs.Charter.{Charter, weight, quorum_of}
use Rattle.wire.specs.declared.output.Output.TheVariants as output
use Rattle.certify.specs.Assembled.{AssemblyView}
use Rattle.spec_laws.proofs.Lists.{given_or_none}
use Rattle.spec_laws.proofs.Votes.{slot_is}
use Rattle.spec_model.specs.Admitting.{when◌gives◌else◌, is_own, header_outputs, vote_outputs, order_outputs, known_header_answer, header_answer}
use Rattle.spec_model.specs.Admitting.{held_answer, vote_answer, held_certificate_answer, certificate_answer, coin_answer, same_header, may_name}
use Rattle.spec_model.specs.Holdings.{is_low, is_full, all_held}
use Rattle.spec_model.specs.Nodes.{Node}
use Rattle.spec_model.specs.Slots.{Slots, same_digest, header_digest, certificate_digest}
use Rattle.spec_model.specs.States.{State, floor_in}
use Rattle.spec_model.specs.Words.{Author, Certificate, Coin, Digest, Header, HeaderBody, Output, Signature, Vote}
use Rattle.header.specs.declared.admission.Admission.{Admission}
use Rattle.header.specs.declared.admission.Admission.TheVariants as admission
use Rattle.header.specs.declared.refusal.Refusal.{Refusal}
use Rattle.header.specs.declared.refusal.Refusal.TheVariants.{TooOld, MissingParents, MissingBatch, Equivocation, CertConflict, DigestClash}
use Rattle.header.specs.declared.refusal.Refusal.TheVariants.{AlreadyProposed, NotOurs, CoinOutOfTurn, CoinEarly, CoinConflict}
use Rattle.spec_machine.specs.Sound.{IsSound}
use Rattle.dag.specs.Answer as dag
use Rattle.dag.specs.Graph.{slots_in}
use Rattle.dag.specs.declared.answers.Added.TheVariants as added
use Rattle.dag.specs.declared.refusal.DagRefusal.TheVariants as refusal
use Rattle.votebook.specs.Votes.{voted_in}
use Rattle.admission.specs.Headers.{assembly_at, header_in, is_complete_in, IsHeaders}
use Rattle.admission.specs.HeaderLaws.{VotesAgree}
use Rattle.admission.proofs.Answering.{may_name_all_alike}
use Rattle.admission.proofs.VoteComing.{completed_by}
use Rattle.admission.specs.Decisions.{reported, is_own_of, voted_by, voted_decision, header_decision, vote_by, new_header_outputs, known_header_outputs}
use Rattle.admission.specs.Decisions.{certified_decision, open_decision, is_on_own, vote_decision, known_outputs, as_decision, certificate_decision, taken_decision}
use Rattle.admission.specs.Decisions.{coin_decision}
use Rattle.admission.specs.Standing.{AreAt}
use Rattle.admission.specs.declared.tables.answer.Answer.{Answer}
use Rattle.admission.specs.declared.tables.answer.Answer.TheVariants.{New, Known}
use Rattle.admission.specs.declared.tables.Tables.{Tables}

-- ---- what is read alike

own_is : (node : Node) (state : State) (tables : Tables) (author : Author) → AreAt node state tables → is_own_of tables author ≡ is_own node author
own_is node state tables author at = ap (λ (own : Author). author.0 == own.0) at.own

floor_is : (node : Node) (state : State) (tables : Tables) → AreAt node state tables → tables.sequencer.graph.floor ≡ floor_in node state
floor_is node state tables at = at.sequence.floor

-- ---- headers

abbrev outputs_by : Author → (Digest → Signature) → Header → List Output
outputs_by own sign header = (if header.body.author.0 == own.0 then output.Header header else output.Vote (vote_by own sign header.body)) ∷ []

new_outputs_are : (node : Node) (state : State) (tables : Tables) (sign : Digest → Signature) (header : Header) → AreAt node state tables → node.sign ≡ sign
    → header_outputs node header ≡ new_header_outputs tables sign header
new_outputs_are node state tables sign header at signs =
    ap (λ (s : Digest → Signature). outputs_by node.own s header) signs ∙ ap (λ (own : Author). outputs_by own sign header) (sym at.own)

-- the cases of a header, where what is known of it answers as is decided of the digest that has the vote
header_cases : {X : Type 0} (new known : List Output) (low held named : Bool) (found : Option Admission) (voted : Option X) (decide : X → Result Answer Refusal)
    → found ≡ option_map (λ v. reported new known (decide v)) voted
    → (if low then admission.Refused TooOld else when found gives (λ a. a) else if not held then admission.Refused MissingParents
    else if not named then admission.Refused MissingBatch else admission.New new)
    ≡ reported new known (if low then Err TooOld else option_map_or decide voted (if not held then Err MissingParents else if not named then Err MissingBatch else Ok New))
header_cases new known true held named found voted decide is = refl
header_cases new known false held named found (Some v) decide is = rw is refl
header_cases new known false false named found None decide is = rw is refl
header_cases new known false true false found None decide is = rw is refl
header_cases new known false true true found None decide is = rw is refl

-- ---- an own header

own_case : (outs : List Output) (new : List Output) (same : Bool)
    → (if same then admission.Known outs else admission.Refused AlreadyProposed) ≡ reported new outs (if same then Ok Known else Err AlreadyProposed)
own_case outs new true = refl
own_case outs new false = refl

peers_case : (outs : List Output) (new : List Output) (same : Bool)
    → (if same then admission.Known outs else admission.Refused Equivocation) ≡ reported new outs (if same then Ok Known else Err Equivocation)
peers_case outs new true = refl
peers_case outs new false = refl

-- what is known of an own header
known_own : (node : Node) (state : State) (tables : Tables) (sign : Digest → Signature) (header : Header) (new : List Output) → IsSound node state → AreAt node state tables
    → is_own node header.body.author ≡ true
    → known_header_answer node state header ≡ option_map (λ v. reported new (known_header_outputs tables sign header) (voted_decision tables v header))
    (voted_by tables header.body.author header.body.round)
known_own node state tables sign header new sound at mine =
    let round = header.body.round in
    let ours : is_own_of tables header.body.author ≡ true = own_is node state tables header.body.author at ∙ mine in
    let held : header_in tables.headers round ≡ state.own_headers round = at.headers.held round in
    elim (given_or_none (state.own_headers round)) [
      | inr none ↦
          let nothing : header_in tables.headers round ≡ None = held ∙ none in
          rw (mine, none, ours, nothing) refl
      | inl found ↦
          let h = found.0 in
          let something : header_in tables.headers round ≡ Some h = held ∙ found.1 in
          let place = slot_is round node.own.0 h.body (sound.votes.headers round h found.1).place in
          let his : is_own node h.body.author ≡ true = eq-eqb h.body.author.0 node.own.0 place.1 in
          rw (mine, found.1, ours, something, his) (ap (λ (a : Admission). Some a) (own_case (output.Header h ∷ []) new (same_digest (header_digest h.body) (header_digest header.body))))
    ]

-- what is known of the header of another member
known_peers : (node : Node) (state : State) (tables : Tables) (sign : Digest → Signature) (header : Header) (new : List Output) → AreAt node state tables → node.sign ≡ sign
    → is_own node header.body.author ≡ false
    → known_header_answer node state header ≡ option_map (λ v. reported new (known_header_outputs tables sign header) (voted_decision tables v header))
    (voted_by tables header.body.author header.body.round)
known_peers node state tables sign header new at signs theirs =
    let round = header.body.round in
    let author = header.body.author in
    let others : is_own_of tables author ≡ false = own_is node state tables author at ∙ theirs in
    let apart : author.0 ≢ node.own.0 = λ same. true≢false (sym (eq-eqb author.0 node.own.0 same) ∙ theirs) in
    let votes : voted_in tables.votes author round ≡ state.votes round author.0 = at.votes.others author round apart in
    let vote : ◌≡◌ {A = List Output} (output.Vote (vote_by node.own node.sign header.body) ∷ []) (output.Vote (vote_by tables.own sign header.body) ∷ []) =
    ap (λ (s : Digest → Signature). output.Vote (vote_by node.own s header.body) ∷ []) signs ∙ ap (λ (own : Author). output.Vote (vote_by own sign header.body) ∷ []) (sym at.own) in
    elim (given_or_none (state.votes round author.0)) [
      | inr none ↦
          let nothing : voted_in tables.votes author round ≡ None = votes ∙ none in
          rw (theirs, none, others, nothing) refl
      | inl found ↦
          let something : voted_in tables.votes author round ≡ Some found.0 = votes ∙ found.1 in
          rw (theirs, found.1, others, something)
          (ap (λ (a : Admission). Some a)
          (ap (λ (o : List Output). if same_digest found.0 (header_digest header.body) then admission.Known o else admission.Refused Equivocation)
          vote ∙ peers_case (output.Vote (vote_by tables.own sign header.body) ∷ []) new (same_digest found.0 (header_digest header.body))))
    ]

pub header_reported : (node : Node) (state : State) (tables : Tables) (sign : Digest → Signature) (header : Header) → IsSound node state → AreAt node state tables → node.sign ≡ sign
    → header_answer node state header ≡ reported (new_header_outputs tables sign header) (known_header_outputs tables sign header) (header_decision tables header)
header_reported node state tables sign header sound at signs =
    let new = new_header_outputs tables sign header in
    let known = known_header_outputs tables sign header in
    let found : known_header_answer node state header ≡ option_map (λ v. reported new known (voted_decision tables v header)) (voted_by tables header.body.author header.body.round) =
    elim (cases_Bool (is_own node header.body.author)) [
      | inl mine ↦ known_own node state tables sign header new sound at mine
      | inr theirs ↦ known_peers node state tables sign header new at signs theirs
    ] in
    let cases = header_cases new known (is_low (floor_in node state) header.body.round) (all_held state.slots (floor_in node state) header.body)
    (list_all (may_name node state header) header.body.batches) (known_header_answer node state header) (voted_by tables header.body.author header.body.round)
    (λ v. voted_decision tables v header) found in
    ap (λ (outs : List Output). if is_low (floor_in node state) header.body.round then admission.Refused TooOld
    else when known_header_answer node state header gives (λ a. a)
    else if not (all_held state.slots (floor_in node state) header.body) then admission.Refused MissingParents
    else if not (list_all (may_name node state header) header.body.batches) then admission.Refused MissingBatch
    else admission.New outs) (new_outputs_are node state tables sign header at signs)
    ∙ cases
    ∙ ap (λ (floor : ℕ). reported new known (if is_low floor header.body.round then Err TooOld
    else option_map_or (λ v. voted_decision tables v header) (voted_by tables header.body.author header.body.round)
    (if not (all_held state.slots floor header.body) then Err MissingParents else if not (list_all (may_name node state header) header.body.batches) then Err MissingBatch else Ok New)))
    (sym (floor_is node state tables at))
    ∙ ap (λ (slots : Slots). reported new known (if is_low tables.sequencer.graph.floor header.body.round then Err TooOld
    else option_map_or (λ v. voted_decision tables v header) (voted_by tables header.body.author header.body.round)
    (if not (all_held slots tables.sequencer.graph.floor header.body) then Err MissingParents
    else if not (list_all (may_name node state header) header.body.batches) then Err MissingBatch else Ok New)))
    (sym at.sequence.slots)
    ∙ ap (λ (named : Bool). reported new known (if is_low tables.sequencer.graph.floor header.body.round then Err TooOld
    else option_map_or (λ v. voted_decision tables v header) (voted_by tables header.body.author header.body.round)
    (if not (all_held (slots_in tables.sequencer.graph) tables.sequencer.graph.floor header.body) then Err MissingParents else if not named then Err MissingBatch else Ok New)))
    (sym (may_name_all_alike node state tables.batches header at.batches))

-- ---- votes

open_case : (new : List Output) (voted : Bool) → (if voted then admission.Known [] else admission.New new) ≡ reported new [] (if voted then Ok Known else Ok New)
open_case new true = refl
open_case new false = refl

held_case : (new outs : List Output) (same : Bool)
    → (if same then admission.Known outs else admission.Refused CertConflict) ≡ reported new outs (if same then Ok Known else Err CertConflict)
held_case new outs true = refl
held_case new outs false = refl

on_case : (vote : Vote) (new : List Output) (slot : Option Certificate) (voted on : Bool)
    → (if not on then admission.Refused NotOurs else when slot gives (λ held. held_answer held vote) else if voted then admission.Known [] else admission.New new)
    ≡ reported new (known_outputs slot) (if not on then Err NotOurs else option_map_or (λ held. certified_decision held vote) slot (if voted then Ok Known else Ok New))
on_case vote new slot voted false = refl
on_case vote new None voted true = open_case new voted
on_case vote new (Some c) voted true = held_case new (output.Certificate c ∷ []) (same_digest (header_digest c.header) vote.header)

vote_cases : (vote : Vote) (new : List Output) (own low : Bool) (held : Option Header) (slot : Option Certificate) (voted : Bool)
    → (if not own then admission.Refused NotOurs else if low then admission.Refused TooOld
    else when held gives (λ header. if not (same_digest (header_digest header.body) vote.header) then admission.Refused NotOurs
    else when slot gives (λ c. held_answer c vote) else if voted then admission.Known [] else admission.New new)
    else admission.Refused NotOurs)
    ≡ reported new (known_outputs slot) (if not own then Err NotOurs else if low then Err TooOld
    else if not (option_map_or (λ digest. same_digest digest vote.header) (option_map (λ header. header_digest header.body) held) false) then Err NotOurs
    else option_map_or (λ c. certified_decision c vote) slot (if voted then Ok Known else Ok New))
vote_cases vote new false low held slot voted = refl
vote_cases vote new true true held slot voted = refl
vote_cases vote new true false None slot voted = refl
vote_cases vote new true false (Some header) slot voted = on_case vote new slot voted (same_digest (header_digest header.body) vote.header)

-- what the certificate decides that is held for the vote's round
abbrev slot_decision : Tables → Vote → Result Answer Refusal
slot_decision tables vote = option_map_or (λ c. certified_decision c vote) (slots_in tables.sequencer.graph vote.round tables.own.0) (open_decision tables vote)

-- that of a complete header is its own, so a vote on the header is known
complete_known : (node : Node) (state : State) (tables : Tables) (vote : Vote) → IsSound node state → AreAt node state tables → IsHeaders tables.headers
    → is_on_own tables vote ≡ true → is_complete_in tables.headers vote.round ≡ true → slot_decision tables vote ≡ Ok Known
complete_known node state tables vote sound at holds on complete =
    let ended : Option AssemblyView → Bool = λ o. option_map_or (λ a. a.complete) o false in
    let named : Option AssemblyView → Bool =
    λ o. option_map_or (λ digest. same_digest digest vote.header) (option_map (λ header. header_digest header.body) (option_map (λ a. a.header) o)) false in
    elim (given_or_none (assembly_at tables.headers vote.round)) [
      | inr none ↦ absurd (true≢false (sym complete ∙ ap ended none))
      | inl found ↦
          let assembled = found.0 in
          let is : assembled.complete ≡ true = sym (ap ended found.1) ∙ complete in
          let header : state.own_headers vote.round ≡ Some assembled.header = sym (at.headers.held vote.round) ∙ ap (option_map (λ (a : AssemblyView). a.header)) found.1 in
          let done = completed_by node state tables.headers vote.round assembled sound at.headers (holds.entries vote.round assembled found.1) found.1 header is in
          let slot : slots_in tables.sequencer.graph vote.round tables.own.0 ≡ Some done.certificate =
          ap (λ (own : Author). slots_in tables.sequencer.graph vote.round own.0) at.own ∙ ap (λ (slots : Slots). slots vote.round node.own.0) at.sequence.slots ∙ done.held in
          let same : same_digest (header_digest done.certificate.header) vote.header ≡ true =
          ap (λ (body : HeaderBody). same_digest (header_digest body) vote.header) done.of ∙ sym (ap named found.1) ∙ on in
          ap (λ (o : Option Certificate). option_map_or (λ c. certified_decision c vote) o (open_decision tables vote)) slot
          ∙ ap (λ b. if b then Ok Known else Err CertConflict) same
    ]

-- so the test for a complete header changes no answer
complete_cases : (own low on complete : Bool) (slot : Result Answer Refusal) → (on ≡ true → complete ≡ true → slot ≡ Ok Known)
    → (if not own then Err NotOurs else if low then Err TooOld else if not on then Err NotOurs else slot)
    ≡ (if not own then Err NotOurs else if low then Err TooOld else if not on then Err NotOurs else if complete then Ok Known else slot)
complete_cases false low on complete slot is = refl
complete_cases true true on complete slot is = refl
complete_cases true false false complete slot is = refl
complete_cases true false true false slot is = refl
complete_cases true false true true slot is = is refl refl

pub vote_reported : VotesAgree → (node : Node) (state later : State) (tables : Tables) (vote : Vote) → IsSound node state → AreAt node state tables → IsHeaders tables.headers
    → vote_answer node state later vote
    ≡ reported (vote_outputs node state later vote.round) (known_outputs (slots_in tables.sequencer.graph vote.round tables.own.0)) (vote_decision tables vote)
vote_reported agree node state later tables vote sound at holds =
    let new = vote_outputs node state later vote.round in
    let known = known_outputs (slots_in tables.sequencer.graph vote.round tables.own.0) in
    let on : Author → Slots → ℕ → Option Header → Bool → Admission =
    λ own slots floor held voted. reported new (known_outputs (slots vote.round own.0)) (if not (vote.author.0 == own.0) then Err NotOurs else if is_low floor vote.round then Err TooOld
    else if not (option_map_or (λ digest. same_digest digest vote.header) (option_map (λ header. header_digest header.body) held) false) then Err NotOurs
    else option_map_or (λ c. certified_decision c vote) (slots vote.round own.0) (if voted then Ok Known else Ok New)) in
    vote_cases vote new (is_own node vote.author) (is_low (floor_in node state) vote.round) (state.own_headers vote.round) (state.slots vote.round node.own.0)
    (is_some (state.counted vote.round vote.voter.0))
    ∙ ap (λ (own : Author). on own state.slots (floor_in node state) (state.own_headers vote.round) (is_some (state.counted vote.round vote.voter.0))) (sym at.own)
    ∙ ap (λ (slots : Slots). on tables.own slots (floor_in node state) (state.own_headers vote.round) (is_some (state.counted vote.round vote.voter.0))) (sym at.sequence.slots)
    ∙ ap (λ (floor : ℕ). on tables.own (slots_in tables.sequencer.graph) floor (state.own_headers vote.round) (is_some (state.counted vote.round vote.voter.0))) (sym at.sequence.floor)
    ∙ ap (λ (held : Option Header). on tables.own (slots_in tables.sequencer.graph) tables.sequencer.graph.floor held
    (is_some (state.counted vote.round vote.voter.0))) (sym (at.headers.held vote.round))
    ∙ ap (λ (voted : Bool). on tables.own (slots_in tables.sequencer.graph) tables.sequencer.graph.floor (header_in tables.headers vote.round) voted)
    (sym ((agree node state tables.headers sound at.headers).voted vote.round vote.voter.0))
    ∙ ap (reported new known) (complete_cases (is_own_of tables vote.author) (is_low tables.sequencer.graph.floor vote.round) (is_on_own tables vote)
    (is_complete_in tables.headers vote.round) (slot_decision tables vote) (complete_known node state tables vote sound at holds))

-- ---- certificates

slot_case : (new : List Output) (same header : Bool)
    → (if not same then admission.Refused CertConflict else if header then admission.Known [] else admission.Refused DigestClash)
    ≡ reported new [] (as_decision (if not same then Err refusal.CertConflict else if header then Ok added.Known else Err refusal.DigestClash))
slot_case new false header = refl
slot_case new true true = refl
slot_case new true false = refl

certificate_cases : (c : Certificate) (new : List Output) (low held : Bool) (slot : Option Certificate)
    → (if low then admission.Refused TooOld else when slot gives (λ other. held_certificate_answer other c) else if not held then admission.Refused MissingParents else admission.New new)
    ≡ reported new [] (as_decision (if low then Err refusal.TooOld else option_map_or (λ other. dag.held_answer other c) slot (if not held then Err refusal.MissingParents else Ok added.New)))
certificate_cases c new true held slot = refl
certificate_cases c new false held (Some other) =
    slot_case new (same_digest (certificate_digest other.header) (certificate_digest c.header)) (same_header other.header c.header)
certificate_cases c new false false None = refl
certificate_cases c new false true None = refl

pub certificate_reported : (node : Node) (state later : State) (tables : Tables) (c : Certificate) → AreAt node state tables
    → certificate_answer node state later c ≡ reported (order_outputs state later) [] (certificate_decision tables c)
certificate_reported node state later tables c at =
    let new = order_outputs state later in
    let on : Slots → ℕ → Admission =
    λ slots floor. reported new [] (as_decision (if is_low floor c.header.round then Err refusal.TooOld
    else option_map_or (λ other. dag.held_answer other c) (slots c.header.round c.header.author.0) (if not (all_held slots floor c.header) then Err refusal.MissingParents else Ok added.New))) in
    certificate_cases c new (is_low (floor_in node state) c.header.round) (all_held state.slots (floor_in node state) c.header) (state.slots c.header.round c.header.author.0)
    ∙ ap (λ (slots : Slots). on slots (floor_in node state)) (sym at.sequence.slots)
    ∙ ap (λ (floor : ℕ). on (slots_in tables.sequencer.graph) floor) (sym at.sequence.floor)

-- ---- coins

taken_case : (new : List Output) (same : Bool) → (if same then admission.Known [] else admission.Refused CoinConflict) ≡ reported new [] (if same then Ok Known else Err CoinConflict)
taken_case new true = refl
taken_case new false = refl

coin_cases : (coin : Coin) (new : List Output) (own : Bool) (taken : Option ℕ) (turn full : Bool)
    → (if not own then admission.Refused NotOurs else when taken gives (λ value. if value == coin.value then admission.Known [] else admission.Refused CoinConflict)
    else if not turn then admission.Refused CoinOutOfTurn else if not full then admission.Refused CoinEarly else admission.New new)
    ≡ reported new [] (if not own then Err NotOurs else option_map_or (λ value. taken_decision value coin) taken (if not turn then Err CoinOutOfTurn else if not full then Err CoinEarly else Ok New))
coin_cases coin new false taken turn full = refl
coin_cases coin new true (Some value) turn full = taken_case new (value == coin.value)
coin_cases coin new true None false full = refl
coin_cases coin new true None true false = refl
coin_cases coin new true None true true = refl

pub coin_reported : (node : Node) (state later : State) (tables : Tables) (sender : Author) (coin : Coin) → AreAt node state tables
    → coin_answer node state later sender coin ≡ reported (order_outputs state later) [] (coin_decision tables sender coin)
coin_reported node state later tables sender coin at =
    let new = order_outputs state later in
    let round = 2 * coin.wave + 1 in
    let full : Charter → Slots → Bool = λ charter slots. nat_le (quorum_of charter) (weight charter (λ author. is_some (slots round author))) in
    let on : Author → List ℕ → Charter → Slots → Admission =
    λ own coins charter slots. reported new [] (if not (sender.0 == own.0) then Err NotOurs else option_map_or (λ value. taken_decision value coin) (slice_get coins (coin.wave - 1))
    (if not (coin.wave == length coins + 1) then Err CoinOutOfTurn else if not (full charter slots) then Err CoinEarly else Ok New)) in
    coin_cases coin new (is_own node sender) (slice_get state.coins (coin.wave - 1)) (coin.wave == length state.coins + 1) (is_full node state.slots round)
    ∙ ap (λ (own : Author). on own state.coins node.charter state.slots) (sym at.own)
    ∙ ap (λ (coins : List ℕ). on tables.own coins node.charter state.slots) (sym at.sequence.coins)
    ∙ ap (λ (charter : Charter). on tables.own tables.sequencer.coins charter state.slots) (sym at.sequence.charter)
    ∙ ap (λ (slots : Slots). on tables.own tables.sequencer.coins tables.sequencer.graph.charter slots) (sym at.sequence.slots)
