-- What is answered an event that meets tables.
use Rattle.std.proofs.Common.{◌≡◌, [], ◌∙◌}
use Rattle.wire.specs.declared.message.Message.TheVariants as message
use Rattle.spec_model.specs.Admitting.{vote_outputs, order_outputs}
use Rattle.spec_model.specs.Nodes.{Node}
use Rattle.spec_model.specs.States.{State}
use Rattle.spec_model.specs.Words.{Certificate, Coin, Digest, Event, Header, Signature, Vote}
use Rattle.spec_machine.specs.Machine.{answered, grown}
use Rattle.dag.specs.Graph.{slots_in}
use Rattle.admission.specs.Headers.{IsHeaders}
use Rattle.admission.specs.HeaderLaws.{VotesAgree}
use Rattle.admission.proofs.Answering.{answered_as}
use Rattle.admission.specs.Decisions.{reported, header_decision, vote_decision, certificate_decision, coin_decision, new_header_outputs, known_header_outputs, known_outputs}
use Rattle.admission.specs.Standing.{Meets}
use Rattle.admission.specs.declared.tables.Tables.{Tables}
use Rattle.admission.proofs.Deciding.{header_reported, vote_reported, certificate_reported, coin_reported}

pub header_answered : (node : Node) (state : State) (event : Event) (tables : Tables) (sign : Digest → Signature) (header : Header) → Meets node state event tables (message.Header header)
    → node.sign ≡ sign → answered node state event ≡ reported (new_header_outputs tables sign header) (known_header_outputs tables sign header) (header_decision tables header)
header_answered node state event tables sign header meets signs =
    answered_as node state event (message.Header header) meets.message ∙ header_reported node state tables sign header meets.sound meets.at signs

pub vote_answered : VotesAgree → (node : Node) (state : State) (event : Event) (tables : Tables) (vote : Vote) → IsHeaders tables.headers → Meets node state event tables (message.Vote vote)
    → answered node state event
    ≡ reported (vote_outputs node state (grown node state (message.Vote vote)) vote.round) (known_outputs (slots_in tables.sequencer.graph vote.round tables.own.0)) (vote_decision tables vote)
vote_answered agree node state event tables vote holds meets =
    answered_as node state event (message.Vote vote) meets.message ∙ vote_reported agree node state (grown node state (message.Vote vote)) tables vote meets.sound meets.at holds

pub certificate_answered : (node : Node) (state : State) (event : Event) (tables : Tables) (c : Certificate) → Meets node state event tables (message.Certificate c)
    → answered node state event ≡ reported (order_outputs state (grown node state (message.Certificate c))) [] (certificate_decision tables c)
certificate_answered node state event tables c meets =
    answered_as node state event (message.Certificate c) meets.message ∙ certificate_reported node state (grown node state (message.Certificate c)) tables c meets.at

pub coin_answered : (node : Node) (state : State) (event : Event) (tables : Tables) (coin : Coin) → Meets node state event tables (message.Coin coin)
    → answered node state event ≡ reported (order_outputs state (grown node state (message.Coin coin))) [] (coin_decision tables event.sender coin)
coin_answered node state event tables coin meets =
    answered_as node state event (message.Coin coin) meets.message ∙ coin_reported node state (grown node state (message.Coin coin)) tables event.sender coin meets.at
