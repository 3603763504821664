-- A new own header with the node's vote on it.
use Rattle.std.proofs.Common.{◌≡◌, ℕ, ◌<◌, Bool, true, false, length, Option, Some, None, inl, inr, refl, ap, sym, ◌∙◌, subst, arith}
use Rattle.std.specs.Prelude.{◌==◌, ◌&&◌, option_map, option_and_then, if◌then◌else◌}
use Rattle.std.specs.Option.{option_or}
use Rattle.std.specs.Str.{bytes_eq}
use Rattle.std.proofs.lemmas.Bool.{cases_Bool, and_from, eqb-true}
use Rattle.std.proofs.lemmas.Option.{none-some}
use Rattle.std.proofs.lemmas.Slice.Eq.{bytes_eq-Decides}
use Rattle.wire.specs.Digests.{header_digest_of}
use Rattle.wire.specs.declared.message.Message.TheVariants as message
use Rattle.committee.specs.Charter.{Charter}
use Rattle.certify.specs.Assembled.{AssemblyView, is_on, started}
use Rattle.spec_laws.proofs.Lists.{given_or_none}
use Rattle.spec_laws.proofs.Meeting.{same_number}
use Rattle.spec_laws.proofs.SlotsGrow.{or_none}
use Rattle.spec_model.specs.Admitting.{is_own}
use Rattle.spec_model.specs.Holdings.{own_vote}
use Rattle.spec_model.specs.Nodes.{Node}
use Rattle.spec_model.specs.States.{State}
use Rattle.spec_model.specs.Words.{Author, Event, Header, HeaderBody, Message, Vote}
use Rattle.spec_machine.specs.Machine.{header_at, vote_at, grown}
use Rattle.spec_machine.specs.Sound.{IsSound}
use Rattle.admission.specs.Headers.{AssembliesView, assembly_at, vote_in, IsWith, IsAt}
use Rattle.spec_machine.specs.Laws.{FloorsAgree, Comes}
use Rattle.admission.specs.HeaderLaws.{HeaderComesTo}
use Rattle.admission.proofs.HeadersAfter.{table_after}
use Rattle.admission.proofs.NewThere.{header_free}
use Rattle.admission.proofs.HeaderVotes.{vote_started}

pub turned : (one other : ℕ) → (one == other) ≡ (other == one)
turned one other = grind arith

-- where a round has no own header no vote counts
uncounted : (node : Node) (state : State) → IsSound node state → (round voter : ℕ) → state.own_headers round ≡ None → state.counted round voter ≡ None
uncounted node state sound round voter free =
    elim (given_or_none (state.counted round voter)) [
      | inr none ↦ none
      | inl found ↦ let is = sound.votes.counted round voter found.0 found.1 in absurd (none-some is.header (sym free ∙ is.held))
    ]

-- a table at a state has nothing where the state has no own header
free_there : (node : Node) (state : State) (before : AssembliesView) (round : ℕ) → IsAt node state before → state.own_headers round ≡ None → assembly_at before round ≡ None
free_there node state before round at free =
    elim (given_or_none (assembly_at before round)) [
      | inr none ↦ none
      | inl found ↦ absurd (none-some found.0.header (sym free ∙ sym (at.held round) ∙ ap (option_map (λ (a : AssemblyView). a.header)) found.1))
    ]

-- the node's own vote for a header is on it
own_on : (node : Node) (body : HeaderBody) → is_on body (own_vote node body) ≡ true
own_on node body =
    and_from (bytes_eq (header_digest_of body) (header_digest_of body)) ((body.round == body.round) && (body.author.0 == body.author.0))
    ((bytes_eq-Decides (header_digest_of body) (header_digest_of body)).1 refl)
    (and_from (body.round == body.round) (body.author.0 == body.author.0) (same_number body.round) (same_number body.author.0))

none_or : {X : Type 0} (one other : Option X) → one ≡ None → option_or one other ≡ other
none_or one other none = ap (λ o. option_or o other) none

-- with the header and the vote a table is at the state with all that they add
header_grown : (node : Node) (state : State) (header : Header) (before held : AssembliesView) → IsSound node state → node.own.0 < length node.charter.keys → IsAt node state before
    → is_own node header.body.author ≡ true → state.own_headers header.body.round ≡ None
    → IsWith before held header.body.round (Some (started before.charter header (own_vote node header.body))) → IsAt node (grown node state (message.Header header)) held
header_grown node state header before held sound member at own free with =
    let m : Message = message.Header header in
    let round = header.body.round in
    let vote = own_vote node header.body in
    let new = started before.charter header vote in
    let here : (r : ℕ) → ((header.body.round == r) && (header.body.author.0 == node.own.0)) ≡ (r == round) = λ r.
    ap (λ b. (header.body.round == r) && b) own ∙ and_true (header.body.round == r) ∙ turned header.body.round r in
    let free_at : (r : ℕ) → (r == round) ≡ true → state.own_headers r ≡ None = λ r same. ap state.own_headers (eqb-true r round same) ∙ free in
    record {
      charter = with.charter ∙ at.charter;
      own = with.own ∙ at.own;
      held = λ r.
          let look : Option AssemblyView → Option Header = option_map (λ a. a.header) in
          elim (cases_Bool (r == round)) [
            | inl same ↦
                ap look (with.rounds r ∙ ap (λ b. if b then Some new else assembly_at before r) same)
                ∙ sym (none_or (state.own_headers r) (header_at m r node.own.0) (free_at r same) ∙ ap (λ b. if b then Some header else None) (here r ∙ same))
            | inr apart ↦
                ap look (with.rounds r ∙ ap (λ b. if b then Some new else assembly_at before r) apart) ∙ at.held r
                ∙ sym (ap (λ b. option_or (state.own_headers r) (if b then Some header else None)) (here r ∙ apart) ∙ or_none (state.own_headers r))
          ];
      counted = λ r voter.
          let look : Option AssemblyView → Option Vote = option_and_then (λ a. vote_in a voter) in
          elim (cases_Bool (r == round)) [
            | inl same ↦
                ap look (with.rounds r ∙ ap (λ b. if b then Some new else assembly_at before r) same)
                ∙ vote_started before.charter header vote voter (subst (λ (c : Charter). node.own.0 < length c.keys) (sym at.charter) member) (own_on node header.body)
                ∙ sym (none_or (state.counted r voter) (vote_at node m r voter) (uncounted node state sound r voter (free_at r same))
                ∙ ap (λ b. if b && (voter == node.own.0) then Some vote else None) (here r ∙ same))
            | inr apart ↦
                ap look (with.rounds r ∙ ap (λ b. if b then Some new else assembly_at before r) apart) ∙ at.counted r voter
                ∙ sym (ap (λ b. option_or (state.counted r voter) (if b && (voter == node.own.0) then Some vote else None)) (here r ∙ apart) ∙ or_none (state.counted r voter))
          ];
    }
  where
    and_true : (b : Bool) → (b && true) ≡ b
    and_true true = refl
    and_true false = refl

pub header_comes : FloorsAgree → (node : Node) (state : State) (sender : Author) (header : Header) (before : AssembliesView)
    → Comes node state (record { sender = sender; message = message.Header header })
    → IsAt node state before → is_own node header.body.author ≡ true → HeaderComesTo node state (record { sender = sender; message = message.Header header }) header before
header_comes agree node state sender header before step at own =
    let event : Event = record { sender = sender; message = message.Header header } in
    let free = header_free node state header own step.new in
    record {
      author = eqb-true header.body.author.0 node.own.0 own ∙ sym at.own;
      on = own_on node header.body;
      voter = sym at.own;
      free = free_there node state before header.body.round at free;
      after = λ held with. table_after agree node state event held step (header_grown node state header before held step.sound step.node_is.member at own free with);
    }
