-- One step of the machine from a sound state: an event that is taken and new there, and what of the state after it is new.
use Rattle.std.proofs.Common.{◌≡◌, ℕ, ◌<◌, Bool, true, false, Option, Some, None, ◌⊎◌, inl, inr, refl, ap, sym, ◌∙◌, subst}
use Rattle.std.specs.Prelude.{◌==◌, ◌&&◌, option_and_then, if◌then◌else◌}
use Rattle.std.specs.Option.{option_or}
use Rattle.std.proofs.lemmas.Bool.{and_parts, and_from, eqb-true}
use Rattle.std.proofs.lemmas.Option.{same_Some, none-some}
use Rattle.std.proofs.lemmas.Slice.Eq.{bytes_eq-Decides}
use Rattle.wire.specs.declared.message.Message.TheVariants as message
use Rattle.wire.specs.Fields.{IsSignature}
use Rattle.spec_model.specs.Admitting.{is_new, IsTaken}
use Rattle.spec_model.specs.Holdings.{certificate_by, is_vote_on, own_vote, is_low, all_held}
use Rattle.spec_model.specs.Nodes.{Node, IsNode, size_of}
use Rattle.spec_model.specs.Slots.{same_digest, header_digest, certificate_digest, is_of_slot}
use Rattle.spec_model.specs.States.{State, floor_in}
use Rattle.spec_model.specs.Words.{Author, Certificate, Digest, Header, Message, Vote}
use Rattle.spec_laws.proofs.Lists.{given_or_none}
use Rattle.spec_laws.proofs.Meeting.{same_number}
use Rattle.spec_laws.proofs.Votes.{slot_is, of_its_slot}
use Rattle.spec_machine.specs.Machine.{header_at, vote_at, counted_with, certificate_of, grown, answered}
use Rattle.spec_machine.specs.Sound.{IsSound, IsCounted}
use Rattle.spec_machine.proofs.Completing.{made}
use Rattle.spec_machine.proofs.NewThere.{new_header, new_vote}
use Rattle.spec_machine.proofs.Passing.{same_author, header_passes, vote_member}

-- an event that a node takes, new at a sound state
pub record IsStep (node : Node) (state : State) (sender : Author) (m : Message) : Type 0 where
  pub node_is : IsNode node
  pub sound : IsSound node state
  pub taken : IsTaken node (record { sender = sender; message = m })
  pub new : is_new (answered node state (record { sender = sender; message = m })) ≡ true

-- ---- what there was stays, and what wasn't there is new

pub or_left : {X : Type 0} (one other : Option X) (x : X) → one ≡ Some x → option_or one other ≡ Some x
or_left one other x is = ap (λ o. option_or o other) is

pub or_right : {X : Type 0} (one other : Option X) → one ≡ None → option_or one other ≡ other
or_right one other none = ap (λ o. option_or o other) none

pub or_cases : {X : Type 0} (one other : Option X) (x : X) → option_or one other ≡ Some x → (one ≡ Some x) ⊎ ((one ≡ None) × (other ≡ Some x))
or_cases (Some y) other x is = inl is
or_cases None other x is = inr (refl, is)

-- what is given where something holds
pub given_where : {X : Type 0} (holds : Bool) (one x : X) → (if holds then Some one else None) ≡ Some x → (holds ≡ true) × (one ≡ x)
given_where true one x is = (refl, same_Some one x is)
given_where false one x is = absurd (none-some x is)

-- a header that a message is for a round and author
pub header_new : (m : Message) (round author : ℕ) (header : Header) → header_at m round author ≡ Some header → (m ≡ message.Header header) × (is_of_slot round author header.body ≡ true)
header_new (message.Header new) round author header is =
    let given = given_where (is_of_slot round author new.body) new header is in
    (ap (λ (h : Header). message.Header h) given.1, ap (λ (h : Header). is_of_slot round author h.body) (sym given.1) ∙ given.0)
header_new (message.Batch batch) round author header is = absurd (none-some header is)
header_new (message.BatchAck ack) round author header is = absurd (none-some header is)
header_new (message.Vote vote) round author header is = absurd (none-some header is)
header_new (message.Certificate certificate) round author header is = absurd (none-some header is)
header_new (message.Coin coin) round author header is = absurd (none-some header is)

-- a vote that a message counts: that which it is, or the node's own on its new header
pub record IsVoteNew (m : Message) (round voter : ℕ) (vote : Vote) : Type 0 where
  pub is : m ≡ message.Vote vote
  pub at : vote.round ≡ round
  pub by : vote.voter.0 ≡ voter

pub record IsOwnVote (node : Node) (m : Message) (round voter : ℕ) (vote : Vote) : Type 0 where
  pub header : Header
  pub is : m ≡ message.Header header
  pub place : is_of_slot round node.own.0 header.body ≡ true
  pub by : voter ≡ node.own.0
  pub gives : own_vote node header.body ≡ vote

pub vote_new : (node : Node) (m : Message) (round voter : ℕ) (vote : Vote) → vote_at node m round voter ≡ Some vote → IsVoteNew m round voter vote ⊎ IsOwnVote node m round voter vote
vote_new node (message.Vote new) round voter vote is =
    let given = given_where ((new.round == round) && (new.voter.0 == voter)) new vote is in
    let parts = and_parts (new.round == round) (new.voter.0 == voter) given.0 in
    inl (record {
      is = ap (λ (v : Vote). message.Vote v) given.1;
      at = ap (λ (v : Vote). v.round) (sym given.1) ∙ eqb-true _ _ parts.0;
      by = ap (λ (v : Vote). v.voter.0) (sym given.1) ∙ eqb-true _ _ parts.1;
    })
vote_new node (message.Header header) round voter vote is =
    let given = given_where (is_of_slot round node.own.0 header.body && (voter == node.own.0)) (own_vote node header.body) vote is in
    let parts = and_parts (is_of_slot round node.own.0 header.body) (voter == node.own.0) given.0 in
    inr (record { header = header; is = refl; place = parts.0; by = eqb-true _ _ parts.1; gives = given.1 })
vote_new node (message.Batch batch) round voter vote is = absurd (none-some vote is)
vote_new node (message.BatchAck ack) round voter vote is = absurd (none-some vote is)
vote_new node (message.Certificate certificate) round voter vote is = absurd (none-some vote is)
vote_new node (message.Coin coin) round voter vote is = absurd (none-some vote is)

-- a certificate that a message adds: that which it is, or that of the own header that the message, a vote, completes
pub record IsCompletedBy (node : Node) (state : State) (m : Message) (certificate : Certificate) : Type 0 where
  pub vote : Vote
  pub is : m ≡ message.Vote vote
  pub completes : option_and_then (certificate_by node (counted_with node state m vote.round)) (state.own_headers vote.round) ≡ Some certificate

pub certificate_new : (node : Node) (state : State) (m : Message) (certificate : Certificate) → certificate_of node state m ≡ Some certificate
    → (m ≡ message.Certificate certificate) ⊎ IsCompletedBy node state m certificate
certificate_new node state (message.Certificate new) certificate is = inl (ap (λ (c : Certificate). message.Certificate c) (same_Some new certificate is))
certificate_new node state (message.Vote vote) certificate is = inr (record { vote = vote; is = refl; completes = is })
certificate_new node state (message.Batch batch) certificate is = absurd (none-some certificate is)
certificate_new node state (message.BatchAck ack) certificate is = absurd (none-some certificate is)
certificate_new node state (message.Header header) certificate is = absurd (none-some certificate is)
certificate_new node state (message.Coin coin) certificate is = absurd (none-some certificate is)

-- ---- own headers and the votes on them

-- an own header whose place was free is new
pub record IsNewOwn (node : Node) (state : State) (sender : Author) (m : Message) (round : ℕ) (header : Header) : Type 0 where
  pub free : state.own_headers round ≡ None
  pub is : m ≡ message.Header header
  pub place : is_of_slot round node.own.0 header.body ≡ true

pub own_header : (node : Node) (state : State) (sender : Author) (m : Message) (round : ℕ) (header : Header) → (grown node state m).own_headers round ≡ Some header
    → (state.own_headers round ≡ Some header) ⊎ IsNewOwn node state sender m round header
own_header node state sender m round header is =
    elim (or_cases (state.own_headers round) (header_at m round node.own.0) header is) [
      | inl old ↦ inl old
      | inr new ↦ let it = header_new m round node.own.0 header new.1 in inr (record { free = new.0; is = it.0; place = it.1 })
    ]

-- where a round has no own header no vote counts
pub uncounted : (node : Node) (state : State) → IsSound node state → (round voter : ℕ) → state.own_headers round ≡ None → state.counted round voter ≡ None
uncounted node state sound round voter free =
    elim (given_or_none (state.counted round voter)) [
      | inr none ↦ none
      | inl found ↦ let is = sound.votes.counted round voter found.0 found.1 in absurd (none-some is.header (sym free ∙ is.held))
    ]

-- a new header that is of an own slot is by the node, and its place is free
pub record IsOwnNew (node : Node) (state : State) (round : ℕ) (header : Header) : Type 0 where
  pub author : header.body.author ≡ node.own
  pub taken : IsTaken node (record { sender = node.own; message = message.Header header })
  pub high : is_low (floor_in node state) header.body.round ≡ false
  pub held : all_held state.slots (floor_in node state) header.body ≡ true
  pub free : state.own_headers round ≡ None

pub own_new : (node : Node) (state : State) (sender : Author) (header : Header) (round : ℕ) → IsStep node state sender (message.Header header)
    → is_of_slot round node.own.0 header.body ≡ true → IsOwnNew node state round header
own_new node state sender header round step place =
    let new = new_header node state header step.new in
    let own = (and_parts (header.body.round == round) (header.body.author.0 == node.own.0) place).1 in
    let author = same_author header.body.author node.own own in
    let by = (header_passes node sender header step.taken).0 in
    record {
      author = author;
      taken = subst (λ a. IsTaken node (record { sender = a; message = message.Header header })) (sym by ∙ author) step.taken;
      high = new.high;
      held = new.held;
      free = ap state.own_headers (sym (slot_is round node.own.0 header.body place).0) ∙ new.free own;
    }

same_digest-sym : (one other : Digest) → same_digest one other ≡ true → same_digest other one ≡ true
same_digest-sym one other same = (bytes_eq-Decides other.0 one.0).1 (sym ((bytes_eq-Decides one.0 other.0).0 same))

same_itself : (digest : Digest) → same_digest digest digest ≡ true
same_itself digest = (bytes_eq-Decides digest.0 digest.0).1 refl

-- each vote that counts after the event is a member's on the own header of the round
pub counted_grown : (node : Node) (state : State) (sender : Author) (m : Message) → IsStep node state sender m → (round voter : ℕ) (vote : Vote) → (grown node state m).counted round voter ≡ Some vote
    → IsCounted node (grown node state m) round voter vote
counted_grown node state sender m step round voter vote is =
    let own = node.own.0 in
    elim (or_cases (state.counted round voter) (vote_at node m round voter) vote is) [
      | inl old ↦
          let was = step.sound.votes.counted round voter vote old in
          record { header = was.header; held = or_left (state.own_headers round) (header_at m round own) was.header was.held; on = was.on; member = was.member; signature = was.signature }
      | inr new ↦ elim (vote_new node m round voter vote new.1) [
        | inl came ↦
            let step' = subst (λ x. IsStep node state sender x) came.is step in
            let is_new_vote = new_vote node state (grown node state (message.Vote vote)) vote step'.new in
            let header = is_new_vote.header in
            let held : state.own_headers round ≡ Some header = ap state.own_headers (sym came.at) ∙ is_new_vote.held in
            let place = slot_is vote.round own header.body (step.sound.votes.headers vote.round header is_new_vote.held).place in
            let slot : is_of_slot vote.round vote.author.0 header.body ≡ true =
            ap (λ a. is_of_slot vote.round a header.body) (eqb-true vote.author.0 own is_new_vote.own) ∙ (step.sound.votes.headers vote.round header is_new_vote.held).place in
            let by : (vote.voter.0 == voter) ≡ true = ap (λ v. v == voter) came.by ∙ same_number voter in
            let on = same_digest-sym (header_digest header.body) vote.header is_new_vote.same in
            record {
              header = header;
              held = or_left (state.own_headers round) (header_at m round own) header held;
              on = and_from _ _ slot (and_from _ _ by on);
              member = subst (λ v. v < size_of node) came.by (vote_member node sender vote step'.taken);
              signature = step'.taken.message.signature;
            }
        | inr made ↦
            let header = made.header in
            let step' = subst (λ x. IsStep node state sender x) made.is step in
            let it = own_new node state sender header round step' made.place in
            let here : header_at (message.Header header) round own ≡ Some header = ap (λ b. if b then Some header else None) made.place in
            let slot = of_its_slot header.body in
            let by : (own == voter) ≡ true = ap (λ v. own == v) made.by ∙ same_number own in
            let on : is_vote_on header.body voter (own_vote node header.body) ≡ true = and_from _ _ slot (and_from _ _ by (same_itself (header_digest header.body))) in
            record {
              header = header;
              held = or_right (state.own_headers round) (header_at m round own) it.free ∙ ap (λ x. header_at x round own) made.is ∙ here;
              on = ap (is_vote_on header.body voter) (sym made.gives) ∙ on;
              member = subst (λ v. v < size_of node) (sym made.by) step.node_is.member;
              signature = subst (λ (v : Vote). IsSignature v.signature) made.gives (step.node_is.signatures (certificate_digest header.body));
            }
      ]
    ]
