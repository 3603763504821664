-- Laws of histories, most of them of legal ones.
use Rattle.std.specs.Prelude.{◌≡◌, ℕ, ◌+◌, ◌-◌, ◌*◌, Option, Some, None, ◌≤◌, true, List, [], ◌∷◌, ◌++◌, map, All, Contains, find, slice_get, option_and_then, ⊤}
use Rattle.std.specs.Option.{option_or, option_to_list}
use Rattle.wire.specs.declared.message.Message.TheVariants as message
use Rattle.header.specs.Checks.{Accepts, fault_of, accepts_all}
use Rattle.spec_model.specs.Admitting.{admit, header_outputs, IsTaken, IsLegal}
use Rattle.spec_model.specs.Giving.{MayGive}
use Rattle.spec_model.specs.Histories.{History, batches, acks, headers, votes, received, coins, as_batch, as_ack, as_header, as_vote, as_certificate, as_coin}
use Rattle.wire.specs.Lists.{Begins}
use Rattle.spec_model.specs.Holdings.{batch_digest, batch_at, is_vote_on, voted_header, counted_vote, completed, certificates, slots, ledger_of, ledger_at, order, own_vote, floor, is_full, all_held}
use Rattle.spec_model.specs.Nodes.{Node, IsNode, AreTied}
use Rattle.spec_model.specs.Ordering.{Ledger, leader, has_support, is_directly_committed, top, committed, newer, last_wave, segment, segments, floor_by}
use Rattle.spec_model.specs.Proposing.{propose}
use Rattle.spec_model.specs.Slots.{Slots, same_digest, certificate_digest, is_of_slot, slots_of}
use Rattle.header.specs.declared.admission.Admission.{Admission}
use Rattle.header.specs.declared.admission.Admission.TheVariants.{New, Known, Refused}
use Rattle.spec_model.specs.Words.{Author, Certificate, Digest, Event, Header, HeaderBody, Message, Output}

-- a legal history has at most one header of each round and author, so the node votes at most once for them
abbrev pub OneVote : Type 0
OneVote = (node : Node) (history : History) (one other : Header) → IsLegal node history
    → Contains (headers history) one → Contains (headers history) other
    → one.body.author ≡ other.body.author → one.body.round ≡ other.body.round → one ≡ other

-- a legal history has at most one certificate of each round and author
abbrev pub OneCertificate : Type 0
OneCertificate = (node : Node) (history : History) (one other : Certificate) → IsLegal node history
    → Contains (certificates node history) one → Contains (certificates node history) other
    → one.header.author ≡ other.header.author → one.header.round ≡ other.header.round → one ≡ other

-- the history has the coin of this wave, with this value
pub record ReportsCoin (history : History) (wave value : ℕ) : Type 0 where
  pub sender : Author
  pub reported : Contains history (record { sender = sender; message = message.Coin (record { wave = wave; value = value }) })

-- the coins of a legal history came in wave by wave: the first one is that of wave 1, the next that of wave 2, and so on
abbrev pub CoinsInTurn : Type 0
CoinsInTurn = (node : Node) (history : History) (place value : ℕ) → IsLegal node history → slice_get (coins history) place ≡ Some value
    → ReportsCoin history (place + 1) value

-- With one more event a history has, of each kind of message, what it had and then what the event is. A look-up finds what it found before;
-- if it found nothing, it finds the event.
pub record IsOneMore (history : History) (event : Event) : Type 0 where
  pub of_batches : batches (history ++ event ∷ []) ≡ batches history ++ option_to_list (as_batch event.message)
  pub of_acks : acks (history ++ event ∷ []) ≡ acks history ++ option_to_list (as_ack event.message)
  pub of_headers : headers (history ++ event ∷ []) ≡ headers history ++ option_to_list (as_header event.message)
  pub of_votes : votes (history ++ event ∷ []) ≡ votes history ++ option_to_list (as_vote event.message)
  pub of_received : received (history ++ event ∷ []) ≡ received history ++ option_to_list (as_certificate event.message)
  pub of_coins : coins (history ++ event ∷ []) ≡ coins history ++ option_to_list (as_coin event.message)
  pub batch_found : (digest : Digest) → batch_at (history ++ event ∷ []) digest
      ≡ option_or (batch_at history digest) (find (λ batch. same_digest (batch_digest batch) digest) (option_to_list (as_batch event.message)))
  pub header_found : (round author : ℕ) → voted_header (history ++ event ∷ []) round author
      ≡ option_or (voted_header history round author) (find (λ header. is_of_slot round author header.body) (option_to_list (as_header event.message)))
  pub vote_found : (node : Node) (header : HeaderBody) (voter : ℕ) → counted_vote node (history ++ event ∷ []) header voter
      ≡ option_or (counted_vote node history header voter) (find (is_vote_on header voter) (option_to_list (as_vote event.message)))

abbrev pub OneMore : Type 0
OneMore = (history : History) (event : Event) → IsOneMore history event

-- the certificate that a new event adds: the one that came in, or that of an own header which a vote completes; None if it adds none
abbrev pub added : Node → History → Event → Option Certificate
added node history event = on event.message
  where
    on : Message → Option Certificate
    on (message.Certificate certificate) = Some certificate
    on (message.Vote vote) = option_and_then (completed node (history ++ event ∷ [])) (voted_header history vote.round node.own.0)
    on _ = None

-- One more event of a legal history leaves the certificate of each round and author as it is, and adds none but the certificate that the
-- event adds
abbrev pub SlotsGrow : Type 0
SlotsGrow = (node : Node) (history : History) (event : Event) → IsLegal node (history ++ event ∷ []) → (round author : ℕ)
    → slots node (history ++ event ∷ []) round author
    ≡ option_or (slots node history round author) (slots_of (option_to_list (added node history event)) round author)

-- the outputs of an answer may be given out: those of a new event after it, and those of a known event at the history as it is
abbrev pub PutsOutGiven : Node → History → Event → Admission → Type 0
PutsOutGiven node history event (New outputs) = All (MayGive node (history ++ event ∷ [])) outputs
PutsOutGiven node history event (Known outputs) = All (MayGive node history) outputs
PutsOutGiven node history event (Refused refusal) = ⊤

-- the outputs of every answer may be given out, even if the history is not legal
abbrev pub OutputsGiven : Type 0
OutputsGiven = (node : Node) (history : History) (event : Event) → PutsOutGiven node history event (admit node history event)

-- the order of each prefix of a legal history is a prefix of the order of the history
abbrev pub OrderGrows : Type 0
OrderGrows = (node : Node) (history more : History) → IsLegal node (history ++ more)
    → Begins (order node history) (order node (history ++ more))

-- the last element of a list; `before` if the list is empty
abbrev pub last_or : {X : Type 0} → Option X → List X → Option X
last_or before [] = before
last_or before (x ∷ rest) = last_or (Some x) rest

-- the leaders that a history commits
abbrev pub committed_at : Node → History → List Certificate
committed_at node history = committed (ledger_at node history)

-- The certificates `held` agree with the certificates `all` from round `low` on, and each of them stands at its round and author
pub record HoldsFrom (low : ℕ) (held all : Slots) : Type 0 where
  pub placed : (round author : ℕ) (c : Certificate) → held round author ≡ Some c → is_of_slot round author c.header ≡ true
  pub same : (round author : ℕ) → low ≤ round → held round author ≡ all round author

-- the leaders that the later history commits and the earlier one doesn't, found among the certificates `held`
abbrev pub newer_at_later : Node → History → History → Slots → List Certificate
newer_at_later node before later held = newer (ledger_of node held (coins later)) (last_wave (ledger_at node before))

-- The later history commits the leaders of the earlier one and then newer ones; its order is the earlier order, and then what the newer
-- leaders order.
pub record Lengthens (node : Node) (before later : History) (held : Slots) : Type 0 where
  pub chain : committed_at node later ≡ committed_at node before ++ newer_at_later node before later held
  pub order : order node later ≡ order node before
      ++ map (λ c. certificate_digest c.header) (segments (ledger_of node held (coins later)) (last_or None (committed_at node before)) (newer_at_later node before later held))

-- to find the newer leaders and what they order, the certificates of rounds from the earlier floor on are enough
abbrev pub OrderLengthens : Type 0
OrderLengthens = (node : Node) (history more : History) (held : Slots) → IsLegal node (history ++ more)
    → HoldsFrom (floor node history) held (slots node (history ++ more)) → Lengthens node history (history ++ more) held

-- A part of the certificates, `held`, gives the same results as all of them, `all`, from a round on.
pub record SayTheSame (node : Node) (low : ℕ) (before : Ledger) (coins : List ℕ) (held all : Slots) : Type 0 where
  -- `held` and `all` give the same, for rounds from `low` on: the leader of a wave, its support, whether a wave is directly committed, and
  -- whether a round has a quorum
  pub same_leader : (wave : ℕ) → low ≤ 2 * wave - 1 → leader (ledger_of node held coins) wave ≡ leader (ledger_of node all coins) wave
  pub same_support : (c : Certificate) → low ≤ c.header.round + 1 → has_support (ledger_of node held coins) c ≡ has_support (ledger_of node all coins) c
  pub same_committed : (wave : ℕ) → low ≤ 2 * wave - 1
      → is_directly_committed (ledger_of node held coins) wave ≡ is_directly_committed (ledger_of node all coins) wave
  pub same_full : (round : ℕ) → low ≤ round → is_full node held round ≡ is_full node all round
  -- `held` and `all` give the same: whether a header's parents are held
  pub same_parents : (header : HeaderBody) → all_held held (floor_by (ledger_of node all coins)) header ≡ all_held all (floor_by (ledger_of node all coins)) header
  -- `held` and `all` give the same: the last committed wave, and so the floor
  pub same_top : top (ledger_of node held coins) ≡ top (ledger_of node all coins)
  pub same_last_wave : last_wave (ledger_of node held coins) ≡ last_wave (ledger_of node all coins)
  pub same_floor : floor_by (ledger_of node held coins) ≡ floor_by (ledger_of node all coins)
  -- `held` and `all` give the same: the last leader that was committed before, and the newer leaders
  pub same_last : leader (ledger_of node held coins) (last_wave before) ≡ last_or None (committed before)
  pub same_newer : newer (ledger_of node held coins) (last_wave before) ≡ newer (ledger_of node all coins) (last_wave before)
  -- `held` and `all` give the same: what each newer leader orders, whichever leader comes before it, and what the newer leaders order
  -- together
  pub same_segment : (previous : Option Certificate) (last : Certificate) → Contains (newer (ledger_of node held coins) (last_wave before)) last
      → segment (ledger_of node held coins) previous last ≡ segment (ledger_of node all coins) previous last
  pub same_segments : (previous : Option Certificate) → segments (ledger_of node held coins) previous (newer (ledger_of node held coins) (last_wave before))
      ≡ segments (ledger_of node all coins) previous (newer (ledger_of node all coins) (last_wave before))

-- what the leaders of later waves order after the leader of this wave
abbrev pub ordered_since : Ledger → ℕ → List Digest
ordered_since ledger wave = map (λ c. certificate_digest c.header) (segments ledger (leader ledger wave) (newer ledger wave))

-- these certificates give the same results as all of a later history's, and what they order since the last committed wave extends the order
pub record IsEnough (node : Node) (before later : History) (low : ℕ) (held : Slots) : Type 0 where
  pub same : SayTheSame node low (ledger_at node before) (coins later) held (slots node later)
  pub order : order node later ≡ order node before ++ ordered_since (ledger_of node held (coins later)) (last_wave (ledger_at node before))

-- `IsEnough` holds of the certificates of a legal history from some round on, if this round is at or below the floor of a prefix of the
-- history
abbrev pub HeldIsEnough : Type 0
HeldIsEnough = (node : Node) (before more : History) (low : ℕ) (held : Slots) → IsLegal node (before ++ more) → low ≤ floor node before
    → HoldsFrom low held (slots node (before ++ more)) → IsEnough node before (before ++ more) low held

-- what may be given out after a legal history may be given out after each legal history that extends it
abbrev pub GivenGrows : Type 0
GivenGrows = (node : Node) (history more : History) (output : Output) → IsLegal node (history ++ more)
    → MayGive node history output → MayGive node (history ++ more) output

-- the event by which the node's host hands in an own header
abbrev pub own_event : Node → Header → Event
own_event node header = record { sender = node.own; message = message.Header header }

-- the header that a node proposes after a legal history passes the checks, without those of signatures, and is new there
abbrev pub ProposalsAreNew : Type 0
ProposalsAreNew = (node : Node) (history : History) (header : Header) → IsLegal node history → propose node history ≡ Some header
    → (fault_of node.charter accepts_all (own_event node header) ≡ None) × (admit node history (own_event node header) ≡ New (header_outputs node header))

-- a legal history stays legal with the header that the node proposes after it
abbrev pub ProposalsAreLegal : Type 0
ProposalsAreLegal = (node : Node) (history : History) (header : Header) → IsLegal node history → propose node history ≡ Some header
    → IsLegal node (history ++ own_event node header ∷ [])

-- if the node's signer and the verifier belong together, the proposed header passes the checks with its signature too
abbrev pub ProposalsPass : Type 0
ProposalsPass = (node : Node) (history : History) (header : Header) (accepts : Accepts) → IsLegal node history → AreTied node accepts
    → propose node history ≡ Some header → fault_of node.charter accepts (own_event node header) ≡ None

-- the event by which another node gets the node's vote for a header
abbrev pub vote_event : Node → HeaderBody → Event
vote_event node header = record { sender = node.own; message = message.Vote (own_vote node header) }

-- if the node's signer and the verifier belong together, the node's vote for a header that it took passes the checks with its signature
abbrev pub OwnVotesPass : Type 0
OwnVotesPass = (node : Node) (sender : Author) (header : Header) (accepts : Accepts) → IsNode node → AreTied node accepts
    → IsTaken node (record { sender = sender; message = message.Header header }) → fault_of node.charter accepts (vote_event node header.body) ≡ None
