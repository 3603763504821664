-- Admission never answers that a node is down.
use Rattle.std.proofs.Common.{◌≡◌, ◌≢◌, ◌+◌, ◌*◌, ◌-◌, Bool, true, false, [], ◌∷◌, length, inl, inr, refl, ap, sym, ◌∙◌}
use Rattle.std.specs.Prelude.{Option, Some, None, option_map, not, nat_le, ◌||◌, ◌==◌, if◌then◌else◌, is_some, slice_get, Result, Ok, Err, IfErr}
use Rattle.std.specs.List.{list_all}
use Rattle.std.specs.Str.{bytes_eq}
use Rattle.std.proofs.lemmas.Bool.{true≢false}
use Rattle.wire.specs.Batches.{batch_body}
use Rattle.wire.specs.declared.message.Message.TheVariants as message
use Rattle.wire.specs.declared.output.Output.TheVariants as output
use Rattle.spec_model.specs.Admitting.{answer, batch_answer, held_batch_answer, ack_answer, held_header_answer, voted_answer, known_header_answer}
use Rattle.spec_model.specs.Admitting.{header_answer, held_answer, own_header_answer, vote_answer, held_certificate_answer, certificate_answer}
use Rattle.spec_model.specs.Admitting.{coin_answer, when◌gives◌else◌, is_own, may_name, same_header, batch_outputs, header_outputs, vote_outputs}
use Rattle.spec_model.specs.Admitting.{order_outputs}
use Rattle.spec_model.specs.Holdings.{batch_digest, is_low, is_full, all_held}
use Rattle.spec_model.specs.Nodes.{Node}
use Rattle.spec_model.specs.Slots.{same_digest, header_digest, certificate_digest}
use Rattle.spec_model.specs.States.{State, batch_in, has_own_batch, floor_in}
use Rattle.spec_model.specs.Words.{Author, BatchAck, Certificate, Coin, BatchView, Event, Header, Message, Vote}
use Rattle.header.specs.declared.admission.Admission.{Admission}
use Rattle.header.specs.declared.admission.Admission.TheVariants.{New, Known, Refused}
use Rattle.header.specs.declared.refusal.Refusal.TheVariants.{Memory, Down, TooOld, MissingParents, MissingBatch, Equivocation, CertConflict}
use Rattle.header.specs.declared.refusal.Refusal.TheVariants.{DigestClash, AlreadyProposed, NotOurs, CoinOutOfTurn, CoinEarly, CoinConflict}
use Rattle.header.specs.declared.refusal.Refusal.TheVariants.{StoreFull}
use Rattle.header.specs.declared.refusal.Refusal.{Refusal}
use Rattle.admission.specs.Answers.{IsAnswer}
use Rattle.admission.specs.declared.step.Step.{Step}

-- an answer that a node is down
abbrev down : Admission → Bool
down (Refused Down) = true
down _ = false

abbrev Up : Admission → Type 0
Up answer = down answer ≡ false

-- a choice of two answers, and an answer by what is found, if anything is
pick : (f : Bool → Admission) (b : Bool) → Up (f true) → Up (f false) → Up (f b)
pick f true p q = p
pick f false p q = q

find : {X : Type 0} (f : Option X → Admission) (o : Option X) → ((x : X) → Up (f (Some x))) → Up (f None) → Up (f o)
find f (Some x) p q = p x
find f None p q = q

batches : (node : Node) (now : State) (batch : BatchView) → Up (batch_answer node now batch)
batches node now batch =
    let full = if nat_le node.charter.batches (length now.batches) then Refused StoreFull else New (batch_outputs node batch) in
    find (λ o. when o gives (λ held. held_batch_answer node held batch) else full) (batch_in now (batch_digest batch))
    (λ held. pick (λ v. if v then Known (batch_outputs node held) else Refused DigestClash) (bytes_eq (batch_body held) (batch_body batch)) refl refl)
    (pick (λ v. if v then Refused StoreFull else New (batch_outputs node batch)) (nat_le node.charter.batches (length now.batches)) refl refl)

acks : (node : Node) (now : State) (ack : BatchAck) → Up (ack_answer node now ack)
acks node now ack =
    pick (λ v. if v then Refused NotOurs else if is_own node ack.author || now.acked ack.batch ack.author.0 then Known [] else New []) (not (has_own_batch node now ack.batch)) refl
    (pick (λ v. if v then Known [] else New []) (is_own node ack.author || now.acked ack.batch ack.author.0) refl refl)

-- a header for which nothing is known
free : (node : Node) (now : State) (header : Header) → Admission
free node now header =
    if not (all_held now.slots (floor_in node now) header.body) then Refused MissingParents
    else if not (list_all (may_name node now header) header.body.batches) then Refused MissingBatch
    else New (header_outputs node header)

free_up : (node : Node) (now : State) (header : Header) → Up (free node now header)
unfolding free
free_up node now header =
    pick (λ v. if v then Refused MissingParents else if not (list_all (may_name node now header) header.body.batches) then Refused MissingBatch else New (header_outputs node header))
    (not (all_held now.slots (floor_in node now) header.body)) refl
    (pick (λ v. if v then Refused MissingBatch else New (header_outputs node header)) (not (list_all (may_name node now header) header.body.batches)) refl refl)

known : (node : Node) (now : State) (header : Header) → Up (when known_header_answer node now header gives (λ answer. answer) else free node now header)
known node now header =
    let here = now.own_headers header.body.round in
    let there = now.votes header.body.round header.body.author.0 in
    pick (λ v. when (if v then option_map (λ held. held_header_answer node held header) here else option_map (λ voted. voted_answer node voted header)
    there) gives (λ answer. answer) else free node now header)
    (is_own node header.body.author)
    (find (λ o. when option_map (λ held. held_header_answer node held header) o gives (λ answer. answer) else free node now header) here
    (λ held. pick (λ v. if v then Known (header_outputs node held) else Refused AlreadyProposed)
    (same_digest (header_digest held.body) (header_digest header.body)) refl refl) (free_up node now header))
    (find (λ o. when option_map (λ voted. voted_answer node voted header) o gives (λ answer. answer) else free node now header) there
    (λ voted. pick (λ v. if v then Known (header_outputs node header) else Refused Equivocation) (same_digest voted (header_digest header.body)) refl refl) (free_up node now header))

headers : (node : Node) (now : State) (header : Header) → Up (header_answer node now header)
unfolding free
headers node now header =
    pick (λ v. if v then Refused TooOld else when known_header_answer node now header gives (λ answer. answer) else free node now header)
    (is_low (floor_in node now) header.body.round) refl (known node now header)

own : (node : Node) (now later : State) (header : Header) (vote : Vote) → Up (own_header_answer node now later header vote)
own node now later header vote =
    let rest = if is_some (now.counted vote.round vote.voter.0) then Known [] else New (vote_outputs node now later vote.round) in
    pick (λ v. if v then Refused NotOurs else when now.slots vote.round node.own.0 gives (λ held. held_answer held vote) else rest) (not (same_digest (header_digest header.body) vote.header)) refl
    (find (λ o. when o gives (λ held. held_answer held vote) else rest) (now.slots vote.round node.own.0)
    (λ held. pick (λ v. if v then Known (output.Certificate held ∷ []) else Refused CertConflict) (same_digest (header_digest held.header) vote.header) refl refl)
    (pick (λ v. if v then Known [] else New (vote_outputs node now later vote.round)) (is_some (now.counted vote.round vote.voter.0)) refl refl))

votes : (node : Node) (now later : State) (vote : Vote) → Up (vote_answer node now later vote)
votes node now later vote =
    let rest = when now.own_headers vote.round gives (λ header. own_header_answer node now later header vote) else Refused NotOurs in
    pick (λ v. if v then Refused NotOurs else if is_low (floor_in node now) vote.round then Refused TooOld else rest) (not (is_own node vote.author)) refl
    (pick (λ v. if v then Refused TooOld else rest) (is_low (floor_in node now) vote.round) refl
    (find (λ o. when o gives (λ header. own_header_answer node now later header vote) else Refused NotOurs) (now.own_headers vote.round) (λ header. own node now later header vote) refl))

certificates : (node : Node) (now later : State) (certificate : Certificate) → Up (certificate_answer node now later certificate)
certificates node now later certificate =
    let rest = if not (all_held now.slots (floor_in node now) certificate.header) then Refused MissingParents else New (order_outputs now later) in
    let slot = now.slots certificate.header.round certificate.header.author.0 in
    pick (λ v. if v then Refused TooOld else when slot gives (λ held. held_certificate_answer held certificate) else rest) (is_low (floor_in node now) certificate.header.round) refl
    (find (λ o. when o gives (λ held. held_certificate_answer held certificate) else rest) slot
    (λ held. pick (λ v. if v then Refused CertConflict else if same_header held.header certificate.header then Known [] else Refused DigestClash)
    (not (same_digest (certificate_digest held.header) (certificate_digest certificate.header))) refl
    (pick (λ v. if v then Known [] else Refused DigestClash) (same_header held.header certificate.header) refl refl))
    (pick (λ v. if v then Refused MissingParents else New (order_outputs now later)) (not (all_held now.slots (floor_in node now) certificate.header)) refl refl))

coins : (node : Node) (now later : State) (sender : Author) (coin : Coin) → Up (coin_answer node now later sender coin)
coins node now later sender coin =
    let last = if not (is_full node now.slots (2 * coin.wave + 1)) then Refused CoinEarly else New (order_outputs now later) in
    let rest = if not (coin.wave == length now.coins + 1) then Refused CoinOutOfTurn else last in
    pick (λ v. if v then Refused NotOurs else when slice_get now.coins (coin.wave - 1) gives
    (λ taken. if taken == coin.value then Known [] else Refused CoinConflict) else rest) (not (is_own node sender)) refl
    (find (λ o. when o gives (λ taken. if taken == coin.value then Known [] else Refused CoinConflict) else rest) (slice_get now.coins (coin.wave - 1))
    (λ taken. pick (λ v. if v then Known [] else Refused CoinConflict) (taken == coin.value) refl refl)
    (pick (λ v. if v then Refused CoinOutOfTurn else last) (not (coin.wave == length now.coins + 1)) refl
    (pick (λ v. if v then Refused CoinEarly else New (order_outputs now later)) (not (is_full node now.slots (2 * coin.wave + 1))) refl refl)))

up : (node : Node) (now later : State) (sender : Author) (m : Message) → Up (answer node now later (record { sender = sender; message = m }))
up node now later sender (message.Batch batch) = batches node now batch
up node now later sender (message.BatchAck ack) = acks node now ack
up node now later sender (message.Header header) = headers node now header
up node now later sender (message.Vote vote) = votes node now later vote
up node now later sender (message.Certificate certificate) = certificates node now later certificate
up node now later sender (message.Coin coin) = coins node now later sender coin

pub never_down : (node : Node) (now later : State) (event : Event) → answer node now later event ≢ Refused Down
never_down node now later event is = absurd (true≢false (sym (ap down is) ∙ up node now later event.sender event.message))

memory_not_down : Memory ≢ Down
memory_not_down same = absurd cc

-- so what comes of an event isn't that
pub comes_up : (answer : Admission) (result : Result Step Refusal) → IsAnswer answer result → answer ≢ Refused Down → IfErr result (λ refusal. refusal ≢ Down)
comes_up answer (Ok step) is not_down = tt
comes_up answer (Err refusal) (inl memory) not_down = λ same. memory_not_down (sym memory ∙ same)
comes_up answer (Err refusal) (inr refused) not_down = λ same. not_down (refused ∙ ap Refused same)
