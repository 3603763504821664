-- What comes in by a move, seen in the worlds of its cluster.
use Rattle.std.proofs.Common.{◌≡◌, ◌⊎◌, ℕ, Bool, true, false, cond, inl, inr, List, [], ◌∷◌, ◌++◌, map, Option, Some, None, refl, sym, ap, ◌∙◌, subst}
use Rattle.std.specs.Prelude.{◌||◌, Contains, slice_get, option_map, option_and_then}
use Rattle.std.proofs.lemmas.List.Elements.{Contains-get_or}
use Rattle.std.proofs.lemmas.Option.{slice_get_within, get_or_from_slice_get, same_Some, none-some}
use Rattle.std.specs.List.{list_any}
use Rattle.std.specs.Option.{option_map_or}
use Rattle.book.specs.declared.own.error.FlushError.TheVariants as errors
use Rattle.desk.specs.AtWorld.{IsStop}
use Rattle.header.specs.Checks.{fault_of}
use Rattle.spec_cluster.proofs.Unforged.{vote_unforged, certificate_unforged}
use Rattle.spec_cluster.specs.Cluster.{Cluster, Worlds, AreMembers, HaveRun}
use Rattle.spec_cluster.specs.Premises.{signed_by_giver, has_signed, NoForgery, HasCoin, ComesFair}
use Rattle.spec_laws.proofs.Lists.{Contains-nothing, Contains-cases}
use Rattle.spec_model.specs.Nodes.{Node}
use Rattle.spec_model.specs.Slots.{same_digest}
use Rattle.spec_model.specs.Words.{Author, Digest, Event, Message, Output}
use Rattle.spec_world.proofs.Ballots.{joined_of}
use Rattle.spec_world.specs.Steps.{Move, release}
use Rattle.spec_world.specs.World.{World, Waiting, Outgoing, put_out, read, Given}
use Rattle.wire.specs.declared.message.Message.TheVariants as message
use Rattle.wire.specs.declared.output.Output.TheVariants as output
use Rattle.cluster.specs.Answers.{Deed, TakesIn, MakesRound, Stops, Does}
use Rattle.cluster.specs.Applying.{event_asked, was_taken, handed_in, signed_by, NoneForged, StandsAmong}
use Rattle.cluster.specs.Cluster.{message_at, asked_in}
use Rattle.cluster.specs.Member.{MemberView, going_out}
use Rattle.cluster.specs.Outputs.{message_of, output_in, outputs_in}
use Rattle.cluster.specs.declared.moves.Applied.{Applied}
use Rattle.cluster.specs.declared.moves.Applied.TheVariants.{Took, Refused, Unchecked, Settled, Fault, Reopened}
use Rattle.cluster.specs.declared.moves.Move as moves
use Rattle.cluster.specs.declared.moves.Move.TheVariants as step
use Rattle.cluster.specs.declared.moves.Move.TheVariants.{Deliver, Give, Coin, Flush}
use Rattle.cluster.specs.declared.moves.Request.{Request}
use Rattle.cluster.specs.declared.moves.Request.TheVariants.{Take, Round, Stop}
use Rattle.cluster.proofs.Coming.{ArePlain, AllCome, plain_come, one_comes}
use Rattle.diskmodel.specs.Disk.{Device}
use Rattle.sigface.specs.Scheme.{Scheme}

first_is : {T : Type 0} (one other : T) → one ∷ [] ≡ other ∷ [] → one ≡ other
first_is one other same = cc

-- ---- signatures

abbrev signs : Digest → Outgoing → Bool
signs digest outgoing = option_map_or (same_digest digest) (signed_by_giver outgoing) false

signs_first : (digest : Digest) (outgoing : Outgoing) (outputs : List Output) (rest : Bool) → list_any (λ output. signs digest (put_out output)) outputs ≡ rest
    → list_any (λ output. signs digest (put_out output)) (output_in outgoing ++ outputs) ≡ signs digest outgoing || rest
signs_first digest (put_out output) outputs rest same = ap (λ (b : Bool). signs digest (put_out output) || b) same
signs_first digest (read digests) outputs rest same = same

-- what is signed in the outputs is signed in what was given out
any_outputs : (digest : Digest) (given : List Given) → list_any (λ output. signs digest (put_out output)) (outputs_in given) ≡ list_any (λ one. signs digest one.outgoing) given
any_outputs digest [] = refl
any_outputs digest (one ∷ given) = signs_first digest one.outgoing (outputs_in given) (list_any (λ one. signs digest one.outgoing) given) (any_outputs digest given)

-- an output went out
is_put_out : (outgoing : Outgoing) (out : Output) → Contains (output_in outgoing) out → outgoing ≡ put_out out
is_put_out (put_out one) out inside = elim (Contains-cases one [] out inside) [ inl same ↦ ap put_out same | inr none ↦ absurd (Contains-nothing out none) ]
is_put_out (read digests) out inside = absurd (Contains-nothing out inside)

-- ---- the moves of a member's world

-- what goes out after a move lets no event in
pub going_plain : (down : Bool) (went : List Waiting) → ArePlain (going_out down went)
going_plain true went = tt
going_plain false went = (tt, releases went)
  where
    releases : (went : List Waiting) → ArePlain (map release went)
    releases [] = tt
    releases (one ∷ went) = (tt, releases went)

stop_plain : (world : World) (moves : List Move) → IsStop world moves → ArePlain moves
stop_plain world moves (found, inl same) = subst ArePlain (sym same) (tt, tt)
stop_plain world moves (found, inr (inl same)) = subst ArePlain (sym same) (tt, (tt, (tt, (tt, (tt, tt)))))
stop_plain world moves (found, inr (inr same)) = subst ArePlain (sym same) (tt, (tt, (tt, (tt, (tt, (tt, (tt, (tt, (tt, tt)))))))))

module _ {S D : Type 0} (device : Device D) where
  pub round_plain : (own : Node) (applied : Applied) (deed : Deed S D) → MakesRound own device applied deed → ArePlain deed.moves
  round_plain own (Settled count) deed round = by_pending deed.before.book.pending refl
    where
      by_pending : (pending : List (List ℕ)) → deed.before.book.pending ≡ pending → ArePlain deed.moves
      by_pending [] is = subst ArePlain (sym (round.idle is).2) tt
      by_pending (first ∷ rest) is = subst ArePlain (sym (round.by (λ none. some_none (sym is ∙ none)))) (tt, (tt, (tt, (tt, (tt, (tt, tt))))))
        where
          some_none : first ∷ rest ≡ [] → ⊥
          some_none same = cc
  round_plain own (Fault errors.Memory) deed round = subst ArePlain (sym (round.unchanged (inr refl)).1) tt
  round_plain own (Fault errors.Down) deed round = subst ArePlain (sym (round.unchanged (inl refl)).1) tt
  round_plain own (Fault errors.Full) deed round = subst ArePlain (sym (round.taken_down (inl refl)).by) (tt, tt)
  round_plain own (Fault errors.Device) deed round = subst ArePlain (sym (round.taken_down (inr refl)).by) (tt, tt)
  round_plain own (Took ticket new) deed round = absurd round
  round_plain own (Refused why) deed round = absurd round
  round_plain own (Unchecked error) deed round = absurd round
  round_plain own (Reopened count) deed round = absurd round

  stops_plain : (own : Node) (applied : Applied) (deed : Deed S D) → Stops own device applied deed → ArePlain deed.moves
  stops_plain own (Reopened count) deed stop = stop_plain deed.world deed.moves stop.by
  stops_plain own (Took ticket new) deed stop = absurd stop
  stops_plain own (Refused why) deed stop = absurd stop
  stops_plain own (Unchecked error) deed stop = absurd stop
  stops_plain own (Settled count) deed stop = absurd stop
  stops_plain own (Fault error) deed stop = absurd stop

  module _ (scheme : Scheme S) (cluster : Cluster) (worlds : Worlds) (members : List (MemberView S D))
      (stand : (number : Author) → cluster.honest number.0 ≡ true → StandsAmong scheme device members number (cluster.node number.0) (worlds number.0)) where
    -- what a member has signed in its outputs it has signed in its world
    signed_there : (number : Author) → cluster.honest number.0 ≡ true → (digest : Digest) → signed_by members number digest ≡ true → has_signed (worlds number.0) digest ≡ true
    signed_there number honest digest is =
        let at_world = stand number honest in
        sym (any_outputs digest (worlds number.0).given)
        ∙ ap (list_any (λ output. signs digest (put_out output))) at_world.stands.out.outputs
        ∙ sym (ap (λ (found : Option (MemberView S D)). option_map_or (λ member. list_any (λ output. signs digest (put_out output)) member.out.outputs) found false) at_world.is)
        ∙ is

    -- what isn't forged by the outputs isn't in the worlds
    pub unforged_there : (m : Message) → NoneForged cluster members m → NoForgery cluster worlds m
    unforged_there m none vote there honest good = signed_there vote.signer honest vote.digest (none vote there honest good)

    module _ (value : ℕ → ℕ) (are_members : AreMembers cluster) (have : HaveRun cluster (ComesFair cluster value worlds) worlds) where
      -- no vote in what an honest member put out is forged, and it is no coin
      given_fair : (number : ℕ) → cluster.honest number ≡ true → (one : Given) → Contains (worlds number).given one → (out : Output) → one.outgoing
          ≡ put_out out → (m : Message) → message_of out ≡ Some m
          → NoForgery cluster worlds m × HasCoin value m
      given_fair number honest one there (output.Batch batch) is m same =
          subst (λ (x : Message). NoForgery cluster worlds x × HasCoin value x) (same_Some (message.Batch batch) m same) (λ vote inside signer good. absurd (Contains-nothing vote inside), tt)
      given_fair number honest one there (output.Ack to ack) is m same =
          subst (λ (x : Message). NoForgery cluster worlds x × HasCoin value x) (same_Some (message.BatchAck ack) m same) (λ vote inside signer good. absurd (Contains-nothing vote inside), tt)
      given_fair number honest one there (output.Header header) is m same =
          subst (λ (x : Message). NoForgery cluster worlds x × HasCoin value x) (same_Some (message.Header header) m same) (λ vote inside signer good. absurd (Contains-nothing vote inside), tt)
      given_fair number honest one there (output.Vote vote) is m same =
          subst (λ (x : Message). NoForgery cluster worlds x × HasCoin value x) (same_Some (message.Vote vote) m same)
          (vote_unforged cluster value worlds are_members have number honest one there vote is, tt)
      given_fair number honest one there (output.Certificate certificate) is m same =
          subst (λ (x : Message). NoForgery cluster worlds x × HasCoin value x) (same_Some (message.Certificate certificate) m same)
          (certificate_unforged cluster value worlds are_members have number honest one there certificate is, tt)
      given_fair number honest one there (output.Order start digests) is m same = absurd (none-some m same)

      -- what an honest member put out is fair where it is delivered
      pub sent_fair : (from : Author) → cluster.honest from.0 ≡ true → (place : ℕ) (m : Message) → message_at members from place ≡ Some m → NoForgery cluster worlds m × HasCoin value m
      sent_fair from honest place m is = by_output (slice_get among.member.out.outputs place) refl
          (sym (ap (option_and_then (λ (k : MemberView S D). option_and_then message_of (slice_get k.out.outputs place))) among.is) ∙ is)
        where
          among : StandsAmong scheme device members from (cluster.node from.0) (worlds from.0)
          among = stand from honest

          by_output : (out : Option Output) → slice_get among.member.out.outputs place ≡ out → option_and_then message_of out ≡ Some m → NoForgery cluster worlds m × HasCoin value m
          by_output None at_place same = absurd (none-some m same)
          by_output (Some out) at_place same =
              let inside : Contains among.member.out.outputs out =
              subst (λ (o : Output). Contains among.member.out.outputs o) (get_or_from_slice_get among.member.out.outputs place out out at_place)
              (Contains-get_or among.member.out.outputs place out (slice_get_within among.member.out.outputs place out at_place)) in
              let found = joined_of (λ (one : Given). output_in one.outgoing) (worlds from.0).given out (subst (λ (l : List Output). Contains l out) (sym among.stands.out.outputs) inside) in
              given_fair from.0 honest found.0 found.1 out (is_put_out found.0.outgoing out found.2) m same

-- ---- what comes in

-- What is known of an event that came in: it passed the checks, is among these events, no vote in it is forged, in the worlds before or by
-- the outputs after it, and a coin has its value.
pub record Came {S D : Type 0} (cluster : Cluster) (value : ℕ → ℕ) (events : List Event) (worlds : Worlds) (later : List (MemberView S D)) (event : Event) : Type 0 where
  pub passed : fault_of cluster.charter cluster.accepts event ≡ None
  pub within : Contains events event
  pub unforged : NoForgery cluster worlds event.message ⊎ NoneForged cluster later event.message
  pub coin : HasCoin value event.message

module _ {S D : Type 0} (device : Device D) (cluster : Cluster) (Comes : Event → Type 0) (own : Node) (charter : own.charter ≡ cluster.charter) where
  -- by the moves by which a desk takes an event
  pub takes_come : (event : Event) (applied : Applied) (deed : Deed S D) → TakesIn own cluster.accepts event applied deed
      → (was_taken applied ≡ true → fault_of cluster.charter cluster.accepts event ≡ None → Comes event) → AllCome Comes deed.moves
  takes_come event (Took ticket new) deed takes comes =
      let passed : fault_of cluster.charter cluster.accepts event ≡ None = subst (λ c. fault_of c cluster.accepts event ≡ None) charter takes.passed in
      subst (AllCome Comes) (sym takes.by) (one_comes Comes event (comes refl passed))
  takes_come event (Refused why) deed takes comes = subst (AllCome Comes) (sym takes.by) (plain_come Comes [] tt)
  takes_come event (Unchecked error) deed takes comes = subst (AllCome Comes) (sym takes.by) (plain_come Comes [] tt)
  takes_come event (Settled count) deed takes comes = absurd takes
  takes_come event (Fault error) deed takes comes = absurd takes
  takes_come event (Reopened count) deed takes comes = absurd takes

  -- and by those that are made of a request
  pub does_come : (request : Request) (applied : Applied) (deed : Deed S D) → Does own device cluster.accepts request applied deed
      → ((event : Event) → event_asked (Some request) ≡ event ∷ [] → was_taken applied ≡ true → fault_of cluster.charter cluster.accepts event ≡ None → Comes event) → AllCome Comes deed.moves
  does_come (Take sender given) applied deed does comes =
      let event : Event = record { sender = sender; message = given } in
      takes_come event applied deed does (comes event refl)
  does_come Round applied deed does comes = plain_come Comes deed.moves (round_plain device own applied deed does)
  does_come Stop applied deed does comes = plain_come Comes deed.moves (stops_plain device own applied deed does)

-- an honest member put out the message of an event, which names it as its sender
pub record IsSentOut {S D : Type 0} (cluster : Cluster) (members : List (MemberView S D)) (event : Event) : Type 0 where
  pub from : Author
  pub honest : cluster.honest from.0 ≡ true
  pub place : ℕ
  pub is : message_at members from place ≡ Some event.message

-- the event of a move that asks a node to take one was so put out, or is handed in
pub source : {S D : Type 0} (cluster : Cluster) (members : List (MemberView S D)) (step : moves.Move) (event : Event) → event_asked (asked_in members step) ≡ event ∷ []
    → IsSentOut cluster members event ⊎ (handed_in cluster.honest members step ≡ Some event)
source cluster members (Deliver from output to) event is = by_message (message_at members from output) refl is
  where
    by_message : (found : Option Message) → message_at members from output ≡ found → event_asked (option_map (λ message. Take from message) found) ≡ event ∷ []
        → IsSentOut cluster members event ⊎ (handed_in cluster.honest members (Deliver from output to) ≡ Some event)
    by_message None at_place so = absurd cc
    by_message (Some m) at_place so = by_sender (cluster.honest from.0) refl
      where
        same : record { sender = from; message = m } ≡ event
        same = first_is (record { sender = from; message = m }) event so

        by_sender : (honest : Bool) → cluster.honest from.0 ≡ honest → IsSentOut cluster members event ⊎ (handed_in cluster.honest members (Deliver from output to) ≡ Some event)
        by_sender true honest = inl (record { from = from; honest = honest; place = output; is = at_place ∙ ap (λ (e : Event). Some e.message) same })
        by_sender false off =
            inr (ap (λ (b : Bool). cond b None (option_map (λ (m : Message). record { sender = from; message = m }) (message_at members from output))) off
            ∙ ap (option_map (λ (m : Message). record { sender = from; message = m })) at_place ∙ ap (λ (e : Event). Some e) same)
source cluster members (Give to sender given) event is = inr (ap (λ (e : Event). Some e) (first_is (record { sender = sender; message = given }) event is))
source cluster members (Coin from coin) event is = inr (ap (λ (e : Event). Some e) (first_is (record { sender = from; message = message.Coin coin }) event is))
source cluster members (Flush from) event is = absurd cc
source cluster members (step.Stop from) event is = absurd cc
