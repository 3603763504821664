-- What stays in all of a node's runs, and where what it has comes from.
use Rattle.std.proofs.Common.{◌≡◌, ◌⊎◌, List, [], ◌∷◌, ◌++◌, Some, inl, inr, refl, ap, sym, ◌∙◌, subst, append_assoc}
use Rattle.std.specs.Prelude.{Contains}
use Rattle.std.proofs.lemmas.List.{append-nil}
use Rattle.std.proofs.lemmas.List.Elements.{Contains-append_left, Contains-append_cases}
use Rattle.std.specs.Prelude.{option_map}
use Rattle.spec_laws.proofs.Lists.{Contains-nothing, Contains-cases, Contains-first, Contains-later}
use Rattle.spec_laws.proofs.OrderGrows.{order_grows}
use Rattle.spec_laws.proofs.Votes.{one_header}
use Rattle.spec_model.specs.Admitting.{admit, IsLegal}
use Rattle.spec_model.specs.Histories.{History}
use Rattle.wire.specs.Lists.{Begins}
use Rattle.spec_model.specs.Holdings.{order, voted_header, voted_digest}
use Rattle.spec_model.specs.Nodes.{Node}
use Rattle.spec_model.specs.Slots.{header_digest}
use Rattle.spec_model.specs.Words.{Event, Header}
use Rattle.header.specs.declared.admission.Admission.{Admission}
use Rattle.header.specs.declared.admission.Admission.TheVariants.{New, Known, Refused}
use Rattle.spec_world.specs.World.{World, Given, first_of}
use Rattle.spec_world.specs.Steps.{Move, accept, take_to, device_call, settle, release, read_order, take_all, spare_call, restart, IsFirst, IsAnswered, IsStep, Leads}
use Rattle.spec_world.specs.Promise.{Ballot}
use Rattle.spec_world.specs.Lasting.{settled_in, SettledGrows, GivenStays, EventsCameIn, GivenVotesAreSettled, GivenOrdersAreSettled}
use Rattle.spec_world.proofs.Ballots.{voted_for}
use Rattle.spec_world.proofs.Law.{run_stands, first_empty, first_stands, vote_there, legal_at, kept}
use Rattle.spec_world.proofs.Moving.{spare_call_keeps, step_stands}
use Rattle.spec_world.proofs.Orders.{begins_same, begins_trans, begins_join, order_of}
use Rattle.spec_world.proofs.Standing.{Stands, settled_legal}

-- ---- what is settled grows

same_settled : (world next : World) → next.began ≡ world.began → next.settled ≡ world.settled → Begins (settled_in world) (settled_in next)
same_settled world next began settled = subst (Begins (settled_in world)) (λ i. sym began i ++ sym settled i) (begins_same (settled_in world))

answered_settled : (world next : World) (event : Event) (answer : Admission) → IsAnswered world event answer next → Begins (settled_in world) (settled_in next)
answered_settled world next event (New outputs) is = same_settled world next (ap (λ (w : World). w.began) is) (ap (λ (w : World). w.settled) is)
answered_settled world next event (Known outputs) is = same_settled world next (ap (λ (w : World). w.began) is) (ap (λ (w : World). w.settled) is)
answered_settled world next event (Refused refusal) is = absurd is

step_settled : (node : Node) (world : World) (move : Move) (next : World) → Stands node world → IsStep node world move next → Begins (settled_in world) (settled_in next)
step_settled node world (accept event) next at step = answered_settled world next event (admit node (world.began ++ world.accepted) event) step.is
step_settled node world (take_to count) next at step = same_settled world next (ap (λ (w : World). w.began) step.is) (ap (λ (w : World). w.settled) step.is)
step_settled node world device_call next at step = same_settled world next (ap (λ (w : World). w.began) step.is) (ap (λ (w : World). w.settled) step.is)
step_settled node world settle next at step =
    let grown = begins_join world.began world.settled (world.settled ++ first_of world.groups) (record { rest = first_of world.groups; parts = refl }) in
    subst (λ (w : World). Begins (settled_in world) (settled_in w)) (sym step.is) grown
step_settled node world (release waiting) next at step = same_settled world next (ap (λ (w : World). w.began) step.is) (ap (λ (w : World). w.settled) step.is)
step_settled node world read_order next at step = same_settled world next (ap (λ (w : World). w.began) step) (ap (λ (w : World). w.settled) step)
step_settled node world (take_all bytes) next at step = same_settled world next (ap (λ (w : World). w.began) step.is) (ap (λ (w : World). w.settled) step.is)
step_settled node world spare_call next at step = let keeps = spare_call_keeps world next step in same_settled world next keeps.0 keeps.2
step_settled node world (restart found) next at step =
    let none : next.settled ≡ [] = ap (λ (w : World). w.settled) step.is in
    let all : next.began ≡ settled_in next = sym (append-nil next.began) ∙ ap (λ (l : History). next.began ++ l) (sym none) in
    subst (Begins (settled_in world)) all step.recovered.settled

pub settled_grows : SettledGrows
settled_grows node moves world move next sound run step = step_settled node world move next (run_stands node moves world sound run) step

-- ---- what was given out stays

same_given : (world next : World) → next.given ≡ world.given → Begins world.given next.given
same_given world next is = subst (Begins world.given) (sym is) (begins_same world.given)

one_given : (world next : World) (more : Given) → next.given ≡ world.given ++ more ∷ [] → Begins world.given next.given
one_given world next more is = record { rest = more ∷ []; parts = is }

answered_given : (world next : World) (event : Event) (answer : Admission) → IsAnswered world event answer next → Begins world.given next.given
answered_given world next event (New outputs) is = same_given world next (ap (λ (w : World). w.given) is)
answered_given world next event (Known outputs) is = same_given world next (ap (λ (w : World). w.given) is)
answered_given world next event (Refused refusal) is = absurd is

pub given_stays : GivenStays
given_stays node world (accept event) next step = answered_given world next event (admit node (world.began ++ world.accepted) event) step.is
given_stays node world (take_to count) next step = same_given world next (ap (λ (w : World). w.given) step.is)
given_stays node world device_call next step = same_given world next (ap (λ (w : World). w.given) step.is)
given_stays node world settle next step = same_given world next (ap (λ (w : World). w.given) step.is)
given_stays node world (release waiting) next step = one_given world next _ (ap (λ (w : World). w.given) step.is)
given_stays node world read_order next step = one_given world next _ (ap (λ (w : World). w.given) step)
given_stays node world (take_all bytes) next step = same_given world next (ap (λ (w : World). w.given) step.is)
given_stays node world spare_call next step = same_given world next (spare_call_keeps world next step).3
given_stays node world (restart found) next step = same_given world next (ap (λ (w : World). w.given) step.is)

-- ---- each event came in by a move

-- an event after a step was there before it, or came in by it
abbrev CameBy : World → Move → Event → Type 0
CameBy world move event = Contains (world.began ++ world.accepted) event ⊎ (move ≡ accept event)

same_events : (world next : World) (move : Move) (event : Event) → next.began ≡ world.began → next.accepted ≡ world.accepted → Contains (next.began ++ next.accepted) event → CameBy world move event
same_events world next move event began accepted inside = inl (subst (λ l. Contains l event) (λ i. began i ++ accepted i) inside)

answered_events : (world next : World) (came event : Event) (answer : Admission) → IsAnswered world came answer next → Contains (next.began ++ next.accepted) event → CameBy world (accept came) event
answered_events world next came event (New outputs) is inside =
    let all : next.began ++ next.accepted ≡ (world.began ++ world.accepted) ++ came ∷ [] =
    (λ i. ap (λ (w : World). w.began) is i ++ ap (λ (w : World). w.accepted) is i) ∙ sym (append_assoc world.began world.accepted (came ∷ [])) in
    elim (Contains-append_cases (world.began ++ world.accepted) (came ∷ []) event (subst (λ l. Contains l event) all inside)) [
      | inl before ↦ inl before
      | inr new ↦ elim (Contains-cases came [] event new) [ inl same ↦ inr (ap accept same) | inr none ↦ absurd (Contains-nothing event none) ]
    ]
answered_events world next came event (Known outputs) is inside = same_events world next (accept came) event (ap (λ (w : World). w.began) is) (ap (λ (w : World). w.accepted) is) inside
answered_events world next came event (Refused refusal) is inside = absurd is

step_events : (node : Node) (world : World) (move : Move) (next : World) (event : Event) → Stands node world → IsStep node world move next
    → Contains (next.began ++ next.accepted) event → CameBy world move event
step_events node world (accept came) next event at step inside = answered_events world next came event (admit node (world.began ++ world.accepted) came) step.is inside
step_events node world (take_to count) next event at step inside = same_events world next (take_to count) event (ap (λ (w : World). w.began) step.is) (ap (λ (w : World). w.accepted) step.is) inside
step_events node world device_call next event at step inside = same_events world next device_call event (ap (λ (w : World). w.began) step.is) (ap (λ (w : World). w.accepted) step.is) inside
step_events node world settle next event at step inside = same_events world next settle event (ap (λ (w : World). w.began) step.is) (ap (λ (w : World). w.accepted) step.is) inside
step_events node world (release waiting) next event at step inside = same_events world next (release waiting) event
    (ap (λ (w : World). w.began) step.is) (ap (λ (w : World). w.accepted) step.is) inside
step_events node world read_order next event at step inside = same_events world next read_order event (ap (λ (w : World). w.began) step) (ap (λ (w : World). w.accepted) step) inside
step_events node world (take_all bytes) next event at step inside = same_events world next (take_all bytes) event (ap (λ (w : World). w.began) step.is) (ap (λ (w : World). w.accepted) step.is) inside
step_events node world spare_call next event at step inside = let keeps = spare_call_keeps world next step in same_events world next spare_call event keeps.0 keeps.1 inside
step_events node world (restart found) next event at step inside =
    let all : next.began ++ next.accepted ≡ next.began = (λ i. next.began ++ ap (λ (w : World). w.accepted) step.is i) ∙ append-nil next.began in
    let begins = step.recovered.accepted in
    inl (subst (λ l. Contains l event) (sym begins.parts) (Contains-append_left next.began begins.rest event (subst (λ l. Contains l event) all inside)))

moves_events : (node : Node) (moves : List Move) (world last : World) (event : Event) → Stands node world → Leads node world moves last → Contains (last.began ++ last.accepted) event
    → Contains (world.began ++ world.accepted) event ⊎ Contains moves (accept event)
moves_events node [] world last event at leads inside = inl (subst (λ (w : World). Contains (w.began ++ w.accepted) event) (sym leads) inside)
moves_events node (move ∷ moves) world last event at leads inside =
    elim (moves_events node moves leads.0 last event (step_stands node world move leads.0 at leads.1) leads.2 inside) [
      | inl here ↦ elim (step_events node world move leads.0 event at leads.1 here) [
        | inl before ↦ inl before
        | inr came ↦ inr (subst (λ (m : Move). Contains (m ∷ moves) (accept event)) (sym came) (Contains-first moves (accept event)))
      ]
      | inr later ↦ inr (Contains-later move moves (accept event) later)
    ]

first_accepted : (node : Node) (first : World) → IsFirst node first → first.accepted ≡ []
first_accepted node first (inl one) = ap (λ (w : World). w.accepted) one.is
first_accepted node first (inr two) = ap (λ (w : World). w.accepted) two.is

pub events_came_in : EventsCameIn
events_came_in node moves world event sound run inside =
    let first = run.first in
    let none : first.began ++ first.accepted ≡ [] = (λ i. first_empty node first run.begins i ++ first_accepted node first run.begins i) in
    elim (moves_events node moves first world event (first_stands node first run.begins) run.leads inside) [
      | inl there ↦ absurd (Contains-nothing event (subst (λ l. Contains l event) none there))
      | inr came ↦ came
    ]

-- ---- votes and orders that were given out

pub given_votes_are_settled : GivenVotesAreSettled
given_votes_are_settled node moves world given ballot sound run there is =
    let at = run_stands node moves world sound run in
    let has = vote_there node world at given ballot there is in
    let voted = voted_for node (settled_in world) has.output ballot has.may has.is in
    let header = voted.header in
    let held : voted_header (settled_in world) header.body.round header.body.author.0 ≡ Some header = one_header node (settled_in world) (settled_legal node world at) header voted.there in
    subst (λ (b : Ballot). voted_digest (settled_in world) b.round b.author.0 ≡ Some b.header) voted.is (ap (option_map (λ (h : Header). header_digest h.body)) held)

pub given_orders_are_settled : GivenOrdersAreSettled
given_orders_are_settled node moves world given digests sound run there is =
    let at = run_stands node moves world sound run in
    let is_kept = kept node world at given there in
    let legal = settled_legal node world at in
    let begins = is_kept.begins in
    let within = order_of node given.history given.outgoing digests (legal_at node world at given there) is_kept.ended is in
    let grows : Begins (order node given.history) (order node (settled_in world)) =
    subst (λ h. Begins (order node given.history) (order node h)) (sym begins.parts) (order_grows node given.history begins.rest (subst (IsLegal node) begins.parts legal)) in
    begins_trans digests (order node given.history) (order node (settled_in world)) within.within grows
