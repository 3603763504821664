-- What is found again of a world in which nothing is in flight, or a group or a rewriting that was taken last.
use Rattle.std.proofs.Common.{◌≡◌, ℕ, zero, suc, ◌+◌, ◌-◌, ◌≤◌, eqb, Bool, cond, inl, inr, List, [], ◌∷◌, ◌++◌, length, drop, take, refl, sym, ap, ◌∙◌, subst, arith, append-nil}
use Rattle.std.proofs.lemmas.Bool.{cases_Bool}
use Rattle.std.proofs.lemmas.List.{length-map, take_all, drop_at}
use Rattle.journal.specs.Areas.{Areas, rewrite_calls}
use Rattle.spec_laws.proofs.Legal.{legal-begins}
use Rattle.spec_model.specs.Admitting.{IsLegal}
use Rattle.spec_model.specs.Giving.{kept as kept_in}
use Rattle.spec_model.specs.Histories.{History}
use Rattle.spec_model.specs.Nodes.{Node, IsNode}
use Rattle.spec_records.specs.Records.{record_of}
use Rattle.spec_world.specs.World.{World, events_of, taken_in, durable_in, first_of, StandsFor, as_journal}
use Rattle.spec_world.specs.Steps.{Move, device_call, settle, group_to, IsRecovered, IsSpareCalled, with_spare_call, with_rewritten, IsStep, Leads, IsRun}
use Rattle.spec_world.specs.Runs.{areas_in, spare_calls}
use Rattle.spec_world.proofs.GoingOn.{idle_holds, groups_settle, checkpoints_settle}
use Rattle.spec_world.proofs.Groups.{taken_more}
use Rattle.spec_world.proofs.Law.{run_stands, nothing_taken_back}
use Rattle.spec_world.proofs.Orders.{begins_join}
use Rattle.spec_world.proofs.Scripts.{run_more}
use Rattle.spec_world.proofs.Standing.{Stands, settled_accepted, settled_legal}
use Rattle.wire.specs.Lists.{Begins}
use Rattle.desk.specs.AtWorld.{HasTaken, HasTakenAll}

-- a run that has taken what is settled
pub none_taken : (world : World) → world.groups ≡ [] → taken_in world ≡ world.settled
none_taken world idle = ap (λ (l : List History). world.settled ++ events_of l) idle ∙ append-nil world.settled

-- where no group is written to its end, what is settled may be found again
settled_recovered : (node : Node) (world : World) → Stands node world → world.durable ≡ 0 → IsRecovered node world (world.began ++ world.settled)
settled_recovered node world at none =
    let written : durable_in world ≡ world.settled = ap (λ (n : ℕ). world.settled ++ events_of (take n world.groups)) none ∙ append-nil world.settled in
    record {
      legal = settled_legal node world at;
      accepted = begins_join world.began world.settled world.accepted (settled_accepted node world at);
      settled = record { rest = []; parts = sym (append-nil (world.began ++ world.settled)) };
      whole = inl (ap (λ (l : History). world.began ++ l) (sym written));
      without_group = λ _. refl;
    }

-- where each group is, all that was taken may
taken_recovered : (node : Node) (world : World) → Stands node world → length world.groups ≤ world.durable → IsRecovered node world (world.began ++ taken_in world)
taken_recovered node world at all =
    let written : durable_in world ≡ taken_in world = ap (λ (l : List History). world.settled ++ events_of l) (take_all world.durable world.groups all) in
    let begins = begins_join world.began (taken_in world) world.accepted at.taken in
    record {
      legal = legal-begins node (world.began ++ taken_in world) begins.rest (subst (IsLegal node) begins.parts at.legal);
      accepted = begins;
      settled = begins_join world.began world.settled (taken_in world) (record { rest = events_of world.groups; parts = refl });
      whole = inl (ap (λ (l : History). world.began ++ l) (sym written));
      without_group = λ none. ap (λ (l : History). world.began ++ l) (none_taken world none);
    }

-- a stop may leave what a read gives now, which stands for what is kept of this history
pub record IsFoundAgain (node : Node) (world : World) (history : History) : Type 0 where
  pub recovered : IsRecovered node world history
  pub stands : StandsFor node (areas_in world) (kept_in node history)

-- where no group is in flight that is what is settled
pub idle_found : (node : Node) (moves : List Move) (world : World) → IsNode node → IsRun node moves world → world.groups ≡ [] → IsFoundAgain node world (world.began ++ world.settled)
idle_found node moves world sound run idle =
    let at = run_stands node moves world sound run in
    record { recovered = settled_recovered node world at (omega (arith, at.within, ap length idle)); stands = as_journal (idle_holds node world at idle) }

-- and so it is right after a group was taken there
pub taken_found : (node : Node) (moves : List Move) (world : World) → IsNode node → IsRun node moves world → HasTaken node world → IsFoundAgain node world (world.began ++ world.settled)
taken_found node moves world sound run has =
    let before = has.before in
    let at = run_stands node has.moves before sound has.run in
    let same = has.taken.is in
    let none : world.durable ≡ 0 = ap (λ (w : World). w.durable) same ∙ (omega (arith, at.within, ap length has.idle)) in
    let all : before.began ++ before.settled ≡ world.began ++ world.settled = sym (ap (λ (w : World). w.began ++ w.settled) same) in
    record {
      recovered = settled_recovered node world (run_stands node moves world sound run) none;
      stands = subst (λ (a : Areas). StandsFor node a (kept_in node (world.began ++ world.settled))) (sym (ap areas_in same))
          (subst (λ (h : History). StandsFor node (areas_in before) (kept_in node h)) all (as_journal (idle_holds node before at has.idle)));
    }

-- the four device calls after that, after which all that was taken is found again
pub record CallsFour (node : Node) (world : World) : Type 0 where
  pub next : World
  pub leads : Leads node world (device_call ∷ device_call ∷ device_call ∷ device_call ∷ []) next
  pub found : IsFoundAgain node next (world.began ++ taken_in world)

pub calls_four : (node : Node) (moves : List Move) (world : World) → IsNode node → IsRun node moves world → HasTaken node world → CallsFour node world
calls_four node moves world sound run has =
    let before = has.before in
    let there = groups_settle node has.moves before has.count sound has.run has.idle has.taken.fits in
    let last = there.0 in
    let settled = there.2 in
    let one = there.1.0 in
    let rest = there.1.2 in
    let same : one ≡ world = there.1.1.is ∙ sym has.taken.is in
    let two = rest.0 in
    let three = rest.2.0 in
    let four = rest.2.2.0 in
    let five = rest.2.2.2.0 in
    let step = rest.2.2.2.2.1 in
    let end = rest.2.2.2.2.2 in
    let last_is = sym end ∙ step.is in
    let calls : Leads node world (device_call ∷ device_call ∷ device_call ∷ device_call ∷ []) five =
    (two, subst (λ (w : World). IsStep node w device_call two) same rest.1, (three, rest.2.1, (four, rest.2.2.1, (five, rest.2.2.2.1, refl)))) in
    let groups : five.groups ≡ group_to before has.count ∷ [] =
    ap (λ (w : World). w.groups) rest.2.2.2.1.is ∙ ap (λ (w : World). w.groups) rest.2.2.1.is ∙ ap (λ (w : World). w.groups) rest.2.1.is
    ∙ ap (λ (w : World). w.groups) rest.1.is ∙ ap (λ (w : World). w.groups) there.1.1.is ∙ ap (λ (l : List History). l ++ group_to before has.count ∷ []) has.idle in
    let all : five.began ++ taken_in five ≡ world.began ++ taken_in world =
    ap (λ (w : World). w.began ++ taken_in w) rest.2.2.2.1.is ∙ ap (λ (w : World). w.began ++ taken_in w) rest.2.2.1.is ∙ ap (λ (w : World). w.began ++ taken_in w) rest.2.1.is
    ∙ ap (λ (w : World). w.began ++ taken_in w) rest.1.is ∙ ap (λ (w : World). w.began ++ taken_in w) same in
    let law = nothing_taken_back node has.moves before sound has.run in
    let began : world.began ≡ before.began = ap (λ (w : World). w.began) has.taken.is in
    let some : 1 ≤ length (group_to before has.count) = omega (arith, has.taken.fits.some, length-map (group_to before has.count) record_of) in
    let taken : taken_in world ≡ take has.count before.accepted = ap taken_in has.taken.is ∙ taken_more before has.count law.in_order.taken some in
    let holds : last.began ++ last.settled ≡ world.began ++ taken_in world = (λ i. (settled.began ∙ sym began) i ++ (settled.settled ∙ sym taken) i) in
    let at = run_stands node (moves ++ device_call ∷ device_call ∷ device_call ∷ device_call ∷ []) five sound
    (run_more node moves (device_call ∷ device_call ∷ device_call ∷ device_call ∷ []) world five run calls) in
    record {
      next = five;
      leads = calls;
      found = record {
        recovered = subst (IsRecovered node five) all (taken_recovered node five at (omega (arith, step.done, ap length groups)));
        stands = subst (λ (a : Areas). StandsFor node a (kept_in node (world.began ++ taken_in world))) (ap areas_in last_is)
            (subst (λ (h : History). StandsFor node (areas_in last) (kept_in node h)) holds (as_journal settled.holds));
      };
    }

-- ---- a rewriting

-- moves that lead on in two parts
record LeadsBy (node : Node) (one two : List Move) (world last : World) : Type 0 where
  mid : World
  first : Leads node world one mid
  then : Leads node mid two last

leads_split : (node : Node) (one two : List Move) (world last : World) → Leads node world (one ++ two) last → LeadsBy node one two world last
leads_split node [] two world last leads = record { mid = world; first = refl; then = leads }
leads_split node (move ∷ one) two world last leads =
    let rest = leads_split node one two leads.0 last leads.2 in
    record { mid = rest.mid; first = (leads.0, leads.1, rest.first); then = rest.then }

-- what the device calls of a rewriting leave as it was
record KeepsInFlight (world next : World) : Type 0 where
  began : next.began ≡ world.began
  settled : next.settled ≡ world.settled
  groups : next.groups ≡ world.groups

spare_keeps : (world next : World) → IsSpareCalled world next → KeepsInFlight world next
spare_keeps world next is =
    let last = eqb (is.rewriting.made + 1) (length (rewrite_calls is.rewriting.bytes)) in
    let ended = with_rewritten world is.spare is.call in
    let more = with_spare_call world is.spare is.rewriting is.call in
    elim (cases_Bool last) [
      | inl so ↦ kept_by next ended (is.is ∙ ap (λ (b : Bool). cond b ended more) so) (record { began = refl; settled = refl; groups = refl })
      | inr off ↦ kept_by next more (is.is ∙ ap (λ (b : Bool). cond b ended more) off) (record { began = refl; settled = refl; groups = refl })
    ]
  where
    kept_by : (one there : World) → one ≡ there → KeepsInFlight world there → KeepsInFlight world one
    kept_by one there same keeps = subst (KeepsInFlight world) (sym same) keeps

spares_keep : (node : Node) (count : ℕ) (world next : World) → Leads node world (spare_calls count) next → KeepsInFlight world next
spares_keep node zero world next leads = subst (KeepsInFlight world) leads (record { began = refl; settled = refl; groups = refl })
spares_keep node (suc count) world next leads =
    let first = spare_keeps world leads.0 leads.1 in
    let rest = spares_keep node count leads.0 next leads.2 in
    record { began = rest.began ∙ first.began; settled = rest.settled ∙ first.settled; groups = rest.groups ∙ first.groups }

-- right after all was taken for a checkpoint what is settled is found again
pub taken_all_found : (node : Node) (moves : List Move) (world : World) → IsNode node → IsRun node moves world → HasTakenAll node world → IsFoundAgain node world (world.began ++ world.settled)
taken_all_found node moves world sound run has =
    let before = has.before in
    let at = run_stands node has.moves before sound has.run in
    let same = has.taken.is in
    let none : world.durable ≡ 0 = ap (λ (w : World). w.durable) same ∙ (omega (arith, at.within, ap length has.taken.idle)) in
    let all : before.began ++ before.settled ≡ world.began ++ world.settled = sym (ap (λ (w : World). w.began ++ w.settled) same) in
    record {
      recovered = settled_recovered node world (run_stands node moves world sound run) none;
      stands = subst (λ (a : Areas). StandsFor node a (kept_in node (world.began ++ world.settled))) (sym (ap areas_in same))
          (subst (λ (h : History). StandsFor node (areas_in before) (kept_in node h)) all (as_journal (idle_holds node before at has.taken.idle)));
    }

-- what isn't settled, after what is, is all that was accepted
rest_joins : {X : Type 0} (settled accepted : List X) → Begins settled accepted → settled ++ (drop (length settled) accepted ++ []) ≡ accepted
rest_joins settled accepted begins =
    ap (λ l. settled ++ l) (append-nil (drop (length settled) accepted) ∙ ap (drop (length settled)) begins.parts ∙ drop_at settled begins.rest (length settled) refl) ∙ sym begins.parts

-- after the eight device calls of the rewriting all that was accepted is found again
pub record CallsEight (node : Node) (world : World) : Type 0 where
  pub next : World
  pub leads : Leads node world (spare_calls 8) next
  pub found : IsFoundAgain node next (world.began ++ taken_in world)

pub calls_eight : (node : Node) (moves : List Move) (world : World) → IsNode node → IsRun node moves world → HasTakenAll node world → CallsEight node world
calls_eight node moves world sound run has =
    let before = has.before in
    let take = has.taken in
    let there = checkpoints_settle node has.moves before take.spare has.bytes sound has.run take.idle take.pair take.checkpoint in
    let last = there.0 in
    let settled = there.2 in
    let one = there.1.0 in
    let same : one ≡ world = there.1.1.is ∙ sym take.is in
    let parts = leads_split node (spare_calls 8) (settle ∷ []) one last there.1.2 in
    let nine = parts.mid in
    let step = parts.then.1 in
    let last_is : last ≡ record nine { settled = nine.settled ++ first_of nine.groups; groups = drop 1 nine.groups; durable = nine.durable - 1 } = sym parts.then.2 ∙ step.is in
    let leads : Leads node world (spare_calls 8) nine = subst (λ (w : World). Leads node w (spare_calls 8) nine) same parts.first in
    let keeps = spares_keep node 8 world nine leads in
    let groups : nine.groups ≡ drop (length before.settled) before.accepted ∷ [] = keeps.groups ∙ ap (λ (w : World). w.groups) take.is in
    let began : world.began ≡ before.began = ap (λ (w : World). w.began) take.is in
    let at = run_stands node has.moves before sound has.run in
    let taken : taken_in world ≡ before.accepted = ap taken_in take.is ∙ rest_joins before.settled before.accepted (settled_accepted node before at) in
    let all : nine.began ++ taken_in nine ≡ world.began ++ taken_in world = (λ i. keeps.began i ++ (keeps.settled i ++ events_of (keeps.groups i))) in
    let holds : last.began ++ last.settled ≡ world.began ++ taken_in world = (λ i. (settled.began ∙ sym began) i ++ (settled.settled ∙ sym taken) i) in
    let stands = run_stands node (moves ++ spare_calls 8) nine sound (run_more node moves (spare_calls 8) world nine run leads) in
    record {
      next = nine;
      leads = leads;
      found = record {
        recovered = subst (IsRecovered node nine) all (taken_recovered node nine stands (omega (arith, step.done, ap length groups)));
        stands = subst (λ (a : Areas). StandsFor node a (kept_in node (world.began ++ taken_in world))) (ap areas_in last_is)
            (subst (λ (h : History). StandsFor node (areas_in last) (kept_in node h)) holds (as_journal settled.holds));
      };
    }
