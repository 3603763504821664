-- What comes in by the moves of a member, and moves after moves.
use Rattle.std.proofs.Common.{◌≡◌, List, [], ◌∷◌, ◌++◌, inl, inr, subst}
use Rattle.std.specs.Prelude.{⊤, Contains}
use Rattle.std.proofs.lemmas.List.Elements.{Contains-append_cases}
use Rattle.spec_laws.proofs.Lists.{Contains-nothing, Contains-cases}
use Rattle.spec_model.specs.Nodes.{Node}
use Rattle.spec_model.specs.Words.{Event}
use Rattle.spec_world.proofs.Lasting.{given_stays}
use Rattle.spec_world.proofs.Orders.{begins_same, begins_trans}
use Rattle.spec_world.proofs.Scripts.{leads_join}
use Rattle.spec_world.specs.Steps.{Move, accept, IsRun, Leads}
use Rattle.spec_world.specs.World.{World}
use Rattle.wire.specs.Lists.{Begins}

-- a move by which no event comes in
abbrev pub IsPlain : Move → Type 0
IsPlain (accept event) = ⊥
IsPlain other = ⊤

abbrev pub ArePlain : List Move → Type 0
ArePlain [] = ⊤
ArePlain (move ∷ moves) = IsPlain move × ArePlain moves

event_is : (one other : Event) → accept one ≡ accept other → one ≡ other
event_is one other same = cc

module _ (Comes : Event → Type 0) where
  -- this holds of each event that comes in by these moves
  abbrev pub AllCome : List Move → Type 0
  AllCome moves = (event : Event) → Contains moves (accept event) → Comes event

  pub plain_come : (moves : List Move) → ArePlain moves → AllCome moves
  plain_come [] plain event inside = absurd (Contains-nothing (accept event) inside)
  plain_come (move ∷ moves) plain event inside =
      elim (Contains-cases move moves (accept event) inside) [
        | inl here ↦ absurd (subst IsPlain here plain.0)
        | inr later ↦ plain_come moves plain.1 event later
      ]

  pub one_comes : (event : Event) → Comes event → AllCome (accept event ∷ [])
  one_comes event comes other inside =
      elim (Contains-cases (accept event) [] (accept other) inside) [
        | inl same ↦ subst Comes (event_is event other same) comes
        | inr none ↦ absurd (Contains-nothing (accept other) none)
      ]

  pub come_join : (moves more : List Move) → AllCome moves → AllCome more → AllCome (moves ++ more)
  come_join moves more come then event inside =
      elim (Contains-append_cases moves more (accept event) inside) [
        | inl first ↦ come event first
        | inr rest ↦ then event rest
      ]

-- what was given out stays so
pub leads_given : (node : Node) (world : World) (moves : List Move) (to : World) → Leads node world moves to → Begins world.given to.given
leads_given node world [] to leads = subst (λ (w : World). Begins world.given w.given) leads (begins_same world.given)
leads_given node world (move ∷ moves) to leads =
    begins_trans world.given leads.0.given to.given (given_stays node world move leads.0 leads.1) (leads_given node leads.0 moves to leads.2)

-- a run goes on
pub run_more : (node : Node) (moves more : List Move) (world to : World) → IsRun node moves world → Leads node world more to → IsRun node (moves ++ more) to
run_more node moves more world to run leads = record {
  first = run.first;
  begins = run.begins;
  leads = leads_join node run.first moves more world to run.leads leads;
}
