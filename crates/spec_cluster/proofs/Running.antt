-- The runs of each member of a cluster, and what was assumed where an event came in.
use Rattle.std.proofs.Common.{◌≡◌, ◌≢◌, ℕ, true, false, cond, List, [], ◌∷◌, ◌++◌, inl, inr, ap, sym, ◌∙◌, subst}
use Rattle.std.specs.Prelude.{◌==◌, Contains}
use Rattle.std.proofs.lemmas.Bool.{cases_Bool, eqb-true, eq-eqb, true≢false}
use Rattle.std.proofs.lemmas.List.Elements.{Contains-append_left}
use Rattle.wire.specs.Lists.{Begins}
use Rattle.spec_laws.proofs.Lists.{Contains-nothing, Contains-cases}
use Rattle.spec_model.specs.Words.{Event}
use Rattle.spec_world.specs.World.{World}
use Rattle.spec_world.specs.Steps.{Move, accept, IsStep, IsRun, IsFirst}
use Rattle.spec_world.specs.Steps as one
use Rattle.spec_world.proofs.Beginning.{runs_begin}
use Rattle.spec_world.proofs.Lasting.{given_stays, events_came_in}
use Rattle.spec_world.proofs.Law.{run_stands}
use Rattle.spec_world.proofs.Orders.{begins_same, begins_trans, begins_join}
use Rattle.spec_world.proofs.Standing.{Stands, settled_accepted}
use Rattle.spec_world.specs.Lasting.{settled_in}
use Rattle.spec_cluster.specs.Cluster.{Cluster, Worlds, Turn, Passes, AreMembers, IsTurn, Leads, IsReached, HaveRun, ClustersBegin}

-- the steps of one member
abbrev pub moves_of : ℕ → List Turn → List Move
moves_of member [] = []
moves_of member (turn ∷ turns) = cond (turn.member == member) (turn.move ∷ moves_of member turns) (moves_of member turns)

-- another number is another member
unlike : (one other : ℕ) → (one == other) ≡ false → other ≢ one
unlike one other differs same = true≢false (sym (eq-eqb one other (sym same)) ∙ differs)

module _ (cluster : Cluster) (Assumed : Worlds → Turn → Type 0) where
  -- ---- each member's steps lead from its world to its world

  pub runs_on : (member : ℕ) (worlds : Worlds) (turns : List Turn) (last : Worlds) → Leads cluster Assumed worlds turns last
      → one.Leads (cluster.node member) (worlds member) (moves_of member turns) (last member)
  runs_on member worlds [] last leads = ap (λ (w : Worlds). w member) leads
  runs_on member worlds (turn ∷ turns) last leads =
      let next = leads.0 in
      let is_turn = leads.2 in
      let rest = runs_on member next turns last leads.3 in
      elim (cases_Bool (turn.member == member)) [
        | inl same ↦
            let is : turn.member ≡ member = eqb-true turn.member member same in
            rw same (next member, subst (λ m. IsStep (cluster.node m) (worlds m) turn.move (next m)) is is_turn.step, rest)
        | inr differs ↦
            rw differs (subst (λ (w : World). one.Leads (cluster.node member) w (moves_of member turns) (last member)) (is_turn.others member (unlike turn.member member differs)) rest)
      ]

  pub each_runs : (member : ℕ) (turns : List Turn) (worlds : Worlds) → IsReached cluster Assumed turns worlds → cluster.honest member ≡ true
      → IsRun (cluster.node member) (moves_of member turns) (worlds member)
  each_runs member turns worlds reached honest = record { first = reached.first member; begins = reached.begins member honest; leads = runs_on member reached.first turns worlds reached.leads }

  -- ---- what was given out stays so

  given_one : (worlds : Worlds) (turn : Turn) (next : Worlds) → IsTurn cluster worlds turn next → (member : ℕ) → Begins (worlds member).given (next member).given
  given_one worlds turn next is_turn member =
      elim (cases_Bool (turn.member == member)) [
        | inl same ↦
            subst (λ m. Begins (worlds m).given (next m).given) (eqb-true turn.member member same)
            (given_stays (cluster.node turn.member) (worlds turn.member) turn.move (next turn.member) is_turn.step)
        | inr differs ↦ subst (λ (w : World). Begins (worlds member).given w.given) (sym (is_turn.others member (unlike turn.member member differs))) (begins_same (worlds member).given)
      ]

  pub given_all : (worlds : Worlds) (turns : List Turn) (last : Worlds) → Leads cluster Assumed worlds turns last → (member : ℕ) → Begins (worlds member).given (last member).given
  given_all worlds [] last leads member = subst (λ (w : Worlds). Begins (worlds member).given (w member).given) leads (begins_same (worlds member).given)
  given_all worlds (turn ∷ turns) last leads member =
      begins_trans (worlds member).given (leads.0 member).given (last member).given (given_one worlds turn leads.0 leads.2 member) (given_all leads.0 turns last leads.3 member)

  -- ---- where an event came in

  pub record CameAt (event : Event) (last : Worlds) : Type 0 where
    pub before : Worlds
    pub turn : Turn
    pub move : turn.move ≡ accept event
    pub assumed : Assumed before turn
    pub passed : Passes cluster turn.move
    pub given : (member : ℕ) → Begins (before member).given (last member).given

  pub came_at : (member : ℕ) (event : Event) (worlds : Worlds) (turns : List Turn) (last : Worlds) → Leads cluster Assumed worlds turns last
      → Contains (moves_of member turns) (accept event) → CameAt event last
  came_at member event worlds [] last leads inside = absurd (Contains-nothing (accept event) inside)
  came_at member event worlds (turn ∷ turns) last leads inside =
      elim (cases_Bool (turn.member == member)) [
        | inl same ↦
            let inside' : Contains (turn.move ∷ moves_of member turns) (accept event) = rw same at inside in
            elim (Contains-cases turn.move (moves_of member turns) (accept event) inside') [
              | inl here ↦ record { before = worlds; turn = turn; move = here; assumed = leads.1; passed = leads.2.passed; given = given_all worlds (turn ∷ turns) last leads }
              | inr later ↦ came_at member event leads.0 turns last leads.3 later
            ]
        | inr differs ↦
            let inside' : Contains (moves_of member turns) (accept event) = rw differs at inside in
            came_at member event leads.0 turns last leads.3 inside'
      ]

-- ---- runs side by side

-- what holds of less is known of each event that came in
pub have_also : (cluster : Cluster) (One Other : Event → Type 0) (worlds : Worlds) → ((event : Event) → One event → Other event) → HaveRun cluster One worlds → HaveRun cluster Other worlds
have_also cluster One Other worlds also have = record {
  moves = have.moves;
  runs = have.runs;
  came = λ member honest event inside. also event (have.came member honest event inside);
}

module _ (cluster : Cluster) (Comes : Event → Type 0) (members : AreMembers cluster) (worlds : Worlds) (have : HaveRun cluster Comes worlds) where
  pub each_stands : (member : ℕ) → cluster.honest member ≡ true → Stands (cluster.node member) (worlds member)
  each_stands member honest = run_stands (cluster.node member) (have.moves member) (worlds member) (members member honest).is (have.runs member honest)

  -- what a member settled came in
  pub settled_in_moves : (member : ℕ) → cluster.honest member ≡ true → (event : Event) → Contains (settled_in (worlds member)) event → Contains (have.moves member) (accept event)
  settled_in_moves member honest event inside =
      let node = cluster.node member in
      let world = worlds member in
      let begins = begins_join world.began world.settled world.accepted (settled_accepted node world (each_stands member honest)) in
      let accepted : Contains (world.began ++ world.accepted) event =
      subst (λ l. Contains l event) (sym begins.parts) (Contains-append_left (settled_in world) begins.rest event inside) in
      events_came_in node (have.moves member) world event (members member honest).is (have.runs member honest) accepted

  pub settled_came : (member : ℕ) → cluster.honest member ≡ true → (event : Event) → Contains (settled_in (worlds member)) event → Comes event
  settled_came member honest event inside = have.came member honest event (settled_in_moves member honest event inside)

-- ---- there are such clusters

pub clusters_begin : ClustersBegin
clusters_begin cluster members keys = λ member honest.
    let run = runs_begin (cluster.node member) (members member honest).is (keys member honest) in
    subst (IsFirst (cluster.node member)) run.leads run.begins
