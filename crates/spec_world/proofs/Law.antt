-- Nothing that was given out is taken back.
use Rattle.std.proofs.Common.{ap, ◌≡◌, ◌⊎◌, ℕ, List, [], ◌∷◌, ◌++◌, length, take, drop, Some, inl, inr, refl, sym, ◌∙◌, subst, arith}
use Rattle.std.specs.Prelude.{All, Contains}
use Rattle.std.proofs.lemmas.Bool.{cases_lt}
use Rattle.std.proofs.lemmas.Option.{none-some}
use Rattle.std.proofs.lemmas.List.{append-nil, drop_all}
use Rattle.std.proofs.lemmas.List.Elements.{All-nil, All-contains}
use Rattle.spec_laws.proofs.Given.{given_grows}
use Rattle.spec_laws.proofs.Legal.{legal-begins}
use Rattle.spec_laws.proofs.OrderGrows.{order_grows}
use Rattle.spec_model.specs.Admitting.{IsLegal}
use Rattle.spec_model.specs.Giving.{MayGive}
use Rattle.spec_model.specs.Giving.{kept as kept_in}
use Rattle.spec_model.specs.States.{State}
use Rattle.journal.specs.Areas.{Areas, alone, pair}
use Rattle.spec_model.specs.Histories.{History}
use Rattle.wire.specs.Lists.{Begins}
use Rattle.spec_model.specs.Holdings.{order}
use Rattle.spec_model.specs.Nodes.{Node, IsNode}
use Rattle.spec_model.specs.Words.{Digest, Output}
use Rattle.spec_world.specs.World.{Outgoing, put_out, read, Given, World, durable_in, events_of, first_of, StandsFor, as_journal, MayStop, run_on}
use Rattle.spec_world.specs.Steps.{Move, IsRecovered, IsRestarted, nothing_on_one, nothing_on_two, IsFirst, IsRun}
use Rattle.spec_world.specs.Promise.{Ballot, vote_in, vote_given, order_given, IsNoLater, NeverTakesBack, NothingTakenBack}
use Rattle.spec_world.proofs.Ballots.{votes_agree}
use Rattle.spec_world.proofs.Groups.{with_first, take_none}
use Rattle.spec_world.proofs.Moving.{all_stand}
use Rattle.spec_world.proofs.Orders.{shorter_begins, IsEnded, goes_out, order_of, orders_begin}
use Rattle.spec_world.proofs.Recovering.{stands_once}
use Rattle.spec_world.proofs.Standing.{IsKept, Stands, IsLeft, left, legal_between, settled_legal, begins_standing}

-- the output that has a vote may be given out
pub record HasVote (node : Node) (history : History) (ballot : Ballot) : Type 0 where
  pub output : Output
  pub may : MayGive node history output
  pub is : vote_in output ≡ Some ballot

pub has_vote : (node : Node) (history : History) (outgoing : Outgoing) (ballot : Ballot) → IsEnded node history outgoing → vote_given outgoing ≡ Some ballot → HasVote node history ballot
has_vote node history (put_out output) ballot ended is = record { output = output; may = ended.may; is = is }
has_vote node history (read digests) ballot ended is = absurd (none-some ballot is)

-- also at each legal history that goes on
pub vote_later : (node : Node) (history later : History) (ballot : Ballot) → IsLegal node later → Begins history later → HasVote node history ballot → HasVote node later ballot
vote_later node history later ballot legal begins has = record {
  output = has.output;
  may = subst (λ h. MayGive node h has.output) (sym begins.parts) (given_grows order_grows node history begins.rest has.output (subst (IsLegal node) begins.parts legal) has.may);
  is = has.is;
}

module _ (node : Node) (world : World) (at : Stands node world) where
  pub kept : (given : Given) → Contains world.given given → IsKept node (world.began ++ world.settled) given
  kept given there = All-contains (IsKept node (world.began ++ world.settled)) world.given given at.given there

  pub vote_there : (given : Given) (ballot : Ballot) → Contains world.given given → vote_given given.outgoing ≡ Some ballot → HasVote node (world.began ++ world.settled) ballot
  vote_there given ballot there is =
      let is_kept = kept given there in
      vote_later node given.history (world.began ++ world.settled) ballot (settled_legal node world at) is_kept.begins (has_vote node given.history given.outgoing ballot is_kept.ended is)

  pub legal_at : (given : Given) → Contains world.given given → IsLegal node given.history
  legal_at given there =
      let begins = (kept given there).begins in
      legal-begins node given.history begins.rest (subst (IsLegal node) begins.parts (settled_legal node world at))

  orders_there : (one other : Given) (earlier later : List Digest) → Contains world.given one → Contains world.given other
      → order_given (order node one.history) one.outgoing ≡ Some earlier → order_given (order node other.history) other.outgoing ≡ Some later
      → IsNoLater one other earlier later → Begins earlier later
  orders_there one other earlier later there also is is' no_later =
      orders_begin node one.history other.history earlier later (legal_at other also) no_later.begins no_later.no_longer
      (order_of node one.history one.outgoing earlier (legal_at one there) (kept one there).ended is)
      (order_of node other.history other.outgoing later (legal_at other also) (kept other also).ended is')

  nested_there : (one other : Given) → Contains world.given one → Contains world.given other → Begins one.history other.history ⊎ Begins other.history one.history
  nested_there one other there also =
      let all = world.began ++ world.settled in
      let first = (kept one there).begins in
      let second = (kept other also).begins in
      elim (cases_lt (length other.history) (length one.history)) [
        | inl less ↦ inr (shorter_begins other.history one.history all second first (omega (arith, less)))
        | inr less ↦ inl (shorter_begins one.history other.history all first second less)
      ]

  settled_alone : (history : History) → (history ≡ world.began ++ durable_in world) ⊎ (history ≡ world.began ++ with_first world) → world.groups ≡ [] → history ≡ world.began ++ world.settled
  settled_alone history whole idle =
      let none : (count : ℕ) → (drop count world.groups ≡ []) × (take count world.groups ≡ []) =
      λ count. (drop_all count world.groups (omega (arith, ap length idle)), ap (take count) idle ∙ take_none count) in
      let durable : durable_in world ≡ world.settled = ap (λ l. world.settled ++ events_of l) (none world.durable).1 ∙ append-nil world.settled in
      let first : with_first world ≡ world.settled = (λ i. durable i ++ first_of ((none world.durable).0 i)) ∙ append-nil world.settled in
      elim whole [
        | inl is ↦ is ∙ ap (λ l. world.began ++ l) durable
        | inr is ↦ is ∙ ap (λ l. world.began ++ l) first
      ]

  recovered_there : (found : Areas) (is : IsLeft node world found) → IsRecovered node world is.history
  recovered_there found is = record {
    legal = legal_between node world is.history at is.is_between;
    accepted = is.is_between.accepted;
    settled = is.is_between.settled;
    whole = is.is_between.whole;
    without_group = λ none. settled_alone is.history is.is_between.whole none;
  }

  -- what a stop leaves stands for the state of one such history
  pub stands_there : (found : Areas) (may : MayStop world found) → IsRecovered node world (left node world found at may).history
  stands_there found may = recovered_there found (left node world found at may)

  pub only_there : (found : Areas) (one other : State) → MayStop world found → StandsFor node found one → StandsFor node found other → one ≡ other
  only_there found one other may for_one for_other =
      let is_left = left node world found at may in
      stands_once node found (kept_in node is_left.history) one is_left.holds for_one ∙ sym (stands_once node found (kept_in node is_left.history) other is_left.holds for_other)

  never : NeverTakesBack node world
  never = record {
    in_order = record { taken = at.taken; legal = at.legal };
    stands = λ found may. let is_left = left node world found at may in (is_left.history, recovered_there found is_left, as_journal is_left.holds);
    only = only_there;
    held = λ given there. (kept given there).begins;
    right = λ given there. goes_out node given.history given.outgoing (kept given there).ended;
    votes = λ one other vote also there there' is is' author round.
        let first = vote_there one vote there is in
        let second = vote_there other also there' is' in
        votes_agree node (world.began ++ world.settled) first.output second.output vote also (settled_legal node world at) first.may second.may first.is second.is author round;
    nested = nested_there;
    orders = orders_there;
  }

-- ---- a first world

-- it begins with no event
no_more : (history : History) → Begins history [] → history ≡ []
no_more [] begins = refl
no_more (event ∷ history) begins = absurd (omega (arith, ap length begins.parts))

pub first_empty : (node : Node) (first : World) → IsFirst node first → first.began ≡ []
first_empty node first (inl one) = no_more first.began one.recovered.accepted
first_empty node first (inr two) = no_more first.began two.recovered.accepted

restarted_stands : (node : Node) (found : Areas) (world first : World) → world.given ≡ [] → IsRestarted node world found first → Stands node first
restarted_stands node found world first none step =
    subst (Stands node) (sym step.is)
    (begins_standing node step.disks first.began world.given step.recovered.legal step.opened (subst (λ g. All (IsKept node first.began) g) (sym none) (All-nil (IsKept node first.began))))

pub first_stands : (node : Node) (first : World) → IsFirst node first → Stands node first
first_stands node first (inl one) = restarted_stands node (alone []) (run_on nothing_on_one [] []) first refl one
first_stands node first (inr two) = restarted_stands node (pair [] []) (run_on nothing_on_two [] []) first refl two

pub run_stands : (node : Node) (moves : List Move) (world : World) → IsNode node → IsRun node moves world → Stands node world
run_stands node moves world sound run = all_stand node moves run.first world (first_stands node run.first run.begins) run.leads

pub nothing_taken_back : NothingTakenBack
nothing_taken_back node moves world sound run = never node world (run_stands node moves world sound run)
