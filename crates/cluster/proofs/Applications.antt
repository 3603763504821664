-- What a call of apply did, whatever it answered.
use Rattle.std.proofs.Common.{◌≡◌, inl, inr, List, refl, sym, ap, ◌∙◌, subst}
use Rattle.std.specs.Prelude.{◌↔◌, ℕ, Option, Some, None, Result, Err, option_map, option_and_then, slice_get}
use Rattle.header.specs.Checks.{Accepts}
use Rattle.spec_model.specs.Words.{Author}
use Rattle.validator.specs.Setting.{node_of}
use Rattle.cluster.specs.Answers.{Became, IsJournal}
use Rattle.cluster.specs.Cluster.{at, actor, asked_in, message_at, IsAsked, IsApplied, IsThere, IsDelivery, LacksNode, LacksOutput}
use Rattle.cluster.specs.Member.{MemberView}
use Rattle.cluster.specs.Outputs.{message_of}
use Rattle.cluster.specs.declared.error.ClusterError.{ClusterError}
use Rattle.cluster.specs.declared.error.ClusterError.TheVariants.{Memory, NoSuchNode, NoSuchOutput, Journal}
use Rattle.cluster.specs.declared.moves.Applied.{Applied}
use Rattle.cluster.specs.declared.moves.Move.{Move}
use Rattle.cluster.specs.declared.moves.Move.TheVariants.{Deliver, Give, Coin, Flush, Stop}
use Rattle.cluster.specs.declared.moves.Request.{Request}
use Rattle.cluster.specs.declared.moves.Request.TheVariants.{Take}
use Rattle.cluster.proofs.Members.{was_gone, was_not_asked}
use Rattle.cluster.proofs.Places.{there_some, same_asked, desk_none}
use Rattle.diskmodel.specs.Disk.{Device}
use Rattle.sigface.specs.Scheme.{Scheme}

some_is : {T : Type 0} (one other : T) → ◌≡◌ {A = Option T} (Some one) (Some other) → one ≡ other
some_is one other same = cc

none_some : {T : Type 0} (one : T) → ◌≡◌ {A = Option T} None (Some one) → ⊥
none_some one same = cc

module _ {S D : Type 0} (scheme : Scheme S) (device : Device D) (accepts : Accepts) (members : List (MemberView S D)) where
  -- what the member of a number becomes at a request that is answered so
  abbrev Became_at : Request → Result Applied ClusterError → MemberView S D → MemberView S D → Type 0
  Became_at request answer one other = Became (node_of scheme one.setting) device accepts request one other answer

  -- the request was made
  pub was_applied : (step : Move) (request : Request) (later : List (MemberView S D)) (answer : Result Applied ClusterError) → asked_in members step ≡ Some request
      → IsAsked (λ one other. Became (node_of scheme one.setting) device accepts request one other answer) (actor step) members later answer
      → IsApplied scheme device accepts members step later answer
  was_applied step request later answer here is = record {
    asked = λ other so. subst (λ (r : Request). IsAsked (Became_at r answer) (actor step) members later answer) (some_is request other (sym here ∙ so)) is;
    not_asked = λ none. absurd (none_some request (sym none ∙ here));
  }

-- an error said of a result, and said of itself
pub err_as : {T : Type 0} (error other : ClusterError) (P : Type 0) → (◌≡◌ {A = Result T ClusterError} (Err error) (Err other)) ↔ P → (error ≡ other) ↔ P
err_as {T} error other P both = (λ is. both.0 (ap (λ e. Err e) is), λ p. same (both.1 p))
  where
    same : ◌≡◌ {A = Result T ClusterError} (Err error) (Err other) → error ≡ other
    same is = cc

-- No request was made: the move asks nothing, its node isn't there, or an allocation failed.
module _ {S D : Type 0} (scheme : Scheme S) (device : Device D) (accepts : Accepts) (members : List (MemberView S D)) where
  same_there : (step : Move) (answer : Result Applied ClusterError) (request : Request) → ((one : MemberView S D) → at members (actor step) ≡ Some one
      → Became (node_of scheme one.setting) device accepts request one one answer) → (at members (actor step) ≡ None → answer ≡ Err NoSuchNode)
      → IsAsked (λ one other. Became (node_of scheme one.setting) device accepts request one other answer) (actor step) members members answer
  same_there step answer request becomes none =
      same_asked members (actor step) (λ one other. Became (node_of scheme one.setting) device accepts request one other answer) answer becomes none

  -- there is no message to deliver
  nothing_asked : (from to : Author) (output : ℕ) (request : Request) → message_at members from output ≡ None → asked_in members (Deliver from output to) ≡ Some request → ⊥
  nothing_asked from to output request none is = none_some request (sym (ap (option_map (λ message. Take from message)) none) ∙ is)

  lacking : (step : Move) (request : Request) → IsDelivery step → LacksNode members step → asked_in members step ≡ Some request
      → IsAsked (λ one other. Became (node_of scheme one.setting) device accepts request one other (Err NoSuchNode)) (actor step) members members (Err NoSuchNode)
  lacking (Deliver from output to) request delivers (inl gone) is =
      same_there (Deliver from output to) (Err NoSuchNode) request
      (λ one found. was_gone (node_of scheme one.setting) device accepts request one (desk_none members to one found gone)) (λ none. refl)
  lacking (Deliver from output to) request delivers (inr none) is =
      absurd (nothing_asked from to output request (ap (option_and_then (λ (m : MemberView S D). option_and_then message_of (slice_get m.out.outputs output))) none) is)
  lacking (Give to sender given) request delivers lacks is = absurd delivers
  lacking (Coin node coin) request delivers lacks is = absurd delivers
  lacking (Flush node) request delivers lacks is = absurd delivers
  lacking (Stop node) request delivers lacks is = absurd delivers

  no_message : (step : Move) (request : Request) → LacksOutput members step → asked_in members step ≡ Some request → ⊥
  no_message (Deliver from output to) request lacks is = nothing_asked from to output request lacks.2 is
  no_message (Give to sender given) request lacks is = lacks
  no_message (Coin node coin) request lacks is = lacks
  no_message (Flush node) request lacks is = lacks
  no_message (Stop node) request lacks is = lacks

  pub not_applied : (step : Move) (error : ClusterError) → ((error ≡ NoSuchNode) ↔ (IsDelivery step × LacksNode members step)) → ((error ≡ NoSuchOutput) ↔ LacksOutput members step)
      → (error ≡ Memory → IsThere members (actor step)) → (IsJournal error → ⊥) → IsApplied scheme device accepts members step members (Err error)
  not_applied step Memory no_node no_output memory never =
      let up = there_some members (actor step) (memory refl) in
      record {
        asked = λ request is.
            same_there step (Err Memory) request
            (λ one found. was_not_asked (node_of scheme one.setting) device accepts request one up.desk (ap (λ (m : MemberView S D). m.desk) (some_is one up.one (sym found ∙ up.found)) ∙ up.has))
            (λ none. absurd (none_some up.one (sym none ∙ up.found)));
        not_asked = λ _. refl;
      }
  not_applied step NoSuchNode no_node no_output memory never =
      let lacks = no_node.0 refl in
      record { asked = λ request is. lacking step request lacks.0 lacks.1 is; not_asked = λ _. refl }
  not_applied step NoSuchOutput no_node no_output memory never =
      record { asked = λ request is. absurd (no_message step request (no_output.0 refl) is); not_asked = λ _. refl }
  not_applied step (Journal cause) no_node no_output memory never = absurd (never tt)
