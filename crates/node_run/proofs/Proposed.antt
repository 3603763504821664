-- What comes of a proposal.
use Rattle.std.proofs.Common.{◌≡◌, Bool, false, Result, Ok, Err, Option, Some, None, refl, sym, subst, ◌∙◌}
use Rattle.std.specs.Prelude.{IfOk, OnErr}
use Rattle.std.specs.declared.alloc.AllocError.{AllocError}
use Rattle.book.specs.declared.book.Receipt.{Receipt}
use Rattle.committee.specs.Charter.{Charter}
use Rattle.header.specs.Checks.{fault_of, accepts_all}
use Rattle.header.specs.declared.error.CheckError.{CheckError}
use Rattle.spec_laws.specs.Laws.{own_event}
use Rattle.wire.specs.Lists.{Begins}
use Rattle.spec_machine.specs.Machine.{proposed}
use Rattle.spec_model.specs.Nodes.{Node}
use Rattle.spec_model.specs.States.{State}
use Rattle.spec_model.specs.Words.{Author, Event, Header}
use Rattle.header.specs.declared.refusal.Refusal.{Refusal}
use Rattle.header.specs.declared.refusal.Refusal.TheVariants.{Memory}
use Rattle.node_io.specs.declared.rejection.Rejection.{Rejection}
use Rattle.node_io.specs.declared.rejection.Rejection.TheVariants.{Refused}
use Rattle.node_seats.proofs.Beginnings.{begins_same}
use Rattle.node_shared.specs.Answers.{Submits}
use Rattle.node_shared.specs.Home.{NodeView, IsBase, seen_in}
use Rattle.sigface.specs.Scheme.{Scheme}
use Rattle.validator.specs.Setting.{node_of}
use Rattle.node.specs.Callers.{CallerView}
use Rattle.wire.specs.declared.message.Message.TheVariants as message
use Rattle.node_run.specs.declared.caller.Taken.{Taken}
use Rattle.node_run.specs.Taking.{IsProposed, IsSubmitted, is_reported_new, reported_as}

-- an own event by the number and the committee of the node's configuration
pub own_fault : (node : Node) (charter : Charter) (own : Author) (header : Header) (fault : Option CheckError) → charter ≡ node.charter → own ≡ node.own
    → fault_of charter accepts_all (record { sender = own; message = message.Header header }) ≡ fault → fault_of node.charter accepts_all (own_event node header) ≡ fault
own_fault node charter own header fault same_charter same_own is =
    subst (λ (it : Author). fault_of node.charter accepts_all (record { sender = it; message = message.Header header }) ≡ fault) same_own
    (subst (λ (it : Charter). fault_of it accepts_all (record { sender = own; message = message.Header header }) ≡ fault) same_charter is)

module _ {S : Type 0} (scheme : Scheme S) (shared : NodeView S) (before mid : CallerView S) (mine : mid.seat.view.mine ≡ before.seat.view.mine)
    (more : Begins before.seat.view.seen mid.seat.view.seen) where
  abbrev node : Node
  node = node_of scheme shared.setting

  -- this is what is proposed after what was seen then, from each base on
  abbrev Finds : Option Header → Type 0
  Finds found = (base : State) → IsBase scheme shared base → found ≡ proposed node (seen_in node base mid.seat)

  pub none_proposed : (found : Option Header) → Finds found → found ≡ None → IsProposed scheme shared before mid false
  none_proposed found is none = record {
    looked = mid.seat.view.seen;
    more = more;
    less = begins_same mid.seat.view.seen;
    found = found;
    proposes = is;
    none = λ _. (refl, mine);
    some = λ header there passes. let bad : None ≡ Some header = sym none ∙ there in absurd cc;
    failed = λ _ _ _ _. (refl, mine);
  }

  pub never_passed : (found : Option Header) (header : Header) (error : CheckError) → Finds found → found ≡ Some header
      → fault_of node.charter accepts_all (own_event node header) ≡ Some error → IsProposed scheme shared before mid false
  never_passed found header error is some fault = record {
    looked = mid.seat.view.seen;
    more = more;
    less = begins_same mid.seat.view.seen;
    found = found;
    proposes = is;
    none = λ _. (refl, mine);
    some = λ other there passes.
        let both : Some header ≡ Some other = sym some ∙ there in
        let same : header ≡ other = cc in
        let none : fault_of node.charter accepts_all (own_event node header) ≡ None = subst (λ (it : Header). fault_of node.charter accepts_all (own_event node it) ≡ None) (sym same) passes in
        let bad : Some error ≡ None = sym fault ∙ none in absurd cc;
    failed = λ _ _ _ _. (refl, mine);
  }

  pub was_proposed : (later : CallerView S) (found : Option Header) (header : Header) (event : Event) (reported : Result Taken Rejection) (newness : Result Bool AllocError)
      → Finds found → found ≡ Some header → event ≡ own_event node header → fault_of node.charter accepts_all event ≡ None
      → Begins mid.seat.view.seen later.seat.view.seen → IsSubmitted scheme shared event before later reported
      → IfOk newness (λ new. new ≡ is_reported_new reported) → IfOk newness (λ new. IsProposed scheme shared before later new)
  was_proposed later found header event reported newness is some own passed less done = on_ok newness
    where
      one : (new : Bool) → new ≡ is_reported_new reported → IsProposed scheme shared before later new
      one new newly = record {
        looked = mid.seat.view.seen;
        more = more;
        less = less;
        found = found;
        proposes = is;
        none = λ none. let bad : Some header ≡ None = sym some ∙ none in absurd cc;
        some = λ other there passes.
            let both : Some header ≡ Some other = sym some ∙ there in
            let same : header ≡ other = cc in (
              reported,
              subst (λ (it : Header). IsSubmitted scheme shared (own_event node it) before later reported) same
                  (subst (λ (it : Event). IsSubmitted scheme shared it before later reported) own done),
              newly,
            );
        failed = λ other error there fault.
            let both : Some header ≡ Some other = sym some ∙ there in
            let same : header ≡ other = cc in
            let none : fault_of node.charter accepts_all (own_event node other) ≡ None =
            subst (λ (it : Header). fault_of node.charter accepts_all (own_event node it) ≡ None) same (subst (λ (it : Event). fault_of node.charter accepts_all it ≡ None) own passed) in
            let bad : Some error ≡ None = sym fault ∙ none in absurd cc;
      }

      on_ok : (newness : Result Bool AllocError) → IfOk newness (λ new. new ≡ is_reported_new reported) → IfOk newness (λ new. IsProposed scheme shared before later new)
      on_ok (Ok new) newly = one new newly
      on_ok (Err error) newly = tt

-- what is refused is no event of one's own
refused_mine : {S : Type 0} (scheme : Scheme S) (node : NodeView S) (event : Event) (before later : CallerView S) (why : Rejection) (answer : Result Receipt Refusal)
    → Submits scheme node event before.seat.view later.seat.view answer → reported_as answer ≡ Err why → later.seat.view.mine ≡ before.seat.view.mine
refused_mine scheme node event before later why (Ok receipt) submits is = absurd cc
refused_mine scheme node event before later why (Err refusal) submits is = let same = submits.same in same.1

-- want of memory is told only where nothing was accepted
pub lacked_memory : {S : Type 0} (scheme : Scheme S) (node : NodeView S) (event : Event) (before mid later : CallerView S) (reported : Result Taken Rejection) (newness : Result Bool AllocError)
    → mid.seat.view.mine ≡ before.seat.view.mine → IsSubmitted scheme node event mid later reported → OnErr newness (reported ≡ Err (Refused Memory))
    → OnErr newness (later.seat.view.mine ≡ before.seat.view.mine)
lacked_memory scheme node event before mid later reported (Ok new) mine done why = tt
lacked_memory scheme node event before mid later reported (Err error) mine done why = refused_mine scheme node event mid later (Refused Memory) done.answer done.submits (sym done.is ∙ why) ∙ mine
