-- An event that is submitted after a look.
use Rattle.std.proofs.Common.{◌≡◌, [], ◌∷◌, Bool, true, false, Result, Ok, Err, Option, Some, None, refl, sym, subst, ap, ◌∙◌, inl, inr}
use Rattle.std.specs.Prelude.{not, is_some}
use Rattle.header.specs.Digested.{certificate_digest_in}
use Rattle.spec_machine.specs.Machine.{answered, is_missing_parents}
use Rattle.node_seats.specs.Views.{IsSame}
use Rattle.node_shared.specs.Home.{NodeView, IsBase, seen_in}
use Rattle.book.specs.declared.book.Receipt.{Receipt}
use Rattle.sigface.specs.Scheme.{Scheme}
use Rattle.spec_model.specs.States.{State}
use Rattle.validator.specs.Setting.{node_of}
use Rattle.wire.specs.Lists.{Begins}
use Rattle.spec_model.specs.Words.{Event}
use Rattle.header.specs.declared.refusal.Refusal.{Refusal}
use Rattle.node_seats.specs.declared.view.View.{View}
use Rattle.node_seats.proofs.Beginnings.{begins_same, begins_trans, begins_more}
use Rattle.node_seats.specs.Views.{mark}
use Rattle.node_shared.specs.Answers.{Submits}
use Rattle.header.specs.declared.error.CheckError.{CheckError}
use Rattle.node_io.specs.declared.rejection.Rejection.{Rejection}
use Rattle.node_io.specs.declared.rejection.Rejection.TheVariants.{Unchecked}
use Rattle.node.specs.Callers.{CallerView}
use Rattle.node_run.specs.declared.caller.Taken.{Taken}
use Rattle.node_run.specs.declared.caller.Taken.TheVariants.{Waits}
use Rattle.node_run.specs.Taking.{Handles, IsSubmitted, LacksParents, MayBeSubmitted}

pub not_true : (b : Bool) → not b ≡ true → b ≡ false
not_true true is = sym is
not_true false is = cc

pub not_false : (b : Bool) → not b ≡ false → b ≡ true
not_false true is = cc
not_false false is = sym is

-- What is said of a call, of the view that a look left, is said of the view before it.
pub submits_since : {S : Type 0} (scheme : Scheme S) (node : NodeView S) (event : Event) (before mid later : View) (answer : Result Receipt Refusal)
    → mid.number ≡ before.number → mid.mine ≡ before.mine → Begins before.seen mid.seen
    → Submits scheme node event mid later answer → Submits scheme node event before later answer
submits_since scheme node event before mid later (Ok receipt) number mine more submits = record {
  all = submits.all;
  more = begins_trans before.seen mid.seen submits.all more submits.more;
  new = λ new. let added = submits.new new in record {
    outputs = added.outputs;
    answer = added.answer;
    room = added.room;
    seen = rw (← number) added.seen;
    mine = rw (← mine) added.mine;
    ticket = added.ticket;
  };
  known = λ known. let there = submits.known known in record {
    outputs = there.outputs;
    answer = there.answer;
    seen = there.seen;
    mine = rw (← mine) there.mine;
    ticket = there.ticket;
  };
  refused = tt;
  same = tt;
}
submits_since scheme node event before mid later (Err refusal) number mine more submits = record {
  all = submits.all;
  more = begins_trans before.seen mid.seen submits.all more submits.more;
  new = tt;
  known = tt;
  refused = submits.refused;
  same = let same = submits.same in (same.0, same.1 ∙ mine);
}

-- a call has seen no less than before
pub submits_more : {S : Type 0} (scheme : Scheme S) (node : NodeView S) (event : Event) (before later : View) (answer : Result Receipt Refusal)
    → Submits scheme node event before later answer → Begins before.seen later.seen
submits_more scheme node event before later (Ok receipt) submits = by receipt.new refl
  where
    by : (b : Bool) → receipt.new ≡ b → Begins before.seen later.seen
    by true is = let added = submits.new is in subst (Begins before.seen) (sym added.seen) (begins_more before.seen submits.all (mark before.number event ∷ []) submits.more)
    by false is = let there = submits.known is in subst (Begins before.seen) (sym there.seen) submits.more
submits_more scheme node event before later (Err refusal) submits = let same = submits.same in subst (Begins before.seen) (sym same.0) submits.more

-- the checks' first fault is told
pub unchecked : {S : Type 0} (scheme : Scheme S) (node : NodeView S) (event : Event) (before : CallerView S) (fault : Option CheckError) (error : CheckError)
    → fault ≡ Some error → Handles scheme node fault event before before (Err (Unchecked error))
unchecked scheme node event before fault error is = record {
  unchecked = λ other there.
      let both : Some error ≡ Some other = sym is ∙ there in
      let same : error ≡ other = cc in
      (ap (λ e. Err (Unchecked e)) same, refl);
  checked = λ none. let bad : Some error ≡ None = sym is ∙ none in absurd cc;
}

-- a certificate that lacks a parent waits
pub waits : {S : Type 0} (scheme : Scheme S) (node : NodeView S) (event : Event) (before later : CallerView S) (fault : Option CheckError)
    → fault ≡ None → LacksParents scheme node event later → IsSame before.seat later.seat → Handles scheme node fault event before later (Ok (Waits event))
waits scheme node event before later fault is lacks same = record {
  unchecked = λ other there. let bad : Some other ≡ None = sym there ∙ is in absurd cc;
  checked = λ _. inl (lacks, same, refl);
}

-- any other event is submitted
pub submitted : {S : Type 0} (scheme : Scheme S) (node : NodeView S) (event : Event) (before later : CallerView S) (fault : Option CheckError) (reported : Result Taken Rejection)
    → fault ≡ None → MayBeSubmitted scheme node event before later → IsSubmitted scheme node event before later reported → Handles scheme node fault event before later reported
submitted scheme node event before later fault reported is goes done = record {
  unchecked = λ other there. let bad : Some other ≡ None = sym there ∙ is in absurd cc;
  checked = λ _. inr (goes, done);
}

-- after a look
pub submitted_since : {S : Type 0} (scheme : Scheme S) (node : NodeView S) (event : Event) (before mid later : CallerView S) (reported : Result Taken Rejection)
    → mid.seat.view.number ≡ before.seat.view.number → mid.seat.view.mine ≡ before.seat.view.mine
    → Begins before.seat.view.seen mid.seat.view.seen → IsSubmitted scheme node event mid later reported → IsSubmitted scheme node event before later reported
submitted_since scheme node event before mid later reported number mine more done = record {
  answer = done.answer;
  submits = submits_since scheme node event before.seat.view mid.seat.view later.seat.view done.answer number mine more done.submits;
  is = done.is;
}

-- no certificate has to be looked for
pub other_goes : {S : Type 0} (scheme : Scheme S) (node : NodeView S) (event : Event) (before : CallerView S) → certificate_digest_in event.message ≡ None
    → MayBeSubmitted scheme node event before before
other_goes scheme node event before none = record {
  looked = before.seat.view.seen;
  more = begins_same before.seat.view.seen;
  less = begins_same before.seat.view.seen;
  goes = λ is. let bad : false ≡ true = ap is_some (sym none) ∙ is in absurd cc;
}

-- what lacked no parent when the caller looked may go
pub ready_goes : {S : Type 0} (scheme : Scheme S) (node : NodeView S) (event : Event) (before later : CallerView S) → Begins before.seat.view.seen later.seat.view.seen
    → ((base : State) → IsBase scheme node base → is_missing_parents (answered (node_of scheme node.setting) (seen_in (node_of scheme node.setting) base later.seat) event) ≡ false)
    → MayBeSubmitted scheme node event before later
ready_goes scheme node event before later more lacks_none = record {
  looked = later.seat.view.seen;
  more = more;
  less = begins_same later.seat.view.seen;
  goes = λ _. lacks_none;
}

-- a look counts for a call that goes on after it
pub goes_yet : {S : Type 0} (scheme : Scheme S) (node : NodeView S) (event : Event) (before mid later : CallerView S) → MayBeSubmitted scheme node event before mid
    → Begins mid.seat.view.seen later.seat.view.seen
    → MayBeSubmitted scheme node event before later
goes_yet scheme node event before mid later goes more = record {
  looked = goes.looked;
  more = goes.more;
  less = begins_trans goes.looked mid.seat.view.seen later.seat.view.seen goes.less more;
  goes = goes.goes;
}
