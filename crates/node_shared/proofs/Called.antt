-- What a call does to a seat, from its steps.
use Rattle.std.proofs.Common.{◌≡◌, Bool, true, List, [], ◌∷◌, ◌++◌, refl, sym, ap, ◌∙◌, subst}
use Rattle.std.specs.Prelude.{Option, Some, None, IfSome}
use Rattle.spec_machine.specs.After.{IsLegalAfter}
use Rattle.spec_model.specs.Admitting.{IsLegal}
use Rattle.spec_model.specs.Giving.{kept, MayGive}
use Rattle.spec_model.specs.Histories.{History}
use Rattle.spec_model.specs.States.{State}
use Rattle.wire.specs.Lists.{Begins}
use Rattle.spec_model.specs.Words.{Event, Output}
use Rattle.validator.specs.Setting.{node_of}
use Rattle.node_seats.specs.Sights.{SeatView}
use Rattle.node_seats.specs.Views.{events, events_by, mark, HasOwn, informed}
use Rattle.node_seats.specs.declared.view.Marked.{Marked}
use Rattle.node_seats.specs.declared.view.View.{View}
use Rattle.node_seats.proofs.Marks.{by_same, events_push}
use Rattle.node_seats.proofs.Same.{same_then, same_heard}
use Rattle.node_shared.specs.Answers.{IsPutOutBy, Gives}
use Rattle.node_shared.specs.Calls.{Looked, Learned, Brought, Stays}
use Rattle.node_shared.specs.Home.{NodeView, IsBase}
use Rattle.node_shared.proofs.Standing.{of_same}
use Rattle.sigface.specs.Scheme.{Scheme}

own_stays : (before later : SeatView) → Stays before later → HasOwn before.view → HasOwn later.view
own_stays before later stays own = (λ i. events_by (stays.same.number i) (stays.seen i)) ∙ own ∙ sym stays.same.mine

-- what stays of a seat that was told something, and of one that read whether the node is down
pub stays_informed : (before later : SeatView) (other : View) → later ≡ record before { view = informed before.view other } → Stays before later
stays_informed before later other reported = record { same = same_heard before later other reported; seen = ap (λ s. s.view.seen) reported; durable = ap (λ s. s.view.durable) reported }

pub stays_read : (before later : SeatView) (down : Bool) → later ≡ record before { view = record before.view { down = down } } → (before.view.down ≡ true → down ≡ true) → Stays before later
stays_read before later down is keeps = record {
  same = record {
    table = ap (λ s. s.table) is;
    id = ap (λ s. s.id) is;
    live = ap (λ s. s.view.live) is;
    numbered = ap (λ s. s.view.numbered) is;
    number = ap (λ s. s.view.number) is;
    mine = ap (λ s. s.view.mine) is;
    down = λ was. ap (λ s. s.view.down) is ∙ keeps was;
    right = ap (λ s. s.view.may_fail) is;
  };
  seen = ap (λ s. s.view.seen) is;
  durable = ap (λ s. s.view.durable) is;
}

pub stays_same : (seat : SeatView) → Stays seat seat
stays_same seat = record {
  same = record { table = refl; id = refl; live = refl; numbered = refl; number = refl; mine = refl; down = λ was. was; right = refl };
  seen = refl;
  durable = refl;
}

pub stays_then : (one two three : SeatView) → Stays one two → Stays two three → Stays one three
stays_then one two three first second = record {
  same = same_then one two three first.same second.same;
  seen = second.seen ∙ first.seen;
  durable = second.durable ∙ first.durable;
}

module _ {S : Type 0} (scheme : Scheme S) (shared : NodeView S) where
  -- where nothing is seen or settled after a call, the seat is as after the call
  pub looked_stays : (before mid later : SeatView) → Looked scheme shared before mid → Stays mid later → Looked scheme shared before later
  looked_stays before mid later looked stays = record {
    of_node = of_same shared mid later looked.of_node stays.same;
    same = same_then before mid later looked.same stays.same;
    durable = stays.durable ∙ looked.durable;
    more = subst (λ l. Begins before.view.seen l) (sym stays.seen) looked.more;
    own = own_stays mid later stays looked.own;
    legal = λ base at. subst (λ (l : List Marked). IsLegalAfter (node_of scheme shared.setting) base (events l)) (sym stays.seen) (looked.legal base at);
  }

  pub learned_stays : (before mid later : SeatView) → Learned scheme shared before mid → Stays mid later → Learned scheme shared before later
  learned_stays before mid later learned stays = record {
    of_node = of_same shared mid later learned.of_node stays.same;
    same = same_then before mid later learned.same stays.same;
    more = subst (λ l. Begins before.view.durable l) (sym stays.durable) learned.more;
    seen = subst (λ l. Begins before.view.seen l) (sym stays.seen) learned.seen;
    within = subst (λ l. Begins later.view.durable l) (sym stays.seen) (subst (λ l. Begins l mid.view.seen) (sym stays.durable) learned.within);
    own = own_stays mid later stays learned.own;
    legal = λ base at. subst (λ (l : List Marked). IsLegalAfter (node_of scheme shared.setting) base (events l)) (sym stays.durable) (learned.legal base at);
  }

  -- a seat whose event isn't new looked
  pub brought_none : (before later : SeatView) → Looked scheme shared before later → Brought scheme shared before later
  brought_none before later looked = record {
    of_node = looked.of_node;
    id = looked.same.id;
    number = looked.same.number;
    down = looked.same.down;
    right = looked.same.right;
    durable = looked.durable;
    own = looked.own;
    legal = looked.legal;
  }

  -- and one whose event is new has it after that
  pub brought_new : (before mid later : SeatView) (event : Event) → Looked scheme shared before mid
      → (later.table ≡ mid.table) × (later.id ≡ mid.id) × (later.view.live ≡ true) × (later.view.numbered ≡ true) × (later.view.number ≡ mid.view.number) × (later.view.may_fail ≡ mid.view.may_fail)
      → later.view.down ≡ mid.view.down → later.view.durable ≡ mid.view.durable → later.view.seen ≡ mid.view.seen ++ mark mid.view.number event ∷ [] → later.view.mine ≡ mid.view.mine ++ event ∷ []
      → ((base : State) → IsBase scheme shared base → IsLegalAfter (node_of scheme shared.setting) base (events mid.view.seen ++ event ∷ [])) → Brought scheme shared before later
  brought_new before mid later event looked same down durable seen mine legal = record {
    of_node = record { table = same.0 ∙ looked.of_node.table; live = same.2; numbered = same.3 };
    id = same.1 ∙ looked.same.id;
    number = same.4 ∙ looked.same.number;
    down = λ is. down ∙ looked.same.down is;
    right = same.5 ∙ looked.same.right;
    durable = durable ∙ looked.durable;
    own = (λ i. events_by (same.4 i) (seen i)) ∙ by_same mid.view.number event mid.view.seen ∙ ap (λ (h : History). h ++ event ∷ []) looked.own ∙ sym mine;
    legal = λ base at. subst (λ (l : History). IsLegalAfter (node_of scheme shared.setting) base l)
        (sym (events_push mid.view.number event mid.view.seen) ∙ ap events (sym seen)) (legal base at);
  }

-- an output of which both are said
pub gives_both : {S : Type 0} (scheme : Scheme S) (shared : NodeView S) (seat : SeatView) (output : Option Output)
    → IfSome output (λ one. (base : State) (history : History) → IsBase scheme shared base → IsLegal (node_of scheme shared.setting) history
    → kept (node_of scheme shared.setting) history ≡ base → MayGive (node_of scheme shared.setting) (history ++ events seat.view.durable) one)
    → IfSome output (λ one. IsPutOutBy scheme shared seat.view one) → IfSome output (λ one. Gives scheme shared seat one)
gives_both scheme shared seat None may out = may
gives_both scheme shared seat (Some one) may out = record { may = may; put_out = out }
