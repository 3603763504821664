-- An event that a seat submits.
use Rattle.std.proofs.Common.{◌≡◌, inl, inr, ℕ, ◌+◌, ◌≤◌, true, false, List, [], ◌∷◌, ◌++◌, length, Ok, Err, sym, ap, ◌∙◌, subst, arith, length-append}
use Rattle.std.proofs.lemmas.List.{length-map}
use Rattle.std.specs.Prelude.{◌↔◌, Result, IsErrOf, IsTrue}
use Rattle.spec_machine.specs.After.{after_all, IsLegalAfter}
use Rattle.spec_model.specs.Nodes.{Node}
use Rattle.spec_model.specs.States.{State}
use Rattle.wire.specs.Lists.{Begins}
use Rattle.spec_model.specs.Words.{Event}
use Rattle.header.specs.declared.refusal.Refusal.{Refusal}
use Rattle.header.specs.declared.refusal.Refusal.TheVariants.{Memory, Down, TooOld, MissingParents, MissingBatch, Equivocation, CertConflict}
use Rattle.header.specs.declared.refusal.Refusal.TheVariants.{DigestClash, AlreadyProposed, NotOurs, CoinOutOfTurn, CoinEarly, CoinConflict}
use Rattle.header.specs.declared.refusal.Refusal.TheVariants.{StoreFull}
use Rattle.validator.specs.Setting.{ConfigView, node_of}
use Rattle.node_seats.specs.Sights.{SeatView}
use Rattle.node_seats.specs.Views.{events, mark, IsSame}
use Rattle.node_seats.specs.declared.view.Marked.{Marked}
use Rattle.node_seats.specs.declared.view.View.{View}
use Rattle.node_seats.proofs.Marks.{events_push}
use Rattle.book.specs.Book.{BookView, Run, Stands, TakesNew, TakesKnown, MayRefuse}
use Rattle.book.specs.declared.book.Receipt.{Receipt}
use Rattle.book.specs.declared.book.TheConstants.{MAX_ACCEPTED}
use Rattle.node_shared.specs.Home.{NodeView, IsBase, IsAtHome, run_of}
use Rattle.node_shared.specs.Answers.{Submits, MayRefuseAt}
use Rattle.node_shared.proofs.Standing.{of_same, at_home, rewrites_same}
use Rattle.sigface.specs.Scheme.{Scheme}

module _ {S : Type 0} (shared : NodeView S) (scheme : Scheme S) (seat : SeatView) (book later : BookView S) (event : Event) (home : IsAtHome scheme shared seat book) where
  abbrev node : Node
  node = node_of scheme shared.setting

  -- the run on a base at which the book stood
  abbrev run : State → Run
  run base = run_of base seat.view home.taken

  stood : book.accepted ≡ length (events seat.view.seen)
  stood = (home.stands home.somewhere.0 home.somewhere.1).accepted

  size : length (events seat.view.seen) ≡ length seat.view.seen
  size = length-map seat.view.seen (λ (one : Marked). one.event)

  module _ (takes : TakesNew (node_of scheme book.validator.setting) book later event) where
    pub here : TakesNew node book later event
    here = subst (λ (s : ConfigView S). TakesNew (node_of scheme s) book later event) home.setting takes

    -- with it all that was accepted is legal
    pub legal_with : (seen : List Marked) → seen ≡ seat.view.seen → (base : State) → IsBase scheme shared base → IsLegalAfter node base (events seen ++ event ∷ [])
    legal_with seen same base at =
        subst (λ (l : List Marked). IsLegalAfter node base (events l ++ event ∷ [])) (sym same) (here.stands (run base) (home.stands base at)).legal

    -- and the book is at home again once its seat has seen it
    pub home_with : (afterwards : SeatView) (by : ℕ) → later.validator.setting ≡ book.validator.setting → IsSame seat afterwards → afterwards.view.seen
        ≡ seat.view.seen ++ mark by event ∷ [] → afterwards.view.durable ≡ seat.view.durable → (later.down ≡ true → ⊥)
        → IsAtHome scheme shared afterwards later
    home_with afterwards by setting same seen durable up =
        at_home shared scheme afterwards later (events seat.view.seen ++ event ∷ []) home.taken (events seat.view.durable) home.somewhere (setting ∙ home.setting)
        (of_same shared seat afterwards home.of_node same) (λ base at. here.stands (run base) (home.stands base at))
        (sym (events_push by event seat.view.seen) ∙ ap events (sym seen)) (ap events (sym durable)) (λ down. absurd (up down))
        (rewrites_same book later here.rewriting here.taken home.whole)

    -- the answer
    pub submits_new : (before afterwards : View) (receipt : Receipt) → Begins before.seen seat.view.seen → receipt.new
        ≡ true → receipt.ticket ≡ later.accepted → receipt.ticket ≤ MAX_ACCEPTED
        → afterwards.seen ≡ seat.view.seen ++ mark before.number event ∷ [] → afterwards.mine ≡ before.mine ++ event ∷ []
        → Submits scheme shared event before afterwards (Ok receipt)
    submits_new before afterwards receipt more is_new ticket limit seen mine = record {
      all = seat.view.seen;
      more = more;
      new = λ _. record {
        outputs = here.outputs;
        answer = λ base at. here.answer (run base) (home.stands base at);
        room = omega (arith, stood, size, ticket, limit, here.accepted);
        seen = seen;
        mine = mine;
        ticket =
            let longer : length afterwards.seen ≡ length seat.view.seen + 1 = ap length seen ∙ length-append seat.view.seen (mark before.number event ∷ []) in
            omega (arith, longer, stood, size, ticket, here.accepted);
      };
      known = λ old. let bad : true ≡ false = sym is_new ∙ old in absurd cc;
      refused = tt;
      same = tt;
    }

  -- a known one
  module _ (takes : TakesKnown (node_of scheme book.validator.setting) book later event) where
    pub was : TakesKnown node book later event
    was = subst (λ (s : ConfigView S). TakesKnown (node_of scheme s) book later event) home.setting takes

    pub home_known : IsAtHome scheme shared seat later
    home_known = record {
      somewhere = home.somewhere;
      setting = ap (λ (b : BookView S). b.validator.setting) was.is ∙ home.setting;
      of_node = home.of_node;
      taken = home.taken;
      stands = λ base at. was.stands (run base) (home.stands base at);
      down = λ is. home.down (sym (ap (λ (b : BookView S). b.down) was.is) ∙ is);
      whole = rewrites_same book later (ap (λ (b : BookView S). b.rewriting) was.is) (ap (λ (b : BookView S). b.taken) was.is) home.whole;
    }

    pub submits_known : (before afterwards : View) (receipt : Receipt) → Begins before.seen seat.view.seen → receipt.new ≡ false → receipt.ticket ≡ later.accepted
        → afterwards.seen ≡ seat.view.seen → afterwards.mine ≡ before.mine
        → Submits scheme shared event before afterwards (Ok receipt)
    submits_known before afterwards receipt more is_known ticket seen mine = record {
      all = seat.view.seen;
      more = more;
      new = λ new. let bad : false ≡ true = sym is_known ∙ new in absurd cc;
      known = λ _. record {
        outputs = was.outputs;
        answer = λ base at. was.answer (run base) (home.stands base at);
        seen = seen;
        mine = mine;
        ticket =
            let longer : length afterwards.seen ≡ length seat.view.seen = ap length seen in
            let kept : later.accepted ≡ book.accepted = ap (λ (b : BookView S). b.accepted) was.is in
            omega (arith, longer, stood, size, ticket, kept);
      };
      refused = tt;
      same = tt;
    }

  -- a refusal
  may_refuse : (base : State) (refusal : Refusal) → MayRefuse node (run base) book event refusal → MayRefuseAt node (after_all node base (events seat.view.seen)) (length seat.view.seen) event refusal
  may_refuse base Memory may = tt
  may_refuse base Down may = tt
  may_refuse base StoreFull may =
      elim may [
        | inl refused ↦ inl refused
        | inr full ↦ inr (full.0, sym (stood ∙ size) ∙ full.1)
      ]
  may_refuse base TooOld may = may
  may_refuse base MissingParents may = may
  may_refuse base MissingBatch may = may
  may_refuse base Equivocation may = may
  may_refuse base CertConflict may = may
  may_refuse base DigestClash may = may
  may_refuse base AlreadyProposed may = may
  may_refuse base NotOurs may = may
  may_refuse base CoinOutOfTurn may = may
  may_refuse base CoinEarly may = may
  may_refuse base CoinConflict may = may

  pub submits_refused : (before afterwards : View) (refusal : Refusal)
      → ((run : Run) → Stands (node_of scheme book.validator.setting) run book → MayRefuse (node_of scheme book.validator.setting) run book event
      refusal)
      → Begins before.seen seat.view.seen → afterwards.seen ≡ seat.view.seen → afterwards.mine ≡ before.mine
      → Submits scheme shared event before afterwards (Err refusal)
  submits_refused before afterwards refusal refused more seen mine =
      let there = subst (λ (s : ConfigView S). (run : Run) → Stands (node_of scheme s) run book → MayRefuse (node_of scheme s) run book event refusal) home.setting refused in
      record {
        all = seat.view.seen;
        more = more;
        new = tt;
        known = tt;
        refused = λ base at. may_refuse base refusal (there (run base) (home.stands base at));
        same = (seen, mine);
      }

-- a book that answers anything but Down isn't down
pub is_up : {S R : Type 0} (result : Result R Refusal) (receipt : R) → result ≡ Ok receipt → (book later : BookView S) → later.down ≡ book.down
    → IsErrOf result Down ↔ IsTrue book.down → later.down ≡ true → ⊥
is_up result receipt is book later same exactly down =
    let none = subst (λ r. IsErrOf r Down ↔ IsTrue book.down) is exactly in
    let bad : Ok receipt ≡ Err Down = none.1 (sym same ∙ down) in absurd cc
