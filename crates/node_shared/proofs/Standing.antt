-- Seats of a node, and books that are at home there.
use Rattle.std.proofs.Common.{◌≡◌, ℕ, Bool, true, false, List, refl, sym, ap, ◌∙◌, subst, if◌then◌else◌}
use Rattle.std.specs.Prelude.{Option, None, IfSome}
use Rattle.spec_world.specs.World.{Waiting}
use Rattle.validator.specs.Setting.{ConfigView, node_of}
use Rattle.validator.specs.Standing.{StandSomewhere}
use Rattle.node_seats.specs.Sights.{SeatView}
use Rattle.node_seats.specs.Views.{events, IsSame}
use Rattle.book.specs.Book.{BookView, Run, Stands}
use Rattle.spec_model.specs.Histories.{History}
use Rattle.spec_model.specs.States.{State}
use Rattle.node_shared.specs.Calls.{Stays}
use Rattle.node_shared.specs.Home.{NodeView, IsBase, IsOf, IsAtHome, RewritesAllTaken, run_of}
use Rattle.sigface.specs.Scheme.{Scheme}

-- where no rewriting is in flight none settles less than was taken
pub none_rewrites : {S : Type 0} (book : BookView S) → book.rewriting ≡ None → RewritesAllTaken book
none_rewrites book none = subst (λ (r : Option ℕ). IfSome r (λ count. count ≡ book.taken)) (sym none) tt

-- nor where it is as before, and as much is taken
pub rewrites_same : {S : Type 0} (book later : BookView S) → later.rewriting ≡ book.rewriting → later.taken ≡ book.taken → RewritesAllTaken book → RewritesAllTaken later
rewrites_same book later rewriting taken whole =
    subst (λ (r : Option ℕ). IfSome r (λ count. count ≡ later.taken)) (sym rewriting) (subst (λ (n : ℕ). IfSome book.rewriting (λ count. count ≡ n)) (sym taken) whole)

module _ {S : Type 0} (shared : NodeView S) where
  -- a step leaves a seat at its node
  pub of_same : (before later : SeatView) → IsOf shared before → IsSame before later → IsOf shared later
  of_same before later of_node same = record {
    table = same.table ∙ of_node.table;
    live = same.live ∙ of_node.live;
    numbered = same.numbered ∙ of_node.numbered;
  }

  module _ (scheme : Scheme S) where
    -- a book stands at home where it stands at a run with these lists, from each base on
    pub at_home : (seat : SeatView) (book : BookView S) (accepted taken settled : History) → StandSomewhere (node_of scheme shared.setting) shared.begun
        → book.validator.setting ≡ shared.setting → IsOf shared seat
        → ((base : State) → IsBase scheme shared base → Stands (node_of scheme shared.setting) (record { base = base; accepted = accepted; taken = taken; settled = settled }) book)
        → accepted ≡ events seat.view.seen → settled ≡ events seat.view.durable → (book.down ≡ true → seat.view.down ≡ true) → RewritesAllTaken book → IsAtHome scheme shared seat book
    at_home seat book accepted taken settled somewhere setting of_node stands accepted_is settled_is down whole = record {
      somewhere = somewhere;
      setting = setting;
      of_node = of_node;
      taken = taken;
      stands = λ base at.
          subst (λ (r : Run). Stands (node_of scheme shared.setting) r book) (λ i. record { base = base; accepted = accepted_is i; taken = taken; settled = settled_is i }) (stands base at);
      down = down;
      whole = whole;
    }

    -- a book that is at home stays so where its seat sees and knows the same
    pub stays_home : (seat later : SeatView) (book : BookView S) → IsAtHome scheme shared seat book → IsSame seat later → later.view.seen ≡ seat.view.seen → later.view.durable ≡ seat.view.durable
        → IsAtHome scheme shared later book
    stays_home seat later book home same seen durable =
        at_home later book (events seat.view.seen) home.taken (events seat.view.durable) home.somewhere home.setting (of_same seat later home.of_node same) home.stands
        (ap events (sym seen)) (ap events (sym durable)) (λ is. same.down (home.down is)) home.whole

    -- and where it stands wherever it stood
    pub home_where : (seat : SeatView) (book later : BookView S) → IsAtHome scheme shared seat book → later.validator.setting ≡ book.validator.setting → (later.down ≡ true → book.down ≡ true)
        → later.rewriting ≡ book.rewriting → later.taken ≡ book.taken → ((run : Run) → Stands (node_of scheme book.validator.setting) run book
        → Stands (node_of scheme book.validator.setting) run later) → IsAtHome scheme shared seat later
    home_where seat book later home setting down rewriting taken stands =
        let there = subst (λ (s : ConfigView S). (run : Run) → Stands (node_of scheme s) run book → Stands (node_of scheme s) run later) home.setting stands in
        record {
          somewhere = home.somewhere;
          setting = setting ∙ home.setting;
          of_node = home.of_node;
          taken = home.taken;
          stands = λ base at. there (run_of base seat.view home.taken) (home.stands base at);
          down = λ is. home.down (down is);
          whole = rewrites_same book later rewriting taken home.whole;
        }

    -- a book that is taken down is at home where its seat knows of it
    pub home_down : (seat afterwards : SeatView) (book later : BookView S) → IsAtHome scheme shared seat book → later ≡ record book { down = true }
        → ((run : Run) → Stands (node_of scheme book.validator.setting) run book → Stands (node_of scheme book.validator.setting) run later)
        → Stays seat afterwards → afterwards.view.down ≡ true → IsAtHome scheme shared afterwards later
    home_down seat afterwards book later home is stands stays down =
        let there = subst (λ (s : ConfigView S). (run : Run) → Stands (node_of scheme s) run book → Stands (node_of scheme s) run later) home.setting stands in
        at_home afterwards later (events seat.view.seen) home.taken (events seat.view.durable) home.somewhere (ap (λ (b : BookView S). b.validator.setting) is ∙ home.setting)
        (of_same seat afterwards home.of_node stays.same)
        (λ base at. there (run_of base seat.view home.taken) (home.stands base at)) (ap events (sym stays.seen)) (ap events (sym stays.durable)) (λ _. down)
        (rewrites_same book later (ap (λ (b : BookView S). b.rewriting) is) (ap (λ (b : BookView S). b.taken) is) home.whole)

-- a book without the first of its outputs, or as it was, is set up as it was
pub queue_setting : {S : Type 0} (book later : BookView S) (queue : List Waiting) (given : Bool) → later
    ≡ (if given then record book { queue = queue } else book) → later.validator.setting ≡ book.validator.setting
queue_setting book later queue true is = ap (λ b. b.validator.setting) is
queue_setting book later queue false is = ap (λ b. b.validator.setting) is

pub queue_down : {S : Type 0} (book later : BookView S) (queue : List Waiting) (given : Bool) → later ≡ (if given then record book { queue = queue } else book) → later.down ≡ book.down
queue_down book later queue true is = ap (λ b. b.down) is
queue_down book later queue false is = ap (λ b. b.down) is

pub queue_rewriting : {S : Type 0} (book later : BookView S) (queue : List Waiting) (given : Bool) → later
    ≡ (if given then record book { queue = queue } else book) → later.rewriting ≡ book.rewriting
queue_rewriting book later queue true is = ap (λ b. b.rewriting) is
queue_rewriting book later queue false is = ap (λ b. b.rewriting) is

pub queue_taken : {S : Type 0} (book later : BookView S) (queue : List Waiting) (given : Bool) → later ≡ (if given then record book { queue = queue } else book) → later.taken ≡ book.taken
queue_taken book later queue true is = ap (λ b. b.taken) is
queue_taken book later queue false is = ap (λ b. b.taken) is

pub queue_left : {S : Type 0} (book later : BookView S) (queue : List Waiting) (given : Bool) → later
    ≡ (if given then record book { queue = queue } else book) → later.queue ≡ (if given then queue else book.queue)
queue_left book later queue true is = ap (λ b. b.queue) is
queue_left book later queue false is = ap (λ b. b.queue) is

-- a book that isn't down
not_true : (one : Bool) → (one ≡ true → ⊥) → one ≡ false
not_true true bad = absurd (bad refl)
not_true false bad = refl

pub stays_up : {S : Type 0} (book : BookView S) → (book.down ≡ true → ⊥) → book ≡ record book { down = false }
stays_up book bad = λ i. record book { down = not_true book.down bad i }
