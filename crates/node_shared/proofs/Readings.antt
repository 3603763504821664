-- What is said of the runs at which a book stands, said of what a seat has seen or knows as settled.
use Rattle.std.proofs.Common.{◌≡◌, ◌≤◌, Bool, true, List, ◌++◌, length, take, refl, sym, ap, ◌∙◌, subst, arith, append-nil}
use Rattle.std.specs.Prelude.{ℕ, All, slice_index_or, Option, Some, None, IsNone, IfSome, Result, Ok, Err, IfOk, drop}
use Rattle.std.proofs.lemmas.List.{length-map, take-map}
use Rattle.admission.proofs.OneState.{one_state}
use Rattle.spec_machine.specs.Machine.{proposed as proposed_at}
use Rattle.spec_model.specs.Admitting.{IsLegal}
use Rattle.spec_model.specs.Giving.{MayGive, kept}
use Rattle.validator.specs.Standing.{ValidatorView, AreAtSound}
use Rattle.spec_model.specs.Histories.{History}
use Rattle.spec_model.specs.Nodes.{Node}
use Rattle.spec_model.specs.States.{State}
use Rattle.spec_model.specs.Words.{Digest, Header, Output}
use Rattle.spec_world.specs.World.{Waiting}
use Rattle.validator.specs.Setting.{ConfigView, node_of}
use Rattle.node_seats.specs.Sights.{SeatView}
use Rattle.node_seats.specs.Views.{events}
use Rattle.node_seats.specs.declared.view.Marked.{Marked}
use Rattle.node_seats.proofs.Beginnings.{begins_trans}
use Rattle.book.specs.Book.{BookView, Run, GoesOutAfter, Stands, state_in, settled_in, GoesOutSettled, releasable, releasable_within}
use Rattle.node_shared.specs.Answers.{IsPutOutBy, Gives}
use Rattle.node_shared.specs.Home.{NodeView, IsBase, IsAtHome, run_of, seen_in, durable_in}
use Rattle.node_shared.proofs.Groups.{same_front}
use Rattle.sigface.specs.Scheme.{Scheme}

module _ {S : Type 0} (shared : NodeView S) (scheme : Scheme S) (seat mine : SeatView) (book : BookView S) (home : IsAtHome scheme shared seat book) where
  abbrev node : Node
  node = node_of scheme shared.setting

  -- what is said of each run at which the book stands holds of that on a base
  at_base : (P : Node → Run → Type 0) → ((run : Run) → Stands (node_of scheme book.validator.setting) run book → P (node_of scheme book.validator.setting) run)
      → (base : State) → IsBase scheme shared base → P node (run_of base seat.view home.taken)
  at_base P reported base at =
      subst (λ (s : ConfigView S). (run : Run) → Stands (node_of scheme s) run book → P (node_of scheme s) run) home.setting reported (run_of base seat.view home.taken) (home.stands base at)

  pub seen_of : (P : Node → State → Type 0) → mine.view.seen ≡ seat.view.seen
      → ((run : Run) → Stands (node_of scheme book.validator.setting) run book → P (node_of scheme book.validator.setting) (state_in (node_of scheme book.validator.setting) run))
      → (base : State) → IsBase scheme shared base → P node (seen_in node base mine)
  seen_of P same reported base at =
      let is : state_in node (run_of base seat.view home.taken) ≡ seen_in node base mine = λ i. seen_in node base (record mine { view = record mine.view { seen = sym same i } }) in
      subst (P node) is (at_base (λ n run. P n (state_in n run)) reported base at)

  pub durable_of : (P : Node → State → Type 0) → mine.view.durable ≡ seat.view.durable
      → ((run : Run) → Stands (node_of scheme book.validator.setting) run book → P (node_of scheme book.validator.setting) (settled_in (node_of scheme book.validator.setting) run))
      → (base : State) → IsBase scheme shared base → P node (durable_in node base mine)
  durable_of P same reported base at =
      let is : settled_in node (run_of base seat.view home.taken) ≡ durable_in node base mine = λ i. durable_in node base (record mine { view = record mine.view { durable = sym same i } }) in
      subst (P node) is (at_base (λ n run. P n (settled_in n run)) reported base at)

  -- an output that goes out may be given out with what the seat knows as settled
  pub given : mine.view.durable ≡ seat.view.durable → (output : Option Output)
      → IfSome output (λ one. (run : Run) → Stands (node_of scheme book.validator.setting) run book → GoesOutSettled (node_of scheme book.validator.setting) run one)
      → IfSome output (λ one. (base : State) (history : History) → IsBase scheme shared base → IsLegal node history → kept node history ≡ base
      → MayGive node (history ++ events mine.view.durable) one)
  given same None goes = goes
  given same (Some one) goes = λ base history at legal keeps.
      let out = at_base (λ n run. GoesOutSettled n run one) goes base at in
      subst (λ (l : List Marked). MayGive node (history ++ events l) one) (sym same) (out.may history legal keeps)

  -- what a ticket counts of what the seat knows as settled
  ticket_size : length (events seat.view.durable) ≡ length seat.view.durable
  ticket_size = length-map seat.view.durable (λ (one : Marked). one.event)

  pub front : (base : State) → IsBase scheme shared base → mine.view.durable ≡ seat.view.durable → (ticket : ℕ) → ticket ≤ length (events seat.view.durable)
      → take ticket (events seat.view.seen) ≡ events (take ticket mine.view.durable)
  front base at same ticket within =
      let stands = home.stands base at in
      let begins = begins_trans (events seat.view.durable) home.taken (events seat.view.seen) stands.settled_begins stands.taken_begins in
      same_front (events seat.view.durable) (events seat.view.seen) ticket begins within ∙ take-map (λ (one : Marked). one.event) ticket seat.view.durable
      ∙ ap (λ (l : List Marked). events (take ticket l)) (sym same)

  -- and an event of that put it out
  pub put_out_by : mine.view.durable ≡ seat.view.durable → (output : Option Output)
      → IfSome output (λ one. (run : Run) → Stands (node_of scheme book.validator.setting) run book → GoesOutSettled (node_of scheme book.validator.setting) run one)
      → IfSome output (λ one. IsPutOutBy scheme shared mine.view one)
  put_out_by same None goes = goes
  put_out_by same (Some one) goes =
      let out = λ (base : State) (at : IsBase scheme shared base). at_base (λ n run. GoesOutSettled n run one) goes base at in
      let first = out home.somewhere.0 home.somewhere.1 in
      record {
        count = first.ticket;
        settled = omega (arith, first.settled, ticket_size, ap length same);
        goes_out = λ base at.
            let first_base = home.somewhere.0 in
            let same_base : first_base ≡ base = one_state node shared.begun first_base base home.somewhere.1.sound home.somewhere.1.at at.sound at.at in
            let events_are = front first_base home.somewhere.1 same first.ticket first.settled in
            subst (λ (s : State). GoesOutAfter node s (events (take first.ticket mine.view.durable)) one) same_base
            (subst (λ (l : History). GoesOutAfter node first_base l one) events_are first.goes_out);
      }

  -- each of the outputs that go out
  pub all_given : mine.view.durable ≡ seat.view.durable → (outputs : List Output)
      → ((run : Run) → Stands (node_of scheme book.validator.setting) run book → All (GoesOutSettled (node_of scheme book.validator.setting) run) outputs)
      → All (Gives scheme shared mine) outputs
  all_given same outputs go = λ k d within.
      let one : Output = slice_index_or outputs k d in
      let goes : (run : Run) → Stands (node_of scheme book.validator.setting) run book → GoesOutSettled (node_of scheme book.validator.setting) run one = λ run at. go run at k d within in
      record { may = given same (Some one) goes; put_out = put_out_by same (Some one) goes }

  -- the order that is told is that of what the seat knows as settled
  pub ordered : mine.view.durable ≡ seat.view.durable → {D E : Type 0} → (items : D → List Digest) (from : ℕ) (result : Result D E)
      → IfOk result (λ digests. (run : Run) → Stands (node_of scheme book.validator.setting) run book
      → items digests ≡ drop from (settled_in (node_of scheme book.validator.setting) run).order)
      → IfOk result (λ digests. (base : State) → IsBase scheme shared base → items digests ≡ drop from (durable_in node base mine).order)
  ordered same items from (Err error) reported = reported
  ordered same items from (Ok digests) reported = durable_of (λ n state. items digests ≡ drop from state.order) same reported

  -- and the header that is proposed is that of what it has seen
  pub proposed : mine.view.seen ≡ seat.view.seen → {E : Type 0} → (result : Result (Option Header) E) (validator : ValidatorView S) → validator ≡ book.validator
      → IfOk result (λ found. (state : State) → AreAtSound (node_of scheme validator.setting) validator.tables state
      → found ≡ proposed_at (node_of scheme validator.setting) state)
      → IfOk result (λ found. (base : State) → IsBase scheme shared base → found ≡ proposed_at node (seen_in node base mine))
  proposed same (Err error) validator is reported = reported
  proposed same (Ok found) validator is reported =
      let there = subst
      (λ (v : ValidatorView S). (state : State) → AreAtSound (node_of scheme v.setting) v.tables state → found ≡ proposed_at (node_of scheme v.setting) state)
      is reported in
      seen_of (λ n state. found ≡ proposed_at n state) same (λ run stands. there (state_in (node_of scheme book.validator.setting) run) stands.at)

-- a book that is down just where this is so
pub with_down : {S : Type 0} (first book later : BookView S) (down : Bool) → book ≡ first → later ≡ record book { down = down } → later ≡ record first { down = down }
with_down {S} first book later down same is = is ∙ ap {A = BookView S} (λ (b : BookView S). record b { down = down }) same

-- what it gives
pub gives_next : {S : Type 0} (first book later : BookView S) (down : Bool) (given : Option Output) → book ≡ first → later
    ≡ record book { down = down } → given ≡ releasable later → given ≡ releasable (record first { down = down })
gives_next {S} first book later down given same is gives = subst (λ (b : BookView S). given ≡ releasable b) (with_down first book later down same is) gives

pub none_given : {S : Type 0} (book later : BookView S) (down : Bool) (given : Option Output) → later ≡ record book { down = down } → given ≡ releasable later → down ≡ true → IsNone given
none_given {S} book later down given is gives so =
    let there : later ≡ record book { down = true } = is ∙ ap {A = Bool} (λ (d : Bool). record book { down = d }) so in
    let none : given ≡ None = subst (λ (b : BookView S). given ≡ releasable b) there gives in
    subst (λ (o : Option Output). IsNone o) (sym none) refl

-- what it lets go of at once, and what it keeps
module _ {S : Type 0} (first book : BookView S) (room : ℕ) (down : Bool) (is : book ≡ record first { down = down }) where
  pub moves_next : (before after : List Output) → after ≡ before ++ releasable_within room book → after ≡ before ++ releasable_within room (record first { down = down })
  moves_next before after added = added ∙ ap (λ (b : BookView S). before ++ releasable_within room b) is

  pub keeps_rest : (later : List Waiting) → later ≡ drop (length (releasable_within room book)) book.queue
      → later ≡ drop (length (releasable_within room (record first { down = down }))) first.queue
  keeps_rest later left = left ∙ ap (λ (b : BookView S). drop (length (releasable_within room b)) b.queue) is

  pub moves_none : (before after : List Output) → after ≡ before ++ releasable_within room book → down ≡ true → after ≡ before
  moves_none before after added so =
      moves_next before after added ∙ ap (λ (d : Bool). before ++ releasable_within room (record first { down = d })) so ∙ append-nil before
