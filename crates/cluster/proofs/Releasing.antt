-- What goes out after a move, a step at a time.
use Rattle.std.proofs.Common.{◌≡◌, ℕ, Bool, true, false, inl, inr, List, [], ◌∷◌, ◌++◌, length, drop, map, refl, sym, ap, ◌∙◌, subst, append_assoc, append-nil}
use Rattle.std.specs.Prelude.{Option, Some, None, Result, Ok, Err, is_ok, OnOk, OnErr, nat_le, if◌then◌else◌}
use Rattle.std.proofs.lemmas.Bool.{cases_Bool}
use Rattle.std.proofs.lemmas.List.{map-append}
use Rattle.book.specs.Book as book
use Rattle.book.specs.Book.{BookView, releasable}
use Rattle.book.specs.Queue.{settled_head}
use Rattle.desk.specs.AtWorld.{IsAt, LeadsTo}
use Rattle.desk.specs.Desk as desk
use Rattle.book.specs.Steps.{run_of}
use Rattle.spec_laws.proofs.Legal.{legal-begins}
use Rattle.spec_machine.proofs.AfterAll.{after_is_kept, legal_again}
use Rattle.spec_world.proofs.Scripts.{leads_join}
use Rattle.spec_model.specs.Admitting.{IsLegal}
use Rattle.spec_model.specs.Holdings.{order}
use Rattle.spec_model.specs.Nodes.{Node}
use Rattle.spec_model.specs.Words.{Digest, Output}
use Rattle.spec_world.specs.Lasting.{settled_in}
use Rattle.spec_world.specs.Steps.{Move, read_order, release, IsStep, Leads}
use Rattle.spec_world.specs.World.{World, Waiting}
use Rattle.cluster.specs.Collecting.{IsWhole, HasRead, IsReleasedNext, HasReleased}
use Rattle.cluster.specs.Member.{GivenOutView, HasPutOut, HasKept, HasCollected, HasCollectedSome, going_out}
use Rattle.cluster.proofs.PuttingOut.{begins_drop, longest_begins, read_out, release_out}
use Rattle.diskmodel.specs.Disk.{Device}

abbrev outs : List Waiting → List Output
outs waiting = map (λ one. one.output) waiting

-- one move's step
step_of : (node : Node) (world : World) (move : Move) (next : World) → Leads node world (move ∷ []) next → IsStep node world move next
step_of node world move next leads = subst (IsStep node world move) leads.2 leads.1

-- the head of a queue that may go out
pub head_of : (down : Bool) (settled : ℕ) (queue : List Waiting) (output : Output) → (if down then None else settled_head settled queue) ≡ Some output
    → (first : Waiting) × (rest : List Waiting) × (queue ≡ first ∷ rest) × (first.output ≡ output)
head_of true settled queue output is = absurd cc
head_of false settled [] output is = absurd cc
head_of false settled (first ∷ rest) output is =
    elim (cases_Bool (nat_le first.ticket settled)) [
      | inl le ↦ (let same : Some first.output ≡ Some output = rw le at is in (first, rest, refl, (cc)))
      | inr not ↦ (let none : ◌≡◌ {A = Option Output} None (Some output) = rw not at is in absurd cc)
    ]

module _ {S D : Type 0} (node : Node) (device : Device D) where
  -- the order of the state after what is settled is that of the history
  pub order_settled : (world : World) (one : desk.DeskView S D) → IsAt node device world one → (book.settled_in node (run_of node world)).order ≡ order node (settled_in world)
  order_settled world one at =
      let stands = at.is_of_world.stands in
      let all : IsLegal node (world.began ++ world.accepted) = legal_again node world.began world.accepted at.is_of_world.began stands.legal in
      let rest = stands.settled_begins.rest ++ stands.taken_begins.rest in
      let parts : world.began ++ world.accepted ≡ (world.began ++ world.settled) ++ rest =
      ap (λ l. world.began ++ l) (stands.taken_begins.parts ∙ ap (λ l. l ++ stands.taken_begins.rest) stands.settled_begins.parts
      ∙ append_assoc world.settled stands.settled_begins.rest stands.taken_begins.rest)
      ∙ sym (append_assoc world.began world.settled rest) in
      ap (λ s. s.order) (after_is_kept node world.began world.settled (legal-begins node (world.began ++ world.settled) rest (subst (IsLegal node) parts all)))

  -- the settled order was read
  pub has_read : (world : World) (one : desk.DeskView S D) (before later : GivenOutView) → IsAt node device world one → HasPutOut node world before → LeadsTo node device world (read_order ∷ []) one
      → later.outputs ≡ before.outputs → later.order ≡ before.order ++ drop (length before.order) (order node (settled_in world)) → HasRead node device world one later
  has_read world one before later at was to outputs digests = record {
    to = to.next;
    leads = to.leads;
    at = to.is_at;
    whole = read_out node to.is_at.moves world to.next at.sound to.is_at.run (step_of node world read_order to.next to.leads) before later was outputs
        (digests ∙ begins_drop before.order (order node (settled_in world)) (longest_begins node at.moves world at.sound at.run before.order was.order));
  }

  -- nothing went out yet
  pub none_released : (world : World) (one : desk.DeskView S D) (out : GivenOutView) → IsAt node device world one → IsWhole node world out → HasReleased node device world one one out out
  none_released world one out at whole = record {
    went = [];
    kept = record { took = []; queue = refl; outputs = sym (append-nil out.outputs); same = refl };
    to = world;
    leads = refl;
    at = at;
    whole = whole;
  }

  -- and one output more did
  pub released_more : (world : World) (first middle last : desk.DeskView S D) (before between later : GivenOutView) → HasReleased node device world first middle before between
      → IsReleasedNext node device middle last between later → HasReleased node device world first last before later
  released_more world first middle last before between later so_far more =
      let step = more.step so_far.to so_far.at in
      let to = step.1 in
      let waiting : Waiting = record { ticket = step.0; output = more.waiting.output } in
      let released = step_of node so_far.to (release waiting) to.next to.leads in
      record {
        went = so_far.went ++ waiting ∷ [];
        kept = record {
          took = so_far.kept.took ++ more.waiting ∷ [];
          queue = so_far.kept.queue ∙ ap (λ (l : List Waiting). so_far.kept.took ++ l) more.queue ∙ sym (append_assoc so_far.kept.took (more.waiting ∷ []) last.book.queue);
          outputs = more.outputs ∙ ap (λ (l : List Output). l ++ more.waiting.output ∷ []) so_far.kept.outputs ∙ append_assoc before.outputs (outs so_far.kept.took) (more.waiting.output ∷ [])
              ∙ ap (λ (l : List Output). before.outputs ++ l) (sym (map-append (λ (w : Waiting). w.output) so_far.kept.took (more.waiting ∷ [])));
          same = map-append (λ (w : Waiting). w.output) so_far.went (waiting ∷ []) ∙ ap (λ (l : List Output). l ++ more.waiting.output ∷ []) so_far.kept.same
              ∙ sym (map-append (λ (w : Waiting). w.output) so_far.kept.took (more.waiting ∷ []));
        };
        to = to.next;
        leads = subst (λ (l : List Move). Leads node world l to.next) (sym (map-append release so_far.went (waiting ∷ [])))
            (leads_join node world (map release so_far.went) (release waiting ∷ []) so_far.to to.next so_far.leads to.leads);
        at = to.is_at;
        whole = release_out node to.is_at.moves so_far.to to.next so_far.at.sound to.is_at.run more.waiting.output _ released.is between later so_far.whole more.outputs more.order;
      }

  -- the first output of the queue went out
  pub next_released : (one next : desk.DeskView S D) (output : Output) (before later : GivenOutView) → releasable one.book ≡ Some output → next.book ≡ record one.book { queue = drop 1 one.book.queue }
      → later.outputs ≡ before.outputs ++ output ∷ [] → later.order ≡ before.order
      → ((world : World) → IsAt node device world one → (ticket : ℕ) × LeadsTo node device world (release (record { ticket = ticket; output = output }) ∷ []) next)
      → IsReleasedNext node device one next before later
  next_released one next output before later may is outputs digests step =
      let head = head_of one.book.down one.book.settled one.book.queue output may in
      record {
        waiting = head.0;
        queue = head.2 ∙ ap (λ (l : List Waiting). head.0 ∷ l) (sym (ap (λ (b : BookView S). b.queue) is ∙ ap (drop 1) head.2));
        outputs = outputs ∙ ap (λ (o : Output). before.outputs ++ o ∷ []) (sym head.3);
        order = digests;
        step = λ world at. subst (λ (o : Output). (ticket : ℕ) × LeadsTo node device world (release (record { ticket = ticket; output = o }) ∷ []) next) (sym head.3) (step world at);
      }

  -- ---- both

  -- a desk that is down gives nothing out
  pub nothing_collected : (world : World) (one : desk.DeskView S D) (out : GivenOutView) → one.book.down ≡ true → IsAt node device world one
      → HasPutOut node world out → HasCollected node device world one one out out
  nothing_collected world one out down at was = record {
    went = [];
    kept = record { took = []; queue = refl; outputs = sym (append-nil out.outputs); same = refl };
    none_left = ap (λ (b : Bool). if b then None else settled_head one.book.settled one.book.queue) down;
    to = world;
    leads = subst (λ (b : Bool). Leads node world (going_out b []) world) (sym down) refl;
    at = at;
    out = was;
  }

  -- memory was refused before anything went out
  pub none_collected : (world : World) (one : desk.DeskView S D) (out : GivenOutView) → IsAt node device world one → HasPutOut node world out → HasCollectedSome node device world one one out out
  none_collected world one out at was = record {
    went = [];
    kept = record { took = []; queue = refl; outputs = sym (append-nil out.outputs); same = refl };
    moves = [];
    are = inl refl;
    to = world;
    leads = refl;
    at = at;
    out = was;
  }

  module _ (world : World) (one next : desk.DeskView S D) (before between later : GivenOutView) (read : HasRead node device world one between) (outputs : between.outputs ≡ before.outputs)
      (released : HasReleased node device read.to one next between later) where
    joined : Leads node world (read_order ∷ map release released.went) released.to
    joined = leads_join node world (read_order ∷ []) (map release released.went) read.to released.to read.leads released.leads

    kept : HasKept one next before later released.went
    kept = record {
      took = released.kept.took;
      queue = released.kept.queue;
      outputs = released.kept.outputs ∙ ap (λ (l : List Output). l ++ outs released.kept.took) outputs;
      same = released.kept.same;
    }

    -- all that may went out
    pub all_collected : one.book.down ≡ false → releasable next.book ≡ None → HasCollected node device world one next before later
    all_collected up none = record {
      went = released.went;
      kept = kept;
      none_left = none;
      to = released.to;
      leads = subst (λ (b : Bool). Leads node world (going_out b released.went) released.to) (sym up) joined;
      at = released.at;
      out = released.whole.out;
    }

    -- or some of it
    pub some_collected : one.book.down ≡ false → HasCollectedSome node device world one next before later
    some_collected up = record {
      went = released.went;
      kept = kept;
      moves = read_order ∷ map release released.went;
      are = inr (sym (ap (λ (b : Bool). going_out b released.went) up));
      to = released.to;
      leads = joined;
      at = released.at;
      out = released.whole.out;
    }

-- what holds of a failed call, and of one that succeeded
pub on_err : {T E : Type 0} (r : Result T E) (P : Type 0) → P → OnErr r P
on_err (Ok x) P is = tt
on_err (Err e) P is = is

pub ok_more : {T E : Type 0} (r : Result T E) (P Q : Type 0) → (P → Q) → OnOk r P → OnOk r Q
ok_more (Ok x) P Q more is = more is
ok_more (Err e) P Q more is = tt

pub ok_both : {T E : Type 0} (r : Result T E) (P Q R : Type 0) → (P → Q → R) → OnOk r P → OnOk r Q → OnOk r R
ok_both (Ok x) P Q R more one two = more one two
ok_both (Err e) P Q R more one two = tt

pub err_more : {T E : Type 0} (r : Result T E) (P Q : Type 0) → (P → Q) → OnErr r P → OnErr r Q
err_more (Ok x) P Q more is = tt
err_more (Err e) P Q more is = more is

-- a list that grew where a call succeeded
pub grown : {T E : Type 0} (r : Result T E) (old more new : List Digest) → new ≡ (if is_ok r then old ++ more else old) → OnOk r (new ≡ old ++ more)
grown (Ok x) old more new is = is
grown (Err e) old more new is = tt
