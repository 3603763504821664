-- The worlds of the honest members, after each move of a cluster and after threads.
use Rattle.std.proofs.Common.{◌≡◌, ◌⊎◌, ℕ, Bool, true, false, cond, inl, inr, List, [], ◌∷◌, ◌++◌, Option, Some, None, refl, sym, ap, ◌∙◌, subst}
use Rattle.std.specs.Prelude.{◌<◌, ◌==◌, ◌&&◌, length, All, Contains, Result, Ok, Err}
use Rattle.std.specs.Option.{option_to_list}
use Rattle.std.proofs.lemmas.Bool.{cases_Bool, cases_eq, true≢false, eqb-true, cond-true}
use Rattle.std.proofs.lemmas.List.Elements.{All-head, All-tail, Contains-append_left, Contains-append_right, Contains-append_cases}
use Rattle.committee.specs.Charter.{Charter, IsCharter}
use Rattle.spec_world.proofs.Scripts.{leads_join}
use Rattle.header.specs.Checks.{Accepts, fault_of}
use Rattle.spec_accord.specs.Accord.{Agree}
use Rattle.spec_accord.specs.Members.{HaveNoClash, IsReported, bodies_in}
use Rattle.spec_accord.proofs.Reporting.{bodies_within}
use Rattle.spec_cluster.specs.Agreement.{AreAgreed, RunsAgree, GaveIt}
use Rattle.spec_cluster.specs.Cluster.{Cluster, Worlds, AreMembers, HaveRun}
use Rattle.spec_cluster.specs.Premises.{party_of, FewFaulty, NoTwoTexts, NoForgery, ComesFair}
use Rattle.spec_cluster.proofs.Running.{have_also, settled_came}
use Rattle.spec_cluster.proofs.Signing.{still_signed}
use Rattle.spec_laws.proofs.Lists.{Contains-nothing, Contains-first}
use Rattle.wire.specs.Lists.{Begins}
use Rattle.spec_model.specs.Nodes.{Node, IsNode}
use Rattle.spec_model.specs.Words.{Author, Digest, Event, HeaderBody, Message}
use Rattle.spec_world.specs.Lasting.{settled_in}
use Rattle.spec_world.specs.Steps.{Move, accept, IsRun, Leads}
use Rattle.spec_world.specs.World.{World}
use Rattle.validator.specs.Setting.{ConfigView, node_of}
use Rattle.cluster.specs.Answers.{Deed, Does, Makes, MakesSome, Became, IsGone}
use Rattle.cluster.specs.Applying.{Doing, moved, ran, Stage, HasRunBy, HaveRunBy, IsDone, StagesLead, event_asked, was_taken, may_have_taken, taken_by_acts, taken_in_threads, taken_at, taken_in}
use Rattle.cluster.specs.Applying.{handed_in, outside_at, IsFairStage, StandsAmong, first_world, BeginsAmong, HonestOrdersAgree, AreInAccord, GivenOrdersAgree}
use Rattle.cluster.specs.Cluster.{named, at, actor, asked_in, IsAsked, IsApplied}
use Rattle.cluster.specs.Member.{MemberView, StandsAt, HasPutOut, IsLongest, going_out}
use Rattle.cluster.specs.Threads.{Act, take, round, DoesAct, HaveActed}
use Rattle.cluster.specs.declared.error.ClusterError.{ClusterError}
use Rattle.cluster.specs.declared.error.ClusterError.TheVariants.{Memory, NoSuchNode, NoSuchOutput, Journal}
use Rattle.cluster.specs.declared.moves.Applied.{Applied}
use Rattle.cluster.specs.declared.moves.Move as moves
use Rattle.cluster.specs.declared.moves.Request.{Request}
use Rattle.cluster.proofs.Coming.{ArePlain, AllCome, plain_come, come_join, leads_given, run_more}
use Rattle.cluster.proofs.Fairness.{going_plain, round_plain, sent_fair, unforged_there, Came, takes_come, does_come, source}
use Rattle.cluster.proofs.Places.{found_passes}
use Rattle.diskmodel.specs.Disk.{Device}
use Rattle.sigface.specs.Scheme.{Scheme}

some_is : {T : Type 0} (one other : T) → ◌≡◌ {A = Option T} (Some one) (Some other) → one ≡ other
some_is one other same = cc

none_some : {T : Type 0} (one : T) → ◌≡◌ {A = Option T} None (Some one) → ⊥
none_some one same = cc

module _ {S D : Type 0} (scheme : Scheme S) (device : Device D) where
  -- ---- what a member did

  -- a member went on by moves of its world, and this holds of each event that came in by them
  record GoesOn (own : Node) (Comes : Event → Type 0) (world : World) (one other : MemberView S D) : Type 0 where
    pub moves : List Move
    pub come : AllCome Comes moves
    pub to : World
    pub leads : Leads own world moves to
    pub stands : StandsAt own device to other
    pub setting : other.setting ≡ one.setting

  module _ (own : Node) (Comes : Event → Type 0) (Done : Deed S D → Type 0) (come : (deed : Deed S D) → Done deed → AllCome Comes deed.moves) (world : World)
      (one other : MemberView S D) where
    makes_on : Makes own device Done world one other → GoesOn own Comes world one other
    makes_on is =
        let gone_out = is.collected in
        let out = going_out is.middle.book.down gone_out.went in
        record {
          moves = is.moved.moves ++ out;
          come = come_join Comes is.moved.moves out
              (come (record { world = world; moves = is.moved.moves; before = is.desk; later = is.middle }) is.moved.does)
              (plain_come Comes out (going_plain is.middle.book.down gone_out.went));
          to = gone_out.to;
          leads = leads_join own world is.moved.moves out is.moved.to gone_out.to is.moved.leads gone_out.leads;
          stands = is.stands;
          setting = is.setting;
        }

    makes_some_on : MakesSome own device Done world one other → GoesOn own Comes world one other
    makes_some_on is =
        let gone_out = is.collected in
        let first : AllCome Comes is.moved.moves = elim is.moved.does [
          | inl none ↦ subst (AllCome Comes) (sym none.0) (plain_come Comes [] tt)
          | inr does ↦ come (record { world = world; moves = is.moved.moves; before = is.desk; later = is.middle }) does
        ] in
        let plain = elim gone_out.are as (λ _. ArePlain gone_out.moves) [
          | inl none ↦ subst ArePlain (sym none) tt
          | inr out ↦ subst ArePlain (sym out) (going_plain is.middle.book.down gone_out.went)
        ] in
        record {
          moves = is.moved.moves ++ gone_out.moves;
          come = come_join Comes is.moved.moves gone_out.moves first (plain_come Comes gone_out.moves plain);
          to = gone_out.to;
          leads = leads_join own world is.moved.moves gone_out.moves is.moved.to gone_out.to is.moved.leads gone_out.leads;
          stands = is.stands;
          setting = is.setting;
        }

  -- one that stayed as it was
  same_on : (own : Node) (Comes : Event → Type 0) (world : World) (one other : MemberView S D) → StandsAt own device world one → other ≡ one → GoesOn own Comes world one other
  same_on own Comes world one other stands same = record {
    moves = [];
    come = plain_come Comes [] tt;
    to = world;
    leads = refl;
    stands = subst (StandsAt own device world) (sym same) stands;
    setting = ap (λ (m : MemberView S D). m.setting) same;
  }

  -- a member that is gone
  gone_on : (own : Node) (Comes : Event → Type 0) (world : World) (one other : MemberView S D) → StandsAt own device world one → IsGone one other → GoesOn own Comes world one other
  gone_on own Comes world one other stands is = record {
    moves = [];
    come = plain_come Comes [] tt;
    to = world;
    leads = refl;
    stands = record {
      sound = stands.sound;
      moves = stands.moves;
      run = stands.run;
      at = λ desk same. absurd (none_some desk (sym is.gone ∙ same));
      out = subst (λ o. HasPutOut own world o) (sym is.out) stands.out;
    };
    setting = is.setting;
  }

  -- one that did one thing, and then another
  goes_join : (own : Node) (Comes : Event → Type 0) (world : World) (one middle other : MemberView S D) → (first : GoesOn own Comes world one middle) → GoesOn own Comes first.to middle other
      → GoesOn own Comes world one other
  goes_join own Comes world one middle other first then = record {
    moves = first.moves ++ then.moves;
    come = come_join Comes first.moves then.moves first.come then.come;
    to = then.to;
    leads = leads_join own world first.moves then.moves first.to then.to first.leads then.leads;
    stands = then.stands;
    setting = then.setting ∙ first.setting;
  }

  -- ---- at a request, and in a thread

  module _ (cluster : Cluster) (Comes : Event → Type 0) (charters : (setting : ConfigView S) → (node_of scheme setting).charter ≡ setting.charter) where
    module _ (request : Request) (one other : MemberView S D) (charter : one.setting.charter ≡ cluster.charter) (world : World)
        (stands : StandsAt (node_of scheme one.setting) device world one) where
      own_charter : (node_of scheme one.setting).charter ≡ cluster.charter
      own_charter = charters one.setting ∙ charter

      went_on : (answer : Result Applied ClusterError) → Became (node_of scheme one.setting) device cluster.accepts request one other answer
          → ((event : Event) → event_asked (Some request) ≡ event ∷ [] → may_have_taken answer ≡ true → fault_of cluster.charter cluster.accepts event ≡ None → Comes event)
          → GoesOn (node_of scheme one.setting) Comes world one other
      went_on (Ok applied) is comes =
          makes_on (node_of scheme one.setting) Comes (Does (node_of scheme one.setting) device cluster.accepts request applied)
          (λ deed does. does_come device cluster Comes (node_of scheme one.setting) own_charter request applied deed does comes) world one other (is.ok world stands)
      went_on (Err Memory) is comes =
          let some = is.memory refl world stands in
          makes_some_on (node_of scheme one.setting) Comes (Does (node_of scheme one.setting) device cluster.accepts request some.0)
          (λ deed does. does_come device cluster Comes (node_of scheme one.setting) own_charter request some.0 deed does
          (λ event asked taken passed. comes event asked refl passed)) world one other some.1
      went_on (Err NoSuchNode) is comes = same_on (node_of scheme one.setting) Comes world one other stands (is.same refl)
      went_on (Err NoSuchOutput) is comes = absurd (is.never refl)
      went_on (Err (Journal cause)) is comes = gone_on (node_of scheme one.setting) Comes world one other stands (is.lost tt).1.gone

    -- an act
    act_come : (own : Node) → own.charter ≡ cluster.charter → (act : Act)
        → ((event : Event) → Contains (taken_by_acts (act ∷ [])) event → fault_of cluster.charter cluster.accepts event ≡ None → Comes event)
        → (deed : Deed S D) → DoesAct own device cluster.accepts act deed → AllCome Comes deed.moves
    act_come own charter (take event applied) comes deed does =
        takes_come device cluster Comes own charter event applied deed does (λ taken passed. comes event (taken_here taken) passed)
      where
        taken_here : was_taken applied ≡ true → Contains (taken_by_acts (take event applied ∷ [])) event
        taken_here taken =
            Contains-append_left (cond (was_taken applied) (event ∷ []) []) [] event
            (subst (λ (l : List Event). Contains l event) (sym (cond-true (was_taken applied) (event ∷ []) [] taken)) (Contains-first [] event))
    act_come own charter (round applied) comes deed does = plain_come Comes deed.moves (round_plain device own applied deed does)

    -- what is taken by one act, or by the others
    acts_join : (act : Act) (acts : List Act) → taken_by_acts (act ∷ acts) ≡ taken_by_acts (act ∷ []) ++ taken_by_acts acts
    acts_join (take event applied) acts = by_taken (was_taken applied) refl
      where
        by_taken : (b : Bool) → was_taken applied ≡ b → cond (was_taken applied) (event ∷ []) [] ++ taken_by_acts acts ≡ (cond (was_taken applied) (event ∷ []) [] ++ []) ++ taken_by_acts acts
        by_taken true is = rw is refl
        by_taken false is = rw is refl
    acts_join (round applied) acts = refl

    acts_on : (acts : List Act) (one other : MemberView S D) → one.setting.charter ≡ cluster.charter → HaveActed scheme device cluster.accepts acts one other
        → ((event : Event) → Contains (taken_by_acts acts) event → fault_of cluster.charter cluster.accepts event ≡ None → Comes event)
        → (world : World) → StandsAt (node_of scheme one.setting) device world one → GoesOn (node_of scheme one.setting) Comes world one other
    acts_on [] one other charter have comes world stands = same_on (node_of scheme one.setting) Comes world one other stands have
    acts_on (act ∷ acts) one other charter have comes world stands =
        let middle = have.0 in
        let join = acts_join act acts in
        let first = acts_on acts one middle charter have.1
        (λ event inside passed. comes event (subst (λ (l : List Event). Contains l event) (sym join) (Contains-append_right (taken_by_acts (act ∷ [])) (taken_by_acts acts) event inside)) passed)
        world stands in
        let own : node_of scheme middle.setting ≡ node_of scheme one.setting = ap (node_of scheme) first.setting in
        let there : StandsAt (node_of scheme middle.setting) device first.to middle = subst (λ (n : Node). StandsAt n device first.to middle) (sym own) first.stands in
        let last : GoesOn (node_of scheme middle.setting) Comes first.to middle other =
        makes_on (node_of scheme middle.setting) Comes (DoesAct (node_of scheme middle.setting) device cluster.accepts act)
        (act_come (node_of scheme middle.setting) (charters middle.setting ∙ ap (λ (s : ConfigView S). s.charter) first.setting ∙ charter) act
        (λ event inside passed. comes event (subst (λ (l : List Event). Contains l event) (sym join) (Contains-append_left (taken_by_acts (act ∷ [])) (taken_by_acts acts) event inside)) passed))
        first.to middle other (have.2 first.to there) in
        goes_join (node_of scheme one.setting) Comes world one middle other first (subst (λ (n : Node). GoesOn n Comes first.to middle other) own last)

  -- the member of a number ran with these acts
  pub record RanAt (accepts : Accepts) (turns : ℕ) (honest : ℕ → Bool) (all : List (List Act)) (before later : List (MemberView S D)) (number : Author) (one : MemberView S D) : Type 0 where
    pub other : MemberView S D
    pub is : at later number ≡ Some other
    pub acts : List Act
    pub ran : HasRunBy scheme device accepts turns acts one other
    pub taken : honest one.setting.own.0 ≡ true → (event : Event) → Contains (taken_by_acts acts) event → Contains (taken_in_threads honest before all) event

  ran_at : (accepts : Accepts) (turns : ℕ) (honest : ℕ → Bool) (all : List (List Act)) (before later : List (MemberView S D)) → HaveRunBy scheme device accepts turns all before later
      → (number : Author) (one : MemberView S D) → at before number ≡ Some one → RanAt accepts turns honest all before later number one
  ran_at accepts turns honest [] [] [] have number one is = absurd (none_some one is)
  ran_at accepts turns honest (acts ∷ all) (first ∷ before) (then ∷ later) have number one is = elim (cases_Bool (named number first)) [
    | inl here ↦
        let same : first ≡ one = some_is first one (sym (ap (λ (b : Bool). cond b (Some first) (at before number)) here) ∙ is) in
        let also : named number then ≡ true = ap (λ (s : ConfigView S). s.own.0 == number.0) have.0.0.setting ∙ here in
        record {
          other = then;
          is = ap (λ (b : Bool). cond b (Some then) (at later number)) also;
          acts = acts;
          ran = subst (λ (m : MemberView S D). HasRunBy scheme device accepts turns acts m then) same have.0;
          taken = λ so event inside.
              let so_first : honest first.setting.own.0 ≡ true = ap (λ (m : MemberView S D). honest m.setting.own.0) same ∙ so in
              Contains-append_left (cond (honest first.setting.own.0) (taken_by_acts acts) []) (taken_in_threads honest before all) event
              (subst (λ (l : List Event). Contains l event) (sym (cond-true (honest first.setting.own.0) (taken_by_acts acts) [] so_first)) inside);
        }
    | inr off ↦
        let rest = ran_at accepts turns honest all before later have.1 number one (sym (ap (λ (b : Bool). cond b (Some first) (at before number)) off) ∙ is) in
        let also : named number then ≡ false = ap (λ (s : ConfigView S). s.own.0 == number.0) have.0.0.setting ∙ off in
        record {
          other = rest.other;
          is = ap (λ (b : Bool). cond b (Some then) (at later number)) also ∙ rest.is;
          acts = rest.acts;
          ran = rest.ran;
          taken = λ so event inside.
              Contains-append_right (cond (honest first.setting.own.0) (taken_by_acts acts) []) (taken_in_threads honest before all) event (rest.taken so event inside);
        }
  ]
  ran_at accepts turns honest [] [] (then ∷ later) have number one is = absurd have
  ran_at accepts turns honest [] (first ∷ before) [] have number one is = absurd have
  ran_at accepts turns honest [] (first ∷ before) (then ∷ later) have number one is = absurd have
  ran_at accepts turns honest (acts ∷ all) [] [] have number one is = absurd have
  ran_at accepts turns honest (acts ∷ all) [] (then ∷ later) have number one is = absurd have
  ran_at accepts turns honest (acts ∷ all) (first ∷ before) [] have number one is = absurd have

-- ---- where the honest members stand

module _ {S D : Type 0} (scheme : Scheme S) (device : Device D) (cluster : Cluster) (value : ℕ → ℕ) (events : List Event) where
  -- an event that came in is fair at these worlds, and among the events
  abbrev pub ComesWithin : Worlds → Event → Type 0
  ComesWithin worlds event = ComesFair cluster value worlds event × Contains events event

  -- each of them stands among these members at its world, to which a run of its own led, by which nothing else came in
  pub record AreAt (members : List (MemberView S D)) : Type 0 where
    pub worlds : Worlds
    pub have : HaveRun cluster (ComesWithin worlds) worlds
    pub stand : (number : Author) → cluster.honest number.0 ≡ true → StandsAmong scheme device members number (cluster.node number.0) (worlds number.0)

  fair_only : (worlds : Worlds) → HaveRun cluster (ComesWithin worlds) worlds → HaveRun cluster (ComesFair cluster value worlds) worlds
  fair_only worlds = have_also cluster (ComesWithin worlds) (ComesFair cluster value worlds) worlds (λ event comes. comes.0)

  -- ---- all at once

  module _ (before later : List (MemberView S D)) (are : AreAt before) where
    -- a member's world after it, and the moves that led there
    pub record Next (member : ℕ) : Type 0 where
      pub world : World
      pub moves : List Move
      pub is : cluster.honest member ≡ true → Leads (cluster.node member) (are.worlds member) moves world × AllCome (Came cluster value events are.worlds later) moves
          × StandsAmong scheme device later (record { 0 = member }) (cluster.node member) world

    -- one that isn't honest may have any
    next_of : ((member : ℕ) → cluster.honest member ≡ true → Next member) → (member : ℕ) → Next member
    next_of each member = by_honest (cluster.honest member) refl
      where
        by_honest : (b : Bool) → cluster.honest member ≡ b → Next member
        by_honest true honest = each member honest
        by_honest false off = record { world = are.worlds member; moves = []; is = λ honest. absurd (true≢false (sym honest ∙ off)) }

    module _ (each : (member : ℕ) → cluster.honest member ≡ true → Next member) where
      abbrev worlds_next : Worlds
      worlds_next member = (next_of each member).world

      stand_next : (number : Author) → cluster.honest number.0 ≡ true → StandsAmong scheme device later number (cluster.node number.0) (worlds_next number.0)
      stand_next number honest = ((next_of each number.0).is honest).2

      -- what was signed stays so
      unforged_still : (m : Message) → NoForgery cluster are.worlds m → NoForgery cluster worlds_next m
      unforged_still m none vote there honest good =
          let signer = vote.signer.0 in
          let goes = (next_of each signer).is honest in
          still_signed (are.worlds signer) (worlds_next signer) vote.digest
          (leads_given (cluster.node signer) (are.worlds signer) (next_of each signer).moves (worlds_next signer) goes.0) (none vote there honest good)

      came_fair : (event : Event) → Came cluster value events are.worlds later event → ComesWithin worlds_next event
      came_fair event came = ((came.passed, (unforged, came.coin)), came.within)
        where
          unforged : NoForgery cluster worlds_next event.message
          unforged = elim came.unforged [
            | inl none ↦ unforged_still event.message none
            | inr none ↦ unforged_there device scheme cluster worlds_next later stand_next event.message none
          ]

      still_fair : (event : Event) → ComesWithin are.worlds event → ComesWithin worlds_next event
      still_fair event comes = ((comes.0.0, (unforged_still event.message comes.0.1.0, comes.0.1.1)), comes.1)

      pub all_on : AreAt later
      all_on = record {
        worlds = worlds_next;
        have = record {
          moves = λ member. are.have.moves member ++ (next_of each member).moves;
          runs = λ member honest.
              run_more (cluster.node member) (are.have.moves member) (next_of each member).moves (are.worlds member) (worlds_next member) (are.have.runs member honest)
              ((next_of each member).is honest).0;
          came = λ member honest event inside. elim (Contains-append_cases (are.have.moves member) (next_of each member).moves (accept event) inside) [
            | inl first ↦ still_fair event (are.have.came member honest event first)
            | inr then ↦ came_fair event (((next_of each member).is honest).1 event then)
          ];
        };
        stand = stand_next;
      }

    -- one that stays as it is
    next_same : (number : Author) → cluster.honest number.0 ≡ true → at later number ≡ at before number → Next number.0
    next_same number honest same =
        let among = are.stand number honest in
        record {
          world = are.worlds number.0;
          moves = [];
          is = λ _. (refl, plain_come (Came cluster value events are.worlds later) [] tt, record { member = among.member; is = same ∙ among.is; set_up = among.set_up; stands = among.stands });
        }

    -- one that goes on
    next_on : (number : Author) → cluster.honest number.0 ≡ true → (one other : MemberView S D) → at later number ≡ Some other → node_of scheme one.setting ≡ cluster.node number.0
        → GoesOn scheme device (node_of scheme one.setting) (Came cluster value events are.worlds later) (are.worlds number.0) one other → Next number.0
    next_on number honest one other is own goes = record {
      world = goes.to;
      moves = goes.moves;
      is = λ _. (
        subst (λ (n : Node). Leads n (are.worlds number.0) goes.moves goes.to) own goes.leads,
        goes.come,
        record { member = other; is = is; set_up = ap (node_of scheme) goes.setting ∙ own; stands = subst (λ (n : Node). StandsAt n device goes.to other) own goes.stands },
      );
    }

  -- ---- a stage

  module _ (are_members : AreMembers cluster) (charters : (setting : ConfigView S) → (node_of scheme setting).charter ≡ setting.charter)
      (owns : (setting : ConfigView S) → (node_of scheme setting).own ≡ setting.own) where
    module _ (one : Stage S D) (fair : IsFairStage cluster value one) (within : (event : Event) → Contains (taken_at cluster.honest one.before one.doing) event → Contains events event)
        (are : AreAt one.before) where
      abbrev CameIn : Event → Type 0
      CameIn = Came cluster value events are.worlds one.later

      -- an honest member before it
      record Stood (number : Author) : Type 0 where
        pub member : MemberView S D
        pub is : at one.before number ≡ Some member
        pub own : node_of scheme member.setting ≡ cluster.node number.0
        pub charter : member.setting.charter ≡ cluster.charter
        pub named : member.setting.own.0 ≡ number.0
        pub stands : StandsAt (node_of scheme member.setting) device (are.worlds number.0) member

      stood : (number : Author) → cluster.honest number.0 ≡ true → Stood number
      stood number honest =
          let among = are.stand number honest in
          let member = are_members number.0 honest in
          record {
            member = among.member;
            is = among.is;
            own = among.set_up;
            charter = sym (charters among.member.setting) ∙ ap (λ (n : Node). n.charter) among.set_up ∙ member.charter;
            named = ap (λ (a : Author). a.0) (sym (owns among.member.setting) ∙ ap (λ (n : Node). n.own) among.set_up) ∙ member.number;
            stands = subst (λ (n : Node). StandsAt n device (are.worlds number.0) among.member) (sym among.set_up) among.stands;
          }

      -- what came from outside
      outside_came : (event : Event) → Contains (outside_at cluster.honest one.before one.doing) event → Contains (taken_at cluster.honest one.before one.doing) event
          → fault_of cluster.charter cluster.accepts event ≡ None → CameIn event
      outside_came event outside taken passed =
          let is_fair = fair event outside passed in
          record { passed = passed; within = within event taken; unforged = inr is_fair.0; coin = is_fair.1 }

      -- ---- a move was applied

      module _ (step : moves.Move) (answer : Result Applied ClusterError) (is_moved : one.doing ≡ moved step answer)
          (applied : IsApplied scheme device cluster.accepts one.before step one.later answer) where
        module _ (honest : cluster.honest (actor step).0 ≡ true) (taken : may_have_taken answer ≡ true) where
          both : (cluster.honest (actor step).0 && may_have_taken answer) ≡ true
          both = λ i. honest i && taken i

          taken_is : (event : Event) → Contains (event_asked (asked_in one.before step)) event → Contains (taken_at cluster.honest one.before one.doing) event
          taken_is event inside =
              subst (λ (d : Doing). Contains (taken_at cluster.honest one.before d) event) (sym is_moved)
              (subst (λ (l : List Event). Contains l event) (sym (cond-true (cluster.honest (actor step).0 && may_have_taken answer) (event_asked (asked_in one.before step)) [] both)) inside)

          outside_is : (event : Event) → handed_in cluster.honest one.before step ≡ Some event → Contains (outside_at cluster.honest one.before one.doing) event
          outside_is event handed =
              subst (λ (d : Doing). Contains (outside_at cluster.honest one.before d) event) (sym is_moved)
              (subst (λ (l : List Event). Contains l event) (sym (cond-true (cluster.honest (actor step).0 && may_have_taken answer)
              (option_to_list (handed_in cluster.honest one.before step)) [] both))
              (subst (λ (o : Option Event). Contains (option_to_list o) event) (sym handed) (Contains-first [] event)))

          asked_came : (event : Event) → event_asked (asked_in one.before step) ≡ event ∷ [] → fault_of cluster.charter cluster.accepts event ≡ None → CameIn event
          asked_came event asked passed = elim (source cluster one.before step event asked) [
            | inl sent ↦
                let is_fair = sent_fair device scheme cluster are.worlds one.before are.stand value are_members
                (fair_only are.worlds are.have) sent.from sent.honest sent.place event.message sent.is in
                record { passed = passed; within = within event inside; unforged = inl is_fair.0; coin = is_fair.1 }
            | inr handed ↦ outside_came event (outside_is event handed) inside passed
          ]
            where
              inside : Contains (taken_at cluster.honest one.before one.doing) event
              inside = taken_is event (subst (λ (l : List Event). Contains l event) (sym asked) (Contains-first [] event))

        went : (request : Request) → asked_in one.before step ≡ Some request
            → IsAsked (λ member other. Became (node_of scheme member.setting) device cluster.accepts request member other answer) (actor step) one.before one.later answer
            → cluster.honest (actor step).0 ≡ true → Next one.before one.later are (actor step).0
        went request asked is honest =
            let here = stood (actor step) honest in
            let other = is.there here.member here.is in
            next_on one.before one.later are (actor step) honest here.member other.0 other.1 here.own
            (went_on scheme device cluster CameIn charters request here.member other.0 here.charter (are.worlds (actor step).0) here.stands answer other.2
            (λ event so taken passed. asked_came honest taken event (ap event_asked asked ∙ so) passed))

        pub moved_on : AreAt one.later
        moved_on = by_request (asked_in one.before step) refl
          where
            by_request : (asked : Option Request) → asked_in one.before step ≡ asked → AreAt one.later
            by_request None none = subst AreAt (sym (applied.not_asked none)) are
            by_request (Some request) asked = all_on one.before one.later are (λ member honest. elim (cases_eq member (actor step).0) [
              | inl it ↦
                  subst (λ (m : ℕ). Next one.before one.later are m) (sym it)
                  (went request asked (applied.asked request asked) (ap cluster.honest (sym it) ∙ honest))
              | inr differs ↦
                  next_same one.before one.later are (record { 0 = member }) honest
                  ((applied.asked request asked).others (record { 0 = member }) (λ same. differs (ap (λ (a : Author). a.0) same)))
            ])

      -- ---- the members ran in threads

      ran_on : (turns : ℕ) (acts : List (List Act)) → one.doing ≡ ran turns acts → HaveRunBy scheme device cluster.accepts turns acts one.before one.later → AreAt one.later
      ran_on turns acts is have = all_on one.before one.later are (λ member honest. each member honest)
        where
          each : (member : ℕ) → cluster.honest member ≡ true → Next one.before one.later are member
          each member honest =
              let number : Author = record { 0 = member } in
              let here = stood number honest in
              let there = ran_at scheme device cluster.accepts turns cluster.honest acts one.before one.later have number here.member here.is in
              let acted : HaveActed scheme device cluster.accepts there.acts here.member there.other =
              subst (λ (l : List Act). HaveActed scheme device cluster.accepts l here.member there.other) there.ran.1 there.ran.0.have in
              next_on one.before one.later are number honest here.member there.other there.is here.own
              (acts_on scheme device cluster CameIn charters there.acts here.member there.other here.charter acted
              (λ event inside passed.
              let taken : Contains (taken_in_threads cluster.honest one.before acts) event = there.taken (ap cluster.honest here.named ∙ honest) event inside in
              outside_came event (subst (λ (d : Doing). Contains (outside_at cluster.honest one.before d) event) (sym is) taken)
              (subst (λ (d : Doing). Contains (taken_at cluster.honest one.before d) event) (sym is) taken) passed)
              (are.worlds member) here.stands)

      stage_on : IsDone scheme device cluster.accepts one.before one.doing one.later → AreAt one.later
      stage_on done = by_doing one.doing refl done
        where
          by_doing : (doing : Doing) → one.doing ≡ doing → IsDone scheme device cluster.accepts one.before doing one.later → AreAt one.later
          by_doing (moved step answer) is applied = moved_on step answer is applied
          by_doing (ran turns acts) is have = ran_on turns acts is have

    -- and so were these
    pub lead_on : (stages : List (Stage S D)) (first last : List (MemberView S D)) → StagesLead scheme device cluster.accepts first stages last → All (IsFairStage cluster value) stages
        → ((event : Event) → Contains (taken_in cluster.honest stages) event → Contains events event) → AreAt first → AreAt last
    lead_on [] first last same fair within are = subst AreAt same are
    lead_on (one ∷ stages) first last lead fair within are =
        lead_on stages one.later last lead.2 (All-tail (IsFairStage cluster value) one stages fair)
        (λ event inside. within event (Contains-append_right (taken_at cluster.honest one.before one.doing) (taken_in cluster.honest stages) event inside))
        (stage_on one (All-head (IsFairStage cluster value) one stages fair)
        (λ event inside. within event (Contains-append_left (taken_at cluster.honest one.before one.doing) (taken_in cluster.honest stages) event inside)) (subst AreAt (sym lead.0) are) lead.1)

  module _ (first : List (MemberView S D)) (begin : (number : Author) → cluster.honest number.0 ≡ true → BeginsAmong scheme device first cluster number) where
    -- they begin
    pub begin_at : AreAt first
    begin_at = record {
      worlds = λ number. first_world (cluster.node number);
      have = record {
        moves = λ number. [];
        runs = λ number honest.
            let begins = begin (record { 0 = number }) honest in
            subst (λ (n : Node). IsRun n [] (first_world n)) begins.set_up begins.runs;
        came = λ number honest event inside. absurd (Contains-nothing (accept event) inside);
      };
      stand = λ number honest.
          let begins = begin number honest in
          record {
            member = begins.member;
            is = begins.is;
            set_up = begins.set_up;
            stands = subst (λ (n : Node). StandsAt n device (first_world n) begins.member) begins.set_up begins.begins;
          };
    }

    -- each of them is a node of the committee
    module _ (owns : (setting : ConfigView S) → (node_of scheme setting).own ≡ setting.own) (charters : (setting : ConfigView S) → (node_of scheme setting).charter ≡ setting.charter) where
      pub members_begin : AreMembers cluster
      members_begin number honest =
          let begins = begin (record { 0 = number }) honest in
          let member = begins.member in
          let is_number : member.setting.own.0 ≡ number = eqb-true member.setting.own.0 number (found_passes (λ member. named (record { 0 = number }) member) first member begins.is) in
          let own : (node_of scheme member.setting).own.0 ≡ number = ap (λ (a : Author). a.0) (owns member.setting) ∙ is_number in
          let charter : (node_of scheme member.setting).charter ≡ cluster.charter = charters member.setting ∙ begins.charter in
          let sound = begins.begins.sound in
          record {
            within = subst (λ (n : ℕ). n < length cluster.charter.keys) own (subst (λ (c : Charter). (node_of scheme member.setting).own.0 < length c.keys) charter sound.member);
            number = subst (λ (n : Node). n.own.0 ≡ number) begins.set_up own;
            charter = subst (λ (n : Node). n.charter ≡ cluster.charter) begins.set_up charter;
            is = subst IsNode begins.set_up sound;
          }

  -- ---- what they agree on

  -- an order is none, or it was given out
  gave : (worlds : Worlds) (number : ℕ) → cluster.honest number ≡ true → (digests : List Digest)
      → IsLongest (cluster.node number) (worlds number) digests → (digests ≡ []) ⊎ GaveIt cluster worlds number digests
  gave worlds number honest digests longest = elim longest.given [
    | inl none ↦ inl none
    | inr some ↦ inr (record { honest = honest; given = some.0; among = some.1; is = some.2 })
  ]

  none_begins : (one other : List Digest) → one ≡ [] → Begins one other
  none_begins one other none = record { rest = other; parts = ap (λ (l : List Digest). l ++ other) (sym none) }

  orders_of : (worlds : Worlds) → AreAgreed cluster worlds → (number also : ℕ) (one other : List Digest) → (one ≡ [])
      ⊎ GaveIt cluster worlds number one → (other ≡ []) ⊎ GaveIt cluster worlds also other → Agree one other
  orders_of worlds agreed number also one other (inl none) second = inl (none_begins one other none)
  orders_of worlds agreed number also one other (inr first) (inl none) = inr (none_begins other one none)
  orders_of worlds agreed number also one other (inr first) (inr second) = agreed.orders number also one other first second

  -- the committee is within its limits, since an honest member is a node of it
  sound_of : AreMembers cluster → (number : ℕ) → cluster.honest number ≡ true → IsCharter cluster.charter
  sound_of are number honest = let member = are number honest in subst IsCharter member.charter member.is.charter

  -- what they are agreed on at their worlds
  at_worlds_agreed : RunsAgree → AreMembers cluster → FewFaulty cluster → (members : List (MemberView S D)) → (are : AreAt members) → NoTwoTexts cluster are.worlds → AreAgreed cluster are.worlds
  at_worlds_agreed agree are_members few members are clash = record {
    certificates = λ member also one other held held'. (agreed (sound_of are_members member held.honest)).certificates member also one other held held';
    orders = λ member also one other gave gave'. (agreed (sound_of are_members member gave.honest)).orders member also one other gave gave';
  }
    where
      agreed : IsCharter cluster.charter → AreAgreed cluster are.worlds
      agreed sound = agree cluster value are.worlds sound are_members few (fair_only are.worlds are.have) clash

  -- and their longest orders
  orders_agreed : (members : List (MemberView S D)) → (are : AreAt members) → AreAgreed cluster are.worlds → HonestOrdersAgree cluster.honest members
  orders_agreed members are agreed number also one other honest honest' is is' =
      orders_of are.worlds agreed number.0 also.0 one.out.order other.out.order (given number honest one is) (given also honest' other is')
    where
      given : (number : Author) → cluster.honest number.0 ≡ true → (one : MemberView S D) → at members number ≡ Some one → (one.out.order ≡ []) ⊎ GaveIt cluster are.worlds number.0 one.out.order
      given number honest one is =
          let among = are.stand number honest in
          let same : among.member ≡ one = some_is among.member one (sym among.is ∙ is) in
          subst (λ (m : MemberView S D). (m.out.order ≡ []) ⊎ GaveIt cluster are.worlds number.0 m.out.order) same
          (gave are.worlds number.0 honest among.member.out.order among.stands.out.order)

  pub in_accord : RunsAgree → AreMembers cluster → FewFaulty cluster → (members : List (MemberView S D)) → AreAt members → AreInAccord scheme device members cluster value
  in_accord agree are_members few members are = record {
    worlds = are.worlds;
    have = fair_only are.worlds are.have;
    stand = are.stand;
    agreed = at_worlds_agreed agree are_members few members are;
    orders = λ clash. orders_agreed members are (at_worlds_agreed agree are_members few members are clash);
  }

  -- what they settled is among the events, so no two different texts there share a digest
  no_clash_settled : AreMembers cluster → (worlds : Worlds) → HaveRun cluster (ComesWithin worlds) worlds
      → HaveNoClash (λ body. Contains (bodies_in events) body) → NoTwoTexts cluster worlds
  no_clash_settled are_members worlds have none = record {
    headers = λ one other reported reported' same. none.headers one other (inside one reported) (inside other reported') same;
    certificates = λ one other reported reported' same. none.certificates one other (inside one reported) (inside other reported') same;
    both = λ one other reported reported' same. none.both one other (inside one reported) (inside other reported') same;
  }
    where
      settled : (member : ℕ) → cluster.honest member ≡ true → (event : Event) → Contains (settled_in (worlds member)) event → Contains events event
      settled member honest event there = (settled_came cluster (ComesWithin worlds) are_members worlds have member honest event there).1

      inside : (body : HeaderBody) → IsReported (party_of cluster worlds) body → Contains (bodies_in events) body
      inside body reported = bodies_within (settled_in (worlds reported.member)) events (settled reported.member reported.honest) body reported.reported

  pub orders_agree_within : RunsAgree → AreMembers cluster → FewFaulty cluster → (members : List (MemberView S D)) → AreAt members
      → HaveNoClash (λ body. Contains (bodies_in events) body) → HonestOrdersAgree cluster.honest members
  orders_agree_within agree are_members few members are none =
      orders_agreed members are (at_worlds_agreed agree are_members few members are (no_clash_settled are_members are.worlds are.have none))

-- the law
module _ {S D : Type 0} (scheme : Scheme S) (device : Device D) (accepts : Accepts) (members : List (MemberView S D))
    (owns : (setting : ConfigView S) → (node_of scheme setting).own ≡ setting.own) (charters : (setting : ConfigView S) → (node_of scheme setting).charter ≡ setting.charter) where
  pub given_orders_agree : RunsAgree → GivenOrdersAgree scheme device accepts members
  given_orders_agree agree = λ cluster value first stages same begin few lead fair.
      let events = taken_in cluster.honest stages in
      let are_members = members_begin scheme device cluster value events first begin owns charters in
      let led = subst (λ (a : Accepts). StagesLead scheme device a first stages members) (sym same) lead in
      let are = lead_on scheme device cluster value events are_members charters owns stages first members led fair (λ event inside. inside) (begin_at scheme device cluster value events first begin) in
      (in_accord scheme device cluster value events agree are_members few members are, orders_agree_within scheme device cluster value events agree are_members few members are)
