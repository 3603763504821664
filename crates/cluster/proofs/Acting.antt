-- A member that runs in a thread.
use Rattle.std.proofs.Common.{◌≡◌, ℕ, ◌+◌, Bool, true, false, List, [], ◌∷◌, ◌++◌, map, refl, sym, ap, ◌∙◌, subst, arith}
use Rattle.std.specs.Prelude.{Result, Ok, Err, IfOk, OnOk, All, is_some, if◌then◌else◌}
use Rattle.std.specs.List.{AllZip}
use Rattle.std.proofs.lemmas.List.Elements.{All-append, All-push}
use Rattle.header.specs.Checks.{Accepts}
use Rattle.spec_model.specs.Words.{Author, Event}
use Rattle.validator.specs.Setting.{ConfigView}
use Rattle.cluster.specs.Member.{MemberView}
use Rattle.cluster.specs.Threads.{Act, take, round, Hears, IsHeard, HasActed, HaveActed, HasRun, rounds_in}
use Rattle.cluster.specs.declared.moves.Applied.{Applied}
use Rattle.diskmodel.specs.Disk.{Device}
use Rattle.sigface.specs.Scheme.{Scheme}

-- ---- acts and rounds

abbrev so_many : Bool → ℕ → ℕ
so_many there count = if there then count else 0

so_many_more : (there : Bool) (one more : ℕ) → so_many there more + so_many there one ≡ so_many there (one + more)
so_many_more true one more = omega arith
so_many_more false one more = refl

no_rounds : (there : Bool) → 0 ≡ so_many there 0
no_rounds true = refl
no_rounds false = refl

rounds_more : (acts more : List Act) → rounds_in (more ++ acts) ≡ rounds_in more + rounds_in acts
rounds_more acts [] = omega arith
rounds_more acts (take event applied ∷ more) = rounds_more acts more
rounds_more acts (round applied ∷ more) = ap (λ n. n + 1) (rounds_more acts more) ∙ omega arith

heard_none : (own : Author) → All (λ act. Hears own act) []
heard_none own k act less = absurd (omega (arith, less))

module _ {S D : Type 0} (scheme : Scheme S) (device : Device D) (accepts : Accepts) where
  -- it did nothing in no turn
  pub none_run : (member : MemberView S D) → HasRun scheme device accepts 0 member member
  none_run member = record { setting = refl; there = refl; acts = []; have = refl; heard = heard_none member.setting.own; rounds = no_rounds (is_some member.desk) }

  -- one that is gone does nothing in any
  pub gone_run : (turns : ℕ) (member : MemberView S D) → is_some member.desk ≡ false → HasRun scheme device accepts turns member member
  gone_run turns member gone = record { setting = refl; there = refl; acts = []; have = refl; heard = heard_none member.setting.own; rounds = sym (ap (λ there. so_many there turns) gone) }

  pub none_run_as : (before later : MemberView S D) → later ≡ before → HasRun scheme device accepts 0 before later
  none_run_as before later same = subst (λ (m : MemberView S D). HasRun scheme device accepts 0 before m) (sym same) (none_run before)

  -- it did one thing
  one_act : (count : ℕ) (act : Act) (before later : MemberView S D) → later.setting ≡ before.setting → is_some later.desk ≡ is_some before.desk → Hears before.setting.own act
      → rounds_in (act ∷ []) ≡ so_many (is_some before.desk) count → HasActed scheme device accepts act before later → HasRun scheme device accepts count before later
  one_act count act before later setting there hears counted acted =
      record {
        setting = setting;
        there = there;
        acts = act ∷ [];
        have = (before, refl, acted);
        heard = All-push (λ one. Hears before.setting.own one)
            [] act (heard_none before.setting.own) hears;
        rounds = counted;
      }

  pub took_one : (event : Event) (applied : Applied) (before later : MemberView S D) → later.setting ≡ before.setting → is_some later.desk ≡ is_some before.desk → IsHeard before.setting.own event
      → HasActed scheme device accepts (take event applied) before later → HasRun scheme device accepts 0 before later
  took_one event applied before later setting there heard acted = one_act 0 (take event applied) before later setting there heard (no_rounds (is_some before.desk)) acted

  pub made_one : (applied : Applied) (before later : MemberView S D) → later.setting ≡ before.setting → is_some later.desk ≡ is_some before.desk → is_some before.desk ≡ true
      → HasActed scheme device accepts (round applied) before later → HasRun scheme device accepts 1 before later
  made_one applied before later setting same there acted = one_act 1 (round applied) before later setting same tt (sym (ap (λ b. so_many b 1) there)) acted

  joined : (acts more : List Act) (before middle later : MemberView S D) → HaveActed scheme device accepts acts before middle → HaveActed scheme device accepts more middle later
      → HaveActed scheme device accepts (more ++ acts) before later
  joined acts [] before middle later one same = subst (λ (m : MemberView S D). HaveActed scheme device accepts acts before m) (sym same) one
  joined acts (act ∷ more) before middle later one two = (two.0, joined acts more before middle two.0 one two.1, two.2)

  -- it ran, and ran on
  pub run_on : (one_turns more_turns : ℕ) (before middle later : MemberView S D) → HasRun scheme device accepts one_turns before middle → HasRun scheme device accepts more_turns middle later
      → HasRun scheme device accepts (one_turns + more_turns) before later
  run_on one_turns more_turns before middle later one two = record {
    setting = two.setting ∙ one.setting;
    there = two.there ∙ one.there;
    acts = two.acts ++ one.acts;
    have = joined one.acts two.acts before middle later one.have two.have;
    heard = All-append (λ act. Hears before.setting.own act) two.acts one.acts (subst (λ (s : ConfigView S). All (λ act. Hears s.own act) two.acts) one.setting two.heard) one.heard;
    rounds =
        rounds_more one.acts two.acts
        ∙ ap (λ n. n + rounds_in one.acts) (two.rounds ∙ ap (λ there. so_many there more_turns) one.there)
        ∙ ap (λ n. so_many (is_some before.desk) more_turns + n) one.rounds
        ∙ so_many_more (is_some before.desk) one_turns more_turns;
  }

pub on_ok : {T E P : Type 0} (result : Result T E) → P → OnOk result P
on_ok (Ok value) so = so
on_ok (Err error) so = tt

pub if_ok_more : {T E : Type 0} (result : Result T E) (P Q : T → Type 0) → ((value : T) → P value → Q value) → IfOk result P → IfOk result Q
if_ok_more (Ok value) P Q more so = more value so
if_ok_more (Err error) P Q more so = tt

-- ---- lists side by side

pub zip_more : {A B : Type 0} (R : A → B → Type 0) (xs : List A) (ys : List B) (x : A) (y : B) → AllZip R xs ys → R x y → AllZip R (xs ++ x ∷ []) (ys ++ y ∷ [])
zip_more R [] [] x y all one = (one, tt)
zip_more R [] (b ∷ ys) x y all one = absurd all
zip_more R (a ∷ xs) [] x y all one = absurd all
zip_more R (a ∷ xs) (b ∷ ys) x y all one = (all.0, zip_more R xs ys x y all.1 one)

-- what came of jobs, each of which ended well
pub gathered : {W A B E : Type 0} (R : A → B → Type 0) (view : W → A) (jobs : List W) (ended : List (Result B E)) (values : List B)
    → AllZip (λ job one. IfOk one (λ value. R (view job) value)) jobs ended
    → AllZip (λ one value. one ≡ Ok value) ended values → AllZip R (map view jobs) values
gathered R view [] [] [] all well = tt
gathered {W} {A} {B} {E} R view (job ∷ jobs) (one ∷ ended) (value ∷ values) all well =
    (subst (λ (r : Result B E). IfOk r (λ v. R (view job) v)) well.0 all.0, gathered R view jobs ended values all.1 well.1)
gathered R view [] [] (value ∷ values) all well = absurd well
gathered R view [] (one ∷ ended) values all well = absurd all
gathered R view (job ∷ jobs) [] values all well = absurd all
gathered R view (job ∷ jobs) (one ∷ ended) [] all well = absurd well
