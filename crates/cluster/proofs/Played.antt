-- A cluster that was opened, and the moves that were applied to it.
use Rattle.std.proofs.Common.{◌≡◌, ℕ, List, [], ◌∷◌, ◌++◌, map, Option, Some, Result, refl, sym, ap₂, ◌∙◌}
use Rattle.std.specs.List.{AllZip}
use Rattle.std.specs.Prelude.{All}
use Rattle.std.proofs.lemmas.List.{map-append}
use Rattle.std.proofs.lemmas.List.Elements.{All-contains}
use Rattle.header.specs.Checks.{Accepts}
use Rattle.spec_cluster.specs.Agreement.{RunsAgree}
use Rattle.spec_cluster.specs.Cluster.{Cluster}
use Rattle.spec_laws.proofs.Lists.{found_passes}
use Rattle.spec_model.specs.Words.{Author}
use Rattle.spec_world.specs.Steps.{IsRun}
use Rattle.validator.specs.Setting.{ConfigView, node_of}
use Rattle.cluster.specs.Applying.{Stage, ran, IsDone, StagesLead, AreAnswered, move_in, answer_in, IsAmong, BeginsAmong, first_world, ArePlayed}
use Rattle.cluster.specs.Cluster.{named}
use Rattle.cluster.specs.Member.{MemberView, StandsAt, IsOn, IsNew}
use Rattle.cluster.specs.Threads.{Act, HasRun}
use Rattle.cluster.specs.declared.error.ClusterError.{ClusterError}
use Rattle.cluster.specs.declared.moves.Applied.{Applied}
use Rattle.cluster.specs.declared.moves.Move.{Move}
use Rattle.cluster.proofs.Following.{given_orders_agree}
use Rattle.diskmodel.specs.Disk.{Device}
use Rattle.sigface.specs.Scheme.{Scheme}

module _ {S D : Type 0} (scheme : Scheme S) (device : Device D) (accepts : Accepts) where
  -- one more stage
  pub lead_more : (stages : List (Stage S D)) (first : List (MemberView S D)) (one : Stage S D) → StagesLead scheme device accepts first stages one.before
      → IsDone scheme device accepts one.before one.doing one.later → StagesLead scheme device accepts first (stages ++ one ∷ []) one.later
  lead_more [] first one lead done = (sym lead, done, refl)
  lead_more (stage ∷ stages) first one lead done = (lead.0, lead.1, lead_more stages stage.later one lead.2 done)

  -- one more move was applied, and answered
  pub answered_more : (stages : List (Stage S D)) (moves : List Move) (answers : List (Result Applied ClusterError)) → AreAnswered stages moves answers
      → (one : Stage S D) (move : Move) (answer : Result Applied ClusterError) → move_in one.doing ≡ Some move → answer_in one.doing ≡ Some answer
      → AreAnswered (stages ++ one ∷ []) (moves ++ move ∷ []) (answers ++ answer ∷ [])
  answered_more stages moves answers so_far one move answer is said = record {
    applied = map-append (λ (s : Stage S D). move_in s.doing) stages (one ∷ []) ∙ ap₂ (λ (l : List (Option Move)) (m : Option Move). l ++ m ∷ []) so_far.applied is
        ∙ sym (map-append (λ (m : Move). Some m) moves (move ∷ []));
    answered = map-append (λ (s : Stage S D). answer_in s.doing) stages (one ∷ [])
        ∙ ap₂ (λ (l : List (Option (Result Applied ClusterError))) (a : Option (Result Applied ClusterError)). l ++ a ∷ []) so_far.answered said
        ∙ sym (map-append (λ (a : Result Applied ClusterError). Some a) answers (answer ∷ []));
  }

  -- members that ran in threads did so by some acts
  pub ran_by : (turns : ℕ) (before later : List (MemberView S D)) → AllZip (HasRun scheme device accepts turns) before later
      → (acts : List (List Act)) × IsDone scheme device accepts before (ran turns acts) later
  ran_by turns [] [] all = ([], tt)
  ran_by turns [] (other ∷ later) all = absurd all
  ran_by turns (one ∷ before) [] all = absurd all
  ran_by turns (one ∷ before) (other ∷ later) all = let rest = ran_by turns before later all.1 in (all.0.acts ∷ rest.0, ((all.0, refl), rest.1))

  -- ---- new members

  abbrev Begins : MemberView S D → Type 0
  Begins member = StandsAt (node_of scheme member.setting) device (first_world (node_of scheme member.setting)) member

  -- a member that is among new ones begins there
  module _ (members : List (MemberView S D)) (runs : All (λ member. IsRun (node_of scheme member.setting) [] (first_world (node_of scheme member.setting))) members) (begins : All Begins members)
      (cluster : Cluster) (number : Author) (among : IsAmong scheme members cluster number) where
    pub begins_among : BeginsAmong scheme device members cluster number
    begins_among =
        let inside = (found_passes (λ (member : MemberView S D). named number member) members among.member among.is).1 in
        record {
          member = among.member;
          is = among.is;
          set_up = among.set_up;
          charter = among.charter;
          runs = All-contains (λ (member : MemberView S D). IsRun (node_of scheme member.setting) [] (first_world (node_of scheme member.setting))) members among.member runs inside;
          begins = All-contains Begins members among.member begins inside;
        }

  -- ---- played ones

  module _ (owns : (setting : ConfigView S) → (node_of scheme setting).own ≡ setting.own) (charters : (setting : ConfigView S) → (node_of scheme setting).charter ≡ setting.charter)
      (agree : RunsAgree) where
    pub are_played : (settings : List (ConfigView S)) (first : List (MemberView S D)) → map (λ member. member.setting) first ≡ settings → (disks : List D) → AllZip (IsOn device) disks first
        → All (λ member. IsRun (node_of scheme member.setting) [] (first_world (node_of scheme member.setting))) first → All Begins first → All (IsNew scheme device) first
        → (moves : List Move) (answers : List (Result Applied ClusterError)) (stages : List (Stage S D)) → AreAnswered stages moves answers → (members : List (MemberView S D))
        → StagesLead scheme device accepts first stages members
        → ArePlayed scheme device accepts settings disks moves answers members
    are_played settings first set_up disks on runs begins new moves answers stages made members lead = record {
      first = first;
      set_up = set_up;
      on = on;
      new = new;
      stages = stages;
      made = made;
      lead = lead;
      agree = λ cluster value same among few fair none.
          (given_orders_agree scheme device accepts members owns charters agree cluster value first stages same
          (λ number honest. begins_among first runs begins cluster number (among number honest)) few lead fair).1 none;
    }
