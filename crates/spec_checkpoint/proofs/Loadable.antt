-- Records have no fault exactly where they are those of a sound state.
use Rattle.std.proofs.Common.{◌≡◌, ◌≢◌, ◌⊎◌, ℕ, ◌+◌, Bool, true, false, inl, inr, List, [], ◌∷◌, Result, Ok, Err, Option, Some, None, refl, sym, ap, ◌∙◌, arith}
use Rattle.std.specs.Prelude.{◌==◌, ◌||◌, not, All, option_map, if◌then◌else◌, nat_lt, ◌&&◌}
use Rattle.std.specs.List.{list_all, position_from}
use Rattle.std.specs.Option.{option_or}
use Rattle.std.specs.Str.{bytes_eq}
use Rattle.std.specs.Cmp.Derive.{both_true}
use Rattle.std.proofs.lemmas.Bool.{and_parts, eqb-true}
use Rattle.std.proofs.lemmas.List.Elements.{All-nil, All-cons, All-head, All-tail}
use Rattle.std.proofs.lemmas.Slice.Eq.{bytes_eq-Decides}
use Rattle.wire.specs.Fields.{AreBytes}
use Rattle.journal.specs.declared.version.Version.{Version}
use Rattle.journal.specs.declared.version.Version.TheVariants.{First, Second}
use Rattle.spec_model.specs.Holdings.{is_low}
use Rattle.spec_model.specs.Nodes.{Node, IsNode, size_of}
use Rattle.spec_records.specs.Records.{configuration_of, CanReport}
use Rattle.spec_checkpoint.specs.Data.{Checkpoint, KeptVote}
use Rattle.spec_checkpoint.specs.Faults.{is_vote_sound, record_tests, is_whole_sound, has_no_fault}
use Rattle.spec_checkpoint.specs.Laws.{ReadAsWritten, OneCheckpoint, LoadsTheSound}
use Rattle.spec_checkpoint.specs.Loading.{LoadFault, at_record, of_whole, is_configuration, unsound, fault_of_read, load_fault, AreLoadable}
use Rattle.spec_checkpoint.specs.Meaning.{listed_floor}
use Rattle.spec_checkpoint.specs.Reading.{checkpoint_read}
use Rattle.spec_checkpoint.specs.Records.{state_records}
use Rattle.spec_checkpoint.proofs.Following.{was_written}
use Rattle.spec_checkpoint.proofs.NoFault.{sound_has_no_fault}
use Rattle.spec_checkpoint.proofs.ReadAgain.{is_read}
use Rattle.spec_checkpoint.proofs.Sound.{no_fault_is_sound}
use Rattle.spec_checkpoint.proofs.Tests.{all_sound, not_true}

pub read_as_written : ReadAsWritten
read_as_written node records checkpoint fits = (
  λ read. was_written node records checkpoint fits read,
  λ written. ap (checkpoint_read node) written.1 ∙ is_read node checkpoint written.0,
)

ok_is : (one other : Checkpoint) → ◌≡◌ {A = Result Checkpoint ℕ} (Ok one) (Ok other) → one ≡ other
ok_is one other same = cc

pub one_checkpoint : OneCheckpoint
one_checkpoint node one other is also same = ok_is one other (sym (is_read node one is) ∙ ap (checkpoint_read node) same ∙ is_read node other also)

-- ---- the tests

-- no test fails exactly where each is passed
none_fails : (tests : List Bool) (place : ℕ) → position_from not place tests ≡ None → list_all (λ sound. sound) tests ≡ true
none_fails [] place none = refl
none_fails (true ∷ tests) place none = none_fails tests (place + 1) none
none_fails (false ∷ tests) place none = absurd cc

each_is_passed : (tests : List Bool) (place : ℕ) → list_all (λ sound. sound) tests ≡ true → position_from not place tests ≡ None
each_is_passed [] place all = refl
each_is_passed (true ∷ tests) place all = each_is_passed tests (place + 1) all
each_is_passed (false ∷ tests) place all = absurd cc

neither : (place : Option ℕ) (whole : Bool) → ◌≡◌ {A = Option LoadFault} (option_or (option_map at_record place) (if whole then None else Some of_whole)) None → (place ≡ None) × (whole ≡ true)
neither (Some place) whole none = absurd cc
neither None true none = (refl, refl)
neither None false none = absurd cc

-- a checkpoint has no fault exactly where its tests say so
no_fault : (node : Node) (checkpoint : Checkpoint) → unsound node checkpoint ≡ None → has_no_fault node checkpoint ≡ true
no_fault node checkpoint none =
    let both = neither (position_from not 1 (record_tests node checkpoint)) (is_whole_sound node checkpoint) none in
    both_true (none_fails (record_tests node checkpoint) 1 both.0) both.1

has_none : (node : Node) (checkpoint : Checkpoint) → has_no_fault node checkpoint ≡ true → unsound node checkpoint ≡ None
has_none node checkpoint is =
    let both = and_parts (list_all (λ sound. sound) (record_tests node checkpoint)) (is_whole_sound node checkpoint) is in
    rw (each_is_passed (record_tests node checkpoint) 1 both.0, both.1) refl

-- ---- the configuration

-- each stake is 1 exactly where the test says so
each_one : (stakes : List ℕ) → list_all (λ stake. stake == 1) stakes ≡ true → All (λ stake. stake ≡ 1) stakes
each_one [] all = All-nil (λ stake. stake ≡ 1)
each_one (stake ∷ stakes) all =
    let parts = and_parts (stake == 1) (list_all (λ one. one == 1) stakes) all in
    All-cons (λ one. one ≡ 1) stake stakes (eqb-true stake 1 parts.0) (each_one stakes parts.1)

are_one : (stakes : List ℕ) → All (λ stake. stake ≡ 1) stakes → list_all (λ stake. stake == 1) stakes ≡ true
are_one [] each = refl
are_one (stake ∷ stakes) each = rw (All-head (λ one. one ≡ 1) stake stakes each) (are_one stakes (All-tail (λ one. one ≡ 1) stake stakes each))

either : (one other : Bool) → (one || other) ≡ true → (one ≡ true) ⊎ (other ≡ true)
either true other is = inl refl
either false other is = inr is

or_other : (one other : Bool) → other ≡ true → (one || other) ≡ true
or_other true other is = refl
or_other false other is = is

-- the version in which a record tells the node's configuration
record Reports (node : Node) (bytes : List ℕ) : Type 0 where
  pub version : Version
  pub can : CanReport version node.charter
  pub is : bytes ≡ configuration_of version node.charter node.own

reported : (node : Node) (bytes : List ℕ) → is_configuration node bytes ≡ true → Reports node bytes
reported node bytes is = elim (either (bytes_eq bytes (configuration_of Second node.charter node.own)) _ is) [
  | inl second ↦ record { version = Second; can = tt; is = (bytes_eq-Decides bytes (configuration_of Second node.charter node.own)).0 second }
  | inr first ↦
      let both = and_parts (list_all (λ stake. stake == 1) node.charter.stakes) (bytes_eq bytes (configuration_of First node.charter node.own)) first in
      record { version = First; can = each_one node.charter.stakes both.0; is = (bytes_eq-Decides bytes (configuration_of First node.charter node.own)).0 both.1 }
]

reports : (node : Node) (version : Version) → CanReport version node.charter → is_configuration node (configuration_of version node.charter node.own) ≡ true
reports node Second can = let same = configuration_of Second node.charter node.own in rw ((bytes_eq-Decides same same).1 refl) refl
reports node First can =
    let same = configuration_of First node.charter node.own in
    or_other (bytes_eq same (configuration_of Second node.charter node.own)) _ (both_true (are_one node.charter.stakes can) ((bytes_eq-Decides same same).1 refl))

-- ---- the records

-- none of the votes is for the node itself
of_others : (node : Node) (checkpoint : Checkpoint) (votes : List KeptVote) → list_all (is_vote_sound node checkpoint) votes ≡ true → All (λ vote. vote.author ≢ node.own.0) votes
of_others node checkpoint [] all = All-nil (λ vote. vote.author ≢ node.own.0)
of_others node checkpoint (vote ∷ votes) all =
    let parts = and_parts (is_vote_sound node checkpoint vote) (list_all (is_vote_sound node checkpoint) votes) all in
    let two = and_parts (not (is_low (listed_floor node checkpoint) vote.round)) (nat_lt vote.author (size_of node) && not (vote.author == node.own.0)) parts.0 in
    let three = and_parts (nat_lt vote.author (size_of node)) (not (vote.author == node.own.0)) two.1 in
    let other : (vote.author == node.own.0) ≡ false = not_true (vote.author == node.own.0) three.1 in
    All-cons (λ v. v.author ≢ node.own.0) vote votes (λ same. (let own : (vote.author == node.own.0) ≡ true = grind (arith, same) in let bad : true ≡ false = sym own ∙ other in cc))
    (of_others node checkpoint votes parts.1)

some_fault : (test : Bool) (read fault : Option LoadFault) → (fault ≡ None → ⊥) → (if test then read else fault) ≡ None → (test ≡ true) × (read ≡ None)
some_fault true read fault some none = (refl, none)
some_fault false read fault some none = absurd (some none)

was_read : (node : Node) (read : Result Checkpoint ℕ) → fault_of_read node read ≡ None → (checkpoint : Checkpoint) × (read ≡ Ok checkpoint) × (unsound node checkpoint ≡ None)
was_read node (Ok checkpoint) none = (checkpoint, refl, none)
was_read node (Err place) none = absurd cc

loadable : (node : Node) (records : List (List ℕ)) → IsNode node → All AreBytes records → load_fault node records ≡ None → (checkpoint : Checkpoint) × AreLoadable node records checkpoint
unfolding load_fault
loadable node [] is fits none = absurd cc
loadable node (first ∷ records) is fits none =
    let parts = some_fault (is_configuration node first) (fault_of_read node (checkpoint_read node records)) (Some (at_record 0)) (λ bad. cc) none in
    let version = reported node first parts.0 in
    let read = was_read node (checkpoint_read node records) parts.1 in
    let written = was_written node records read.0 (All-tail AreBytes first records fits) read.1 in
    let sound = no_fault node read.0 read.2 in (
      read.0,
      record {
        version = version.version;
        can_report = version.can;
        are = ap (λ row. row ∷ records) version.is ∙ ap (λ rows. configuration_of version.version node.charter node.own ∷ rows) written.1;
        written = record { canonical = written.0; others = of_others node read.0 read.0.votes (all_sound node read.0 sound).votes };
        sound = no_fault_is_sound node read.0 is written.0 sound;
      },
    )

not_at_fault : (node : Node) (records : List (List ℕ)) (checkpoint : Checkpoint) → AreLoadable node records checkpoint → load_fault node records ≡ None
unfolding load_fault
not_at_fault node records checkpoint are =
    let own = configuration_of are.version node.charter node.own in
    let none : load_fault node (own ∷ state_records checkpoint) ≡ None =
    rw (reports node are.version are.can_report, is_read node checkpoint are.written.canonical) (has_none node checkpoint (sound_has_no_fault node checkpoint are.written are.sound)) in
    ap (load_fault node) are.are ∙ none

pub loads_the_sound : LoadsTheSound
loads_the_sound node records is fits = (loadable node records is fits, λ found. not_at_fault node records found.0 found.1)
