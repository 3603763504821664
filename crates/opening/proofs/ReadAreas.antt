-- Which area of a journal on two disks is read after a renewal, and what the version of a journal says.
use Rattle.std.proofs.Common.{◌≡◌, ◌≢◌, ℕ, List, [], ◌∷◌, Option, Some, None, Result, Ok, Err, sym, ap, ◌∙◌, subst}
use Rattle.std.specs.Prelude.{IsSome, OnOk}
use Rattle.std.specs.Option.{option_map_or}
use Rattle.diskmodel.specs.Disk.{Device as Disks}
use Rattle.journal.specs.Areas.{Areas, stands_in}
use Rattle.journal.specs.Journal.{spare_of}
use Rattle.journal.specs.Pairs.{HaveKeptPlaces}
use Rattle.journal.specs.declared.error.JournalError.{JournalError}
use Rattle.journal.specs.declared.journal.Journal.{Journal}
use Rattle.journal.specs.declared.record.Record.{Record}
use Rattle.journal.specs.declared.side.Side.TheVariants.{First}
use Rattle.journal.specs.declared.spare.Spare.{Spare}
use Rattle.journal.specs.declared.version.Version.{Version}
use Rattle.journal.specs.declared.version.Version.TheVariants as versions
use Rattle.spec_model.specs.Nodes.{Node}
use Rattle.spec_model.specs.States.{State}
use Rattle.spec_world.specs.World.{IsPair}
use Rattle.opening.specs.Renewing.{IsNewest, IsRewritten, IsPlaced}
use Rattle.opening.specs.Decoded.{own_fault, read_after, decoded_in}
use Rattle.opening.proofs.Laws.{unless_ok}
use Rattle.opening.specs.PairReplayed.{version_in}
use Rattle.opening.proofs.PairLaws.{own_is, own_free}
use Rattle.opening.proofs.PairReporting.{pair_first, decoded_pair_records}

-- ---- the area that is read then

pub kept_places : {D : Type 0} (old new : Journal D) → IsSome (spare_of old) → spare_of new ≡ spare_of old → HaveKeptPlaces old new
kept_places {D} old new two same = record {
  pair = subst (λ (o : Option (Spare D)). IsSome o) (sym same) two;
  side = ap (λ (o : Option (Spare D)). option_map_or (λ s. s.side) o First) same;
  generation = ap (λ (o : Option (Spare D)). option_map_or (λ s. s.generation) o 0) same;
}

pub placed_as_before : {D : Type 0} (node : Node) (device : Disks D) (version : Option Version) (old new : Journal D) → version ≢ Some versions.First → HaveKeptPlaces old new
    → IsPlaced node device version old new
placed_as_before node device version old new not_first kept = record { rewritten = λ is. absurd (not_first is); stays = λ same. kept }

pub placed_still : {D : Type 0} (node : Node) (device : Disks D) (version : Option Version) (old new : Journal D) (result : Result (Unit {0}) JournalError) → version ≢ Some versions.First
    → HaveKeptPlaces old new → OnOk result (IsPlaced node device version old new)
placed_still node device version old new (Ok given) not_first kept = placed_as_before node device version old new not_first kept
placed_still node device version old new (Err error) not_first kept = tt

pub placed_anew : {D : Type 0} (node : Node) (device : Disks D) (version : Option Version) (old new : Journal D) (result : Result (Unit {0}) JournalError) → version ≡ Some versions.First
    → OnOk result (IsRewritten node device old new) → OnOk result (IsPlaced node device version old new)
placed_anew node device version old new (Ok given) is rewritten = record { rewritten = λ also. rewritten; stays = λ not_first. absurd (not_first is) }
placed_anew node device version old new (Err error) is rewritten = tt

pub some_is : (version : Option Version) (found named : Version) → version ≡ Some found → found ≡ named → version ≡ Some named
some_is version found named is same = subst (λ (v : Version). version ≡ Some v) same is

pub none_is_not_first : (version : Option Version) → version ≡ None → version ≢ Some versions.First
none_is_not_first version none is = clash (sym none ∙ is)
  where
    clash : ◌≡◌ {A = Option Version} None (Some versions.First) → ⊥
    clash same = cc

pub second_is_not_first : (version : Option Version) → version ≡ Some versions.Second → version ≢ Some versions.First
second_is_not_first version second is = clash (sym second ∙ is)
  where
    clash : ◌≡◌ {A = Option Version} (Some versions.Second) (Some versions.First) → ⊥
    clash same = cc

-- ---- the version of a journal

-- where the first record has none there is no record
pub none_of_version : (node : Node) (areas : Areas) (records : List Record) (state : State) → IsPair areas → stands_in areas ≡ Ok records → decoded_in node areas ≡ Ok state → version_in records ≡ None
    → stands_in areas ≡ Ok []
none_of_version node areas [] state two is reported none = is
none_of_version node areas (first ∷ rest) state two is reported none =
    let read = sym (decoded_pair_records node areas (first ∷ rest) two is) ∙ reported in
    let free = (unless_ok (own_fault node first) (read_after node first rest) state (sym (pair_first node first rest) ∙ read)).0 in
    absurd (some_version (sym (own_is node first free).shape ∙ none))
  where
    some_version : {version : Version} → ◌≡◌ {A = Option Version} (Some version) None → ⊥
    some_version same = cc

-- and where it has the second one there is one, and it is the newest
pub some_of_version : (areas : Areas) (records : List Record) (version : Version) → stands_in areas ≡ Ok records → version_in records ≡ Some version → stands_in areas ≢ Ok []
some_of_version areas [] version is some none = absurd (cc some)
some_of_version areas (first ∷ rest) version is some none = absurd (cc (sym is ∙ none))

pub newest_of_version : (areas : Areas) (records : List Record) → stands_in areas ≡ Ok records → version_in records ≡ Some versions.Second → IsNewest areas
newest_of_version areas records is some first rest also = ap version_in (sym (ok_same (first ∷ rest) (sym is ∙ also))) ∙ some
  where
    ok_same : (l : List Record) → ◌≡◌ {A = Result (List Record) ℕ} (Ok records) (Ok l) → records ≡ l
    ok_same l same = cc
