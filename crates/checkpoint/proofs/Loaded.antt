-- What a node writes is loaded.
use Rattle.std.proofs.Common.{◌≡◌, List, ℕ, drop, Result, Ok, refl, ap, subst, ◌∙◌}
use Rattle.std.specs.Prelude.{All}
use Rattle.std.proofs.lemmas.List.Elements.{All-tail}
use Rattle.journal.specs.declared.version.Version.TheVariants.{Second}
use Rattle.spec_machine.specs.Sound.{IsSound}
use Rattle.spec_records.specs.Records.{configuration_of}
use Rattle.spec_checkpoint.specs.Data.{Checkpoint}
use Rattle.spec_checkpoint.specs.Laws.{LoadsTheSound, ReadAsWritten}
use Rattle.spec_checkpoint.specs.Meaning.{state_in}
use Rattle.spec_checkpoint.specs.Reading.{checkpoint_read}
use Rattle.spec_checkpoint.specs.Records.{state_records}
use Rattle.wire.specs.Fields.{AreBytes}
use Rattle.admission.specs.Standing.{AreAt}
use Rattle.checkpoint.specs.Describes.{KeptIsLoaded}

one_read : (read : Result Checkpoint ℕ) (one other : Checkpoint) → read ≡ Ok one → read ≡ Ok other → one ≡ other
one_read read one other is so = cc

pub kept_is_loaded : ReadAsWritten → LoadsTheSound → KeptIsLoaded
kept_is_loaded reading loading node tables records node_is bytes describes =
    let checkpoint = describes.checkpoint in
    let first = configuration_of Second node.charter node.own in
    let rest : All AreBytes (state_records checkpoint) = All-tail AreBytes first (state_records checkpoint) (subst (All AreBytes) describes.are bytes) in
    let reads : checkpoint_read node (drop 1 records) ≡ Ok checkpoint =
    ap (λ (l : List (List ℕ)). checkpoint_read node (drop 1 l)) describes.are ∙ (reading node (state_records checkpoint) checkpoint rest).1 (describes.written.canonical, refl) in (
      (loading node records node_is bytes).1 (checkpoint, record { version = Second; can_report = tt; are = describes.are; written = describes.written; sound = describes.sound }),
      λ other so.
          let same = one_read (checkpoint_read node (drop 1 records)) checkpoint other reads so in
          (subst (λ (c : Checkpoint). IsSound node (state_in node c)) same describes.sound, subst (λ (c : Checkpoint). AreAt node (state_in node c) tables) same describes.at),
    )
