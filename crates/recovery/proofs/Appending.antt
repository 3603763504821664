-- What a writer's known bytes grow by, where a command ended early.
use Rattle.std.proofs.Common.{◌≡◌, ◌⊎◌, ℕ, inl, inr, subst, List, [], Option, refl, ◌∙◌}
use Rattle.std.specs.Io.KnownBytes.{Keeps}
use Rattle.recovery.specs.Writing.{EndsAtDisk, AppendsPart}
use Rattle.recovery.specs.declared.driving.DriveError.{DriveError}
use Rattle.recovery.specs.declared.driving.DriveError.TheVariants as ends
use Rattle.wire_write.proofs.Appending.{keeps_appends}
use Rattle.wire_write.specs.Frames.{AppendsLess}

-- nothing, where it wasn't the writer that failed
pub part_none : (error : DriveError) (old new : Option (List ℕ)) (all : List ℕ) → (error ≡ ends.Output → ⊥) → Keeps old new → AppendsPart error old new all
part_none error old new all never keeps = record {
  part = [];
  begins = record { rest = all; parts = refl };
  less = λ output. absurd (never output);
  none = λ _. refl;
  appends = keeps_appends old new keeps;
}

-- less than all of it, where memory or the writer failed
pub part_less : (error : DriveError) (old new : Option (List ℕ)) (all : List ℕ) → (EndsAtDisk error → ⊥) → AppendsLess old new all → AppendsPart error old new all
part_less error old new all never one = record {
  part = one.part;
  begins = one.begins;
  less = λ output. one.less;
  none = λ disk. absurd (never disk);
  appends = one.appends;
}

-- where memory or the writer failed no command ended at the disk
pub not_at_disk : (error cause : DriveError) → error ≡ cause → (cause ≡ ends.Memory) ⊎ (cause ≡ ends.Output) → EndsAtDisk error → ⊥
not_at_disk error cause same (inl is) disk = subst EndsAtDisk (same ∙ is) disk
not_at_disk error cause same (inr is) disk = subst EndsAtDisk (same ∙ is) disk
