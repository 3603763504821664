-- When the result of handling an event agrees with admission's answer.
use Rattle.std.specs.Prelude.{◌≡◌, ◌⊎◌, Bool, true, false, Result, Ok, Err}
use Rattle.header.specs.declared.admission.Admission.{Admission}
use Rattle.header.specs.declared.admission.Admission.TheVariants as admission
use Rattle.header.specs.declared.refusal.Refusal.{Refusal}
use Rattle.header.specs.declared.refusal.Refusal.TheVariants.{Memory}
use Rattle.admission.specs.declared.step.Step.{Step}
use Rattle.admission.specs.declared.step.Step.TheVariants.{New, Known}

-- the result of handling an event is this answer of admission, or Memory, which says that an allocation failed
abbrev pub IsAnswer : Admission → Result Step Refusal → Type 0
IsAnswer answer (Ok (New outputs)) = answer ≡ admission.New outputs.items
IsAnswer answer (Ok (Known outputs)) = answer ≡ admission.Known outputs.items
IsAnswer answer (Err refusal) = (refusal ≡ Memory) ⊎ (answer ≡ admission.Refused refusal)

-- where admission refuses the event, the result is the same refusal
abbrev pub RefusesAs : Admission → Result Step Refusal → Type 0
RefusesAs answer result = (refusal : Refusal) → answer ≡ admission.Refused refusal → result ≡ Err refusal

-- the result is that the event is new
abbrev pub is_new_step : Result Step Refusal → Bool
is_new_step (Ok (New outputs)) = true
is_new_step (Ok (Known outputs)) = false
is_new_step (Err refusal) = false
