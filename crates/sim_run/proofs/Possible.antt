-- A torn write is an outcome of a stop.
use Rattle.std.proofs.Common.{◌≡◌, ℕ, ◌<◌, Bool, true, false, List, ap, ◌∙◌, arith}
use Rattle.std.specs.Prelude.{slice_index, if◌then◌else◌}
use Rattle.std.proofs.lemmas.List.Elements.{All-from_get_or}
use Rattle.diskmodel.specs.declared.memory.MemDisk.{MemDisk}
use Rattle.diskmodel.specs.Memory.{content_of, state_of, CanStopAt}
use Rattle.diskmodel.specs.Outcomes.{is_written}
use Rattle.sim_run.specs.Stops.{IsTornBy}

small : (b : Bool) (byte other found : ℕ) → byte < 256 → other < 256 → found ≡ (if b then byte else other) → found < 256
small true byte other found small_byte small_other is = omega (arith, is, small_byte)
small false byte other found small_byte small_other is = omega (arith, is, small_other)

pub torn_possible : (disk : MemDisk) (byte : ℕ) (found : List ℕ) → byte < 256 → IsTornBy byte disk found → CanStopAt disk (content_of disk) → CanStopAt disk found
torn_possible disk byte found small_byte by now = record {
  stays = λ place below none.
      by.torn place (omega (arith, by.len, now.no_shorter, below))
      ∙ ap (λ (b : Bool). if b then byte else slice_index (content_of disk) place) none
      ∙ now.stays place below none;
  are_bytes = All-from_get_or (λ number. number < 256) found 0
      (λ place inside. small (is_written (state_of disk).spans place) byte (slice_index (content_of disk) place) (slice_index found place) small_byte
      (now.are_bytes place 0 (omega (arith, by.len, inside))) (by.torn place inside));
  no_shorter = omega (arith, by.len, now.no_shorter);
  no_longer = omega (arith, by.len, now.no_longer);
}
