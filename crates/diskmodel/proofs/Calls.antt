-- What one call more makes of the state and of what a stop may leave.
use Rattle.std.proofs.Common.{◌≡◌, ◌⊎◌, ℕ, ◌+◌, ◌-◌, ◌<◌, ◌≤◌, max, false, List, [], ◌∷◌, ◌++◌, length, take, drop, get_or, refl, sym, ap, ◌∙◌, inl}
use Rattle.std.proofs.Common.{inr, ⊎_elim, arith, length-append, length-take, length-drop}
use Rattle.std.proofs.lemmas.Bool.{or_parts, or_from, cases_lt}
use Rattle.std.proofs.lemmas.List.{take_at, get_or-take, get_or-drop, get_or_append_left, get_or-append_right, ext_get_or}
use Rattle.std.proofs.lemmas.List.Elements.{All-append, All-take, All-drop}
use Rattle.diskmodel.specs.declared.call.Call.{Call}
use Rattle.diskmodel.specs.declared.call.Call.TheVariants.{Wrote, Cut, Stopped}
use Rattle.diskmodel.specs.Disk.{written, IsTorn, IsCut, ComesBy}
use Rattle.diskmodel.specs.Outcomes.{State, AreBytes, CanLeave, holds, is_written, after, after_all, all_durable}
use Rattle.diskmodel.proofs.Places.{is_written-push, outside, outside_before, outside_after, cases_le}
use Rattle.diskmodel.proofs.Torn.{written_bytes, restored_bytes, untorn_bytes, length-written, written_before, written_after, restored}
use Rattle.diskmodel.proofs.Torn.{length-restored, untorn, length-untorn, untorn_before, untorn_inside, untorn_after, untorn_IsTorn, IsTorn_refl}
use Rattle.diskmodel.proofs.Torn.{IsCut_refl}

-- one call more at the end
pub after_all-push : (s : State) (calls : List Call) (call : Call) → after_all s (calls ++ call ∷ []) ≡ after (after_all s calls) call
after_all-push s [] call = refl
after_all-push s (next ∷ calls) call = after_all-push (after s next) calls call

-- a place that one row more doesn't hold
unmarked : (s : State) (at : ℕ) (bytes : List ℕ) (place : ℕ) → is_written (after s (Wrote at bytes)).spans place ≡ false
    → (is_written s.spans place ≡ false) × (holds (record { place = at; count = length bytes }) place ≡ false)
unmarked s at bytes place none =
    or_parts (is_written s.spans place) (holds (record { place = at; count = length bytes }) place) (sym (is_written-push s.spans (record { place = at; count = length bytes }) place) ∙ none)

marked_outside : (s : State) (at : ℕ) (bytes : List ℕ) (place : ℕ) → is_written s.spans place ≡ false → (place < at) ⊎ (at + length bytes ≤ place)
    → is_written (after s (Wrote at bytes)).spans place ≡ false
marked_outside s at bytes place none off =
    is_written-push s.spans (record { place = at; count = length bytes }) place
    ∙ or_from (is_written s.spans place) (holds (record { place = at; count = length bytes }) place) none (⊎_elim (outside_before at (length bytes) place) (outside_after at (length bytes) place) off)

-- what a read gives after a write is an outcome
pub possible_write : (s : State) (at : ℕ) (bytes : List ℕ) → CanLeave s s.content → AreBytes bytes → at ≤ length s.content → CanLeave (after s (Wrote at bytes)) (written s.content at bytes)
possible_write s at bytes now are_bytes within = record {
  are_bytes = written_bytes s.content at bytes now.are_bytes are_bytes;
  no_shorter = omega arith;
  no_longer = omega arith;
  stays = λ place below none.
      let two = unmarked s at bytes place none in
      ⊎_elim (λ (before : place < at). written_before s.content at bytes place within before)
      (λ (following : at + length bytes ≤ place). written_after s.content at bytes place within following) (outside at (length bytes) place two.1)
      ∙ now.stays place (omega arith) two.0;
}

-- what a read gives after a cut is an outcome
pub possible_cut : (s : State) (len : ℕ) → CanLeave s s.content → len ≤ length s.content → CanLeave (after s (Cut len)) (take len s.content)
possible_cut s len now within =
    let size : length (take len s.content) ≡ len = length-take len s.content ∙ omega arith in
    record {
      are_bytes = All-take (λ number. number < 256) len s.content now.are_bytes;
      no_shorter = omega arith;
      no_longer = omega arith;
      stays = λ place below none. get_or-take len s.content place 0 (omega arith) ∙ now.stays place (omega arith) none;
    }

-- after a sync only what a read gives is an outcome
pub durable_only : (bytes found : List ℕ) → CanLeave (all_durable bytes) found → found ≡ bytes
durable_only bytes found left = ext_get_or 0 found bytes (omega arith) (λ place below. left.stays place (omega arith) refl)

pub possible_durable : (bytes : List ℕ) → AreBytes bytes → CanLeave (all_durable bytes) bytes
possible_durable bytes are_bytes = record { are_bytes = are_bytes; no_shorter = omega arith; no_longer = omega arith; stays = λ place below none. refl }

-- an outcome after a write comes by it from an outcome before
pub torn_write : (s : State) (at : ℕ) (bytes : List ℕ) → s.smallest ≤ length s.durable → AreBytes s.durable → CanLeave s s.content → at ≤ length s.content
    → ComesBy (IsTorn at (length bytes)) (CanLeave s) (CanLeave (after s (Wrote at bytes)))
torn_write s at bytes in_durable durable_bytes now within found left =
    let size : length (written s.content at bytes) ≡ max (length s.content) (at + length bytes) = length-written s.content at bytes within in
    let enough : s.smallest ≤ length found = omega arith in
    let kept : (place : ℕ) → place < s.smallest → is_written s.spans place ≡ false → (place < at) ⊎ (at + length bytes ≤ place) → get_or found place 0 ≡ get_or s.durable place 0 =
    λ place below none off. left.stays place (omega arith) (marked_outside s at bytes place none off) in
    ⊎_elim
    (λ (short : length found ≤ at). (
      found,
      record { are_bytes = left.are_bytes; no_shorter = enough; no_longer = omega arith; stays = λ place below none. kept place below none (inl (omega arith)) },
      IsTorn_refl at (length bytes) found,
    ))
    (λ (long : at < length found).
    let under : List ℕ = restored s.smallest s.durable found in
    let same : length under ≡ length found = length-restored s.smallest s.durable found in_durable enough in
    let all : length (untorn at (length bytes) under found) ≡ length found = length-untorn at (length bytes) under found same (omega arith) in
    let front : length (take s.smallest s.durable) ≡ s.smallest = length-take s.smallest s.durable ∙ omega arith in (
      take s.greatest (untorn at (length bytes) under found),
      record {
        are_bytes = All-take (λ number. number < 256) s.greatest (untorn at (length bytes) under found)
            (untorn_bytes at (length bytes) under found (restored_bytes s.smallest s.durable found durable_bytes left.are_bytes) left.are_bytes);
        no_shorter = rw length-take (omega arith);
        no_longer = rw length-take (omega arith);
        stays = λ place below none.
            get_or-take s.greatest (untorn at (length bytes) under found) place 0 (omega arith)
            ∙ ⊎_elim
            (λ (before : place < at). untorn_before at (length bytes) under found place (omega arith) before ∙ kept place below none (inl before))
            (λ (from : at ≤ place). ⊎_elim
            (λ (to : place < at + length bytes).
            untorn_inside at (length bytes) under found place same from to (omega arith)
            ∙ get_or_append_left (take s.smallest s.durable) (drop s.smallest found) 0 place (omega arith)
            ∙ get_or-take s.smallest s.durable place 0 below)
            (λ (following : at + length bytes ≤ place). untorn_after at (length bytes) under found place same following (omega arith) ∙ kept place below none (inr following))
            (cases_lt place (at + length bytes)))
            (cases_lt place at);
      },
      untorn_IsTorn at (length bytes) s.greatest under found same long (omega arith) (omega arith),
    ))
    (cases_le (length found) at)

-- an outcome after a cut comes by it from an outcome before
pub torn_cut : (s : State) (len : ℕ) → s.smallest ≤ length s.durable → AreBytes s.durable → CanLeave s s.content → len ≤ length s.content
    → ComesBy (IsCut len) (CanLeave s) (CanLeave (after s (Cut len)))
torn_cut s len in_durable durable_bytes now within found left =
    let size : length (take len s.content) ≡ len = length-take len s.content ∙ omega arith in
    ⊎_elim
    (λ (deep : s.smallest ≤ len). (
      found,
      record { are_bytes = left.are_bytes; no_shorter = omega arith; no_longer = omega arith; stays = λ place below none. left.stays place (omega arith) none },
      IsCut_refl len found,
    ))
    (λ (shallow : len < s.smallest).
    let front : length (take len found) ≡ len = length-take len found ∙ omega arith in
    let base : length (take s.smallest s.durable) ≡ s.smallest = length-take s.smallest s.durable ∙ omega arith in
    let under : List ℕ = restored s.smallest s.durable found in
    let size_under : length under ≡ max s.smallest (length found) = length-append (take s.smallest s.durable) (drop s.smallest found) ∙ omega (arith, length-drop s.smallest found) in
    let size_all : length (take len found ++ drop len under) ≡ max s.smallest (length found) = length-append (take len found) (drop len under) ∙ omega (arith, length-drop len under) in (
      take len found ++ drop len under,
      record {
        are_bytes = All-append (λ number. number < 256) (take len found) (drop len under) (All-take (λ number. number < 256) len found left.are_bytes)
            (All-drop (λ number. number < 256) len under (restored_bytes s.smallest s.durable found durable_bytes left.are_bytes));
        no_shorter = omega arith;
        no_longer = omega arith;
        stays = λ place below none. ⊎_elim
            (λ (before : place < len).
            get_or_append_left (take len found) (drop len under) 0 place (omega arith)
            ∙ get_or-take len found place 0 before
            ∙ left.stays place (omega arith) none)
            (λ (following : len ≤ place).
            get_or-append_right (take len found) (drop len under) len place 0 front following
            ∙ get_or-drop len under (place - len) 0
            ∙ ap (λ n. get_or under n 0) (omega arith)
            ∙ get_or_append_left (take s.smallest s.durable) (drop s.smallest found) 0 place (omega arith)
            ∙ get_or-take s.smallest s.durable place 0 below)
            (cases_lt place len);
      },
      record {
        front = sym (take_at (take len found) (drop len under) len front);
        no_shorter = omega arith;
        no_longer = omega arith;
      },
    ))
    (cases_le s.smallest len)

-- a stop changes nothing of what a stop may leave
pub unstopped : (s : State) (gone found : List ℕ) → CanLeave s found → CanLeave (after s (Stopped gone)) found
unstopped s gone found left = record { are_bytes = left.are_bytes; no_shorter = left.no_shorter; no_longer = left.no_longer; stays = left.stays }

pub stopped : (s : State) (gone found : List ℕ) → CanLeave (after s (Stopped gone)) found → CanLeave s found
stopped s gone found left = record { are_bytes = left.are_bytes; no_shorter = left.no_shorter; no_longer = left.no_longer; stays = left.stays }
