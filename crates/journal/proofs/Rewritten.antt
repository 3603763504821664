-- The steps of a rewriting, at each moment.
use Rattle.std.proofs.Common.{◌≡◌, inl, ℕ, ◌+◌, List, [], ◌∷◌, ◌++◌, length, refl, sym, ap, ◌∙◌, subst, arith, append_assoc}
use Rattle.std.proofs.lemmas.List.{append-nil, drop_all}
use Rattle.diskmodel.specs.Disk.{written, IsTorn, IsCut, ComesBy, NoneNew, LeavesOnly, AtEachMoment, TimePasses, Device}
use Rattle.diskmodel.specs.declared.call.Call.{Call}
use Rattle.diskmodel.proofs.Clock.{started, goes_on}
use Rattle.journal.specs.Areas.{IsAtRest, IsOlder, IsOlderOrNew}
use Rattle.journal.specs.Journal.{MadeSome}
use Rattle.journal.proofs.Moments.{from_only}
use Rattle.journal.proofs.Reporting.{at_rest_older, torn_close, torn_cut, torn_fill, torn_open}

module _ {D : Type 0} (device : Device D) where
  -- what was left since a first moment, and what is left now
  pub record SoFar (old now : D) (P : List ℕ → Type 0) : Type 0 where
    pub moments : AtEachMoment device old now P
    pub here : (left : List ℕ) → device.outcome now left → P left

  pub begins : (old : D) (P : List ℕ → Type 0) → ((left : List ℕ) → device.outcome_since old (device.clock old) left → device.outcome old left)
      → ((left : List ℕ) → device.outcome old left → P left) → SoFar old old P
  begins old P only_now here = record { moments = started device old P (λ left now. here left (only_now left now)); here = here }

  -- one call more
  pub then_left : (old mid new : D) (P : List ℕ → Type 0) → SoFar old mid P → TimePasses device mid new → ((left : List ℕ) → device.outcome new left → P left) → SoFar old new P
  then_left old mid new P before time here = record { moments = goes_on device old mid new P (device.outcome new) before.moments time here; here = here }

  -- that leaves nothing new
  pub then_same : (old mid new : D) (P : List ℕ → Type 0) → SoFar old mid P → TimePasses device mid new → NoneNew (device.outcome mid) (device.outcome new) → SoFar old new P
  then_same old mid new P before time outcomes = then_left old mid new P before time (λ left now. before.here left (outcomes left now))

  module _ (above : ℕ) (old one two : D) (only_now : (left : List ℕ) → device.outcome_since old (device.clock old) left → device.outcome old left)
      (durable : LeavesOnly (device.content old) (device.outcome old)) where
    -- the first two calls: the gate is closed, and then the area synced
    pub closes : IsAtRest above (device.content old) → TimePasses device old one → ComesBy (IsTorn 0 1) (device.outcome old) (device.outcome one) → SoFar old one (IsOlder above)
    closes at_rest time comes =
        let P : List ℕ → Type 0 = IsOlder above in
        then_left old old one P (begins old P only_now (λ left now. subst P (sym (durable left now)) (at_rest_older above (device.content old) at_rest))) time
        (from_only (IsTorn 0 1) (device.content old) (device.outcome old) (device.outcome one) P durable comes (λ left torn. torn_close above (device.content old) left at_rest torn))

    pub closed : IsAtRest above (device.content old) → TimePasses device old one → ComesBy (IsTorn 0 1) (device.outcome old) (device.outcome one)
        → TimePasses device one two → NoneNew (device.outcome one) (device.outcome two) → SoFar old two (IsOlder above)
    closed at_rest time comes passes outcomes = then_same old one two (IsOlder above) (closes at_rest time comes) passes outcomes

  -- the area is cut after its closed gate
  pub cuts : (above : ℕ) (old one two three : D) (rest : List ℕ) → SoFar old two (IsOlder above) → device.content one ≡ 0 ∷ rest
      → LeavesOnly (device.content one) (device.outcome two) → TimePasses device two three → ComesBy (IsCut 1) (device.outcome two) (device.outcome three) → SoFar old three (IsOlder above)
  cuts above old one two three rest before content durable time comes =
      then_left old two three (IsOlder above) before time
      (from_only (IsCut 1) (0 ∷ rest) (device.outcome two) (device.outcome three) (IsOlder above) (subst (λ (l : List ℕ). LeavesOnly l (device.outcome two)) content durable) comes
      (λ left torn. torn_cut above rest left torn))

  -- the groups are written after the closed gate
  pub fills : (above count : ℕ) (bytes : List ℕ) (old one : D) → ((left : List ℕ) → device.outcome_since old (device.clock old) left → device.outcome old left)
      → device.content old ≡ 0 ∷ [] → LeavesOnly (device.content old) (device.outcome old)
      → TimePasses device old one → ComesBy (IsTorn 1 count) (device.outcome old) (device.outcome one) → SoFar old one (IsOlderOrNew above bytes)
  fills above count bytes old one only_now cleared durable time comes =
      let P : List ℕ → Type 0 = IsOlderOrNew above bytes in
      let only : LeavesOnly (0 ∷ []) (device.outcome old) = subst (λ (l : List ℕ). LeavesOnly l (device.outcome old)) cleared durable in
      then_left old old one P
      (begins old P only_now (λ left now. subst P (sym (only left now)) (inl (at_rest_older above (0 ∷ []) (inl refl))))) time
      (from_only (IsTorn 1 count) (0 ∷ []) (device.outcome old) (device.outcome one) P only comes (λ left torn. inl (torn_fill above count left torn)))

  -- and their first gate is opened
  pub opens : (above : ℕ) (bytes : List ℕ) (old one two three : D) → SoFar old two (IsOlderOrNew above bytes) → device.content one ≡ 0 ∷ bytes
      → LeavesOnly (device.content one) (device.outcome two) → TimePasses device two three → ComesBy (IsTorn 0 1) (device.outcome two) (device.outcome three)
      → SoFar old three (IsOlderOrNew above bytes)
  opens above bytes old one two three before content durable time comes =
      then_left old two three (IsOlderOrNew above bytes) before time
      (from_only (IsTorn 0 1) (0 ∷ bytes) (device.outcome two) (device.outcome three) (IsOlderOrNew above bytes)
      (subst (λ (l : List ℕ). LeavesOnly l (device.outcome two)) content durable) comes
      (λ left torn. torn_open above bytes left torn))

-- some of the first calls are some of all
pub made_first : (first after old new : List Call) → MadeSome first old new → MadeSome (first ++ after) old new
made_first first after old new some = record {
  made = some.made;
  left = some.left ++ after;
  are = ap (λ (l : List Call). l ++ after) some.are ∙ append_assoc some.made some.left after;
  is = some.is;
}

-- all of the first calls, and some of those after them
pub made_second : (first after old mid new : List Call) → mid ≡ old ++ first → MadeSome after mid new → MadeSome (first ++ after) old new
made_second first after old mid new all some = record {
  made = first ++ some.made;
  left = some.left;
  are = ap (λ (l : List Call). first ++ l) some.are ∙ sym (append_assoc first some.made some.left);
  is = some.is ∙ ap (λ (l : List Call). l ++ some.made) all ∙ append_assoc old first some.made;
}

-- bytes written after the gate of a cleared area
pub staged : (file new bytes : List ℕ) → file ≡ 0 ∷ [] → new ≡ written file 1 bytes → new ≡ 0 ∷ bytes
staged file new bytes cleared is =
    is ∙ ap (λ (l : List ℕ). written l 1 bytes) cleared ∙ ap (λ (l : List ℕ). 0 ∷ l) (ap (λ (l : List ℕ). bytes ++ l) (drop_all (1 + length bytes) (0 ∷ []) (omega arith)) ∙ append-nil bytes)
