-- What a stop may leave of a disk that is rewritten, and what both disks then stand for.
use Rattle.std.proofs.Common.{◌≡◌, ℕ, zero, suc, ◌+◌, ◌-◌, ◌<◌, ◌≤◌, inl, inr, List, [], ◌∷◌, ◌++◌, length, take, drop, Option, Some, refl, sym, ap, ◌∙◌, subst, arith, take-append-drop, length-take, length-drop}
use Rattle.std.specs.Prelude.{slice_get}
use Rattle.std.proofs.lemmas.List.{append-nil, drop_all, take_at, ext_get_or, get_or-take}
use Rattle.std.proofs.lemmas.List.Elements.{All-nil}
use Rattle.std.proofs.lemmas.Option.{same_Some, none-some}
use Rattle.diskmodel.specs.Disk.{written, IsCut}
use Rattle.diskmodel.specs.Outcomes.{State, AreBytes, CanLeave, after, after_all, all_durable}
use Rattle.diskmodel.specs.declared.call.Call.{Call}
use Rattle.diskmodel.specs.declared.call.Call.TheVariants.{Wrote, Cut, Synced}
use Rattle.diskmodel.proofs.Calls.{after_all-push, durable_only, possible_durable, possible_write, possible_cut}
use Rattle.journal.specs.Areas.{reports, IsAtRest, IsOlder, IsOlderOrNew, rewrite_calls}
use Rattle.journal.specs.Journal.{EndsClosed}
use Rattle.journal.proofs.Stops.{closed}
use Rattle.journal.proofs.Reporting.{reports_long, reports_closed, reports_stays, at_rest_older, torn_close, torn_cut, torn_fill, torn_open}
use Rattle.spec_world.proofs.Bytes.{one_more}
use Rattle.spec_world.proofs.Disks.{torn_on_durable, KeepsFront}

-- ---- the first group stays while others are added

pub keeps_reporting : (file left : List ℕ) (reported : Option ℕ) → EndsClosed file → reports file ≡ Some reported → KeepsFront file left → reports left ≡ reports file
keeps_reporting file left reported ends is keeps =
    let p = closed file ends in
    let gate : length file - 1 ≡ length p.front = omega (arith, p.size) in
    let front_is : take (length file - 1) file ≡ p.front = ap (λ (l : List ℕ). take (length file - 1) l) p.file_is ∙ take_at p.front (0 ∷ []) (length file - 1) (sym gate) in
    let tail = drop (length file - 1) left in
    let whole : left ≡ p.front ++ tail = sym (take-append-drop (length file - 1) left) ∙ ap (λ (l : List ℕ). l ++ tail) (keeps.0 ∙ front_is) in
    ap reports whole
    ∙ reports_stays p.front [] tail p.records (omega (arith, p.size, reports_long file reported is)) (omega (arith, keeps.1, p.size, length-drop (length file - 1) left)) p.found
    ∙ ap reports (sym p.file_is)

-- what a cut of durable bytes may leave
cut_on_durable : (file : List ℕ) (len : ℕ) (found : List ℕ) → CanLeave (after (all_durable file) (Cut len)) found → IsCut len file found
cut_on_durable file len found left = record {
  front = ext_get_or 0 (take len found) (take len file) (simp length-take (omega (arith, left.no_shorter, left.no_longer, length-take len file)))
      (λ place below.
      let inside : place < len = omega (arith, below, length-take len found) in
      let within : place < length (take len file) = omega (arith, below, length-take len found, length-take len file, left.no_longer, left.no_shorter) in
      get_or-take len found place 0 inside ∙ left.stays place (omega (arith, within, length-take len file)) refl ∙ sym (get_or-take len file place 0 inside));
  no_shorter = omega (arith, left.no_shorter, length-take len file);
  no_longer = omega (arith, left.no_longer, length-take len file);
}

-- ---- one call more

pub take_one_more : {X : Type 0} (xs : List X) (n : ℕ) (x : X) → slice_get xs n ≡ Some x → take (suc n) xs ≡ take n xs ++ x ∷ []
take_one_more [] n x is = absurd (none-some x is)
take_one_more (y ∷ xs) zero x is = ap (λ (z : _). z ∷ []) (same_Some y x is)
take_one_more (y ∷ xs) (suc n) x is = ap (λ l. y ∷ l) (take_one_more xs n x is)

pub get_inside : {X : Type 0} (xs : List X) (n : ℕ) (x : X) → slice_get xs n ≡ Some x → n < length xs
get_inside [] n x is = absurd (none-some x is)
get_inside (y ∷ xs) zero x is = omega arith
get_inside (y ∷ xs) (suc n) x is = omega (arith, get_inside xs n x is)

-- ---- each moment of a rewriting

module _ (file bytes : List ℕ) where
  -- what the first so many calls come to
  abbrev pub made_state : ℕ → State
  made_state made = after_all (all_durable file) (take made (rewrite_calls bytes))

  rest : List ℕ
  rest = drop (0 + 1) file

  staged_is : written (0 ∷ []) 1 bytes ≡ 0 ∷ bytes
  staged_is = ap (λ (l : List ℕ). 0 ∷ bytes ++ l) (drop_all (1 + length bytes) (0 ∷ []) (omega arith)) ∙ ap (λ (l : List ℕ). 0 ∷ l) (append-nil bytes)

  -- the last two calls begin with this
  staged_state : made_state 6 ≡ all_durable (0 ∷ bytes)
  staged_state = ap all_durable staged_is

  pub last_state : made_state 8 ≡ all_durable (1 ∷ bytes)
  last_state = ap (λ (s : State). after (after s (Wrote 0 (1 ∷ []))) Synced) staged_state

  -- what is left tells less than this generation, or is the checkpoint
  pub spare_leaves : (generation made : ℕ) (found : List ℕ) → made ≤ 8 → IsAtRest generation file → CanLeave (made_state made) found → IsOlderOrNew generation bytes found
  unfolding rest
  spare_leaves generation zero found few at_rest left =
      inl (subst (IsOlder generation) (sym (durable_only file found left)) (at_rest_older generation file at_rest))
  spare_leaves generation (suc zero) found few at_rest left = inl (torn_close generation file found at_rest (torn_on_durable file 0 (0 ∷ []) found (omega arith) left))
  spare_leaves generation (suc (suc zero)) found few at_rest left =
      inl (inl (ap reports (durable_only (0 ∷ rest) found left) ∙ reports_closed 0 rest refl))
  spare_leaves generation (suc (suc (suc zero))) found few at_rest left = inl (torn_cut generation rest found (cut_on_durable (0 ∷ rest) 1 found left))
  spare_leaves generation (suc (suc (suc (suc zero)))) found few at_rest left =
      inl (inl (ap reports (durable_only (0 ∷ []) found left) ∙ reports_closed 0 [] refl))
  spare_leaves generation (suc (suc (suc (suc (suc zero))))) found few at_rest left =
      inl (torn_fill generation (length bytes) found (torn_on_durable (0 ∷ []) 1 bytes found (omega arith) left))
  spare_leaves generation (suc (suc (suc (suc (suc (suc zero)))))) found few at_rest left =
      inl (inl (ap reports (durable_only (0 ∷ bytes) found (subst (λ (s : State). CanLeave s found) staged_state left)) ∙ reports_closed 0 bytes refl))
  spare_leaves generation (suc (suc (suc (suc (suc (suc (suc zero))))))) found few at_rest left =
      torn_open generation bytes found (torn_on_durable (0 ∷ bytes) 0 (1 ∷ []) found (omega arith)
      (subst (λ (s : State). CanLeave (after s (Wrote 0 (1 ∷ []))) found) staged_state left))
  spare_leaves generation (suc (suc (suc (suc (suc (suc (suc (suc zero)))))))) found few at_rest left =
      inr (1, (λ one. omega arith), durable_only (1 ∷ bytes) found (subst (λ (s : State). CanLeave s found) last_state left))
  spare_leaves generation (suc (suc (suc (suc (suc (suc (suc (suc (suc made))))))))) found few at_rest left = absurd (omega (arith, few))

  -- what a read gives may be left
  pub spare_possible : (made : ℕ) → made ≤ 8 → AreBytes file → AreBytes bytes → CanLeave (made_state made) (made_state made).content
  spare_possible made few are also = all_possible made few
    where
      byte : ℕ → Type 0
      byte = λ n. n < 256

      shut : AreBytes (0 ∷ [])
      shut = one_more 0 [] (omega arith) (All-nil (λ n. n < 256))

      first : CanLeave (made_state 1) (made_state 1).content
      first = possible_write (all_durable file) 0 (0 ∷ []) (possible_durable file are) shut (omega arith)

      second : CanLeave (made_state 2) (made_state 2).content
      second = possible_durable (made_state 1).content first.are_bytes

      third : CanLeave (made_state 3) (made_state 3).content
      third = possible_cut (made_state 2) 1 second (omega arith)

      fourth : CanLeave (made_state 4) (made_state 4).content
      fourth = possible_durable (made_state 3).content third.are_bytes

      fifth : CanLeave (made_state 5) (made_state 5).content
      fifth = possible_write (made_state 4) 1 bytes fourth also (omega arith)

      sixth : CanLeave (made_state 6) (made_state 6).content
      sixth = possible_durable (made_state 5).content fifth.are_bytes

      seventh : CanLeave (made_state 7) (made_state 7).content
      seventh = possible_write (made_state 6) 0 (1 ∷ []) sixth (one_more 1 [] (omega arith) (All-nil (λ n. n < 256))) (omega arith)

      all_possible : (made : ℕ) → made ≤ 8 → CanLeave (made_state made) (made_state made).content
      all_possible zero few = possible_durable file are
      all_possible (suc zero) few = first
      all_possible (suc (suc zero)) few = second
      all_possible (suc (suc (suc zero))) few = third
      all_possible (suc (suc (suc (suc zero)))) few = fourth
      all_possible (suc (suc (suc (suc (suc zero))))) few = fifth
      all_possible (suc (suc (suc (suc (suc (suc zero)))))) few = sixth
      all_possible (suc (suc (suc (suc (suc (suc (suc zero))))))) few = seventh
      all_possible (suc (suc (suc (suc (suc (suc (suc (suc zero)))))))) few = possible_durable (made_state 7).content seventh.are_bytes
      all_possible (suc (suc (suc (suc (suc (suc (suc (suc (suc made))))))))) few = absurd (omega (arith, few))

  -- the calls so far, and one more
  pub made_more : (made : ℕ) (s : State) (call : Call) → s ≡ made_state made → slice_get (rewrite_calls bytes) made ≡ Some call → after s call ≡ made_state (suc made)
  made_more made s call is due =
      ap (λ (t : State). after t call) is ∙ sym (after_all-push (all_durable file) (take made (rewrite_calls bytes)) call)
      ∙ ap (λ (calls : List Call). after_all (all_durable file) calls) (sym (take_one_more (rewrite_calls bytes) made call due))
