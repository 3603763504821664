-- Lists that are read entry by entry: what is read is spelled so, and what is spelled so is read.
use Rattle.std.proofs.Common.{◌≡◌, ℕ, zero, suc, ◌<◌, ◌≤◌, List, [], ◌∷◌, ◌++◌, length, Ok, refl, sym, ap, subst, ◌∙◌, append_assoc, arith}
use Rattle.std.specs.List.{flat_map, AllByRecursion}
use Rattle.std.proofs.lemmas.List.{append-nil}
use Rattle.std.proofs.lemmas.List.Concat.{flat_map-cons}
use Rattle.std.specs.Int.{Width, to_be_bytes}
use Rattle.wire.specs.Reading.{◌>>=◌, Read, count_at, more_at}
use Rattle.wire_read.proofs.Steps.{bind_ok, ok_is, IsBytes, Takes, Takes-then}
use Rattle.wire_read.proofs.Fields.{IsWide, count_takes, count_again}

-- reading an entry after others is spelling it, where the list stays sound
pub record IsEntry {X : Type 0} (entry_at : List X → List ℕ → Read X) (text : X → List ℕ) (Fits : X → Type 0) (Sound : List X → Type 0) : Type 0 where
  pub takes : (before : List X) (bytes : List ℕ) (x : X × List ℕ) → IsBytes bytes → Sound before → entry_at before bytes ≡ Ok x → Takes bytes (text x.0) x.1 × Fits x.0 × Sound (before ++ x.0 ∷ [])
  pub again : (before : List X) (x : X) (rest : List ℕ) → Fits x → Sound (before ++ x ∷ []) → entry_at before (text x ++ rest) ≡ Ok (x, rest)
  pub begins : (front rest : List X) → Sound (front ++ rest) → Sound front

-- what reading so many entries gives
pub record Reads {X : Type 0} (text : X → List ℕ) (Fits : X → Type 0) (Sound : List X → Type 0) (count : ℕ) (before : List X) (bytes : List ℕ) (x : List X × List ℕ) : Type 0 where
  pub entries : List X
  pub whole : x.0 ≡ before ++ entries
  pub count_is : length entries ≡ count
  pub takes : Takes bytes (flat_map text entries) x.1
  pub fits : AllByRecursion Fits entries
  pub sound : Sound x.0

pub more_take : {X : Type 0} (entry_at : List X → List ℕ → Read X) (text : X → List ℕ) (Fits : X → Type 0) (Sound : List X → Type 0) (is : IsEntry entry_at text Fits Sound) (n : ℕ)
    (before : List X) (bytes : List ℕ) (x : List X × List ℕ)
    → IsBytes bytes → Sound before → more_at entry_at n before bytes ≡ Ok x → Reads text Fits Sound n before bytes x
unfolding more_at
more_take {X} entry_at text Fits Sound is zero before bytes x fits sound e =
    let made : List X × List ℕ = (before, bytes) in
    subst (λ (y : List X × List ℕ). Reads text Fits Sound 0 before bytes y) (ok_is made x e)
    (record { entries = []; whole = sym (append-nil before); count_is = refl; takes = record { parts = refl; rest_fits = fits }; fits = tt; sound = sound })
more_take {X} entry_at text Fits Sound is (suc n) before bytes x fits sound e =
    let a = bind_ok (entry_at before bytes) (λ entry. more_at entry_at n (before ++ entry.0 ∷ []) entry.1) x e in
    let first = is.takes before bytes a.0 fits sound a.1 in
    let more = more_take entry_at text Fits Sound is n (before ++ a.0.0 ∷ []) a.0.1 x first.0.rest_fits first.2 a.2 in
    record {
      entries = a.0.0 ∷ more.entries;
      whole = more.whole ∙ append_assoc before (a.0.0 ∷ []) more.entries;
      count_is = ap suc more.count_is;
      takes = rw flat_map-cons (Takes-then bytes (text a.0.0) a.0.1 (flat_map text more.entries) x.1 first.0 more.takes);
      fits = (first.1, more.fits);
      sound = more.sound;
    }

pub more_again : {X : Type 0} (entry_at : List X → List ℕ → Read X) (text : X → List ℕ) (Fits : X → Type 0) (Sound : List X → Type 0) (is : IsEntry entry_at text Fits Sound)
    (entries before : List X) (rest : List ℕ)
    → AllByRecursion Fits entries → Sound (before ++ entries) → more_at entry_at (length entries) before (flat_map text entries ++ rest) ≡ Ok (before ++ entries, rest)
unfolding more_at
more_again {X} entry_at text Fits Sound is [] before rest fits sound = ap (λ (l : List X). Ok (l, rest)) (sym (append-nil before))
more_again {X} entry_at text Fits Sound is (x ∷ entries) before rest fits sound =
    let regrouped : flat_map text (x ∷ entries) ++ rest ≡ text x ++ (flat_map text entries ++ rest) =
    ap (λ (t : List ℕ). t ++ rest) (flat_map-cons text x entries) ∙ append_assoc (text x) (flat_map text entries) rest in
    let joined : (before ++ x ∷ []) ++ entries ≡ before ++ x ∷ entries = append_assoc before (x ∷ []) entries in
    let still : Sound ((before ++ x ∷ []) ++ entries) = subst Sound (sym joined) sound in
    let one : entry_at before (text x ++ (flat_map text entries ++ rest)) ≡ Ok (x, flat_map text entries ++ rest) =
    is.again before x (flat_map text entries ++ rest) fits.0 (is.begins (before ++ x ∷ []) entries still) in
    let more = more_again entry_at text Fits Sound is entries (before ++ x ∷ []) rest fits.1 still in
    ap (more_at entry_at (suc (length entries)) before) regrouped ∙ rw one more ∙ ap (λ (l : List X). Ok (l, rest)) joined

-- ---- lists after their count

pub record Counted {X : Type 0} (w : Width) (limit : ℕ) (text : X → List ℕ) (Fits : X → Type 0) (Sound : List X → Type 0) (bytes : List ℕ) (x : List X × List ℕ) : Type 0 where
  pub takes : Takes bytes (to_be_bytes w (length x.0) ++ flat_map text x.0) x.1
  pub few : length x.0 ≤ limit
  pub fits : AllByRecursion Fits x.0
  pub sound : Sound x.0

pub counted_take : {X : Type 0} (w : Width) (top : ℕ) (wide : IsWide w top) (limit : ℕ) (entry_at : List X → List ℕ → Read X) (text : X → List ℕ) (Fits : X → Type 0)
    (Sound : List X → Type 0) (is : IsEntry entry_at text Fits Sound) (bytes : List ℕ) (x : List X × List ℕ)
    → IsBytes bytes → Sound [] → (count_at w limit bytes >>= λ count. more_at entry_at count.0 [] count.1) ≡ Ok x → Counted w limit text Fits Sound bytes x
counted_take {X} w top wide limit entry_at text Fits Sound is bytes x fits none e =
    let a = bind_ok (count_at w limit bytes) (λ count. more_at entry_at count.0 [] count.1) x e in
    let t = count_takes w top wide limit bytes a.0 fits a.1 in
    let r = more_take entry_at text Fits Sound is a.0.0 [] a.0.1 x t.0.rest_fits none a.2 in
    let same : length x.0 ≡ a.0.0 = ap (λ (l : List X). length l) r.whole ∙ r.count_is in
    let both = Takes-then bytes (to_be_bytes w a.0.0) a.0.1 (flat_map text r.entries) x.1 t.0 r.takes in
    record {
      takes = subst (λ (l : List X). Takes bytes (to_be_bytes w (length l) ++ flat_map text l) x.1) (sym r.whole)
          (subst (λ (n : ℕ). Takes bytes (to_be_bytes w n ++ flat_map text r.entries) x.1) (sym r.count_is) both);
      few = omega (arith, same, t.1);
      fits = subst (λ (l : List X). AllByRecursion Fits l) (sym r.whole) r.fits;
      sound = r.sound;
    }

pub counted_again : {X : Type 0} (w : Width) (top : ℕ) (wide : IsWide w top) (limit : ℕ) (entry_at : List X → List ℕ → Read X) (text : X → List ℕ) (Fits : X → Type 0)
    (Sound : List X → Type 0) (is : IsEntry entry_at text Fits Sound) (entries : List X) (rest : List ℕ)
    → limit < top → length entries ≤ limit → AllByRecursion Fits entries → Sound entries
    → (count_at w limit ((to_be_bytes w (length entries) ++ flat_map text entries) ++ rest) >>= λ count. more_at entry_at count.0 [] count.1) ≡ Ok (entries, rest)
counted_again {X} w top wide limit entry_at text Fits Sound is entries rest small few fits sound =
    let regrouped : (to_be_bytes w (length entries) ++ flat_map text entries) ++ rest ≡ to_be_bytes w (length entries) ++ (flat_map text entries ++ rest) =
    append_assoc (to_be_bytes w (length entries)) (flat_map text entries) rest in
    let more = more_again entry_at text Fits Sound is entries [] rest fits sound in
    rw (regrouped, count_again w top wide limit (length entries) (flat_map text entries ++ rest) small few) more
