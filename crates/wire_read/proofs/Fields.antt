-- A field that is read is the field that is spelled, and what is spelled is read again, whatever follows.
use Rattle.std.proofs.Common.{◌≡◌, ℕ, ◌^◌, ◌<◌, ◌≤◌, false, cond, ltb, leb, List, ◌++◌, length, take, drop, Ok, Err, refl, sym, ap, subst, arith}
use Rattle.std.specs.Int.{Width, w16, w32, w64, byte_len, from_be_bytes, to_be_bytes}
use Rattle.std.specs.Prelude.{◌&&◌}
use Rattle.std.specs.Cmp.Derive.{both_true}
use Rattle.std.proofs.lemmas.Bool.{ltb-false, ltb-true, leb-true, le-ltb, lt-ltb, le-leb}
use Rattle.wire.proofs.RisingLemmas.{both-are}
use Rattle.std.proofs.lemmas.List.{take_at, drop_at, take-append-drop, length-append, length-take}
use Rattle.std.proofs.lemmas.Nat.{be_bytes_2, be_bytes_4, be_bytes_8, from_be_bytes-to_be_bytes_2, from_be_bytes-to_be_bytes_4, from_be_bytes-to_be_bytes_8}
use Rattle.wire.specs.declared.error.WireError.TheVariants.{Short, TooMany, BadRound}
use Rattle.wire.specs.declared.keys.Author.{Author}
use Rattle.wire.specs.declared.keys.Digest.{Digest}
use Rattle.wire.specs.declared.keys.Signature.{Signature}
use Rattle.wire.specs.declared.round.TheConstants.Round.{MAX as MAX_ROUND}
use Rattle.wire.specs.declared.round.TheConstants.Wave.{MAX as MAX_WAVE}
use Rattle.wire.specs.Fields.{HasBytes, IsAuthor, IsDigest, IsSignature, IsRound, IsWave}
use Rattle.wire.specs.Reading.{number_at, bytes_at, author_at, digest_at, signature_at, round_at, wave_at, count_at}
use Rattle.wire_read.proofs.Steps.{bind_ok, guard_ok, held_ok, ok_is, IsBytes, IsBytes-drop, IsBytes-take, has_bytes, Takes}

-- ---- numbers

pub record IsWide (w : Width) (limit : ℕ) : Type 0 where
  pub len : (n : ℕ) → length (to_be_bytes w n) ≡ byte_len w
  pub back : (bytes : List ℕ) → length bytes ≡ byte_len w → IsBytes bytes → to_be_bytes w (from_be_bytes w bytes) ≡ bytes
  pub again : (n : ℕ) → n < limit → from_be_bytes w (to_be_bytes w n) ≡ n
  pub below : (bytes : List ℕ) → IsBytes bytes → from_be_bytes w bytes < limit

pub wide16 : IsWide w16 (2 ^ 16)
wide16 = record {
  len = λ n. refl;
  back = λ bytes len fits. be_bytes_2 bytes _ len fits refl;
  again = λ n lt. from_be_bytes-to_be_bytes_2 n lt;
  below = λ bytes fits. omega (arith, fits 0, fits 1);
}

pub wide32 : IsWide w32 (2 ^ 32)
wide32 = record {
  len = λ n. refl;
  back = λ bytes len fits. be_bytes_4 bytes _ len fits refl;
  again = λ n lt. from_be_bytes-to_be_bytes_4 n lt;
  below = λ bytes fits. omega (arith, fits 0, fits 1, fits 2, fits 3);
}

pub wide64 : IsWide w64 (2 ^ 64)
wide64 = record {
  len = λ n. refl;
  back = λ bytes len fits. be_bytes_8 bytes _ len fits refl;
  again = λ n lt. from_be_bytes-to_be_bytes_8 n lt;
  below = λ bytes fits. omega (arith, fits 0, fits 1, fits 2, fits 3, fits 4, fits 5, fits 6, fits 7);
}

pub number_takes : (w : Width) (limit : ℕ) (wide : IsWide w limit) (bytes : List ℕ) (n : ℕ) (rest : List ℕ) → IsBytes bytes → number_at w bytes ≡ Ok (n, rest)
    → Takes bytes (to_be_bytes w n) rest × (n < limit)
number_takes w limit wide bytes n rest fits e =
    let g = guard_ok (ltb (length bytes) (byte_len w)) Short (from_be_bytes w (take (byte_len w) bytes), drop (byte_len w) bytes) (n, rest) e in
    let long : byte_len w ≤ length bytes = ltb-false _ _ g.0 in
    let n-is : from_be_bytes w (take (byte_len w) bytes) ≡ n = ap (λ (p : ℕ × List ℕ). p.0) g.1 in
    let rest-is : drop (byte_len w) bytes ≡ rest = ap (λ (p : ℕ × List ℕ). p.1) g.1 in
    let front : to_be_bytes w n ≡ take (byte_len w) bytes =
    rw (← n-is) (wide.back (take (byte_len w) bytes) (omega (arith, length-take (byte_len w) bytes)) (IsBytes-take (byte_len w) bytes fits)) in (
      record { parts = rw (front, ← rest-is) (sym (take-append-drop (byte_len w) bytes)); rest_fits = rw (← rest-is) (IsBytes-drop (byte_len w) bytes fits) },
      rw (← n-is) (wide.below (take (byte_len w) bytes) (IsBytes-take (byte_len w) bytes fits)),
    )

pub number_again : (w : Width) (limit : ℕ) (wide : IsWide w limit) (n : ℕ) (rest : List ℕ) → n < limit → number_at w (to_be_bytes w n ++ rest) ≡ Ok (n, rest)
number_again w limit wide n rest lt =
    let len = wide.len n in
    let long : ltb (length (to_be_bytes w n ++ rest)) (byte_len w) ≡ false = le-ltb _ _ (omega (arith, length-append (to_be_bytes w n) rest)) in
    rw (long, take_at (to_be_bytes w n) rest (byte_len w) len, drop_at (to_be_bytes w n) rest (byte_len w) len, wide.again n lt) refl

-- ---- so many bytes

pub bytes_take : (count : ℕ) (bytes : List ℕ) (x : List ℕ × List ℕ) → IsBytes bytes → bytes_at count bytes ≡ Ok x → Takes bytes x.0 x.1 × HasBytes count x.0
bytes_take count bytes x fits e =
    let g = guard_ok (ltb (length bytes) count) Short (take count bytes, drop count bytes) x e in
    let long : count ≤ length bytes = ltb-false _ _ g.0 in
    subst (λ (y : List ℕ × List ℕ). Takes bytes y.0 y.1 × HasBytes count y.0) g.1
    (record { parts = sym (take-append-drop count bytes); rest_fits = IsBytes-drop count bytes fits }, has_bytes count bytes long fits)

pub bytes_again : (count : ℕ) (text rest : List ℕ) → HasBytes count text → bytes_at count (text ++ rest) ≡ Ok (text, rest)
bytes_again count text rest are =
    let len : length text ≡ count = are.count_is in
    let long : ltb (length (text ++ rest)) count ≡ false = le-ltb _ _ (omega (arith, length-append text rest)) in
    rw (long, take_at text rest count len, drop_at text rest count len) refl

-- ---- authors, digests and signatures

pub author_takes : (bytes : List ℕ) (x : Author × List ℕ) → IsBytes bytes → author_at bytes ≡ Ok x → Takes bytes (to_be_bytes w16 x.0.0) x.1 × IsAuthor x.0
unfolding author_at
author_takes bytes x fits e =
    let a = bind_ok (number_at w16 bytes) (λ n. Ok (record { 0 = n.0 }, n.1)) x e in
    let t = number_takes w16 (2 ^ 16) wide16 bytes a.0.0 a.0.1 fits a.1 in
    let made : Author × List ℕ = (record { 0 = a.0.0 }, a.0.1) in
    subst (λ (y : Author × List ℕ). Takes bytes (to_be_bytes w16 y.0.0) y.1 × IsAuthor y.0) (ok_is made x a.2) t

pub author_again : (a : Author) (rest : List ℕ) → IsAuthor a → author_at (to_be_bytes w16 a.0 ++ rest) ≡ Ok (a, rest)
unfolding author_at
author_again a rest is = rw (number_again w16 (2 ^ 16) wide16 a.0 rest is) refl

pub digest_takes : (bytes : List ℕ) (x : Digest × List ℕ) → IsBytes bytes → digest_at bytes ≡ Ok x → Takes bytes x.0.0 x.1 × IsDigest x.0
unfolding digest_at
digest_takes bytes x fits e =
    let a = bind_ok (bytes_at 32 bytes) (λ d. Ok (record { 0 = d.0 }, d.1)) x e in
    let t = bytes_take 32 bytes a.0 fits a.1 in
    let made : Digest × List ℕ = (record { 0 = a.0.0 }, a.0.1) in
    subst (λ (y : Digest × List ℕ). Takes bytes y.0.0 y.1 × IsDigest y.0) (ok_is made x a.2) t

pub digest_again : (d : Digest) (rest : List ℕ) → IsDigest d → digest_at (d.0 ++ rest) ≡ Ok (d, rest)
unfolding digest_at
digest_again d rest is = rw (bytes_again 32 d.0 rest is) refl

pub signature_takes : (bytes : List ℕ) (x : Signature × List ℕ) → IsBytes bytes → signature_at bytes ≡ Ok x → Takes bytes x.0.0 x.1 × IsSignature x.0
unfolding signature_at
signature_takes bytes x fits e =
    let a = bind_ok (bytes_at 64 bytes) (λ s. Ok (record { 0 = s.0 }, s.1)) x e in
    let t = bytes_take 64 bytes a.0 fits a.1 in
    let made : Signature × List ℕ = (record { 0 = a.0.0 }, a.0.1) in
    subst (λ (y : Signature × List ℕ). Takes bytes y.0.0 y.1 × IsSignature y.0) (ok_is made x a.2) t

pub signature_again : (s : Signature) (rest : List ℕ) → IsSignature s → signature_at (s.0 ++ rest) ≡ Ok (s, rest)
unfolding signature_at
signature_again s rest is = rw (bytes_again 64 s.0 rest is) refl

-- ---- rounds and counts

pub round_takes : (bytes : List ℕ) (x : ℕ × List ℕ) → IsBytes bytes → round_at bytes ≡ Ok x → Takes bytes (to_be_bytes w64 x.0) x.1 × IsRound x.0
unfolding round_at
round_takes bytes x fits e =
    let a = bind_ok (number_at w64 bytes) (λ n. cond (ltb MAX_ROUND n.0) (Err BadRound) (Ok n)) x e in
    let t = number_takes w64 (2 ^ 64) wide64 bytes a.0.0 a.0.1 fits a.1 in
    let g = guard_ok (ltb MAX_ROUND a.0.0) BadRound a.0 x a.2 in
    let within : a.0.0 ≤ MAX_ROUND = ltb-false _ _ g.0 in
    subst (λ (y : ℕ × List ℕ). Takes bytes (to_be_bytes w64 y.0) y.1 × IsRound y.0) g.1 (t.0, within)

pub round_again : (round : ℕ) (rest : List ℕ) → IsRound round → round_at (to_be_bytes w64 round ++ rest) ≡ Ok (round, rest)
unfolding round_at
round_again round rest is =
    let within : ltb MAX_ROUND round ≡ false = le-ltb _ _ is in
    rw (number_again w64 (2 ^ 64) wide64 round rest (omega arith), within) refl

pub wave_takes : (bytes : List ℕ) (x : ℕ × List ℕ) → IsBytes bytes → wave_at bytes ≡ Ok x → Takes bytes (to_be_bytes w64 x.0) x.1 × IsWave x.0
unfolding wave_at
wave_takes bytes x fits e =
    let a = bind_ok (number_at w64 bytes) (λ n. cond (ltb 0 n.0 && leb n.0 MAX_WAVE) (Ok n) (Err BadRound)) x e in
    let t = number_takes w64 (2 ^ 64) wide64 bytes a.0.0 a.0.1 fits a.1 in
    let g = held_ok (ltb 0 a.0.0 && leb a.0.0 MAX_WAVE) BadRound (Ok a.0) x a.2 in
    let both = both-are (ltb 0 a.0.0) (leb a.0.0 MAX_WAVE) g.0 in
    subst (λ (y : ℕ × List ℕ). Takes bytes (to_be_bytes w64 y.0) y.1 × IsWave y.0) (ok_is a.0 x g.1) (t.0, record { least = ltb-true _ _ both.0; limit = leb-true _ _ both.1 })

pub wave_again : (wave : ℕ) (rest : List ℕ) → IsWave wave → wave_at (to_be_bytes w64 wave ++ rest) ≡ Ok (wave, rest)
unfolding wave_at
wave_again wave rest is =
    let within = both_true (lt-ltb _ _ is.least) (le-leb _ _ is.limit) in
    rw (number_again w64 (2 ^ 64) wide64 wave rest (omega (arith, is.limit)), within) refl

pub count_takes : (w : Width) (top : ℕ) (wide : IsWide w top) (limit : ℕ) (bytes : List ℕ) (x : ℕ × List ℕ) → IsBytes bytes → count_at w limit bytes ≡ Ok x
    → Takes bytes (to_be_bytes w x.0) x.1 × (x.0 ≤ limit)
unfolding count_at
count_takes w top wide limit bytes x fits e =
    let a = bind_ok (number_at w bytes) (λ n. cond (ltb limit n.0) (Err TooMany) (Ok n)) x e in
    let t = number_takes w top wide bytes a.0.0 a.0.1 fits a.1 in
    let g = guard_ok (ltb limit a.0.0) TooMany a.0 x a.2 in
    let within : a.0.0 ≤ limit = ltb-false _ _ g.0 in
    subst (λ (y : ℕ × List ℕ). Takes bytes (to_be_bytes w y.0) y.1 × (y.0 ≤ limit)) g.1 (t.0, within)

pub count_again : (w : Width) (top : ℕ) (wide : IsWide w top) (limit count : ℕ) (rest : List ℕ) → limit < top → count ≤ limit → count_at w limit (to_be_bytes w count ++ rest) ≡ Ok (count, rest)
unfolding count_at
count_again w top wide limit count rest small le =
    let within : ltb limit count ≡ false = le-ltb _ _ le in
    rw (number_again w top wide count rest (omega (arith, small, le)), within) refl
