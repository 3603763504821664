-- The transactions of a body, and their bytes.
use Rattle.std.proofs.Common.{◌≡◌, ℕ, zero, suc, ◌+◌, ◌*◌, ◌≤◌, List, [], ◌∷◌, ◌++◌, length, take, drop, refl, sym, ap, ◌∙◌, append_assoc, arith}
use Rattle.std.specs.Prelude.{All, IsTrue}
use Rattle.std.proofs.lemmas.Bool.{leb-true}
use Rattle.std.specs.List.{flat_map, AllByRecursion}
use Rattle.std.specs.Int.{w32, to_be_bytes, from_be_bytes}
use Rattle.std.proofs.lemmas.List.{take_at, drop_at, length-append, append-nil, drop-append-le, take-append-le, flat_map_more}
use Rattle.std.proofs.lemmas.List.Concat.{flat_map-cons}
use Rattle.std.proofs.lemmas.List.Elements.{recursion_from_All, All-append, All-from_recursion}
use Rattle.std.proofs.lemmas.List.Sums.{sum_by-cons, sum_by_push}
use Rattle.std.proofs.lemmas.Nat.{from_be_bytes-to_be_bytes_4}
use Rattle.wire.specs.declared.keys.Author.{Author}
use Rattle.wire.specs.declared.limits.TheConstants.{MAX_TRANSACTION_BYTES}
use Rattle.wire.specs.Batches.{BatchView, transaction_bytes, batch_body, body_len, has_room, IsTransaction, IsOpen, transactions_in}

-- the length of the transactions of a body
pub bytes_len : (ts : List (List ℕ)) → 8 + length (flat_map transaction_bytes ts) ≡ body_len ts
bytes_len [] = refl
bytes_len (t ∷ ts) =
    let one = bytes_len ts in
    let parts : length (flat_map transaction_bytes (t ∷ ts)) ≡ length (transaction_bytes t) + length (flat_map transaction_bytes ts) =
    ap (λ (l : List ℕ). length l) (flat_map-cons transaction_bytes t ts) ∙ length-append (transaction_bytes t) (flat_map transaction_bytes ts) in
    rw (parts, sum_by-cons) (omega (arith, one))

-- a body has so many bytes
pub body_has : (b : BatchView) → length (batch_body b) ≡ body_len b.transactions
body_has b = omega (arith, bytes_len b.transactions)

-- a body has no room for more than 124,998 transactions
pub few : (ts : List (List ℕ)) → 8 + 4 * length ts ≤ body_len ts
few [] = omega arith
few (t ∷ ts) =
    let one = few ts in
    rw sum_by-cons (omega (arith, one))

-- a transaction at the front of the bytes is found there
one_back : (t rest : List ℕ) → length t ≤ MAX_TRANSACTION_BYTES → (take (from_be_bytes w32 (take 4 (transaction_bytes t ++ rest))) (drop 4 (transaction_bytes t ++ rest)) ≡ t)
    × (drop (from_be_bytes w32 (take 4 (transaction_bytes t ++ rest))) (drop 4 (transaction_bytes t ++ rest)) ≡ rest)
one_back t rest short =
    let len : from_be_bytes w32 (to_be_bytes w32 (length t)) ≡ length t = from_be_bytes-to_be_bytes_4 (length t) (omega (arith, short)) in
    rw len (take_at t rest (length t) refl, drop_at t rest (length t) refl)

-- what was put is read back
pub reads_back : (ts : List (List ℕ)) (rest : List ℕ) → AllByRecursion IsTransaction ts → transactions_in (length ts) (flat_map transaction_bytes ts ++ rest) ≡ ts
unfolding transactions_in
reads_back [] rest each = refl
reads_back (t ∷ ts) rest each =
    let regrouped : flat_map transaction_bytes (t ∷ ts) ++ rest ≡ transaction_bytes t ++ (flat_map transaction_bytes ts ++ rest) =
    ap (λ (l : List ℕ). l ++ rest) (flat_map-cons transaction_bytes t ts) ∙ append_assoc (transaction_bytes t) (flat_map transaction_bytes ts) rest in
    let first = one_back t (flat_map transaction_bytes ts ++ rest) each.0.short in
    ap (transactions_in (suc (length ts))) regrouped ∙ rw (first.0, first.1) (ap (λ (l : List (List ℕ)). t ∷ l) (reads_back ts rest each.1))

pub all_back : (ts : List (List ℕ)) → All IsTransaction ts → transactions_in (length ts) (flat_map transaction_bytes ts) ≡ ts
all_back ts each = ap (transactions_in (length ts)) (sym (append-nil (flat_map transaction_bytes ts))) ∙ reads_back ts [] (recursion_from_All IsTransaction ts each)

-- as many are found as are looked for
pub so_many : (n : ℕ) (bytes : List ℕ) → length (transactions_in n bytes) ≡ n
unfolding transactions_in
so_many zero bytes = refl
so_many (suc n) bytes = ap suc (so_many n (drop (from_be_bytes w32 (take 4 bytes)) (drop 4 bytes)))

-- one more transaction after the others
one_more : (ts : List (List ℕ)) (t : List ℕ) → flat_map transaction_bytes ts ++ transaction_bytes t ≡ flat_map transaction_bytes (ts ++ t ∷ [])
one_more ts t = flat_map_more transaction_bytes [] ts t

-- a body that grows by a transaction has it after the others
pub grows : (author : Author) (worker count : ℕ) (body t : List ℕ) → IsOpen author worker count body → IsTransaction t → IsTrue (has_room (transactions_in count (drop 8 body)) (length t))
    → IsOpen author worker (count + 1) (body ++ transaction_bytes t) × (transactions_in (count + 1) (drop 8 (body ++ transaction_bytes t)) ≡ transactions_in count (drop 8 body) ++ t ∷ [])
grows author worker count body t is fits room =
    let ts = transactions_in count (drop 8 body) in
    let long : 8 ≤ length body = omega (arith, is.len) in
    let rest : drop 8 (body ++ transaction_bytes t) ≡ flat_map transaction_bytes (ts ++ t ∷ []) =
    drop-append-le 8 body (transaction_bytes t) long ∙ ap (λ (l : List ℕ). l ++ transaction_bytes t) is.rest ∙ one_more ts t in
    let each : All IsTransaction (ts ++ t ∷ []) = All-append IsTransaction ts (t ∷ []) is.fits.each (All-from_recursion IsTransaction (t ∷ []) (fits, tt)) in
    let counted : length (ts ++ t ∷ []) ≡ count + 1 = omega (arith, length-append ts (t ∷ []), so_many count (drop 8 body)) in
    let back : transactions_in (count + 1) (drop 8 (body ++ transaction_bytes t)) ≡ ts ++ t ∷ [] = rw (rest, ← counted) (all_back (ts ++ t ∷ []) each) in
    let len : body_len (ts ++ t ∷ []) ≡ body_len ts + (4 + length t) = rw sum_by_push (omega arith) in (
      record {
        fits = record { author = is.fits.author; worker = is.fits.worker; each = rw back each; short = rw back (omega (arith, len, leb-true _ _ room)) };
        head = take-append-le 4 body (transaction_bytes t) (omega (arith, long)) ∙ is.head;
        counted = rw back counted;
        rest = rw back rest;
        len = rw back (length-append body (transaction_bytes t) ∙ omega (arith, is.len, len));
      },
      back,
    )
