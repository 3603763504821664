-- A snapshot of which any other generation is written has bytes.
use Rattle.std.proofs.Common.{◌≡◌, ◌∙◌, ℕ, zero, suc, ◌+◌, ◌/◌, ◌<◌, ◌^◌, List, [], ◌∷◌, ◌++◌, ap, sym, subst, take, drop, arith}
use Rattle.std.specs.Int.{w64, to_be_bytes, byte_at, bytes_high_first}
use Rattle.std.proofs.lemmas.Nat.{mod_below}
use Rattle.std.proofs.lemmas.List.Elements.{All-nil, All-cons, All-append, All-take, All-drop}
use Rattle.diskmodel.specs.Outcomes.{AreBytes}
use Rattle.journal.specs.Snapshot.{bytes_for, records_in, IsSnapshot}
use Rattle.journal.proofs.Packing.{numbered}

-- what a number is spelled with are bytes
byte_below : (i n : ℕ) → byte_at i n < 256
byte_below zero n = mod_below n 256 (omega arith)
byte_below (suc i) n = mod_below (n / 256 ^ suc i) 256 (omega arith)

number_bytes : (count n : ℕ) → AreBytes (bytes_high_first count n)
number_bytes zero n = All-nil (λ b. b < 256)
number_bytes (suc count) n = All-cons (λ b. b < 256) (byte_at count n) (bytes_high_first count n) (byte_below count n) (number_bytes count n)

pub numbered_bytes : (bytes : List ℕ) (place count generation : ℕ) → IsSnapshot bytes place count → AreBytes bytes → AreBytes (bytes_for generation (records_in bytes))
numbered_bytes bytes place count generation snapshot are =
    let below = λ (b : ℕ). b < 256 in
    let records = records_in bytes in
    let front = All-take below place bytes are in
    let rest = All-drop below (place + 8) bytes are in
    let whole = All-append below (take place bytes) (to_be_bytes w64 generation ++ drop (place + 8) bytes) front
    (All-append below (to_be_bytes w64 generation) (drop (place + 8) bytes) (number_bytes 8 generation) rest) in
    let replaced : take place bytes ++ (to_be_bytes w64 generation ++ drop (place + 8) bytes) ≡ bytes_for generation records =
    ap (λ (l : List ℕ). take place l ++ (to_be_bytes w64 generation ++ drop (place + 8) l)) snapshot.written
    ∙ numbered snapshot.generation generation place records snapshot.packable snapshot.at in
    subst AreBytes replaced whole
