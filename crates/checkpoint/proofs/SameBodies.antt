-- Bytes that end alike.
use Rattle.std.proofs.Common.{◌≡◌, Bool, true, false, List, ℕ, [], ◌++◌, length, take, length-append, refl, sym, ap, ◌∙◌, arith}
use Rattle.std.specs.Str.{bytes_eq}
use Rattle.std.proofs.Math.Seq.{take-append_seam}
use Rattle.std.proofs.lemmas.Slice.Eq.{bytes_eq-Decides}
use Rattle.spec_checkpoint.specs.Faults.{same_body}
use Rattle.spec_model.specs.Words.{HeaderBody}
use Rattle.wire.specs.Encoding.{encoding, header_body, votes_bytes}
use Rattle.wire.specs.declared.message.Message.TheVariants as message

-- the beginnings of lists that are one, and end alike
same_begin : (xs ys end : List ℕ) → xs ++ end ≡ ys ++ end → xs ≡ ys
same_begin xs ys end h =
    let len : length xs ≡ length ys = omega (arith, length-append xs end, length-append ys end, ap length h) in
    sym (take-append_seam xs end) ∙ ap (take (length xs)) h ∙ ap (λ n. take n (ys ++ end)) len ∙ take-append_seam ys end

both_ways : (a b : Bool) → (a ≡ true → b ≡ true) → (b ≡ true → a ≡ true) → a ≡ b
both_ways true b on back = sym (on refl)
both_ways false true on back = back refl
both_ways false false on back = refl

same_ends : (xs ys end : List ℕ) → bytes_eq (xs ++ end) (ys ++ end) ≡ bytes_eq xs ys
same_ends xs ys end =
    let long = bytes_eq-Decides (xs ++ end) (ys ++ end) in
    let short = bytes_eq-Decides xs ys in
    both_ways (bytes_eq (xs ++ end) (ys ++ end)) (bytes_eq xs ys) (λ same. short.1 (same_begin xs ys end (long.0 same))) (λ same. long.1 (ap (λ (l : List ℕ). l ++ end) (short.0 same)))

-- the bytes of two certificates without votes are the same where the bodies of their headers are
pub same_with_votes : (one other : HeaderBody)
    → bytes_eq (encoding (message.Certificate (record { header = one; votes = [] }))) (encoding (message.Certificate (record { header = other; votes = [] }))) ≡ same_body one other
same_with_votes one other = same_ends (header_body one) (header_body other) (votes_bytes [])
