-- Batches: what is read is spelled so, and what is spelled so is read.
use Rattle.std.proofs.Common.{◌≡◌, ℕ, ◌+◌, ◌^◌, ◌≤◌, Bool, true, false, cond, ltb, List, [], ◌∷◌, ◌++◌, length, Ok, Err, refl, sym, ap, subst, ◌∙◌, append_assoc, arith}
use Rattle.std.specs.Prelude.{◌&&◌, not}
use Rattle.std.specs.Cmp.Derive.{both_true}
use Rattle.std.specs.List.{flat_map}
use Rattle.std.specs.Int.{w16, w32, to_be_bytes}
use Rattle.std.proofs.lemmas.Bool.{ltb-false, le-ltb, leb-true, le-leb, not-true}
use Rattle.std.proofs.lemmas.List.Elements.{All-from_recursion, recursion_from_All}
use Rattle.std.proofs.lemmas.List.Sums.{sum_by-append, sum_by_push}
use Rattle.wire.specs.declared.error.WireError.TheVariants.{TooMany}
use Rattle.wire.specs.declared.limits.TheConstants.{MAX_TRANSACTION_BYTES, MAX_BATCH_BYTES, MAX_TRANSACTIONS}
use Rattle.wire.specs.Fields.{HasBytes}
use Rattle.wire.specs.Batches.{BatchView, transaction_bytes, batch_body, body_len, has_room, IsTransaction, IsBatch}
use Rattle.wire.specs.Reading.{◌>>=◌, number_at, bytes_at, author_at, transaction_at, transactions_at, batch_at}
use Rattle.wire.proofs.RisingLemmas.{both-are}
use Rattle.wire.proofs.Transactions.{few}
use Rattle.wire_read.proofs.Steps.{bind_ok, held_ok, ok_is, IsBytes, Takes, Takes-then}
use Rattle.wire_read.proofs.EntryLists.{IsEntry, counted_take, counted_again}
use Rattle.wire_read.proofs.Fields.{wide16, wide32, number_takes, number_again, bytes_take, bytes_again, author_takes, author_again}

-- the body of these transactions is within the limit
abbrev Short : List (List ℕ) → Type 0
Short ts = body_len ts ≤ MAX_BATCH_BYTES

is_not : (b : Bool) → b ≡ false → not b ≡ true
is_not true h = absurd cc
is_not false h = refl

-- what a transaction adds to a body
grown : (ts : List (List ℕ)) (t : List ℕ) → body_len (ts ++ t ∷ []) ≡ body_len ts + (4 + length t)
grown ts t = rw sum_by_push (omega arith)

-- the front of a list that is within the limit is
front_short : (front rest : List (List ℕ)) → Short (front ++ rest) → Short front
front_short front rest short = omega (arith, short, sum_by-append (λ t. 4 + length t) front rest)

transaction_takes : (before : List (List ℕ)) (bytes : List ℕ) (x : List ℕ × List ℕ) → IsBytes bytes → Short before → transaction_at before bytes ≡ Ok x
    → Takes bytes (transaction_bytes x.0) x.1 × IsTransaction x.0 × Short (before ++ x.0 ∷ [])
unfolding transaction_at
transaction_takes before bytes x fits short e =
    let a = bind_ok (number_at w32 bytes) (λ len. cond (not (ltb MAX_TRANSACTION_BYTES len.0) && has_room before len.0) (bytes_at len.0 len.1) (Err TooMany)) x e in
    let g = held_ok (not (ltb MAX_TRANSACTION_BYTES a.0.0) && has_room before a.0.0) TooMany (bytes_at a.0.0 a.0.1) x a.2 in
    let both = both-are (not (ltb MAX_TRANSACTION_BYTES a.0.0)) (has_room before a.0.0) g.0 in
    let t0 = number_takes w32 (2 ^ 32) wide32 bytes a.0.0 a.0.1 fits a.1 in
    let t1 = bytes_take a.0.0 a.0.1 x t0.0.rest_fits g.1 in
    let len : length x.0 ≡ a.0.0 = t1.1.count_is in
    let whole = Takes-then bytes (to_be_bytes w32 a.0.0) a.0.1 x.0 x.1 t0.0 t1.0 in
    let limit : a.0.0 ≤ MAX_TRANSACTION_BYTES = ltb-false _ _ (not-true _ both.0) in
    let room : body_len before + (4 + a.0.0) ≤ MAX_BATCH_BYTES = leb-true _ _ both.1 in
    (subst (λ (n : ℕ). Takes bytes (to_be_bytes w32 n ++ x.0) x.1) (sym len) whole, record { short = omega (arith, len, limit); bytes = t1.1.each }, omega (arith, grown before x.0, len, room))

transaction_again : (before : List (List ℕ)) (t : List ℕ) (rest : List ℕ) → IsTransaction t → Short (before ++ t ∷ []) → transaction_at before (transaction_bytes t ++ rest) ≡ Ok (t, rest)
unfolding transaction_at
transaction_again before t rest is short =
    let regrouped : transaction_bytes t ++ rest ≡ to_be_bytes w32 (length t) ++ (t ++ rest) = append_assoc (to_be_bytes w32 (length t)) t rest in
    let room : body_len before + (4 + length t) ≤ MAX_BATCH_BYTES = omega (arith, grown before t, short) in
    let within = both_true (is_not (ltb MAX_TRANSACTION_BYTES (length t)) (le-ltb _ _ is.short)) (le-leb _ _ room) in
    let are : HasBytes (length t) t = record { count_is = refl; each = is.bytes } in
    ap (transaction_at before) regrouped ∙ rw (number_again w32 (2 ^ 32) wide32 (length t) (t ++ rest) (omega (arith, is.short)), within, bytes_again (length t) t rest are) refl

transaction_is : IsEntry transaction_at transaction_bytes IsTransaction Short
transaction_is = record { takes = transaction_takes; again = transaction_again; begins = front_short }

-- a batch without its tag
abbrev batch_text : BatchView → List ℕ
batch_text b = to_be_bytes w16 b.author.0 ++ (to_be_bytes w16 b.worker ++ (to_be_bytes w32 (length b.transactions) ++ flat_map transaction_bytes b.transactions))

pub contents_take : (bytes : List ℕ) (x : BatchView × List ℕ) → IsBytes bytes → batch_at bytes ≡ Ok x → Takes bytes (batch_body x.0) x.1 × IsBatch x.0
unfolding batch_at transactions_at
contents_take bytes x fits e =
    let a = bind_ok (author_at bytes) (λ author. number_at w16 author.1 >>= λ worker. transactions_at worker.1
    >>= λ transactions. Ok (record { author = author.0; worker = worker.0; transactions = transactions.0 }, transactions.1)) x e in
    let b = bind_ok (number_at w16 a.0.1) (λ worker. transactions_at worker.1
    >>= λ transactions. Ok (record { author = a.0.0; worker = worker.0; transactions = transactions.0 }, transactions.1)) x a.2 in
    let c = bind_ok (transactions_at b.0.1) (λ transactions. Ok (record { author = a.0.0; worker = b.0.0; transactions = transactions.0 }, transactions.1)) x b.2 in
    let t0 = author_takes bytes a.0 fits a.1 in
    let t1 = number_takes w16 (2 ^ 16) wide16 a.0.1 b.0.0 b.0.1 t0.0.rest_fits b.1 in
    let r = counted_take w32 (2 ^ 32) wide32 MAX_TRANSACTIONS transaction_at transaction_bytes IsTransaction Short transaction_is b.0.1 c.0 t1.0.rest_fits (omega arith) c.1 in
    let from1 = Takes-then a.0.1 (to_be_bytes w16 b.0.0) b.0.1 (to_be_bytes w32 (length c.0.0) ++ flat_map transaction_bytes c.0.0) c.0.1 t1.0 r.takes in
    let from0 = Takes-then bytes (to_be_bytes w16 a.0.0.0) a.0.1 (to_be_bytes w16 b.0.0 ++ (to_be_bytes w32 (length c.0.0) ++ flat_map transaction_bytes c.0.0)) c.0.1 t0.0 from1 in
    let made : BatchView × List ℕ = (record { author = a.0.0; worker = b.0.0; transactions = c.0.0 }, c.0.1) in
    subst (λ (y : BatchView × List ℕ). Takes bytes (batch_text y.0) y.1 × IsBatch y.0) {x = made} (ok_is made x c.2)
    (from0, record { author = t0.1; worker = t1.1; each = All-from_recursion IsTransaction c.0.0 r.fits; short = r.sound })

pub contents_again : (b : BatchView) (rest : List ℕ) → IsBatch b → batch_at (batch_body b ++ rest) ≡ Ok (b, rest)
unfolding batch_at transactions_at
contents_again b rest is =
    let text = to_be_bytes w32 (length b.transactions) ++ flat_map transaction_bytes b.transactions in
    let regrouped : batch_body b ++ rest ≡ to_be_bytes w16 b.author.0 ++ (to_be_bytes w16 b.worker ++ (text ++ rest)) = simp append_assoc in
    let limit : length b.transactions ≤ MAX_TRANSACTIONS = omega (arith, few b.transactions, is.short) in
    let all = counted_again w32 (2 ^ 32) wide32 MAX_TRANSACTIONS transaction_at transaction_bytes IsTransaction Short transaction_is b.transactions rest (omega arith) limit
    (recursion_from_All IsTransaction b.transactions is.each) is.short in
    ap batch_at regrouped ∙ rw (author_again b.author (to_be_bytes w16 b.worker ++ (text ++ rest)) is.author, number_again w16 (2 ^ 16) wide16 b.worker (text ++ rest) is.worker, all) refl
