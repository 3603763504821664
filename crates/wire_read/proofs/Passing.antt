-- A body that is passed over, transaction by transaction.
use Rattle.std.proofs.Common.{◌≡◌, ℕ, ◌+◌, ◌-◌, ◌≤◌, ◌<◌, List, [], ◌∷◌, ◌++◌, length, take, drop, Ok, refl, sym, ap, subst, ◌∙◌, arith, length-append}
use Rattle.std.specs.Int.{w16, w32}
use Rattle.std.proofs.lemmas.List.{take_at, drop_at}
use Rattle.std.proofs.lemmas.List.Sums.{sum_by_push}
use Rattle.wire.specs.declared.error.WireError.{WireError}
use Rattle.wire.specs.declared.keys.Author.{Author}
use Rattle.wire.specs.declared.limits.TheConstants.{MAX_BATCH_BYTES, MAX_TRANSACTIONS}
use Rattle.wire.specs.Batches.{BatchView, batch_body, body_len, contents_of, IsBatch, transactions_in}
use Rattle.wire.specs.Reading.{Faults, number_at, author_at, count_at, more_at, transaction_at, transactions_at, batch_at}
use Rattle.wire.proofs.Transactions.{all_back, body_has}
use Rattle.wire_read.specs.Bodies.{transaction_after, HasTransactions, HasBody}
use Rattle.wire_read.proofs.Entries.{goes_on, ends, is_done}
use Rattle.wire_read.proofs.Steps.{IsBytes}
use Rattle.wire_read.proofs.BatchBodies.{contents_take}

-- so many of the transactions were passed over, and the body has so many bytes so far
pub record Passed (count counter so_far : ℕ) (rest bytes : List ℕ) : Type 0 where
  pub transactions : List (List ℕ)
  pub counted : length transactions ≡ counter
  pub among : counter ≤ count
  pub len : body_len transactions ≡ so_far
  pub within : so_far ≤ MAX_BATCH_BYTES
  pub left : more_at transaction_at (count - counter) transactions rest ≡ transactions_at bytes

-- which transaction may follow depends on the length of the body alone
by_length : (transactions : List (List ℕ)) (so_far : ℕ) (bytes : List ℕ) → body_len transactions ≡ so_far → transaction_after so_far bytes ≡ transaction_at transactions bytes
unfolding transaction_at transaction_after
by_length transactions so_far bytes len = subst (λ (n : ℕ). transaction_after n bytes ≡ transaction_at transactions bytes) len refl

pub begins : (count : ℕ) (rest bytes : List ℕ) → count_at w32 MAX_TRANSACTIONS bytes ≡ Ok (count, rest) → Passed count 0 8 rest bytes
unfolding transactions_at
begins count rest bytes h =
    let all : count - 0 ≡ count = omega arith in
    record {
      transactions = [];
      counted = refl;
      among = omega arith;
      len = refl;
      within = omega arith;
      left = subst (λ (n : ℕ). more_at transaction_at n [] rest ≡ transactions_at bytes) (sym all) (rw h refl);
    }

pub passes : (count counter so_far : ℕ) (here bytes t rest : List ℕ) → Passed count counter so_far here bytes → counter < count → transaction_after so_far here ≡ Ok (t, rest)
    → so_far + (4 + length t) ≤ MAX_BATCH_BYTES → Passed count (counter + 1) (so_far + (4 + length t)) rest bytes
passes count counter so_far here bytes t rest until lt read within =
    let one : transaction_at until.transactions here ≡ Ok (t, rest) = sym (by_length until.transactions so_far here until.len) ∙ read in
    let longer : body_len (until.transactions ++ t ∷ []) ≡ body_len until.transactions + (4 + length t) = rw sum_by_push (omega arith) in
    record {
      transactions = until.transactions ++ t ∷ [];
      counted = omega (arith, until.counted, length-append until.transactions (t ∷ []));
      among = omega (arith, lt);
      len = omega (arith, longer, until.len);
      within = within;
      left = goes_on transaction_at count counter until.transactions here t rest (transactions_at bytes) lt one until.left;
    }

pub stops : (e : WireError) (count counter so_far : ℕ) (here bytes : List ℕ) → Passed count counter so_far here bytes → counter < count → Faults e (transaction_after so_far here)
    → Faults e (transactions_at bytes)
stops e count counter so_far here bytes until lt fault =
    ends transaction_at e count counter until.transactions here (transactions_at bytes) lt (subst (Faults e) (by_length until.transactions so_far here until.len) fault) until.left

pub passed_all : (count counter so_far : ℕ) (rest bytes : List ℕ) → Passed count counter so_far rest bytes → count ≤ counter → HasTransactions count so_far bytes rest
passed_all count counter so_far rest bytes until le = record {
  transactions = until.transactions;
  counted = omega (arith, until.counted, until.among, le);
  total = until.len;
  reads = is_done transaction_at count counter until.transactions rest (transactions_at bytes) le until.left;
}

-- a body whose transactions were passed over is read as a batch
pub body_is : (author : Author) (worker count len : ℕ) (bytes first second rest : List ℕ) → IsBytes bytes → author_at bytes ≡ Ok (author, first)
    → number_at w16 first ≡ Ok (worker, second) → HasTransactions count len second rest → HasBody author worker count len bytes
unfolding batch_at
body_is author worker count len bytes first second rest fits by of has =
    let b : BatchView = record { author = author; worker = worker; transactions = has.transactions } in
    let read : batch_at bytes ≡ Ok (b, rest) = rw (by, of, has.reads) refl in
    let found = contents_take bytes (b, rest) fits read in
    let long : length (batch_body b) ≡ len = body_has b ∙ has.total in
    let front : take len bytes ≡ batch_body b = ap (λ (l : List ℕ). take len l) found.0.parts ∙ take_at (batch_body b) rest len long in
    let back : drop len bytes ≡ rest = ap (λ (l : List ℕ). drop len l) found.0.parts ∙ drop_at (batch_body b) rest len long in
    let same : transactions_in count (drop 8 (batch_body b)) ≡ has.transactions =
    ap (λ (n : ℕ). transactions_in n (drop 8 (batch_body b))) (sym has.counted) ∙ all_back has.transactions found.1.each in
    let whole : contents_of author worker count (batch_body b) ≡ b = ap (λ (ts : List (List ℕ)). record { author = author; worker = worker; transactions = ts }) same in
    let is : contents_of author worker count (take len bytes) ≡ b = ap (λ (l : List ℕ). contents_of author worker count l) front ∙ whole in
    record {
      within = omega (arith, ap (λ (l : List ℕ). length l) found.0.parts, length-append (batch_body b) rest, long);
      fits = subst IsBatch (sym is) found.1;
      encoded = front ∙ ap batch_body (sym is);
      reads = subst (λ (c : BatchView). batch_at bytes ≡ Ok (c, drop len bytes)) (sym is) (subst (λ (l : List ℕ). batch_at bytes ≡ Ok (b, l)) (sym back) read);
    }
