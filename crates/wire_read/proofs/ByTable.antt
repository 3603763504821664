-- Reading goes by the table: field for field it takes the same bytes and meets the same fault.
use Rattle.std.proofs.Common.{◌≡◌, ◌↔◌, ℕ, ◌+◌, ◌≤◌, zero, suc, Bool, true, false, not, ltb, leb, ◌&&◌, List, [], ◌∷◌, ◌++◌, map, length, take, drop, sum_by, Result, Ok, Err, Option, Some}
use Rattle.std.proofs.Common.{None, IsOk, nat_lt, nat_le, refl, sym, ap, ap₂, subst, ◌∙◌, inl, inr, arith, length-take, take-append-drop, append_assoc, ltb-false, le-ltb, is_lt, nat_cmp}
use Rattle.std.proofs.Common.{eqb-true}
use Rattle.std.specs.List.{concat}
use Rattle.std.specs.Int.{Width, w8, w16, w32, w64, byte_len, from_be_bytes, is_in_range}
use Rattle.std.specs.Prelude.{◌==◌, if◌then◌else◌}
use Rattle.std.specs.Cmp.Lexicographic.{slice_cmp}
use Rattle.std.proofs.lemmas.Bool.{cases_Bool}
use Rattle.std.proofs.lemmas.List.{map-append, nil_from_length}
use Rattle.std.proofs.lemmas.List.Sums.{sum_by-cons}
use Rattle.wire.specs.declared.error.WireError.{WireError}
use Rattle.wire.specs.declared.error.WireError.TheVariants.{Short, Trailing, BadTag, NotCanonical, TooMany, BadRound}
use Rattle.wire.specs.declared.keys.Author.{Author}
use Rattle.wire.specs.declared.keys.Digest.{Digest}
use Rattle.wire.specs.declared.keys.Signature.{Signature}
use Rattle.wire.specs.declared.message.Message.{Message}
use Rattle.wire.specs.declared.message.Message.TheVariants as message
use Rattle.wire.specs.declared.limits.TheConstants.{MAX_TRANSACTION_BYTES, MAX_BATCH_BYTES, MAX_TRANSACTIONS, MAX_BATCHES, MAX_PARENTS, MAX_VOTES}
use Rattle.wire.specs.declared.round.TheConstants.Round.{MAX as MAX_ROUND}
use Rattle.wire.specs.declared.round.TheConstants.Wave.{MAX as MAX_WAVE}
use Rattle.wire.specs.Rising.{follows}
use Rattle.wire.specs.declared.header.HeaderBody.{HeaderBody}
use Rattle.wire.specs.declared.header.Header.{Header}
use Rattle.wire.specs.declared.header.Vote.{Vote}
use Rattle.wire.specs.declared.header.Certificate.{Certificate}
use Rattle.wire.specs.declared.message.BatchAck.{BatchAck}
use Rattle.wire.specs.declared.message.Coin.{Coin}
use Rattle.wire.specs.Batches.{BatchView, has_room}
use Rattle.wire.specs.References.{batch_follows, parent_follows, vote_follows}
use Rattle.wire.specs.Reading.{◌>>=◌, Read, number_at, bytes_at, author_at, digest_at, signature_at, round_at, wave_at, count_at, more_at, batch_reference_at, batches_at}
use Rattle.wire.specs.Reading.{parent_reference_at, parents_at, vote_entry_at, votes_at, transaction_at, transactions_at, batch_at, ack_at, header_body_at, header_at, vote_at}
use Rattle.wire.specs.Reading.{certificate_at, coin_at, tagged_at, message_of}
use Rattle.wire_read.specs.Table.{Field, Part, one, many, bytes, number, round, wave, rising_digest, rising_member, transaction_len, header_body, parts_of, next_entry, next_part, next}
use Rattle.wire_read.specs.Table.{HasFault, HasNone}
use Rattle.wire_read.proofs.Cuts.{Next, past, Reported, one_reported, reported_fault, has_fault, reported_none, has_none}

abbrev said_by : Result Message WireError → Option WireError
said_by (Ok m) = None
said_by (Err fault) = Some fault

-- reading gives what the table tells of these bytes, where these fields come
abbrev Goes : Next → List ℕ → Result Message WireError → Type 0
Goes n text read = Reported n text (said_by read)

-- ---- one field

-- a step of steps
steps : {X Y : Type 0} (r : Result X WireError) (f : X → Result Y WireError) (k : Y → Result Message WireError) (n : Next) (text : List ℕ) → Goes n text (r >>= λ x. f x >>= k)
    → Goes n text ((r >>= f) >>= k)
steps (Ok x) f k n text goes = goes
steps (Err e) f k n text goes = goes

-- what is read after a value: its fault, or what the table tells after it
abbrev After : Option WireError → Next → List ℕ → Result Message WireError → Type 0
After None n rest read = Goes n rest read
After (Some fault) n rest read = read ≡ Err fault

passes : (field : Field) (n : Next) (text : List ℕ) (read : Result Message WireError) (said : Option WireError) → n [] ≡ Some field → field.width ≤ length text
    → field.fault (take field.width text) ≡ said
    → After said (past n (take field.width text)) (drop field.width text) read → Goes n text read
passes field n text read None is long said goes =
    let value = take field.width text in
    let size : length value ≡ field.width = omega (arith, length-take field.width text, long) in
    record {
      fields = value ∷ goes.fields;
      rest = goes.rest;
      whole = sym (take-append-drop field.width text) ∙ ap (λ (l : List ℕ). value ++ l) goes.whole ∙ sym (append_assoc value (concat goes.fields) goes.rest);
      pass = (rw is (size, said), goes.pass);
      ends = goes.ends;
    }
passes field n text read (Some fault) is long said goes =
    let enough : ltb (length text) field.width ≡ false = le-ltb _ _ long in
    rw goes (record { fields = []; rest = text; whole = refl; pass = tt; ends = rw (is, enough) said })

ends_within : (field : Field) (n : Next) (text : List ℕ) → n [] ≡ Some field → nat_lt (length text) field.width ≡ true → Reported n text (Some Short)
ends_within field n text is short = record { fields = []; rest = text; whole = refl; pass = tt; ends = rw (is, short) refl }

field_then : {X : Type 0} (value : List ℕ → X) (field : Field) (n : Next) (text : List ℕ) (k : X × List ℕ → Result Message WireError) → n [] ≡ Some field
    → ((v rest : List ℕ) → length v ≡ field.width → After (field.fault v) (past n v) rest (k (value v, rest)))
    → Goes n text ((if nat_lt (length text) field.width then Err Short else Ok (value (take field.width text), drop field.width text)) >>= k)
field_then value field n text k is after =
    elim (cases_Bool (nat_lt (length text) field.width)) [
      | inl short ↦ rw short (ends_within field n text is short)
      | inr enough ↦
          let long : field.width ≤ length text = ltb-false _ _ enough in
          let size : length (take field.width text) ≡ field.width = omega (arith, length-take field.width text, long) in
          rw enough (passes field n text (k (value (take field.width text), drop field.width text)) (field.fault (take field.width text)) is long refl
          (after (take field.width text) (drop field.width text) size))
    ]

-- a field of so many bytes
abbrev sized : ℕ → (List ℕ → Option WireError) → Field
sized width fault = record { width = width; fault = fault }

number_then : (w : Width) (fault : List ℕ → Option WireError) (n : Next) (text : List ℕ) (k : ℕ × List ℕ → Result Message WireError) → n [] ≡ Some (sized (byte_len w) fault)
    → ((v rest : List ℕ) → After (fault v) (past n v) rest (k (from_be_bytes w v, rest))) → Goes n text (number_at w text >>= k)
number_then w fault n text k is after = field_then (from_be_bytes w) (sized (byte_len w) fault) n text k is (λ v rest size. after v rest)

author_then : (fault : List ℕ → Option WireError) (n : Next) (text : List ℕ) (k : Author × List ℕ → Result Message WireError) → n [] ≡ Some (sized 2 fault)
    → ((v rest : List ℕ) → After (fault v) (past n v) rest (k (record { 0 = from_be_bytes w16 v }, rest))) → Goes n text (author_at text >>= k)
unfolding author_at
author_then fault n text k is after = steps (number_at w16 text) (λ x. Ok (record { 0 = x.0 }, x.1)) k n text (number_then w16 fault n text (λ x. k (record { 0 = x.0 }, x.1)) is after)

digest_then : (fault : List ℕ → Option WireError) (n : Next) (text : List ℕ) (k : Digest × List ℕ → Result Message WireError) → n [] ≡ Some (sized 32 fault)
    → ((v rest : List ℕ) → After (fault v) (past n v) rest (k (record { 0 = v }, rest))) → Goes n text (digest_at text >>= k)
unfolding digest_at
digest_then fault n text k is after =
    steps (bytes_at 32 text) (λ x. Ok (record { 0 = x.0 }, x.1)) k n text (field_then (λ v. v) (sized 32 fault) n text (λ x. k (record { 0 = x.0 }, x.1)) is (λ v rest size. after v rest))

signature_then : (n : Next) (text : List ℕ) (k : Signature × List ℕ → Result Message WireError) → n [] ≡ Some (bytes 64)
    → ((v rest : List ℕ) → Goes (past n v) rest (k (record { 0 = v }, rest))) → Goes n text (signature_at text >>= k)
unfolding signature_at
signature_then n text k is after =
    steps (bytes_at 64 text) (λ x. Ok (record { 0 = x.0 }, x.1)) k n text (field_then (λ v. v) (bytes 64) n text (λ x. k (record { 0 = x.0 }, x.1)) is (λ v rest size. after v rest))

-- ---- tests

-- a test that has to hold
held : {X : Type 0} (good holds : Bool) (fault : WireError) (n : Next) (rest : List ℕ) (r : Result X WireError) (k : X → Result Message WireError) → holds ≡ good → Goes n rest (r >>= k)
    → After (if good then None else Some fault) n rest ((if holds then r else Err fault) >>= k)
held true holds fault n rest r k same goes = rw same goes
held false holds fault n rest r k same goes = rw same refl

-- a test for a fault
clear : {X : Type 0} (good bad : Bool) (fault : WireError) (n : Next) (rest : List ℕ) (r : Result X WireError) (k : X → Result Message WireError) → bad ≡ not good → Goes n rest (r >>= k)
    → After (if good then None else Some fault) n rest ((if bad then Err fault else r) >>= k)
clear true bad fault n rest r k same goes = rw same goes
clear false bad fault n rest r k same goes = rw same refl

above : (a b : ℕ) → ltb a b ≡ not (is_in_range 0 a b)
above a b = grind arith

within : (a b : ℕ) → not (ltb a b) ≡ leb b a
within a b = grind arith

count_then : (w : Width) (limit : ℕ) (n : Next) (text : List ℕ) (k : ℕ × List ℕ → Result Message WireError) → n [] ≡ Some (number w (is_in_range 0 limit) TooMany)
    → ((v rest : List ℕ) → Goes (past n v) rest (k (from_be_bytes w v, rest))) → Goes n text (count_at w limit text >>= k)
unfolding count_at
count_then w limit n text k is goes =
    steps (number_at w text) _ k n text
    (number_then w (number w (is_in_range 0 limit) TooMany).fault n text _ is
    (λ v rest. clear (is_in_range 0 limit (from_be_bytes w v)) (nat_lt limit (from_be_bytes w v)) TooMany (past n v) rest (Ok (from_be_bytes w v, rest)) k (above limit (from_be_bytes w v))
    (goes v rest)))

round_then : (n : Next) (text : List ℕ) (k : ℕ × List ℕ → Result Message WireError) → n [] ≡ Some round
    → ((v rest : List ℕ) → Goes (past n v) rest (k (from_be_bytes w64 v, rest))) → Goes n text (round_at text >>= k)
unfolding round_at
round_then n text k is goes =
    steps (number_at w64 text) _ k n text
    (number_then w64 round.fault n text _ is
    (λ v rest. clear (is_in_range 0 MAX_ROUND (from_be_bytes w64 v)) (nat_lt MAX_ROUND (from_be_bytes w64 v)) BadRound (past n v) rest (Ok (from_be_bytes w64 v, rest)) k
    (above MAX_ROUND (from_be_bytes w64 v)) (goes v rest)))

wave_then : (n : Next) (text : List ℕ) (k : ℕ × List ℕ → Result Message WireError) → n [] ≡ Some wave
    → ((v rest : List ℕ) → Goes (past n v) rest (k (from_be_bytes w64 v, rest))) → Goes n text (wave_at text >>= k)
unfolding wave_at
wave_then n text k is goes =
    steps (number_at w64 text) _ k n text
    (number_then w64 wave.fault n text _ is
    (λ v rest. held (is_in_range 1 MAX_WAVE (from_be_bytes w64 v)) (nat_lt 0 (from_be_bytes w64 v) && nat_le (from_be_bytes w64 v) MAX_WAVE) BadRound (past n v) rest
    (Ok (from_be_bytes w64 v, rest)) k refl (goes v rest)))

-- ---- lists

-- an entry is read as the table has it, where the keys before it are those of the entries before it
abbrev IsRead : {X K : Type 0} → (List (List ℕ) → Field) → (List ℕ → Field) → (List X → List ℕ → Read X) → (List ℕ → K) → (X → K) → Type 0
IsRead {X} {K} key value entry_at of_key of_entry =
    (keys : List (List ℕ)) (before : List X) → map of_key keys ≡ map of_entry before → (n : Next) (text : List ℕ) (k : X × List ℕ → Result Message WireError)
    → n [] ≡ Some (key keys) → ((v : List ℕ) → n (v ∷ []) ≡ Some (value v))
    → ((v u rest : List ℕ) (x : X) → of_key v ≡ of_entry x → Goes (past (past n v) u) rest (k (x, rest)))
    → Goes n text (entry_at before text >>= k)

pushed : {X K : Type 0} (of_key : List ℕ → K) (of_entry : X → K) (keys : List (List ℕ)) (before : List X) (key : List ℕ) (x : X) → map of_key keys ≡ map of_entry before → of_key key ≡ of_entry x
    → map of_key (keys ++ key ∷ []) ≡ map of_entry (before ++ x ∷ [])
pushed of_key of_entry keys before key x same is = map-append of_key keys (key ∷ []) ∙ ap₂ (λ a b. a ++ b ∷ []) same is ∙ sym (map-append of_entry before (x ∷ []))

more_then : {X K : Type 0} (key : List (List ℕ) → Field) (value : List ℕ → Field) (entry_at : List X → List ℕ → Read X) (of_key : List ℕ → K) (of_entry : X → K)
    → IsRead key value entry_at of_key of_entry → (count : ℕ) (keys : List (List ℕ)) (before : List X)
    → map of_key keys ≡ map of_entry before → (n : Next) (text : List ℕ) (k : List X × List ℕ → Result Message WireError) → ((xs : List X) (rest : List ℕ) → Goes n rest (k (xs, rest)))
    → Goes (next_entry key value n count keys) text (more_at entry_at count before text >>= k)
unfolding next_entry more_at
more_then key value entry_at of_key of_entry is zero keys before same n text k goes = goes before text
more_then key value entry_at of_key of_entry is (suc count) keys before same n text k goes =
    steps (entry_at before text) (λ x. more_at entry_at count (before ++ x.0 ∷ []) x.1) k (next_entry key value n (suc count) keys) text
    (is keys before same (next_entry key value n (suc count) keys) text (λ x. more_at entry_at count (before ++ x.0 ∷ []) x.1 >>= k) refl (λ v. refl)
    (λ v u rest x of. more_then key value entry_at of_key of_entry is count (keys ++ v ∷ []) (before ++ x ∷ []) (pushed of_key of_entry keys before v x same of) n rest k goes))

list_then : {X K : Type 0} (w : Width) (limit : ℕ) (key : List (List ℕ) → Field) (value : List ℕ → Field) (entry_at : List X → List ℕ → Read X) (of_key : List ℕ → K) (of_entry : X → K)
    → IsRead key value entry_at of_key of_entry → (parts : List Part) (text : List ℕ)
    (k : List X × List ℕ → Result Message WireError) → ((xs : List X) (rest : List ℕ) → Goes (next_part parts) rest (k (xs, rest)))
    → Goes (next_part (many w limit key value ∷ parts)) text ((count_at w limit text >>= λ count. more_at entry_at count.0 [] count.1) >>= k)
unfolding next_part
list_then w limit key value entry_at of_key of_entry is parts text k goes =
    steps (count_at w limit text) (λ count. more_at entry_at count.0 [] count.1) k (next_part (many w limit key value ∷ parts)) text
    (count_then w limit (next_part (many w limit key value ∷ parts)) text (λ count. more_at entry_at count.0 [] count.1 >>= k) refl
    (λ v rest. more_then key value entry_at of_key of_entry is (from_be_bytes w v) [] [] refl (next_part parts) rest k goes))

-- ---- entries

follows_map : {A K : Type 0} (below : K → Bool) (f : A → K) (l : List A) → follows (λ a. below (f a)) l ≡ follows below (map f l)
follows_map below f [] = refl
follows_map below f (x ∷ []) = refl
follows_map below f (x ∷ y ∷ rest) = follows_map below f (y ∷ rest)

same_follows : {X K : Type 0} (below : K → Bool) (of_key : List ℕ → K) (of_entry : X → K) (keys : List (List ℕ)) (before : List X) → map of_key keys ≡ map of_entry before
    → follows (λ x. below (of_entry x)) before ≡ follows (λ key. below (of_key key)) keys
same_follows below of_key of_entry keys before same = follows_map below of_entry before ∙ ap (λ l. follows below l) (sym same) ∙ sym (follows_map below of_key keys)

batch_is : IsRead rising_digest (λ key. bytes 2) batch_reference_at (λ key. key) (λ b. b.digest.0)
unfolding batch_reference_at
batch_is keys before same n text k is later goes =
    let less : List ℕ → List ℕ → Bool = λ a b. is_lt (slice_cmp nat_cmp a b) in
    steps (digest_at text) _ k n text
    (digest_then (rising_digest keys).fault n text _ is
    (λ v rest. held (follows (λ a. less a v) keys) (batch_follows before (record { 0 = v })) NotCanonical (past n v) rest _ k
    (same_follows (λ a. less a v) (λ key. key) (λ b. b.digest.0) keys before same)
    (steps (number_at w16 rest) _ k (past n v) rest
    (number_then w16 (bytes 2).fault (past n v) rest _ (later v) (λ u rest. goes v u rest _ refl)))))

parent_is : IsRead rising_member (λ key. bytes 32) parent_reference_at (from_be_bytes w16) (λ p. p.author.0)
unfolding parent_reference_at
parent_is keys before same n text k is later goes =
    let less : List ℕ → List ℕ → Bool = λ a b. nat_lt (from_be_bytes w16 a) (from_be_bytes w16 b) in
    steps (author_at text) _ k n text
    (author_then (rising_member keys).fault n text _ is
    (λ v rest. held (follows (λ a. less a v) keys) (parent_follows before (record { 0 = from_be_bytes w16 v })) NotCanonical (past n v) rest _ k
    (same_follows (λ a. nat_lt a (from_be_bytes w16 v)) (from_be_bytes w16) (λ p. p.author.0) keys before same)
    (steps (digest_at rest) _ k (past n v) rest
    (digest_then (bytes 32).fault (past n v) rest _ (later v) (λ u rest. goes v u rest _ refl)))))

vote_entry_is : IsRead rising_member (λ key. bytes 64) vote_entry_at (from_be_bytes w16) (λ v. v.voter.0)
unfolding vote_entry_at
vote_entry_is keys before same n text k is later goes =
    let less : List ℕ → List ℕ → Bool = λ a b. nat_lt (from_be_bytes w16 a) (from_be_bytes w16 b) in
    steps (author_at text) _ k n text
    (author_then (rising_member keys).fault n text _ is
    (λ v rest. held (follows (λ a. less a v) keys) (vote_follows before (record { 0 = from_be_bytes w16 v })) NotCanonical (past n v) rest _ k
    (same_follows (λ a. nat_lt a (from_be_bytes w16 v)) (from_be_bytes w16) (λ p. p.voter.0) keys before same)
    (steps (signature_at rest) _ k (past n v) rest
    (signature_then (past n v) rest _ (later v) (λ u rest. goes v u rest _ refl)))))

-- what transactions of these lengths add to a body
lengths_sum : (keys : List (List ℕ)) (before : List (List ℕ)) → map (from_be_bytes w32) keys ≡ map (λ t. length t) before
    → sum_by (λ len. 4 + from_be_bytes w32 len) keys ≡ sum_by (λ t. 4 + length t) before
lengths_sum keys before same = sum_by_map (λ n. 4 + n) (from_be_bytes w32) keys ∙ ap (λ l. sum_by (λ n. 4 + n) l) same ∙ sym (sum_by_map (λ n. 4 + n) (λ t. length t) before)
  where
    sum_by_map : {A : Type 0} (g : ℕ → ℕ) (f : A → ℕ) (l : List A) → sum_by (λ a. g (f a)) l ≡ sum_by g (map f l)
    sum_by_map g f [] = refl
    sum_by_map g f (x ∷ l) = sum_by-cons (λ a. g (f a)) x l ∙ ap (λ m. g (f x) + m) (sum_by_map g f l) ∙ sym (sum_by-cons g (f x) (map f l))

transaction_is : IsRead transaction_len (λ len. bytes (from_be_bytes w32 len)) transaction_at (from_be_bytes w32) (λ t. length t)
unfolding transaction_at
transaction_is keys before same n text k is later goes =
    steps (number_at w32 text) _ k n text
    (number_then w32 (transaction_len keys).fault n text _ is
    (λ v rest.
    let len = from_be_bytes w32 v in
    let room : has_room before len ≡ nat_le (8 + sum_by (λ l. 4 + from_be_bytes w32 l) keys + (4 + len)) MAX_BATCH_BYTES =
    ap (λ m. nat_le (8 + m + (4 + len)) MAX_BATCH_BYTES) (sym (lengths_sum keys before same)) in
    held (nat_le len MAX_TRANSACTION_BYTES && nat_le (8 + sum_by (λ l. 4 + from_be_bytes w32 l) keys + (4 + len)) MAX_BATCH_BYTES)
    (not (nat_lt MAX_TRANSACTION_BYTES len) && has_room before len) TooMany (past n v) rest (bytes_at len rest) k
    (ap₂ (λ a b. a && b) (within MAX_TRANSACTION_BYTES len) room)
    (field_then (λ u. u) (bytes len) (past n v) rest k (later v) (λ u rest size. goes v u rest u (sym size)))))

-- ---- messages

batch_then : (text : List ℕ) (k : BatchView × List ℕ → Result Message WireError) → ((x : BatchView) (rest : List ℕ) → Goes (next_part []) rest (k (x, rest)))
    → Goes (next_part (parts_of 1)) text (batch_at text >>= k)
unfolding batch_at transactions_at parts_of next_part
batch_then text k goes =
    steps (author_at text) _ k _ text (author_then (bytes 2).fault _ text _ refl (λ a rest.
    steps (number_at w16 rest) _ k _ rest (number_then w16 (bytes 2).fault _ rest _ refl (λ b rest.
    steps (transactions_at rest) _ k _ rest (list_then w32 MAX_TRANSACTIONS transaction_len (λ len. bytes (from_be_bytes w32 len)) transaction_at (from_be_bytes w32) (λ t. length t)
    transaction_is [] rest _ (λ c rest. goes _ rest))))))

ack_then : (text : List ℕ) (k : BatchAck × List ℕ → Result Message WireError) → ((x : BatchAck) (rest : List ℕ) → Goes (next_part []) rest (k (x, rest)))
    → Goes (next_part (parts_of 2)) text (ack_at text >>= k)
unfolding ack_at parts_of next_part
ack_then text k goes =
    steps (author_at text) _ k _ text (author_then (bytes 2).fault _ text _ refl (λ a rest.
    steps (digest_at rest) _ k _ rest (digest_then (bytes 32).fault _ rest _ refl (λ b rest. goes _ rest))))

body_then : (parts : List Part) (text : List ℕ) (k : HeaderBody × List ℕ → Result Message WireError) → ((x : HeaderBody) (rest : List ℕ) → Goes (next_part parts) rest (k (x, rest)))
    → Goes (next_part (header_body ++ parts)) text (header_body_at text >>= k)
unfolding header_body_at batches_at parents_at next_part
body_then parts text k goes =
    steps (author_at text) _ k _ text (author_then (bytes 2).fault _ text _ refl (λ a rest.
    steps (round_at rest) _ k _ rest (round_then _ rest _ refl (λ b rest.
    steps (batches_at rest) _ k _ rest (list_then w16 MAX_BATCHES rising_digest (λ key. bytes 2) batch_reference_at (λ key. key) (λ b. b.digest.0) batch_is
    (many w16 MAX_PARENTS rising_member (λ key. bytes 32) ∷ parts) rest _ (λ c rest.
    steps (parents_at rest) _ k _ rest (list_then w16 MAX_PARENTS rising_member (λ key. bytes 32) parent_reference_at (from_be_bytes w16) (λ p. p.author.0) parent_is parts rest _
    (λ d rest. goes _ rest))))))))

header_then : (text : List ℕ) (k : Header × List ℕ → Result Message WireError) → ((x : Header) (rest : List ℕ) → Goes (next_part []) rest (k (x, rest)))
    → Goes (next_part (parts_of 3)) text (header_at text >>= k)
unfolding header_at parts_of next_part
header_then text k goes =
    steps (header_body_at text) _ k _ text (body_then (one (bytes 64) ∷ []) text _ (λ a rest.
    steps (signature_at rest) _ k _ rest (signature_then _ rest _ refl (λ b rest. goes _ rest))))

vote_then : (text : List ℕ) (k : Vote × List ℕ → Result Message WireError) → ((x : Vote) (rest : List ℕ) → Goes (next_part []) rest (k (x, rest)))
    → Goes (next_part (parts_of 4)) text (vote_at text >>= k)
unfolding vote_at parts_of next_part
vote_then text k goes =
    steps (digest_at text) _ k _ text (digest_then (bytes 32).fault _ text _ refl (λ a rest.
    steps (round_at rest) _ k _ rest (round_then _ rest _ refl (λ b rest.
    steps (author_at rest) _ k _ rest (author_then (bytes 2).fault _ rest _ refl (λ c rest.
    steps (author_at rest) _ k _ rest (author_then (bytes 2).fault _ rest _ refl (λ d rest.
    steps (signature_at rest) _ k _ rest (signature_then _ rest _ refl (λ e rest. goes _ rest))))))))))

certificate_then : (text : List ℕ) (k : Certificate × List ℕ → Result Message WireError) → ((x : Certificate) (rest : List ℕ) → Goes (next_part []) rest (k (x, rest)))
    → Goes (next_part (parts_of 5)) text (certificate_at text >>= k)
unfolding certificate_at votes_at parts_of next_part
certificate_then text k goes =
    steps (header_body_at text) _ k _ text (body_then (many w16 MAX_VOTES rising_member (λ key. bytes 64) ∷ []) text _ (λ a rest.
    steps (votes_at rest) _ k _ rest (list_then w16 MAX_VOTES rising_member (λ key. bytes 64) vote_entry_at (from_be_bytes w16) (λ v. v.voter.0) vote_entry_is [] rest _ (λ b rest. goes _ rest))))

coin_then : (text : List ℕ) (k : Coin × List ℕ → Result Message WireError) → ((x : Coin) (rest : List ℕ) → Goes (next_part []) rest (k (x, rest)))
    → Goes (next_part (parts_of 6)) text (coin_at text >>= k)
unfolding coin_at parts_of next_part
coin_then text k goes =
    steps (wave_at text) _ k _ text (wave_then _ text _ refl (λ a rest.
    steps (number_at w64 rest) _ k _ rest (number_then w64 (bytes 8).fault _ rest _ refl (λ b rest. goes _ rest))))

abbrev whole : Message × List ℕ → Result Message WireError
whole found = if length found.1 == 0 then Ok found.0 else Err Trailing

-- after the last field
ends_there : (m : Message) (rest : List ℕ) → Goes (next_part []) rest (whole (m, rest))
unfolding next_part
ends_there m rest =
    elim (cases_Bool (length rest == 0)) [
      | inl none ↦
          let nil : rest ≡ [] = nil_from_length rest (eqb-true _ _ none) in
          rw none (record { fields = []; rest = rest; whole = refl; pass = tt; ends = (nil, refl) })
      | inr some ↦ rw some (record { fields = []; rest = rest; whole = refl; pass = tt; ends = rw some refl })
    ]

-- what is read after a tag
abbrev IsTagged : ℕ → List ℕ → Type 0
IsTagged tag text = After (if is_in_range 1 6 tag then None else Some BadTag) (next_part (parts_of tag)) text (tagged_at (tag ∷ text) >>= whole)

wrapped : {X : Type 0} (r : Read X) (wrap : X → Message) (n : Next) (text : List ℕ) → Goes n text (r >>= λ x. whole (wrap x.0, x.1)) → Goes n text ((r >>= λ x. Ok (wrap x.0, x.1)) >>= whole)
wrapped r wrap n text goes = steps r (λ x. Ok (wrap x.0, x.1)) whole n text goes

tag_1 : (text : List ℕ) → IsTagged 1 text
unfolding tagged_at
tag_1 text = wrapped (batch_at text) (λ b. message.Batch b) (next_part (parts_of 1)) text (batch_then text _ (λ x rest. ends_there _ rest))

tag_2 : (text : List ℕ) → IsTagged 2 text
unfolding tagged_at
tag_2 text = wrapped (ack_at text) (λ a. message.BatchAck a) (next_part (parts_of 2)) text (ack_then text _ (λ x rest. ends_there _ rest))

tag_3 : (text : List ℕ) → IsTagged 3 text
unfolding tagged_at
tag_3 text = wrapped (header_at text) (λ h. message.Header h) (next_part (parts_of 3)) text (header_then text _ (λ x rest. ends_there _ rest))

tag_4 : (text : List ℕ) → IsTagged 4 text
unfolding tagged_at
tag_4 text = wrapped (vote_at text) (λ v. message.Vote v) (next_part (parts_of 4)) text (vote_then text _ (λ x rest. ends_there _ rest))

tag_5 : (text : List ℕ) → IsTagged 5 text
unfolding tagged_at
tag_5 text = wrapped (certificate_at text) (λ c. message.Certificate c) (next_part (parts_of 5)) text (certificate_then text _ (λ x rest. ends_there _ rest))

tag_6 : (text : List ℕ) → IsTagged 6 text
unfolding tagged_at
tag_6 text = wrapped (coin_at text) (λ c. message.Coin c) (next_part (parts_of 6)) text (coin_then text _ (λ x rest. ends_there _ rest))

no_tag : (tag : ℕ) → (tag == 1) ≡ false → (tag == 2) ≡ false → (tag == 3) ≡ false → (tag == 4) ≡ false → (tag == 5) ≡ false → (tag == 6) ≡ false → (is_in_range 1 6 tag) ≡ false
no_tag tag n1 n2 n3 n4 n5 n6 = grind arith

or_else : (tag kind : ℕ) (text : List ℕ) → IsTagged kind text → ((tag == kind) ≡ false → IsTagged tag text) → IsTagged tag text
or_else tag kind text tagged other =
    elim (cases_Bool (tag == kind)) [
      | inl is ↦ subst (λ (t : ℕ). IsTagged t text) (sym (eqb-true tag kind is)) tagged
      | inr not ↦ other not
    ]

bad_tag : (tag : ℕ) (text : List ℕ) → (tag == 1) ≡ false → (tag == 2) ≡ false → (tag == 3) ≡ false → (tag == 4) ≡ false → (tag == 5) ≡ false → (tag == 6) ≡ false → IsTagged tag text
unfolding tagged_at
bad_tag tag text n1 n2 n3 n4 n5 n6 = rw (no_tag tag n1 n2 n3 n4 n5 n6, n1, n2, n3, n4, n5, n6) refl

by_tag : (tag : ℕ) (text : List ℕ) → IsTagged tag text
by_tag tag text =
    or_else tag 1 text (tag_1 text) (λ n1. or_else tag 2 text (tag_2 text) (λ n2. or_else tag 3 text (tag_3 text) (λ n3.
    or_else tag 4 text (tag_4 text) (λ n4. or_else tag 5 text (tag_5 text) (λ n5. or_else tag 6 text (tag_6 text) (λ n6. bad_tag tag text n1 n2 n3 n4 n5 n6))))))

reported : (text : List ℕ) → Reported next text (said_by (message_of text))
unfolding next message_of
reported [] = record { fields = []; rest = []; whole = refl; pass = tt; ends = unfold tagged_at in refl }
reported (tag ∷ text) = passes (sized 1 (λ v. if is_in_range 1 6 (from_be_bytes w8 v) then None else Some BadTag)) next (tag ∷ text) (tagged_at (tag ∷ text) >>= whole) _ refl (omega arith) refl
    (by_tag tag text)

-- ---- the law

abbrev some_of : WireError → Option WireError
some_of fault = Some fault

some_is : (here other : WireError) → some_of here ≡ some_of other → here ≡ other
some_is here other e = cc

fault_by : (read : Result Message WireError) (fault : WireError) → said_by read ≡ Some fault → read ≡ Err fault
fault_by (Ok m) fault e = absurd cc
fault_by (Err other) fault e = ap (λ f. Err f) (some_is other fault e)

ok_by : (read : Result Message WireError) → said_by read ≡ None → IsOk read
ok_by (Ok m) e = refl
ok_by (Err other) e = absurd cc

none_by : (read : Result Message WireError) → IsOk read → said_by read ≡ None
none_by (Ok m) ok = refl
none_by (Err other) ok = absurd cc

pub by_fault : (bytes : List ℕ) (fault : WireError) → (message_of bytes ≡ Err fault) ↔ HasFault bytes fault
by_fault bytes fault = (
  λ e. has_fault bytes fault (subst (λ (read : Result Message WireError). Reported next bytes (said_by read)) e (reported bytes)),
  λ t. fault_by (message_of bytes) fault (one_reported next bytes (said_by (message_of bytes)) (Some fault) (reported bytes) (reported_fault bytes fault t)),
)

pub by_none : (bytes : List ℕ) → IsOk (message_of bytes) ↔ HasNone bytes
by_none bytes = (
  λ ok. has_none bytes (subst (λ (said : Option WireError). Reported next bytes said) (none_by (message_of bytes) ok) (reported bytes)),
  λ t. ok_by (message_of bytes) (one_reported next bytes (said_by (message_of bytes)) None (reported bytes) (reported_none bytes t)),
)
