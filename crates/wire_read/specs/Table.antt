-- The messages as a table of fields, and the fault of bytes by this table: that of the first field that breaks a limit, an order or a
-- range.
use Rattle.std.specs.Prelude.{◌≡◌, ℕ, ◌+◌, zero, suc, Bool, List, [], ◌∷◌, ◌++◌, length, take, sum_by, Option, Some, None, nat_lt, nat_le, ◌==◌, ◌&&◌, if◌then◌else◌}
use Rattle.std.specs.List.{concat}
use Rattle.std.specs.Int.{Width, w8, w16, w32, w64, byte_len, from_be_bytes, is_in_range}
use Rattle.std.specs.Ordering.{nat_cmp, is_lt}
use Rattle.std.specs.Cmp.Lexicographic.{slice_cmp}
use Rattle.wire.specs.declared.error.WireError.{WireError}
use Rattle.wire.specs.declared.error.WireError.TheVariants.{Short, Trailing, BadTag, NotCanonical, TooMany, BadRound}
use Rattle.wire.specs.declared.limits.TheConstants.{MAX_TRANSACTION_BYTES, MAX_BATCH_BYTES, MAX_TRANSACTIONS, MAX_BATCHES, MAX_PARENTS, MAX_VOTES}
use Rattle.wire.specs.declared.round.TheConstants.Round.{MAX as MAX_ROUND}
use Rattle.wire.specs.declared.round.TheConstants.Wave.{MAX as MAX_WAVE}
use Rattle.wire.specs.Rising.{follows}

-- a field of a message: how many bytes it has, and which fault a value of it has, if any
pub record Field : Type 0 where
  pub width : ℕ
  pub fault : List ℕ → Option WireError

-- A part of a message: one field; or a list of entries, with their number before them in a field of this width, and no more entries than
-- this number. An entry is a key, whose test depends on the keys before it, and a field that depends on the key.
pub data Part : Type 0 where
  one : Field → Part
  many : Width → ℕ → (List (List ℕ) → Field) → (List ℕ → Field) → Part

-- ---- fields

-- a field of this many bytes, which may have any value
abbrev pub bytes : ℕ → Field
bytes width = record { width = width; fault = λ value. None }

-- a field with a number of this width that has to pass a test; otherwise it has the fault `bad`
abbrev pub number : Width → (ℕ → Bool) → WireError → Field
number w passes bad = record { width = byte_len w; fault = λ value. if passes (from_be_bytes w value) then None else Some bad }

-- a field with the key of a list's entry: `width` bytes that have to be greater than the key before, if there is one
abbrev pub rising : ℕ → (List ℕ → List ℕ → Bool) → List (List ℕ) → Field
rising width less keys = record { width = width; fault = λ key. if follows (λ before. less before key) keys then None else Some NotCanonical }

-- the field of a round, which is at most 2^48
abbrev pub round : Field
round = number w64 (is_in_range 0 MAX_ROUND) BadRound

-- the field of a wave, which is from 1 to 2^47 - 1
abbrev pub wave : Field
wave = number w64 (is_in_range 1 MAX_WAVE) BadRound

-- ---- keys

-- the field of a digest that is the key of an entry; digests are compared byte by byte
abbrev pub rising_digest : List (List ℕ) → Field
rising_digest = rising 32 (λ a b. is_lt (slice_cmp nat_cmp a b))

-- the field of a member's number that is the key of an entry
abbrev pub rising_member : List (List ℕ) → Field
rising_member = rising 2 (λ a b. nat_lt (from_be_bytes w16 a) (from_be_bytes w16 b))

-- the field of a transaction's length. The body of the batch has 8 bytes, and for each transaction 4 bytes and this length; it may not get
-- too long
abbrev pub transaction_len : List (List ℕ) → Field
transaction_len lens = number w32 (λ n. nat_le n MAX_TRANSACTION_BYTES && nat_le (8 + sum_by (λ len. 4 + from_be_bytes w32 len) lens + (4 + n)) MAX_BATCH_BYTES) TooMany

-- ---- the table

-- the parts of a header's body: author, round, batches (digest, worker), parents (author, certificate digest)
abbrev pub header_body : List Part
header_body = one (bytes 2) ∷ one round ∷ many w16 MAX_BATCHES rising_digest (λ key. bytes 2) ∷ many w16 MAX_PARENTS rising_member (λ key. bytes 32) ∷ []

-- the parts of a message, given its tag
unfoldable pub parts_of : ℕ → List Part
parts_of tag =
    -- tag 1, a batch: author, worker, transactions (length, bytes)
    if tag == 1 then one (bytes 2) ∷ one (bytes 2) ∷ many w32 MAX_TRANSACTIONS transaction_len (λ len. bytes (from_be_bytes w32 len)) ∷ []
    -- tag 2, an acknowledgement: author, batch digest
    else if tag == 2 then one (bytes 2) ∷ one (bytes 32) ∷ []
    -- tag 3, a header: its body, signature
    else if tag == 3 then header_body ++ one (bytes 64) ∷ []
    -- tag 4, a vote: header digest, round, author, voter, signature
    else if tag == 4 then one (bytes 32) ∷ one round ∷ one (bytes 2) ∷ one (bytes 2) ∷ one (bytes 64) ∷ []
    -- tag 5, a certificate: the body of its header, votes (voter, signature)
    else if tag == 5 then header_body ++ many w16 MAX_VOTES rising_member (λ key. bytes 64) ∷ []
    -- tag 6, a coin: wave, value
    else one wave ∷ one (bytes 8) ∷ []

-- ---- which field comes next

-- The field that comes after these fields of a list of entries, given the keys of the entries before them; after the last entry it is the
-- first field of the next part.
unfoldable pub next_entry : (List (List ℕ) → Field) → (List ℕ → Field) → (List (List ℕ) → Option Field) → ℕ → List (List ℕ) → List (List ℕ) → Option Field
next_entry key value after zero keys fields = after fields
next_entry key value after (suc n) keys [] = Some (key keys)
next_entry key value after (suc n) keys (k ∷ []) = Some (value k)
next_entry key value after (suc n) keys (k ∷ v ∷ fields) = next_entry key value after n (keys ++ k ∷ []) fields

-- the field that comes after these fields in these parts of a message; None after the last part
unfoldable pub next_part : List Part → List (List ℕ) → Option Field
next_part [] fields = None
next_part (one field ∷ parts) [] = Some field
next_part (one field ∷ parts) (f ∷ fields) = next_part parts fields
next_part (many w limit key value ∷ parts) [] = Some (number w (is_in_range 0 limit) TooMany)
next_part (many w limit key value ∷ parts) (count ∷ fields) = next_entry key value (next_part parts) (from_be_bytes w count) [] fields

-- the field that comes after these fields of a message, whose first field is the tag
unfoldable pub next : List (List ℕ) → Option Field
next [] = Some (number w8 (is_in_range 1 6) BadTag)
next (tag ∷ fields) = next_part (parts_of (from_be_bytes w8 tag)) fields

-- ---- the first fault

-- these bytes are a value of this field without a fault: they have its width, and pass its test
abbrev pub Passes : Option Field → List ℕ → Type 0
Passes None f = ⊥
Passes (Some field) f = (length f ≡ field.width) × (field.fault f ≡ None)

-- A text consists of these fields, each without a fault and the one that comes after those before it, and then of a rest. Not every such
-- list of fields can be continued to a message: for example no digest can come after one whose bytes are all 255.
pub record IsCut (text : List ℕ) (fields : List (List ℕ)) (rest : List ℕ) : Type 0 where
  pub whole : text ≡ concat fields ++ rest
  pub pass : (before following : List (List ℕ)) (f : List ℕ) → fields ≡ before ++ f ∷ following → Passes (next before) f

-- The fault of the rest, if this field comes next: the rest ends within the field, or the field fails its test. If no field comes next, it
-- is a fault that there is a rest.
abbrev pub fault_at : Option Field → List ℕ → Option WireError
fault_at None rest = if length rest == 0 then None else Some Trailing
fault_at (Some field) rest = if nat_lt (length rest) field.width then Some Short else field.fault (take field.width rest)

-- by the table a text has this fault: it consists of fields without a fault, and a rest with this fault
abbrev pub HasFault : List ℕ → WireError → Type 0
HasFault text fault = (fields : List (List ℕ)) × (rest : List ℕ) × IsCut text fields rest × (fault_at (next fields) rest ≡ Some fault)

-- by the table a text has no fault: it consists of fields without a fault, and no field comes after them
abbrev pub HasNone : List ℕ → Type 0
HasNone text = (fields : List (List ℕ)) × IsCut text fields [] × (next fields ≡ None)
