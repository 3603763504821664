-- What is read of a prefix of some bytes: the same as of all of them, unless it ends within a field.
use Rattle.std.proofs.Common.{◌≡◌, ℕ, zero, suc, ◌<◌, ◌≤◌, Bool, true, false, cond, List, [], ◌∷◌, ◌++◌, length, take, drop, Result, Ok, Err, ◌⊎◌, inl, inr, refl, sym, ap, ◌∙◌, arith}
use Rattle.std.specs.Prelude.{◌+◌, ◌&&◌, not, nat_lt, nat_le, ◌==◌, if◌then◌else◌}
use Rattle.std.specs.Int.{Width, w16, w32, w64, byte_len, from_be_bytes}
use Rattle.std.proofs.lemmas.Bool.{cases_Bool, ltb-false}
use Rattle.std.proofs.lemmas.List.{append-nil, length-append, take-append-le, drop-append-le}
use Rattle.wire.specs.declared.error.WireError.{WireError}
use Rattle.wire.specs.declared.error.WireError.TheVariants.{Short, Trailing, NotCanonical, TooMany, BadRound}
use Rattle.wire.specs.declared.message.Message.{Message}
use Rattle.wire.specs.declared.message.Message.TheVariants as message
use Rattle.wire.specs.declared.references.BatchReference.{BatchReference}
use Rattle.wire.specs.declared.references.ParentReference.{ParentReference}
use Rattle.wire.specs.declared.votes.VoteEntry.{VoteEntry}
use Rattle.wire.specs.declared.limits.TheConstants.{MAX_TRANSACTION_BYTES, MAX_TRANSACTIONS, MAX_BATCHES, MAX_PARENTS, MAX_VOTES}
use Rattle.wire.specs.declared.round.TheConstants.Round.{MAX as MAX_ROUND}
use Rattle.wire.specs.declared.round.TheConstants.Wave.{MAX as MAX_WAVE}
use Rattle.wire.specs.Batches.{has_room}
use Rattle.wire.specs.Grammar.{IsMessage}
use Rattle.wire.specs.References.{batch_follows, parent_follows, vote_follows}
use Rattle.wire.specs.Encoding.{encoding}
use Rattle.wire.specs.Reading.{◌>>=◌, Read, number_at, bytes_at, author_at, digest_at, signature_at, round_at, wave_at, count_at, more_at, batch_reference_at, batches_at}
use Rattle.wire.specs.Reading.{parent_reference_at, parents_at, vote_entry_at, votes_at, transaction_at, transactions_at, batch_at, ack_at, header_body_at, header_at, vote_at}
use Rattle.wire.specs.Reading.{certificate_at, coin_at, tagged_at, message_of}
use Rattle.wire_read.proofs.Messages.{tagged_again}

-- what was read is read again with more bytes after, and a fault that was met is met again, unless it is that the bytes end
abbrev Stays : {X : Type 0} → List ℕ → Read X → Read X → Type 0
Stays more (Ok found) later = later ≡ Ok (found.0, found.1 ++ more)
Stays more (Err fault) later = (fault ≡ Short) ⊎ (later ≡ Err fault)

-- so it is of a reader, whatever the bytes
abbrev Goes : {X : Type 0} → (List ℕ → Read X) → Type 0
Goes at = (bytes more : List ℕ) → Stays more (at bytes) (at (bytes ++ more))

-- and of one step after another
after : {X Y : Type 0} (more : List ℕ) (one other : Read X) (f : X × List ℕ → Read Y) → Stays more one other → ((p : X × List ℕ) → Stays more (f p) (f (p.0, p.1 ++ more)))
    → Stays more (one >>= f) (other >>= f)
after more (Ok p) other f stays next = rw stays (next p)
after more (Err e) other f (inl short) next = inl short
after more (Err e) other f (inr same) next = inr (ap (λ r. r >>= f) same)

-- ---- fields

-- a field of so many bytes
abbrev field : {X : Type 0} → (List ℕ → X) → ℕ → List ℕ → Read X
field value size bytes = if nat_lt (length bytes) size then Err Short else Ok (value (take size bytes), drop size bytes)

field_goes : {X : Type 0} (value : List ℕ → X) (size : ℕ) → Goes (field value size)
field_goes value size bytes more =
    elim (cases_Bool (nat_lt (length bytes) size)) [
      | inl short ↦ rw short (inl refl)
      | inr long ↦
          let enough : size ≤ length bytes = ltb-false _ _ long in
          let size_of = length-append bytes more in
          let also : nat_lt (length (bytes ++ more)) size ≡ false = grind (arith, enough, size_of) in
          rw (long, also, take-append-le size bytes more enough, drop-append-le size bytes more enough) refl
    ]

number_goes : (w : Width) → Goes (number_at w)
number_goes w = field_goes (from_be_bytes w) (byte_len w)

bytes_go : (n : ℕ) → Goes (bytes_at n)
bytes_go n = field_goes (λ bytes. bytes) n

author_goes : Goes author_at
unfolding author_at
author_goes bytes more = after more (number_at w16 bytes) (number_at w16 (bytes ++ more)) (λ n. Ok (record { 0 = n.0 }, n.1)) (number_goes w16 bytes more) (λ p. refl)

digest_goes : Goes digest_at
unfolding digest_at
digest_goes bytes more = after more (bytes_at 32 bytes) (bytes_at 32 (bytes ++ more)) (λ d. Ok (record { 0 = d.0 }, d.1)) (bytes_go 32 bytes more) (λ p. refl)

signature_goes : Goes signature_at
unfolding signature_at
signature_goes bytes more = after more (bytes_at 64 bytes) (bytes_at 64 (bytes ++ more)) (λ s. Ok (record { 0 = s.0 }, s.1)) (bytes_go 64 bytes more) (λ p. refl)

-- a test of what was read
tested : {X : Type 0} (more : List ℕ) (bad : Bool) (fault : WireError) (p : X × List ℕ) → Stays more (cond bad (Err fault) (Ok p)) (cond bad (Err fault) (Ok (p.0, p.1 ++ more)))
tested more true fault p = inr refl
tested more false fault p = refl

passed : {X : Type 0} (more : List ℕ) (good : Bool) (fault : WireError) (one other : Read X) → Stays more one other → Stays more (cond good one (Err fault)) (cond good other (Err fault))
passed more true fault one other stays = stays
passed more false fault one other stays = inr refl

round_goes : Goes round_at
unfolding round_at
round_goes bytes more =
    after more (number_at w64 bytes) (number_at w64 (bytes ++ more)) (λ n. if nat_lt MAX_ROUND n.0 then Err BadRound else Ok n) (number_goes w64 bytes more)
    (λ p. tested more (nat_lt MAX_ROUND p.0) BadRound p)

wave_goes : Goes wave_at
unfolding wave_at
wave_goes bytes more =
    after more (number_at w64 bytes) (number_at w64 (bytes ++ more)) (λ n. if nat_lt 0 n.0 && nat_le n.0 MAX_WAVE then Ok n else Err BadRound) (number_goes w64 bytes more)
    (λ p. passed more (nat_lt 0 p.0 && nat_le p.0 MAX_WAVE) BadRound (Ok p) (Ok (p.0, p.1 ++ more)) refl)

count_goes : (w : Width) (limit : ℕ) → Goes (count_at w limit)
unfolding count_at
count_goes w limit bytes more =
    after more (number_at w bytes) (number_at w (bytes ++ more)) (λ n. if nat_lt limit n.0 then Err TooMany else Ok n) (number_goes w bytes more)
    (λ p. tested more (nat_lt limit p.0) TooMany p)

-- ---- lists

more_go : {X : Type 0} (entry_at : List X → List ℕ → Read X) → ((before : List X) → Goes (entry_at before)) → (count : ℕ) (before : List X) → Goes (more_at entry_at count before)
unfolding more_at
more_go entry_at goes zero before bytes more = refl
more_go entry_at goes (suc count) before bytes more =
    after more (entry_at before bytes) (entry_at before (bytes ++ more)) (λ entry. more_at entry_at count (before ++ entry.0 ∷ []) entry.1) (goes before bytes more)
    (λ p. more_go entry_at goes count (before ++ p.0 ∷ []) p.1 more)

-- a list after its count
list_goes : {X : Type 0} (w : Width) (limit : ℕ) (entry_at : List X → List ℕ → Read X) → ((before : List X) → Goes (entry_at before))
    → Goes (λ bytes. count_at w limit bytes >>= λ count. more_at entry_at count.0 [] count.1)
list_goes w limit entry_at goes bytes more =
    after more (count_at w limit bytes) (count_at w limit (bytes ++ more)) (λ count. more_at entry_at count.0 [] count.1) (count_goes w limit bytes more)
    (λ p. more_go entry_at goes p.0 [] p.1 more)

batch_reference_goes : (before : List BatchReference) → Goes (batch_reference_at before)
unfolding batch_reference_at
batch_reference_goes before bytes more =
    after more (digest_at bytes) (digest_at (bytes ++ more))
    (λ digest. if batch_follows before digest.0 then (number_at w16 digest.1 >>= λ worker. Ok (record { digest = digest.0; worker = worker.0 }, worker.1)) else Err NotCanonical)
    (digest_goes bytes more)
    (λ p. passed more (batch_follows before p.0) NotCanonical _ _
    (after more (number_at w16 p.1) (number_at w16 (p.1 ++ more)) (λ worker. Ok (record { digest = p.0; worker = worker.0 }, worker.1)) (number_goes w16 p.1 more) (λ q. refl)))

batches_go : Goes batches_at
unfolding batches_at
batches_go = list_goes w16 MAX_BATCHES batch_reference_at batch_reference_goes

parent_reference_goes : (before : List ParentReference) → Goes (parent_reference_at before)
unfolding parent_reference_at
parent_reference_goes before bytes more =
    after more (author_at bytes) (author_at (bytes ++ more))
    (λ author. if parent_follows before author.0 then (digest_at author.1 >>= λ certificate. Ok (record { author = author.0; certificate = certificate.0 }, certificate.1)) else Err NotCanonical)
    (author_goes bytes more)
    (λ p. passed more (parent_follows before p.0) NotCanonical _ _
    (after more (digest_at p.1) (digest_at (p.1 ++ more)) (λ certificate. Ok (record { author = p.0; certificate = certificate.0 }, certificate.1)) (digest_goes p.1 more) (λ q. refl)))

parents_go : Goes parents_at
unfolding parents_at
parents_go = list_goes w16 MAX_PARENTS parent_reference_at parent_reference_goes

vote_entry_goes : (before : List VoteEntry) → Goes (vote_entry_at before)
unfolding vote_entry_at
vote_entry_goes before bytes more =
    after more (author_at bytes) (author_at (bytes ++ more))
    (λ voter. if vote_follows before voter.0 then (signature_at voter.1 >>= λ signature. Ok (record { voter = voter.0; signature = signature.0 }, signature.1)) else Err NotCanonical)
    (author_goes bytes more)
    (λ p. passed more (vote_follows before p.0) NotCanonical _ _
    (after more (signature_at p.1) (signature_at (p.1 ++ more)) (λ signature. Ok (record { voter = p.0; signature = signature.0 }, signature.1)) (signature_goes p.1 more) (λ q. refl)))

votes_go : Goes votes_at
unfolding votes_at
votes_go = list_goes w16 MAX_VOTES vote_entry_at vote_entry_goes

transaction_goes : (before : List (List ℕ)) → Goes (transaction_at before)
unfolding transaction_at
transaction_goes before bytes more =
    after more (number_at w32 bytes) (number_at w32 (bytes ++ more)) (λ len. if not (nat_lt MAX_TRANSACTION_BYTES len.0) && has_room before len.0 then bytes_at len.0 len.1 else Err TooMany)
    (number_goes w32 bytes more)
    (λ p. passed more (not (nat_lt MAX_TRANSACTION_BYTES p.0) && has_room before p.0) TooMany (bytes_at p.0 p.1) (bytes_at p.0 (p.1 ++ more)) (bytes_go p.0 p.1 more))

transactions_go : Goes transactions_at
unfolding transactions_at
transactions_go = list_goes w32 MAX_TRANSACTIONS transaction_at transaction_goes

-- ---- messages

batch_goes : Goes batch_at
unfolding batch_at
batch_goes bytes more =
    after more (author_at bytes) (author_at (bytes ++ more)) _ (author_goes bytes more)
    (λ author. after more (number_at w16 author.1) (number_at w16 (author.1 ++ more)) _ (number_goes w16 author.1 more)
    (λ worker. after more (transactions_at worker.1) (transactions_at (worker.1 ++ more))
    (λ transactions. Ok (record { author = author.0; worker = worker.0; transactions = transactions.0 }, transactions.1)) (transactions_go worker.1 more)
    (λ p. refl)))

ack_goes : Goes ack_at
unfolding ack_at
ack_goes bytes more =
    after more (author_at bytes) (author_at (bytes ++ more)) _ (author_goes bytes more)
    (λ author. after more (digest_at author.1) (digest_at (author.1 ++ more)) (λ batch. Ok (record { author = author.0; batch = batch.0 }, batch.1)) (digest_goes author.1 more) (λ p. refl))

header_body_goes : Goes header_body_at
unfolding header_body_at
header_body_goes bytes more =
    after more (author_at bytes) (author_at (bytes ++ more)) _ (author_goes bytes more)
    (λ author. after more (round_at author.1) (round_at (author.1 ++ more)) _ (round_goes author.1 more)
    (λ round. after more (batches_at round.1) (batches_at (round.1 ++ more)) _ (batches_go round.1 more)
    (λ batches. after more (parents_at batches.1) (parents_at (batches.1 ++ more))
    (λ parents. Ok (record { author = author.0; round = round.0; batches = batches.0; parents = parents.0 }, parents.1)) (parents_go batches.1 more) (λ p. refl))))

header_goes : Goes header_at
unfolding header_at
header_goes bytes more =
    after more (header_body_at bytes) (header_body_at (bytes ++ more)) _ (header_body_goes bytes more)
    (λ body. after more (signature_at body.1) (signature_at (body.1 ++ more)) (λ signature. Ok (record { body = body.0; signature = signature.0 }, signature.1)) (signature_goes body.1 more)
    (λ p. refl))

vote_goes : Goes vote_at
unfolding vote_at
vote_goes bytes more =
    after more (digest_at bytes) (digest_at (bytes ++ more)) _ (digest_goes bytes more)
    (λ header. after more (round_at header.1) (round_at (header.1 ++ more)) _ (round_goes header.1 more)
    (λ round. after more (author_at round.1) (author_at (round.1 ++ more)) _ (author_goes round.1 more)
    (λ author. after more (author_at author.1) (author_at (author.1 ++ more)) _ (author_goes author.1 more)
    (λ voter. after more (signature_at voter.1) (signature_at (voter.1 ++ more))
    (λ signature. Ok (record { header = header.0; round = round.0; author = author.0; voter = voter.0; signature = signature.0 }, signature.1)) (signature_goes voter.1 more) (λ p. refl)))))

certificate_goes : Goes certificate_at
unfolding certificate_at
certificate_goes bytes more =
    after more (header_body_at bytes) (header_body_at (bytes ++ more)) _ (header_body_goes bytes more)
    (λ header. after more (votes_at header.1) (votes_at (header.1 ++ more)) (λ votes. Ok (record { header = header.0; votes = votes.0 }, votes.1)) (votes_go header.1 more) (λ p. refl))

coin_goes : Goes coin_at
unfolding coin_at
coin_goes bytes more =
    after more (wave_at bytes) (wave_at (bytes ++ more)) _ (wave_goes bytes more)
    (λ wave. after more (number_at w64 wave.1) (number_at w64 (wave.1 ++ more)) (λ value. Ok (record { wave = wave.0; value = value.0 }, value.1)) (number_goes w64 wave.1 more) (λ p. refl))

-- what one of two readers reads, by a test
either : {X : Type 0} (more : List ℕ) (here : Bool) (one one' other other' : Read X) → Stays more one one' → Stays more other other' → Stays more (cond here one other) (cond here one' other')
either more true one one' other other' stays stay = stays
either more false one one' other other' stays stay = stay

wrapped : {X : Type 0} (at : List ℕ → Read X) (wrap : X → Message) → Goes at → Goes (λ bytes. at bytes >>= λ x. Ok (wrap x.0, x.1))
wrapped at wrap goes bytes more = after more (at bytes) (at (bytes ++ more)) (λ x. Ok (wrap x.0, x.1)) (goes bytes more) (λ p. refl)

tagged_goes : Goes tagged_at
unfolding tagged_at
tagged_goes [] more = inl refl
tagged_goes (tag ∷ bytes) more =
    either more (tag == 1) _ _ _ _ (wrapped batch_at (λ b. message.Batch b) batch_goes bytes more)
    (either more (tag == 2) _ _ _ _ (wrapped ack_at (λ a. message.BatchAck a) ack_goes bytes more)
    (either more (tag == 3) _ _ _ _ (wrapped header_at (λ h. message.Header h) header_goes bytes more)
    (either more (tag == 4) _ _ _ _ (wrapped vote_at (λ v. message.Vote v) vote_goes bytes more)
    (either more (tag == 5) _ _ _ _ (wrapped certificate_at (λ c. message.Certificate c) certificate_goes bytes more)
    (either more (tag == 6) _ _ _ _ (wrapped coin_at (λ c. message.Coin c) coin_goes bytes more) (inr refl))))))

-- ---- the laws

-- how many bytes are left after what was read
abbrev left_of : Read Message → ℕ
left_of (Ok p) = length p.1
left_of (Err e) = 0

abbrev refused : WireError → Result Message WireError
refused e = Err e

same_Err : (one other : WireError) → refused one ≡ refused other → one ≡ other
same_Err one other e = cc

abbrev whole : Message × List ℕ → Result Message WireError
whole found = if length found.1 == 0 then Ok found.0 else Err Trailing

short_by : (m : Message) (bytes more : List ℕ) (one other : Read Message) → Stays more one other → other ≡ Ok (m, []) → 0 < length more → (one >>= whole) ≡ Err Short
short_by m bytes more (Ok p) other stays is some =
    let none : length (p.1 ++ more) ≡ 0 = ap (λ (r : Read Message). left_of r) (sym stays ∙ is) in
    let both = length-append p.1 more in
    absurd (omega (arith, some, none, both))
short_by m bytes more (Err e) other (inl short) is some = ap (λ f. Err f) short
short_by m bytes more (Err e) other (inr same) is some = let bad = sym same ∙ is in absurd cc

-- each proper prefix of a spelling ends within a field
pub beginnings_are_short : (m : Message) (bytes more : List ℕ) → IsMessage m → encoding m ≡ bytes ++ more → 0 < length more → message_of bytes ≡ Err Short
unfolding message_of
beginnings_are_short m bytes more fits parts some =
    let all : tagged_at (bytes ++ more) ≡ Ok (m, []) = ap tagged_at (sym parts ∙ sym (append-nil (encoding m))) ∙ tagged_again m [] fits in
    short_by m bytes more (tagged_at bytes) (tagged_at (bytes ++ more)) (tagged_goes bytes more) all some

still_some : (one other both : ℕ) → both ≡ one + other → (one == 0) ≡ false → (both == 0) ≡ false
still_some one other both sum some = grind (arith, sum, some)

stays_by : (more : List ℕ) (one other : Read Message) (fault : WireError) → Stays more one other → (one >>= whole) ≡ Err fault → (fault ≡ Short → ⊥) → (other >>= whole) ≡ Err fault
stays_by more (Ok p) other fault stays is not_short =
    elim (cases_Bool (length p.1 == 0)) [
      | inl none ↦ let bad = rw none at is in absurd cc
      | inr some ↦
          let is' = rw some at is in
          let both = length-append p.1 more in
          let left : (length (p.1 ++ more) == 0) ≡ false = still_some (length p.1) (length more) (length (p.1 ++ more)) both some in
          ap (λ r. r >>= whole) stays ∙ rw left is'
    ]
stays_by more (Err e) other fault (inl short) is not_short = absurd (not_short (same_Err fault e (sym is) ∙ short))
stays_by more (Err e) other fault (inr same) is not_short = ap (λ r. r >>= whole) same ∙ is

-- any other fault stays, whatever follows
pub faults_stay : (bytes more : List ℕ) (fault : WireError) → message_of bytes ≡ Err fault → (fault ≡ Short → ⊥) → message_of (bytes ++ more) ≡ Err fault
unfolding message_of
faults_stay bytes more fault is not_short = stays_by more (tagged_at bytes) (tagged_at (bytes ++ more)) fault (tagged_goes bytes more) is not_short
