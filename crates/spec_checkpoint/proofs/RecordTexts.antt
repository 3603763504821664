-- What each kind of record has after its kind: what is read was written so, and what is written so is read.
use Rattle.std.proofs.Common.{◌≡◌, ◌≢◌, ℕ, ◌^◌, ◌<◌, ◌≤◌, Bool, true, false, List, [], ◌∷◌, ◌++◌, length, Ok, Err, refl, sym, ap, subst, ◌∙◌, append_assoc, ne_eqb, arith, inl, inr}
use Rattle.std.specs.Prelude.{◌==◌, ◌&&◌, not, nat_lt, All, IsTrue, if◌then◌else◌}
use Rattle.std.specs.List.{flat_map, list_any}
use Rattle.std.specs.Int.{w16, w32, w64, to_be_bytes}
use Rattle.std.specs.Cmp.Derive.{both_true}
use Rattle.std.proofs.lemmas.Bool.{eqb-true, ltb-true, lt-ltb, cases_Bool, not-true}
use Rattle.std.proofs.lemmas.List.Elements.{All-nil, All-cons, All-head, All-tail, All-weaker, All-from_recursion, recursion_from_All}
use Rattle.wire.proofs.RisingLemmas.{both-are}
use Rattle.wire.specs.Batches.{batch_body}
use Rattle.wire.specs.Fields.{IsNumber, IsDigest}
use Rattle.wire.specs.Reading.{◌>>=◌, Read, number_at, digest_at, round_at, batch_at, header_at, votes_at, certificate_at}
use Rattle.wire.specs.Rising.{rises, follows}
use Rattle.wire.specs.Encoding.{header_bytes, votes_bytes, certificate_bytes}
use Rattle.wire.specs.declared.error.WireError.TheVariants.{NotCanonical}
use Rattle.wire_read.proofs.BatchBodies.{contents_take, contents_again}
use Rattle.wire_read.proofs.EntryLists.{IsEntry, counted_take, counted_again}
use Rattle.wire_read.proofs.Fields.{wide16, wide32, wide64, number_takes, number_again, digest_takes, digest_again, round_takes, round_again}
use Rattle.wire_read.proofs.Messages.{IsKind, header_kind, certificate_kind}
use Rattle.wire_read.proofs.RisingLists.{rising, votes_take, votes_again}
use Rattle.wire_read.proofs.Steps.{bind_ok, held_ok, ok_is, IsBytes, IsBytes-rest, Takes, Takes-then}
use Rattle.spec_model.specs.Nodes.{Node}
use Rattle.spec_model.specs.Words.{Certificate, Digest, VoteEntry}
use Rattle.spec_checkpoint.specs.Data.{KeptBatch, KeptVote, KeptHeader, IsKeptBatch, IsKeptVote, IsKeptHeader, IsKeptCertificate, place_before}
use Rattle.spec_checkpoint.specs.Reading.{given, counted_at, digests_at, coins_at, mark_at, member_at, kept_batch_at, kept_vote_at, kept_header_at, kept_certificate_at, vote_may_follow, header_may_follow, certificate_may_follow, are_of_others}
use Rattle.spec_checkpoint.specs.Records.{ORDER_PIECE, COINS_PIECE}

-- a test that was passed
given_ok : {X : Type 0} (passes : Bool) (read x : X × List ℕ) → given passes read ≡ Ok x → (passes ≡ true) × (read ≡ x)
given_ok passes read x e = let held = held_ok passes NotCanonical (Ok read) x e in (held.0, ok_is read x held.1)

not_not : (b : Bool) → b ≡ false → not b ≡ true
not_not b is = rw is refl

-- ---- pieces

-- a piece of the order, or of the coins: it isn't empty, has at most so many elements, and each fits
pub record IsPiece {X : Type 0} (size : ℕ) (Fits : X → Type 0) (piece : List X) : Type 0 where
  pub some : 0 < length piece
  pub few : length piece ≤ size
  pub each : All Fits piece

abbrev pub order_text : List Digest → List ℕ
order_text digests = to_be_bytes w32 (length digests) ++ flat_map (λ digest. digest.0) digests

abbrev pub coins_text : List ℕ → List ℕ
coins_text coins = to_be_bytes w32 (length coins) ++ flat_map (to_be_bytes w64) coins

-- of no list anything is asked
abbrev Any : {X : Type 0} → List X → Type 0
Any list = Unit {0}

digest_is : IsEntry (λ before. digest_at) (λ digest. digest.0) IsDigest Any
digest_is = record {
  takes = λ before bytes x fits sound e. (let t = digest_takes bytes x fits e in (t.0, t.1, tt));
  again = λ before x rest fits sound. digest_again x rest fits;
  begins = λ front rest sound. tt;
}

coin_is : IsEntry (λ before. number_at w64) (to_be_bytes w64) (λ coin. coin < 2 ^ 64) Any
coin_is = record {
  takes = λ before bytes x fits sound e. (let t = number_takes w64 (2 ^ 64) wide64 bytes x.0 x.1 fits e in (t.0, t.1, tt));
  again = λ before x rest fits sound. number_again w64 (2 ^ 64) wide64 x rest fits;
  begins = λ front rest sound. tt;
}

-- so many that the test for none fails
some_is : (count : ℕ) → not (count == 0) ≡ true → 0 < count
some_is count is = grind (arith, is)

is_some : (count : ℕ) → 0 < count → not (count == 0) ≡ true
is_some count some = not_not (count == 0) (ne_eqb count 0 (λ e. omega (arith, some, e)))

piece_takes : {X : Type 0} (size : ℕ) (entry_at : List X → List ℕ → Read X) (text : X → List ℕ) (Fits : X → Type 0) → IsEntry entry_at text Fits Any
    → (bytes : List ℕ) (x : List X × List ℕ) → IsBytes bytes → (counted_at w32 size entry_at bytes >>= λ read. given (not (length read.0 == 0)) read) ≡ Ok x
    → Takes bytes (to_be_bytes w32 (length x.0) ++ flat_map text x.0) x.1 × IsPiece size Fits x.0
piece_takes {X} size entry_at text Fits is bytes x fits e =
    let a = bind_ok (counted_at w32 size entry_at bytes) (λ read. given (not (length read.0 == 0)) read) x e in
    let g = given_ok (not (length a.0.0 == 0)) a.0 x a.2 in
    let r = counted_take w32 (2 ^ 32) wide32 size entry_at text Fits Any is bytes a.0 fits tt a.1 in
    subst (λ (y : List X × List ℕ). Takes bytes (to_be_bytes w32 (length y.0) ++ flat_map text y.0) y.1 × IsPiece size Fits y.0) g.1
    (r.takes, record { some = some_is (length a.0.0) g.0; few = r.few; each = All-from_recursion Fits a.0.0 r.fits })

piece_again : {X : Type 0} (size : ℕ) (entry_at : List X → List ℕ → Read X) (text : X → List ℕ) (Fits : X → Type 0) → IsEntry entry_at text Fits Any → size < 2 ^ 32
    → (piece : List X) (rest : List ℕ) → IsPiece size Fits piece
    → (counted_at w32 size entry_at ((to_be_bytes w32 (length piece) ++ flat_map text piece) ++ rest) >>= λ read. given (not (length read.0 == 0)) read) ≡ Ok (piece, rest)
piece_again size entry_at text Fits is small piece rest fits =
    let all = counted_again w32 (2 ^ 32) wide32 size entry_at text Fits Any is piece rest small fits.few (recursion_from_All Fits piece fits.each) tt in
    let some = is_some (length piece) fits.some in
    rw (all, some) refl

pub order_kind : IsKind digests_at order_text (IsPiece ORDER_PIECE IsDigest)
unfolding digests_at
order_kind = record { takes = takes; again = again }
  where
    takes : (bytes : List ℕ) (x : List Digest × List ℕ) → IsBytes bytes → digests_at bytes ≡ Ok x → Takes bytes (order_text x.0) x.1 × IsPiece ORDER_PIECE IsDigest x.0
    takes bytes x fits e = piece_takes ORDER_PIECE (λ before. digest_at) (λ digest. digest.0) IsDigest digest_is bytes x fits e

    again : (piece : List Digest) (rest : List ℕ) → IsPiece ORDER_PIECE IsDigest piece → digests_at (order_text piece ++ rest) ≡ Ok (piece, rest)
    again piece rest fits = piece_again ORDER_PIECE (λ before. digest_at) (λ digest. digest.0) IsDigest digest_is (omega arith) piece rest fits

pub coins_kind : IsKind coins_at coins_text (IsPiece COINS_PIECE (λ coin. coin < 2 ^ 64))
unfolding coins_at
coins_kind = record { takes = takes; again = again }
  where
    takes : (bytes : List ℕ) (x : List ℕ × List ℕ) → IsBytes bytes → coins_at bytes ≡ Ok x → Takes bytes (coins_text x.0) x.1 × IsPiece COINS_PIECE (λ coin. coin < 2 ^ 64) x.0
    takes bytes x fits e = piece_takes COINS_PIECE (λ before. number_at w64) (to_be_bytes w64) (λ coin. coin < 2 ^ 64) coin_is bytes x fits e

    again : (piece : List ℕ) (rest : List ℕ) → IsPiece COINS_PIECE (λ coin. coin < 2 ^ 64) piece → coins_at (coins_text piece ++ rest) ≡ Ok (piece, rest)
    again piece rest fits = piece_again COINS_PIECE (λ before. number_at w64) (to_be_bytes w64) (λ coin. coin < 2 ^ 64) coin_is (omega arith) piece rest fits

-- ---- batches

mark_takes : (bytes : List ℕ) (x : Bool × List ℕ) → IsBytes bytes → mark_at bytes ≡ Ok x → Takes bytes ((if x.0 then 1 else 0) ∷ []) x.1
unfolding mark_at
mark_takes [] x fits e = absurd cc
mark_takes (byte ∷ bytes) x fits e = by (byte == 1) (byte == 0) (eqb-true byte 1) (eqb-true byte 0) e
  where
    taken : (mark : Bool) → byte ≡ (if mark then 1 else 0) → ◌≡◌ {A = Bool × List ℕ} (mark, bytes) x → Takes (byte ∷ bytes) ((if x.0 then 1 else 0) ∷ []) x.1
    taken mark is same =
        subst (λ (y : Bool × List ℕ). Takes (byte ∷ bytes) ((if y.0 then 1 else 0) ∷ []) y.1) {x = (mark, bytes)} same
        (record { parts = ap (λ (b : ℕ). b ∷ bytes) is; rest_fits = IsBytes-rest byte bytes fits })

    by : (one none : Bool) → (one ≡ true → byte ≡ 1) → (none ≡ true → byte ≡ 0)
        → (if one then Ok (true, bytes) else if none then Ok (false, bytes) else Err NotCanonical) ≡ Ok x → Takes (byte ∷ bytes) ((if x.0 then 1 else 0) ∷ []) x.1
    by true none is-one is-none so = taken true (is-one refl) (ok_is (true, bytes) x so)
    by false true is-one is-none so = taken false (is-none refl) (ok_is (false, bytes) x so)
    by false false is-one is-none so = absurd cc

mark_again : (mark : Bool) (rest : List ℕ) → mark_at ((if mark then 1 else 0) ∷ rest) ≡ Ok (mark, rest)
unfolding mark_at
mark_again true rest = refl
mark_again false rest = refl

-- a member's number that isn't the node's own
record IsOther (node : Node) (member : ℕ) : Type 0 where
  pub number : IsNumber member
  pub other : member ≢ node.own.0

member_is : (node : Node) → IsEntry (member_at node) (to_be_bytes w16) (IsOther node) (λ l. IsTrue (rises (λ one other. nat_lt one other) l))
unfolding member_at
member_is node = rising (member_at node) (to_be_bytes w16) (IsOther node) (λ one other. nat_lt one other) takes again
  where
    takes : (before : List ℕ) (bytes : List ℕ) (x : ℕ × List ℕ) → IsBytes bytes → member_at node before bytes ≡ Ok x
        → Takes bytes (to_be_bytes w16 x.0) x.1 × IsOther node x.0 × IsTrue (follows (λ one. nat_lt one x.0) before)
    takes before bytes x fits e =
        let a = bind_ok (number_at w16 bytes) (λ member. given (follows (λ one. nat_lt one member.0) before && not (member.0 == node.own.0)) member) x e in
        let g = given_ok (follows (λ one. nat_lt one a.0.0) before && not (a.0.0 == node.own.0)) a.0 x a.2 in
        let both = both-are (follows (λ one. nat_lt one a.0.0) before) (not (a.0.0 == node.own.0)) g.0 in
        let t = number_takes w16 (2 ^ 16) wide16 bytes a.0.0 a.0.1 fits a.1 in
        let other : a.0.0 ≢ node.own.0 = λ same. (let own : (a.0.0 == node.own.0) ≡ true = grind (arith, same) in let bad = rw own at both.1 in absurd cc) in
        subst (λ (y : ℕ × List ℕ). Takes bytes (to_be_bytes w16 y.0) y.1 × IsOther node y.0 × IsTrue (follows (λ one. nat_lt one y.0) before)) g.1
        (t.0, record { number = t.1; other = other }, both.0)

    again : (before : List ℕ) (x : ℕ) (rest : List ℕ) → IsOther node x → IsTrue (follows (λ one. nat_lt one x) before) → member_at node before (to_be_bytes w16 x ++ rest) ≡ Ok (x, rest)
    again before x rest fits may =
        let other = not_not (x == node.own.0) (ne_eqb x node.own.0 fits.other) in
        let both = both_true may other in
        rw (number_again w16 (2 ^ 16) wide16 x rest fits.number, both) refl

-- what stands between a batch's mark and its body
abbrev members_text : List ℕ → List ℕ
members_text members = to_be_bytes w16 (length members) ++ flat_map (to_be_bytes w16) members

abbrev pub batch_text : KeptBatch → List ℕ
batch_text kept = (if kept.named then 1 else 0) ∷ (members_text kept.members ++ batch_body kept.batch)

pub batch_kind : (node : Node) → IsKind (kept_batch_at node) batch_text (IsKeptBatch node)
unfolding kept_batch_at
batch_kind node = record { takes = takes; again = again }
  where
    rise : List ℕ → Type 0
    rise l = IsTrue (rises (λ one other. nat_lt one other) l)

    takes : (bytes : List ℕ) (x : KeptBatch × List ℕ) → IsBytes bytes → kept_batch_at node bytes ≡ Ok x → Takes bytes (batch_text x.0) x.1 × IsKeptBatch node x.0
    takes bytes x fits e =
        let a = bind_ok (mark_at bytes) (λ named. counted_at w16 65535 (member_at node) named.1 >>= λ members. batch_at members.1
        >>= λ batch. Ok (record { named = named.0; members = members.0; batch = batch.0 }, batch.1)) x e in
        let b = bind_ok (counted_at w16 65535 (member_at node) a.0.1) (λ members. batch_at members.1
        >>= λ batch. Ok (record { named = a.0.0; members = members.0; batch = batch.0 }, batch.1)) x a.2 in
        let c = bind_ok (batch_at b.0.1) (λ batch. Ok (record { named = a.0.0; members = b.0.0; batch = batch.0 }, batch.1)) x b.2 in
        let t0 = mark_takes bytes a.0 fits a.1 in
        let r = counted_take w16 (2 ^ 16) wide16 65535 (member_at node) (to_be_bytes w16) (IsOther node) (λ l. IsTrue (rises (λ one other. nat_lt one other) l)) (member_is node)
        a.0.1 b.0 t0.rest_fits refl b.1 in
        let t2 = contents_take b.0.1 c.0 r.takes.rest_fits c.1 in
        let from1 = Takes-then a.0.1 (members_text b.0.0) b.0.1 (batch_body c.0.0) c.0.1 r.takes t2.0 in
        let from0 = Takes-then bytes ((if a.0.0 then 1 else 0) ∷ []) a.0.1 (members_text b.0.0 ++ batch_body c.0.0) c.0.1 t0 from1 in
        let made : KeptBatch × List ℕ = (record { named = a.0.0; members = b.0.0; batch = c.0.0 }, c.0.1) in
        let each = All-from_recursion (IsOther node) b.0.0 r.fits in
        subst (λ (y : KeptBatch × List ℕ). Takes bytes (batch_text y.0) y.1 × IsKeptBatch node y.0) {x = made} (ok_is made x c.2) (
          from0,
          record {
            few = omega (arith, r.few);
            each = All-weaker (IsOther node) IsNumber (λ m is. is.number) b.0.0 each;
            rise = r.sound;
            others = All-weaker (IsOther node) (λ m. m ≢ node.own.0) (λ m is. is.other) b.0.0 each;
            batch = t2.1;
          },
        )

    together : (members : List ℕ) → All IsNumber members → All (λ m. m ≢ node.own.0) members → All (IsOther node) members
    together [] numbers others = All-nil (IsOther node)
    together (m ∷ members) numbers others =
        All-cons (IsOther node) m members (record { number = All-head IsNumber m members numbers; other = All-head (λ k. k ≢ node.own.0) m members others })
        (together members (All-tail IsNumber m members numbers) (All-tail (λ k. k ≢ node.own.0) m members others))

    again : (kept : KeptBatch) (rest : List ℕ) → IsKeptBatch node kept → kept_batch_at node (batch_text kept ++ rest) ≡ Ok (kept, rest)
    again kept rest is =
        let text = members_text kept.members in
        let regrouped : (text ++ batch_body kept.batch) ++ rest ≡ text ++ (batch_body kept.batch ++ rest) = append_assoc text (batch_body kept.batch) rest in
        let all = counted_again w16 (2 ^ 16) wide16 65535 (member_at node) (to_be_bytes w16) (IsOther node) (λ l. IsTrue (rises (λ one other. nat_lt one other) l)) (member_is node) kept.members
        (batch_body kept.batch ++ rest) (omega arith) (omega (arith, is.few)) (recursion_from_All (IsOther node) kept.members (together kept.members is.each is.others)) is.rise in
        rw (mark_again kept.named ((text ++ batch_body kept.batch) ++ rest), regrouped, all, contents_again kept.batch rest is.batch) refl

-- ---- votes

abbrev pub vote_text : KeptVote → List ℕ
vote_text vote = to_be_bytes w16 vote.author ++ to_be_bytes w64 vote.round ++ vote.header.0

abbrev pub vote_before : KeptVote → KeptVote → Bool
vote_before one other = place_before one.round one.author other.round other.author

pub vote_is : IsEntry kept_vote_at vote_text IsKeptVote (λ l. IsTrue (rises vote_before l))
unfolding kept_vote_at
vote_is = rising kept_vote_at vote_text IsKeptVote vote_before takes again
  where
    takes : (before : List KeptVote) (bytes : List ℕ) (x : KeptVote × List ℕ) → IsBytes bytes → kept_vote_at before bytes ≡ Ok x
        → Takes bytes (vote_text x.0) x.1 × IsKeptVote x.0 × IsTrue (follows (λ one. vote_before one x.0) before)
    takes before bytes x fits e =
        let a = bind_ok (number_at w16 bytes) (λ author. round_at author.1 >>= λ round. digest_at round.1
        >>= λ header. given (vote_may_follow before round.0 author.0) (record { author = author.0; round = round.0; header = header.0 }, header.1)) x e in
        let b = bind_ok (round_at a.0.1) (λ round. digest_at round.1
        >>= λ header. given (vote_may_follow before round.0 a.0.0) (record { author = a.0.0; round = round.0; header = header.0 }, header.1)) x a.2 in
        let c = bind_ok (digest_at b.0.1) (λ header. given (vote_may_follow before b.0.0 a.0.0) (record { author = a.0.0; round = b.0.0; header = header.0 }, header.1)) x b.2 in
        let made : KeptVote × List ℕ = (record { author = a.0.0; round = b.0.0; header = c.0.0 }, c.0.1) in
        let g = given_ok (vote_may_follow before b.0.0 a.0.0) made x c.2 in
        let t0 = number_takes w16 (2 ^ 16) wide16 bytes a.0.0 a.0.1 fits a.1 in
        let t1 = round_takes a.0.1 b.0 t0.0.rest_fits b.1 in
        let t2 = digest_takes b.0.1 c.0 t1.0.rest_fits c.1 in
        let from0 = Takes-then bytes (to_be_bytes w16 a.0.0) a.0.1 (to_be_bytes w64 b.0.0) b.0.1 t0.0 t1.0 in
        let all = Takes-then bytes (to_be_bytes w16 a.0.0 ++ to_be_bytes w64 b.0.0) b.0.1 c.0.0.0 c.0.1 from0 t2.0 in
        subst (λ (y : KeptVote × List ℕ). Takes bytes (vote_text y.0) y.1 × IsKeptVote y.0 × IsTrue (follows (λ one. vote_before one y.0) before)) {x = made} g.1
        (all, record { author = t0.1; round = t1.1; header = t2.1 }, g.0)

    again : (before : List KeptVote) (vote : KeptVote) (rest : List ℕ) → IsKeptVote vote → IsTrue (follows (λ one. vote_before one vote) before)
        → kept_vote_at before (vote_text vote ++ rest) ≡ Ok (vote, rest)
    again before vote rest is may =
        let regrouped : vote_text vote ++ rest ≡ to_be_bytes w16 vote.author ++ (to_be_bytes w64 vote.round ++ (vote.header.0 ++ rest)) = simp append_assoc in
        ap (kept_vote_at before) regrouped
        ∙ rw (
          number_again w16 (2 ^ 16) wide16 vote.author (to_be_bytes w64 vote.round ++ (vote.header.0 ++ rest)) is.author,
          round_again vote.round (vote.header.0 ++ rest) is.round,
          digest_again vote.header rest is.header,
          may,
        ) refl

-- ---- own headers

abbrev pub header_text : KeptHeader → List ℕ
header_text kept = header_bytes kept.header ++ votes_bytes kept.votes

abbrev pub header_before : KeptHeader → KeptHeader → Bool
header_before one other = nat_lt one.header.body.round other.header.body.round

-- where no entry is the node's own, each is another's
others_of : (own : ℕ) (votes : List VoteEntry) → list_any (λ entry. entry.voter.0 == own) votes ≡ false → All (λ entry. entry.voter.0 ≢ own) votes
others_of own [] none = All-nil (λ entry. entry.voter.0 ≢ own)
others_of own (entry ∷ votes) none = elim (cases_Bool (entry.voter.0 == own)) [
  | inl same ↦ absurd (let bad : true ≡ false = sym (rw same refl) ∙ none in cc)
  | inr other ↦
      let rest : list_any (λ e. e.voter.0 == own) votes ≡ false = sym (rw other refl) ∙ none in
      All-cons (λ e. e.voter.0 ≢ own) entry votes (λ it. (let own_is : (entry.voter.0 == own) ≡ true = grind (arith, it) in let bad : true ≡ false = sym own_is ∙ other in cc))
      (others_of own votes rest)
]

none_of : (own : ℕ) (votes : List VoteEntry) → All (λ entry. entry.voter.0 ≢ own) votes → list_any (λ entry. entry.voter.0 == own) votes ≡ false
none_of own [] others = refl
none_of own (entry ∷ votes) others =
    rw (ne_eqb entry.voter.0 own (All-head (λ e. e.voter.0 ≢ own) entry votes others)) (none_of own votes (All-tail (λ e. e.voter.0 ≢ own) entry votes others))

pub header_is : (node : Node) → IsEntry (kept_header_at node) header_text (IsKeptHeader node) (λ l. IsTrue (rises header_before l))
unfolding kept_header_at
header_is node = rising (kept_header_at node) header_text (IsKeptHeader node) header_before takes again
  where
    takes : (before : List KeptHeader) (bytes : List ℕ) (x : KeptHeader × List ℕ) → IsBytes bytes → kept_header_at node before bytes ≡ Ok x
        → Takes bytes (header_text x.0) x.1 × IsKeptHeader node x.0 × IsTrue (follows (λ one. header_before one x.0) before)
    takes before bytes x fits e =
        let a = bind_ok (header_at bytes) (λ header. votes_at header.1 >>= λ votes.
        given (header_may_follow before header.0.body.round && are_of_others node votes.0) (record { header = header.0; votes = votes.0 }, votes.1)) x e in
        let b = bind_ok (votes_at a.0.1) (λ votes.
        given (header_may_follow before a.0.0.body.round && are_of_others node votes.0) (record { header = a.0.0; votes = votes.0 }, votes.1)) x a.2 in
        let made : KeptHeader × List ℕ = (record { header = a.0.0; votes = b.0.0 }, b.0.1) in
        let g = given_ok (header_may_follow before a.0.0.body.round && are_of_others node b.0.0) made x b.2 in
        let both = both-are (header_may_follow before a.0.0.body.round) (are_of_others node b.0.0) g.0 in
        let t0 = header_kind.takes bytes a.0 fits a.1 in
        let t1 = votes_take a.0.1 b.0 t0.0.rest_fits b.1 in
        let all = Takes-then bytes (header_bytes a.0.0) a.0.1 (votes_bytes b.0.0) b.0.1 t0.0 t1.0 in
        subst (λ (y : KeptHeader × List ℕ). Takes bytes (header_text y.0) y.1 × IsKeptHeader node y.0 × IsTrue (follows (λ one. header_before one y.0) before)) {x = made} g.1
        (all, record { header = t0.1; votes = t1.1; others = others_of node.own.0 b.0.0 (not-true _ both.1) }, both.0)

    again : (before : List KeptHeader) (kept : KeptHeader) (rest : List ℕ) → IsKeptHeader node kept → IsTrue (follows (λ one. header_before one kept) before)
        → kept_header_at node before (header_text kept ++ rest) ≡ Ok (kept, rest)
    again before kept rest is may =
        let regrouped : header_text kept ++ rest ≡ header_bytes kept.header ++ (votes_bytes kept.votes ++ rest) = append_assoc (header_bytes kept.header) (votes_bytes kept.votes) rest in
        let both = both_true may (not_not (list_any (λ entry. entry.voter.0 == node.own.0) kept.votes) (none_of node.own.0 kept.votes is.others)) in
        ap (kept_header_at node before) regrouped
        ∙ rw (header_kind.again kept.header (votes_bytes kept.votes ++ rest) is.header, votes_again kept.votes rest is.votes, both) refl

-- ---- certificates

abbrev pub certificate_before : Certificate → Certificate → Bool
certificate_before one other = place_before one.header.round one.header.author.0 other.header.round other.header.author.0

pub certificate_is : IsEntry kept_certificate_at certificate_bytes IsKeptCertificate (λ l. IsTrue (rises certificate_before l))
unfolding kept_certificate_at
certificate_is = rising kept_certificate_at certificate_bytes IsKeptCertificate certificate_before takes again
  where
    takes : (before : List Certificate) (bytes : List ℕ) (x : Certificate × List ℕ) → IsBytes bytes → kept_certificate_at before bytes ≡ Ok x
        → Takes bytes (certificate_bytes x.0) x.1 × IsKeptCertificate x.0 × IsTrue (follows (λ one. certificate_before one x.0) before)
    takes before bytes x fits e =
        let a = bind_ok (certificate_at bytes) (λ read. given (certificate_may_follow before read.0.header && nat_lt 0 read.0.header.round) read) x e in
        let g = given_ok (certificate_may_follow before a.0.0.header && nat_lt 0 a.0.0.header.round) a.0 x a.2 in
        let both = both-are (certificate_may_follow before a.0.0.header) (nat_lt 0 a.0.0.header.round) g.0 in
        let t = certificate_kind.takes bytes a.0 fits a.1 in
        subst (λ (y : Certificate × List ℕ). Takes bytes (certificate_bytes y.0) y.1 × IsKeptCertificate y.0 × IsTrue (follows (λ one. certificate_before one y.0) before)) g.1
        (t.0, record { certificate = t.1; above = ltb-true 0 a.0.0.header.round both.1 }, both.0)

    again : (before : List Certificate) (c : Certificate) (rest : List ℕ) → IsKeptCertificate c → IsTrue (follows (λ one. certificate_before one c) before)
        → kept_certificate_at before (certificate_bytes c ++ rest) ≡ Ok (c, rest)
    again before c rest is may =
        let both = both_true may (lt-ltb 0 c.header.round is.above) in
        rw (certificate_kind.again c rest is.certificate, both) refl
