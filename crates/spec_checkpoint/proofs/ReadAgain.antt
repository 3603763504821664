-- The records of a canonical checkpoint are read as it.
use Rattle.std.proofs.Common.{◌≡◌, ℕ, zero, suc, ◌+◌, ◌^◌, ◌<◌, ◌≤◌, Bool, true, false, inl, inr, List, [], ◌∷◌, ◌++◌, length, map, take, drop, Ok, Some, refl, sym, ap, subst, ◌∙◌, append_assoc, arith}
use Rattle.std.specs.Prelude.{◌==◌, ◌&&◌, ◌%◌, nat_lt, All, IsTrue}
use Rattle.std.proofs.Math.Nat.{zero-mod, add-mod_right}
use Rattle.std.proofs.lemmas.Bool.{cases_lt}
use Rattle.std.proofs.lemmas.List.{append-nil, length-append, length-take, length-drop, length-take-le, take-append-drop, take_all, drop_all}
use Rattle.std.proofs.lemmas.List.Elements.{All-head, All-tail, All-take, All-drop}
use Rattle.wire.specs.Fields.{IsDigest}
use Rattle.wire.specs.Reading.{Read}
use Rattle.wire.specs.Rising.{rises}
use Rattle.wire.specs.Encoding.{certificate_bytes}
use Rattle.wire_read.proofs.Messages.{IsKind}
use Rattle.wire_read.proofs.EntryLists.{IsEntry}
use Rattle.wire_read.proofs.RisingLists.{front_rises}
use Rattle.spec_model.specs.Nodes.{Node}
use Rattle.spec_model.specs.Words.{Certificate, Digest}
use Rattle.spec_checkpoint.specs.Data.{KeptBatch, KeptVote, KeptHeader, Checkpoint, IsKeptBatch, IsKeptVote, IsKeptHeader, IsKeptCertificate, IsCanonical}
use Rattle.spec_checkpoint.specs.Reading.{digests_at, coins_at, kept_batch_at, kept_vote_at, kept_header_at, kept_certificate_at}
use Rattle.spec_checkpoint.specs.Reading.{whole, kind_or, last_kind, is_cut_short, kind_of, with_record, read_from, checkpoint_read}
use Rattle.spec_checkpoint.specs.Records.{ORDER_PIECE, COINS_PIECE, cut, order_record, batch_record, vote_record, header_record, certificate_record, coins_record, state_records}
use Rattle.spec_checkpoint.proofs.Cuts.{cut_none, cut_first}
use Rattle.spec_checkpoint.proofs.RecordTexts.{IsPiece, order_kind, coins_kind, batch_kind, vote_is, header_is, certificate_is}
use Rattle.spec_checkpoint.proofs.RecordTexts.{order_text, coins_text, batch_text, vote_text, header_text, vote_before, header_before, certificate_before}

-- ---- the text of a record is read as what it is of

kind_whole : {X : Type 0} (at : List ℕ → Read X) (text : X → List ℕ) (Fits : X → Type 0) → IsKind at text Fits → (x : X) → Fits x → whole (at (text x)) ≡ Some x
kind_whole at text Fits is x fits =
    let all : at (text x) ≡ Ok (x, []) = ap at (sym (append-nil (text x))) ∙ is.again x [] fits in
    rw all refl

entry_whole : {X : Type 0} (at : List X → List ℕ → Read X) (text : X → List ℕ) (Fits : X → Type 0) (Sound : List X → Type 0) → IsEntry at text Fits Sound
    → (before : List X) (x : X) → Fits x → Sound (before ++ x ∷ []) → whole (at before (text x)) ≡ Some x
entry_whole at text Fits Sound is before x fits sound =
    let all : at before (text x) ≡ Ok (x, []) = ap (at before) (sym (append-nil (text x))) ∙ is.again before x [] fits sound in
    rw all refl

-- ---- one record, and those after it

-- a record follows what was read so far, and this is what both are
record Reads (node : Node) (so_far : Checkpoint) (row : List ℕ) (next : Checkpoint) : Type 0 where
  pub uncut : is_cut_short so_far (kind_of row) ≡ false
  pub read : with_record node so_far row ≡ Some next

-- wherever they stand, these records are read as this after those so far
abbrev AreRead : Node → Checkpoint → List (List ℕ) → Checkpoint → Type 0
AreRead node so_far rows checkpoint = (place : ℕ) → read_from node place so_far rows ≡ Ok checkpoint

one_read : (node : Node) (so_far next : Checkpoint) (row : List ℕ) (rows : List (List ℕ)) (checkpoint : Checkpoint) → Reads node so_far row next → AreRead node next rows checkpoint
    → AreRead node so_far (row ∷ rows) checkpoint
unfolding read_from
one_read node so_far next row rows checkpoint reads later place = rw (reads.uncut, reads.read) (later (place + 1))

-- the records of entries, each of which follows those before it
entries_read : {X : Type 0} (node : Node) (row_of : X → List ℕ) (Fits : X → Type 0) (Sound : List X → Type 0) (stage : List X → Checkpoint)
    → ((front rest : List X) → Sound (front ++ rest) → Sound front)
    → ((before : List X) (x : X) → Fits x → Sound (before ++ x ∷ []) → Reads node (stage before) (row_of x) (stage (before ++ x ∷ [])))
    → (before entries : List X) (rows : List (List ℕ)) (checkpoint : Checkpoint) → All Fits entries → Sound (before ++ entries) → AreRead node (stage (before ++ entries)) rows checkpoint
    → AreRead node (stage before) (map row_of entries ++ rows) checkpoint
entries_read {X} node row_of Fits Sound stage begins one before [] rows checkpoint fits sound later =
    subst (λ list. AreRead node (stage list) rows checkpoint) (append-nil before) later
entries_read {X} node row_of Fits Sound stage begins one before (x ∷ entries) rows checkpoint fits sound later =
    let joined : (before ++ x ∷ []) ++ entries ≡ before ++ x ∷ entries = append_assoc before (x ∷ []) entries in
    let still : Sound ((before ++ x ∷ []) ++ entries) = subst Sound (sym joined) sound in
    one_read node (stage before) (stage (before ++ x ∷ [])) (row_of x) (map row_of entries ++ rows) checkpoint
    (one before x (All-head Fits x entries fits) (begins (before ++ x ∷ []) entries still))
    (entries_read node row_of Fits Sound stage begins one (before ++ x ∷ []) entries rows checkpoint (All-tail Fits x entries fits) still
    (subst (λ list. AreRead node (stage list) rows checkpoint) (sym joined) later))

-- the records of pieces: each but the last is full
pieces_read : {X : Type 0} (node : Node) (size : ℕ) (row_of : List X → List ℕ) (Fits : X → Type 0) (stage : List X → Checkpoint) → 0 < size
    → ((before piece : List X) → length before % size ≡ 0 → IsPiece size Fits piece → Reads node (stage before) (row_of piece) (stage (before ++ piece)))
    → (most : ℕ) (before list : List X) (rows : List (List ℕ)) (checkpoint : Checkpoint) → length list ≤ most → length before % size ≡ 0 → All Fits list
    → AreRead node (stage (before ++ list)) rows checkpoint → AreRead node (stage before) (map row_of (cut size list) ++ rows) checkpoint
pieces_read {X} node size row_of Fits stage some one most before [] rows checkpoint few full fits later =
    let none : cut {X = X} size [] ≡ [] = cut_none size some in
    subst (λ pieces. AreRead node (stage before) (map row_of pieces ++ rows) checkpoint) (sym none)
    (subst (λ l. AreRead node (stage l) rows checkpoint) (append-nil before) later)
pieces_read {X} node size row_of Fits stage some one zero before (x ∷ list) rows checkpoint few full fits later = absurd (omega (arith, few))
pieces_read {X} node size row_of Fits stage some one (suc most) before (x ∷ list) rows checkpoint few full fits later =
    let all : List X = x ∷ list in
    let cuts = cut_first size (x ∷ list) some (omega arith) in
    let piece : IsPiece size Fits (take size (x ∷ list)) = record {
      some = omega (arith, length-take size (x ∷ list), some);
      few = omega (arith, length-take size (x ∷ list));
      each = All-take Fits size (x ∷ list) fits;
    } in
    let first = one before (take size (x ∷ list)) full piece in
    let joined : (before ++ take size (x ∷ list)) ++ drop size (x ∷ list) ≡ before ++ x ∷ list =
    append_assoc before (take size (x ∷ list)) (drop size (x ∷ list)) ∙ ap (λ l. before ++ l) (take-append-drop size (x ∷ list)) in
    subst (λ pieces. AreRead node (stage before) (map row_of pieces ++ rows) checkpoint) (sym cuts)
    (one_read node (stage before) (stage (before ++ take size (x ∷ list))) (row_of (take size (x ∷ list))) (map row_of (cut size (drop size (x ∷ list))) ++ rows) checkpoint first
    (elim (cases_lt (length (x ∷ list)) size) [
      | inl short ↦ (
          let none : cut size (drop size (x ∷ list)) ≡ [] = ap (cut size) (drop_all size (x ∷ list) (omega (arith, short))) ∙ cut_none size some in
          let whole_list = take_all size (x ∷ list) (omega (arith, short)) in
          subst (λ pieces. AreRead node (stage (before ++ take size (x ∷ list))) (map row_of pieces ++ rows) checkpoint) (sym none)
          (subst (λ l. AreRead node (stage (before ++ l)) rows checkpoint) (sym whole_list) later))
      | inr long ↦ (
          let taken : length (take size (x ∷ list)) ≡ size = length-take-le size (x ∷ list) long in
          let still : length (before ++ take size (x ∷ list)) % size ≡ 0 =
          ap (λ n. n % size) (length-append before (take size (x ∷ list)) ∙ ap (λ n. length before + n) taken) ∙ add-mod_right (length before) size ∙ full in
          pieces_read node size row_of Fits stage some one most (before ++ take size (x ∷ list)) (drop size (x ∷ list)) rows checkpoint
          (omega (arith, length-drop size (x ∷ list), few, some)) still (All-drop Fits size (x ∷ list) fits)
          (subst (λ l. AreRead node (stage l) rows checkpoint) (sym joined) later))
    ]))

-- ---- each kind

-- where there is nothing above a kind, a record of it may follow
low_is : {X : Type 0} (kind before : ℕ) (list : List X) → nat_lt kind before ≡ false → nat_lt kind (kind_or kind list before) ≡ false
low_is kind before [] below = below
low_is kind before (x ∷ list) below = grind arith

below_is : {X : Type 0} (limit kind before : ℕ) (list : List X) → kind ≤ limit → nat_lt limit before ≡ false → nat_lt limit (kind_or kind list before) ≡ false
below_is limit kind before [] less below = below
below_is limit kind before (x ∷ list) less below = grind (arith, less)

below_none : (limit : ℕ) → nat_lt limit 0 ≡ false
below_none limit = grind arith

never : (test : Bool) → (test && false) ≡ false
never true = refl
never false = refl

module _ (node : Node) (c : Checkpoint) where
  -- what was read while records of a kind are read
  abbrev in_order : List Digest → Checkpoint
  in_order digests = record { order = digests; batches = []; votes = []; headers = []; certificates = []; coins = [] }

  abbrev in_batches : List KeptBatch → Checkpoint
  in_batches batches = record { order = c.order; batches = batches; votes = []; headers = []; certificates = []; coins = [] }

  abbrev in_votes : List KeptVote → Checkpoint
  in_votes votes = record { order = c.order; batches = c.batches; votes = votes; headers = []; certificates = []; coins = [] }

  abbrev in_headers : List KeptHeader → Checkpoint
  in_headers headers = record { order = c.order; batches = c.batches; votes = c.votes; headers = headers; certificates = []; coins = [] }

  abbrev in_certificates : List Certificate → Checkpoint
  in_certificates certificates = record { order = c.order; batches = c.batches; votes = c.votes; headers = c.headers; certificates = certificates; coins = [] }

  abbrev in_coins : List ℕ → Checkpoint
  in_coins coins = record { order = c.order; batches = c.batches; votes = c.votes; headers = c.headers; certificates = c.certificates; coins = coins }

  below3 : (limit : ℕ) → 3 ≤ limit → nat_lt limit (kind_or 3 c.order 0) ≡ false
  below3 limit le = below_is limit 3 0 c.order le (below_none limit)

  below4 : (limit : ℕ) → 4 ≤ limit → nat_lt limit (kind_or 4 c.batches (kind_or 3 c.order 0)) ≡ false
  below4 limit le = below_is limit 4 (kind_or 3 c.order 0) c.batches le (below3 limit (omega (arith, le)))

  below5 : (limit : ℕ) → 5 ≤ limit → nat_lt limit (kind_or 5 c.votes (kind_or 4 c.batches (kind_or 3 c.order 0))) ≡ false
  below5 limit le = below_is limit 5 (kind_or 4 c.batches (kind_or 3 c.order 0)) c.votes le (below4 limit (omega (arith, le)))

  below6 : (limit : ℕ) → 6 ≤ limit → nat_lt limit (kind_or 6 c.headers (kind_or 5 c.votes (kind_or 4 c.batches (kind_or 3 c.order 0)))) ≡ false
  below6 limit le = below_is limit 6 (kind_or 5 c.votes (kind_or 4 c.batches (kind_or 3 c.order 0))) c.headers le (below5 limit (omega (arith, le)))

  below7 : (limit : ℕ) → 7 ≤ limit → nat_lt limit (kind_or 7 c.certificates (kind_or 6 c.headers (kind_or 5 c.votes (kind_or 4 c.batches (kind_or 3 c.order 0))))) ≡ false
  below7 limit le = below_is limit 7 (kind_or 6 c.headers (kind_or 5 c.votes (kind_or 4 c.batches (kind_or 3 c.order 0)))) c.certificates le (below6 limit (omega (arith, le)))

  order_reads : (before piece : List Digest) → length before % ORDER_PIECE ≡ 0 → IsPiece ORDER_PIECE IsDigest piece → Reads node (in_order before) (order_record piece) (in_order (before ++ piece))
  unfolding with_record
  order_reads before piece full fits =
      let low = below_is 3 3 0 before (omega arith) refl in
      let is = kind_whole digests_at order_text (IsPiece ORDER_PIECE IsDigest) order_kind piece fits in
      record { uncut = rw full (never (kind_or 3 before 0 == 3)); read = rw (low, is) refl }

  batch_reads : (before : List KeptBatch) (kept : KeptBatch) → IsKeptBatch node kept → Unit {0} → Reads node (in_batches before) (batch_record kept) (in_batches (before ++ kept ∷ []))
  unfolding with_record
  batch_reads before kept fits sound =
      let low = below_is 4 4 (kind_or 3 c.order 0) before (omega arith) (below3 4 (omega arith)) in
      let is = kind_whole (kept_batch_at node) batch_text (IsKeptBatch node) (batch_kind node) kept fits in
      record { uncut = never _; read = rw (low, is) refl }

  vote_reads : (before : List KeptVote) (kept : KeptVote) → IsKeptVote kept → IsTrue (rises vote_before (before ++ kept ∷ []))
      → Reads node (in_votes before) (vote_record kept) (in_votes (before ++ kept ∷ []))
  unfolding with_record
  vote_reads before kept fits rise =
      let low = below_is 5 5 (kind_or 4 c.batches (kind_or 3 c.order 0)) before (omega arith) (below4 5 (omega arith)) in
      let is = entry_whole kept_vote_at vote_text IsKeptVote (λ l. IsTrue (rises vote_before l)) vote_is before kept fits rise in
      record { uncut = never _; read = rw (low, is) refl }

  header_reads : (before : List KeptHeader) (kept : KeptHeader) → IsKeptHeader node kept → IsTrue (rises header_before (before ++ kept ∷ []))
      → Reads node (in_headers before) (header_record kept) (in_headers (before ++ kept ∷ []))
  unfolding with_record
  header_reads before kept fits rise =
      let low = below_is 6 6 (kind_or 5 c.votes (kind_or 4 c.batches (kind_or 3 c.order 0))) before (omega arith) (below5 6 (omega arith)) in
      let is = entry_whole (kept_header_at node) header_text (IsKeptHeader node) (λ l. IsTrue (rises header_before l)) (header_is node) before kept fits rise in
      record { uncut = never _; read = rw (low, is) refl }

  certificate_reads : (before : List Certificate) (kept : Certificate) → IsKeptCertificate kept → IsTrue (rises certificate_before (before ++ kept ∷ []))
      → Reads node (in_certificates before) (certificate_record kept) (in_certificates (before ++ kept ∷ []))
  unfolding with_record
  certificate_reads before kept fits rise =
      let low = below_is 7 7 (kind_or 6 c.headers (kind_or 5 c.votes (kind_or 4 c.batches (kind_or 3 c.order 0)))) before (omega arith) (below6 7 (omega arith)) in
      let is = entry_whole kept_certificate_at certificate_bytes IsKeptCertificate (λ l. IsTrue (rises certificate_before l)) certificate_is before kept fits rise in
      record { uncut = never _; read = rw (low, is) refl }

  coins_read : (before piece : List ℕ) → length before % COINS_PIECE ≡ 0 → IsPiece COINS_PIECE (λ coin. coin < 2 ^ 64) piece
      → Reads node (in_coins before) (coins_record piece) (in_coins (before ++ piece))
  unfolding with_record
  coins_read before piece full fits =
      let low = below_is 8 8 (kind_or 7 c.certificates (kind_or 6 c.headers (kind_or 5 c.votes (kind_or 4 c.batches (kind_or 3 c.order 0))))) before (omega arith) (below7 8 (omega arith)) in
      let is = kind_whole coins_at coins_text (IsPiece COINS_PIECE (λ coin. coin < 2 ^ 64)) coins_kind piece fits in
      record { uncut = rw full (never (last_kind (in_coins before) == 8)); read = rw (low, is) refl }

  -- ---- all of them, from the last kind on

  none_left : AreRead node c [] c
  unfolding read_from
  none_left place = refl

  abbrev coins_rows : List (List ℕ)
  coins_rows = map coins_record (cut COINS_PIECE c.coins)

  coins_are_read : IsCanonical node c → AreRead node (in_certificates c.certificates) coins_rows c
  coins_are_read is =
      subst (λ rows. AreRead node (in_certificates c.certificates) rows c) (append-nil coins_rows)
      (pieces_read node COINS_PIECE coins_record (λ coin. coin < 2 ^ 64) in_coins (omega arith) coins_read (length c.coins) [] c.coins [] c (omega arith) (zero-mod COINS_PIECE) is.coins none_left)

  certificates_are_read : IsCanonical node c → AreRead node (in_headers c.headers) (map certificate_record c.certificates ++ coins_rows) c
  certificates_are_read is =
      entries_read node certificate_record IsKeptCertificate (λ l. IsTrue (rises certificate_before l)) in_certificates (front_rises certificate_before) certificate_reads [] c.certificates
      coins_rows c is.certificates is.certificates_rise (coins_are_read is)

  headers_are_read : IsCanonical node c → AreRead node (in_votes c.votes) (map header_record c.headers ++ (map certificate_record c.certificates ++ coins_rows)) c
  headers_are_read is =
      entries_read node header_record (IsKeptHeader node) (λ l. IsTrue (rises header_before l)) in_headers (front_rises header_before) header_reads [] c.headers
      (map certificate_record c.certificates ++ coins_rows) c is.headers is.headers_rise (certificates_are_read is)

  votes_are_read : IsCanonical node c → AreRead node (in_batches c.batches) (map vote_record c.votes ++ (map header_record c.headers ++ (map certificate_record c.certificates ++ coins_rows))) c
  votes_are_read is =
      entries_read node vote_record IsKeptVote (λ l. IsTrue (rises vote_before l)) in_votes (front_rises vote_before) vote_reads [] c.votes
      (map header_record c.headers ++ (map certificate_record c.certificates ++ coins_rows)) c is.votes is.votes_rise (headers_are_read is)

  batches_are_read : IsCanonical node c
      → AreRead node (in_order c.order) (map batch_record c.batches ++ (map vote_record c.votes ++ (map header_record c.headers ++ (map certificate_record c.certificates ++ coins_rows)))) c
  batches_are_read is =
      entries_read node batch_record (IsKeptBatch node) (λ l. Unit {0}) in_batches (λ front rest sound. tt) batch_reads [] c.batches
      (map vote_record c.votes ++ (map header_record c.headers ++ (map certificate_record c.certificates ++ coins_rows))) c is.batches tt (votes_are_read is)

  pub is_read : IsCanonical node c → checkpoint_read node (state_records c) ≡ Ok c
  is_read is =
      pieces_read node ORDER_PIECE order_record IsDigest in_order (omega arith) order_reads (length c.order) [] c.order
      (map batch_record c.batches ++ (map vote_record c.votes ++ (map header_record c.headers ++ (map certificate_record c.certificates ++ coins_rows)))) c
      (omega arith) (zero-mod ORDER_PIECE) is.order (batches_are_read is) 0
