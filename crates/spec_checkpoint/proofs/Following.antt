-- What one record more makes of what was read so far: it is canonical still, and its records are those before and that one.
use Rattle.std.proofs.Common.{◌≡◌, ◌⊎◌, ℕ, ◌+◌, ◌-◌, ◌^◌, ◌<◌, Bool, true, false, inl, inr, List, [], ◌∷◌, ◌++◌, length, map, Result, Ok, Err, Option, Some, None, refl, sym, ap, subst, ◌∙◌, append_assoc, arith}
use Rattle.std.specs.Prelude.{◌==◌, ◌&&◌, ◌%◌, not, nat_lt, All, option_map, if◌then◌else◌}
use Rattle.std.specs.Option.{option_map_or}
use Rattle.std.proofs.Math.Nat.{zero-mod}
use Rattle.std.proofs.lemmas.Bool.{cases_lt, eqb-true}
use Rattle.std.proofs.lemmas.List.{append-nil, map-append, nil_from_length, get_or_past}
use Rattle.std.proofs.lemmas.List.Elements.{All-nil, All-append, All-push, All-head, All-tail, All-get_or}
use Rattle.wire.specs.Fields.{AreBytes, IsDigest}
use Rattle.wire.specs.Reading.{Read}
use Rattle.wire_read.proofs.Messages.{IsKind}
use Rattle.wire_read.proofs.EntryLists.{IsEntry}
use Rattle.wire_read.proofs.Steps.{IsBytes, IsBytes-rest}
use Rattle.spec_model.specs.Nodes.{Node}
use Rattle.spec_checkpoint.specs.Data.{Checkpoint, IsKeptBatch, IsKeptVote, IsKeptHeader, IsKeptCertificate, IsCanonical, blank}
use Rattle.spec_checkpoint.specs.Reading.{digests_at, coins_at, kept_batch_at, kept_vote_at, kept_header_at, kept_certificate_at}
use Rattle.spec_checkpoint.specs.Reading.{whole, kind_or, last_kind, ends_in_part, is_cut_short, kind_of, with_record, read_from, checkpoint_read}
use Rattle.spec_checkpoint.specs.Records.{ORDER_PIECE, COINS_PIECE, cut, order_record, batch_record, vote_record, header_record, certificate_record, coins_record, state_records}
use Rattle.spec_checkpoint.proofs.Cuts.{cut_none, cut_more}
use Rattle.spec_checkpoint.proofs.RecordTexts.{order_kind, coins_kind, batch_kind, vote_is, header_is, certificate_is}

-- ---- what a record's bytes are read as

some_if : {X : Type 0} (test : Bool) (x y : X) → (if test then Some x else None) ≡ Some y → (test ≡ true) × (x ≡ y)
some_if true x y e = (refl, cc)
some_if false x y e = absurd cc

-- what all of the bytes are read as is read, and nothing is left
whole_read : {X : Type 0} (read : Read X) (x : X) → whole read ≡ Some x → read ≡ Ok (x, [])
whole_read (Ok read) x e =
    let is = some_if (length read.1 == 0) read.0 x e in
    let nothing : read.1 ≡ [] = nil_from_length read.1 (eqb-true (length read.1) 0 is.0) in
    λ i. Ok (is.1 i, nothing i)
whole_read (Err fault) x e = absurd cc

mapped_some : {X Y : Type 0} (f : X → Y) (o : Option X) (y : Y) → option_map f o ≡ Some y → (x : X) × (o ≡ Some x) × (f x ≡ y)
mapped_some f (Some x) y e = (x, refl, cc)
mapped_some f None y e = absurd cc

-- so the bytes are the text of what they are read as
kind_text : {X : Type 0} (at : List ℕ → Read X) (text : X → List ℕ) (Fits : X → Type 0) → IsKind at text Fits → (bytes : List ℕ) (x : X)
    → IsBytes bytes → whole (at bytes) ≡ Some x → (bytes ≡ text x) × Fits x
kind_text at text Fits is bytes x fits e =
    let t = is.takes bytes (x, []) fits (whole_read (at bytes) x e) in
    (t.0.parts ∙ append-nil (text x), t.1)

entry_text : {X : Type 0} (at : List X → List ℕ → Read X) (text : X → List ℕ) (Fits : X → Type 0) (Sound : List X → Type 0) → IsEntry at text Fits Sound
    → (before : List X) (bytes : List ℕ) (x : X) → IsBytes bytes → Sound before → whole (at before bytes) ≡ Some x → (bytes ≡ text x) × Fits x × Sound (before ++ x ∷ [])
entry_text at text Fits Sound is before bytes x fits sound e =
    let t = is.takes before bytes (x, []) fits sound (whole_read (at before bytes) x e) in
    (t.0.parts ∙ append-nil (text x), t.1, t.2)

-- ---- which kinds there are none of

-- where the last kind isn't above one, there is nothing of a kind above that
none_above : {X : Type 0} (kind limit before : ℕ) (list : List X) → limit < kind → nat_lt limit (kind_or kind list before) ≡ false → (list ≡ []) × (nat_lt limit before ≡ false)
none_above kind limit before [] less is = (refl, is)
none_above kind limit before (x ∷ list) less is = absurd (let above : nat_lt limit kind ≡ true = grind (arith, less) in let bad : true ≡ false = sym above ∙ is in cc)

-- the last kind of those up to one
abbrev to_batches : Checkpoint → ℕ
to_batches c = kind_or 4 c.batches (kind_or 3 c.order 0)

abbrev to_votes : Checkpoint → ℕ
to_votes c = kind_or 5 c.votes (to_batches c)

abbrev to_headers : Checkpoint → ℕ
to_headers c = kind_or 6 c.headers (to_votes c)

abbrev to_certificates : Checkpoint → ℕ
to_certificates c = kind_or 7 c.certificates (to_headers c)

no_coins : (c : Checkpoint) (kind : ℕ) → kind < 8 → nat_lt kind (last_kind c) ≡ false → (c.coins ≡ []) × (nat_lt kind (to_certificates c) ≡ false)
no_coins c kind less is = none_above 8 kind (to_certificates c) c.coins less is

no_certificates : (c : Checkpoint) (kind : ℕ) → kind < 7 → nat_lt kind (to_certificates c) ≡ false → (c.certificates ≡ []) × (nat_lt kind (to_headers c) ≡ false)
no_certificates c kind less is = none_above 7 kind (to_headers c) c.certificates less is

no_headers : (c : Checkpoint) (kind : ℕ) → kind < 6 → nat_lt kind (to_headers c) ≡ false → (c.headers ≡ []) × (nat_lt kind (to_votes c) ≡ false)
no_headers c kind less is = none_above 6 kind (to_votes c) c.headers less is

no_votes : (c : Checkpoint) (kind : ℕ) → kind < 5 → nat_lt kind (to_votes c) ≡ false → (c.votes ≡ []) × (nat_lt kind (to_batches c) ≡ false)
no_votes c kind less is = none_above 5 kind (to_batches c) c.votes less is

no_batches : (c : Checkpoint) (kind : ℕ) → kind < 4 → nat_lt kind (to_batches c) ≡ false → (c.batches ≡ []) × (nat_lt kind (kind_or 3 c.order 0) ≡ false)
no_batches c kind less is = none_above 4 kind (kind_or 3 c.order 0) c.batches less is

-- ---- where the new record comes among the others

last : (rows later : List (List ℕ)) (row : List ℕ) → later ≡ [] → (rows ++ row ∷ []) ++ later ≡ (rows ++ later) ++ row ∷ []
last rows later row none = rw none (simp append-nil)

under : (front rows more : List (List ℕ)) (row : List ℕ) → rows ≡ more ++ row ∷ [] → front ++ rows ≡ (front ++ more) ++ row ∷ []
under front rows more row same = ap (λ l. front ++ l) same ∙ sym (append_assoc front more (row ∷ []))

pushed : {X : Type 0} (row_of : X → List ℕ) (xs : List X) (x : X) (later : List (List ℕ)) → later ≡ [] → map row_of (xs ++ x ∷ []) ++ later ≡ (map row_of xs ++ later) ++ row_of x ∷ []
pushed row_of xs x later none = ap (λ l. l ++ later) (map-append row_of xs (x ∷ [])) ∙ last (map row_of xs) later (row_of x) none

-- no coins have no records, and so on
abbrev coins_rows : Checkpoint → List (List ℕ)
coins_rows c = map coins_record (cut COINS_PIECE c.coins)

abbrev from_certificates : Checkpoint → List (List ℕ)
from_certificates c = map certificate_record c.certificates ++ coins_rows c

abbrev from_headers : Checkpoint → List (List ℕ)
from_headers c = map header_record c.headers ++ from_certificates c

abbrev from_votes : Checkpoint → List (List ℕ)
from_votes c = map vote_record c.votes ++ from_headers c

abbrev from_batches : Checkpoint → List (List ℕ)
from_batches c = map batch_record c.batches ++ from_votes c

no_rows : {X : Type 0} (row_of : X → List ℕ) (xs : List X) (later : List (List ℕ)) → xs ≡ [] → later ≡ [] → map row_of xs ++ later ≡ []
no_rows row_of xs later none nothing = rw (none, nothing) refl

no_coins_rows : (c : Checkpoint) → c.coins ≡ [] → coins_rows c ≡ []
no_coins_rows c none = ap (λ coins. map coins_record (cut COINS_PIECE coins)) none ∙ ap (map coins_record) (cut_none COINS_PIECE (omega arith))

-- ---- one record more

-- what was read with it is canonical, and its records are those so far and this one
record Goes (node : Node) (so_far : Checkpoint) (row : List ℕ) (next : Checkpoint) : Type 0 where
  pub canonical : IsCanonical node next
  pub rows : state_records next ≡ state_records so_far ++ row ∷ []

module _ (node : Node) (so_far : Checkpoint) (canonical : IsCanonical node so_far) (bytes : List ℕ) (fits : IsBytes bytes) (next : Checkpoint) where
  -- a piece of the order follows full ones
  order_follows : nat_lt 3 (last_kind so_far) ≡ false → length so_far.order % ORDER_PIECE ≡ 0
      → option_map (λ digests. record so_far { order = so_far.order ++ digests }) (whole (digests_at bytes)) ≡ Some next → Goes node so_far (3 ∷ bytes) next
  order_follows low full e =
      let read = mapped_some (λ digests. record so_far { order = so_far.order ++ digests }) (whole (digests_at bytes)) next e in
      let is = kind_text digests_at _ _ order_kind bytes read.0 fits read.1 in
      let n8 = no_coins so_far 3 (omega arith) low in
      let n7 = no_certificates so_far 3 (omega arith) n8.1 in
      let n6 = no_headers so_far 3 (omega arith) n7.1 in
      let n5 = no_votes so_far 3 (omega arith) n6.1 in
      let n4 = no_batches so_far 3 (omega arith) n5.1 in
      let later = no_rows batch_record so_far.batches (from_votes so_far) n4.0 (no_rows vote_record so_far.votes (from_headers so_far) n5.0
      (no_rows header_record so_far.headers (from_certificates so_far) n6.0 (no_rows certificate_record so_far.certificates (coins_rows so_far) n7.0 (no_coins_rows so_far n8.0)))) in
      let more = cut_more ORDER_PIECE so_far.order read.0 (omega arith) full is.1.some is.1.few in
      subst (Goes node so_far (3 ∷ bytes)) read.2 (record {
        canonical = record {
          order = All-append IsDigest so_far.order read.0 canonical.order is.1.each;
          batches = canonical.batches;
          votes = canonical.votes;
          votes_rise = canonical.votes_rise;
          headers = canonical.headers;
          headers_rise = canonical.headers_rise;
          certificates = canonical.certificates;
          certificates_rise = canonical.certificates_rise;
          coins = canonical.coins;
        };
        rows = ap (λ pieces. map order_record pieces ++ from_batches so_far) more ∙ pushed order_record (cut ORDER_PIECE so_far.order) read.0 (from_batches so_far) later
            ∙ ap (λ text. state_records so_far ++ (3 ∷ text) ∷ []) (sym is.0);
      })

  batch_follows : nat_lt 4 (last_kind so_far) ≡ false → option_map (λ kept. record so_far { batches = so_far.batches ++ kept ∷ [] }) (whole (kept_batch_at node bytes)) ≡ Some next
      → Goes node so_far (4 ∷ bytes) next
  batch_follows low e =
      let read = mapped_some (λ kept. record so_far { batches = so_far.batches ++ kept ∷ [] }) (whole (kept_batch_at node bytes)) next e in
      let is = kind_text (kept_batch_at node) _ _ (batch_kind node) bytes read.0 fits read.1 in
      let n8 = no_coins so_far 4 (omega arith) low in
      let n7 = no_certificates so_far 4 (omega arith) n8.1 in
      let n6 = no_headers so_far 4 (omega arith) n7.1 in
      let n5 = no_votes so_far 4 (omega arith) n6.1 in
      let later = no_rows vote_record so_far.votes (from_headers so_far) n5.0 (no_rows header_record so_far.headers (from_certificates so_far) n6.0
      (no_rows certificate_record so_far.certificates (coins_rows so_far) n7.0 (no_coins_rows so_far n8.0))) in
      subst (Goes node so_far (4 ∷ bytes)) read.2 (record {
        canonical = record {
          order = canonical.order;
          batches = All-push (IsKeptBatch node) so_far.batches read.0 canonical.batches is.1;
          votes = canonical.votes;
          votes_rise = canonical.votes_rise;
          headers = canonical.headers;
          headers_rise = canonical.headers_rise;
          certificates = canonical.certificates;
          certificates_rise = canonical.certificates_rise;
          coins = canonical.coins;
        };
        rows = under (map order_record (cut ORDER_PIECE so_far.order)) _ (from_batches so_far) (4 ∷ bytes)
            (pushed batch_record so_far.batches read.0 (from_votes so_far) later ∙ ap (λ text. from_batches so_far ++ (4 ∷ text) ∷ []) (sym is.0));
      })

  vote_follows : nat_lt 5 (last_kind so_far) ≡ false → option_map (λ kept. record so_far { votes = so_far.votes ++ kept ∷ [] }) (whole (kept_vote_at so_far.votes bytes)) ≡ Some next
      → Goes node so_far (5 ∷ bytes) next
  vote_follows low e =
      let read = mapped_some (λ kept. record so_far { votes = so_far.votes ++ kept ∷ [] }) (whole (kept_vote_at so_far.votes bytes)) next e in
      let is = entry_text kept_vote_at _ _ _ vote_is so_far.votes bytes read.0 fits canonical.votes_rise read.1 in
      let n8 = no_coins so_far 5 (omega arith) low in
      let n7 = no_certificates so_far 5 (omega arith) n8.1 in
      let n6 = no_headers so_far 5 (omega arith) n7.1 in
      let later = no_rows header_record so_far.headers (from_certificates so_far) n6.0 (no_rows certificate_record so_far.certificates (coins_rows so_far) n7.0 (no_coins_rows so_far n8.0)) in
      subst (Goes node so_far (5 ∷ bytes)) read.2 (record {
        canonical = record {
          order = canonical.order;
          batches = canonical.batches;
          votes = All-push IsKeptVote so_far.votes read.0 canonical.votes is.1;
          votes_rise = is.2;
          headers = canonical.headers;
          headers_rise = canonical.headers_rise;
          certificates = canonical.certificates;
          certificates_rise = canonical.certificates_rise;
          coins = canonical.coins;
        };
        rows = under (map order_record (cut ORDER_PIECE so_far.order)) _ (from_batches so_far) (5 ∷ bytes)
            (under (map batch_record so_far.batches) _ (from_votes so_far) (5 ∷ bytes)
            (pushed vote_record so_far.votes read.0 (from_headers so_far) later ∙ ap (λ text. from_votes so_far ++ (5 ∷ text) ∷ []) (sym is.0)));
      })

  header_follows : nat_lt 6 (last_kind so_far) ≡ false → option_map (λ kept. record so_far { headers = so_far.headers ++ kept ∷ [] }) (whole (kept_header_at node so_far.headers bytes)) ≡ Some next
      → Goes node so_far (6 ∷ bytes) next
  header_follows low e =
      let read = mapped_some (λ kept. record so_far { headers = so_far.headers ++ kept ∷ [] }) (whole (kept_header_at node so_far.headers bytes)) next e in
      let is = entry_text (kept_header_at node) _ _ _ (header_is node) so_far.headers bytes read.0 fits canonical.headers_rise read.1 in
      let n8 = no_coins so_far 6 (omega arith) low in
      let n7 = no_certificates so_far 6 (omega arith) n8.1 in
      let later = no_rows certificate_record so_far.certificates (coins_rows so_far) n7.0 (no_coins_rows so_far n8.0) in
      subst (Goes node so_far (6 ∷ bytes)) read.2 (record {
        canonical = record {
          order = canonical.order;
          batches = canonical.batches;
          votes = canonical.votes;
          votes_rise = canonical.votes_rise;
          headers = All-push (IsKeptHeader node) so_far.headers read.0 canonical.headers is.1;
          headers_rise = is.2;
          certificates = canonical.certificates;
          certificates_rise = canonical.certificates_rise;
          coins = canonical.coins;
        };
        rows = under (map order_record (cut ORDER_PIECE so_far.order)) _ (from_batches so_far) (6 ∷ bytes)
            (under (map batch_record so_far.batches) _ (from_votes so_far) (6 ∷ bytes)
            (under (map vote_record so_far.votes) _ (from_headers so_far) (6 ∷ bytes)
            (pushed header_record so_far.headers read.0 (from_certificates so_far) later ∙ ap (λ text. from_headers so_far ++ (6 ∷ text) ∷ []) (sym is.0))));
      })

  certificate_follows : nat_lt 7 (last_kind so_far) ≡ false
      → option_map (λ kept. record so_far { certificates = so_far.certificates ++ kept ∷ [] }) (whole (kept_certificate_at so_far.certificates bytes)) ≡ Some next
      → Goes node so_far (7 ∷ bytes) next
  certificate_follows low e =
      let read = mapped_some (λ kept. record so_far { certificates = so_far.certificates ++ kept ∷ [] }) (whole (kept_certificate_at so_far.certificates bytes)) next e in
      let is = entry_text kept_certificate_at _ _ _ certificate_is so_far.certificates bytes read.0 fits canonical.certificates_rise read.1 in
      let n8 = no_coins so_far 7 (omega arith) low in
      subst (Goes node so_far (7 ∷ bytes)) read.2 (record {
        canonical = record {
          order = canonical.order;
          batches = canonical.batches;
          votes = canonical.votes;
          votes_rise = canonical.votes_rise;
          headers = canonical.headers;
          headers_rise = canonical.headers_rise;
          certificates = All-push IsKeptCertificate so_far.certificates read.0 canonical.certificates is.1;
          certificates_rise = is.2;
          coins = canonical.coins;
        };
        rows = under (map order_record (cut ORDER_PIECE so_far.order)) _ (from_batches so_far) (7 ∷ bytes)
            (under (map batch_record so_far.batches) _ (from_votes so_far) (7 ∷ bytes)
            (under (map vote_record so_far.votes) _ (from_headers so_far) (7 ∷ bytes)
            (under (map header_record so_far.headers) _ (from_certificates so_far) (7 ∷ bytes)
            (pushed certificate_record so_far.certificates read.0 (coins_rows so_far) (no_coins_rows so_far n8.0) ∙ ap (λ text. from_certificates so_far ++ (7 ∷ text) ∷ []) (sym is.0)))));
      })

  -- a piece of the coins follows full ones
  coins_follow : length so_far.coins % COINS_PIECE ≡ 0 → option_map (λ coins. record so_far { coins = so_far.coins ++ coins }) (whole (coins_at bytes)) ≡ Some next → Goes node so_far (8 ∷ bytes) next
  coins_follow full e =
      let read = mapped_some (λ coins. record so_far { coins = so_far.coins ++ coins }) (whole (coins_at bytes)) next e in
      let is = kind_text coins_at _ _ coins_kind bytes read.0 fits read.1 in
      let more = cut_more COINS_PIECE so_far.coins read.0 (omega arith) full is.1.some is.1.few in
      subst (Goes node so_far (8 ∷ bytes)) read.2 (record {
        canonical = record {
          order = canonical.order;
          batches = canonical.batches;
          votes = canonical.votes;
          votes_rise = canonical.votes_rise;
          headers = canonical.headers;
          headers_rise = canonical.headers_rise;
          certificates = canonical.certificates;
          certificates_rise = canonical.certificates_rise;
          coins = All-append (λ coin. coin < 2 ^ 64) so_far.coins read.0 canonical.coins is.1.each;
        };
        rows = under (map order_record (cut ORDER_PIECE so_far.order)) _ (from_batches so_far) (8 ∷ bytes)
            (under (map batch_record so_far.batches) _ (from_votes so_far) (8 ∷ bytes)
            (under (map vote_record so_far.votes) _ (from_headers so_far) (8 ∷ bytes)
            (under (map header_record so_far.headers) _ (from_certificates so_far) (8 ∷ bytes)
            (under (map certificate_record so_far.certificates) _ (coins_rows so_far) (8 ∷ bytes)
            (ap (map coins_record) more ∙ map-append coins_record (cut COINS_PIECE so_far.coins) (read.0 ∷ []) ∙ ap (λ text. coins_rows so_far ++ (8 ∷ text) ∷ []) (sym is.0))))));
      })

-- ---- any record

-- of a chain of kinds, the first that is there is taken
kind_taken : {X : Type 0} (test : Bool) (one other : Option X) (next : X) → (if test then one else other) ≡ Some next → ((test ≡ true) × (one ≡ Some next)) ⊎ ((test ≡ false) × (other ≡ Some next))
kind_taken true one other next e = inl (refl, e)
kind_taken false one other next e = inr (refl, e)

not_false : (b : Bool) → not b ≡ false → b ≡ true
not_false true is = refl
not_false false is = absurd cc

-- the pieces so far are full where theirs is the last kind, if there are any, and the last of them isn't cut short
full_pieces : {X : Type 0} (size : ℕ) (pieces : List X) (same : Bool) → ((x : X) (rest : List X) → pieces ≡ x ∷ rest → same ≡ true) → (same && ends_in_part size pieces) ≡ false
    → length pieces % size ≡ 0
full_pieces size [] same is e = zero-mod size
full_pieces size (x ∷ pieces) same is e =
    let one = is x pieces refl in
    let whole_piece : ends_in_part size (x ∷ pieces) ≡ false = rw one at e in
    eqb-true (length (x ∷ pieces) % size) 0 (not_false _ whole_piece)

order_is_full : (c : Checkpoint) → nat_lt 3 (last_kind c) ≡ false → is_cut_short c 3 ≡ false → length c.order % ORDER_PIECE ≡ 0
order_is_full c low short =
    let n8 = no_coins c 3 (omega arith) low in
    let n7 = no_certificates c 3 (omega arith) n8.1 in
    let n6 = no_headers c 3 (omega arith) n7.1 in
    let n5 = no_votes c 3 (omega arith) n6.1 in
    let n4 = no_batches c 3 (omega arith) n5.1 in
    full_pieces ORDER_PIECE c.order (last_kind c == 3) (λ x rest is. rw (n8.0, n7.0, n6.0, n5.0, n4.0, is) refl) short

coins_are_full : (c : Checkpoint) → is_cut_short c 8 ≡ false → length c.coins % COINS_PIECE ≡ 0
coins_are_full c short = full_pieces COINS_PIECE c.coins (last_kind c == 8) (λ x rest is. rw is refl) short

-- the first byte is the kind that a test says
of_kind : (node : Node) (so_far next : Checkpoint) (kind here : ℕ) (bytes : List ℕ) → (kind == here) ≡ true → Goes node so_far (here ∷ bytes) next → Goes node so_far (kind ∷ bytes) next
of_kind node so_far next kind here bytes is goes = subst (λ k. Goes node so_far (k ∷ bytes) next) (sym (eqb-true kind here is)) goes

record_follows : (node : Node) (so_far : Checkpoint) (row : List ℕ) (next : Checkpoint) → IsCanonical node so_far → IsBytes row → is_cut_short so_far (kind_of row) ≡ false
    → with_record node so_far row ≡ Some next → Goes node so_far row next
unfolding with_record
record_follows node so_far [] next canonical fits short e = absurd cc
record_follows node so_far (kind ∷ bytes) next canonical fits short e =
    let rest = IsBytes-rest kind bytes fits in
    elim (kind_taken (nat_lt kind (last_kind so_far)) None _ next e) [
      | inl none ↦ absurd (let bad = none.1 in cc)
      | inr low ↦ elim (kind_taken (kind == 3) _ _ next low.1) [
        | inl is ↦
            let same = eqb-true kind 3 is.0 in
            let low_is = rw same at low.0 in
            of_kind node so_far next kind 3 bytes is.0 (order_follows node so_far canonical bytes rest next low_is (order_is_full so_far low_is (rw same at short)) is.1)
        | inr more ↦ elim (kind_taken (kind == 4) _ _ next more.1) [
          | inl is ↦ of_kind node so_far next kind 4 bytes is.0 (batch_follows node so_far canonical bytes rest next (rw (eqb-true kind 4 is.0) at low.0) is.1)
          | inr more ↦ elim (kind_taken (kind == 5) _ _ next more.1) [
            | inl is ↦ of_kind node so_far next kind 5 bytes is.0 (vote_follows node so_far canonical bytes rest next (rw (eqb-true kind 5 is.0) at low.0) is.1)
            | inr more ↦ elim (kind_taken (kind == 6) _ _ next more.1) [
              | inl is ↦ of_kind node so_far next kind 6 bytes is.0 (header_follows node so_far canonical bytes rest next (rw (eqb-true kind 6 is.0) at low.0) is.1)
              | inr more ↦ elim (kind_taken (kind == 7) _ _ next more.1) [
                | inl is ↦ of_kind node so_far next kind 7 bytes is.0 (certificate_follows node so_far canonical bytes rest next (rw (eqb-true kind 7 is.0) at low.0) is.1)
                | inr more ↦ elim (kind_taken (kind == 8) _ _ next more.1) [
                  | inl is ↦ of_kind node so_far next kind 8 bytes is.0 (coins_follow node so_far canonical bytes rest next (coins_are_full so_far (rw (eqb-true kind 8 is.0) at short)) is.1)
                  | inr none ↦ absurd (let bad = none.1 in cc)
                ]
              ]
            ]
          ]
        ]
      ]
    ]

-- ---- all records

-- each number of the records is a byte
IsBytes-of : (bytes : List ℕ) → AreBytes bytes → IsBytes bytes
IsBytes-of bytes are i = elim (cases_lt i (length bytes)) [
  | inl within ↦ All-get_or (λ byte. byte < 256) bytes i 0 within are
  | inr past ↦ rw (get_or_past bytes i 0 past) (omega arith)
]

-- a record that was read, and what those after it were read as
row_read : (short : Bool) (read : Option Checkpoint) (go_on : Checkpoint → Result Checkpoint ℕ) (back place : ℕ) (checkpoint : Checkpoint)
    → (if short then Err back else option_map_or go_on read (Err place)) ≡ Ok checkpoint → (short ≡ false) × ((next : Checkpoint) × (read ≡ Some next) × (go_on next ≡ Ok checkpoint))
row_read true read go_on back place checkpoint e = absurd cc
row_read false None go_on back place checkpoint e = absurd cc
row_read false (Some next) go_on back place checkpoint e = (refl, (next, refl, e))

-- what records are read as after those so far is canonical, and its records are those so far and these
follow : (node : Node) (place : ℕ) (so_far : Checkpoint) (rows : List (List ℕ)) (checkpoint : Checkpoint) → IsCanonical node so_far → All AreBytes rows
    → read_from node place so_far rows ≡ Ok checkpoint → IsCanonical node checkpoint × (state_records checkpoint ≡ state_records so_far ++ rows)
unfolding read_from
follow node place so_far [] checkpoint canonical fits e =
    let same : so_far ≡ checkpoint = cc in
    subst (λ c. IsCanonical node c × (state_records c ≡ state_records so_far ++ [])) same (canonical, sym (append-nil (state_records so_far)))
follow node place so_far (row ∷ rows) checkpoint canonical fits e =
    let step = row_read (is_cut_short so_far (kind_of row)) (with_record node so_far row) (λ next. read_from node (place + 1) next rows) (place - 1) place checkpoint e in
    let next = step.1.0 in
    let goes = record_follows node so_far row next canonical (IsBytes-of row (All-head AreBytes row rows fits)) step.0 step.1.1 in
    let rest = follow node (place + 1) next rows checkpoint goes.canonical (All-tail AreBytes row rows fits) step.1.2 in
    (rest.0, rest.1 ∙ ap (λ l. l ++ rows) goes.rows ∙ append_assoc (state_records so_far) (row ∷ []) rows)

none_is_canonical : (node : Node) → IsCanonical node blank
none_is_canonical node = record {
  order = All-nil IsDigest;
  batches = All-nil (IsKeptBatch node);
  votes = All-nil IsKeptVote;
  votes_rise = refl;
  headers = All-nil (IsKeptHeader node);
  headers_rise = refl;
  certificates = All-nil IsKeptCertificate;
  certificates_rise = refl;
  coins = All-nil (λ coin. coin < 2 ^ 64);
}

-- what records are read as is canonical, and they are its records
pub was_written : (node : Node) (rows : List (List ℕ)) (checkpoint : Checkpoint) → All AreBytes rows → checkpoint_read node rows ≡ Ok checkpoint
    → IsCanonical node checkpoint × (rows ≡ state_records checkpoint)
was_written node rows checkpoint fits e =
    let all = follow node 0 blank rows checkpoint (none_is_canonical node) fits e in
    (all.0, sym all.1)
