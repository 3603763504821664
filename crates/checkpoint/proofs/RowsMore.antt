-- Records that are put one after the other.
use Rattle.std.proofs.Common.{◌≡◌, ℕ, ◌+◌, ◌<◌, List, [], ◌∷◌, ◌++◌, length, map, take, get_or, append_assoc, sym, ap, ◌∙◌, subst, arith}
use Rattle.std.specs.Prelude.{All}
use Rattle.std.specs.List.{range_with_len}
use Rattle.std.proofs.lemmas.List.{take_more, map-append, get_or-map, get_or-append-add, get_or_append_left, length-append, length-map}
use Rattle.std.proofs.lemmas.List.Elements.{All-get_or}
use Rattle.std.proofs.lemmas.List.FromFn.{map-range_with_len_more, get_or-range_with_len, length-range_with_len}
use Rattle.spec_checkpoint.specs.Data.{Checkpoint}
use Rattle.spec_checkpoint.specs.Records.{COINS_PIECE, ORDER_PIECE, batch_record, certificate_record, coins_record, cut, header_record, order_record, state_records, vote_record}

-- one record more
one_more : (before after start so_far : List (List ℕ)) (text : List ℕ) → after ≡ before ++ text ∷ [] → before ≡ start ++ so_far → after ≡ start ++ (so_far ++ text ∷ [])
one_more before after start so_far text put same = put ∙ ap (λ (l : List (List ℕ)). l ++ text ∷ []) same ∙ append_assoc start so_far (text ∷ [])

-- that of an element, which stands at the place, whatever stands for it past the end
pub row_more_at : {X Y : Type 0} (row_of : Y → List ℕ) (make : X → Y) (xs : List X) (i : ℕ) (d : X) (before after start : List (List ℕ))
    → i < length xs → after ≡ before ++ row_of (make (get_or xs i d)) ∷ [] → before ≡ start ++ map row_of (map make (take i xs))
    → after ≡ start ++ map row_of (map make (take (i + 1) xs))
row_more_at row_of make xs i d before after start within put same =
    one_more before after start (map row_of (map make (take i xs))) (row_of (make (get_or xs i d))) put same
    ∙ ap (λ (l : List (List ℕ)). start ++ l) (sym (ap (λ l. map row_of (map make l)) (take_more xs i d within) ∙ ap (map row_of) (map-append make (take i xs) (get_or xs i d ∷ []))
    ∙ map-append row_of (map make (take i xs)) (make (get_or xs i d) ∷ [])))

pub row_more : {X Y : Type 0} (row_of : Y → List ℕ) (make : X → Y) (xs : List X) (i : ℕ) (x : X) (before after start : List (List ℕ))
    → i < length xs → x ≡ get_or xs i x → after ≡ before ++ row_of (make x) ∷ [] → before ≡ start ++ map row_of (map make (take i xs))
    → after ≡ start ++ map row_of (map make (take (i + 1) xs))
row_more row_of make xs i x before after start within at put same =
    row_more_at row_of make xs i x before after start within (put ∙ ap (λ y. before ++ row_of (make y) ∷ []) at) same

-- that of a piece
pub piece_more : {X : Type 0} (row_of : X → List ℕ) (piece_at : ℕ → X) (i : ℕ) (before after start : List (List ℕ))
    → after ≡ before ++ row_of (piece_at i) ∷ [] → before ≡ start ++ map row_of (map piece_at (range_with_len 0 i))
    → after ≡ start ++ map row_of (map piece_at (range_with_len 0 (i + 1)))
piece_more row_of piece_at i before after start put same =
    let pieces = map piece_at (range_with_len 0 i) in
    one_more before after start (map row_of pieces) (row_of (piece_at i)) put same
    ∙ ap (λ (l : List (List ℕ)). start ++ l) (sym (ap (map row_of) (map-range_with_len_more piece_at 0 i i (omega arith)) ∙ map-append row_of pieces (piece_at i ∷ [])))

-- ---- records that fit

-- where all records fit, that of each element does
pub row_fits_at : {X Y : Type 0} (Fits : List ℕ → Type 0) (row_of : Y → List ℕ) (make : X → Y) (xs : List X) (i : ℕ) (d : X)
    → i < length xs → All Fits (map row_of (map make xs)) → Fits (row_of (make (get_or xs i d)))
row_fits_at Fits row_of make xs i d within all =
    let made = map make xs in
    let inside : i < length made = omega (arith, length-map xs make, within) in
    subst Fits (get_or-map row_of made i (make d) [] inside ∙ ap row_of (get_or-map make xs i d (make d) within))
    (All-get_or Fits (map row_of made) i [] (omega (arith, length-map made row_of, inside)) all)

pub row_fits : {X Y : Type 0} (Fits : List ℕ → Type 0) (row_of : Y → List ℕ) (make : X → Y) (xs : List X) (i : ℕ) (x : X)
    → i < length xs → x ≡ get_or xs i x → All Fits (map row_of (map make xs)) → Fits (row_of (make x))
row_fits Fits row_of make xs i x within at all = subst (λ y. Fits (row_of (make y))) (sym at) (row_fits_at Fits row_of make xs i x within all)

-- and that of each piece
pub piece_fits : {X : Type 0} (Fits : List ℕ → Type 0) (row_of : X → List ℕ) (piece_at : ℕ → X) (i count : ℕ)
    → i < count → All Fits (map row_of (map piece_at (range_with_len 0 count))) → Fits (row_of (piece_at i))
piece_fits Fits row_of piece_at i count within all =
    let none : 0 + i ≡ i = omega arith in
    subst (λ (n : ℕ). Fits (row_of (piece_at n))) (get_or-range_with_len 0 count i i within ∙ none)
    (row_fits_at Fits row_of piece_at (range_with_len 0 count) i i (omega (arith, length-range_with_len 0 count, within)) all)

-- of lists one after the other the first one's fit, and those of the others
first_fit : (Fits : List ℕ → Type 0) (first later : List (List ℕ)) → All Fits (first ++ later) → All Fits first
first_fit Fits first later all k d within = subst Fits (get_or_append_left first later d k within) (all k d (omega (arith, within, length-append first later)))

later_fit : (Fits : List ℕ → Type 0) (first later : List (List ℕ)) → All Fits (first ++ later) → All Fits later
later_fit Fits first later all k d within = subst Fits (get_or-append-add first later k d) (all (length first + k) d (omega (arith, within, length-append first later)))

-- where the records of a checkpoint fit, those of each kind do
pub record EachFit (Fits : List ℕ → Type 0) (checkpoint : Checkpoint) : Type 0 where
  pub order : All Fits (map order_record (cut ORDER_PIECE checkpoint.order))
  pub batches : All Fits (map batch_record checkpoint.batches)
  pub votes : All Fits (map vote_record checkpoint.votes)
  pub headers : All Fits (map header_record checkpoint.headers)
  pub certificates : All Fits (map certificate_record checkpoint.certificates)
  pub coins : All Fits (map coins_record (cut COINS_PIECE checkpoint.coins))

pub each_fit : (Fits : List ℕ → Type 0) (checkpoint : Checkpoint) → All Fits (state_records checkpoint) → EachFit Fits checkpoint
each_fit Fits checkpoint all =
    let order = map order_record (cut ORDER_PIECE checkpoint.order) in
    let batches = map batch_record checkpoint.batches in
    let votes = map vote_record checkpoint.votes in
    let headers = map header_record checkpoint.headers in
    let certificates = map certificate_record checkpoint.certificates in
    let coins = map coins_record (cut COINS_PIECE checkpoint.coins) in
    let after_certificates = certificates ++ coins in
    let after_headers = headers ++ after_certificates in
    let after_votes = votes ++ after_headers in
    let after_batches = batches ++ after_votes in
    let from_batches = later_fit Fits order after_batches all in
    let from_votes = later_fit Fits batches after_votes from_batches in
    let from_headers = later_fit Fits votes after_headers from_votes in
    let from_certificates = later_fit Fits headers after_certificates from_headers in
    record {
      order = first_fit Fits order after_batches all;
      batches = first_fit Fits batches after_votes from_batches;
      votes = first_fit Fits votes after_headers from_votes;
      headers = first_fit Fits headers after_certificates from_headers;
      certificates = first_fit Fits certificates coins from_certificates;
      coins = later_fit Fits certificates coins from_certificates;
    }
