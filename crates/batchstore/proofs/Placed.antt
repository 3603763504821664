-- Batches in their places by digest: in whatever order they are put there, the list is the same.
use Rattle.std.proofs.Common.{◌≡◌, ℕ, Bool, true, false, cond, List, [], ◌∷◌, ◌++◌, refl, sym, ap, ◌∙◌}
use Rattle.std.proofs.Common.{Ordering, Less, Equal, Greater}
use Rattle.std.specs.Prelude.{fold, map}
use Rattle.std.specs.Ordering.{is_lt, is_eq, ordering_reverse, match_ordering}
use Rattle.std.specs.List.{AllByRecursion}
use Rattle.std.specs.Str.{bytes_eq}
use Rattle.std.specs.Map.{remove_entry}
use Rattle.std.specs.BTreeMap.{insert_entry, is_at}
use Rattle.std.proofs.lemmas.Cmp.{nat_list_cmp_total}
use Rattle.std.proofs.lemmas.List.Sums.{fold-append}
use Rattle.std.proofs.lemmas.Slice.Eq.{bytes_eq-Decides}
use Rattle.std.proofs.lemmas.Map.Text.{is_eq-slice_cmp}
use Rattle.wire.specs.References.{digest_before, placed}
use Rattle.wire.specs.declared.keys.Digest.{Digest}
use Rattle.wire.specs.declared.references.BatchReference.{BatchReference}
use Rattle.batchstore.specs.Kept.{compared, reference_of}

turned : (one other : Digest) (o : Ordering) → compared one other ≡ o → compared other one ≡ ordering_reverse o
turned one other o is = nat_list_cmp_total.antisymm other.0 one.0 ∙ ap ordering_reverse is

-- ---- one batch in its place, by how it compares with the first

placed-less : (first : BatchReference) (rest : List BatchReference) (batch : BatchReference) → compared batch.digest first.digest ≡ Less → placed (first ∷ rest) batch ≡ batch ∷ first ∷ rest
placed-less first rest batch is = ap (λ o. cond (is_lt o) (batch ∷ first ∷ rest) (cond (bytes_eq first.digest.0 batch.digest.0) (first ∷ rest) (first ∷ placed rest batch))) is

alike : (first batch : BatchReference) (o : Ordering) → compared batch.digest first.digest ≡ o → bytes_eq first.digest.0 batch.digest.0 ≡ is_eq (ordering_reverse o)
alike first batch o is = sym (is_eq-slice_cmp first.digest.0 batch.digest.0) ∙ ap is_eq (turned batch.digest first.digest o is)

placed-equal : (first : BatchReference) (rest : List BatchReference) (batch : BatchReference) → compared batch.digest first.digest ≡ Equal → placed (first ∷ rest) batch ≡ first ∷ rest
placed-equal first rest batch is =
    ap (λ o. cond (is_lt o) (batch ∷ first ∷ rest) (cond (bytes_eq first.digest.0 batch.digest.0) (first ∷ rest) (first ∷ placed rest batch))) is
    ∙ ap (λ b. cond b (first ∷ rest) (first ∷ placed rest batch)) (alike first batch Equal is)

placed-greater : (first : BatchReference) (rest : List BatchReference) (batch : BatchReference) → compared batch.digest first.digest ≡ Greater → placed (first ∷ rest) batch ≡ first ∷ placed rest batch
placed-greater first rest batch is =
    ap (λ o. cond (is_lt o) (batch ∷ first ∷ rest) (cond (bytes_eq first.digest.0 batch.digest.0) (first ∷ rest) (first ∷ placed rest batch))) is
    ∙ ap (λ b. cond b (first ∷ rest) (first ∷ placed rest batch)) (alike first batch Greater is)

-- ---- two batches in their places

-- two batches beside a first one, the lesser one first or last
beside : (first : BatchReference) (rest : List BatchReference) (a b : BatchReference) (oa ob : Ordering) → compared a.digest first.digest ≡ oa → compared b.digest first.digest ≡ ob
    → compared a.digest b.digest ≡ Less → placed (placed rest a) b ≡ placed (placed rest b) a → placed (placed (first ∷ rest) a) b ≡ placed (placed (first ∷ rest) b) a
beside first rest a b Less Less la lb less later =
    ap (λ l. placed l b) (placed-less first rest a la) ∙ placed-greater a (first ∷ rest) b (turned a.digest b.digest Less less) ∙ ap (λ l. a ∷ l) (placed-less first rest b lb)
    ∙ sym (ap (λ l. placed l a) (placed-less first rest b lb) ∙ placed-less b (first ∷ rest) a less)
beside first rest a b Less Equal la lb less later =
    ap (λ l. placed l b) (placed-less first rest a la) ∙ placed-greater a (first ∷ rest) b (turned a.digest b.digest Less less) ∙ ap (λ l. a ∷ l) (placed-equal first rest b lb)
    ∙ sym (ap (λ l. placed l a) (placed-equal first rest b lb) ∙ placed-less first rest a la)
beside first rest a b Less Greater la lb less later =
    ap (λ l. placed l b) (placed-less first rest a la) ∙ placed-greater a (first ∷ rest) b (turned a.digest b.digest Less less) ∙ ap (λ l. a ∷ l) (placed-greater first rest b lb)
    ∙ sym (ap (λ l. placed l a) (placed-greater first rest b lb) ∙ placed-less first (placed rest b) a la)
beside first rest a b Equal Less la lb less later =
    let lower : compared a.digest first.digest ≡ Less = nat_list_cmp_total.trans a.digest.0 b.digest.0 first.digest.0 less lb in absurd cc
beside first rest a b Equal Equal la lb less later =
    let same : compared a.digest b.digest ≡ compared first.digest b.digest = nat_list_cmp_total.congr a.digest.0 first.digest.0 b.digest.0 la in
    let flat : compared first.digest b.digest ≡ Equal = turned b.digest first.digest Equal lb in absurd cc
beside first rest a b Equal Greater la lb less later =
    ap (λ l. placed l b) (placed-equal first rest a la) ∙ placed-greater first rest b lb
    ∙ sym (ap (λ l. placed l a) (placed-greater first rest b lb) ∙ placed-equal first (placed rest b) a la)
beside first rest a b Greater Less la lb less later =
    let lower : compared a.digest first.digest ≡ Less = nat_list_cmp_total.trans a.digest.0 b.digest.0 first.digest.0 less lb in absurd cc
beside first rest a b Greater Equal la lb less later =
    ap (λ l. placed l b) (placed-greater first rest a la) ∙ placed-equal first (placed rest a) b lb
    ∙ sym (ap (λ l. placed l a) (placed-equal first rest b lb) ∙ placed-greater first rest a la)
beside first rest a b Greater Greater la lb less later =
    ap (λ l. placed l b) (placed-greater first rest a la) ∙ placed-greater first (placed rest a) b lb ∙ ap (λ l. first ∷ l) later
    ∙ sym (ap (λ l. placed l a) (placed-greater first rest b lb) ∙ placed-greater first (placed rest b) a la)

swapped-less : (batches : List BatchReference) (a b : BatchReference) → compared a.digest b.digest ≡ Less → placed (placed batches a) b ≡ placed (placed batches b) a
swapped-less [] a b less = placed-greater a [] b (turned a.digest b.digest Less less) ∙ sym (placed-less b [] a less)
swapped-less (first ∷ rest) a b less = beside first rest a b (compared a.digest first.digest) (compared b.digest first.digest) refl refl less (swapped-less rest a b less)

swapped_by : (batches : List BatchReference) (a b : BatchReference) (o : Ordering) → compared a.digest b.digest ≡ o → bytes_eq a.digest.0 b.digest.0
    ≡ false → placed (placed batches a) b ≡ placed (placed batches b) a
swapped_by batches a b Less is apart = swapped-less batches a b is
swapped_by batches a b Equal is apart =
    let same : bytes_eq a.digest.0 b.digest.0 ≡ true = sym (is_eq-slice_cmp a.digest.0 b.digest.0) ∙ ap is_eq is in absurd cc
swapped_by batches a b Greater is apart = sym (swapped-less batches b a (turned a.digest b.digest Greater is))

-- two batches of two digests may be put there in either order
swapped : (batches : List BatchReference) (a b : BatchReference) → bytes_eq a.digest.0 b.digest.0 ≡ false → placed (placed batches a) b ≡ placed (placed batches b) a
swapped batches a b apart = swapped_by batches a b (compared a.digest b.digest) refl apart

-- ---- batches of other digests

-- none of the batches has this digest
abbrev pub Absent : Digest → List BatchReference → Type 0
Absent digest batches = AllByRecursion (λ batch. bytes_eq digest.0 batch.digest.0 ≡ false) batches

-- one batch may be put there before the others or after them
swapped-fold : (batches others : List BatchReference) (a : BatchReference) → Absent a.digest others → fold placed (placed batches a) others ≡ placed (fold placed batches others) a
swapped-fold batches [] a absent = refl
swapped-fold batches (b ∷ others) a absent =
    ap (λ l. fold placed l others) (swapped batches a b absent.0) ∙ swapped-fold (placed batches b) others a absent.1

-- a batch among others is put in its place after them
pub one_among : (front back : List BatchReference) (a : BatchReference) → Absent a.digest back → fold placed [] (front ++ a ∷ back) ≡ placed (fold placed [] (front ++ back)) a
one_among front back a absent =
    fold-append placed [] front (a ∷ back) ∙ swapped-fold (fold placed [] front) back a absent ∙ ap (λ l. placed l a) (sym (fold-append placed [] front back))

absent-placed_by : (digest : Digest) (first : BatchReference) (rest : List BatchReference) (batch : BatchReference) (lower same : Bool)
    → bytes_eq digest.0 batch.digest.0 ≡ false → bytes_eq digest.0 first.digest.0 ≡ false → Absent digest rest → Absent digest (placed rest batch)
    → Absent digest (cond lower (batch ∷ first ∷ rest) (cond same (first ∷ rest) (first ∷ placed rest batch)))
absent-placed_by digest first rest batch true same apart one others later = (apart, (one, others))
absent-placed_by digest first rest batch false true apart one others later = (one, others)
absent-placed_by digest first rest batch false false apart one others later = (one, later)

absent-placed : (digest : Digest) (batches : List BatchReference) (batch : BatchReference) → bytes_eq digest.0 batch.digest.0 ≡ false → Absent digest batches → Absent digest (placed batches batch)
absent-placed digest [] batch apart absent = (apart, tt)
absent-placed digest (first ∷ rest) batch apart absent =
    absent-placed_by digest first rest batch (digest_before batch.digest first.digest) (bytes_eq first.digest.0 batch.digest.0) apart absent.0 absent.1 (absent-placed digest rest batch apart absent.1)

absent-fold_on : (digest : Digest) (batches others : List BatchReference) → Absent digest batches → Absent digest others → Absent digest (fold placed batches others)
absent-fold_on digest batches [] absent apart = absent
absent-fold_on digest batches (b ∷ others) absent apart = absent-fold_on digest (placed batches b) others (absent-placed digest batches b apart.0 absent) apart.1

-- what none of the batches has, none has when they are in their places
pub absent-fold : (digest : Digest) (others : List BatchReference) → Absent digest others → Absent digest (fold placed [] others)
absent-fold digest others apart = absent-fold_on digest [] others tt apart

pub absent-append : (digest : Digest) (one other : List BatchReference) → Absent digest one → Absent digest other → Absent digest (one ++ other)
absent-append digest [] other here there = there
absent-append digest (b ∷ one) other here there = (here.0, absent-append digest one other here.1 there)

-- ---- the list without a digest

abbrev pub without : Digest → List BatchReference → List BatchReference
without digest [] = []
without digest (first ∷ rest) = cond (bytes_eq digest.0 first.digest.0) rest (first ∷ without digest rest)

pub without-absent : (digest : Digest) (batches : List BatchReference) → Absent digest batches → without digest batches ≡ batches
without-absent digest [] absent = refl
without-absent digest (first ∷ rest) absent = rw absent.0 (ap (λ l. first ∷ l) (without-absent digest rest absent.1))

itself : (digest : Digest) → bytes_eq digest.0 digest.0 ≡ true
itself digest = (bytes_eq-Decides digest.0 digest.0).1 refl

without-placed_by : (first : BatchReference) (rest : List BatchReference) (batch : BatchReference) (o : Ordering) → compared batch.digest first.digest ≡ o
    → bytes_eq batch.digest.0 first.digest.0 ≡ false → without batch.digest (placed rest batch) ≡ rest → without batch.digest (placed (first ∷ rest) batch) ≡ first ∷ rest
without-placed_by first rest batch Less is apart later =
    ap (without batch.digest) (placed-less first rest batch is) ∙ ap (λ b. cond b (first ∷ rest) (batch ∷ without batch.digest (first ∷ rest))) (itself batch.digest)
without-placed_by first rest batch Equal is apart later =
    let same : bytes_eq batch.digest.0 first.digest.0 ≡ true = sym (is_eq-slice_cmp batch.digest.0 first.digest.0) ∙ ap is_eq is in absurd cc
without-placed_by first rest batch Greater is apart later =
    ap (without batch.digest) (placed-greater first rest batch is) ∙ ap (λ b. cond b (placed rest batch) (first ∷ without batch.digest (placed rest batch))) apart ∙ ap (λ l. first ∷ l) later

-- what was put in its place is taken out again
pub without-placed : (batches : List BatchReference) (batch : BatchReference) → Absent batch.digest batches → without batch.digest (placed batches batch) ≡ batches
without-placed [] batch absent = ap (λ b. cond b [] (batch ∷ [])) (itself batch.digest)
without-placed (first ∷ rest) batch absent =
    without-placed_by first rest batch (compared batch.digest first.digest) refl absent.0 (without-placed rest batch absent.1)

-- ---- the list as a map's entries

inserted_by : (entry : Digest × ℕ) (entries : List (Digest × ℕ)) (digest : Digest) (worker : ℕ) (o : Ordering) → compared digest entry.0 ≡ o → bytes_eq digest.0 entry.0.0 ≡ false
    → map reference_of (insert_entry compared entries digest worker) ≡ placed (map reference_of entries) (reference_of (digest, worker))
    → map reference_of (match_ordering o ((digest, worker) ∷ entry ∷ entries) ((entry.0, worker) ∷ entries) (entry ∷ insert_entry compared entries digest worker))
    ≡ placed (reference_of entry ∷ map reference_of entries) (reference_of (digest, worker))
inserted_by entry entries digest worker Less is apart later = sym (placed-less (reference_of entry) (map reference_of entries) (reference_of (digest, worker)) is)
inserted_by entry entries digest worker Equal is apart later =
    let same : bytes_eq digest.0 entry.0.0 ≡ true = sym (is_eq-slice_cmp digest.0 entry.0.0) ∙ ap is_eq is in absurd cc
inserted_by entry entries digest worker Greater is apart later =
    ap (λ l. reference_of entry ∷ l) later ∙ sym (placed-greater (reference_of entry) (map reference_of entries) (reference_of (digest, worker)) is)

-- a new entry is a batch in its place
pub inserted : (entries : List (Digest × ℕ)) (digest : Digest) (worker : ℕ) → Absent digest (map reference_of entries)
    → map reference_of (insert_entry compared entries digest worker) ≡ placed (map reference_of entries) (reference_of (digest, worker))
inserted [] digest worker absent = refl
inserted (entry ∷ entries) digest worker absent =
    inserted_by entry entries digest worker (compared digest entry.0) refl absent.0 (inserted entries digest worker absent.1)

-- an entry less is a batch less
pub removed : (entries : List (Digest × ℕ)) (digest : Digest) → map reference_of (remove_entry (is_at (compared digest)) entries) ≡ without digest (map reference_of entries)
removed [] digest = refl
removed (entry ∷ entries) digest =
    removed_by entry entries digest (bytes_eq digest.0 entry.0.0) (is_eq-slice_cmp digest.0 entry.0.0) (removed entries digest)
  where
    removed_by : (entry : Digest × ℕ) (entries : List (Digest × ℕ)) (digest : Digest) (same : Bool) → is_eq (compared digest entry.0) ≡ same
        → map reference_of (remove_entry (is_at (compared digest)) entries) ≡ without digest (map reference_of entries)
        → map reference_of (cond (is_eq (compared digest entry.0)) entries (entry ∷ remove_entry (is_at (compared digest)) entries))
        ≡ cond same (map reference_of entries) (reference_of entry ∷ without digest (map reference_of entries))
    removed_by entry entries digest true is later = ap (λ b. map reference_of (cond b entries (entry ∷ remove_entry (is_at (compared digest)) entries))) is
    removed_by entry entries digest false is later = ap (λ b. map reference_of (cond b entries (entry ∷ remove_entry (is_at (compared digest)) entries))) is ∙ ap (λ l. reference_of entry ∷ l) later
