-- Two headers with the same fields are the same.
use Rattle.std.proofs.Common.{◌≡◌, ℕ, List, refl, ap, ◌∙◌}
use Rattle.std.specs.Bool.{Decides}
use Rattle.std.specs.Cmp.Lexicographic.{pointwise}
use Rattle.std.specs.Prelude.{◌==◌, ◌&&◌}
use Rattle.std.proofs.lemmas.Bool.Decides.{Decides-eqb, Decides-and, Decides-like}
use Rattle.std.proofs.lemmas.Slice.Eq.{bytes_eq-Decides, slice_eq-Decides}
use Rattle.spec_model.specs.Admitting.{same_batch, same_parent, same_header}
use Rattle.spec_model.specs.Slots.{same_digest}
use Rattle.spec_model.specs.Words.{Author, BatchReference, Digest, HeaderBody, ParentReference}

-- digests of the same bytes are the same
pub digests : (one other : Digest) → Decides (same_digest one other) (one ≡ other)
digests one other =
    Decides-like (same_digest one other) (λ same. ap (λ (bytes : List ℕ). let d : Digest = record { 0 = bytes } in d) same) (λ same. ap (λ (d : Digest). d.0) same)
    (bytes_eq-Decides one.0 other.0)

-- authors of one number are the same
pub authors : (one other : Author) → Decides (one.0 == other.0) (one ≡ other)
authors one other =
    Decides-like (one.0 == other.0) (λ same. ap (λ (n : ℕ). let a : Author = record { 0 = n } in a) same) (λ same. ap (λ (a : Author). a.0) same)
    (Decides-eqb one.0 other.0)

-- so are references to batches
pub batches : (one other : BatchReference) → Decides (same_batch one other) (one ≡ other)
batches one other =
    Decides-like (same_batch one other)
    (λ (digest, worker). ap (λ (d : Digest). let b : BatchReference = record { digest = d; worker = one.worker } in b) digest
    ∙ ap (λ (n : ℕ). let b : BatchReference = record { digest = other.digest; worker = n } in b) worker)
    (λ same. (ap (λ (b : BatchReference). b.digest) same, ap (λ (b : BatchReference). b.worker) same))
    (Decides-and (same_digest one.digest other.digest) (one.worker == other.worker) (digests one.digest other.digest) (Decides-eqb one.worker other.worker))

-- and to parents
pub parents : (one other : ParentReference) → Decides (same_parent one other) (one ≡ other)
parents one other =
    Decides-like (same_parent one other)
    (λ (author, certificate). ap (λ (a : Author). let p : ParentReference = record { author = a; certificate = one.certificate } in p) author
    ∙ ap (λ (d : Digest). let p : ParentReference = record { author = other.author; certificate = d } in p) certificate)
    (λ same. (ap (λ (p : ParentReference). p.author) same, ap (λ (p : ParentReference). p.certificate) same))
    (Decides-and (one.author.0 == other.author.0) (same_digest one.certificate other.certificate) (authors one.author other.author) (digests one.certificate other.certificate))

-- and headers with the same fields
pub headers : (one other : HeaderBody) → Decides (same_header one other) (one ≡ other)
headers one other =
    Decides-like (same_header one other)
    (λ (first, lists).
    ap (λ (a : Author). let h : HeaderBody = record { author = a; round = one.round; batches = one.batches; parents = one.parents } in h) first.0
    ∙ ap (λ (r : ℕ). let h : HeaderBody = record { author = other.author; round = r; batches = one.batches; parents = one.parents } in h) first.1
    ∙ ap (λ (l : List BatchReference). let h : HeaderBody = record { author = other.author; round = other.round; batches = l; parents = one.parents } in h) lists.0
    ∙ ap (λ (l : List ParentReference). let h : HeaderBody = record { author = other.author; round = other.round; batches = other.batches; parents = l } in h) lists.1)
    (λ same. ((ap (λ (h : HeaderBody). h.author) same, ap (λ (h : HeaderBody). h.round) same), (ap (λ (h : HeaderBody). h.batches) same, ap (λ (h : HeaderBody). h.parents) same)))
    (Decides-and ((one.author.0 == other.author.0) && (one.round == other.round)) (pointwise same_batch one.batches other.batches && pointwise same_parent one.parents other.parents)
    (Decides-and (one.author.0 == other.author.0) (one.round == other.round) (authors one.author other.author) (Decides-eqb one.round other.round))
    (Decides-and (pointwise same_batch one.batches other.batches) (pointwise same_parent one.parents other.parents)
    (slice_eq-Decides batches one.batches other.batches (pointwise same_batch one.batches other.batches) refl)
    (slice_eq-Decides parents one.parents other.parents (pointwise same_parent one.parents other.parents) refl)))
