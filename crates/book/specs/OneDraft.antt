-- The bytes of a group that is being filled determine its records.
use Rattle.std.specs.Prelude.{◌≡◌, ℕ, ◌≤◌, List, ◌++◌, length, take, drop}
use Rattle.std.proofs.Common.{sym, ◌∙◌, ap, subst}
use Rattle.std.proofs.Props.{props}
use Rattle.std.proofs.lemmas.List.{take_at, drop_at}
use Rattle.journal.specs.declared.layout.TheConstants.{LENGTH_BYTES, MAX_GROUP_BYTES, MAX_GROUP_RECORDS}
use Rattle.journal.specs.Format.{body_len, body_bytes}
use Rattle.journal.specs.OneGroup.{same_body}
use Rattle.book.specs.Pending.{IsDraft}

module _ (bytes : List ℕ) (count : ℕ) where
  -- what `IsDraft` says of some records, and of the bytes of the room before their body
  abbrev Said : List (List ℕ) × List ℕ → Type 0
  Said parts = (length parts.0 ≤ MAX_GROUP_RECORDS) × (body_len parts.0 ≤ MAX_GROUP_BYTES) × (length parts.1 ≡ LENGTH_BYTES) × (bytes ≡ parts.1 ++ body_bytes parts.0) × (count ≡ length parts.0)

  said_once : (parts : List (List ℕ) × List ℕ) → IsProp (Said parts)
  said_once parts = hlevel props

  abbrev made : (parts : List (List ℕ) × List ℕ) → Said parts → IsDraft bytes count
  made parts said = record { records = parts.0; not_many = said.0; not_long = said.1; front = parts.1; room = said.2; written = said.3; counts = said.4 }

  made_once : (a b : List (List ℕ) × List ℕ) → a ≡ b → (p : Said a) (q : Said b) → made a p ≡ made b q
  made_once a b same p q = subst (λ (r : List (List ℕ) × List ℕ). (s : Said r) → made a p ≡ made r s) same (λ s. ap (made a) (said_once a p s)) q

  -- a draft's records are those from which its bytes were made
  pub records_of_draft : (draft : IsDraft bytes count) (records : List (List ℕ)) (front : List ℕ) → body_len records ≤ MAX_GROUP_BYTES → length front
      ≡ LENGTH_BYTES → bytes ≡ front ++ body_bytes records → draft.records ≡ records
  records_of_draft draft records front short room written =
      let after = sym (drop_at draft.front (body_bytes draft.records) LENGTH_BYTES draft.room) ∙ ap (drop LENGTH_BYTES) (sym draft.written ∙ written)
      ∙ drop_at front (body_bytes records) LENGTH_BYTES room in
      same_body draft.records records draft.not_long short after

  same_front : (one other : List ℕ) (a b : List ℕ) → length one ≡ LENGTH_BYTES → length other ≡ LENGTH_BYTES → one ++ a ≡ other ++ b → one ≡ other
  same_front one other a b long also same = sym (take_at one a LENGTH_BYTES long) ∙ ap (take LENGTH_BYTES) same ∙ take_at other b LENGTH_BYTES also

  -- there is at most one way in which bytes are a draft: they have one list of records
  pub one_draft : IsProp (IsDraft bytes count)
  one_draft x y =
      let records = records_of_draft x y.records y.front y.not_long y.room y.written in
      let front = same_front x.front y.front (body_bytes x.records) (body_bytes y.records) x.room y.room (sym x.written ∙ y.written) in
      made_once (x.records, x.front) (y.records, y.front) (λ i. (records i, front i)) (x.not_many, x.not_long, x.room, x.written, x.counts) (y.not_many, y.not_long, y.room, y.written, y.counts)
