-- How a DAG changes when a certificate is added, when certificates are marked, and when rounds are dropped.
use Rattle.std.specs.Prelude.{◌≡◌, ◌≤◌, ℕ, ◌+◌, ◌==◌, ◌&&◌, ◌||◌, nat_lt, max, Bool, false, [], ◌∷◌, is_some, None, if◌then◌else◌}
use Rattle.std.specs.Option.{option_or}
use Rattle.spec_model.specs.Slots.{slots_of}
use Rattle.spec_model.specs.Words.{Certificate}
use Rattle.dag.specs.Graph.{DagView, slots_in, marked_in, end_in}

-- the certificate was added without a mark, to a slot that held none. Rows were added up to its round, which is at most one above the last
-- row
pub record IsWith (before after : DagView) (certificate : Certificate) : Type 0 where
  pub charter : after.charter ≡ before.charter
  pub floor : after.floor ≡ before.floor
  pub base : after.base ≡ before.base
  pub slots : (round author : ℕ) → slots_in after round author ≡ option_or (slots_in before round author) (slots_of (certificate ∷ []) round author)
  pub marked : (round author : ℕ) → marked_in after round author ≡ marked_in before round author
  pub end : end_in after ≡ max (end_in before) (certificate.header.round + 1)
  pub near : certificate.header.round ≤ max (end_in before) (before.floor + 1)

-- the certificates that these authors have in a round are marked now
pub record IsMarked (before after : DagView) (round : ℕ) (authors : ℕ → Bool) : Type 0 where
  pub charter : after.charter ≡ before.charter
  pub floor : after.floor ≡ before.floor
  pub base : after.base ≡ before.base
  pub slots : (r a : ℕ) → slots_in after r a ≡ slots_in before r a
  pub marked : (r a : ℕ) → marked_in after r a ≡ (marked_in before r a || ((r == round) && (authors a && is_some (slots_in before r a))))
  pub end : end_in after ≡ end_in before

-- all certificates below this round were dropped, and the floor was moved up to it
pub record IsDropped (before after : DagView) (round : ℕ) : Type 0 where
  pub charter : after.charter ≡ before.charter
  pub floor : after.floor ≡ max before.floor round
  pub base : after.base ≡ before.base
  pub slots : (r a : ℕ) → slots_in after r a ≡ (if nat_lt r round then None else slots_in before r a)
  pub marked : (r a : ℕ) → marked_in after r a ≡ (if nat_lt r round then false else marked_in before r a)
  pub end : end_in after ≡ max (end_in before) round
