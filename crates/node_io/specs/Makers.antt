-- The batch makers of a node, one for each of its workers, as the transactions that each has gathered.
use Rattle.std.specs.Prelude.{◌≡◌, ◌≢◌, ℕ, zero, suc, List, [], ◌∷◌, ◌++◌, length, Option, Some, IsNone, IfSome, IsTrue, ◌↔◌, slice_get, slice_set}
use Rattle.batchmaker.specs.Giving.{given}
use Rattle.wire.specs.Batches.{BatchView, has_room}
use Rattle.wire.specs.declared.keys.Author.{Author}

-- the makers of an author with this many workers; none of them has a transaction yet
abbrev pub fresh_makers : Author → ℕ → List BatchView
fresh_makers own zero = []
fresh_makers own (suc worker) = fresh_makers own worker ++ record { author = own; worker = worker; transactions = [] } ∷ []

-- the maker of this worker has changed, and the others have not
pub record Becomes (worker : ℕ) (maker next : BatchView) (before later : List BatchView) : Type 0 where
  pub was : slice_get before worker ≡ Some maker
  pub is : later ≡ slice_set before worker next

-- A worker's open batch got a transaction. If it had no room for that, it was closed and handed out, and the transaction begins the next
-- batch.
pub record IsPushed (worker : ℕ) (transaction : List ℕ) (full : Option BatchView) (before later : List BatchView) : Type 0 where
  pub maker : BatchView
  pub next : BatchView
  pub becomes : Becomes worker maker next before later
  pub author : next.author ≡ maker.author
  pub number : next.worker ≡ maker.worker
  pub kept : IsNone full ↔ IsTrue (has_room maker.transactions (length transaction))
  pub whole : IfSome full (λ batch. batch ≡ maker)
  pub some : IfSome full (λ batch. batch.transactions ≢ [])
  pub each_once : given full ++ next.transactions ≡ maker.transactions ++ transaction ∷ []

-- A worker's open batch was closed and handed out, if it had a transaction; the next batch is empty.
pub record IsSealed (worker : ℕ) (sealed : Option BatchView) (before later : List BatchView) : Type 0 where
  pub maker : BatchView
  pub becomes : Becomes worker maker (record maker { transactions = [] }) before later
  pub none : IsNone sealed ↔ (maker.transactions ≡ [])
  pub whole : IfSome sealed (λ batch. batch ≡ maker)
