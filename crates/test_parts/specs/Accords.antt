-- What the tests check of the histories of two nodes: that their certificates agree.
use Rattle.std.specs.Prelude.{◌≡◌, ℕ, Bool, true, List, slice_get}
use Rattle.std.specs.List.{list_all}
use Rattle.std.specs.Option.{option_map_or}
use Rattle.committee.specs.Charter.{Charter}
use Rattle.spec_model.specs.Admitting.{same_header}
use Rattle.spec_model.specs.Slots.{Slots, slots_of}
use Rattle.spec_model.specs.Words.{Certificate}

-- if both histories have a certificate for this round and author, both certificates certify the same header
abbrev pub has_one_header : Slots → Slots → ℕ → ℕ → Bool
has_one_header one other round author =
    option_map_or (λ c. option_map_or (λ d. same_header c.header d.header) (other round author) true) (one round author) true

-- for each certificate of the first list: the second list has no certificate of the same round and author with another header
abbrev pub have_one_header : List Certificate → List Certificate → Bool
have_one_header one other =
    list_all (λ c. has_one_header (slots_of one) (slots_of other) c.header.round c.header.author.0) one

-- a member has the same key and the same stake in both committees
pub record IsSameMember (one other : Charter) (member : ℕ) : Type 0 where
  pub key : slice_get one.keys member ≡ slice_get other.keys member
  pub stake : slice_get one.stakes member ≡ slice_get other.stakes member
