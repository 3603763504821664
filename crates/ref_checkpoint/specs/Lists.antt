-- Lists of records, as contracts see them.
use Rattle.std.specs.Prelude.{ℕ, List, map, Vec}
use Rattle.std.specs.declared.alloc.Global.{Global}

-- the bytes of each of these records
abbrev pub contents : List (Vec ℕ Global) → List (List ℕ)
contents records = map (λ row. row.items) records
