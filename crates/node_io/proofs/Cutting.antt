-- One byte more of a stream.
use Rattle.std.proofs.Common.{◌≡◌, ℕ, ◌≤◌, List, [], ◌∷◌, ◌++◌, length, take, Vec, sym, ap, subst, ◌∙◌}
use Rattle.std.specs.declared.alloc.Global.{Global}
use Rattle.std.proofs.lemmas.List.{append_assoc, append-nil, map-append, take-take, take-append-le}
use Rattle.wire_read.specs.Frames.{Splits, Breaks, bodies_bytes}
use Rattle.node_io.specs.Cutting.{Takes, BreaksWith}

pub takes_more : (held mid later taken : List ℕ) (byte : ℕ) (all more every : List (Vec ℕ Global)) → every ≡ all ++ more
    → Takes held taken (bodies_bytes all) mid → Takes mid (byte ∷ []) (bodies_bytes more) later → Takes held (taken ++ byte ∷ []) (bodies_bytes every) later
takes_more held mid later taken byte all more every joined one two = record {
  splits = λ stream before splits.
      let both = two.splits (stream ++ taken) (before ++ bodies_bytes all) (one.splits stream before splits) in
      let bodies : (before ++ bodies_bytes all) ++ bodies_bytes more ≡ before ++ bodies_bytes every =
      append_assoc before (bodies_bytes all) (bodies_bytes more)
      ∙ ap (λ l. before ++ l) (sym (map-append (λ (body : Vec ℕ Global). body.items) all more)) ∙ ap (λ l. before ++ bodies_bytes l) (sym joined)
      in
      subst (λ s. Splits s (before ++ bodies_bytes every) later) (append_assoc stream taken (byte ∷ []))
      (subst (λ b. Splits ((stream ++ taken) ++ byte ∷ []) b later) bodies both);
}

pub parts_more : (piece taken rest after : List ℕ) (byte : ℕ) → piece ≡ taken ++ rest → rest ≡ byte ∷ after → piece ≡ (taken ++ byte ∷ []) ++ after
parts_more piece taken rest after byte parts is = parts ∙ ap (λ l. taken ++ l) is ∙ sym (append_assoc taken (byte ∷ []) after)

pub breaks_more : (held mid taken : List ℕ) (byte : ℕ) (bodies : List (List ℕ)) → Takes held taken bodies mid → BreaksWith mid (byte ∷ []) → BreaksWith held (taken ++ byte ∷ [])
breaks_more held mid taken byte bodies one breaks stream before splits =
    subst Breaks (append_assoc stream taken (byte ∷ [])) (breaks (stream ++ taken) (before ++ bodies) (one.splits stream before splits))

pub takes_none : (held : List ℕ) → Takes held [] [] held
takes_none held = record {
  splits = λ stream before splits.
      subst (λ s. Splits s (before ++ []) held) (sym (append-nil stream))
      (subst (λ b. Splits stream b held) (sym (append-nil before)) splits);
}

-- what a read put at the front of a longer buffer
pub front_same : (count len : ℕ) (bytes rest : List ℕ) → count ≤ length bytes → count ≤ len → take count (take len (bytes ++ rest)) ≡ take count bytes
front_same count len bytes rest within shorter = take-take _ _ _ shorter ∙ take-append-le _ _ _ within
