-- The steps of the loops that read a body and a file.
use Rattle.std.proofs.Common.{◌≡◌, ◌≢◌, ℕ, ◌+◌, ◌<◌, List, [], ◌∷◌, ◌++◌, length, drop, get_or, Option, Some, None, Result, Ok, Err, refl, sym, ◌∙◌, ap, arith, append_assoc, length-drop}
use Rattle.std.specs.Option.{option_map}
use Rattle.std.proofs.lemmas.List.{append-nil, drop_more, drop-drop}
use Rattle.journal.specs.declared.record.Record.{Record}
use Rattle.journal.specs.Format.{split_record, records_of, group_of, body_at, kept, kept_at, with_front, walk}
use Rattle.journal.proofs.Bytes.{splits, records_nil, records_none, records_some}
use Rattle.journal.proofs.Walks.{with_front-append, walk_closed, walk_no_body, walk_no_group, walk_group, body_stands}

-- the records so far, and then those of the rest
abbrev pub so_far : ℕ → List Record → Option (List (List ℕ)) → Option (List Record)
so_far gate records rest = option_map (λ others. records ++ kept gate others) rest

pub body_none : (gate : ℕ) (records : List Record) (rest : List ℕ) (whole : Option (List Record)) → so_far gate records (records_of rest) ≡ whole → rest ≢ [] → None ≡ split_record rest → None ≡ whole
body_none gate records rest whole is some none = sym (ap (so_far gate records) (records_none rest some (sym none))) ∙ is

pub body_shorter : (rest front after : List ℕ) → Some (front, after) ≡ split_record rest → length after < length rest
body_shorter rest front after is =
    let parts = splits rest (front, after) (sym is) in
    omega (arith, parts.header, ap length parts.is_after, length-drop (4 + length front) rest)

push_first : (gate : ℕ) (records : List Record) (front : List ℕ) (o : Option (List (List ℕ))) → so_far gate (records ++ kept_at gate front ∷ []) o
    ≡ so_far gate records (option_map (λ others. front ∷ others) o)
push_first gate records front None = refl
push_first gate records front (Some others) = ap Some (append_assoc records (kept_at gate front ∷ []) (kept gate others))

pub body_more : (gate : ℕ) (records more : List Record) (rest front after : List ℕ) (whole : Option (List Record))
    → so_far gate records (records_of rest) ≡ whole → Some (front, after) ≡ split_record rest
    → more ≡ records ++ kept_at gate front ∷ [] → so_far gate more (records_of after) ≡ whole
body_more gate records more rest front after whole is split pushed =
    ap (λ (l : List Record). so_far gate l (records_of after)) pushed
    ∙ push_first gate records front (records_of after)
    ∙ sym (ap (so_far gate records) (records_some rest (front, after) (sym split)))
    ∙ is

pub body_all : (gate : ℕ) (records : List Record) (rest : List ℕ) (whole : Option (List Record)) → so_far gate records (records_of rest) ≡ whole → rest ≡ [] → Some records ≡ whole
body_all gate records rest whole is none =
    ap Some (sym (append-nil records)) ∙ sym (ap (so_far gate records) (ap records_of none ∙ records_nil)) ∙ is

module _ (base : ℕ) (bytes : List ℕ) (gate : ℕ) (inside : gate < length bytes) (records : List Record) (whole : Result (List Record × ℕ) ℕ)
    (found : with_front records (walk (base + gate) 0 (drop gate bytes)) ≡ whole) where
  at_gate : walk (base + gate) 0 (drop gate bytes) ≡ walk (base + gate) 0 (get_or bytes gate 0 ∷ drop (gate + 1) bytes)
  at_gate = ap (λ (l : List ℕ). walk (base + gate) 0 l) (drop_more bytes gate 0 inside)

  pub file_closed : get_or bytes gate 0 ≡ 0 → whole ≡ Ok (records, base + gate)
  file_closed shut =
      sym found ∙ ap (with_front records) (at_gate ∙ walk_closed (base + gate) (get_or bytes gate 0) (drop (gate + 1) bytes) shut)
      ∙ ap (λ (l : List Record). Ok (l, base + gate)) (append-nil records)

  pub file_no_body : get_or bytes gate 0 ≢ 0 → None ≡ body_at (drop (gate + 1) bytes) → whole ≡ Err (base + gate)
  file_no_body is_open none = sym found ∙ ap (with_front records) (at_gate ∙ walk_no_body (base + gate) (get_or bytes gate 0) (drop (gate + 1) bytes) is_open (sym none))

  pub file_no_group : (body : List ℕ) → get_or bytes gate 0 ≢ 0 → Some body ≡ body_at (drop (gate + 1) bytes) → group_of body ≡ None → whole ≡ Err (base + gate)
  file_no_group body is_open is none =
      sym found ∙ ap (with_front records) (at_gate ∙ walk_no_group (base + gate) (get_or bytes gate 0) (drop (gate + 1) bytes) body is_open (sym is) none)

  pub file_inside : (body : List ℕ) → Some body ≡ body_at (drop (gate + 1) bytes) → gate + (5 + length body) < length bytes
  file_inside body is = omega (arith, (body_stands (drop (gate + 1) bytes) body (sym is)).inside, length-drop (gate + 1) bytes)

  pub file_more : (body : List ℕ) (group : List (List ℕ)) → get_or bytes gate 0 ≢ 0 → Some body ≡ body_at (drop (gate + 1) bytes) → group_of body ≡ Some group
      → with_front (records ++ kept (base + gate) group) (walk (base + (gate + (5 + length body))) 0 (drop (gate + (5 + length body)) bytes)) ≡ whole
  file_more body group is_open is is_group =
      let same : gate + 1 + (4 + length body) ≡ gate + (5 + length body) = omega arith in
      let place : base + (gate + (5 + length body)) ≡ base + gate + (5 + length body) = omega arith in
      let after : drop (4 + length body) (drop (gate + 1) bytes) ≡ drop (gate + (5 + length body)) bytes = drop-drop (4 + length body) (gate + 1) bytes ∙ ap (λ (n : ℕ). drop n bytes) same in
      let next = walk (base + gate + (5 + length body)) 0 (drop (gate + (5 + length body)) bytes) in
      ap (λ (n : ℕ). with_front (records ++ kept (base + gate) group) (walk n 0 (drop (gate + (5 + length body)) bytes))) place
      ∙ with_front-append records (kept (base + gate) group) next
      ∙ ap (with_front records) (sym (at_gate ∙ walk_group (base + gate) (get_or bytes gate 0) (drop (gate + 1) bytes) body group is_open (sym is) is_group
      ∙ ap (λ (l : List ℕ). with_front (kept (base + gate) group) (walk (base + gate + (5 + length body)) 0 l)) after))
      ∙ found

-- a group that was read, by its records with their gate
pub group_found : (gate : ℕ) (records : List Record) (o : Option (List (List ℕ))) → Some records ≡ option_map (kept gate) o → (group : List (List ℕ)) × (o ≡ Some group) × (records ≡ kept gate group)
group_found gate records None is = absurd (cc)
group_found gate records (Some group) is = (group, refl, (cc))

pub group_missed : (gate : ℕ) (o : Option (List (List ℕ))) → None ≡ option_map (kept gate) o → o ≡ None
group_missed gate None is = refl
group_missed gate (Some group) is = absurd (cc)
