-- That the records of bytes are bytes.
use Rattle.std.proofs.Common.{◌≡◌, ℕ, ◌+◌, ◌<◌, ◌≤◌, inl, inr, List, [], ◌∷◌, ◌++◌, length, map, Result, Ok, refl, sym, ◌∙◌, subst}
use Rattle.std.specs.Prelude.{All}
use Rattle.std.specs.Int.{w32, to_be_bytes}
use Rattle.std.proofs.lemmas.Bool.{cases_lt}
use Rattle.std.proofs.lemmas.List.{take_at, drop_at}
use Rattle.std.proofs.lemmas.List.Elements.{All-nil, All-cons, All-append, All-tail, All-take, All-drop}
use Rattle.diskmodel.specs.Outcomes.{AreBytes}
use Rattle.journal.specs.Format.{body_len, record_bytes, body_bytes, sized_body, Gated, with_gate, in_turn, kept_at, kept, all_kept, stands, AreGroups}
use Rattle.journal.specs.declared.record.Record.{Record}
use Rattle.journal.proofs.Walks.{stands_short}
use Rattle.opening.specs.Decoded.{IsText}

-- what a file of two bytes or more stands for are the records of groups: a law of the journal
abbrev pub OnlyGroups : Type 0
OnlyGroups = (bytes : List ℕ) (records : List Record) → AreBytes bytes → 2 ≤ length bytes → stands bytes ≡ Ok records → AreGroups bytes records

front_part : (front after : List ℕ) → AreBytes (front ++ after) → AreBytes front
front_part front after are = subst AreBytes (take_at front after (length front) refl) (All-take (λ byte. byte < 256) (length front) (front ++ after) are)

back_part : (front after : List ℕ) → AreBytes (front ++ after) → AreBytes after
back_part front after are = subst AreBytes (drop_at front after (length front) refl) (All-drop (λ byte. byte < 256) (length front) (front ++ after) are)

kept_texts : (gate : ℕ) (records : List (List ℕ)) → AreBytes (body_bytes records) → All IsText (kept gate records)
kept_texts gate [] are = All-nil IsText
kept_texts gate (bytes ∷ records) are =
    All-cons IsText (kept_at gate bytes) (kept gate records)
    (back_part (to_be_bytes w32 (length bytes)) bytes (front_part (record_bytes bytes) (body_bytes records) are))
    (kept_texts gate records (back_part (record_bytes bytes) (body_bytes records) are))

groups_texts : (gate : ℕ) (groups : List Gated) → AreBytes (in_turn groups) → All IsText (all_kept gate (map (λ group. group.records) groups))
groups_texts gate [] are = All-nil IsText
groups_texts gate (group ∷ groups) are =
    let sized : AreBytes (sized_body group.records) = All-tail (λ byte. byte < 256) group.gate (sized_body group.records) (front_part (with_gate group) (in_turn groups) are) in
    let next = gate + 1 + length (sized_body group.records) in
    All-append IsText (kept gate group.records) (all_kept next (map (λ one. one.records) groups))
    (kept_texts gate group.records (back_part (to_be_bytes w32 (body_len group.records)) (body_bytes group.records) sized))
    (groups_texts next groups (back_part (with_gate group) (in_turn groups) are))

ok_is : (one other : List Record) → ◌≡◌ {A = Result (List Record) ℕ} (Ok one) (Ok other) → one ≡ other
ok_is one other same = cc

pub stands_texts : OnlyGroups → (bytes : List ℕ) (records : List Record) → AreBytes bytes → stands bytes ≡ Ok records → All IsText records
stands_texts only bytes records are is =
    elim (cases_lt (length bytes) 2) [
      | inl short ↦ subst (All IsText) (ok_is [] records (sym (stands_short bytes short) ∙ is)) (All-nil IsText)
      | inr long ↦
          let found = only bytes records are long is in
          subst (All IsText) (sym found.found) (groups_texts 0 found.groups (front_part (in_turn found.groups) (0 ∷ found.after) (subst AreBytes found.written are)))
    ]
