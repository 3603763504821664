-- What is known of a certificate that a DAG answers is new.
use Rattle.std.proofs.Common.{◌≡◌, Bool, true, false, Option, Some, None, refl}
use Rattle.std.specs.Prelude.{not, Result, Ok, Err, if◌then◌else◌}
use Rattle.std.specs.Option.{option_map_or}
use Rattle.spec_model.specs.Admitting.{same_header}
use Rattle.spec_model.specs.Holdings.{is_low, all_held}
use Rattle.spec_model.specs.Slots.{same_digest, certificate_digest}
use Rattle.spec_model.specs.Words.{Certificate}
use Rattle.dag.specs.Answer.{held_answer, free_answer, answer}
use Rattle.dag.specs.Graph.{DagView, slots_in}
use Rattle.dag.specs.declared.answers.Added.{Added}
use Rattle.dag.specs.declared.answers.Added.TheVariants.{New, Known}
use Rattle.dag.specs.declared.refusal.DagRefusal.{DagRefusal}
use Rattle.dag.specs.declared.refusal.DagRefusal.TheVariants.{Memory, TooOld, CertConflict, DigestClash, MissingParents}

pub record IsNew (graph : DagView) (c : Certificate) : Type 0 where
  pub high : is_low graph.floor c.header.round ≡ false
  pub free : slots_in graph c.header.round c.header.author.0 ≡ None
  pub held : all_held (slots_in graph) graph.floor c.header ≡ true

never : (digest header : Bool) → ◌≡◌ {A = Result Added DagRefusal} (if not digest then Err CertConflict else if header then Ok Known else Err DigestClash) (Ok New) → ⊥
never false header is = absurd cc
never true true is = absurd cc
never true false is = absurd cc

parts : (c : Certificate) (low all : Bool) (slot : Option Certificate)
    → ◌≡◌ {A = Result Added DagRefusal} (if low then Err TooOld else option_map_or (λ held. held_answer held c) slot (if not all then Err MissingParents else Ok New)) (Ok New)
    → (low ≡ false) × (slot ≡ None) × (all ≡ true)
parts c true all slot is = absurd cc
parts c false true None is = (refl, refl, refl)
parts c false false None is = absurd cc
parts c false all (Some held) is = absurd (never (same_digest (certificate_digest held.header) (certificate_digest c.header)) (same_header held.header c.header) is)

pub is_new : (graph : DagView) (c : Certificate) → answer graph c ≡ Ok New → IsNew graph c
is_new graph c is =
    let all = parts c (is_low graph.floor c.header.round) (all_held (slots_in graph) graph.floor c.header) (slots_in graph c.header.round c.header.author.0) is in
    record { high = all.0; free = all.1; held = all.2 }

pub answer_held : (graph : DagView) (c held : Certificate) → is_low graph.floor c.header.round ≡ false
    → slots_in graph c.header.round c.header.author.0 ≡ Some held → answer graph c ≡ held_answer held c
answer_held graph c held high there = rw (high, there) refl

pub answer_free : (graph : DagView) (c : Certificate) → is_low graph.floor c.header.round ≡ false → slots_in graph c.header.round c.header.author.0 ≡ None → answer graph c ≡ free_answer graph c
answer_free graph c high none = rw (high, none) refl

held_or_clash : (digest header : Bool) → ◌≡◌ {A = Result Added DagRefusal} (if not digest then Err CertConflict else if header then Ok Known else Err DigestClash) (Err Memory) → ⊥
held_or_clash false header is = absurd cc
held_or_clash true true is = absurd cc
held_or_clash true false is = absurd cc

of_none : (c : Certificate) (low all : Bool) (slot : Option Certificate)
    → ◌≡◌ {A = Result Added DagRefusal} (if low then Err TooOld else option_map_or (λ held. held_answer held c) slot (if not all then Err MissingParents else Ok New)) (Err Memory) → ⊥
of_none c true all slot is = absurd cc
of_none c false true None is = absurd cc
of_none c false false None is = absurd cc
of_none c false all (Some held) is = held_or_clash (same_digest (certificate_digest held.header) (certificate_digest c.header)) (same_header held.header c.header) is

-- an answer is of no refused growth
pub never_memory : (graph : DagView) (c : Certificate) → answer graph c ≡ Err Memory → ⊥
never_memory graph c is = of_none c (is_low graph.floor c.header.round) (all_held (slots_in graph) graph.floor c.header) (slots_in graph c.header.round c.header.author.0) is
