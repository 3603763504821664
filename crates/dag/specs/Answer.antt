-- What a DAG answers to a certificate: the first test that applies decides.
use Rattle.std.specs.Prelude.{not, Result, Ok, Err, if◌then◌else◌}
use Rattle.std.specs.Option.{option_map_or}
use Rattle.spec_model.specs.Admitting.{same_header}
use Rattle.spec_model.specs.Holdings.{is_low, all_held}
use Rattle.spec_model.specs.Slots.{same_digest, certificate_digest}
use Rattle.spec_model.specs.Words.{Certificate}
use Rattle.dag.specs.Graph.{DagView, slots_in}
use Rattle.dag.specs.declared.answers.Added.{Added}
use Rattle.dag.specs.declared.answers.Added.TheVariants.{New, Known}
use Rattle.dag.specs.declared.refusal.DagRefusal.{DagRefusal}
use Rattle.dag.specs.declared.refusal.DagRefusal.TheVariants.{TooOld, CertConflict, DigestClash, MissingParents}

-- the answer to a certificate whose slot holds this certificate already
abbrev pub held_answer : Certificate → Certificate → Result Added DagRefusal
held_answer held certificate =
    if not (same_digest (certificate_digest held.header) (certificate_digest certificate.header)) then Err CertConflict
    else if same_header held.header certificate.header then Ok Known
    else Err DigestClash

-- the answer to a certificate whose slot holds none
abbrev pub free_answer : DagView → Certificate → Result Added DagRefusal
free_answer graph certificate = if not (all_held (slots_in graph) graph.floor certificate.header) then Err MissingParents else Ok New

abbrev pub answer : DagView → Certificate → Result Added DagRefusal
answer graph certificate =
    if is_low graph.floor certificate.header.round then Err TooOld
    else option_map_or (λ held. held_answer held certificate) (slots_in graph certificate.header.round certificate.header.author.0) (free_answer graph certificate)
