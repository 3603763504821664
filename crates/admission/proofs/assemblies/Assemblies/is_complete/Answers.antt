use Rattle.std.proofs.Common.{◌∙◌, ap, sym, false, Some, None}
use Rattle.std.specs.Option.{option_map_or}
use Rattle.certify.specs.Assembled.{AssemblyView}
use Rattle.admission.specs.Headers.{AssembliesView}
use Rattle.admission.proofs.Looking.{looked}
use Rattle.admission.proofs.assemblies.Assemblies.is_complete.Goals as goal

pub returns-in-Some : goal.returns-in-Some
returns-in-Some c =
    let inside : AssembliesView = record { charter = c.self.inside.committee.now; own = c.self.inside.own.0; rounds = c.self.inside.rounds.entries } in
    c.is_complete.ensures ∙ sym (ap (λ o. option_map_or (λ (a : AssemblyView). a.complete) o false)
    (looked inside c.args.self.now c.number.result c.args.round (Some c.in-Some.assembly.now) c.in-Some.ensures.value c.number.ensures.value
    c.self.view_is))

pub returns-in-None : goal.returns-in-None
returns-in-None c =
    let inside : AssembliesView = record { charter = c.self.inside.committee.now; own = c.self.inside.own.0; rounds = c.self.inside.rounds.entries } in
    sym (ap (λ o. option_map_or (λ (a : AssemblyView). a.complete) o false)
    (looked inside c.args.self.now c.number.result c.args.round None c.in-None.ensures.value c.number.ensures.value c.self.view_is))
