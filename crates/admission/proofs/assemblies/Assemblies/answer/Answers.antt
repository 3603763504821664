use Rattle.std.proofs.Common.{sym, Some, None}
use Rattle.admission.specs.Headers.{AssembliesView}
use Rattle.admission.proofs.Looking.{looked, answer_of}
use Rattle.admission.proofs.assemblies.Assemblies.answer.Goals as goal

pub returns-in-Some : goal.returns-in-Some
returns-in-Some c =
    let inside : AssembliesView = record { charter = c.self.inside.committee.now; own = c.self.inside.own.0; rounds = c.self.inside.rounds.entries } in
    rw (answer_of c.args.self.now c.args.vote.now (Some c.in-Some.assembly.now)
    (looked inside c.args.self.now c.number.result c.args.vote.now.round (Some c.in-Some.assembly.now) c.in-Some.ensures.value
    c.number.ensures.value c.self.view_is))
    c.answer.ensures

pub returns-in-None : goal.returns-in-None
returns-in-None c =
    let inside : AssembliesView = record { charter = c.self.inside.committee.now; own = c.self.inside.own.0; rounds = c.self.inside.rounds.entries } in
    sym (answer_of c.args.self.now c.args.vote.now None (looked inside c.args.self.now c.number.result c.args.vote.now.round None c.in-None.ensures.value c.number.ensures.value c.self.view_is))
