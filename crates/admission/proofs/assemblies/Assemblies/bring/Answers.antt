use Rattle.std.proofs.Common.{◌<◌, ◌∙◌, length, ap, sym, subst, ℕ, Some, arith}
use Rattle.std.specs.Prelude.{All}
use Rattle.std.proofs.lemmas.Option.{same_Some}
use Rattle.certify.specs.Assembled.{AssemblyView}
use Rattle.spec_model.specs.Words.{VoteEntry}
use Rattle.admission.specs.Headers.{AssembliesView, IsEntry, IsWith}
use Rattle.admission.proofs.Looking.{updated, holds_with}
use Rattle.admission.proofs.assemblies.Assemblies.bring.Goals as goal

pub restore-requires-clause-member : goal.restore-requires-clause-member
restore-requires-clause-member c =
    let voter = c.requires.voter in
    let own = ap (λ (h : AssembliesView). h.own) c.self.view_is in
    let member = c.self.invariant.member in
    omega (arith, voter, own, member)

pub restore-requires-clause-members : goal.restore-requires-clause-members
restore-requires-clause-members c = subst (λ (h : AssembliesView). All (λ (e : VoteEntry). e.voter.0 < length h.charter.keys) c.args.votes.items) (sym c.self.view_is) c.requires.members

pub invariant_of-self-2 : goal.invariant_of-self-2
invariant_of-self-2 c =
    let inside = c.self.inside in
    let charter = inside.committee.now in
    let own = inside.own.0 in
    let old : AssembliesView = record { charter = charter; own = own; rounds = inside.rounds.entries } in
    let new : AssembliesView = record { charter = charter; own = own; rounds = c.insert.new.self.entries } in
    let key = c.number-round.result in
    let made = c.in_ok-assembly.assembly in
    let is = c.in_ok-assembly.ensures in
    let entry : IsEntry old key made = record {
      charter = ap (λ (a : AssemblyView). a.charter) is;
      place = ap (λ (a : AssemblyView). a.header.body.round) is ∙ sym c.number-round.ensures.value;
      author = ap (λ (a : AssemblyView). a.header.body.author.0) is ∙ c.requires.author ∙ sym (ap (λ (h : AssembliesView). h.own) c.self.view_is);
      assembly = c.limits_hold.ensures;
    } in
    holds_with old new key (Some made) c.self.invariant (updated inside.rounds.entries c.insert.new.self.entries key (Some made) c.in_ok-insert.ensures.updates.0 charter own) c.insert.ensures.ordered
    (λ a same. subst (IsEntry old key) (same_Some made a same) entry)

pub returns-clause-ok : goal.returns-clause-ok
returns-clause-ok c =
    let inside = c.self.inside in
    let charter = inside.committee.now in
    let own = inside.own.0 in
    let old : AssembliesView = record { charter = charter; own = own; rounds = inside.rounds.entries } in
    let new : AssembliesView = record { charter = charter; own = own; rounds = c.insert.new.self.entries } in
    let key = c.number-round.result in
    let made = c.in_ok-assembly.assembly in
    let with = updated inside.rounds.entries c.insert.new.self.entries key (Some made) c.in_ok-insert.ensures.updates.0 charter own in
    rw (← c.self.view_is)
    (subst (λ (a : AssemblyView). IsWith old new c.args.header.body.round (Some a)) c.in_ok-assembly.ensures
    (subst (λ (r : ℕ). IsWith old new r (Some made)) c.number-round.ensures.value with))
