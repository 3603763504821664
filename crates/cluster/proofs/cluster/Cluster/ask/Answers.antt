use Rattle.std.proofs.Common.{refl, sym, ap, ◌∙◌, subst, set}
use Rattle.std.specs.Prelude.{IsErrOf, Err, ◌↔◌}
use Rattle.std.specs.List.{position}
use Rattle.validator.specs.Setting.{node_of}
use Rattle.cluster.specs.Answers.{Became}
use Rattle.cluster.specs.Cluster.{ClusterView, named, IsThere, IsAsked}
use Rattle.cluster.specs.Member.{MemberView}
use Rattle.cluster.specs.declared.error.ClusterError.TheVariants.{NoSuchNode}
use Rattle.cluster.proofs.Places.{there_of, becomes_one, same_asked, gone_where, none_there, none_found}
use Rattle.cluster.proofs.cluster.Cluster.ask.Goals as goal

pub returns-in-Some-clause-asked : goal.returns-in-Some-clause-asked
returns-in-Some-clause-asked g c =
    let members = c.self.inside.members.items in
    let one = c.index_mut.result.now in
    let later = c.answer.new.self in
    let first = ap (λ (s : ClusterView g.row.S.Denot g.row.D.Denot g.row.V.Denot). position (λ member. named c.args.number member) s.members) c.self.view_is ∙ sym c.place_of.ensures ∙ c.in-Some.is in
    let there = there_of (λ member. named c.args.number member) members c.in-Some.place one first c.index_mut.ensures.value in
    subst (λ (s : ClusterView g.row.S.Denot g.row.D.Denot g.row.V.Denot). IsAsked (λ (a b : MemberView g.row.S.Denot g.row.D.Denot). Became (node_of g.S.Sign.scheme a.setting) g.D.Disk.device
    (g.V.Verify.accepts s.verifier) c.args.request a b c.answer.result)
    c.args.number s.members (set members c.in-Some.place later) c.answer.result) c.self.view_is
    (becomes_one members c.args.number c.in-Some.place one later first there c.answer.ensures.setting
    (λ (a b : MemberView g.row.S.Denot g.row.D.Denot). Became (node_of g.S.Sign.scheme a.setting) g.D.Disk.device (g.V.Verify.accepts c.self.inside.verifier) c.args.request a b c.answer.result)
    c.answer.result c.answer.ensures)

pub returns-in-None-clause-asked : goal.returns-in-None-clause-asked
returns-in-None-clause-asked g c =
    let none = none_found (λ member. named c.args.number member) c.args.self.now.members (sym c.place_of.ensures ∙ c.in-None.is) in
    same_asked c.args.self.now.members c.args.number
    (λ (a b : MemberView g.row.S.Denot g.row.D.Denot). Became (node_of g.S.Sign.scheme a.setting) g.D.Disk.device (g.V.Verify.accepts c.args.self.now.verifier) c.args.request a b (Err NoSuchNode))
    (Err NoSuchNode) (λ one found. absurd (let bad = sym none ∙ found in cc)) (λ _. refl)

pub returns-in-Some-clause-no_node : goal.returns-in-Some-clause-no_node
returns-in-Some-clause-no_node g c =
    let members = c.self.inside.members.items in
    let one = c.index_mut.result.now in
    let later = c.answer.new.self in
    let first = ap (λ (s : ClusterView g.row.S.Denot g.row.D.Denot g.row.V.Denot). position (λ member. named c.args.number member) s.members) c.self.view_is ∙ sym c.place_of.ensures ∙ c.in-Some.is in
    let there = there_of (λ member. named c.args.number member) members c.in-Some.place one first c.index_mut.ensures.value in
    let gone = gone_where members c.args.number c.in-Some.place one later first there c.answer.ensures.setting in
    subst (λ (s : ClusterView g.row.S.Denot g.row.D.Denot g.row.V.Denot). IsErrOf c.answer.result NoSuchNode ↔ (IsThere s.members c.args.number → ⊥)) c.self.view_is
    (λ is. gone.0 (c.answer.ensures.gone.0 is), λ never. c.answer.ensures.gone.1 (gone.1 never))

pub returns-in-None-clause-no_node : goal.returns-in-None-clause-no_node
returns-in-None-clause-no_node g c = (λ _. none_there c.args.self.now.members c.args.number (sym c.place_of.ensures ∙ c.in-None.is), λ _. refl)
