use Rattle.std.proofs.Common.{◌≡◌, subst}
use Rattle.book.specs.Book.{Run, Stands, state_in}
use Rattle.spec_machine.specs.Machine.{proposed}
use Rattle.validator.specs.Setting.{ConfigView, node_of}
use Rattle.cluster.specs.Member.{MemberView, Proposes}
use Rattle.cluster.proofs.member.Member.propose.Goals as goal

pub returns-in_ok-propose-in-Some-clause-ok : goal.returns-in_ok-propose-in-Some-clause-ok
returns-in_ok-propose-in-Some-clause-ok g c =
    let desk = c.in-Some.desk in
    let own = (c.self.invariant desk c.in-Some.is).set in
    subst (λ (m : MemberView g.row.S.Denot g.row.D.Denot). Proposes (node_of g.S.Sign.scheme m.setting) m c.in_ok-propose-in-Some.field-0) c.self.view_is
    (record {
      desk = desk;
      has = c.in-Some.is;
      proposes = subst (λ (s : ConfigView g.row.S.Denot). (run : Run) → Stands (node_of g.S.Sign.scheme s) run desk.book
          → c.in_ok-propose-in-Some.field-0 ≡ proposed (node_of g.S.Sign.scheme s) (state_in (node_of g.S.Sign.scheme s) run)) own c.in_ok-propose-in-Some.ensures;
    })
