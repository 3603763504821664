use Rattle.std.proofs.Common.{◌≡◌, ◌+◌, ℕ, List, length, take, drop, map, ap, subst}
use Rattle.std.specs.Prelude.{Option, IfSome}
use Rattle.spec_records.specs.Records.{record_of}
use Rattle.spec_model.specs.Nodes.{Node}
use Rattle.validator.specs.Setting.{node_of}
use Rattle.book.specs.Pending.{IsLongestBeginning}
use Rattle.book.specs.Showing.{shown_of}
use Rattle.book.specs.Book.{BookView, Run, Stands, with_taken}
use Rattle.book.proofs.Flushing.{count_stays, stands_taken, records_taken}
use Rattle.book.proofs.book.Book.take.Goals as goal

pub returns-clause-stands : goal.returns-clause-stands
returns-clause-stands g c =
    let b = c.self.inside in
    let group : List (List ℕ) = c.in-Some.group in
    let left : List (List ℕ) = c.take.new.self in
    let node : Node = node_of g.S.Sign.scheme b.validator.setting in
    let before : BookView g.row.S.Denot = shown_of b in
    let later : BookView g.row.S.Denot = record before { pending = left; taken = b.taken + c.records_count.result } in
    let longest = subst (λ (o : Option (List (List ℕ))). IfSome o (λ group. IsLongestBeginning b.pending group left)) c.in-Some.is c.in_ok-group.ensures.group in
    subst (λ (s : BookView g.row.S.Denot). (run : Run) → Stands (node_of g.S.Sign.scheme s.validator.setting) run s
    → Stands (node_of g.S.Sign.scheme s.validator.setting) (with_taken run (length group)) later) c.self.view_is
    (λ run at. stands_taken node run before later at group longest (ap (λ (n : ℕ). record before { pending = left; taken = b.taken + n }) c.records_count.ensures.value))

pub returns-clause-records : goal.returns-clause-records
returns-clause-records g c =
    let b = c.self.inside in
    let group : List (List ℕ) = c.in-Some.group in
    let left : List (List ℕ) = c.take.new.self in
    let node : Node = node_of g.S.Sign.scheme b.validator.setting in
    let before : BookView g.row.S.Denot = shown_of b in
    let later : BookView g.row.S.Denot = record before { pending = left } in
    let longest = subst (λ (o : Option (List (List ℕ))). IfSome o (λ group. IsLongestBeginning b.pending group left)) c.in-Some.is c.in_ok-group.ensures.group in
    subst (λ (s : BookView g.row.S.Denot). (run : Run) → Stands (node_of g.S.Sign.scheme s.validator.setting) run s → group
    ≡ map record_of (drop (length run.taken) (take (length run.taken + length group) run.accepted))) c.self.view_is
    (λ run at. records_taken node run before later at group longest)

pub invariant_of-self-2 : goal.invariant_of-self-2
invariant_of-self-2 g c =
    let b = c.self.inside in
    let longest = subst (λ (o : Option (List (List ℕ))). IfSome o (λ group. IsLongestBeginning b.pending group c.take.new.self)) c.in-Some.is c.in_ok-group.ensures.group in
    (c.self.invariant.0, count_stays b.taken c.records_count.result b.accepted b.pending c.in-Some.group c.take.new.self longest c.records_count.ensures.value c.self.invariant.1)

pub returns-clause-taken : goal.returns-clause-taken
returns-clause-taken g c = λ i. record (c.self.view_is i) { pending = c.take.new.self; taken = (c.self.view_is i).taken + c.records_count.ensures.value i }
