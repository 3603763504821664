use Rattle.std.proofs.Common.{sym, ◌∙◌, subst, rules, map-id}
use Rattle.std.proofs.lemmas.Iterator.Consumers.{YieldsList-so_far, YieldsList-turn, YieldsList-end}
use Rattle.std.proofs.lemmas.Iterator.Adapters.{YieldsList-from_vec}
use Rattle.admission.specs.Kept.{IsSameTable, table_of}
use Rattle.admission.proofs.Restoring.{none_brought, one_brought, may_be_brought}
use Rattle.admission.proofs.assemblies.Assemblies.restore.Goals as goal

pub loop-header-init : goal.loop-header-init
loop-header-init c = none_brought c.args.committee.now c.args.own.0 c.new-made.result c.new-made.ensures

pub bring-requires : goal.bring-requires
bring-requires c =
    let all = c.args.headers.items in
    let done = c.loop-header.yielded in
    let next = c.in-Some.field-0 in
    let chain = YieldsList-from_vec {s = c.into_iter-header-iterator.result} all (search rules) (search rules) in
    let turn = YieldsList-turn chain done c.loop-header.header-iterator c.loop-header.yielded_by c.next.result c.next.new.self next c.in-Some.is c.next.ensures.steps in
    let front = sym (map-id done) ∙ YieldsList-so_far chain done c.loop-header.header-iterator c.loop-header.yielded_by in
    may_be_brought c.args.committee.now c.args.own.0 all done next c.loop-header.made c.requires.headers (record { front = front; within = turn.0; is = turn.1 }) c.loop-header.invariant

pub loop-header-preserved : goal.loop-header-preserved
loop-header-preserved c =
    let all = c.args.headers.items in
    let done = c.loop-header.yielded in
    let next = c.in-Some.field-0 in
    let chain = YieldsList-from_vec {s = c.into_iter-header-iterator.result} all (search rules) (search rules) in
    let turn = YieldsList-turn chain done c.loop-header.header-iterator c.loop-header.yielded_by c.next.result c.next.new.self next c.in-Some.is c.next.ensures.steps in
    let front = sym (map-id done) ∙ YieldsList-so_far chain done c.loop-header.header-iterator c.loop-header.yielded_by in
    one_brought c.args.committee.now c.args.own.0 all done next c.loop-header.made c.bring.new.self c.requires.headers (record { front = front; within = turn.0; is = turn.1 })
    c.loop-header.invariant c.in_ok-bring.ensures.ok

pub returns : goal.returns
returns c =
    let all = c.args.headers.items in
    let done = c.loop-header.yielded in
    let end = YieldsList-end (YieldsList-from_vec {s = c.into_iter-header-iterator.result} all (search rules) (search rules)) done
    c.loop-header.header-iterator c.loop-header.yielded_by c.next.result c.next.new.self c.in-None.is c.next.ensures.steps in
    subst (λ l. IsSameTable c.loop-header.made (table_of c.args.committee.now c.args.own.0 l)) (sym (map-id done) ∙ end.0) c.loop-header.invariant
