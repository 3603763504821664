use Rattle.std.proofs.Common.{rules}
use Rattle.toml.proofs.Views.{table_get}
use Rattle.committee.proofs.limits.limit.Goals as goal

pub returns-in-Some-as_integer : goal.returns-in-Some-as_integer
returns-in-Some-as_integer c =
    let found = table_get c.get.result c.args.name.now c.args.table.now.entries c.get.ensures.value in
    rw (← rw c.in-Some.is at found, ← c.in-Some-as_integer.ensures) (search (rules, c.number_within.ensures))

pub returns-in-None-as_integer : goal.returns-in-None-as_integer
returns-in-None-as_integer c =
    let found = table_get c.get.result c.args.name.now c.args.table.now.entries c.get.ensures.value in
    rw (← rw c.in-Some.is at found, ← c.in-None-as_integer.ensures)

pub returns-in-None : goal.returns-in-None
returns-in-None c =
    let found = table_get c.get.result c.args.name.now c.args.table.now.entries c.get.ensures.value in
    rw (← rw c.in-None.is at found)
