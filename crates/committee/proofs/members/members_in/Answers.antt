use Rattle.std.proofs.Common.{codes}
use Rattle.toml.proofs.Views.{table_get}
use Rattle.committee.proofs.ElementLemmas.{elements-items_of}
use Rattle.committee.proofs.members.members_in.Goals as goal

pub returns-in-Some-as_array : goal.returns-in-Some-as_array
returns-in-Some-as_array c =
    let found = table_get c.get.result (codes "members") c.args.table.now.entries c.get.ensures.value in
    rw (← rw c.in-Some.is at found, ← c.in-Some-as_array.ensures, elements-items_of, c.as_slice.ensures.value)

pub returns-in-None-as_array : goal.returns-in-None-as_array
returns-in-None-as_array c =
    let found = table_get c.get.result (codes "members") c.args.table.now.entries c.get.ensures.value in
    rw (← rw c.in-Some.is at found, ← c.in-None-as_array.ensures)

pub returns-in-None : goal.returns-in-None
returns-in-None c =
    let found = table_get c.get.result (codes "members") c.args.table.now.entries c.get.ensures.value in
    rw (← rw c.in-None.is at found)
