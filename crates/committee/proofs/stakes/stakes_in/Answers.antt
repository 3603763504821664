use Rattle.std.proofs.Common.{◌≡◌, codes, ℕ, List, Some, Result, Ok, Err, Vec, Global, ap, sym}
use Rattle.std.specs.Prelude.{IfOk}
use Rattle.committee.specs.declared.error.CommitteeError.{CommitteeError}
use Rattle.toml.proofs.Views.{table_get}
use Rattle.committee.proofs.ElementLemmas.{elements-items_of}
use Rattle.committee.proofs.stakes.stakes_in.Goals as goal

turned : (r : Result (Vec ℕ Global) CommitteeError) (list : List ℕ) → IfOk r (λ stakes. stakes.items ≡ list) → IfOk r (λ stakes. Some list ≡ Some stakes.items)
turned (Ok stakes) list same = ap Some (sym same)
turned (Err e) list same = same

pub returns-in-Some-as_array-clause-stakes : goal.returns-in-Some-as_array-clause-stakes
returns-in-Some-as_array-clause-stakes c =
    let found = table_get c.get.result (codes "stakes") c.args.table.now.entries c.get.ensures.value in
    rw (← rw c.in-Some.is at found, ← c.in-Some-as_array.ensures, elements-items_of, ← c.as_slice.ensures.value) c.stakes_among.ensures.stakes

pub returns-in-Some-as_array-clause-cause : goal.returns-in-Some-as_array-clause-cause
returns-in-Some-as_array-clause-cause c =
    let found = table_get c.get.result (codes "stakes") c.args.table.now.entries c.get.ensures.value in
    rw (← rw c.in-Some.is at found, ← c.in-Some-as_array.ensures, elements-items_of, ← c.as_slice.ensures.value) c.stakes_among.ensures.cause

pub returns-in-None-as_array-clause-cause : goal.returns-in-None-as_array-clause-cause
returns-in-None-as_array-clause-cause c _ =
    let found = table_get c.get.result (codes "stakes") c.args.table.now.entries c.get.ensures.value in
    rw (← rw c.in-Some.is at found, ← c.in-None-as_array.ensures)

pub returns-in-None-clause-stakes : goal.returns-in-None-clause-stakes
returns-in-None-clause-stakes c =
    let found = table_get c.get.result (codes "stakes") c.args.table.now.entries c.get.ensures.value in
    rw (← rw c.in-None.is at found) (turned c.equal_stakes.result _ c.equal_stakes.ensures.stakes)
