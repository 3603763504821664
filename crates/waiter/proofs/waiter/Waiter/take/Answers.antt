use Rattle.std.proofs.Common.{◌≡◌, Some, take, drop, slice_get, suc, sym, ap, ◌∙◌, arith, List, length}
use Rattle.std.specs.Prelude.{remove}
use Rattle.std.specs.Map.{values_of}
use Rattle.std.proofs.lemmas.List.Elements.{recursion_from_All, All-from_recursion}
use Rattle.indexmap.proofs.SetLemmas.{map-remove}
use Rattle.wire.specs.Events.{Event}
use Rattle.wire.specs.declared.keys.Digest.{Digest}
use Rattle.waiter.specs.Keyed.{IsUnderItsDigest}
use Rattle.waiter.proofs.ByRound.{if_none}
use Rattle.waiter.proofs.Keeping.{value_at, parted, keyed_without, front_len, beyond}
use Rattle.waiter.proofs.waiter.Waiter.take.Goals as goal

pub invariant_of-self-2 : goal.invariant_of-self-2
invariant_of-self-2 c =
    let entries = c.self.inside.waiting.entries in (
      rw c.shift_remove_index.ensures.entries
          (All-from_recursion IsUnderItsDigest _ (keyed_without entries _ (recursion_from_All IsUnderItsDigest entries c.self.invariant.0))),
      omega (arith, c.shift_remove_index.ensures.len, c.self.invariant.1),
    )

pub returns-clause-taken : goal.returns-clause-taken
returns-clause-taken c =
    let place = c.args.place in
    let checked = c.in_ok-checked.checked in
    let there = value_at c.self.inside.waiting.entries place (c.in_ok-checked.field-0-0, checked) (sym c.in_ok-checked.ensures.entry) in
    let at : slice_get c.args.self.now place ≡ Some checked = rw (← c.self.view_is) there in
    record {
      front = take place c.args.self.now;
      back = drop (suc place) c.args.self.now;
      stood = parted c.args.self.now place checked at;
      left = ap (λ (es : List (Digest × Event)). values_of es) c.shift_remove_index.ensures.entries
          ∙ map-remove (λ (e : Digest × Event). e.1) c.self.inside.waiting.entries place ∙ ap (λ (l : List Event). remove l place) c.self.view_is;
      before = front_len c.args.self.now place checked at;
    }

pub returns-in_err-checked-clause-beyond : goal.returns-in_err-checked-clause-beyond
returns-in_err-checked-clause-beyond c =
    let few = beyond c.self.inside.waiting.entries c.args.place (sym c.in_err-checked.ensures.entry) in
    let same = ap (λ (l : List Event). length l) c.self.view_is in
    if_none c.from_residual.result (omega (arith, few, same))
