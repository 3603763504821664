use Rattle.std.proofs.Common.{◌≡◌, Some, true, take, drop, slice_get, suc, sym, ap, subst, ◌∙◌, arith, List}
use Rattle.std.specs.Prelude.{remove}
use Rattle.std.specs.Fn.{CalledAt}
use Rattle.std.specs.Map.{values_of}
use Rattle.std.proofs.lemmas.List.Elements.{recursion_from_All, All-from_recursion}
use Rattle.indexmap.proofs.SetLemmas.{map-remove}
use Rattle.wire.specs.Events.{Event}
use Rattle.wire.specs.declared.keys.Digest.{Digest}
use Rattle.waiter.specs.Keyed.{IsUnderItsDigest}
use Rattle.waiter.proofs.Keeping.{value_at, parted, keyed_without}
use Rattle.waiter.proofs.waiter.Waiter.next_ready.Goals as goal

pub invariant_of-self-2 : goal.invariant_of-self-2
invariant_of-self-2 g c =
    let entries = c.self.inside.waiting.entries in (
      rw c.shift_remove_index.ensures.entries
          (All-from_recursion IsUnderItsDigest _ (keyed_without entries _ (recursion_from_All IsUnderItsDigest entries c.self.invariant.0))),
      omega (arith, c.shift_remove_index.ensures.len, c.self.invariant.1),
    )

pub returns-clause-first : goal.returns-clause-first
returns-clause-first g c =
    let place = c.in_ok-place.place in
    let checked = c.in_ok-checked.checked in
    let said = c.in_ok-place.ensures.found in
    let there = value_at c.self.inside.waiting.entries place (c.in_ok-checked.field-0-0, checked) (sym c.in_ok-checked.ensures.entry) in
    let at : slice_get c.args.self.now place ≡ Some checked = rw (← c.self.view_is) there in
    let both : Some said.0 ≡ Some checked = sym said.3 ∙ at in
    let same : said.0 ≡ checked = cc in
    record {
      front = take place c.args.self.now;
      back = drop (suc place) c.args.self.now;
      stood = parted c.args.self.now place checked at;
      left = ap (λ (es : List (Digest × Event)). values_of es) c.shift_remove_index.ensures.entries
          ∙ map-remove (λ (e : Digest × Event). e.1) c.self.inside.waiting.entries place ∙ ap (λ (l : List Event). remove l place) c.self.view_is;
      asked = said.1;
      last = said.2;
      passed_over = said.4;
      taken = subst (λ (e : Event). CalledAt g.F.FnMut said.1 e true said.2) same said.5;
    }
