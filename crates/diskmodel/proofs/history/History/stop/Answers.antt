use Rattle.std.proofs.Common.{◌≡◌, ◌≤◌, ◌++◌, List, ℕ, length, refl, sym, ap, ◌∙◌, arith, rules}
use Rattle.std.specs.Prelude.{Result, Ok, Err, IsOk, is_ok, if◌then◌else◌}
use Rattle.diskmodel.proofs.Kept.{kept_taken, taken, ends_in_stop-push}
use Rattle.std.proofs.lemmas.Bool.{false≢true}
use Rattle.diskmodel.proofs.history.History.stop.Goals as goal

extended : {T E : Type 0} (r : Result T E) (was new more : List ℕ) → IsOk r → new ≡ (if is_ok r then was ++ more else was) → new ≡ was ++ more
extended (Ok x) was new more ok is = is
extended (Err e) was new more ok is = search rules

pub invariant_of-self : goal.invariant_of-self
invariant_of-self c =
    let shorter : length c.args.found ≤ c.args.self.now.lengths.greatest = omega (arith, c.requires.no_longer, c.args.self.now.kept.greatest_is) in
    let ok : IsOk c.extend_from_slice.result = c.extend_from_slice.ensures.succeeds (omega (arith, ap length c.as_slice.ensures, c.args.self.now.fits)) in
    let content : c.extend_from_slice.new.self.items ≡ c.args.found =
    extended c.extend_from_slice.result c.clear.new.self.items c.extend_from_slice.new.self.items c.as_slice.result.now ok c.extend_from_slice.ensures.items
    ∙ ap (λ (front : List ℕ). front ++ c.as_slice.result.now) c.clear.ensures.items ∙ c.as_slice.ensures in
    record {
      kept = kept_taken _ _ _ _ _ _ _ _ _ _ _ c.args.self.now.kept c.requires c.forget_last_stop.ensures.rest c.push_reserved.ensures.items content;
      room = λ unstopped. absurd (false≢true (sym unstopped ∙ ends_in_stop-push _ _ _ c.push_reserved.ensures.items));
      fits = search rules;
    }

pub returns-clause-taken : goal.returns-clause-taken
returns-clause-taken c = record {
  first = refl;
  calls = taken _ _ _ _ c.forget_last_stop.ensures.rest c.push_reserved.ensures.items;
}
