use Rattle.std.proofs.Common.{◌≡◌, ℕ, ◌∷◌, ◌++◌, [], List, length, refl, sym, ap, ◌∙◌, arith, rules}
use Rattle.std.specs.Prelude.{slice_index}
use Rattle.diskmodel.specs.declared.call.Call.{Call}
use Rattle.diskmodel.specs.declared.call.Call.TheVariants.{Synced}
use Rattle.diskmodel.specs.declared.call.Span.{Span}
use Rattle.diskmodel.specs.declared.history.Lengths.{Lengths}
use Rattle.diskmodel.specs.Outcomes.{is_written}
use Rattle.diskmodel.proofs.Kept.{kept_differ, kept_in_content, kept_sync, kept_as}
use Rattle.diskmodel.proofs.history.History.sync.Goals as goal

pub catch_up-requires-clause-in_copy : goal.catch_up-requires-clause-in_copy
catch_up-requires-clause-in_copy c = omega (arith, c.args.self.now.kept.in_durable, ap length c.grow.ensures.items, c.grow.new.list.ok)

pub catch_up-requires-clause-in_content : goal.catch_up-requires-clause-in_content
catch_up-requires-clause-in_content c = omega (arith, kept_in_content _ _ _ _ _ _ _ c.args.self.now.kept, ap length c.deref.ensures.value)

pub catch_up-requires-clause-unwritten : goal.catch_up-requires-clause-unwritten
catch_up-requires-clause-unwritten c = λ place below none.
    ap (λ (bytes : List ℕ). slice_index bytes place) c.deref.ensures.value
    ∙ kept_differ _ _ _ _ _ _ _ c.args.self.now.kept place below (ap (λ (rows : List Span). is_written rows place) (sym c.deref-2.ensures.value) ∙ none)
    ∙ sym (ap (λ (bytes : List ℕ). slice_index bytes place) c.grow.ensures.items)

pub invariant_of-self-2 : goal.invariant_of-self-2
invariant_of-self-2 c =
    let len : c.len-3.result ≡ length c.args.self.now.content.items = search rules in
    record {
      kept = kept_as _ _ _ _ _ _ _ _ _ _ _ _ _
          (kept_sync _ _ _ _ _ _ _ c.args.self.now.kept)
          (c.push_reserved.ensures.items ∙ ap (λ (calls : List Call). calls ++ Synced ∷ []) c.grow-2.ensures.items)
          (c.catch_up.ensures ∙ c.deref.ensures.value)
          (ap (λ (both : Lengths). both.smallest) c.only-self.ensures ∙ len)
          (ap (λ (both : Lengths). both.greatest) c.only-self.ensures ∙ len)
          c.clear.ensures.items
          refl;
      room = search rules;
      fits = search rules;
    }
