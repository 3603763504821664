use Rattle.std.proofs.Common.{◌≡◌, ◌∷◌, ◌++◌, [], List, length, take, min, max, refl, ap, ◌∙◌, rules}
use Rattle.diskmodel.specs.declared.call.Call.{Call}
use Rattle.diskmodel.specs.declared.call.Call.TheVariants.{Cut}
use Rattle.diskmodel.proofs.Kept.{kept_cut, kept_as}
use Rattle.diskmodel.proofs.history.History.cut.Goals as goal

pub invariant_of-self-2 : goal.invariant_of-self-2
invariant_of-self-2 c =
    let len : c.len.result ≡ length (take c.args.len c.args.self.now.content.items) = search rules in
    record {
      kept = kept_as _ _ _ _ _ _ _ _ _ _ _ _ _
          (kept_cut _ _ _ _ _ _ _ c.args.len c.args.self.now.kept c.requires)
          (c.push_reserved.ensures.items ∙ ap (λ (calls : List Call). calls ++ Cut c.args.len ∷ []) c.grow.ensures.items)
          refl
          (c.note.ensures.smallest ∙ ap (min c.args.self.now.lengths.smallest) len)
          (c.note.ensures.greatest ∙ ap (max c.args.self.now.lengths.greatest) len)
          refl
          c.truncate.ensures.items;
      room = search rules;
      fits = search rules;
    }
