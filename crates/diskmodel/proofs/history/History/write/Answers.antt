use Rattle.std.proofs.Common.{◌≡◌, ◌<◌, length, min, max, refl, ap, ◌∙◌, arith, rules}
use Rattle.std.proofs.lemmas.List.Elements.{All-from_get_or}
use Rattle.diskmodel.specs.Disk.{written}
use Rattle.diskmodel.specs.Outcomes.{AreBytes}
use Rattle.diskmodel.proofs.Kept.{kept_write, kept_as}
use Rattle.diskmodel.proofs.history.History.write.Goals as goal

pub invariant_of-self-2 : goal.invariant_of-self-2
invariant_of-self-2 c =
    let are_bytes : AreBytes c.args.bytes.now = All-from_get_or (λ number. number < 256) c.args.bytes.now 0 (λ place inside. omega (arith, c.type_inv.bytes place)) in
    let content : c.overlay.new.list.items ≡ written c.args.self.now.content.items c.args.at c.args.bytes.now = search rules in
    let len : c.len.result ≡ length (written c.args.self.now.content.items c.args.at c.args.bytes.now) = search rules in
    record {
      kept = kept_as _ _ _ _ _ _ _ _ _ _ _ _ _
          (kept_write _ _ _ _ _ _ _ c.args.at c.args.bytes.now c.args.self.now.kept are_bytes c.requires)
          (search rules)
          refl
          (c.note.ensures.smallest ∙ ap (min c.args.self.now.lengths.smallest) len)
          (c.note.ensures.greatest ∙ ap (max c.args.self.now.lengths.greatest) len)
          (search rules)
          content;
      room = search rules;
      fits = search rules;
    }
