use Rattle.std.proofs.Common.{◌≡◌, List, ℕ, length, take, ap, sym, subst, ◌∙◌, rules}
use Rattle.std.specs.Prelude.{IfSome}
use Rattle.diskmodel.specs.declared.call.Call.TheVariants.{Synced}
use Rattle.disk_file.specs.Stories.{held}
use Rattle.disk_file.proofs.Steps.{Longer, longer, longer_by, same_calls, sync_sound, sync_held, sync_outcomes, sync_durable}
use Rattle.disk_file.proofs.disk.FileDiskDisk.sync.Goals as goal

pub invariant_of-self : goal.invariant_of-self
invariant_of-self c =
    let more : Longer Synced c.counted.new.self.tape c.synced.new.self = longer_by Synced _ _ c.synced.ensures in
    let same : held c.synced.new.self ≡ held c.counted.new.self.tape = sync_held _ _ c.counted.new.self.sound more in
    record {
      sound = sync_sound _ _ c.counted.new.self.sound more;
      length_is = c.counted.new.self.length_is ∙ ap length (sym same);
      mirrors = subst (λ (found : List ℕ). IfSome c.counted.new.self.mirror (λ bytes. bytes.items ≡ take (length bytes.items) found)) (sym same) c.counted.new.self.mirrors;
    }

more_of : (c : goal.After-self-1) → Longer Synced c.args.self.now.tape c.synced.new.self
more_of c = longer Synced _ _ _ _ (same_calls _ _ _ c.fail_if_down.ensures.calls c.counted.ensures.calls) c.synced.ensures (search rules)

pub returns-clause-durable : goal.returns-clause-durable
returns-clause-durable c = sync_durable _ _ c.args.self.now.sound (more_of c)

pub returns-clause-content : goal.returns-clause-content
returns-clause-content c = sync_held _ _ c.args.self.now.sound (more_of c)

pub returns-clause-outcomes : goal.returns-clause-outcomes
returns-clause-outcomes c = sync_outcomes _ _ c.args.self.now.sound (more_of c)
