use Rattle.std.proofs.Common.{◌≡◌, ◌≤◌, length, take, sym, rules}
use Rattle.diskmodel.specs.declared.call.Call.TheVariants.{Cut}
use Rattle.disk_file.specs.Stories.{held}
use Rattle.disk_file.proofs.Steps.{Longer, longer, longer_by, anyway, cut_mirrors, cut_sound, cut_held, cut_length, cut_outcomes}
use Rattle.disk_file.proofs.disk.FileDiskDisk.cut.Goals as goal

pub invariant_of-self : goal.invariant_of-self
invariant_of-self c =
    let more : Longer (Cut c.args.len) c.fail_if_down.new.self.tape c.cut.new.self = longer_by _ _ _ c.cut.ensures in
    let within : c.args.len ≤ length (held c.fail_if_down.new.self.tape) = search rules in
    let is : held c.cut.new.self ≡ take c.args.len (held c.fail_if_down.new.self.tape) = cut_held _ _ c.args.len c.fail_if_down.new.self.sound within more in
    record {
      sound = cut_sound _ _ _ c.fail_if_down.new.self.sound within more;
      length_is = sym (cut_length _ _ _ c.fail_if_down.new.self.sound within more);
      mirrors = cut_mirrors _ c.args.len (held c.fail_if_down.new.self.tape)
          (held c.cut.new.self) is c.fail_if_down.new.self.mirror c.cut_kept.new.kept c.cut_kept.ensures c.fail_if_down.new.self.mirrors;
    }

more_of : (c : goal.After-counted) → Longer (Cut c.args.len) c.args.self.now.tape c.counted.new.self.tape
more_of c = longer _ _ _ _ _ c.fail_if_down.ensures.calls c.cut.ensures c.counted.ensures.calls

pub returns-clause-content : goal.returns-clause-content
returns-clause-content c = anyway c.counted.result (cut_held _ _ _ c.args.self.now.sound c.requires (more_of c))

pub returns-clause-outcomes : goal.returns-clause-outcomes
returns-clause-outcomes c = cut_outcomes _ _ _ c.args.self.now.sound c.requires (more_of c)
