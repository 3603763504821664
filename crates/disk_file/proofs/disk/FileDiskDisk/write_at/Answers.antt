use Rattle.std.proofs.Common.{◌≡◌, ◌+◌, ◌<◌, ◌≤◌, length, max, arith, rules}
use Rattle.std.proofs.lemmas.List.Elements.{All-from_get_or}
use Rattle.diskmodel.specs.declared.call.Call.TheVariants.{Wrote}
use Rattle.diskmodel.specs.Outcomes.{AreBytes}
use Rattle.disk_file.specs.Stories.{held}
use Rattle.disk_file.proofs.Steps.{Longer, longer, longer_by, anyway, write_sound, write_held, write_length, write_outcomes}
use Rattle.disk_file.proofs.disk.FileDiskDisk.write_at.Goals as goal

pub invariant_of-self : goal.invariant_of-self
invariant_of-self c =
    let are_bytes : AreBytes c.args.bytes.now = All-from_get_or (λ number. number < 256) c.args.bytes.now 0 (λ place inside. omega (arith, c.type_inv.bytes place)) in
    let more : Longer (Wrote c.args.at c.args.bytes.now) c.fail_if_down.new.self.tape c.wrote.new.self = longer_by _ _ _ c.wrote.ensures in
    let within : c.args.at ≤ length (held c.fail_if_down.new.self.tape) = search rules in
    let is : length (held c.wrote.new.self) ≡ max (length (held c.fail_if_down.new.self.tape)) (c.args.at + length c.args.bytes.now) = write_length _ _ _ _ c.fail_if_down.new.self.sound within more in
    record {
      sound = write_sound _ _ _ _ c.fail_if_down.new.self.sound within more are_bytes;
      length_is = search rules;
      mirrors = search rules;
    }

more_of : (c : goal.After-counted) → Longer (Wrote c.args.at c.args.bytes.now) c.args.self.now.tape c.counted.new.self.tape
more_of c = longer _ _ _ _ _ c.fail_if_down.ensures.calls c.wrote.ensures c.counted.ensures.calls

pub returns-clause-content : goal.returns-clause-content
returns-clause-content c = anyway c.counted.result (write_held _ _ _ _ c.args.self.now.sound c.requires (more_of c))

pub returns-clause-outcomes : goal.returns-clause-outcomes
returns-clause-outcomes c = write_outcomes _ _ _ _ c.args.self.now.sound c.requires (more_of c)
