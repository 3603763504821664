use Rattle.std.proofs.Common.{◌≡◌, ◌≤◌, length, rules}
use Rattle.disk_file.specs.Stories.{begun}
use Rattle.disk_file.proofs.Steps.{front_sound, front_length, front_mirrors, front_durable, front_kept}
use Rattle.disk_file.proofs.disk.FileDisk.open_front.Goals as goal

pub invariant_of-result : goal.invariant_of-result
invariant_of-result g c =
    let begins : c.in_ok-tape.tape ≡ begun c.in_ok-front.front.items = search rules in
    let within : length c.in_ok-front.front.items ≤ c.in_ok-front.len = c.in_ok-front.ensures.front in
    record {
      sound = front_sound _ _ _ _ _ begins (search rules) within c.in_ok-read_on.ensures c.in_ok-tape.ensures.are_bytes;
      length_is = front_length _ _ _ _ _ begins (search rules) within c.in_ok-read_on.ensures;
      mirrors = front_mirrors _ _ _ _ _ begins (search rules) within c.in_ok-read_on.ensures;
    }

pub returns-clause-durable : goal.returns-clause-durable
returns-clause-durable g c =
    let begins : c.in_ok-tape.tape ≡ begun c.in_ok-front.front.items = search rules in
    let within : length c.in_ok-front.front.items ≤ c.in_ok-front.len = c.in_ok-front.ensures.front in
    front_durable _ _ _ _ _ begins (search rules) within c.in_ok-read_on.ensures

pub returns-clause-front : goal.returns-clause-front
returns-clause-front g c =
    let begins : c.in_ok-tape.tape ≡ begun c.in_ok-front.front.items = search rules in
    let within : length c.in_ok-front.front.items ≤ c.in_ok-front.len = c.in_ok-front.ensures.front in
    front_kept _ _ _ _ _ begins (search rules) within c.in_ok-read_on.ensures _ c.in_ok-front.ensures.kept c.in_ok-front.ensures.whole
