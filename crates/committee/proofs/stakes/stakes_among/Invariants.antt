use Rattle.std.proofs.Common.{◌≡◌, false, map, take}
use Rattle.std.specs.List.{list_any, filter_map}
use Rattle.toml.specs.View.{view}
use Rattle.committee.specs.File.{stake_in, is_no_stake}
use Rattle.committee.proofs.stakes.stakes_among.Given as goal

-- each element so far is a stake, and they are the stakes so far
abbrev pub invariant-loop-element : goal.invariant-loop-element
invariant-loop-element l = record {
  stakes : l.stakes.items ≡ filter_map stake_in (map view (take l.element-index l.elements));
  each : list_any is_no_stake (map view (take l.element-index l.elements)) ≡ false;
}
