use Rattle.std.proofs.Common.{◌≡◌, false, map, take}
use Rattle.std.specs.List.{list_any, filter_map}
use Rattle.toml.specs.View.{view}
use Rattle.committee.specs.Keys.{key_of, is_no_key}
use Rattle.committee.proofs.keys.keys_of.Given as goal

-- each element so far is a key, and they are the keys so far
abbrev pub invariant-loop-element : goal.invariant-loop-element
invariant-loop-element l = record {
  keys : l.keys.items ≡ filter_map key_of (map view (take l.element-index l.elements));
  each : list_any is_no_key (map view (take l.element-index l.elements)) ≡ false;
}
