use Rattle.std.proofs.Common.{◌++◌, ap, sym, ◌∙◌, append_assoc, rules, take, List, ℕ}
use Rattle.std.specs.List.{flat_map}
use Rattle.wire.specs.declared.keys.Key.{Key}
use Rattle.checkpoint.proofs.Pieces.{each_more}
use Rattle.checkpoint.proofs.configuration.put_keys.Goals as goal

pub loop-member-preserved : goal.loop-member-preserved
loop-member-preserved c =
    let keys = c.args.committee.now.keys in
    let key = c.in-Some.key.now in
    let before = c.args.bytes.now.items in
    record {
      keys = c.in_ok-extend_from_slice-in-Some.ensures.items
          ∙ ap (λ (l : List ℕ). l ++ key.0) c.loop-member.invariant.keys
          ∙ append_assoc before (flat_map (λ k. k.0) (take c.loop-member.member keys)) key.0
          ∙ ap (λ (l : List ℕ). before ++ l) (sym (each_more (λ (k : Key). k.0) keys c.loop-member.member key (sym c.in-Some.ensures.value)));
      len = search rules;
    }
