use Rattle.std.proofs.Common.{◌++◌, ap, sym, ◌∙◌, append_assoc, rules, take, List, ℕ}
use Rattle.std.specs.Int.{w32, to_be_bytes}
use Rattle.std.specs.List.{flat_map}
use Rattle.checkpoint.proofs.Pieces.{each_more}
use Rattle.checkpoint.proofs.configuration.put_each_stake.Goals as goal

pub loop-member-preserved : goal.loop-member-preserved
loop-member-preserved c =
    let stakes = c.args.committee.now.stakes in
    let stake = c.in-Some.stake in
    let text = to_be_bytes w32 in
    let before = c.args.bytes.now.items in
    record {
      stakes = c.in_ok-extend_from_slice-in-Some.ensures.items
          ∙ ap (λ (l : List ℕ). c.loop-member.bytes.items ++ l) c.to_be_bytes.ensures
          ∙ ap (λ (l : List ℕ). l ++ text stake) c.loop-member.invariant.stakes
          ∙ append_assoc before (flat_map text (take c.loop-member.member stakes)) (text stake)
          ∙ ap (λ (l : List ℕ). before ++ l) (sym (each_more text stakes c.loop-member.member stake (sym c.in-Some.ensures.value)));
      len = search rules;
    }
