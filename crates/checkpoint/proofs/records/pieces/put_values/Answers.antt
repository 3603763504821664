use Rattle.std.proofs.Common.{◌++◌, ◌+◌, ℕ, List, ap, sym, ◌∙◌, arith}
use Rattle.std.specs.Global.{Vec}
use Rattle.std.specs.Int.{w64, to_be_bytes}
use Rattle.checkpoint.proofs.Pieces.{some_there, value_more}
use Rattle.checkpoint.proofs.records.pieces.put_values.Goals.{in-Some+in_ok-extend_from_slice, in_default}
use Rattle.checkpoint.proofs.records.pieces.put_values.Goals as goal

pub loop-offset-preserved : goal.loop-offset-preserved
loop-offset-preserved c =
    let coins = c.args.coins.now in
    let from = c.args.from in
    let offset = c.loop-offset.offset in
    let before = c.loop-offset.bytes.items in
    elim c.match-nth.branch [
      | in-Some+in_ok-extend_from_slice w ↦
          ap (λ (v : Vec ℕ). v.items) w.bytes-is ∙ w.in_ok-extend_from_slice.ensures.items ∙ ap (λ (l : List ℕ). before ++ l) w.to_be_bytes.ensures
          ∙ value_more (to_be_bytes w64) coins from offset w.in-Some.value c.args.bytes.now.items before (sym c.nth.ensures ∙ w.in-Some.is) c.loop-offset.invariant
      | in_default w ↦
          let within = c.requires.within in
          let less = c.loop-offset-test.true in
          absurd (some_there coins (from + offset) (omega (arith, within, less)) (sym c.nth.ensures ∙ w.in_default.is))
    ]
