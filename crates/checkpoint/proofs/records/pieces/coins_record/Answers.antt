use Rattle.std.proofs.Common.{ℕ, ap, ◌∙◌, ◌-◌, min}
use Rattle.checkpoint.specs.declared.records.pieces.TheConstants.{COINS_PIECE}
use Rattle.checkpoint.proofs.Pieces.{coins_record_is}
use Rattle.checkpoint.proofs.records.pieces.coins_record.Goals as goal

pub returns : goal.returns
returns c =
    coins_record_is c.args.coins.now c.args.from COINS_PIECE c.min-count.result c.put_values.new.bytes.items
    (c.min-count.ensures ∙ ap (λ (n : ℕ). min COINS_PIECE (n - c.args.from)) c.count.ensures.value)
    (rw (c.in_ok-put_values.ensures, c.in_ok-extend_from_slice.ensures.items, c.in_ok-push.ensures.items, c.in_ok-bytes.ensures.items, c.to_be_bytes.ensures))
