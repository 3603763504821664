use Rattle.std.proofs.Common.{length, ap, sym, ◌∙◌, arith, rules}
use Rattle.journal.specs.Configuration.{shaped_version}
use Rattle.checkpoint.proofs.Shaped.{shaped_is}
use Rattle.checkpoint.proofs.configuration.configuration_record.Goals as goal

pub returns-clause-bytes : goal.returns-clause-bytes
returns-clause-bytes c =
    rw (
      c.in_ok-put_stakes.ensures.stakes,
      c.in_ok-put_keys.ensures.keys,
      c.in_ok-extend_from_slice-6.ensures.items,
      c.in_ok-extend_from_slice-5.ensures.items,
      c.in_ok-extend_from_slice-4.ensures.items,
      c.in_ok-extend_from_slice-3.ensures.items,
      c.in_ok-extend_from_slice-2.ensures.items,
      c.in_ok-extend_from_slice.ensures.items,
      c.new-bytes.ensures.items,
      c.number_of.ensures,
      c.two_bytes.ensures.bytes,
      c.two_bytes-2.ensures.bytes,
      c.two_bytes-3.ensures.bytes,
      c.to_be_bytes.ensures,
      c.two_bytes-4.ensures.bytes,
      c.depth.ensures.value,
      c.workers.ensures.value,
      c.batches.ensures.value,
      c.size.ensures.value,
    )

pub returns-clause-len : goal.returns-clause-len
returns-clause-len c = search rules

pub returns-clause-shape : goal.returns-clause-shape
returns-clause-shape c =
    let bytes = returns-clause-bytes c in
    ap shaped_version bytes
    ∙ shaped_is c.args.version c.args.committee.now c.args.own (omega (arith, c.limits_hold.ensures.size)) (ap length (sym bytes) ∙ returns-clause-len c)
