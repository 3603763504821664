use Rattle.std.proofs.Common.{◌≡◌, ◌+◌, List, ℕ, length, Some, sym, ap, ◌∙◌, subst, arith}
use Rattle.std.specs.Prelude.{IfSome}
use Rattle.std.specs.Option.{option_map_or}
use Rattle.diskmodel.specs.Disk.{AtEachMoment}
use Rattle.diskmodel.proofs.Clock.{weaker}
use Rattle.journal.specs.Areas.{reports, other_side, IsOlderOrNew, rewrite_calls}
use Rattle.journal.specs.Journal.{EndsClosed, IsAlivePair}
use Rattle.journal.specs.Pairs.{StandsAsOrAfter, stands_as, spare_disk, side_in, generation_in}
use Rattle.journal.specs.Snapshot.{bytes_for}
use Rattle.journal.proofs.Checkpoints.{made_none, as_or_after, new_pair, new_stands}
use Rattle.journal.proofs.Packing.{checkpoint_ends}
use Rattle.journal.proofs.journal.Journal.rewrite.Goals as goal
use Rattle.journal.proofs.journal.Journal.rewrite.Goals.{then-len-ge-MAX_JOURNAL_BYTES-via-then-len-ge-MAX_JOURNAL_BYTES, then-len-ge-MAX_JOURNAL_BYTES-via-else-len-ge-MAX_JOURNAL_BYTES+then-spare}

pub returns-then-len-ge-MAX_JOURNAL_BYTES-clause-calls_err :
    goal.returns-then-len-ge-MAX_JOURNAL_BYTES-clause-calls_err
returns-then-len-ge-MAX_JOURNAL_BYTES-clause-calls_err g c =
    let old = c.args.self.now in
    let same : c.then-len-ge-MAX_JOURNAL_BYTES.self ≡ old = elim c.then-len-ge-MAX_JOURNAL_BYTES.branch [
      | then-len-ge-MAX_JOURNAL_BYTES-via-then-len-ge-MAX_JOURNAL_BYTES w ↦ w.self-is ∙ ap (λ o. record old { spare = o }) (sym c.in-Some.is)
      | then-len-ge-MAX_JOURNAL_BYTES-via-else-len-ge-MAX_JOURNAL_BYTES+then-spare w ↦ w.self-is ∙ ap (λ o. record old { spare = o }) (sym c.in-Some.is)
    ] in
    made_none (rewrite_calls (bytes_for (generation_in old + 1) c.args.snapshot)) (g.D.Disk.device.calls (spare_disk old)) (g.D.Disk.device.calls (spare_disk c.then-len-ge-MAX_JOURNAL_BYTES.self))
    (ap (λ j. g.D.Disk.device.calls (spare_disk j)) same)

pub returns-in-Err-clause-any_moment : goal.returns-in-Err-clause-any_moment
returns-in-Err-clause-any_moment g c =
    let device = g.D.Disk.device in
    let old = c.args.self.now in
    let spare = c.in-Some.spare in
    let is : old.spare ≡ Some spare = c.in-Some.is in
    let found = c.written_len-len.ensures in
    let pair : IsAlivePair device old.disk spare = subst (λ o. IfSome o (IsAlivePair device old.disk)) is c.requires.alive.pair in
    let reported : reports (device.content old.disk) ≡ Some (Some spare.generation) =
    c.requires.begun ∙ ap (λ o. Some (Some (option_map_or (λ s. s.generation) o 0))) is in
    let P : List ℕ → Type 0 = IsOlderOrNew spare.generation (bytes_for (spare.generation + 1) c.args.snapshot) in
    subst (λ o. AtEachMoment device (spare_disk (record old { spare = o })) c.rewrite.new.self.disk (StandsAsOrAfter device (record old { spare = o }) c.args.snapshot)) (sym is)
    (weaker device spare.disk c.rewrite.new.self.disk (StandsAsOrAfter device (record old { spare = Some spare }) c.args.snapshot) P (c.in-Err.ensures.any_moment pair.at_rest)
    (λ left at. as_or_after c.args.snapshot found.packs found.shaped spare.generation (omega arith) spare.side (device.content old.disk) (device.content spare.disk) left reported pair.at_rest at))

pub returns-clause-any_moment : goal.returns-clause-any_moment
returns-clause-any_moment g c =
    let device = g.D.Disk.device in
    let old = c.args.self.now in
    let spare = c.in-Some.spare in
    let is : old.spare ≡ Some spare = c.in-Some.is in
    let found = c.written_len-len.ensures in
    let pair : IsAlivePair device old.disk spare = subst (λ o. IfSome o (IsAlivePair device old.disk)) is c.requires.alive.pair in
    let reported : reports (device.content old.disk) ≡ Some (Some spare.generation) =
    c.requires.begun ∙ ap (λ o. Some (Some (option_map_or (λ s. s.generation) o 0))) is in
    let P : List ℕ → Type 0 = IsOlderOrNew spare.generation (bytes_for (spare.generation + 1) c.args.snapshot) in
    subst (λ o. AtEachMoment device (spare_disk (record old { spare = o })) c.rewrite.new.live (StandsAsOrAfter device (record old { spare = o }) c.args.snapshot)) (sym is)
    (weaker device spare.disk c.rewrite.new.live (StandsAsOrAfter device (record old { spare = Some spare }) c.args.snapshot) P (c.in_default-rewrite.ensures.any_moment pair.at_rest)
    (λ left at. as_or_after c.args.snapshot found.packs found.shaped spare.generation (omega arith) spare.side (device.content old.disk) (device.content spare.disk) left reported pair.at_rest at))

pub returns-clause-alive : goal.returns-clause-alive
returns-clause-alive g c =
    let device = g.D.Disk.device in
    let old = c.args.self.now in
    let spare = c.in-Some.spare in
    let is : old.spare ≡ Some spare = c.in-Some.is in
    let found = c.written_len-len.ensures in
    let done = c.in_default-rewrite.ensures in
    let reported : reports (device.content old.disk) ≡ Some (Some spare.generation) =
    c.requires.begun ∙ ap (λ o. Some (Some (option_map_or (λ s. s.generation) o 0))) is in
    record {
      ends_closed = subst EndsClosed (sym done.content) (checkpoint_ends (spare.generation + 1) c.args.snapshot found.packs);
      len = omega (arith, ap length done.content, found.value (spare.generation + 1));
      durable = done.durable;
      pair = new_pair device c.args.snapshot found.packs found.shaped spare c.rewrite.new.self old.disk c.rewrite.new.live (omega arith) reported done.swapped done.content c.requires.alive.durable;
    }

pub returns-clause-records : goal.returns-clause-records
returns-clause-records g c =
    let device = g.D.Disk.device in
    let old = c.args.self.now in
    let spare = c.in-Some.spare in
    let is : old.spare ≡ Some spare = c.in-Some.is in
    let found = c.written_len-len.ensures in
    let done = c.in_default-rewrite.ensures in
    let reported : reports (device.content old.disk) ≡ Some (Some spare.generation) =
    c.requires.begun ∙ ap (λ o. Some (Some (option_map_or (λ s. s.generation) o 0))) is in
    new_stands device c.args.snapshot found.packs found.shaped spare c.rewrite.new.self old.disk c.rewrite.new.live (omega arith) reported done.swapped done.content
    ∙ ap (λ o. stands_as (other_side (side_in (record old { spare = o }))) (generation_in (record old { spare = o }) + 1) c.args.snapshot) (sym is)
