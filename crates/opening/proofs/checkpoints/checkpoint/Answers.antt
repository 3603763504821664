use Rattle.std.proofs.Common.{◌≡◌, ◌+◌, ℕ, List, Result, Ok, Err, ap, subst}
use Rattle.std.specs.Prelude.{All}
use Rattle.std.proofs.lemmas.Result.{err_from_is_err_and}
use Rattle.committee.specs.Charter.{Charter}
use Rattle.wire.specs.Fields.{HasBytes}
use Rattle.diskmodel.proofs.Clock.{weaker}
use Rattle.journal.specs.Areas.{other_side}
use Rattle.journal.specs.Journal.{disk_of}
use Rattle.journal.specs.Pairs.{spare_disk, side_in, generation_in, areas_of, areas_with, StandsAsOrAfter}
use Rattle.validator.specs.Setting.{node_of}
use Rattle.admission.proofs.OneState.{one_state}
use Rattle.opening.specs.Decoded.{decoded_in}
use Rattle.opening.proofs.Renewals.{areas_pair, generation_decoded, rewritten_same, rewritten_newest, rewritten_keeps, left_same, full_at, room_at}
use Rattle.opening.proofs.checkpoints.checkpoint.Goals as goal

no_error : (records : List (List ℕ)) {E : Type 0} {error : E} → ◌≡◌ {A = Result (List (List ℕ)) E} (Ok records) (Err error) → ⊥
no_error records same = cc

pub rewrite-requires-clause-begun : goal.rewrite-requires-clause-begun
rewrite-requires-clause-begun g c =
    let node = node_of g.S.Sign.scheme c.args.validator.now.setting in
    let keys = subst (λ (charter : Charter). All (λ key. HasBytes 32 key.0) charter.keys) c.committee.ensures c.keys_hold.ensures in
    generation_decoded g.D.Disk.device node c.args.journal.now c.limits_hold.ensures.node keys c.requires.pair c.requires.alive c.requires.configured

pub returns-in_err-rewrite-clause-any_moment : goal.returns-in_err-rewrite-clause-any_moment
returns-in_err-rewrite-clause-any_moment g c =
    let node = node_of g.S.Sign.scheme c.args.validator.now.setting in
    let device = g.D.Disk.device in
    let journal = c.args.journal.now in
    let keys = subst (λ (charter : Charter). All (λ key. HasBytes 32 key.0) charter.keys) c.committee.ensures c.keys_hold.ensures in
    let p = err_from_is_err_and c.from_residual-in_err-rewrite.result c.from_residual-in_err-rewrite.ensures.1 in
    rw p.1
    (weaker device (spare_disk journal) (spare_disk c.rewrite.new.self) (λ left. decoded_in node (areas_with device journal left) ≡ decoded_in node (areas_of device journal))
    (StandsAsOrAfter device journal c.in_ok-snapshot.snapshot) c.in_err-rewrite.ensures.any_moment
    (left_same device node journal c.limits_hold.ensures.node keys c.requires.pair c.requires.alive c.requires.configured one_state c.args.validator.now.tables c.in_ok-snapshot.snapshot
    c.requires.stands c.in_ok-snapshot.ensures))

pub returns-in_err-rewrite-clause-full : goal.returns-in_err-rewrite-clause-full
returns-in_err-rewrite-clause-full g c =
    let node = node_of g.S.Sign.scheme c.args.validator.now.setting in
    let journal = c.args.journal.now in
    let keys = subst (λ (charter : Charter). All (λ key. HasBytes 32 key.0) charter.keys) c.committee.ensures c.keys_hold.ensures in
    let p = err_from_is_err_and c.from_residual-in_err-rewrite.result c.from_residual-in_err-rewrite.ensures.1 in
    rw (p.1, p.2)
    (λ is. full_at g.D.Disk.device node journal c.limits_hold.ensures.node keys c.requires.pair c.requires.alive c.requires.configured one_state c.args.validator.now.tables c.in_ok-snapshot.snapshot
    c.requires.stands c.in_ok-snapshot.ensures (c.in_err-rewrite.ensures.full.0 (ap (λ e. Err e) is)))

pub returns-clause-same : goal.returns-clause-same
returns-clause-same g c =
    let node = node_of g.S.Sign.scheme c.args.validator.now.setting in
    let device = g.D.Disk.device in
    let journal = c.args.journal.now in
    let later = c.rewrite.new.self in
    let keys = subst (λ (charter : Charter). All (λ key. HasBytes 32 key.0) charter.keys) c.committee.ensures c.keys_hold.ensures in
    rewritten_same device node journal c.limits_hold.ensures.node keys c.requires.pair c.requires.alive c.requires.configured one_state c.args.validator.now.tables c.in_ok-snapshot.snapshot
    c.requires.stands c.in_ok-snapshot.ensures (areas_of device later) (areas_pair device later (device.content (spare_disk later)) c.in_ok-rewrite.ensures.swapped.pair)
    (other_side (side_in journal)) (generation_in journal + 1) c.in_ok-rewrite.ensures.records

pub returns-clause-newest : goal.returns-clause-newest
returns-clause-newest g c =
    let node = node_of g.S.Sign.scheme c.args.validator.now.setting in
    let device = g.D.Disk.device in
    let journal = c.args.journal.now in
    let later = c.rewrite.new.self in
    let keys = subst (λ (charter : Charter). All (λ key. HasBytes 32 key.0) charter.keys) c.committee.ensures c.keys_hold.ensures in
    rewritten_newest device node journal c.limits_hold.ensures.node keys c.requires.pair c.requires.alive c.requires.configured one_state c.args.validator.now.tables c.in_ok-snapshot.snapshot
    c.requires.stands c.in_ok-snapshot.ensures (areas_of device later) (areas_pair device later (device.content (spare_disk later)) c.in_ok-rewrite.ensures.swapped.pair)
    (other_side (side_in journal)) (generation_in journal + 1) c.in_ok-rewrite.ensures.records

pub returns-clause-kept : goal.returns-clause-kept
returns-clause-kept g c =
    let node = node_of g.S.Sign.scheme c.args.validator.now.setting in
    let device = g.D.Disk.device in
    let journal = c.args.journal.now in
    let later = c.rewrite.new.self in
    let keys = subst (λ (charter : Charter). All (λ key. HasBytes 32 key.0) charter.keys) c.committee.ensures c.keys_hold.ensures in
    rewritten_keeps device node journal c.limits_hold.ensures.node keys c.requires.pair c.requires.alive c.requires.configured one_state c.args.validator.now.tables c.in_ok-snapshot.snapshot
    c.requires.stands c.in_ok-snapshot.ensures (areas_of device later) (areas_pair device later (device.content (spare_disk later)) c.in_ok-rewrite.ensures.swapped.pair)
    (other_side (side_in journal)) (generation_in journal + 1) c.in_ok-rewrite.ensures.records

pub returns-clause-any_moment : goal.returns-clause-any_moment
returns-clause-any_moment g c =
    let node = node_of g.S.Sign.scheme c.args.validator.now.setting in
    let device = g.D.Disk.device in
    let journal = c.args.journal.now in
    let keys = subst (λ (charter : Charter). All (λ key. HasBytes 32 key.0) charter.keys) c.committee.ensures c.keys_hold.ensures in
    weaker device (spare_disk journal) (disk_of c.rewrite.new.self) (λ left. decoded_in node (areas_with device journal left) ≡ decoded_in node (areas_of device journal))
    (StandsAsOrAfter device journal c.in_ok-snapshot.snapshot) c.in_ok-rewrite.ensures.any_moment
    (left_same device node journal c.limits_hold.ensures.node keys c.requires.pair c.requires.alive c.requires.configured one_state c.args.validator.now.tables c.in_ok-snapshot.snapshot
    c.requires.stands c.in_ok-snapshot.ensures)

pub returns-clause-room : goal.returns-clause-room
returns-clause-room g c =
    let node = node_of g.S.Sign.scheme c.args.validator.now.setting in
    let journal = c.args.journal.now in
    let keys = subst (λ (charter : Charter). All (λ key. HasBytes 32 key.0) charter.keys) c.committee.ensures c.keys_hold.ensures in
    room_at g.D.Disk.device node journal c.limits_hold.ensures.node keys c.requires.pair c.requires.alive c.requires.configured one_state c.args.validator.now.tables c.in_ok-snapshot.snapshot
    c.requires.stands c.in_ok-snapshot.ensures (λ full. no_error c.in_ok-rewrite.field-0 (c.in_ok-rewrite.ensures.full.1 full))
