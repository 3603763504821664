use Rattle.std.proofs.Common.{rules, ◌≡◌, ◌⊎◌, ℕ, ◌+◌, ◌^◌, ◌<◌, List, [], ◌∷◌, sym, ◌∙◌, subst}
use Rattle.std.specs.Prelude.{IfOk, IfErr, OnOk, IsErrOf, IsSome}
use Rattle.book.specs.Checkpoints.{Checkpoints, FindsNoRoomToRewrite, FailsToRewrite, StandsAsOrForAll}
use Rattle.book.specs.declared.own.error.FlushError.TheVariants.{Full, Device}
use Rattle.journal.specs.Journal.{spare_of}
use Rattle.journal.specs.Pairs.{generation_in, rewritten_disk, spare_disk}
use Rattle.spec_world.specs.Runs.{AreKeys}
use Rattle.spec_world.specs.Steps.{take_all}
use Rattle.spec_world.specs.World.{World}
use Rattle.validator.specs.Setting.{node_of}
use Rattle.desk.specs.AtWorld.{IsAt, LeadsTo, CheckpointsAt}
use Rattle.desk.specs.Desk.{DeskView}
use Rattle.desk.proofs.Answered.{checkpoint_steps, checkpoint_fails, alive_at_ok}
use Rattle.desk.proofs.Sound.{checkpoint_sound}
use Rattle.desk.proofs.Standing.{left_by}
use Rattle.desk.proofs.desk.Desk.checkpoint.Goals as goal

pub checkpoint-requires-clause-begun : goal.checkpoint-requires-clause-begun
checkpoint-requires-clause-begun g c =
    let up = sym c.is_down.ensures.value ∙ c.if-is_down.false in
    c.self.invariant.begun up (subst (λ (d : DeskView g.row.S.Denot g.row.D.Denot). IsSome (spare_of d.journal)) (sym c.self.view_is) c.requires.pair)

pub invariant_of-self : goal.invariant_of-self
invariant_of-self g c =
    let before : DeskView g.row.S.Denot g.row.D.Denot = record { book = c.self.inside.book; journal = c.self.inside.journal } in
    let later : DeskView g.row.S.Denot g.row.D.Denot = record { book = c.checkpoint.new.self; journal = c.checkpoint.new.journal } in
    let up = sym c.is_down.ensures.value ∙ c.if-is_down.false in
    checkpoint_sound (node_of g.S.Sign.scheme before.book.validator.setting) g.D.Disk.device before later c.self.invariant up c.checkpoint.result c.checkpoint.ensures.settled
    c.checkpoint.ensures.unchanged c.checkpoint.ensures.full c.checkpoint.ensures.fails (alive_at_ok g.D.Disk.device later.journal c.checkpoint.result c.checkpoint.ensures.alive)

pub returns-clause-settled : goal.returns-clause-settled
returns-clause-settled g c =
    subst (λ (d : DeskView g.row.S.Denot g.row.D.Denot). IfOk c.checkpoint.result (λ generation. Checkpoints (node_of g.S.Sign.scheme d.book.validator.setting)
    g.D.Disk.device d.book c.checkpoint.new.self d.journal c.checkpoint.new.journal)) c.self.view_is
    c.checkpoint.ensures.settled

pub returns-clause-full : goal.returns-clause-full
returns-clause-full g c =
    subst (λ (d : DeskView g.row.S.Denot g.row.D.Denot). IsErrOf c.checkpoint.result Full → FindsNoRoomToRewrite (node_of g.S.Sign.scheme d.book.validator.setting)
    d.book c.checkpoint.new.self d.journal) c.self.view_is
    c.checkpoint.ensures.full

pub returns-clause-fails : goal.returns-clause-fails
returns-clause-fails g c =
    subst (λ (d : DeskView g.row.S.Denot g.row.D.Denot). IsErrOf c.checkpoint.result Device → FailsToRewrite (node_of g.S.Sign.scheme d.book.validator.setting)
    d.book c.checkpoint.new.self d.journal) c.self.view_is
    c.checkpoint.ensures.fails

pub returns-clause-steps : goal.returns-clause-steps
returns-clause-steps g c =
    let before : DeskView g.row.S.Denot g.row.D.Denot = record { book = c.self.inside.book; journal = c.self.inside.journal } in
    let later : DeskView g.row.S.Denot g.row.D.Denot = record { book = c.checkpoint.new.self; journal = c.checkpoint.new.journal } in
    let up = sym c.is_down.ensures.value ∙ c.if-is_down.false in
    let two = subst (λ (d : DeskView g.row.S.Denot g.row.D.Denot). IsSome (spare_of d.journal)) (sym c.self.view_is) c.requires.pair in
    subst (λ (d : DeskView g.row.S.Denot g.row.D.Denot). OnOk c.checkpoint.result (AreKeys (node_of g.S.Sign.scheme d.book.validator.setting) → (world : World)
    → IsAt (node_of g.S.Sign.scheme d.book.validator.setting) g.D.Disk.device world d
    → CheckpointsAt (node_of g.S.Sign.scheme d.book.validator.setting) g.D.Disk.device world later)) c.self.view_is
    (checkpoint_steps (node_of g.S.Sign.scheme before.book.validator.setting) g.D.Disk.device before later c.checkpoint_is_steps.ensures up two c.checkpoint.result
    c.checkpoint.ensures.settled (alive_at_ok g.D.Disk.device later.journal c.checkpoint.result c.checkpoint.ensures.alive) (search rules) c.checkpoint.ensures.answer)

pub returns-clause-fails_step : goal.returns-clause-fails_step
returns-clause-fails_step g c =
    let before : DeskView g.row.S.Denot g.row.D.Denot = record { book = c.self.inside.book; journal = c.self.inside.journal } in
    let later : DeskView g.row.S.Denot g.row.D.Denot = record { book = c.checkpoint.new.self; journal = c.checkpoint.new.journal } in
    let up = sym c.is_down.ensures.value ∙ c.if-is_down.false in
    let two = subst (λ (d : DeskView g.row.S.Denot g.row.D.Denot). IsSome (spare_of d.journal)) (sym c.self.view_is) c.requires.pair in
    subst (λ (d : DeskView g.row.S.Denot g.row.D.Denot). IfErr c.checkpoint.result (λ error. (error ≡ Full) ⊎ (error ≡ Device)
    → AreKeys (node_of g.S.Sign.scheme d.book.validator.setting) → generation_in d.journal + 1 < 2 ^ 64 → (world : World)
    → IsAt (node_of g.S.Sign.scheme d.book.validator.setting) g.D.Disk.device world d
    → (bytes : List ℕ) × LeadsTo (node_of g.S.Sign.scheme d.book.validator.setting) g.D.Disk.device world (take_all bytes ∷ []) later)) c.self.view_is
    (checkpoint_fails (node_of g.S.Sign.scheme before.book.validator.setting) g.D.Disk.device before later c.take_all_is_a_step.ensures c.snapshots_are_checkpoints.ensures up
    c.self.invariant two c.checkpoint.result c.checkpoint.ensures.full c.checkpoint.ensures.fails c.checkpoint.ensures.untouched c.checkpoint.ensures.keeps
    (λ left may. left_by g.D.Disk.device (spare_disk before.journal) (rewritten_disk c.checkpoint.result later.journal)
    (StandsAsOrForAll (node_of g.S.Sign.scheme before.book.validator.setting) g.D.Disk.device before.book before.journal) left c.checkpoint.ensures.any_moment
    g.met.D.Disk.counts_now may))
