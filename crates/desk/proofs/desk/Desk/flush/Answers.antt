use Rattle.std.proofs.Common.{◌≡◌, ◌≢◌, ◌⊎◌, ℕ, ◌+◌, [], ◌∷◌, length, sym, ◌∙◌, subst}
use Rattle.std.specs.Prelude.{IfOk, IfErr, IsErrOf}
use Rattle.book.specs.InFlight.{FindsNoRoom, FailsWithRoom, IsWithOrWithout}
use Rattle.book.specs.declared.own.error.FlushError.TheVariants.{Full, Device}
use Rattle.journal.specs.Journal.{disk_of}
use Rattle.spec_world.specs.Steps.{take_to, device_call, settle}
use Rattle.spec_world.specs.World.{World}
use Rattle.validator.specs.Setting.{node_of}
use Rattle.desk.specs.Desk.{DeskView}
use Rattle.desk.specs.AtWorld.{IsAt, LeadsTo}
use Rattle.desk.proofs.Answered.{flush_steps, flush_fails, alive_at_ok}
use Rattle.desk.proofs.Reading.{not_shut}
use Rattle.desk.proofs.Sound.{flush_sound}
use Rattle.desk.proofs.Standing.{left_by}
use Rattle.desk.proofs.desk.Desk.flush.Goals as goal

pub flush-requires-clause-begun : goal.flush-requires-clause-begun
flush-requires-clause-begun g c =
    let up = sym c.is_down.ensures.value ∙ c.if-is_down.false in
    not_shut g.D.Disk.device c.self.inside.journal (c.self.invariant.begun up)

pub invariant_of-self : goal.invariant_of-self
invariant_of-self g c =
    let before : DeskView g.row.S.Denot g.row.D.Denot = record { book = c.self.inside.book; journal = c.self.inside.journal } in
    let later : DeskView g.row.S.Denot g.row.D.Denot = record { book = c.flush.new.self; journal = c.flush.new.journal } in
    let up = sym c.is_down.ensures.value ∙ c.if-is_down.false in
    flush_sound (node_of g.S.Sign.scheme before.book.validator.setting) g.D.Disk.device before later c.self.invariant up c.flush.result
    (g.D.Disk.device.content (disk_of before.journal)) c.flush.ensures.idle c.flush.ensures.flushed c.flush.ensures.unchanged c.flush.ensures.full c.flush.ensures.fails
    (alive_at_ok g.D.Disk.device later.journal c.flush.result c.flush.ensures.alive)

pub returns-clause-full : goal.returns-clause-full
returns-clause-full g c =
    subst (λ (d : DeskView g.row.S.Denot g.row.D.Denot). IsErrOf c.flush.result Full → FindsNoRoom (node_of g.S.Sign.scheme d.book.validator.setting)
    d.book c.flush.new.self (g.D.Disk.device.content (disk_of d.journal))) c.self.view_is
    c.flush.ensures.full

pub returns-clause-fails : goal.returns-clause-fails
returns-clause-fails g c =
    subst (λ (d : DeskView g.row.S.Denot g.row.D.Denot). IsErrOf c.flush.result Device
    → FailsWithRoom (node_of g.S.Sign.scheme d.book.validator.setting) d.book c.flush.new.self (g.D.Disk.device.content (disk_of d.journal)))
    c.self.view_is
    c.flush.ensures.fails

pub returns-clause-steps : goal.returns-clause-steps
returns-clause-steps g c =
    let before : DeskView g.row.S.Denot g.row.D.Denot = record { book = c.self.inside.book; journal = c.self.inside.journal } in
    let later : DeskView g.row.S.Denot g.row.D.Denot = record { book = c.flush.new.self; journal = c.flush.new.journal } in
    let up = sym c.is_down.ensures.value ∙ c.if-is_down.false in
    subst (λ (d : DeskView g.row.S.Denot g.row.D.Denot). IfOk c.flush.result
    (λ count. d.book.pending ≢ [] → (world : World) → IsAt (node_of g.S.Sign.scheme d.book.validator.setting) g.D.Disk.device world d
    → LeadsTo (node_of g.S.Sign.scheme d.book.validator.setting) g.D.Disk.device world
    (take_to (length world.settled + count) ∷ device_call ∷ device_call ∷ device_call ∷ device_call ∷ settle ∷ []) later)) c.self.view_is
    (flush_steps (node_of g.S.Sign.scheme before.book.validator.setting) g.D.Disk.device before later c.flush_is_steps.ensures up c.self.invariant
    c.flush.ensures.spare c.flush.result c.flush.ensures.flushed
    (alive_at_ok g.D.Disk.device later.journal c.flush.result c.flush.ensures.alive))

pub returns-clause-fails_step : goal.returns-clause-fails_step
returns-clause-fails_step g c =
    let before : DeskView g.row.S.Denot g.row.D.Denot = record { book = c.self.inside.book; journal = c.self.inside.journal } in
    let later : DeskView g.row.S.Denot g.row.D.Denot = record { book = c.flush.new.self; journal = c.flush.new.journal } in
    let up = sym c.is_down.ensures.value ∙ c.if-is_down.false in
    subst (λ (d : DeskView g.row.S.Denot g.row.D.Denot). IfErr c.flush.result (λ error. (error ≡ Full) ⊎ (error ≡ Device) → (world : World)
    → IsAt (node_of g.S.Sign.scheme d.book.validator.setting) g.D.Disk.device world d
    → (count : ℕ) × LeadsTo (node_of g.S.Sign.scheme d.book.validator.setting) g.D.Disk.device world (take_to count ∷ []) later)) c.self.view_is
    (flush_fails (node_of g.S.Sign.scheme before.book.validator.setting) g.D.Disk.device before later c.fail_is_a_step.ensures up c.self.invariant
    c.flush.ensures.spare c.flush.result c.flush.ensures.full c.flush.ensures.full_same
    c.flush.ensures.fails
    (λ bytes may. left_by g.D.Disk.device (disk_of before.journal) (disk_of later.journal)
    (IsWithOrWithout before.book.pending (g.D.Disk.device.content (disk_of before.journal))) bytes c.flush.ensures.any_moment
    g.met.D.Disk.counts_now may))
