use Rattle.std.proofs.Common.{rules, ◌≡◌, subst, Ok, Err, ap, sym, ◌∙◌, inl}
use borrow.Author.Rules.{in_lives}
use Rattle.std.proofs.lemmas.Result.{err_from_is_err_and}
use Rattle.journal.specs.Format.{stands}
use Rattle.journal.specs.Journal.{disk_of}
use Rattle.journal.specs.declared.version.Version.TheVariants.{Second}
use Rattle.validator.specs.Setting.{node_of}
use Rattle.validator.specs.Setting.{ConfigView}
use Rattle.opening.specs.Decoded.{decoded, read_journal, StandsAt, KeepsOrBegins}
use Rattle.opening.proofs.Opened.{same_texts}
use Rattle.diskmodel.proofs.Clock.{started}
use Rattle.opening.proofs.Reporting.{decoded_same, decoded_records, reports_is, stands_same}
use Rattle.opening.proofs.Replays.{none_taken, some_taken, same_records}
use Rattle.opening.proofs.reopening.validator_on.Goals as goal
use Rattle.opening.proofs.reopening.validator_on.Goals.{then-is_empty+in_ok-write_configuration, else-is_empty}

pub returns-in_err-validator-clause-err : goal.returns-in_err-validator-clause-err
returns-in_err-validator-clause-err g c =
    let node = node_of g.S.Sign.scheme c.args.config.now in
    let file = g.D.Disk.device.content (disk_of c.args.journal.now) in
    let has = c.requires.records in
    let error = c.in_err-validator.field-0.0 in
    let p = err_from_is_err_and c.from_residual.result c.from_residual.ensures.1 in
    let read : read_journal node has.0 ≡ Err error =
    subst (λ (s : ConfigView g.row.S.Denot). read_journal (node_of g.S.Sign.scheme s) has.0 ≡ Err error) c.requires.config (c.in_err-validator.ensures.err has.0 has.2) in
    rw (p.1, p.2) (λ other. reports_is error (decoded node file) (decoded_records node file has.0 has.1 ∙ read))

pub returns-clause-setting : goal.returns-clause-setting
returns-clause-setting g c = let has = c.requires.records in c.in_ok-validator.ensures.setting has.0 has.2 ∙ c.requires.config

pub returns-clause-stands : goal.returns-clause-stands
returns-clause-stands g c =
    let node = node_of g.S.Sign.scheme c.args.config.now in
    let file = g.D.Disk.device.content (disk_of c.args.journal.now) in
    let has = c.requires.records in
    let tables = c.in_ok-validator.validator.tables in
    stands_same node (read_journal node has.0) (decoded node file) tables (sym (decoded_records node file has.0 has.1))
    (subst (λ (s : ConfigView g.row.S.Denot). StandsAt (node_of g.S.Sign.scheme s) (read_journal (node_of g.S.Sign.scheme s) has.0) tables) c.requires.config
    (c.in_ok-validator.ensures.stands has.0 has.2))

pub returns-clause-texts : goal.returns-clause-texts
returns-clause-texts g c =
    let has = c.requires.records in
    same_texts (g.D.Disk.device.content (disk_of c.args.journal.now)) has.0 has.1 (c.in_ok-validator.ensures.texts has.0 has.2)

pub write_configuration-requires-clause-empty : goal.write_configuration-requires-clause-empty
write_configuration-requires-clause-empty g c =
    let has = c.requires.records in
    has.1 ∙ ap Ok (none_taken c.args.replay.first has.0 has.2.begins (sym c.is_empty-is_empty.ensures ∙ c.if-is_empty.true))

pub returns-clause-same : goal.returns-clause-same
returns-clause-same g c =
    let node = node_of g.S.Sign.scheme c.args.config.now in
    elim c.if-is_empty.branch [
      | then-is_empty+in_ok-write_configuration w ↦ ap (λ j. decoded node (g.D.Disk.device.content (disk_of j))) w.journal-is ∙ w.in_ok-write_configuration.ensures.same
      | else-is_empty w ↦ ap (λ j. decoded node (g.D.Disk.device.content (disk_of j))) w.journal-is
    ]

pub returns-clause-any_moment : goal.returns-clause-any_moment
returns-clause-any_moment g c =
    let node = node_of g.S.Sign.scheme c.args.config.now in
    let old = disk_of c.args.journal.now in
    let file = g.D.Disk.device.content old in
    elim c.if-is_empty.branch [
      | then-is_empty+in_ok-write_configuration w ↦ rw w.journal-is w.write_configuration.ensures.any_moment
      | else-is_empty w ↦
          rw w.journal-is
          (started g.D.Disk.device old (λ left. decoded node left ≡ decoded node file)
          (λ left now. decoded_same node left file (ap stands (c.requires.alive.durable left (g.met.D.Disk.only_now old left now)))))
    ]

pub returns-in_err-validator-clause-keeps : goal.returns-in_err-validator-clause-keeps
returns-in_err-validator-clause-keeps g c =
    let old = disk_of c.args.journal.now in
    let node = node_of g.S.Sign.scheme c.args.config.now in
    started g.D.Disk.device old (KeepsOrBegins Second node (g.D.Disk.device.content old))
    (λ left now. inl (c.requires.records.0, c.requires.records.1, ap stands (c.requires.alive.durable left (g.met.D.Disk.only_now old left now)) ∙ c.requires.records.1))

pub returns-clause-keeps : goal.returns-clause-keeps
returns-clause-keeps g c =
    let old = disk_of c.args.journal.now in
    let node = node_of g.S.Sign.scheme c.args.config.now in
    elim c.if-is_empty.branch [
      | then-is_empty+in_ok-write_configuration w ↦ rw w.journal-is w.write_configuration.ensures.keeps
      | else-is_empty w ↦
          rw w.journal-is
          (started g.D.Disk.device old (KeepsOrBegins Second node (g.D.Disk.device.content old))
          (λ left now. inl (c.requires.records.0, c.requires.records.1, ap stands (c.requires.alive.durable left (g.met.D.Disk.only_now old left now)) ∙ c.requires.records.1)))
    ]

pub returns-clause-texts_left : goal.returns-clause-texts_left
returns-clause-texts_left g c =
    let file = g.D.Disk.device.content (disk_of c.args.journal.now) in
    elim c.if-is_empty.branch [
      | then-is_empty+in_ok-write_configuration w ↦ rw w.journal-is w.in_ok-write_configuration.ensures.texts
      | else-is_empty w ↦ rw w.journal-is (same_texts file c.requires.records.0 c.requires.records.1 (c.in_ok-validator.ensures.texts c.requires.records.0 c.requires.records.2))
    ]

pub returns-clause-alive : goal.returns-clause-alive
returns-clause-alive g c =
    elim c.if-is_empty.branch [
      | then-is_empty+in_ok-write_configuration w ↦ rw w.journal-is w.in_ok-write_configuration.ensures.alive
      | else-is_empty w ↦ rw w.journal-is c.requires.alive
    ]

pub returns-clause-cause : goal.returns-clause-cause
returns-clause-cause g c = (
  elim c.if-is_empty.branch [
    | then-is_empty+in_ok-write_configuration w ↦ ap (λ j. g.D.Disk.device.faults (disk_of j)) w.journal-is ∙ w.in_ok-write_configuration.ensures.cause.0
    | else-is_empty w ↦ ap (λ j. g.D.Disk.device.faults (disk_of j)) w.journal-is
  ],
  tt,
)

pub returns-clause-configured : goal.returns-clause-configured
returns-clause-configured g c =
    elim c.if-is_empty.branch [
      | then-is_empty+in_ok-write_configuration w ↦ rw w.journal-is w.in_ok-write_configuration.ensures.configured
      | else-is_empty w ↦
          rw w.journal-is
          (λ none. some_taken c.args.replay.first c.requires.records.0 c.requires.records.2.begins (sym c.is_empty-is_empty.ensures ∙ w.if-is_empty.false)
          (same_records (sym c.requires.records.1 ∙ none)))
    ]

pub branch-validator-requires : goal.branch-validator-requires
branch-validator-requires g c κs = λ h. simp (in_lives, h) (search rules)

pub from_residual-requires : goal.from_residual-requires
from_residual-requires g c κs = λ h. simp (in_lives, h) (search rules)

pub from_residual-requires-in_err-write_configuration : goal.from_residual-requires-in_err-write_configuration
from_residual-requires-in_err-write_configuration g c κs = λ h. simp (in_lives, h) (search rules)
