use Rattle.std.proofs.Common.{◌≡◌, ◌∷◌, [], inl, inr, List, ℕ, ap, sym, ◌∙◌, subst, arith, Err}
use Rattle.std.proofs.lemmas.Result.{err_from_is_err_and}
use Rattle.std.proofs.Common.{◌<◌, ◌+◌, length}
use Rattle.journal.specs.Format.{group_bytes, stands}
use Rattle.journal.specs.declared.layout.TheConstants.{MAX_JOURNAL_BYTES}
use Rattle.journal.specs.Journal.{disk_of, IsBeforeOrAfter, stands_with}
use Rattle.spec_records.specs.Records.{configuration_of}
use Rattle.validator.specs.Setting.{node_of}
use Rattle.opening.specs.Decoded.{decoded, KeepsOrBegins}
use Rattle.std.specs.Option.{option_map}
use Rattle.journal.specs.declared.version.Version.{Version}
use Rattle.journal.specs.Areas.{generation_of}
use Rattle.journal.specs.Configuration.{shaped_version}
use Rattle.diskmodel.proofs.Clock.{started, weaker}
use Rattle.opening.proofs.Empty.{never_full, begins_with}
use Rattle.opening.proofs.Opened.{one_text}
use Rattle.opening.proofs.Reporting.{decoded_same, decoded_before_or_after}
use Rattle.opening.proofs.reopening.write_configuration.Goals as goal

pub append-requires-clause-first : goal.append-requires-clause-first
unfolding generation_of
append-requires-clause-first g c pair new = ap generation_of c.in_ok-group.ensures.group ∙ ap (option_map (λ (version : Version). 0)) c.in_ok-group.ensures.shape

pub returns-in_err-group-clause-any_moment : goal.returns-in_err-group-clause-any_moment
returns-in_err-group-clause-any_moment g c =
    let node = node_of g.S.Sign.scheme c.args.config.now in
    let old = disk_of c.args.journal.now in
    let file = g.D.Disk.device.content old in
    started g.D.Disk.device old (λ left. decoded node left ≡ decoded node file)
    (λ left now. decoded_same node left file (ap stands (c.requires.alive.durable left (g.met.D.Disk.only_now old left now))))

pub returns-in_err-append-clause-errors : goal.returns-in_err-append-clause-errors
returns-in_err-append-clause-errors g c =
    let file = g.D.Disk.device.content (disk_of c.args.journal.now) in
    let configuration = configuration_of c.args.version c.args.config.now.charter c.args.config.now.own in
    let p = err_from_is_err_and c.from_residual-in_err-append.result c.from_residual-in_err-append.ensures.1 in
    let group_is = c.in_ok-group.ensures.group ∙ (λ i. configuration_of c.args.version (c.committee.ensures i) (c.own.ensures i) ∷ []) in
    rw (p.1, p.2)
    (elim c.in_err-append.ensures.errors [
      | inl device ↦ inl device
      | inr full ↦
          absurd (never_full file configuration c.requires.alive.ends_closed c.requires.empty
          (omega (
            arith,
            c.in_ok-group.ensures.short,
            ap (λ (l : List ℕ). length l)
                (λ i. configuration_of c.args.version (c.committee.ensures i) (c.own.ensures i)),
          ))
          (subst (λ group. MAX_JOURNAL_BYTES < length file + length (group_bytes group)) group_is (c.in_err-append.ensures.full.0 (ap (λ e. Err e) full))))
    ])

pub returns-in_err-append-clause-any_moment : goal.returns-in_err-append-clause-any_moment
returns-in_err-append-clause-any_moment g c =
    let node = node_of g.S.Sign.scheme c.args.config.now in
    let old = disk_of c.args.journal.now in
    let file = g.D.Disk.device.content old in
    weaker g.D.Disk.device old (disk_of c.append.new.self) (λ left. decoded node left ≡ decoded node file) (IsBeforeOrAfter file c.in_ok-group.group) c.append.ensures.any_moment
    (λ left is. decoded_before_or_after c.args.version node file left c.requires.can_report
    ((λ i. shaped_version (configuration_of c.args.version (sym c.committee.ensures i) (sym c.own.ensures i))) ∙ c.in_ok-group.ensures.shape)
    c.requires.empty (subst (λ group. IsBeforeOrAfter file group left)
    (c.in_ok-group.ensures.group ∙ (λ i. configuration_of c.args.version (c.committee.ensures i) (c.own.ensures i) ∷ [])) is))

pub returns-clause-any_moment : goal.returns-clause-any_moment
returns-clause-any_moment g c =
    let node = node_of g.S.Sign.scheme c.args.config.now in
    let old = disk_of c.args.journal.now in
    let file = g.D.Disk.device.content old in
    weaker g.D.Disk.device old (disk_of c.append.new.self) (λ left. decoded node left ≡ decoded node file) (IsBeforeOrAfter file c.in_ok-group.group) c.append.ensures.any_moment
    (λ left is. decoded_before_or_after c.args.version node file left c.requires.can_report
    ((λ i. shaped_version (configuration_of c.args.version (sym c.committee.ensures i) (sym c.own.ensures i))) ∙ c.in_ok-group.ensures.shape)
    c.requires.empty (subst (λ group. IsBeforeOrAfter file group left)
    (c.in_ok-group.ensures.group ∙ (λ i. configuration_of c.args.version (c.committee.ensures i) (c.own.ensures i) ∷ [])) is))

pub returns-clause-same : goal.returns-clause-same
returns-clause-same g c =
    let node = node_of g.S.Sign.scheme c.args.config.now in
    let file = g.D.Disk.device.content (disk_of c.args.journal.now) in
    let later = g.D.Disk.device.content (disk_of c.append.new.self) in
    decoded_before_or_after c.args.version node file later c.requires.can_report
    ((λ i. shaped_version (configuration_of c.args.version (sym c.committee.ensures i) (sym c.own.ensures i))) ∙ c.in_ok-group.ensures.shape)
    c.requires.empty
    (subst (λ group. IsBeforeOrAfter file group later)
    (c.in_ok-group.ensures.group ∙ (λ i. configuration_of c.args.version (c.committee.ensures i) (c.own.ensures i) ∷ []))
    (inr c.in_ok-append.ensures.records))

pub returns-clause-texts : goal.returns-clause-texts
returns-clause-texts g c =
    let file = g.D.Disk.device.content (disk_of c.args.journal.now) in
    let later = g.D.Disk.device.content (disk_of c.append.new.self) in
    one_text file later (configuration_of c.args.version c.args.config.now.charter c.args.config.now.own) c.requires.empty
    (subst (λ group. stands later ≡ stands_with file group)
    (c.in_ok-group.ensures.group ∙ (λ i. configuration_of c.args.version (c.committee.ensures i) (c.own.ensures i) ∷ []))
    c.in_ok-append.ensures.records)

pub returns-in_err-group-clause-keeps : goal.returns-in_err-group-clause-keeps
returns-in_err-group-clause-keeps g c =
    let old = disk_of c.args.journal.now in
    let node = node_of g.S.Sign.scheme c.args.config.now in
    started g.D.Disk.device old (KeepsOrBegins c.args.version node (g.D.Disk.device.content old))
    (λ left now. inl ([], c.requires.empty, ap stands (c.requires.alive.durable left (g.met.D.Disk.only_now old left now)) ∙ c.requires.empty))

pub returns-in_err-append-clause-keeps : goal.returns-in_err-append-clause-keeps
returns-in_err-append-clause-keeps g c =
    let old = disk_of c.args.journal.now in
    let file = g.D.Disk.device.content old in
    let node = node_of g.S.Sign.scheme c.args.config.now in
    weaker g.D.Disk.device old (disk_of c.append.new.self) (KeepsOrBegins c.args.version node file) (IsBeforeOrAfter file c.in_ok-group.group) c.append.ensures.any_moment
    (λ left is. begins_with c.args.version node file left c.requires.alive.ends_closed c.requires.empty
    (subst (λ group. IsBeforeOrAfter file group left)
    (c.in_ok-group.ensures.group ∙ (λ i. configuration_of c.args.version (c.committee.ensures i) (c.own.ensures i) ∷ [])) is))

pub returns-clause-keeps : goal.returns-clause-keeps
returns-clause-keeps g c =
    let old = disk_of c.args.journal.now in
    let file = g.D.Disk.device.content old in
    let node = node_of g.S.Sign.scheme c.args.config.now in
    weaker g.D.Disk.device old (disk_of c.append.new.self) (KeepsOrBegins c.args.version node file) (IsBeforeOrAfter file c.in_ok-group.group) c.append.ensures.any_moment
    (λ left is. begins_with c.args.version node file left c.requires.alive.ends_closed c.requires.empty
    (subst (λ group. IsBeforeOrAfter file group left)
    (c.in_ok-group.ensures.group ∙ (λ i. configuration_of c.args.version (c.committee.ensures i) (c.own.ensures i) ∷ [])) is))
