use Rattle.std.proofs.Common.{◌≡◌, ◌-◌, ◌++◌, inl, ap, ◌∙◌, subst, List, ℕ, length, arith}
use Rattle.diskmodel.specs.Disk.{IsTorn, LeavesOnly}
use Rattle.journal.specs.Format.{FitsGroup, group_bytes, stands}
use Rattle.journal.specs.Journal.{IsBeforeOrAfter}
use Rattle.journal.proofs.Parts.{length-group}
use Rattle.diskmodel.proofs.Clock.{started, goes_on}
use Rattle.journal.proofs.Moments.{from_only}
use Rattle.journal.proofs.Stops.{torn_after, staged_by, torn_gate, added}
use Rattle.journal.proofs.journal.write_group.Goals as goal

pub returns-in_err-write_at-clause-any_moment : goal.returns-in_err-write_at-clause-any_moment
returns-in_err-write_at-clause-any_moment g c =
    let file = g.D.Disk.device.content c.args.disk.now in
    let P : List ℕ → Type 0 = IsBeforeOrAfter file c.args.group.now in
    let device = g.D.Disk.device in
    let old = c.args.disk.now in
    let at_start = started device old P (λ left now. inl (ap stands (c.requires.durable left (g.met.D.Disk.only_now old left now)))) in
    let comes : (left : List ℕ) → g.D.Disk.device.outcome c.write_at.new.self left → P left =
    from_only (IsTorn c.args.len (length c.bytes.result.now)) file (g.D.Disk.device.outcome old) (g.D.Disk.device.outcome c.write_at.new.self) P c.requires.durable c.write_at.ensures.outcomes
    (λ left torn. inl (torn_after file c.requires.ends_closed (length c.bytes.result.now) left (subst (λ (n : ℕ). IsTorn n (length c.bytes.result.now) file left) c.requires.len torn))) in
    let one = goes_on device old old c.write_at.new.self P (g.D.Disk.device.outcome c.write_at.new.self) at_start c.write_at.ensures.time comes in
    one

pub returns-in_err-sync-clause-any_moment : goal.returns-in_err-sync-clause-any_moment
returns-in_err-sync-clause-any_moment g c =
    let file = g.D.Disk.device.content c.args.disk.now in
    let P : List ℕ → Type 0 = IsBeforeOrAfter file c.args.group.now in
    let device = g.D.Disk.device in
    let old = c.args.disk.now in
    let at_start = started device old P (λ left now. inl (ap stands (c.requires.durable left (g.met.D.Disk.only_now old left now)))) in
    let comes : (left : List ℕ) → g.D.Disk.device.outcome c.write_at.new.self left → P left =
    from_only (IsTorn c.args.len (length c.bytes.result.now)) file (g.D.Disk.device.outcome old) (g.D.Disk.device.outcome c.write_at.new.self) P c.requires.durable c.write_at.ensures.outcomes
    (λ left torn. inl (torn_after file c.requires.ends_closed (length c.bytes.result.now) left (subst (λ (n : ℕ). IsTorn n (length c.bytes.result.now) file left) c.requires.len torn))) in
    let one = goes_on device old old c.write_at.new.self P (g.D.Disk.device.outcome c.write_at.new.self) at_start c.write_at.ensures.time comes in
    let two = goes_on device old c.write_at.new.self c.sync.new.self P (g.D.Disk.device.outcome c.sync.new.self) one c.sync.ensures.time (λ left now. comes left (c.sync.ensures.outcomes left now)) in
    two

pub returns-in_err-write_at-2-clause-any_moment : goal.returns-in_err-write_at-2-clause-any_moment
returns-in_err-write_at-2-clause-any_moment g c =
    let file = g.D.Disk.device.content c.args.disk.now in
    let P : List ℕ → Type 0 = IsBeforeOrAfter file c.args.group.now in
    let device = g.D.Disk.device in
    let old = c.args.disk.now in
    let at_start = started device old P (λ left now. inl (ap stands (c.requires.durable left (g.met.D.Disk.only_now old left now)))) in
    let comes : (left : List ℕ) → g.D.Disk.device.outcome c.write_at.new.self left → P left =
    from_only (IsTorn c.args.len (length c.bytes.result.now)) file (g.D.Disk.device.outcome old) (g.D.Disk.device.outcome c.write_at.new.self) P c.requires.durable c.write_at.ensures.outcomes
    (λ left torn. inl (torn_after file c.requires.ends_closed (length c.bytes.result.now) left (subst (λ (n : ℕ). IsTorn n (length c.bytes.result.now) file left) c.requires.len torn))) in
    let one = goes_on device old old c.write_at.new.self P (g.D.Disk.device.outcome c.write_at.new.self) at_start c.write_at.ensures.time comes in
    let two = goes_on device old c.write_at.new.self c.sync.new.self P (g.D.Disk.device.outcome c.sync.new.self) one c.sync.ensures.time (λ left now. comes left (c.sync.ensures.outcomes left now)) in
    let fits : FitsGroup c.args.group.now = c.bytes.ensures.fits in
    let bytes_are : c.bytes.result.now ≡ group_bytes c.args.group.now = c.bytes.ensures.bytes in
    let staged : g.D.Disk.device.content c.write_at.new.self ≡ file ++ group_bytes c.args.group.now =
    staged_by file c.requires.ends_closed c.args.group.now fits c.args.len c.bytes.result.now _ c.requires.len bytes_are c.in_ok-write_at.ensures.content in
    let gate : c.args.len - 1 ≡ length file - 1 = omega (arith, c.requires.len) in
    let durable : LeavesOnly (file ++ group_bytes c.args.group.now) (g.D.Disk.device.outcome c.sync.new.self) =
    subst (λ (l : List ℕ). LeavesOnly l (g.D.Disk.device.outcome c.sync.new.self)) staged c.in_ok-sync.ensures.durable in
    let opens : (left : List ℕ) → g.D.Disk.device.outcome c.write_at-2.new.self left → P left =
    from_only (IsTorn (c.args.len - 1) 1) (file ++ group_bytes c.args.group.now) (g.D.Disk.device.outcome c.sync.new.self)
    (g.D.Disk.device.outcome c.write_at-2.new.self) P durable c.write_at-2.ensures.outcomes
    (λ left torn. torn_gate file c.requires.ends_closed c.args.group.now fits left (subst (λ (n : ℕ). IsTorn n 1 (file ++ group_bytes c.args.group.now) left) gate torn)) in
    let three = goes_on device old c.sync.new.self c.write_at-2.new.self P (g.D.Disk.device.outcome c.write_at-2.new.self) two c.write_at-2.ensures.time opens in
    three

pub returns-in_err-sync-2-clause-any_moment : goal.returns-in_err-sync-2-clause-any_moment
returns-in_err-sync-2-clause-any_moment g c =
    let file = g.D.Disk.device.content c.args.disk.now in
    let P : List ℕ → Type 0 = IsBeforeOrAfter file c.args.group.now in
    let device = g.D.Disk.device in
    let old = c.args.disk.now in
    let at_start = started device old P (λ left now. inl (ap stands (c.requires.durable left (g.met.D.Disk.only_now old left now)))) in
    let comes : (left : List ℕ) → g.D.Disk.device.outcome c.write_at.new.self left → P left =
    from_only (IsTorn c.args.len (length c.bytes.result.now)) file (g.D.Disk.device.outcome old) (g.D.Disk.device.outcome c.write_at.new.self) P c.requires.durable c.write_at.ensures.outcomes
    (λ left torn. inl (torn_after file c.requires.ends_closed (length c.bytes.result.now) left (subst (λ (n : ℕ). IsTorn n (length c.bytes.result.now) file left) c.requires.len torn))) in
    let one = goes_on device old old c.write_at.new.self P (g.D.Disk.device.outcome c.write_at.new.self) at_start c.write_at.ensures.time comes in
    let two = goes_on device old c.write_at.new.self c.sync.new.self P (g.D.Disk.device.outcome c.sync.new.self) one c.sync.ensures.time (λ left now. comes left (c.sync.ensures.outcomes left now)) in
    let fits : FitsGroup c.args.group.now = c.bytes.ensures.fits in
    let bytes_are : c.bytes.result.now ≡ group_bytes c.args.group.now = c.bytes.ensures.bytes in
    let staged : g.D.Disk.device.content c.write_at.new.self ≡ file ++ group_bytes c.args.group.now =
    staged_by file c.requires.ends_closed c.args.group.now fits c.args.len c.bytes.result.now _ c.requires.len bytes_are c.in_ok-write_at.ensures.content in
    let gate : c.args.len - 1 ≡ length file - 1 = omega (arith, c.requires.len) in
    let durable : LeavesOnly (file ++ group_bytes c.args.group.now) (g.D.Disk.device.outcome c.sync.new.self) =
    subst (λ (l : List ℕ). LeavesOnly l (g.D.Disk.device.outcome c.sync.new.self)) staged c.in_ok-sync.ensures.durable in
    let opens : (left : List ℕ) → g.D.Disk.device.outcome c.write_at-2.new.self left → P left =
    from_only (IsTorn (c.args.len - 1) 1) (file ++ group_bytes c.args.group.now) (g.D.Disk.device.outcome c.sync.new.self)
    (g.D.Disk.device.outcome c.write_at-2.new.self) P durable c.write_at-2.ensures.outcomes
    (λ left torn. torn_gate file c.requires.ends_closed c.args.group.now fits left (subst (λ (n : ℕ). IsTorn n 1 (file ++ group_bytes c.args.group.now) left) gate torn)) in
    let three = goes_on device old c.sync.new.self c.write_at-2.new.self P (g.D.Disk.device.outcome c.write_at-2.new.self) two c.write_at-2.ensures.time opens in
    goes_on device old c.write_at-2.new.self c.sync-2.new.self P (g.D.Disk.device.outcome c.sync-2.new.self) three c.sync-2.ensures.time (λ left now. opens left (c.sync-2.ensures.outcomes left now))

pub returns-clause-any_moment : goal.returns-clause-any_moment
returns-clause-any_moment g c =
    let file = g.D.Disk.device.content c.args.disk.now in
    let P : List ℕ → Type 0 = IsBeforeOrAfter file c.args.group.now in
    let device = g.D.Disk.device in
    let old = c.args.disk.now in
    let at_start = started device old P (λ left now. inl (ap stands (c.requires.durable left (g.met.D.Disk.only_now old left now)))) in
    let comes : (left : List ℕ) → g.D.Disk.device.outcome c.write_at.new.self left → P left =
    from_only (IsTorn c.args.len (length c.bytes.result.now)) file (g.D.Disk.device.outcome old) (g.D.Disk.device.outcome c.write_at.new.self) P c.requires.durable c.write_at.ensures.outcomes
    (λ left torn. inl (torn_after file c.requires.ends_closed (length c.bytes.result.now) left (subst (λ (n : ℕ). IsTorn n (length c.bytes.result.now) file left) c.requires.len torn))) in
    let one = goes_on device old old c.write_at.new.self P (g.D.Disk.device.outcome c.write_at.new.self) at_start c.write_at.ensures.time comes in
    let two = goes_on device old c.write_at.new.self c.sync.new.self P (g.D.Disk.device.outcome c.sync.new.self) one c.sync.ensures.time (λ left now. comes left (c.sync.ensures.outcomes left now)) in
    let fits : FitsGroup c.args.group.now = c.bytes.ensures.fits in
    let bytes_are : c.bytes.result.now ≡ group_bytes c.args.group.now = c.bytes.ensures.bytes in
    let staged : g.D.Disk.device.content c.write_at.new.self ≡ file ++ group_bytes c.args.group.now =
    staged_by file c.requires.ends_closed c.args.group.now fits c.args.len c.bytes.result.now _ c.requires.len bytes_are c.in_ok-write_at.ensures.content in
    let gate : c.args.len - 1 ≡ length file - 1 = omega (arith, c.requires.len) in
    let durable : LeavesOnly (file ++ group_bytes c.args.group.now) (g.D.Disk.device.outcome c.sync.new.self) =
    subst (λ (l : List ℕ). LeavesOnly l (g.D.Disk.device.outcome c.sync.new.self)) staged c.in_ok-sync.ensures.durable in
    let opens : (left : List ℕ) → g.D.Disk.device.outcome c.write_at-2.new.self left → P left =
    from_only (IsTorn (c.args.len - 1) 1) (file ++ group_bytes c.args.group.now) (g.D.Disk.device.outcome c.sync.new.self)
    (g.D.Disk.device.outcome c.write_at-2.new.self) P durable c.write_at-2.ensures.outcomes
    (λ left torn. torn_gate file c.requires.ends_closed c.args.group.now fits left (subst (λ (n : ℕ). IsTorn n 1 (file ++ group_bytes c.args.group.now) left) gate torn)) in
    let three = goes_on device old c.sync.new.self c.write_at-2.new.self P (g.D.Disk.device.outcome c.write_at-2.new.self) two c.write_at-2.ensures.time opens in
    goes_on device old c.write_at-2.new.self c.sync-2.new.self P (g.D.Disk.device.outcome c.sync-2.new.self) three c.sync-2.ensures.time (λ left now. opens left (c.sync-2.ensures.outcomes left now))

pub returns-clause-ends_closed : goal.returns-clause-ends_closed
returns-clause-ends_closed g c =
    let file = g.D.Disk.device.content c.args.disk.now in
    let fits : FitsGroup c.args.group.now = c.bytes.ensures.fits in
    let bytes_are : c.bytes.result.now ≡ group_bytes c.args.group.now = c.bytes.ensures.bytes in
    let staged : g.D.Disk.device.content c.write_at.new.self ≡ file ++ group_bytes c.args.group.now =
    staged_by file c.requires.ends_closed c.args.group.now fits c.args.len c.bytes.result.now _ c.requires.len bytes_are c.in_ok-write_at.ensures.content in
    let new_is = added file c.requires.ends_closed c.args.group.now fits c.args.len _ _ _ (λ shut. omega arith) c.requires.len
    (c.sync.ensures.content ∙ staged) (c.sync-2.ensures.content ∙ c.in_ok-write_at-2.ensures.content) in
    new_is.ends_closed

pub returns-clause-len : goal.returns-clause-len
returns-clause-len g c =
    let file = g.D.Disk.device.content c.args.disk.now in
    let fits : FitsGroup c.args.group.now = c.bytes.ensures.fits in
    let bytes_are : c.bytes.result.now ≡ group_bytes c.args.group.now = c.bytes.ensures.bytes in
    let staged : g.D.Disk.device.content c.write_at.new.self ≡ file ++ group_bytes c.args.group.now =
    staged_by file c.requires.ends_closed c.args.group.now fits c.args.len c.bytes.result.now _ c.requires.len bytes_are c.in_ok-write_at.ensures.content in
    let new_is = added file c.requires.ends_closed c.args.group.now fits c.args.len _ _ _ (λ shut. omega arith) c.requires.len
    (c.sync.ensures.content ∙ staged) (c.sync-2.ensures.content ∙ c.in_ok-write_at-2.ensures.content) in
    omega (arith, new_is.size, c.requires.len, length-group c.args.group.now)

pub returns-clause-records : goal.returns-clause-records
returns-clause-records g c =
    let file = g.D.Disk.device.content c.args.disk.now in
    let fits : FitsGroup c.args.group.now = c.bytes.ensures.fits in
    let bytes_are : c.bytes.result.now ≡ group_bytes c.args.group.now = c.bytes.ensures.bytes in
    let staged : g.D.Disk.device.content c.write_at.new.self ≡ file ++ group_bytes c.args.group.now =
    staged_by file c.requires.ends_closed c.args.group.now fits c.args.len c.bytes.result.now _ c.requires.len bytes_are c.in_ok-write_at.ensures.content in
    let new_is = added file c.requires.ends_closed c.args.group.now fits c.args.len _ _ _ (λ shut. omega arith) c.requires.len
    (c.sync.ensures.content ∙ staged) (c.sync-2.ensures.content ∙ c.in_ok-write_at-2.ensures.content) in
    new_is.records

pub returns-clause-content : goal.returns-clause-content
returns-clause-content g c =
    let file = g.D.Disk.device.content c.args.disk.now in
    let fits : FitsGroup c.args.group.now = c.bytes.ensures.fits in
    let bytes_are : c.bytes.result.now ≡ group_bytes c.args.group.now = c.bytes.ensures.bytes in
    let staged : g.D.Disk.device.content c.write_at.new.self ≡ file ++ group_bytes c.args.group.now =
    staged_by file c.requires.ends_closed c.args.group.now fits c.args.len c.bytes.result.now _ c.requires.len bytes_are c.in_ok-write_at.ensures.content in
    let new_is = added file c.requires.ends_closed c.args.group.now fits c.args.len _ _ _ (λ shut. omega arith) c.requires.len
    (c.sync.ensures.content ∙ staged) (c.sync-2.ensures.content ∙ c.in_ok-write_at-2.ensures.content) in
    new_is.content
