use Rattle.std.proofs.Common.{◌≡◌, ◌+◌, ◌-◌, Bool, length, true, false, sym, ap, ◌∙◌, subst, arith, ℕ}
use Rattle.std.specs.Prelude.{◌&&◌, nat_lt, nat_le}
use Rattle.journal.specs.Drafts.{IsDraft, whole}
use Rattle.journal.proofs.Drafting.{put_joined, put_begun}
use Rattle.journal.proofs.draft.put_record.Goals as goal

-- the test by the length that was counted
of_len : (body count len counted : ℕ) (room : Bool) → len ≡ counted → (nat_lt count 1024 && nat_le (body + (4 + counted)) 4194304) ≡ room
    → (nat_lt count 1024 && nat_le (body + (4 + len)) 4194304) ≡ room
of_len body count len counted room same is = ap (λ (n : ℕ). nat_lt count 1024 && nat_le (body + (4 + n)) 4194304) same ∙ is

pub returns-in_ok-join-clause-draft : goal.returns-in_ok-join-clause-draft
returns-in_ok-join-clause-draft c =
    let old = c.args.bytes.now.items in
    (put_joined old c.args.last.start c.args.last.records c.join.new.bytes.items (whole c.args.parts.now) c.requires.fits (c.len.result - 1 - 4 - c.args.last.start)
    (omega (arith, c.len.ensures, c.args.bytes.now.ok)) c.requires.draft
    (of_len (c.len.result - 1 - 4 - c.args.last.start) c.args.last.records (length (whole c.args.parts.now)) c.whole_len-len.result true (sym c.whole_len-len.ensures)
    (sym c.has_room.ensures ∙ c.if-has_room.true)) c.in_ok-join.ensures.items).draft

pub returns-in_ok-join-clause-records : goal.returns-in_ok-join-clause-records
returns-in_ok-join-clause-records c =
    let old = c.args.bytes.now.items in
    (put_joined old c.args.last.start c.args.last.records c.join.new.bytes.items (whole c.args.parts.now) c.requires.fits (c.len.result - 1 - 4 - c.args.last.start)
    (omega (arith, c.len.ensures, c.args.bytes.now.ok)) c.requires.draft
    (of_len (c.len.result - 1 - 4 - c.args.last.start) c.args.last.records (length (whole c.args.parts.now)) c.whole_len-len.result true (sym c.whole_len-len.ensures)
    (sym c.has_room.ensures ∙ c.if-has_room.true)) c.in_ok-join.ensures.items).records

pub returns-in_ok-begin-clause-draft : goal.returns-in_ok-begin-clause-draft
returns-in_ok-begin-clause-draft c =
    let old = c.args.bytes.now.items in
    let start : length old ≡ c.len-start.result = omega (arith, c.len-start.ensures, c.args.bytes.now.ok) in
    subst (λ (n : ℕ). IsDraft c.begin.new.bytes.items n 1) start
    (put_begun old c.args.last.start c.args.last.records c.begin.new.bytes.items (whole c.args.parts.now) c.requires.fits (c.len.result - 1 - 4 - c.args.last.start)
    (omega (arith, c.len.ensures, c.args.bytes.now.ok)) c.requires.draft
    (of_len (c.len.result - 1 - 4 - c.args.last.start) c.args.last.records (length (whole c.args.parts.now)) c.whole_len-len.result false
    (sym c.whole_len-len.ensures) (sym c.has_room.ensures ∙ c.if-has_room.false)) c.in_ok-begin.ensures.items).draft

pub returns-in_ok-begin-clause-records : goal.returns-in_ok-begin-clause-records
returns-in_ok-begin-clause-records c =
    let old = c.args.bytes.now.items in
    (put_begun old c.args.last.start c.args.last.records c.begin.new.bytes.items (whole c.args.parts.now) c.requires.fits (c.len.result - 1 - 4 - c.args.last.start)
    (omega (arith, c.len.ensures, c.args.bytes.now.ok)) c.requires.draft
    (of_len (c.len.result - 1 - 4 - c.args.last.start) c.args.last.records (length (whole c.args.parts.now)) c.whole_len-len.result false
    (sym c.whole_len-len.ensures) (sym c.has_room.ensures ∙ c.if-has_room.false)) c.in_ok-begin.ensures.items).records
