use Rattle.std.proofs.Common.{refl, ◌+◌, ℕ, List, length, arith, ap, ◌∙◌, sym, drop, [], Ok}
use Rattle.std.proofs.lemmas.List.{take_rest, get_or_read}
use Rattle.journal.specs.declared.record.Record.{Record}
use Rattle.journal.specs.Format.{body_at, with_front}
use Rattle.journal.specs.Window.{IsWindow, HasNext, left_from}
use Rattle.journal.proofs.Loops.{group_found, group_missed}
use Rattle.journal.proofs.Windows.{next_closed, next_no_body, next_no_group, next_inside, next_more, next_moved}
use Rattle.journal.proofs.window.Window.next.Goals as goal

pub returns-then-index-eq-CLOSED-clause-end : goal.returns-then-index-eq-CLOSED-clause-end
returns-then-index-eq-CLOSED-clause-end g c none =
    let file = g.D.Disk.device.content c.args.disk.now in
    let w = c.reach.new.self in
    let is : IsWindow file w = c.in_ok-reach.ensures.window in
    let has : HasNext file w = c.in_ok-reach.ensures.has in
    let gate = get_or_read w.bytes.items w.read c.index.result.now has.some c.index.ensures 0 in (
      c.in_ok-reach.ensures.gate,
      refl,
      ap (λ (n : ℕ). left_from c.args.base n file) (sym c.in_ok-reach.ensures.gate) ∙ next_closed c.args.base file w is has (sym gate ∙ c.if-index-eq-CLOSED.true)
          ∙ ap (λ (n : ℕ). Ok ([], c.args.base + n)) c.in_ok-reach.ensures.gate,
    )

pub overflow_add-place : goal.overflow_add-place
overflow_add-place g c = let is = c.in_ok-reach.ensures.window in omega (arith, is.fits, is.inside, c.requires.base)

pub returns-in_default-clause-err : goal.returns-in_default-clause-err
returns-in_default-clause-err g c other =
    let file = g.D.Disk.device.content c.args.disk.now in
    let w = c.reach.new.self in
    let is : IsWindow file w = c.in_ok-reach.ensures.window in
    let has : HasNext file w = c.in_ok-reach.ensures.has in
    let gate = get_or_read w.bytes.items w.read c.index.result.now has.some c.index.ensures 0 in
    ap (λ (n : ℕ). left_from c.args.base n file) (sym c.in_ok-reach.ensures.gate)
    ∙ next_no_body c.args.base file w is has (λ shut. c.if-index-eq-CLOSED.false (gate ∙ shut))
    (c.in_default.ensures ∙ ap body_at (take_rest c.deref.result.now (w.read + 1) ∙ ap (drop (w.read + 1)) c.deref.ensures.value))

pub returns-in_default-2-clause-err : goal.returns-in_default-2-clause-err
returns-in_default-2-clause-err g c other =
    let file = g.D.Disk.device.content c.args.disk.now in
    let w = c.reach.new.self in
    let is : IsWindow file w = c.in_ok-reach.ensures.window in
    let has : HasNext file w = c.in_ok-reach.ensures.has in
    let gate = get_or_read w.bytes.items w.read c.index.result.now has.some c.index.ensures 0 in
    ap (λ (n : ℕ). left_from c.args.base n file) (sym c.in_ok-reach.ensures.gate)
    ∙ next_no_group c.args.base file w is has c.in-Some.body.now
    (c.in-Some.ensures ∙ ap body_at (take_rest c.deref.result.now (w.read + 1) ∙ ap (drop (w.read + 1)) c.deref.ensures.value))
    (λ shut. c.if-index-eq-CLOSED.false (gate ∙ shut))
    (group_missed (c.args.base + w.gate) _ (rw c.in_default-2.is at c.in_ok-group.ensures))

pub overflow_add-self-2 : goal.overflow_add-self-2
overflow_add-self-2 g c =
    let file = g.D.Disk.device.content c.args.disk.now in
    let w = c.reach.new.self in
    let is : IsWindow file w = c.in_ok-reach.ensures.window in
    let has : HasNext file w = c.in_ok-reach.ensures.has in
    let found = c.in-Some.ensures ∙ ap body_at (take_rest c.deref.result.now (w.read + 1) ∙ ap (drop (w.read + 1)) c.deref.ensures.value) in
    omega (arith, (next_moved c.args.base file w is has c.in-Some.body.now found).within, c.deref.ensures.len)

pub overflow_add-self-3 : goal.overflow_add-self-3
overflow_add-self-3 g c =
    let file = g.D.Disk.device.content c.args.disk.now in
    let w = c.reach.new.self in
    let is : IsWindow file w = c.in_ok-reach.ensures.window in
    let has : HasNext file w = c.in_ok-reach.ensures.has in
    let found = c.in-Some.ensures ∙ ap body_at (take_rest c.deref.result.now (w.read + 1) ∙ ap (drop (w.read + 1)) c.deref.ensures.value) in
    omega (arith, next_inside c.args.base file w is has c.in-Some.body.now found, is.fits)

pub returns-clause-window : goal.returns-clause-window
returns-clause-window g c =
    let file = g.D.Disk.device.content c.args.disk.now in
    let w = c.reach.new.self in
    let is : IsWindow file w = c.in_ok-reach.ensures.window in
    let has : HasNext file w = c.in_ok-reach.ensures.has in
    let found = c.in-Some.ensures ∙ ap body_at (take_rest c.deref.result.now (w.read + 1) ∙ ap (drop (w.read + 1)) c.deref.ensures.value) in
    next_moved c.args.base file w is has c.in-Some.body.now found

pub returns-clause-group : goal.returns-clause-group
returns-clause-group g c more =
    let file = g.D.Disk.device.content c.args.disk.now in
    let w = c.reach.new.self in
    let is : IsWindow file w = c.in_ok-reach.ensures.window in
    let has : HasNext file w = c.in_ok-reach.ensures.has in
    let gate = get_or_read w.bytes.items w.read c.index.result.now has.some c.index.ensures 0 in
    let found = c.in-Some.ensures ∙ ap body_at (take_rest c.deref.result.now (w.read + 1) ∙ ap (drop (w.read + 1)) c.deref.ensures.value) in
    let group = group_found (c.args.base + w.gate) c.in-Some-2.group.items _ (rw c.in-Some-2.is at c.in_ok-group.ensures) in
    let after = left_from c.args.base (w.gate + (5 + length c.in-Some.body.now)) file in (
      c.in-Some-2.group.items,
      c.in_ok-take.ensures,
      ap (λ (n : ℕ). left_from c.args.base n file) (sym c.in_ok-reach.ensures.gate)
          ∙ next_more c.args.base file w is has c.in-Some.body.now found group.0 (λ shut. c.if-index-eq-CLOSED.false (gate ∙ shut)) group.1
          ∙ ap (λ (l : List Record). with_front l after) (sym group.2),
    )
