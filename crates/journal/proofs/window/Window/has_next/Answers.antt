use Rattle.std.proofs.Common.{◌+◌, ◌<◌, arith, length, length-drop, sym, ◌∙◌, ap, drop}
use Rattle.std.proofs.lemmas.List.{take_rest, drop-drop}
use Rattle.std.proofs.lemmas.Bool.{eqb-false}
use Rattle.journal.specs.Format.{body_at}
use Rattle.journal.proofs.Windows.{has_body, has_room}
use Rattle.journal.proofs.window.Window.has_next.Goals as goal

pub returns-then-rest-self : goal.returns-then-rest-self
returns-then-rest-self c ready file is =
    let w = c.args.self.now in
    let rest = take_rest c.deref.result.now w.read in
    let long = length-drop w.read c.deref.result.now in
    has_room file w is
    (λ less. absurd (omega (arith, c.if-rest-self.true, c.deref.ensures.len, ap length rest, long, is.len, less)))
    (omega (arith, c.if-rest-self.true, c.requires.inside, c.deref.ensures.len, is.len, is.inside, ap length rest, long))

pub returns : goal.returns
returns c ready file is =
    let w = c.args.self.now in
    let rest = take_rest c.deref.result.now w.read in
    let long = length-drop w.read c.deref.result.now in
    let not_empty = eqb-false _ 0 (sym c.is_empty.ensures ∙ c.if-is_empty.false) in
    let some : 0 < length (drop w.read c.deref.result.now) = omega (arith, not_empty, ap length rest) in
    has_body file w is c.in-Some.field-0.now
    (omega (arith, some, c.deref.ensures.len, long))
    (sym (c.in-Some.ensures ∙ ap body_at (take_rest _ 1 ∙ ap (drop 1) rest ∙ drop-drop 1 w.read c.deref.result.now ∙ ap (drop (w.read + 1)) c.deref.ensures.value)))
