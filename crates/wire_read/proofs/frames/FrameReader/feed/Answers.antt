use Rattle.std.proofs.Common.{◌++◌, [], inr}
use Rattle.std.specs.Prelude.{IfOk}
use Rattle.std.proofs.lemmas.Result.{err_from_is_err_and}
use Rattle.wire_read.specs.Frames.{Splits, bodies_bytes}
use Rattle.wire_read.proofs.Streams.{broken, either}
use Rattle.wire_read.proofs.Begun.{GoesOn, too_long, no_frame, completed, broken_after, fed, never, fed_long}
use Rattle.wire_read.proofs.frames.FrameReader.feed.Goals as goal
use Rattle.wire_read.proofs.frames.FrameReader.feed.Goals.{After-complete}

pub returns-in_err-end-clause-too_many : goal.returns-in_err-end-clause-too_many
returns-in_err-end-clause-too_many c =
    let goes : GoesOn c.self.inside.field c.args.piece.now c.with-field.result.0 c.with-field.result.1.now = record {
      parts = c.with-field.ensures.parts;
      within = c.with-field.ensures.within;
      whole = c.with-field.ensures.whole;
      first = c.with-field.ensures.first;
    } in
    let exit = err_from_is_err_and c.from_residual.result c.from_residual.ensures.1 in
    let breaks = too_long c.self.inside.field c.self.inside.body.items c.args.self.now c.args.piece.now c.with-field.result.0 c.with-field.result.1.now
    c.self.view_is c.self.invariant goes c.in_err-end.ensures.err.1 in
    rw (exit.1, exit.2) (inr (c.in_err-end.ensures.err.0, λ stream before until. broken stream before c.args.self.now c.args.piece.now until breaks))

-- the piece has the end of the body
splits : (c : After-complete) → IfOk c.complete.result (λ bodies. Splits (c.args.self.now ++ c.args.piece.now) (bodies_bytes bodies.items) c.complete.new.self)
splits c =
    let goes : GoesOn c.self.inside.field c.args.piece.now c.with-field.result.0 c.with-field.result.1.now = record {
      parts = c.with-field.ensures.parts;
      within = c.with-field.ensures.within;
      whole = c.with-field.ensures.whole;
      first = c.with-field.ensures.first;
    } in
    let made = rw (c.in-Some.is, c.deref.ensures.value) at c.in_ok-end.ensures.whole in
    completed c.self.inside.field c.self.inside.body.items c.args.self.now c.args.piece.now c.with-field.result.0 c.with-field.result.1.now c.self.view_is c.self.invariant goes
    c.in-Some.end.now c.in-Some.after.now made.0 made.1 made.2 c.complete.result c.complete.new.self c.complete.ensures.splits

pub returns-in-Some-clause-ok : goal.returns-in-Some-clause-ok
returns-in-Some-clause-ok c = fed c.complete.result c.args.self.now c.args.piece.now c.complete.new.self (splits c)

pub returns-in-Some-clause-never : goal.returns-in-Some-clause-never
returns-in-Some-clause-never c = never c.complete.result c.args.self.now c.args.piece.now c.complete.new.self (splits c)

pub returns-in-Some-clause-too_many : goal.returns-in-Some-clause-too_many
returns-in-Some-clause-too_many c =
    let goes : GoesOn c.self.inside.field c.args.piece.now c.with-field.result.0 c.with-field.result.1.now = record {
      parts = c.with-field.ensures.parts;
      within = c.with-field.ensures.within;
      whole = c.with-field.ensures.whole;
      first = c.with-field.ensures.first;
    } in
    let made = rw (c.in-Some.is, c.deref.ensures.value) at c.in_ok-end.ensures.whole in
    fed_long c.complete.result c.args.self.now c.args.piece.now
    (broken_after c.self.inside.field c.self.inside.body.items c.args.self.now c.args.piece.now c.with-field.result.0 c.with-field.result.1.now c.self.view_is c.self.invariant goes
    c.in-Some.end.now c.in-Some.after.now made.0 made.1 made.2 c.complete.result c.complete.ensures.breaks)

pub returns-in_ok-extend_from_slice-in-None-clause-never : goal.returns-in_ok-extend_from_slice-in-None-clause-never
returns-in_ok-extend_from_slice-in-None-clause-never c = λ breaks.
    let goes : GoesOn c.self.inside.field c.args.piece.now c.with-field.result.0 c.with-field.result.1.now = record {
      parts = c.with-field.ensures.parts;
      within = c.with-field.ensures.within;
      whole = c.with-field.ensures.whole;
      first = c.with-field.ensures.first;
    } in
    let partial = rw (c.in-None.is, c.deref.ensures.value) at c.in_ok-end.ensures.whole in
    either (c.args.self.now ++ c.args.piece.now) [] (c.with-field.result.0 ++ (c.self.inside.body.items ++ c.with-field.result.1.now))
    (no_frame c.self.inside.field c.self.inside.body.items c.args.self.now c.args.piece.now c.with-field.result.0 c.with-field.result.1.now
    c.self.view_is c.self.invariant goes partial) breaks
