use Rattle.std.proofs.Common.{◌≡◌, ℕ, List, ◌∷◌, ◌++◌, ◌-◌, length, take, drop, is_ok, true, sym, ap, subst, ◌∙◌, arith}
use Rattle.std.specs.Prelude.{Vec}
use Rattle.std.specs.declared.alloc.Global.{Global}
use Rattle.wire_read.specs.Frames.{Splits, bodies_bytes}
use Rattle.wire_read.proofs.Streams.{left}
use Rattle.wire_read.proofs.Begun.{body_is}
use Rattle.wire_read.proofs.frames.FrameReader.complete.Goals as goal

pub returns-clause-splits : goal.returns-clause-splits
returns-clause-splits c =
    let others = bodies_bytes c.in_ok-bodies.bodies.items in
    let begun = c.self.inside in
    -- the first body is the one that has begun, with its end
    let extends : is_ok c.extend_from_slice.result ≡ true = c.extend_from_slice.ensures.succeeds (omega (arith, c.in_ok-reserve_exact.ensures.ok)) in
    let longer = rw extends at c.extend_from_slice.ensures.items in
    let was : c.reserve_exact.new.self.items ≡ drop 4 c.args.self.now =
    c.reserve_exact.ensures.items ∙ sym (body_is begun.field begun.body.items c.self.invariant) ∙ ap (λ (l : List ℕ). drop 4 l) c.self.view_is in
    let body : c.release_spare_room.new.body.items ≡ drop 4 c.args.self.now ++ c.args.end.now =
    c.release_spare_room.ensures ∙ ap (λ (v : Vec ℕ Global). v.items) c.replace-body.ensures.value ∙ longer ∙ ap (λ (l : List ℕ). l ++ c.args.end.now) was in
    let inserts : is_ok c.insert.result ≡ true = c.insert.ensures.succeeds (omega (arith, c.in_ok-reserve.ensures.ok)) in
    let items = rw inserts at c.insert.ensures.items in
    let bodies : bodies_bytes c.insert.new.self.items ≡ (drop 4 c.args.self.now ++ c.args.end.now) ∷ others =
    ap bodies_bytes items ∙ ap (λ (l : List (Vec ℕ Global)). c.release_spare_room.new.body.items ∷ bodies_bytes l) c.reserve.ensures.items
    ∙ ap (λ (l : List ℕ). l ∷ others) body in
    -- what is left of the piece is what the reader holds now
    let rest = drop c.in_ok-bodies.taken c.args.after.now in
    let all = take (length c.args.after.now - c.in_ok-bodies.taken) rest in
    let held : c.with-field.result.0 ++ c.replace-body.new.dest.items ≡ rest =
    ap (λ (l : List ℕ). c.with-field.result.0 ++ l) (ap (λ (v : Vec ℕ Global). v.items) c.replace-body.ensures.after ∙ c.in_ok-next.ensures)
    ∙ sym c.with-field.ensures.parts ∙ ap (λ (l : List ℕ). l ++ all) c.new.ensures ∙ left c.args.after.now c.in_ok-bodies.taken c.in_ok-bodies.ensures.within in
    (others, bodies, subst (λ (l : List ℕ). Splits c.args.after.now others l) (sym held) c.in_ok-bodies.ensures.splits)
