use Rattle.std.proofs.Common.{rules, ◌≡◌, ◌-◌, ◌+◌, ◌≤◌, ℕ, arith, length, length-drop, length-append, ◌∙◌, ap, drop, take}
use Rattle.std.proofs.lemmas.List.{take_rest, length-take-le, drop_at}
use Rattle.journal.proofs.Windows.{end_filled, filled}
use Rattle.journal.proofs.window.Window.fill.Goals as goal

pub returns-clause-has : goal.returns-clause-has
returns-clause-has g c =
    let file = g.D.Disk.device.content c.args.disk.now in
    let w = c.args.self.now in
    let count = c.min-count.result in
    let start = c.len.result - count in
    let old = c.deref_mut.result.now in
    let few : count ≤ length old = omega (arith, c.min-count.ensures, c.requires.len, c.requires.room, c.deref_mut.ensures.len) in
    let split : start + count ≡ length old = omega (arith, few, c.deref_mut.ensures.len, c.len.ensures) in
    let asked : length (take (length old - start) (drop start old)) ≡ count = omega (arith, split, ap length (take_rest old start), length-drop start old) in
    let read : c.read_at.new.buffer ≡ take count (drop w.gate file) = c.in_ok-read_at.ensures.bytes ∙ ap (λ (n : ℕ). take n (drop w.gate file)) asked in
    let all = length-take-le count (drop w.gate file) (omega (arith, c.min-count.ensures, c.requires.len, length-drop w.gate file)) in
    let long : length c.read_at.new.buffer ≡ length old - start = omega (arith, split, ap length read, all) in
    let items = end_filled start w.bytes.len old c.read_at.new.buffer _ (omega (arith, split)) c.deref_mut.ensures.len long in
    let front = length-take-le start old (omega (arith, split)) in
    (filled file w _ count c.requires (omega (arith, c.min-count.ensures, c.requires.len)) (search rules) (search rules)
    (omega (arith, ap length items, length-append (take start old) c.read_at.new.buffer, front, long, split, c.deref_mut.ensures.len))
    (omega (arith, split, c.deref_mut.ensures.len))
    (ap (drop start) items ∙ drop_at (take start old) c.read_at.new.buffer start front ∙ read)).1
