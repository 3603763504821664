use Rattle.std.proofs.Common.{◌≡◌, ◌∙◌, ◌-◌, ◌*◌, ◌%◌, ℕ, length, Some, ap, sym}
use Rattle.sequencer.specs.Restored.{listed}
use Rattle.sequencer.proofs.Waves.{committed_by}
use Rattle.sequencer.proofs.listed.is_committed.Goals as goal

pub returns-in-Some-entry_of : goal.returns-in-Some-entry_of
returns-in-Some-entry_of c =
    let charter = c.args.committee.now in
    let held = c.args.list.now in
    let coin = c.in-Some.coin in
    let leader = c.in-Some-entry_of.leader.now in
    let there : listed held (2 * c.args.wave - 1) (coin % length charter.keys) ≡ Some leader.0 =
    ap (λ (n : ℕ). listed held (2 * c.args.wave - 1) (coin % n)) (sym c.size.ensures.value) ∙ sym c.in-Some-entry_of.ensures.value in
    c.is_supported.ensures c.args.coins.now ∙ committed_by charter held c.args.coins.now c.args.wave coin leader c.requires.some (sym c.in-Some.ensures.value) there
