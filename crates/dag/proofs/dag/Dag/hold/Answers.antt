use Rattle.dag.proofs.Answering.{is_new}
use Rattle.dag.proofs.Inserting.{high_above}
use Rattle.dag.proofs.Unnamed.{unnamed_high}
use Rattle.dag.proofs.dag.Dag.hold.Goals as goal

pub place-requires-clause-positive : goal.place-requires-clause-positive
place-requires-clause-positive c = (high_above c.args.self.now.floor c.args.certificate.header.round (is_new c.args.self.now c.args.certificate c.requires.new).high).0

pub place-requires-clause-above : goal.place-requires-clause-above
place-requires-clause-above c = (high_above c.args.self.now.floor c.args.certificate.header.round (is_new c.args.self.now c.args.certificate c.requires.new).high).1

pub place-requires-clause-unnamed : goal.place-requires-clause-unnamed
place-requires-clause-unnamed c =
    let fresh = is_new c.args.self.now c.args.certificate c.requires.new in
    unnamed_high c.args.self.now c.args.certificate c.limits_hold.ensures fresh.high fresh.free

pub place-requires-clause-free : goal.place-requires-clause-free
place-requires-clause-free c = (is_new c.args.self.now c.args.certificate c.requires.new).free

pub place-requires-clause-held : goal.place-requires-clause-held
place-requires-clause-held c = (is_new c.args.self.now c.args.certificate c.requires.new).held
