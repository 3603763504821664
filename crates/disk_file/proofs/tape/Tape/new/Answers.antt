use Rattle.std.proofs.Common.{◌<◌, sym, subst, arith}
use Rattle.std.proofs.lemmas.List.Elements.{All-from_get_or}
use Rattle.diskmodel.specs.Outcomes.{AreBytes}
use Rattle.disk_file.specs.declared.story.TapeView.{TapeView}
use Rattle.disk_file.proofs.tape.Tape.new.Goals as goal

pub returns-clause-are_bytes : goal.returns-clause-are_bytes
returns-clause-are_bytes c =
    subst (λ (story : TapeView). AreBytes story.first) (sym c.turn.ensures)
    (All-from_get_or (λ number. number < 256) c.args.bytes.now 0 (λ place inside. omega (arith, c.type_inv.bytes place)))
