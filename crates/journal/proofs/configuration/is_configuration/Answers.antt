use Rattle.journal.proofs.Shapes.{shape_short}
use Rattle.journal.proofs.configuration.is_configuration.Goals as goal

pub returns-then-bytes-lt-SETTINGS_BYTES : goal.returns-then-bytes-lt-SETTINGS_BYTES
returns-then-bytes-lt-SETTINGS_BYTES c = shape_short c.args.version c.args.bytes.now c.if-bytes-lt-SETTINGS_BYTES.true
