use Rattle.checkpoint.proofs.Loaded as loaded
use Rattle.checkpoint.proofs.kept_is_loaded.Goals as goal

pub returns : goal.returns
returns c = loaded.kept_is_loaded c.read_as_written.ensures c.loads_the_sound.ensures
