use Rattle.spec_cluster.proofs.Running.{clusters_begin}
use Rattle.spec_cluster.proofs.clusters_begin.Goals as goal

pub returns : goal.returns
returns c = clusters_begin
