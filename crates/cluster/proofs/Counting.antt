-- What bytes that aren't there are told as.
use Rattle.std.proofs.Common.{◌≡◌, [], Ok, ◌∙◌, arith}
use Rattle.journal.proofs.Walks.{stands_short}
use Rattle.opening.specs.Decoded.{decoded}
use Rattle.opening.proofs.Reporting.{decoded_records, journal_nil}
use Rattle.spec_machine.specs.Machine.{fresh}
use Rattle.spec_model.specs.Nodes.{Node}

pub reported_nothing : (node : Node) → decoded node [] ≡ Ok (fresh node)
reported_nothing node = decoded_records node [] [] (stands_short [] (omega arith)) ∙ journal_nil node
