use Rattle.wire.specs.declared.references.ParentReference.{ParentReference}
use Rattle.wire.specs.declared.votes.VoteEntry.{VoteEntry}
use Rattle.header.proofs.Naming.{named_counted}
use Rattle.header.proofs.laws.ones_are_counted.Goals as goal

pub returns : goal.returns
returns c charter ones = record {
  parents = named_counted charter (λ (parent : ParentReference). parent.author) ones;
  votes = named_counted charter (λ (vote : VoteEntry). vote.voter) ones;
}
