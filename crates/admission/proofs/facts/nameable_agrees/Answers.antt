use Rattle.admission.proofs.Listing.{nameable_agrees}
use Rattle.admission.proofs.facts.nameable_agrees.Goals as goal

pub returns : goal.returns
returns c = nameable_agrees
