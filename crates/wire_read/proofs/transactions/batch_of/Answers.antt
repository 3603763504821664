use Rattle.wire_read.proofs.transactions.batch_of.Goals as goal

pub front-body-requires : goal.front-body-requires
front-body-requires c = rw (← c.rest.ensures) c.in_ok-found.ensures.within

pub from_body-requires-clause-fits : goal.from_body-requires-clause-fits
from_body-requires-clause-fits c = rw (c.front-body.ensures.front, ← c.rest.ensures) c.in_ok-found.ensures.fits

pub from_body-requires-clause-encoded : goal.from_body-requires-clause-encoded
from_body-requires-clause-encoded c = rw (c.front-body.ensures.front, ← c.rest.ensures) c.in_ok-found.ensures.encoded

pub returns : goal.returns
returns c =
    let has = rw c.rest.ensures at c.in_ok-found.ensures in
    rw (c.in_ok-batch.ensures, c.front-body.ensures.front, c.front-body.ensures.rest) has.reads
