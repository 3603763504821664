-- How the refusal of a transaction is reported.
use Rattle.batchmaker.specs.declared.error.MakeError.{MakeError}
use Rattle.batchmaker.specs.declared.error.MakeError.TheVariants as make
use Rattle.wire.specs.declared.error.WireError.TheVariants as unread
use Rattle.node_io.specs.declared.rejection.Rejection.{Rejection}
use Rattle.node_io.specs.declared.rejection.Rejection.TheVariants.{Unread}

-- the reported refusal of a transaction: a failed allocation, or TooMany for a transaction that is too long
abbrev pub of_make : MakeError → Rejection
of_make make.Memory = Unread unread.Memory
of_make make.TooBig = Unread unread.TooMany
