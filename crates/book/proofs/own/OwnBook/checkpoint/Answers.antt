use Rattle.std.proofs.Common.{subst}
use Rattle.std.specs.Prelude.{IsErrOf}
use Rattle.validator.specs.Setting.{node_of}
use Rattle.book.specs.Book.{BookView}
use Rattle.book.specs.Checkpoints.{FindsNoRoomToRewrite, FailsToRewrite}
use Rattle.book.specs.declared.own.error.FlushError.TheVariants.{Full, Device}
use Rattle.book.proofs.own.OwnBook.checkpoint.Goals as goal

pub returns-clause-full : goal.returns-clause-full
returns-clause-full g c =
    subst (λ (s : BookView g.row.S.Denot). IsErrOf c.rewrite_to_all.result Full
    → FindsNoRoomToRewrite (node_of g.S.Sign.scheme s.validator.setting) s c.rewrite_to_all.new.book c.args.journal.now) c.self.view_is c.rewrite_to_all.ensures.full

pub returns-clause-fails : goal.returns-clause-fails
returns-clause-fails g c =
    subst (λ (s : BookView g.row.S.Denot). IsErrOf c.rewrite_to_all.result Device
    → FailsToRewrite (node_of g.S.Sign.scheme s.validator.setting) s c.rewrite_to_all.new.book c.args.journal.now) c.self.view_is c.rewrite_to_all.ensures.fails
