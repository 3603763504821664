use Rattle.std.proofs.Common.{List, ℕ, Vec, subst, arith, refl}
use Rattle.std.specs.List.{All}
use Rattle.std.specs.declared.alloc.Global.{Global}
use Rattle.std.proofs.lemmas.List.{take_all}
use Rattle.journal.specs.Format.{contents}
use Rattle.journal.specs.Snapshot.{FitsAlone}
use Rattle.journal.proofs.Drafting.{alone_at, alone_more, fits_alone}
use Rattle.journal.proofs.snapshot.fit_alone.Goals as goal

pub returns-then-len : goal.returns-then-len
returns-then-len c = (
  λ is. absurd (cc),
  λ all. absurd (omega (
    arith,
    (alone_at c.args.records.now c.loop-record.record-index c.record-item.result c.loop-record-test.true c.record-item.is
        all).not_long,
    c.len.ensures,
    c.record-item.result.ok,
  )),
)

pub loop-record-preserved : goal.loop-record-preserved
loop-record-preserved c =
    alone_more c.args.records.now c.loop-record.record-index c.record-item.result c.loop-record-test.true c.record-item.is c.loop-record.invariant
    (fits_alone c.record-item.result.items (omega (arith, c.len.ensures, c.record-item.result.ok, c.if-len.false)))

pub returns : goal.returns
returns c =
    let all : All FitsAlone (contents c.args.records.now) =
    subst (λ (l : List (Vec ℕ Global)). All FitsAlone (contents l)) (take_all c.loop-record.record-index c.args.records.now (omega arith)) c.loop-record.invariant in
    (λ _. all, λ _. refl)
