use Rattle.std.proofs.Common.{◌≡◌, ◌+◌, ◌++◌, ◌∷◌, [], List, take, sym, ap, ◌∙◌, arith, append_assoc}
use Rattle.std.proofs.lemmas.List.{take_more, take_all}
use Rattle.journal.specs.declared.record.Record.{Record}
use Rattle.journal.proofs.reader.VecRecordReader.take.Goals as goal

pub loop-one-preserved : goal.loop-one-preserved
loop-one-preserved c =
    let before : List Record = c.args.self.now.items in
    let group : List Record = c.args.group.items in
    let read : List Record = c.deref-one-items.result.now in
    let one : Record = c.one-item.result in
    let at = c.loop-one.one-index in
    let more : take (at + 1) read ≡ take at read ++ one ∷ [] = take_more read at one (omega arith) ∙ ap (λ (found : Record). take at read ++ found ∷ []) (sym c.one-item.is) in
    let taken : take (at + 1) group ≡ take at group ++ one ∷ [] =
    ap (take (at + 1)) (sym c.deref-one-items.ensures.value) ∙ more ∙ ap (λ (l : List Record). take at l ++ one ∷ []) c.deref-one-items.ensures.value in
    c.in_ok-push.ensures.items ∙ ap (λ (found : Record). c.loop-one.self.items ++ found ∷ []) c.in_ok-record.ensures ∙ ap (λ (l : List Record). l ++ one ∷ []) c.loop-one.invariant
    ∙ append_assoc before (take at group) (one ∷ []) ∙ ap (λ (l : List Record). before ++ l) (sym taken)

pub returns : goal.returns
returns c =
    let before : List Record = c.args.self.now.items in
    let group : List Record = c.args.group.items in
    let read : List Record = c.deref-one-items.result.now in
    let all : take c.loop-one.one-index read ≡ read = take_all c.loop-one.one-index read (omega arith) in
    c.loop-one.invariant
    ∙ ap (λ (l : List Record). before ++ l) (ap (take c.loop-one.one-index) (sym c.deref-one-items.ensures.value) ∙ all ∙ c.deref-one-items.ensures.value)
