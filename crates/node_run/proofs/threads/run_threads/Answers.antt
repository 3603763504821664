use Rattle.std.proofs.Common.{rules, ◌≡◌, false, Option, Some, None, ap, sym, subst, ◌∙◌}
use Rattle.std.specs.Io.Buffered.{writer_contents}
use Rattle.std.specs.Prelude.{◌||◌, All, Bool}
use Rattle.flusher.specs.Rounds.{journal_of, settled_in}
use Rattle.journal.specs.Pairs.{store_of}
use Rattle.journal.specs.declared.error.JournalError.{JournalError}
use Rattle.wire.specs.Lists.{Begins}
use Rattle.node_io.specs.Endings.{first_of}
use Rattle.node_io.specs.declared.faults.Faults.{Faults}
use Rattle.node_run.proofs.Given.{comes_by_rule, is_full_up, is_settled, none_of_input, of_some, third_alone}
use Rattle.node_run.proofs.threads.run_threads.Goals as goal
use Rattle.node_run.specs.Writing.{HasWritten, MayGo}

pub returns-clause-given : goal.returns-clause-given
returns-clause-given g c = λ up.
    let same : c.in-Some.others ≡ Some (c.in-Some-others.wrote, c.in-Some-others.read) = search rules in
    let wrote = of_some _ c.in-Some.others _ same c.in-Some.ensures.others in
    let store : c.give_back-store.result.0 ≡ store_of (journal_of c.in-Some.rounds.flusher) = search rules in
    let covers : Begins c.in-Some-others.wrote.caller.seat.view.durable (settled_in c.in-Some.rounds.flusher) = search rules in
    let read = c.in-Some-others.read.output in
    let all = c.and-faults.ensures.output ∙ ap (λ (it : Bool). it || c.in-Some.flushed.output) c.and-2.ensures.output in
    is_settled g.S.Sign.scheme g.D.Disk.device c.args.rule c.args.rounds c.in-Some.rounds c.in-Some.flushed c.args.desks.writing.caller.node c.in-Some-others.wrote.caller.seat.view
    c.give_back-store.result.0 read c.in-Some-others.wrote.faults.output c.in-Some.flushed.output c.and-faults.result.output
    (writer_contents g.W.Write.contents c.args.desks.writing.sink.writer) (g.W.Write.contents c.give_back-store.result.1)
    c.in-Some.ensures.first up c.requires.node store covers all
    (subst
    (λ writer. HasWritten (All (MayGo g.S.Sign.scheme c.args.desks.writing.caller.node c.in-Some-others.wrote.caller.seat.view)) (c.in-Some-others.wrote.faults.output ≡ false)
    (writer_contents g.W.Write.contents c.args.desks.writing.sink.writer) (g.W.Write.contents writer))
    (sym c.give_back-store.ensures.writer) wrote.0.1)

pub returns-clause-by_rule : goal.returns-clause-by_rule
returns-clause-by_rule g c = λ up none.
    let store : c.give_back-store.result.0 ≡ store_of (journal_of c.in-Some.rounds.flusher) = search rules in
    comes_by_rule g.S.Sign.scheme g.D.Disk.device c.args.rule c.args.rounds c.in-Some.rounds c.and-2.result c.in-Some.flushed c.and-faults.result c.give_back-store.result.0
    c.in-Some.ensures.first up store c.and-faults.ensures.journal c.and-faults.ensures.memory none

pub returns-clause-full : goal.returns-clause-full
returns-clause-full g c = λ is.
    let store : c.give_back-store.result.0 ≡ store_of (journal_of c.in-Some.rounds.flusher) = search rules in
    let same : c.in-Some.others ≡ Some (c.in-Some-others.wrote, c.in-Some-others.read) = search rules in
    let both = of_some _ c.in-Some.others _ same c.in-Some.ensures.others in
    let no_read = ap (λ (f : Faults). f.journal) both.1.2 ∙ none_of_input both.1.0 both.1.1 in
    let no_write = ap (λ (f : Faults). f.journal) both.0.2 ∙ ap (λ (f : Faults). f.journal) c.requires.faults in
    is_full_up g.S.Sign.scheme g.D.Disk.device c.args.rule c.args.rounds c.in-Some.rounds c.and-2.result c.in-Some.flushed c.and-faults.result c.give_back-store.result.0
    c.in-Some.ensures.first store c.and-faults.ensures.memory (third_alone _ _ _ _ _ no_read no_write c.and-2.ensures.journal c.and-faults.ensures.journal) is

pub returns-in_default-others-clause-full : goal.returns-in_default-others-clause-full
returns-in_default-others-clause-full g c = λ is.
    let store : c.into_store.result ≡ store_of (journal_of c.in-Some.rounds.flusher) = search rules in
    let none : c.of_memory-in_default-others.result.journal ≡ None = search rules in
    is_full_up g.S.Sign.scheme g.D.Disk.device c.args.rule c.args.rounds c.in-Some.rounds c.of_memory-in_default-others.result c.in-Some.flushed c.and.result c.into_store.result
    c.in-Some.ensures.first store c.and.ensures.memory (c.and.ensures.journal ∙ ap (λ (it : Option JournalError). first_of it c.in-Some.flushed.journal) none) is

pub returns-in_default-others-clause-by_rule : goal.returns-in_default-others-clause-by_rule
returns-in_default-others-clause-by_rule g c = λ up none.
    let store : c.into_store.result ≡ store_of (journal_of c.in-Some.rounds.flusher) = search rules in
    comes_by_rule g.S.Sign.scheme g.D.Disk.device c.args.rule c.args.rounds c.in-Some.rounds c.of_memory-in_default-others.result c.in-Some.flushed c.and.result c.into_store.result
    c.in-Some.ensures.first up store c.and.ensures.journal c.and.ensures.memory none
