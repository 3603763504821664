use Rattle.std.proofs.Common.{◌≡◌, List, [], ◌∷◌, ◌++◌, refl, sym, ap, subst, ◌∙◌, append-nil, append_assoc}
use Rattle.std.proofs.lemmas.List.{nil_from_length}
use Rattle.std.specs.Io.Buffered.{writer_contents}
use Rattle.spec_model.specs.Words.{Output}
use Rattle.node_run.specs.Writing.{PutsAll}
use Rattle.node_run.proofs.Written.{put_more, put_nothing}
use Rattle.node_run.proofs.sink.Sink.put_all.Goals as goal

pub loop-output-init : goal.loop-output-init
loop-output-init g c =
    let old = c.args.self.now in
    record { done = []; parts = refl {A = List Output}; puts = put_nothing old.faults (writer_contents g.W.Write.contents old.writer); room = refl }

pub loop-output-preserved : goal.loop-output-preserved
loop-output-preserved g c =
    let contents = writer_contents g.W.Write.contents in
    let old = c.args.self.now in
    let mid = c.loop-output.self in
    let later = c.put.new.self in
    let so_far = c.loop-output.invariant in
    let output = c.in-Some.output in
    record {
      done = so_far.done ++ output ∷ [];
      parts = so_far.parts ∙ ap (λ (l : List Output). so_far.done ++ l) c.in-Some.ensures.items ∙ sym (append_assoc so_far.done (output ∷ []) _);
      puts = put_more so_far.done output old.faults mid.faults later.faults (contents old.writer) (contents mid.writer) (contents later.writer) so_far.puts c.put.ensures;
      room = c.in-Some.ensures.capacity ∙ so_far.room;
    }

pub returns-clause-drained : goal.returns-clause-drained
returns-clause-drained g c = let left = c.pop_front.new.self in nil_from_length left.items (sym left.ok.0 ∙ c.in_default.ensures.cases.1)

pub returns-clause-puts : goal.returns-clause-puts
returns-clause-puts g c =
    let old = c.args.self.now in
    let now = c.loop-output.self in
    let outputs = c.loop-output.outputs in
    let so_far = c.loop-output.invariant in
    let none : outputs.items ≡ [] = nil_from_length outputs.items (sym outputs.ok.0 ∙ c.in_default.ensures.cases.0) in
    let all : so_far.done ≡ c.args.outputs.now.items = sym (so_far.parts ∙ ap (λ (l : List Output). so_far.done ++ l) none ∙ append-nil so_far.done) in
    subst (λ (l : List Output). PutsAll l old.faults now.faults (writer_contents g.W.Write.contents old.writer) (writer_contents g.W.Write.contents now.writer)) all so_far.puts
