use Rattle.std.proofs.Common.{◌≡◌, ◌∷◌, ◌++◌, ◌∙◌, List, ℕ, ap, subst}
use Rattle.std.specs.Prelude.{OnOk, OnErr}
use Rattle.diskmodel.specs.Disk.{AtEachMoment}
use Rattle.journal.specs.Areas.{IsOlderOrNew, rewrite_calls}
use Rattle.journal.specs.Journal.{MadeSome}
use Rattle.journal.specs.Snapshot.{bytes_for}
use Rattle.journal.proofs.Packing.{renumbered}
use Rattle.journal.proofs.snapshot.Snapshot.write.Goals as goal

pub invariant_of-self : goal.invariant_of-self
invariant_of-self g c = (renumbered c.self.inside.bytes.items c.put_eight.new.bytes.items c.self.inside.place c.self.inside.count c.args.generation c.self.invariant c.put_eight.ensures).invariant

pub returns-clause-same : goal.returns-clause-same
returns-clause-same g c =
    (renumbered c.self.inside.bytes.items c.put_eight.new.bytes.items c.self.inside.place c.self.inside.count c.args.generation c.self.invariant c.put_eight.ensures).same ∙ c.self.view_is

pub returns-clause-content : goal.returns-clause-content
returns-clause-content g c =
    let with = renumbered c.self.inside.bytes.items c.put_eight.new.bytes.items c.self.inside.place c.self.inside.count c.args.generation c.self.invariant c.put_eight.ensures in
    let bytes : c.deref.result.now ≡ bytes_for c.args.generation c.args.self.now = c.deref.ensures.value ∙ with.bytes ∙ ap (bytes_for c.args.generation) c.self.view_is in
    subst (λ (l : List ℕ). OnOk c.rewrite_area.result (g.D.Disk.device.content c.rewrite_area.new.disk ≡ 1 ∷ l)) bytes c.rewrite_area.ensures.content

pub returns-clause-any_moment : goal.returns-clause-any_moment
returns-clause-any_moment g c above at_rest =
    let with = renumbered c.self.inside.bytes.items c.put_eight.new.bytes.items c.self.inside.place c.self.inside.count c.args.generation c.self.invariant c.put_eight.ensures in
    let bytes : c.deref.result.now ≡ bytes_for c.args.generation c.args.self.now = c.deref.ensures.value ∙ with.bytes ∙ ap (bytes_for c.args.generation) c.self.view_is in
    subst (λ (l : List ℕ). AtEachMoment g.D.Disk.device c.args.disk.now c.rewrite_area.new.disk (IsOlderOrNew above l)) bytes (c.rewrite_area.ensures.any_moment above at_rest)

pub returns-clause-calls : goal.returns-clause-calls
returns-clause-calls g c =
    let with = renumbered c.self.inside.bytes.items c.put_eight.new.bytes.items c.self.inside.place c.self.inside.count c.args.generation c.self.invariant c.put_eight.ensures in
    let bytes : c.deref.result.now ≡ bytes_for c.args.generation c.args.self.now = c.deref.ensures.value ∙ with.bytes ∙ ap (bytes_for c.args.generation) c.self.view_is in
    subst (λ (l : List ℕ). OnOk c.rewrite_area.result (g.D.Disk.device.calls c.rewrite_area.new.disk ≡ g.D.Disk.device.calls c.args.disk.now ++ rewrite_calls l)) bytes c.rewrite_area.ensures.calls

pub returns-clause-calls_err : goal.returns-clause-calls_err
returns-clause-calls_err g c =
    let with = renumbered c.self.inside.bytes.items c.put_eight.new.bytes.items c.self.inside.place c.self.inside.count c.args.generation c.self.invariant c.put_eight.ensures in
    let bytes : c.deref.result.now ≡ bytes_for c.args.generation c.args.self.now = c.deref.ensures.value ∙ with.bytes ∙ ap (bytes_for c.args.generation) c.self.view_is in
    subst (λ (l : List ℕ). OnErr c.rewrite_area.result (MadeSome (rewrite_calls l) (g.D.Disk.device.calls c.args.disk.now)
    (g.D.Disk.device.calls c.rewrite_area.new.disk))) bytes c.rewrite_area.ensures.calls_err
