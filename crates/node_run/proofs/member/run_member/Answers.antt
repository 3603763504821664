use Rattle.std.proofs.Common.{◌≡◌, ℕ, false, [], List, Option, Some, refl, sym, ap, subst, ◌∙◌, inl, inr}
use Rattle.std.specs.Prelude.{IfSome, IsSome}
use Rattle.flusher.specs.Rounds.{journal_of, is_down, settled_in}
use Rattle.flusher.specs.declared.flusher.Flusher.{Flusher}
use Rattle.journal.specs.Journal.{IsAlive}
use Rattle.journal.specs.Pairs.{areas_in, areas_of, store_of}
use Rattle.journal.specs.Stores.{faults_in}
use Rattle.journal.specs.declared.store.Store.{Store}
use Rattle.node.specs.Callers.{RoundsView}
use Rattle.node.specs.Disks.{AtEachMomentOn}
use Rattle.node_io.specs.declared.ending.Ending.{Ending}
use Rattle.node_seats.specs.declared.view.Marked.{Marked}
use Rattle.node_shared.specs.Home.{NodeView}
use Rattle.opening.specs.Laws.{IsReadIn}
use Rattle.opening.specs.Renewing.{KeepsStatesIn}
use Rattle.opening.specs.Stages.{IsDecodedThroughout}
use Rattle.opening.specs.Decoded.{decoded_in, StandsAt}
use Rattle.validator.specs.Setting.{node_of}
use Rattle.node_run.proofs.Runs.{ended, gives_nothing, gives_only, not_opened, not_run, two_where_due}
use Rattle.node_run.proofs.Written.{new_contents}
use Rattle.node_run.proofs.member.run_member.Goals as goal
use Rattle.node_run.specs.Rewriting.{length_in, point_of, HasCheckpoint, Point}
use Rattle.node_run.specs.Runs.{ComesByRule, HoldsMore, IsFullUp, RunsOver, point_at, rule_on}
use Rattle.node_run.specs.declared.rule.Rule.{Rule}

pub run_threads-store-requires-clause-pair : goal.run_threads-store-requires-clause-pair
run_threads-store-requires-clause-pair g c =
    let node = node_of g.S.Sign.scheme c.args.config.now in
    let flusher = ap (λ (r : RoundsView g.row.S.Denot g.row.D.Denot). r.flusher) c.new.ensures.same ∙ c.new-rounds.ensures.flusher in
    let read = subst (λ (f : Flusher g.row.D.Denot). IsReadIn node g.D.Disk.device c.args.store (journal_of f)) (sym flusher) c.in-Ok.ensures.disks in
    λ _ _ some. two_where_due g.S.Sign.scheme g.D.Disk.device node c.args.store c.args.every (journal_of c.new.new.rounds.flusher) read
    (subst (λ (e : Option ℕ). IsSome e) c.every_on-every.ensures some)

pub returns-in-Err-clause-runs : goal.returns-in-Err-clause-runs
returns-in-Err-clause-runs g c =
    let node = node_of g.S.Sign.scheme c.args.config.now in
    let opening = c.in-Err.ensures.opening in
    let failed = c.in-Err.field-0 in
    subst (λ (ending : Ending). RunsOver node g.D.Disk.device c.args.store c.args.every ending (Some failed.disk)) (sym c.from.ensures)
    (not_opened g.S.Sign.scheme g.D.Disk.device node c.args.store failed.disk c.args.every failed.error opening.reports opening.cause.1 opening.any_moment opening.never_refused opening.full)

pub returns-in-Ok-new-clause-runs : goal.returns-in-Ok-new-clause-runs
returns-in-Ok-new-clause-runs g c =
    let nodes = node_of g.S.Sign.scheme in
    let node = nodes c.args.config.now in
    let device = g.D.Disk.device in
    let started = c.in-Ok.ensures in
    let rounds = c.new.new.rounds in
    let left = c.run_threads-store.result.1 in
    let shared : rounds.node ≡ c.in-Ok.started.0 = ap (λ r. r.node) c.new.ensures.same ∙ c.new-rounds.ensures.node in
    let flusher : rounds.flusher ≡ c.in-Ok.started.2 = ap (λ r. r.flusher) c.new.ensures.same ∙ c.new-rounds.ensures.flusher in
    let store : store_of (journal_of rounds.flusher) ≡ store_of (journal_of c.in-Ok.started.2) = ap (λ (f : Flusher g.row.D.Denot). store_of (journal_of f)) flusher in
    let up : is_down rounds.flusher ≡ false = ap (λ (f : Flusher g.row.D.Denot). is_down f) flusher ∙ started.up in
    let nothing : settled_in rounds.flusher ≡ [] = ap (λ (f : Flusher g.row.D.Denot). settled_in f) flusher ∙ started.nothing_settled.0 in
    let began = store_of (journal_of rounds.flusher) in
    let areas = areas_of device (journal_of rounds.flusher) in
    let alive = subst (λ (f : Flusher g.row.D.Denot). IsAlive device (journal_of f)) (sym flusher) (started.flusher.alive started.up) in
    let point : point_of rounds.flusher ≡ point_at (journal_of rounds.flusher) = λ i. record { journal = journal_of rounds.flusher; settled = nothing i } in
    let leaves = subst
    (λ (settled : List Marked). IfSome left (λ later. AtEachMomentOn device (HoldsMore g.S.Sign.scheme rounds.node settled areas) began later))
    nothing (c.run_threads-store.ensures.any_moment up) in
    let opening = subst (λ (s : Store g.row.D.Denot). IsDecodedThroughout node device c.args.store s) (sym store) started.opening.any_moment in
    let since = c.length_of.ensures ∙ ap (λ (r : RoundsView g.row.S.Denot g.row.D.Denot). length_in device (journal_of r.flusher)) (sym c.new.ensures.same) in
    let rule : record { every = c.every_on-every.result; since = c.length_of.result } ≡ rule_on device c.args.store c.args.every (journal_of rounds.flusher) =
    λ i. record { every = c.every_on-every.ensures i; since = since i } in
    subst (λ (ending : Ending). RunsOver node device c.args.store c.args.every ending left) (sym c.ending.ensures)
    (ended g.S.Sign.scheme device rounds.node node c.args.store began c.args.every (journal_of rounds.flusher) c.run_threads-store.result.0 left
    (ap (λ (s : NodeView g.row.S.Denot). nodes s.setting) shared ∙ ap nodes started.setting)
    (subst (λ (s : NodeView g.row.S.Denot). StandsAt node (decoded_in node (areas_in device c.args.store)) s.begun) (sym shared) started.begins) refl
    (ap (faults_in device) store ∙ started.opening.cause.0)
    c.run_threads-store.ensures.reported c.run_threads-store.ensures.lost opening leaves
    (subst (λ (f : Flusher g.row.D.Denot). KeepsStatesIn node (areas_in device c.args.store) (areas_of device (journal_of f))) (sym flusher) started.kept)
    (subst (λ (f : Flusher g.row.D.Denot). IsReadIn node device c.args.store (journal_of f)) (sym flusher) started.disks) alive
    (λ none. subst (λ (p : Point g.row.D.Denot). IfSome left (ComesByRule device (HasCheckpoint g.S.Sign.scheme device rounds.node) (rule_on device c.args.store c.args.every
    (journal_of rounds.flusher)) c.run_threads-store.result.0.memory p)) point
    (subst (λ (r : Rule). IfSome left (ComesByRule device (HasCheckpoint g.S.Sign.scheme device rounds.node) r c.run_threads-store.result.0.memory (point_of rounds.flusher))) rule
    (c.run_threads-store.ensures.by_rule up none)))
    (λ is. subst (λ (p : Point g.row.D.Denot). IfSome left (IsFullUp g.S.Sign.scheme device rounds.node (rule_on device c.args.store c.args.every (journal_of rounds.flusher))
    c.run_threads-store.result.0.memory p)) point
    (subst (λ (r : Rule). IfSome left (IsFullUp g.S.Sign.scheme device rounds.node r c.run_threads-store.result.0.memory (point_of rounds.flusher))) rule (c.run_threads-store.ensures.full is))))

pub returns-clause-runs : goal.returns-clause-runs
returns-clause-runs g c =
    let node = node_of g.S.Sign.scheme c.args.config.now in
    let device = g.D.Disk.device in
    let started = c.in-Ok.ensures in
    let rounds = c.new.new.rounds in
    let flusher : rounds.flusher ≡ c.in-Ok.started.2 = ap (λ r. r.flusher) c.new.ensures.same ∙ c.new-rounds.ensures.flusher in
    let store : c.into_store.result ≡ store_of (journal_of c.in-Ok.started.2) = c.into_store.ensures ∙ ap (λ (f : Flusher g.row.D.Denot). store_of (journal_of f)) flusher in
    not_run g.S.Sign.scheme device node c.args.store c.into_store.result c.args.every (ap (faults_in device) store ∙ started.opening.cause.0)
    (subst (λ (s : Store g.row.D.Denot). IsDecodedThroughout node device c.args.store s) (sym store) started.opening.any_moment)

pub returns-in-Err-clause-gives : goal.returns-in-Err-clause-gives
returns-in-Err-clause-gives g c =
    gives_nothing (node_of g.S.Sign.scheme c.args.config.now) g.D.Disk.device g.W.Write.contents c.args.store c.args.writer _ (inl refl)

pub returns-in-Ok-new-clause-gives : goal.returns-in-Ok-new-clause-gives
returns-in-Ok-new-clause-gives g c =
    let nodes = node_of g.S.Sign.scheme in
    let device = g.D.Disk.device in
    let started = c.in-Ok.ensures in
    let rounds = c.new.new.rounds in
    let desks = c.in-Ok-new.desks in
    let ran = c.run_threads-store in
    let shared : rounds.node ≡ c.in-Ok.started.0 = ap (λ r. r.node) c.new.ensures.same ∙ c.new-rounds.ensures.node in
    let flusher : rounds.flusher ≡ c.in-Ok.started.2 = ap (λ r. r.flusher) c.new.ensures.same ∙ c.new-rounds.ensures.flusher in
    let up : is_down rounds.flusher ≡ false = ap (λ (f : Flusher g.row.D.Denot). is_down f) flusher ∙ started.up in
    gives_only g.S.Sign.scheme device g.W.Write.contents rounds.node (nodes c.args.config.now) c.args.store rounds.flusher c.args.writer _ _ ran.result.0
    (ap (λ (s : NodeView g.row.S.Denot). nodes s.setting) shared ∙ ap nodes started.setting)
    (subst (λ (s : NodeView g.row.S.Denot). StandsAt (nodes c.args.config.now) (decoded_in (nodes c.args.config.now) (areas_in device c.args.store)) s.begun) (sym shared) started.begins)
    (subst (λ (f : Flusher g.row.D.Denot). KeepsStatesIn (nodes c.args.config.now) (areas_in device c.args.store) (areas_of device (journal_of f))) (sym flusher) started.kept)
    (ap (λ (f : Flusher g.row.D.Denot). settled_in f) flusher ∙ started.nothing_settled.0)
    (new_contents g.W.Write.contents desks.writing.sink.writer c.args.writer c.in-Ok-new.ensures.writer.0 c.in-Ok-new.ensures.writer.1) c.ending.ensures (ran.ensures.given up)
    ran.ensures.unwritten

pub returns-clause-gives : goal.returns-clause-gives
returns-clause-gives g c = gives_nothing (node_of g.S.Sign.scheme c.args.config.now) g.D.Disk.device g.W.Write.contents c.args.store c.args.writer _ (inr (refl, refl))
