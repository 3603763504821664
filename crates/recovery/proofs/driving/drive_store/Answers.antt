use Rattle.std.proofs.Common.{◌≡◌, ◌+◌, List, length, drop, inl, inr, sym, ap, ◌∙◌, subst, arith, rules, map-id}
use borrow.Author.Rules.{in_lives}
use Rattle.std.proofs.KnownBytes.{Keeps-refl}
use Rattle.std.proofs.lemmas.Iterator.Consumers.{YieldsList-so_far, YieldsList-turn, YieldsList-end}
use Rattle.std.proofs.lemmas.Iterator.Adapters.{YieldsList-from_vec}
use Rattle.std.specs.Prelude.{All}
use Rattle.std.proofs.lemmas.List.{length_push}
use Rattle.std.proofs.lemmas.List.Elements.{All-nil, All-push}
use Rattle.desk.specs.Disks.{Leaves}
use Rattle.journal.specs.Pairs.{areas_in, store_of}
use Rattle.journal.specs.Stores.{faults_in}
use Rattle.std.proofs.lemmas.Result.{err_from_is_err_and}
use Rattle.validator.specs.Setting.{node_of}
use Rattle.spec_world.specs.Text as script
use Rattle.spec_world.specs.Scripts.{IsTakenIn}
use Rattle.recovery.specs.Script.{said, is_two, script_of, CarriesOut, HasRun}
use Rattle.recovery.proofs.Carrying.{IsCarriedOut, first_carried, next_carried, cut_short, all_carried, script_parts, script_push, each_at, passes_at}
use Rattle.recovery.proofs.Running.{taken_in, run_given, cut_given, nothing_given}
use Rattle.recovery.proofs.driving.drive_store.Goals as goal

pub returns-in_err-desk-clause-err : goal.returns-in_err-desk-clause-err
returns-in_err-desk-clause-err g c =
    let p = err_from_is_err_and c.from_residual.result c.from_residual.ensures.1 in
    rw (p.1, p.2) (inl (c.in_err-desk.ensures.err, Keeps-refl (g.W.Write.contents c.args.writer.now)))

pub returns-in_err-desk-clause-given_out_err : goal.returns-in_err-desk-clause-given_out_err
returns-in_err-desk-clause-given_out_err g c =
    let node = node_of g.S.Sign.scheme c.args.config.now in
    let held = g.W.Write.contents c.args.writer.now in
    let p = err_from_is_err_and c.from_residual.result c.from_residual.ensures.1 in
    rw p.1 (nothing_given node (script_of c.args.commands.items) (areas_in g.D.Disk.device c.args.store) held held (Keeps-refl held))

pub loop-command-init : goal.loop-command-init
loop-command-init g c =
    let node = node_of g.S.Sign.scheme c.args.config.now in
    let before = areas_in g.D.Disk.device c.args.store in
    record {
      so_far = first_carried node g.D.Disk.device before c.in_ok-desk.desk.book c.in_ok-desk.desk.journal (g.W.Write.contents c.args.writer.now) c.in_ok-desk.ensures.ok;
      taken = All-nil (IsTakenIn node);
      setting = c.in_ok-desk.ensures.setting;
      count = omega (arith, c.in_ok-desk.ensures.none);
      no_fault = c.in_ok-desk.ensures.cause.0;
      disks = c.in_ok-desk.ensures.disks.0;
    }

pub carry_out-requires-clause-setting : goal.carry_out-requires-clause-setting
carry_out-requires-clause-setting g c = c.loop-command.invariant.setting

pub carry_out-requires-clause-stands : goal.carry_out-requires-clause-stands
carry_out-requires-clause-stands g c = let so_far = c.loop-command.invariant.so_far in (_, so_far.is_of)

pub carry_out-requires-clause-passed : goal.carry_out-requires-clause-passed
carry_out-requires-clause-passed g c =
    let commands = c.args.commands.items in
    let done = c.loop-command.yielded in
    let next = c.in-Some.command in
    let chain = YieldsList-from_vec {s = c.into_iter-command-iterator.result} commands (search rules) (search rules) in
    let turn = YieldsList-turn chain done c.loop-command.command-iterator c.loop-command.yielded_by c.next.result c.next.new.self next c.in-Some.is c.next.ensures.steps in
    passes_at c.args.config.now.charter commands (length done) next c.requires.passed turn.0 turn.1

pub carry_out-requires-clause-can : goal.carry_out-requires-clause-can
carry_out-requires-clause-can g c =
    let commands = c.args.commands.items in
    let done = c.loop-command.yielded in
    let next = c.in-Some.command in
    let chain = YieldsList-from_vec {s = c.into_iter-command-iterator.result} commands (search rules) (search rules) in
    let turn = YieldsList-turn chain done c.loop-command.command-iterator c.loop-command.yielded_by c.next.result c.next.new.self next c.in-Some.is c.next.ensures.steps in
    subst (λ two. CarriesOut two next) (sym c.loop-command.invariant.disks) (each_at (CarriesOut (is_two c.args.store)) commands (length done) next c.requires.can turn.0 turn.1)

pub returns-in_err-desk-2-clause-disks : goal.returns-in_err-desk-2-clause-disks
returns-in_err-desk-2-clause-disks g c =
    let p = err_from_is_err_and c.from_residual-in_err-desk-2.result c.from_residual-in_err-desk-2.ensures.1 in
    rw (p.1, p.2) (tt, c.in_err-desk-2.ensures.disks.1 ∙ c.loop-command.invariant.disks)

pub carry_out-requires-clause-room : goal.carry_out-requires-clause-room
carry_out-requires-clause-room g c =
    let commands = c.args.commands.items in
    let done = c.loop-command.yielded in
    let next = c.in-Some.command in
    let chain = YieldsList-from_vec {s = c.into_iter-command-iterator.result} commands (search rules) (search rules) in
    let turn = YieldsList-turn chain done c.loop-command.command-iterator c.loop-command.yielded_by c.next.result c.next.new.self next c.in-Some.is c.next.ensures.steps in
    omega (arith, c.loop-command.invariant.count, turn.0, c.requires.few, c.args.commands.ok.0)

pub returns-in_err-desk-2-clause-err : goal.returns-in_err-desk-2-clause-err
returns-in_err-desk-2-clause-err g c =
    let node = node_of g.S.Sign.scheme c.args.config.now in
    let before = areas_in g.D.Disk.device c.args.store in
    let commands = c.args.commands.items in
    let done = c.loop-command.yielded in
    let next = c.in-Some.command in
    let chain = YieldsList-from_vec {s = c.into_iter-command-iterator.result} commands (search rules) (search rules) in
    let turn = YieldsList-turn chain done c.loop-command.command-iterator c.loop-command.yielded_by c.next.result c.next.new.self next c.in-Some.is c.next.ensures.steps in
    let front = sym (map-id done) ∙ YieldsList-so_far chain done c.loop-command.command-iterator c.loop-command.yielded_by in
    let so_far = c.loop-command.invariant.so_far in
    let desk = script.desk_after node (script.desk_on so_far.state) (script_of done) in
    let p = err_from_is_err_and c.from_residual-in_err-desk-2.result c.from_residual-in_err-desk-2.ensures.1 in
    rw (p.1, p.2)
    (inr (cut_short node g.D.Disk.device before (script_of done) (said next) c.loop-command.desk.book c.loop-command.desk.journal
    (g.W.Write.contents c.args.writer.now) (g.W.Write.contents c.loop-command.writer) so_far
    (script_of commands) (script_of (drop (length done + 1) commands)) c.in_err-desk-2.field-0.0.error
    (areas_in g.D.Disk.device c.in_err-desk-2.field-0.0.disk) (Leaves g.D.Disk.device c.in_err-desk-2.field-0.0.disk)
    (g.W.Write.contents c.carry_out.new.writer)
    (script_parts commands done next front turn.0 turn.1) (c.in_err-desk-2.ensures.err desk so_far.is_of) (c.in_err-desk-2.ensures.writes_part desk so_far.is_of)))

pub returns-in_err-desk-2-clause-given_out_err : goal.returns-in_err-desk-2-clause-given_out_err
returns-in_err-desk-2-clause-given_out_err g c =
    let node = node_of g.S.Sign.scheme c.args.config.now in
    let before = areas_in g.D.Disk.device c.args.store in
    let commands = c.args.commands.items in
    let done = c.loop-command.yielded in
    let next = c.in-Some.command in
    let chain = YieldsList-from_vec {s = c.into_iter-command-iterator.result} commands (search rules) (search rules) in
    let turn = YieldsList-turn chain done c.loop-command.command-iterator c.loop-command.yielded_by c.next.result c.next.new.self next c.in-Some.is c.next.ensures.steps in
    let front = sym (map-id done) ∙ YieldsList-so_far chain done c.loop-command.command-iterator c.loop-command.yielded_by in
    let so_far = c.loop-command.invariant.so_far in
    let desk = script.desk_after node (script.desk_on so_far.state) (script_of done) in
    let passed = passes_at c.args.config.now.charter commands (length done) next c.requires.passed turn.0 turn.1 in
    let taken = All-push (IsTakenIn node) (script_of done) (said next) c.loop-command.invariant.taken (taken_in node next passed c.limits_hold.ensures) in
    let p = err_from_is_err_and c.from_residual-in_err-desk-2.result c.from_residual-in_err-desk-2.ensures.1 in
    rw p.1
    (cut_given node so_far.is_of.stands_at.legal.node_is g.D.Disk.device before (script_of done) (said next) c.loop-command.desk.book c.loop-command.desk.journal
    (g.W.Write.contents c.args.writer.now) (g.W.Write.contents c.loop-command.writer) (g.W.Write.contents c.carry_out.new.writer) so_far
    (script_of commands) (script_of (drop (length done + 1) commands)) c.in_err-desk-2.field-0.0.error
    (script_parts commands done next front turn.0 turn.1) (c.in_err-desk-2.ensures.writes_part desk so_far.is_of) taken)

pub returns-in_err-desk-2-clause-cause : goal.returns-in_err-desk-2-clause-cause
returns-in_err-desk-2-clause-cause g c =
    let p = err_from_is_err_and c.from_residual-in_err-desk-2.result c.from_residual-in_err-desk-2.ensures.1 in
    let none = c.loop-command.invariant.no_fault in
    rw (p.1, p.2) (
      tt,
      (λ device. let rises = c.in_err-desk-2.ensures.cause.1.0 device in omega (arith, rises, none), λ other. c.in_err-desk-2.ensures.cause.1.1 other ∙ none),
    )

pub loop-command-preserved : goal.loop-command-preserved
loop-command-preserved g c =
    let node = node_of g.S.Sign.scheme c.args.config.now in
    let before = areas_in g.D.Disk.device c.args.store in
    let done = c.loop-command.yielded in
    let next = c.in-Some.command in
    let so_far = c.loop-command.invariant.so_far in
    let desk = script.desk_after node (script.desk_on so_far.state) (script_of done) in
    let old = g.W.Write.contents c.args.writer.now in
    let later = c.in_ok-desk-2.desk in
    let commands = c.args.commands.items in
    let chain = YieldsList-from_vec {s = c.into_iter-command-iterator.result} commands (search rules) (search rules) in
    let turn = YieldsList-turn chain done c.loop-command.command-iterator c.loop-command.yielded_by c.next.result c.next.new.self next c.in-Some.is c.next.ensures.steps in
    let passed = passes_at c.args.config.now.charter commands (length done) next c.requires.passed turn.0 turn.1 in
    let carried = next_carried node g.D.Disk.device before (script_of done) (said next) c.loop-command.desk.book c.loop-command.desk.journal old (g.W.Write.contents c.loop-command.writer) so_far
    later.book later.journal (g.W.Write.contents c.carry_out.new.writer) (c.in_ok-desk-2.ensures.ok desk so_far.is_of) (c.in_ok-desk-2.ensures.writes desk so_far.is_of) in
    record {
      so_far = subst (λ (l : List script.Command). IsCarriedOut node g.D.Disk.device before l later.book later.journal old
          (g.W.Write.contents c.carry_out.new.writer)) (sym (script_push done next)) carried;
      taken = subst (All (IsTakenIn node)) (sym (script_push done next))
          (All-push (IsTakenIn node) (script_of done) (said next) c.loop-command.invariant.taken (taken_in node next passed c.limits_hold.ensures));
      setting = c.in_ok-desk-2.ensures.setting;
      count = let more = c.in_ok-desk-2.ensures.count in let count = c.loop-command.invariant.count in omega (arith, more, count, length_push done next);
      no_fault = c.in_ok-desk-2.ensures.cause.0 ∙ c.loop-command.invariant.no_fault;
      disks = c.in_ok-desk-2.ensures.disks.0 ∙ c.loop-command.invariant.disks;
    }

pub returns-clause-ok : goal.returns-clause-ok
returns-clause-ok g c =
    let node = node_of g.S.Sign.scheme c.args.config.now in
    let before = areas_in g.D.Disk.device c.args.store in
    let commands = c.args.commands.items in
    let done = c.loop-command.yielded in
    let end = YieldsList-end (YieldsList-from_vec {s = c.into_iter-command-iterator.result} commands (search rules) (search rules)) done
    c.loop-command.command-iterator c.loop-command.yielded_by c.next.result c.next.new.self c.in-None.is c.next.ensures.steps in
    let whole : script_of commands ≡ script_of done = ap script_of (sym end.0 ∙ map-id done) in
    let old = g.W.Write.contents c.args.writer.now in
    let new = g.W.Write.contents c.loop-command.writer in
    let run = all_carried node g.D.Disk.device before (script_of commands) (script_of done) c.loop-command.desk.book c.loop-command.desk.journal old new whole c.loop-command.invariant.so_far in
    subst (λ d. HasRun node (script_of commands) before (areas_in g.D.Disk.device d) (Leaves g.D.Disk.device d) old new) (sym c.into_store.ensures) run

pub returns-clause-given_out : goal.returns-clause-given_out
returns-clause-given_out g c =
    let node = node_of g.S.Sign.scheme c.args.config.now in
    let before = areas_in g.D.Disk.device c.args.store in
    let commands = c.args.commands.items in
    let done = c.loop-command.yielded in
    let end = YieldsList-end (YieldsList-from_vec {s = c.into_iter-command-iterator.result} commands (search rules) (search rules)) done
    c.loop-command.command-iterator c.loop-command.yielded_by c.next.result c.next.new.self c.in-None.is c.next.ensures.steps in
    let whole : script_of commands ≡ script_of done = ap script_of (sym end.0 ∙ map-id done) in
    let old = g.W.Write.contents c.args.writer.now in
    let new = g.W.Write.contents c.loop-command.writer in
    let so_far = c.loop-command.invariant.so_far in
    let desk = c.loop-command.desk in
    let run = all_carried node g.D.Disk.device before (script_of commands) (script_of done) desk.book desk.journal old new whole so_far in
    run_given node so_far.is_of.stands_at.legal.node_is (script_of commands) before (areas_in g.D.Disk.device (store_of desk.journal)) (Leaves g.D.Disk.device (store_of desk.journal)) old new
    (subst (All (IsTakenIn node)) (sym whole) c.loop-command.invariant.taken) run

pub returns-clause-cause : goal.returns-clause-cause
returns-clause-cause g c = (ap (faults_in g.D.Disk.device) c.into_store.ensures ∙ c.loop-command.invariant.no_fault, tt)

pub returns-clause-disks : goal.returns-clause-disks
returns-clause-disks g c = (ap is_two c.into_store.ensures ∙ c.loop-command.invariant.disks, tt)

pub branch-desk-requires : goal.branch-desk-requires
branch-desk-requires g c κs = λ h. simp (in_lives, h.0.0, h.1.0, h.1.1.0, h.1.1.1.0) (search rules)

pub branch-desk-requires-in-loop-command : goal.branch-desk-requires-in-loop-command
branch-desk-requires-in-loop-command g c κs = λ h. simp (in_lives, h.0.0, h.1.0, h.1.1.0, h.1.1.1.0) (search rules)
