use Rattle.std.proofs.Common.{sym, ap}
use Rattle.std.proofs.lemmas.Bool.{true≢false}
use Rattle.book.specs.Book.{BookView}
use Rattle.wire_write.proofs.Appending.{on_err}
use Rattle.recovery.proofs.Dues.{released_same, writes_none, writes_first, writes_part}
use Rattle.recovery.proofs.commands.write_next.Goals as goal

pub returns-in_default : goal.returns-in_default
returns-in_default g c =
    let before : BookView g.row.S.Denot = c.args.desk.now.book in
    let later : BookView g.row.S.Denot = c.release.new.self.book in
    let same = released_same before later c.release.result c.release.ensures.output c.release.ensures.queue in
    record {
      setting = ap (λ (b : BookView g.row.S.Denot). b.validator.setting) same;
      stands = c.release.ensures.stands;
      next = λ so. absurd (true≢false (sym so));
      none = λ so. writes_none before later c.release.result c.release.ensures.output c.release.ensures.queue (g.W.Write.contents c.args.writer.now) c.in_default.is;
      count = ap (λ (b : BookView g.row.S.Denot). b.accepted) same;
      same = c.release.ensures.same;
      errors = tt;
      part = tt;
    }

pub returns-in_err-write_output-clause-setting : goal.returns-in_err-write_output-clause-setting
returns-in_err-write_output-clause-setting g c =
    let before : BookView g.row.S.Denot = c.args.desk.now.book in
    let later : BookView g.row.S.Denot = c.release.new.self.book in
    let same = released_same before later c.release.result c.release.ensures.output c.release.ensures.queue in
    ap (λ (b : BookView g.row.S.Denot). b.validator.setting) same

pub returns-in_err-write_output-clause-count : goal.returns-in_err-write_output-clause-count
returns-in_err-write_output-clause-count g c =
    let before : BookView g.row.S.Denot = c.args.desk.now.book in
    let later : BookView g.row.S.Denot = c.release.new.self.book in
    let same = released_same before later c.release.result c.release.ensures.output c.release.ensures.queue in
    ap (λ (b : BookView g.row.S.Denot). b.accepted) same

pub returns-in_err-write_output-clause-part : goal.returns-in_err-write_output-clause-part
returns-in_err-write_output-clause-part g c =
    let before : BookView g.row.S.Denot = c.args.desk.now.book in
    let later : BookView g.row.S.Denot = c.release.new.self.book in
    on_err c.from_residual.result _ (writes_part before later c.release.result c.release.ensures.output c.release.ensures.queue c.in-Some.output
    (g.W.Write.contents c.args.writer.now) (g.W.Write.contents c.write_output.new.writer) c.in-Some.is c.in_err-write_output.ensures.err)

pub returns : goal.returns
returns g c =
    let before : BookView g.row.S.Denot = c.args.desk.now.book in
    let later : BookView g.row.S.Denot = c.release.new.self.book in
    let same = released_same before later c.release.result c.release.ensures.output c.release.ensures.queue in
    record {
      setting = ap (λ (b : BookView g.row.S.Denot). b.validator.setting) same;
      stands = c.release.ensures.stands;
      next = λ so. writes_first before later c.release.result c.release.ensures.output c.release.ensures.queue c.in-Some.output
          (g.W.Write.contents c.args.writer.now) (g.W.Write.contents c.write_output.new.writer) c.in-Some.is c.in_ok-write_output.ensures.ok;
      none = λ so. absurd (true≢false so);
      count = ap (λ (b : BookView g.row.S.Denot). b.accepted) same;
      same = c.release.ensures.same;
      errors = tt;
      part = tt;
    }
