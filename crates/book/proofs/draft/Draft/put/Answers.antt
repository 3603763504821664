use Rattle.std.proofs.Common.{◌≡◌, List, ℕ, ◌++◌, ◌∷◌, [], take, ap, sym, subst, ◌∙◌, arith}
use Rattle.std.proofs.lemmas.List.{take_at}
use Rattle.journal.specs.Format.{FitsGroup}
use Rattle.spec_records.specs.Records.{record_of}
use Rattle.book.specs.OneDraft.{records_of_draft}
use Rattle.book.proofs.Drafts.{records_put}
use Rattle.book.proofs.draft.Draft.put.Goals as goal

pub returns-in-Ok-clause-ok : goal.returns-in-Ok-clause-ok
returns-in-Ok-clause-ok c =
    let d = c.self.inside.drafted in
    let bytes = record_of c.args.event.now in
    let fits : FitsGroup (d.records ++ bytes ∷ []) = subst (λ r. FitsGroup (r ++ bytes ∷ [])) (sym c.self.view_is) c.requires.fits in
    records_put c.self.inside.bytes.items c.put_record.new.bytes.items c.self.inside.count d c.self-1.given.0 bytes fits c.in-Ok.ensures.ok ∙ ap (λ (r : List (List ℕ)). r ++ bytes ∷ []) c.self.view_is

pub returns-in-Err-clause-err : goal.returns-in-Err-clause-err
returns-in-Err-clause-err c =
    let d = c.self.inside.drafted in
    let rest = c.in-Err.ensures.err in
    let same : c.truncate.new.self.items ≡ c.self.inside.bytes.items =
    c.truncate.ensures.items ∙ ap (take c.len-before.result) rest.1 ∙ take_at c.self.inside.bytes.items rest.0 c.len-before.result (omega (arith, c.len-before.ensures)) in
    records_of_draft c.truncate.new.self.items c.self.inside.count c.self-in-Err-1.given.0 d.records d.front d.not_long d.room (same ∙ d.written) ∙ c.self.view_is
