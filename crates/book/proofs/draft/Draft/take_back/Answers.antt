use Rattle.std.proofs.Common.{◌≡◌, ◌-◌, ◌+◌, length, take, ap, sym, ◌∙◌, arith}
use Rattle.book.specs.OneDraft.{records_of_draft}
use Rattle.book.proofs.Drafts.{push_same, written_back, fewer_fit}
use Rattle.book.proofs.draft.Draft.take_back.Goals as goal

pub returns : goal.returns
returns c = λ others last parts.
    let d = c.self.inside.drafted in
    let records = c.self.view_is ∙ parts in
    let known = c.requires in
    let ends = push_same known.0 others known.1 last (sym known.2 ∙ parts) in
    let long : length last ≡ c.args.len = ap length (sym ends.1) ∙ known.3 in
    let cut : c.truncate.new.self.items ≡ take (length c.self.inside.bytes.items - (4 + length last)) c.self.inside.bytes.items =
    c.truncate.ensures.items ∙ ap (λ n. take n c.self.inside.bytes.items) (omega (arith, c.len.ensures, long)) in
    let written = written_back c.self.inside.bytes.items c.truncate.new.self.items c.self.inside.count d others last records cut in
    records_of_draft c.truncate.new.self.items (c.self.inside.count - 1) c.self-1.given.0 others d.front (fewer_fit d.records others last records d.not_long) d.room written
