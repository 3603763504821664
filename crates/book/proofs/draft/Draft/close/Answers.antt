use Rattle.std.proofs.Common.{◌≡◌, ◌-◌, drop, ◌++◌, ◌∷◌, [], length, ap, sym, subst, ◌∙◌, arith}
use Rattle.journal.specs.Format.{FitsGroup, body_len}
use Rattle.std.specs.Int.{w32, to_be_bytes}
use Rattle.book.specs.OneDraft.{records_of_draft}
use Rattle.book.proofs.Drafts.{length_draft, closes}
use Rattle.book.proofs.draft.Draft.close.Goals as goal

pub returns-then-is_err-clause-err : goal.returns-then-is_err-clause-err
returns-then-is_err-clause-err c =
    let d = c.self.inside.drafted in
    records_of_draft c.reserve.new.self.items c.self.inside.count c.result-1.given.0 d.records d.front d.not_long d.room (c.reserve.ensures.items ∙ d.written) ∙ c.self.view_is

pub overflow_cast-len : goal.overflow_cast-len
overflow_cast-len c =
    let d = c.self.inside.drafted in
    let long = length_draft c.self.inside.bytes.items c.self.inside.count d in
    omega (arith, c.len.ensures, ap length c.reserve.ensures.items, long, d.not_long)

pub of_bytes-requires : goal.of_bytes-requires
of_bytes-requires c =
    let d = c.self.inside.drafted in
    let fits : FitsGroup d.records = subst FitsGroup (sym c.self.view_is) c.requires in
    let bytes = c.self.inside.bytes.items in
    let len : c.len.result - 4 ≡ body_len d.records = omega (arith, c.len.ensures, ap length c.reserve.ensures.items, length_draft bytes c.self.inside.count d) in
    let same : c.push_reserved.new.self.items ≡ (to_be_bytes w32 (c.len.result - 4) ++ drop 4 bytes) ++ 0 ∷ [] =
    c.push_reserved.ensures.items ∙ ap (λ l. l ++ 0 ∷ []) (c.put_len.ensures.items ∙ ap (λ b. to_be_bytes w32 (c.len.result - 4) ++ drop 4 b) c.reserve.ensures.items) in
    let written = closes bytes c.push_reserved.new.self.items c.self.inside.count (c.len.result - 4) d len same in
    record { records = d.records; fits = fits; written = written; counts = d.counts }

pub returns-clause-ok : goal.returns-clause-ok
returns-clause-ok c =
    let d = c.self.inside.drafted in
    let fits : FitsGroup d.records = subst FitsGroup (sym c.self.view_is) c.requires in
    let bytes = c.self.inside.bytes.items in
    let len : c.len.result - 4 ≡ body_len d.records = omega (arith, c.len.ensures, ap length c.reserve.ensures.items, length_draft bytes c.self.inside.count d) in
    let same : c.push_reserved.new.self.items ≡ (to_be_bytes w32 (c.len.result - 4) ++ drop 4 bytes) ++ 0 ∷ [] =
    c.push_reserved.ensures.items ∙ ap (λ l. l ++ 0 ∷ []) (c.put_len.ensures.items ∙ ap (λ b. to_be_bytes w32 (c.len.result - 4) ++ drop 4 b) c.reserve.ensures.items) in
    let written = closes bytes c.push_reserved.new.self.items c.self.inside.count (c.len.result - 4) d len same in
    c.of_bytes.ensures d.records fits written ∙ c.self.view_is
