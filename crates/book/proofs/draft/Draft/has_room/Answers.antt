use Rattle.std.proofs.Common.{◌≡◌, ◌<◌, length, subst, ap, arith}
use Rattle.std.proofs.lemmas.Bool.{leb-true, le-leb}
use Rattle.std.proofs.Common.{IsTrue, ◌+◌, ◌∷◌, ◌++◌, []}
use Rattle.std.specs.Prelude.{nat_le}
use Rattle.journal.specs.Format.{FitsGroup}
use Rattle.book.proofs.Drafts.{length_draft, put_fits, fits_put}
use Rattle.book.proofs.draft.Draft.has_room.Goals as goal

pub returns : goal.returns
returns c = λ bytes is.
    let d = c.self.inside.drafted in
    let long = length_draft c.self.inside.bytes.items c.self.inside.count d in
    let records : length d.records ≡ length c.args.self.now = ap length c.self.view_is in
    let few : length d.records < 1024 = omega (arith, c.if-self.false, d.counts, d.not_many) in
    subst (λ r. (IsTrue (nat_le (c.len.result + c.args.len) 4194304) → FitsGroup (r ++ bytes ∷ []))
    × (FitsGroup (r ++ bytes ∷ []) → IsTrue (nat_le (c.len.result + c.args.len) 4194304))) c.self.view_is (
      λ room. put_fits d.records bytes few (omega (arith, leb-true (c.len.result + c.args.len) 4194304 room, c.len.ensures, long, is)),
      λ fits. le-leb (c.len.result + c.args.len) 4194304 (omega (arith, (fits_put d.records bytes fits).1, c.len.ensures, long, is)),
    )
