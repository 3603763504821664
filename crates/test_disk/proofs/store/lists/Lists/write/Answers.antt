use Rattle.std.proofs.Common.{◌∷◌, [], List, ℕ, sym, subst}
use Rattle.book.specs.Book.{BookView}
use Rattle.sigface.specs.declared.pair.HashSign.{HashSign}
use Rattle.test_disk.proofs.Settling.{Way, taken_alone, settles_alone}
use Rattle.test_disk.proofs.store.lists.Lists.write.Goals as goal

-- the group stays on the way over what comes in beside it
pub settle-requires : goal.settle-requires
settle-requires c =
    let groups : List (List (List ℕ)) = c.in-Some.group ∷ [] in
    let taken = taken_alone c.args.self.now.book c.take.new.self c.in_ok-group.field-0 c.in-Some.group c.in-Some.is c.in_ok-group.ensures.setting
    c.in_ok-group.ensures.way (c.is_settled.ensures.way c.if-not-is_settled.false) in
    let counted : Way c.expect.new.self.book groups = subst (λ (book : BookView HashSign). Way book groups) (sym c.expect.ensures.book) taken in
    let afterwards = c.beside-after.ensures groups (c.beside-before.ensures groups counted) in
    let there : Way c.expect-in-Ok.new.self.book groups = subst (λ (book : BookView HashSign). Way book groups) (sym c.expect-in-Ok.ensures.book) afterwards in
    settles_alone c.expect-in-Ok.new.self.book c.in-Some.group c.in-Ok.synced c.in-Ok.ensures.synced there
