use Rattle.std.proofs.Common.{◌≡◌, ℕ, List, ◌++◌, length, take, drop, refl, arith}
use Rattle.std.proofs.lemmas.Grind.{common_steps}
use Rattle.sigface.proofs.pair.signature_by.Goals as goal
use borrow.Rule.Slice.PartMut.{put_mid}

-- a list whose second half is overwritten
second_half_put : (n : ℕ) (a z b : List ℕ) → length a ≡ n → length z ≡ n → length b ≡ length (take n (drop n (a ++ z))) → put_mid n n (a ++ z) b ≡ a ++ b
second_half_put n a z b la lz lb = grind (arith, common_steps)

pub returns : goal.returns
returns c = cc (
  second_half_put 32 c.copy_from_slice.new.self _ c.copy_from_slice-2.new.self c.copy_from_slice.auto.self refl
      c.copy_from_slice-2.auto.self,
  c.copy_from_slice.ensures.after,
  c.copy_from_slice-2.ensures.after,
  c.half.ensures,
  c.half-2.ensures,
)
