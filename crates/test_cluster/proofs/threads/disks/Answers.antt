use Rattle.std.proofs.Common.{◌≡◌, ◌∷◌, ◌++◌, [], List, subst, sym, ap, ◌∙◌, arith}
use Rattle.std.specs.Prelude.{All}
use Rattle.std.proofs.lemmas.List.Elements.{All-push}
use Rattle.diskmodel.specs.Memory.{content_of}
use Rattle.diskmodel.specs.declared.memory.MemDisk.{MemDisk}
use Rattle.test_cluster.proofs.threads.disks.Goals as goal

abbrev IsEmpty : MemDisk → Type 0
IsEmpty disk = content_of disk ≡ []

pub made-preserved : goal.made-preserved
made-preserved c =
    let items = c.push_reserved.ensures.items ∙ ap (λ (l : List MemDisk). l ++ c.in_ok-disk.disk ∷ []) c.in_ok-reserve.ensures.items in
    record {
      many = omega (arith, c.push_reserved.ensures.len, c.in_ok-reserve.ensures.len, c.made.invariant.many);
      empty = subst (All IsEmpty) (sym items) (All-push IsEmpty c.made.disks.items c.in_ok-disk.disk c.made.invariant.empty (c.in_ok-disk.ensures.content ∙ c.new-bytes.ensures.items));
    }
