use Rattle.std.proofs.Common.{◌≡◌, ℕ, ◌+◌, List, ◌++◌, Option, Some, None, ap, sym, ◌∙◌, append_assoc}
use Rattle.std.specs.Prelude.{filter_map, if◌then◌else◌}
use Rattle.std.specs.Option.{option_to_list}
use Rattle.std.specs.List.{range_with_len}
use Rattle.std.proofs.lemmas.List.{append-nil}
use Rattle.committee.specs.Sets.{has}
use Rattle.spec_model.specs.Words.{Digest}
use Rattle.dag.specs.Graph.{digest_in}
use Rattle.flatten.proofs.Ranges.{made_more}
use Rattle.flatten.proofs.digests.put_round.Goals as goal
use Rattle.flatten.proofs.digests.put_round.Goals.{then-contains+in-Some+in_ok-push, then-contains+in_default, else-contains}

-- one member more
grown : (make : ℕ → Option Digest) (before all : List Digest) (count : ℕ) (made : Option Digest) → make count ≡ made → all ≡ before ++ filter_map make (range_with_len 0 count)
    → all ++ option_to_list made ≡ before ++ filter_map make (range_with_len 0 (count + 1))
grown make before all count made is so_far =
    ap (λ l. l ++ option_to_list made) so_far ∙ append_assoc before (filter_map make (range_with_len 0 count)) (option_to_list made)
    ∙ ap (λ o. before ++ (filter_map make (range_with_len 0 count) ++ option_to_list o)) (sym is)
    ∙ ap (λ l. before ++ l) (sym (made_more make count))

pub loop-author-preserved : goal.loop-author-preserved
loop-author-preserved c =
    let graph = c.args.dag.now in
    let set = c.args.authors.now in
    let round = c.args.round in
    let a = c.loop-author.author in
    let make : ℕ → Option Digest = λ x. if has set x then digest_in graph round x else None in
    let before = c.args.digests.now.items in
    let all = c.loop-author.digests.items in
    elim c.if-contains.branch [
      | then-contains+in-Some+in_ok-push w ↦
          let in_set = sym c.contains.ensures ∙ w.if-contains.true in
          let made : make a ≡ Some w.in-Some.digest.now = ap (λ b. if b then digest_in graph round a else None) in_set ∙ sym w.in-Some.ensures in
          ap (λ v. v.items) w.digests-is ∙ w.in_ok-push.ensures.items ∙ grown make before all a (Some w.in-Some.digest.now) made c.loop-author.invariant
      | then-contains+in_default w ↦
          let in_set = sym c.contains.ensures ∙ w.if-contains.true in
          let made : make a ≡ None = ap (λ b. if b then digest_in graph round a else None) in_set ∙ sym w.in_default.ensures in
          ap (λ v. v.items) w.digests-is ∙ sym (append-nil all) ∙ grown make before all a None made c.loop-author.invariant
      | else-contains w ↦
          let out = sym c.contains.ensures ∙ w.if-contains.false in
          let made : make a ≡ None = ap (λ b. if b then digest_in graph round a else None) out in
          ap (λ v. v.items) w.digests-is ∙ sym (append-nil all) ∙ grown make before all a None made c.loop-author.invariant
    ]
