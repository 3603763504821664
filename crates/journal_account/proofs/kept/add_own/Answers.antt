use Rattle.std.proofs.Common.{◌≡◌, ◌+◌, List, [], ◌∷◌, ◌++◌, map, take, sym, ap, ◌∙◌, arith, append_assoc}
use Rattle.std.proofs.lemmas.List.{map-append, take_more}
use Rattle.admission.specs.declared.kept.VotedHeader.{VotedHeader}
use Rattle.checkpoint.specs.Kept.{header_of}
use Rattle.journal_account.specs.Accounts.{given_as}
use Rattle.journal_account.specs.declared.votes.Given.{Given}
use Rattle.journal_account.proofs.kept.add_own.Goals as goal

pub loop-voted-preserved : goal.loop-voted-preserved
loop-voted-preserved c =
    let kept = c.args.kept.now in
    let one = c.voted-item.result in
    let n = c.loop-voted.voted-index in
    let old = c.args.votes.now.items in
    let f : VotedHeader → Given = λ voted. given_as (header_of voted) in
    let same : record { author = one.header.body.author; round = c.number.result; digest = c.header_digest.result } ≡ f one =
    λ i. record { author = one.header.body.author; round = c.number.ensures.value i; digest = record { 0 = c.header_digest.ensures i } } in
    let more : take (n + 1) kept ≡ take n kept ++ one ∷ [] =
    take_more kept n one (omega arith) ∙ ap (λ (found : VotedHeader). take n kept ++ found ∷ []) (sym c.voted-item.is) in
    record {
      so_far = c.in_ok-push.ensures.items ∙ (λ i. c.loop-voted.invariant.so_far i ++ same i ∷ []) ∙ append_assoc old (map f (take n kept)) (f one ∷ [])
          ∙ ap (λ (l : List Given). old ++ l) (sym (map-append f (take n kept) (one ∷ []))) ∙ ap (λ (l : List VotedHeader). old ++ map f l) (sym more);
    }
