use Rattle.std.proofs.Common.{◌≡◌, ◌-◌, List, ℕ, ◌++◌, ◌∷◌, [], slice_set, ap, ◌∙◌}
use Rattle.std.specs.Prelude.{OnOk, Result, Ok, Err}
use Rattle.std.specs.VecDeque.{deque_len}
use Rattle.spec_records.specs.Records.{record_of}
use Rattle.book.proofs.Drafts.{get_last, set_last}
use Rattle.book.proofs.pending.put_into_last.Goals as goal

-- the draft that was lent is the last one, and what it became stands in its place
pub returns-clause-ok : goal.returns-clause-ok
returns-clause-ok c = on_ok c.put.result c.put.ensures.ok
  where
    on_ok : {X E : Type 0} (r : Result X E) → OnOk r (c.put.new.self ≡ c.in-Some.last.now ++ record_of c.args.event.now ∷ [])
        → OnOk r ((front : List (List (List ℕ))) (last : List (List ℕ)) → c.args.drafts.now.items ≡ front ++ last ∷ []
        → slice_set c.args.drafts.now.items (deque_len c.args.drafts.now - 1) c.put.new.self ≡ front ++ (last ++ record_of c.args.event.now ∷ []) ∷ [])
    on_ok (Ok x) put = λ front last parts.
        let drafts = c.args.drafts.now in
        let same : c.in-Some.last.now ≡ last = c.in-Some.ensures.value ∙ get_last drafts.items front last c.in-Some.last.now (deque_len drafts) parts drafts.ok.0 in
        set_last drafts.items front last c.put.new.self (deque_len drafts) parts drafts.ok.0
        ∙ ap (λ (l : List (List ℕ)). front ++ l ∷ []) (put ∙ ap (λ (l : List (List ℕ)). l ++ record_of c.args.event.now ∷ []) same)
    on_ok (Err e) put = tt
