-- Whether a vote is among those on an own header.
use Rattle.std.proofs.Common.{◌≡◌, ℕ, Bool, true, false, cond, List, [], ◌∷◌, find, Option, Some, refl, sym, ap, ◌∙◌}
use Rattle.std.specs.Prelude.{◌==◌, ◌||◌, is_some, option_map}
use Rattle.std.specs.List.{list_any}
use Rattle.spec_checkpoint.specs.Data.{KeptHeader}
use Rattle.spec_checkpoint.specs.Faults.{has_kept}
use Rattle.spec_checkpoint.specs.Meaning.{vote_of}
use Rattle.spec_model.specs.Holdings.{own_vote}
use Rattle.spec_model.specs.Nodes.{Node}
use Rattle.spec_model.specs.Words.{VoteEntry}

-- this one passes a test, or one of the others is found
one_or : {X Y : Type 0} (make : X → Y) (b any : Bool) (x : X) (others : Option X) → any ≡ is_some (option_map make others) → (b || any) ≡ is_some (option_map make (cond b (Some x) others))
one_or make true any x others rest = refl
one_or make false any x others rest = rest

-- one of a list passes a test where one is found, whatever is made of it
any_found : {X Y : Type 0} (make : X → Y) (test : X → Bool) (xs : List X) → list_any test xs ≡ is_some (option_map make (find test xs))
any_found make test [] = refl
any_found make test (x ∷ xs) = one_or make (test x) (list_any test xs) x (find test xs) (any_found make test xs)

-- the own vote, or one that is found
pub own_or_found : (node : Node) (kept : KeptHeader) (voter : ℕ) → has_kept node kept voter ≡ ((voter == node.own.0) || list_any (λ entry. entry.voter.0 == voter) kept.votes)
own_or_found node kept voter = by (voter == node.own.0)
  where
    by : (b : Bool) → is_some (cond b (Some (own_vote node kept.header.body)) (option_map (vote_of kept.header) (find (λ entry. entry.voter.0 == voter) kept.votes)))
        ≡ (b || list_any (λ entry. entry.voter.0 == voter) kept.votes)
    by true = refl
    by false = sym (any_found (vote_of kept.header) (λ entry. entry.voter.0 == voter) kept.votes)

-- where the member isn't the node itself, one that is found
pub found_of_other : (node : Node) (kept : KeptHeader) (voter : ℕ) (votes : List VoteEntry) (found : Bool) → (voter == node.own.0) ≡ false → votes ≡ kept.votes
    → found ≡ list_any (λ entry. entry.voter.0 == voter) votes → found ≡ has_kept node kept voter
found_of_other node kept voter votes found apart same is =
    is ∙ ap (list_any (λ (entry : VoteEntry). entry.voter.0 == voter)) same ∙ sym (own_or_found node kept voter ∙ ap (λ b. b || list_any (λ entry. entry.voter.0 == voter) kept.votes) apart)
