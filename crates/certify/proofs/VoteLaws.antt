-- The votes in places rise, are of members, and weigh what those do.
use Rattle.std.proofs.Common.{◌≡◌, ℕ, zero, suc, ◌+◌, ◌<◌, cond, List, [], ◌∷◌, ◌++◌, get_or, Option, Some, None, subst, refl, sym, ◌∙◌, add-one, arith}
use Rattle.std.specs.Prelude.{nat_lt, IsTrue, is_some, option_map, sum_by, All}
use Rattle.std.specs.List.{filter_map, cons_option}
use Rattle.std.proofs.lemmas.List.Elements.{All-nil, All-push, All-weaker}
use Rattle.std.proofs.lemmas.List.Sums.{sum_by-cons}
use Rattle.wire.specs.References.{votes_rise}
use Rattle.wire.proofs.RisingLemmas.{rises-push}
use Rattle.wire.specs.declared.keys.Signature.{Signature}
use Rattle.wire.specs.declared.votes.VoteEntry.{VoteEntry}
use Rattle.certify.specs.Assembled.{Places, has_voted, entry_of}
use Rattle.certify.proofs.Places.{entry, votes_below, votes_below-some, votes_below-none, follows-votes_below}

-- what holds of the votes below a number, and with the vote of the next member too, holds of those below the next
next : (P : List VoteEntry → Type 0) (places : Places) (n : ℕ) (place : Option Signature) → get_or places n None ≡ place → P (votes_below places n)
    → ((signature : Signature) → P (votes_below places n ++ entry n signature ∷ [])) → P (votes_below places (n + 1))
next P places n None is same more = subst P (sym (votes_below-none places n is)) same
next P places n (Some signature) is same more = subst P (sym (votes_below-some places n signature is)) (more signature)

pub rises-votes_below : (places : Places) (n : ℕ) → IsTrue (votes_rise (votes_below places n))
rises-votes_below places zero = refl
rises-votes_below places (suc n) =
    subst (λ k. IsTrue (votes_rise (votes_below places k))) (add-one n)
    (next (λ votes. IsTrue (votes_rise votes)) places n (get_or places n None) refl (rises-votes_below places n)
    (λ signature. rises-push (λ a b. nat_lt a.voter.0 b.voter.0) (votes_below places n) (entry n signature) (rises-votes_below places n) (follows-votes_below places n)))

pub members-votes_below : (places : Places) (n : ℕ) → All (λ vote. vote.voter.0 < n) (votes_below places n)
members-votes_below places zero = All-nil (λ vote. vote.voter.0 < 0)
members-votes_below places (suc n) =
    let before = All-weaker (λ vote. vote.voter.0 < n) (λ vote. vote.voter.0 < suc n) (λ vote low. omega arith) (votes_below places n) (members-votes_below places n) in
    subst (λ k. All (λ vote. vote.voter.0 < suc n) (votes_below places k)) (add-one n)
    (next (All (λ vote. vote.voter.0 < suc n)) places n (get_or places n None) refl before
    (λ signature. All-push (λ vote. vote.voter.0 < suc n) (votes_below places n) (entry n signature) before (omega arith)))

one-place : (stake : ℕ → ℕ) (member : ℕ) (place : Option Signature) (votes : List VoteEntry) (rest : ℕ) → sum_by (λ vote. stake vote.voter.0) votes ≡ rest
    → sum_by (λ vote. stake vote.voter.0) (cons_option (option_map (entry member) place) votes) ≡ cond (is_some place) (stake member) 0 + rest
one-place stake member None votes rest is = omega (arith, is)
one-place stake member (Some signature) votes rest is = omega (arith, is, sum_by-cons (λ vote. stake vote.voter.0) (entry member signature) votes)

pub sum-votes : (stake : ℕ → ℕ) (places : Places) (members : List ℕ)
    → sum_by (λ vote. stake vote.voter.0) (filter_map (entry_of places) members) ≡ sum_by (λ member. cond (has_voted places member) (stake member) 0) members
sum-votes stake places [] = refl
sum-votes stake places (m ∷ ms) =
    one-place stake m (get_or places m None) (filter_map (entry_of places) ms) (sum_by (λ member. cond (has_voted places member) (stake member) 0) ms) (sum-votes stake places ms)
    ∙ sym (sum_by-cons (λ member. cond (has_voted places member) (stake member) 0) m ms)
