-- Look-ups in what is kept of lists.
use Rattle.std.proofs.Common.{◌≡◌, ℕ, Bool, true, false, List, Option, None, refl, ap, ◌∙◌, arith}
use Rattle.std.specs.Prelude.{cond, filter, find, not, nat_le, nat_lt, option_map, ◌==◌, if◌then◌else◌}
use Rattle.std.proofs.lemmas.Bool.{and_parts, eqb-true}
use Rattle.std.proofs.lemmas.Grind.{common_steps}
use Rattle.spec_model.specs.Giving.{unless_low}
use Rattle.spec_model.specs.Holdings.{is_low}
use Rattle.spec_model.specs.Slots.{slots_of, is_of_slot}
use Rattle.spec_model.specs.Words.{Certificate, Header, Vote}
use Rattle.ref_machine.specs.Tables.{counted_in, counts_for, headers_in, of_round, votes_for, votes_in}
use Rattle.ref_machine.specs.declared.tables.SlotVote.{SlotVote}
use Rattle.ref_machine.proofs.Lists.{find_kept}

turned : {X : Type 0} (low : Bool) (found : Option X) → cond (not low) found None ≡ (if low then None else found)
turned true found = refl
turned false found = refl

mapped : {X Y : Type 0} (f : X → Y) (low : Bool) (found : Option X) → option_map f (if low then None else found) ≡ (if low then None else option_map f found)
mapped f true found = refl
mapped f false found = refl

-- what is found among those of rounds that aren't low, where all that fit are of one round
unless_kept : {X : Type 0} (test : X → Bool) (number : X → ℕ) (floor round : ℕ) (xs : List X) → ((x : X) → test x ≡ true → number x ≡ round)
    → find test (filter (λ x. not (is_low floor (number x))) xs) ≡ unless_low floor round (find test xs)
unless_kept test number floor round xs each =
    find_kept test (λ x. not (is_low floor (number x))) (not (is_low floor round)) xs (λ x fits. ap (λ n. not (is_low floor n)) (each x fits))
    ∙ turned (is_low floor round) (find test xs)

pub votes_kept : (floor : ℕ) (votes : List SlotVote) (round author : ℕ) → votes_in (filter (λ (v : SlotVote). not (is_low floor v.round)) votes) round
    author ≡ unless_low floor round (votes_in votes round author)
votes_kept floor votes round author =
    ap (option_map (λ (v : SlotVote). v.digest))
    (unless_kept (votes_for round author) (λ (v : SlotVote). v.round) floor round votes (λ v fits. eqb-true _ _ (and_parts (v.round == round) (v.author.0 == author) fits).0))
    ∙ mapped (λ (v : SlotVote). v.digest) (is_low floor round) (find (votes_for round author) votes)

pub headers_kept : (floor : ℕ) (headers : List Header) (round : ℕ) → headers_in (filter (λ (h : Header). not (is_low floor h.body.round)) headers)
    round ≡ unless_low floor round (headers_in headers round)
headers_kept floor headers round =
    unless_kept (of_round round) (λ (h : Header). h.body.round) floor round headers (λ h fits. eqb-true h.body.round round fits)

pub counted_kept : (floor : ℕ) (votes : List Vote) (round voter : ℕ) → counted_in (filter (λ (v : Vote). not (is_low floor v.round)) votes) round
    voter ≡ unless_low floor round (counted_in votes round voter)
counted_kept floor votes round voter =
    unless_kept (counts_for round voter) (λ (v : Vote). v.round) floor round votes (λ v fits. eqb-true _ _ (and_parts (v.round == round) (v.voter.0 == voter) fits).0)

at_least : (floor round : ℕ) → nat_le floor round ≡ not (nat_lt round floor)
at_least floor round = grind (arith, common_steps)

pub certificates_kept : (floor : ℕ) (certificates : List Certificate) (round author : ℕ)
    → slots_of (filter (λ (c : Certificate). nat_le floor c.header.round) certificates) round author ≡ (if nat_lt round floor then None else slots_of certificates round author)
certificates_kept floor certificates round author =
    find_kept (λ (c : Certificate). is_of_slot round author c.header) (λ (c : Certificate). nat_le floor c.header.round) (not (nat_lt round floor)) certificates
    (λ c fits. ap (nat_le floor) (eqb-true _ _ (and_parts (c.header.round == round) (c.header.author.0 == author) fits).0) ∙ at_least floor round)
    ∙ turned (nat_lt round floor) (slots_of certificates round author)
