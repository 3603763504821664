-- What is proposed keeps all limits, so the node takes it, and a legal history with it is legal.
use Rattle.std.proofs.Common.{◌≡◌, ℕ, zero, suc, ◌+◌, ◌-◌, ◌^◌, ◌<◌, ◌≤◌, true, List, [], ◌∷◌, map, take, length, Option, Some, inl, inr, refl, subst, arith}
use Rattle.std.specs.Prelude.{All, Contains, filter_map, fold, nat_lt}
use Rattle.std.specs.List.{range_with_len}
use Rattle.std.proofs.lemmas.Bool.{and_from, lt-ltb}
use Rattle.std.proofs.lemmas.List.Elements.{All-nil, All-cons, All-weaker, All-contains_itself}
use Rattle.wire.specs.Events.{Event}
use Rattle.wire.specs.Fields.{IsDigest}
use Rattle.wire.specs.Grammar.{IsHeader}
use Rattle.wire.specs.References.{IsBatchReference, AreBatches, AreParents, batches_rise, parents_rise, digest_before, placed}
use Rattle.wire.proofs.DigestLemmas.{are_digest_bytes}
use Rattle.spec_model.specs.Admitting.{IsTaken, IsLegal}
use Rattle.spec_model.specs.Histories.{History, batches}
use Rattle.spec_model.specs.Holdings.{slots, round}
use Rattle.spec_model.specs.Nodes.{Node, size_of}
use Rattle.spec_model.specs.Proposing.{to_name, nameable, as_parent, proposal, signed}
use Rattle.spec_model.specs.Slots.{header_digest}
use Rattle.spec_model.specs.Words.{BatchReference, Certificate, ParentReference}
use Rattle.spec_model.proofs.Placing.{placed-rises, take-rises}
use Rattle.spec_laws.specs.Laws.{ProposalsAreLegal, own_event}
use Rattle.spec_model.specs.States.{whole}
use Rattle.spec_laws.proofs.Closed.{in_place}
use Rattle.spec_laws.proofs.Legal.{legal-push}
use Rattle.spec_laws.proofs.Lists.{given_or_none}
use Rattle.spec_laws.proofs.Proposed.{batches_named, proposed, proposals_are_new}
use Rattle.spec_laws.proofs.Votes.{slot_is}

-- ---- batches

pub all_placed-rise : (list xs : List BatchReference) → batches_rise list ≡ true → batches_rise (fold placed list xs) ≡ true
all_placed-rise list [] rise = rise
all_placed-rise list (x ∷ xs) rise = all_placed-rise (placed list x) xs (placed-rises list x rise)

pub few_taken : {X : Type 0} (n : ℕ) (xs : List X) → length (take n xs) ≤ n
few_taken zero xs = omega arith
few_taken (suc n) [] = omega arith
few_taken (suc n) (x ∷ xs) = omega (arith, few_taken n xs)

are_batches : (node : Node) (history : History) → IsLegal node history → AreBatches (proposal node history).batches
are_batches node history legal =
    let all = nameable node (whole node history) in
    let named = take 128 all in
    record {
      few = few_taken 128 all;
      each = All-weaker (Contains named) IsBatchReference
          (λ b inside. let is = batches_named node history legal b inside in record { digest = is.digest; worker = is.number }) named (All-contains_itself named);
      rise = take-rises (λ a b. digest_before a.digest b.digest) 128 all (all_placed-rise [] (filter_map (to_name node (whole node history)) (batches history)) refl);
    }

-- ---- parents

-- parents by authors from one number up to another, each author once
pub record AreFrom (from end : ℕ) (parents : List ParentReference) : Type 0 where
  pub each : All (λ p. (from ≤ p.author.0) × (p.author.0 < end)) parents
  pub digests : All (λ p. IsDigest p.certificate) parents
  pub rise : parents_rise parents ≡ true
  pub few : from + length parents ≤ end

rises_first : (from end : ℕ) (p : ParentReference) (parents : List ParentReference) → p.author.0 ≡ from → AreFrom (from + 1) end parents → parents_rise (p ∷ parents) ≡ true
rises_first from end p [] is rest = refl
rises_first from end p (q ∷ parents) is rest =
    let above = (rest.each 0 q (omega arith)).0 in
    and_from (nat_lt p.author.0 q.author.0) (parents_rise (q ∷ parents)) (lt-ltb _ _ (omega (arith, above, is))) rest.rise

wider : (from end : ℕ) (parents : List ParentReference) → AreFrom (from + 1) end parents → AreFrom from end parents
wider from end parents rest =
    record {
      each = All-weaker (λ p. (from + 1 ≤ p.author.0) × (p.author.0 < end)) (λ p. (from ≤ p.author.0) × (p.author.0 < end)) (λ p x. (omega (arith, x.0), x.1)) parents rest.each;
      digests = rest.digests;
      rise = rest.rise;
      few = omega (arith, rest.few);
    }

one_more : (from end : ℕ) (p : ParentReference) (parents : List ParentReference) → p.author.0 ≡ from → from < end → IsDigest p.certificate
    → AreFrom (from + 1) end parents → AreFrom from end (p ∷ parents)
one_more from end p parents is less digest rest =
    record {
      each = All-cons (λ q. (from ≤ q.author.0) × (q.author.0 < end)) p parents (omega (arith, is), omega (arith, is, less)) (wider from end parents rest).each;
      digests = All-cons (λ q. IsDigest q.certificate) p parents digest rest.digests;
      rise = rises_first from end p parents is rest;
      few = omega (arith, rest.few);
    }

pub made_from : (held : ℕ → Option Certificate) → ((a : ℕ) (c : Certificate) → held a ≡ Some c → c.header.author.0 ≡ a) → (from count : ℕ)
    → AreFrom from (from + count) (map as_parent (filter_map held (range_with_len from count)))
made_from held own from zero =
    record { each = All-nil (λ p. (from ≤ p.author.0) × (p.author.0 < from + zero)); digests = All-nil (λ p. IsDigest p.certificate); rise = refl; few = omega arith }
made_from held own from (suc count) =
    let ends : from + 1 + count ≡ from + suc count = omega arith in
    let rest = subst (λ e. AreFrom (from + 1) e (map as_parent (filter_map held (range_with_len (from + 1) count)))) ends (made_from held own (from + 1) count) in
    elim (given_or_none (held from)) [
      | inl found ↦
          rw found.1 (one_more from (from + suc count) (as_parent found.0) (map as_parent (filter_map held (range_with_len (from + 1) count)))
          (own from found.0 found.1) (omega arith) (are_digest_bytes _) rest)
      | inr none ↦ rw none (wider from (from + suc count) (map as_parent (filter_map held (range_with_len (from + 1) count))) rest)
    ]

are_parents : (node : Node) (history : History) → IsLegal node history → AreParents (proposal node history).parents
are_parents node history legal =
    let n = size_of node in
    let r = round node history - 1 in
    let parents = (proposal node history).parents in
    let most = legal.sound.charter.size.1 in
    let made = made_from (slots node history r) (λ a c held. (slot_is r a c.header (in_place node history r a c held)).1) 0 n in
    record {
      few = omega (arith, made.few, most);
      each = λ i d within.
          let bound = (made.each i d within).1 in
          record { author = omega (arith, bound, most); certificate = made.digests i d within };
      rise = made.rise;
    }

-- ---- the proposal

within_limits : (node : Node) (history : History) → IsLegal node history → round node history ≤ 2 ^ 48 → IsHeader (signed node (proposal node history))
within_limits node history legal within =
    let member = legal.sound.member in
    let most = legal.sound.charter.size.1 in
    record {
      body = record { author = omega (arith, member, most); round = within; batches = are_batches node history legal; parents = are_parents node history legal };
      signature = legal.sound.signatures (header_digest (proposal node history));
    }

pub proposals_are_legal : ProposalsAreLegal
proposals_are_legal node history header legal is =
    let parts = proposed node history header is in
    let new = proposals_are_new node history header legal is in
    let event : Event = own_event node header in
    let taken : IsTaken node event = record { message = subst IsHeader parts.is (within_limits node history legal parts.within); passed = new.0 } in
    legal-push node history event legal taken (rw new.1 refl)
