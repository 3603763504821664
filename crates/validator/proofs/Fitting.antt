-- What the tables give has no fault as a part of a header: it is within the limits, and rises.
use Rattle.std.proofs.Common.{◌≡◌, ℕ, ◌≤◌, Bool, true, List, [], ◌∷◌, map, take, length, Option, Some, None, inl, inr, refl, ap, sym, ◌∙◌, arith}
use Rattle.std.specs.Prelude.{option_map}
use Rattle.std.specs.List.{filter_map, cons_option}
use Rattle.std.proofs.lemmas.Bool.{le-ltb}
use Rattle.std.proofs.lemmas.Option.{same_Some, none-some}
use Rattle.wire.specs.References.{digest_before, batches_rise}
use Rattle.committee.specs.Charter.{numbers}
use Rattle.header.specs.Making.{list_fault, batches_fault, parents_fault}
use Rattle.spec_model.specs.Proposing.{as_parent}
use Rattle.spec_model.specs.Slots.{certificate_digest}
use Rattle.spec_model.specs.Words.{Author, Certificate, Digest}
use Rattle.spec_model.proofs.Placing.{take-rises}
use Rattle.spec_laws.proofs.Lists.{given_or_none}
use Rattle.spec_laws.proofs.ProposedTaken.{all_placed-rise, few_taken, made_from}
use Rattle.spec_laws.proofs.Votes.{slot_is}
use Rattle.batchstore.specs.Stock.{BatchStoreView, nameable, to_name}
use Rattle.dag.specs.Graph.{DagView, IsGraph, size_in, slots_in, digest_in}
use Rattle.validator.specs.Proposing.{least_batches, parents_in}

-- a list that is short enough and rises has no fault
no_fault : (limit count : ℕ) (rises : Bool) → count ≤ limit → rises ≡ true → list_fault limit count rises ≡ None
no_fault limit count rises few rise = let short = le-ltb limit count few in rw short (rw rise refl)

-- ---- batches

pub batches_fit : (stock : BatchStoreView) → batches_fault (least_batches stock) ≡ None
batches_fit stock =
    let all = nameable stock in
    no_fault 128 (length (take 128 all)) (batches_rise (take 128 all)) (few_taken 128 all)
    (take-rises (λ a b. digest_before a.digest b.digest) 128 all (all_placed-rise [] (filter_map (to_name stock.charter stock.own) stock.held) refl))

-- ---- parents

-- what one element gives is mapped, and so is what the others give
mapped_or : {Y Z : Type 0} (name : Y → Z) (o : Option Y) (ys : List Y) (zs : List Z) → map name ys ≡ zs → map name (cons_option o ys) ≡ cons_option (option_map name o) zs
mapped_or name None ys zs is = is
mapped_or name (Some y) ys zs is = ap (λ l. name y ∷ l) is

-- what elements give, mapped, is what they give where each is mapped
pub mapped_filter : {X Y Z : Type 0} (name : Y → Z) (make : X → Option Y) (xs : List X) → map name (filter_map make xs) ≡ filter_map (λ x. option_map name (make x)) xs
mapped_filter name make [] = refl
mapped_filter name make (x ∷ xs) = mapped_or name (make x) (filter_map make xs) (filter_map (λ x. option_map name (make x)) xs) (mapped_filter name make xs)

-- a certificate's author is that of its slot
author_is : (graph : DagView) → IsGraph graph → (round author : ℕ) (c : Certificate) → slots_in graph round author ≡ Some c → c.header.author.0 ≡ author
author_is graph good round author c held = (slot_is round author c.header (good.placed round author c held)).1

-- the author of a slot with the digest of what it holds is that as a parent
pub parent_is : (graph : DagView) → IsGraph graph → (round : ℕ) (author : Author) (digest : Digest) → Some digest ≡ digest_in graph round author.0
    → Some (record { author = author; certificate = digest }) ≡ option_map as_parent (slots_in graph round author.0)
parent_is graph good round author digest is =
    elim (given_or_none (slots_in graph round author.0)) [
      | inl found ↦
          let c = found.0 in
          let is' : Some digest ≡ Some (certificate_digest c.header) = is ∙ ap (option_map (λ (c : Certificate). certificate_digest c.header)) found.1 in
          let by : c.header.author ≡ author = ap (λ (n : ℕ). record { 0 = n }) (author_is graph good round author.0 c found.1) in
          ap (λ (a : Author). Some (record { author = a; certificate = digest })) (sym by)
          ∙ ap (λ (d : Digest). Some (record { author = c.header.author; certificate = d })) (same_Some digest (certificate_digest c.header) is')
          ∙ sym (ap (option_map as_parent) found.1)
      | inr none ↦ absurd (none-some digest (sym (is ∙ ap (option_map (λ (c : Certificate). certificate_digest c.header)) none)))
    ]

pub parents_fit : (graph : DagView) → IsGraph graph → (round : ℕ) → parents_fault (parents_in graph round) ≡ None
parents_fit graph good round =
    let n = size_in graph in
    let made = made_from (slots_in graph round) (author_is graph good round) 0 n in
    ap parents_fault (sym (mapped_filter as_parent (slots_in graph round) (numbers n)))
    ∙ no_fault 31 _ _ (omega (arith, made.few, good.charter.size.1)) made.rise
