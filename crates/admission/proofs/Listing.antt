-- A store lists the batches that the state may propose.
use Rattle.std.proofs.Common.{◌≡◌, ℕ, Bool, true, false, cond, List, [], ◌∷◌, ◌++◌, map, Option, Some, None, refl, ap, sym, subst, ◌∙◌, append_assoc}
use Rattle.std.specs.Prelude.{◌==◌, ◌&&◌, ◌||◌, not, find, fold, nat_le}
use Rattle.std.specs.List.{filter_map, cons_option}
use Rattle.std.specs.Option.{option_map_or}
use Rattle.wire.specs.References.{placed}
use Rattle.committee.specs.Charter.{weight, quorum_of}
use Rattle.committee.specs.Sets.{has as is_in}
use Rattle.spec_model.specs.Nodes.{Node}
use Rattle.spec_model.specs.Proposing as proposing
use Rattle.spec_model.specs.Proposing.{is_nameable}
use Rattle.spec_model.specs.States as states
use Rattle.spec_model.specs.States.{State}
use Rattle.batchstore.specs.Stock.{BatchStoreView, held_at, is_available, was_named, may_be_named, as_reference, to_name}
use Rattle.batchstore.specs.declared.held.Held.{Held}
use Rattle.batchstore.proofs.Among.{digest_in, is_of, Distinct, found, others}
use Rattle.admission.specs.Batches.{HasBatches}
use Rattle.admission.specs.Laws.{NameableAgrees}
use Rattle.admission.proofs.Reading.{batch_of, available_read}

-- what is asked first needs no second look
asked_twice : (first second third : Bool) → (first && (second && third)) ≡ (first && ((first && second) && third))
asked_twice true second third = refl
asked_twice false second third = refl

-- a batch may be named, by what is held of it
abbrev may_be : BatchStoreView → Held → Option Held → Bool
may_be stock h o =
    (h.batch.author.0 == stock.own)
    && ((option_map_or (λ (x : Held). x.batch.author.0 == stock.own) o false
    && nat_le (quorum_of stock.charter) (weight stock.charter (λ member. (member == stock.own) || option_map_or (λ (x : Held). is_in x.acknowledged member) o false)))
    && not (option_map_or (λ (x : Held). x.named) o false))

same_may : (node : Node) (state : State) (stock : BatchStoreView) → HasBatches node state stock → (h : Held) → held_at stock (digest_in h) ≡ Some h
    → may_be_named stock.charter stock.own h ≡ is_nameable node state h.batch
same_may node state stock has h there =
    asked_twice (h.batch.author.0 == stock.own) (nat_le (quorum_of stock.charter) (weight stock.charter (λ member. (member == stock.own) || is_in h.acknowledged member))) (not h.named)
    ∙ ap (may_be stock h) (sym there)
    ∙ ap (λ (n : ℕ). (h.batch.author.0 == n) && (is_available stock (digest_in h) && not (was_named stock (digest_in h)))) has.own
    ∙ ap (λ b. (h.batch.author.0 == node.own.0) && (b && not (was_named stock (digest_in h)))) (available_read node state stock has (digest_in h))
    ∙ ap (λ b. (h.batch.author.0 == node.own.0) && (states.is_available node state (digest_in h) && not b)) (has.named (digest_in h))

same_name : (node : Node) (state : State) (stock : BatchStoreView) → HasBatches node state stock → (h : Held) → held_at stock (digest_in h) ≡ Some h
    → to_name stock.charter stock.own h ≡ proposing.to_name node state h.batch
same_name node state stock has h there = ap (λ b. cond b (Some (as_reference h.batch)) None) (same_may node state stock has h there)

listed : (node : Node) (state : State) (stock : BatchStoreView) → HasBatches node state stock → Distinct stock.held → (front back : List Held) → stock.held ≡ front ++ back
    → filter_map (to_name stock.charter stock.own) back ≡ filter_map (proposing.to_name node state) (map batch_of back)
listed node state stock has distinct front [] is = refl
listed node state stock has distinct front (h ∷ rest) is =
    let there : held_at stock (digest_in h) ≡ Some h =
    ap (find (is_of (digest_in h))) is ∙ found (digest_in h) front h rest refl (others front h rest (subst Distinct is distinct)).0 in
    ap (λ o. cons_option o (filter_map (to_name stock.charter stock.own) rest)) (same_name node state stock has h there)
    ∙ ap (cons_option (proposing.to_name node state h.batch)) (listed node state stock has distinct (front ++ h ∷ []) rest (is ∙ sym (append_assoc front (h ∷ []) rest)))

pub nameable_agrees : NameableAgrees
nameable_agrees node state stock is has =
    ap (fold placed []) (listed node state stock has is.distinct [] stock.held refl
    ∙ ap (filter_map (proposing.to_name node state)) has.batches)
