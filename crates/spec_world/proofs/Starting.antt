-- What is kept of the empty history is the fresh state: said here once more, since the machine's own proof of it can't be named.
use Rattle.std.proofs.Common.{◌≡◌, ℕ, [], ◌∷◌, ◌++◌, false, List, map, None, inl, inr, arith, refl, ap, ◌∙◌}
use Rattle.std.proofs.Math.Path.{fun_ext}
use Rattle.std.specs.Prelude.{nat_lt, if◌then◌else◌}
use Rattle.std.proofs.lemmas.Bool.{cases_Bool}
use Rattle.std.proofs.lemmas.List.{append-nil}
use Rattle.committee.specs.Charter.{numbers}
use Rattle.spec_model.specs.Giving.{unless_low, kept}
use Rattle.spec_model.specs.Holdings.{certificates, genesis, slots, is_low}
use Rattle.spec_model.specs.Nodes.{size_of}
use Rattle.spec_model.specs.Slots.{slots_of}
use Rattle.spec_model.specs.States.{whole, highest_of, floor_in}
use Rattle.spec_machine.specs.Laws.{StartsFresh}
use Rattle.spec_machine.specs.Machine.{fresh}
use Rattle.spec_machine.proofs.Grown.{same_state}

nothing : {X : Type 0} (floor round : ℕ) → unless_low {X = X} floor round None ≡ None
nothing floor round = elim (cases_Bool (is_low floor round)) [ inl low ↦ rw low refl | inr high ↦ rw high refl ]

none_higher : (authors : List ℕ) → highest_of (map genesis authors) ≡ 0
none_higher [] = refl
none_higher (author ∷ authors) = none_higher authors

pub starts_fresh : StartsFresh
starts_fresh node =
    let first = map genesis (numbers (size_of node)) in
    let all : certificates node [] ≡ first = append-nil (first ++ []) ∙ append-nil first in
    let floor = floor_in node (whole node []) in
    same_state (kept node []) (fresh node) refl refl refl
    (fun_ext (λ round. fun_ext (λ author. nothing floor round)))
    (fun_ext (λ round. nothing floor round))
    (fun_ext (λ round. fun_ext (λ voter. nothing floor round)))
    (fun_ext (λ round. fun_ext (λ author. let above : nat_lt round floor ≡ false = grind arith in
    ap (λ b. if b then None else slots node [] round author) above ∙ ap (λ l. slots_of l round author) all)))
    (ap highest_of all ∙ none_higher (numbers (size_of node)))
    refl refl
