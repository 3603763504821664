-- Answers to events, one after the other.
use Rattle.std.proofs.Common.{◌≡◌, ◌⊎◌, inl, inr, ℕ, ◌-◌, List, Bool, true, false, [], ◌∷◌, ◌++◌, length, take, append_assoc, length-append, arith, sym, ap, ◌∙◌}
use Rattle.std.proofs.Math.Seq.{take-append_seam}
use Rattle.std.specs.Prelude.{if◌then◌else◌}
use Rattle.spec_model.specs.Words.{Event}
use Rattle.header.specs.declared.admission.Admission.{Admission}
use Rattle.spec_model.specs.Admitting.{admit, answers, history_after, is_new}
use Rattle.spec_model.specs.Histories.{History}
use Rattle.spec_model.specs.Nodes.{Node}

-- the history after an event that isn't new is that without its last event
shrinks : (node : Node) (history : History) (event : Event) (answer : Admission) (new : Bool) (grown later : History) (len : ℕ)
    → answer ≡ admit node history event → new ≡ is_new answer → grown ≡ history ++ event ∷ [] → new ≡ false
    → len ≡ length grown → later ≡ take (len - 1) grown → later ≡ history_after node history event
shrinks node history event answer new grown later len is test grows old all rest =
    let less : len - 1 ≡ length history = omega (arith, all, ap length grows, length-append history (event ∷ [])) in
    rest ∙ ap (λ (n : ℕ). take n grown) less ∙ ap (take (length history)) grows ∙ take-append_seam history (event ∷ [])
    ∙ sym (ap (λ (b : Bool). if b then history ++ event ∷ [] else history) (ap is_new (sym is) ∙ sym test ∙ old))

-- and that after one that is new has it
grows_by : (node : Node) (history : History) (event : Event) (answer : Admission) (new : Bool) (grown : History)
    → answer ≡ admit node history event → new ≡ is_new answer → grown ≡ history ++ event ∷ [] → new ≡ true
    → grown ≡ history_after node history event
grows_by node history event answer new grown is test grows true_new =
    grows ∙ sym (ap (λ (b : Bool). if b then history ++ event ∷ [] else history) (ap is_new (sym is) ∙ sym test ∙ true_new))

-- the history after an event, as one that was pushed is left or popped
history_is : (node : Node) (history : History) (event : Event) (answer : Admission) (new : Bool) (grown later : History) (len : ℕ)
    → answer ≡ admit node history event → new ≡ is_new answer → grown ≡ history ++ event ∷ [] → len ≡ length grown
    → ((new ≡ false) × (later ≡ take (len - 1) grown)) ⊎ ((new ≡ true) × (later ≡ grown)) → later ≡ history_after node history event
history_is node history event answer new grown later len is test grows all (inl old) = shrinks node history event answer new grown later len is test grows old.0 all old.1
history_is node history event answer new grown later len is test grows all (inr more) = more.1 ∙ grows_by node history event answer new grown is test grows more.0

-- where one more answer was found, those found and those that are left are all
pub one_answered : (node : Node) (found more all : List Admission) (history grown later left rest : History) (event : Event) (answer : Admission) (new : Bool) (len : ℕ)
    → answer ≡ admit node history event → new ≡ is_new answer → grown ≡ history ++ event ∷ [] → len ≡ length grown
    → ((new ≡ false) × (later ≡ take (len - 1) grown)) ⊎ ((new ≡ true) × (later ≡ grown)) → more ≡ found ++ answer ∷ [] → left ≡ event ∷ rest
    → found ++ answers node history left ≡ all → more ++ answers node later rest ≡ all
one_answered node found more all history grown later left rest event answer new len is test grows all_grown after longer steps so_far =
    rw (longer, is, history_is node history event answer new grown later len is test grows all_grown after)
    (append_assoc found (admit node history event ∷ []) (answers node (history_after node history event) rest) ∙ ap (λ (l : History). found ++ answers node history l) (sym steps) ∙ so_far)
