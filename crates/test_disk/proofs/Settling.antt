-- Groups on the way of a book whose setting is known by another name.
use Rattle.std.proofs.Common.{◌≡◌, ℕ, List, ◌∷◌, ◌++◌, [], Option, Some, refl, sym, subst}
use Rattle.std.specs.Prelude.{IfSome}
use Rattle.spec_model.specs.Nodes.{Node}
use Rattle.validator.specs.Setting.{ConfigView, node_of}
use Rattle.book.specs.Book.{BookView, SettlesNext}
use Rattle.book.specs.InFlight.{AreInFlight}
use Rattle.book.proofs.InFlight.{way_settles}
use Rattle.sigface.specs.declared.pair.HashSign.{HashSign}
use Rattle.sigface.specs.contracts.pair.HashSignSign.TheImpl.{scheme-value}

-- a node that signs with the test pair
abbrev pub node_in : ConfigView HashSign → Node
node_in setting = node_of scheme-value.it setting

pub way_here : (setting : ConfigView HashSign) (book : BookView HashSign) (groups : List (List (List ℕ))) → book.validator.setting ≡ setting
    → AreInFlight (node_in setting) book groups → AreInFlight (node_in book.validator.setting) book groups
way_here setting book groups is way = subst (λ (s : ConfigView HashSign). AreInFlight (node_in s) book groups) (sym is) way

-- what is said of a group that was taken, if one was
pub taken_is : (node : Node) (before later : BookView HashSign) (found : Option (List (List ℕ))) (group : List (List ℕ)) → found ≡ Some group
    → IfSome found (λ group. (groups : List (List (List ℕ))) → AreInFlight node before groups → AreInFlight node later (groups ++ group ∷ []))
    → (groups : List (List (List ℕ))) → AreInFlight node before groups → AreInFlight node later (groups ++ group ∷ [])
taken_is node before later found group is way =
    subst (λ (f : Option (List (List ℕ))). IfSome f (λ g. (groups : List (List (List ℕ))) → AreInFlight node before groups → AreInFlight node later (groups ++ g ∷ []))) is way

-- the first of them is settled next
pub settles_here : (setting : ConfigView HashSign) (book : BookView HashSign) (first : List (List ℕ)) (rest : List (List (List ℕ)))
    → book.validator.setting ≡ setting → AreInFlight (node_in setting) book (first ∷ rest) → SettlesNext (node_in book.validator.setting) book first
settles_here setting book first rest is way = way_settles (node_in book.validator.setting) book first rest (way_here setting book (first ∷ rest) is way)

-- these groups are on the way of a book
abbrev pub Way : BookView HashSign → List (List (List ℕ)) → Type 0
Way book groups = AreInFlight (node_in book.validator.setting) book groups

-- a group that was taken is the only one on the way, where none was
pub taken_alone : (before later : BookView HashSign) (found : Option (List (List ℕ))) (group : List (List ℕ)) → found ≡ Some group → later.validator.setting ≡ before.validator.setting
    → IfSome found (λ group. (groups : List (List (List ℕ))) → AreInFlight (node_in before.validator.setting) before groups
    → AreInFlight (node_in before.validator.setting) later (groups ++ group ∷ []))
    → Way before [] → Way later (group ∷ [])
taken_alone before later found group is setting way none =
    way_here before.validator.setting later (group ∷ []) setting (taken_is (node_in before.validator.setting) before later found group is way [] none)

-- the only group on the way is settled next
pub settles_alone : (book : BookView HashSign) (group synced : List (List ℕ)) → synced ≡ group → Way book (group ∷ []) → SettlesNext (node_in book.validator.setting) book synced
settles_alone book group synced is way = subst (λ (g : List (List ℕ)). SettlesNext (node_in book.validator.setting) book g) (sym is) (settles_here book.validator.setting book group [] refl way)
