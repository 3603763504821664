-- The text of a script with a command more.
use Rattle.std.proofs.Common.{◌≡◌, ℕ, List, [], ◌∷◌, ◌++◌, refl, sym, ap, ◌∙◌, append_assoc, append-nil}
use Rattle.spec_model.specs.Nodes.{Node}
use Rattle.spec_world.specs.Text.{Command, Desk, after, due, frames, carried_out, text, desk_after}

-- ---- a command more

pub text_push : (node : Node) (desk : Desk) (done : List Command) (next : Command)
    → text node desk (done ++ next ∷ []) ≡ text node desk done ++ frames (due (after node (desk_after node desk done) next))
unfolding text desk_after
text_push node desk [] next = append-nil (frames (due (after node desk next)))
text_push node desk (command ∷ done) next =
    ap (λ (l : List ℕ). frames (due (after node desk command)) ++ l) (text_push node (carried_out node desk command) done next)
    ∙ sym (append_assoc (frames (due (after node desk command))) (text node (carried_out node desk command) done)
    (frames (due (after node (desk_after node (carried_out node desk command) done) next))))

pub desk_push : (node : Node) (desk : Desk) (done : List Command) (next : Command) → desk_after node desk (done ++ next ∷ []) ≡ carried_out node (desk_after node desk done) next
unfolding desk_after
desk_push node desk [] next = refl
desk_push node desk (command ∷ done) next = desk_push node (carried_out node desk command) done next

pub text_nil : (node : Node) (desk : Desk) → text node desk [] ≡ []
unfolding text
text_nil node desk = refl

pub desk_nil : (node : Node) (desk : Desk) → desk_after node desk [] ≡ desk
unfolding desk_after
desk_nil node desk = refl
