-- Legal histories, event by event.
use Rattle.std.proofs.Common.{◌≡◌, true, List, [], ◌∷◌, ◌++◌, refl, sym, subst, append_assoc}
use Rattle.std.specs.Prelude.{All}
use Rattle.std.proofs.lemmas.Bool.{and_parts, and_from}
use Rattle.std.proofs.lemmas.List.{append-nil}
use Rattle.std.proofs.lemmas.List.Elements.{All-nil, All-cons, All-head, All-tail, All-append}
use Rattle.wire.specs.Events.{Event}
use Rattle.spec_model.specs.Admitting.{admit, is_new, each_new, IsTaken, IsLegal}
use Rattle.spec_model.specs.Histories.{History}
use Rattle.spec_model.specs.Nodes.{Node}

-- the parts of events that are each new
each_new-parts : (node : Node) (done one other : History) → each_new node done (one ++ other) ≡ true
    → (each_new node done one ≡ true) × (each_new node (done ++ one) other ≡ true)
each_new-parts node done [] other h = (refl, subst (λ (d : History). each_new node d other ≡ true) (sym (append-nil done)) h)
each_new-parts node done (event ∷ one) other h =
    let parts = and_parts (is_new (admit node done event)) (each_new node (done ++ event ∷ []) (one ++ other)) h in
    let rest = each_new-parts node (done ++ event ∷ []) one other parts.1 in
    (and_from _ _ parts.0 rest.0, subst (λ (d : History). each_new node d other ≡ true) (append_assoc done (event ∷ []) one) rest.1)

each_new-append : (node : Node) (done one other : History) → each_new node done one ≡ true → each_new node (done ++ one) other ≡ true → each_new node done (one ++ other) ≡ true
each_new-append node done [] other new later = subst (λ (d : History). each_new node d other ≡ true) (append-nil done) later
each_new-append node done (event ∷ one) other new later =
    let parts = and_parts (is_new (admit node done event)) (each_new node (done ++ event ∷ []) one) new in
    and_from _ _ parts.0 (each_new-append node (done ++ event ∷ []) one other parts.1
    (subst (λ (d : History). each_new node d other ≡ true) (sym (append_assoc done (event ∷ []) one)) later))

-- what holds of all of a list holds of all of its parts
All-parts : {X : Type 0} (P : X → Type 0) (one other : List X) → All P (one ++ other) → All P one × All P other
All-parts P [] other h = (All-nil P, h)
All-parts P (x ∷ one) other h =
    let rest = All-parts P one other (All-tail P x (one ++ other) h) in
    (All-cons P x one (All-head P x (one ++ other) h) rest.0, rest.1)

-- a beginning of a legal history is legal
pub legal-begins : (node : Node) (one other : History) → IsLegal node (one ++ other) → IsLegal node one
legal-begins node one other legal =
    record { sound = legal.sound; taken = (All-parts (IsTaken node) one other legal.taken).0; new = (each_new-parts node [] one other legal.new).0 }

-- an event that a node takes, new after a legal history
pub record Adds (node : Node) (history : History) (event : Event) : Type 0 where
  pub legal : IsLegal node history
  pub longer : IsLegal node (history ++ event ∷ [])
  pub taken : IsTaken node event
  pub new : is_new (admit node history event) ≡ true

-- the last event of a legal history is one
pub legal-last : (node : Node) (history : History) (event : Event) → IsLegal node (history ++ event ∷ []) → Adds node history event
legal-last node history event legal =
    let parts = each_new-parts node [] history (event ∷ []) legal.new in
    record {
      legal = legal-begins node history (event ∷ []) legal;
      longer = legal;
      taken = All-head (IsTaken node) event [] (All-parts (IsTaken node) history (event ∷ []) legal.taken).1;
      new = (and_parts (is_new (admit node history event)) true parts.1).0;
    }

-- a legal history with an event that is new at it is legal
pub legal-push : (node : Node) (history : History) (event : Event) → IsLegal node history → IsTaken node event → is_new (admit node history event) ≡ true → IsLegal node (history ++ event ∷ [])
legal-push node history event legal taken new =
    record {
      sound = legal.sound;
      taken = All-append (IsTaken node) history (event ∷ []) legal.taken (All-cons (IsTaken node) event [] taken (All-nil (IsTaken node)));
      new = each_new-append node [] history (event ∷ []) legal.new (and_from _ _ new refl);
    }

-- what holds of a legal history and stays with each event that is added holds of each that it begins
pub legal-grows : (node : Node) (P : History → Type 0) → ((history : History) (event : Event) → Adds node history event → P history → P (history ++ event ∷ []))
    → (history more : History) → IsLegal node (history ++ more) → P history → P (history ++ more)
legal-grows node P step history [] legal before = subst P (sym (append-nil history)) before
legal-grows node P step history (event ∷ more) legal before =
    let joined = append_assoc history (event ∷ []) more in
    let longer : IsLegal node ((history ++ event ∷ []) ++ more) = subst (IsLegal node) (sym joined) legal in
    subst P joined (legal-grows node P step (history ++ event ∷ []) more longer
    (step history event (legal-last node history event (legal-begins node (history ++ event ∷ []) more longer)) before))

-- so that what holds of the empty history and stays holds of each legal one
pub legal-induction : (node : Node) (P : History → Type 0) → P [] → ((history : History) (event : Event) → Adds node history event → P history → P (history ++ event ∷ []))
    → (history : History) → IsLegal node history → P history
legal-induction node P start step history legal = legal-grows node P step [] history legal start
