-- The first outputs of a queue.
use Rattle.std.proofs.Common.{◌≡◌, ℕ, List, [], ◌∷◌, ◌++◌, zero, suc, ◌<◌, ◌≤◌, get_or, length, take, drop, Bool, true, false, refl, sym, ap, ◌∙◌, subst, arith, append_assoc}
use Rattle.std.specs.Prelude.{All, MatchOption, Option, Some, None, is_some, nat_le, if◌then◌else◌}
use Rattle.std.proofs.lemmas.List.Elements.{All-nil, All-cons, All-head, All-tail}
use Rattle.std.proofs.lemmas.List.{nil_from_length}
use Rattle.std.proofs.lemmas.Bool.{true≢false, leb-true}
use Rattle.std.proofs.lemmas.Option.{same_Some}
use Rattle.spec_model.specs.Words.{Output}
use Rattle.book.specs.declared.queue.Queued.{Queued}
use Rattle.spec_world.specs.World.{Waiting}
use Rattle.book.specs.Queue.{queue_of, settled_head, settled_front}

-- ---- the head

-- the first event, and those after it
front_is : (items : List Queued) (first : Queued) → 0 < length items → first ≡ get_or items 0 first → (rest : List Queued) × (items ≡ first ∷ rest)
front_is [] first some is = absurd (omega (arith, some))
front_is (x ∷ rest) first some is = (rest, ap (λ q. q ∷ rest) (sym is))

-- its first output decides
head_decides : (first : Queued) (rest : List Queued) (settled : ℕ) → is_some (settled_head settled (queue_of (first ∷ rest))) ≡ nat_le first.ticket settled
head_decides first rest settled = chosen (nat_le first.ticket settled)
  where
    chosen : (b : Bool) → is_some (if b then Some first.first else None) ≡ b
    chosen true = refl
    chosen false = refl

pub settled_first : (items : List Queued) (first : Queued) (settled len : ℕ) → len ≡ length items → 0 < len → first ≡ get_or items 0 first
    → nat_le first.ticket settled ≡ is_some (settled_head settled (queue_of items))
settled_first items first settled len long some is =
    let front = front_is items first (omega (arith, long, some)) is in
    sym (head_decides first front.0 settled) ∙ ap (λ l. is_some (settled_head settled (queue_of l))) (sym front.1)

pub nothing_first : (items : List Queued) (settled len : ℕ) → len ≡ length items → (0 < len → ⊥) → false ≡ is_some (settled_head settled (queue_of items))
nothing_first items settled len long none = ap (λ l. is_some (settled_head settled (queue_of l))) (sym (nil_from_length items (sym long ∙ zero_of len none)))
  where
    zero_of : (n : ℕ) → (0 < n → ⊥) → n ≡ 0
    zero_of zero none = refl
    zero_of (suc n) none = absurd (none (omega arith))

-- ---- what is released

-- the head is what is settled
pub released_is : (settled : ℕ) (queue later : List Waiting) (r : Option Output) → is_some (settled_head settled queue) ≡ true
    → MatchOption r (queue ≡ []) (λ output. (ticket : ℕ) × (queue ≡ record { ticket = ticket; output = output } ∷ later)) → r ≡ settled_head settled queue
released_is settled queue later None some none = sym (ap (settled_head settled) none)
released_is settled queue later (Some output) some head =
    sym (ap (settled_head settled) head.1 ∙ taken (nat_le head.0 settled) (subst (λ l. is_some (settled_head settled l) ≡ true) head.1 some))
  where
    taken : (b : Bool) → is_some (if b then Some output else None) ≡ true → (if b then Some output else None) ≡ Some output
    taken true is = refl
    taken false is = absurd (true≢false (sym is))

pub ticket_settled : (settled ticket : ℕ) (output : Output) (later : List Waiting) → is_some (settled_head settled (record { ticket = ticket; output = output } ∷ later)) ≡ true → ticket ≤ settled
ticket_settled settled ticket output later some = leb-true ticket settled (taken (nat_le ticket settled) some)
  where
    taken : (b : Bool) → is_some (if b then Some output else None) ≡ true → b ≡ true
    taken true is = refl
    taken false is = absurd (true≢false (sym is))

-- ---- the front

-- one output more was moved
pub moved_one : (settled left room : ℕ) (queue later : List Waiting) (before after : List Output) (output : Output) → room ≡ suc left → Some output ≡ settled_head settled queue
    → later ≡ drop 1 queue → after ≡ before ++ output ∷ []
    → (after ++ take left (settled_front settled later) ≡ before ++ take room (settled_front settled queue))
    × (drop (length (take left (settled_front settled later))) later ≡ drop (length (take room (settled_front settled queue))) queue)
moved_one settled left room [] later before after output more is gone pushed = absurd cc
moved_one settled left room (first ∷ rest) later before after output more is gone pushed = by_test (nat_le first.ticket settled) is
  where
    front : Bool → List Output
    front b = if b then first.output ∷ settled_front settled rest else []

    by_test : (b : Bool) → Some output ≡ (if b then Some first.output else None)
        → (after ++ take left (settled_front settled later) ≡ before ++ take room (front b))
        × (drop (length (take left (settled_front settled later))) later ≡ drop (length (take room (front b))) (first ∷ rest))
    by_test false is = absurd cc
    by_test true is =
        let same : output ≡ first.output = same_Some output first.output is in
        let whole : take room (first.output ∷ settled_front settled rest) ≡ first.output ∷ take left (settled_front settled rest) =
        ap (λ n. take n (first.output ∷ settled_front settled rest)) more in (
          ap (λ l. l ++ take left (settled_front settled later)) pushed ∙ append_assoc before (output ∷ []) (take left (settled_front settled later))
              ∙ ap (λ l. before ++ l) ((λ i. same i ∷ take left (settled_front settled (gone i))) ∙ sym whole),
          (λ i. drop (length (take left (settled_front settled (gone i)))) (gone i)) ∙ ap (λ l. drop (length l) (first ∷ rest)) (sym whole),
        )

-- where the first one isn't settled, none are
pub none_at_front : (settled : ℕ) (queue : List Waiting) → None ≡ settled_head settled queue → settled_front settled queue ≡ []
none_at_front settled [] none = refl
none_at_front settled (first ∷ rest) none = by_test (nat_le first.ticket settled) none
  where
    by_test : (b : Bool) → None ≡ (if b then Some first.output else None) → (if b then first.output ∷ settled_front settled rest else []) ≡ []
    by_test false none = refl
    by_test true none = absurd cc

-- where fewer were moved than there was room for, no other is settled
pub all_moved : (settled room : ℕ) (queue : List Waiting) → length (take room (settled_front settled queue)) < room
    → settled_head settled (drop (length (take room (settled_front settled queue))) queue) ≡ None
all_moved settled zero queue few = absurd (omega (arith, few))
all_moved settled (suc room) [] few = refl
all_moved settled (suc room) (first ∷ rest) few = by_test (all_moved settled room rest) (nat_le first.ticket settled) refl few
  where
    front : Bool → List Output
    front b = if b then first.output ∷ settled_front settled rest else []

    by_test : (length (take room (settled_front settled rest)) < room → settled_head settled (drop (length (take room (settled_front settled rest))) rest) ≡ None)
        → (b : Bool) → nat_le first.ticket settled ≡ b → length (take (suc room) (front b)) < suc room → settled_head settled (drop (length (take (suc room) (front b))) (first ∷ rest)) ≡ None
    by_test others true le few = others (omega (arith, few))
    by_test others false not few = ap (λ b. if b then Some first.output else None) not

-- what holds of those that wait with a settled ticket holds of each
pub each_at_front : (P : Waiting → Type 0) (Q : Output → Type 0) (settled : ℕ) → ((one : Waiting) → P one → one.ticket ≤ settled → Q one.output) → (queue : List Waiting)
    → All P queue → All Q (settled_front settled queue)
each_at_front P Q settled holds [] each = All-nil Q
each_at_front P Q settled holds (first ∷ rest) each =
    by_test (holds first (All-head P first rest each)) (each_at_front P Q settled holds rest (All-tail P first rest each)) (nat_le first.ticket settled) refl
  where
    by_test : (first.ticket ≤ settled → Q first.output) → All Q (settled_front settled rest) → (b : Bool) → nat_le first.ticket settled ≡ b
        → All Q (if b then first.output ∷ settled_front settled rest else [])
    by_test here others true le = All-cons Q first.output (settled_front settled rest) (here (leb-true first.ticket settled le)) others
    by_test here others false not = All-nil Q
