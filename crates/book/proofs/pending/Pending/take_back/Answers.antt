use Rattle.std.proofs.Common.{◌≡◌, ◌≢◌, List, ℕ, ◌++◌, ◌∷◌, [], ap, sym, ◌∙◌, append-nil, subst}
use Rattle.std.proofs.lemmas.Bool.{true≢false}
use Rattle.book.specs.Pending.{ArePacked, all_records}
use Rattle.book.proofs.Packs.{packed_before, records_after, back_packed, ends_in_last}
use Rattle.book.proofs.pending.Pending.take_back.Goals as goal

pub take_back-requires : goal.take_back-requires
take_back-requires c =
    let known = c.requires in
    let ends = ends_in_last c.self.inside.drafts.items c.pop_back.new.self.items c.in-Some.last known.0 known.1 c.in-Some.ensures.items c.self.invariant (c.self.view_is ∙ known.2) in
    (ends.0, known.1, ends.1, known.3)

pub invariant_of-self : goal.invariant_of-self
invariant_of-self c =
    let known = c.requires in
    let front = c.pop_back.new.self.items in
    let ends = ends_in_last c.self.inside.drafts.items front c.in-Some.last known.0 known.1 c.in-Some.ensures.items c.self.invariant (c.self.view_is ∙ known.2) in
    let left : c.take_back.new.self ≡ ends.0 = c.take_back.ensures ends.0 known.1 ends.1 in
    let some : ends.0 ≢ [] = λ none. absurd (true≢false (sym (c.is_empty.ensures.1 (left ∙ none)) ∙ c.if-not-is_empty.true)) in
    subst ArePacked (sym (c.push_back_reserved.ensures.items ∙ ap (λ (l : List (List ℕ)). front ++ l ∷ []) left))
    (back_packed c.self.inside.drafts.items front c.in-Some.last ends.0 known.1 c.in-Some.ensures.items ends.1 some c.self.invariant)

pub invariant_of-self-else-not-is_empty : goal.invariant_of-self-else-not-is_empty
invariant_of-self-else-not-is_empty c =
    packed_before c.pop_back.new.self.items c.in-Some.last (subst ArePacked c.in-Some.ensures.items c.self.invariant)

pub returns-then-not-is_empty : goal.returns-then-not-is_empty
returns-then-not-is_empty c = λ others last parts.
    let front = c.pop_back.new.self.items in
    let ends = ends_in_last c.self.inside.drafts.items front c.in-Some.last others last c.in-Some.ensures.items c.self.invariant (c.self.view_is ∙ parts) in
    let left : c.take_back.new.self ≡ ends.0 = c.take_back.ensures ends.0 last ends.1 in
    ap all_records (c.push_back_reserved.ensures.items ∙ ap (λ (l : List (List ℕ)). front ++ l ∷ []) left) ∙ records_after front ends.0 ∙ sym ends.2

pub returns-else-not-is_empty : goal.returns-else-not-is_empty
returns-else-not-is_empty c = λ others last parts.
    let front = c.pop_back.new.self.items in
    let ends = ends_in_last c.self.inside.drafts.items front c.in-Some.last others last c.in-Some.ensures.items c.self.invariant (c.self.view_is ∙ parts) in
    let left : c.take_back.new.self ≡ ends.0 = c.take_back.ensures ends.0 last ends.1 in
    let none : ends.0 ≡ [] = sym left ∙ c.is_empty.ensures.0 c.if-not-is_empty.false in
    sym (append-nil (all_records front)) ∙ ap (λ (l : List (List ℕ)). all_records front ++ l) (sym none) ∙ sym ends.2
