use Rattle.std.proofs.Common.{◌≡◌, ◌++◌, [], ◌∷◌, Some, None, List, length, refl, sym, ap, ◌∙◌, arith, length-append}
use Rattle.std.specs.Str.{bytes_eq}
use Rattle.std.specs.Map.{values_of}
use Rattle.std.proofs.lemmas.List.{length-map}
use Rattle.std.proofs.lemmas.List.Elements.{recursion_from_All, All-push}
use Rattle.indexmap.specs.IndexMap.{get}
use Rattle.indexmap.proofs.CallerLemmas.{insert_entry-new}
use Rattle.wire.specs.Events.{Event}
use Rattle.wire.specs.declared.keys.Digest.{Digest}
use Rattle.header.specs.Digested.{certificate_digest_in}
use Rattle.waiter.specs.declared.waiter.TheConstants.{MAX_WAITING}
use Rattle.waiter.specs.Keyed.{IsUnderItsDigest}
use Rattle.waiter.specs.Waiting.{Waits}
use Rattle.waiter.proofs.Keeping.{found, absent, no_other_waits, one_more, none_from}
use Rattle.waiter.proofs.waiter.Waiter.offer.Goals as goal

pub returns-in_default-clause-again : goal.returns-in_default-clause-again
returns-in_default-clause-again c = λ waits.
    let none : certificate_digest_in c.args.checked.message ≡ None = cc in
    let entries = c.self.inside.waiting.entries in
    absurd (no_other_waits c.args.checked none entries (recursion_from_All IsUnderItsDigest entries c.self.invariant.0) (rw (← c.self.view_is) at waits))

pub returns-then-contains_key-clause-full : goal.returns-then-contains_key-clause-full
returns-then-contains_key-clause-full c =
    let entries = c.self.inside.waiting.entries in
    let is : certificate_digest_in c.args.checked.message ≡ Some c.in-Some.digest = cc in
    let waits : Waits c.args.self.now c.args.checked = rw (← c.self.view_is)
    (found c.in-Some.digest c.args.checked is entries (recursion_from_All IsUnderItsDigest entries c.self.invariant.0)
    (sym c.contains_key.ensures ∙ c.if-contains_key.true)) in
    (λ e. absurd cc, λ h. absurd (h.1 waits))

pub returns-then-contains_key-clause-added : goal.returns-then-contains_key-clause-added
returns-then-contains_key-clause-added c =
    let entries = c.self.inside.waiting.entries in
    let is : certificate_digest_in c.args.checked.message ≡ Some c.in-Some.digest = cc in
    let waits : Waits c.args.self.now c.args.checked = rw (← c.self.view_is)
    (found c.in-Some.digest c.args.checked is entries (recursion_from_All IsUnderItsDigest entries c.self.invariant.0)
    (sym c.contains_key.ensures ∙ c.if-contains_key.true)) in
    λ h. absurd (h waits)

pub returns-then-count-ge-MAX_WAITING-clause-full : goal.returns-then-count-ge-MAX_WAITING-clause-full
returns-then-count-ge-MAX_WAITING-clause-full c =
    let entries = c.self.inside.waiting.entries in
    let is : certificate_digest_in c.args.checked.message ≡ Some c.in-Some.digest = cc in
    let not_there = absent c.in-Some.digest c.args.checked is entries (recursion_from_All IsUnderItsDigest entries c.self.invariant.0) (sym c.contains_key.ensures ∙ c.if-contains_key.false) in
    let all : length (values_of entries) ≡ MAX_WAITING = omega (arith, length-map entries (λ (e : Digest × Event). e.1), c.len-count.ensures.len, c.self.invariant.1) in
    (λ e. (λ none. cc, λ waits. not_there (rw (← c.self.view_is) at waits), rw (← c.self.view_is) all), λ h. refl)

pub returns-then-count-ge-MAX_WAITING-clause-again : goal.returns-then-count-ge-MAX_WAITING-clause-again
returns-then-count-ge-MAX_WAITING-clause-again c = λ waits.
    let entries = c.self.inside.waiting.entries in
    let is : certificate_digest_in c.args.checked.message ≡ Some c.in-Some.digest = cc in
    absurd (absent c.in-Some.digest c.args.checked is entries (recursion_from_All IsUnderItsDigest entries c.self.invariant.0)
    (sym c.contains_key.ensures ∙ c.if-contains_key.false) (rw (← c.self.view_is) at waits))

pub returns-in_err-insert-clause-again : goal.returns-in_err-insert-clause-again
returns-in_err-insert-clause-again c = λ waits.
    let entries = c.self.inside.waiting.entries in
    let is : certificate_digest_in c.args.checked.message ≡ Some c.in-Some.digest = cc in
    absurd (absent c.in-Some.digest c.args.checked is entries (recursion_from_All IsUnderItsDigest entries c.self.invariant.0)
    (sym c.contains_key.ensures ∙ c.if-contains_key.false) (rw (← c.self.view_is) at waits))

pub invariant_of-self-2 : goal.invariant_of-self-2
invariant_of-self-2 c =
    let entries = c.self.inside.waiting.entries in
    let one : Digest × Event = (c.in-Some.digest, c.args.checked) in
    let is : certificate_digest_in c.args.checked.message ≡ Some c.in-Some.digest = cc in
    let none : get (λ (x y : Digest). bytes_eq x.0 y.0) c.self.inside.waiting c.in-Some.digest ≡ None = none_from _ (sym c.contains_key.ensures ∙ c.if-contains_key.false) in
    let grown : c.insert.new.self.entries ≡ entries ++ (c.in-Some.digest, c.args.checked) ∷ [] = c.in_ok-insert.ensures.entries
    ∙ insert_entry-new (λ (x y : Digest). bytes_eq x.0 y.0) c.self.inside.waiting c.in-Some.digest c.args.checked none in
    rw grown (
      All-push IsUnderItsDigest entries (c.in-Some.digest, c.args.checked) c.self.invariant.0 is,
      omega (arith, length-append entries ((c.in-Some.digest, c.args.checked) ∷ []), c.len-count.ensures.len),
    )

pub returns-clause-same : goal.returns-clause-same
returns-clause-same c = λ waits.
    let entries = c.self.inside.waiting.entries in
    let is : certificate_digest_in c.args.checked.message ≡ Some c.in-Some.digest = cc in
    absurd (absent c.in-Some.digest c.args.checked is entries (recursion_from_All IsUnderItsDigest entries c.self.invariant.0)
    (sym c.contains_key.ensures ∙ c.if-contains_key.false) (rw (← c.self.view_is) at waits))

pub returns-clause-added : goal.returns-clause-added
returns-clause-added c = λ h.
    let none : get (λ (x y : Digest). bytes_eq x.0 y.0) c.self.inside.waiting c.in-Some.digest ≡ None = none_from _ (sym c.contains_key.ensures ∙ c.if-contains_key.false) in
    let grown : c.insert.new.self.entries ≡ c.self.inside.waiting.entries ++ (c.in-Some.digest, c.args.checked) ∷ [] = c.in_ok-insert.ensures.entries
    ∙ insert_entry-new (λ (x y : Digest). bytes_eq x.0 y.0) c.self.inside.waiting c.in-Some.digest c.args.checked none in
    ap (λ (es : List (Digest × Event)). values_of es) grown ∙ one_more c.self.inside.waiting.entries c.in-Some.digest c.args.checked ∙ ap (λ (l : List Event). l ++ c.args.checked ∷ []) c.self.view_is
