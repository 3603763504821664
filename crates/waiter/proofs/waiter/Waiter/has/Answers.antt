use Rattle.std.proofs.Common.{◌≡◌, Some, None, sym, ◌∙◌, inl, inr}
use Rattle.std.proofs.lemmas.Bool.{cases_Bool}
use Rattle.std.proofs.lemmas.List.Elements.{recursion_from_All}
use Rattle.header.specs.Digested.{certificate_digest_in}
use Rattle.waiter.specs.Keyed.{IsUnderItsDigest}
use Rattle.waiter.proofs.Keeping.{found, absent, no_other_waits}
use Rattle.waiter.proofs.waiter.Waiter.has.Goals as goal

pub returns-in-Some : goal.returns-in-Some
returns-in-Some c =
    let entries = c.self.inside.waiting.entries in
    let keyed = recursion_from_All IsUnderItsDigest entries c.self.invariant.0 in
    let is : certificate_digest_in c.args.checked.now.message ≡ Some c.in-Some.digest.now = cc in
    record {
      certificate = λ yes none. cc;
      waits = (
        λ yes. rw (← c.self.view_is) (found c.in-Some.digest.now c.args.checked.now is entries keyed (sym c.contains_key.ensures ∙ yes)),
        λ waits. elim (cases_Bool c.contains_key.result) [
          | inl is_there ↦ is_there
          | inr isnt ↦ absurd (absent c.in-Some.digest.now c.args.checked.now is entries keyed (sym c.contains_key.ensures ∙ isnt) (rw (← c.self.view_is) at waits))
        ],
      );
    }

pub returns-in-None : goal.returns-in-None
returns-in-None c =
    let entries = c.self.inside.waiting.entries in
    let none : certificate_digest_in c.args.checked.now.message ≡ None = cc in
    record {
      certificate = λ never. absurd cc;
      waits = (
        λ never. absurd cc,
        λ waits. absurd (no_other_waits c.args.checked.now none entries (recursion_from_All IsUnderItsDigest entries c.self.invariant.0) (rw (← c.self.view_is) at waits)),
      );
    }
