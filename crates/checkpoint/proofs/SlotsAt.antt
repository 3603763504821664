-- What a slot holds at a floor: a certificate of the genesis, or one that is listed.
use Rattle.std.proofs.Common.{◌≡◌, ℕ, zero, suc, ◌+◌, ◌≤◌, true, false, inl, inr, List, map, None, refl, ap, arith}
use Rattle.std.specs.Prelude.{◌==◌, ◌&&◌, nat_lt, find}
use Rattle.std.specs.List.{range_with_len}
use Rattle.std.specs.Option.{option_map_or}
use Rattle.std.proofs.lemmas.Bool.{cases_Bool, ltb-true, ltb-false}
use Rattle.sequencer.specs.Restored.{Digested, listed}
use Rattle.spec_machine.proofs.FreshSound.{genesis_found}
use Rattle.spec_model.specs.Holdings.{genesis}
use Rattle.spec_model.specs.Nodes.{Node, size_of}
use Rattle.spec_model.specs.Slots.{same_digest, certificate_digest, is_of_slot}
use Rattle.spec_model.specs.Words.{Certificate, Digest, ParentReference}
use Rattle.wire.specs.Digests.{genesis_digest_of}
use Rattle.checkpoint.specs.Judging.{is_of_genesis, slots_at}

genesis_none : (from count author : ℕ) → from + count ≤ author → find (λ c. is_of_slot 0 author c.header) (map genesis (range_with_len from count)) ≡ None
genesis_none from zero author past = refl
genesis_none from (suc count) author past =
    let other : (from == author) ≡ false = grind (arith, past) in
    rw other (genesis_none (from + 1) count author (omega (arith, past)))

-- a parent is the genesis certificate of a member where it has its digest
pub of_member : (node : Node) (parent : ParentReference) (digest : Digest) → digest.0 ≡ genesis_digest_of parent.author.0 → nat_lt parent.author.0 (size_of node) ≡ true
    → same_digest digest parent.certificate ≡ is_of_genesis node parent
of_member node parent digest is member =
    let found = genesis_found 0 (size_of node) parent.author.0 (omega arith) (let below = ltb-true parent.author.0 (size_of node) member in omega (arith, below)) in
    rw found (ap (λ (d : List ℕ). let made : Digest = record { 0 = d } in same_digest made parent.certificate) is)

pub of_stranger : (node : Node) (parent : ParentReference) → nat_lt parent.author.0 (size_of node) ≡ false → is_of_genesis node parent ≡ false
of_stranger node parent stranger =
    let none = genesis_none 0 (size_of node) parent.author.0 (let past = ltb-false parent.author.0 (size_of node) stranger in omega (arith, past)) in
    rw none refl

-- in round 0 there is the genesis, where the floor is 0
pub in_first : (node : Node) (floor : ℕ) (held : List Digested) (round : ℕ) (parent : ParentReference) → round ≡ 0
    → ((floor == 0) && is_of_genesis node parent) ≡ option_map_or (λ (c : Certificate). same_digest (certificate_digest c.header) parent.certificate) (slots_at
    node floor held round parent.author.0) false
in_first node floor held round parent zeroth =
    elim (cases_Bool (floor == 0)) [
      | inl lowest ↦ rw (zeroth, lowest) refl
      | inr higher ↦ rw (zeroth, higher) refl
    ]

-- and above it what is listed
pub in_later : (node : Node) (floor : ℕ) (held : List Digested) (round author : ℕ) → (round == 0) ≡ false → slots_at node floor held round author ≡ listed held round author
in_later node floor held round author above = rw above refl
