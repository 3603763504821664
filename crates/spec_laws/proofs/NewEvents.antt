-- What holds where an event is new.
use Rattle.std.proofs.Common.{◌≡◌, true, false, Option, Some, None, inl, inr, arith, refl, ap, sym, ◌∙◌}
use Rattle.std.specs.Prelude.{option_map, option_and_then}
use Rattle.std.proofs.lemmas.Bool.{cases_Bool, eqb-true}
use Rattle.std.proofs.lemmas.Grind.{common_steps}
use Rattle.wire.specs.declared.header.Certificate.{Certificate}
use Rattle.wire.specs.declared.header.Header.{Header}
use Rattle.wire.specs.declared.header.Vote.{Vote}
use Rattle.spec_laws.proofs.Lists.{given_or_none}
use Rattle.spec_model.specs.Admitting.{is_new, is_own, header_answer, vote_answer, certificate_answer}
use Rattle.spec_model.specs.Histories.{History}
use Rattle.spec_model.specs.Holdings.{voted_header, counted_vote, slots}
use Rattle.spec_model.specs.Nodes.{Node}
use Rattle.spec_model.specs.Slots.{same_digest, header_digest}
use Rattle.spec_model.specs.States.{State, whole}

-- a header is new where its author and round have no vote
new_own_header : (node : Node) (now : State) (header : Header) → is_own node header.body.author ≡ true → is_new (header_answer node now header) ≡ true → now.own_headers header.body.round ≡ None
new_own_header node now header own h = grind (arith, h, own, common_steps)

new_foreign_header : (node : Node) (now : State) (header : Header) → is_own node header.body.author ≡ false → is_new (header_answer node now header) ≡ true
    → now.votes header.body.round header.body.author.0 ≡ None
new_foreign_header node now header foreign h = grind (arith, h, foreign, common_steps)

unmapped : {X Y : Type 0} (f : X → Y) (o : Option X) → option_map f o ≡ None → o ≡ None
unmapped f (Some x) none = absurd cc
unmapped f None none = refl

pub new_header-unvoted : (node : Node) (history : History) (header : Header) → is_new (header_answer node (whole node history) header) ≡ true
    → voted_header history header.body.round header.body.author.0 ≡ None
new_header-unvoted node history header h =
    elim (cases_Bool (is_own node header.body.author)) [
      | inl own ↦ ap (voted_header history header.body.round) (eqb-true header.body.author.0 node.own.0 own) ∙ new_own_header node (whole node history) header own h
      | inr foreign ↦ unmapped (λ (held : Header). header_digest held.body) (voted_header history header.body.round header.body.author.0)
          (new_foreign_header node (whole node history) header foreign h)
    ]

-- a certificate where its slot is free
pub new_certificate-free : (node : Node) (now later : State) (certificate : Certificate) → is_new (certificate_answer node now later certificate) ≡ true
    → now.slots certificate.header.round certificate.header.author.0 ≡ None
new_certificate-free node now later certificate h = grind (arith, h, common_steps)

-- a vote on the own header of its round, where the slot of that is free
pub record IsNewVote (node : Node) (history : History) (vote : Vote) : Type 0 where
  pub own : is_own node vote.author ≡ true
  pub header : Header
  pub held : voted_header history vote.round node.own.0 ≡ Some header
  pub same : same_digest (header_digest header.body) vote.header ≡ true
  pub free : slots node history vote.round node.own.0 ≡ None
  pub uncounted : counted_vote node history header.body vote.voter.0 ≡ None

new_vote-own : (node : Node) (now later : State) (vote : Vote) → is_new (vote_answer node now later vote) ≡ true → is_own node vote.author ≡ true
new_vote-own node now later vote h = grind (arith, h, common_steps)

new_vote-headed : (node : Node) (now later : State) (vote : Vote) → now.own_headers vote.round ≡ None → is_new (vote_answer node now later vote) ≡ true → ⊥
new_vote-headed node now later vote none h = grind (arith, h, none, common_steps)

new_vote-same : (node : Node) (now later : State) (vote : Vote) (header : Header) → now.own_headers vote.round ≡ Some header
    → is_new (vote_answer node now later vote) ≡ true → same_digest (header_digest header.body) vote.header ≡ true
new_vote-same node now later vote header is h = grind (arith, h, is, common_steps)

new_vote-free : (node : Node) (now later : State) (vote : Vote) (header : Header) → now.own_headers vote.round ≡ Some header
    → is_new (vote_answer node now later vote) ≡ true → now.slots vote.round node.own.0 ≡ None
new_vote-free node now later vote header is h = grind (arith, h, is, common_steps)

new_vote-uncounted : (node : Node) (now later : State) (vote : Vote) (header : Header) → now.own_headers vote.round ≡ Some header
    → is_new (vote_answer node now later vote) ≡ true → now.counted vote.round vote.voter.0 ≡ None
new_vote-uncounted node now later vote header is h = grind (arith, h, is, common_steps)

pub new_vote : (node : Node) (history : History) (later : State) (vote : Vote) → is_new (vote_answer node (whole node history) later vote) ≡ true → IsNewVote node history vote
new_vote node history later vote h =
    let now = whole node history in
    elim (given_or_none (voted_header history vote.round node.own.0)) [
      | inl found ↦ record {
        own = new_vote-own node now later vote h;
        header = found.0;
        held = found.1;
        same = new_vote-same node now later vote found.0 found.1 h;
        free = new_vote-free node now later vote found.0 found.1 h;
        uncounted = sym (ap (option_and_then (λ (header : Header). counted_vote node history header.body vote.voter.0)) found.1) ∙ new_vote-uncounted node now later vote found.0 found.1 h;
      }
      | inr none ↦ absurd (new_vote-headed node now later vote none h)
    ]
