-- What holds at a state of an own header and of a vote that are new there.
use Rattle.std.proofs.Common.{◌≡◌, ◌<◌, Bool, true, false, List, [], ◌∷◌, Some, None, inl, inr, arith}
use Rattle.std.specs.Prelude.{◌==◌, is_some}
use Rattle.std.proofs.lemmas.Bool.{cases_Bool, ltb-true}
use Rattle.std.proofs.lemmas.Grind.{common_steps}
use Rattle.wire.specs.declared.message.Message.TheVariants as message
use Rattle.header.specs.Checks.{Test, test, first_failing, vote_tests, vote_signed, accepts_all, is_member, is_signed}
use Rattle.header.specs.declared.error.CheckError.{CheckError}
use Rattle.header.specs.declared.error.CheckError.TheVariants.{UnknownAuthor, BadSender, BadSignature}
use Rattle.spec_laws.proofs.Lists.{given_or_none}
use Rattle.spec_model.specs.Admitting.{is_new, is_own, header_answer, vote_answer, IsTaken}
use Rattle.spec_model.specs.Nodes.{Node, size_of}
use Rattle.spec_model.specs.Slots.{same_digest, header_digest}
use Rattle.spec_model.specs.States.{State}
use Rattle.spec_model.specs.Words.{Author, Header, Vote}

-- ---- headers

-- the place of an own header is free
pub header_free : (node : Node) (now : State) (header : Header) → is_own node header.body.author ≡ true → is_new (header_answer node now header) ≡ true → now.own_headers header.body.round ≡ None
header_free node now header own h = grind (arith, h, own, common_steps)

-- ---- votes

-- it is on the own header of its round, whose slot is free, and the first of its voter
pub record IsNewVote (node : Node) (now : State) (vote : Vote) : Type 0 where
  pub own : is_own node vote.author ≡ true
  pub header : Header
  pub held : now.own_headers vote.round ≡ Some header
  pub same : same_digest (header_digest header.body) vote.header ≡ true
  pub free : now.slots vote.round node.own.0 ≡ None
  pub uncounted : is_some (now.counted vote.round vote.voter.0) ≡ false

vote_own : (node : Node) (now later : State) (vote : Vote) → is_new (vote_answer node now later vote) ≡ true → is_own node vote.author ≡ true
vote_own node now later vote h = grind (arith, h, common_steps)

vote_headed : (node : Node) (now later : State) (vote : Vote) → now.own_headers vote.round ≡ None → is_new (vote_answer node now later vote) ≡ true → ⊥
vote_headed node now later vote none h = grind (arith, h, none, common_steps)

vote_same : (node : Node) (now later : State) (vote : Vote) (header : Header) → now.own_headers vote.round ≡ Some header
    → is_new (vote_answer node now later vote) ≡ true → same_digest (header_digest header.body) vote.header ≡ true
vote_same node now later vote header is h = grind (arith, h, is, common_steps)

vote_free : (node : Node) (now later : State) (vote : Vote) (header : Header) → now.own_headers vote.round ≡ Some header
    → is_new (vote_answer node now later vote) ≡ true → now.slots vote.round node.own.0 ≡ None
vote_free node now later vote header is h = grind (arith, h, is, common_steps)

vote_uncounted : (node : Node) (now later : State) (vote : Vote) (header : Header) → now.own_headers vote.round ≡ Some header
    → is_new (vote_answer node now later vote) ≡ true → is_some (now.counted vote.round vote.voter.0) ≡ false
vote_uncounted node now later vote header is h = grind (arith, h, is, common_steps)

pub new_vote : (node : Node) (now later : State) (vote : Vote) → is_new (vote_answer node now later vote) ≡ true → IsNewVote node now vote
new_vote node now later vote h =
    elim (given_or_none (now.own_headers vote.round)) [
      | inl found ↦ record {
        own = vote_own node now later vote h;
        header = found.0;
        held = found.1;
        same = vote_same node now later vote found.0 found.1 h;
        free = vote_free node now later vote found.0 found.1 h;
        uncounted = vote_uncounted node now later vote found.0 found.1 h;
      }
      | inr none ↦ absurd (vote_headed node now later vote none h)
    ]

first_holds : (holds : Bool) (otherwise : CheckError) (rest : List Test) → first_failing (record { holds = holds; otherwise = otherwise } ∷ rest) ≡ None → (holds ≡ true) × (first_failing rest ≡ None)
first_holds holds otherwise rest none =
    elim (cases_Bool holds) [
      | inl is ↦ let later = rw is at none in (is, later)
      | inr not ↦ let bad = rw not at none in absurd cc
    ]

-- a voter is a member
pub voter_is_member : (node : Node) (sender : Author) (vote : Vote) → IsTaken node (record { sender = sender; message = message.Vote vote }) → vote.voter.0 < size_of node
voter_is_member node sender vote taken =
    let charter = node.charter in
    let member : Test = test (is_member charter vote.voter) UnknownAuthor in
    let sent : Test = test (vote.voter.0 == sender.0) BadSender in
    let signed : Test = test (is_signed charter accepts_all vote.voter (vote_signed vote.header.0 vote.round vote.author) vote.signature) BadSignature in
    let one = (first_holds (is_member charter sender) UnknownAuthor (vote_tests charter accepts_all sender vote) taken.passed).1 in
    let two = (first_holds (is_member charter vote.author) UnknownAuthor (member ∷ sent ∷ signed ∷ []) one).1 in
    ltb-true _ _ (first_holds member.holds UnknownAuthor (sent ∷ signed ∷ []) two).0
