-- The certificate of an own header that a quorum voted for passes the checks.
use Rattle.std.proofs.Common.{◌≡◌, ℕ, zero, suc, ◌+◌, ◌<◌, ◌≤◌, Bool, true, List, [], ◌∷◌, length, Option, Some, None, inl, inr, refl, ap, sym, ◌∙◌, subst, arith}
use Rattle.std.specs.Prelude.{◌==◌, ◌&&◌, nat_le, nat_lt, All, filter_map, sum_by, is_some, option_map}
use Rattle.std.specs.List.{list_all, range_with_len}
use Rattle.std.proofs.lemmas.Bool.{cases_Bool, and_parts, and_from, lt-ltb, le-leb, leb-true}
use Rattle.std.proofs.lemmas.Option.{same_Some, none-some, slice_get-get_or}
use Rattle.std.proofs.lemmas.List.Elements.{All-nil, All-cons, All-head, All-tail, All-weaker}
use Rattle.committee.specs.Charter.{stake_of, weight, quorum_of}
use Rattle.committee.proofs.Weights.{weight-same}
use Rattle.header.specs.Checks.{accepts_all, is_member, is_signed, named_weight, vote_signed}
use Rattle.wire.specs.Fields.{IsSignature}
use Rattle.wire.specs.References.{AreVotes, votes_rise}
use Rattle.wire.specs.Digests.{header_digest_of}
use Rattle.wire.specs.declared.message.Message.TheVariants as message
use Rattle.spec_model.specs.Admitting.{IsTaken}
use Rattle.spec_model.specs.Holdings.{entry_of, votes_by, certificate_by}
use Rattle.spec_model.specs.Nodes.{Node, IsNode, size_of, quorum}
use Rattle.spec_model.specs.Words.{Author, Certificate, Digest, Header, HeaderBody, Vote, VoteEntry}
use Rattle.spec_laws.proofs.Lists.{given_or_none}
use Rattle.spec_laws.proofs.Weighing.{made_weigh}
use Rattle.spec_machine.proofs.Passing.{header_passes}

-- ---- the votes

-- each vote is its voter's, with a signature
abbrev pub AreOfVoters : (ℕ → Option Vote) → Type 0
AreOfVoters counted = (voter : ℕ) (vote : Vote) → counted voter ≡ Some vote → (vote.voter.0 ≡ voter) × IsSignature vote.signature

abbrev entry_by : (ℕ → Option Vote) → ℕ → Option VoteEntry
entry_by counted voter = option_map entry_of (counted voter)

-- votes by voters from one number up to another, each voter once
record AreFrom (from end : ℕ) (votes : List VoteEntry) : Type 0 where
  each : All (λ v. (from ≤ v.voter.0) × (v.voter.0 < end)) votes
  signatures : All (λ v. IsSignature v.signature) votes
  rise : votes_rise votes ≡ true
  few : from + length votes ≤ end

rises_first : (from end : ℕ) (v : VoteEntry) (votes : List VoteEntry) → v.voter.0 ≡ from → AreFrom (from + 1) end votes → votes_rise (v ∷ votes) ≡ true
rises_first from end v [] is rest = refl
rises_first from end v (w ∷ votes) is rest =
    let above = (rest.each 0 w (omega arith)).0 in
    and_from (nat_lt v.voter.0 w.voter.0) (votes_rise (w ∷ votes)) (lt-ltb _ _ (omega (arith, above, is))) rest.rise

wider : (from end : ℕ) (votes : List VoteEntry) → AreFrom (from + 1) end votes → AreFrom from end votes
wider from end votes rest =
    record {
      each = All-weaker (λ v. (from + 1 ≤ v.voter.0) × (v.voter.0 < end)) (λ v. (from ≤ v.voter.0) × (v.voter.0 < end)) (λ v x. (omega (arith, x.0), x.1)) votes rest.each;
      signatures = rest.signatures;
      rise = rest.rise;
      few = omega (arith, rest.few);
    }

one_more : (from end : ℕ) (v : VoteEntry) (votes : List VoteEntry) → v.voter.0 ≡ from → from < end → IsSignature v.signature → AreFrom (from + 1) end votes → AreFrom from end (v ∷ votes)
one_more from end v votes is less signature rest =
    record {
      each = All-cons (λ w. (from ≤ w.voter.0) × (w.voter.0 < end)) v votes (omega (arith, is), omega (arith, is, less)) (wider from end votes rest).each;
      signatures = All-cons (λ w. IsSignature w.signature) v votes signature rest.signatures;
      rise = rises_first from end v votes is rest;
      few = omega (arith, rest.few);
    }

made_from : (counted : ℕ → Option Vote) → AreOfVoters counted → (from count : ℕ) → AreFrom from (from + count) (filter_map (entry_by counted) (range_with_len from count))
made_from counted of from zero =
    record { each = All-nil (λ v. (from ≤ v.voter.0) × (v.voter.0 < from + zero)); signatures = All-nil (λ v. IsSignature v.signature); rise = refl; few = omega arith }
made_from counted of from (suc count) =
    let ends : from + 1 + count ≡ from + suc count = omega arith in
    let votes = filter_map (entry_by counted) (range_with_len (from + 1) count) in
    let rest = subst (λ e. AreFrom (from + 1) e votes) ends (made_from counted of (from + 1) count) in
    elim (given_or_none (counted from)) [
      | inl found ↦
          let is = of from found.0 found.1 in
          rw found.1 (one_more from (from + suc count) (entry_of found.0) votes is.0 (omega arith) is.1 rest)
      | inr none ↦ rw none (wider from (from + suc count) votes rest)
    ]

-- ---- what they weigh

all_test : {X : Type 0} (P : X → Type 0) (test : X → Bool) (xs : List X) → All P xs → ((x : X) → P x → test x ≡ true) → list_all test xs ≡ true
all_test P test [] all each = refl
all_test P test (x ∷ xs) all each = and_from _ _ (each x (All-head P x xs all)) (all_test P test xs (All-tail P x xs all) each)

is_mapped : {X Y : Type 0} (f : X → Y) (o : Option X) → is_some (option_map f o) ≡ is_some o
is_mapped f (Some x) = refl
is_mapped f None = refl

entry_voter : (voter : ℕ) (o : Option Vote) (entry : VoteEntry) → ((vote : Vote) → o ≡ Some vote → vote.voter.0 ≡ voter) → option_map entry_of o ≡ Some entry → entry.voter.0 ≡ voter
entry_voter voter (Some vote) entry of is = ap (λ (e : VoteEntry). e.voter.0) (sym (same_Some (entry_of vote) entry is)) ∙ of vote refl
entry_voter voter None entry of is = absurd (none-some entry is)

votes_weigh : (node : Node) → IsNode node → (counted : ℕ → Option Vote) → AreOfVoters counted
    → sum_by (λ v. named_weight node.charter v.voter) (votes_by node counted) ≡ weight node.charter (λ voter. is_some (counted voter))
votes_weigh node sound counted of =
    let charter = node.charter in
    made_weigh charter (entry_by counted) (λ v. named_weight charter v.voter)
    (λ m entry held within.
    let by = entry_voter m (counted m) entry (λ vote is. (of m vote is).0) held in
    let there : entry.voter.0 < length charter.stakes = omega (arith, by, within, sound.charter.staked) in
    let is = slice_get-get_or charter.stakes entry.voter.0 0 there in
    let here : named_weight charter entry.voter ≡ stake_of charter entry.voter.0 = rw is refl in
    here ∙ ap (stake_of charter) by)
    0 (size_of node) (omega arith)
    ∙ weight-same charter (λ m. is_some (entry_by counted m)) (λ m. is_some (counted m)) (λ m within. is_mapped entry_of (counted m))

-- ---- the certificate

-- the certificate of a header with these votes
abbrev pub certificate_with : Node → (ℕ → Option Vote) → HeaderBody → Certificate
certificate_with node counted body = record { header = body; votes = votes_by node counted }

are_votes : (node : Node) → IsNode node → (counted : ℕ → Option Vote) → AreFrom 0 (size_of node) (votes_by node counted) → AreVotes (votes_by node counted)
are_votes node sound counted from =
    let most = sound.charter.size.1 in
    record {
      few = omega (arith, from.few, most);
      each = λ i v within.
          let bound = (from.each i v within).1 in
          record { voter = omega (arith, bound, most); signature = from.signatures i v within };
      rise = from.rise;
    }

signed : (node : Node) (digest : Digest) (v : VoteEntry) → v.voter.0 < size_of node → is_signed node.charter accepts_all v.voter digest v.signature ≡ true
signed node digest v member = let is = slice_get-get_or node.charter.keys v.voter.0 node.key member in rw is refl

pub own_passes : (node : Node) (sender : Author) (header : Header) (counted : ℕ → Option Vote) → IsNode node
    → IsTaken node (record { sender = sender; message = message.Header header }) → AreOfVoters counted
    → quorum node ≤ weight node.charter (λ voter. is_some (counted voter)) → IsTaken node (record { sender = node.own; message = message.Certificate (certificate_with node counted header.body) })
own_passes node sender header counted sound taken of enough =
    let charter = node.charter in
    let votes = votes_by node counted in
    let ends : 0 + size_of node ≡ size_of node = omega arith in
    let from = subst (λ e. AreFrom 0 e votes) ends (made_from counted of 0 (size_of node)) in
    let body = (header_passes node sender header taken).1 in
    let by : is_member charter node.own ≡ true = lt-ltb _ _ sound.member in
    let weighs = votes_weigh node sound counted of in
    let quorum' : nat_le (quorum_of charter) (sum_by (λ v. named_weight charter v.voter) votes) ≡ true = le-leb _ _ (omega (arith, enough, weighs)) in
    let digest = vote_signed (header_digest_of header.body) header.body.round header.body.author in
    let members : list_all (λ v. is_member charter v.voter) votes ≡ true =
    all_test (λ v. (0 ≤ v.voter.0) × (v.voter.0 < size_of node)) (λ v. is_member charter v.voter) votes from.each (λ v is. lt-ltb _ _ is.1) in
    let signatures : list_all (λ v. is_signed charter accepts_all v.voter digest v.signature) votes ≡ true =
    all_test (λ v. (0 ≤ v.voter.0) × (v.voter.0 < size_of node)) (λ v. is_signed charter accepts_all v.voter digest v.signature) votes from.each (λ v is. signed node digest v is.1) in
    let one = body.member in
    let two = body.quorum in
    let three = body.few in
    let four = body.members in
    let five = body.workers in
    record {
      message = record { header = taken.message.body; votes = are_votes node sound counted from };
      passed = rw (by, one, two, three, four, five, quorum', members, signatures) refl;
    }

-- a certificate that is made of an own header and votes is such a one, and the voters are a quorum
pub record IsMade (node : Node) (counted : ℕ → Option Vote) (header : Header) (certificate : Certificate) : Type 0 where
  pub is : certificate_with node counted header.body ≡ certificate
  pub enough : quorum node ≤ weight node.charter (λ voter. is_some (counted voter))

pub made : (node : Node) (counted : ℕ → Option Vote) (header : Header) (certificate : Certificate) → certificate_by node counted header ≡ Some certificate → IsMade node counted header certificate
made node counted header certificate by =
    elim (cases_Bool ((header.body.author.0 == node.own.0) && nat_le (quorum node) (weight node.charter (λ voter. is_some (counted voter))))) [
      | inl passes ↦
          let is = rw passes at by in
          record {
            is = same_Some _ _ is;
            enough =
                leb-true _ _ (and_parts (header.body.author.0 == node.own.0)
                (nat_le (quorum node) (weight node.charter (λ voter. is_some (counted voter)))) passes).1;
          }
      | inr fails ↦ let nothing = rw fails at by in absurd (none-some certificate nothing)
    ]
