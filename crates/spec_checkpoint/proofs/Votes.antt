-- The votes and the own headers of a checkpoint without a fault are as they have to be.
use Rattle.std.proofs.Common.{◌≡◌, ◌≢◌, ◌⊎◌, ℕ, ◌<◌, ◌≤◌, Bool, true, false, inl, inr, refl, sym, ap, ◌∙◌, subst, arith}
use Rattle.std.proofs.Math.Path.{fun_ext}
use Rattle.std.specs.Prelude.{◌==◌, ◌&&◌, ◌||◌, not, nat_lt, find, All, Contains, Option, Some, None, is_some, option_map, option_and_then}
use Rattle.std.specs.List.{list_all}
use Rattle.std.specs.Option.{option_map_or}
use Rattle.std.proofs.lemmas.Bool.{cases_Bool, and_parts, and_from, ltb-true, eqb-true, eq-eqb, ne_eqb}
use Rattle.std.proofs.lemmas.List.Elements.{All-contains}
use Rattle.std.proofs.lemmas.Option.{none-some, same_Some}
use Rattle.std.proofs.lemmas.Slice.Eq.{bytes_eq-Decides}
use Rattle.committee.specs.Charter.{weight}
use Rattle.header.specs.Checks.{accepts_all, is_member, fault_of}
use Rattle.spec_laws.proofs.Lists.{found_passes}
use Rattle.spec_laws.proofs.Meeting.{any_to}
use Rattle.spec_laws.proofs.Votes.{of_its_slot}
use Rattle.spec_machine.specs.Sound.{IsOwnHeader, IsCounted, counts, IsCompleted, AreVotes}
use Rattle.spec_model.specs.Admitting.{IsTaken}
use Rattle.spec_model.specs.Holdings.{is_low, all_held, own_vote}
use Rattle.spec_model.specs.Nodes.{Node, IsNode, size_of, quorum}
use Rattle.spec_model.specs.Slots.{same_digest, header_digest, certificate_digest, is_of_slot}
use Rattle.spec_model.specs.States.{floor_in}
use Rattle.spec_model.specs.Words.{Author, Certificate, Digest, Header, Vote, VoteEntry}
use Rattle.wire.proofs.DigestLemmas.{are_digest_bytes}
use Rattle.wire.specs.Fields.{IsDigest, IsRound}
use Rattle.wire.specs.References.{IsVoteEntry}
use Rattle.wire.specs.Encoding.{header_body}
use Rattle.wire.specs.declared.message.Message.TheVariants as message
use Rattle.wire_read.proofs.Messages.{one_body}
use Rattle.spec_checkpoint.specs.Data.{KeptVote, KeptHeader, Checkpoint, IsKeptVote, IsKeptHeader, IsKeptCertificate}
use Rattle.spec_checkpoint.specs.Faults.{passes, is_vote_sound, is_header_sound, is_completed_well, has_kept, same_body}
use Rattle.spec_checkpoint.specs.Meaning.{kept_header, vote_of, kept_vote, listed_floor, state_in}
use Rattle.spec_checkpoint.proofs.Certificates.{IsHeld, first, kept, held_as, found_some}
use Rattle.spec_checkpoint.proofs.Floors.{same_floor}
use Rattle.spec_checkpoint.proofs.Tests.{each_passes, not_true, passes_none}

pub same_itself : (digest : Digest) → same_digest digest digest ≡ true
same_itself digest = (bytes_eq-Decides digest.0 digest.0).1 refl

-- a header that passes is of its sender
of_sender : (node : Node) (sender : Author) (header : Header) → fault_of node.charter accepts_all (record { sender = sender; message = message.Header header }) ≡ None → header.body.author.0 ≡ sender.0
of_sender node sender header none =
    elim (cases_Bool (is_member node.charter sender)) [
      | inr foreign ↦ let bad = rw foreign at none in absurd cc
      | inl by ↦ elim (cases_Bool (is_member node.charter header.body.author)) [
        | inr foreign ↦ let bad = rw (by, foreign) at none in absurd cc
        | inl member ↦ elim (cases_Bool (header.body.author.0 == sender.0)) [
          | inr other ↦ let bad = rw (by, member, other) at none in absurd cc
          | inl same ↦ eqb-true header.body.author.0 sender.0 same
        ]
      ]
    ]

module _ (node : Node) (checkpoint : Checkpoint) (sound : IsNode node) (are_votes : All IsKeptVote checkpoint.votes) (are_headers : All (IsKeptHeader node) checkpoint.headers)
    (are_certificates : All IsKeptCertificate checkpoint.certificates) (votes_tests : list_all (is_vote_sound node checkpoint) checkpoint.votes ≡ true)
    (headers_tests : list_all (is_header_sound node checkpoint) checkpoint.headers ≡ true) where
  -- ---- votes

  -- what the test of a vote says
  record IsSoundVote (vote : KeptVote) : Type 0 where
    pub high : is_low (listed_floor node checkpoint) vote.round ≡ false
    pub member : vote.author < size_of node
    pub canonical : IsKeptVote vote

  sound_vote : (vote : KeptVote) → Contains checkpoint.votes vote → IsSoundVote vote
  sound_vote vote inside =
      let all = each_passes (is_vote_sound node checkpoint) checkpoint.votes vote votes_tests inside in
      let one = and_parts (not (is_low (listed_floor node checkpoint) vote.round)) _ all in
      let two = and_parts (nat_lt vote.author (size_of node)) _ one.1 in
      record { high = not_true _ one.0; member = ltb-true vote.author (size_of node) two.0; canonical = All-contains IsKeptVote checkpoint.votes vote are_votes inside }

  -- ---- own headers

  -- what the test of an own header says
  record IsSoundHeader (one : KeptHeader) : Type 0 where
    pub high : is_low (listed_floor node checkpoint) one.header.body.round ≡ false
    pub passed : IsTaken node (record { sender = node.own; message = message.Header one.header })
    pub held : all_held (state_in node checkpoint).slots (listed_floor node checkpoint) one.header.body ≡ true
    pub members : list_all (λ entry. nat_lt entry.voter.0 (size_of node)) one.votes ≡ true
    pub completed : is_completed_well node checkpoint one ≡ true
    pub canonical : IsKeptHeader node one

  sound_header : (one : KeptHeader) → Contains checkpoint.headers one → IsSoundHeader one
  sound_header one inside =
      let all = each_passes (is_header_sound node checkpoint) checkpoint.headers one headers_tests inside in
      let first = and_parts (not (is_low (listed_floor node checkpoint) one.header.body.round)) _ all in
      let second = and_parts (passes node node.own (message.Header one.header)) _ first.1 in
      let third = and_parts (all_held (state_in node checkpoint).slots (listed_floor node checkpoint) one.header.body) _ second.1 in
      let fourth = and_parts (list_all (λ entry. nat_lt entry.voter.0 (size_of node)) one.votes) _ third.1 in
      let canonical = All-contains (IsKeptHeader node) checkpoint.headers one are_headers inside in
      record {
        high = not_true _ first.0;
        passed = record { message = canonical.header; passed = passes_none node node.own (message.Header one.header) second.0 };
        held = third.0;
        members = fourth.0;
        completed = fourth.1;
        canonical = canonical;
      }

  -- one of a round, as the state has it
  record IsFound (round : ℕ) (header : Header) : Type 0 where
    pub one : KeptHeader
    pub found : kept_header checkpoint round ≡ Some one
    pub is : one.header ≡ header
    pub of_round : one.header.body.round ≡ round
    pub tested : IsSoundHeader one

  found_at : (round : ℕ) (one : KeptHeader) → kept_header checkpoint round ≡ Some one → IsFound round one.header
  found_at round one found =
      let it = found_passes (λ kept. kept.header.body.round == round) checkpoint.headers one found in
      record { one = one; found = found; is = refl; of_round = eqb-true one.header.body.round round it.0; tested = sound_header one it.1 }

  header_found : (round : ℕ) (header : Header) → (state_in node checkpoint).own_headers round ≡ Some header → IsFound round header
  header_found round header has = by (kept_header checkpoint round) refl has
    where
      by : (o : Option KeptHeader) → kept_header checkpoint round ≡ o → option_map (λ (k : KeptHeader). k.header) o ≡ Some header → IsFound round header
      by None same so = absurd (none-some header so)
      by (Some one) same so = subst (IsFound round) (same_Some one.header header so) (found_at round one same)

  -- the votes that count on it are those that are kept with it
  counted_by : (round : ℕ) (one : KeptHeader) → kept_header checkpoint round ≡ Some one → (voter : ℕ) → (state_in node checkpoint).counted round voter ≡ kept_vote node one voter
  counted_by round one found voter = ap (option_and_then (λ (k : KeptHeader). kept_vote node k voter)) found

  own_is : (one : KeptHeader) → kept_vote node one node.own.0 ≡ Some (own_vote node one.header.body)
  own_is one = let self = eq-eqb node.own.0 node.own.0 refl in rw self refl

  own_header : (round : ℕ) (header : Header) → IsFound round header → IsOwnHeader node (state_in node checkpoint) round header
  own_header round header it =
      let tested = it.tested in
      let floor = same_floor node checkpoint in
      let author = of_sender node node.own it.one.header tested.passed.passed in
      subst (IsOwnHeader node (state_in node checkpoint) round) it.is (record {
        place =
            ap (λ r. is_of_slot r node.own.0 it.one.header.body) (sym it.of_round)
            ∙ ap (λ a. is_of_slot it.one.header.body.round a it.one.header.body) (sym author) ∙ of_its_slot it.one.header.body;
        passed = tested.passed;
        high = (λ i. is_low (floor i) (sym it.of_round i)) ∙ tested.high;
        held = ap (λ f. all_held (state_in node checkpoint).slots f it.one.header.body) floor ∙ tested.held;
        voted = counted_by round it.one it.found node.own.0 ∙ own_is it.one;
      })

  -- ---- what counts

  counted_vote : (round voter : ℕ) (vote : Vote) → (state_in node checkpoint).counted round voter ≡ Some vote → IsCounted node (state_in node checkpoint) round voter vote
  counted_vote round voter vote has = by (kept_header checkpoint round) refl
    where
      of_found : (one : KeptHeader) → kept_header checkpoint round ≡ Some one → kept_vote node one voter ≡ Some vote → IsCounted node (state_in node checkpoint) round voter vote
      of_found one found so =
          let held : (state_in node checkpoint).own_headers round ≡ Some one.header = ap (option_map (λ (k : KeptHeader). k.header)) found in
          elim (cases_Bool (voter == node.own.0)) [
            | inl mine ↦
                let is : own_vote node one.header.body ≡ vote = same_Some (own_vote node one.header.body) vote (sym (rw mine refl) ∙ so) in
                let here : node.own.0 ≡ voter = sym (eqb-true voter node.own.0 mine) in
                subst (IsCounted node (state_in node checkpoint) round voter) is (record {
                  header = one.header;
                  held = held;
                  on = and_from _ _ (of_its_slot one.header.body) (and_from _ _ (eq-eqb node.own.0 voter here) (same_itself (header_digest one.header.body)));
                  member = subst (λ v. v < size_of node) here sound.member;
                  signature = sound.signatures (certificate_digest one.header.body);
                })
            | inr other ↦ of_entry (find (λ (entry : VoteEntry). entry.voter.0 == voter) one.votes) refl (sym (rw other refl) ∙ so)
          ]
        where
          tested : IsSoundHeader one
          tested = sound_header one (found_passes (λ kept. kept.header.body.round == round) checkpoint.headers one found).1

          of_entry : (o : Option VoteEntry) → find (λ (entry : VoteEntry). entry.voter.0 == voter) one.votes ≡ o → option_map (vote_of one.header) o ≡ Some vote
              → IsCounted node (state_in node checkpoint) round voter vote
          of_entry None same so = absurd (none-some vote so)
          of_entry (Some entry) same so =
              let it = found_passes (λ (e : VoteEntry). e.voter.0 == voter) one.votes entry same in
              let by : entry.voter.0 ≡ voter = eqb-true entry.voter.0 voter it.0 in
              let below = ltb-true entry.voter.0 (size_of node) (each_passes (λ (e : VoteEntry). nat_lt e.voter.0 (size_of node)) one.votes entry tested.members it.1) in
              let fits = All-contains IsVoteEntry one.votes entry tested.canonical.votes.each it.1 in
              subst (IsCounted node (state_in node checkpoint) round voter) (same_Some (vote_of one.header entry) vote so) (record {
                header = one.header;
                held = ap (option_map (λ (k : KeptHeader). k.header)) found;
                on = and_from _ _ (of_its_slot one.header.body) (and_from _ _ it.0 (same_itself (header_digest one.header.body)));
                member = subst (λ v. v < size_of node) by below;
                signature = fits.signature;
              })

      by : (o : Option KeptHeader) → kept_header checkpoint round ≡ o → IsCounted node (state_in node checkpoint) round voter vote
      by None same = absurd (none-some vote (sym (ap (option_and_then (λ (k : KeptHeader). kept_vote node k voter)) same) ∙ has))
      by (Some one) same = of_found one same (sym (counted_by round one same voter) ∙ has)

  -- ---- a quorum of them

  kept_by : (one : KeptHeader) (entry : VoteEntry) → Contains one.votes entry → (entry.voter.0 == node.own.0) ≡ false → has_kept node one entry.voter.0 ≡ true
  kept_by one entry inside other =
      let self = eq-eqb entry.voter.0 entry.voter.0 refl in
      let found = found_some (λ (e : VoteEntry). e.voter.0 == entry.voter.0) one.votes entry inside self in
      rw (other, found.1) refl

  -- the certificate in the slot of an own header is one that is kept
  certificate_kept : (round : ℕ) (one : KeptHeader) → kept_header checkpoint round ≡ Some one → (c : Certificate) → (state_in node checkpoint).slots round node.own.0 ≡ Some c → IsKeptCertificate c
  certificate_kept round one found c held = by (held_as node checkpoint round node.own.0 c held)
    where
      it : IsFound round one.header
      it = found_at round one found

      low_first : round ≡ 0 → is_low (listed_floor node checkpoint) round ≡ true
      low_first is = rw is refl

      by : IsHeld node checkpoint round node.own.0 c → IsKeptCertificate c
      by (first is none member same) =
          absurd (let bad : true ≡ false = sym (low_first is) ∙ ap (is_low (listed_floor node checkpoint)) (sym it.of_round) ∙ it.tested.high in cc)
      by (kept above inside) = All-contains IsKeptCertificate checkpoint.certificates c are_certificates inside

  completed_by : (round : ℕ) (header : Header) → IsFound round header → quorum node ≤ weight node.charter (counts (state_in node checkpoint) round)
      → IsCompleted node (state_in node checkpoint) round header
  completed_by round header it enough = subst (IsCompleted node (state_in node checkpoint) round) it.is (elim (or_cases _ _ it.tested.completed) [
    | inl few ↦ absurd (let less = ltb-true (weight node.charter (has_kept node it.one)) (quorum node) few in omega (arith, less, enough, ap (weight node.charter) counts_are))
    | inr both ↦ (let parts = and_parts _ _ both in with_certificate parts.0 (any_to _ it.one.votes parts.1))
  ])
    where
      or_cases : (a b : Bool) → (a || b) ≡ true → (a ≡ true) ⊎ (b ≡ true)
      or_cases true b is = inl refl
      or_cases false b is = inr is

      counts_are : counts (state_in node checkpoint) round ≡ has_kept node it.one
      counts_are = fun_ext (λ voter. ap is_some (counted_by round it.one it.found voter))

      with_certificate : option_map_or (λ certificate. same_body certificate.header it.one.header.body) ((state_in node checkpoint).slots it.one.header.body.round node.own.0) false ≡ true
          → ((entry : VoteEntry) × Contains it.one.votes entry
          × (nat_lt (weight node.charter (λ voter. has_kept node it.one voter && not (voter == entry.voter.0))) (quorum node) ≡ true))
          → IsCompleted node (state_in node checkpoint) round it.one.header
      with_certificate same (entry, inside, short) = by ((state_in node checkpoint).slots round node.own.0) refl
          (ap (λ r. option_map_or (λ certificate. same_body certificate.header it.one.header.body) ((state_in node checkpoint).slots r node.own.0) false) (sym it.of_round) ∙ same)
        where
          other : entry.voter.0 ≢ node.own.0
          other = All-contains (λ (e : VoteEntry). e.voter.0 ≢ node.own.0) it.one.votes entry it.tested.canonical.others inside

          by : (o : Option Certificate) → (state_in node checkpoint).slots round node.own.0 ≡ o → option_map_or (λ certificate. same_body certificate.header it.one.header.body) o false ≡ true
              → IsCompleted node (state_in node checkpoint) round it.one.header
          by None held so = absurd cc
          by (Some c) held so =
              let body : header_body c.header ≡ header_body it.one.header.body = (bytes_eq-Decides (header_body c.header) (header_body it.one.header.body)).0 so in
              record {
                certificate = c;
                held = held;
                of = one_body c.header it.one.header.body (certificate_kept round it.one it.found c held).certificate.header it.tested.canonical.header.body body;
                last = entry.voter.0;
                other = other;
                counted = ap (λ (f : ℕ → Bool). f entry.voter.0) counts_are ∙ kept_by it.one entry inside (ne_eqb entry.voter.0 node.own.0 other);
                short = subst (λ (f : ℕ → Bool). weight node.charter (λ voter. f voter && not (voter == entry.voter.0)) < quorum node) (sym counts_are)
                    (ltb-true (weight node.charter (λ voter. has_kept node it.one voter && not (voter == entry.voter.0))) (quorum node) short);
              }

  -- ---- what has a vote

  -- what there is to say of it
  record IsVoted (round author : ℕ) (digest : Digest) : Type 0 where
    pub high : is_low (floor_in node (state_in node checkpoint)) round ≡ false
    pub member : author < size_of node
    pub digest_is : IsDigest digest
    pub round_is : IsRound round

  voted : (round author : ℕ) (digest : Digest) → (state_in node checkpoint).votes round author ≡ Some digest → IsVoted round author digest
  voted round author digest has = elim (cases_Bool (author == node.own.0)) [
    | inl mine ↦ of_header (eqb-true author node.own.0 mine) (kept_header checkpoint round) refl (sym (rw mine refl) ∙ has)
    | inr other ↦ of_vote (find (λ (vote : KeptVote). (vote.round == round) && (vote.author == author)) checkpoint.votes) refl (sym (rw other refl) ∙ has)
  ]
    where
      of_header : author ≡ node.own.0 → (o : Option KeptHeader) → kept_header checkpoint round ≡ o
          → option_map (λ (k : KeptHeader). header_digest k.header.body) o ≡ Some digest → IsVoted round author digest
      of_header mine None same so = absurd (none-some digest so)
      of_header mine (Some one) same so =
          let it = found_passes (λ kept. kept.header.body.round == round) checkpoint.headers one same in
          let tested = sound_header one it.1 in
          let of_round : one.header.body.round ≡ round = eqb-true one.header.body.round round it.0 in
          record {
            high = (λ i. is_low (same_floor node checkpoint i) (sym of_round i)) ∙ tested.high;
            member = subst (λ a. a < size_of node) (sym mine) sound.member;
            digest_is = subst IsDigest (same_Some (header_digest one.header.body) digest so) (are_digest_bytes _);
            round_is = subst IsRound of_round tested.canonical.header.body.round;
          }

      of_vote : (o : Option KeptVote) → find (λ (vote : KeptVote). (vote.round == round) && (vote.author == author)) checkpoint.votes ≡ o
          → option_map (λ (vote : KeptVote). vote.header) o ≡ Some digest
          → IsVoted round author digest
      of_vote None same so = absurd (none-some digest so)
      of_vote (Some vote) same so =
          let it = found_passes (λ (v : KeptVote). (v.round == round) && (v.author == author)) checkpoint.votes vote same in
          let parts = and_parts (vote.round == round) (vote.author == author) it.0 in
          let of_round : vote.round ≡ round = eqb-true vote.round round parts.0 in
          let of_author : vote.author ≡ author = eqb-true vote.author author parts.1 in
          let tested = sound_vote vote it.1 in
          record {
            high = (λ i. is_low (same_floor node checkpoint i) (sym of_round i)) ∙ tested.high;
            member = subst (λ a. a < size_of node) of_author tested.member;
            digest_is = subst IsDigest (same_Some vote.header digest so) tested.canonical.header;
            round_is = subst IsRound of_round tested.canonical.round;
          }

  own_votes : (round : ℕ) → (state_in node checkpoint).votes round node.own.0 ≡ option_map (λ header. header_digest header.body) ((state_in node checkpoint).own_headers round)
  own_votes round = let self = eq-eqb node.own.0 node.own.0 refl in rw self (by (kept_header checkpoint round))
    where
      by : (o : Option KeptHeader) → option_map (λ (k : KeptHeader). header_digest k.header.body) o ≡ option_map (λ (h : Header). header_digest h.body) (option_map (λ (k : KeptHeader). k.header) o)
      by None = refl
      by (Some one) = refl

  pub votes_sound : AreVotes node (state_in node checkpoint)
  votes_sound = record {
    high = λ round author digest has. (voted round author digest has).high;
    for_members = λ round author digest has. (voted round author digest has).member;
    digests = λ round author digest has. (voted round author digest has).digest_is;
    rounds = λ round author digest has. (voted round author digest has).round_is;
    own = own_votes;
    headers = λ round header has. own_header round header (header_found round header has);
    counted = counted_vote;
    complete = λ round header has enough. completed_by round header (header_found round header has) enough;
  }
