-- No vote in what an honest member gave out is forged.
use Rattle.std.proofs.Common.{◌≡◌, ◌⊎◌, ℕ, Bool, true, false, cond, List, [], ◌∷◌, ◌++◌, map, Option, Some, inl, inr, refl, ap, sym, ◌∙◌, subst}
use Rattle.std.specs.Prelude.{◌==◌, ◌&&◌, nat_le, is_some, Contains, filter, filter_map, flat_map, find, option_map, ⊤}
use Rattle.std.specs.Option.{option_map_or}
use Rattle.std.proofs.lemmas.Bool.{cases_Bool, and_parts}
use Rattle.std.proofs.lemmas.List.Elements.{Contains-append_left, Contains-append_cases}
use Rattle.std.proofs.lemmas.Option.{same_Some, none-some}
use Rattle.std.proofs.lemmas.Slice.Eq.{bytes_eq-Decides}
use Rattle.committee.specs.Charter.{numbers, weight}
use Rattle.header.specs.Checks.{is_signed, vote_signed}
use Rattle.spec_accord.specs.Members.{Signed}
use Rattle.spec_accord.proofs.Reporting.{vote_event, certificate_event}
use Rattle.spec_laws.proofs.Lists.{given_or_none, Contains-nothing, Contains-cases, Contains-first, Contains-made, found_passes}
use Rattle.spec_laws.proofs.Meeting.{any_from, mapped_from, picked_was}
use Rattle.spec_laws.proofs.Votes.{slot_is}
use Rattle.spec_model.specs.Admitting.{is_own, batch_outputs, header_outputs}
use Rattle.spec_model.specs.Giving.{given, is_given}
use Rattle.spec_model.specs.Histories.{History, batches, headers, votes, received}
use Rattle.spec_model.specs.Holdings.{batch_digest, is_vote_on, own_vote, counted_vote, entry_of, votes_by, genesis, completed, certificates}
use Rattle.spec_model.specs.Nodes.{Node, size_of, quorum}
use Rattle.spec_model.specs.Slots.{same_digest, header_digest, certificate_digest, is_of_slot}
use Rattle.spec_model.specs.Words.{Author, Certificate, BatchView, Digest, Event, Header, HeaderBody, Message, Output, Vote, VoteEntry}
use Rattle.wire.specs.Digests.{header_digest_of, certificate_digest_of}
use Rattle.wire.specs.declared.message.Message.TheVariants as message
use Rattle.wire.specs.declared.output.Output.TheVariants as output
use Rattle.spec_world.specs.Lasting.{settled_in}
use Rattle.spec_world.specs.Promise.{NeverTakesBack, GoesOut}
use Rattle.spec_world.specs.World.{put_out, Given}
use Rattle.spec_world.proofs.Ballots.{joined_of}
use Rattle.spec_world.proofs.Law.{nothing_taken_back}
use Rattle.spec_cluster.specs.Cluster.{Cluster, Worlds, AreMembers, HaveRun}
use Rattle.spec_cluster.specs.Premises.{signed_by_giver, has_signed, NoForgery, ComesFair}
use Rattle.spec_cluster.proofs.Running.{settled_came}

-- ---- what may be given out

-- a vote that may be given out is the node's own, and a certificate is one that it holds
abbrev IsOwn : Node → History → Output → Type 0
IsOwn node history (output.Vote vote) = vote.voter ≡ node.own
IsOwn node history (output.Certificate certificate) = Contains (certificates node history) certificate
IsOwn node history other = ⊤

only_one : {X : Type 0} (x y : X) → Contains (x ∷ []) y → x ≡ y
only_one x y inside = elim (Contains-cases x [] y inside) [ inl same ↦ same | inr none ↦ absurd (Contains-nothing y none) ]

-- of one of two outputs
either_own : (node : Node) (history : History) (test : Bool) (one other out : Output) → IsOwn node history one → IsOwn node history other
    → Contains (cond test one other ∷ []) out → IsOwn node history out
either_own node history true one other out first second inside = subst (IsOwn node history) (only_one one out inside) first
either_own node history false one other out first second inside = subst (IsOwn node history) (only_one other out inside) second

batch_own : (node : Node) (history : History) (batch : BatchView) (out : Output) → Contains (batch_outputs node batch) out → IsOwn node history out
batch_own node history batch out inside =
    either_own node history (is_own node batch.author) (output.Batch batch) (output.Ack batch.author (record { author = node.own; batch = batch_digest batch })) out tt tt inside

header_own : (node : Node) (history : History) (header : Header) (out : Output) → Contains (header_outputs node header) out → IsOwn node history out
header_own node history header out inside =
    either_own node history (is_own node header.body.author) (output.Header header) (output.Vote (own_vote node header.body)) out tt refl inside

given_own : (node : Node) (history : History) (out : Output) → Contains (given node history) out → IsOwn node history out
given_own node history out inside =
    let for_batches = flat_map (batch_outputs node) (batches history) in
    let for_headers = flat_map (header_outputs node) (headers history) in
    let own = map (λ c. output.Certificate c) (filter (is_given node history) (certificates node history)) in
    elim (Contains-append_cases (for_batches ++ for_headers) own out inside) [
      | inl front ↦ elim (Contains-append_cases for_batches for_headers out front) [
        | inl batch ↦ let found = joined_of (batch_outputs node) (batches history) out batch in batch_own node history found.0 out found.2
        | inr header ↦ let found = joined_of (header_outputs node) (headers history) out header in header_own node history found.0 out found.2
      ]
      | inr made ↦
          let found = mapped_from (λ c. output.Certificate c) (filter (is_given node history) (certificates node history)) out made in
          let picked = picked_was (is_given node history) (certificates node history) found.0 found.1 in
          subst (IsOwn node history) found.2 picked.0
    ]

-- ---- the votes in a certificate

-- a vote on a header signs the digest of its certificate
signs : (body : HeaderBody) (member : ℕ) (vote : Vote) → is_vote_on body member vote ≡ true → vote_signed vote.header.0 vote.round vote.author ≡ certificate_digest body
signs body member vote on =
    let header = header_digest_of body in
    let same = same_digest vote.header (header_digest body) in
    let parts = and_parts (is_of_slot vote.round vote.author.0 body) ((vote.voter.0 == member) && same) on in
    let slot = slot_is vote.round vote.author.0 body parts.0 in
    let others = and_parts (vote.voter.0 == member) same parts.1 in
    let bytes = (bytes_eq-Decides vote.header.0 header).0 others.1 in
    let of : List ℕ → ℕ → ℕ → Digest = λ h round author. record { 0 = certificate_digest_of h round author } in
    ap (λ h. of h vote.round vote.author.0) bytes ∙ ap (λ round. of header round vote.author.0) (sym slot.0) ∙ ap (of header body.round) (sym slot.1)

-- an entry of an own certificate is the node's, or it is of a vote that came in
record IsEntry (node : Node) (history : History) (body : HeaderBody) (entry : VoteEntry) : Type 0 where
  pub vote : Vote
  pub there : Contains (votes history) vote
  pub digest : vote_signed vote.header.0 vote.round vote.author ≡ certificate_digest body
  pub is : entry_of vote ≡ entry

counted_entry : (node : Node) (history : History) (body : HeaderBody) (member : ℕ) (entry : VoteEntry) → option_map entry_of (counted_vote node history body member) ≡ Some entry
    → (entry.voter ≡ node.own) ⊎ IsEntry node history body entry
counted_entry node history body member entry is = elim (cases_Bool (member == node.own.0)) [
  | inl own ↦ let is' = rw own at is in inl (sym (ap (λ (e : VoteEntry). e.voter) (same_Some (entry_of (own_vote node body)) entry is')))
  | inr other ↦
      let is' = rw other at is in
      elim (given_or_none (find (is_vote_on body member) (votes history))) [
        | inl some ↦
            let found = found_passes (is_vote_on body member) (votes history) some.0 some.1 in
            let same : entry_of some.0 ≡ entry = same_Some (entry_of some.0) entry (sym (ap (option_map entry_of) some.1) ∙ is') in
            inr (record { vote = some.0; there = found.1; digest = signs body member some.0 found.0; is = same })
        | inr none ↦ absurd (none-some entry (sym (ap (option_map entry_of) none) ∙ is'))
      ]
]

-- what a completed certificate is made of
record IsMade (node : Node) (history : History) (certificate : Certificate) : Type 0 where
  pub header : Header
  pub body : certificate.header ≡ header.body
  pub votes : certificate.votes ≡ votes_by node (counted_vote node history header.body)

made_of : (node : Node) (history : History) (header : Header) (certificate : Certificate) → completed node history header ≡ Some certificate → IsMade node history certificate
made_of node history header certificate is =
    let own = header.body.author.0 == node.own.0 in
    let many = nat_le (quorum node) (weight node.charter (λ voter. is_some (counted_vote node history header.body voter))) in
    elim (cases_Bool (own && many)) [
      | inl are ↦
          let is' = rw are at is in
          let same : record { header = header.body; votes = votes_by node (counted_vote node history header.body) } ≡ certificate = same_Some _ certificate is' in
          record { header = header; body = sym (ap (λ (c : Certificate). c.header) same); votes = sym (ap (λ (c : Certificate). c.votes) same) }
      | inr not ↦ let bad = rw not at is in absurd (none-some certificate bad)
    ]

-- ---- in a cluster

module _ (cluster : Cluster) (value : ℕ → ℕ) (worlds : Worlds) (members : AreMembers cluster) (have : HaveRun cluster (ComesFair cluster value worlds) worlds)
    (member : ℕ) (honest : cluster.honest member ≡ true) where
  taken_back : NeverTakesBack (cluster.node member) (worlds member)
  taken_back = nothing_taken_back (cluster.node member) (have.moves member) (worlds member) (members member honest).is (have.runs member honest)

  -- no vote in what a member settled is forged
  settled_unforged : (event : Event) → Contains (settled_in (worlds member)) event → NoForgery cluster worlds event.message
  settled_unforged event inside = (settled_came cluster (ComesFair cluster value worlds) members worlds have member honest event inside).1.0

  module _ (one : Given) (there : Contains (worlds member).given one) where
    -- and of what it was given out at
    reported_unforged : (event : Event) (m : Message) → event.message ≡ m → Contains one.history event → NoForgery cluster worlds m
    reported_unforged event m same inside =
        let begins = taken_back.held one there in
        subst (NoForgery cluster worlds) same
        (settled_unforged event (subst (λ l. Contains l event) (sym begins.parts) (Contains-append_left one.history begins.rest event inside)))

    -- the member signed the digest of what it gave out
    signed_here : (number : ℕ) (digest : Digest) → number ≡ member → signed_by_giver one.outgoing ≡ Some digest → has_signed (worlds number) digest ≡ true
    signed_here number digest same is =
        let passes : option_map_or (same_digest digest) (signed_by_giver one.outgoing) false
        ≡ true = ap (λ (o : Option Digest). option_map_or (same_digest digest) o false) is ∙ (bytes_eq-Decides digest.0 digest.0).1 refl in
        subst (λ (m : ℕ). has_signed (worlds m) digest ≡ true) (sym same)
        (any_from (λ given. option_map_or (same_digest digest) (signed_by_giver given.outgoing) false) (worlds member).given one there passes)

    -- a vote that it gave out
    pub vote_unforged : (vote : Vote) → one.outgoing ≡ put_out (output.Vote vote) → NoForgery cluster worlds (message.Vote vote)
    vote_unforged vote is = λ signed inside signer good.
        let goes = subst (λ o. GoesOut (cluster.node member) one.history o) is (taken_back.right one there) in
        let own : vote.voter ≡ (cluster.node member).own = given_own (cluster.node member) one.history (output.Vote vote) goes.1 in
        let number : vote.voter.0 ≡ member = ap (λ (a : Author). a.0) own ∙ (members member honest).number in
        subst (λ (s : Signed). has_signed (worlds s.signer.0) s.digest ≡ true) (only_one _ signed inside)
        (signed_here vote.voter.0 (vote_signed vote.header.0 vote.round vote.author) number (ap signed_by_giver is))

    -- a certificate that it gave out
    module _ (certificate : Certificate) (is : one.outgoing ≡ put_out (output.Certificate certificate)) where
      abbrev digest_of : HeaderBody → Digest
      digest_of body = vote_signed (header_digest_of body) body.round body.author

      made_unforged : IsMade (cluster.node member) one.history certificate → (entry : VoteEntry) → Contains certificate.votes entry → cluster.honest entry.voter.0 ≡ true
          → is_signed cluster.charter cluster.accepts entry.voter (digest_of certificate.header) entry.signature ≡ true → has_signed (worlds entry.voter.0) (digest_of certificate.header) ≡ true
      made_unforged made entry inside signer good =
          let node = cluster.node member in
          let body = made.header.body in
          let counted = counted_vote node one.history body in
          let inside' : Contains (votes_by node counted) entry = subst (λ l. Contains l entry) made.votes inside in
          let found = Contains-made (λ voter. option_map entry_of (counted voter)) (numbers (size_of node)) entry inside' in
          elim (counted_entry node one.history body found.0 entry found.2) [
            | inl own ↦ signed_here entry.voter.0 (digest_of certificate.header) (ap (λ (a : Author). a.0) own ∙ (members member honest).number) (ap signed_by_giver is)
            | inr of ↦ of_vote of.vote of.there of.is (of.digest ∙ ap digest_of (sym made.body))
          ]
        where
          of_vote : (vote : Vote) → Contains (votes one.history) vote → entry_of vote ≡ entry → vote_signed vote.header.0 vote.round vote.author ≡ digest_of certificate.header
              → has_signed (worlds entry.voter.0) (digest_of certificate.header) ≡ true
          of_vote vote came same digest =
              let event = vote_event one.history vote came in
              let signed : Signed = record { signer = vote.voter; digest = vote_signed vote.header.0 vote.round vote.author; signature = vote.signature } in
              let as_entry : VoteEntry → Digest → Signed = λ e d. record { signer = e.voter; digest = d; signature = e.signature } in
              let is_entry : signed ≡ as_entry entry (digest_of certificate.header) = (λ i. as_entry (same i) (digest i)) in
              let unforged = reported_unforged event.event (message.Vote vote) event.is event.inside in
              subst (λ (s : Signed). has_signed (worlds s.signer.0) s.digest ≡ true) is_entry
              (unforged signed (Contains-first [] signed)
              (subst (λ (s : Signed). cluster.honest s.signer.0 ≡ true) (sym is_entry) signer)
              (subst (λ (s : Signed). is_signed cluster.charter cluster.accepts s.signer s.digest s.signature ≡ true) (sym is_entry) good))

      pub certificate_unforged : NoForgery cluster worlds (message.Certificate certificate)
      certificate_unforged = λ signed inside signer good.
          let node = cluster.node member in
          let history = one.history in
          let goes = subst (λ o. GoesOut node history o) is (taken_back.right one there) in
          let held : Contains (certificates node history) certificate = given_own node history (output.Certificate certificate) goes.1 in
          let as_signed : VoteEntry → Signed = λ v. record { signer = v.voter; digest = digest_of certificate.header; signature = v.signature } in
          let entry = mapped_from as_signed certificate.votes signed inside in
          let first = map genesis (numbers (size_of node)) in
          let made = filter_map (completed node history) (headers history) in
          elim (Contains-append_cases (first ++ received history) made certificate held) [
            | inl front ↦ elim (Contains-append_cases first (received history) certificate front) [
              | inl of ↦
                  let found = mapped_from genesis (numbers (size_of node)) certificate of in
                  absurd (Contains-nothing entry.0 (subst (λ (c : Certificate). Contains c.votes entry.0) (sym found.2) entry.1))
              | inr came ↦
                  let event = certificate_event history certificate came in
                  reported_unforged event.event (message.Certificate certificate) event.is event.inside signed inside signer good
            ]
            | inr own ↦
                let of = Contains-made (completed node history) (headers history) certificate own in
                subst (λ (s : Signed). has_signed (worlds s.signer.0) s.digest ≡ true) entry.2
                (made_unforged (made_of node history of.0 certificate of.2) entry.0 entry.1
                (subst (λ (s : Signed). cluster.honest s.signer.0 ≡ true) (sym entry.2) signer)
                (subst (λ (s : Signed). is_signed cluster.charter cluster.accepts s.signer s.digest s.signature ≡ true) (sym entry.2) good))
          ]
