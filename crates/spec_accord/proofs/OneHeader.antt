-- Of the certificates that honest members hold those of one author and round have one header.
use Rattle.std.proofs.Common.{◌≡◌, ◌≢◌, ◌≤◌, ℕ, Bool, true, false, map, Option, Some, None, inl, inr, refl, ap, sym, ◌∙◌, subst, arith}
use Rattle.std.specs.Prelude.{◌&&◌, ◌||◌, ◌==◌, not, length, option_map, filter_map, ◌++◌, Contains}
use Rattle.std.proofs.lemmas.Bool.{and_parts, eq-eqb, true≢false}
use Rattle.std.proofs.lemmas.List.Elements.{Contains-append_left}
use Rattle.std.proofs.lemmas.Option.{same_Some, none-some}
use Rattle.committee.specs.Charter.{Charter, IsCharter, numbers, weight, tolerated_of, quorum_of}
use Rattle.committee.specs.Shared.{Holder}
use Rattle.committee.proofs.Weights.{weight-or-and, weight-most, weight-without, some_of_weight}
use Rattle.spec_model.specs.Admitting.{IsLegal}
use Rattle.spec_model.specs.Histories.{History, headers, received}
use Rattle.spec_model.specs.Holdings.{voted_header, voted_digest, has_voted, genesis, completed, certificates, slots}
use Rattle.spec_model.specs.Nodes.{Node, size_of}
use Rattle.spec_model.specs.Slots.{header_digest, is_of_slot}
use Rattle.spec_model.specs.Words.{Certificate, Digest, Header, HeaderBody}
use Rattle.wire.specs.declared.message.Message.TheVariants as message
use Rattle.header.proofs.Signing.{message_signed}
use Rattle.spec_laws.proofs.InSlots.{in_slots}
use Rattle.spec_laws.proofs.Lists.{found_passes}
use Rattle.spec_laws.proofs.Votes.{slot_is}
use Rattle.spec_accord.specs.Accord.{HaveOneHeader}
use Rattle.spec_accord.specs.Members.{Party, IsReported, bodies_in, HasVote, IsParty, IsMoment, HasHeaders, IsReportedAt, HeadersAgreeEver}
use Rattle.spec_accord.proofs.Backing.{IsBacked, passed_as, counted_stays, OwnStays, held_backed, settled_moment, settled_stays}
use Rattle.spec_accord.proofs.Reading.{AreReported, settled_reported, one_by_header, signed_header}
use Rattle.spec_accord.proofs.Reporting.{header_event, header_reported, reported_within}

-- ---- backed headers

-- two quorums share a member who isn't faulty
shared_member : (charter : Charter) (faulty first second : ℕ → Bool) → IsCharter charter
    → weight charter faulty ≤ tolerated_of charter
    → quorum_of charter ≤ weight charter first → quorum_of charter ≤ weight charter second
    → Holder charter (λ m. (first m && second m) && not (faulty m))
shared_member charter faulty first second is few quorum quorum' =
    let both = weight-or-and charter first second in
    let most = weight-most charter (λ m. first m || second m) is.staked in
    let honest = weight-without charter (λ m. first m && second m) faulty in
    some_of_weight charter (λ m. (first m && second m) && not (faulty m))
    (omega (arith, both, most, honest, few, quorum, quorum'))

-- the header that has a member's vote
voted_from : (history : History) (round author : ℕ) (digest : Digest) → voted_digest history round author ≡ Some digest
    → (header : Header) × Contains (headers history) header × (header_digest header.body ≡ digest)
voted_from history round author digest is = by_found (voted_header history round author) refl is
  where
    by_found : (found : Option Header) → voted_header history round author ≡ found → option_map (λ (h : Header). header_digest h.body) found ≡ Some digest
        → (header : Header) × Contains (headers history) header × (header_digest header.body ≡ digest)
    by_found None at so = absurd (none-some digest so)
    by_found (Some header) at so = (header, (found_passes (λ (h : Header). is_of_slot round author h.body) (headers history) header at).1, same_Some (header_digest header.body) digest so)

not_not : (b : Bool) → not (not b) ≡ true → b ≡ true
not_not true h = refl
not_not false h = absurd cc

-- of one author and round there is one: an honest member voted for both
backed_once : (party : Party) (signed : ℕ → Digest → Bool) → IsParty party signed → (Reported : HeaderBody → Type 0) → AreReported party Reported → (one other : HeaderBody)
    → IsBacked party Reported one → IsBacked party Reported other
    → one.round ≡ other.round → one.author.0 ≡ other.author.0 → one ≡ other
backed_once party signed is Reported all one other backed also round author =
    let shared =
    shared_member party.charter (λ m. not (party.honest m)) backed.voters also.voters is.sound is.few backed.enough also.enough in
    let member = shared.member in
    let history = party.settled member in
    let parts = and_parts (backed.voters member && also.voters member) (not (not (party.honest member))) shared.holds in
    let both = and_parts (backed.voters member) (also.voters member) parts.0 in
    let honest = not_not (party.honest member) parts.1 in
    let first = backed.voted member honest both.0 in
    let second = also.voted member honest both.1 in
    one_by_header party signed is Reported all one other backed.reported also.reported
    (same_Some _ _ (sym first ∙ ap (λ r. voted_digest history r one.author.0) round
    ∙ ap (voted_digest history other.round) author ∙ second))

-- ---- slots

-- what a slot holds is of the slot, and among the certificates
in_slot : (node : Node) (history : History) (round author : ℕ) (c : Certificate) → slots node history round author ≡ Some c
    → (c.header.round ≡ round) × (c.header.author.0 ≡ author) × Contains (certificates node history) c
in_slot node history round author c held =
    let found = found_passes (λ (x : Certificate). is_of_slot round author x.header) (certificates node history) c held in
    let place = slot_is round author c.header found.0 in
    (place.0, place.1, found.1)

-- a certificate of the genesis that one honest member holds is in its slot at each other one
genesis_there : (one other : Node) (history : History) → one.charter ≡ other.charter → IsLegal other history
    → (c : Certificate) → Contains (map genesis (numbers (size_of one))) c → slots other history c.header.round c.header.author.0 ≡ Some c
genesis_there one other history charters legal c inside =
    let first = map genesis (numbers (size_of other)) in
    let there : Contains first c =
    subst (λ (charter : Charter). Contains (map genesis (numbers (length charter.keys))) c) charters inside in
    in_slots other history legal c
    (Contains-append_left (first ++ received history) (filter_map (completed other history) (headers history)) c
    (Contains-append_left first (received history) c there))

-- so where one of two slots holds it the other does
genesis_once : (one other : Node) (history : History) → one.charter ≡ other.charter → IsLegal other history
    → (round author : ℕ) (c d : Certificate) → Contains (map genesis (numbers (size_of one))) c
    → c.header.round ≡ round → c.header.author.0 ≡ author → slots other history round author ≡ Some d → c.header ≡ d.header
genesis_once one other history charters legal round author c d inside at by held =
    let there = genesis_there one other history charters legal c inside in
    let hold = slots other history in
    let same = same_Some c d (sym there ∙ ap (λ r. hold r c.header.author.0) at ∙ ap (hold round) by ∙ held) in
    ap (λ (x : Certificate). x.header) same

-- at two moments, where each has its own headers of a quorum's for good
module _ (party : Party) (signed : ℕ → Digest → Bool) (is : IsParty party signed) (Reported : HeaderBody → Type 0) (all : AreReported party Reported)
    (one other : ℕ) (history also : History) (at : IsMoment party signed one history) (then : IsMoment party signed other also)
    (reports : (body : HeaderBody) → Contains (bodies_in history) body → Reported body) (reports' : (body : HeaderBody) → Contains (bodies_in also) body → Reported body)
    (own : OwnStays party signed is Reported all one history at reports) (own' : OwnStays party signed is Reported all other also then reports') where
  pub moments_agree : HaveOneHeader (slots (party.node one) history) (slots (party.node other) also)
  moments_agree round author c d held there =
      let first = in_slot (party.node one) history round author c held in
      let second = in_slot (party.node other) also round author d there in
      let charters = is.charter one at.honest ∙ sym (is.charter other then.honest) in
      elim (held_backed party signed is Reported all one history at reports own c first.2) [
        | inl genesis ↦ genesis_once (party.node one) (party.node other) also charters then.legal round author c d genesis first.0 first.1 there
        | inr backed ↦ elim (held_backed party signed is Reported all other also then reports' own' d second.2) [
          | inl genesis ↦ sym (genesis_once (party.node other) (party.node one) history (sym charters) at.legal round author d c genesis second.0 second.1 held)
          | inr backed' ↦
              let round = first.0 ∙ sym second.0 in
              backed_once party signed is Reported all c.header d.header backed backed' round (first.1 ∙ sym second.1)
        ]
      ]

-- ---- of what is settled

pub headers_agree : (party : Party) (signed : ℕ → Digest → Bool) → IsParty party signed → (one other : ℕ)
    → party.honest one ≡ true → party.honest other ≡ true
    → HaveOneHeader (slots (party.node one) (party.settled one)) (slots (party.node other) (party.settled other))
headers_agree party signed is one other honest also =
    let reported : (member : ℕ) → party.honest member ≡ true → (body : HeaderBody) → Contains (bodies_in (party.settled member)) body → IsReported party body =
    λ member by body inside. record { member = member; honest = by; reported = inside } in
    moments_agree party signed is (IsReported party) (settled_reported party signed is) one other (party.settled one) (party.settled other)
    (settled_moment party signed is one honest) (settled_moment party signed is other also) (reported one honest) (reported other also)
    (λ header inside author enough. settled_stays party signed is one honest header inside)
    (λ header inside author enough. settled_stays party signed is other also header inside)

-- ---- at any moment

-- another honest member voted for an own header of a quorum's, since the member and those who aren't honest are too few; so the member gave
-- it out, and has it for good
module _ (party : Party) (signed : ℕ → Digest → Bool) (is : IsParty party signed) (Reported : HeaderBody → Type 0) (all : AreReported party Reported) (given : HasHeaders party signed)
    (holder : ℕ) (history : History) (at : IsMoment party signed holder history) (reports : (body : HeaderBody) → Contains (bodies_in history) body → Reported body) where
  -- another honest member has the vote for it for good
  record IsVoted (body : HeaderBody) : Type 0 where
    pub member : ℕ
    pub honest : party.honest member ≡ true
    pub differs : member ≢ holder
    pub voted : HasVote party member body

  another : (header : Header) → Contains (headers history) header → quorum_of party.charter ≤ weight party.charter (has_voted (party.node holder) history header.body) → IsVoted header.body
  another header inside enough =
      let charter = party.charter in
      let voters = has_voted (party.node holder) history header.body in
      let others = given.others holder at.honest in
      let few = is.few in
      let without = weight-without charter voters (λ m. m == holder) in
      let honest = weight-without charter (λ m. voters m && not (m == holder)) (λ m. not (party.honest m)) in
      let some = some_of_weight charter (λ m. (voters m && not (m == holder)) && not (not (party.honest m))) (omega (arith, others, few, without, honest, enough)) in
      let member = some.member in
      let parts = and_parts (voters member && not (member == holder)) (not (not (party.honest member))) some.holds in
      let both = and_parts (voters member) (not (member == holder)) parts.0 in
      let by = not_not (party.honest member) parts.1 in
      let differs : member ≢ holder = λ same. true≢false (sym both.1 ∙ ap not (eq-eqb member holder same)) in
      record {
        member = member;
        honest = by;
        differs = differs;
        voted = counted_stays party signed is Reported all holder history at reports header inside member by differs both.0;
      }

  pub stays_ever : OwnStays party signed is Reported all holder history at reports
  stays_ever header inside author enough =
      let by = another header inside enough in
      let body = header.body in
      let settled = party.settled by.member in
      let found = voted_from settled body.round body.author.0 (header_digest body) by.voted in
      let reported = reports body (header_reported history header inside) in
      let reported' = all.settled found.0.body (record { member = by.member; honest = by.honest; reported = header_reported settled found.0 found.1 }) in
      let same : found.0.body ≡ body = one_by_header party signed is Reported all found.0.body body reported' reported found.2 in
      let brought = header_event settled found.0 found.1 in
      let none = passed_as party.charter party.accepts brought.event (message.Header found.0) brought.is (is.passed by.member by.honest brought.event brought.inside) in
      let good = message_signed party.charter party.accepts brought.event.sender (message.Header found.0) none in
      let of : found.0.body.author.0 ≡ holder = ap (λ (b : HeaderBody). b.author.0) same ∙ author in
      let gave = given.unforged by.member by.honest brought.event brought.inside found.0 brought.is (ap party.honest of ∙ at.honest) (λ it. by.differs (sym it ∙ of)) good in
      signed_header party signed is Reported all given holder at.honest body reported
      (subst (λ (m : ℕ). signed m (header_digest body) ≡ true) of (subst (λ (b : HeaderBody). signed found.0.body.author.0 (header_digest b) ≡ true) same gave))

pub headers_agree_ever : HeadersAgreeEver
headers_agree_ever party signed is given one other history also at then clash =
    let Reported : HeaderBody → Type 0 = IsReportedAt party history also in
    let all : AreReported party Reported = record {
      fits = λ body reported. elim reported [
        | inl settled ↦ (settled_reported party signed is).fits body settled
        | inr moment ↦ elim moment [
          | inl inside ↦ reported_within (party.node one) history at.legal body inside
          | inr inside ↦ reported_within (party.node other) also then.legal body inside
        ]
      ];
      settled = λ body reported. inl reported;
      clash = clash;
    } in
    let reports : (body : HeaderBody) → Contains (bodies_in history) body → Reported body = λ body inside. inr (inl inside) in
    let reports' : (body : HeaderBody) → Contains (bodies_in also) body → Reported body = λ body inside. inr (inr inside) in
    moments_agree party signed is Reported all one other history also at then reports reports'
    (stays_ever party signed is Reported all given one history at reports) (stays_ever party signed is Reported all given other also then reports')
