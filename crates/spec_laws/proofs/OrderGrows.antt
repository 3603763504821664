-- The order of a legal history begins that of each history that it begins.
use Rattle.std.proofs.Common.{◌≡◌, ℕ, suc, ◌+◌, ◌-◌, ◌*◌, ◌<◌, ◌≤◌, true, List, [], ◌∷◌, ◌++◌, map, length, Some, None, inl, inr, refl, ap, sym, ◌∙◌, subst, arith, append_assoc}
use Rattle.std.specs.Prelude.{All, AllPairs, Contains, ◌≢◌, sum_by, filter_map, nat_le, nat_lt, ◌==◌}
use Rattle.std.specs.List.{list_all}
use Rattle.std.specs.Option.{option_map_or, option_to_list}
use Rattle.std.specs.Str.{bytes_eq}
use Rattle.std.proofs.lemmas.Bool.{cases_Bool, and_parts, and_from, leb-true, ltb-true}
use Rattle.std.proofs.lemmas.Option.{same_Some, none-some}
use Rattle.std.proofs.lemmas.Slice.Eq.{bytes_eq-Decides}
use Rattle.std.proofs.lemmas.List.{append-nil}
use Rattle.std.proofs.lemmas.List.Elements.{All-nil, All-cons, All-weaker, All-contains, Contains-append_cases}
use Rattle.std.proofs.lemmas.List.Kept.{AllPairs-cons}
use Rattle.committee.proofs.Weights.{weight-listed}
use Rattle.committee.specs.Charter.{numbers, weight, quorum_of}
use Rattle.header.specs.Checks.{Test, test, first_failing, accepts_all, is_member, named_weight, is_signed, header_signed, vote_signed, body_tests, votes_tests}
use Rattle.header.specs.declared.error.CheckError.TheVariants.{BadSignature}
use Rattle.wire.specs.Digests.{header_digest_of}
use Rattle.wire.specs.References.{parents_rise}
use Rattle.wire.specs.declared.message.Message.TheVariants as message
use Rattle.spec_model.specs.Admitting.{IsTaken, IsLegal}
use Rattle.spec_model.specs.Histories.{History, headers, received, coins, as_header, as_certificate, as_coin}
use Rattle.wire.specs.Lists.{Begins}
use Rattle.spec_model.specs.Holdings.{ledger_of, ledger_at, completed, certificates, genesis, slots, order, floor, is_held, all_held}
use Rattle.spec_laws.specs.Laws.{OrderGrows}
use Rattle.spec_model.specs.Nodes.{Node, IsNode, size_of}
use Rattle.spec_model.specs.Ordering.{top, leader, order_by}
use Rattle.spec_model.specs.Slots.{same_digest, certificate_digest, is_of_slot, is_named}
use Rattle.spec_model.specs.Words.{Author, Certificate, Event, Header, HeaderBody, Message, ParentReference}
use Rattle.spec_laws.proofs.Closed.{in_place, closed, extends, newly, added_by, kept_slot, coins_later, all_to}
use Rattle.spec_laws.proofs.InSlots.{genesis_is}
use Rattle.spec_laws.proofs.Legal.{Adds, legal-grows}
use Rattle.spec_laws.proofs.Lists.{given_or_none, Contains-made, found_passes}
use Rattle.spec_laws.proofs.Meeting.{AreRooted, is_named_by, same_number}
use Rattle.spec_laws.proofs.OrderLonger.{IsLonger, order_longer, leader_place, is_top_of}
use Rattle.spec_laws.proofs.SlotsGrow.{completed-header}
use Rattle.spec_laws.proofs.Votes.{slot_is}
use Rattle.spec_laws.proofs.Weighing.{named_weigh}

-- ---- what the checks say of a header

-- it has a member as its author, and names a quorum of members, rising
pub record IsSound (node : Node) (body : HeaderBody) : Type 0 where
  pub member : body.author.0 < size_of node
  pub quorum : quorum_of node.charter ≤ sum_by (λ p. named_weight node.charter p.author) body.parents
  pub members : list_all (λ p. is_member node.charter p.author) body.parents ≡ true
  pub rise : parents_rise body.parents ≡ true

sound_by : (node : Node) (body : HeaderBody) (rest : List Test) → is_member node.charter body.author ≡ true
    → first_failing (body_tests node.charter body ++ rest) ≡ None → parents_rise body.parents ≡ true → IsSound node body
sound_by node body rest member none rise =
    elim (cases_Bool (nat_le (quorum_of node.charter) (sum_by (λ p. named_weight node.charter p.author) body.parents))) [
      | inr few ↦ let bad = rw few at none in absurd cc
      | inl quorum ↦ elim (cases_Bool (nat_le (length body.parents) (size_of node))) [
        | inr more ↦ let bad = rw (quorum, more) at none in absurd cc
        | inl within ↦ elim (cases_Bool (list_all (λ p. is_member node.charter p.author) body.parents)) [
          | inr foreign ↦ let bad = rw (quorum, within, foreign) at none in absurd cc
          | inl members ↦ record { member = ltb-true _ _ member; quorum = leb-true _ _ quorum; members = members; rise = rise }
        ]
      ]
    ]

sound_header : (node : Node) (sender : Author) (header : Header) → IsTaken node (record { sender = sender; message = message.Header header }) → IsSound node header.body
sound_header node sender header taken =
    let none = taken.passed in
    elim (cases_Bool (is_member node.charter sender)) [
      | inr foreign ↦ let bad = rw foreign at none in absurd cc
      | inl by ↦ elim (cases_Bool (is_member node.charter header.body.author)) [
        | inr foreign ↦ let bad = rw (by, foreign) at none in absurd cc
        | inl member ↦ elim (cases_Bool (header.body.author.0 == sender.0)) [
          | inr other ↦ let bad = rw (by, member, other) at none in absurd cc
          | inl same ↦
              let none' = rw (by, member, same) at none in
              sound_by node header.body
              (test (is_signed node.charter accepts_all header.body.author (header_signed header.body) header.signature) BadSignature ∷ []) member
              none' taken.message.body.parents.rise
        ]
      ]
    ]

pub sound_certificate : (node : Node) (sender : Author) (certificate : Certificate)
    → IsTaken node (record { sender = sender; message = message.Certificate certificate }) → IsSound node certificate.header
sound_certificate node sender certificate taken =
    let none = taken.passed in
    elim (cases_Bool (is_member node.charter sender)) [
      | inr foreign ↦ let bad = rw foreign at none in absurd cc
      | inl by ↦ elim (cases_Bool (is_member node.charter certificate.header.author)) [
        | inr foreign ↦ let bad = rw (by, foreign) at none in absurd cc
        | inl member ↦
            let none' = rw (by, member) at none in
            sound_by node certificate.header
            (votes_tests node.charter accepts_all (vote_signed (header_digest_of certificate.header) certificate.header.round certificate.header.author) certificate.votes)
            member none' taken.message.header.parents.rise
      ]
    ]

header_sound : (node : Node) (sender : Author) (m : Message) (header : Header) → IsTaken node (record { sender = sender; message = m }) → as_header m ≡ Some header → IsSound node header.body
header_sound node sender (message.Header new) header taken is = subst (λ (h : Header). IsSound node h.body) (same_Some new header is) (sound_header node sender new taken)
header_sound node sender (message.Batch batch) header taken is = absurd (none-some header is)
header_sound node sender (message.BatchAck ack) header taken is = absurd (none-some header is)
header_sound node sender (message.Vote vote) header taken is = absurd (none-some header is)
header_sound node sender (message.Certificate certificate) header taken is = absurd (none-some header is)
header_sound node sender (message.Coin coin) header taken is = absurd (none-some header is)

certificate_sound : (node : Node) (sender : Author) (m : Message) (certificate : Certificate) → IsTaken node (record { sender = sender; message = m })
    → as_certificate m ≡ Some certificate → IsSound node certificate.header
certificate_sound node sender (message.Certificate new) certificate taken is = subst (λ (c : Certificate). IsSound node c.header)
    (same_Some new certificate is) (sound_certificate node sender new taken)
certificate_sound node sender (message.Batch batch) certificate taken is = absurd (none-some certificate is)
certificate_sound node sender (message.BatchAck ack) certificate taken is = absurd (none-some certificate is)
certificate_sound node sender (message.Header header) certificate taken is = absurd (none-some certificate is)
certificate_sound node sender (message.Vote vote) certificate taken is = absurd (none-some certificate is)
certificate_sound node sender (message.Coin coin) certificate taken is = absurd (none-some certificate is)

-- each certificate above the genesis is of such a header
pub sound : (node : Node) (history : History) → IsLegal node history → (certificate : Certificate) → Contains (certificates node history) certificate
    → 0 < certificate.header.round → IsSound node certificate.header
sound node history legal certificate inside above =
    let first = map genesis (numbers (size_of node)) in
    elim (Contains-append_cases (first ++ received history) (filter_map (completed node history) (headers history)) certificate inside) [
      | inl front ↦ elim (Contains-append_cases first (received history) certificate front) [
        | inl at_first ↦
            let zero : certificate.header.round ≡ 0 = ap (λ (c : Certificate). c.header.round) (genesis_is (numbers (size_of node)) certificate at_first) in
            absurd (omega (arith, above, zero))
        | inr came ↦
            let event = Contains-made (λ e. as_certificate e.message) history certificate came in
            certificate_sound node event.0.sender event.0.message certificate (All-contains (IsTaken node) history event.0 legal.taken event.1) event.2
      ]
      | inr made ↦
          let header = Contains-made (completed node history) (headers history) certificate made in
          let event = Contains-made (λ e. as_header e.message) history header.0 header.1 in
          let is = header_sound node event.0.sender event.0.message header.0 (All-contains (IsTaken node) history event.0 legal.taken event.1) event.2 in
          subst (IsSound node) (sym (completed-header node history header.0 certificate header.2)) is
    ]

-- ---- rooted certificates

-- the authors of parents that rise are above the first one
above_first : (p : ParentReference) (rest : List ParentReference) → parents_rise (p ∷ rest) ≡ true → All (λ q. p.author.0 < q.author.0) rest
above_first p [] rise = All-nil (λ q. p.author.0 < q.author.0)
above_first p (q ∷ rest) rise =
    let parts = and_parts (nat_lt p.author.0 q.author.0) (parents_rise (q ∷ rest)) rise in
    let less = ltb-true _ _ parts.0 in
    All-cons (λ r. p.author.0 < r.author.0) q rest less
    (All-weaker (λ r. q.author.0 < r.author.0) (λ r. p.author.0 < r.author.0) (λ r more. omega (arith, less, more)) rest (above_first q rest parts.1))

rest_rises : (p : ParentReference) (rest : List ParentReference) → parents_rise (p ∷ rest) ≡ true → parents_rise rest ≡ true
rest_rises p [] rise = refl
rest_rises p (q ∷ rest) rise = (and_parts (nat_lt p.author.0 q.author.0) (parents_rise (q ∷ rest)) rise).1

-- so each member is named once
apart : (parents : List ParentReference) → parents_rise parents ≡ true → AllPairs (λ one other. one.author.0 ≢ other.author.0) parents
apart [] rise = λ i j d lt within. absurd (omega (arith, within))
apart (p ∷ rest) rise =
    AllPairs-cons (λ one other. one.author.0 ≢ other.author.0) p rest
    (All-weaker (λ q. p.author.0 < q.author.0) (λ q. p.author.0 ≢ q.author.0) (λ q less same. omega (arith, less, same)) rest (above_first p rest rise))
    (apart rest (rest_rises p rest rise))

each_member : (node : Node) (parents : List ParentReference) → list_all (λ p. is_member node.charter p.author) parents ≡ true → All (λ p. p.author.0 < length node.charter.keys) parents
each_member node [] members = All-nil (λ p. p.author.0 < length node.charter.keys)
each_member node (p ∷ rest) members =
    let parts = and_parts (is_member node.charter p.author) (list_all (λ q. is_member node.charter q.author) rest) members in
    All-cons (λ q. q.author.0 < length node.charter.keys) p rest (ltb-true _ _ parts.0) (each_member node rest parts.1)

-- and together they are a quorum
pub names_quorum : (node : Node) → IsNode node → (c : Certificate) → IsSound node c.header → quorum_of node.charter ≤ weight node.charter (is_named_by c)
names_quorum node legal c is =
    let parents = c.header.parents in
    let listed = weight-listed node.charter (λ (p : ParentReference). p.author.0) parents (each_member node parents is.members) (apart parents is.rise) in
    let stakes = named_weigh node.charter legal.charter.staked parents is.members in
    omega (arith, is.quorum, listed, stakes)

pub same_digests : (one other : List ℕ) → bytes_eq one other ≡ true → bytes_eq other one ≡ true
same_digests one other same = (bytes_eq-Decides other one).1 (sym ((bytes_eq-Decides one other).0 same))

-- a parent that is held by its certificate, since it lies too high for the floor
parent_held : (node : Node) (history : History) (event : Event) → Adds node history event → (round : ℕ) (p : ParentReference)
    → is_held (slots node history) (floor node history) round p ≡ true → floor node history < round - 1
    → (parent : Certificate) × (slots node (history ++ event ∷ []) (round - 1) p.author.0 ≡ Some parent) × (is_named parent p ≡ true)
parent_held node history event adds round p held high =
    elim (given_or_none (slots node history (round - 1) p.author.0)) [
      | inr none ↦
          let low = rw none at held in
          let within = leb-true _ _ (and_parts (nat_lt 0 (floor node history)) (nat_le (round - 1) (floor node history)) low).1 in
          absurd (omega (arith, within, high))
      | inl found ↦
          let parent = found.0 in
          let place = slot_is (round - 1) p.author.0 parent.header (in_place node history (round - 1) p.author.0 parent found.1) in
          let held' = rw found.1 at held in
          elim (cases_Bool (same_digest (certificate_digest parent.header) p.certificate)) [
            | inl same ↦ (
              parent,
              kept_slot node history event adds (round - 1) p.author.0 parent found.1,
              and_from _ _ (ap (λ a. p.author.0 == a) place.1 ∙ same_number p.author.0) (same_digests (certificate_digest parent.header).0 p.certificate.0 same),
            )
            | inr other ↦
                let low = rw other at held' in
                let within = leb-true _ _ (and_parts (nat_lt 0 (floor node history)) (nat_le (round - 1) (floor node history)) low).1 in
                absurd (omega (arith, within, high))
          ]
    ]

-- a committee has members
pub members_some : (node : Node) → IsNode node → 0 < size_of node
members_some node sound = let member = sound.member in omega (arith, member)

-- the floor lies at least two rounds below the last committed leader
floor_below : (node : Node) (history : History) (wave : ℕ) (last : Certificate) → IsLegal node history → top (ledger_at node history) ≡ Some wave
    → leader (ledger_at node history) wave ≡ Some last → (round : ℕ) → last.header.round + 1 < round → floor node history < round - 1
floor_below node history wave last legal is_top is_last round above =
    let sound = legal.sound in
    let depth = sound.charter.depth.0 in
    let is : floor node history ≡ (2 * wave - 1) - node.charter.depth = ap (λ o. option_map_or (λ w. (2 * w - 1) - node.charter.depth) o 0) is_top in
    let some = (is_top_of (ledger_at node history) (length (coins history)) wave is_top).some in
    let next : wave ≡ suc (wave - 1) = omega (arith, some) in
    let is_last' : leader (ledger_at node history) (suc (wave - 1)) ≡ Some last = ap (leader (ledger_at node history)) (sym next) ∙ is_last in
    let place = leader_place (ledger_at node history) (wave - 1) last (members_some node sound) (in_place node history) is_last' in
    omega (arith, is, place.0, above, some, depth)

rooted_at : (node : Node) (history : History) (event : Event) → Adds node history event → (wave : ℕ) (last : Certificate) → top (ledger_at node history) ≡ Some wave
    → leader (ledger_at node history) wave ≡ Some last → AreRooted node.charter (slots node (history ++ event ∷ [])) (last.header.round + 1)
rooted_at node history event adds wave last is_top is_last round author c held above =
    let n = size_of node in
    let later = history ++ event ∷ [] in
    let was = closed node history adds.legal in
    let place = slot_is round author c.header (in_place node later round author c held) in
    let inside = (found_passes (λ d. is_of_slot round author d.header) (certificates node later) c held).1 in
    let is = sound node later adds.longer c inside (omega (arith, place.0, above)) in
    let all : all_held (slots node history) (floor node history) c.header ≡ true =
    elim (given_or_none (slots node history round author)) [
      | inl old ↦
          let same : old.0 ≡ c = same_Some old.0 c (sym (kept_slot node history event adds round author old.0 old.1) ∙ held) in
          ap (λ (d : Certificate). all_held (slots node history) (floor node history) d.header) (sym same) ∙ was.of_slots round author old.0 old.1
      | inr none ↦ (added_by node history event.sender event.message was adds c (newly node history event adds round author c none held)).held
    ] in
    let low : floor node history < round - 1 = floor_below node history wave last adds.legal is_top is_last round above in
    record {
      member = subst (λ a. a < n) place.1 is.member;
      quorum = names_quorum node adds.legal.sound c is;
      held = λ p among. parent_held node history event adds round p
          (ap (λ r. is_held (slots node history) (floor node history) r p) (sym place.0) ∙ all_to (is_held (slots node history) (floor node history) c.header.round) c.header.parents p all among) low;
    }

-- ---- the order

-- what one more event makes longer
pub longer : (node : Node) (history : History) (event : Event) → Adds node history event → IsLonger (ledger_at node history) (slots node (history ++ event ∷ []))
longer node history event adds =
    record {
      sound = adds.legal.sound.charter;
      ext = extends node history event (closed node history adds.legal) adds;
      rooted = rooted_at node history event adds;
    }

step : (node : Node) (history : History) (event : Event) → Adds node history event → Begins (order node history) (order node (history ++ event ∷ []))
step node history event adds =
    let more = option_to_list (as_coin event.message) in
    let grown = order_longer (ledger_at node history) (slots node (history ++ event ∷ [])) (longer node history event adds) more in
    record {
      rest = grown.rest;
      parts = ap (λ c. order_by (ledger_of node (slots node (history ++ event ∷ [])) c)) (coins_later history event) ∙ grown.parts;
    }

pub order_grows : OrderGrows
order_grows node history more legal =
    legal-grows node (λ later. Begins (order node history) (order node later))
    (λ later event adds so_far.
    let next = step node later event adds in
    record { rest = so_far.rest ++ next.rest; parts = next.parts ∙ ap (λ l. l ++ next.rest) so_far.parts ∙ append_assoc (order node history) so_far.rest next.rest })
    history more legal (record { rest = []; parts = sym (append-nil (order node history)) })
