-- What honest members ever held, settled or not.
use Rattle.std.proofs.Common.{◌≡◌, ℕ, Bool, true, List, Some, inl, inr, sym, ◌∙◌, subst, arith}
use Rattle.std.specs.Prelude.{◌<◌, length, Contains}
use Rattle.std.proofs.lemmas.List.Elements.{Contains-append_left}
use Rattle.committee.specs.Charter.{IsCharter}
use Rattle.committee.proofs.Weights.{weight-one}
use Rattle.spec_accord.specs.Members.{HaveNoClash, IsReported, bodies_in, IsParty, IsMoment, HasHeaders, IsReportedAt}
use Rattle.spec_accord.proofs.OneHeader.{headers_agree_ever}
use Rattle.spec_laws.proofs.InSlots.{in_slots}
use Rattle.spec_model.specs.Admitting.{IsLegal}
use Rattle.spec_model.specs.Histories.{History}
use Rattle.spec_model.specs.Holdings.{slots}
use Rattle.spec_model.specs.Words.{Certificate, Digest, Event, HeaderBody}
use Rattle.spec_world.specs.Lasting.{settled_in}
use Rattle.spec_world.specs.Steps.{Move, accept}
use Rattle.spec_world.proofs.Lasting.{events_came_in}
use Rattle.spec_world.proofs.Law.{run_stands}
use Rattle.spec_cluster.specs.Agreement.{StoodAt, HeldEver, EverAgree}
use Rattle.spec_cluster.specs.Cluster.{Cluster, Worlds, AreMembers, HaveRun}
use Rattle.spec_cluster.specs.Premises.{party_of, FewFaulty, NoTwoTexts, has_signed, ComesFair, NeedsOthers, NoForgedHeader, IsReportedEver, EqualsNeedOthers}
use Rattle.spec_cluster.proofs.Running.{each_stands, settled_in_moves}
use Rattle.spec_cluster.proofs.Signing.{given_is_voted}
use Rattle.spec_cluster.proofs.Together.{is_party}

-- of fewer headers no two texts share a digest either
clash_within : (One Other : HeaderBody → Type 0) → ((body : HeaderBody) → One body → Other body) → HaveNoClash Other → HaveNoClash One
clash_within One Other within none = record {
  headers = λ one other reported reported' same. none.headers one other (within one reported) (within other reported') same;
  certificates = λ one other reported reported' same. none.certificates one other (within one reported) (within other reported') same;
  both = λ one other reported reported' same. none.both one other (within one reported) (within other reported') same;
}

module _ (cluster : Cluster) (value : ℕ → ℕ) (worlds : Worlds) (sound : IsCharter cluster.charter) (members : AreMembers cluster) (few : FewFaulty cluster) (others : NeedsOthers cluster)
    (have : HaveRun cluster (ComesFair cluster value worlds) worlds)
    (headers : (member : ℕ) → cluster.honest member ≡ true → (event : Event) → Contains (have.moves member) (accept event) → NoForgedHeader cluster worlds member event)
    (none : HaveNoClash (IsReportedEver cluster have.moves)) where
  abbrev signed : ℕ → Digest → Bool
  signed member = has_signed (worlds member)

  settled_ever : (body : HeaderBody) → IsReported (party_of cluster worlds) body → IsReportedEver cluster have.moves body
  settled_ever body reported = record {
    member = reported.member;
    honest = reported.honest;
    events = settled_in (worlds reported.member);
    came = λ event inside. settled_in_moves cluster (ComesFair cluster value worlds) members worlds have reported.member reported.honest event inside;
    reported = reported.reported;
  }

  clash : NoTwoTexts cluster worlds
  clash = clash_within (IsReported (party_of cluster worlds)) (IsReportedEver cluster have.moves) settled_ever none

  party : IsParty (party_of cluster worlds) signed
  party = is_party cluster value worlds sound members few have clash

  has_headers : HasHeaders (party_of cluster worlds) signed
  has_headers = record {
    others = others;
    unforged = λ member honest event inside header is by differs good.
        headers member honest event (settled_in_moves cluster (ComesFair cluster value worlds) members worlds have member honest event inside) header is by differs good;
    given = λ member honest digest is.
        given_is_voted cluster worlds member (each_stands cluster (ComesFair cluster value worlds) members worlds have member honest) digest is;
  }

  -- a member stood at a history
  module _ (member : ℕ) (honest : cluster.honest member ≡ true) (history : History) (stood : StoodAt (cluster.node member) (have.moves member) history) where
    came : (event : Event) → Contains history event → Contains (have.moves member) (accept event)
    came event inside =
        subst (λ (l : List Move). Contains l (accept event)) (sym stood.parts)
        (Contains-append_left stood.front stood.rest (accept event)
        (events_came_in (cluster.node member) stood.front stood.middle event (members member honest).is stood.run (subst (λ (l : History). Contains l event) stood.is inside)))

    moment : IsMoment (party_of cluster worlds) signed member history
    moment = record {
      honest = honest;
      legal = subst (IsLegal (cluster.node member)) (sym stood.is) (run_stands (cluster.node member) stood.front stood.middle (members member honest).is stood.run).legal;
      passed = λ event inside. (have.came member honest event (came event inside)).0;
      unforged = λ event inside vote there by good. (have.came member honest event (came event inside)).1.0 vote there by good;
    }

    reported_ever : (body : HeaderBody) → Contains (bodies_in history) body → IsReportedEver cluster have.moves body
    reported_ever body inside = record { member = member; honest = honest; events = history; came = came; reported = inside }

  ever_agree : (member also : ℕ) (one other : Certificate) → HeldEver cluster have.moves member one → HeldEver cluster have.moves also other
      → one.header.author ≡ other.header.author → one.header.round ≡ other.header.round → one.header ≡ other.header
  ever_agree member also one other held held' author round =
      let at = moment member held.honest held.history held.stood in
      let then = moment also held'.honest held'.history held'.stood in
      let ever : (body : HeaderBody) → IsReportedAt (party_of cluster worlds) held.history held'.history body → IsReportedEver cluster have.moves body = λ body reported. elim reported [
        | inl settled ↦ settled_ever body settled
        | inr some ↦ elim some [
          | inl inside ↦ reported_ever member held.honest held.history held.stood body inside
          | inr inside ↦ reported_ever also held'.honest held'.history held'.stood body inside
        ]
      ] in
      let agree = headers_agree_ever (party_of cluster worlds) signed party has_headers member also held.history held'.history at then
      (clash_within (IsReportedAt (party_of cluster worlds) held.history held'.history) (IsReportedEver cluster have.moves) ever none) in
      let second : slots (cluster.node also) held'.history one.header.round one.header.author.0 ≡ Some other =
      (λ i. slots (cluster.node also) held'.history (round i) (author i).0) ∙ in_slots (cluster.node also) held'.history then.legal other held'.held in
      agree one.header.round one.header.author.0 one other (in_slots (cluster.node member) held.history at.legal one held.held) second

pub certificates_ever_agree : EverAgree
certificates_ever_agree cluster value worlds sound members few others have headers none = ever_agree cluster value worlds sound members few others have headers none

-- one member of a stake of 1 is no quorum with those who are tolerated
pub equals_need_others : EqualsNeedOthers
equals_need_others cluster sound members ones member honest =
    let within = (members member honest).within in
    let weighs = weight-one cluster.charter member within in
    let inside : member < length cluster.charter.stakes = omega (arith, within, sound.staked) in
    let one = ones member 0 inside in
    let shared = sound.shared member 0 inside in
    omega (arith, weighs, one, shared)
