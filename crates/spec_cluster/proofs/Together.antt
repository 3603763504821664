-- What the honest members agree on: certificates, and the orders that they gave out.
use Rattle.std.proofs.Common.{◌≡◌, ℕ, Bool, true, List, ◌++◌, length, Some, inl, inr, sym, ◌∙◌, subst, arith}
use Rattle.std.specs.Prelude.{Contains}
use Rattle.std.proofs.lemmas.Bool.{cases_lt}
use Rattle.committee.specs.Charter.{IsCharter}
use Rattle.spec_accord.specs.Accord.{Agree}
use Rattle.spec_accord.specs.Members.{IsParty, HasCoins}
use Rattle.spec_accord.proofs.Agreeing.{orders_agree}
use Rattle.spec_accord.proofs.CoinsAgree.{coins_agree}
use Rattle.spec_accord.proofs.OneHeader.{headers_agree}
use Rattle.spec_laws.proofs.Closed.{kept_slot}
use Rattle.spec_laws.proofs.InSlots.{in_slots}
use Rattle.spec_laws.proofs.Legal.{legal-begins, legal-grows}
use Rattle.spec_model.specs.Admitting.{IsLegal}
use Rattle.spec_model.specs.Histories.{History}
use Rattle.wire.specs.Lists.{Begins}
use Rattle.spec_model.specs.Holdings.{order, slots}
use Rattle.spec_model.specs.Nodes.{Node}
use Rattle.spec_model.specs.Words.{Certificate, Digest, Event}
use Rattle.spec_world.specs.Lasting.{settled_in}
use Rattle.spec_world.specs.Steps.{accept}
use Rattle.spec_world.proofs.Lasting.{given_orders_are_settled}
use Rattle.spec_world.proofs.Orders.{shorter_begins, begins_trans}
use Rattle.spec_world.proofs.Standing.{Stands, settled_legal}
use Rattle.spec_cluster.specs.Cluster.{Cluster, Worlds, Turn, Passes, AreMembers, IsReached, HaveRun}
use Rattle.spec_cluster.specs.Premises.{party_of, FewFaulty, NoTwoTexts, has_signed, HasCoin, IsFair, Fair, ComesFair}
use Rattle.spec_cluster.specs.Agreement.{HeldIt, GaveIt, AreAgreed, Agreement, RunsAgree}
use Rattle.spec_cluster.proofs.Running.{moves_of, each_runs, came_at, each_stands, settled_came}
use Rattle.spec_cluster.proofs.Signing.{still_signed, given_is_of}

-- a slot that is filled stays so
slot_stays : (node : Node) (history more : History) (round author : ℕ) (certificate : Certificate) → IsLegal node (history ++ more) → slots node history round author ≡ Some certificate
    → slots node (history ++ more) round author ≡ Some certificate
slot_stays node history more round author certificate legal held =
    legal-grows node (λ h. slots node h round author ≡ Some certificate) (λ h event adds before. kept_slot node h event adds round author certificate before) history more legal held

-- of two beginnings of one list one begins the other
beginnings_agree : (one other all : List Digest) → Begins one all → Begins other all → Agree one other
beginnings_agree one other all first second =
    elim (cases_lt (length other) (length one)) [
      | inl less ↦ inr (shorter_begins other one all second first (omega (arith, less)))
      | inr less ↦ inl (shorter_begins one other all first second less)
    ]

beginnings_of : (one other first second : List Digest) → Begins one first → Begins other second → Agree first second → Agree one other
beginnings_of one other first second begins also (inl longer) = beginnings_agree one other second (begins_trans one first second begins longer) also
beginnings_of one other first second begins also (inr longer) = beginnings_agree one other first begins (begins_trans other second first also longer)

module _ (cluster : Cluster) (value : ℕ → ℕ) (worlds : Worlds) (sound : IsCharter cluster.charter) (members : AreMembers cluster) (few : FewFaulty cluster)
    (have : HaveRun cluster (ComesFair cluster value worlds) worlds) (clash : NoTwoTexts cluster worlds) where
  stands : (member : ℕ) → cluster.honest member ≡ true → Stands (cluster.node member) (worlds member)
  stands = each_stands cluster (ComesFair cluster value worlds) members worlds have

  -- what is settled passed, and is fair
  came : (member : ℕ) → cluster.honest member ≡ true → (event : Event) → Contains (settled_in (worlds member)) event → ComesFair cluster value worlds event
  came = settled_came cluster (ComesFair cluster value worlds) members worlds have

  pub is_party : IsParty (party_of cluster worlds) (λ member. has_signed (worlds member))
  is_party = record {
    sound = sound;
    few = few;
    charter = λ member honest. (members member honest).charter;
    number = λ member honest. (members member honest).number;
    legal = λ member honest. settled_legal (cluster.node member) (worlds member) (stands member honest);
    passed = λ member honest event inside. (came member honest event inside).0;
    unforged = λ member honest event inside vote there signer good. (came member honest event inside).1.0 vote there signer good;
    given = λ member honest digest is. given_is_of cluster worlds member (stands member honest) digest is;
    clash = clash;
  }

  has_coins : HasCoins (party_of cluster worlds) value
  has_coins = record {
    each = λ member honest event inside coin is.
        let fair = came member honest event inside in
        subst (HasCoin value) is fair.1.1;
  }

  -- what a member held is in its slots now
  held_now : (member : ℕ) (certificate : Certificate) → HeldIt cluster worlds member certificate
      → slots (cluster.node member) (settled_in (worlds member)) certificate.header.round certificate.header.author.0 ≡ Some certificate
  held_now member certificate held =
      let node = cluster.node member in
      let begins = held.settled in
      let legal : IsLegal node (held.history ++ begins.rest) = subst (IsLegal node) begins.parts (settled_legal node (worlds member) (stands member held.honest)) in
      let slot = in_slots node held.history (legal-begins node held.history begins.rest legal) certificate held.held in
      subst (λ h. slots node h certificate.header.round certificate.header.author.0 ≡ Some certificate) (sym begins.parts)
      (slot_stays node held.history begins.rest certificate.header.round certificate.header.author.0 certificate legal slot)

  one_header_each : (member also : ℕ) (one other : Certificate) → HeldIt cluster worlds member one → HeldIt cluster worlds also other
      → one.header.author ≡ other.header.author → one.header.round ≡ other.header.round → one.header ≡ other.header
  one_header_each member also one other held held' author round =
      let agree = headers_agree (party_of cluster worlds) (λ m. has_signed (worlds m)) is_party member also held.honest held'.honest in
      let second : slots (cluster.node also) (settled_in (worlds also)) one.header.round one.header.author.0 ≡ Some other =
      (λ i. slots (cluster.node also) (settled_in (worlds also)) (round i) (author i).0) ∙ held_now also other held' in
      agree one.header.round one.header.author.0 one other (held_now member one held) second

  gave : (member : ℕ) (digests : List Digest) → GaveIt cluster worlds member digests → Begins digests (order (cluster.node member) (settled_in (worlds member)))
  gave member digests it =
      given_orders_are_settled (cluster.node member) (have.moves member) (worlds member) it.given digests (members member it.honest).is (have.runs member it.honest) it.among it.is

  orders_of : (member also : ℕ) → cluster.honest member ≡ true → cluster.honest also ≡ true
      → Agree (order (cluster.node member) (settled_in (worlds member))) (order (cluster.node also) (settled_in (worlds also)))
  orders_of member also honest honest' =
      let party = party_of cluster worlds in
      let signed : ℕ → Digest → Bool = λ m. has_signed (worlds m) in
      orders_agree (cluster.node member) (cluster.node also) (settled_in (worlds member)) (settled_in (worlds also)) (is_party.legal member honest) (is_party.legal also honest') (record {
        charter = is_party.charter member honest ∙ sym (is_party.charter also honest');
        slots = headers_agree party signed is_party member also honest honest';
        coins = coins_agree party signed value is_party has_coins member also honest honest';
      })

  are_agreed : AreAgreed cluster worlds
  are_agreed = record {
    certificates = one_header_each;
    orders = λ member also one other first second.
        beginnings_of one other (order (cluster.node member) (settled_in (worlds member))) (order (cluster.node also) (settled_in (worlds also))) (gave member one first) (gave also other second)
        (orders_of member also first.honest second.honest);
  }

pub runs_agree : RunsAgree
runs_agree cluster value worlds sound members few have clash = are_agreed cluster value worlds sound members few have clash

-- turns make a run of each member, and what was fair before a turn is fair in the end
reached_runs : (cluster : Cluster) (value : ℕ → ℕ) (turns : List Turn) (worlds : Worlds) → IsReached cluster (Fair cluster value) turns worlds
    → HaveRun cluster (ComesFair cluster value worlds) worlds
reached_runs cluster value turns worlds reached = record {
  moves = λ member. moves_of member turns;
  runs = λ member honest. each_runs cluster (Fair cluster value) member turns worlds reached honest;
  came = λ member honest event inside.
      let at = came_at cluster (Fair cluster value) member event reached.first turns worlds reached.leads inside in
      let fair : IsFair cluster value at.before (accept event) = subst (IsFair cluster value at.before) at.move at.assumed in (
        subst (Passes cluster) at.move at.passed,
        (λ vote there signer good. still_signed (at.before vote.signer.0) (worlds vote.signer.0) vote.digest (at.given vote.signer.0) (fair.0 vote there signer good), fair.1),
      );
}

pub agreement : Agreement
agreement cluster value turns worlds sound members few reached clash = runs_agree cluster value worlds sound members few (reached_runs cluster value turns worlds reached) clash
