-- The fresh state is sound: it holds the genesis, and nothing else.
use Rattle.std.proofs.Common.{◌≡◌, ℕ, zero, suc, ◌+◌, ◌^◌, ◌<◌, ◌≤◌, map, Some, inl, inr, refl, ap, sym, ◌∙◌, arith}
use Rattle.std.specs.Prelude.{find, ◌==◌}
use Rattle.std.specs.List.{range_with_len}
use Rattle.std.proofs.lemmas.Bool.{cases_Bool, eqb-true}
use Rattle.std.proofs.lemmas.List.Elements.{All-nil}
use Rattle.std.proofs.lemmas.Option.{none-some}
use Rattle.wire.specs.Fields.{IsDigest}
use Rattle.wire.specs.declared.message.Message.TheVariants as message
use Rattle.committee.specs.Charter.{numbers}
use Rattle.spec_model.specs.Admitting.{IsTaken}
use Rattle.spec_model.specs.Holdings.{genesis}
use Rattle.spec_model.specs.Nodes.{Node, IsNode, size_of}
use Rattle.spec_model.specs.Slots.{is_of_slot}
use Rattle.spec_model.specs.Words.{Certificate}
use Rattle.spec_laws.proofs.Lists.{found_passes}
use Rattle.spec_laws.proofs.Meeting.{mapped_from}
use Rattle.spec_laws.proofs.OrderGrows.{members_some}
use Rattle.spec_laws.proofs.Proposed.{number_below}
use Rattle.spec_laws.proofs.Votes.{slot_is}
use Rattle.spec_machine.specs.Laws.{FreshIsSound}
use Rattle.spec_machine.specs.Machine.{fresh}
use Rattle.spec_machine.specs.Sound.{AreBatches, AreVotes, AreCertificates}

-- ---- the genesis

-- of members' numbers each has its certificate of the genesis
pub genesis_found : (from count author : ℕ) → from ≤ author → author < from + count → find (λ c. is_of_slot 0 author c.header) (map genesis (range_with_len from count)) ≡ Some (genesis author)
genesis_found from zero author least most = absurd (omega (arith, least, most))
genesis_found from (suc count) author least most =
    elim (cases_Bool (from == author)) [
      | inl here ↦ let is = eqb-true from author here in rw here (ap (λ a. Some (genesis a)) is)
      | inr other ↦ rw other (genesis_found (from + 1) count author (grind (arith, least, other)) (omega (arith, most)))
    ]

-- what is held is the genesis of a member
record IsGenesis (node : Node) (round author : ℕ) (c : Certificate) : Type 0 where
  is : c ≡ genesis author
  first : round ≡ 0
  member : author < size_of node

genesis_held : (node : Node) (round author : ℕ) (c : Certificate) → (fresh node).slots round author ≡ Some c → IsGenesis node round author c
genesis_held node round author c held =
    let n = size_of node in
    let found = found_passes (λ d. is_of_slot round author d.header) (map genesis (numbers n)) c held in
    let from = mapped_from genesis (numbers n) c found.1 in
    let place = slot_is round author c.header found.0 in
    let by : from.0 ≡ author = ap (λ (d : Certificate). d.header.author.0) from.2 ∙ place.1 in
    let first : 0 ≡ round = ap (λ (d : Certificate). d.header.round) from.2 ∙ place.0 in
    let below = number_below 0 n from.0 from.1 in
    record { is = sym from.2 ∙ ap genesis by; first = sym first; member = omega (arith, below, by) }

-- ---- the fresh state

no_batches : (node : Node) → AreBatches node (fresh node)
no_batches node = record {
  passed = All-nil (λ batch. IsTaken node (record { sender = batch.author; message = message.Batch batch }));
  distinct = λ i j d less within. absurd (omega (arith, within));
  few = omega arith;
  acked = λ digest member is. absurd cc;
  by_members = λ digest member is. absurd cc;
  named = λ digest is. absurd cc;
}

no_votes : (node : Node) → AreVotes node (fresh node)
no_votes node = record {
  high = λ round author digest is. absurd (none-some digest is);
  for_members = λ round author digest is. absurd (none-some digest is);
  digests = λ round author digest is. absurd (none-some digest is);
  rounds = λ round author digest is. absurd (none-some digest is);
  own = λ round. refl;
  headers = λ round header is. absurd (none-some header is);
  counted = λ round voter vote is. absurd (none-some vote is);
  complete = λ round header is enough. absurd (none-some header is);
}

the_genesis : (node : Node) → IsNode node → AreCertificates node (fresh node)
the_genesis node sound = record {
  placed = λ round author c held. (found_passes (λ d. is_of_slot round author d.header) (map genesis (numbers (size_of node))) c held).0;
  above = λ round author c held. omega arith;
  passed = λ round author c held. inl (genesis_held node round author c held).is;
  of_members = λ round author c held. (genesis_held node round author c held).member;
  genesis = λ least author member. genesis_found 0 (size_of node) author (omega arith) (omega (arith, member));
  highest = λ round author c held. let first = (genesis_held node round author c held).first in omega (arith, first);
  reached = (0, genesis 0, genesis_found 0 (size_of node) 0 (omega arith) (omega (arith, members_some node sound)));
}

pub fresh_is_sound : FreshIsSound
fresh_is_sound node sound = record {
  batches = no_batches node;
  votes = no_votes node;
  certificates = the_genesis node sound;
  coins = All-nil (λ coin. coin < 2 ^ 64);
  ordered = All-nil IsDigest;
  order = (λ empty. refl, λ none. refl);
}
