use Rattle.std.proofs.Common.{◌≡◌, ◌+◌, ◌-◌, List, [], ◌++◌, Some, ap, ◌∙◌, arith}
use Rattle.spec_model.specs.Words.{Certificate, Digest}
use Rattle.dag.specs.Graph.{slots_in}
use Rattle.tusk.specs.Chain.{ledger_in}
use Rattle.flatten.specs.Segments.{leader_held, read_references_in, unmarked_references_in, digests_of, IsMarkedPast, IsMarkedBefore}
use Rattle.spec_model.specs.Ordering.{segment}
use Rattle.flatten.specs.Sets.{lowest_in, is_free, AreUnordered, Leads, HasAllOf}
use Rattle.flatten.proofs.Picking.{reads_few}
use Rattle.flatten.proofs.Taking.{AreFirst, bare, chained_sets, chained_reads, first_sets, first_reads}
use Rattle.flatten.proofs.segments.segment_counted.Goals as goal

-- before anything is ordered
first : (c : goal.After-drop-taken-2) (certificate : Certificate) → slots_in c.args.dag.now c.args.leader.0 c.args.leader.1.0 ≡ Some certificate
    → AreFirst c.args.dag.now c.args.leader certificate c.lowest-low.result (is_free c.args.dag.now c.args.leader.0 c.new-taken.result.items)
first c certificate held = record {
  is = c.limits_hold.ensures;
  held = held;
  lowest = c.lowest-low.ensures;
  unmarked = bare c.args.dag.now c.args.leader.0 c.new-taken.result.items c.new-taken.ensures.items;
}

-- who is free after what the leader before reaches
left_free : (c : goal.After-drop-taken-2) → AreUnordered c.args.dag.now (leader_held c.args.dag.now c.args.previous)
    (lowest_in c.args.dag.now c.args.leader.0) c.args.leader.0 (is_free c.args.dag.now c.args.leader.0 c.take_past.new.taken.items)
    → (certificate : Certificate) → slots_in c.args.dag.now c.args.leader.0 c.args.leader.1.0 ≡ Some certificate
    → Leads c.args.dag.now (leader_held c.args.dag.now c.args.previous) c.args.leader c.args.leader.0 (is_free c.args.dag.now c.args.leader.0 c.take_past.new.taken.items) certificate
left_free c unordered certificate held = record { held = held; within = omega arith; unordered = unordered }

marked_leads : (c : goal.After-drop-taken-2) (certificate : Certificate) → slots_in c.args.dag.now c.args.leader.0 c.args.leader.1.0 ≡ Some certificate
    → IsMarkedPast c.args.dag.now (c.args.leader.0 - c.args.dag.now.charter.depth) (leader_held c.args.dag.now c.args.previous)
    → Leads c.args.dag.now (leader_held c.args.dag.now c.args.previous) c.args.leader c.args.leader.0 (is_free c.args.dag.now c.args.leader.0 c.take_past.new.taken.items) certificate
marked_leads c certificate held marked =
    let graph = c.args.dag.now in
    left_free c (first_sets graph c.args.previous c.args.leader certificate c.lowest-low.result
    (is_free graph c.args.leader.0 c.new-taken.result.items) (is_free graph c.args.leader.0 c.take_past.new.taken.items)
    (first c certificate held) marked c.in_ok-past.ensures.sets (λ above r a. ap (λ l. is_free graph c.args.leader.0 l r a) (c.in_ok-past.ensures.same above))) certificate held

chained_leads : (c : goal.After-drop-taken-2) (certificate : Certificate) → slots_in c.args.dag.now c.args.leader.0 c.args.leader.1.0
    ≡ Some certificate → HasAllOf c.args.dag.now (leader_held c.args.dag.now c.args.previous) certificate
    → IsMarkedBefore c.args.dag.now (c.args.leader.0 - c.args.dag.now.charter.depth) (leader_held c.args.dag.now c.args.previous)
    → Leads c.args.dag.now (leader_held c.args.dag.now c.args.previous) c.args.leader c.args.leader.0 (is_free c.args.dag.now c.args.leader.0 c.take_past.new.taken.items) certificate
chained_leads c certificate held all marked =
    let graph = c.args.dag.now in
    left_free c (chained_sets graph c.args.previous c.args.leader certificate c.lowest-low.result
    (is_free graph c.args.leader.0 c.new-taken.result.items) (is_free graph c.args.leader.0 c.take_past.new.taken.items)
    (first c certificate held) all marked c.in_ok-past.ensures.sets) certificate held

-- what was read
marked_count : (c : goal.After-drop-taken-2) (certificate : Certificate) → slots_in c.args.dag.now c.args.leader.0 c.args.leader.1.0 ≡ Some certificate
    → IsMarkedPast c.args.dag.now (c.args.leader.0 - c.args.dag.now.charter.depth) (leader_held c.args.dag.now c.args.previous)
    → c.in_ok-past.past + c.in_ok-reads.reads ≡ read_references_in c.args.dag.now (leader_held c.args.dag.now c.args.previous) certificate
marked_count c certificate held marked =
    let graph = c.args.dag.now in
    let none = first_reads graph c.args.previous c.args.leader certificate c.lowest-low.result c.in_ok-past.past
    (is_free graph c.args.leader.0 c.new-taken.result.items) (first c certificate held) marked c.in_ok-past.ensures.reads
    c.in_ok-past.ensures.unheld c.in_ok-past.ensures.none in
    let read = c.in_ok-reads.ensures.reads (leader_held graph c.args.previous) certificate (marked_leads c certificate held marked) in
    omega (arith, none, read)

chained_count : (c : goal.After-drop-taken-2) (certificate : Certificate) → slots_in c.args.dag.now c.args.leader.0 c.args.leader.1.0
    ≡ Some certificate → HasAllOf c.args.dag.now (leader_held c.args.dag.now c.args.previous) certificate
    → IsMarkedBefore c.args.dag.now (c.args.leader.0 - c.args.dag.now.charter.depth) (leader_held c.args.dag.now c.args.previous)
    → c.in_ok-past.past + c.in_ok-reads.reads ≡ read_references_in c.args.dag.now (leader_held c.args.dag.now c.args.previous) certificate +
    unmarked_references_in c.args.dag.now (lowest_in c.args.dag.now c.args.leader.0) (leader_held c.args.dag.now c.args.previous)
chained_count c certificate held all marked =
    let graph = c.args.dag.now in
    let more = chained_reads graph c.args.previous c.args.leader certificate c.lowest-low.result c.in_ok-past.past
    (is_free graph c.args.leader.0 c.new-taken.result.items) (first c certificate held) all marked c.in_ok-past.ensures.reads
    c.in_ok-past.ensures.unheld in
    let read = c.in_ok-reads.ensures.reads (leader_held graph c.args.previous) certificate (chained_leads c certificate held all marked) in
    omega (arith, more, read)

pub returns-clause-digests : goal.returns-clause-digests
returns-clause-digests c certificate coins held marked =
    let graph = c.args.dag.now in
    let previous = leader_held graph c.args.previous in
    c.in_ok-reads.ensures.digests previous certificate (marked_leads c certificate held marked)
    ∙ ap (λ (l : List Digest). l ++ digests_of (segment (ledger_in graph []) previous certificate)) c.new-digests.ensures.items

pub returns-clause-reads : goal.returns-clause-reads
returns-clause-reads c certificate held marked =
    let exact = marked_count c certificate held marked in
    let few = reads_few c.args.dag.now (leader_held c.args.dag.now c.args.previous) certificate in
    omega (arith, exact, few)

pub returns-clause-exact : goal.returns-clause-exact
returns-clause-exact c certificate held marked = marked_count c certificate held marked

pub returns-clause-chained : goal.returns-clause-chained
returns-clause-chained c certificate coins held all marked =
    let graph = c.args.dag.now in
    let previous = leader_held graph c.args.previous in
    c.in_ok-reads.ensures.digests previous certificate (chained_leads c certificate held all marked)
    ∙ ap (λ (l : List Digest). l ++ digests_of (segment (ledger_in graph []) previous certificate)) c.new-digests.ensures.items

pub returns-clause-chained_reads : goal.returns-clause-chained_reads
returns-clause-chained_reads c certificate held all marked =
    let exact = chained_count c certificate held all marked in
    let few = reads_few c.args.dag.now (leader_held c.args.dag.now c.args.previous) certificate in
    omega (arith, exact, few)

pub returns-clause-chained_exact : goal.returns-clause-chained_exact
returns-clause-chained_exact c certificate held all marked = chained_count c certificate held all marked
