use Rattle.std.proofs.Common.{rules, ◌≡◌, ◌+◌, ◌-◌, ◌*◌, ◌/◌, codes, length, map, true, false, nat_le, Some, refl, sym, ◌∙◌, ap, arith}
use Rattle.std.specs.Prelude.{sum}
use Rattle.std.specs.List.{list_any, filter_map}
use Rattle.std.proofs.lemmas.List.{length-map}
use Rattle.toml.specs.Data.{get_member}
use Rattle.toml.specs.View.{view, table_view}
use Rattle.committee.specs.Keys.{key_of, repeats}
use Rattle.committee.specs.File.{is_size, has_stakes, stakes_in}
use Rattle.committee.proofs.AnswerLemmas.{size-bounds, total-bounds, answer-read, answer-size, good-size, answer-repeats}
use Rattle.committee.proofs.ElementLemmas.{length-read}
use Rattle.committee.proofs.KeyLemmas.{distinct-keys}
use Rattle.committee.proofs.FileLemmas.{limit-bounds}
use Rattle.committee.proofs.StakeLemmas.{file-stakes, below-from_none}
use Rattle.committee.proofs.committee.committee_in.Goals as goal

pub total_of-total-requires : goal.total_of-total-requires
total_of-total-requires c =
    let file = table_view c.args.table.now in
    let members = length c.in-Some.elements.now in
    let stakes = c.in_ok-stakes.stakes.items in
    let size : is_size (has_stakes file) members ≡ true = search (rules, c.if-not-is_size.ensures, c.has_stakes.ensures) in
    (total-bounds file members _ stakes c.deref-2.result.now size c.in_ok-stakes.ensures.stakes c.deref-2.ensures.value refl).1

pub quorum_of-quorum-requires : goal.quorum_of-quorum-requires
quorum_of-quorum-requires c =
    let file = table_view c.args.table.now in
    let members = length c.in-Some.elements.now in
    let stakes = c.in_ok-stakes.stakes.items in
    let size : is_size (has_stakes file) members ≡ true = search (rules, c.if-not-is_size.ensures, c.has_stakes.ensures) in
    (total-bounds file members c.total_of-total.result stakes c.deref-2.result.now size c.in_ok-stakes.ensures.stakes c.deref-2.ensures.value c.total_of-total.ensures).1

pub tolerated_of-requires : goal.tolerated_of-requires
tolerated_of-requires c =
    let file = table_view c.args.table.now in
    let members = length c.in-Some.elements.now in
    let stakes = c.in_ok-stakes.stakes.items in
    let size : is_size (has_stakes file) members ≡ true = search (rules, c.if-not-is_size.ensures, c.has_stakes.ensures) in
    omega (arith, (total-bounds file members c.total_of-total.result stakes c.deref-2.result.now size c.in_ok-stakes.ensures.stakes c.deref-2.ensures.value c.total_of-total.ensures).0)

pub support_of-requires : goal.support_of-requires
support_of-requires c =
    let file = table_view c.args.table.now in
    let members = length c.in-Some.elements.now in
    let stakes = c.in_ok-stakes.stakes.items in
    let size : is_size (has_stakes file) members ≡ true = search (rules, c.if-not-is_size.ensures, c.has_stakes.ensures) in
    (total-bounds file members c.total_of-total.result stakes c.deref-2.result.now size c.in_ok-stakes.ensures.stakes c.deref-2.ensures.value c.total_of-total.ensures).1

pub returns-then-one_is_quorum-clause-refused : goal.returns-then-one_is_quorum-clause-refused
returns-then-one_is_quorum-clause-refused c _ =
    let file = table_view c.args.table.now in
    let list = map view c.in-Some.elements.now in
    let stakes = c.in_ok-stakes.stakes.items in
    let size : is_size (has_stakes file) (length list) ≡ true = rw length-map (search (rules, c.if-not-is_size.ensures, c.has_stakes.ensures)) in
    let distinct : repeats (filter_map key_of list) ≡ false = cc (c.if-repeats.ensures, c.deref.ensures.value, c.in_ok-keys.ensures.keys) in
    let staked : stakes_in (length list) file ≡ Some stakes = rw length-map c.in_ok-stakes.ensures.stakes in
    let quorum : c.quorum_of-quorum.result ≡ 2 * sum stakes / 3 + 1 = c.quorum_of-quorum.ensures
    ∙ ap (λ n. 2 * n / 3 + 1) (c.total_of-total.ensures ∙ ap sum c.deref-2.ensures.value) in
    let reaches : list_any (λ stake. nat_le (2 * sum stakes / 3 + 1) stake) stakes ≡ true = sym (c.if-one_is_quorum.ensures
    ∙ ap (list_any (λ stake. nat_le c.quorum_of-quorum.result stake)) c.deref-3.ensures.value ∙ ap (λ q. list_any (λ stake. nat_le q stake) stakes) quorum) in
    let read = answer-read file list stakes c.in-Some-Some-Some.depth c.in-Some-Some-Some.workers c.in-Some-Some-Some.batches c.in-Some.ensures size
    c.in_ok-keys.ensures.each distinct c.in-Some-Some-Some.ensures c.in-Some-Some-Some.ensures' c.in-Some-Some-Some.ensures'' staked in
    rw reaches at read

pub returns-clause-ok : goal.returns-clause-ok
returns-clause-ok c =
    let file = table_view c.args.table.now in
    let list = map view c.in-Some.elements.now in
    let stakes = c.in_ok-stakes.stakes.items in
    let size : is_size (has_stakes file) (length list) ≡ true = rw length-map (search (rules, c.if-not-is_size.ensures, c.has_stakes.ensures)) in
    let distinct : repeats (filter_map key_of list) ≡ false = cc (c.if-repeats.ensures, c.deref.ensures.value, c.in_ok-keys.ensures.keys) in
    let staked : stakes_in (length list) file ≡ Some stakes = rw length-map c.in_ok-stakes.ensures.stakes in
    let quorum : c.quorum_of-quorum.result ≡ 2 * sum stakes / 3 + 1 = c.quorum_of-quorum.ensures
    ∙ ap (λ n. 2 * n / 3 + 1) (c.total_of-total.ensures ∙ ap sum c.deref-2.ensures.value) in
    let none : list_any (λ stake. nat_le (2 * sum stakes / 3 + 1) stake) stakes ≡ false = sym (c.if-one_is_quorum.ensures
    ∙ ap (list_any (λ stake. nat_le c.quorum_of-quorum.result stake)) c.deref-3.ensures.value ∙ ap (λ q. list_any (λ stake. nat_le q stake) stakes) quorum) in
    let read = answer-read file list stakes c.in-Some-Some-Some.depth c.in-Some-Some-Some.workers c.in-Some-Some-Some.batches c.in-Some.ensures size
    c.in_ok-keys.ensures.each distinct c.in-Some-Some-Some.ensures c.in-Some-Some-Some.ensures' c.in-Some-Some-Some.ensures'' staked in
    rw c.in_ok-keys.ensures.keys (rw none at read)

pub invariant_of-result : goal.invariant_of-result
invariant_of-result c =
    let file = table_view c.args.table.now in
    let stakes = c.in_ok-stakes.stakes.items in
    let are = file-stakes (length c.in-Some.elements.now) file stakes c.in_ok-stakes.ensures.stakes in
    let size = size-bounds (has_stakes file) (length c.in-Some.elements.now) (search (rules, c.if-not-is_size.ensures, c.has_stakes.ensures)) in
    let whole : length c.in_ok-keys.keys.items ≡ length c.in-Some.elements.now = ap length c.in_ok-keys.ensures.keys
    ∙ length-read key_of (map view c.in-Some.elements.now) c.in_ok-keys.ensures.each ∙ length-map c.in-Some.elements.now view in
    let total : c.total_of-total.result ≡ sum stakes = c.total_of-total.ensures ∙ ap sum c.deref-2.ensures.value in
    let quorum : c.quorum_of-quorum.result ≡ 2 * sum stakes / 3 + 1 = c.quorum_of-quorum.ensures ∙ ap (λ n. 2 * n / 3 + 1) total in
    let none : list_any (λ stake. nat_le (2 * sum stakes / 3 + 1) stake) stakes ≡ false = sym (c.if-one_is_quorum.ensures
    ∙ ap (list_any (λ stake. nat_le c.quorum_of-quorum.result stake)) c.deref-3.ensures.value ∙ ap (λ q. list_any (λ stake. nat_le q stake) stakes) quorum) in
    record {
      committee = record {
        size = rw whole size;
        distinct = distinct-keys c.in_ok-keys.keys.items (cc (c.if-repeats.ensures, c.deref.ensures.value));
        staked = are.count ∙ sym whole;
        stakes = are.each;
        shared = below-from_none (2 * sum stakes / 3 + 1) stakes none;
        depth = limit-bounds 2 1000 50 (get_member (codes "depth") file) _ (omega arith) (omega arith) c.in-Some-Some-Some.ensures;
        workers = limit-bounds 1 16 1 (get_member (codes "workers") file) _ (omega arith) (omega arith) c.in-Some-Some-Some.ensures';
        batches = limit-bounds 1 1048576 1048576 (get_member (codes "batches") file) _ (omega arith) (omega arith) c.in-Some-Some-Some.ensures'';
      };
      total_is = total;
      tolerated_is = c.tolerated_of.ensures ∙ ap (λ n. (n - 1) / 3) total;
      quorum_is = quorum;
      support_is = c.support_of.ensures ∙ ap (λ n. (n + 2) / 3) total;
    }

pub returns-then-not-is_size-clause-refused : goal.returns-then-not-is_size-clause-refused
returns-then-not-is_size-clause-refused c _ =
    let file = table_view c.args.table.now in
    let list = map view c.in-Some.elements.now in
    let size : is_size (has_stakes file) (length list) ≡ false = ap (λ n. is_size (has_stakes file) n) (length-map c.in-Some.elements.now view)
    ∙ sym (c.if-not-is_size.ensures ∙ ap (λ s. is_size s (length c.in-Some.elements.now)) c.has_stakes.ensures) in
    answer-size file list c.in-Some.ensures size

pub returns-in_err-keys-clause-memory : goal.returns-in_err-keys-clause-memory
returns-in_err-keys-clause-memory c _ =
    let file = table_view c.args.table.now in
    let list = map view c.in-Some.elements.now in
    let size : is_size (has_stakes file) (length list) ≡ true = ap (λ n. is_size (has_stakes file) n) (length-map c.in-Some.elements.now view)
    ∙ sym (c.if-not-is_size.ensures ∙ ap (λ s. is_size s (length c.in-Some.elements.now)) c.has_stakes.ensures) in
    good-size file list c.in-Some.ensures size

pub returns-in_err-stakes-clause-memory : goal.returns-in_err-stakes-clause-memory
returns-in_err-stakes-clause-memory c _ =
    let file = table_view c.args.table.now in
    let list = map view c.in-Some.elements.now in
    let size : is_size (has_stakes file) (length list) ≡ true = ap (λ n. is_size (has_stakes file) n) (length-map c.in-Some.elements.now view)
    ∙ sym (c.if-not-is_size.ensures ∙ ap (λ s. is_size s (length c.in-Some.elements.now)) c.has_stakes.ensures) in
    good-size file list c.in-Some.ensures size

pub returns-then-repeats-clause-refused : goal.returns-then-repeats-clause-refused
returns-then-repeats-clause-refused c _ =
    let file = table_view c.args.table.now in
    let list = map view c.in-Some.elements.now in
    let size : is_size (has_stakes file) (length list) ≡ true = ap (λ n. is_size (has_stakes file) n) (length-map c.in-Some.elements.now view)
    ∙ sym (c.if-not-is_size.ensures ∙ ap (λ s. is_size s (length c.in-Some.elements.now)) c.has_stakes.ensures) in
    let repeated : repeats (filter_map key_of list) ≡ true = cc (c.if-repeats.ensures, c.deref.ensures.value, c.in_ok-keys.ensures.keys) in
    answer-repeats file list c.in-Some.ensures size c.in_ok-keys.ensures.each repeated
