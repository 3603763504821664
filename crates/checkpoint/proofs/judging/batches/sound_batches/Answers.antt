use Rattle.std.proofs.Common.{◌≡◌, ℕ, Bool, ◌++◌, ◌∷◌, [], List, length, Option, Some, true, false, refl, sym, ap, subst, ◌∙◌, length-append, arith, rules, map-id}
use Rattle.std.specs.Prelude.{All, not, IfSome}
use Rattle.std.specs.BTreeSet.{contains}
use Rattle.std.specs.Map.{values_of}
use Rattle.std.proofs.lemmas.Iterator.Adapters.{YieldsList-from_vec}
use Rattle.std.proofs.lemmas.Iterator.Consumers.{YieldsList-so_far, YieldsList-turn}
use Rattle.std.proofs.lemmas.List.{length-map}
use Rattle.std.proofs.lemmas.List.Elements.{All-nil, All-push}
use Rattle.batchstore.proofs.Keyed.{values-push}
use Rattle.batchstore.specs.Kept.{IsUnderItsDigest, compared}
use Rattle.batchstore.specs.declared.held.Held.{Held}
use Rattle.spec_checkpoint.specs.Data.{KeptBatch}
use Rattle.spec_checkpoint.specs.Faults.{is_batch_sound}
use Rattle.spec_model.specs.Holdings.{batch_digest}
use Rattle.spec_model.specs.Nodes.{node_view}
use Rattle.spec_model.specs.Words.{BatchView, Digest}
use Rattle.checkpoint.specs.Judging.{AreHeldAs, IsHeldAs}
use Rattle.checkpoint.proofs.FirstFails.{batch_fine, batch_turn, batches_begin}
use Rattle.checkpoint.proofs.FromBatches.{has_digest, held_long, held_more, none_is, none_seen, seen_more, sound_new, unsound_none, unsound_seen}
use Rattle.checkpoint.proofs.judging.batches.sound_batches.Goals as goal

pub loop-batch-init : goal.loop-batch-init
loop-batch-init g c =
    let node = node_view g.S.Sign.scheme c.args.node.now in
    let none = c.in_ok-found.ensures.items in
    record {
      place = omega arith;
      none = batches_begin node c.args.first;
      digested = subst (All IsUnderItsDigest) (sym none) (All-nil IsUnderItsDigest);
      held = subst (λ (l : List (Digest × Held)). AreHeldAs [] (values_of l)) (sym none) tt;
      seen = λ digest. none_seen c.new-digests.result digest c.new-digests.ensures.empty;
    }

not_new : (added known : Bool) → added ≡ not known → added ≡ false → known ≡ true
not_new added true is off = refl
not_new added false is off = absurd (cc)

new_one : (added known : Bool) → added ≡ not known → added ≡ true → known ≡ false
new_one added false is on = refl
new_one added true is on = absurd (cc)

-- as many are held as came so far
so_many : (done : List KeptBatch) (found : List (Digest × Held)) (n : ℕ) → AreHeldAs done (values_of found) → n ≡ length found → length done ≡ n
so_many done found n held is = held_long done (values_of found) held ∙ length-map found (λ (e : Digest × Held). e.1) ∙ sym is

pub returns-in_default-clause-err : goal.returns-in_default-clause-err
returns-in_default-clause-err g c =
    let node = node_view g.S.Sign.scheme c.args.node.now in
    let all = c.args.batches.items in
    let done = c.loop-batch.yielded in
    let next = c.in-Some.batch in
    let chain = YieldsList-from_vec {s = c.into_iter-batch-iterator.result} all (search rules) (search rules) in
    let turn = YieldsList-turn chain done c.loop-batch.batch-iterator c.loop-batch.yielded_by c.next.result c.next.new.self next c.in-Some.is c.next.ensures.steps in
    let front = sym (map-id done) ∙ YieldsList-so_far chain done c.loop-batch.batch-iterator c.loop-batch.yielded_by in
    let before : c.len-in-loop-batch.result ≡ length c.loop-batch.found.items = search rules in
    let many = so_many done c.loop-batch.found.items c.len-in-loop-batch.result c.loop-batch.invariant.held before in
    batch_turn node c.args.first all done next c.loop-batch.place (record { front = front; within = turn.0; is = turn.1 }) c.loop-batch.invariant.none
    (unsound_none (is_batch_sound node done next) (has_digest done (batch_digest next.batch)) c.in_ok-entry.field-0 (c.in_ok-entry.ensures.sound done many) (none_is c.in_ok-entry.field-0
    c.in_default.not-Some))
    c.loop-batch.invariant.place

pub returns-then-not-branch-clause-err : goal.returns-then-not-branch-clause-err
returns-then-not-branch-clause-err g c =
    let node = node_view g.S.Sign.scheme c.args.node.now in
    let all = c.args.batches.items in
    let done = c.loop-batch.yielded in
    let next = c.in-Some.batch in
    let entry = c.in-Some-2.entry in
    let chain = YieldsList-from_vec {s = c.into_iter-batch-iterator.result} all (search rules) (search rules) in
    let turn = YieldsList-turn chain done c.loop-batch.batch-iterator c.loop-batch.yielded_by c.next.result c.next.new.self next c.in-Some.is c.next.ensures.steps in
    let front = sym (map-id done) ∙ YieldsList-so_far chain done c.loop-batch.batch-iterator c.loop-batch.yielded_by in
    let before : c.len-in-loop-batch.result ≡ length c.loop-batch.found.items = search rules in
    let many = so_many done c.loop-batch.found.items c.len-in-loop-batch.result c.loop-batch.invariant.held before in
    let known : contains compared c.loop-batch.digests entry.0 ≡ true = not_new c.in_ok-insert.field-0 _ c.in_ok-insert.ensures.added c.if-not-branch.true in
    let digest : entry.0 ≡ batch_digest next.batch = digest_is c.in_ok-entry.field-0 entry next c.in-Some-2.is c.in_ok-entry.ensures.digested c.in_ok-entry.ensures.held in
    let seen : has_digest done (batch_digest next.batch) ≡ true = ap (has_digest done) (sym digest) ∙ sym (c.loop-batch.invariant.seen entry.0) ∙ known in
    batch_turn node c.args.first all done next c.loop-batch.place (record { front = front; within = turn.0; is = turn.1 }) c.loop-batch.invariant.none
    (unsound_seen (is_batch_sound node done next) (has_digest done (batch_digest next.batch)) c.in_ok-entry.field-0 (c.in_ok-entry.ensures.sound done many) seen)
    c.loop-batch.invariant.place
  where
    digest_is : (o : Option (Digest × Held)) (e : Digest × Held) (kept : KeptBatch) → o ≡ Some e → IfSome o IsUnderItsDigest → IfSome o (λ one. IsHeldAs kept one.1) → e.0 ≡ batch_digest kept.batch
    digest_is o e kept is digested held =
        let under : IsUnderItsDigest e = subst (λ (p : Option (Digest × Held)). IfSome p IsUnderItsDigest) is digested in
        let alike : IsHeldAs kept e.1 = subst (λ (p : Option (Digest × Held)). IfSome p (λ one. IsHeldAs kept one.1)) is held in
        under ∙ ap (λ (b : BatchView). batch_digest b) alike.batch

pub loop-batch-preserved : goal.loop-batch-preserved
loop-batch-preserved g c =
    let node = node_view g.S.Sign.scheme c.args.node.now in
    let done = c.loop-batch.yielded in
    let next = c.in-Some.batch in
    let entry = c.in-Some-2.entry in
    let before : c.len-in-loop-batch.result ≡ length c.loop-batch.found.items = search rules in
    let many = so_many done c.loop-batch.found.items c.len-in-loop-batch.result c.loop-batch.invariant.held before in
    let new : contains compared c.loop-batch.digests entry.0 ≡ false = new_one c.in_ok-insert.field-0 _ c.in_ok-insert.ensures.added c.if-not-branch.false in
    let under : IsUnderItsDigest entry = subst (λ (p : Option (Digest × Held)). IfSome p IsUnderItsDigest) c.in-Some-2.is c.in_ok-entry.ensures.digested in
    let alike : IsHeldAs next entry.1 = subst (λ (p : Option (Digest × Held)). IfSome p (λ one. IsHeldAs next one.1)) c.in-Some-2.is c.in_ok-entry.ensures.held in
    let digest : entry.0 ≡ batch_digest next.batch = under ∙ ap (λ (b : BatchView). batch_digest b) alike.batch in
    let unseen : has_digest done (batch_digest next.batch) ≡ false = ap (has_digest done) (sym digest) ∙ sym (c.loop-batch.invariant.seen entry.0) ∙ new in
    let long = length-append done (next ∷ []) in
    let items = c.in_ok-push.ensures.items in
    record {
      place = (let place = c.loop-batch.invariant.place in omega (arith, place, long));
      none = batch_fine node c.args.first done next c.loop-batch.invariant.none
          (sound_new (is_batch_sound node done next) (has_digest done (batch_digest next.batch)) c.in_ok-entry.field-0 entry (c.in_ok-entry.ensures.sound done many) c.in-Some-2.is unseen);
      digested = subst (All IsUnderItsDigest) (sym items) (All-push IsUnderItsDigest c.loop-batch.found.items entry c.loop-batch.invariant.digested under);
      held = subst (AreHeldAs (done ++ next ∷ [])) (sym (ap values_of items ∙ values-push c.loop-batch.found.items entry.0 entry.1))
          (held_more done (values_of c.loop-batch.found.items) next entry.1 c.loop-batch.invariant.held alike);
      seen = seen_more c.loop-batch.digests c.insert.new.self entry.0 done next digest c.loop-batch.invariant.seen c.in_ok-insert.ensures.updates;
    }
