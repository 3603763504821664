-- The lists that rise: what is read is spelled so, and what is spelled so is read.
use Rattle.std.proofs.Common.{◌≡◌, ℕ, ◌^◌, Bool, cond, List, [], ◌∷◌, ◌++◌, Ok, Err, refl, ap, subst, ◌∙◌, append_assoc, arith}
use Rattle.std.specs.Prelude.{IsTrue}
use Rattle.std.specs.Cmp.Derive.{both_true}
use Rattle.std.specs.Int.{w16, to_be_bytes}
use Rattle.std.proofs.lemmas.List.Elements.{All-from_recursion, recursion_from_All}
use Rattle.wire.specs.declared.error.WireError.TheVariants.{NotCanonical}
use Rattle.wire.specs.declared.references.BatchReference.{BatchReference}
use Rattle.wire.specs.declared.references.ParentReference.{ParentReference}
use Rattle.wire.specs.declared.votes.VoteEntry.{VoteEntry}
use Rattle.wire.specs.declared.limits.TheConstants.{MAX_BATCHES, MAX_PARENTS, MAX_VOTES}
use Rattle.wire.specs.Rising.{rises, follows}
use Rattle.wire.specs.References.{IsBatchReference, IsParentReference, IsVoteEntry, AreBatches, AreParents, AreVotes}
use Rattle.wire.specs.References.{batch_before, batch_follows, parent_before, parent_follows, vote_before, vote_follows}
use Rattle.wire.specs.Encoding.{batch_reference_bytes, parent_reference_bytes, vote_entry_bytes, batches_bytes, parents_bytes, votes_bytes}
use Rattle.wire.specs.Reading.{◌>>=◌, Read, number_at, author_at, digest_at, signature_at, batch_reference_at, batches_at, parent_reference_at, parents_at, vote_entry_at, votes_at}
use Rattle.wire.proofs.RisingLemmas.{both-are, rises-push}
use Rattle.wire_read.proofs.Steps.{bind_ok, held_ok, ok_is, IsBytes, Takes, Takes-then}
use Rattle.wire_read.proofs.EntryLists.{IsEntry, counted_take, counted_again}
use Rattle.wire_read.proofs.Fields.{wide16, number_takes, number_again, author_takes, author_again, digest_takes, digest_again, signature_takes, signature_again}

-- in a list that rises, what comes after the front may follow it
pub may_follow : {X : Type 0} (below : X → X → Bool) (front : List X) (x : X) (rest : List X) → IsTrue (rises below (front ++ x ∷ rest)) → IsTrue (follows (λ a. below a x) front)
may_follow below [] x rest h = refl
may_follow below (y ∷ []) x rest h = (both-are (below y x) (rises below (x ∷ rest)) h).0
may_follow below (y ∷ z ∷ front) x rest h = may_follow below (z ∷ front) x rest (both-are (below y z) (rises below (z ∷ (front ++ x ∷ rest))) h).1

-- the front of a list that rises does
pub front_rises : {X : Type 0} (below : X → X → Bool) (front rest : List X) → IsTrue (rises below (front ++ rest)) → IsTrue (rises below front)
front_rises below [] rest h = refl
front_rises below (x ∷ []) rest h = refl
front_rises below (x ∷ y ∷ front) rest h =
    let parts = both-are (below x y) (rises below (y ∷ (front ++ rest))) h in
    both_true parts.0 (front_rises below (y ∷ front) rest parts.1)

-- an entry that is read where it may follow, in a list that rises
pub rising : {X : Type 0} (entry_at : List X → List ℕ → Read X) (text : X → List ℕ) (Fits : X → Type 0) (below : X → X → Bool)
    → ((before : List X) (bytes : List ℕ) (x : X × List ℕ) → IsBytes bytes → entry_at before bytes ≡ Ok x → Takes bytes (text x.0) x.1 × Fits x.0 × IsTrue (follows (λ a. below a x.0) before))
    → ((before : List X) (x : X) (rest : List ℕ) → Fits x → IsTrue (follows (λ a. below a x) before) → entry_at before (text x ++ rest) ≡ Ok (x, rest))
    → IsEntry entry_at text Fits (λ l. IsTrue (rises below l))
rising entry_at text Fits below takes again = record {
  takes = λ before bytes x fits rise e.
      let t = takes before bytes x fits e in
      (t.0, t.1, rises-push below before x.0 rise t.2);
  again = λ before x rest fits rise. again before x rest fits (may_follow below before x [] rise);
  begins = λ front rest rise. front_rises below front rest rise;
}

-- ---- batches

batch_takes : (before : List BatchReference) (bytes : List ℕ) (x : BatchReference × List ℕ) → IsBytes bytes → batch_reference_at before bytes ≡ Ok x
    → Takes bytes (batch_reference_bytes x.0) x.1 × IsBatchReference x.0 × IsTrue (batch_follows before x.0.digest)
unfolding batch_reference_at
batch_takes before bytes x fits e =
    let a = bind_ok (digest_at bytes) (λ digest. cond (batch_follows before digest.0) (number_at w16 digest.1 >>= λ worker. Ok (record { digest = digest.0; worker = worker.0 }, worker.1))
    (Err NotCanonical)) x e in
    let g = held_ok (batch_follows before a.0.0) NotCanonical (number_at w16 a.0.1 >>= λ worker. Ok (record { digest = a.0.0; worker = worker.0 }, worker.1)) x a.2 in
    let b = bind_ok (number_at w16 a.0.1) (λ worker. Ok (record { digest = a.0.0; worker = worker.0 }, worker.1)) x g.1 in
    let t0 = digest_takes bytes a.0 fits a.1 in
    let t1 = number_takes w16 (2 ^ 16) wide16 a.0.1 b.0.0 b.0.1 t0.0.rest_fits b.1 in
    let both = Takes-then bytes a.0.0.0 a.0.1 (to_be_bytes w16 b.0.0) b.0.1 t0.0 t1.0 in
    let made : BatchReference × List ℕ = (record { digest = a.0.0; worker = b.0.0 }, b.0.1) in
    subst (λ (y : BatchReference × List ℕ). Takes bytes (batch_reference_bytes y.0) y.1 × IsBatchReference y.0 × IsTrue (batch_follows before y.0.digest)) {x = made} (ok_is made x b.2)
    (both, record { digest = t0.1; worker = t1.1 }, g.0)

batch_again : (before : List BatchReference) (b : BatchReference) (rest : List ℕ) → IsBatchReference b → IsTrue (batch_follows before b.digest)
    → batch_reference_at before (batch_reference_bytes b ++ rest) ≡ Ok (b, rest)
unfolding batch_reference_at
batch_again before b rest is may =
    let regrouped : batch_reference_bytes b ++ rest ≡ b.digest.0 ++ (to_be_bytes w16 b.worker ++ rest) = append_assoc b.digest.0 (to_be_bytes w16 b.worker) rest in
    ap (batch_reference_at before) regrouped ∙ rw (digest_again b.digest (to_be_bytes w16 b.worker ++ rest) is.digest, may, number_again w16 (2 ^ 16) wide16 b.worker rest is.worker) refl

batch_is : IsEntry batch_reference_at batch_reference_bytes IsBatchReference (λ l. IsTrue (rises batch_before l))
batch_is = rising batch_reference_at batch_reference_bytes IsBatchReference batch_before batch_takes batch_again

pub batches_take : (bytes : List ℕ) (x : List BatchReference × List ℕ) → IsBytes bytes → batches_at bytes ≡ Ok x → Takes bytes (batches_bytes x.0) x.1 × AreBatches x.0
unfolding batches_at
batches_take bytes x fits e =
    let r = counted_take w16 (2 ^ 16) wide16 MAX_BATCHES batch_reference_at batch_reference_bytes IsBatchReference (λ l. IsTrue (rises batch_before l)) batch_is bytes x fits refl e in
    (r.takes, record { few = r.few; each = All-from_recursion IsBatchReference x.0 r.fits; rise = r.sound })

pub batches_again : (batches : List BatchReference) (rest : List ℕ) → AreBatches batches → batches_at (batches_bytes batches ++ rest) ≡ Ok (batches, rest)
unfolding batches_at
batches_again batches rest are = counted_again w16 (2 ^ 16) wide16 MAX_BATCHES batch_reference_at batch_reference_bytes IsBatchReference (λ l. IsTrue (rises batch_before l)) batch_is batches
    rest (omega arith) are.few (recursion_from_All IsBatchReference batches are.each) are.rise

-- ---- parents

parent_takes : (before : List ParentReference) (bytes : List ℕ) (x : ParentReference × List ℕ) → IsBytes bytes → parent_reference_at before bytes ≡ Ok x
    → Takes bytes (parent_reference_bytes x.0) x.1 × IsParentReference x.0 × IsTrue (parent_follows before x.0.author)
unfolding parent_reference_at
parent_takes before bytes x fits e =
    let a = bind_ok (author_at bytes) (λ author. cond (parent_follows before author.0)
    (digest_at author.1 >>= λ certificate. Ok (record { author = author.0; certificate = certificate.0 }, certificate.1)) (Err NotCanonical)) x e in
    let g = held_ok (parent_follows before a.0.0) NotCanonical (digest_at a.0.1 >>= λ certificate. Ok (record { author = a.0.0; certificate = certificate.0 }, certificate.1)) x a.2 in
    let b = bind_ok (digest_at a.0.1) (λ certificate. Ok (record { author = a.0.0; certificate = certificate.0 }, certificate.1)) x g.1 in
    let t0 = author_takes bytes a.0 fits a.1 in
    let t1 = digest_takes a.0.1 b.0 t0.0.rest_fits b.1 in
    let both = Takes-then bytes (to_be_bytes w16 a.0.0.0) a.0.1 b.0.0.0 b.0.1 t0.0 t1.0 in
    let made : ParentReference × List ℕ = (record { author = a.0.0; certificate = b.0.0 }, b.0.1) in
    subst (λ (y : ParentReference × List ℕ). Takes bytes (parent_reference_bytes y.0) y.1 × IsParentReference y.0 × IsTrue (parent_follows before y.0.author)) {x = made} (ok_is made x b.2)
    (both, record { author = t0.1; certificate = t1.1 }, g.0)

parent_again : (before : List ParentReference) (p : ParentReference) (rest : List ℕ) → IsParentReference p → IsTrue (parent_follows before p.author)
    → parent_reference_at before (parent_reference_bytes p ++ rest) ≡ Ok (p, rest)
unfolding parent_reference_at
parent_again before p rest is may =
    let regrouped : parent_reference_bytes p ++ rest ≡ to_be_bytes w16 p.author.0 ++ (p.certificate.0 ++ rest) = append_assoc (to_be_bytes w16 p.author.0) p.certificate.0 rest in
    ap (parent_reference_at before) regrouped ∙ rw (author_again p.author (p.certificate.0 ++ rest) is.author, may, digest_again p.certificate rest is.certificate) refl

parent_is : IsEntry parent_reference_at parent_reference_bytes IsParentReference (λ l. IsTrue (rises parent_before l))
parent_is = rising parent_reference_at parent_reference_bytes IsParentReference parent_before parent_takes parent_again

pub parents_take : (bytes : List ℕ) (x : List ParentReference × List ℕ) → IsBytes bytes → parents_at bytes ≡ Ok x → Takes bytes (parents_bytes x.0) x.1 × AreParents x.0
unfolding parents_at
parents_take bytes x fits e =
    let r = counted_take w16 (2 ^ 16) wide16 MAX_PARENTS parent_reference_at parent_reference_bytes IsParentReference (λ l. IsTrue (rises parent_before l)) parent_is bytes x fits refl e in
    (r.takes, record { few = r.few; each = All-from_recursion IsParentReference x.0 r.fits; rise = r.sound })

pub parents_again : (parents : List ParentReference) (rest : List ℕ) → AreParents parents → parents_at (parents_bytes parents ++ rest) ≡ Ok (parents, rest)
unfolding parents_at
parents_again parents rest are = counted_again w16 (2 ^ 16) wide16 MAX_PARENTS parent_reference_at parent_reference_bytes IsParentReference (λ l. IsTrue (rises parent_before l)) parent_is
    parents rest (omega arith) are.few (recursion_from_All IsParentReference parents are.each) are.rise

-- ---- votes

vote_takes : (before : List VoteEntry) (bytes : List ℕ) (x : VoteEntry × List ℕ) → IsBytes bytes → vote_entry_at before bytes ≡ Ok x
    → Takes bytes (vote_entry_bytes x.0) x.1 × IsVoteEntry x.0 × IsTrue (vote_follows before x.0.voter)
unfolding vote_entry_at
vote_takes before bytes x fits e =
    let a = bind_ok (author_at bytes) (λ voter. cond (vote_follows before voter.0)
    (signature_at voter.1 >>= λ signature. Ok (record { voter = voter.0; signature = signature.0 }, signature.1)) (Err NotCanonical)) x e in
    let g = held_ok (vote_follows before a.0.0) NotCanonical (signature_at a.0.1 >>= λ signature. Ok (record { voter = a.0.0; signature = signature.0 }, signature.1)) x a.2 in
    let b = bind_ok (signature_at a.0.1) (λ signature. Ok (record { voter = a.0.0; signature = signature.0 }, signature.1)) x g.1 in
    let t0 = author_takes bytes a.0 fits a.1 in
    let t1 = signature_takes a.0.1 b.0 t0.0.rest_fits b.1 in
    let both = Takes-then bytes (to_be_bytes w16 a.0.0.0) a.0.1 b.0.0.0 b.0.1 t0.0 t1.0 in
    let made : VoteEntry × List ℕ = (record { voter = a.0.0; signature = b.0.0 }, b.0.1) in
    subst (λ (y : VoteEntry × List ℕ). Takes bytes (vote_entry_bytes y.0) y.1 × IsVoteEntry y.0 × IsTrue (vote_follows before y.0.voter)) {x = made} (ok_is made x b.2)
    (both, record { voter = t0.1; signature = t1.1 }, g.0)

vote_again : (before : List VoteEntry) (v : VoteEntry) (rest : List ℕ) → IsVoteEntry v → IsTrue (vote_follows before v.voter) → vote_entry_at before (vote_entry_bytes v ++ rest) ≡ Ok (v, rest)
unfolding vote_entry_at
vote_again before v rest is may =
    let regrouped : vote_entry_bytes v ++ rest ≡ to_be_bytes w16 v.voter.0 ++ (v.signature.0 ++ rest) = append_assoc (to_be_bytes w16 v.voter.0) v.signature.0 rest in
    ap (vote_entry_at before) regrouped ∙ rw (author_again v.voter (v.signature.0 ++ rest) is.voter, may, signature_again v.signature rest is.signature) refl

vote_is : IsEntry vote_entry_at vote_entry_bytes IsVoteEntry (λ l. IsTrue (rises vote_before l))
vote_is = rising vote_entry_at vote_entry_bytes IsVoteEntry vote_before vote_takes vote_again

pub votes_take : (bytes : List ℕ) (x : List VoteEntry × List ℕ) → IsBytes bytes → votes_at bytes ≡ Ok x → Takes bytes (votes_bytes x.0) x.1 × AreVotes x.0
unfolding votes_at
votes_take bytes x fits e =
    let r = counted_take w16 (2 ^ 16) wide16 MAX_VOTES vote_entry_at vote_entry_bytes IsVoteEntry (λ l. IsTrue (rises vote_before l)) vote_is bytes x fits refl e in
    (r.takes, record { few = r.few; each = All-from_recursion IsVoteEntry x.0 r.fits; rise = r.sound })

pub votes_again : (votes : List VoteEntry) (rest : List ℕ) → AreVotes votes → votes_at (votes_bytes votes ++ rest) ≡ Ok (votes, rest)
unfolding votes_at
votes_again votes rest are = counted_again w16 (2 ^ 16) wide16 MAX_VOTES vote_entry_at vote_entry_bytes IsVoteEntry (λ l. IsTrue (rises vote_before l)) vote_is votes rest (omega arith)
    are.few (recursion_from_All IsVoteEntry votes are.each) are.rise
