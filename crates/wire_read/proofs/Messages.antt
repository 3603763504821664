-- The laws of whole messages: what is read is spelled so, what is spelled so is read, whatever follows, and so no spelling is a prefix of another.
use Rattle.std.proofs.Common.{◌≡◌, ℕ, ◌<◌, ◌^◌, Bool, true, false, cond, eqb, List, [], ◌∷◌, ◌++◌, length, Result, Ok, Err, refl, sym, ap, subst, ◌∙◌, append_assoc, ne_eqb, arith, ◌⊎◌, inl, inr}
use Rattle.std.specs.Prelude.{IfOk}
use Rattle.std.specs.Int.{w16, w64, to_be_bytes}
use Rattle.std.proofs.lemmas.Bool.{eqb-true}
use Rattle.std.proofs.lemmas.List.{append-nil, nil_from_length}
use Rattle.wire.specs.declared.error.WireError.{WireError}
use Rattle.wire.specs.declared.error.WireError.TheVariants.{Trailing, BadTag}
use Rattle.wire.specs.declared.keys.Author.{Author}
use Rattle.wire.specs.declared.keys.Digest.{Digest}
use Rattle.wire.specs.declared.keys.Signature.{Signature}
use Rattle.wire.specs.declared.references.BatchReference.{BatchReference}
use Rattle.wire.specs.declared.references.ParentReference.{ParentReference}
use Rattle.wire.specs.declared.header.HeaderBody.{HeaderBody}
use Rattle.wire.specs.declared.header.Header.{Header}
use Rattle.wire.specs.declared.header.Vote.{Vote}
use Rattle.wire.specs.declared.header.Certificate.{Certificate}
use Rattle.wire.specs.declared.message.BatchAck.{BatchAck}
use Rattle.wire.specs.declared.message.Coin.{Coin}
use Rattle.wire.specs.declared.message.Message.{Message}
use Rattle.wire.specs.declared.message.Message.TheVariants as message
use Rattle.wire.specs.Batches.{batch_body, IsBatch}
use Rattle.wire.specs.Grammar.{IsAck, IsHeaderBody, IsHeader, IsVote, IsCertificate, IsCoin, IsMessage, Spells}
use Rattle.wire.specs.Encoding.{ack_bytes, batches_bytes, parents_bytes, votes_bytes, header_body, header_bytes, vote_bytes, certificate_bytes, coin_bytes, encoding}
use Rattle.wire.specs.Reading.{◌>>=◌, Read, number_at, author_at, digest_at, signature_at, round_at, wave_at, batches_at, parents_at, votes_at, batch_at, ack_at, header_body_at, header_at}
use Rattle.wire.specs.Reading.{vote_at, certificate_at, coin_at, tagged_at, message_of, Gives}
use Rattle.wire_read.proofs.Steps.{bind_ok, held_ok, ok_is, IsBytes, IsBytes-rest, Takes, Takes-then}
use Rattle.wire_read.proofs.Fields.{wide64, number_takes, number_again, author_takes, author_again, digest_takes, digest_again, signature_takes, signature_again, round_takes, round_again}
use Rattle.wire_read.proofs.Fields.{wave_takes, wave_again}
use Rattle.wire_read.proofs.RisingLists.{batches_take, batches_again, parents_take, parents_again, votes_take, votes_again}
use Rattle.wire_read.proofs.BatchBodies.{contents_take, contents_again}

-- reading what a kind of message has is spelling it
pub record IsKind {X : Type 0} (at : List ℕ → Read X) (text : X → List ℕ) (Fits : X → Type 0) : Type 0 where
  pub takes : (bytes : List ℕ) (x : X × List ℕ) → IsBytes bytes → at bytes ≡ Ok x → Takes bytes (text x.0) x.1 × Fits x.0
  pub again : (x : X) (rest : List ℕ) → Fits x → at (text x ++ rest) ≡ Ok (x, rest)

-- ---- batches and acknowledgements

pub batch_kind : IsKind batch_at batch_body IsBatch
batch_kind = record { takes = contents_take; again = contents_again }

ack_takes : (bytes : List ℕ) (x : BatchAck × List ℕ) → IsBytes bytes → ack_at bytes ≡ Ok x → Takes bytes (ack_bytes x.0) x.1 × IsAck x.0
unfolding ack_at
ack_takes bytes x fits e =
    let a = bind_ok (author_at bytes) (λ author. digest_at author.1 >>= λ batch. Ok (record { author = author.0; batch = batch.0 }, batch.1)) x e in
    let b = bind_ok (digest_at a.0.1) (λ batch. Ok (record { author = a.0.0; batch = batch.0 }, batch.1)) x a.2 in
    let t1 = author_takes bytes a.0 fits a.1 in
    let t2 = digest_takes a.0.1 b.0 t1.0.rest_fits b.1 in
    let both = Takes-then bytes (to_be_bytes w16 a.0.0.0) a.0.1 b.0.0.0 b.0.1 t1.0 t2.0 in
    let made : BatchAck × List ℕ = (record { author = a.0.0; batch = b.0.0 }, b.0.1) in
    subst (λ (y : BatchAck × List ℕ). Takes bytes (ack_bytes y.0) y.1 × IsAck y.0) {x = made} (ok_is made x b.2) (both, record { author = t1.1; batch = t2.1 })

ack_again : (a : BatchAck) (rest : List ℕ) → IsAck a → ack_at (ack_bytes a ++ rest) ≡ Ok (a, rest)
unfolding ack_at
ack_again a rest is =
    let regrouped : ack_bytes a ++ rest ≡ to_be_bytes w16 a.author.0 ++ (a.batch.0 ++ rest) = simp append_assoc in
    ap ack_at regrouped ∙ rw (author_again a.author (a.batch.0 ++ rest) is.author, digest_again a.batch rest is.batch) refl

pub ack_kind : IsKind ack_at ack_bytes IsAck
ack_kind = record { takes = ack_takes; again = ack_again }

-- ---- headers

abbrev body_from : Author → ℕ → List BatchReference → List ParentReference → HeaderBody
body_from author round batches parents = record { author = author; round = round; batches = batches; parents = parents }

pub body_takes : (bytes : List ℕ) (x : HeaderBody × List ℕ) → IsBytes bytes → header_body_at bytes ≡ Ok x → Takes bytes (header_body x.0) x.1 × IsHeaderBody x.0
unfolding header_body_at
body_takes bytes x fits e =
    let a = bind_ok (author_at bytes) (λ author. round_at author.1 >>= λ round. batches_at round.1 >>= λ batches. parents_at batches.1
    >>= λ parents. Ok (body_from author.0 round.0 batches.0 parents.0, parents.1)) x e in
    let b = bind_ok (round_at a.0.1) (λ round. batches_at round.1 >>= λ batches. parents_at batches.1 >>= λ parents. Ok (body_from a.0.0 round.0 batches.0 parents.0, parents.1)) x a.2 in
    let c = bind_ok (batches_at b.0.1) (λ batches. parents_at batches.1 >>= λ parents. Ok (body_from a.0.0 b.0.0 batches.0 parents.0, parents.1)) x b.2 in
    let d = bind_ok (parents_at c.0.1) (λ parents. Ok (body_from a.0.0 b.0.0 c.0.0 parents.0, parents.1)) x c.2 in
    let t1 = author_takes bytes a.0 fits a.1 in
    let t2 = round_takes a.0.1 b.0 t1.0.rest_fits b.1 in
    let t3 = batches_take b.0.1 c.0 t2.0.rest_fits c.1 in
    let t4 = parents_take c.0.1 d.0 t3.0.rest_fits d.1 in
    let from3 = Takes-then b.0.1 (batches_bytes c.0.0) c.0.1 (parents_bytes d.0.0) d.0.1 t3.0 t4.0 in
    let from2 = Takes-then a.0.1 (to_be_bytes w64 b.0.0) b.0.1 (batches_bytes c.0.0 ++ parents_bytes d.0.0) d.0.1 t2.0 from3 in
    let from1 = Takes-then bytes (to_be_bytes w16 a.0.0.0) a.0.1 (to_be_bytes w64 b.0.0 ++ (batches_bytes c.0.0 ++ parents_bytes d.0.0)) d.0.1 t1.0 from2 in
    let made : HeaderBody × List ℕ = (body_from a.0.0 b.0.0 c.0.0 d.0.0, d.0.1) in
    subst (λ (y : HeaderBody × List ℕ). Takes bytes (header_body y.0) y.1 × IsHeaderBody y.0) {x = made} (ok_is made x d.2)
    (from1, record { author = t1.1; round = t2.1; batches = t3.1; parents = t4.1 })

pub body_again : (h : HeaderBody) (rest : List ℕ) → IsHeaderBody h → header_body_at (header_body h ++ rest) ≡ Ok (h, rest)
unfolding header_body_at
body_again h rest is =
    let three = parents_bytes h.parents ++ rest in
    let two = batches_bytes h.batches ++ three in
    let one = to_be_bytes w64 h.round ++ two in
    let regrouped : header_body h ++ rest ≡ to_be_bytes w16 h.author.0 ++ (to_be_bytes w64 h.round ++ (batches_bytes h.batches ++ (parents_bytes h.parents ++ rest))) = simp append_assoc in
    ap header_body_at regrouped ∙ rw (author_again h.author one is.author, round_again h.round two is.round, batches_again h.batches three is.batches, parents_again h.parents rest is.parents) refl

-- two bodies of one spelling are one
pub one_body : (one other : HeaderBody) → IsHeaderBody one → IsHeaderBody other → header_body one ≡ header_body other → one ≡ other
one_body one other is also same =
    let read : (one, []) ≡ (other, []) =
    ok_is (one, []) (other, []) (sym (body_again one [] is) ∙ ap (λ text. header_body_at (text ++ [])) same ∙ body_again other [] also)
    in ap (λ (read : HeaderBody × List ℕ). read.0) read

header_takes : (bytes : List ℕ) (x : Header × List ℕ) → IsBytes bytes → header_at bytes ≡ Ok x → Takes bytes (header_bytes x.0) x.1 × IsHeader x.0
unfolding header_at
header_takes bytes x fits e =
    let a = bind_ok (header_body_at bytes) (λ body. signature_at body.1 >>= λ signature. Ok (record { body = body.0; signature = signature.0 }, signature.1)) x e in
    let b = bind_ok (signature_at a.0.1) (λ signature. Ok (record { body = a.0.0; signature = signature.0 }, signature.1)) x a.2 in
    let t1 = body_takes bytes a.0 fits a.1 in
    let t2 = signature_takes a.0.1 b.0 t1.0.rest_fits b.1 in
    let both = Takes-then bytes (header_body a.0.0) a.0.1 b.0.0.0 b.0.1 t1.0 t2.0 in
    let made : Header × List ℕ = (record { body = a.0.0; signature = b.0.0 }, b.0.1) in
    subst (λ (y : Header × List ℕ). Takes bytes (header_bytes y.0) y.1 × IsHeader y.0) {x = made} (ok_is made x b.2) (both, record { body = t1.1; signature = t2.1 })

header_again : (h : Header) (rest : List ℕ) → IsHeader h → header_at (header_bytes h ++ rest) ≡ Ok (h, rest)
unfolding header_at
header_again h rest is =
    let regrouped : header_bytes h ++ rest ≡ header_body h.body ++ (h.signature.0 ++ rest) = append_assoc (header_body h.body) h.signature.0 rest in
    ap header_at regrouped ∙ rw (body_again h.body (h.signature.0 ++ rest) is.body, signature_again h.signature rest is.signature) refl

pub header_kind : IsKind header_at header_bytes IsHeader
header_kind = record { takes = header_takes; again = header_again }

-- ---- votes

abbrev vote_text : Vote → List ℕ
vote_text v = v.header.0 ++ (to_be_bytes w64 v.round ++ (to_be_bytes w16 v.author.0 ++ (to_be_bytes w16 v.voter.0 ++ v.signature.0)))

vote_text-is : (v : Vote) → vote_bytes v ≡ vote_text v
vote_text-is v = simp append_assoc

abbrev vote_from : Digest → ℕ → Author → Author → Signature → Vote
vote_from header round author voter signature = record { header = header; round = round; author = author; voter = voter; signature = signature }

vote_parts : (bytes : List ℕ) (header : Digest × List ℕ) (round : ℕ × List ℕ) (author voter : Author × List ℕ) (signature : Signature × List ℕ)
    → IsBytes bytes → digest_at bytes ≡ Ok header → round_at header.1 ≡ Ok round → author_at round.1 ≡ Ok author → author_at author.1 ≡ Ok voter → signature_at voter.1 ≡ Ok signature
    → Takes bytes (vote_text (vote_from header.0 round.0 author.0 voter.0 signature.0)) signature.1 × IsVote (vote_from header.0 round.0 author.0 voter.0 signature.0)
vote_parts bytes header round author voter signature fits e1 e2 e3 e4 e5 =
    let t1 = digest_takes bytes header fits e1 in
    let t2 = round_takes header.1 round t1.0.rest_fits e2 in
    let t3 = author_takes round.1 author t2.0.rest_fits e3 in
    let t4 = author_takes author.1 voter t3.0.rest_fits e4 in
    let t5 = signature_takes voter.1 signature t4.0.rest_fits e5 in
    let from4 = Takes-then author.1 (to_be_bytes w16 voter.0.0) voter.1 signature.0.0 signature.1 t4.0 t5.0 in
    let from3 = Takes-then round.1 (to_be_bytes w16 author.0.0) author.1 (to_be_bytes w16 voter.0.0 ++ signature.0.0) signature.1 t3.0 from4 in
    let from2 = Takes-then header.1 (to_be_bytes w64 round.0) round.1 (to_be_bytes w16 author.0.0 ++ (to_be_bytes w16 voter.0.0 ++ signature.0.0)) signature.1 t2.0 from3 in
    let from1 = Takes-then bytes header.0.0 header.1 (to_be_bytes w64 round.0 ++ (to_be_bytes w16 author.0.0 ++ (to_be_bytes w16 voter.0.0 ++ signature.0.0))) signature.1 t1.0 from2 in
    (from1, record { header = t1.1; round = t2.1; author = t3.1; voter = t4.1; signature = t5.1 })

vote_takes : (bytes : List ℕ) (x : Vote × List ℕ) → IsBytes bytes → vote_at bytes ≡ Ok x → Takes bytes (vote_text x.0) x.1 × IsVote x.0
unfolding vote_at
vote_takes bytes x fits e =
    let a = bind_ok (digest_at bytes) (λ header. round_at header.1 >>= λ round. author_at round.1 >>= λ author. author_at author.1 >>= λ voter. signature_at voter.1
    >>= λ signature. Ok (vote_from header.0 round.0 author.0 voter.0 signature.0, signature.1)) x e in
    let b = bind_ok (round_at a.0.1) (λ round. author_at round.1 >>= λ author. author_at author.1 >>= λ voter. signature_at voter.1
    >>= λ signature. Ok (vote_from a.0.0 round.0 author.0 voter.0 signature.0, signature.1)) x a.2 in
    let c = bind_ok (author_at b.0.1) (λ author. author_at author.1 >>= λ voter. signature_at voter.1 >>= λ signature. Ok (vote_from a.0.0 b.0.0 author.0 voter.0 signature.0, signature.1)) x b.2 in
    let d = bind_ok (author_at c.0.1) (λ voter. signature_at voter.1 >>= λ signature. Ok (vote_from a.0.0 b.0.0 c.0.0 voter.0 signature.0, signature.1)) x c.2 in
    let s = bind_ok (signature_at d.0.1) (λ signature. Ok (vote_from a.0.0 b.0.0 c.0.0 d.0.0 signature.0, signature.1)) x d.2 in
    subst (λ (y : Vote × List ℕ). Takes bytes (vote_text y.0) y.1 × IsVote y.0) {x = (vote_from a.0.0 b.0.0 c.0.0 d.0.0 s.0.0, s.0.1)}
    (ok_is (vote_from a.0.0 b.0.0 c.0.0 d.0.0 s.0.0, s.0.1) x s.2) (vote_parts bytes a.0 b.0 c.0 d.0 s.0 fits a.1 b.1 c.1 d.1 s.1)

vote_again : (v : Vote) (rest : List ℕ) → IsVote v → vote_at (vote_bytes v ++ rest) ≡ Ok (v, rest)
unfolding vote_at
vote_again v rest is =
    let four = v.signature.0 ++ rest in
    let three = to_be_bytes w16 v.voter.0 ++ four in
    let two = to_be_bytes w16 v.author.0 ++ three in
    let one = to_be_bytes w64 v.round ++ two in
    let regrouped : vote_bytes v ++ rest ≡ v.header.0 ++ (to_be_bytes w64 v.round ++ (to_be_bytes w16 v.author.0 ++ (to_be_bytes w16 v.voter.0 ++ (v.signature.0 ++ rest)))) = simp append_assoc in
    ap vote_at regrouped ∙ rw (
      digest_again v.header one is.header,
      round_again v.round two is.round,
      author_again v.author three is.author,
      author_again v.voter four is.voter,
      signature_again v.signature rest is.signature,
    ) refl

vote_encoded : (bytes : List ℕ) (x : Vote × List ℕ) → IsBytes bytes → vote_at bytes ≡ Ok x → Takes bytes (vote_bytes x.0) x.1 × IsVote x.0
vote_encoded bytes x fits e =
    let t = vote_takes bytes x fits e in
    (subst (λ (l : List ℕ). Takes bytes l x.1) (sym (vote_text-is x.0)) t.0, t.1)

pub vote_kind : IsKind vote_at vote_bytes IsVote
vote_kind = record { takes = vote_encoded; again = vote_again }

-- ---- certificates and coins

certificate_takes : (bytes : List ℕ) (x : Certificate × List ℕ) → IsBytes bytes → certificate_at bytes ≡ Ok x → Takes bytes (certificate_bytes x.0) x.1 × IsCertificate x.0
unfolding certificate_at
certificate_takes bytes x fits e =
    let a = bind_ok (header_body_at bytes) (λ header. votes_at header.1 >>= λ votes. Ok (record { header = header.0; votes = votes.0 }, votes.1)) x e in
    let b = bind_ok (votes_at a.0.1) (λ votes. Ok (record { header = a.0.0; votes = votes.0 }, votes.1)) x a.2 in
    let t1 = body_takes bytes a.0 fits a.1 in
    let t2 = votes_take a.0.1 b.0 t1.0.rest_fits b.1 in
    let both = Takes-then bytes (header_body a.0.0) a.0.1 (votes_bytes b.0.0) b.0.1 t1.0 t2.0 in
    let made : Certificate × List ℕ = (record { header = a.0.0; votes = b.0.0 }, b.0.1) in
    subst (λ (y : Certificate × List ℕ). Takes bytes (certificate_bytes y.0) y.1 × IsCertificate y.0) {x = made} (ok_is made x b.2) (both, record { header = t1.1; votes = t2.1 })

certificate_again : (c : Certificate) (rest : List ℕ) → IsCertificate c → certificate_at (certificate_bytes c ++ rest) ≡ Ok (c, rest)
unfolding certificate_at
certificate_again c rest is =
    let regrouped : certificate_bytes c ++ rest ≡ header_body c.header ++ (votes_bytes c.votes ++ rest) = append_assoc (header_body c.header) (votes_bytes c.votes) rest in
    ap certificate_at regrouped ∙ rw (body_again c.header (votes_bytes c.votes ++ rest) is.header, votes_again c.votes rest is.votes) refl

pub certificate_kind : IsKind certificate_at certificate_bytes IsCertificate
certificate_kind = record { takes = certificate_takes; again = certificate_again }

coin_takes : (bytes : List ℕ) (x : Coin × List ℕ) → IsBytes bytes → coin_at bytes ≡ Ok x → Takes bytes (coin_bytes x.0) x.1 × IsCoin x.0
unfolding coin_at
coin_takes bytes x fits e =
    let a = bind_ok (wave_at bytes) (λ wave. number_at w64 wave.1 >>= λ value. Ok (record { wave = wave.0; value = value.0 }, value.1)) x e in
    let b = bind_ok (number_at w64 a.0.1) (λ value. Ok (record { wave = a.0.0; value = value.0 }, value.1)) x a.2 in
    let t1 = wave_takes bytes a.0 fits a.1 in
    let t2 = number_takes w64 (2 ^ 64) wide64 a.0.1 b.0.0 b.0.1 t1.0.rest_fits b.1 in
    let both = Takes-then bytes (to_be_bytes w64 a.0.0) a.0.1 (to_be_bytes w64 b.0.0) b.0.1 t1.0 t2.0 in
    let made : Coin × List ℕ = (record { wave = a.0.0; value = b.0.0 }, b.0.1) in
    subst (λ (y : Coin × List ℕ). Takes bytes (coin_bytes y.0) y.1 × IsCoin y.0) {x = made} (ok_is made x b.2) (both, record { wave = t1.1; value = t2.1 })

coin_again : (c : Coin) (rest : List ℕ) → IsCoin c → coin_at (coin_bytes c ++ rest) ≡ Ok (c, rest)
unfolding coin_at
coin_again c rest is =
    let regrouped : coin_bytes c ++ rest ≡ to_be_bytes w64 c.wave ++ (to_be_bytes w64 c.value ++ rest) = append_assoc (to_be_bytes w64 c.wave) (to_be_bytes w64 c.value) rest in
    ap coin_at regrouped ∙ rw (wave_again c.wave (to_be_bytes w64 c.value ++ rest) is.wave, number_again w64 (2 ^ 64) wide64 c.value rest is.value) refl

pub coin_kind : IsKind coin_at coin_bytes IsCoin
coin_kind = record { takes = coin_takes; again = coin_again }

-- ---- messages

-- a test that chose, and which way it went
chosen : {A : Type 0} (b : Bool) (x y z : A) → cond b x y ≡ z → ((b ≡ true) × (x ≡ z)) ⊎ ((b ≡ false) × (y ≡ z))
chosen true x y z e = inl (refl, e)
chosen false x y z e = inr (refl, e)

-- what a kind of message has is read after its tag
abbrev of_kind : {X : Type 0} (at : List ℕ → Read X) (wrap : X → Message) → List ℕ → Read Message
of_kind at wrap bytes = at bytes >>= λ y. Ok (wrap y.0, y.1)

-- a message of a kind is spelled by its tag and what it has
record IsTagged {X : Type 0} (tag : ℕ) (text : X → List ℕ) (Fits : X → Type 0) (wrap : X → Message) : Type 0 where
  text_is : (x : X) → encoding (wrap x) ≡ tag ∷ text x
  fits : (x : X) → Fits x → IsMessage (wrap x)

kind_takes : {X : Type 0} (at : List ℕ → Read X) (text : X → List ℕ) (Fits : X → Type 0) (wrap : X → Message) (tag : ℕ) (is : IsKind at text Fits) (tagged : IsTagged tag text Fits wrap)
    (bytes : List ℕ) (x : Message × List ℕ)
    → IsBytes bytes → of_kind at wrap bytes ≡ Ok x → Takes (tag ∷ bytes) (encoding x.0) x.1 × IsMessage x.0
kind_takes {X} at text Fits wrap tag is tagged bytes x fits e =
    let a = bind_ok (at bytes) (λ y. Ok (wrap y.0, y.1)) x e in
    let t = is.takes bytes a.0 fits a.1 in
    let made : Message × List ℕ = (wrap a.0.0, a.0.1) in
    let whole : tag ∷ bytes ≡ encoding (wrap a.0.0) ++ a.0.1 = rw (tagged.text_is a.0.0) (ap (λ (w : List ℕ). tag ∷ w) t.0.parts) in
    subst (λ (y : Message × List ℕ). Takes (tag ∷ bytes) (encoding y.0) y.1 × IsMessage y.0) (ok_is made x a.2) (record { parts = whole; rest_fits = t.0.rest_fits }, tagged.fits a.0.0 t.1)

-- of a chain of tags, the first that is there is taken
tag_takes : (tag here : ℕ) (bytes : List ℕ) (x : Message × List ℕ) (one other : Read Message)
    → (one ≡ Ok x → Takes (here ∷ bytes) (encoding x.0) x.1 × IsMessage x.0) → (other ≡ Ok x → Takes (tag ∷ bytes) (encoding x.0) x.1 × IsMessage x.0)
    → cond (eqb tag here) one other ≡ Ok x → Takes (tag ∷ bytes) (encoding x.0) x.1 × IsMessage x.0
tag_takes tag here bytes x one other if_one if_other e =
    elim (chosen (eqb tag here) one other (Ok x) e) [
      | inl p ↦ subst (λ (t : ℕ). Takes (t ∷ bytes) (encoding x.0) x.1 × IsMessage x.0) (sym (eqb-true tag here p.0)) (if_one p.1)
      | inr p ↦ if_other p.1
    ]

no_message : (tag : ℕ) (bytes : List ℕ) (x : Message × List ℕ) (none : Read Message) → none ≡ Err BadTag → none ≡ Ok x → Takes (tag ∷ bytes) (encoding x.0) x.1 × IsMessage x.0
no_message tag bytes x none is e = absurd cc

tagged_takes : (bytes : List ℕ) (x : Message × List ℕ) → IsBytes bytes → tagged_at bytes ≡ Ok x → Takes bytes (encoding x.0) x.1 × IsMessage x.0
unfolding tagged_at
tagged_takes [] x fits e = absurd cc
tagged_takes (tag ∷ bytes) x fits e =
    let rest = IsBytes-rest tag bytes fits in
    tag_takes tag 1 bytes x _ _ (kind_takes batch_at batch_body IsBatch (λ b. message.Batch b) 1 batch_kind (record { text_is = λ _. refl; fits = λ _ h. h }) bytes x rest) (
    tag_takes tag 2 bytes x _ _ (kind_takes ack_at ack_bytes IsAck (λ a. message.BatchAck a) 2 ack_kind (record { text_is = λ _. refl; fits = λ _ h. h }) bytes x rest) (
    tag_takes tag 3 bytes x _ _ (kind_takes header_at header_bytes IsHeader (λ h. message.Header h) 3 header_kind (record { text_is = λ _. refl; fits = λ _ h. h }) bytes x rest) (
    tag_takes tag 4 bytes x _ _ (kind_takes vote_at vote_bytes IsVote (λ v. message.Vote v) 4 vote_kind (record { text_is = λ _. refl; fits = λ _ h. h }) bytes x rest) (
    tag_takes tag 5 bytes x _ _ (kind_takes certificate_at certificate_bytes IsCertificate (λ c. message.Certificate c) 5 certificate_kind (record { text_is = λ _. refl; fits = λ _ h. h })
    bytes x rest) (
    tag_takes tag 6 bytes x _ _ (kind_takes coin_at coin_bytes IsCoin (λ c. message.Coin c) 6 coin_kind (record { text_is = λ _. refl; fits = λ _ h. h }) bytes x rest) (
    no_message tag bytes x (Err BadTag) refl)))))) e

pub tagged_again : (m : Message) (rest : List ℕ) → IsMessage m → tagged_at (encoding m ++ rest) ≡ Ok (m, rest)
unfolding tagged_at
tagged_again (message.Batch b) rest is = rw (contents_again b rest is) refl
tagged_again (message.BatchAck a) rest is = rw (ack_again a rest is) refl
tagged_again (message.Header h) rest is = rw (header_again h rest is) refl
tagged_again (message.Vote v) rest is = rw (vote_again v rest is) refl
tagged_again (message.Certificate c) rest is = rw (certificate_again c rest is) refl
tagged_again (message.Coin c) rest is = rw (coin_again c rest is) refl

-- what the bytes are read as is a message, and they are its spelling
pub is_encoded : (bytes : List ℕ) (m : Message) → IsBytes bytes → message_of bytes ≡ Ok m → Spells m bytes
unfolding message_of
is_encoded bytes m fits e =
    let a = bind_ok (tagged_at bytes) (λ m. cond (eqb (length m.1) 0) (Ok m.0) (Err Trailing)) m e in
    let g = held_ok (eqb (length a.0.1) 0) Trailing (Ok a.0.0) m a.2 in
    let t = tagged_takes bytes a.0 fits a.1 in
    let nothing : a.0.1 ≡ [] = nil_from_length a.0.1 (eqb-true _ _ g.0) in
    let whole : bytes ≡ encoding a.0.0 = t.0.parts ∙ ap (λ (r : List ℕ). encoding a.0.0 ++ r) nothing ∙ append-nil (encoding a.0.0) in
    subst (λ (y : Message). Spells y bytes) (ok_is a.0.0 m g.1) (t.1, whole)

-- the spelling of a message is read as that message
pub is_read : (m : Message) → IsMessage m → message_of (encoding m) ≡ Ok m
unfolding message_of
is_read m is =
    let whole : tagged_at (encoding m) ≡ Ok (m, []) = ap tagged_at (sym (append-nil (encoding m))) ∙ tagged_again m [] is in
    rw whole refl

pub is_found : (bytes : List ℕ) (r : Result Message WireError) → IsBytes bytes → Gives (λ m. m) r (message_of bytes) → IfOk r (λ m. Spells m bytes)
is_found bytes (Ok m) fits given = is_encoded bytes m fits given
is_found bytes (Err e) fits given = tt

-- two messages whose spellings are prefixes of the same bytes are one
pub one_message : (m n : Message) (x y : List ℕ) → IsMessage m → IsMessage n → encoding m ++ x ≡ encoding n ++ y → (m ≡ n) × (x ≡ y)
one_message m n x y is-m is-n e =
    let same = ok_is (m, x) (n, y) (sym (tagged_again m x is-m) ∙ ap tagged_at e ∙ tagged_again n y is-n) in
    (ap (λ (p : Message × List ℕ). p.0) same, ap (λ (p : Message × List ℕ). p.1) same)

-- bytes after a message are refused as such
pub trailing : (m : Message) (rest : List ℕ) → IsMessage m → 0 < length rest → message_of (encoding m ++ rest) ≡ Err Trailing
unfolding message_of
trailing m rest is some =
    let left : eqb (length rest) 0 ≡ false = ne_eqb (length rest) 0 (λ e. omega (arith, some, e)) in
    rw (tagged_again m rest is, left) refl
