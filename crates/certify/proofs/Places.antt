-- The votes in places, one after another, and what they weigh with one more.
use Rattle.std.proofs.Common.{◌≡◌, ◌≢◌, ℕ, zero, suc, ◌+◌, ◌<◌, ◌≤◌, Bool, true, false, List, [], ◌∷◌, ◌++◌, length, get_or, Option, Some, None, refl, sym, ap, ◌∙◌, inl, inr, arith}
use Rattle.std.specs.Prelude.{◌||◌, ◌&&◌, ◌==◌, not, nat_lt, nat_le, replicate, is_some, option_map, if◌then◌else◌}
use Rattle.std.specs.Str.{bytes_eq}
use Rattle.std.proofs.lemmas.Slice.Eq.{bytes_eq-Decides}
use Rattle.std.specs.List.{filter_map, range_with_len, cons_option}
use Rattle.std.proofs.Math.Bool.{or-true, or-false}
use Rattle.std.proofs.lemmas.Bool.{cases_Bool, cases_lt, and_parts, eqb-true, eq-eqb, lt-ltb, le-ltb, ltb-true, ltb-false, leb-true, leb-false}
use Rattle.std.proofs.lemmas.List.{append-nil, map-id, length-set, length-replicate, get_or_past, get_or-replicate, get_or-set_other}
use Rattle.std.proofs.lemmas.Grind.{get_or-set_at}
use Rattle.std.proofs.lemmas.List.FromFn.{map-range_with_len_more, length-range_with_len}
use Rattle.std.proofs.lemmas.List.Elements.{filter_map-append}
use Rattle.wire.specs.Rising.{follows}
use Rattle.wire.specs.Digests.{header_digest_of}
use Rattle.wire.specs.declared.header.Certificate.{Certificate}
use Rattle.wire.specs.declared.header.Header.{Header}
use Rattle.wire.specs.declared.header.HeaderBody.{HeaderBody}
use Rattle.wire.specs.declared.header.Vote.{Vote}
use Rattle.wire.specs.declared.keys.Digest.{Digest}
use Rattle.wire.specs.declared.keys.Signature.{Signature}
use Rattle.wire.specs.declared.votes.VoteEntry.{VoteEntry}
use Rattle.committee.specs.Charter.{Charter, IsCharter, weight, quorum_of}
use Rattle.committee.specs.Sets.{has}
use Rattle.committee.specs.declared.sets.MemberSet.{MemberSet}
use Rattle.committee.proofs.Weights.{weight-same, weight-one}
use Rattle.certify.specs.declared.added.Added.TheVariants.{Counted, Complete, Again, NotOurs}
use Rattle.certify.specs.Answer.{answer, certificate_of, completion_of, is_ours, is_again, is_too_few}
use Rattle.certify.specs.Assembled.{Places, AssemblyView, IsKept, is_on, has_voted, with_vote, with_entry, with_entries, entry_of, votes_weight, started, restored}

-- ---- the votes of the first members

-- those of the members below a number
abbrev pub votes_below : Places → ℕ → List VoteEntry
votes_below places n = filter_map (entry_of places) (range_with_len 0 n)

numbers-more : (n : ℕ) → range_with_len 0 (n + 1) ≡ range_with_len 0 n ++ n ∷ []
numbers-more n =
    sym (map-id (range_with_len 0 (n + 1))) ∙ map-range_with_len_more (λ k. k) 0 n n (omega arith) ∙ ap (λ ms. ms ++ n ∷ []) (map-id (range_with_len 0 n))

votes_below-more : (places : Places) (n : ℕ) → votes_below places (n + 1) ≡ votes_below places n ++ cons_option (entry_of places n) []
votes_below-more places n = ap (filter_map (entry_of places)) (numbers-more n) ∙ filter_map-append (entry_of places) (range_with_len 0 n) (n ∷ [])

-- the entry of a member with a signature
abbrev pub entry : ℕ → Signature → VoteEntry
entry member signature = record { voter = record { 0 = member }; signature = signature }

-- the vote of one member more
pub votes_below-some : (places : Places) (n : ℕ) (signature : Signature) → get_or places n None ≡ Some signature → votes_below places (n + 1) ≡ votes_below places n ++ entry n signature ∷ []
votes_below-some places n signature is = votes_below-more places n ∙ ap (λ place. votes_below places n ++ cons_option (option_map (entry n) place) []) is

-- one member more without a vote
pub votes_below-none : (places : Places) (n : ℕ) → get_or places n None ≡ None → votes_below places (n + 1) ≡ votes_below places n
votes_below-none places n is =
    votes_below-more places n ∙ ap (λ place. votes_below places n ++ cons_option (option_map (entry n) place) []) is ∙ append-nil (votes_below places n)

length-cons_option : {X : Type 0} (o : Option X) (xs : List X) (n : ℕ) → length xs ≤ n → length (cons_option o xs) ≤ suc n
length-cons_option None xs n h = omega arith
length-cons_option (Some x) xs n h = omega arith

length-filter_map : {X Y : Type 0} (h : X → Option Y) (xs : List X) → length (filter_map h xs) ≤ length xs
length-filter_map h [] = omega arith
length-filter_map h (x ∷ xs) = length-cons_option (h x) (filter_map h xs) (length xs) (length-filter_map h xs)

-- they are no more than the members
pub length-votes_below : (places : Places) (n : ℕ) → length (votes_below places n) ≤ n
length-votes_below places n = omega (arith, length-filter_map (entry_of places) (range_with_len 0 n), length-range_with_len 0 n)

follows-cons : {X : Type 0} (before : X → Bool) (x : X) (xs : List X) → before x ≡ true → follows before xs ≡ true → follows before (x ∷ xs) ≡ true
follows-cons before x [] here there = here
follows-cons before x (y ∷ ys) here there = there

follows-place : (member : ℕ) (voter : ℕ) (place : Option Signature) (rest : List VoteEntry) → member < voter → follows (λ e. nat_lt e.voter.0 voter) rest ≡ true
    → follows (λ e. nat_lt e.voter.0 voter) (cons_option (option_map (entry member) place) rest) ≡ true
follows-place member voter None rest low there = there
follows-place member voter (Some signature) rest low there = follows-cons (λ e. nat_lt e.voter.0 voter) (entry member signature) rest (lt-ltb member voter low) there

follows-range : (places : Places) (voter a n : ℕ) → a + n ≤ voter → follows (λ e. nat_lt e.voter.0 voter) (filter_map (entry_of places) (range_with_len a n)) ≡ true
follows-range places voter a zero high = refl
follows-range places voter a (suc n) high =
    follows-place a voter (get_or places a None) (filter_map (entry_of places) (range_with_len (a + 1) n)) (omega arith) (follows-range places voter (a + 1) n (omega arith))

-- a vote of the next member may come after them
pub follows-votes_below : (places : Places) (n : ℕ) → follows (λ e. nat_lt e.voter.0 n) (votes_below places n) ≡ true
follows-votes_below places n = follows-range places n 0 n (omega arith)

-- ---- the votes of so many members from one on

abbrev pub votes_from : Places → ℕ → ℕ → List VoteEntry
votes_from places member n = filter_map (entry_of places) (range_with_len member n)

-- without the vote of the first they are those of the others
pub votes_from-none : (places : Places) (member n : ℕ) → get_or places member None ≡ None → votes_from places member (suc n) ≡ votes_from places (member + 1) n
votes_from-none places member n is = ap (λ place. cons_option (option_map (entry member) place) (votes_from places (member + 1) n)) is

-- with it that comes first
pub votes_from-some : (places : Places) (member n : ℕ) (signature : Signature) → get_or places member None ≡ Some signature
    → votes_from places member (suc n) ≡ entry member signature ∷ votes_from places (member + 1) n
votes_from-some places member n signature is = ap (λ place. cons_option (option_map (entry member) place) (votes_from places (member + 1) n)) is

-- ---- with one vote more

-- its voter has voted, and everyone who had
pub voted-with : (places : Places) (vote : Vote) (member : ℕ) → vote.voter.0 < length places → has_voted (with_vote places vote) member ≡ (has_voted places member || (member == vote.voter.0))
voted-with places vote member within =
    elim (cases_Bool (member == vote.voter.0)) [
      | inl same ↦
          let is : member ≡ vote.voter.0 = eqb-true member vote.voter.0 same in
          ap is_some (get_or-set_at places vote.voter.0 member (Some vote.signature) None is within) ∙ sym (ap (λ b. has_voted places member || b) same ∙ or-true (has_voted places member))
      | inr apart ↦
          let differs : member ≢ vote.voter.0 = λ e. (let same = eq-eqb member vote.voter.0 e in absurd cc) in
          ap is_some (get_or-set_other places vote.voter.0 member (Some vote.signature) None differs) ∙ sym (ap (λ b. has_voted places member || b) apart ∙ or-false (has_voted places member))
    ]

-- the same of a vote as a certificate has it
pub voted-entry : (places : Places) (vote : VoteEntry) (member : ℕ) → vote.voter.0 < length places → has_voted (with_entry places vote) member ≡ (has_voted places member || (member == vote.voter.0))
voted-entry places vote member within =
    voted-with places (record { header = record { 0 = [] }; round = 0; author = record { 0 = 0 }; voter = vote.voter; signature = vote.signature }) member within

-- with one vote after others
pub with_entries-push : (places : Places) (votes : List VoteEntry) (vote : VoteEntry) → with_entries places (votes ++ vote ∷ []) ≡ with_entry (with_entries places votes) vote
with_entries-push places [] vote = refl
with_entries-push places (v ∷ vs) vote = with_entries-push (with_entry places v) vs vote

-- they are as many as before
pub length-with_entries : (places : Places) (votes : List VoteEntry) → length (with_entries places votes) ≡ length places
length-with_entries places [] = refl
length-with_entries places (v ∷ vs) = length-with_entries (with_entry places v) vs ∙ length-set places v.voter.0 (Some v.signature)

-- where no place has a vote nobody has voted
none-voted : (n member : ℕ) → has_voted (replicate n None) member ≡ false
none-voted n member =
    let unvoted : Option Signature = None in
    elim (cases_lt member n) [
      | inl within ↦ ap is_some (get_or-replicate n member None None within)
      | inr past ↦ ap is_some (get_or_past (replicate n unvoted) member unvoted (omega (arith, length-replicate n unvoted)))
    ]

-- with the own vote alone only its voter has
pub alone-voted : (n : ℕ) (own : Vote) (member : ℕ) → own.voter.0 < n → has_voted (with_vote (replicate n None) own) member ≡ (member == own.voter.0)
alone-voted n own member mine =
    let unvoted : Option Signature = None in
    let long : length (replicate n unvoted) ≡ n = length-replicate n unvoted in
    voted-with (replicate n unvoted) own member (omega arith) ∙ ap (λ b. b || (member == own.voter.0)) (none-voted n member)

-- no member's vote is a quorum alone
pub alone-below : (charter : Charter) (own : Vote) → IsCharter charter → own.voter.0 < length charter.keys
    → votes_weight charter (with_vote (replicate (length charter.keys) None) own) < quorum_of charter
alone-below charter own is mine =
    let same = weight-same charter (has_voted (with_vote (replicate (length charter.keys) None) own)) (λ m. m == own.voter.0) (λ m within. alone-voted (length charter.keys) own m mine) in
    let shared = is.shared own.voter.0 0 (omega (arith, is.staked)) in
    omega (arith, same, weight-one charter own.voter.0 mine, shared)

-- a vote on a header has its digest
pub on-digest : (body : HeaderBody) (vote : Vote) → is_on body vote ≡ true → vote.header.0 ≡ header_digest_of body
on-digest body vote on =
    (bytes_eq-Decides vote.header.0 (header_digest_of body)).0 (and_parts (bytes_eq vote.header.0 (header_digest_of body)) ((vote.round == body.round) && (vote.author.0 == body.author.0)) on).0

-- an assembly that is restored keeps what each keeps
pub restored-kept : (charter : Charter) (header : Header) (places : Places) (digest : Digest) (voters : MemberSet) (complete : Bool) → IsCharter charter
    → length places ≡ length charter.keys → digest.0 ≡ header_digest_of header.body → ((member : ℕ) → has voters member ≡ has_voted places member)
    → complete ≡ nat_le (quorum_of charter) (weight charter (has voters))
    → IsKept (record { charter = charter; header = header; places = places; complete = complete }) digest voters
restored-kept charter header places digest voters complete is size digested voted made =
    let same = weight-same charter (has voters) (has_voted places) (λ m within. voted m) in
    record {
      assembly = record {
        committee = is;
        size = size;
        below = λ e. omega (arith, same, leb-false _ _ (sym made ∙ e));
        enough = λ e. omega (arith, same, leb-true _ _ (sym made ∙ e));
      };
      digested = digested;
      voted = voted;
    }

-- it is complete where those who have voted weigh a quorum
pub restored-complete : (charter : Charter) (places : Places) (voters : MemberSet) → ((member : ℕ) → has voters member ≡ has_voted places member)
    → nat_le (quorum_of charter) (weight charter (has voters)) ≡ nat_le (quorum_of charter) (votes_weight charter places)
restored-complete charter places voters voted = ap (nat_le (quorum_of charter)) (weight-same charter (has voters) (has_voted places) (λ m within. voted m))

-- what stands in its places and whether they weigh a quorum make it the restored one
pub restored-is : (charter : Charter) (header : Header) (own : Vote) (votes : List VoteEntry) (places : Places) (complete : Bool)
    → places ≡ with_entries (started charter header own).places votes → complete ≡ nat_le (quorum_of charter) (votes_weight charter places)
    → ◌≡◌ {A = AssemblyView} (record { charter = charter; header = header; places = places; complete = complete }) (restored charter header own votes)
restored-is charter header own votes places complete are made =
    ap (λ b. record { charter = charter; header = header; places = places; complete = b }) made
    ∙ ap (λ ps. record { charter = charter; header = header; places = ps; complete = nat_le (quorum_of charter) (votes_weight charter ps) }) are

-- the weight of those who have voted with one vote more
pub weight-with : (old : AssemblyView) (vote : Vote) (digest : Digest) (before voters : MemberSet) → IsKept old digest before → vote.voter.0 < length old.charter.keys
    → ((member : ℕ) → has voters member ≡ (has before member || (member == vote.voter.0)))
    → weight old.charter (has voters) ≡ votes_weight old.charter (with_vote old.places vote)
weight-with old vote digest before voters kept within more =
    let place : vote.voter.0 < length old.places = omega (arith, kept.assembly.size) in
    weight-same old.charter (has voters) (has_voted (with_vote old.places vote))
    (λ m inside. more m ∙ ap (λ b. b || (m == vote.voter.0)) (kept.voted m) ∙ sym (voted-with old.places vote m place))

-- what is kept, with one vote more
pub kept-with : (old : AssemblyView) (vote : Vote) (digest : Digest) (before voters : MemberSet) (complete : Bool) → IsKept old digest before → vote.voter.0 < length old.charter.keys
    → ((member : ℕ) → has voters member ≡ (has before member || (member == vote.voter.0)))
    → (complete ≡ false → weight old.charter (has voters) < quorum_of old.charter)
    → (complete ≡ true → quorum_of old.charter ≤ weight old.charter (has voters))
    → IsKept (record { charter = old.charter; header = old.header; places = with_vote old.places vote; complete = complete }) digest voters
kept-with old vote digest before voters complete kept within more few many =
    let place : vote.voter.0 < length old.places = omega (arith, kept.assembly.size) in
    let voted : (member : ℕ) → has voters member ≡ has_voted (with_vote old.places vote) member =
    λ m. more m ∙ ap (λ b. b || (m == vote.voter.0)) (kept.voted m) ∙ sym (voted-with old.places vote m place) in
    let weighs = weight-with old vote digest before voters kept within more in
    record {
      assembly = record {
        committee = kept.assembly.committee;
        size = length-set old.places vote.voter.0 (Some vote.signature) ∙ kept.assembly.size;
        below = λ e. omega (arith, few e, weighs);
        enough = λ e. omega (arith, many e, weighs);
      };
      digested = kept.digested;
      voted = voted;
    }

-- a vote that is ours is a member's, and on the header
pub ours_member : (old : AssemblyView) (vote : Vote) → is_ours old vote ≡ true → vote.voter.0 < length old.charter.keys
ours_member old vote ours =
    ltb-true vote.voter.0 (length old.charter.keys) (and_parts (nat_lt vote.voter.0 (length old.charter.keys)) (is_on old.header.body vote) ours).0

pub ours_on : (old : AssemblyView) (vote : Vote) → is_ours old vote ≡ true → is_on old.header.body vote ≡ true
ours_on old vote ours = (and_parts (nat_lt vote.voter.0 (length old.charter.keys)) (is_on old.header.body vote) ours).1

neither : (a b : Bool) → a ≡ false → b ≡ false → (a || b) ≡ false
neither a b first second = rw (first, second)

-- a new vote on the header with which they weigh too little is counted
pub counts : (old : AssemblyView) (vote : Vote) (digest : Digest) (before voters : MemberSet) → IsKept old digest before → vote.voter.0 < length old.charter.keys
    → ((member : ℕ) → has voters member ≡ (has before member || (member == vote.voter.0)))
    → is_on old.header.body vote ≡ true → old.complete ≡ false → has before vote.voter.0 ≡ false
    → weight old.charter (has voters) < quorum_of old.charter
    → answer old vote ≡ Counted
counts old vote digest before voters kept within more on going absent few =
    let again = neither old.complete (has_voted old.places vote.voter.0) going (sym (kept.voted vote.voter.0) ∙ absent) in
    let weighs = weight-with old vote digest before voters kept within more in
    let low = lt-ltb (votes_weight old.charter (with_vote old.places vote)) (quorum_of old.charter) (omega (arith, few, weighs)) in
    let member = lt-ltb vote.voter.0 (length old.charter.keys) within in
    rw (member, on, again, low)

-- one with which they weigh a quorum makes the certificate
pub completes : (old : AssemblyView) (vote : Vote) (digest : Digest) (before voters : MemberSet) → IsKept old digest before → vote.voter.0 < length old.charter.keys
    → ((member : ℕ) → has voters member ≡ (has before member || (member == vote.voter.0)))
    → is_on old.header.body vote ≡ true → old.complete ≡ false → has before vote.voter.0 ≡ false
    → quorum_of old.charter ≤ weight old.charter (has voters)
    → answer old vote ≡ Complete (certificate_of old.header.body (with_vote old.places vote))
completes old vote digest before voters kept within more on going absent many =
    let again = neither old.complete (has_voted old.places vote.voter.0) going (sym (kept.voted vote.voter.0) ∙ absent) in
    let weighs = weight-with old vote digest before voters kept within more in
    let high = le-ltb (votes_weight old.charter (with_vote old.places vote)) (quorum_of old.charter) (omega (arith, many, weighs)) in
    let member = lt-ltb vote.voter.0 (length old.charter.keys) within in
    rw (member, on, again, high)

-- an answer by these tests counts a vote that is ours and comes first, and completes the certificate with enough votes
completion_by : (ours again few complete : Bool) (made : Certificate)
    → completion_of (if not ours then NotOurs else if again then Again else if few then Counted else Complete made) ≡ Some complete
    → (ours ≡ true) × (again ≡ false) × (few ≡ not complete)
completion_by false again few complete made is = absurd cc
completion_by true true few complete made is = absurd cc
completion_by true false true true made is = absurd cc
completion_by true false true false made is = (refl, refl, refl)
completion_by true false false true made is = (refl, refl, refl)
completion_by true false false false made is = absurd cc

-- a vote that is counted is a member's
pub counted_member : (old : AssemblyView) (vote : Vote) (complete : Bool) → completion_of (answer old vote) ≡ Some complete → vote.voter.0 < length old.charter.keys
counted_member old vote complete is =
    ours_member old vote (completion_by (is_ours old vote) (is_again old vote) (is_too_few old vote) complete _ is).0

-- with it they weigh too little, or a quorum
pub counted_few : (old : AssemblyView) (vote : Vote) (complete : Bool) → completion_of (answer old vote) ≡ Some complete → complete ≡ false
    → votes_weight old.charter (with_vote old.places vote) < quorum_of old.charter
counted_few old vote complete is few =
    ltb-true (votes_weight old.charter (with_vote old.places vote)) (quorum_of old.charter)
    ((completion_by (is_ours old vote) (is_again old vote) (is_too_few old vote) complete _ is).2 ∙ ap not few)

pub counted_many : (old : AssemblyView) (vote : Vote) (complete : Bool) → completion_of (answer old vote) ≡ Some complete → complete ≡ true
    → quorum_of old.charter ≤ votes_weight old.charter (with_vote old.places vote)
counted_many old vote complete is many =
    ltb-false (votes_weight old.charter (with_vote old.places vote)) (quorum_of old.charter)
    ((completion_by (is_ours old vote) (is_again old vote) (is_too_few old vote) complete _ is).2 ∙ ap not many)
