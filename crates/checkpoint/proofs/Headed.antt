-- The own headers of a table, taken apart one by one.
use Rattle.std.proofs.Common.{◌≡◌, ◌≢◌, ℕ, zero, suc, ◌+◌, ◌<◌, ◌≤◌, true, false, List, [], ◌∷◌, ◌++◌}
use Rattle.std.proofs.Common.{map, length, get_or, take, slice_get, Option, Some, None, inl, inr, refl, ap, sym, ◌∙◌, subst, arith}
use Rattle.std.specs.Prelude.{◌⊎◌, ◌==◌, not, Bool, IsTrue, All, filter, find, option_map}
use Rattle.std.specs.List.Sorted.{IsStrictlySortedBy}
use Rattle.std.specs.Ordering.{nat_cmp}
use Rattle.std.proofs.lemmas.Bool.{cases_Bool, eqb-true, eq-eqb}
use Rattle.std.proofs.lemmas.List.{get_or-map, length-map, map-append, take_all}
use Rattle.std.proofs.lemmas.List.Elements.{All-cons, All-push, All-weaker}
use Rattle.std.proofs.lemmas.Map.Keys.{below_from_sorted, sorted_tail}
use Rattle.std.proofs.lemmas.Option.{get_or_from_slice_get, slice_get_within, slice_get-map, same_Some, none-some}
use Rattle.committee.specs.Charter.{Charter}
use Rattle.wire.specs.declared.header.Header.{Header}
use Rattle.wire.specs.declared.votes.VoteEntry.{VoteEntry}
use Rattle.certify.specs.Assembled.{AssemblyView, IsAssembled, is_on, restored, votes_in}
use Rattle.certify.proofs.VoteLaws.{rises-votes_below}
use Rattle.wire.specs.References.{vote_before, votes_rise}
use Rattle.admission.specs.Headers.{AssembliesView, IsEntry, IsHeaders, assembly_at}
use Rattle.admission.specs.Kept.{AreVotedBy, IsVotedBy, entry_of, table_of}
use Rattle.admission.specs.declared.kept.VotedHeader.{VotedHeader}
use Rattle.checkpoint.specs.Kept.{AreOfOthers}
use Rattle.checkpoint.specs.Parts.{AreOf, is_other, other_votes}
use Rattle.checkpoint.proofs.Rising.{filter_rises, numbers_through}
use Rattle.checkpoint.proofs.Copied.{one_more}
use Rattle.checkpoint.proofs.Counted.{by_members, made_again}

abbrev key_of : ℕ × AssemblyView → ℕ
key_of entry = entry.0

-- an entry of rising rounds is the one that is found for its round
found_at : (entries : List (ℕ × AssemblyView)) (k : ℕ) (entry : ℕ × AssemblyView) → IsStrictlySortedBy nat_cmp (map key_of entries) → slice_get entries k ≡ Some entry
    → find (λ (other : ℕ × AssemblyView). other.0 == entry.0) entries ≡ Some entry
found_at [] k entry rise is = absurd (none-some entry is)
found_at (first ∷ entries) zero entry rise is =
    let same : first ≡ entry = same_Some first entry is in
    let here : (first.0 == entry.0) ≡ true = eq-eqb first.0 entry.0 (ap key_of same) in
    rw here (ap Some same)
found_at (first ∷ entries) (suc k) entry rise is =
    let within : k < length entries = slice_get_within entries k entry is in
    let long = length-map entries key_of in
    let less = below_from_sorted (map key_of (first ∷ entries)) 0 (suc k) 0 rise (omega arith) (omega (arith, within, long)) in
    let there : get_or (map key_of entries) k 0 ≡ entry.0 = get_or-map key_of entries k entry 0 within ∙ ap key_of (get_or_from_slice_get entries k entry entry is) in
    let apart : (first.0 == entry.0) ≡ false = elim (cases_Bool (first.0 == entry.0)) [
      | inl same ↦ let equal = eqb-true first.0 entry.0 same in absurd (omega (arith, less, there, equal))
      | inr apart ↦ apart
    ] in
    rw apart (found_at entries k entry (sorted_tail nat_cmp first.0 (map key_of entries) rise) is)

-- what stands at a place
pub entry_at : (headers : AssembliesView) (place : ℕ) (assembled : AssemblyView) → IsHeaders headers → Some assembled ≡ slice_get (map (λ (entry : ℕ × AssemblyView). entry.1) headers.rounds) place
    → (slice_get headers.rounds place ≡ Some (assembled.header.body.round, assembled)) × IsEntry headers assembled.header.body.round assembled
entry_at headers place assembled is there =
    elim (some_or_none (slice_get headers.rounds place)) [
      | inr none ↦ absurd (none-some assembled (sym (ap (option_map (λ (entry : ℕ × AssemblyView). entry.1)) none)
          ∙ sym (slice_get-map (λ (entry : ℕ × AssemblyView). entry.1) headers.rounds place) ∙ sym there))
      | inl found ↦
          let entry = found.0 in
          let same : entry.1 ≡ assembled = same_Some entry.1 assembled
          (sym (ap (option_map (λ (entry : ℕ × AssemblyView). entry.1)) found.1) ∙ sym (slice_get-map (λ (entry : ℕ × AssemblyView). entry.1) headers.rounds place) ∙ sym there) in
          let held : assembly_at headers entry.0 ≡ Some assembled = ap (option_map (λ (entry : ℕ × AssemblyView). entry.1)) (found_at headers.rounds place entry is.rise found.1) ∙ ap Some same in
          let kept = is.entries entry.0 assembled held in (
            found.1 ∙ ap (λ (a : AssemblyView). Some (entry.0, a)) same ∙ ap (λ (r : ℕ). Some (r, assembled)) (sym kept.place),
            subst (λ (r : ℕ). IsEntry headers r assembled) (sym kept.place) kept,
          )
    ]
  where
    some_or_none : {X : Type 0} (o : Option X) → ((x : X) × (o ≡ Some x)) ⊎ (o ≡ None)
    some_or_none (Some x) = inl (x, refl)
    some_or_none None = inr refl

passing : {X : Type 0} (test : X → Bool) (xs : List X) → All (λ x. test x ≡ true) (filter test xs)
passing test [] = λ i d within. absurd (omega (arith, within))
passing test (x ∷ xs) =
    elim (cases_Bool (test x)) [
      | inl so ↦ rw so (All-cons (λ y. test y ≡ true) x (filter test xs) so (passing test xs))
      | inr off ↦ rw off (passing test xs)
    ]

-- the votes of an assembly rise, and so do those of others
of_others : (own : ℕ) (assembled : AssemblyView) (voted : VotedHeader) → AreOf own assembled voted.header voted.vote voted.votes.items → AreOfOthers own voted
of_others own assembled voted of = record {
  rise = subst (λ l. IsTrue (votes_rise l)) (sym of.votes)
      (filter_rises vote_before (λ x y z one two. numbers_through x.voter.0 y.voter.0 z.voter.0 one two) (is_other own) (votes_in assembled.places)
      (rises-votes_below assembled.places (length assembled.places)));
  others = subst (All (λ (entry : VoteEntry). entry.voter.0 ≢ own)) (sym of.votes)
      (All-weaker (λ entry. is_other own entry ≡ true) (λ (entry : VoteEntry). entry.voter.0 ≢ own) (λ entry other. differs entry.voter.0 other) (other_votes own assembled.places)
      (passing (is_other own) (votes_in assembled.places)));
}
  where
    differs : (voter : ℕ) → not (voter == own) ≡ true → voter ≢ own
    differs voter other same = let bad = rw (eq-eqb voter own same) at other in absurd cc

-- so many are taken apart
pub record AreApart (headers : AssembliesView) (found : List VotedHeader) (place : ℕ) : Type 0 where
  pub entries : map (entry_of headers.charter) found ≡ take place headers.rounds
  pub each : All (λ one. IsVotedBy headers.charter headers.own one.header one.vote one.votes.items) found
  pub others : All (AreOfOthers headers.own) found

pub none_apart : (headers : AssembliesView) (found : List VotedHeader) → found ≡ [] → AreApart headers found 0
none_apart headers found is = subst (λ l. AreApart headers l 0) (sym is)
    (record { entries = refl; each = λ i d within. absurd (omega (arith, within)); others = λ i d within. absurd (omega (arith, within)) })

pub one_apart : (headers : AssembliesView) (found : List VotedHeader) (place : ℕ) (assembled : AssemblyView) (one : VotedHeader) → IsHeaders headers → AreApart headers found place
    → IsAssembled assembled
    → Some assembled ≡ slice_get (map (λ (entry : ℕ × AssemblyView). entry.1) headers.rounds) place
    → AreOf assembled.header.body.author.0 assembled one.header one.vote one.votes.items → AreApart headers (found ++ one ∷ []) (place + 1)
one_apart headers found place assembled one is apart sound there of =
    let charter = headers.charter in
    let at = entry_at headers place assembled is there in
    let its = at.1 in
    let author = its.author in
    let member = is.member in
    let members : length assembled.charter.keys ≡ length charter.keys = ap (λ (c : Charter). length c.keys) its.charter in
    let again : restored assembled.charter one.header one.vote one.votes.items ≡ assembled =
    made_again assembled.header.body.author.0 assembled one.header one.vote one.votes.items sound (omega (arith, author, member, members)) of in
    let entry : entry_of charter one ≡ (assembled.header.body.round, assembled) =
    ap (λ (h : Header). (h.body.round, restored charter one.header one.vote one.votes.items)) of.header
    ∙ ap (λ (c : Charter). (assembled.header.body.round, restored c one.header one.vote one.votes.items)) (sym its.charter)
    ∙ ap (λ (a : AssemblyView). (assembled.header.body.round, a)) again in
    record {
      entries = map-append (entry_of charter) found (one ∷ []) ∙ ap (λ l. l ++ entry_of charter one ∷ []) apart.entries ∙ ap (λ e. take place headers.rounds ++ e ∷ []) entry
          ∙ sym (one_more headers.rounds place (assembled.header.body.round, assembled) at.0);
      each = All-push (λ (one : VotedHeader). IsVotedBy charter headers.own one.header one.vote one.votes.items) found one apart.each (record {
        author = ap (λ (h : Header). h.body.author.0) of.header ∙ its.author;
        voter = of.vote.voter ∙ its.author;
        on = subst (λ (h : Header). IsTrue (is_on h.body one.vote)) (sym of.header) of.vote.on;
        members = subst (λ (c : Charter). All (λ (e : VoteEntry). e.voter.0 < length c.keys) one.votes.items) its.charter
            (by_members assembled.header.body.author.0 assembled one.header one.vote one.votes.items sound of);
      });
      others = All-push (AreOfOthers headers.own) found one apart.others (subst (λ own. AreOfOthers own one) its.author (of_others assembled.header.body.author.0 assembled one of));
    }

keys_are : (charter : Charter) (found : List VotedHeader) → map (λ (v : VotedHeader). v.header.body.round) found ≡ map key_of (map (entry_of charter) found)
keys_are charter [] = refl
keys_are charter (v ∷ found) = ap (λ l. v.header.body.round ∷ l) (keys_are charter found)

-- with all of them the table is theirs
pub all_apart : (headers : AssembliesView) (found : List VotedHeader) → IsHeaders headers → map (entry_of headers.charter) found ≡ headers.rounds
    → All (λ one. IsVotedBy headers.charter headers.own one.header one.vote one.votes.items) found → AreVotedBy headers.charter headers.own found
all_apart headers found is entries each = record {
  rising = λ i j d less within.
      let round = λ (v : VotedHeader). v.header.body.round in
      let keys : map round found ≡ map key_of headers.rounds = keys_are headers.charter found ∙ ap (map key_of) entries in
      let long = length-map found round in
      let below = below_from_sorted (map round found) i j 0 (subst (IsStrictlySortedBy nat_cmp) (sym keys) is.rise) less (omega (arith, within, long)) in
      let first = get_or-map round found i d 0 (omega (arith, less, within)) in
      let second = get_or-map round found j d 0 within in
      omega (arith, below, first, second);
  each = each;
}

past_end : {X : Type 0} (xs : List X) (k : ℕ) → slice_get xs k ≡ None → length xs ≤ k
past_end [] k is = omega arith
past_end (x ∷ xs) zero is = absurd (none-some x (sym is))
past_end (x ∷ xs) (suc k) is = let less = past_end xs k is in omega (arith, less)

-- they are all where nothing stands at the place
pub whole : (headers : AssembliesView) (found : List VotedHeader) (place : ℕ) → AreApart headers found place → None ≡ slice_get (map (λ (entry : ℕ × AssemblyView). entry.1) headers.rounds) place
    → map (entry_of headers.charter) found ≡ headers.rounds
whole headers found place apart none =
    let long = length-map headers.rounds (λ (entry : ℕ × AssemblyView). entry.1) in
    let past = past_end (map (λ (entry : ℕ × AssemblyView). entry.1) headers.rounds) place (sym none) in
    apart.entries ∙ take_all place headers.rounds (omega (arith, long, past))

pub same_table : (headers : AssembliesView) (found : List VotedHeader) → map (entry_of headers.charter) found ≡ headers.rounds → table_of headers.charter headers.own found ≡ headers
same_table headers found entries = ap (λ (rounds : List (ℕ × AssemblyView)). let h : AssembliesView = record { charter = headers.charter; own = headers.own; rounds = rounds } in h) entries
