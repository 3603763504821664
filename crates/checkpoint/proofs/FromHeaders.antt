-- The own headers that were read, with the own votes on them, are those of the state.
use Rattle.std.proofs.Common.{◌≡◌, ◌≢◌, ℕ, ◌<◌, Bool, true, inl, inr, List, [], ◌∷◌, length, map, find, get_or, Option, Some, None, refl, sym, ap, subst, ◌∙◌, arith}
use Rattle.std.specs.Prelude.{◌==◌, ◌&&◌, nat_lt, IsTrue, All, AllPairs, Contains, option_map, option_and_then, replicate}
use Rattle.std.specs.Option.{option_or}
use Rattle.std.proofs.lemmas.Bool.{cases_Bool, and_from, eq-eqb, eqb-true, ltb-true, ne_eqb, true≢false}
use Rattle.std.proofs.lemmas.Grind.{get_or-set_at}
use Rattle.std.proofs.lemmas.List.{length-set, length-replicate}
use Rattle.std.proofs.lemmas.List.Elements.{All-contains}
use Rattle.std.proofs.lemmas.Slice.Eq.{bytes_eq-Decides}
use Rattle.admission.specs.Headers.{AssembliesView, assembly_at, vote_in}
use Rattle.admission.specs.Headers as headers
use Rattle.admission.specs.Kept.{AreVotedBy, IsVotedBy, entry_of, table_of}
use Rattle.admission.specs.declared.kept.VotedHeader.{VotedHeader}
use Rattle.certify.specs.Assembled.{AssemblyView, Places, is_on, restored, with_vote}
use Rattle.spec_laws.proofs.Lists.{Contains-first, Contains-later, Contains-nothing, Contains-cases, found_passes}
use Rattle.spec_laws.proofs.Votes.{slot_is}
use Rattle.spec_machine.specs.Sound.{AreVotes}
use Rattle.spec_model.specs.Holdings.{own_vote}
use Rattle.spec_model.specs.Nodes.{Node, IsNode}
use Rattle.spec_model.specs.Slots.{header_digest}
use Rattle.spec_model.specs.Words.{HeaderBody, Signature, Vote, VoteEntry}
use Rattle.wire.specs.References.{vote_before}
use Rattle.wire.specs.Rising.{rises}
use Rattle.spec_checkpoint.specs.Data.{KeptHeader, IsKeptHeader, Checkpoint}
use Rattle.spec_checkpoint.specs.Meaning.{vote_of, kept_vote, kept_header, state_in}
use Rattle.checkpoint.specs.Judging.{HasOwnVote}
use Rattle.checkpoint.specs.Kept.{header_of, AreOfOthers}
use Rattle.checkpoint.proofs.KeptHeaders.{placed, others_vote, votes_pairs}
use Rattle.checkpoint.proofs.Rising.{all_by, find-map, found_itself, numbers_apart, numbers_through, rise_pairs, Before}

-- ---- lists

rises-map : {X Y : Type 0} (f : X → Y) (below : Y → Y → Bool) (xs : List X) → rises below (map f xs) ≡ rises (λ x y. below (f x) (f y)) xs
rises-map f below [] = refl
rises-map f below (x ∷ []) = refl
rises-map f below (x ∷ y ∷ xs) = ap (λ b. below (f x) (f y) && b) (rises-map f below (y ∷ xs))

mapped_inside : {X Y : Type 0} (f : X → Y) (xs : List X) (x : X) → Contains xs x → Contains (map f xs) (f x)
mapped_inside f [] x inside = absurd (Contains-nothing x inside)
mapped_inside f (y ∷ xs) x inside = elim (Contains-cases y xs x inside) [
  | inl same ↦ subst (λ z. Contains (map f (y ∷ xs)) (f z)) same (Contains-first (map f xs) (f y))
  | inr later ↦ Contains-later (f y) (map f xs) (f x) (mapped_inside f xs x later)
]

-- ---- one header

is_on_itself : (node : Node) (body : HeaderBody) → is_on body (own_vote node body) ≡ true
is_on_itself node body =
    and_from _ _ ((bytes_eq-Decides (header_digest body).0 (header_digest body).0).1 refl) (and_from _ _ (eq-eqb body.round body.round refl) (eq-eqb body.author.0 body.author.0 refl))

none_of_own : (own : ℕ) (votes : List VoteEntry) → All (λ (e : VoteEntry). e.voter.0 ≢ own) votes → find (λ (e : VoteEntry). e.voter.0 == own) votes ≡ None
none_of_own own votes others = by (find (λ (e : VoteEntry). e.voter.0 == own) votes) refl
  where
    by : (o : Option VoteEntry) → find (λ (e : VoteEntry). e.voter.0 == own) votes ≡ o → find (λ (e : VoteEntry). e.voter.0 == own) votes ≡ None
    by None is = is
    by (Some e) is =
        let found = found_passes (λ (e : VoteEntry). e.voter.0 == own) votes e is in
        absurd (All-contains (λ (x : VoteEntry). x.voter.0 ≢ own) votes e others found.1 (eqb-true e.voter.0 own found.0))

module _ (node : Node) (member : node.own.0 < length node.charter.keys) (voted : VotedHeader) (by : IsVotedBy node.charter node.own.0 voted.header voted.vote voted.votes.items)
    (listed : AreOfOthers node.own.0 voted) (own : HasOwnVote node voted) where
  abbrev votes : List VoteEntry
  votes = voted.votes.items

  -- the own vote stands in its place
  own_place : get_or (restored node.charter voted.header voted.vote votes).places node.own.0 None ≡ Some voted.vote.signature
  own_place =
      let empty : Places = replicate (length node.charter.keys) None in
      let first = with_vote empty voted.vote in
      let long : length first ≡ length node.charter.keys = length-set empty voted.vote.voter.0 (Some voted.vote.signature) ∙ length-replicate (length node.charter.keys) None in
      let size : length empty ≡ length node.charter.keys = length-replicate (length node.charter.keys) None in
      let voter = by.voter in
      let here : get_or first node.own.0 None ≡ Some voted.vote.signature =
      get_or-set_at empty voted.vote.voter.0 node.own.0 (Some voted.vote.signature) None (sym voter) (omega (arith, voter, member, size)) in
      placed first votes node.own.0 (votes_pairs node voted by listed)
      (all_by (λ (e : VoteEntry). e.voter.0 < length first) votes (λ e inside. let below = All-contains
      (λ (x : VoteEntry). x.voter.0 < length node.charter.keys) votes e by.members inside in omega (arith, below, long)))
      ∙ ap (λ o. option_or (option_map (λ (e : VoteEntry). e.signature) o) (get_or first node.own.0 None)) (none_of_own node.own.0 votes listed.others)
      ∙ here

  own_vote_in : vote_in (restored node.charter voted.header voted.vote votes) node.own.0 ≡ Some (own_vote node voted.header.body)
  own_vote_in =
      let body = voted.header.body in
      let with_signature : Signature → Vote = λ signature. record { header = header_digest body; round = body.round; author = body.author; voter = node.own; signature = signature } in
      ap (option_map with_signature) own_place ∙ ap (λ (v : Vote). Some (with_signature v.signature)) own

  pub any_vote_in : (voter : ℕ) → vote_in (restored node.charter voted.header voted.vote votes) voter ≡ kept_vote node (header_of voted) voter
  any_vote_in voter = elim (cases_Bool (voter == node.own.0)) [
    | inl mine ↦
        let same = eqb-true voter node.own.0 mine in
        rw mine (ap (vote_in (restored node.charter voted.header voted.vote votes)) same ∙ own_vote_in)
    | inr other ↦
        rw other (sym (others_vote node voted by listed voter (λ same. true≢false (sym (eq-eqb voter node.own.0 same) ∙ other))))
  ]

-- ---- all of them

abbrev voted_at : List VotedHeader → ℕ → Option VotedHeader
voted_at items round = find (λ (v : VotedHeader). v.header.body.round == round) items

abbrev round_before : KeptHeader → KeptHeader → Bool
round_before one other = nat_lt one.header.body.round other.header.body.round

module _ (node : Node) (checkpoint : Checkpoint) (items : List VotedHeader) (node_is : IsNode node) (sound : AreVotes node (state_in node checkpoint))
    (same : map header_of items ≡ checkpoint.headers) (canonical : All (IsKeptHeader node) checkpoint.headers) (rise : IsTrue (rises round_before checkpoint.headers))
    (own : All (HasOwnVote node) items) where
  pairs : AllPairs (Before (λ (one other : VotedHeader). nat_lt one.header.body.round other.header.body.round)) items
  pairs =
      rise_pairs (λ (one other : VotedHeader). nat_lt one.header.body.round other.header.body.round)
      (λ x y z one two. numbers_through x.header.body.round y.header.body.round z.header.body.round one two) items
      (sym (rises-map header_of round_before items) ∙ ap (rises round_before) same ∙ rise)

  kept_is : (round : ℕ) → kept_header checkpoint round ≡ option_map header_of (voted_at items round)
  kept_is round =
      ap (find (λ (kept : KeptHeader). kept.header.body.round == round)) (sym same) ∙ find-map header_of (λ (kept : KeptHeader). kept.header.body.round == round) items

  table_is : (round : ℕ) → assembly_at (table_of node.charter node.own.0 items) round ≡ option_map (λ (e : ℕ × AssemblyView). e.1) (option_map (entry_of node.charter) (voted_at items round))
  table_is round = ap (option_map (λ (e : ℕ × AssemblyView). e.1)) (find-map (entry_of node.charter) (λ (e : ℕ × AssemblyView). e.0 == round) items)

  kept_itself : (v : VotedHeader) → Contains items v → IsKeptHeader node (header_of v)
  kept_itself v inside = All-contains (IsKeptHeader node) checkpoint.headers (header_of v) canonical (subst (λ l. Contains l (header_of v)) same (mapped_inside header_of items v inside))

  others : (v : VotedHeader) → Contains items v → AreOfOthers node.own.0 v
  others v inside = let kept = kept_itself v inside in record { rise = kept.votes.rise; others = kept.others }

  found_there : (v : VotedHeader) → Contains items v → kept_header checkpoint v.header.body.round ≡ Some (header_of v)
  found_there v inside =
      kept_is v.header.body.round
      ∙ ap (option_map header_of) (found_itself (λ (one other : VotedHeader). nat_lt one.header.body.round other.header.body.round)
      (λ (x : VotedHeader). x.header.body.round == v.header.body.round) items v pairs inside
      (eq-eqb v.header.body.round v.header.body.round refl) (λ y before. numbers_apart y.header.body.round v.header.body.round before))

  -- who voted on one are members
  voter_below : (v : VotedHeader) (e : VoteEntry) → Contains items v → Contains v.votes.items e → e.voter.0 < length node.charter.keys
  voter_below v e inside there =
      let listed = others v inside in
      let off = ne_eqb e.voter.0 node.own.0 (All-contains (λ (x : VoteEntry). x.voter.0 ≢ node.own.0) v.votes.items e listed.others there) in
      let all = rise_pairs vote_before (λ x y z one two. numbers_through x.voter.0 y.voter.0 z.voter.0 one two) v.votes.items listed.rise in
      let itself = found_itself vote_before (λ (x : VoteEntry). x.voter.0 == e.voter.0) v.votes.items e all there (eq-eqb e.voter.0 e.voter.0 refl)
      (λ y before. numbers_apart y.voter.0 e.voter.0 before) in
      let voted_so : kept_vote node (header_of v) e.voter.0 ≡ Some (vote_of v.header e) = rw (off, itself) refl in
      let counts : (state_in node checkpoint).counted v.header.body.round e.voter.0 ≡ Some (vote_of v.header e) =
      ap (option_and_then (λ (kept : KeptHeader). kept_vote node kept e.voter.0)) (found_there v inside) ∙ voted_so in
      (sound.counted v.header.body.round e.voter.0 (vote_of v.header e) counts).member

  voted_by : (v : VotedHeader) → Contains items v → IsVotedBy node.charter node.own.0 v.header v.vote v.votes.items
  voted_by v inside =
      let mine = All-contains (HasOwnVote node) items v own inside in
      let held : (state_in node checkpoint).own_headers v.header.body.round ≡ Some v.header = ap (option_map (λ (kept : KeptHeader). kept.header)) (found_there v inside) in
      let is = sound.headers v.header.body.round v.header held in
      record {
        author = (slot_is v.header.body.round node.own.0 v.header.body is.place).1;
        voter = ap (λ (vote : Vote). vote.voter.0) mine;
        on = subst (λ (vote : Vote). IsTrue (is_on v.header.body vote)) (sym mine) (is_on_itself node v.header.body);
        members = all_by (λ (e : VoteEntry). e.voter.0 < length node.charter.keys) v.votes.items (λ e there. voter_below v e inside there);
      }

  pub are_voted : AreVotedBy node.charter node.own.0 items
  are_voted = record {
    rising = λ i j d less within. ltb-true _ _ (pairs i j d less within);
    each = all_by (λ v. IsVotedBy node.charter node.own.0 v.header v.vote v.votes.items) items voted_by;
  }

  same_held : (o : Option VotedHeader)
      → option_map (λ (a : AssemblyView). a.header) (option_map (λ (e : ℕ × AssemblyView). e.1) (option_map (entry_of node.charter) o)) ≡ option_map (λ (kept : KeptHeader). kept.header)
      (option_map header_of o)
  same_held None = refl
  same_held (Some v) = refl

  same_counted : (round voter : ℕ) (o : Option VotedHeader) → voted_at items round ≡ o
      → option_and_then (λ (a : AssemblyView). vote_in a voter) (option_map (λ (e : ℕ × AssemblyView). e.1) (option_map (entry_of node.charter) o))
      ≡ option_and_then (λ (kept : KeptHeader). kept_vote node kept voter) (option_map header_of o)
  same_counted round voter None is = refl
  same_counted round voter (Some v) is =
      let inside = (found_passes (λ (x : VotedHeader). x.header.body.round == round) items v is).1 in
      any_vote_in node node_is.member v (voted_by v inside) (others v inside) (All-contains (HasOwnVote node) items v own inside) voter

  pub are_at : headers.IsAt node (state_in node checkpoint) (table_of node.charter node.own.0 items)
  are_at = record {
    charter = refl;
    own = refl;
    held = λ round. ap (option_map (λ (a : AssemblyView). a.header)) (table_is round) ∙ same_held (voted_at items round) ∙ ap (option_map (λ (kept : KeptHeader). kept.header)) (sym (kept_is round));
    counted = λ round voter.
        ap (option_and_then (λ (a : AssemblyView). vote_in a voter)) (table_is round) ∙ same_counted round voter (voted_at items round) refl
        ∙ ap (option_and_then (λ (kept : KeptHeader). kept_vote node kept voter)) (sym (kept_is round));
  }
