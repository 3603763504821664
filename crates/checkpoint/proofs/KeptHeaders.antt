-- The own headers of a checkpoint are those of the state, with the votes that count on them.
use Rattle.std.proofs.Common.{◌≡◌, ◌≢◌, ℕ, ◌<◌, true, false, List, [], ◌∷◌, length, map, get_or, Option, Some, None, inl, inr, refl, sym, ap, ◌∙◌, arith}
use Rattle.std.specs.Prelude.{◌==◌, nat_lt, All, AllPairs, Contains, find, option_map, option_and_then, replicate, slice_set}
use Rattle.std.specs.Option.{option_or}
use Rattle.std.proofs.lemmas.Bool.{cases_Bool, eqb-true, eq-eqb, lt-ltb, ne_eqb, true≢false}
use Rattle.std.proofs.lemmas.Grind.{get_or-set_at}
use Rattle.std.proofs.lemmas.List.{length-set, length-replicate, get_or-set_other}
use Rattle.std.proofs.lemmas.List.Elements.{All-contains, All-head, All-tail}
use Rattle.admission.specs.Headers.{AssembliesView, assembly_at, vote_in}
use Rattle.admission.specs.Headers as headers
use Rattle.admission.specs.Kept.{AreVotedBy, IsVotedBy, entry_of, table_of}
use Rattle.admission.specs.declared.kept.VotedHeader.{VotedHeader}
use Rattle.certify.specs.Assembled.{AssemblyView, Places, restored, with_entries, with_vote}
use Rattle.spec_laws.proofs.Lists.{found_passes}
use Rattle.spec_machine.specs.Sound.{AreVotes}
use Rattle.spec_model.specs.Nodes.{Node, IsNode, size_of}
use Rattle.spec_model.specs.Slots.{header_digest}
use Rattle.spec_model.specs.States.{State}
use Rattle.spec_model.specs.Words.{Signature, Vote, VoteEntry}
use Rattle.wire.specs.References.{IsVoteEntry, vote_before}
use Rattle.spec_checkpoint.specs.Data.{KeptHeader, IsKeptHeader}
use Rattle.spec_checkpoint.specs.Meaning.{vote_of, kept_vote}
use Rattle.checkpoint.specs.Kept.{header_of, AreOfOthers}
use Rattle.checkpoint.proofs.Counted.{no_vote}
use Rattle.checkpoint.proofs.Rising.{all_by, all_mapped, few_between, find-map, found_itself, numbers_apart, numbers_through, pairs_first, pairs_mapped, pairs_rest, rise_pairs, Before}

-- ---- the places of votes

-- what stands in a member's place after votes that rise by voter
pub placed : (places : Places) (votes : List VoteEntry) (member : ℕ) → AllPairs (Before vote_before) votes → All (λ entry. entry.voter.0 < length places) votes
    → get_or (with_entries places votes) member None ≡ option_or (option_map (λ (e : VoteEntry). e.signature) (find (λ (e : VoteEntry). e.voter.0 == member) votes)) (get_or places member None)
placed places [] member pairs within = refl
placed places (e ∷ votes) member pairs within =
    let after = slice_set places e.voter.0 (Some e.signature) in
    let long = length-set places e.voter.0 (Some e.signature) in
    let inside = All-head (λ (x : VoteEntry). x.voter.0 < length places) e votes within in
    let rest = placed after votes member (pairs_rest (Before vote_before) e votes pairs)
    (all_by (λ (x : VoteEntry). x.voter.0 < length after) votes (λ x is. let below = All-contains (λ (y : VoteEntry). y.voter.0 < length places) votes x
    (All-tail (λ (y : VoteEntry). y.voter.0 < length places) e votes within) is in omega (arith, below, long))) in
    elim (cases_Bool (e.voter.0 == member)) [
      | inl here ↦
          let is : e.voter.0 ≡ member = eqb-true e.voter.0 member here in
          let none : find (λ (x : VoteEntry). x.voter.0 == member) votes ≡ None = none_later votes (all_by (λ (x : VoteEntry). (x.voter.0 == member) ≡ false) votes (λ x there.
          let before = All-contains (Before vote_before e) votes x (pairs_first (Before vote_before) e votes pairs) there in differs e.voter.0 x.voter.0 member before is)) in
          rw here (rest ∙ ap (λ o. option_or (option_map (λ (x : VoteEntry). x.signature) o) (get_or after member None)) none
          ∙ get_or-set_at places e.voter.0 member (Some e.signature) None (sym is) inside)
      | inr off ↦
          rw off (rest ∙ ap (option_or (option_map (λ (x : VoteEntry). x.signature) (find (λ (x : VoteEntry). x.voter.0 == member) votes)))
          (get_or-set_other places e.voter.0 member (Some e.signature) None (λ is. true≢false (sym (eq-eqb e.voter.0 member (sym is)) ∙ off))))
    ]
  where
    none_later : (list : List VoteEntry) → All (λ (x : VoteEntry). (x.voter.0 == member) ≡ false) list → find (λ (x : VoteEntry). x.voter.0 == member) list ≡ None
    none_later [] all = refl
    none_later (x ∷ list) all =
        let off = All-head (λ (y : VoteEntry). (y.voter.0 == member) ≡ false) x list all in
        rw off (none_later list (All-tail (λ (y : VoteEntry). (y.voter.0 == member) ≡ false) x list all))

    differs : (a b c : ℕ) → nat_lt a b ≡ true → a ≡ c → (b == c) ≡ false
    differs a b c less same = grind (arith, less, same)

-- ---- one header

module _ (node : Node) (voted : VotedHeader) (by : IsVotedBy node.charter node.own.0 voted.header voted.vote voted.votes.items) (listed : AreOfOthers node.own.0 voted) where
  abbrev votes : List VoteEntry
  votes = voted.votes.items

  pub votes_pairs : AllPairs (Before vote_before) votes
  votes_pairs = rise_pairs vote_before (λ x y z one two. numbers_through x.voter.0 y.voter.0 z.voter.0 one two) votes listed.rise

  -- another member's vote is that of its entry
  pub others_vote : (voter : ℕ) → voter ≢ node.own.0 → option_map (vote_of voted.header) (find (λ (e : VoteEntry). e.voter.0 == voter) votes)
      ≡ vote_in (restored node.charter voted.header voted.vote votes) voter
  others_vote voter other =
      let empty : Places = replicate (length node.charter.keys) None in
      let first = with_vote empty voted.vote in
      let long : length first ≡ length node.charter.keys = length-set empty voted.vote.voter.0 (Some voted.vote.signature) ∙ length-replicate (length node.charter.keys) None in
      let unvoted : get_or first voter None ≡ None =
      get_or-set_other empty voted.vote.voter.0 voter (Some voted.vote.signature) None (λ same. other (same ∙ by.voter)) ∙ no_vote (length node.charter.keys) voter in
      let places : get_or (with_entries first votes) voter None ≡ option_map (λ (e : VoteEntry). e.signature) (find (λ (e : VoteEntry). e.voter.0 == voter) votes) =
      placed first votes voter votes_pairs (all_by (λ (e : VoteEntry). e.voter.0 < length first) votes
      (λ e inside. let below = All-contains (λ (x : VoteEntry). x.voter.0 < length node.charter.keys) votes e by.members inside in omega (arith, below, long)))
      ∙ ap (option_or (option_map (λ (e : VoteEntry). e.signature) (find (λ (e : VoteEntry). e.voter.0 == voter) votes))) unvoted
      ∙ or_none (option_map (λ (e : VoteEntry). e.signature) (find (λ (e : VoteEntry). e.voter.0 == voter) votes)) in
      found (find (λ (e : VoteEntry). e.voter.0 == voter) votes) refl ∙ ap (option_map with_signature) (sym places)
    where
      or_none : {X : Type 0} (o : Option X) → option_or o None ≡ o
      or_none (Some x) = refl
      or_none None = refl

      with_signature : Signature → Vote
      with_signature signature = record {
        header = header_digest voted.header.body;
        round = voted.header.body.round;
        author = voted.header.body.author;
        voter = record { 0 = voter };
        signature = signature;
      }

      found : (o : Option VoteEntry) → find (λ (e : VoteEntry). e.voter.0 == voter) votes ≡ o
          → option_map (vote_of voted.header) o ≡ option_map with_signature (option_map (λ (e : VoteEntry). e.signature) o)
      found None is = refl
      found (Some e) is =
          let same : e.voter.0 ≡ voter = eqb-true e.voter.0 voter (found_passes (λ (x : VoteEntry). x.voter.0 == voter) votes e is).0 in
          ap (λ (v : ℕ). let it : VoteEntry = record { voter = record { 0 = v }; signature = e.signature } in Some (vote_of voted.header it)) same

-- ---- all of them

abbrev voted_at : List VotedHeader → ℕ → Option VotedHeader
voted_at items round = find (λ (v : VotedHeader). v.header.body.round == round) items

module _ (node : Node) (state : State) (items : List VotedHeader) (node_is : IsNode node) (sound : AreVotes node state)
    (voted : AreVotedBy node.charter node.own.0 items) (has_them : headers.IsAt node state (table_of node.charter node.own.0 items)) (listed : All (AreOfOthers node.own.0) items) where
  abbrev kept_at : ℕ → Option KeptHeader
  kept_at round = find (λ (kept : KeptHeader). kept.header.body.round == round) (map header_of items)

  kept_is : (round : ℕ) → kept_at round ≡ option_map header_of (voted_at items round)
  kept_is round = find-map header_of (λ (kept : KeptHeader). kept.header.body.round == round) items

  table_is : (round : ℕ) → assembly_at (table_of node.charter node.own.0 items) round ≡ option_map (λ (e : ℕ × AssemblyView). e.1) (option_map (entry_of node.charter) (voted_at items round))
  table_is round = ap (option_map (λ (e : ℕ × AssemblyView). e.1)) (find-map (entry_of node.charter) (λ (e : ℕ × AssemblyView). e.0 == round) items)

  pub same_own : (round : ℕ) → option_map (λ (kept : KeptHeader). kept.header) (kept_at round) ≡ state.own_headers round
  same_own round =
      ap (option_map (λ (kept : KeptHeader). kept.header)) (kept_is round) ∙ by (voted_at items round)
      ∙ sym (ap (option_map (λ (a : AssemblyView). a.header)) (table_is round)) ∙ has_them.held round
    where
      by : (o : Option VotedHeader) → option_map (λ (kept : KeptHeader). kept.header) (option_map header_of o)
          ≡ option_map (λ (a : AssemblyView). a.header) (option_map (λ (e : ℕ × AssemblyView). e.1) (option_map (entry_of node.charter) o))
      by None = refl
      by (Some v) = refl

  own_there : (round : ℕ) (v : VotedHeader) → voted_at items round ≡ Some v → state.own_headers round ≡ Some v.header
  own_there round v is = sym (same_own round) ∙ ap (option_map (λ (kept : KeptHeader). kept.header)) (kept_is round ∙ ap (option_map header_of) is)

  pub same_counted : (round voter : ℕ) → option_and_then (λ (kept : KeptHeader). kept_vote node kept voter) (kept_at round) ≡ state.counted round voter
  same_counted round voter = ap (option_and_then (λ (kept : KeptHeader). kept_vote node kept voter)) (kept_is round) ∙ by (voted_at items round) refl
    where
      counted : (o : Option VotedHeader) → voted_at items round ≡ o
          → option_and_then (λ (a : AssemblyView). vote_in a voter) (option_map (λ (e : ℕ × AssemblyView). e.1) (option_map (entry_of node.charter) o)) ≡ state.counted round voter
      counted o is =
          ap (λ x. option_and_then (λ (a : AssemblyView). vote_in a voter) (option_map (λ (e : ℕ × AssemblyView). e.1) (option_map (entry_of node.charter) x))) (sym is)
          ∙ sym (ap (option_and_then (λ (a : AssemblyView). vote_in a voter)) (table_is round)) ∙ has_them.counted round voter

      by : (o : Option VotedHeader) → voted_at items round ≡ o → option_and_then (λ (kept : KeptHeader). kept_vote node kept voter) (option_map header_of o) ≡ state.counted round voter
      by None is = counted None is
      by (Some v) is = elim (cases_Bool (voter == node.own.0)) [
        | inl mine ↦
            let same = eqb-true voter node.own.0 mine in
            rw mine (sym (sound.headers round v.header (own_there round v is)).voted ∙ ap (state.counted round) (sym same))
        | inr other ↦
            let inside = (found_passes (λ (x : VotedHeader). x.header.body.round == round) items v is).1 in
            rw other (others_vote node v (All-contains (λ (x : VotedHeader). IsVotedBy node.charter node.own.0 x.header x.vote x.votes.items) items v voted.each inside)
            (All-contains (AreOfOthers node.own.0) items v listed inside) voter (λ same. true≢false (sym (eq-eqb voter node.own.0 same) ∙ other)) ∙ counted (Some v) is)
      ]

  -- ---- each is one that a node writes

  rising : AllPairs (Before (λ (one other : VotedHeader). nat_lt one.header.body.round other.header.body.round)) items
  rising = λ i j d less within. lt-ltb _ _ (voted.rising i j d less within)

  voted_itself : (v : VotedHeader) → Contains items v → voted_at items v.header.body.round ≡ Some v
  voted_itself v inside =
      found_itself (λ (one other : VotedHeader). nat_lt one.header.body.round other.header.body.round) (λ (x : VotedHeader). x.header.body.round == v.header.body.round) items v rising inside
      (eq-eqb v.header.body.round v.header.body.round refl) (λ y before. numbers_apart y.header.body.round v.header.body.round before)

  kept_header_is : (v : VotedHeader) → Contains items v → IsKeptHeader node (header_of v)
  kept_header_is v inside =
      let round = v.header.body.round in
      let of = All-contains (λ (x : VotedHeader). IsVotedBy node.charter node.own.0 x.header x.vote x.votes.items) items v voted.each inside in
      let others = All-contains (AreOfOthers node.own.0) items v listed inside in
      let pairs = votes_pairs node v of others in
      let size = node_is.charter.size.1 in
      record {
        header = (sound.headers round v.header (own_there round v (voted_itself v inside))).passed.message;
        votes = record {
          few = (let few = few_between (λ (e : VoteEntry). e.voter.0) 0 (size_of node) v.votes.items pairs (λ i d within. omega arith) of.members (omega arith) in omega (arith, few, size));
          each = all_by IsVoteEntry v.votes.items (λ e there.
              let below = All-contains (λ (x : VoteEntry). x.voter.0 < length node.charter.keys) v.votes.items e of.members there in
              let other = ne_eqb e.voter.0 node.own.0 (All-contains (λ (x : VoteEntry). x.voter.0 ≢ node.own.0) v.votes.items e others.others there) in
              let itself = found_itself vote_before (λ (x : VoteEntry). x.voter.0 == e.voter.0) v.votes.items e pairs there (eq-eqb e.voter.0 e.voter.0 refl)
              (λ y before. numbers_apart y.voter.0 e.voter.0 before) in
              let voted_so : kept_vote node (header_of v) e.voter.0 ≡ Some (vote_of v.header e) = rw (other, itself) refl in
              let counts : state.counted round e.voter.0 ≡ Some (vote_of v.header e) =
              sym (same_counted round e.voter.0) ∙ ap (option_and_then (λ (kept : KeptHeader). kept_vote node kept e.voter.0))
              (kept_is round ∙ ap (option_map header_of) (voted_itself v inside)) ∙ voted_so in
              record { voter = omega (arith, below, size); signature = (sound.counted round e.voter.0 (vote_of v.header e) counts).signature });
          rise = others.rise;
        };
        others = others.others;
      }

  pub kept_headers_are : All (IsKeptHeader node) (map header_of items)
  kept_headers_are = all_mapped header_of (IsKeptHeader node) items (all_by (λ v. IsKeptHeader node (header_of v)) items kept_header_is)

  pub headers_rise : AllPairs (Before (λ (one other : KeptHeader). nat_lt one.header.body.round other.header.body.round)) (map header_of items)
  headers_rise = pairs_mapped header_of (Before (λ (one other : KeptHeader). nat_lt one.header.body.round other.header.body.round)) items rising
