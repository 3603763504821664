-- Own headers that are brought into a table one by one, and what the other tables are restored from.
use Rattle.std.proofs.Common.{◌≡◌, ◌≢◌, ℕ, suc, ◌<◌, Bool, true, false, List, [], ◌∷◌, ◌++◌, map, length, take, get_or, Option, Some, None, inl, inr, refl, ap, sym, ◌∙◌, subst, arith}
use Rattle.std.specs.Prelude.{◌==◌, find, option_map, if◌then◌else◌}
use Rattle.std.specs.Option.{option_or}
use Rattle.std.proofs.lemmas.Bool.{cases_Bool, eqb-true}
use Rattle.std.proofs.lemmas.List.{map-append, get_or-take, get_or_default}
use Rattle.std.proofs.lemmas.List.Folds.{find-append}
use Rattle.committee.specs.Charter.{Charter}
use Rattle.certify.specs.Assembled.{AssemblyView}
use Rattle.admission.specs.Headers.{AssembliesView, assembly_at, IsWith}
use Rattle.admission.specs.Kept.{entry_of, table_of, IsVotedBy, AreVotedBy, IsSameTable}
use Rattle.admission.specs.declared.kept.VotedHeader.{VotedHeader}

-- ---- own headers

-- a header of a list comes after those so far
pub record IsTurn (all done : List VotedHeader) (next : VotedHeader) : Type 0 where
  pub front : done ≡ take (length done) all
  pub within : length done < length all
  pub is : next ≡ get_or all (length done) next

abbrev at_round : ℕ → ℕ × AssemblyView → Bool
at_round round entry = entry.0 == round

-- nothing is there for a round that no header has
none_there : (charter : Charter) (voted : List VotedHeader) (round : ℕ) → ((i : ℕ) (d : VotedHeader) → i < length voted → (get_or voted i d).header.body.round ≢ round)
    → find (at_round round) (map (entry_of charter) voted) ≡ None
none_there charter [] round apart = refl
none_there charter (one ∷ voted) round apart =
    elim (cases_Bool (one.header.body.round == round)) [
      | inl here ↦ absurd (apart 0 one (omega arith) (eqb-true one.header.body.round round here))
      | inr other ↦ rw other (none_there charter voted round (λ i d within. apart (suc i) d (omega (arith, within))))
    ]

-- the turn's header has a round of its own
round_is_free : (charter : Charter) (own : ℕ) (all done : List VotedHeader) (next : VotedHeader) → AreVotedBy charter own all → IsTurn all done next
    → find (at_round next.header.body.round) (map (entry_of charter) done) ≡ None
round_is_free charter own all done next are turn =
    none_there charter done next.header.body.round
    (λ i d within same.
    let is : get_or done i d ≡ get_or all i d = ap (λ (l : List VotedHeader). get_or l i d) turn.front ∙ get_or-take (length done) all i d within in
    let here : get_or all (length done) d ≡ next = get_or_default all (length done) d next turn.within ∙ sym turn.is in
    let less = are.rising i (length done) d within turn.within in
    let left : (get_or done i d).header.body.round ≡ (get_or all i d).header.body.round = ap (λ (x : VotedHeader). x.header.body.round) is in
    let right : (get_or all (length done) d).header.body.round ≡ next.header.body.round = ap (λ (x : VotedHeader). x.header.body.round) here in
    omega (arith, less, same, left, right))

-- an empty table has what is made of no header
pub none_brought : (charter : Charter) (own : ℕ) (made : AssembliesView) → made ≡ record { charter = charter; own = own; rounds = [] } → IsSameTable made (table_of charter own [])
none_brought charter own made is = record {
  charter = ap (λ (h : AssembliesView). h.charter) is;
  own = ap (λ (h : AssembliesView). h.own) is;
  rounds = λ round. ap (λ (h : AssembliesView). assembly_at h round) is;
}

pub one_brought : (charter : Charter) (own : ℕ) (all done : List VotedHeader) (next : VotedHeader) (old new : AssembliesView) → AreVotedBy charter own all → IsTurn all done next
    → IsSameTable old (table_of charter own done) → IsWith old new next.header.body.round (Some (entry_of old.charter next).1) → IsSameTable new (table_of charter own (done ++ next ∷ []))
one_brought charter own all done next old new are turn same with = record {
  charter = with.charter ∙ same.charter;
  own = with.own ∙ same.own;
  rounds = λ round.
      let test = at_round round in
      let entries = map (entry_of charter) done in
      let last = entry_of charter next in
      let held : Option AssemblyView = Some (entry_of old.charter next).1 in
      let whole : assembly_at (table_of charter own (done ++ next ∷ [])) round ≡ option_map (λ entry. entry.1) (option_or (find test entries) (find test (last ∷ []))) =
      ap (λ (l : List (ℕ × AssemblyView)). option_map (λ entry. entry.1) (find test l)) (map-append (entry_of charter) done (next ∷ []))
      ∙ ap (option_map (λ entry. entry.1)) (find-append test entries (last ∷ [])) in
      with.rounds round ∙ elim (cases_Bool (round == next.header.body.round)) [
        | inl here ↦
            let is : round ≡ next.header.body.round = eqb-true round next.header.body.round here in
            let free : find test entries ≡ None = ap (λ (r : ℕ). find (at_round r) entries) is ∙ round_is_free charter own all done next are turn in
            let found : find test (last ∷ []) ≡ Some last = let hit : (next.header.body.round == round) ≡ true = equal next.header.body.round round (sym is) in rw hit refl in
            ap (λ b. if b then held else assembly_at old round) here
            ∙ ap (λ (c : Charter). Some (entry_of c next).1) same.charter
            ∙ sym (whole ∙ ap (λ o. option_map (λ (entry : ℕ × AssemblyView). entry.1) (option_or o (find test (last ∷ [])))) free ∙ ap (option_map (λ (entry : ℕ × AssemblyView). entry.1)) found)
        | inr apart ↦
            let missed : find test (last ∷ []) ≡ None = let miss : (next.header.body.round == round) ≡ false = unequal round next.header.body.round apart in rw miss refl in
            ap (λ b. if b then held else assembly_at old round) apart
            ∙ same.rounds round
            ∙ sym (whole ∙ ap (λ o. option_map (λ (entry : ℕ × AssemblyView). entry.1) (option_or (find test entries) o)) missed
            ∙ ap (option_map (λ (entry : ℕ × AssemblyView). entry.1)) (or_none (find test entries)))
      ];
}
  where
    or_none : {X : Type 0} (o : Option X) → option_or o None ≡ o
    or_none (Some x) = refl
    or_none None = refl

    equal : (one other : ℕ) → one ≡ other → (one == other) ≡ true
    equal one other same = grind (arith, same)

    unequal : (one other : ℕ) → (one == other) ≡ false → (other == one) ≡ false
    unequal one other apart = grind (arith, apart)

-- the turn's header may be brought into a table of the same committee and member
pub may_be_brought : (charter : Charter) (own : ℕ) (all done : List VotedHeader) (next : VotedHeader) (old : AssembliesView) → AreVotedBy charter own all → IsTurn all done next
    → IsSameTable old (table_of charter own done) → IsVotedBy old.charter old.own next.header next.vote next.votes.items
may_be_brought charter own all done next old are turn same =
    let is : IsVotedBy charter own next.header next.vote next.votes.items =
    subst (λ (one : VotedHeader). IsVotedBy charter own one.header one.vote one.votes.items) (sym turn.is) (are.each (length done) next turn.within) in
    subst (λ (c : Charter). IsVotedBy c old.own next.header next.vote next.votes.items) (sym same.charter)
    (subst (λ (o : ℕ). IsVotedBy charter o next.header next.vote next.votes.items) (sym same.own) is)
