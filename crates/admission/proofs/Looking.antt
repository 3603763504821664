-- What a table has at a round, by the entries of its tree.
use Rattle.std.proofs.Common.{◌≡◌, ℕ, ◌<◌, ◌≤◌, Bool, true, false, cond, List, [], ◌∷◌, length, Option, Some, None, refl, sym, ap, ◌∙◌, subst, inl, inr, arith}
use Rattle.std.specs.Prelude.{◌==◌, IsSome, find, map, nat_le, option_map, if◌then◌else◌}
use Rattle.std.specs.Cmp.{nat_cmp_is}
use Rattle.std.specs.declared.cmp.Ordering.TheVariants.{Greater}
use Rattle.std.specs.BTreeMap.{BTreeMap, WritesThrough, get_by, is_at}
use Rattle.std.specs.List.Sorted.{IsStrictlySortedBy}
use Rattle.std.specs.Map.{lookup}
use Rattle.std.specs.Option.{option_map_or}
use Rattle.std.specs.Ordering.{nat_cmp, is_gt}
use Rattle.std.proofs.lemmas.Bool.{cases_Bool, eqb-true, leb-true}
use Rattle.std.proofs.lemmas.Grind.{common_steps}
use Rattle.std.proofs.lemmas.Option.{none-some}
use Rattle.wire.specs.declared.header.Vote.{Vote}
use Rattle.committee.specs.Charter.{Charter, IsCharter}
use Rattle.certify.specs.Answer.{answer}
use Rattle.certify.specs.Assembled.{AssemblyView}
use Rattle.certify.specs.declared.added.Added.TheVariants.{NotOurs}
use Rattle.admission.specs.Headers.{AssembliesView, assembly_at, answer_in, IsEntry, IsHeaders, IsWith, IsForgotten}

-- two numbers compare alike where they are one
pub is_at-same : (one other : ℕ) → is_at (nat_cmp one) other ≡ (other == one)
is_at-same one other = grind (arith, common_steps)

-- what a tree's look-up finds is what the table has
pub found : (entries : List (ℕ × AssemblyView)) (round : ℕ) → lookup (is_at (nat_cmp round)) entries ≡ option_map (λ entry. entry.1) (find (λ entry. entry.0 == round) entries)
found [] round = refl
found (e ∷ es) round =
    elim (cases_Bool (e.0 == round)) [
      | inl here ↦ rw (is_at-same round e.0, here) refl
      | inr apart ↦ rw (is_at-same round e.0, apart) (found es round)
    ]

-- so where a table is these entries, at a number that is the round
pub looked : (inside headers : AssembliesView) (number round : ℕ) (o : Option AssemblyView) → o ≡ lookup (is_at (nat_cmp number)) inside.rounds
    → number ≡ round → inside ≡ headers → assembly_at headers round ≡ o
looked inside headers number round o is same view =
    ap (λ h. assembly_at h round) (sym view) ∙ ap (assembly_at inside) (sym same) ∙ sym (found inside.rounds number) ∙ sym is

-- ---- changes

-- entries of which those of a key are others
pub updated : (old new : List (ℕ × AssemblyView)) (key : ℕ) (held : Option AssemblyView)
    → ((other : ℕ) → lookup (is_at (nat_cmp other)) new ≡ cond (is_at (nat_cmp key) other) held (lookup (is_at (nat_cmp other)) old))
    → (charter : Charter) (own : ℕ) → IsWith (record { charter = charter; own = own; rounds = old }) (record { charter = charter; own = own; rounds = new }) key held
updated old new key held more charter own = record {
  charter = refl;
  own = refl;
  rounds = λ other.
      sym (found new other) ∙ more other ∙ ap (λ b. cond b held (lookup (is_at (nat_cmp other)) old)) (is_at-same key other)
      ∙ ap (cond (other == key) held) (found old other);
}

-- where no key is below one that is above a round, the round and those before it have nothing
pub none_low : (entries : List (ℕ × AssemblyView)) (first last : ℕ) → last < first → ((round : ℕ) → IsSome (lookup (is_at (nat_cmp round)) entries) → is_gt (nat_cmp first round) ≡ false)
    → (round : ℕ) → nat_le round last ≡ true → lookup (is_at (nat_cmp round)) entries ≡ None
none_low entries first last high least round low = by_found (lookup (is_at (nat_cmp round)) entries) refl
  where
    by_found : (o : Option AssemblyView) → lookup (is_at (nat_cmp round)) entries ≡ o → lookup (is_at (nat_cmp round)) entries ≡ None
    by_found None is = is
    by_found (Some assembled) is =
        let greater : Greater ≡ nat_cmp first round = nat_cmp_is first round Greater (omega (arith, high, leb-true _ _ low)) in
        let bad : true ≡ false = ap is_gt greater ∙ least round (subst IsSome (sym is) refl) in absurd cc

-- and so has each where nothing is left
pub none_left : (last : ℕ) (entries : List (ℕ × AssemblyView)) → length entries ≤ 0 → (round : ℕ) → nat_le round last ≡ true → lookup (is_at (nat_cmp round)) entries ≡ None
none_left last [] none round low = refl
none_left last (e ∷ es) none round low = absurd (omega (arith, none))

-- a table that has what there was after a round, and nothing up to it
pub forgotten : (old new : AssembliesView) (last : ℕ) → new.charter ≡ old.charter → new.own ≡ old.own
    → ((round : ℕ) → nat_le round last ≡ false → lookup (is_at (nat_cmp round)) new.rounds ≡ lookup (is_at (nat_cmp round)) old.rounds)
    → ((round : ℕ) → nat_le round last ≡ true → lookup (is_at (nat_cmp round)) new.rounds ≡ None) → IsForgotten old new last
forgotten old new last charter own later low = record {
  charter = charter;
  own = own;
  rounds = λ round. sym (found new.rounds round) ∙ by_round round (nat_le round last) refl;
}
  where
    by_round : (round : ℕ) (is : Bool) → nat_le round last ≡ is → lookup (is_at (nat_cmp round)) new.rounds ≡ (if nat_le round last then None else assembly_at old round)
    by_round round true is = low round is ∙ sym (ap (λ b. if b then None else assembly_at old round) is)
    by_round round false is = later round is ∙ found old.rounds round ∙ sym (ap (λ b. if b then None else assembly_at old round) is)

-- ---- what holds of each table

entry_stays : (old new : AssembliesView) (round : ℕ) (assembled : AssemblyView) → new.charter ≡ old.charter → new.own ≡ old.own → IsEntry old round assembled → IsEntry new round assembled
entry_stays old new round assembled charter own was =
    record { charter = was.charter ∙ sym charter; place = was.place; author = was.author ∙ sym own; assembly = was.assembly }

-- of one with another entry of its committee for a round
pub holds_with : (old new : AssembliesView) (round : ℕ) (held : Option AssemblyView) → IsHeaders old → IsWith old new round held → IsStrictlySortedBy nat_cmp (map (λ entry. entry.0) new.rounds)
    → ((assembled : AssemblyView) → held ≡ Some assembled → IsEntry old round assembled) → IsHeaders new
holds_with old new round held was with rise entry = record {
  charter = subst IsCharter (sym with.charter) was.charter;
  member = subst (λ (c : Charter). new.own < length c.keys) (sym with.charter) (subst (λ n. n < length old.charter.keys) (sym with.own) was.member);
  rise = rise;
  entries = λ other assembled is.
      entry_stays old new other assembled with.charter with.own
      (elim (cases_Bool (other == round)) [
        | inl same ↦
            subst (λ r. IsEntry old r assembled) (sym (eqb-true other round same))
            (entry assembled (sym (ap (λ b. if b then held else assembly_at old other) same) ∙ sym (with.rounds other) ∙ is))
        | inr apart ↦ was.entries other assembled (sym (ap (λ b. if b then held else assembly_at old other) apart) ∙ sym (with.rounds other) ∙ is)
      ]);
}

-- of one that has forgotten some rounds
pub holds_without : (old new : AssembliesView) (last : ℕ) → IsHeaders old → IsForgotten old new last → IsStrictlySortedBy nat_cmp (map (λ entry. entry.0) new.rounds) → IsHeaders new
holds_without old new last was less rise = record {
  charter = subst IsCharter (sym less.charter) was.charter;
  member = subst (λ (c : Charter). new.own < length c.keys) (sym less.charter) (subst (λ n. n < length old.charter.keys) (sym less.own) was.member);
  rise = rise;
  entries = λ other assembled is.
      entry_stays old new other assembled less.charter less.own
      (elim (cases_Bool (nat_le other last)) [
        | inl low ↦ absurd (none-some assembled (sym (ap (λ b. if b then None else assembly_at old other) low) ∙ sym (less.rounds other) ∙ is))
        | inr high ↦ was.entries other assembled (sym (ap (λ b. if b then None else assembly_at old other) high) ∙ sym (less.rounds other) ∙ is)
      ]);
}

-- what a vote is answered by what its round has
pub answer_of : (headers : AssembliesView) (vote : Vote) (o : Option AssemblyView) → assembly_at headers vote.round ≡ o → answer_in headers vote
    ≡ option_map_or (λ assembled. answer assembled vote) o NotOurs
answer_of headers vote o is = ap (λ o. option_map_or (λ assembled. answer assembled vote) o NotOurs) is

-- a tree with another value at a key that has one
pub written : (old new : BTreeMap ℕ AssemblyView) (key : ℕ) (before later : AssemblyView) → Some before ≡ lookup (is_at (nat_cmp key)) old.entries → WritesThrough nat_cmp (nat_cmp key) old later new
    → (charter : Charter) (own : ℕ) → IsWith (record { charter = charter; own = own; rounds = old.entries }) (record { charter = charter; own = own; rounds = new.entries }) key (Some later)
    × IsStrictlySortedBy nat_cmp (map (λ entry. entry.0) new.entries)
written old new key before later is writes charter own =
    let there : IsSome (get_by (nat_cmp key) old) = subst IsSome is refl in
    (updated old.entries new.entries key (Some later) (writes.3 there).0 charter own, writes.4)

-- nothing where there is nothing changes nothing
pub unchanged : (headers : AssembliesView) (round : ℕ) → assembly_at headers round ≡ None → IsWith headers headers round None
unchanged headers round none = record {
  charter = refl;
  own = refl;
  rounds = λ other. elim (cases_Bool (other == round)) [
    | inl same ↦ ap (assembly_at headers) (eqb-true other round same) ∙ none ∙ sym (ap (λ b. if b then None else assembly_at headers other) same)
    | inr apart ↦ sym (ap (λ b. if b then None else assembly_at headers other) apart)
  ];
}
