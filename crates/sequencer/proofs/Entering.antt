-- A DAG that is filled holds what a sound state has, and with the commit of the last leader a sequencer is at the state.
use Rattle.std.proofs.Common.{◌≡◌, ℕ, suc, ◌+◌, ◌-◌, ◌<◌, ◌≤◌, true, false, List, [], ◌∷◌, ◌++◌, map, length, take, drop, get_or, Option, Some, None, inl, inr, refl, ap, sym, ◌∙◌, subst, arith}
use Rattle.std.specs.Prelude.{◌&&◌, ◌||◌, nat_lt, nat_le, find, is_some, option_map}
use Rattle.std.specs.Option.{option_map_or, option_or}
use Rattle.std.proofs.lemmas.Bool.{cases_lt}
use Rattle.std.proofs.lemmas.Grind.{common_steps}
use Rattle.std.proofs.lemmas.List.{map-append, length-drop, get_or-take, get_or-drop, get_or_default, take-append-drop}
use Rattle.std.proofs.lemmas.List.Folds.{find-append}
use Rattle.std.proofs.lemmas.Option.{same_Some}
use Rattle.spec_laws.proofs.Closed.{all_stay}
use Rattle.spec_model.specs.Holdings.{is_held, all_held}
use Rattle.spec_model.specs.Slots.{same_digest, certificate_digest, is_of_slot, slots_of}
use Rattle.spec_model.specs.Words.{Author, Certificate}
use Rattle.dag.specs.Changes.{IsWith}
use Rattle.dag.specs.Graph.{DagView, Placed, slots_in, end_in}
use Rattle.flatten.specs.Lengthening.{LengtheningView}
use Rattle.sequencer.specs.Restored.{Digested, listed, is_before, AreListed, with_listed, CanEnter, HaveEntered, HasNoMarks, IsMarkedBy}
use Rattle.sequencer.specs.Sequence.{SequencerView, IsMadeOf, CommitsTo}
use Rattle.sequencer.proofs.Extending.{placed_within}

-- ---- lists of certificates

-- in a slot of which no certificate of a list is, none is listed
pub none_listed : (held : List Digested) (round author : ℕ) → ((i : ℕ) (d : Digested) → i < length held → is_of_slot round author (get_or held i d).0.header ≡ false) → listed held round author ≡ None
none_listed [] round author apart = refl
none_listed (one ∷ held) round author apart =
    let first : is_of_slot round author one.0.header ≡ false = apart 0 one (omega arith) in
    rw first (none_listed held round author (λ i d within. apart (suc i) d (omega (arith, within))))

pub listed_append : (front back : List Digested) (round author : ℕ) → listed (front ++ back) round author ≡ option_or (listed front round author) (listed back round author)
listed_append front back round author =
    let at = λ (c : Certificate). is_of_slot round author c.header in
    ap (find at) (map-append (λ (one : Digested). one.0) front back) ∙ find-append at (map (λ (one : Digested). one.0) front) (map (λ (one : Digested). one.0) back)

before_apart : (one other : Digested) → is_before one other ≡ true → is_of_slot other.0.header.round other.0.header.author.0 one.0.header ≡ false
before_apart one other before = grind (arith, before, common_steps)

before_round : (one other : Digested) → is_before one other ≡ true → one.0.header.round ≤ other.0.header.round
before_round one other before = grind (arith, before, common_steps)

later_apart : (round author : ℕ) (one : Digested) → round < one.0.header.round → is_of_slot round author one.0.header ≡ false
later_apart round author one later = grind (arith, later, common_steps)

or_assoc : {X : Type 0} (one two three : Option X) → option_or (option_or one two) three ≡ option_or one (option_or two three)
or_assoc (Some x) two three = refl
or_assoc None two three = refl

-- ---- one certificate after the other

-- a certificate of a list comes after those so far
pub record IsTurn (held done : List Digested) (next : Digested) : Type 0 where
  pub front : done ≡ take (length done) held
  pub within : length done < length held
  pub is : next ≡ get_or held (length done) next

-- the certificates from it on are of no lower round
rounds_from : (held done : List Digested) (next : Digested) → AreListed held → IsTurn held done next → (i : ℕ) (d : Digested) → length done ≤ i → i < length held
    → next.0.header.round ≤ (get_or held i d).0.header.round
rounds_from held done next are turn i d from within =
    let here : get_or held (length done) d ≡ next = get_or_default held (length done) d next turn.within ∙ sym turn.is in
    elim (cases_lt (length done) i) [
      | inl later ↦ before_round next (get_or held i d) (subst (λ (x : Digested). is_before x (get_or held i d) ≡ true) here (are.rising (length done) i d later within))
      | inr last ↦
          let same : i ≡ length done = omega (arith, from, last) in
          let is : (get_or held i d).0.header.round ≡ next.0.header.round = ap (λ (j : ℕ). (get_or held j d).0.header.round) same ∙ ap (λ (x : Digested). x.0.header.round) here in
          omega (arith, is)
    ]

-- none so far is of its slot
pub done_apart : (held done : List Digested) (next : Digested) → AreListed held → IsTurn held done next → listed done next.0.header.round next.0.header.author.0 ≡ None
done_apart held done next are turn =
    none_listed done next.0.header.round next.0.header.author.0
    (λ i d within.
    let is : get_or done i d ≡ get_or held i d = ap (λ (l : List Digested). get_or l i d) turn.front ∙ get_or-take (length done) held i d within in
    let here : get_or held (length done) d ≡ next = get_or_default held (length done) d next turn.within ∙ sym turn.is in
    ap (λ (x : Digested). is_of_slot next.0.header.round next.0.header.author.0 x.0.header) is
    ∙ before_apart (get_or held i d) next (subst (λ (x : Digested). is_before (get_or held i d) x ≡ true) here (are.rising i (length done) d within turn.within)))

-- none from it on is of the round below its own
rest_apart : (held done : List Digested) (next : Digested) → AreListed held → IsTurn held done next → 0 < next.0.header.round → (author : ℕ)
    → listed held (next.0.header.round - 1) author ≡ listed done (next.0.header.round - 1) author
rest_apart held done next are turn positive author =
    let below = next.0.header.round - 1 in
    let rest = drop (length done) held in
    let none : listed rest below author ≡ None = none_listed rest below author
    (λ i d within.
    let long = length-drop (length done) held in
    let inside : length done + i < length held = omega (arith, within, long) in
    let least = rounds_from held done next are turn (length done + i) d (omega arith) inside in
    let is : get_or rest i d ≡ get_or held (length done + i) d = get_or-drop (length done) held i d in
    ap (λ (x : Digested). is_of_slot below author x.0.header) is ∙ later_apart below author (get_or held (length done + i) d) (omega (arith, least, positive))) in
    ap (λ (l : List Digested). listed l below author) (sym (take-append-drop (length done) held))
    ∙ listed_append (take (length done) held) rest below author
    ∙ ap (λ (l : List Digested). option_or (listed l below author) (listed rest below author)) (sym turn.front)
    ∙ ap (option_or (listed done below author)) none ∙ or_none (listed done below author)
  where
    or_none : {X : Type 0} (o : Option X) → option_or o None ≡ o
    or_none (Some x) = refl
    or_none None = refl

pub nothing_entered : (graph : DagView) → HaveEntered graph graph []
nothing_entered graph = record {
  charter = refl;
  floor = refl;
  base = refl;
  slots = λ round author. same (slots_in graph round author);
  marked = λ round author. refl;
}
  where
    same : {X : Type 0} (o : Option X) → o ≡ option_or o None
    same (Some x) = refl
    same None = refl

pub one_more : (before dag later : DagView) (done : List Digested) (next : Digested) → HaveEntered before dag done → IsWith dag later next.0 → HaveEntered before later (done ++ next ∷ [])
one_more before dag later done next entered more = record {
  charter = more.charter ∙ entered.charter;
  floor = more.floor ∙ entered.floor;
  base = more.base ∙ entered.base;
  slots = λ round author.
      more.slots round author
      ∙ ap (λ o. option_or o (slots_of (next.0 ∷ []) round author)) (entered.slots round author)
      ∙ or_assoc (slots_in before round author) (listed done round author) (slots_of (next.0 ∷ []) round author)
      ∙ ap (option_or (slots_in before round author)) (sym (listed_append done (next ∷ []) round author));
  marked = λ round author. more.marked round author ∙ entered.marked round author;
}

-- its slot is free
pub is_free : (before dag : DagView) (held done : List Digested) (next : Digested) → CanEnter before held → HaveEntered before dag done → IsTurn held done next
    → slots_in dag next.0.header.round next.0.header.author.0 ≡ None
is_free before dag held done next can entered turn =
    let round = next.0.header.round in
    let author = next.0.header.author.0 in
    let later : end_in before ≤ round = subst (λ (x : Digested). end_in before ≤ x.0.header.round) (sym turn.is) (can.later (length done) next turn.within) in
    let nothing : slots_in before round author ≡ None = ap (option_map (λ (p : Placed). p.certificate)) (placed_within before round author later) in
    entered.slots round author ∙ ap (λ o. option_or o (listed done round author)) nothing ∙ done_apart held done next can.listed turn

-- its parents are held
pub parents_held : (before dag : DagView) (held done : List Digested) (next : Digested) → CanEnter before held → HaveEntered before dag done → IsTurn held done next → 0 < next.0.header.round
    → all_held (slots_in dag) dag.floor next.0.header ≡ true
parents_held before dag held done next can entered turn positive =
    let header = next.0.header in
    let whole = with_listed before held in
    let was : all_held whole before.floor header ≡ true = subst (λ (x : Digested). all_held whole before.floor x.0.header ≡ true) (sym turn.is) (can.parents (length done) next turn.within) in
    all_stay (is_held whole before.floor header.round) (is_held (slots_in dag) dag.floor header.round) header.parents
    (λ p there.
    let low : dag.floor ≡ before.floor = entered.floor in
    let same : slots_in dag (header.round - 1) p.author.0 ≡ whole (header.round - 1) p.author.0 = entered.slots (header.round - 1) p.author.0
    ∙ ap (option_or (slots_in before (header.round - 1) p.author.0)) (sym (rest_apart held done next can.listed turn positive p.author.0)) in
    ap (λ (f : ℕ). is_held (slots_in dag) f header.round p) low
    ∙ ap (λ o. option_map_or (λ (c : Certificate). same_digest (certificate_digest c.header) p.certificate) o false || (nat_lt 0 before.floor && nat_le (header.round - 1) before.floor)) same
    ∙ there)
    was

-- what is made of a certificate's turn holds of it
pub at_turn : (P : Digested → Type 0) (held done : List Digested) (next : Digested) → IsTurn held done next → P (get_or held (length done) next) → P next
at_turn P held done next turn holds = subst P (sym turn.is) holds

-- ---- the rounds that have rows

-- a DAG's rows end at the next certificate's round, or before it
abbrev pub EndsBefore : DagView → List Digested → ℕ → Type 0
EndsBefore graph held count = (i : ℕ) (d : Digested) → count ≤ i → i < length held → end_in graph ≤ (get_or held i d).0.header.round + 1

pub ends_first : (graph : DagView) (held : List Digested) → CanEnter graph held → EndsBefore graph held 0
ends_first graph held can i d from within = let later = can.later i d within in omega (arith, later)

pub ends_next : (dag later : DagView) (held done : List Digested) (next : Digested) → AreListed held → IsTurn held done next → IsWith dag later next.0
    → EndsBefore dag held (length done) → EndsBefore later held (length (done ++ next ∷ []))
ends_next dag later held done next are turn more ends i d from within =
    let count = length_push done next in
    let least = rounds_from held done next are turn i d (omega (arith, from, count)) within in
    let was = ends i d (omega (arith, from, count)) within in
    let end = more.end in
    omega (arith, least, was, end)
  where
    length_push : {X : Type 0} (xs : List X) (x : X) → length (xs ++ x ∷ []) ≡ length xs + 1
    length_push [] x = refl
    length_push (y ∷ xs) x = let rest = length_push xs x in omega (arith, rest)

-- ---- the marks

-- the commit of a leader alone marks what it reaches
pub marked_by : (before after : SequencerView) (leader : ℕ × Author) (committed : Option LengtheningView) → HasNoMarks before → is_some (slots_in before.graph leader.0 leader.1.0) ≡ true
    → IsMadeOf before.graph None (leader ∷ []) committed → CommitsTo before.graph before.last committed after.graph after.last
    → after.coins ≡ before.coins → after.order ≡ before.order → IsMarkedBy before after leader
marked_by before after leader None empty held made commits coins order = absurd cc
marked_by before after leader (Some made) empty held all commits coins order = record {
  made = made;
  of = sym (same_Some leader made.last all.last_slot);
  fits = all.of (held, refl, tt) (λ round author c above there. empty.marked round author);
  graph = commits.0;
  last = commits.1 ∙ ap (λ s. Some s) (sym (same_Some leader made.last all.last_slot));
  coins = coins;
  order = order;
}
