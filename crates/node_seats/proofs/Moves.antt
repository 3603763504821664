-- Each kind of step keeps the rule, and tells what its play says.
use Rattle.std.proofs.Common.{◌≡◌, ◌≢◌, ◌⊎◌, inl, inr, ⊎_elim, Bool, ℕ, zero, suc, ◌≤◌, ◌+◌, true, false, List, [], ◌∷◌, ◌++◌, length, take, min}
use Rattle.std.proofs.Common.{set, refl, ap, sym, ◌∙◌, subst, arith, length-append, length-take}
use Rattle.std.specs.Prelude.{slice_index, slice_set, ◌==◌, ◌||◌}
use Rattle.std.proofs.lemmas.List.{take_at, take-append-le, take_all}
use native.Mathlib.Decide.{dec_le}
use mathlib.Core.Option.{some, some-injective, some-ne-none}
use lib.ListN.{get_elem?}
use prog.Atomic.{either}
use Rattle.atomic_table.specs.Table.{State, Me, Act, keeps, Allows, Splits, Joins}
use Rattle.atomic_table.proofs.Lists.{at_set, set_again, exchanged}
use Rattle.spec_model.specs.Histories.{History}
use Rattle.wire.specs.Lists.{Begins}
use Rattle.spec_model.specs.Words.{Event}
use Rattle.node_seats.specs.declared.view.Marked.{Marked}
use Rattle.node_seats.specs.declared.view.View.{View}
use Rattle.node_seats.specs.Views.{mark, events, events_by, flag, HasOwn, first_view, newcomer, informed, spent}
use Rattle.node_seats.specs.Rule.{Fits, IsKept}
use Rattle.node_seats.specs.Plays.{Looks, Reads, ReadsDown, Accepts, Settles, with_event, with_durable, with_down}
use Rattle.node_seats.proofs.Beginnings.{begins_same, begins_nothing, begins_trans, begins_whole, begins_more, shorter_begins, take_begins, begins_take}
use Rattle.node_seats.proofs.Keeping.{there, step_keeps}
use Rattle.node_seats.proofs.Marks.{by_same, by_other, by_between, by_nobody, events_push}

-- of two beginnings of a list a longer one, the first where they are alike
pub record Longer (one other all : List Marked) : Type 0 where
  pub list : List Marked
  pub one_begins : Begins one list
  pub other_begins : Begins other list
  pub begins : Begins list all
  pub same : length other ≤ length one → list ≡ one

longer : (one other all : List Marked) → Begins one all → Begins other all → Longer one other all
longer one other all first second =
    elim (dec_le (length other) (length one)) [
      | yes less ↦ record { list = one; one_begins = begins_same one; other_begins = shorter_begins other one all second first less; begins = first; same = λ _. refl }
      | no more ↦ record {
        list = other;
        one_begins = shorter_begins one other all first second (omega (arith, more));
        other_begins = begins_same other;
        begins = second;
        same = λ less. absurd (more less);
      }
    ]

-- the last of a list with one more is the new one
at_end : (xs : List View) (x y : View) (j : ℕ) → get_elem? (xs ++ x ∷ []) j ≡ some y → (get_elem? xs j ≡ some y) ⊎ ((j ≡ length xs) × (x ≡ y))
at_end [] x y zero at = inr (refl, some-injective _ _ at)
at_end [] x y (suc j) at = absurd (some-ne-none y (sym at))
at_end (z ∷ zs) x y zero at = inl at
at_end (z ∷ zs) x y (suc j) at = ⊎_elim inl (λ (t : (j ≡ length zs) × (x ≡ y)). inr (ap suc t.0, t.1)) (at_end zs x y j at)

-- a word that is written as it was
same_words : (ws : List ℕ) (a b c : ℕ) (word : ℕ) → ws ≡ a ∷ b ∷ c ∷ [] → slice_set ws word (slice_index ws word) ≡ ws
same_words ws a b c zero is = rw is refl
same_words ws a b c (suc zero) is = rw is refl
same_words ws a b c (suc (suc zero)) is = rw is refl
same_words ws a b c (suc (suc (suc k))) is = rw is refl

-- what two seats know of one flag, either tells
either_is : (one other down : Bool) → (one ≡ true → down ≡ true) → (other ≡ true → down ≡ true) → one || other ≡ true → down ≡ true
either_is true other down first second is = first refl
either_is false other down first second is = second is

module _ {S : Type 0} (Legal : History → Type 0) where
  abbrev pub Rule : State S View → Type 0
  Rule state = IsKept Legal state.words state.views

  -- what a seat knows doesn't count where it isn't live
  module _ (state : State S View) (kept : IsKept Legal state.words state.views) (id : ℕ) (before later : View) (at : get_elem? state.views id ≡ some before)
      (mine : later.live ≡ true → Fits kept.accepted kept.settled kept.down id later)
    where
      -- a step that changes no list
      pub stays : IsKept Legal state.words (set state.views id later)
      stays = subst (λ (ws : List ℕ). IsKept Legal ws (set state.views id later)) (sym kept.words_are)
          (step_keeps Legal state.words state.views kept id before later at kept.accepted kept.settled kept.down (begins_same kept.accepted)
          (begins_same kept.settled) kept.begins (λ is. is) (λ apart is. is) kept.legal (λ number apart. refl) mine)

  first_count : (state : State S View) (kept : IsKept Legal state.words state.views) → length kept.accepted ≡ slice_index state.words 0
  first_count state kept = sym (ap (λ (ws : List ℕ). slice_index ws 0) kept.words_are)

  second_count : (state : State S View) (kept : IsKept Legal state.words state.views) → length kept.settled ≡ slice_index state.words 1
  second_count state kept = sym (ap (λ (ws : List ℕ). slice_index ws 1) kept.words_are)

  third_is : (state : State S View) (kept : IsKept Legal state.words state.views) → flag kept.down ≡ slice_index state.words 2
  third_is state kept = sym (ap (λ (ws : List ℕ). slice_index ws 2) kept.words_are)

  -- what all of it being legal says of all that was accepted
  all_legal : (state : State S View) (kept : IsKept Legal state.words state.views) → Legal (events kept.accepted)
  all_legal state kept = subst (λ (l : List Marked). Legal (events l)) (take_all (length kept.accepted) kept.accepted (omega arith)) (kept.legal (length kept.accepted))

  -- and of what is settled
  settled_legal : (state : State S View) (kept : IsKept Legal state.words state.views) → Legal (events kept.settled)
  settled_legal state kept =
      let is : take (length kept.settled) kept.accepted ≡ kept.settled = ap (take (length kept.settled)) kept.begins.parts ∙ take_at kept.settled kept.begins.rest (length kept.settled) refl in
      subst (λ (l : List Marked). Legal (events l)) is (kept.legal (length kept.settled))

  module _ (state : State S View) (id : ℕ) (me : Me S View) (Judged : History → Type 0) (live : me.0.live ≡ true) (holds : Rule state) (at : get_elem? state.views id ≡ some me.0) where
    pub looked : (judge : (history : History) → Legal history → Judged history)
        → (w : View) × (IsKept Legal state.words (set state.views id w)) × Looks Judged me.0 (slice_index state.words 0) w
    looked judge =
        let kept = holds in
        let fits = kept.fits id me.0 at live in
        let w : View = record me.0 { seen = kept.accepted } in (
          w,
          stays state kept id me.0 w at (λ _. record {
            number_is = fits.number_is;
            seen = begins_same kept.accepted;
            durable = fits.durable;
            durable_seen = begins_trans me.0.durable me.0.seen kept.accepted fits.durable_seen fits.seen;
            heard = fits.heard;
            heard_durable = fits.heard_durable;
            mine = fits.mine;
            own = fits.mine;
            down_is = fits.down_is;
            right = fits.right;
          }),
          record {
            rest = refl;
            seen = fits.seen;
            heard = fits.heard;
            count_is = first_count state kept;
            own = λ numbered. subst (λ (n : ℕ). events_by n kept.accepted ≡ me.0.mine) (sym (fits.number_is numbered)) fits.mine;
            judged = judge (events kept.accepted) (all_legal state kept);
          },
        )

    pub read : (judge : (history : History) → Legal history → Judged history)
        → (w : View) × (IsKept Legal state.words (set state.views id w)) × Reads Judged me.0 (slice_index state.words 1) w
    read judge =
        let kept = holds in
        let fits = kept.fits id me.0 at live in
        let more = longer me.0.seen kept.settled kept.accepted fits.seen kept.begins in
        let own : events_by id more.list ≡ me.0.mine = by_between id me.0.seen more.list kept.accepted me.0.mine more.one_begins more.begins fits.own fits.mine in
        let w : View = record me.0 { seen = more.list; durable = kept.settled } in (
          w,
          stays state kept id me.0 w at (λ _. record {
            number_is = fits.number_is;
            seen = more.begins;
            durable = begins_same kept.settled;
            durable_seen = more.other_begins;
            heard = fits.heard;
            heard_durable = fits.heard_durable;
            mine = fits.mine;
            own = own;
            down_is = fits.down_is;
            right = fits.right;
          }),
          record {
            rest = refl;
            durable = fits.durable;
            heard = fits.heard_durable;
            durable_seen = more.other_begins;
            seen = more.one_begins;
            same = more.same;
            count_is = second_count state kept;
            own = λ numbered. subst (λ (n : ℕ). events_by n more.list ≡ me.0.mine) (sym (fits.number_is numbered)) own;
            judged = judge (events kept.settled) (settled_legal state kept);
          },
        )

  module _ (slots id : ℕ) (me : Me S View) where
    pub looks : (Judged : History → Type 0) → me.0.live ≡ true → ((history : History) → Legal history → Judged history)
        → Allows Rule slots id me 0 (λ n. n) (λ n later. Looks Judged me.0 n later.0 × (later.1 ≡ me.1))
    looks Judged live judge state holds sizes at word =
        let kept = holds in
        let found = looked state id me Judged live holds at judge in
        (found.0, keeps, tt, (subst (λ (ws : List ℕ). IsKept Legal ws (set state.views id found.0)) (sym (same_words state.words _ _ _ 0 kept.words_are)) found.1), (found.2, refl))

    pub reads : (Judged : History → Type 0) → me.0.live ≡ true → ((history : History) → Legal history → Judged history)
        → Allows Rule slots id me 1 (λ n. n) (λ n later. Reads Judged me.0 n later.0 × (later.1 ≡ me.1))
    reads Judged live judge state holds sizes at word =
        let kept = holds in
        let found = read state id me Judged live holds at judge in
        (found.0, keeps, tt, (subst (λ (ws : List ℕ). IsKept Legal ws (set state.views id found.0)) (sym (same_words state.words _ _ _ 1 kept.words_are)) found.1), (found.2, refl))

    -- the third word is read
    pub reads_down : me.0.live ≡ true → Allows Rule slots id me 2 (λ n. n) (λ n later. ReadsDown me.0 n later.0 × (later.1 ≡ me.1))
    reads_down live state holds sizes at word =
        let kept = holds in
        let fits = kept.fits id me.0 at live in
        let w : View = record me.0 { down = kept.down } in
        let after = stays state kept id me.0 w at (λ _. record {
          number_is = fits.number_is;
          seen = fits.seen;
          durable = fits.durable;
          durable_seen = fits.durable_seen;
          heard = fits.heard;
          heard_durable = fits.heard_durable;
          mine = fits.mine;
          own = fits.own;
          down_is = λ is. is;
          right = fits.right;
        }) in (
          w,
          keeps,
          tt,
          (subst (λ (ws : List ℕ). IsKept Legal ws (set state.views id w)) (sym (same_words state.words _ _ _ 2 kept.words_are)) after),
          (record { rest = refl; stays = fits.down_is; right = λ able. (fits.right able).1; count_is = third_is state kept }, refl),
        )

    -- and raised, which uses up the right to do so
    pub downs : me.0.live ≡ true → me.0.may_fail ≡ true → Allows Rule slots id me 2 (λ _. 1) (λ _ later. later ≡ (with_down me.0, me.1))
    downs live able state holds sizes at word =
        let kept = holds in
        let fits = kept.fits id me.0 at live in
        let w : View = with_down me.0 in
        let after = step_keeps Legal state.words state.views kept id me.0 w at kept.accepted kept.settled true
        (begins_same kept.accepted) (begins_same kept.settled) kept.begins (λ _. refl) (λ apart is. absurd (apart (fits.right able).0)) kept.legal (λ number apart. refl)
        (λ _. record {
          number_is = fits.number_is;
          seen = fits.seen;
          durable = fits.durable;
          durable_seen = fits.durable_seen;
          heard = fits.heard;
          heard_durable = fits.heard_durable;
          mine = fits.mine;
          own = fits.own;
          down_is = λ _. refl;
          right = λ bad. absurd cc;
        }) in
        let words : slice_set state.words 2 1 ≡ length kept.accepted ∷ length kept.settled ∷ 1 ∷ [] = ap (λ (ws : List ℕ). slice_set ws 2 1) kept.words_are in
        (w, keeps, tt, (subst (λ (ws : List ℕ). IsKept Legal ws (set state.views id w)) (sym words) after), refl)

    pub numbers : me.0.live ≡ true → Allows Rule slots id me 0 (λ n. n) (λ n later. (later ≡ (record me.0 { numbered = true; number = later.0.number }, me.1)) × HasOwn later.0)
    numbers live state holds sizes at word =
        let kept = holds in
        let fits = kept.fits id me.0 at live in
        let w : View = record me.0 { numbered = true; number = id } in
        let after = stays state kept id me.0 w at (λ _. record {
          number_is = λ _. refl;
          seen = fits.seen;
          durable = fits.durable;
          durable_seen = fits.durable_seen;
          heard = fits.heard;
          heard_durable = fits.heard_durable;
          mine = fits.mine;
          own = fits.own;
          down_is = fits.down_is;
          right = fits.right;
        }) in
        (w, keeps, tt, (subst (λ (ws : List ℕ). IsKept Legal ws (set state.views id w)) (sym (same_words state.words _ _ _ 0 kept.words_are)) after), (refl, fits.own))

    -- an event is accepted, if the seat has seen all that was
    pub accepts : (old : ℕ) (event : Event) → me.0.live ≡ true → me.0.numbered ≡ true → old ≤ length me.0.seen
        → (length me.0.seen ≡ old → Legal (events me.0.seen ++ event ∷ []))
        → Allows Rule slots id me 0 (λ n. either (n == old) (old + 1) n) (λ n later. Accepts old event me.0 n later.0 × (later.1 ≡ me.1))
    accepts old event live numbered enough legal state holds sizes at word = exchanged (slice_index state.words 0) old (old + 1) After won lost
      where
        kept : IsKept Legal state.words state.views
        kept = holds

        fits : Fits kept.accepted kept.settled kept.down id me.0
        fits = kept.fits id me.0 at live

        After : ℕ → Type 0
        After n = (w : View) × (a : Act S) × Rattle.atomic_table.specs.Table.Valid state.homes me.1 a × Rule (Rattle.atomic_table.specs.Table.stepped state 0 n id me.1 w a)
            × (Accepts old event me.0 (slice_index state.words 0) w × (Rattle.atomic_table.specs.Table.carried_after me.1 a ≡ me.1))

        lost : slice_index state.words 0 ≢ old → After (slice_index state.words 0)
        lost apart =
            let found = looked state id me (λ h. Unit {0}) live holds at (λ h l. tt) in (
              found.0,
              keeps,
              tt,
              (subst (λ (ws : List ℕ). IsKept Legal ws (set state.views id found.0)) (sym (same_words state.words _ _ _ 0 kept.words_are)) found.1),
              (record { won = λ same. absurd (apart same); lost = λ _. found.2 }, refl),
            )

        won : slice_index state.words 0 ≡ old → After (old + 1)
        won same =
            let count : length kept.accepted ≡ old = first_count state kept ∙ same in
            let all : me.0.seen ≡ kept.accepted = begins_whole me.0.seen kept.accepted fits.seen (omega (arith, count, enough)) in
            let size : length me.0.seen ≡ old = ap length all ∙ count in
            let mine : me.0.number ≡ id = fits.number_is numbered in
            let more : List Marked = kept.accepted ++ mark me.0.number event ∷ [] in
            let w : View = with_event me.0 event in
            let seen : w.seen ≡ more = ap (λ (l : List Marked). l ++ mark me.0.number event ∷ []) all in
            let grown : Begins kept.accepted more = record { rest = mark me.0.number event ∷ []; parts = refl } in
            let through : (n : ℕ) → Legal (events (take n more)) = λ n.
            elim (dec_le n (length kept.accepted)) [
              | yes less ↦ subst (λ (l : List Marked). Legal (events l)) (sym (take-append-le n kept.accepted (mark me.0.number event ∷ []) less)) (kept.legal n)
              | no past ↦
                  let whole : take n more ≡ more = take_all n more (omega (arith, past, length-append kept.accepted (mark me.0.number event ∷ []))) in
                  let is : events me.0.seen ++ event ∷ [] ≡ events (take n more) = sym (events_push me.0.number event me.0.seen) ∙ ap events (seen ∙ sym whole) in
                  subst Legal is (legal size)
            ] in
            let after = step_keeps Legal state.words state.views kept id me.0 w at more kept.settled kept.down grown
            (begins_same kept.settled) (begins_more kept.settled kept.accepted (mark me.0.number event ∷ []) kept.begins) (λ is. is) (λ apart is. is) through
            (λ number apart. by_other number me.0.number event kept.accepted (λ is. apart (is ∙ mine)))
            (λ _. record {
              number_is = fits.number_is;
              seen = subst (λ (l : List Marked). Begins w.seen l) seen (begins_same w.seen);
              durable = fits.durable;
              durable_seen = begins_more me.0.durable me.0.seen (mark me.0.number event ∷ []) fits.durable_seen;
              heard = begins_more me.0.heard kept.accepted (mark me.0.number event ∷ []) fits.heard;
              heard_durable = fits.heard_durable;
              mine = subst (λ (n : ℕ). events_by id (kept.accepted ++ mark n event ∷ []) ≡ me.0.mine ++ event ∷ []) (sym mine)
                  (by_same id event kept.accepted ∙ ap (λ (h : History). h ++ event ∷ []) fits.mine);
              own = subst (λ (n : ℕ). events_by id (me.0.seen ++ mark n event ∷ []) ≡ me.0.mine ++ event ∷ []) (sym mine) (by_same id event me.0.seen ∙ ap (λ (h : History). h ++ event ∷ []) fits.own);
              down_is = fits.down_is;
              right = fits.right;
            }) in
            let words : slice_set state.words 0 (old + 1) ≡ length more ∷ length kept.settled ∷ flag kept.down ∷ [] =
            ap (λ (ws : List ℕ). slice_set ws 0 (old + 1)) kept.words_are ∙ ap (λ (n : ℕ). n ∷ length kept.settled ∷ flag kept.down ∷ [])
            (omega (arith, count, length-append kept.accepted (mark me.0.number event ∷ []))) in
            (w, keeps, tt, (subst (λ (ws : List ℕ). IsKept Legal ws (set state.views id w)) (sym words) after), (record { won = λ _. (size, refl); lost = λ apart. absurd (apart same) }, refl))

    -- events are settled that the seat has seen
    pub settles : (old new : ℕ) → me.0.live ≡ true → old ≤ length me.0.durable → old ≤ new → new ≤ length me.0.seen
        → Allows Rule slots id me 1 (λ n. either (n == old) new n) (λ n later. Settles old new me.0 n later.0 × (later.1 ≡ me.1))
    settles old new live enough more most state holds sizes at word = exchanged (slice_index state.words 1) old new After won lost
      where
        kept : IsKept Legal state.words state.views
        kept = holds

        fits : Fits kept.accepted kept.settled kept.down id me.0
        fits = kept.fits id me.0 at live

        After : ℕ → Type 0
        After n = (w : View) × (a : Act S) × Rattle.atomic_table.specs.Table.Valid state.homes me.1 a × Rule (Rattle.atomic_table.specs.Table.stepped state 1 n id me.1 w a)
            × (Settles old new me.0 (slice_index state.words 1) w × (Rattle.atomic_table.specs.Table.carried_after me.1 a ≡ me.1))

        lost : slice_index state.words 1 ≢ old → After (slice_index state.words 1)
        lost apart =
            let found = read state id me (λ h. Unit {0}) live holds at (λ h l. tt) in (
              found.0,
              keeps,
              tt,
              (subst (λ (ws : List ℕ). IsKept Legal ws (set state.views id found.0)) (sym (same_words state.words _ _ _ 1 kept.words_are)) found.1),
              (record { won = λ same. absurd (apart same); lost = λ _. found.2 }, refl),
            )

        won : slice_index state.words 1 ≡ old → After new
        won same =
            let count : length kept.settled ≡ old = second_count state kept ∙ same in
            let all : me.0.durable ≡ kept.settled = begins_whole me.0.durable kept.settled fits.durable (omega (arith, count, enough)) in
            let size : length me.0.durable ≡ old = ap length all ∙ count in
            let durable : List Marked = take new me.0.seen in
            let w : View = with_durable me.0 new in
            let long : length durable ≡ new = let is : length durable ≡ min new (length me.0.seen) = length-take new me.0.seen in omega (arith, is, most) in
            let grown : Begins kept.settled durable = subst (λ (l : List Marked). Begins l durable) all (begins_take me.0.durable me.0.seen new fits.durable_seen (omega (arith, size, more))) in
            let within : Begins durable kept.accepted = begins_trans durable me.0.seen kept.accepted (take_begins new me.0.seen) fits.seen in
            let after = step_keeps Legal state.words state.views kept id me.0 w at kept.accepted durable kept.down
            (begins_same kept.accepted) grown within (λ is. is) (λ apart is. is) kept.legal (λ number apart. refl)
            (λ _. record {
              number_is = fits.number_is;
              seen = fits.seen;
              durable = begins_same durable;
              durable_seen = take_begins new me.0.seen;
              heard = fits.heard;
              heard_durable = begins_trans me.0.heard_durable kept.settled durable fits.heard_durable grown;
              mine = fits.mine;
              own = fits.own;
              down_is = fits.down_is;
              right = fits.right;
            }) in
            let words : slice_set state.words 1 new ≡ length kept.accepted ∷ length durable ∷ flag kept.down ∷ [] =
            ap (λ (ws : List ℕ). slice_set ws 1 new) kept.words_are ∙ ap (λ (n : ℕ). length kept.accepted ∷ n ∷ flag kept.down ∷ []) (sym long) in
            (w, keeps, tt, (subst (λ (ws : List ℕ). IsKept Legal ws (set state.views id w)) (sym words) after), (record { won = λ _. (size, refl); lost = λ apart. absurd (apart same) }, refl))

  -- ---- one seat made two, and two made one

  pub splits : (id : ℕ) (view : View) → view.live ≡ true → Splits {S = S} Rule id view view (newcomer view)
  splits id view live state holds at = (subst (λ (vs : List View). IsKept Legal state.words (vs ++ newcomer view ∷ [])) (sym (set_again state.views id view at)) more)
    where
      kept : IsKept Legal state.words state.views
      kept = holds

      fits : Fits kept.accepted kept.settled kept.down id view
      fits = kept.fits id view at live

      new_fits : (number : ℕ) → length state.views ≤ number → Fits kept.accepted kept.settled kept.down number (newcomer view)
      new_fits number past = record {
        number_is = λ bad. absurd cc;
        seen = fits.seen;
        durable = fits.durable;
        durable_seen = fits.durable_seen;
        heard = begins_nothing kept.accepted;
        heard_durable = begins_nothing kept.settled;
        mine = kept.nobody number past;
        own = by_nobody number view.seen kept.accepted fits.seen (kept.nobody number past);
        down_is = fits.down_is;
        right = λ bad. absurd cc;
      }

      more : IsKept Legal state.words (state.views ++ newcomer view ∷ [])
      more = record {
        accepted = kept.accepted;
        settled = kept.settled;
        down = kept.down;
        words_are = kept.words_are;
        begins = kept.begins;
        legal = kept.legal;
        nobody = λ number past. kept.nobody number (omega (arith, past, length-append state.views (newcomer view ∷ [])));
        fits = λ number other here alive.
            ⊎_elim (λ was. kept.fits number other was alive)
            (λ (t : (number ≡ length state.views) × (newcomer view ≡ other)).
            subst (λ (v : View). Fits kept.accepted kept.settled kept.down number v) t.1 (new_fits number (omega (arith, t.0))))
            (at_end state.views (newcomer view) other number here);
      }

  pub joins : (id : ℕ) (view : View) (other : ℕ) (from : View) → view.live ≡ true → from.live ≡ true → Joins {S = S} Rule id view other from (informed view from) spent
  joins id view other from live alive state holds at apart there = last
    where
      kept : IsKept Legal state.words state.views
      kept = holds

      fits : Fits kept.accepted kept.settled kept.down id view
      fits = kept.fits id view at live

      theirs : Fits kept.accepted kept.settled kept.down other from
      theirs =
          ⊎_elim (λ (t : (other ≡ id) × (informed view from ≡ from)). absurd (apart t.0))
          (λ (t : (other ≢ id) × (get_elem? state.views other ≡ some from)). kept.fits other from t.1 alive)
          (at_set state.views id other (informed view from) from there)

      heard : IsKept Legal state.words (set state.views id (informed view from))
      heard = stays state kept id view (informed view from) at (λ _. record {
        number_is = fits.number_is;
        seen = fits.seen;
        durable = fits.durable;
        durable_seen = fits.durable_seen;
        heard = theirs.seen;
        heard_durable = theirs.durable;
        mine = fits.mine;
        own = fits.own;
        down_is = either_is view.down from.down kept.down fits.down_is theirs.down_is;
        right = fits.right;
      })

      between : State S View
      between = record { words = state.words; homes = state.homes; views = set state.views id (informed view from) }

      last : IsKept Legal state.words (set (set state.views id (informed view from)) other spent)
      last = stays between heard other from spent there (λ bad. absurd cc)

-- ---- at first

-- the words of a node that has accepted nothing, with its first seat
pub begins_kept : (Legal : History → Type 0) → Legal [] → IsKept Legal (0 ∷ 0 ∷ 0 ∷ []) (first_view ∷ [])
begins_kept Legal legal = record {
  accepted = [];
  settled = [];
  down = false;
  words_are = refl;
  begins = begins_same [];
  legal = nothing_taken;
  nobody = λ number past. refl;
  fits = λ number view here live.
      let is = alone number view here in
      subst (λ (v : View). Fits [] [] false number v) is.1 (subst (λ (n : ℕ). Fits [] [] false n first_view) (sym is.0) first_fits);
}
  where
    alone : (number : ℕ) (view : View) → get_elem? (first_view ∷ []) number ≡ some view → (number ≡ 0) × (first_view ≡ view)
    alone zero view here = (refl, some-injective _ _ here)
    alone (suc n) view here = absurd (some-ne-none view (sym here))

    first_fits : Fits [] [] false 0 first_view
    first_fits = record {
      number_is = λ _. refl;
      seen = begins_same [];
      durable = begins_same [];
      durable_seen = begins_same [];
      heard = begins_same [];
      heard_durable = begins_same [];
      mine = refl;
      own = refl;
      down_is = λ bad. absurd cc;
      right = λ _. (refl, refl);
    }

    nothing_taken : (count : ℕ) → Legal (events (take count []))
    nothing_taken zero = legal
    nothing_taken (suc count) = legal
