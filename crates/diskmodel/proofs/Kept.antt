-- What a disk in memory keeps, over its calls.
use Rattle.std.proofs.Common.{◌≡◌, ◌⊎◌, ℕ, ◌≤◌, min, max, List, [], ◌∷◌, ◌++◌, length, take, refl, sym, ap, subst, ◌∙◌, inl, inr, arith, true, Some}
use Rattle.std.specs.Prelude.{slice_get, slice_index}
use Rattle.std.proofs.lemmas.List.{length_push}
use Rattle.diskmodel.specs.declared.call.Call.{Call}
use Rattle.diskmodel.specs.declared.call.Call.TheVariants.{Wrote, Cut, Synced, Stopped}
use Rattle.diskmodel.specs.declared.call.Span.{Span}
use Rattle.diskmodel.specs.Disk.{written}
use Rattle.diskmodel.specs.Outcomes.{State, AreBytes, CanLeave, IsOutcome, is_written, after, all_durable, state}
use Rattle.diskmodel.specs.Kept.{Keeps, ReplacesStop, is_stop, ends_in_stop}
use Rattle.diskmodel.proofs.Spans.{DifferWithin}
use Rattle.diskmodel.proofs.Calls.{after_all-push, possible_write, possible_cut, possible_durable, unstopped, stopped}

pub state-push : (first : List ℕ) (calls : List Call) (call : Call) → state first (calls ++ call ∷ []) ≡ after (state first calls) call
state-push first calls call = after_all-push (all_durable first) calls call

-- an outcome after one call more, in terms of the state before it
pub IsOutcome-push : (first : List ℕ) (calls : List Call) (call : Call) (found : List ℕ) → CanLeave (after (state first calls) call) found → IsOutcome first (calls ++ call ∷ []) found
IsOutcome-push first calls call found left = subst (λ (s : State). CanLeave s found) (sym (state-push first calls call)) left

pub IsOutcome-pushed : (first : List ℕ) (calls : List Call) (call : Call) (found : List ℕ) → IsOutcome first (calls ++ call ∷ []) found → CanLeave (after (state first calls) call) found
IsOutcome-pushed first calls call found left = subst (λ (s : State). CanLeave s found) (state-push first calls call) left

-- what a read gives, seen from the state, is an outcome
pub state_possible : (first : List ℕ) (calls : List Call) (durable : List ℕ) (smallest greatest : ℕ) (spans : List Span) (content : List ℕ)
    → Keeps first calls durable smallest greatest spans content → CanLeave (state first calls) (state first calls).content
state_possible first calls durable smallest greatest spans content kept =
    subst (λ (bytes : List ℕ). CanLeave (state first calls) bytes) (sym kept.content_is) kept.possible

pub state_in_durable : (first : List ℕ) (calls : List Call) (durable : List ℕ) (smallest greatest : ℕ) (spans : List Span) (content : List ℕ)
    → Keeps first calls durable smallest greatest spans content → (state first calls).smallest ≤ length (state first calls).durable
state_in_durable first calls durable smallest greatest spans content kept = omega (arith, kept.smallest_is, ap length kept.durable_is, kept.in_durable)

pub state_durable_bytes : (first : List ℕ) (calls : List Call) (durable : List ℕ) (smallest greatest : ℕ) (spans : List Span) (content : List ℕ)
    → Keeps first calls durable smallest greatest spans content → AreBytes (state first calls).durable
state_durable_bytes first calls durable smallest greatest spans content kept = subst AreBytes (sym kept.durable_is) kept.durable_bytes

-- the bytes of the last sync are an outcome
pub durable_possible : (first : List ℕ) (calls : List Call) (durable : List ℕ) (smallest greatest : ℕ) (spans : List Span) (content : List ℕ)
    → Keeps first calls durable smallest greatest spans content → IsOutcome first calls durable
durable_possible first calls durable smallest greatest spans content kept = record {
  stays = λ place below none. ap (λ (bytes : List ℕ). slice_index bytes place) (sym kept.durable_is);
  are_bytes = kept.durable_bytes;
  no_shorter = omega (arith, kept.smallest_is, kept.in_durable);
  no_longer = omega (arith, kept.greatest_is, kept.durable_fits);
}

-- below the smallest length since the last sync, what a read gives differs from its bytes at most where spans say that they were written
pub kept_differ : (first : List ℕ) (calls : List Call) (durable : List ℕ) (smallest greatest : ℕ) (spans : List Span) (content : List ℕ)
    → Keeps first calls durable smallest greatest spans content → DifferWithin spans smallest content durable
kept_differ first calls durable smallest greatest spans content kept place below none =
    kept.possible.stays place (omega (arith, below, kept.smallest_is)) (ap (λ (rows : List Span). is_written rows place) kept.spans_are ∙ none)
    ∙ ap (λ (bytes : List ℕ). slice_index bytes place) kept.durable_is

pub kept_in_content : (first : List ℕ) (calls : List Call) (durable : List ℕ) (smallest greatest : ℕ) (spans : List Span) (content : List ℕ)
    → Keeps first calls durable smallest greatest spans content → smallest ≤ length content
kept_in_content first calls durable smallest greatest spans content kept = omega (arith, kept.smallest_is, kept.possible.no_shorter)

pub kept_write : (first : List ℕ) (calls : List Call) (durable : List ℕ) (smallest greatest : ℕ) (spans : List Span) (content : List ℕ) (at : ℕ) (bytes : List ℕ)
    → Keeps first calls durable smallest greatest spans content → AreBytes bytes → at ≤ length content
    → Keeps first (calls ++ Wrote at bytes ∷ []) durable (min smallest (length (written content at bytes))) (max greatest (length (written content at bytes)))
    (spans ++ record { place = at; count = length bytes } ∷ []) (written content at bytes)
kept_write first calls durable smallest greatest spans content at bytes kept are_bytes within =
    let push : state first (calls ++ Wrote at bytes ∷ []) ≡ after (state first calls) (Wrote at bytes) = state-push first calls (Wrote at bytes) in
    let read : written (state first calls).content at bytes ≡ written content at bytes = ap (λ (c : List ℕ). written c at bytes) kept.content_is in
    let inside : at ≤ length (state first calls).content = omega (arith, ap length kept.content_is) in
    record {
      durable_is = ap (λ (s : State). s.durable) push ∙ kept.durable_is;
      smallest_is = ap (λ (s : State). s.smallest) push ∙ ap (λ (n : ℕ). min n (length (written (state first calls).content at bytes)))
          kept.smallest_is ∙ ap (λ (c : List ℕ). min smallest (length c)) read;
      greatest_is = ap (λ (s : State). s.greatest) push ∙ ap (λ (n : ℕ). max n (length (written (state first calls).content at bytes)))
          kept.greatest_is ∙ ap (λ (c : List ℕ). max greatest (length c)) read;
      spans_are = ap (λ (s : State). s.spans) push ∙ ap (λ (rows : List Span). rows ++ record { place = at; count = length bytes } ∷ []) kept.spans_are;
      content_is = ap (λ (s : State). s.content) push ∙ read;
      in_durable = omega (arith, kept.in_durable);
      durable_fits = omega (arith, kept.durable_fits);
      durable_bytes = kept.durable_bytes;
      possible = IsOutcome-push first calls (Wrote at bytes) (written content at bytes)
          (subst (λ (c : List ℕ). CanLeave (after (state first calls) (Wrote at bytes)) c) read
          (possible_write (state first calls) at bytes (state_possible first calls durable smallest greatest spans content kept) are_bytes inside));
    }

pub kept_cut : (first : List ℕ) (calls : List Call) (durable : List ℕ) (smallest greatest : ℕ) (spans : List Span) (content : List ℕ) (len : ℕ)
    → Keeps first calls durable smallest greatest spans content → len ≤ length content
    → Keeps first (calls ++ Cut len ∷ []) durable (min smallest (length (take len content))) (max greatest (length (take len content))) spans (take len content)
kept_cut first calls durable smallest greatest spans content len kept within =
    let push : state first (calls ++ Cut len ∷ []) ≡ after (state first calls) (Cut len) = state-push first calls (Cut len) in
    let read : take len (state first calls).content ≡ take len content = ap (take len) kept.content_is in
    let inside : len ≤ length (state first calls).content = omega (arith, ap length kept.content_is) in
    record {
      durable_is = ap (λ (s : State). s.durable) push ∙ kept.durable_is;
      smallest_is = ap (λ (s : State). s.smallest) push ∙ ap (λ (n : ℕ). min n (length (take len (state first calls).content))) kept.smallest_is ∙ ap (λ (c : List ℕ). min smallest (length c)) read;
      greatest_is = ap (λ (s : State). s.greatest) push ∙ ap (λ (n : ℕ). max n (length (take len (state first calls).content))) kept.greatest_is ∙ ap (λ (c : List ℕ). max greatest (length c)) read;
      spans_are = ap (λ (s : State). s.spans) push ∙ kept.spans_are;
      content_is = ap (λ (s : State). s.content) push ∙ read;
      in_durable = omega (arith, kept.in_durable);
      durable_fits = omega (arith, kept.durable_fits);
      durable_bytes = kept.durable_bytes;
      possible = IsOutcome-push first calls (Cut len) (take len content)
          (subst (λ (c : List ℕ). CanLeave (after (state first calls) (Cut len)) c) read
          (possible_cut (state first calls) len (state_possible first calls durable smallest greatest spans content kept) inside));
    }

pub kept_sync : (first : List ℕ) (calls : List Call) (durable : List ℕ) (smallest greatest : ℕ) (spans : List Span) (content : List ℕ)
    → Keeps first calls durable smallest greatest spans content
    → Keeps first (calls ++ Synced ∷ []) content (length content) (length content) [] content
kept_sync first calls durable smallest greatest spans content kept =
    let now : state first (calls ++ Synced ∷ []) ≡ all_durable content = state-push first calls Synced ∙ ap all_durable kept.content_is in
    record {
      durable_is = ap (λ (s : State). s.durable) now;
      smallest_is = ap (λ (s : State). s.smallest) now;
      greatest_is = ap (λ (s : State). s.greatest) now;
      spans_are = ap (λ (s : State). s.spans) now;
      content_is = ap (λ (s : State). s.content) now;
      in_durable = omega arith;
      durable_fits = omega arith;
      durable_bytes = kept.possible.are_bytes;
      possible = subst (λ (s : State). CanLeave s content) (sym now) (possible_durable content kept.possible.are_bytes);
    }

-- a stop leaves all as it was but what a read gives
pub kept_stop : (first : List ℕ) (calls : List Call) (durable : List ℕ) (smallest greatest : ℕ) (spans : List Span) (content found : List ℕ)
    → Keeps first calls durable smallest greatest spans content → IsOutcome first calls found
    → Keeps first (calls ++ Stopped found ∷ []) durable smallest greatest spans found
kept_stop first calls durable smallest greatest spans content found kept left =
    let push : state first (calls ++ Stopped found ∷ []) ≡ after (state first calls) (Stopped found) = state-push first calls (Stopped found) in
    record {
      durable_is = ap (λ (s : State). s.durable) push ∙ kept.durable_is;
      smallest_is = ap (λ (s : State). s.smallest) push ∙ kept.smallest_is;
      greatest_is = ap (λ (s : State). s.greatest) push ∙ kept.greatest_is;
      spans_are = ap (λ (s : State). s.spans) push ∙ kept.spans_are;
      content_is = ap (λ (s : State). s.content) push;
      in_durable = kept.in_durable;
      durable_fits = kept.durable_fits;
      durable_bytes = kept.durable_bytes;
      possible = IsOutcome-push first calls (Stopped found) found (unstopped (state first calls) found found left);
    }

-- the same under other names
pub kept_as : (first : List ℕ) (calls calls' : List Call) (durable durable' : List ℕ) (smallest smallest' greatest greatest' : ℕ) (spans spans' : List Span) (content content' : List ℕ)
    → Keeps first calls durable smallest greatest spans content
    → calls' ≡ calls → durable' ≡ durable → smallest' ≡ smallest → greatest' ≡ greatest → spans' ≡ spans → content' ≡ content
    → Keeps first calls' durable' smallest' greatest' spans' content'
kept_as first calls calls' durable durable' smallest smallest' greatest greatest' spans spans' content content' kept same_calls same_durable same_smallest same_greatest
    same_spans same_content = record {
      durable_is = ap (λ (past : List Call). (state first past).durable) same_calls ∙ kept.durable_is ∙ sym same_durable;
      smallest_is = ap (λ (past : List Call). (state first past).smallest) same_calls ∙ kept.smallest_is ∙ sym same_smallest;
      greatest_is = ap (λ (past : List Call). (state first past).greatest) same_calls ∙ kept.greatest_is ∙ sym same_greatest;
      spans_are = ap (λ (past : List Call). (state first past).spans) same_calls ∙ kept.spans_are ∙ sym same_spans;
      content_is = ap (λ (past : List Call). (state first past).content) same_calls ∙ kept.content_is ∙ sym same_content;
      in_durable = omega (arith, kept.in_durable, ap length same_durable);
      durable_fits = omega (arith, kept.durable_fits, ap length same_durable);
      durable_bytes = subst AreBytes (sym same_durable) kept.durable_bytes;
      possible = subst (λ (past : List Call). IsOutcome first past content') (sym same_calls) (subst (λ (bytes : List ℕ). IsOutcome first calls bytes) (sym same_content) kept.possible);
    }

-- a stop that is put after the calls, or in the place of a stop that was the last of them
pub taken : (found : List ℕ) (old rest new : List Call) → (rest ≡ old) ⊎ ((gone : List ℕ) × (old ≡ rest ++ Stopped gone ∷ [])) → new ≡ rest ++ Stopped found ∷ []
    → (new ≡ old ++ Stopped found ∷ []) ⊎ ReplacesStop found old new
taken found old rest new (inl same) is = inl (is ∙ ap (λ (past : List Call). past ++ Stopped found ∷ []) same)
taken found old rest new (inr (gone, was)) is = inr (record { before = rest; gone = gone; was = was; is = is })

-- without a stop at the end, what a stop may leave is the same
pub IsOutcome-stopped : (first : List ℕ) (calls : List Call) (gone found : List ℕ) → IsOutcome first (calls ++ Stopped gone ∷ []) found → IsOutcome first calls found
IsOutcome-stopped first calls gone found left = stopped (state first calls) gone found (IsOutcome-pushed first calls (Stopped gone) found left)

pub IsOutcome-unstopped : (first : List ℕ) (calls : List Call) (gone found : List ℕ) → IsOutcome first calls found → IsOutcome first (calls ++ Stopped gone ∷ []) found
IsOutcome-unstopped first calls gone found left = IsOutcome-push first calls (Stopped gone) found (unstopped (state first calls) gone found left)

-- what is kept, when a stop takes the place of another
kept_replaced : (first : List ℕ) (rest : List Call) (durable : List ℕ) (smallest greatest : ℕ) (spans : List Span) (content gone found : List ℕ)
    → Keeps first (rest ++ Stopped gone ∷ []) durable smallest greatest spans content → IsOutcome first (rest ++ Stopped gone ∷ []) found
    → Keeps first (rest ++ Stopped found ∷ []) durable smallest greatest spans found
kept_replaced first rest durable smallest greatest spans content gone found kept left =
    let push : state first (rest ++ Stopped found ∷ []) ≡ after (state first rest) (Stopped found) = state-push first rest (Stopped found) in
    let push_gone : state first (rest ++ Stopped gone ∷ []) ≡ after (state first rest) (Stopped gone) = state-push first rest (Stopped gone) in
    record {
      durable_is = ap (λ (s : State). s.durable) push ∙ ap (λ (s : State). s.durable) (sym push_gone) ∙ kept.durable_is;
      smallest_is = ap (λ (s : State). s.smallest) push ∙ ap (λ (s : State). s.smallest) (sym push_gone) ∙ kept.smallest_is;
      greatest_is = ap (λ (s : State). s.greatest) push ∙ ap (λ (s : State). s.greatest) (sym push_gone) ∙ kept.greatest_is;
      spans_are = ap (λ (s : State). s.spans) push ∙ ap (λ (s : State). s.spans) (sym push_gone) ∙ kept.spans_are;
      content_is = ap (λ (s : State). s.content) push;
      in_durable = kept.in_durable;
      durable_fits = kept.durable_fits;
      durable_bytes = kept.durable_bytes;
      possible = IsOutcome-unstopped first rest found found (IsOutcome-stopped first rest gone found left);
    }

pub kept_taken : (first : List ℕ) (old rest new : List Call) (durable : List ℕ) (smallest greatest : ℕ) (spans : List Span) (content content' found : List ℕ)
    → Keeps first old durable smallest greatest spans content → IsOutcome first old found
    → (rest ≡ old) ⊎ ((gone : List ℕ) × (old ≡ rest ++ Stopped gone ∷ [])) → new ≡ rest ++ Stopped found ∷ [] → content' ≡ found
    → Keeps first new durable smallest greatest spans content'
kept_taken first old rest new durable smallest greatest spans content content' found kept left (inl same) is read =
    kept_as _ _ _ _ _ _ _ _ _ _ _ _ _ (kept_stop first old durable smallest greatest spans content found kept left)
    (is ∙ ap (λ (past : List Call). past ++ Stopped found ∷ []) same) refl refl refl refl read
kept_taken first old rest new durable smallest greatest spans content content' found kept left (inr (gone, was)) is read =
    kept_as _ _ _ _ _ _ _ _ _ _ _ _ _
    (kept_replaced first rest durable smallest greatest spans content gone found
    (subst (λ (past : List Call). Keeps first past durable smallest greatest spans content) was kept)
    (subst (λ (past : List Call). IsOutcome first past found) was left))
    is refl refl refl refl read

last-push : (calls : List Call) (call : Call) → slice_get (calls ++ call ∷ []) (length calls) ≡ Some call
last-push [] call = refl
last-push (next ∷ calls) call = last-push calls call

pub ends_in_stop-push : (calls new : List Call) (found : List ℕ) → new ≡ calls ++ Stopped found ∷ [] → ends_in_stop new ≡ true
ends_in_stop-push calls new found is =
    ap ends_in_stop is
    ∙ ap (λ (n : ℕ). is_stop (slice_get (calls ++ Stopped found ∷ []) n)) (omega (arith, length_push calls (Stopped found)))
    ∙ ap is_stop (last-push calls (Stopped found))
