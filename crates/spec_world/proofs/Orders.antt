-- The orders that go out: each begins every later one.
use Rattle.std.proofs.Common.{◌≡◌, ℕ, ◌+◌, ◌-◌, ◌<◌, ◌≤◌, List, [], ◌∷◌, ◌++◌, length, take, drop, Some, refl, ap, sym, ◌∙◌, subst, arith}
use Rattle.std.proofs.Common.{append_assoc, length-append, length-take, length-drop, take-append-drop}
use Rattle.std.proofs.lemmas.Option.{same_Some, none-some}
use Rattle.std.proofs.lemmas.List.{append-nil, take-take, take_at, take-append-le, drop-take}
use Rattle.wire.specs.declared.output.Output.TheVariants as output
use Rattle.spec_laws.proofs.Legal.{legal-begins}
use Rattle.spec_laws.proofs.OrderGrows.{order_grows}
use Rattle.spec_model.specs.Admitting.{IsLegal}
use Rattle.spec_model.specs.Giving.{IsPiece, MayGive}
use Rattle.spec_model.specs.Histories.{History}
use Rattle.wire.specs.Lists.{Begins}
use Rattle.spec_model.specs.Holdings.{order}
use Rattle.spec_model.specs.Nodes.{Node}
use Rattle.spec_model.specs.Words.{Digest, Event, Output}
use Rattle.spec_world.specs.World.{Outgoing, put_out, read}
use Rattle.spec_world.specs.Promise.{order_given, WasPutOut, GoesOut}

-- ---- beginnings

pub begins_same : {X : Type 0} (xs : List X) → Begins xs xs
begins_same xs = record { rest = []; parts = sym (append-nil xs) }

pub begins_trans : {X : Type 0} (one two three : List X) → Begins one two → Begins two three → Begins one three
begins_trans one two three first second = record {
  rest = first.rest ++ second.rest;
  parts = second.parts ∙ ap (λ l. l ++ second.rest) first.parts ∙ append_assoc one first.rest second.rest;
}

pub begins_length : {X : Type 0} (one other : List X) → Begins one other → length one ≤ length other
begins_length one other begins = omega (arith, ap length begins.parts, length-append one begins.rest)

-- of two beginnings of a list the shorter one begins the other
pub shorter_begins : {X : Type 0} (one other all : List X) → Begins one all → Begins other all → length one ≤ length other → Begins one other
shorter_begins one other all first second less =
    let is : one ≡ take (length one) other =
    sym (take_at one first.rest (length one) refl) ∙ ap (take (length one)) (sym first.parts ∙ second.parts) ∙ take-append-le (length one) other second.rest less in
    record {
      rest = drop (length one) other;
      parts = sym (take-append-drop (length one) other) ∙ ap (λ l. l ++ drop (length one) other) (sym is);
    }

pub begins_join : {X : Type 0} (front one other : List X) → Begins one other → Begins (front ++ one) (front ++ other)
begins_join front one other begins = record { rest = begins.rest; parts = ap (λ l. front ++ l) begins.parts ∙ sym (append_assoc front one begins.rest) }

-- what begins a list with one more at its end, and isn't all of it, begins the list
shorter_by_one : {X : Type 0} (one more before : List X) (last : X) → before ++ last ∷ [] ≡ one ++ more → 0 < length more → Begins one before
shorter_by_one one more before last is some =
    let all = before ++ last ∷ [] in
    let size : length before + 1 ≡ length one + length more = omega (arith, ap length is, length-append before (last ∷ []), length-append one more) in
    shorter_begins one before all (record { rest = more; parts = is }) (record { rest = last ∷ []; parts = refl }) (omega (arith, size, some))

-- ---- what ends a history

-- an order in an output begins after that from before the event that ends its history
abbrev pub BeginsAfter : Node → History → Output → Type 0
BeginsAfter node history (output.Order start digests) = (before : History) × (event : Event) × (history ≡ before ++ event ∷ []) × (length (order node before) ≤ start)
BeginsAfter node history _ = Unit {0}

-- an output may be given out at a history, and begins after what was put out of the order before
pub record IsPut (node : Node) (history : History) (output : Output) : Type 0 where
  pub by : WasPutOut node history output
  pub may : MayGive node history output
  pub after : BeginsAfter node history output

abbrev pub IsEnded : Node → History → Outgoing → Type 0
IsEnded node history (put_out output) = IsPut node history output
IsEnded node history (read digests) = digests ≡ order node history

pub goes_out : (node : Node) (history : History) (outgoing : Outgoing) → IsEnded node history outgoing → GoesOut node history outgoing
goes_out node history (put_out output) ended = (ended.by, ended.may)
goes_out node history (read digests) ended = ended

-- ---- an order that was given out

-- it begins the order of its history, and is no shorter than those of earlier ones
pub record IsOrderOf (node : Node) (history : History) (given : List Digest) : Type 0 where
  pub within : Begins given (order node history)
  pub covers : (one more : History) → history ≡ one ++ more → 0 < length more → length (order node one) ≤ length given

order_longer : (node : Node) (history : History) (one more : History) → IsLegal node history → history ≡ one ++ more → length (order node one) ≤ length (order node history)
order_longer node history one more legal is =
    let grows = order_grows node one more (subst (IsLegal node) is legal) in
    begins_length (order node one) (order node history) (subst (λ h. Begins (order node one) (order node h)) (sym is) grows)

of_read : (node : Node) (history : History) (digests : List Digest) → IsLegal node history → digests ≡ order node history → IsOrderOf node history digests
of_read node history digests legal is = record {
  within = subst (λ o. Begins o (order node history)) (sym is) (begins_same (order node history));
  covers = λ one more parts some. subst (λ o. length (order node one) ≤ length o) (sym is) (order_longer node history one more legal parts);
}

piece_joined : (all : List Digest) (start : ℕ) (digests : List Digest) → IsPiece all start digests → take start all ++ digests ≡ take (start + length digests) all
piece_joined all start digests piece =
    let n = length digests in
    ap (λ l. take start all ++ l) (piece.stands ∙ sym (drop-take start n all))
    ∙ ap (λ l. l ++ drop start (take (start + n) all)) (sym (take-take start (start + n) all (omega arith)))
    ∙ take-append-drop start (take (start + n) all)

of_piece : (node : Node) (history : History) (start : ℕ) (digests : List Digest) → IsLegal node history → IsPut node history (output.Order start digests)
    → IsOrderOf node history (take start (order node history) ++ digests)
of_piece node history start digests legal put =
    let all = order node history in
    let n = length digests in
    let joined = piece_joined all start digests put.may in
    let long : n ≤ length all - start = omega (arith, ap length put.may.stands, length-take n (drop start all), length-drop start all) in
    let size : length (take start all ++ digests) ≡ start + n = omega (arith, length-append (take start all) digests, length-take start all, long, put.may.some) in
    let before = put.after.0 in
    let event = put.after.1 in
    record {
      within = record { rest = drop (start + n) all; parts = sym (take-append-drop (start + n) all) ∙ ap (λ l. l ++ drop (start + n) all) (sym joined) };
      covers = λ one more parts some.
          let begins = shorter_by_one one more before event (sym put.after.2 ∙ parts) some in
          let legal' : IsLegal node before = legal-begins node before (event ∷ []) (subst (IsLegal node) put.after.2 legal) in
          let less = order_longer node before one begins.rest legal' begins.parts in
          omega (arith, less, put.after.3, size);
    }

-- each order that was given out is one
pub order_of : (node : Node) (history : History) (outgoing : Outgoing) (digests : List Digest) → IsLegal node history → IsEnded node history outgoing
    → order_given (order node history) outgoing ≡ Some digests
    → IsOrderOf node history digests
order_of node history (read all) digests legal ended is = subst (IsOrderOf node history) (same_Some _ _ is) (of_read node history all legal ended)
order_of node history (put_out (output.Order start piece)) digests legal ended is = subst (IsOrderOf node history) (same_Some _ _ is) (of_piece node history start piece legal ended)
order_of node history (put_out (output.Batch batch)) digests legal ended is = absurd (none-some digests is)
order_of node history (put_out (output.Ack to ack)) digests legal ended is = absurd (none-some digests is)
order_of node history (put_out (output.Header header)) digests legal ended is = absurd (none-some digests is)
order_of node history (put_out (output.Vote vote)) digests legal ended is = absurd (none-some digests is)
order_of node history (put_out (output.Certificate certificate)) digests legal ended is = absurd (none-some digests is)

-- so one that is no later begins the other
pub orders_begin : (node : Node) (one other : History) (earlier later : List Digest) → IsLegal node other → Begins one other → (one ≡ other → length earlier ≤ length later)
    → IsOrderOf node one earlier → IsOrderOf node other later → Begins earlier later
orders_begin node one other earlier later legal begins no_longer first second =
    let grows : Begins (order node one) (order node other) =
    subst (λ h. Begins (order node one) (order node h)) (sym begins.parts) (order_grows node one begins.rest (subst (IsLegal node) begins.parts legal)) in
    let within = begins_trans earlier (order node one) (order node other) first.within grows in
    shorter_begins earlier later (order node other) within second.within (less begins.rest begins.parts)
  where
    less : (rest : History) → other ≡ one ++ rest → length earlier ≤ length later
    less [] same = no_longer (sym (append-nil one) ∙ sym same)
    less (event ∷ rest) longer = omega (arith, second.covers one (event ∷ rest) longer (omega arith), begins_length earlier (order node one) first.within)
