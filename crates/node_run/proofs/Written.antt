-- What goes to a node's writer, output by output.
use Rattle.std.proofs.Common.{◌≡◌, ℕ, ◌+◌, length, arith, Bool, true, false, List, [], ◌∷◌, ◌++◌, Option, None, Some, refl, sym, ap, subst, ◌∙◌, append-nil, append_assoc, inl, inr}
use Rattle.std.specs.Prelude.{◌||◌, ◌≢◌}
use Rattle.std.proofs.lemmas.Bool.{or_left, or_right, or_parts}
use Rattle.std.specs.Io.Buffered.{writer_buffer, writer_contents, writer_inner}
use Rattle.std.specs.List.{flat_map}
use Rattle.std.specs.declared.io.buffered.BufWriter.{BufWriter}
use Rattle.std.specs.Io.KnownBytes.{Keeps, Appends, append_known}
use Rattle.std.proofs.KnownBytes.{Keeps-refl, Keeps-trans, Appends-trans, Appends-kept}
use Rattle.std.proofs.lemmas.List.{length-append}
use Rattle.std.proofs.lemmas.List.Concat.{flat_map-append}
use Rattle.std.proofs.lemmas.List.Elements.{All-nil, All-append, All-cons, All-head, All-map, All-tail, All-weaker}
use Rattle.std.specs.Prelude.{All}
use Rattle.spec_model.specs.Admitting.{IsLegal}
use Rattle.spec_model.specs.Giving.{kept, MayGive}
use Rattle.spec_model.specs.Histories.{History}
use Rattle.spec_model.specs.States.{State}
use Rattle.wire.specs.Lists.{Begins}
use Rattle.spec_model.specs.Words.{Output}
use Rattle.spec_world.specs.World.{Waiting}
use Rattle.node_io.specs.declared.faults.Faults.{Faults}
use Rattle.node_seats.proofs.Beginnings.{begins_trans}
use Rattle.node_seats.specs.Sights.{SeatView}
use Rattle.node_seats.specs.Views.{events}
use Rattle.node_seats.specs.declared.view.View.{View}
use Rattle.node_shared.specs.Answers.{Gives, GivesAll, IsPutOutBy}
use Rattle.node_shared.specs.Home.{NodeView, IsBase}
use Rattle.sigface.specs.Scheme.{Scheme}
use Rattle.validator.specs.Setting.{node_of}
use Rattle.wire.specs.Outputs.{frame_of}
use Rattle.node_run.specs.Writing.{AppendsSome, HoldsPart, is_over, Puts, PutsAll, MayGo, HasWritten, WritesOnly}
use Rattle.wire_write.proofs.Appending.{keeps_appends}
use Rattle.wire_write.specs.Frames.{AppendsLess}

-- the other faults are as before
others_yet : (before mid later : Faults) → mid ≡ record before { output = mid.output; memory = mid.memory } → later ≡ record mid { output = later.output; memory = later.memory }
    → later ≡ record before { output = later.output; memory = later.memory }
others_yet before mid later first second = second ∙ ap (λ (faults : Faults). record faults { output = later.output; memory = later.memory }) first

-- what is over stays over
over_yet : (before later : Faults) → (before.output ≡ true → later.output ≡ true) → (before.memory ≡ true → later.memory ≡ true) → is_over before ≡ true → is_over later ≡ true
over_yet before later broken memory is = by before.output refl
  where
    by : (b : Bool) → before.output ≡ b → is_over later ≡ true
    by true e = or_left later.output later.memory (broken e)
    by false e = or_right later.output later.memory (memory (subst (λ (t : Bool). (t || before.memory) ≡ true) e is))

pub weaker : (May Wider : Output → Type 0) (before later : Faults) (old new : Option (List ℕ)) → ((output : Output) → May output → Wider output)
    → WritesOnly May before later old new → WritesOnly Wider before later old new
weaker May Wider before later old new wider so_far = record {
  over = so_far.over;
  broken = so_far.broken;
  memory = so_far.memory;
  outputs = so_far.outputs;
  each = All-weaker May Wider wider so_far.outputs so_far.each;
  written = so_far.written;
  some = so_far.some;
  others = so_far.others;
}

-- some that aren't all
some_of_less : (old new : Option (List ℕ)) (bytes : List ℕ) → AppendsLess old new bytes → AppendsSome old new bytes
some_of_less old new bytes less = record { part = less.part; begins = less.begins; appends = less.appends }

-- none are a beginning, and all of them are
none_some : (old new : Option (List ℕ)) (bytes : List ℕ) → Keeps old new → AppendsSome old new bytes
none_some old new bytes keeps = record {
  part = [];
  begins = record { rest = bytes; parts = refl };
  appends = keeps_appends old new keeps;
}

all_some : (old new : Option (List ℕ)) (bytes : List ℕ) → Appends old new bytes → AppendsSome old new bytes
all_some old new bytes appends = record {
  part = bytes;
  begins = record { rest = []; parts = sym (append-nil bytes) };
  appends = appends;
}

some_kept : (old mid new : Option (List ℕ)) (bytes : List ℕ) → AppendsSome old mid bytes → Keeps mid new → AppendsSome old new bytes
some_kept old mid new bytes some keeps = record {
  part = some.part;
  begins = some.begins;
  appends = Appends-kept old mid new some.part some.appends keeps;
}

-- all of the first, and some of the second
some_after : (old mid new : Option (List ℕ)) (first second : List ℕ) → Appends old mid first → AppendsSome mid new second → AppendsSome old new (first ++ second)
some_after old mid new first second one some = record {
  part = first ++ some.part;
  begins = record { rest = some.begins.rest; parts = ap (λ (l : List ℕ). first ++ l) some.begins.parts ∙ sym (append_assoc first some.part some.begins.rest) };
  appends = Appends-trans old mid new first some.part one some.appends;
}

-- nothing yet
pub none_yet : (May : Output → Type 0) (faults : Faults) (at : Option (List ℕ)) → WritesOnly May faults faults at at
none_yet May faults at = record {
  over = λ is. Keeps-refl at;
  broken = λ is. is;
  memory = λ is. is;
  outputs = [];
  each = All-nil May;
  written = λ fine. keeps_appends at at (Keeps-refl at);
  some = all_some at at [] (keeps_appends at at (Keeps-refl at));
  others = refl;
}

-- more went to a writer while it was not over
more_of : (May : Output → Type 0) (before mid later : Faults) (old cur new : Option (List ℕ)) (more : List Output) → WritesOnly May before mid old cur → All May more
    → is_over mid ≡ false → (before.memory ≡ true → later.memory ≡ true) → later ≡ record before { output = later.output; memory = later.memory }
    → (later.output ≡ false → Appends cur new (flat_map frame_of more)) → AppendsSome cur new (flat_map frame_of more) → WritesOnly May before later old new
more_of May before mid later old cur new more so_far each up memory others written some = record {
  over = λ is. absurd (let bad : true ≡ false = sym (over_yet before mid so_far.broken so_far.memory is) ∙ up in cc);
  broken = λ is. absurd (let bad : true ≡ false = sym (so_far.broken is) ∙ fine in cc);
  memory = memory;
  outputs = so_far.outputs ++ more;
  each = All-append May so_far.outputs more so_far.each each;
  written = λ yet. subst (Appends old new) whole
      (Appends-trans old cur new (flat_map frame_of so_far.outputs) (flat_map frame_of more) (so_far.written fine) (written yet));
  some = subst (AppendsSome old new) whole (some_after old cur new (flat_map frame_of so_far.outputs) (flat_map frame_of more) (so_far.written fine) some);
  others = others;
}
  where
    fine : mid.output ≡ false
    fine = (or_parts mid.output mid.memory up).0

    whole : flat_map frame_of so_far.outputs ++ flat_map frame_of more ≡ flat_map frame_of (so_far.outputs ++ more)
    whole = sym (flat_map-append frame_of so_far.outputs more)

-- nothing more went to it
none_more_of : (May : Output → Type 0) (before mid later : Faults) (old cur new : Option (List ℕ)) → WritesOnly May before mid old cur
    → (mid.output ≡ true → later.output ≡ true) → (before.memory ≡ true → later.memory ≡ true) → later ≡ record before { output = later.output; memory = later.memory }
    → Keeps cur new → WritesOnly May before later old new
none_more_of May before mid later old cur new so_far stays memory others keeps = record {
  over = λ is. Keeps-trans old cur new (so_far.over is) keeps;
  broken = λ is. stays (so_far.broken is);
  memory = memory;
  outputs = so_far.outputs;
  each = so_far.each;
  written = λ yet. Appends-kept old cur new (flat_map frame_of so_far.outputs) (so_far.written (was mid.output refl yet)) keeps;
  some = some_kept old cur new (flat_map frame_of so_far.outputs) so_far.some keeps;
  others = others;
}
  where
    was : (b : Bool) → mid.output ≡ b → later.output ≡ false → mid.output ≡ false
    was true is yet = let bad : true ≡ false = sym (stays is) ∙ yet in absurd cc
    was false is yet = is

-- ---- several outputs

-- of what holds of a list it holds of each beginning
front_all : (P : Output → Type 0) (front back : List Output) → All P (front ++ back) → All P front
front_all P [] back all = All-nil P
front_all P (first ∷ rest) back all = All-cons P first rest (All-head P first (rest ++ back) all) (front_all P rest back (All-tail P first (rest ++ back) all))

module _ (outputs : List Output) (before later : Faults) (old new : Option (List ℕ)) (puts : PutsAll outputs before later old new) where
  puts_broken : before.output ≡ true → later.output ≡ true
  puts_broken is = ap (λ (faults : Faults). faults.output) (puts.over (or_left before.output before.memory is)).0 ∙ is

  puts_memory : before.memory ≡ true → later.memory ≡ true
  puts_memory is = ap (λ (faults : Faults). faults.memory) (puts.over (or_right before.output before.memory is)).0 ∙ is

-- the first of some outputs aren't all of these and one more
one_short : (put outputs : List Output) (output : Output) → Begins put outputs → put ≢ outputs ++ output ∷ []
one_short put outputs output begins is =
    let longer : length put ≡ length outputs + 1 = ap length is ∙ length-append outputs (output ∷ []) in
    let parts : length outputs ≡ length put + length begins.rest = ap length begins.parts ∙ length-append put begins.rest in
    omega (arith, longer, parts)

-- the frames of no output
pub put_nothing : (faults : Faults) (at : Option (List ℕ)) → PutsAll [] faults faults at at
put_nothing faults at = record {
  over = λ is. (refl, Keeps-refl at);
  put = [];
  begins = record { rest = []; parts = refl };
  whole = λ up. refl;
  lacks = λ up fine lack. absurd (let bad : true ≡ false = sym lack ∙ (or_parts faults.output faults.memory up).1 in cc);
  written = λ fine. keeps_appends at at (Keeps-refl at);
  some = all_some at at [] (keeps_appends at at (Keeps-refl at));
  others = refl;
}

-- one output more
pub put_more : (outputs : List Output) (output : Output) (before mid later : Faults) (old cur new : Option (List ℕ))
    → PutsAll outputs before mid old cur → Puts (frame_of output) mid later cur new → PutsAll (outputs ++ output ∷ []) before later old new
put_more outputs output before mid later old cur new so_far puts = by (is_over mid) later.output refl refl
  where
    one : List Output
    one = output ∷ []

    frame : frame_of output ≡ flat_map frame_of one
    frame = sym (append-nil (frame_of output))

    stays : mid.output ≡ true → later.output ≡ true
    stays was = ap (λ (faults : Faults). faults.output) (puts.over (or_left mid.output mid.memory was)).0 ∙ was

    others : later ≡ record before { output = later.output; memory = later.memory }
    others = others_yet before mid later so_far.others puts.others

    some : AppendsSome cur new (flat_map frame_of one)
    some = subst (AppendsSome cur new) frame puts.some

    was : (b : Bool) → mid.output ≡ b → later.output ≡ false → mid.output ≡ false
    was true is yet = let bad : true ≡ false = sym (stays is) ∙ yet in absurd cc
    was false is yet = is

    -- if it was over before, it was over then
    was_up : is_over mid ≡ false → is_over before ≡ true → ⊥
    was_up up is = let bad : true ≡ false = sym (ap is_over (so_far.over is).0 ∙ is) ∙ up in cc

    none_more : (is_over before ≡ true → later ≡ before) → is_over later ≡ true → Keeps cur new → PutsAll (outputs ++ one) before later old new
    none_more same over keeps = record {
      over = λ is. (same is, Keeps-trans old cur new (so_far.over is).1 keeps);
      put = so_far.put;
      begins = record { rest = so_far.begins.rest ++ one; parts = ap (λ (l : List Output). l ++ one) so_far.begins.parts ∙ append_assoc so_far.put so_far.begins.rest one };
      whole = λ up. absurd (let bad : true ≡ false = sym over ∙ up in cc);
      lacks = λ up fine lack. one_short so_far.put outputs output so_far.begins;
      written = λ yet. Appends-kept old cur new (flat_map frame_of so_far.put) (so_far.written (was mid.output refl yet)) keeps;
      some = some_kept old cur new (flat_map frame_of so_far.put) so_far.some keeps;
      others = others;
    }

    one_put : is_over mid ≡ false → (later.output ≡ false → later.memory ≡ false) → (later.output ≡ false → Appends cur new (flat_map frame_of one))
        → PutsAll (outputs ++ one) before later old new
    one_put up no_lack written =
        let fine : mid.output ≡ false = (or_parts mid.output mid.memory up).0 in
        let all : so_far.put ≡ outputs = so_far.whole up in
        let frames : flat_map frame_of so_far.put ++ flat_map frame_of one ≡ flat_map frame_of (so_far.put ++ one) = sym (flat_map-append frame_of so_far.put one) in
        record {
          over = λ is. absurd (was_up up is);
          put = so_far.put ++ one;
          begins = record { rest = []; parts = ap (λ (l : List Output). l ++ one) (sym all) ∙ sym (append-nil (so_far.put ++ one)) };
          whole = λ _. ap (λ (l : List Output). l ++ one) all;
          lacks = λ _ yet lack. absurd (let bad : true ≡ false = sym lack ∙ no_lack yet in cc);
          written = λ yet. subst (Appends old new) frames (Appends-trans old cur new (flat_map frame_of so_far.put) (flat_map frame_of one) (so_far.written fine) (written yet));
          some = subst (AppendsSome old new) frames (some_after old cur new (flat_map frame_of so_far.put) (flat_map frame_of one) (so_far.written fine) some);
          others = others;
        }

    -- it was over; the writer fails now; an allocation fails now; nothing fails
    by : (was_over now : Bool) → is_over mid ≡ was_over → later.output ≡ now → PutsAll (outputs ++ one) before later old new
    by true now is then = none_more (λ was. (puts.over is).0 ∙ (so_far.over was).0) (ap is_over (puts.over is).0 ∙ is) (puts.over is).1
    by false true is then =
        one_put is (λ fine. absurd (let bad : true ≡ false = sym then ∙ fine in cc)) (λ fine. absurd (let bad : true ≡ false = sym then ∙ fine in cc))
    by false false is then = elim (puts.fine then) [
      | inl all ↦ one_put is (λ fine. ap (λ (faults : Faults). faults.memory) all.0 ∙ (or_parts mid.output mid.memory is).1)
          (λ fine. subst (Appends cur new) frame all.1)
      | inr none ↦ none_more (λ before'. absurd (was_up is before')) (or_right later.output later.memory (ap (λ (faults : Faults). faults.memory) none.0)) none.1
    ]

-- outputs that may go were put
pub only_put : (May : Output → Type 0) (outputs : List Output) (before later : Faults) (old new : Option (List ℕ)) → All May outputs → PutsAll outputs before later old new
    → WritesOnly May before later old new
only_put May outputs before later old new each puts = record {
  over = λ is. (puts.over is).1;
  broken = puts_broken outputs before later old new puts;
  memory = puts_memory outputs before later old new puts;
  outputs = puts.put;
  each = front_all May puts.put puts.begins.rest (subst (All May) puts.begins.parts each);
  written = puts.written;
  some = puts.some;
  others = puts.others;
}

-- what went before, and what went then
pub both_written : (May : Output → Type 0) (before mid later : Faults) (old cur new : Option (List ℕ))
    → WritesOnly May before mid old cur → WritesOnly May mid later cur new → WritesOnly May before later old new
both_written May before mid later old cur new first second = by (is_over mid) refl
  where
    memory : before.memory ≡ true → later.memory ≡ true
    memory is = second.memory (first.memory is)

    others : later ≡ record before { output = later.output; memory = later.memory }
    others = others_yet before mid later first.others second.others

    by : (was : Bool) → is_over mid ≡ was → WritesOnly May before later old new
    by true is = none_more_of May before mid later old cur new first second.broken memory others (second.over is)
    by false is = more_of May before mid later old cur new second.outputs first second.each is memory others second.written second.some

-- nothing more, but that the writer may have failed
pub no_more : (May : Output → Type 0) (before mid later : Faults) (old cur new : Option (List ℕ))
    → WritesOnly May before mid old cur → (mid.output ≡ true → later.output ≡ true) → later ≡ record mid { output = later.output } → Keeps cur new → WritesOnly May before later old new
no_more May before mid later old cur new so_far stays same keeps = none_more_of May before mid later old cur new so_far stays (λ is. memory ∙ so_far.memory is) others keeps
  where
    memory : later.memory ≡ mid.memory
    memory = ap (λ (faults : Faults). faults.memory) same

    others : later ≡ record before { output = later.output; memory = later.memory }
    others = others_yet before mid later so_far.others (same ∙ ap (λ (it : Bool). record mid { output = later.output; memory = it }) (sym memory))

-- ---- a frame that was to be put

-- it was over
pub puts_none : (bytes : List ℕ) (faults : Faults) (old : Option (List ℕ)) → is_over faults ≡ true → Puts bytes faults faults old old
puts_none bytes faults old over = record {
  over = λ is. (refl, Keeps-refl old);
  fine = λ fine. inr (ap (λ (it : Bool). record faults { memory = it }) (subst (λ (t : Bool). (t || faults.memory) ≡ true) fine over), Keeps-refl old);
  some = none_some old old bytes (Keeps-refl old);
  others = refl;
}

pub puts_all : (bytes : List ℕ) (faults : Faults) (old new : Option (List ℕ)) → is_over faults ≡ false → Appends old new bytes → Puts bytes faults faults old new
puts_all bytes faults old new up appends = record {
  over = λ is. absurd (let bad : true ≡ false = sym is ∙ up in cc);
  fine = λ fine. inl (refl, appends);
  some = all_some old new bytes appends;
  others = refl;
}

-- an allocation failed
pub puts_no_memory : (bytes : List ℕ) (faults : Faults) (old new : Option (List ℕ)) → is_over faults ≡ false → Keeps old new → Puts bytes faults (record faults { memory = true }) old new
puts_no_memory bytes faults old new up keeps = record {
  over = λ is. absurd (let bad : true ≡ false = sym is ∙ up in cc);
  fine = λ fine. inr (refl, keeps);
  some = none_some old new bytes keeps;
  others = refl;
}

-- the writer fails
pub puts_some : (bytes : List ℕ) (faults : Faults) (old new : Option (List ℕ)) → is_over faults ≡ false → AppendsLess old new bytes → Puts bytes faults (record faults { output = true }) old new
puts_some bytes faults old new up less = record {
  over = λ is. absurd (let bad : true ≡ false = sym is ∙ up in cc);
  fine = λ fine. absurd (cc);
  some = some_of_less old new bytes less;
  others = refl;
}

-- what might go before may go yet
pub may_go_yet : {S : Type 0} (scheme : Scheme S) (node : NodeView S) (before later : View) → Begins before.durable later.durable
    → (output : Output) → MayGo scheme node before output → MayGo scheme node later output
may_go_yet scheme node before later more output may = record {
  settled = may.settled;
  begins = begins_trans may.settled before.durable later.durable may.begins more;
  may = may.may;
  count = may.count;
  within = may.within;
  put_out = may.put_out;
}

pub goes_now : {S : Type 0} (scheme : Scheme S) (node : NodeView S) (view : View) (output : Output)
    → ((base : State) (history : History) → IsBase scheme node base → IsLegal (node_of scheme node.setting) history → kept (node_of scheme node.setting) history ≡ base
    → MayGive (node_of scheme node.setting) (history ++ events view.durable) output) → IsPutOutBy scheme node view output → MayGo scheme node view output
goes_now scheme node view output may put = record {
  settled = view.durable;
  begins = record { rest = []; parts = sym (append-nil view.durable) };
  may = may;
  count = put.count;
  within = put.settled;
  put_out = put.goes_out;
}

-- what a seat collected may go
pub may_all : {S : Type 0} (scheme : Scheme S) (node : NodeView S) (seat : SeatView) (outputs : List Output) → GivesAll scheme node seat [] outputs → All (MayGo scheme node seat.view) outputs
may_all scheme node seat outputs gives =
    let May = MayGo scheme node seat.view in
    let each = All-weaker (λ (one : Waiting). Gives scheme node seat one.output) (λ (one : Waiting). May one.output)
    (λ one it. goes_now scheme node seat.view one.output it.may it.put_out) gives.waiting gives.each in
    subst (All May) (sym gives.added) (All-map May (λ (one : Waiting). one.output) gives.waiting each)

-- ---- the writer that is given back

known_nothing_more : (known : Option (List ℕ)) → append_known known [] ≡ known
known_nothing_more None = refl
known_nothing_more (Some xs) = ap Some (append-nil xs)

-- a new buffer holds what its writer does
pub new_contents : {W A : Type 0} (contents : W → Option (List ℕ)) (buffered : BufWriter W A) (writer : W) → writer_inner buffered ≡ writer → writer_buffer buffered ≡ []
    → writer_contents contents buffered ≡ contents writer
new_contents contents buffered writer inner empty =
    ap (λ w. append_known (contents w) (writer_buffer buffered)) inner ∙ ap (λ bytes. append_known (contents writer) bytes) empty ∙ known_nothing_more (contents writer)

-- all of a buffer was written
pub keeps_part : (old new : Option (List ℕ)) → Keeps old new → HoldsPart old new []
keeps_part None new keeps = tt
keeps_part (Some xs) None keeps = absurd keeps
keeps_part (Some xs) (Some ys) keeps = record { rest = []; parts = ap (λ (l : List ℕ). l ++ []) (sym keeps) }

-- these bytes of it weren't
pub lacks_part : (old inner : Option (List ℕ)) (buffer : List ℕ) → Keeps old (append_known inner buffer) → HoldsPart old inner []
lacks_part None inner buffer keeps = tt
lacks_part (Some xs) None buffer keeps = absurd keeps
lacks_part (Some xs) (Some ys) buffer keeps = record { rest = buffer; parts = append-nil xs ∙ sym keeps }

part_after : (old cur new : Option (List ℕ)) (part rest bytes : List ℕ) → bytes ≡ part ++ rest → Appends old cur part → HoldsPart cur new [] → HoldsPart old new bytes
part_after None cur new part rest bytes is appends holds = tt
part_after (Some xs) None new part rest bytes is appends holds = absurd appends
part_after (Some xs) (Some ys) None part rest bytes is appends holds = absurd holds
part_after (Some xs) (Some ys) (Some zs) part rest bytes is appends holds = record {
  rest = holds.rest ++ rest;
  parts =
      ap (λ (l : List ℕ). xs ++ l) is ∙ sym (append_assoc xs part rest) ∙ ap (λ (l : List ℕ). l ++ rest) (sym appends ∙ sym (append-nil ys) ∙ holds.parts)
      ∙ append_assoc zs holds.rest rest;
}

-- what went to a sink, and what of that its writer holds
pub has_written : (May : Output → Type 0) (IsWhole : Type 0) (before later : Faults) (old cur new : Option (List ℕ)) → WritesOnly May before later old cur
    → HoldsPart cur new [] → (IsWhole → (later.output ≡ false) × Keeps cur new) → HasWritten (All May) IsWhole old new
has_written May IsWhole before later old cur new only part whole = record {
  outputs = only.outputs;
  right = only.each;
  part = part_after old cur new only.some.part only.some.begins.rest (flat_map frame_of only.outputs) only.some.begins.parts only.some.appends part;
  whole = λ is. Appends-kept old cur new (flat_map frame_of only.outputs) (only.written (whole is).0) (whole is).1;
}

-- of outputs of which more holds
pub written_weaker : (Right Wider : List Output → Type 0) (IsWhole WasWhole : Type 0) (old new : Option (List ℕ)) → ((outputs : List Output) → Right outputs → Wider outputs)
    → (WasWhole → IsWhole) → HasWritten Right IsWhole old new → HasWritten Wider WasWhole old new
written_weaker Right Wider IsWhole WasWhole old new wider was it = record {
  outputs = it.outputs;
  right = wider it.outputs it.right;
  part = it.part;
  whole = λ is. it.whole (was is);
}

-- nothing was written
pub wrote_nothing : (Right : List Output → Type 0) (IsWhole : Type 0) (at : Option (List ℕ)) → Right [] → HasWritten Right IsWhole at at
wrote_nothing Right IsWhole at right = record {
  outputs = [];
  right = right;
  part = keeps_part at at (Keeps-refl at);
  whole = λ is. keeps_appends at at (Keeps-refl at);
}

-- the other faults at the end are as before
pub faults_at_end : (before mid later : Faults) → mid ≡ record before { output = mid.output; memory = mid.memory } → later ≡ record mid { output = later.output }
    → later ≡ record before { output = later.output; memory = later.memory }
faults_at_end before mid later first same =
    let memory : later.memory ≡ mid.memory = ap (λ (faults : Faults). faults.memory) same in
    others_yet before mid later first (same ∙ ap (λ (it : Bool). record mid { output = later.output; memory = it }) (sym memory))

-- the writer had not failed before
pub fine_before : (before later : Bool) → (before ≡ true → later ≡ true) → later ≡ false → before ≡ false
fine_before true later stays fine = let bad : true ≡ false = sym (stays refl) ∙ fine in absurd cc
fine_before false later stays fine = refl
