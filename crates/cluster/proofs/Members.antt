-- A member after a move.
use Rattle.std.proofs.Common.{◌≡◌, ℕ, inl, inr, List, [], refl, sym, ap, ◌∙◌, subst, arith}
use Rattle.std.specs.Prelude.{◌<◌, Option, Some, None, Contains, Result, Ok, Err}
use Rattle.diskmodel.specs.Disk.{Device}
use Rattle.desk.specs.AtWorld.{IsAt, LeadsTo, IsStop}
use Rattle.desk.specs.Desk.{DeskView, IsOpened}
use Rattle.header.specs.Checks.{Accepts}
use Rattle.journal.specs.Areas.{alone}
use Rattle.journal.specs.Journal.{disk_of}
use Rattle.journal.specs.declared.error.JournalError.{JournalError}
use Rattle.journal.specs.declared.error.JournalError.TheVariants as journal
use Rattle.spec_model.specs.Nodes.{Node}
use Rattle.spec_world.specs.Steps.{Move}
use Rattle.spec_world.specs.World.{World, Given}
use Rattle.cluster.specs.Answers.{Deed, HasMoved, OrNothing, Does, Makes, MakesSome, Stops, Became, IsDeviceFault, HasFailed, IsLost, CountsMore, events_in}
use Rattle.cluster.specs.Applying.{first_world}
use Rattle.cluster.specs.Member.{GivenOutView, MemberView, HasPutOut, StandsAt, HasCollected, HasCollectedSome}
use Rattle.cluster.specs.Outputs.{outputs_in}
use Rattle.cluster.specs.declared.error.ClusterError.{ClusterError}
use Rattle.cluster.specs.declared.error.ClusterError.TheVariants.{Journal}
use Rattle.cluster.specs.declared.error.ClusterError.TheVariants as errors
use Rattle.cluster.specs.declared.moves.Applied.{Applied}
use Rattle.cluster.specs.declared.moves.Applied.TheVariants.{Reopened, Settled}
use Rattle.cluster.specs.declared.moves.Request.{Request}
use Rattle.cluster.specs.declared.moves.Request.TheVariants.{Round, Stop}
use Rattle.validator.specs.Setting.{ConfigView, node_of}
use Rattle.sigface.specs.Scheme.{Scheme}
use Rattle.cluster.proofs.Releasing.{none_collected}
use Rattle.cluster.proofs.Turning.{stays, moved, stop_quiet}

-- what went out is what went out where nothing more did
pub put_out_same : (node : Node) (world next : World) (out : GivenOutView) → next.given ≡ world.given → HasPutOut node world out → HasPutOut node next out
put_out_same node world next out same was = record {
  outputs = ap outputs_in same ∙ was.outputs;
  order = record {
    given = elim was.order.given [ inl none ↦ inl none | inr some ↦ inr (some.0, subst (λ (l : List Given). Contains l some.0) (sym same) some.1, some.2) ];
    begins = λ one other there reported. was.order.begins one other (subst (λ (l : List Given). Contains l one) same there) reported;
  };
}

some_is : {T : Type 0} (one other : T) → ◌≡◌ {A = Option T} (Some one) (Some other) → one ≡ other
some_is one other same = cc

module _ {S D : Type 0} (node : Node) (device : Device D) (world : World) (before later : MemberView S D) (desk next : DeskView S D) (was : before.desk ≡ Some desk) (is : later.desk ≡ Some next)
    (setting : later.setting ≡ before.setting) (stands : StandsAt node device world before) where
  at_next : (to : World) → IsAt node device to next → HasPutOut node to later.out → StandsAt node device to later
  at_next to at out = record {
    sound = at.sound;
    moves = at.moves;
    run = at.run;
    at = λ one same. subst (IsAt node device to) (some_is next one (sym is ∙ same)) at;
    out = out;
  }

  pub makes : (Done : Deed S D → Type 0) (middle : DeskView S D) → HasMoved node device Done world desk middle
      → ((w : World) → IsAt node device w middle → HasPutOut node w before.out → HasCollected node device w middle next before.out later.out) → Makes node device Done world before later
  makes Done middle moved collects =
      let collected = collects moved.to moved.at (put_out_same node world moved.to before.out moved.quiet stands.out) in
      record {
        desk = desk;
        middle = middle;
        next = next;
        was = was;
        is = is;
        setting = setting;
        moved = moved;
        collected = collected;
        stands = at_next collected.to collected.at collected.out;
      }

  pub makes_some : (Done : Deed S D → Type 0) (middle : DeskView S D) → HasMoved node device (OrNothing Done) world desk middle
      → ((w : World) → IsAt node device w middle → HasPutOut node w before.out → HasCollectedSome node device w middle next before.out later.out) → MakesSome node device Done world before later
  makes_some Done middle moved collects =
      let collected = collects moved.to moved.at (put_out_same node world moved.to before.out moved.quiet stands.out) in
      record {
        desk = desk;
        middle = middle;
        next = next;
        was = was;
        is = is;
        setting = setting;
        moved = moved;
        collected = collected;
        stands = at_next collected.to collected.at collected.out;
      }

-- what was done is that, or nothing
pub moved_or_not : {S D : Type 0} (node : Node) (device : Device D) (Done : Deed S D → Type 0) (world : World) (before later : DeskView S D)
    → HasMoved node device Done world before later → HasMoved node device (OrNothing Done) world before later
moved_or_not node device Done world before later one = record { moves = one.moves; does = inr one.does; to = one.to; leads = one.leads; at = one.at; quiet = one.quiet }

pub not_moved : {S D : Type 0} (node : Node) (device : Device D) (Done : Deed S D → Type 0) (world : World) (desk : DeskView S D) → IsAt node device world desk
    → HasMoved node device (OrNothing Done) world desk desk
not_moved node device Done world desk at = stays node device (OrNothing Done) world desk desk at refl (inl (refl, refl))

-- a stop
pub stopped : {S D : Type 0} (node : Node) (device : Device D) (world : World) (before later : DeskView S D) (found : List ℕ) (count : ℕ) → device.outcome (disk_of before.journal) found
    → IsOpened node device (alone found) later → count ≡ events_in found → (moves : List Move) → IsStop world moves → LeadsTo node device world moves later
    → HasMoved node device (Stops node device (Reopened count)) world before later
stopped node device world before later found count left opened counted moves by to =
    moved node device (Stops node device (Reopened count)) world moves before later (stop_quiet world moves by) to
    (record { found = found; left = left; opened = opened; counted = counted; by = by })

-- an allocation failed before anything happened
pub nothing_made : {S D : Type 0} (node : Node) (device : Device D) (Done : Deed S D → Type 0) (world : World)
    (one : MemberView S D) (desk : DeskView S D) → one.desk ≡ Some desk
    → StandsAt node device world one → MakesSome node device Done world one one
nothing_made node device Done world one desk is stands =
    makes_some node device world one one desk desk is is refl stands Done desk (not_moved node device Done world desk (stands.at desk is))
    (λ w at was. none_collected node device w desk one.out at was)

-- ---- what became of a member, by each kind of answer

module _ {S D : Type 0} (node : Node) (device : Device D) (accepts : Accepts) (request : Request) (before later : MemberView S D) (setting : later.setting ≡ before.setting) where
  some_none : (desk : DeskView S D) → before.desk ≡ Some desk → before.desk ≡ None → ⊥
  some_none desk was none = never (sym was ∙ none)
    where
      never : ◌≡◌ {A = Option (DeskView S D)} (Some desk) None → ⊥
      never same = cc

  -- it did what was asked
  pub did : (desk : DeskView S D) → before.desk ≡ Some desk → (applied : Applied)
      → ((world : World) → StandsAt node device world before → Makes node device (Does node device accepts request applied) world before later)
      → (request ≡ Round → IsDeviceFault applied → HasFailed device before later) → Became node device accepts request before later (Ok applied)
  did desk was applied makes' fails = record {
    ok = makes';
    memory = λ is. absurd cc;
    fault = fails;
    lost = tt;
    gone = (λ is. absurd cc, λ none. absurd (some_none desk was none));
    same = λ is. absurd cc;
    never = λ is. cc;
    setting = setting;
  }

  -- an allocation failed
  pub did_some : (desk : DeskView S D) → before.desk ≡ Some desk
      → ((world : World) → StandsAt node device world before → (applied : Applied) × MakesSome node device (Does node device accepts request applied) world before later)
      → Became node device accepts request before later (Err errors.Memory)
  did_some desk was makes' = record {
    ok = tt;
    memory = λ is. makes';
    fault = λ is. tt;
    lost = λ is. absurd is;
    gone = (λ is. absurd cc, λ none. absurd (some_none desk was none));
    same = λ is. absurd cc;
    never = λ is. cc;
    setting = setting;
  }

  -- a node could not be opened after its machine stopped
  pub was_lost : (desk : DeskView S D) → before.desk ≡ Some desk → (cause : JournalError) → request ≡ Stop → IsLost node device (errors.Journal cause) before later
      → Became node device accepts request before later (Err (errors.Journal cause))
  was_lost desk was cause stops is = record {
    ok = tt;
    memory = λ same. absurd cc;
    fault = λ same. tt;
    lost = λ same. (stops, is);
    gone = (λ same. absurd cc, λ none. absurd (some_none desk was none));
    same = λ same. absurd cc;
    never = λ same. cc;
    setting = setting;
  }

-- it is gone
pub was_gone : {S D : Type 0} (node : Node) (device : Device D) (accepts : Accepts) (request : Request) (member : MemberView S D) → member.desk ≡ None
    → Became node device accepts request member member (Err errors.NoSuchNode)
was_gone node device accepts request member none = record {
  ok = tt;
  memory = λ is. absurd cc;
  fault = λ is. tt;
  lost = λ is. absurd is;
  gone = (λ is. none, λ is. refl);
  same = λ is. refl;
  never = λ is. cc;
  setting = refl;
}

-- an allocation failed before a member that is there was asked
pub was_not_asked : {S D : Type 0} (node : Node) (device : Device D) (accepts : Accepts) (request : Request) (member : MemberView S D) (desk : DeskView S D) → member.desk ≡ Some desk
    → Became node device accepts request member member (Err errors.Memory)
was_not_asked node device accepts request member desk is =
    did_some node device accepts request member member refl desk is
    (λ world stands. (Settled 0, nothing_made node device (Does node device accepts request (Settled 0)) world member desk is stands))

-- a desk did what its member was asked, and then all went out that may, or some of it
module _ {S D : Type 0} (scheme : Scheme S) (device : Device D) (accepts : Accepts) (request : Request) (before later : MemberView S D) (desk middle next : DeskView S D)
    (was : before.desk ≡ Some desk) (is : later.desk ≡ Some next) (setting : later.setting ≡ before.setting)
    (own between : ConfigView S) (owns : own ≡ before.setting) (stays_own : between ≡ before.setting) (applied : Applied)
    (moves : (w : World) → IsAt (node_of scheme own) device w desk
    → HasMoved (node_of scheme own) device (Does (node_of scheme own) device accepts request applied) w desk middle) where
  moves_here : (w : World) → IsAt (node_of scheme before.setting) device w desk
      → HasMoved (node_of scheme before.setting) device (Does (node_of scheme before.setting) device accepts request applied) w desk middle
  moves_here = subst (λ (s : ConfigView S). (w : World) → IsAt (node_of scheme s) device w desk
      → HasMoved (node_of scheme s) device (Does (node_of scheme s) device accepts request applied) w desk middle) owns moves

  pub asked_ok : ((w : World) → IsAt (node_of scheme between) device w middle → HasPutOut (node_of scheme between) w before.out
      → HasCollected (node_of scheme between) device w middle next before.out later.out)
      → (request ≡ Round → IsDeviceFault applied → HasFailed device before later) → Became (node_of scheme before.setting) device accepts request before later (Ok applied)
  asked_ok collects fails =
      did (node_of scheme before.setting) device accepts request before later setting desk was applied
      (λ world stands. makes (node_of scheme before.setting) device world before later desk next was is setting stands
      (Does (node_of scheme before.setting) device accepts request applied) middle (moves_here world (stands.at desk was))
      (subst (λ (s : ConfigView S). (w : World) → IsAt (node_of scheme s) device w middle → HasPutOut (node_of scheme s) w before.out
      → HasCollected (node_of scheme s) device w middle next before.out later.out) stays_own collects)) fails

  pub asked_some : ((w : World) → IsAt (node_of scheme between) device w middle → HasPutOut (node_of scheme between) w before.out
      → HasCollectedSome (node_of scheme between) device w middle next before.out later.out)
      → Became (node_of scheme before.setting) device accepts request before later (Err errors.Memory)
  asked_some collects =
      did_some (node_of scheme before.setting) device accepts request before later setting desk was
      (λ world stands. (
        applied,
        makes_some (node_of scheme before.setting) device world before later desk next was is setting stands
            (Does (node_of scheme before.setting) device accepts request applied) middle
            (moved_or_not (node_of scheme before.setting) device (Does (node_of scheme before.setting) device accepts request applied) world desk middle (moves_here world (stands.at desk was)))
            (subst (λ (s : ConfigView S). (w : World) → IsAt (node_of scheme s) device w middle → HasPutOut (node_of scheme s) w before.out
            → HasCollectedSome (node_of scheme s) device w middle next before.out later.out) stays_own collects),
      ))

-- a member that gave nothing out stands where its runs begin
pub begins_at : {S D : Type 0} (node : Node) (device : Device D) (member : MemberView S D) (desk : DeskView S D) → member.desk ≡ Some desk → member.out.outputs ≡ [] → member.out.order ≡ []
    → IsAt node device (first_world node) desk → StandsAt node device (first_world node) member
begins_at {S} {D} node device member desk has outputs order at = record {
  sound = at.sound;
  moves = at.moves;
  run = at.run;
  at = λ one same. subst (IsAt node device (first_world node)) (some_is desk one (sym has ∙ same)) at;
  out = record {
    outputs = sym outputs;
    order = record { given = inl order; begins = λ one other there reported. absurd (omega (arith, there.1)) };
  };
}

-- ---- why a node isn't opened

pub journal_is : (one other : JournalError) → Journal one ≡ Journal other → one ≡ other
journal_is one other same = cc

pub journal_err : {T : Type 0} (one other : JournalError) → ◌≡◌ {A = Result T ClusterError} (Err (Journal one)) (Err (Journal other)) → one ≡ other
journal_err one other same = cc

pub err_of : {T : Type 0} (one : JournalError) → ◌≡◌ {A = Result T JournalError} (Err one) (Err journal.Device) → one ≡ journal.Device
err_of one same = cc

-- a disk counted a failure more than one that counts as this does
pub counts_as : {D : Type 0} (device : Device D) (one other : D) → device.faults one ≡ device.faults other → CountsMore device one → CountsMore device other
counts_as device one other same more = (more.0, subst (λ n. n < device.faults more.0) same more.1)
