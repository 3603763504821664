-- Each legal history is where some run begins on two disks, whichever of them is read, and in each generation.
use Rattle.std.proofs.Common.{◌≡◌, ◌≢◌, ◌<◌, ◌≤◌, ◌^◌, ℕ, zero, suc, List, [], ◌∷◌, ◌++◌, take, Option, inl, refl, sym, ap, ◌∙◌, subst, arith}
use Rattle.std.proofs.lemmas.List.{append-nil}
use Rattle.std.proofs.lemmas.List.Elements.{All-nil, All-cons}
use Rattle.std.specs.Int.{w64, to_be_bytes}
use Rattle.diskmodel.specs.Outcomes.{AreBytes}
use Rattle.journal.specs.Areas.{Areas, alone, pair_of, head_record, stands_at, stands_in}
use Rattle.journal.specs.Format.{as_written, with_gate, group_bytes}
use Rattle.journal.specs.declared.layout.TheConstants.{CLOSED}
use Rattle.journal.specs.declared.side.Side.{Side}
use Rattle.journal.specs.declared.version.Version.TheVariants.{Second}
use Rattle.journal.proofs.Reporting.{reports_closed, both_older}
use Rattle.journal.specs.Format.{FitsGroup}
use Rattle.spec_checkpoint.specs.Data.{KeptVote, IsKeptBatch, IsKeptVote, IsKeptHeader, IsKeptCertificate, IsWritten, blank}
use Rattle.wire.specs.Fields.{IsDigest}
use Rattle.spec_checkpoint.specs.Records.{state_records}
use Rattle.spec_checkpoint.specs.Laws.{BlankIsFresh}
use Rattle.spec_machine.proofs.AfterAll.{kept_is_sound}
use Rattle.spec_model.specs.Giving.{kept}
use Rattle.spec_model.specs.Histories.{History}
use Rattle.spec_model.specs.Nodes.{Node, IsNode}
use Rattle.spec_model.specs.States.{State}
use Rattle.spec_world.specs.World.{Spare, own_configuration, BeginsAs, as_fresh, as_checkpoint, Holds, IsCheckpointOf, IsOpened, events_of, durable_in, run_on}
use Rattle.spec_world.specs.Runs.{AreKeys, first_bytes, two_on, HistoriesBeginOnTwo}
use Rattle.spec_world.proofs.Beginning.{empty_legal, first_holds, first_ends, first_are, closed_bytes, first_reports}
use Rattle.spec_world.proofs.Bytes.{one_more, number_bytes, configuration_are, group_are}
use Rattle.spec_world.proofs.Checkpoints.{groups_are}
use Rattle.spec_world.proofs.Groups.{take_none}
use Rattle.spec_world.proofs.Histories.{all_settled, histories_begin}
use Rattle.spec_world.proofs.Law.{run_stands}
use Rattle.spec_world.proofs.Recovering.{journal_at, journal_same}
use Rattle.spec_world.proofs.Standing.{areas_with, IsBeside, checkpoint_holds, pair_is}
use Rattle.spec_world.proofs.Starting.{starts_fresh}

-- ---- a journal in the first generation

-- the front of a journal on one disk is that of any
begins_any : (node : Node) (file : List ℕ) (areas : Areas) (front : List (List ℕ)) (in_first : ℕ) (base : State) → BeginsAs node (alone file) front in_first base
    → BeginsAs node areas front in_first base
begins_any node file areas front in_first base (as_fresh version can are first is) = as_fresh version can are first is
begins_any node file areas front in_first base (as_checkpoint version generation kept_data two can written are first is) = absurd two

-- a journal on one disk is one where its area is the one that is read
as_read : (node : Node) (side : Side) (file : List ℕ) (areas : Areas) (held_state : State) → Holds node (alone file) held_state → stands_in areas ≡ stands_at side file
    → Holds node areas held_state
unfolding stands_in
as_read node side file areas held_state held reads = record {
  front = held.front;
  in_first = held.in_first;
  base = held.base;
  begins = begins_any node file areas held.front held.in_first held.base held.begins;
  events = held.events;
  journal = journal_same (stands_at side file) (stands_in areas) held.front held.in_first held.events reads (journal_at side file held.front held.in_first held.events held.journal);
  legal = held.legal;
  leads = held.leads;
}

-- ---- a checkpoint of nothing

nothing_written : (node : Node) → IsWritten node blank
nothing_written node = record {
  canonical = record {
    order = All-nil IsDigest;
    batches = All-nil (IsKeptBatch node);
    votes = All-nil IsKeptVote;
    votes_rise = refl;
    headers = All-nil (IsKeptHeader node);
    headers_rise = refl;
    certificates = All-nil IsKeptCertificate;
    certificates_rise = refl;
    coins = All-nil (λ coin. coin < 2 ^ 64);
  };
  others = All-nil (λ (vote : KeptVote). vote.author ≢ node.own.0);
}

no_records : [] ≡ state_records blank
no_records = refl

module _ (blank_is_fresh : BlankIsFresh) (node : Node) (sound : IsNode node) (keys : AreKeys node) where
  -- one closed gate beside an area that is read
  abbrev gate : List ℕ
  gate = CLOSED ∷ []

  fresh_holds : Holds node (alone (first_bytes node)) (kept node [])
  unfolding stands_in
  fresh_holds = first_holds node sound keys (alone (first_bytes node)) refl

  first_on : (side : Side) → IsOpened node (two_on (first_bytes node) gate side 0) (kept node [])
  first_on side =
      let reported = first_reports node sound keys in
      let reads = both_older side 0 (first_bytes node) gate reported (inl (reports_closed 0 [] refl)) in
      record {
        holds = as_read node side (first_bytes node) (pair_of side (first_bytes node) gate) (kept node []) fresh_holds reads;
        ends_closed = first_ends node sound keys;
        are_bytes = first_are node sound keys;
        spare = record { reported = reported; at_rest = inl refl; are_bytes = closed_bytes node sound keys };
      }

  module _ (generation : ℕ) (some : 1 ≤ generation) (small : generation < 2 ^ 64) where
    abbrev front : List (List ℕ)
    front = own_configuration Second node ∷ head_record generation ∷ []

    front_are : AreBytes (group_bytes front)
    front_are =
        let head = one_more 2 (to_be_bytes w64 generation) (omega arith) (number_bytes 8 generation) in
        group_are front (All-cons AreBytes (own_configuration Second node) (head_record generation ∷ []) (configuration_are Second node keys)
        (All-cons AreBytes (head_record generation) [] head (All-nil AreBytes)))

    nothing_kept : IsCheckpointOf node generation (kept node []) (group_bytes front)
    nothing_kept =
        subst (λ (s : State). IsCheckpointOf node generation s (group_bytes front)) (blank_is_fresh node ∙ sym (starts_fresh node))
        (groups_are node generation blank [] (group_bytes front) sound keys some small (nothing_written node) (All-nil FitsGroup)
        no_records front_are
        (ap (λ (l : List ℕ). l ++ 0 ∷ []) (sym (append-nil (with_gate (as_written front))))))

    later_on : (side : Side) → IsOpened node (two_on (1 ∷ group_bytes front) gate side generation) (kept node [])
    later_on side =
        let live = 1 ∷ group_bytes front in
        let areas = pair_of side live gate in
        let reads = both_older side generation live gate nothing_kept.reported (inl (reports_closed 0 [] refl)) in
        record {
          holds = checkpoint_holds node areas side generation (kept node []) (group_bytes front) (pair_is side live gate) reads sound
              (kept_is_sound node [] (empty_legal node sound)) nothing_kept;
          ends_closed = nothing_kept.ends_closed;
          are_bytes = one_more 1 (group_bytes front) (omega arith) front_are;
          spare = record { reported = nothing_kept.reported; at_rest = inl refl; are_bytes = closed_bytes node sound keys };
        }

  -- two disks for the empty history
  begin_on : (side : Side) (generation : ℕ) → generation < 2 ^ 64 → (live : List ℕ) × IsOpened node (two_on live gate side generation) (kept node [])
  begin_on side zero small = (first_bytes node, first_on side)
  begin_on side (suc before) small = (1 ∷ group_bytes (front (suc before) (omega arith) small), later_on (suc before) (omega arith) small side)

-- ---- the law

pub histories_begin_on_two : BlankIsFresh → HistoriesBeginOnTwo
histories_begin_on_two blank_is_fresh node history side generation legal keys small =
    let sound = legal.sound in
    let opened = begin_on blank_is_fresh node sound keys side generation small in
    let on = two_on opened.0 (CLOSED ∷ []) side generation in
    let begun = histories_begin node [] on (empty_legal node sound) keys opened.1 in
    let settled = all_settled node (run_on on [] begun.0) begun.1 history legal begun.2 refl refl refl refl in
    let world = settled.world in
    let at = run_stands node settled.moves world sound settled.run in
    let durable : durable_in world ≡ world.settled =
    ap (λ l. world.settled ++ events_of l) (ap (take world.durable) settled.idle ∙ take_none world.durable) ∙ append-nil world.settled in
    let all : world.began ++ durable_in world ≡ history = (λ i. settled.began i ++ (durable ∙ settled.settled) i) in
    let beside = subst (λ (s : Option Spare). IsBeside s at.file at.rest) settled.beside at.beside in (
      at.file,
      at.rest,
      record {
        holds = subst (λ (h : History). Holds node (pair_of side at.file at.rest) (kept node h)) all
            (subst (λ (s : Option Spare). Holds node (areas_with s at.file at.rest) (kept node (world.began ++ durable_in world))) settled.beside at.holds);
        ends_closed = at.ends_closed;
        are_bytes = at.are_bytes;
        spare = record { reported = beside.reported; at_rest = beside.at_rest; are_bytes = beside.are_bytes };
      },
    )
