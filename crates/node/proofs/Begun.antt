-- Where a node begins after an opening.
use Rattle.std.proofs.Common.{◌≡◌, true, false, List, [], length, inl, inr, sym, subst, ap, ◌∙◌}
use Rattle.std.specs.Prelude.{not, Result, Ok, Err, IfOk, IfErr}
use Rattle.diskmodel.specs.Disk.{Device}
use Rattle.journal.specs.declared.error.Failed.{Failed}
use Rattle.journal.specs.declared.error.JournalError.{JournalError}
use Rattle.journal.specs.declared.error.JournalError.TheVariants as errors
use Rattle.journal.specs.Areas.{Areas}
use Rattle.journal.specs.Journal.{IsAlive}
use Rattle.journal.specs.Pairs.{areas_in, areas_of}
use Rattle.journal.specs.Stores.{faults_in}
use Rattle.journal.specs.declared.journal.Journal.{Journal}
use Rattle.journal.specs.declared.store.Store.{Store}
use Rattle.spec_machine.proofs.AfterAll.{after_none, legal_none}
use Rattle.spec_model.specs.Nodes.{Node, IsNode}
use Rattle.validator.specs.Setting.{ConfigView, node_of}
use Rattle.node_shared.specs.Home.{NodeView, IsFlushOf}
use Rattle.flusher.specs.Rounds.{journal_of, seat_of, is_down, HoldsAfter, IsFlusherOf}
use Rattle.flusher.specs.declared.flusher.Flusher.{Flusher}
use Rattle.node_seats.specs.declared.view.Marked.{Marked}
use Rattle.node_shared.specs.Calls.{HasNothing}
use Rattle.node_shared.specs.declared.flush_seat.FlushSeat.{FlushSeat}
use Rattle.admission.specs.declared.tables.Tables.{Tables}
use Rattle.spec_world.specs.World.{Holds}
use Rattle.opening.specs.Laws.{HoldsIn, IsOpeningOn, KeepsAlone}
use Rattle.opening.specs.Stages.{IsDecodedThroughout}
use Rattle.opening.specs.Decoded.{decoded_in, Reports}
use Rattle.sigface.specs.Scheme.{Scheme}
use Rattle.node.specs.Starting.{IsStartingOn}

-- a journal at a state at which tables stand is one of a node that begins with these tables, before any event
pub holds_first : {S : Type 0} (scheme : Scheme S) (node : NodeView S) (areas : Areas) → IsNode (node_of scheme node.setting) → HoldsIn (node_of scheme node.setting) areas node.begun
    → HoldsAfter scheme node [] areas
holds_first scheme node areas is_node held =
    let member = node_of scheme node.setting in
    record {
      base = held.state;
      is_base = held.at;
      legal = legal_none member held.state is_node held.at.sound;
      holds = subst (Holds member areas) (sym (after_none member held.state)) held.holds;
    }

-- a flusher over that journal, whose seat has seen nothing
pub flusher_first : {S D : Type 0} (scheme : Scheme S) (device : Device D) (node : NodeView S) (flusher : Flusher D) (journal : Journal D) (seat : FlushSeat) (setting : ConfigView S) (tables : Tables)
    → node.setting ≡ setting → node.begun ≡ tables → journal_of flusher ≡ journal → seat_of flusher ≡ seat → IsFlushOf node seat → HasNothing seat.seat → seat.taken ≡ 0 → seat.rewriting ≡ false
    → seat.seat.view.may_fail ≡ true → is_down flusher ≡ false → IsNode (node_of scheme setting) → IsAlive device journal
    → HoldsIn (node_of scheme setting) (areas_of device journal) tables → IsFlusherOf scheme device node flusher
flusher_first {S} {D} scheme device node flusher journal seat setting tables setting_is begun_is journal_is seat_is of nothing taken idle right up is_node alive held =
    let areas = areas_of device journal in
    let here : HoldsIn (node_of scheme node.setting) areas node.begun = subst (λ (t : Tables). HoldsIn (node_of scheme node.setting) areas t) (sym begun_is)
    (subst (λ (s : ConfigView S). HoldsIn (node_of scheme s) areas tables) (sym setting_is) held) in
    let is_here : IsNode (node_of scheme node.setting) = subst (λ (s : ConfigView S). IsNode (node_of scheme s)) (sym setting_is) is_node in
    let first : HoldsAfter scheme node seat.seat.view.durable areas =
    subst (λ (l : List Marked). HoldsAfter scheme node l areas) (sym nothing.durable) (holds_first scheme node areas is_here here) in
    record {
      seat = subst (IsFlushOf node) (sym seat_is) of;
      right = ap (λ (s : FlushSeat). s.seat.view.may_fail) seat_is ∙ right ∙ sym (ap not up);
      rests = λ _. subst (λ (s : FlushSeat). s.taken ≡ s.settled) (sym seat_is) (taken ∙ sym (of.settled ∙ ap length nothing.durable));
      idle = λ _. ap (λ (s : FlushSeat). s.rewriting) seat_is ∙ idle;
      alive = λ _. subst (IsAlive device) (sym journal_is) alive;
      holds = λ _. subst (λ (j : Journal D). HoldsAfter scheme node (seat_of flusher).seat.view.durable (areas_of device j)) (sym journal_is)
          (subst (λ (s : FlushSeat). HoldsAfter scheme node s.seat.view.durable areas) (sym seat_is) first);
    }

-- an opening that failed is one of a node
pub opening_failed : {T U D : Type 0} (node : Node) (device : Device D) (ours : T → Store D) (theirs : U → Store D) (store : Store D) (failed : Failed JournalError (Store D))
    → IsOpeningOn node device ours store (Err failed) → IsStartingOn node device theirs store (Err failed)
opening_failed node device ours theirs store failed at = record {
  reports = at.reports;
  full = at.full;
  cause = at.cause;
  any_moment = at.any_moment;
  keeps = at.keeps;
  never_refused = at.never_refused;
  unchanged = λ other none. at.unchanged other;
}

-- An opening that gave a journal, and then a call that gives the journal's disks back with its answer, or for want of memory with its
-- error, are together an opening of a node.
pub opening_goes_on : {T U D : Type 0} (node : Node) (device : Device D) (ours : T → Store D) (theirs : U → Store D) (store : Store D) (opened : T) (result : Result U (Failed JournalError (Store D)))
    → IsOpeningOn node device ours store (Ok opened) → IfOk result (λ started. theirs started ≡ ours opened)
    → IfErr result (λ failed. (failed.error ≡ errors.Memory) × (failed.disk ≡ ours opened)) → IsStartingOn node device theirs store result
opening_goes_on {T} {U} {D} node device ours theirs store opened (Ok started) at same none = record {
  reports = tt;
  full = tt;
  cause = (ap (faults_in device) same ∙ at.cause.0, tt);
  any_moment = subst (IsDecodedThroughout node device store) (sym same) at.any_moment;
  keeps = subst (KeepsAlone node device store) (sym same) at.keeps;
  never_refused = tt;
  unchanged = tt;
}
opening_goes_on {T} {U} {D} node device ours theirs store opened (Err failed) at none same = record {
  reports = λ other room. subst (λ (e : JournalError). Reports e (decoded_in node (areas_in device store))) (sym same.0) tt;
  full = λ is. absurd (let clash = sym same.0 ∙ is in cc);
  cause = (tt, (λ is. absurd (let clash = sym same.0 ∙ is in cc), λ other. ap (faults_in device) same.1 ∙ at.cause.0));
  any_moment = subst (IsDecodedThroughout node device store) (sym same.1) at.any_moment;
  keeps = subst (KeepsAlone node device store) (sym same.1) at.keeps;
  never_refused = λ left. inl (inr same.0);
  unchanged = λ other memory. absurd (memory same.0);
}
