-- A desk of a world's run after each call.
use Rattle.std.proofs.Common.{◌≡◌, ◌≢◌, ◌⊎◌, ℕ, suc, ◌+◌, ◌≤◌, inl, inr, List, [], ◌∷◌, ◌++◌, length, take, drop, map, Ok, refl, sym, ap, ◌∙◌, subst, arith, append_assoc}
use Rattle.std.proofs.lemmas.Bool.{cases_lt}
use Rattle.std.proofs.lemmas.List.{take-append-drop, take_at, take-map}
use Rattle.book.specs.Book as book
use Rattle.book.specs.InFlight.{IsWithOrWithout}
use Rattle.book.specs.Pending.{IsLongestBeginning}
use Rattle.book.specs.Steps as steps
use Rattle.diskmodel.specs.Disk.{AtEachMoment, Device}
use Rattle.journal.specs.Areas.{Areas}
use Rattle.journal.specs.Format.{stands}
use Rattle.journal.specs.Journal.{disk_of, spare_of, IsAlive, stands_with}
use Rattle.journal.specs.Pairs.{areas_of}
use Rattle.journal.specs.declared.journal.Journal.{Journal}
use Rattle.journal.proofs.Walks.{stands_short}
use Rattle.spec_laws.proofs.Legal.{legal-begins}
use Rattle.spec_machine.specs.After.{after_all}
use Rattle.spec_machine.proofs.AfterAll.{after_is_kept, legal_again}
use Rattle.spec_model.specs.Admitting.{IsLegal}
use Rattle.spec_model.specs.Giving.{kept as kept_in}
use Rattle.spec_model.specs.Histories.{History}
use Rattle.spec_model.specs.Nodes.{Node}
use Rattle.spec_model.specs.States.{State}
use Rattle.spec_records.specs.Records.{record_of}
use Rattle.spec_world.specs.World.{World, taken_in}
use Rattle.wire.specs.Lists.{Begins}
use Rattle.desk.specs.Desk.{IsUp, IsLeft}
use Rattle.opening.specs.Renewing.{HasBegun}
use Rattle.desk.specs.Disks.{AreReadAs, MayLeave}
use Rattle.desk.proofs.Groups.{longest_once}
use Rattle.desk.proofs.Reading.{over, areas_over, durable_beside, read_beside, left_beside, read_same, read_more, still_configured}

-- what is taken and more of what was accepted
pub taken_more : {X : Type 0} (taken accepted : List X) (count : ℕ) → Begins taken accepted → take (length taken + count) accepted ≡ taken ++ take count (drop (length taken) accepted)
taken_more {X} [] accepted count begins = let same : 0 + count ≡ count = omega arith in ap (λ (n : ℕ). take n accepted) same
taken_more {X} (x ∷ taken) [] count begins = absurd (omega (arith, ap length begins.parts))
taken_more {X} (x ∷ taken) (y ∷ accepted) count begins =
    let first : y ≡ x = head_is y x accepted (taken ++ begins.rest) begins.parts in
    let others : accepted ≡ taken ++ begins.rest = ap (λ (l : List X). drop 1 l) begins.parts in
    let more : length (x ∷ taken) + count ≡ suc (length taken + count) = omega arith in
    ap (λ (n : ℕ). take n (y ∷ accepted)) more ∙ (λ i. first i ∷ taken_more taken accepted count (record { rest = begins.rest; parts = others }) i)
  where
    head_is : (a b : X) (p q : List X) → a ∷ p ≡ b ∷ q → a ≡ b
    head_is a b p q same = cc

-- ---- what follows in a world's run

-- events of a world's run are legal after what that began with, and what is kept of both is the state after them
pub record IsWithin (node : Node) (world : World) (events : History) : Type 0 where
  pub legal : IsLegal node (world.began ++ events)
  pub keeps : after_all node (kept_in node world.began) events ≡ kept_in node (world.began ++ events)

pub within : {S : Type 0} (node : Node) (world : World) (one : book.BookView S) → steps.IsOf node world one → (events : History) → Begins events world.accepted → IsWithin node world events
within node world one of events begins =
    let all : IsLegal node (world.began ++ world.accepted) = legal_again node world.began world.accepted of.began of.stands.legal in
    let parts : world.began ++ world.accepted ≡ (world.began ++ events) ++ begins.rest =
    ap (λ (l : History). world.began ++ l) begins.parts ∙ sym (append_assoc world.began events begins.rest) in
    let legal : IsLegal node (world.began ++ events) = legal-begins node (world.began ++ events) begins.rest (subst (IsLegal node) parts all) in
    record { legal = legal; keeps = after_is_kept node world.began events legal }

pub begins_trans : {X : Type 0} (one two three : List X) → Begins one two → Begins two three → Begins one three
begins_trans one two three first second = record {
  rest = first.rest ++ second.rest;
  parts = second.parts ∙ ap (λ l. l ++ second.rest) first.parts ∙ append_assoc one first.rest second.rest;
}

-- what is settled
pub settled_within : {S : Type 0} (node : Node) (world : World) (one : book.BookView S) → steps.IsOf node world one → IsWithin node world world.settled
settled_within node world one of = within node world one of world.settled (begins_trans world.settled (taken_in world) world.accepted of.stands.settled_begins of.stands.taken_begins)

-- ---- the events that are taken next, where all that was taken is settled

pub long_enough : (file : List ℕ) → stands file ≢ Ok [] → 2 ≤ length file
long_enough file some = elim (cases_lt (length file) 2) [ inl short ↦ absurd (some (stands_short file short)) | inr long ↦ long ]

module _ {S D : Type 0} (node : Node) (device : Device D) (world : World) (before : book.BookView S) (old : Journal D) (of : steps.IsOf node world before)
    (up : IsUp node device (steps.run_of node world) old) (alive : IsAlive device old) (begun : HasBegun device old) where
  abbrev file : List ℕ
  file = device.content (disk_of old)

  abbrev with_count : ℕ → State
  with_count count = after_all node (kept_in node world.began) (take (length (taken_in world) + count) world.accepted)

  read_now : AreReadAs node (over device (spare_of old) file) (book.settled_in node (steps.run_of node world))
  read_now = subst (λ (a : Areas). AreReadAs node a (book.settled_in node (steps.run_of node world))) (areas_over device old) up.read_as

  -- what bytes with that group more are read as
  pub read_with : (group rest : List (List ℕ)) → IsLongestBeginning before.pending group rest → (bytes : List ℕ) → stands bytes ≡ stands_with file group
      → AreReadAs node (over device (spare_of old) bytes) (with_count (length group))
  read_with group rest longest bytes with_it =
      let at = of.stands in
      let taken = taken_in world in
      let count = length taken + length group in
      let events = take (length group) (drop (length taken) world.accepted) in
      let all = world.began ++ world.settled in
      let more : take count world.accepted ≡ world.settled ++ events =
      taken_more taken world.accepted (length group) at.taken_begins ∙ ap (λ (l : History). l ++ events) up.settled in
      let records : group ≡ map record_of events =
      sym (take_at group rest (length group) refl) ∙ ap (take (length group)) (sym longest.parts ∙ at.pending) ∙ take-map record_of (length group) (drop (length taken) world.accepted) in
      let there = within node world before of (take count world.accepted) (record { rest = drop count world.accepted; parts = sym (take-append-drop count world.accepted) }) in
      let joined : world.began ++ take count world.accepted ≡ all ++ events =
      ap (λ (l : History). world.began ++ l) more ∙ sym (append_assoc world.began world.settled events) in
      let state : kept_in node (all ++ events) ≡ with_count (length group) = ap (kept_in node) (sym joined) ∙ sym there.keeps in
      subst (AreReadAs node (over device (spare_of old) bytes)) state
      (read_more device file bytes alive.ends_closed up.configured node all events (spare_of old) (long_enough file up.configured) (read_beside device old alive begun)
      (with_it ∙ ap (stands_with file) records) (subst (IsLegal node) joined there.legal)
      (subst (AreReadAs node (over device (spare_of old) file)) (settled_within node world before of).keeps read_now))

  -- and they still have the configuration
  pub configured_with : (group : List (List ℕ)) (bytes : List ℕ) → stands bytes ≡ stands_with file group → stands bytes ≢ Ok []
  configured_with group bytes with_it = still_configured device file bytes alive.ends_closed up.configured group with_it

  -- whatever a stop leaves while that group is added is read as what is settled, or with the group
  pub read_either : (group rest : List (List ℕ)) → IsLongestBeginning before.pending group rest → (bytes : List ℕ) → IsWithOrWithout before.pending file bytes
      → AreReadAs node (over device (spare_of old) bytes) (book.settled_in node (steps.run_of node world)) ⊎ AreReadAs node (over device (spare_of old) bytes) (with_count (length group))
  read_either group rest longest bytes (inl same) =
      inl (read_same device file bytes alive.ends_closed up.configured node (book.settled_in node (steps.run_of node world)) (spare_of old) (read_beside device old alive begun) same read_now)
  read_either group rest longest bytes (inr with_it) =
      let pending = drop (length (taken_in world)) world.accepted in
      let one : IsLongestBeginning (map record_of pending) group rest = subst (λ (l : List (List ℕ)). IsLongestBeginning l group rest) of.stands.pending longest in
      let other : IsLongestBeginning (map record_of pending) with_it.0 with_it.1 = subst (λ (l : List (List ℕ)). IsLongestBeginning l with_it.0 with_it.1) of.stands.pending with_it.2 in
      let same = longest_once pending with_it.0 with_it.1 group rest other one in
      inr (subst (λ (n : ℕ). AreReadAs node (over device (spare_of old) bytes) (with_count n)) same (read_with with_it.0 with_it.1 with_it.2 bytes with_it.3))

-- durable disks leave what a read gives
pub durable_left : {D : Type 0} (device : Device D) (journal : Journal D) → IsAlive device journal → (areas : Areas) → MayLeave device journal areas → areas ≡ areas_of device journal
durable_left device journal alive areas may =
    let is = left_beside device journal (spare_of journal) areas refl (durable_beside device journal alive) may in
    is.are ∙ ap (over device (spare_of journal)) (alive.durable is.live is.may) ∙ sym (areas_over device journal)

-- that is read as what is settled
pub left_durable : {D : Type 0} (node : Node) (device : Device D) (run : book.Run) (journal : Journal D) → AreReadAs node (areas_of device journal) (book.settled_in node run)
    → IsAlive device journal → IsLeft node device run journal
left_durable {D} node device run journal read_as alive areas may =
    inl (subst (λ (a : Areas). AreReadAs node a (book.settled_in node run)) (sym (durable_left device journal alive areas may)) read_as)

-- what may be left at the end of a call may be left at some moment of it
pub left_by : {D : Type 0} (device : Device D) (old new : D) (P : List ℕ → Type 0) (bytes : List ℕ)
    → AtEachMoment device old new P → ((disk : D) (t : ℕ) (c : List ℕ) → t ≤ device.clock disk → device.outcome disk c → device.outcome_since disk t c) → device.outcome new bytes → P bytes
left_by {D} device old new P bytes at counts left = at.each bytes (counts new (device.clock old) bytes at.later left)
