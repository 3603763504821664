-- What a desk keeps over a round and over a checkpoint.
use Rattle.std.proofs.Common.{◌≡◌, ◌≢◌, ◌⊎◌, ℕ, ◌+◌, ◌-◌, true, false, inl, inr, List, [], ◌∷◌, length, take, Result, Ok, Err, refl, sym, ap, ◌∙◌, subst, arith}
use Rattle.std.proofs.Common.{length-append}
use Rattle.std.specs.Prelude.{IfOk, IfErr, OnOk, IsErrOf}
use Rattle.std.proofs.lemmas.Bool.{true≢false}
use Rattle.book.specs.Book.{BookView}
use Rattle.book.specs.Checkpoints.{Checkpoints, FailsToRewrite, FindsNoRoomToRewrite}
use Rattle.book.specs.InFlight.{Flushes, FindsNoRoom, FailsWithRoom}
use Rattle.book.specs.declared.own.error.FlushError.{FlushError}
use Rattle.book.specs.declared.own.error.FlushError.TheVariants as errors
use Rattle.diskmodel.specs.Disk.{Device}
use Rattle.journal.specs.Format.{file_with, group_bytes, sized_body}
use Rattle.journal.specs.Journal.{disk_of, IsAlive}
use Rattle.journal.specs.Snapshot.{bytes_for}
use Rattle.journal.specs.Pairs.{generation_in}
use Rattle.journal.specs.declared.layout.TheConstants.{CLOSED, OPEN}
use Rattle.spec_model.specs.Nodes.{Node}
use Rattle.desk.specs.Desk.{DeskView, IsSound}
use Rattle.desk.proofs.Reading.{open_gate, has_begun}

-- a file with a group more isn't a closed gate alone
longer : (file : List ℕ) (group : List (List ℕ)) → file_with file group ≡ CLOSED ∷ [] → ⊥
longer file group same =
    omega (arith, ap length same, length-append (take (length file - 1) file) (OPEN ∷ group_bytes group), length-append (sized_body group) (CLOSED ∷ []))

module _ {S D : Type 0} (node : Node) (device : Device D) (before later : DeskView S D) (sound : IsSound device before) where
  -- where nothing changed
  same_sound : later.book ≡ before.book → later.journal ≡ before.journal → IsSound device later
  same_sound book journal = subst (IsSound device) (λ i. record { book = sym book i; journal = sym journal i }) sound

  -- a desk that is down keeps nothing
  down_sound : later.book.down ≡ true → IsSound device later
  down_sound down = record {
    alive = λ up. absurd (true≢false (sym down ∙ up));
    begun = λ up. absurd (true≢false (sym down ∙ up));
    settled = λ up. absurd (true≢false (sym down ∙ up));
  }

  module _ (up : before.book.down ≡ false) where
    flushed_sound : (old : List ℕ) (count : ℕ) → IsAlive device later.journal → Flushes node before.book later.book old (device.content (disk_of later.journal)) count → IsSound device later
    flushed_sound old count alive flush = record {
      alive = λ _. alive;
      begun = λ _. has_begun device later.journal alive (λ shut. longer old flush.group (sym flush.written ∙ shut));
      settled = λ _. ap (λ (b : BookView S). b.taken) flush.is ∙ ap (λ (n : ℕ). n + length flush.group) (sound.settled up) ∙ sym (ap (λ (b : BookView S). b.settled) flush.is);
    }

    -- after a round
    pub flush_sound : (answer : Result ℕ FlushError) (old : List ℕ)
        → OnOk answer (before.book.pending ≡ [] → (answer ≡ Ok 0) × (later.book ≡ before.book) × (later.journal ≡ before.journal))
        → IfOk answer (λ count. before.book.pending ≢ [] → Flushes node before.book later.book old (device.content (disk_of later.journal)) count)
        → IfErr answer (λ error. (error ≡ errors.Down) ⊎ (error ≡ errors.Memory) → (later.book ≡ before.book) × (later.journal ≡ before.journal))
        → (IsErrOf answer errors.Full → FindsNoRoom node before.book later.book old) → (IsErrOf answer errors.Device → FailsWithRoom node before.book later.book old)
        → OnOk answer (IsAlive device later.journal) → IsSound device later
    flush_sound (Ok count) old idle flushed unchanged full fails alive = by_pending before.book.pending refl
      where
        by_pending : (pending : List (List ℕ)) → before.book.pending ≡ pending → IsSound device later
        by_pending [] none = let same = idle none in same_sound same.1 same.2
        by_pending (first ∷ rest) some = flushed_sound old count alive (flushed (λ none. some_none (sym some ∙ none)))
          where
            some_none : first ∷ rest ≡ [] → ⊥
            some_none same = cc
    flush_sound (Err errors.Memory) old idle flushed unchanged full fails alive = let same = unchanged (inr refl) in same_sound same.0 same.1
    flush_sound (Err errors.Device) old idle flushed unchanged full fails alive = down_sound (ap (λ (b : BookView S). b.down) (fails refl).0.is)
    flush_sound (Err errors.Full) old idle flushed unchanged full fails alive = down_sound (ap (λ (b : BookView S). b.down) (full refl).0.is)
    flush_sound (Err errors.Down) old idle flushed unchanged full fails alive = let same = unchanged (inl refl) in same_sound same.0 same.1

    -- after a checkpoint
    pub checkpoint_sound : (answer : Result ℕ FlushError) → IfOk answer (λ generation. Checkpoints node device before.book later.book before.journal later.journal)
        → IfErr answer (λ error. (error ≡ errors.Down) ⊎ (error ≡ errors.Memory) → (later.book ≡ before.book) × (later.journal ≡ before.journal))
        → (IsErrOf answer errors.Full → FindsNoRoomToRewrite node before.book later.book before.journal)
        → (IsErrOf answer errors.Device → FailsToRewrite node before.book later.book before.journal) → OnOk answer (IsAlive device later.journal) → IsSound device later
    checkpoint_sound (Ok generation) made unchanged full fails alive = record {
      alive = λ _. alive;
      begun = λ _. has_begun device later.journal alive (λ shut. open_gate (bytes_for (generation_in before.journal + 1) made.snapshot) (sym made.content ∙ shut));
      settled = λ _. ap (λ (b : BookView S). b.taken) made.settles.is ∙ sym (ap (λ (b : BookView S). b.settled) made.settles.is);
    }
    checkpoint_sound (Err errors.Memory) made unchanged full fails alive = let same = unchanged (inr refl) in same_sound same.0 same.1
    checkpoint_sound (Err errors.Device) made unchanged full fails alive = down_sound (ap (λ (b : BookView S). b.down) (fails refl).0.is)
    checkpoint_sound (Err errors.Full) made unchanged full fails alive = down_sound (ap (λ (b : BookView S). b.down) (full refl).0.is)
    checkpoint_sound (Err errors.Down) made unchanged full fails alive = let same = unchanged (inl refl) in same_sound same.0 same.1
