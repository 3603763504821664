-- Which certificates wait, and which of them is ready.
use Rattle.std.specs.Prelude.{◌≡◌, ℕ, length, List, ◌∷◌, ◌++◌, Bool, true, false, Any}
use Rattle.std.specs.Fn.{Mut, CalledAt}
use Rattle.std.specs.List.{FoldsTo}
use Rattle.wire.specs.Events.{Event}
use Rattle.header.specs.Digested.{certificate_digest_in}
use denote.Ref.{Bor}

-- a certificate with the same digest waits already
abbrev pub Waits : List Event → Event → Type 0
Waits waiting event = Any (λ (other : Event). certificate_digest_in other.message ≡ certificate_digest_in event.message) waiting

-- the certificate at this place was taken out, and the others have kept their order
pub record IsTakenAt (old : List Event) (place : ℕ) (event : Event) (new : List Event) : Type 0 where
  pub front : List Event
  pub back : List Event
  pub stood : old ≡ front ++ event ∷ back
  pub left : new ≡ front ++ back
  pub before : length front ≡ place

module _ {F : Type 0} (closure : Mut F (Bor Event × Unit {0}) Bool) where
  -- the closure, asked about each of these certificates in turn, says no each time
  abbrev pub AnswersNo : F → List Event → F → Type 0
  AnswersNo first events last = FoldsTo (λ before event after. CalledAt closure before event false after) first events last

  -- this is the first certificate about which the closure says yes; it was taken out, and the others have kept their order
  pub record IsFirstReady (ready : F) (old : List Event) (found : Event) (new : List Event) : Type 0 where
    pub front : List Event
    pub back : List Event
    pub stood : old ≡ front ++ found ∷ back
    pub left : new ≡ front ++ back
    pub asked : F
    pub last : F
    pub passed_over : AnswersNo ready front asked
    pub taken : CalledAt closure asked found true last
