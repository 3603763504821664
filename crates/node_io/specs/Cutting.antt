-- How much of a stream of frames a reader takes.
use Rattle.std.specs.Prelude.{◌≡◌, ℕ, List, [], ◌∷◌, ◌++◌, Option, None, Some}
use Rattle.std.specs.Io.KnownBytes.{Consumes}
use Rattle.wire.specs.declared.error.WireError.{WireError}
use Rattle.wire.specs.declared.error.WireError.TheVariants.{Memory}
use Rattle.wire_read.specs.Frames.{Splits, Breaks}
use Rattle.node_io.specs.declared.input.End.{End}
use Rattle.node_io.specs.declared.input.End.TheVariants as ends

-- The reader takes some bytes, after it held the first bytes of the next frame. Together they complete frames with these bodies, and then
-- the reader holds the bytes `later` of the next frame.
pub record Takes (held taken : List ℕ) (bodies : List (List ℕ)) (later : List ℕ) : Type 0 where
  pub splits : (stream : List ℕ) (before : List (List ℕ)) → Splits stream before held → Splits (stream ++ taken) (before ++ bodies) later

-- with these bytes the stream has, where the length of a frame has to be, a length above the limit
abbrev pub BreaksWith : List ℕ → List ℕ → Type 0
BreaksWith held taken = (stream : List ℕ) (before : List (List ℕ)) → Splits stream before held → Breaks (stream ++ taken)

-- of a piece of the stream the reader takes all bytes before the one that completes a length above the limit
pub record TakesUntil (held piece : List ℕ) (bodies : List (List ℕ)) (later : List ℕ) : Type 0 where
  pub taken : List ℕ
  pub byte : ℕ
  pub after : List ℕ
  pub parts : piece ≡ taken ++ byte ∷ after
  pub takes : Takes held taken bodies later
  pub breaks : BreaksWith held (taken ++ byte ∷ [])

-- of a piece of the stream the reader takes some first bytes
pub record TakesPart (held piece : List ℕ) (bodies : List (List ℕ)) : Type 0 where
  pub taken : List ℕ
  pub after : List ℕ
  pub later : List ℕ
  pub parts : piece ≡ taken ++ after
  pub takes : Takes held taken bodies later

-- why no more frames come after this error of the frame reader: an allocation failed, or a frame's length is above the limit
abbrev pub end_of_error : WireError → End
end_of_error Memory = ends.Memory
end_of_error error = ends.Broken

-- what contracts see of a stream of frames: the reader under it, the bytes of the next frame so far, and why no more frames come, if none
-- do
pub record InputView (I : Type 0) : Type 0 where
  pub reader : I
  pub held : List ℕ
  pub end : Option End

-- What becomes of a piece of the stream. Either all of it is taken. Or no more frames come: a length in it is above the limit, and all
-- before that is taken; or an allocation failed after some bodies.
pub record Cuts (held piece : List ℕ) (bodies : List (List ℕ)) (later : List ℕ) (end : Option End) : Type 0 where
  pub all : end ≡ None → Takes held piece bodies later
  pub broken : end ≡ Some ends.Broken → TakesUntil held piece bodies later
  pub memory : end ≡ Some ends.Memory → TakesPart held piece bodies
  pub never : end ≡ Some ends.Whole → ⊥

-- one piece of the stream was read and taken
pub record ReadsAndCuts {I : Type 0} (remaining : I → Option (List ℕ)) (before later : InputView I) (bodies : List (List ℕ)) : Type 0 where
  pub piece : List ℕ
  pub read : Consumes (remaining before.reader) (remaining later.reader) piece
  pub cut : Cuts before.held piece bodies later.held later.end

-- nothing of the stream was read, and the bytes of the next frame that the reader holds are the same
pub record TakesNothing {I : Type 0} (remaining : I → Option (List ℕ)) (before later : InputView I) : Type 0 where
  pub read : Consumes (remaining before.reader) (remaining later.reader) []
  pub held : later.held ≡ before.held
