-- The values that a field of fixed size may have.
use Rattle.std.specs.Prelude.{◌≡◌, ℕ, ◌<◌, ◌≤◌, ◌^◌, List, length, All}
use Rattle.wire.specs.declared.round.TheConstants.Round.{MAX as MAX_ROUND}
use Rattle.wire.specs.declared.round.TheConstants.Wave.{MAX as MAX_WAVE}
use Rattle.wire.specs.declared.keys.Author.{Author}
use Rattle.wire.specs.declared.keys.Digest.{Digest}
use Rattle.wire.specs.declared.keys.Signature.{Signature}

-- each of these numbers is a byte: below 256
abbrev pub AreBytes : List ℕ → Type 0
AreBytes = All (λ byte. byte < 256)

-- these numbers are bytes, and there are `count` of them
pub record HasBytes (count : ℕ) (bytes : List ℕ) : Type 0 where
  pub count_is : length bytes ≡ count
  pub each : AreBytes bytes

-- the number of a member or of a worker fits two bytes
abbrev pub IsNumber : ℕ → Type 0
IsNumber n = n < 2 ^ 16

-- a member is named by a number of two bytes
abbrev pub IsAuthor : Author → Type 0
IsAuthor a = IsNumber a.0

-- a digest has 32 bytes
abbrev pub IsDigest : Digest → Type 0
IsDigest d = HasBytes 32 d.0

-- a signature has 64 bytes
abbrev pub IsSignature : Signature → Type 0
IsSignature s = HasBytes 64 s.0

-- the number of a round is at most 2^48
abbrev pub IsRound : ℕ → Type 0
IsRound round = round ≤ MAX_ROUND

-- the number of a wave is from 1 to 2^47 - 1
pub record IsWave (wave : ℕ) : Type 0 where
  pub least : 0 < wave
  pub limit : wave ≤ MAX_WAVE
