use Rattle.std.proofs.Common.{◌≡◌, length}
use Rattle.checkpoint.proofs.Headed.{AreApart}
use Rattle.checkpoint.proofs.parts.headers.headers_of.Given as goal

-- the headers before the place are found
abbrev pub invariant-loop-place : goal.invariant-loop-place
invariant-loop-place l = record {
  apart : AreApart l.headers l.found.items l.place;
  count : length l.found.items ≡ l.place;
}
