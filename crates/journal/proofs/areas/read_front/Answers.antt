use Rattle.std.proofs.Common.{◌≡◌, ◌<◌, ◌≤◌, List, ℕ, length, arith}
use Rattle.journal.proofs.Bytes.{read_part}
use Rattle.journal.proofs.Rewritten.{begins, then_same}
use Rattle.journal.proofs.areas.read_front.Goals as goal

pub returns-clause-bytes : goal.returns-clause-bytes
returns-clause-bytes g c =
    let file = g.D.Disk.device.content c.args.disk.now in
    let len = c.in_ok-bytes.bytes.len in
    let len_is : len ≡ c.min-len.result = c.in_ok-bytes.ensures.len in
    let inside : len ≤ length file = omega (arith, len_is, c.min-len.ensures, c.in_ok-whole.ensures.value) in
    let within : len ≤ c.args.most = omega (arith, len_is, c.min-len.ensures) in
    let short : len < c.args.most → length file ≤ len = λ less. omega (arith, len_is, c.min-len.ensures, c.in_ok-whole.ensures.value) in
    read_part len c.args.most c.read_at.new.buffer _ c.deref_mut.result.now (g.D.Disk.device.content c.len.new.self) file
    c.deref_mut.ensures.len inside within short c.in_ok-read_at.ensures.bytes c.len.ensures.content

pub returns-in_err-whole-clause-any_moment : goal.returns-in_err-whole-clause-any_moment
returns-in_err-whole-clause-any_moment g c =
    let device = g.D.Disk.device in
    let old = c.args.disk.now in
    let P : List ℕ → Type 0 = device.outcome old in
    (then_same device old old c.len.new.self P (begins device old P (g.met.D.Disk.only_now old) (λ left now. now)) c.len.ensures.time c.len.ensures.outcomes).moments

pub returns-in_err-bytes-clause-any_moment : goal.returns-in_err-bytes-clause-any_moment
returns-in_err-bytes-clause-any_moment g c =
    let device = g.D.Disk.device in
    let old = c.args.disk.now in
    let P : List ℕ → Type 0 = device.outcome old in
    (then_same device old old c.len.new.self P (begins device old P (g.met.D.Disk.only_now old) (λ left now. now)) c.len.ensures.time c.len.ensures.outcomes).moments

pub returns-in_err-read_at-clause-any_moment : goal.returns-in_err-read_at-clause-any_moment
returns-in_err-read_at-clause-any_moment g c =
    let device = g.D.Disk.device in
    let old = c.args.disk.now in
    let P : List ℕ → Type 0 = device.outcome old in
    let one = then_same device old old c.len.new.self P (begins device old P (g.met.D.Disk.only_now old) (λ left now. now)) c.len.ensures.time c.len.ensures.outcomes in
    (then_same device old c.len.new.self c.read_at.new.self P one c.read_at.ensures.time c.read_at.ensures.outcomes).moments

pub returns-clause-any_moment : goal.returns-clause-any_moment
returns-clause-any_moment g c =
    let device = g.D.Disk.device in
    let old = c.args.disk.now in
    let P : List ℕ → Type 0 = device.outcome old in
    let one = then_same device old old c.len.new.self P (begins device old P (g.met.D.Disk.only_now old) (λ left now. now)) c.len.ensures.time c.len.ensures.outcomes in
    (then_same device old c.len.new.self c.read_at.new.self P one c.read_at.ensures.time c.read_at.ensures.outcomes).moments
