-- Which answer a committee file has whose elements and limits were read.
use Rattle.std.proofs.Common.{◌≡◌, ℕ, ◌+◌, ◌*◌, ◌/◌, ◌≤◌, Bool, true, false, List, length, nat_le, Some, Ok, Err, ap, ◌∙◌, arith}
use Rattle.std.proofs.lemmas.Bool.{and_parts, leb-true}
use Rattle.std.specs.List.{list_any, filter_map}
use Rattle.std.specs.Prelude.{◌&&◌, ◌||◌, ◌==◌, ◌%◌, sum, if◌then◌else◌}
use Rattle.toml.specs.Data.{Data, Members}
use Rattle.committee.specs.declared.error.CommitteeError.TheVariants.{BadSize, RepeatedKey, BadStake}
use Rattle.committee.specs.Answer.{has_bad_size, answer}
use Rattle.committee.specs.File.{members_in, has_stakes, is_size, depth_in, workers_in, batches_in, stakes_in}
use Rattle.committee.specs.Keys.{key_of, is_no_key, repeats}
use Rattle.committee.proofs.StakeLemmas.{file-stakes, sum-bounds}

-- what a test of the size says
pub size-bounds : (staked : Bool) (n : ℕ) → is_size staked n ≡ true → (4 ≤ n) × (n ≤ 31)
size-bounds staked n h =
    let parts = and_parts (nat_le 4 n && nat_le n 31) (staked || (n % 3 == 1)) h in
    let bounds = and_parts (nat_le 4 n) (nat_le n 31) parts.0 in
    (leb-true 4 n bounds.0, leb-true n 31 bounds.1)

-- the total of the stakes of a file whose size is a committee's
pub total-bounds : (file : Members) (members total : ℕ) (stakes list : List ℕ) → is_size (has_stakes file) members ≡ true → stakes_in members file ≡ Some stakes
    → list ≡ stakes → total ≡ sum list → (4 ≤ total) × (total ≤ 31000000)
total-bounds file members total stakes list size staked same is =
    let few = size-bounds (has_stakes file) members size in
    let are = file-stakes members file stakes staked in
    let within = sum-bounds stakes are.each in
    let sums : total ≡ sum stakes = is ∙ ap sum same in
    (omega (arith, few.0, are.count, within.0, sums), omega (arith, few.1, are.count, within.1, sums))

-- a file without a fault but for a stake that may be a quorum
pub answer-read : (file : Members) (list : List Data) (stakes : List ℕ) (depth workers batches : ℕ)
    → Some list ≡ members_in file → is_size (has_stakes file) (length list) ≡ true
    → list_any is_no_key list ≡ false → repeats (filter_map key_of list) ≡ false
    → Some depth ≡ depth_in file → Some workers ≡ workers_in file → Some batches ≡ batches_in file
    → stakes_in (length list) file ≡ Some stakes
    → answer file ≡ (if list_any (λ stake. nat_le (2 * sum stakes / 3 + 1) stake) stakes then Err BadStake
    else Ok (record { keys = filter_map key_of list; stakes = stakes; depth = depth; workers = workers; batches = batches }))
answer-read file list stakes depth workers batches listed size each distinct deep worked batched staked =
    rw (← listed, size, each, distinct, ← deep, ← worked, ← batched, staked)

-- a list of no committee's length
pub answer-size : (file : Members) (list : List Data) → Some list ≡ members_in file → is_size (has_stakes file) (length list) ≡ false → answer file ≡ Err BadSize
answer-size file list listed size = rw (← listed, size)

-- a list of a committee's length
pub good-size : (file : Members) (list : List Data) → Some list ≡ members_in file → is_size (has_stakes file) (length list) ≡ true → has_bad_size file ≡ false
good-size file list listed size = rw (← listed, size)

-- a list of keys of which one stands there twice
pub answer-repeats : (file : Members) (list : List Data) → Some list ≡ members_in file → is_size (has_stakes file) (length list) ≡ true
    → list_any is_no_key list ≡ false → repeats (filter_map key_of list) ≡ true → answer file ≡ Err RepeatedKey
answer-repeats file list listed size each repeated = rw (← listed, size, each, repeated)
