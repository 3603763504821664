-- What records are read as, and what loading them is answered, on example bytes.
use Rattle.std.proofs.Common.{◌≡◌, ℕ, List, [], ◌∷◌, ◌++◌, replicate, Ok, Err, Some, None, refl}
use Rattle.journal.specs.declared.version.Version.TheVariants.{First, Second}
use Rattle.spec_model.specs.Nodes.{Node}
use Rattle.spec_records.specs.Records.{configuration_of}
use Rattle.wire.specs.declared.keys.Key.{Key}
use Rattle.wire.specs.Reading.{author_at, digest_at, signature_at, round_at, count_at, more_at, batches_at, parents_at, vote_entry_at, votes_at}
use Rattle.wire.specs.Reading.{transaction_at, transactions_at, batch_at, header_body_at, header_at, certificate_at}
use Rattle.spec_checkpoint.specs.Data.{blank}
use Rattle.spec_checkpoint.specs.Faults.{batch_tests}
use Rattle.spec_checkpoint.specs.Loading.{at_record, of_whole, load_fault}
use Rattle.spec_checkpoint.specs.Reading.{digests_at, coins_at, mark_at, member_at, kept_batch_at, kept_vote_at, kept_header_at, kept_certificate_at, with_record, read_from, checkpoint_read}
use Rattle.journal.specs.Areas.{head_record}
use Rattle.spec_checkpoint.specs.Records.{order_record, vote_record, coins_record}

abbrev key : ℕ → Key
key number = record { 0 = replicate 32 number }

-- member 0 of four
abbrev node : Node
node = record {
  own = record { 0 = 0 };
  charter = record { keys = key 1 ∷ key 2 ∷ key 3 ∷ key 4 ∷ []; stakes = 1 ∷ 1 ∷ 1 ∷ 1 ∷ []; depth = 50; workers = 1; batches = 1048576 };
  key = key 1;
  sign = λ digest. record { 0 = [] };
}

abbrev own : List ℕ
own = configuration_of Second node.charter node.own

-- a vote for this author and round
abbrev vote : ℕ → ℕ → List ℕ
vote author round = vote_record (record { author = author; round = round; header = record { 0 = replicate 32 9 } })

-- a batch of this author with one transaction of one byte, the mark before it, and who acknowledged it
abbrev batch : ℕ → ℕ → List ℕ → List ℕ
batch author mark members = 4 ∷ mark ∷ members ++ 0 ∷ author ∷ 0 ∷ 0 ∷ 0 ∷ 0 ∷ 0 ∷ 1 ∷ 0 ∷ 0 ∷ 0 ∷ 1 ∷ 7 ∷ []

-- a certificate of this round by member 1, with nothing in it
abbrev certificate : ℕ → List ℕ
certificate round = 7 ∷ 0 ∷ 1 ∷ 0 ∷ 0 ∷ 0 ∷ 0 ∷ 0 ∷ 0 ∷ 0 ∷ round ∷ 0 ∷ 0 ∷ 0 ∷ 0 ∷ 0 ∷ 0 ∷ []

-- an own header of this round, with nothing in it, and the vote of a member
abbrev header : ℕ → ℕ → List ℕ
header round voter = 6 ∷ 0 ∷ 0 ∷ 0 ∷ 0 ∷ 0 ∷ 0 ∷ 0 ∷ 0 ∷ 0 ∷ round ∷ 0 ∷ 0 ∷ 0 ∷ 0 ∷ replicate 64 8 ++ 0 ∷ 1 ∷ 0 ∷ voter ∷ replicate 64 8

abbrev digest : List ℕ
digest = replicate 32 5

nothing : checkpoint_read node [] ≡ Ok blank
unfolding read_from
nothing = refl

-- ---- kinds

a_head : checkpoint_read node (head_record 1 ∷ []) ≡ Err 0
unfolding read_from with_record
a_head = refl

kind_0 : checkpoint_read node (vote 1 1 ∷ (0 ∷ []) ∷ []) ≡ Err 1
unfolding read_from with_record kept_vote_at round_at digest_at
kind_0 = refl

kind_9 : checkpoint_read node (vote 1 1 ∷ (9 ∷ []) ∷ []) ≡ Err 1
unfolding read_from with_record kept_vote_at round_at digest_at
kind_9 = refl

empty : checkpoint_read node (vote 1 1 ∷ [] ∷ []) ≡ Err 1
unfolding read_from with_record kept_vote_at round_at digest_at
empty = refl

out_of_order : checkpoint_read node (coins_record (5 ∷ []) ∷ vote 1 1 ∷ []) ≡ Err 1
unfolding read_from with_record coins_at count_at more_at
out_of_order = refl

-- ---- pieces

no_digest : checkpoint_read node (order_record [] ∷ []) ≡ Err 0
unfolding read_from with_record digests_at digest_at count_at more_at
no_digest = refl

a_digest_too_many : checkpoint_read node ((3 ∷ 0 ∷ 1 ∷ 0 ∷ 1 ∷ []) ∷ []) ≡ Err 0
unfolding read_from with_record digests_at digest_at count_at more_at
a_digest_too_many = refl

not_full : checkpoint_read node (order_record (record { 0 = digest } ∷ []) ∷ order_record (record { 0 = digest } ∷ []) ∷ []) ≡ Err 0
unfolding read_from with_record digests_at digest_at count_at more_at
not_full = refl

coins_not_full : checkpoint_read node (vote 1 1 ∷ coins_record (5 ∷ []) ∷ coins_record (6 ∷ []) ∷ []) ≡ Err 1
unfolding read_from with_record kept_vote_at round_at digest_at coins_at count_at more_at
coins_not_full = refl

not_in_turn : checkpoint_read node (order_record (record { 0 = digest } ∷ []) ∷ vote 1 1 ∷ order_record (record { 0 = digest } ∷ []) ∷ []) ≡ Err 2
unfolding read_from with_record kept_vote_at round_at digest_at digests_at count_at more_at
not_in_turn = refl

-- ---- counts and lengths

a_digest_less : checkpoint_read node ((3 ∷ 0 ∷ 0 ∷ 0 ∷ 2 ∷ digest) ∷ []) ≡ Err 0
unfolding read_from with_record digests_at digest_at count_at more_at
a_digest_less = refl

a_byte_more : checkpoint_read node ((vote 1 1 ++ 0 ∷ []) ∷ []) ≡ Err 0
unfolding read_from with_record kept_vote_at round_at digest_at
a_byte_more = refl

-- ---- keys

authors_fall : checkpoint_read node (vote 2 1 ∷ vote 1 1 ∷ []) ≡ Err 1
unfolding read_from with_record kept_vote_at round_at digest_at
authors_fall = refl

rounds_fall : checkpoint_read node (vote 1 2 ∷ vote 2 1 ∷ []) ≡ Err 1
unfolding read_from with_record kept_vote_at round_at digest_at
rounds_fall = refl

one_twice : checkpoint_read node (vote 1 1 ∷ vote 1 1 ∷ []) ≡ Err 1
unfolding read_from with_record kept_vote_at round_at digest_at
one_twice = refl

round_zero : checkpoint_read node (certificate 0 ∷ []) ≡ Err 0
unfolding read_from with_record kept_certificate_at certificate_at header_body_at author_at round_at batches_at parents_at votes_at count_at more_at
round_zero = refl

certificate_twice : checkpoint_read node (certificate 1 ∷ certificate 1 ∷ []) ≡ Err 1
unfolding read_from with_record kept_certificate_at certificate_at header_body_at author_at round_at batches_at parents_at votes_at count_at more_at
certificate_twice = refl

headers_fall : checkpoint_read node (header 2 1 ∷ header 1 1 ∷ []) ≡ Err 1
unfolding read_from with_record kept_header_at header_at header_body_at signature_at author_at round_at batches_at parents_at votes_at vote_entry_at count_at more_at
headers_fall = refl

-- ---- members

own_vote : checkpoint_read node (header 1 0 ∷ []) ≡ Err 0
unfolding read_from with_record kept_header_at header_at header_body_at signature_at author_at round_at batches_at parents_at votes_at vote_entry_at count_at more_at
own_vote = refl

mark_2 : checkpoint_read node (batch 0 2 (0 ∷ 0 ∷ []) ∷ []) ≡ Err 0
unfolding read_from with_record kept_batch_at mark_at member_at count_at more_at batch_at author_at transactions_at transaction_at
mark_2 = refl

members_fall : checkpoint_read node (batch 0 1 (0 ∷ 2 ∷ 0 ∷ 2 ∷ 0 ∷ 1 ∷ []) ∷ []) ≡ Err 0
unfolding read_from with_record kept_batch_at mark_at member_at count_at more_at batch_at author_at transactions_at transaction_at
members_fall = refl

own_member : checkpoint_read node (batch 0 1 (0 ∷ 1 ∷ 0 ∷ 0 ∷ []) ∷ []) ≡ Err 0
unfolding read_from with_record kept_batch_at mark_at member_at count_at more_at batch_at author_at transactions_at transaction_at
own_member = refl

-- ---- what loading is answered

no_record : load_fault node [] ≡ Some (at_record 0)
unfolding load_fault
no_record = refl

no_configuration : load_fault node (vote 1 1 ∷ []) ≡ Some (at_record 0)
unfolding load_fault
no_configuration = refl

a_vote : load_fault node (own ∷ vote 1 1 ∷ []) ≡ None
unfolding load_fault batch_tests read_from with_record kept_vote_at round_at digest_at
a_vote = refl

first_version : load_fault node (configuration_of First node.charter node.own ∷ vote 1 1 ∷ []) ≡ None
unfolding load_fault batch_tests read_from with_record kept_vote_at round_at digest_at
first_version = refl

no_member : load_fault node (own ∷ vote 1 1 ∷ vote 4 1 ∷ []) ≡ Some (at_record 2)
unfolding load_fault batch_tests read_from with_record kept_vote_at round_at digest_at
no_member = refl

for_itself : load_fault node (own ∷ vote 0 1 ∷ []) ≡ Some (at_record 1)
unfolding load_fault batch_tests read_from with_record kept_vote_at round_at digest_at
for_itself = refl

low : load_fault node (own ∷ vote 1 0 ∷ []) ≡ Some (at_record 1)
unfolding load_fault batch_tests read_from with_record kept_vote_at round_at digest_at
low = refl

-- format comes before soundness
format_first : load_fault node (own ∷ vote 4 1 ∷ vote 1 1 ∷ []) ≡ Some (at_record 2)
unfolding load_fault batch_tests read_from with_record kept_vote_at round_at digest_at
format_first = refl

no_leader : load_fault node (own ∷ order_record (record { 0 = digest } ∷ []) ∷ []) ≡ Some of_whole
unfolding load_fault batch_tests read_from with_record digests_at digest_at count_at more_at
no_leader = refl
