-- The definitions of areas on example bytes.
use Rattle.std.proofs.Common.{◌≡◌, ℕ, ◌++◌, List, [], ◌∷◌, Some, None, Ok, Err, refl}
use Rattle.journal.specs.Configuration.{is_configuration, shaped_version}
use Rattle.journal.specs.declared.version.Version.TheVariants.{First, Second}
use Rattle.journal.specs.Format.{group_of, records_after, split_record, body_at, walk, scan, stands, sized_body, file_bytes, group_bytes}
use Rattle.journal.specs.Areas.{head_record, head_in, generation_of, reports, chosen, stands_in, pair}

-- a configuration of no member, in both versions, and in a third one
abbrev first : List ℕ
first = 0 ∷ 1 ∷ 0 ∷ 0 ∷ 0 ∷ 0 ∷ 0 ∷ 0 ∷ 0 ∷ 0 ∷ 0 ∷ 0 ∷ 0 ∷ 0 ∷ []

abbrev second : List ℕ
second = 0 ∷ 2 ∷ 0 ∷ 0 ∷ 0 ∷ 0 ∷ 0 ∷ 0 ∷ 0 ∷ 0 ∷ 0 ∷ 0 ∷ 0 ∷ 0 ∷ []

abbrev third : List ℕ
third = 0 ∷ 3 ∷ 0 ∷ 0 ∷ 0 ∷ 0 ∷ 0 ∷ 0 ∷ 0 ∷ 0 ∷ 0 ∷ 0 ∷ 0 ∷ 0 ∷ []

-- of a member that isn't there
abbrev short : List ℕ
short = 0 ∷ 2 ∷ 0 ∷ 0 ∷ 0 ∷ 0 ∷ 0 ∷ 0 ∷ 0 ∷ 0 ∷ 0 ∷ 0 ∷ 0 ∷ 1 ∷ []

-- an area of one group after an open gate
abbrev area : List (List ℕ) → List ℕ
area records = file_bytes (records ∷ [])

shape_first : shaped_version first ≡ Some First
unfolding is_configuration
shape_first = refl

shape_second : shaped_version second ≡ Some Second
unfolding is_configuration
shape_second = refl

shape_third : shaped_version third ≡ None
unfolding is_configuration
shape_third = refl

shape_short : shaped_version short ≡ None
unfolding is_configuration
shape_short = refl

head_one : head_in (head_record 1) ≡ Some 1
unfolding head_in
head_one = refl

head_great : head_in (head_record 18446744073709551615) ≡ Some 18446744073709551615
unfolding head_in
head_great = refl

-- of generation 0, and of 8 and 10 bytes
head_zero : head_in (head_record 0) ≡ None
unfolding head_in
head_zero = refl

head_short : head_in (2 ∷ 0 ∷ 0 ∷ 0 ∷ 0 ∷ 0 ∷ 0 ∷ 1 ∷ []) ≡ None
unfolding head_in
head_short = refl

head_long : head_in (head_record 1 ++ 0 ∷ []) ≡ None
unfolding head_in
head_long = refl

reports_nothing : reports [] ≡ None
unfolding reports
reports_nothing = refl

reports_one_byte : reports (255 ∷ []) ≡ None
unfolding reports
reports_one_byte = refl

reports_shut : reports (0 ∷ 153 ∷ []) ≡ None
unfolding reports
reports_shut = refl

reports_damaged : reports (1 ∷ 0 ∷ []) ≡ Some None
unfolding reports body_at
reports_damaged = refl

reports_new : reports (area (second ∷ [])) ≡ Some (Some 0)
unfolding reports body_at group_of records_after split_record generation_of is_configuration
reports_new = refl

reports_other_gate : reports (153 ∷ group_bytes (first ∷ [])) ≡ Some (Some 0)
unfolding reports body_at group_of records_after split_record generation_of is_configuration
reports_other_gate = refl

reports_generation : reports (area (second ∷ head_record 7 ∷ []) ++ 5 ∷ 6 ∷ []) ≡ Some (Some 7)
unfolding reports body_at group_of records_after split_record generation_of is_configuration head_in
reports_generation = refl

-- without the byte after it the group isn't whole
reports_cut : reports (1 ∷ sized_body (second ∷ head_record 7 ∷ [])) ≡ Some None
unfolding reports body_at
reports_cut = refl

reports_zero : reports (area (second ∷ head_record 0 ∷ [])) ≡ Some None
unfolding reports body_at group_of records_after split_record generation_of is_configuration head_in
reports_zero = refl

reports_three : reports (area (second ∷ head_record 1 ∷ first ∷ [])) ≡ Some None
unfolding reports body_at group_of records_after split_record generation_of is_configuration
reports_three = refl

reports_third : reports (area (third ∷ [])) ≡ Some None
unfolding reports body_at group_of records_after split_record generation_of is_configuration
reports_third = refl

reports_head_alone : reports (area (head_record 1 ∷ [])) ≡ Some None
unfolding reports body_at group_of records_after split_record generation_of is_configuration
reports_head_alone = refl

-- ---- two areas

none_at_all : stands_in (pair [] []) ≡ Ok []
unfolding stands_in reports chosen
none_at_all = refl

none_of_bytes : stands_in (pair (255 ∷ []) []) ≡ Ok []
unfolding stands_in reports chosen
none_of_bytes = refl

none_after : stands_in (pair (0 ∷ 153 ∷ []) (0 ∷ [])) ≡ Ok []
unfolding stands_in reports chosen
none_after = refl

first_damaged : stands_in (pair (1 ∷ 0 ∷ []) []) ≡ Err 0
unfolding stands_in reports chosen body_at
first_damaged = refl

second_damaged : stands_in (pair [] (1 ∷ 0 ∷ [])) ≡ Err 1099511627776
unfolding stands_in reports chosen body_at
second_damaged = refl

both_damaged : stands_in (pair (1 ∷ 0 ∷ []) (1 ∷ 0 ∷ [])) ≡ Err 0
unfolding stands_in reports chosen body_at
both_damaged = refl

-- one damaged area is named also beside a sound one
beside_sound : stands_in (pair (area (second ∷ [])) (1 ∷ 0 ∷ [])) ≡ Err 1099511627776
unfolding stands_in reports chosen body_at group_of records_after split_record generation_of is_configuration
beside_sound = refl

sound_beside : stands_in (pair (1 ∷ 0 ∷ []) (area (second ∷ []))) ≡ Err 0
unfolding stands_in reports chosen body_at group_of records_after split_record generation_of is_configuration
sound_beside = refl

equal_generations : stands_in (pair (area (second ∷ [])) (area (second ∷ []))) ≡ Err 1099511627776
unfolding stands_in reports chosen body_at group_of records_after split_record generation_of is_configuration
equal_generations = refl

-- of the generations 1 and 2 the second is read, with its places
second_read : stands_in (pair (area (second ∷ head_record 1 ∷ [])) (area (first ∷ head_record 2 ∷ [])))
    ≡ Ok (record { bytes = first; gate = 1099511627776 } ∷ record { bytes = head_record 2; gate = 1099511627776 } ∷ [])
unfolding stands_in reports chosen body_at group_of records_after split_record generation_of is_configuration head_in stands scan walk
second_read = refl

first_read : stands_in (pair (area (second ∷ head_record 2 ∷ [])) (area (first ∷ head_record 1 ∷ [])))
    ≡ Ok (record { bytes = second; gate = 0 } ∷ record { bytes = head_record 2; gate = 0 } ∷ [])
unfolding stands_in reports chosen body_at group_of records_after split_record generation_of is_configuration head_in stands scan walk
first_read = refl

-- a group after the first that is damaged is named in its area
later_damage : stands_in (pair (0 ∷ []) (1 ∷ sized_body (second ∷ []) ++ 1 ∷ 7 ∷ [])) ≡ Err 1099511627799
unfolding stands_in reports chosen body_at group_of records_after split_record generation_of is_configuration stands scan walk
later_damage = refl
