-- That runs begin on what an opening leaves of an empty disk.
use Rattle.std.proofs.Common.{ℕ, ◌<◌, ◌≤◌, ◌≡◌, ◌+◌, ◌*◌, ◌^◌, true, false, eqb, inl, inr, List, [], ◌∷◌, ◌++◌, length, drop, Option, Some, None, Result, Ok, refl, sym, ap, ◌∙◌, subst, arith, length-append}
use Rattle.std.specs.Prelude.{All}
use Rattle.std.specs.List.{flat_map}
use Rattle.std.proofs.lemmas.List.Elements.{All-nil, All-cons, All-head, All-tail}
use Rattle.diskmodel.proofs.Calls.{possible_durable}
use Rattle.journal.specs.Areas.{Areas, alone, pair, generation_of, reports, chosen, stands_in}
use Rattle.journal.specs.Configuration.{size_in, has_front, is_configuration, shaped_version}
use Rattle.journal.specs.Format.{FitsGroup, body_len, body_bytes, sized_body, group_bytes, length_field, body_at, group_of, kept_at, kept, walk, stands}
use Rattle.journal.specs.declared.record.Record.{Record}
use Rattle.journal.specs.declared.side.Side.TheVariants as sides
use Rattle.journal.proofs.Reporting.{reports_closed, reports_first, both_older}
use Rattle.diskmodel.specs.Outcomes.{AreBytes}
use Rattle.spec_world.proofs.Starting.{starts_fresh}
use Rattle.spec_machine.specs.Machine.{fresh}
use Rattle.spec_machine.specs.Sound.{IsSound}
use Rattle.spec_machine.proofs.AfterAll.{kept_is_sound, after_none, legal_none}
use Rattle.spec_model.specs.Giving.{kept as kept_of}
use Rattle.std.specs.Prelude.{cond}
use Rattle.std.specs.Int.{w16, to_be_bytes, from_be_bytes}
use Rattle.std.specs.Option.{option_map, option_and_then}
use Rattle.std.proofs.lemmas.Bool.{and_from, eq-eqb}
use Rattle.std.proofs.lemmas.List.{append-nil, drop_at}
use Rattle.std.proofs.lemmas.List.Sums.{sum_by-append}
use Rattle.std.proofs.lemmas.Nat.{from_be_bytes-to_be_bytes_2, from_be_bytes-to_be_bytes_4}
use Rattle.journal.specs.Journal.{EndsClosed, with_group}
use Rattle.journal.specs.declared.layout.TheConstants.{CLOSED}
use Rattle.journal.proofs.Stops.{ends_at}
use Rattle.journal.proofs.Walks.{Found, goes, body_stands, walk-skip, walk_closed, walk_written, stands_short}
use Rattle.spec_model.specs.Admitting.{IsTaken, IsLegal}
use Rattle.spec_model.specs.Nodes.{Node, IsNode}
use Rattle.spec_records.specs.Records.{stakes_of}
use Rattle.journal.specs.declared.version.Version.{Version}
use Rattle.journal.specs.declared.version.Version.TheVariants.{First, Second}
use Rattle.wire.specs.Fields.{HasBytes}
use Rattle.wire.specs.declared.keys.Key.{Key}
use Rattle.spec_world.specs.World.{bytes_of, own_configuration, as_fresh, Holds, as_empty, MayLeave, between, of_one, of_pair, Opened, alone_on, run_on}
use Rattle.spec_world.specs.Steps.{IsRecovered, IsRun, nothing_on_one, nothing_on_two}
use Rattle.spec_world.proofs.Orders.{begins_same}
use Rattle.spec_world.proofs.Recovering.{bytes_of-kept}
use Rattle.spec_world.specs.Runs.{AreKeys, first_bytes, first_pair, RunsBegin, RunsBeginOnTwo}
use Rattle.spec_world.proofs.Bytes.{configuration_are, group_are, longer_bytes}
use Rattle.spec_world.proofs.Disks.{longer_stands, longer_ends}

-- a key has 32 bytes
abbrev IsKey : Key → Type 0
IsKey key = HasBytes 32 key.0

keys_long : (keys : List Key) → All IsKey keys → length (flat_map (λ key. key.0) keys) ≡ 32 * length keys
keys_long [] each = refl
keys_long (key ∷ keys) each =
    let first = (All-head IsKey key keys each).count_is in
    let rest = keys_long keys (All-tail IsKey key keys each) in
    omega (arith, first, rest, length-append key.0 (flat_map (λ (k : Key). k.0) keys))

-- a stake has four
stakes_long : (stakes : List ℕ) → length (stakes_of Second stakes) ≡ 4 * length stakes
stakes_long [] = refl
stakes_long (stake ∷ stakes) = omega (arith, stakes_long stakes)

-- the configuration's record is short
pub configuration_short : (node : Node) → IsNode node → AreKeys node → length (own_configuration Second node) ≤ 14 + 36 * 65535
configuration_short node sound keys =
    let charter = node.charter in
    let long = keys_long charter.keys keys in
    let stakes = stakes_long charter.stakes in
    let both = length-append (flat_map (λ (key : Key). key.0) charter.keys) (stakes_of Second charter.stakes) in
    omega (arith, long, stakes, both, sound.charter.size, sound.charter.staked)

-- and fits a group
pub configuration_fits : (node : Node) → IsNode node → AreKeys node → FitsGroup (own_configuration Second node ∷ [])
configuration_fits node sound keys = record { some = omega arith; not_many = omega arith; not_long = omega (arith, configuration_short node sound keys) }

pub empty_ends : EndsClosed (CLOSED ∷ [])
empty_ends = ends_at (0 ∷ []) [] (walk_closed 0 0 [] refl) (omega arith)

-- the empty history is legal
pub empty_legal : (node : Node) → IsNode node → IsLegal node []
empty_legal node sound = record { sound = sound; taken = All-nil (IsTaken node); new = refl }

-- ---- what the first group tells

-- a group of records that fit is read as them
record IsRead (group : List (List ℕ)) : Type 0 where
  body : List ℕ
  at_body : body_at (group_bytes group) ≡ Some body
  is_group : group_of body ≡ Some group

found_is : (one other : Found) → ◌≡◌ {A = Result Found ℕ} (Ok one) (Ok other) → one ≡ other
found_is one other same = cc

long_body : (records : List (List ℕ)) → length (body_bytes records) ≡ body_len records
long_body [] = refl
long_body (bytes ∷ records) =
    let one : body_len (bytes ∷ records) ≡ (4 + length bytes) + body_len records =
    sum_by-append (λ (b : List ℕ). 4 + length b) (bytes ∷ []) records ∙ ap (λ (n : ℕ). n + body_len records) (omega arith) in
    omega (arith, one, long_body records, length-append bytes (body_bytes records))

group_is_read : (group : List (List ℕ)) → FitsGroup group → IsRead group
group_is_read group fits =
    let rest = group_bytes group in
    let n = body_len group in
    let all = walk_written 0 1 group (λ one. omega arith) fits in
    let on = goes 0 1 rest (kept 0 group, 0 + (5 + n)) (λ one. omega arith) all in
    let is = body_stands rest on.body on.at_body in
    let field : length_field rest ≡ n = from_be_bytes-to_be_bytes_4 n (omega (arith, fits.not_long)) in
    let long : length on.body ≡ n = is.long ∙ field in
    let size : length rest ≡ 4 + n + 1 = omega (arith, long_body group, length-append (body_bytes group) (0 ∷ [])) in
    let end : drop (4 + length on.body) rest ≡ 0 ∷ [] =
    drop_at (sized_body group) (0 ∷ []) (4 + length on.body) (omega (arith, long, long_body group)) in
    let last : walk (0 + 1) (4 + length on.body) rest ≡ Ok ([], 0 + 1 + (4 + length on.body)) =
    walk-skip (0 + 1) (4 + length on.body) rest (omega (arith, long, size)) ∙ ap (walk (0 + 1 + (4 + length on.body)) 0) end ∙ walk_closed (0 + 1 + (4 + length on.body)) 0 [] refl in
    let none : on.more ≡ ([], 0 + 1 + (4 + length on.body)) = found_is on.more ([], 0 + 1 + (4 + length on.body)) (sym on.on ∙ last) in
    let same : kept 0 group ≡ kept 0 on.records =
    ap (λ (f : Found). f.0) on.is ∙ ap (λ (f : Found). kept 0 on.records ++ f.0) none ∙ append-nil (kept 0 on.records) in
    let records : on.records ≡ group = sym (bytes_of-kept 0 on.records) ∙ ap bytes_of (sym same) ∙ bytes_of-kept 0 group in
    record { body = on.body; at_body = on.at_body; is_group = on.is_group ∙ ap Some records }

pub reports_first_group : (group : List (List ℕ)) → FitsGroup group → reports (1 ∷ group_bytes group) ≡ Some (generation_of group)
reports_first_group group fits =
    let is = group_is_read group fits in
    reports_first 1 (group_bytes group) (λ one. omega arith) (omega (arith, length-append (sized_body group) (0 ∷ [])))
    ∙ ap (λ (o : Option (List ℕ)). Some (option_and_then (λ body. option_and_then generation_of (group_of body)) o)) is.at_body
    ∙ ap (λ (o : Option (List (List ℕ))). Some (option_and_then generation_of o)) is.is_group

-- the record of a configuration has its shape
shape_is : (node : Node) → length node.charter.keys < 2 ^ 16 → length (own_configuration Second node) ≡ size_in Second (length node.charter.keys)
    → is_configuration Second (own_configuration Second node) ≡ true
unfolding is_configuration
shape_is node small long =
    let keys = node.charter.keys in
    let members : from_be_bytes w16 (to_be_bytes w16 (length keys)) ≡ length keys = from_be_bytes-to_be_bytes_2 (length keys) small in
    let size = size_in Second (from_be_bytes w16 (to_be_bytes w16 (length keys))) in
    and_from (has_front Second (own_configuration Second node)) (eqb (length (own_configuration Second node)) size) refl
    (eq-eqb (length (own_configuration Second node)) size (long ∙ ap (size_in Second) (sym members)))

not_first : (node : Node) → is_configuration First (own_configuration Second node) ≡ false
unfolding is_configuration
not_first node = refl

pub shaped : (node : Node) → IsNode node → AreKeys node → shaped_version (own_configuration Second node) ≡ Some Second
shaped node sound keys =
    let charter = node.charter in
    let long = keys_long charter.keys keys in
    let stakes = stakes_long charter.stakes in
    let both = length-append (flat_map (λ (key : Key). key.0) charter.keys) (stakes_of Second charter.stakes) in
    let is = shape_is node (omega (arith, sound.charter.size)) (omega (arith, long, stakes, both, sound.charter.staked)) in
    (λ i. cond (not_first node i) (Some First) (cond (is i) (Some Second) None))

pub first_reports : (node : Node) → IsNode node → AreKeys node → reports (first_bytes node) ≡ Some (Some 0)
unfolding generation_of
first_reports node sound keys =
    reports_first_group (own_configuration Second node ∷ []) (configuration_fits node sound keys)
    ∙ ap (λ (o : Option Version). Some (option_map (λ version. 0) o)) (shaped node sound keys)

-- ---- runs

module _ (node : Node) (sound : IsNode node) (keys : AreKeys node) where
  pub closed_bytes : AreBytes (CLOSED ∷ [])
  closed_bytes = All-cons (λ n. n < 256) 0 [] (omega arith) (All-nil (λ n. n < 256))

  -- the first bytes are the journal of no event
  pub first_holds : (areas : Areas) → stands_in areas ≡ stands (first_bytes node) → Holds node areas (kept_of node [])
  first_holds areas reads =
      let group = own_configuration Second node ∷ [] in
      let fits = configuration_fits node sound keys in
      record {
        front = group;
        in_first = 1;
        base = fresh node;
        begins = as_fresh Second tt refl refl refl;
        events = [];
        journal = record {
          records = kept 0 group;
          stands_for = reads ∙ longer_stands (CLOSED ∷ []) empty_ends group fits ∙ ap (with_group 0 group) (stands_short (0 ∷ []) (omega arith));
          are = refl;
          first_gate = 0;
          first = All-cons (λ (one : Record). one.gate ≡ 0) (kept_at 0 (own_configuration Second node)) [] refl (All-nil (λ (one : Record). one.gate ≡ 0));
          others = All-nil (λ (one : Record). 0 < one.gate);
        };
        legal = legal_none node (fresh node) sound (subst (IsSound node) (starts_fresh node) (kept_is_sound node [] (empty_legal node sound)));
        leads = after_none node (fresh node) ∙ sym (starts_fresh node);
      }

  pub first_ends : EndsClosed (first_bytes node)
  first_ends = longer_ends (CLOSED ∷ []) empty_ends (own_configuration Second node ∷ []) (configuration_fits node sound keys)

  pub first_are : AreBytes (first_bytes node)
  first_are =
      let group = own_configuration Second node ∷ [] in
      longer_bytes (CLOSED ∷ []) group closed_bytes (group_are group (All-cons AreBytes (own_configuration Second node) [] (configuration_are Second node keys) (All-nil AreBytes)))

  -- nothing is recovered of a world in which nothing happened
  nothing_recovered : (on : Opened) → IsRecovered node (run_on on [] []) []
  nothing_recovered on = record { legal = empty_legal node sound; accepted = begins_same []; settled = begins_same []; whole = inl refl; without_group = λ none. refl }

  nothing_left : MayLeave [] [] None []
  nothing_left = between (possible_durable [] (All-nil (λ n. n < 256)))

  begins_on_one : IsRun node [] (run_on (alone_on (first_bytes node)) [] [])
  unfolding stands_in
  begins_on_one = record {
    first = run_on (alone_on (first_bytes node)) [] [];
    begins = inl (record {
      left = of_one [] refl nothing_left refl;
      recovered = nothing_recovered nothing_on_one;
      stands_for = as_empty (stands_short [] (omega arith)) (starts_fresh node);
      disks = alone_on (first_bytes node);
      opened = record { holds = first_holds (alone (first_bytes node)) refl; ends_closed = first_ends; are_bytes = first_are; spare = tt };
      is = refl;
    });
    leads = refl;
  }

  nothing_stands : stands_in (pair [] []) ≡ Ok []
  unfolding stands_in reports chosen
  nothing_stands = refl

  begins_on_two : IsRun node [] (run_on (first_pair node) [] [])
  begins_on_two =
      let reported = first_reports node sound keys in
      record {
        first = run_on (first_pair node) [] [];
        begins = inr (record {
          left = of_pair (record { bytes_at_start = []; calls = []; side = sides.First; generation = 0 }) [] [] refl nothing_left nothing_left refl;
          recovered = nothing_recovered nothing_on_two;
          stands_for = as_empty nothing_stands (starts_fresh node);
          disks = first_pair node;
          opened = record {
            holds = first_holds (pair (first_bytes node) (CLOSED ∷ [])) (both_older sides.First 0 (first_bytes node) (CLOSED ∷ []) reported (inl (reports_closed 0 [] refl)));
            ends_closed = first_ends;
            are_bytes = first_are;
            spare = record { reported = reported; at_rest = inl refl; are_bytes = closed_bytes };
          };
          is = refl;
        });
        leads = refl;
      }

pub runs_begin : RunsBegin
runs_begin node sound keys = begins_on_one node sound keys

pub runs_begin_on_two : RunsBeginOnTwo
runs_begin_on_two node sound keys = begins_on_two node sound keys
