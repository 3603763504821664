-- What stays of a seat over several steps.
use Rattle.std.proofs.Common.{◌≡◌, ◌≤◌, Bool, true, false, refl, length, sym, ap, ◌∙◌, arith}
use Rattle.std.specs.Prelude.{◌||◌}
use Rattle.wire.specs.Lists.{Begins}
use Rattle.node_seats.specs.Sights.{SeatView}
use Rattle.node_seats.specs.Views.{IsSame, informed}
use Rattle.node_seats.specs.declared.view.View.{View}
use Rattle.node_seats.proofs.Beginnings.{begins_length}

-- two steps leave a seat the same that each of them leaves the same
pub same_then : (one two three : SeatView) → IsSame one two → IsSame two three → IsSame one three
same_then one two three first second = record {
  table = second.table ∙ first.table;
  id = second.id ∙ first.id;
  live = second.live ∙ first.live;
  numbered = second.numbered ∙ first.numbered;
  number = second.number ∙ first.number;
  mine = second.mine ∙ first.mine;
  down = λ is. second.down (first.down is);
  right = second.right ∙ first.right;
}

-- a seat that has seen more, and knows more as settled, is the same
pub same_seat : (before later : SeatView) → (later.table ≡ before.table) × (later.id ≡ before.id) → later.view
    ≡ record before.view { seen = later.view.seen; durable = later.view.durable } → IsSame before later
same_seat before later of rest = record {
  table = of.0;
  id = of.1;
  live = ap (λ v. v.live) rest;
  numbered = ap (λ v. v.numbered) rest;
  number = ap (λ v. v.number) rest;
  mine = ap (λ v. v.mine) rest;
  down = λ is. ap (λ v. v.down) rest ∙ is;
  right = ap (λ v. v.may_fail) rest;
}

-- and one that was told what another knows
pub same_heard : (before later : SeatView) (other : View) → later ≡ record before { view = informed before.view other } → IsSame before later
same_heard before later other heard = record {
  table = ap (λ s. s.table) heard;
  id = ap (λ s. s.id) heard;
  live = ap (λ s. s.view.live) heard;
  numbered = ap (λ s. s.view.numbered) heard;
  number = ap (λ s. s.view.number) heard;
  mine = ap (λ s. s.view.mine) heard;
  down = λ is. ap (λ s. s.view.down) heard ∙ ap (λ d. d || other.down) is;
  right = ap (λ s. s.view.may_fail) heard;
}

-- a look changes nothing of what is known as settled
pub looked : (before later : View) → later ≡ record before { seen = later.seen } → later ≡ record before { seen = later.seen; durable = later.durable }
looked before later rest = rest ∙ sym (ap (λ f. record before { seen = later.seen; durable = f }) (ap (λ v. v.durable) rest))

-- a seat that saw nothing more while no more was settled than it had seen at first still sees that, where a turn adds nothing
pub still_seen : (first before later : View) → Begins first.seen before.seen → Begins before.durable later.durable → (length before.durable ≤ length first.seen → before.seen ≡ first.seen)
    → (length later.durable ≤ length before.seen → later.seen ≡ before.seen) → length later.durable ≤ length first.seen → later.seen ≡ first.seen
still_seen first before later seen durable so_far turn few =
    let more = begins_length before.durable later.durable durable in
    let longer = begins_length first.seen before.seen seen in
    turn (omega (arith, few, longer)) ∙ so_far (omega (arith, few, more))

-- what the second knows, either does
pub or_second : (one other : Bool) → other ≡ true → one || other ≡ true
or_second true other is = refl
or_second false other is = is

-- ---- what is known of down

-- what is known of down after some turns in which another seat told: as before them all, or with what the other knows
pub data IsInformedDown (first other later : Bool) : Type 0 where
  not_yet : later ≡ first → IsInformedDown first other later
  once_informed : later ≡ (first || other) → IsInformedDown first other later

or_again : (one other : Bool) → (one || other) || other ≡ (one || other)
or_again true other = refl
or_again false true = refl
or_again false false = refl

-- after one turn more it is so with what the other knows
pub informed_down : (first other before later : Bool) → IsInformedDown first other before → later ≡ (before || other) → later ≡ (first || other)
informed_down first other before later (not_yet is) turn = turn ∙ ap (λ d. d || other) is
informed_down first other before later (once_informed is) turn = turn ∙ ap (λ d. d || other) is ∙ or_again first other
