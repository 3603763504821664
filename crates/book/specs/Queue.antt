-- The outputs that wait, each with its ticket, and the lengths of the order by ticket.
use Rattle.std.specs.Prelude.{◌≤◌, ⊤, ℕ, nat_le, All, Option, Some, None, List, [], ◌∷◌, flat_map, if◌then◌else◌}
use Rattle.spec_model.specs.Words.{Output}
use Rattle.spec_world.specs.World.{Waiting}
use Rattle.spec_world.specs.Steps.{ticketed}
use Rattle.book.specs.declared.queue.Queued.{Queued}
use Rattle.book.specs.declared.reached.Reached.{Reached}

-- the outputs of these events one after the other, oldest first, each with its event's ticket
abbrev pub queue_of : List Queued → List Waiting
queue_of events = flat_map (λ queued. ticketed queued.ticket (queued.first ∷ queued.rest.items)) events

-- along the queue, no ticket is lower than the one before it
abbrev pub TicketsRise : List Waiting → Type 0
TicketsRise [] = ⊤
TicketsRise (first ∷ rest) = All (λ waiting. first.ticket ≤ waiting.ticket) rest × TicketsRise rest

-- the first output of the queue, if its ticket is settled
abbrev pub settled_head : ℕ → List Waiting → Option Output
settled_head settled [] = None
settled_head settled (first ∷ rest) = if nat_le first.ticket settled then Some first.output else None

-- the longest prefix of the queue in which all tickets are settled
abbrev pub settled_front : ℕ → List Waiting → List Output
settled_front settled [] = []
settled_front settled (first ∷ rest) = if nat_le first.ticket settled then first.output ∷ settled_front settled rest else []

-- the length of the order after `count` records: that of the last entry whose ticket is at most `count`, or the first length where there is
-- no such entry
abbrev pub length_at : ℕ → ℕ → List Reached → ℕ
length_at count length [] = length
length_at count length (reached ∷ others) = if nat_le reached.ticket count then length_at count reached.length others else length
