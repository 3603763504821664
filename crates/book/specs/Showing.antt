-- What contracts see of a book, computed from its fields.
use Rattle.book.specs.Book.{BookView}
use Rattle.book.specs.Queue.{queue_of}
use Rattle.book.specs.declared.book.Book.TheInside.{Inside}

-- what contracts see of a book with these fields: this is the one place that says which of the fields they see
abbrev pub shown_of : {S : Type 0} → Inside S → BookView S
shown_of book = record {
  validator = book.validator;
  pending = book.pending;
  queue = queue_of book.queue.items;
  accepted = book.accepted;
  taken = book.taken;
  settled = book.settled;
  rewriting = book.rewriting;
  ordered = book.ordered;
  reached = book.reached.items;
  down = book.down;
}
