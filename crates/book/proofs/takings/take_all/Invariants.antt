use Rattle.std.proofs.Common.{◌≡◌, ◌+◌, ◌≤◌, length, drop}
use Rattle.book.specs.Takings.{after_all, entries_taken, memory_after_all}
use Rattle.book.proofs.takings.take_all.Given as goal

-- the entries so far were handed over, so that the rest end where all of them do
abbrev pub invariant-loop-e : goal.invariant-loop-e
invariant-loop-e g l = record {
  few : l.count ≤ l.e-index;
  after : after_all (g.B.Book.meaning l.book) (drop l.e-index l.entries) ≡ after_all (g.B.Book.meaning l.initial.book) l.entries;
  count : l.count + length (entries_taken (g.B.Book.meaning l.book) (drop l.e-index l.entries)) ≡ length (entries_taken (g.B.Book.meaning l.initial.book) l.entries);
  memory : memory_after_all g.B.Book.with_stored (g.B.Book.meaning l.book) (drop l.e-index l.entries) (g.B.Book.memory l.book) ≡ memory_after_all g.B.Book.with_stored (g.B.Book.meaning l.initial.book) l.entries (g.B.Book.memory l.initial.book);
}
