use Rattle.std.proofs.Common.{◌≡◌, drop}
use Rattle.house.specs.Houses.{set_of}
use Rattle.calls.specs.Worlds.{world}
use Rattle.runs.specs.ByCalls.{entries}
use Rattle.runs.specs.Runs.{after_run, calls_taken}
use Rattle.book.specs.Takings.{with_all_stored}
use Rattle.runs.proofs.running.run.Given as goal

-- the calls so far were made, over the same set, so that the rest end where all of them do, and store what is left to store
abbrev pub invariant-loop-call : goal.invariant-loop-call
invariant-loop-call g l =
    let set = set_of l.initial.house in
    let size = g.L.LadderSet.size set in
    let lawful = g.L.LadderSet.lawful set in
    let before = world l.initial.house (g.B.Book.meaning l.initial.book) in
    let now = world l.house (g.B.Book.meaning l.book) in
    let rest = drop l.call-index l.calls in
    let with_all = with_all_stored g.B.Book.with_stored in
    record {
      set : set_of l.house ≡ set;
      after : after_run size lawful rest now ≡ after_run size lawful l.calls before;
      memory : with_all now.book.count (entries (calls_taken size lawful rest now)) (g.B.Book.memory l.book)
          ≡ with_all before.book.count (entries (calls_taken size lawful l.calls before)) (g.B.Book.memory l.initial.book);
    }
