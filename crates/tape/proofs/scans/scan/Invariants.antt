use Rattle.std.proofs.Common.{◌≡◌, drop, fold}
use Rattle.book.specs.Figures.{empty, entered_if}
use Rattle.tape.proofs.scans.scan.Given as goal

-- the entries so far were entered, so that the rest end where all of them do
abbrev pub invariant-loop-e : goal.invariant-loop-e
invariant-loop-e l = fold (entered_if l.series l.edges) l.figures (drop l.e-index l.entries) ≡ fold (entered_if l.series l.edges) empty l.entries
