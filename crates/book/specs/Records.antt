-- A book's meaning told by the entries it took, in the order taken.
use Rattle.std.specs.Prelude.{ℕ, Bool, true, ◌&&◌, List, [], ◌∷◌, length, fold}
use Rattle.book.specs.Figures.{empty}
use Rattle.book.specs.Ledgers.{Ledger, entered}
use Rattle.book.specs.declared.days.Day.{Day}
use Rattle.book.specs.declared.entries.Entry.{Entry}
use Rattle.book.specs.declared.figures.Figures.{Figures}

-- whether a test holds of every element
abbrev pub every : {X : Type 0} → (X → Bool) → List X → Bool
every test [] = true
every test (x ∷ xs) = test x && every test xs

abbrev pub figures_of : Day → List Entry → ℕ → ℕ → Figures
figures_of d es s w = fold (entered d s w) empty es

abbrev pub recorded : Day → ℕ → List Entry → Ledger
recorded d k es = record { day = d; capacity = k; count = length es; figures = figures_of d es }
