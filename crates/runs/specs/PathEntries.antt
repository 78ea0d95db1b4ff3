-- The entries that count on a path of series.
use Rattle.std.specs.Prelude.{ℕ, Bool, false, ◌&&◌, ◌||◌, List, [], ◌∷◌, ℤ, filter}
use Rattle.book.specs.Evidence.{no_leg}
use Rattle.book.specs.Figures.{is_series}
use Rattle.book.specs.declared.entries.Entry.{Entry}

-- whether a number names one of the series of a path
abbrev pub on_path : List ℕ → ℤ → Bool
on_path [] z = false
on_path (s ∷ path) z = is_series s z || on_path path z

-- the entries for the series of a path, legs aside
abbrev pub entries_on : List ℕ → List Entry → List Entry
entries_on path es = filter (λ e. on_path path e.series && no_leg e.kind) es
