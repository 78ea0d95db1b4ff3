-- The thirteen windows of a day. Each is a first and a last second, both included, and is empty where the first is later.
use Rattle.std.specs.Prelude.{ℕ, Bool, cond, ◌&&◌, List, [], ◌∷◌, ℤ, pos, ◌-ℤ◌, int_le, int_lt, slice_index_or}
use Rattle.book.specs.declared.days.Day.{Day}

-- the second before a stamp; none lies before second 0
abbrev pub second_before : ℤ → ℤ
second_before t = cond (int_lt (pos 0) t) (t -ℤ pos 1) t

-- an empty window, for the numbers that no window has
abbrev pub nothing : ℤ × ℤ
nothing = (pos 1, pos 0)

-- from number 0 on, which no window has; the numbers are clock times of the date after the evening session's, as 139800 is 14:50
abbrev pub windows : Day → List (ℤ × ℤ)
windows d =
    nothing
    ∷ (d.night, d.close)
    ∷ (d.opening, d.close)
    ∷ (pos 139800, d.close)
    ∷ (d.afternoon, d.close)
    ∷ (pos 142200, d.close)
    ∷ (pos 135900, pos 143100)
    ∷ (pos 117900, pos 143100)
    ∷ (d.opening, pos 126120)
    ∷ (d.night, pos 126120)
    ∷ (pos 125100, pos 126000)
    ∷ (d.opening, second_before d.cut)
    ∷ (d.night, second_before d.cut)
    ∷ (pos 125100, second_before d.cut)
    ∷ []

abbrev pub edges : Day → ℕ → ℤ × ℤ
edges d w = slice_index_or (windows d) w nothing

-- whether a window with these edges holds a stamp
abbrev pub holds : ℤ × ℤ → ℤ → Bool
holds x t = int_le x.0 t && int_le t x.1
