-- Where the table holds the records of series 0 to 31 and windows 1 to 13, and what it holds if all are empty.
use Rattle.std.proofs.Common.{◌≡◌, ℕ, ◌<◌, ◌≤◌, true, ◌&&◌, leb, get_or, replicate, refl, arith}
use Rattle.std.proofs.lemmas.List.{get_or-replicate}
use Rattle.std.proofs.lemmas.Bool.{and_parts, cond_both, leb-true}
use Rattle.book.specs.Figures.{empty}
use Rattle.book.specs.Ledgers.{in_range}
use Rattle.board.specs.Cells.{cell, cell_index}

pub range_bounds : (s w : ℕ) → in_range s w ≡ true → (s ≤ 31) × ((1 ≤ w) × (w ≤ 13))
range_bounds s w h =
    let both = and_parts (leb s 31) (leb 1 w && leb w 13) h in
    let windows = and_parts (leb 1 w) (leb w 13) both.1 in
    (leb-true s 31 both.0, (leb-true 1 w windows.0, leb-true w 13 windows.1))

place_within : (s w : ℕ) → in_range s w ≡ true → cell_index s w < 416
place_within s w h =
    let b = range_bounds s w h in
    let series = b.0 in
    let first = b.1.0 in
    let last = b.1.1 in
    omega arith

-- a table of empty records has empty figures everywhere
pub cell_none : (s w : ℕ) → cell (replicate 416 empty) s w ≡ empty
cell_none s w =
    cond_both (in_range s w) (get_or (replicate 416 empty) (cell_index s w) empty) empty (λ f. f ≡ empty)
    (λ h. get_or-replicate 416 (cell_index s w) empty empty (place_within s w h))
    (λ h. refl)
