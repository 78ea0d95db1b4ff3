-- Which row serves a series, by its family, its marks and the edition.
use Rattle.std.specs.Prelude.{◌≡◌, Bool, true, false, cond, ◌&&◌, ◌||◌, ◌==◌, ◌⊎◌, List}
use Rattle.rows.specs.Families.{number}
use Rattle.rows.specs.Rows as rows
use Rattle.rows.specs.declared.families.Family.{Family}
use Rattle.rows.specs.declared.places.Choice.{Choice}
use Rattle.rows.specs.declared.places.Choice.TheVariants.{Close, LastDay, QuarterEnd, Morning}
use Rattle.rows.specs.declared.places.Edition as editions
use Rattle.rows.specs.declared.places.Edition.{Edition}
use Rattle.rows.specs.declared.places.Marks.{Marks}
use Rattle.rows.specs.declared.places.Place.{Place}

-- ---- in the words of the rules

-- families 11 and 13 close in a way of their own on their last day
abbrev pub ClosesByLastDay : Family → Edition → Type 0
ClosesByLastDay f ed = (ed ≡ editions.TheVariants.Close) × ((number f ≡ 11) ⊎ (number f ≡ 13))

-- families 6 and 14 at the end of a quarter, and family 14 has its morning so too
abbrev pub SettlesByQuarterEnd : Family → Edition → Type 0
SettlesByQuarterEnd f ed =
    ((ed ≡ editions.TheVariants.Close) × ((number f ≡ 6) ⊎ (number f ≡ 14)))
    ⊎ ((ed ≡ editions.TheVariants.Morning) × (number f ≡ 14))

-- the row of an edition without regard to marks
abbrev pub row_of_edition : Family → Edition → List Place
row_of_edition f editions.TheVariants.Close = rows.close f
row_of_edition f editions.TheVariants.Morning = rows.morning f

-- a mark counts for the families named, and elsewhere marks change nothing
pub record ByMarks (f : Family) (m : Marks) (ed : Edition) (ps : List Place) : Type 0 where
  pub last_day : m.last_day ≡ true → ClosesByLastDay f ed → ps ≡ rows.last_day f
  pub quarter_end : m.quarter_end ≡ true → SettlesByQuarterEnd f ed → ps ≡ rows.quarter_end f
  pub elsewhere : (m.last_day ≡ true → ClosesByLastDay f ed → ⊥) → (m.quarter_end ≡ true → SettlesByQuarterEnd f ed → ⊥)
      → ps ≡ row_of_edition f ed

-- ---- as a value

abbrev pub has_last_day_row : Family → Edition → Bool
has_last_day_row f editions.TheVariants.Close = number f == 11 || number f == 13
has_last_day_row f editions.TheVariants.Morning = false

abbrev pub has_quarter_end_row : Family → Edition → Bool
has_quarter_end_row f editions.TheVariants.Close = number f == 6 || number f == 14
has_quarter_end_row f editions.TheVariants.Morning = number f == 14

abbrev pub unmarked : Edition → Choice
unmarked editions.TheVariants.Close = Close
unmarked editions.TheVariants.Morning = Morning

abbrev pub chosen : Family → Marks → Edition → Choice
chosen f m ed =
    cond (m.last_day && has_last_day_row f ed) LastDay (cond (m.quarter_end && has_quarter_end_row f ed) QuarterEnd (unmarked ed))
