-- A book's meaning, and what taking an entry does to it.
use Rattle.std.specs.Prelude.{◌≡◌, ℕ, ◌+◌, ◌≤◌, Bool, true, false, cond, ◌&&◌, is_ok, Ok, Err, Result, ◌==◌, nat_le}
use Rattle.book.specs.Bounds.{bounded}
use Rattle.book.specs.Days.{is_lawful_day}
use Rattle.book.specs.Entries.{allowed}
use Rattle.book.specs.Figures.{empty, entered_in}
use Rattle.book.specs.Windows.{edges}
use Rattle.book.specs.declared.days.Day.{Day}
use Rattle.book.specs.declared.entries.Entry.{Entry}
use Rattle.book.specs.declared.faults.BookFault.{BookFault}
use Rattle.book.specs.declared.faults.BookFault.TheVariants.{BeyondLimits, Full}
use Rattle.book.specs.declared.figures.Figures.{Figures}

-- the figures stand by series and window
pub record Ledger : Type 0 where
  pub day : Day
  pub capacity : ℕ
  pub count : ℕ
  pub figures : ℕ → ℕ → Figures

-- a new book: no entry taken, nothing last, sums of 0
abbrev pub fresh : Day → ℕ → Ledger
fresh d k = record { day = d; capacity = k; count = 0; figures = λ s w. empty }

-- an entry that is not allowed is refused so, whether or not there is a place; else one that finds none is refused, and
-- there is no other refusal
abbrev pub admission : Day → ℕ → ℕ → Entry → Result Unit BookFault
admission d count capacity e = cond (allowed d e) (cond (count == capacity) (Err Full) (Ok tt)) (Err BeyondLimits)

abbrev pub take_answer : Ledger → Entry → Result Unit BookFault
take_answer m e = admission m.day m.count m.capacity e

-- an entry enters the figures of its series in every window that holds its stamp; all else stays
abbrev pub entered : Day → ℕ → ℕ → Figures → Entry → Figures
entered d s w f e = entered_in s (edges d w) f e

abbrev pub with_taken : Ledger → Entry → Ledger
with_taken m e = record {
  day = m.day;
  capacity = m.capacity;
  count = m.count + 1;
  figures = λ s w. entered m.day s w (m.figures s w) e;
}

-- a refused entry changes nothing
abbrev pub take_after : Ledger → Entry → Ledger
take_after m e = cond (allowed m.day e) (cond (m.count == m.capacity) m (with_taken m e)) m

-- what memory that was lent to the book holds afterwards: an entry taken is stored in it, as the one after so many, and a
-- refused entry leaves it as it was
abbrev pub memory_after : {M : Type 0} → (M → ℕ → Entry → M) → Ledger → Entry → M → M
memory_after with_stored m e memory = cond (is_ok (take_answer m e)) (with_stored memory m.count e) memory

-- series 0 to 31 and windows 1 to 13
abbrev pub in_range : ℕ → ℕ → Bool
in_range s w = nat_le s 31 && (nat_le 1 w && nat_le w 13)

-- what holds of every book; one that has taken no entry has nothing last and sums of 0
pub record Lawful (m : Ledger) : Type 0 where
  pub lawful_day : is_lawful_day m.day ≡ true
  pub most : m.capacity ≤ 30000
  pub room : m.count ≤ m.capacity
  pub bounds : (s w : ℕ) → bounded m.count (m.figures s w) ≡ true
  pub outside : (s w : ℕ) → in_range s w ≡ false → m.figures s w ≡ empty
  pub none_taken : m.count ≡ 0 → (s w : ℕ) → m.figures s w ≡ empty
