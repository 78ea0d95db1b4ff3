-- Taking one entry after the other.
use Rattle.std.specs.Prelude.{◌≡◌, ℕ, ◌+◌, cond, List, [], ◌∷◌, length, is_ok, fold}
use Rattle.book.specs.Evidence.{Evidence}
use Rattle.book.specs.Ledgers.{Ledger, take_after, take_answer, fresh}
use Rattle.book.specs.declared.days.Day.{Day}
use Rattle.book.specs.declared.entries.Entry.{Entry}

abbrev pub after_all : Ledger → List Entry → Ledger
after_all m es = fold take_after m es

-- the entries that were not refused, in their order
abbrev pub entries_taken : Ledger → List Entry → List Entry
entries_taken m [] = []
entries_taken m (e ∷ es) = cond (is_ok (take_answer m e)) (e ∷ entries_taken (take_after m e) es) (entries_taken (take_after m e) es)

-- entries stored one after the other in memory that was lent, the first as the one after so many
abbrev pub with_all_stored : {M : Type 0} → (M → ℕ → Entry → M) → ℕ → List Entry → M → M
with_all_stored with_stored n [] memory = memory
with_all_stored with_stored n (e ∷ es) memory = with_all_stored with_stored (n + 1) es (with_stored memory n e)

-- what memory that was lent to a book holds, once the book was handed entries: those taken are stored in it
abbrev pub memory_after_all : {M : Type 0} → (M → ℕ → Entry → M) → Ledger → List Entry → M → M
memory_after_all with_stored m es memory = with_all_stored with_stored m.count (entries_taken m es) memory

-- a book was handed entries, one after the other, and took so many. The figures of one that was new are evidence of those taken
pub record Handed (before then : Ledger) (es : List Entry) (taken : ℕ) : Type 0 where
  pub count : taken ≡ length (entries_taken before es)
  pub after : then ≡ after_all before es
  pub evidence : (d : Day) (k : ℕ) → before ≡ fresh d k → Evidence then (entries_taken before es)
