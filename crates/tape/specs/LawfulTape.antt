-- What holds of a tape that has stored n entries.
use Rattle.std.specs.Prelude.{◌≡◌, ℕ, ◌≤◌, min, true, List, length, take}
use Rattle.std.proofs.Common.{arith}
use Rattle.std.proofs.lemmas.List.{length-take-le}
use Rattle.book.specs.Days.{is_lawful_day}
use Rattle.book.specs.Entries.{allowed}
use Rattle.book.specs.LawfulRecords.{lawful_record}
use Rattle.book.specs.Ledgers.{Lawful}
use Rattle.book.specs.Records.{every, recorded}
use Rattle.book.specs.declared.days.Day.{Day}
use Rattle.book.specs.declared.entries.Entry.{Entry}

pub stored_is_lawful : (d : Day) (slots : List Entry) (n : ℕ) → is_lawful_day d ≡ true → n ≤ length slots → n ≤ 30000 → every (allowed d) (take n slots) ≡ true → Lawful (recorded d (min (length slots) 30000) (take n slots))
stored_is_lawful d slots n l held few h =
    let count = length-take-le n slots held in
    lawful_record d (min (length slots) 30000) (take n slots) l (omega arith) (omega arith) h
