-- Places for entries after a run.
use Rattle.std.specs.Prelude.{List, ◌++◌, length, drop}
use Rattle.book.specs.declared.entries.Entry.{Entry}

-- places that hold these entries, in their order, and then what stood there
abbrev pub filled : List Entry → List Entry → List Entry
filled es places = es ++ drop (length es) places
