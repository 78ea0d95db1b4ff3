-- What a session and its writer hold.
use Rattle.std.specs.Prelude.{ℕ, Bool, List, take, Option}
use Rattle.book.specs.Ledgers.{Ledger}
use Rattle.desk.specs.Desks.{desk_state}
use Rattle.stream.specs.Held.{View}
use Rattle.stream.specs.declared.pending.Pending.{Pending}
use Rattle.stream.specs.declared.sessions.Session.{Session}
use Rattle.stream.specs.declared.unsent.Unsent.{Unsent}

-- the first bytes of the line that has not ended
abbrev pub pending_bytes : Pending → List ℕ
pending_bytes p = take p.len p.bytes

-- the answers that the writer has not got yet
abbrev pub unsent_bytes : Unsent → List ℕ
unsent_bytes u = take u.len u.bytes

-- a session with a writer that has these bytes and a book of this meaning
abbrev pub view_of : Session → Option (List ℕ) → Ledger → View
view_of s contents m = record { contents = contents; unsent = unsent_bytes s.unsent; desk_state = desk_state s.desk m; held = pending_bytes s.pending }

-- whether a call has failed
abbrev pub has_failed : Session → Bool
has_failed s = s.failed
