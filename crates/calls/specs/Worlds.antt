-- One call on a house and its book: what it answers, and what house and book hold afterwards.
use Rattle.std.specs.Prelude.{ℕ, Bool, ℤ, is_ok, Ok, Err, Result}
use Rattle.book.specs.Ledgers.{Ledger, fresh}
use Rattle.book.specs.declared.days.Day.{Day}
use Rattle.book.specs.declared.entries.Entry.{Entry}
use Rattle.house.specs.Calls.{State, bell_after, bell_answer, entry_after, entry_answer, list_after, list_answer, moved, new_state, ruling_after, ruling_answer, theory_after, theory_answer, ok_with}
use Rattle.house.specs.Houses.{state}
use Rattle.house.specs.Questions.{settle_answer}
use Rattle.house.specs.declared.answers.Settlement.{Settlement}
use Rattle.house.specs.declared.faults.HouseFault.{HouseFault}
use Rattle.house.specs.declared.houses.House.{House}
use Rattle.calls.specs.declared.call.Call.{Call}
use Rattle.calls.specs.declared.call.Call.TheVariants.{List as ListCall, Ring, Enter, SetTheory, SetRuling, Settle}
use Rattle.calls.specs.declared.call.Reply.{Reply}
use Rattle.calls.specs.declared.call.Reply.TheVariants.{Done, Listed, Settled}

-- a house and its book, by what they mean
pub record World : Type 0 where
  pub state : State
  pub book : Ledger

abbrev pub world : {L : Type 0} {bound : _} → House L bound → Ledger → World
world h m = record { state = state h; book = m }

-- a new house and a new book
abbrev pub new_world : Day → ℕ → World
new_world d k = record { state = new_state; book = fresh d k }

-- ---- one call, over a set of so many ladders with these lawful prices on each

-- the number of the series listed, as a reply
abbrev pub as_listed : Result ℕ HouseFault → Result Reply HouseFault
as_listed (Ok n) = Ok (Listed n)
as_listed (Err fault) = Err fault

-- the settlement of the series asked for, as a reply
abbrev pub as_settled : ℤ → Result Settlement HouseFault → Result Reply HouseFault
as_settled n (Ok s) = Ok (Settled n s)
as_settled n (Err fault) = Err fault

abbrev pub reply : ℕ → (ℕ → ℤ → Bool) → Call → World → Result Reply HouseFault
reply ladders lawful (ListCall t) w = as_listed (list_answer ladders t w.state)
reply ladders lawful (Ring b) w = ok_with Done (bell_answer b w.state)
reply ladders lawful (Enter e) w = ok_with Done (entry_answer lawful w.book e w.state)
reply ladders lawful (SetTheory n value) w = ok_with Done (theory_answer n value w.state)
reply ladders lawful (SetRuling n value first) w = ok_with Done (ruling_answer n value first w.state)
reply ladders lawful (Settle n edition) w = as_settled n (settle_answer lawful edition n w.state w.book)

-- an entry is for the book, a question changes nothing, and all else is for the house
abbrev pub after_call : ℕ → (ℕ → ℤ → Bool) → Call → World → World
after_call ladders lawful (ListCall t) w = record { state = list_after ladders t w.state; book = w.book }
after_call ladders lawful (Ring b) w = record { state = bell_after b w.state; book = w.book }
after_call ladders lawful (Enter e) w = record { state = w.state; book = entry_after lawful e w.state w.book }
after_call ladders lawful (SetTheory n value) w = record { state = theory_after n value w.state; book = w.book }
after_call ladders lawful (SetRuling n value first) w = record { state = ruling_after n value first w.state; book = w.book }
after_call ladders lawful (Settle n edition) w = w

-- what memory that was lent to the book holds: an entry taken is stored in it, as the one after so many; no other call changes it
abbrev pub memory_after_call : {M : Type 0} → (M → ℕ → Entry → M) → (ℕ → ℤ → Bool) → Call → World → M → M
memory_after_call with_stored lawful (ListCall t) w memory = memory
memory_after_call with_stored lawful (Ring b) w memory = memory
memory_after_call with_stored lawful (Enter e) w memory =
    moved (entry_answer lawful w.book e w.state) (λ _. with_stored memory w.book.count e) memory
memory_after_call with_stored lawful (SetTheory n value) w memory = memory
memory_after_call with_stored lawful (SetRuling n value first) w memory = memory
memory_after_call with_stored lawful (Settle n edition) w memory = memory

abbrev pub is_taken : ℕ → (ℕ → ℤ → Bool) → Call → World → Bool
is_taken ladders lawful c w = is_ok (reply ladders lawful c w)
