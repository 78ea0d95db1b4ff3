-- What a desk answers to a line's call, and what the desk and its book hold afterwards.
use Rattle.std.specs.Prelude.{ℕ, Bool, cond, List, length, ℤ, is_ok, Some, None, Ok, Err, Option, Result, unsigned_abs}
use Rattle.std.specs.Option.{option_map}
use Rattle.book.specs.Days.{is_lawful_day}
use Rattle.book.specs.Ledgers.{Ledger, fresh}
use Rattle.book.specs.declared.days.Day.{Day}
use Rattle.book.specs.declared.faults.DayFault.TheVariants.{NotLawful}
use Rattle.ladders.specs.Faults.{tick_fault}
use Rattle.ladders.specs.Made.{even_prices, size_of}
use Rattle.ladders.specs.Multiples.{multiple}
use Rattle.ladders.specs.Sets.{lawful_at, set_fault}
use Rattle.ladders.specs.declared.faults.LadderFault.{LadderFault}
use Rattle.ladders.specs.declared.sets.SetOf.{SetOf}
use Rattle.ladders.specs.declared.ticks.Tick.{Tick}
use Rattle.house.specs.Calls.{State, new_state}
use Rattle.house.specs.Houses.{set_of, state}
use Rattle.house.specs.declared.faults.HouseFault.{HouseFault}
use Rattle.house.specs.declared.houses.House.{House}
use Rattle.calls.specs.Worlds.{World, after_call, reply}
use Rattle.calls.specs.declared.call.Call.{Call}
use Rattle.calls.specs.declared.call.Reply.{Reply}
use Rattle.calls.specs.declared.call.Reply.TheVariants.{Done}
use Rattle.lines.specs.declared.line_calls.LineCall.{LineCall}
use Rattle.lines.specs.declared.line_calls.LineCall.TheVariants as line_calls
use Rattle.lines.specs.declared.faults.NotRead.{NotRead}
use Rattle.answers.specs.declared.faults.LineFault.{LineFault}
use Rattle.answers.specs.declared.faults.LineFault.TheVariants as faults
use Rattle.desk.specs.declared.desks.Desk.{Desk}

-- ---- what a desk is known by

-- what stands once a day has begun: how many ladders, the lawful prices on each, and the state of the house
pub record Begun : Type 0 where
  pub ladders : ℕ
  pub lawful : ℕ → ℤ → Bool
  pub state : State

-- a desk and the book that is lent to it; nothing has begun before a day line
pub record DeskState : Type 0 where
  pub begun : Option Begun
  pub book : Ledger

abbrev pub begun_by : {bound : _} → House (SetOf Tick) bound → Begun
begun_by h = record { ladders = size_of (set_of h); lawful = even_prices (set_of h); state = state h }

abbrev pub desk_state : Desk → Ledger → DeskState
desk_state d m = record { begun = option_map begun_by d.house; book = m }

abbrev pub waiting : Ledger → DeskState
waiting m = record { begun = None; book = m }

-- ---- the day line

-- the even ladders of these ticks
abbrev pub on_ticks : List ℤ → ℕ → ℤ → Bool
on_ticks ticks = lawful_at (λ k. multiple (unsigned_abs k)) ticks

abbrev pub unless_unlawful : Option LadderFault → Result Reply LineFault
unless_unlawful None = Ok Done
unless_unlawful (Some f) = Err (faults.Ladders f)

-- an unlawful day record is refused before an unlawful tick
abbrev pub day_answer : Day → List ℤ → Result Reply LineFault
day_answer d ticks = cond (is_lawful_day d) (unless_unlawful (set_fault tick_fault ticks)) (Err (faults.Day NotLawful))

-- a new house over these ladders, and a new book of the day, with as many places as before
abbrev pub day_begun : Day → List ℤ → Ledger → DeskState
day_begun d ticks m = record {
  begun = Some (record { ladders = length ticks; lawful = on_ticks ticks; state = new_state });
  book = fresh d m.capacity;
}

-- ---- calls of the house, once a day has begun

abbrev pub by_house : Result Reply HouseFault → Result Reply LineFault
by_house (Ok r) = Ok r
by_house (Err f) = Err (faults.House f)

abbrev pub world_of : Begun → Ledger → World
world_of b m = record { state = b.state; book = m }

abbrev pub house_answer : Begun → Ledger → Call → Result Reply LineFault
house_answer b m c = by_house (reply b.ladders b.lawful c (world_of b m))

-- the ladders stay
abbrev pub house_after : Begun → Ledger → Call → DeskState
house_after b m c = record {
  begun = Some (record { ladders = b.ladders; lawful = b.lawful; state = (after_call b.ladders b.lawful c (world_of b m)).state });
  book = (after_call b.ladders b.lawful c (world_of b m)).book;
}

-- ---- every call of a line

-- there is one day line: before it no other call is taken, and after it no other day line
abbrev pub desk_answer : Option Begun → Ledger → LineCall → Result Reply LineFault
desk_answer None m (line_calls.Day d ticks) = day_answer d ticks
desk_answer None m (line_calls.Call c) = Err faults.NoDay
desk_answer (Some b) m (line_calls.Day d ticks) = Err faults.SecondDay
desk_answer (Some b) m (line_calls.Call c) = house_answer b m c

abbrev pub desk_after : Option Begun → Ledger → LineCall → DeskState
desk_after None m (line_calls.Day d ticks) = cond (is_ok (day_answer d ticks)) (day_begun d ticks m) (waiting m)
desk_after None m (line_calls.Call c) = waiting m
desk_after (Some b) m (line_calls.Day d ticks) = record { begun = Some b; book = m }
desk_after (Some b) m (line_calls.Call c) = house_after b m c

abbrev pub call_answer : DeskState → LineCall → Result Reply LineFault
call_answer s c = desk_answer s.begun s.book c

abbrev pub call_after : DeskState → LineCall → DeskState
call_after s c = desk_after s.begun s.book c

-- ---- a line as it was read: one that is not of the grammar is refused with its place, and changes nothing

abbrev pub line_answer : DeskState → Result LineCall NotRead → Result Reply LineFault
line_answer s (Ok c) = call_answer s c
line_answer s (Err e) = Err (faults.NotRead e)

abbrev pub line_after : DeskState → Result LineCall NotRead → DeskState
line_after s (Ok c) = call_after s c
line_after s (Err e) = s
