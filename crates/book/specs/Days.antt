-- The day record: openings of the night, day and afternoon sessions, close, and morning cut, as seconds from the midnight
-- that begins the evening session's date.
use Rattle.std.specs.Prelude.{Bool, ◌&&◌, pos, int_le, int_lt}
use Rattle.book.specs.declared.days.Day.{Day}

-- the night session opens on the first date; the day session opens, goes on in the afternoon and closes on the second, in
-- this order; the morning cut lies between its opening and its close
abbrev pub is_lawful_day : Day → Bool
is_lawful_day d =
    ((int_le (pos 0) d.night && int_le d.night (pos 86399)) && (int_le (pos 86400) d.opening && int_le d.opening d.afternoon))
    && ((int_lt d.afternoon d.close && int_le d.close (pos 172799)) && (int_lt d.opening d.cut && int_lt d.cut d.close))

-- every number as small as a lawful day may have it
abbrev pub least_day : Day
least_day = record { night = pos 0; opening = pos 86400; afternoon = pos 86400; close = pos 86402; cut = pos 86401 }
