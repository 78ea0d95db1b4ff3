-- Which entries a book of a day may take.
use Rattle.std.specs.Prelude.{Bool, true, ◌&&◌, ℤ, pos, negsuc, Some, None, Option, int_le, int_lt}
use Rattle.book.specs.declared.days.Day.{Day}
use Rattle.book.specs.declared.entries.Entry.{Entry}
use Rattle.book.specs.declared.entries.Kind.{Kind}
use Rattle.book.specs.declared.entries.Kind.TheVariants.{Trade, Auction, Leg, Spread, Quote}
use Rattle.book.specs.Windows.{holds}

-- a price lies from -1,000,000,000 to 1,000,000,000 points
abbrev pub price_lawful : ℤ → Bool
price_lawful v = int_le (negsuc 999999999) v && int_le v (pos 1000000000)

-- a spread lies from -100,000,000 to 100,000,000 points
abbrev pub spread_lawful : ℤ → Bool
spread_lawful v = int_le (negsuc 99999999) v && int_le v (pos 100000000)

-- 1 to 100,000 lots
abbrev pub lots_lawful : ℤ → Bool
lots_lawful n = int_le (pos 1) n && int_le n (pos 100000)

-- a side of a quote is a price, or is missing
abbrev pub side_lawful : Option ℤ → Bool
side_lawful None = true
side_lawful (Some v) = price_lawful v

-- where both sides stand, the bid is under the ask
abbrev pub uncrossed : Option ℤ → Option ℤ → Bool
uncrossed None a = true
uncrossed (Some b) None = true
uncrossed (Some b) (Some a) = int_lt b a

abbrev pub kind_lawful : Kind → Bool
kind_lawful (Trade p n) = price_lawful p && lots_lawful n
kind_lawful (Auction p n) = price_lawful p && lots_lawful n
kind_lawful (Leg p n) = price_lawful p && lots_lawful n
kind_lawful (Spread v) = spread_lawful v
kind_lawful (Quote b a) = (side_lawful b && side_lawful a) && uncrossed b a

-- series 0 to 31, a stamp from the night opening to the close, and lawful numbers
abbrev pub allowed : Day → Entry → Bool
allowed d e =
    ((int_le (pos 0) e.series && int_le e.series (pos 31)) && holds (d.night, d.close) e.stamp) && kind_lawful e.kind
