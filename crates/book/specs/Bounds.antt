-- The bounds that figures keep.
use Rattle.std.specs.Prelude.{ℕ, ◌*◌, Bool, true, ◌&&◌, ℤ, pos, Some, None, Option, int_le, nat_le, unsigned_abs}
use Rattle.book.specs.Entries.{price_lawful, side_lawful, spread_lawful, uncrossed}
use Rattle.book.specs.declared.figures.Figures.{Figures}
use Rattle.book.specs.declared.figures.Last.{Last}
use Rattle.book.specs.declared.figures.Sides.{Sides}

-- a last figure, if there is one, whose value keeps a test
abbrev pub last_if : {V : Type 0} → (V → Bool) → Option (Last V) → Bool
last_if test None = true
last_if test (Some l) = test l.value

abbrev pub sides_lawful : Sides → Bool
sides_lawful q = (side_lawful q.bid && side_lawful q.ask) && uncrossed q.bid q.ask

-- of n entries: 0 to n × 100,000 lots, and money within lots × 1,000,000,000 on either side of 0
abbrev pub sums_within : ℕ → ℤ → ℤ → Bool
sums_within n lots money =
    (int_le (pos 0) lots && int_le lots (pos (n * 100000))) && nat_le (unsigned_abs money) (unsigned_abs lots * 1000000000)

-- and every last figure within the limits of its kind, a quote with both sides uncrossed
abbrev pub bounded : ℕ → Figures → Bool
bounded n f =
    sums_within n f.lots f.money
    && ((last_if price_lawful f.trade && last_if price_lawful f.auction) && (last_if spread_lawful f.spread && last_if sides_lawful f.quote))
