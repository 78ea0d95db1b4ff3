-- The figures of one series and window, and how an entry enters them.
use Rattle.std.specs.Prelude.{ℕ, Bool, false, cond, ◌&&◌, ℤ, pos, negsuc, ◌+ℤ◌, ◌*ℤ◌, Some, None, Option, ◌==◌, int_le, nat_le, unsigned_abs}
use Rattle.book.specs.Entries.{kind_lawful}
use Rattle.book.specs.Windows.{holds}
use Rattle.book.specs.declared.entries.Entry.{Entry}
use Rattle.book.specs.declared.entries.Kind.{Kind}
use Rattle.book.specs.declared.entries.Kind.TheVariants.{Trade, Auction, Leg, Spread, Quote}
use Rattle.book.specs.declared.figures.Last.{Last}
use Rattle.book.specs.declared.figures.Sides.{Sides}
use Rattle.book.specs.declared.figures.Figures.{Figures}

-- nothing is last, and the sums are 0
abbrev pub empty : Figures
empty = record { trade = None; auction = None; spread = None; quote = None; lots = pos 0; money = pos 0 }

-- the later of a last figure and a new one; of equal stamps the new one is last
abbrev pub latest : {V : Type 0} → Option (Last V) → ℤ → V → Option (Last V)
latest None t v = Some (record { stamp = t; value = v })
latest (Some o) t v = cond (int_le o.stamp t) (Some (record { stamp = t; value = v })) (Some o)

-- a trade enters the last trade, the lots and the money
abbrev pub traded : ℤ → ℤ → ℤ → Figures → Figures
traded t p n f = record {
  trade = latest f.trade t p;
  auction = f.auction;
  spread = f.spread;
  quote = f.quote;
  lots = f.lots +ℤ n;
  money = f.money +ℤ (p *ℤ n);
}

abbrev pub with_auction : ℤ → ℤ → Figures → Figures
with_auction t p f = record {
  trade = f.trade;
  auction = latest f.auction t p;
  spread = f.spread;
  quote = f.quote;
  lots = f.lots;
  money = f.money;
}

abbrev pub with_spread : ℤ → ℤ → Figures → Figures
with_spread t v f = record {
  trade = f.trade;
  auction = f.auction;
  spread = latest f.spread t v;
  quote = f.quote;
  lots = f.lots;
  money = f.money;
}

abbrev pub with_quote : ℤ → Sides → Figures → Figures
with_quote t q f = record {
  trade = f.trade;
  auction = f.auction;
  spread = f.spread;
  quote = latest f.quote t q;
  lots = f.lots;
  money = f.money;
}

-- an auction enters what a trade enters, and the last auction; a leg enters nothing
abbrev pub with_entry : Kind → ℤ → Figures → Figures
with_entry (Trade p n) t f = traded t p n f
with_entry (Auction p n) t f = traded t p n (with_auction t p f)
with_entry (Leg p n) t f = f
with_entry (Spread v) t f = with_spread t v f
with_entry (Quote b a) t f = with_quote t (record { bid = b; ask = a }) f

-- whether a number names a series
abbrev pub is_series : ℕ → ℤ → Bool
is_series s (pos n) = n == s
is_series s (negsuc n) = false

-- whether an entry is for a series and its stamp lies in a window with these edges
abbrev pub concerns : ℕ → ℤ × ℤ → Entry → Bool
concerns s x e = is_series s e.series && holds x e.stamp

abbrev pub entered_in : ℕ → ℤ × ℤ → Figures → Entry → Figures
entered_in s x f e = cond (concerns s x e) (with_entry e.kind e.stamp f) f

-- room for one entry more, so that no sum passes 64 bits
abbrev pub roomy : Figures → Bool
roomy f = nat_le (unsigned_abs f.lots) 3000000000 && nat_le (unsigned_abs f.money) 3000000000000000000

abbrev pub stamp_small : ℤ → Bool
stamp_small t = holds (pos 0, pos 172799) t

-- an entry whose stamp and numbers are within the limits of any day
abbrev pub sound : Entry → Bool
sound e = stamp_small e.stamp && kind_lawful e.kind

-- a sound entry of the series enters where the window holds its stamp and the sums have room; else the figures stay
abbrev pub entered_sound : ℤ × ℤ → Figures → Entry → Figures
entered_sound x f e = cond (holds x e.stamp && roomy f) (with_entry e.kind e.stamp f) f

-- the same as `entered_in`, where the entry is sound and the sums have room; else the figures stay
abbrev pub entered_if : ℕ → ℤ × ℤ → Figures → Entry → Figures
entered_if s x f e = cond (concerns s x e && (sound e && roomy f)) (with_entry e.kind e.stamp f) f
