-- What the figures of a book say of the entries that it took, without regard to how they were computed.
use Rattle.std.specs.Prelude.{◌≡◌, ℕ, Bool, true, false, cond, ◌&&◌, List, [], ◌∷◌, ◌++◌, length, ℤ, pos, ◌+ℤ◌, ◌*ℤ◌, ◌≤ℤ◌, ◌<ℤ◌, is_some, Some, None, filter, Option}
use Rattle.std.specs.List.{AllByRecursion}
use Rattle.book.specs.Figures.{concerns, is_series}
use Rattle.book.specs.Ledgers.{Ledger}
use Rattle.book.specs.Records.{figures_of}
use Rattle.book.specs.Windows.{edges}
use Rattle.book.specs.declared.entries.Entry.{Entry}
use Rattle.book.specs.declared.entries.Kind.{Kind}
use Rattle.book.specs.declared.entries.Kind.TheVariants.{Trade, Auction, Leg, Spread, Quote}
use Rattle.book.specs.declared.figures.Last.{Last}
use Rattle.book.specs.declared.figures.Sides.{Sides}

-- ---- what an entry has for each last figure, by its kind

abbrev pub trade_price : Kind → Option ℤ
trade_price (Trade p n) = Some p
trade_price (Auction p n) = Some p
trade_price (Leg p n) = None
trade_price (Spread v) = None
trade_price (Quote b a) = None

abbrev pub auction_price : Kind → Option ℤ
auction_price (Trade p n) = None
auction_price (Auction p n) = Some p
auction_price (Leg p n) = None
auction_price (Spread v) = None
auction_price (Quote b a) = None

abbrev pub spread_value : Kind → Option ℤ
spread_value (Trade p n) = None
spread_value (Auction p n) = None
spread_value (Leg p n) = None
spread_value (Spread v) = Some v
spread_value (Quote b a) = None

abbrev pub quote_sides : Kind → Option Sides
quote_sides (Trade p n) = None
quote_sides (Auction p n) = None
quote_sides (Leg p n) = None
quote_sides (Spread v) = None
quote_sides (Quote b a) = Some (record { bid = b; ask = a })

-- ---- last figures

-- what an entry has for the figure of a series and of a window with these edges
abbrev pub pick : {V : Type 0} → (Kind → Option V) → ℕ → ℤ × ℤ → Entry → Option V
pick has s x e = cond (concerns s x e) (has e.kind) None

-- an entry taken for the figure, with its stamp and value: none for it that came before has a later stamp, and none that
-- came after has as late a one
pub record StandsLast {V : Type 0} (picked : Entry → Option V) (es : List Entry) (o : Last V) : Type 0 where
  pub front : List Entry
  pub entry : Entry
  pub rest : List Entry
  pub stands : es ≡ front ++ (entry ∷ rest)
  pub value : picked entry ≡ Some o.value
  pub stamp : entry.stamp ≡ o.stamp
  pub before : AllByRecursion (λ e. is_some (picked e) ≡ true → e.stamp ≤ℤ o.stamp) front
  pub since : AllByRecursion (λ e. is_some (picked e) ≡ true → e.stamp <ℤ o.stamp) rest

-- nothing is last where no entry was taken for the figure
abbrev pub LastOf : {V : Type 0} → (Entry → Option V) → List Entry → Option (Last V) → Type 0
LastOf picked es None = AllByRecursion (λ e. picked e ≡ None) es
LastOf picked es (Some o) = StandsLast picked es o

-- ---- sums

abbrev pub total : (Entry → ℤ) → List Entry → ℤ
total g [] = pos 0
total g (e ∷ es) = g e +ℤ total g es

-- the trades and auctions of a series and a window
abbrev pub trades : ℕ → ℤ × ℤ → List Entry → List Entry
trades s x es = filter (λ e. is_some (pick trade_price s x e)) es

abbrev pub lots_of : Kind → ℤ
lots_of (Trade p n) = n
lots_of (Auction p n) = n
lots_of (Leg p n) = n
lots_of (Spread v) = pos 0
lots_of (Quote b a) = pos 0

abbrev pub worth_of : Kind → ℤ
worth_of (Trade p n) = p *ℤ n
worth_of (Auction p n) = p *ℤ n
worth_of (Leg p n) = p *ℤ n
worth_of (Spread v) = pos 0
worth_of (Quote b a) = pos 0

-- ---- what figures depend on

abbrev pub no_leg : Kind → Bool
no_leg (Trade p n) = true
no_leg (Auction p n) = true
no_leg (Leg p n) = false
no_leg (Spread v) = true
no_leg (Quote b a) = true

-- the entries for a series, legs aside
abbrev pub own_entries : ℕ → List Entry → List Entry
own_entries s es = filter (λ e. is_series s e.series && no_leg e.kind) es

-- ---- all of it, for the meaning of a book that took these entries, and no other, since it was new

pub record Evidence (m : Ledger) (es : List Entry) : Type 0 where
  pub count : m.count ≡ length es
  pub trade : (s w : ℕ) → LastOf (pick trade_price s (edges m.day w)) es (m.figures s w).trade
  pub auction : (s w : ℕ) → LastOf (pick auction_price s (edges m.day w)) es (m.figures s w).auction
  pub spread : (s w : ℕ) → LastOf (pick spread_value s (edges m.day w)) es (m.figures s w).spread
  pub quote : (s w : ℕ) → LastOf (pick quote_sides s (edges m.day w)) es (m.figures s w).quote
  pub lots : (s w : ℕ) → (m.figures s w).lots ≡ total (λ e. lots_of e.kind) (trades s (edges m.day w) es)
  pub money : (s w : ℕ) → (m.figures s w).money ≡ total (λ e. worth_of e.kind) (trades s (edges m.day w) es)
  pub own : (s w : ℕ) (others : List Entry) → own_entries s others ≡ own_entries s es → figures_of m.day others s w ≡ m.figures s w
