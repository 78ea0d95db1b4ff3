-- Entries with trades, auctions and spreads added.
use Rattle.std.specs.Prelude.{◌≡◌, Bool, true, false, ◌⊎◌, List, [], ◌∷◌}
use Rattle.std.specs.List.{AllByRecursion}
use Rattle.book.specs.declared.entries.Entry.{Entry}
use Rattle.book.specs.declared.entries.Kind.{Kind}
use Rattle.book.specs.declared.entries.Kind.TheVariants.{Trade, Auction, Leg, Spread, Quote}

-- whether an entry is a trade, an auction or a spread
abbrev pub is_addition : Kind → Bool
is_addition (Trade p n) = true
is_addition (Auction p n) = true
is_addition (Leg p n) = false
is_addition (Spread v) = true
is_addition (Quote b a) = false

-- the first entries stand among the second in their order, and the rest there are trades, auctions or spreads
abbrev pub Among : List Entry → List Entry → Type 0
Among [] fs = AllByRecursion (λ f. is_addition f.kind ≡ true) fs
Among (e ∷ es) [] = ⊥
Among (e ∷ es) (f ∷ fs) = ((e ≡ f) × Among es fs) ⊎ ((is_addition f.kind ≡ true) × Among (e ∷ es) fs)
