-- Entries and series that differ in their prices only, each price in a relation to its counterpart; with `◌≤ℤ◌`, raised.
use Rattle.std.specs.Prelude.{◌≡◌, ℤ, ◌≤ℤ◌, Option}
use Rattle.book.specs.declared.entries.Entry.{Entry}
use Rattle.book.specs.declared.entries.Kind.{Kind}
use Rattle.book.specs.declared.entries.Kind.TheVariants.{Trade, Auction, Leg, Spread, Quote}
use Rattle.house.specs.declared.series.Ruling.{Ruling}
use Rattle.house.specs.declared.series.Series.{Series}
use Rattle.runs.specs.Relations.{Matched, Relation}

-- ---- over a relation of prices

-- the same kind with the same lots or the same spread, and each price related
abbrev pub KindBy : Relation ℤ → Relation Kind
KindBy R (Trade p n) k = (q : ℤ) × R p q × (k ≡ Trade q n)
KindBy R (Auction p n) k = (q : ℤ) × R p q × (k ≡ Auction q n)
KindBy R (Leg p n) k = (q : ℤ) × R p q × (k ≡ Leg q n)
KindBy R (Spread v) k = k ≡ Spread v
KindBy R (Quote b a) k = (c : Option ℤ) × (z : Option ℤ) × Matched R b c × Matched R a z × (k ≡ Quote c z)

-- for the same series and of the same stamp
pub record EntryBy (R : Relation ℤ) (e f : Entry) : Type 0 where
  pub series : e.series ≡ f.series
  pub stamp : e.stamp ≡ f.stamp
  pub kind : KindBy R e.kind f.kind

-- both with the first mark or both without, and the value related
pub record RulingBy (R : Relation ℤ) (r q : Ruling) : Type 0 where
  pub first : r.first ≡ q.first
  pub value : R r.value q.value

-- the same terms but for the previous settlement, which is related; a theory value and a ruling stand in both or in neither,
-- and are related
pub record SeriesBy (R : Relation ℤ) (s t : Series) : Type 0 where
  pub family : s.terms.family ≡ t.terms.family
  pub ladder : s.terms.ladder ≡ t.terms.ladder
  pub reference : s.terms.reference ≡ t.terms.reference
  pub previous_settlement : Matched R s.terms.previous_settlement t.terms.previous_settlement
  pub previous_spread : s.terms.previous_spread ≡ t.terms.previous_spread
  pub marks : s.terms.marks ≡ t.terms.marks
  pub theory : Matched R s.theory t.theory
  pub ruling : Matched (RulingBy R) s.ruling t.ruling

-- ---- raised: only prices differ, and none is lower in the second

abbrev pub EntryRaised : Relation Entry
EntryRaised = EntryBy ◌≤ℤ◌

abbrev pub SeriesRaised : Relation Series
SeriesRaised = SeriesBy ◌≤ℤ◌
