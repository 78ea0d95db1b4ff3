-- A series as the house keeps it: terms and supplied values.
use Rattle.std.specs.Prelude.{ℕ, Bool, true, false, ◌&&◌, ℤ, pos, Some, None, Option}
use Rattle.book.specs.Entries.{price_lawful, side_lawful}
use Rattle.rows.specs.declared.families.Family.{Family}
use Rattle.rows.specs.declared.families.Family.TheVariants.{LongBond}
use Rattle.house.specs.Terms.{lawful_terms}
use Rattle.house.specs.declared.series.Ruling.{Ruling}
use Rattle.house.specs.declared.series.Series.{Series}
use Rattle.house.specs.declared.terms.Terms.{Terms}

-- a series just listed: nothing was supplied yet
abbrev pub new_series : Terms → Series
new_series t = record { terms = t; theory = None; ruling = None }

-- the terms of a family with a reference or none, and nothing else
abbrev pub bare_terms : Family → Option ℕ → Terms
bare_terms f reference = record {
  family = f;
  ladder = 0;
  reference = reference;
  previous_settlement = None;
  previous_spread = None;
  marks = record { last_day = false; quarter_end = false };
}

-- what stands for a number that no listed series has
abbrev pub blank : Series
blank = new_series (bare_terms LongBond None)

abbrev pub integer_if : Option ℕ → Option ℤ
integer_if None = None
integer_if (Some r) = Some (pos r)

abbrev pub lawful_ruling : Option Ruling → Bool
lawful_ruling None = true
lawful_ruling (Some r) = price_lawful r.value

-- what holds of the series numbered n: its terms are lawful, and what was supplied lies within the price limit
abbrev pub lawful_series : ℕ → Series → Bool
lawful_series n s =
    lawful_terms s.terms.family n (integer_if s.terms.reference) s.terms.previous_settlement s.terms.previous_spread
    && (side_lawful s.theory && lawful_ruling s.ruling)
