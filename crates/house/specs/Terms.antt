-- The terms of a series: its family, its ladder, an earlier series that it refers to, the previous settlement and spread, and
-- two marks.
use Rattle.std.specs.Prelude.{ℕ, Bool, true, cond, not, ◌&&◌, ◌||◌, ℤ, pos, Some, None, Ok, Err, Option, Result, ◌==◌, int_le, int_lt, unsigned_abs}
use Rattle.book.specs.Entries.{side_lawful, spread_lawful}
use Rattle.rows.specs.Families.{family_of, number}
use Rattle.rows.specs.declared.families.Family.{Family}
use Rattle.house.specs.declared.faults.HouseFault.{HouseFault}
use Rattle.house.specs.declared.faults.HouseFault.TheVariants.{TermsNotLawful}
use Rattle.house.specs.declared.terms.Listing.{Listing}
use Rattle.house.specs.declared.terms.Terms.{Terms}

-- families 2, 4 and 8 need a reference, and 13 may have one
abbrev pub must_refer : Family → Bool
must_refer f = number f == 2 || (number f == 4 || number f == 8)

abbrev pub may_refer : Family → Bool
may_refer f = must_refer f || number f == 13

-- only family 2 follows its reference by a spread
abbrev pub follows : Family → Bool
follows f = number f == 2

-- one of so many that are numbered from 0
abbrev pub is_under : ℕ → ℤ → Bool
is_under count n = int_le (pos 0) n && int_lt n (pos count)

-- the reference of the series numbered n is an earlier series
abbrev pub lawful_reference : Family → ℕ → Option ℤ → Bool
lawful_reference f n None = not (must_refer f)
lawful_reference f n (Some r) = may_refer f && is_under n r

abbrev pub lawful_spread : Family → Option ℤ → Bool
lawful_spread f None = true
lawful_spread f (Some v) = follows f && spread_lawful v

-- reference, previous settlement and previous spread of the series numbered n
abbrev pub lawful_terms : Family → ℕ → Option ℤ → Option ℤ → Option ℤ → Bool
lawful_terms f n reference previous_settlement previous_spread =
    lawful_reference f n reference && (side_lawful previous_settlement && lawful_spread f previous_spread)

abbrev pub is_ladder : ℕ → ℤ → Bool
is_ladder ladders l = is_under ladders l

-- a checked number as it is kept
abbrev pub natural_if : Option ℤ → Option ℕ
natural_if None = None
natural_if (Some r) = Some (unsigned_abs r)

abbrev pub terms_of : Family → Listing → Terms
terms_of f t = record {
  family = f;
  ladder = unsigned_abs t.ladder;
  reference = natural_if t.reference;
  previous_settlement = t.previous_settlement;
  previous_spread = t.previous_spread;
  marks = t.marks;
}

abbrev pub checked_for : Option Family → ℕ → ℕ → Listing → Result Terms HouseFault
checked_for None n ladders t = Err TermsNotLawful
checked_for (Some f) n ladders t =
    cond (is_ladder ladders t.ladder && lawful_terms f n t.reference t.previous_settlement t.previous_spread) (Ok (terms_of f t)) (Err TermsNotLawful)

-- the terms of the series numbered n, over a set of so many ladders; they are lawful as a whole or refused
abbrev pub checked : ℕ → ℕ → Listing → Result Terms HouseFault
checked n ladders t = checked_for (family_of t.family) n ladders t
