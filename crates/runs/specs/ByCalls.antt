-- What calls tell of the phase, of the series and of the book, read oldest first. They are meant of calls that were taken.
use Rattle.std.specs.Prelude.{ℕ, cond, List, [], ◌∷◌, ℤ, Some, None, fold, Option, slice_index_or}
use Rattle.std.specs.List.{flat_map}
use Rattle.book.specs.Figures.{is_series}
use Rattle.book.specs.declared.entries.Entry.{Entry}
use Rattle.rows.specs.Families.{family_of}
use Rattle.rows.specs.declared.families.Family.{Family}
use Rattle.house.specs.Calls.{ruling_of}
use Rattle.house.specs.Series.{blank}
use Rattle.house.specs.Terms.{terms_of}
use Rattle.house.specs.declared.phases.Bell.{Bell}
use Rattle.house.specs.declared.phases.Bell.TheVariants as bells
use Rattle.house.specs.declared.phases.Phase.{Phase}
use Rattle.house.specs.declared.phases.Phase.TheVariants as phases
use Rattle.house.specs.declared.series.Ruling.{Ruling}
use Rattle.house.specs.declared.series.Series.{Series}
use Rattle.house.specs.declared.terms.Listing.{Listing}
use Rattle.house.specs.declared.terms.Terms.{Terms}
use Rattle.calls.specs.declared.call.Call.{Call}
use Rattle.calls.specs.declared.call.Call.TheVariants.{List as ListCall, Ring, Enter, SetTheory, SetRuling, Settle}

-- ---- the phase

-- the open bell begins trading, and the close bell ends it
abbrev pub phase_by : Bell → Phase
phase_by bells.Open = phases.Trading
phase_by bells.Close = phases.Closed

-- what a call leaves of the phase
abbrev pub phase_next : Phase → Call → Phase
phase_next before (ListCall t) = before
phase_next before (Ring b) = phase_by b
phase_next before (Enter e) = before
phase_next before (SetTheory m value) = before
phase_next before (SetRuling m value first) = before
phase_next before (Settle m edition) = before

-- the phase that the last bell left; at first listing
abbrev pub phase_after : List Call → Phase
phase_after calls = fold phase_next phases.Listing calls

-- ---- the series listed

-- a listing without a family, which is never taken, reads as blank terms
abbrev pub terms_by : Option Family → Listing → Terms
terms_by None t = blank.terms
terms_by (Some f) t = terms_of f t

abbrev pub terms_in : Call → List Terms
terms_in (ListCall t) = terms_by (family_of t.family) t ∷ []
terms_in (Ring b) = []
terms_in (Enter e) = []
terms_in (SetTheory m value) = []
terms_in (SetRuling m value first) = []
terms_in (Settle m edition) = []

-- the terms of the listings, in their order
abbrev pub terms_listed : List Call → List Terms
terms_listed calls = flat_map terms_in calls

-- ---- the values supplied

-- what a call leaves of the theory value of the series numbered n
abbrev pub theory_next : ℕ → Option ℤ → Call → Option ℤ
theory_next n before (ListCall t) = before
theory_next n before (Ring b) = before
theory_next n before (Enter e) = before
theory_next n before (SetTheory m value) = cond (is_series n m) value before
theory_next n before (SetRuling m value first) = before
theory_next n before (Settle m edition) = before

-- the value that the last call for its theory value left; at first it is missing
abbrev pub last_theory : ℕ → List Call → Option ℤ
last_theory n calls = fold (theory_next n) None calls

-- what a call leaves of the ruling of the series numbered n
abbrev pub ruling_next : ℕ → Option Ruling → Call → Option Ruling
ruling_next n before (ListCall t) = before
ruling_next n before (Ring b) = before
ruling_next n before (Enter e) = before
ruling_next n before (SetTheory m value) = before
ruling_next n before (SetRuling m value first) = cond (is_series n m) (ruling_of value first) before
ruling_next n before (Settle m edition) = before

-- the ruling that the last call for it left; at first it is missing
abbrev pub last_ruling : ℕ → List Call → Option Ruling
last_ruling n calls = fold (ruling_next n) None calls

-- ---- the series and the book

-- the series numbered n after the calls: the terms of its listing, and what was last supplied
abbrev pub series_after : List Call → ℕ → Series
series_after calls n = record {
  terms = slice_index_or (terms_listed calls) n blank.terms;
  theory = last_theory n calls;
  ruling = last_ruling n calls;
}

abbrev pub entries_in : Call → List Entry
entries_in (ListCall t) = []
entries_in (Ring b) = []
entries_in (Enter e) = e ∷ []
entries_in (SetTheory m value) = []
entries_in (SetRuling m value first) = []
entries_in (Settle m edition) = []

-- the entries, in their order
abbrev pub entries : List Call → List Entry
entries calls = flat_map entries_in calls
