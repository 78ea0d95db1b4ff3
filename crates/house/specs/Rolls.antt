-- The listed series by their numbers.
use Rattle.std.specs.Prelude.{ℕ, ◌+◌, ◌<◌, Bool, cond, List, ℤ, ◌==◌, slice_index_or}
use Rattle.house.specs.Series.{blank, new_series}
use Rattle.house.specs.Terms.{is_under}
use Rattle.house.specs.declared.series.Series.{Series}
use Rattle.house.specs.declared.terms.Terms.{Terms}

-- how many are listed, and the series of each number; in a house every number from `count` on has the blank one
pub record Roll : Type 0 where
  pub count : ℕ
  pub series : ℕ → Series

-- a list's series by their numbers, blank past its end, of which `count` are listed
abbrev pub roll : ℕ → List Series → Roll
roll count slots = record { count = count; series = λ n. slice_index_or slots n blank }

-- every series has one of so many ladders, numbered from 0; the blank one has ladder 0
abbrev pub OnLadders : ℕ → Roll → Type 0
OnLadders ladders r = (n : ℕ) → (r.series n).terms.ladder < ladders

abbrev pub none_listed : Roll
none_listed = record { count = 0; series = λ n. blank }

-- whether a number is that of a listed series
abbrev pub is_listed : ℕ → ℤ → Bool
is_listed count n = is_under count n

-- one series stands at a number, and all else as it was
abbrev pub placed : ℕ → Series → (ℕ → Series) → ℕ → Series
placed k s all n = cond (n == k) s (all n)

-- the next series is listed
abbrev pub with_listed : Terms → Roll → Roll
with_listed t r = record { count = r.count + 1; series = placed r.count (new_series t) r.series }

-- the series of a number is changed
abbrev pub changed : ℕ → Series → Roll → Roll
changed k s r = record { count = r.count; series = placed k s r.series }
