-- A fraction n / d, given as a pair of a whole number and a natural number.
use Rattle.std.specs.Prelude.{ℕ, Bool, ◌&&◌, ℤ, pos, negsuc, ◌*ℤ◌, neg_ℤ, int_le, nat_lt}
use Rattle.std.specs.Int.{int_div_euclid}

-- d is not 0, and the fraction lies from -1,000,000,000 to 1,000,000,000
abbrev pub inside : ℤ → ℕ → Bool
inside n d = nat_lt 0 d && (int_le (negsuc 999999999 *ℤ pos d) n && int_le n (pos 1000000000 *ℤ pos d))

-- the greatest whole number not over the fraction, and the least not under it
abbrev pub floor : ℤ → ℕ → ℤ
floor n d = int_div_euclid n (pos d)

abbrev pub ceiling : ℤ → ℕ → ℤ
ceiling n d = neg_ℤ (floor (neg_ℤ n) d)
