-- What writing into a buffer gives.
use Rattle.std.specs.Prelude.{◌≡◌, ℕ, ◌+◌, ◌<◌, ◌≤◌, List, ◌++◌, length, take, drop, Ok, Err, Result}
use Rattle.answers.specs.declared.faults.LineFault.{LineFault}
use Rattle.answers.specs.declared.faults.LineFault.TheVariants.{ShortBuffer}
use Rattle.answers.specs.Texts.{OneLine}

-- a buffer of fewer than 96 bytes stays as it was; else the text stands at its front, its length is told, and the bytes after
-- it are as they were
pub record Replied (text old : List ℕ) (r : Result ℕ LineFault) (new : List ℕ) : Type 0 where
  pub short : length old < 96 → (r ≡ Err ShortBuffer) × (new ≡ old)
  pub long : 96 ≤ length old → (r ≡ Ok (length text)) × (new ≡ text ++ drop (length text) old)

-- ---- pieces of a text, on the way

-- the bytes stand from a place to an end, and all else is as it was
pub record PutAt (old : List ℕ) (at : ℕ) (bytes new : List ℕ) (end : ℕ) : Type 0 where
  pub ends : end ≡ at + length bytes
  pub front : take end new ≡ take at old ++ bytes
  pub rest : drop end new ≡ drop end old

-- the buffer begins with a text of one line, of at most 96 bytes, and all else is as it was
pub record Begins (old text new : List ℕ) (end : ℕ) : Type 0 where
  pub added : PutAt old 0 text new end
  pub short : end ≤ 96
  pub one_line : OneLine text
