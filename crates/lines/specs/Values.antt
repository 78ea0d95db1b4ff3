-- How values are written.
use Rattle.std.specs.Prelude.{◌≡◌, ℕ, ◌+◌, ◌^◌, ◌<◌, Bool, true, false, List, [], ◌∷◌, ℤ, Some, None, decimal, Option, ◌≢◌, unsigned_abs}
use Rattle.std.specs.Str.Parse.{AllDigits, digits_value}
use Rattle.std.specs.Fmt.{signed_decimal}
use Rattle.lines.specs.declared.classes.ByteClass.{ByteClass}
use Rattle.lines.specs.declared.classes.ByteClass.TheVariants.{Digit, Minus, Space, Other}

-- what a byte is: a digit `0` to `9`, a minus, a space, or none of these
abbrev pub Classed : ℕ → ByteClass → Type 0
Classed b (Digit d) = (b ≡ 48 + d) × (d < 10)
Classed b Minus = b ≡ 45
Classed b Space = b ≡ 32
Classed b Other = ((d : ℕ) → d < 10 → b ≢ 48 + d) × (b ≢ 45) × (b ≢ 32)

-- the bytes are digits of the value, or some byte is no digit
abbrev pub Valued : List ℕ → Option ℕ → Type 0
Valued ds (Some n) = AllDigits 10 ds × (n ≡ digits_value 10 ds)
Valued ds None = AllDigits 10 ds → ⊥

-- the bytes are how a number of at most ten digits is written, or no such number is written so
abbrev pub Numbered : List ℕ → Option ℕ → Type 0
Numbered ds (Some n) = (n < 10 ^ 10) × (ds ≡ decimal n)
Numbered ds None = (n : ℕ) → n < 10 ^ 10 → ds ≢ decimal n

-- a value has at most ten digits
abbrev pub Brief : ℤ → Type 0
Brief z = unsigned_abs z < 10 ^ 10

abbrev pub BriefIf : Option ℤ → Type 0
BriefIf None = Unit {0}
BriefIf (Some z) = Brief z

-- one minus alone means missing
abbrev pub signed_if : Option ℤ → List ℕ
signed_if None = 45 ∷ []
signed_if (Some z) = signed_decimal z

-- a mark is `1` or `0`
abbrev pub mark : Bool → List ℕ
mark true = 49 ∷ []
mark false = 48 ∷ []

-- a field is what was read; or nothing lawful is written so
abbrev pub FieldBy : {V : Type 0} → (V → List ℕ) → (V → Type 0) → List ℕ → Option V → Type 0
FieldBy spelt lawful f (Some v) = lawful v × (f ≡ spelt v)
FieldBy {V = V} spelt lawful f None = (v : V) → lawful v → f ≢ spelt v
