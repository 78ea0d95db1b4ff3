-- Lines and their fields, as bytes.
use Rattle.std.specs.Prelude.{ℕ, cond, List, [], ◌∷◌, ◌++◌, drop, ◌==◌}

-- the fields with a space before each
abbrev pub trailed : List (List ℕ) → List ℕ
trailed [] = []
trailed (f ∷ fs) = 32 ∷ (f ++ trailed fs)

-- the fields with exactly one space between two
abbrev pub spaced : List (List ℕ) → List ℕ
spaced [] = []
spaced (f ∷ fs) = f ++ trailed fs

abbrev pub onto : ℕ → List (List ℕ) → List (List ℕ)
onto b [] = (b ∷ []) ∷ []
onto b (f ∷ fs) = (b ∷ f) ∷ fs

-- a line cut at every space; an empty line is one empty field
abbrev pub fields : List ℕ → List (List ℕ)
fields [] = [] ∷ []
fields (b ∷ bs) = cond (b == 32) ([] ∷ fields bs) (onto b (fields bs))

-- the fields that follow the end of a field, where a space stands or the line ends
abbrev pub fields_after : List ℕ → List (List ℕ)
fields_after [] = []
fields_after (b ∷ bs) = fields bs

abbrev pub left_at : List ℕ → ℕ → List (List ℕ)
left_at line at = fields_after (drop at line)
