-- Numbers that rise, as the tests of refusal 12 ask of numbers that a state holds.
use Rattle.std.specs.Prelude.{ℕ, Bool, true, ◌&&◌, List, [], ◌∷◌, ltb}

-- each number is below the next
unfoldable pub rising : List ℕ → Bool
rising [] = true
rising (x ∷ []) = true
rising (x ∷ y ∷ ys) = ltb x y && rising (y ∷ ys)
