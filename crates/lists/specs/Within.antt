-- A list of numbers that are all within a bound: no slot's length out of range (document 01, refusal 12).
use Rattle.std.specs.Prelude.{ℕ, Bool, true, ◌&&◌, List, [], ◌∷◌, leb}

unfoldable pub all_within : ℕ → List ℕ → Bool
all_within w [] = true
all_within w (l ∷ ls) = leb l w && all_within w ls
