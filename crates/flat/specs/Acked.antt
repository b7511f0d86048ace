-- The window's answers as a host has them: the window to go on with stands in each, refused or not.
use Rattle.std.specs.Prelude.{ℕ, List}
use Rattle.std.proofs.Math.Option.{Option, none, some}
use Rattle.refusal.specs.Said.{Said, refusal_in}
use Rattle.window.specs.Window.{Outcome}
use Rattle.window.specs.declared.SlidingWindow.{SlidingWindow}
use Rattle.flat.specs.declared.acked.Inserted.{Inserted}
use Rattle.flat.specs.declared.acked.Run.{Run}
use Rattle.flat.specs.Answers.{value_or}

abbrev pub inserted_of : Said Unit → SlidingWindow → Inserted
inserted_of s w = record { window = w; refusal = refusal_in s }

-- a run's last number and its length; both 0 for none
abbrev pub last_in : Option (ℕ × ℕ) → ℕ
last_in none = 0
last_in (some run) = run.0

abbrev pub length_in : Option (ℕ × ℕ) → ℕ
length_in none = 0
length_in (some run) = run.1

abbrev pub run_of : Said (Option (ℕ × ℕ)) → SlidingWindow → Run
run_of s w = record { window = w; last = value_or 0 last_in s; length = value_or 0 length_in s; refusal = refusal_in s }

-- what is said and the window left as one answer, beside the cells left
abbrev pub flat_outcome : {A R : Type 0} → (Said A → SlidingWindow → R) → Outcome A → R × List ℕ
flat_outcome f o = (f o.0 o.1, o.2)
