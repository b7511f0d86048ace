-- What the contracts of src/ say of a lent window and of a consumed run, in the definitions' terms.
use Rattle.std.specs.Prelude.{◌≡◌, ℕ, Option, Some, None}
use Rattle.std.proofs.Math.Option as maybe
use Rattle.window.specs.declared.WindowViewMut.{WindowViewMut}
use Rattle.window.specs.declared.Run.{Run}

-- the same cells are lent, so that who lent them learns what they hold
abbrev pub SameLent : WindowViewMut → WindowViewMut → Type 0
SameLent a b = b.cells.ghost_name ≡ a.cells.ghost_name

-- a run's last number and its length
abbrev pub run_in : Option Run → maybe.Option (ℕ × ℕ)
run_in None = maybe.none
run_in (Some run) = maybe.some (run.last, run.length)
