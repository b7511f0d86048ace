-- The answers of the store of outstanding packets as a host has them: the state to go on with stands in dropping's, refused or not.
use Rattle.std.specs.Prelude.{ℕ}
use Rattle.refusal.specs.Said.{Said, refusal_in}
use Rattle.outstanding.specs.declared.Outstanding.{Outstanding}
use Rattle.outstanding.specs.Outstanding.{Store}
use Rattle.flat.specs.declared.kept.Listed.{Listed}
use Rattle.flat.specs.declared.kept.Dropped.{Dropped}
use Rattle.flat.specs.Answers.{value_or}

abbrev pub listed_of : Said ℕ → Listed
listed_of s = record { packets = value_or 0 (λ n. n) s; refusal = refusal_in s }

abbrev pub dropped_of : Outstanding → Said Unit → Dropped
dropped_of o s = record { outstanding = o; refusal = refusal_in s }

-- what is said of dropping, beside the store left
abbrev pub flat_dropping : Said Unit × Store → Dropped × Store
flat_dropping d = (dropped_of d.1.state d.0, d.1)
