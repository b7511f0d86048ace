-- A FIN's number: document 01, "Closing". Reference: `reserve_close_packet_num`.
use Rattle.std.specs.Prelude.{ℕ, ◌+◌, [], ◌∷◌, leb}
use Rattle.refusal.specs.Said.{Said, answers, refuses, checks}
use Rattle.lists.specs.Numbers.{largest}

-- "a FIN's number is the next packet number, which then rises by 1 (9 at 2^64 − 1)": the number, and the next one
abbrev pub reserving : ℕ → Said (ℕ × ℕ)
reserving next = checks ((leb largest next, 9) ∷ []) refuses (answers (next, next + 1))
