-- How a call's answer goes to a host, as numbers side by side: what the definition says, written flat.
use Rattle.std.specs.Prelude.{ℕ}
use Rattle.refusal.specs.Said.{Said, answers, refuses, refuses_at}

-- the cursor, or 0 where none is given
abbrev pub cursor_in : {A : Type 0} → Said A → ℕ
cursor_in (answers a) = 0
cursor_in (refuses n) = 0
cursor_in (refuses_at n at) = at

-- what is taken from the values; where the call is refused, `none` in its place
abbrev pub value_or : {A B : Type 0} → B → (A → B) → Said A → B
value_or none f (answers a) = f a
value_or none f (refuses n) = none
value_or none f (refuses_at n at) = none

-- the answer in another form, beside what is left
abbrev pub first_by : {A B L : Type 0} → (A → B) → A × L → B × L
first_by f p = (f p.0, p.1)
