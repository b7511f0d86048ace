-- The slots of the receive buffer: the shape of the lent lists, which slot stands where, and slots that are emptied.
-- Document 01, "From packets to the reader" and the refusal table.
use Rattle.std.specs.Prelude.{ℕ, zero, suc, ◌+◌, ◌-◌, ◌*◌, Bool, cond, ◌&&◌, List, length, set, ltb, leb, eqb}

-- an index below 2 N, round the ring of N slots
abbrev pub wrap : ℕ → ℕ → ℕ
wrap n i = cond (ltb i n) i (i - n)

-- the k slots from i on, round a ring of n, each set to x
abbrev pub cleared : {A : Type 0} → ℕ → ℕ → ℕ → A → List A → List A
cleared n i zero x l = l
cleared n i (suc k) x l = cleared n (wrap n (i + 1)) k x (set l i x)

-- ---- refusal 12

abbrev pub between : ℕ → ℕ → ℕ → Bool
between least most n = leb least n && leb n most

-- "N slots (1 to 2,000 ..), each W bytes wide (1 to 65,535), in a lent store of (N + 1) × W bytes": what `new` asks
abbrev pub shape_fits : ℕ → List Bool → List ℕ → List ℕ → Bool
shape_fits w marks lengths store =
    between 1 2000 (length marks) && (between 1 65535 w && (eqb (length lengths) (length marks) && eqb (length store) ((length marks + 1) * w)))
