-- The tests over the marks: whether something is held from a distance on, and that refusal 12 looks only at the distances where a number is too large.
-- Assumes nothing.
use Prim.Native.Nat.{ℕ, zero, suc, ◌+◌, ◌-◌, ◌≤◌, ◌<◌}
use mathlib.Core.Path.{◌≡◌, refl, sym, ap, ◌∙◌}
use mathlib.Core.Bool.{Bool, true, false, not, ◌&&◌, ◌||◌, or-true, or-false}
use mathlib.Core.Option.{Option, none}
use mathlib.Core.List.{List, [], ◌∷◌}
use native.Mathlib.Omega.{arith}
use native.Mathlib.Numerals.{add-one}
use lib.ListN.{length, drop, get_or, drop_of_length-le}
use lib.Seq.{drop-cons, drop-nil}
use borrow.Author.Tests.{lt-ltb, le-ltb}
use Rattle.std.specs.List.{list_any, range_with_len}
use Rattle.lists.specs.Numbers.{largest}
use Rattle.ordered_bytes.specs.Receiver.{is_held, any_held, numbers_fit}
use Rattle.ordered_bytes.specs.Buffer.{Buffer, slots, slot_at, view}
use Rattle.lists.proofs.Order.{either}
use Rattle.ordered_bytes.proofs.View.{length-held}
use Rattle.ordered_bytes.proofs.Places.{mark_at}

-- ---- the marks

any_step : (d : ℕ) (h : List (Option (List ℕ))) → d < length h → any_held (drop d h) ≡ (is_held (get_or h d none) || any_held (drop (d + 1) h))
unfolding any_held
any_step d h l = ap any_held (drop-cons h d none l) ∙ rw add-one

any_past : (d : ℕ) (h : List (Option (List ℕ))) → length h ≤ d → any_held (drop d h) ≡ false
unfolding any_held
any_past d h l = rw (drop_of_length-le h l)

-- the marks of the slots from a distance on
pub any_marked : (b : Buffer) (d k : ℕ) → slots b - d ≡ k
    → list_any (λ i. get_or b.marks (slot_at b i) false) (range_with_len d k) ≡ any_held (drop d (view b).held)
any_marked b d zero e = sym (any_past d (view b).held (omega (arith, length-held b)))
any_marked b d (suc k) e =
    let more : d < slots b = omega arith in
    rw (any_step d (view b).held (omega (arith, length-held b)), mark_at b more, ← any_marked b (d + 1) k (omega arith))

-- ---- numbers above 2^64 − 2 stand at the distances from 2^64 − 1 − front on

not_or : (a b : Bool) → (not a && not b) ≡ not (a || b)
not_or true b = refl
not_or false b = refl

none_fits : (n : ℕ) (h : List (Option (List ℕ))) → largest ≤ n → numbers_fit n h ≡ not (any_held h)
unfolding numbers_fit any_held
none_fits n [] l = refl
none_fits n (p ∷ h) l = rw (le-ltb n largest l, or-false (not (is_held p)), none_fits (suc n) h (omega arith)) (not_or (is_held p) (any_held h))

pub fit_late : (n : ℕ) (h : List (Option (List ℕ))) → numbers_fit n h ≡ not (any_held (drop (largest - n) h))
unfolding numbers_fit any_held
fit_late n [] = rw (drop-nil (largest - n))
fit_late n (p ∷ h) =
    either largest n
    (λ late. let z : largest - n ≡ 0 = omega arith in rw z (none_fits n (p ∷ h) late))
    (λ early.
    let z : largest - n ≡ suc (largest - suc n) = omega arith in
    rw (z, lt-ltb n largest early, or-true (not (is_held p))) (fit_late (suc n) h))
