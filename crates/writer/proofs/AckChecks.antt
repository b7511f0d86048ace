-- What the checks of ack packing come to once they are decided.
-- Assumes nothing.
use Prim.Native.Nat.{ℕ}
use mathlib.Core.Path.{◌≡◌, refl}
use mathlib.Core.Bool.{Bool, true, false, not, ◌||◌}
use mathlib.Core.List.{List, [], ◌∷◌}
use mathlib.Core.Logic.{inl, inr}
use lib.Dec.{ltb}
use Rattle.std.proofs.lemmas.Bool.{not-false, or_parts}
use Rattle.refusal.specs.Said.{checks}
use Rattle.refusal.proofs.Checks.{Failed}
use Rattle.ring_buffer.specs.Ring.{well_formed}
use Rattle.ring_buffer.specs.declared.RingBuffer.{RingBuffer}

pub failed_is : {A : Type 0} {n : ℕ} (refused : ℕ → A) (passed : A) (cs : List (Bool × ℕ)) → Failed cs n → checks cs refused passed ≡ refused n
failed_is refused passed [] f = absurd f
failed_is refused passed (c ∷ cs) (inl p) = rw (p.0, p.1) refl
failed_is refused passed (c ∷ cs) (inr p) = rw p.0 (failed_is refused passed cs p.1)

-- past refusal 12 the ring is well formed
pub ring_well : (g : RingBuffer) (capacity used room : ℕ) → (not (well_formed g capacity) || ltb room used) ≡ false → well_formed g capacity ≡ true
ring_well g capacity used room e = not-false _ (or_parts _ _ e).0
