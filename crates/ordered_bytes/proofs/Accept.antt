-- Accepting in the code's steps: the first two refusals, and for a number that has a slot what is left to check, on the lent lists.
-- Assumes nothing.
use Prim.Native.Nat.{ℕ, ◌-◌, ◌≤◌, ◌<◌}
use mathlib.Core.Path.{◌≡◌}
use mathlib.Core.Bool.{true, false}
use mathlib.Core.Option.{none}
use mathlib.Core.List.{List, [], ◌∷◌}
use lib.ListN.{length, get_or}
use lib.Dec.{ltb, eqb}
use borrow.Author.Tests.{lt-ltb, le-ltb, le-leb, lt-leb}
use Rattle.refusal.specs.Said.{answers, refuses, checks}
use Rattle.lists.specs.Numbers.{largest}
use Rattle.ordered_bytes.specs.Buffer.{Buffer, slots, width, slot_at, well_formed, stored}
use Rattle.ordered_bytes.specs.Calls.{Acceptance, ack_with, accepting}
use Rattle.ordered_bytes.proofs.View.{length-held}
use Rattle.ordered_bytes.proofs.Places.{view-front, view-width, mark_at}

-- what is left to check of a number that has a slot, and what is left then
abbrev pub accepting_in : ℕ → Buffer → ℕ → List ℕ → Acceptance
accepting_in slot b n payload =
    checks ((eqb n largest, 9) ∷ (get_or b.marks slot false, 7) ∷ (ltb (width b) (length payload), 11) ∷ [])
    (λ r. record { said = refuses r; ack = none; buffer = b })
    (record { said = answers tt; ack = none; buffer = stored b slot payload })

module _ (b : Buffer) (n : ℕ) (payload : List ℕ) (well : well_formed b ≡ true) where
  -- all stays as it was
  abbrev pub refused_with : ℕ → Acceptance
  refused_with r = record { said = refuses r; ack = ack_with r n; buffer = b }

  pub accepting_below : n < b.state.front_number → accepting b n payload ≡ refused_with 5
  unfolding accepting
  accepting_below below = simp (well, view-front b, lt-ltb _ _ below)

  pub accepting_beyond : b.state.front_number ≤ n → slots b ≤ n - b.state.front_number → accepting b n payload ≡ refused_with 6
  unfolding accepting
  accepting_beyond low far = simp (well, view-front b, length-held b, le-ltb _ _ low, le-leb _ _ far)

  -- in the slot at its distance
  pub accepting_near : b.state.front_number ≤ n → n - b.state.front_number < slots b → accepting b n payload ≡ accepting_in (slot_at b (n - b.state.front_number)) b n payload
  unfolding accepting
  accepting_near low near = simp (well, view-front b, view-width b, length-held b, le-ltb _ _ low, lt-leb _ _ near, mark_at b near)
