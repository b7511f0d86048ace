-- A ring whose records are popped one after the other: what holds after k pops, and of one more.
-- Assumes nothing.
use Prim.Native.Nat.{ℕ, suc, ◌+◌, ◌<◌, ◌≤◌}
use native.Mathlib.Numerals.{add-one}
use native.Mathlib.Omega.{arith}
use mathlib.Core.Path.{◌≡◌, refl, sym, ap, ◌∙◌}
use mathlib.Core.Bool.{true}
use mathlib.Core.List.{List}
use lib.ListN.{length, get_or, set}
use Rattle.refusal.specs.Said.{answers}
use Rattle.ring_buffer.specs.Ring.{blank, well_formed, contents, popped, blanked, Outcome, leaves, pop_front}
use Rattle.ring_buffer.specs.Places.{popped_by}
use Rattle.ring_buffer.specs.Views.{leaving, SameLent}
use Rattle.ring_buffer.specs.declared.AckData.{AckData}
use Rattle.ring_buffer.specs.declared.RingBuffer.{RingBuffer}
use Rattle.ring_buffer.specs.declared.RingViewMut.{RingViewMut}
use Rattle.ring_buffer.proofs.Blanked.{length-blanked, blanked_none}
use Rattle.ring_buffer.proofs.Cases.{pop_held}
use Rattle.ring_buffer.proofs.Laws.{popped_keeps, pop_again}
use Rattle.ring_buffer.proofs.Positions.{popped_none, popped_by_is}

-- one record popped by the functions that decide by value
pub popped_front : (g : RingBuffer) (ys : List AckData) → well_formed g (length ys) ≡ true → 0 < g.len → leaves (answers (get_or ys g.head blank)) (popped_by g (length ys) 1) (set ys g.head blank) ≡ pop_front g ys
popped_front g ys w some = rw (popped_by_is g (length ys) w 1 (omega arith)) (sym (pop_held g ys (length ys) refl w (λ z. omega arith)))

-- v is well formed, and w is v with its k first records popped
pub record Popped (k : ℕ) (v w : RingViewMut) : Type 0 where
  pub lent : SameLent v w
  pub well : well_formed v.state (length v.records.now) ≡ true
  pub ring : w.state ≡ popped v.state (length v.records.now) k
  pub cells : w.records.now ≡ blanked v.state.head k v.records.now

pub none_popped : (v : RingViewMut) → well_formed v.state (length v.records.now) ≡ true → Popped 0 v v
none_popped v well = record { lent = refl; well = well; ring = sym (popped_none v.state (length v.records.now) well); cells = blanked_none v.state.head v.records.now }

module _ (k : ℕ) (v w : RingViewMut) (so_far : Popped k v w) where
  pub popped_well : k ≤ v.state.len → well_formed w.state (length w.records.now) ≡ true
  popped_well few = rw (so_far.ring, so_far.cells, length-blanked v.state.head k v.records.now) (popped_keeps v.state v.records.now so_far.well k few)

  module _ (left_over : k < v.state.len) where
    pub popped_held : 0 < w.state.len
    popped_held = rw so_far.ring (omega arith)

    module _ (x : RingViewMut) (a : AckData) (same : SameLent w x) (one : leaving (answers a) x ≡ pop_front w.state w.records.now) where
      step : leaving (answers a) x ≡ leaves (answers (get_or (contents v.state v.records.now) k blank)) (popped v.state (length v.records.now) (suc k)) (blanked v.state.head (suc k) v.records.now)
      step = one ∙ rw (so_far.ring, so_far.cells) (pop_again v.state v.records.now so_far.well k left_over)

      pub popped_next : Popped (k + 1) v x
      popped_next = record {
        lent = same ∙ so_far.lent;
        well = so_far.well;
        ring = rw add-one (ap (λ (o : Outcome AckData). o.ring) step);
        cells = rw add-one (ap (λ (o : Outcome AckData). o.cells) step);
      }

      pub popped_record : a ≡ get_or (contents v.state v.records.now) k blank
      popped_record = let e = ap (λ (o : Outcome AckData). o.said) step in cc
