-- What each call over the cells comes to once its tests are decided, for a run of c cells.
-- Assumes nothing.
use Prim.Native.Nat.{ℕ}
use mathlib.Core.Path.{◌≡◌}
use mathlib.Core.Bool.{true}
use mathlib.Core.List.{List}
use mathlib.Core.Option.{none, some}
use lib.ListN.{length, get_or, set}
use borrow.Author.Tests.{eq-eqb, ne_eqb}
use Rattle.refusal.specs.Said.{answers, refuses}
use Rattle.ring_buffer.specs.Ring.{blank, well_formed, before, grown_back, grown_front, popped, blanked, leaves, push_back, push_front, pop_front, front, clear}
use Rattle.ring_buffer.specs.declared.AckData.{AckData}
use Rattle.ring_buffer.specs.declared.RingBuffer.{RingBuffer}

module _ (g : RingBuffer) (ys : List AckData) (c : ℕ) (e : length ys ≡ c) (w : well_formed g c ≡ true) where
  module _ (full : g.len ≡ c) (a : AckData) where
    pub back_full : push_back g ys a ≡ leaves (answers (some a)) g ys
    back_full = simp (e, w, eq-eqb g.len c full)

    pub front-full : push_front g ys a ≡ leaves (answers (some a)) g ys
    front-full = simp (e, w, eq-eqb g.len c full)

  module _ (free : g.len ≡ c → ⊥) (a : AckData) where
    pub back_stored : push_back g ys a ≡ leaves (answers none) (grown_back g c) (set ys g.tail a)
    back_stored = simp (e, w, ne_eqb g.len c free)

    pub front-stored : push_front g ys a ≡ leaves (answers none) (grown_front g c) (set ys (before c g.head) a)
    front-stored = simp (e, w, ne_eqb g.len c free)

  module _ (none : g.len ≡ 0) where
    pub pop_empty : pop_front g ys ≡ leaves (refuses 8) g ys
    pop_empty = simp (e, w, eq-eqb g.len 0 none)

  module _ (held : g.len ≡ 0 → ⊥) where
    pub pop_held : pop_front g ys ≡ leaves (answers (get_or ys g.head blank)) (popped g c 1) (set ys g.head blank)
    pop_held = simp (e, w, ne_eqb g.len 0 held)

    pub peek_held : front g ys ≡ answers (get_or ys g.head blank)
    peek_held = simp (e, w, ne_eqb g.len 0 held)

  pub clear_well : clear g ys ≡ leaves (answers tt) (popped g c g.len) (blanked g.head g.len ys)
  clear_well = simp (e, w)
