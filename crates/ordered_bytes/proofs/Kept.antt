-- Every call leaves a well-formed buffer well formed, and `new` makes one. So no call is refused with 12 after another.
-- Assumes nothing.
use Prim.Native.Nat.{ℕ, zero, suc, ◌+◌, ◌-◌, ◌≤◌, ◌<◌, zero-le}
use mathlib.Core.Path.{◌≡◌, refl, sym, ◌∙◌}
use mathlib.Core.Bool.{Bool, true, false, true≢false}
use mathlib.Core.Option.{Option, none, some}
use mathlib.Core.List.{List, [], ◌∷◌}
use native.Mathlib.Omega.{arith}
use native.Mathlib.Decide.{ℕ_discrete}
use native.Mathlib.Nat.{le_of_lt, add_assoc}
use lib.ListN.{length, set, get_or}
use lib.Seq.{get_or-set_same, get_or-set_other, set_out}
use Rattle.refusal.specs.Said.{answers}
use Rattle.lists.specs.Numbers.{largest}
use Rattle.lists.proofs.Pad.{get_or_all, get_d_moved}
use Rattle.lists.proofs.Order.{either}
use Rattle.ordered_bytes.specs.declared.OrderedBytes.{OrderedBytes}
use Rattle.ordered_bytes.specs.Receiver.{is_held, any_held, consumed}
use Rattle.ordered_bytes.specs.Buffer.{Buffer, slots, width, slot_at, view, well_formed, cleared, wrap, stored, taken}
use Rattle.ordered_bytes.specs.Calls.{creating, starting, accepting, consuming, consuming_bytes}
use Rattle.ordered_bytes.proofs.WellFormed.{Shaped, Good, is_good}
use Rattle.ordered_bytes.proofs.View.{fresh, view-fresh, slot_below, stored-held, taken-held}
use Rattle.ordered_bytes.proofs.Outcome.{malformed, makes, create_ways, renumbered, holds, starts, start_ways}
use Rattle.ordered_bytes.proofs.Outcome.{Acceptable, accept_case, consume_case, consume_bytes_case}
use Rattle.ordered_bytes.proofs.Sizes.{still_shaped, stored_sizes, taken_sizes, fresh_sizes, consume_fits, pieces_fit}

-- ---- the lengths

set_within : (l : List ℕ) (i v w : ℕ) → v ≤ w → ((j : ℕ) → get_or l j 0 ≤ w) → (j : ℕ) → get_or (set l i v) j 0 ≤ w
set_within l i v w h f j =
    elim (ℕ_discrete j i) [
      | yes q ↦ either (length l) i (λ past. rw (set_out l i v past) (f j)) (λ below. rw (q, get_or-set_same l i v 0 below) h)
      | no q ↦ rw (get_or-set_other l i j v 0 q) (f j)
    ]

cleared_within : (n i k w : ℕ) (l : List ℕ) → ((j : ℕ) → get_or l j 0 ≤ w) → (j : ℕ) → get_or (cleared n i k 0 l) j 0 ≤ w
cleared_within n i zero w l f = f
cleared_within n i (suc k) w l f = cleared_within n (wrap n (i + 1)) k w (set l i 0) (set_within l i 0 w zero-le f)

-- ---- a payload stored

set-numbers : (held : List (Option (List ℕ))) (front d : ℕ) (p : List ℕ) → ((e : ℕ) → is_held (get_or held e none) ≡ true → front + e < largest) → front + d < largest
    → (e : ℕ) → is_held (get_or (set held d (some p)) e none) ≡ true → front + e < largest
set-numbers held front d p f h e held-there =
    elim (ℕ_discrete e d) [
      | yes q ↦ rw q h
      | no q ↦ f e (rw (get_or-set_other held d e (some p) none q) at held-there)
    ]

stored_good : {b : Buffer} {n : ℕ} {p : List ℕ} → n ≤ largest → Acceptable b n p → Good (stored b (slot_at b (n - b.state.front_number)) p)
stored_good {b} {n} {p} number a =
    let g = a.well in
    let d = n - b.state.front_number in
    let same = stored_sizes p g (slot_below g (le_of_lt a.near)) a.fits in
    record {
      shape = still_shaped same g.shape;
      front_n = rw same.many g.front_n;
      carry_w = g.carry_w;
      lengths_w = set_within b.lengths (slot_at b d) (length p) (width b) a.fits g.lengths_w;
      numbers = rw (stored-held g p a.near a.fits) (set-numbers (view b).held b.state.front_number d p g.numbers (omega (arith, a.low, a.last)));
    }

-- ---- k packets taken

taken_good : {b : Buffer} {k : ℕ} (c : List ℕ) → Good b → k ≤ slots b → length c ≤ width b → Good (taken b k c)
taken_good {b} {k} c g few fits =
    let same = taken_sizes k c g fits in
    record {
      shape = still_shaped same g.shape;
      front_n = rw same.many (slot_below g few);
      carry_w = fits;
      lengths_w = cleared_within (slots b) b.state.front_slot k (width b) b.lengths g.lengths_w;
      numbers = λ d h. rw add_assoc (g.numbers (k + d) (rw (taken-held g c few fits, get_d_moved none (view b).held k d) at h));
    }

-- ---- nothing held

none_held : (held : List (Option (List ℕ))) → any_held held ≡ false → (d : ℕ) → is_held (get_or held d none) ≡ false
unfolding any_held
none_held [] e d = refl
none_held (none ∷ held) e zero = refl
none_held (none ∷ held) e (suc d) = none_held held e d
none_held (some p ∷ held) e d = absurd (true≢false e)

fresh_good : {w : ℕ} (s : ℕ) {marks : List Bool} {lengths store : List ℕ} → Shaped w marks lengths store → Good (fresh w s marks lengths store)
fresh_good {w} s {marks} {lengths} {store} h =
    let same = fresh_sizes w s marks lengths store in
    record {
      shape = still_shaped same h;
      front_n = rw same.many h.some_slots;
      carry_w = zero-le;
      lengths_w = λ i. rw (get_or_all {A = ℕ} 0 (length lengths) i) zero-le;
      numbers = λ d held. absurd (true≢false (sym held ∙ rw (view-fresh w s marks lengths store, get_or_all {A = Option (List ℕ)} none (length marks) d)));
    }

renumbered_good : {b : Buffer} (s : ℕ) → Good b → any_held (view b).held ≡ false → Good (renumbered b s)
unfolding view
renumbered_good {b} s g free = record {
  shape = g.shape;
  front_n = g.front_n;
  carry_w = g.carry_w;
  lengths_w = g.lengths_w;
  numbers = λ d held. absurd (true≢false (sym held ∙ none_held (view b).held free d));
}

-- ---- the calls

-- `new` leaves a buffer that is well formed
pub create_kept : (w s : ℕ) (marks : List Bool) (lengths store : List ℕ) {o : OrderedBytes} → (creating w s marks lengths store).said ≡ answers o
    → well_formed (record { state = o; marks = (creating w s marks lengths store).marks; lengths = (creating w s marks lengths store).lengths; store = store }) ≡ true
create_kept w s marks lengths store {o} said =
    elim (create_ways w s marks lengths store) [
      | malformed m e ↦ absurd (let z : ◌≡◌ {A = ℕ} 0 1 = cc in omega arith)
      | makes h e ↦ let q : o ≡ (fresh w s marks lengths store).state = cc in rw (q, e) (is_good (fresh_good s h))
    ]

pub start_kept : (b : Buffer) (s : ℕ) {o : OrderedBytes} → starting b s ≡ answers o
    → well_formed (record { state = o; marks = b.marks; lengths = b.lengths; store = b.store }) ≡ true
start_kept b s {o} said =
    elim (start_ways b s) [
      | malformed m e ↦ absurd (let z : ◌≡◌ {A = ℕ} 0 1 = cc in omega arith)
      | holds g h e ↦ absurd (let z : ◌≡◌ {A = ℕ} 0 1 = cc in omega arith)
      | starts g h e ↦ let q : o ≡ (renumbered b s).state = cc in rw q (is_good (renumbered_good s g h))
    ]

-- n is a packet number
pub accept-kept : (b : Buffer) (n : ℕ) (payload : List ℕ) → n ≤ largest → well_formed b ≡ true → well_formed (accepting b n payload).buffer ≡ true
accept-kept b n payload number w = accept_case b n payload (λ o. well_formed o.buffer ≡ true) (λ r. w) (λ a. is_good (stored_good number a))

pub consume-kept : (b : Buffer) (len : ℕ) (out : List ℕ) → well_formed b ≡ true → well_formed (consuming b len out).buffer ≡ true
consume-kept b len out w =
    consume_case b len out (λ o. well_formed o.buffer ≡ true) (λ r other. w)
    (λ g room. let fit = consume_fits g len in is_good (taken_good (consumed (view b) len).carry g fit.0 fit.1))

pub consume_bytes_kept : (b : Buffer) (limit : ℕ) (out list : List ℕ) → well_formed b ≡ true → well_formed (consuming_bytes b limit out list).buffer ≡ true
consume_bytes_kept b limit out list w =
    consume_bytes_case b limit out list (λ o. well_formed o.buffer ≡ true) (λ r none_left. w) (λ g room any. is_good (taken_good [] g (pieces_fit b limit) zero-le))
