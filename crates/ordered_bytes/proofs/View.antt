-- What joins the lent memory and the receiver that it means: what stands at a distance, what a stored payload and k taken packets change.
-- Assumes nothing.
use Prim.Native.Nat.{ℕ, zero, suc, ◌+◌, ◌-◌, ◌*◌, ◌≤◌, ◌<◌}
use mathlib.Core.Path.{◌≡◌, refl, sym, ap, ◌∙◌}
use mathlib.Core.Logic.{◌⊎◌, inl, inr, ◌≢◌}
use mathlib.Core.Bool.{Bool, true, false, cond}
use mathlib.Core.Option.{Option, none, some}
use mathlib.Core.List.{List, [], ◌++◌}
use native.Mathlib.Omega.{arith}
use native.Mathlib.Decide.{ℕ_discrete}
use native.Mathlib.Nat.{suc-mul, mul-le-mul_right, le_refl, le_of_lt, le-add_right}
use native.Mathlib.Numerals.{add-one}
use lib.ListN.{length, take, drop, set, get_or, replicate, length-set, length-drop, length-append, length-replicate, get_or-eq_default}
use lib.Seq.{paste, ext_get_or, get_or-set_same, get_or-set_other}
use Rattle.lists.proofs.Part.{part_before, part_behind, part_pasted}
use Rattle.lists.proofs.Pad.{get_or_all, get_d_moved}
use Rattle.lists.proofs.Paste.{length_part}
use Rattle.ordered_bytes.specs.Receiver.{accepted, moved}
use Rattle.ordered_bytes.specs.Buffer.{Buffer, slots, width, slot_at, in_slot, tabulate, view, stored, taken}
use Rattle.ordered_bytes.proofs.WellFormed.{Good}
use Rattle.lists.proofs.Order.{either}
use Rattle.slots.proofs.Ring.{wrap-below, wrap_injective, wrap_on, wrap_round, length-cleared, cleared-later, cleared_at}

-- ---- f 0, f 1 and so on

module _ {A : Type 0} where
  length-tabulate : (n : ℕ) (f : ℕ → A) → length (tabulate n f) ≡ n
  length-tabulate zero f = refl
  length-tabulate (suc n) f = ap suc (length-tabulate n (λ i. f (suc i)))

  get_d_tabulate : (n : ℕ) (f : ℕ → A) (i : ℕ) (d : A) → i < n → get_or (tabulate n f) i d ≡ f i
  get_d_tabulate zero f i d h = absurd (omega arith)
  get_d_tabulate (suc n) f zero d h = refl
  get_d_tabulate (suc n) f (suc i) d h = get_d_tabulate n (λ i. f (suc i)) i d (omega arith)

-- ---- places and slots

pub length-held : (b : Buffer) → length (view b).held ≡ slots b
unfolding view
length-held b = length-tabulate (slots b) (λ d. in_slot b (slot_at b d))

-- the place at a distance is what the slot at that distance holds
pub held_at : (b : Buffer) {d : ℕ} → d < slots b → get_or (view b).held d none ≡ in_slot b (slot_at b d)
unfolding view
held_at b {d} h = get_d_tabulate (slots b) (λ d. in_slot b (slot_at b d)) d none h

-- a list that agrees with the slot at every distance is what is held
same_held : (b : Buffer) (held : List (Option (List ℕ))) → length held ≡ slots b
    → ((d : ℕ) → d < slots b → in_slot b (slot_at b d) ≡ get_or held d none) → (view b).held ≡ held
same_held b held e f =
    ext_get_or none (view b).held held (length-held b ∙ sym e) (λ d h. let l : d < slots b = omega (arith, length-held b) in held_at b l ∙ f d l)

-- ---- as `new` leaves it

abbrev pub fresh : ℕ → ℕ → List Bool → List ℕ → List ℕ → Buffer
fresh w s marks lengths store = record {
  state = record { slot_width = w; front_slot = 0; front_number = s; carry_len = 0 };
  marks = replicate (length marks) false;
  lengths = replicate (length lengths) 0;
  store = store;
}

-- nothing is held and nothing carried over
pub view-fresh : (w s : ℕ) (marks : List Bool) (lengths store : List ℕ)
    → view (fresh w s marks lengths store) ≡ record { front = s; width = w; held = replicate (length marks) none; carry = [] }
unfolding view
view-fresh w s marks lengths store =
    λ t. record { front = s; width = w; held = held t; carry = [] }
  where
    held : (view (fresh w s marks lengths store)).held ≡ replicate (length marks) none
    held =
        same_held (fresh w s marks lengths store) (replicate (length marks) none) (simp length-replicate)
        (λ d h. rw (get_or_all false (length marks) _) (sym (get_or_all {A = Option (List ℕ)} none (length marks) d)))

module _ {b : Buffer} (g : Good b) where
  pub slot_below : {d : ℕ} → d ≤ slots b → slot_at b d < slots b
  slot_below h = wrap-below g.front_n h

  pub slot_injective : {d e : ℕ} → d < slots b → e < slots b → slot_at b d ≡ slot_at b e → d ≡ e
  slot_injective hd he q = wrap_injective g.front_n hd he q

  -- a slot ends before the extra W begins
  pub slot_ends : {i : ℕ} → i < slots b → i * width b + width b ≤ slots b * width b
  slot_ends {i} h = rw suc-mul at (mul-le-mul_right (width b) h)

  -- the store is the slots and the extra W
  pub store_long : length b.store ≡ slots b * width b + width b
  store_long = g.shape.store_n ∙ rw (add-one, suc-mul)

  -- two slots do not overlap
  slots_apart : {i j : ℕ} → i ≢ j → (i * width b + width b ≤ j * width b) ⊎ (j * width b + width b ≤ i * width b)
  slots_apart {i} {j} d =
      either i j
      (λ h. inl (rw suc-mul at (mul-le-mul_right (width b) (let z : suc i ≤ j = omega arith in z))))
      (λ h. inr (rw suc-mul at (mul-le-mul_right (width b) h)))

  -- a slot's payload is as long as its length says
  pub length_in_slot : {i : ℕ} → i < slots b → length (take (get_or b.lengths i 0) (drop (i * width b) b.store)) ≡ get_or b.lengths i 0
  length_in_slot {i} h = length_part b.store (i * width b) (get_or b.lengths i 0) (omega (arith, store_long, slot_ends h, g.lengths_w i))

  pub length-carry : length (view b).carry ≡ b.state.carry_len
  unfolding view
  length-carry = length_part b.store (slots b * width b) b.state.carry_len (omega (arith, store_long, g.carry_w))

  -- a held payload is at most W bytes long
  in_slot_small : {i : ℕ} {p : List ℕ} → i < slots b → in_slot b i ≡ some p → length p ≤ width b
  in_slot_small {i} {p} h = by (get_or b.marks i false)
    where
      by : (m : Bool) → cond m (some (take (get_or b.lengths i 0) (drop (i * width b) b.store))) none ≡ some p → length p ≤ width b
      by true e = let z : take (get_or b.lengths i 0) (drop (i * width b) b.store) ≡ p = cc in omega (arith, ap length z, length_in_slot h, g.lengths_w i)
      by false e = absurd (let z : ◌≡◌ {A = ℕ} 0 1 = cc in omega arith)

  pub held_small : (d : ℕ) (p : List ℕ) → get_or (view b).held d none ≡ some p → length p ≤ width b
  held_small d p e =
      either (slots b) d
      (λ h. let out : get_or (view b).held d none ≡ none = get_or-eq_default (view b).held none (rw length-held h) in absurd (let z : ◌≡◌ {A = ℕ} 0 1 = cc in omega arith))
      (λ h. in_slot_small (slot_below (le_of_lt h)) (sym (held_at b h) ∙ e))

  -- ---- a payload stored in a slot

  module _ {i : ℕ} (p : List ℕ) (here : i < slots b) (fits : length p ≤ width b) where
    stored_same : in_slot (stored b i p) i ≡ some p
    stored_same =
        let l : i < length b.lengths = omega (arith, g.shape.lengths_n) in
        rw (get_or-set_same b.marks i true false here, get_or-set_same b.lengths i (length p) 0 l)
        (ap some (part_pasted b.store p (i * width b) (omega (arith, store_long, slot_ends here))))

    stored_other : {k : ℕ} → k ≢ i → in_slot (stored b i p) k ≡ in_slot b k
    stored_other {k} d = rw (get_or-set_other b.marks i k true false d, get_or-set_other b.lengths i k (length p) 0 d, part (slots_apart (λ q. d (sym q))))
      where
        part : (i * width b + width b ≤ k * width b) ⊎ (k * width b + width b ≤ i * width b)
            → take (get_or b.lengths k 0) (drop (k * width b) (paste b.store (i * width b) p (length p))) ≡ take (get_or b.lengths k 0) (drop (k * width b) b.store)
        part (inl h) = part_behind b.store p (k * width b) (get_or b.lengths k 0) (i * width b) (length p) (omega (arith, store_long, slot_ends here)) (le_refl _) (omega arith)
        part (inr h) = part_before b.store p (k * width b) (get_or b.lengths k 0) (i * width b) (length p) (omega (arith, store_long, slot_ends here)) (omega (arith, g.lengths_w k))

    stored-carry : (view (stored b i p)).carry ≡ (view b).carry
    unfolding view
    stored-carry =
        rw length-set
        (part_behind b.store p (slots b * width b) b.state.carry_len (i * width b) (length p) (omega (arith, store_long, slot_ends here)) (le_refl _) (omega (arith, slot_ends here)))

  -- what is held then
  pub stored-held : {d : ℕ} (p : List ℕ) → d < slots b → length p ≤ width b → (view (stored b (slot_at b d) p)).held ≡ set (view b).held d (some p)
  stored-held {d} p h fits =
      same_held (stored b (slot_at b d) p) (set (view b).held d (some p)) (simp (length-set, length-held))
      (λ e l.
      let k : e < slots b = rw length-set at l in
      rw length-set
      (elim (ℕ_discrete e d) [
        | yes q ↦ rw q (stored_same p (slot_below (le_of_lt h)) fits ∙ sym (get_or-set_same (view b).held d (some p) none (rw length-held h)))
        | no q ↦ stored_other p (slot_below (le_of_lt h)) fits (λ s. q (slot_injective k h s)) ∙ sym (get_or-set_other (view b).held d e (some p) none q ∙ held_at b k)
      ]))

  -- a stored payload is an accepted one
  pub view-stored : (n : ℕ) (p : List ℕ) → n - b.state.front_number < slots b → length p ≤ width b
      → view (stored b (slot_at b (n - b.state.front_number)) p) ≡ accepted (view b) n p
  unfolding view
  view-stored n p h fits =
      λ t. record {
        front = b.state.front_number;
        width = width b;
        held = stored-held p h fits t;
        carry = stored-carry p (slot_below (le_of_lt h)) fits t;
      }

  -- ---- k packets taken from the front

  module _ {k : ℕ} (c : List ℕ) (few : k ≤ slots b) (fits : length c ≤ width b) where
    taken-slots : slots (taken b k c) ≡ slots b
    taken-slots = length-cleared (slots b) false b.state.front_slot k b.marks

    -- the carry-over is written behind every slot, and what is not cleared stands as it stood
    taken-later : {d : ℕ} → k ≤ d → d < slots b → in_slot (taken b k c) (slot_at b d) ≡ in_slot b (slot_at b d)
    taken-later {d} later h =
        let front = b.state.front_slot in
        let i = slot_at b d in
        let ends = slot_ends (slot_below (le_of_lt h)) in
        rw (
          cleared-later (slots b) false front d k b.marks false g.front_n later h,
          cleared-later (slots b) 0 front d k b.lengths 0 g.front_n later h,
          part_before b.store c (i * width b) (get_or b.lengths i 0) (slots b * width b) (length c) (omega (arith, store_long)) (omega (arith, g.lengths_w i)),
        )

    taken-cleared : {d : ℕ} → d < k → in_slot (taken b k c) (slot_at b d) ≡ none
    taken-cleared {d} h = rw (cleared_at (slots b) false b.state.front_slot d k b.marks false refl g.front_n h few)

    taken_at : (d : ℕ) → d < slots b → in_slot (taken b k c) (slot_at (taken b k c) d) ≡ get_or (drop k (view b).held ++ replicate k none) d none
    taken_at d h =
        rw (taken-slots, get_d_moved none (view b).held k d)
        (either (slots b) (k + d)
        (λ round.
        let gone : in_slot (taken b k c) (slot_at b (k + d - slots b)) ≡ none = taken-cleared (omega arith) in
        rw (wrap_round g.front_n k d few h round, gone) (sym (get_or-eq_default (view b).held none (rw length-held round))))
        (λ near. rw (wrap_on g.front_n k d (le_of_lt near)) (taken-later (le-add_right k d) near ∙ sym (held_at b near))))

    -- what is held then
    pub taken-held : (view (taken b k c)).held ≡ drop k (view b).held ++ replicate k none
    taken-held =
        same_held (taken b k c) (drop k (view b).held ++ replicate k none)
        (simp (taken-slots, length-append, length-drop, length-held, length-replicate) (omega arith))
        (λ d h. taken_at d (rw taken-slots at h))

    taken-carry : (view (taken b k c)).carry ≡ c
    unfolding view
    taken-carry = rw taken-slots (part_pasted b.store c (slots b * width b) (omega (arith, store_long)))

    -- taken packets and another carry-over are what a read moves
    pub view-taken : view (taken b k c) ≡ moved (view b) k c
    unfolding view
    view-taken = λ t. record { front = b.state.front_number + k; width = width b; held = taken-held t; carry = taken-carry t }
