-- What the tests of refusal 12 say, as plain facts, in both directions: `Shaped` for `shape_fits`, `Good` for `well_formed`.
-- Assumes nothing.
use Prim.Native.Nat.{ℕ, zero, suc, ◌+◌, ◌≤◌, ◌<◌}
use mathlib.Core.Path.{◌≡◌, refl}
use mathlib.Core.Bool.{Bool, true, false, not, ◌&&◌, ◌||◌, and-eq-true_iff}
use mathlib.Core.Option.{Option, none}
use mathlib.Core.List.{List, [], ◌∷◌}
use native.Mathlib.Omega.{arith}
use native.Mathlib.Nat.{add-zero, add-suc, suc-add}
use lib.ListN.{length, get_or}
use lib.Dec.{ltb}
use borrow.Author.Tests.{ltb-true, leb-true, eqb-true, lt-ltb, le-leb, eq-eqb}
use Rattle.lists.specs.Numbers.{largest}
use Rattle.lists.proofs.Tests.{both}
use Rattle.lists.proofs.Within.{within, is_within}
use Rattle.ordered_bytes.specs.Receiver.{is_held, numbers_fit}
use Rattle.ordered_bytes.specs.Buffer.{Buffer, width, view, between, shape_fits, well_formed}
pub use Rattle.ordered_bytes.specs.Good.{Shaped, Good}

-- from two tests that hold
and : {a b : Bool} → a ≡ true → b ≡ true → (a && b) ≡ true
and {a} {b} p q = (and-eq-true_iff a b).1 (p, q)

bounds : (least most n : ℕ) → between least most n ≡ true → (least ≤ n) × (n ≤ most)
bounds least most n e = let r = both _ _ e in (leb-true least n r.0, leb-true n most r.1)

is_between : {least most n : ℕ} → least ≤ n → n ≤ most → between least most n ≡ true
is_between p q = and (le-leb _ _ p) (le-leb _ _ q)

pub shaped : (w : ℕ) (marks : List Bool) (lengths store : List ℕ) → shape_fits w marks lengths store ≡ true → Shaped w marks lengths store
shaped w marks lengths store e =
    let n = both _ _ e in
    let m = both _ _ n.1 in
    let l = both _ _ m.1 in
    let slots = bounds 1 2000 (length marks) n.0 in
    let wide = bounds 1 65535 w m.0 in
    record {
      some_slots = slots.0;
      few_slots = slots.1;
      some_width = wide.0;
      small_width = wide.1;
      lengths_n = eqb-true _ _ l.0;
      store_n = eqb-true _ _ l.1;
    }

pub is_shaped : {w : ℕ} {marks : List Bool} {lengths store : List ℕ} → Shaped w marks lengths store → shape_fits w marks lengths store ≡ true
is_shaped s =
    and (is_between s.some_slots s.few_slots)
    (and (is_between s.some_width s.small_width)
    (and (eq-eqb _ _ s.lengths_n) (eq-eqb _ _ s.store_n)))

-- where the first place has number n, a held one at distance d has n + d, below the largest
held_fits : (p : Option (List ℕ)) (n : ℕ) → (not (is_held p) || ltb n largest) ≡ true → is_held p ≡ true → n < largest
held_fits p n e h = ltb-true n largest (rw h at e)

is_held_fits : (b : Bool) (n : ℕ) → (b ≡ true → n < largest) → (not b || ltb n largest) ≡ true
is_held_fits false n f = refl
is_held_fits true n f = lt-ltb n largest (f refl)

pub fits : (n : ℕ) (held : List (Option (List ℕ))) → numbers_fit n held ≡ true → (d : ℕ) → is_held (get_or held d none) ≡ true → n + d < largest
unfolding numbers_fit
fits n [] e d h = absurd (let z : ◌≡◌ {A = ℕ} 0 1 = cc in omega arith)
fits n (p ∷ held) e zero h = rw add-zero (held_fits p n (both _ _ e).0 h)
fits n (p ∷ held) e (suc d) h = rw (add-suc, ← suc-add) (fits (suc n) held (both (not (is_held p) || ltb n largest) _ e).1 d h)

pub is_fits : (n : ℕ) (held : List (Option (List ℕ))) → ((d : ℕ) → is_held (get_or held d none) ≡ true → n + d < largest) → numbers_fit n held ≡ true
unfolding numbers_fit
is_fits n [] f = refl
is_fits n (p ∷ held) f =
    and (is_held_fits (is_held p) n (λ h. rw add-zero at (f 0 h)))
    (is_fits (suc n) held (λ d h. rw (add-suc, ← suc-add) at (f (suc d) h)))

pub good : {b : Buffer} → well_formed b ≡ true → Good b
unfolding well_formed
good {b} e =
    let s = both _ _ e in
    let f = both _ _ s.1 in
    let c = both _ _ f.1 in
    let l = both _ _ c.1 in
    record {
      shape = shaped (width b) b.marks b.lengths b.store s.0;
      front_n = ltb-true _ _ f.0;
      carry_w = leb-true _ _ c.0;
      lengths_w = within (width b) b.lengths l.0;
      numbers = fits b.state.front_number (view b).held l.1;
    }

pub is_good : {b : Buffer} → Good b → well_formed b ≡ true
unfolding well_formed
is_good {b} g =
    and (is_shaped g.shape)
    (and (lt-ltb _ _ g.front_n)
    (and (le-leb _ _ g.carry_w)
    (and (is_within (width b) b.lengths g.lengths_w)
    (is_fits b.state.front_number (view b).held g.numbers))))
