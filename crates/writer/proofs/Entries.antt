-- The lengths of a queue's entries, one entry on: their sum, and the entries that go with the first q bytes.
-- Assumes nothing.
use Prim.Native.Nat.{ℕ, zero, suc, ◌+◌, ◌-◌, ◌<◌, ◌≤◌}
use mathlib.Core.Path.{◌≡◌, refl, ap, ◌∙◌}
use mathlib.Core.List.{List, [], ◌∷◌, ◌++◌}
use native.Mathlib.Omega.{arith}
use native.Mathlib.Decide.{dec_le}
use native.Mathlib.Numerals.{add-one}
use native.Mathlib.Nat.{add-zero}
use lib.ListN.{length, length-append, drop, get_or, drop_of_length-le}
use lib.Seq.{drop-cons}
use borrow.Author.Tests.{le-leb, lt-leb}
use Rattle.std.specs.List as std
use Rattle.std.proofs.lemmas.List.Recursion.{is_sum_by}
use Rattle.writer.specs.Packing.{sum, removal}

pub sum_is : (ls : List ℕ) → sum ls ≡ std.sum ls
unfolding sum
sum_is = is_sum_by sum (λ l. l) refl (λ _ _. refl)

module _ (ls : List ℕ) (i : ℕ) where
  next_entry : i < length ls → drop i ls ≡ get_or ls i 0 ∷ drop (i + 1) ls
  next_entry h = rw (add-one, drop-cons ls i 0)

  pub sum_next : i < length ls → sum (drop i ls) ≡ get_or ls i 0 + sum (drop (i + 1) ls)
  unfolding sum
  sum_next h = ap sum (next_entry h)

  pub sum_end : length ls ≤ i → sum (drop i ls) ≡ 0
  unfolding sum
  sum_end h = ap sum (drop_of_length-le ls h)

-- the entries that go, i having gone before
abbrev pub after : ℕ → ℕ × ℕ → ℕ × ℕ
after i r = (i + r.0, r.1)

none_used : (ls : List ℕ) → removal 0 ls ≡ (0, 0)
unfolding removal
none_used [] = refl
none_used (l ∷ ls) = refl

first_goes : (q l : ℕ) (ls : List ℕ) → 0 < q → l ≤ q → removal q (l ∷ ls) ≡ (suc (removal (q - l) ls).0, (removal (q - l) ls).1)
unfolding removal
first_goes zero l ls some h = absurd (omega arith)
first_goes (suc q) l ls some h = rw (le-leb l (suc q) h)

first_stays : (q l : ℕ) (ls : List ℕ) → q < l → removal q (l ∷ ls) ≡ (0, q)
unfolding removal
first_stays zero l ls h = refl
first_stays (suc q) l ls h = rw (lt-leb l (suc q) h)

module _ (q : ℕ) (ls : List ℕ) (i : ℕ) where
  pub removal_next : i < length ls → 0 < q → get_or ls i 0 ≤ q → after i (removal q (drop i ls)) ≡ after (i + 1) (removal (q - get_or ls i 0) (drop (i + 1) ls))
  removal_next h some goes =
      let rest = removal (q - get_or ls i 0) (drop (i + 1) ls) in
      let z : i + suc rest.0 ≡ i + 1 + rest.0 = omega arith in
      rw (next_entry ls i h, first_goes q (get_or ls i 0) (drop (i + 1) ls) some goes, z)

  pub removal_stops : i < length ls → q < get_or ls i 0 → after i (removal q (drop i ls)) ≡ (i, q)
  removal_stops h stays = rw (next_entry ls i h, first_stays q (get_or ls i 0) (drop (i + 1) ls) stays, add-zero)

  pub removal_end : i ≤ length ls → length ls ≤ i → after i (removal q (drop i ls)) ≡ (length ls, 0)
  unfolding removal
  removal_end l h = let z : i + 0 ≡ length ls = omega arith in rw (drop_of_length-le ls h, z)

  pub removal_used : q ≤ 0 → after i (removal q (drop i ls)) ≡ (i, 0)
  removal_used h =
      let z : q ≡ 0 = omega arith in
      rw (z, none_used (drop i ls), add-zero)

-- The entries in front of others: where the bytes end in them, those behind do not matter, and otherwise all of them go.
pub removal_front : (q : ℕ) (p t : List ℕ) → q ≤ sum p → removal q (p ++ t) ≡ removal q p
unfolding sum
removal_front q [] t h =
    let z : q ≡ 0 = omega arith in
    rw (z, none_used t, none_used [])
removal_front q (l ∷ p) t h =
    elim (dec_le l q) [
      | no stays ↦ rw (first_stays q l (p ++ t) (omega arith), first_stays q l p (omega arith))
      | yes goes ↦ elim (dec_le 1 q) [
        | no none ↦
            let z : q ≡ 0 = omega arith in
            rw (z, none_used (l ∷ p ++ t), none_used (l ∷ p))
        | yes some ↦ rw (first_goes q l (p ++ t) (omega arith) goes, first_goes q l p (omega arith) goes, removal_front (q - l) p t (omega arith))
      ]
    ]

pub removal_past : (q : ℕ) (p t : List ℕ) → sum p < q → removal q (p ++ t) ≡ after (length p) (removal (q - sum p) t)
unfolding sum
removal_past q [] t h =
    let z : q - 0 ≡ q = omega arith in
    let w : 0 + (removal q t).0 ≡ (removal q t).0 = omega arith in
    rw (z, w) refl
removal_past q (l ∷ p) t h =
    let z : q - l - sum p ≡ q - (l + sum p) = omega arith in
    let rest = removal (q - (l + sum p)) t in
    let w : suc (length p + rest.0) ≡ suc (length p) + rest.0 = omega arith in
    rw (first_goes q l (p ++ t) (omega arith) (omega arith), removal_past (q - l) p t (omega arith), z, w) refl

none_there : (q : ℕ) → removal q [] ≡ (0, 0)
unfolding removal
none_there q = refl

pub removal_few : (q : ℕ) (ls : List ℕ) → (removal q ls).0 ≤ length ls
removal_few q [] = rw (none_there q) (omega arith)
removal_few q (l ∷ ls) =
    elim (dec_le l q) [
      | no stays ↦ rw (first_stays q l ls (omega arith)) (omega arith)
      | yes goes ↦ elim (dec_le 1 q) [
        | no none ↦
            let z : q ≡ 0 = omega arith in
            rw (z, none_used (l ∷ ls)) (omega arith)
        | yes some ↦ rw (first_goes q l ls (omega arith) goes) (omega (arith, removal_few (q - l) ls))
      ]
    ]

pub removal_first : (q : ℕ) {s ls : List ℕ} → s ≡ ls → after 0 (removal q s) ≡ removal q ls
removal_first q {s} {ls} e =
    let w : 0 + (removal q ls).0 ≡ (removal q ls).0 = omega arith in
    rw (e, w) refl

-- .. after entries that have gone
module _ (q passed : ℕ) {s : List ℕ} (p t : List ℕ) (split : s ≡ p ++ t) where
  pub removal_here : q ≤ sum p → after passed (removal q p) ≡ after passed (removal q s)
  removal_here h = rw (split, removal_front q p t h)

  pub removal_on : sum p < q → after (passed + length p) (removal (q - sum p) t) ≡ after passed (removal q s)
  removal_on h =
      let rest = removal (q - sum p) t in
      let z : passed + (length p + rest.0) ≡ passed + length p + rest.0 = omega arith in
      rw (split, removal_past q p t h, z)

pub passed_on : (passed : ℕ) {s : List ℕ} (p t : List ℕ) → s ≡ p ++ t → passed + length p + length t ≡ passed + length s
passed_on passed p t split = omega (arith, ap length split ∙ length-append p t)

pub removal_none : (q passed : ℕ) (s : List ℕ) → length s ≡ 0 → (passed, 0) ≡ after passed (removal q s)
removal_none q passed [] e = rw (none_there q, add-zero)
removal_none q passed (l ∷ s) e = absurd (omega arith)
