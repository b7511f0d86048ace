-- A turn of each loop of src/lib.rt, as a law of the definition that the loop computes.
-- Assumes nothing.
use Prim.Native.Nat.{ℕ, zero, suc, ◌+◌, ◌-◌, ◌≤◌, ◌<◌}
use mathlib.Core.Path.{◌≡◌, refl, sym, ap, ◌∙◌}
use mathlib.Core.Bool.{Bool, true, false, cond, ◌&&◌, and_self, and-true, and-false}
use mathlib.Core.List.{List, [], ◌∷◌, ◌++◌, append_assoc, append-nil}
use mathlib.Core.Logic.{◌⊎◌, inl, inr}
use native.Mathlib.Nat.{le_of_suc-le-suc, not-suc-le-zero}
use native.Mathlib.Numerals.{add-one}
use native.Mathlib.Omega.{arith}
use lib.ListN.{length, take, drop, get_or, set, replicate, length-append, length-drop, length-replicate, take-append-drop}
use lib.Seq.{paste, length-take-le, get_or-take, take-take, take-length, take-suc-set, take_all, append_snoc, drop-cons}
use lib.Dec.{ltb, eqb}
use borrow.Rule.Slice.PartMut.{put_mid}
use borrow.Author.Tests.{lt-ltb, le-ltb, lt-leb, ltb-true, ltb-false}
use Rattle.std.specs.Prelude.{Option, Some, None, is_some, IfSome, unwrap_or, option_copied}
use Rattle.std.proofs.Common.{Bor}
use Rattle.std.proofs.lemmas.List.{get_or_default}
use Rattle.std.proofs.lemmas.Slice.{put_mid-paste}
use Rattle.lists.specs.Numbers.{largest}
use Rattle.refusal.specs.Said.{answers, refuses, checks}
use Rattle.lists.proofs.Tests.{both}
use Rattle.lists.proofs.Rising.{first_last}
use Rattle.lists.proofs.Paste.{length_part, drop_pasted, paste_behind}
use Rattle.lists.proofs.Taken.{paste-taken}
use Rattle.lists.proofs.Shift.{take_before_paste}
use Rattle.lists.proofs.Take.{drop-take}
use Rattle.std.proofs.lemmas.List.Edits.{paste_all}
use Rattle.window.specs.declared.SlidingWindow.{SlidingWindow}
use Rattle.window.specs.Window.{window_size, Outcome, refused, expected, held, too_few, member, rising, holdable, all_holdable, place, numbers, stored}
use Rattle.window.specs.Window.{well_formed, stored_cells, grown, before_held, store_before, store_run, insert_packet_number, run_length}
use Rattle.window.proofs.Rises.{Rises, is_holdable, holdable_is, is_member, held_fits, rises_at, not-before, place-from}
use Rattle.window.proofs.Members.{before_is}

-- `well_formed`: rising numbers may all be held where the first and the last may
between : (w : SlidingWindow) (x y z : ℕ) → x ≤ y → y ≤ z → holdable w x ≡ true → holdable w z ≡ true → holdable w y ≡ true
between w x y z l m a b =
    let h = is_holdable w x a in
    let k = is_holdable w z b in
    holdable_is w y (omega arith) (omega arith)

ends : (w : SlidingWindow) (x : ℕ) (xs : List ℕ) → rising (x ∷ xs) ≡ true
    → all_holdable w (x ∷ xs) ≡ (holdable w x && holdable w (get_or (x ∷ xs) (length xs) 0))
unfolding rising all_holdable
ends w x [] r = and-true (holdable w x) ∙ sym (and_self (holdable w x))
ends w x (y ∷ ys) r =
    let up = both (ltb x y) (rising (y ∷ ys)) r in
    let l = ltb-true x y up.0 in
    rw (ends w y ys up.1) (by (holdable w x) refl (holdable w z) refl (between w x y z (omega arith) (first_last y ys up.1)))
  where
    z : ℕ
    z = get_or (y ∷ ys) (length ys) 0

    by : (p : Bool) → holdable w x ≡ p → (q : Bool) → holdable w z ≡ q → (holdable w x ≡ true → holdable w z ≡ true → holdable w y ≡ true)
        → (p && (holdable w y && q)) ≡ (p && q)
    by true a true b f = and-true (holdable w y) ∙ f a b
    by true a false b f = and-false (holdable w y)
    by false a q b f = refl

pub holdable_at_ends : (w : SlidingWindow) (cells : List ℕ) (count : ℕ) → 0 < count → count ≤ length cells → rising (take count cells) ≡ true
    → all_holdable w (take count cells) ≡ (holdable w (get_or cells 0 0) && holdable w (get_or cells (count - 1) 0))
holdable_at_ends w [] count h k r = absurd (omega arith)
holdable_at_ends w (x ∷ xs) zero h k r = absurd (not-suc-le-zero h)
holdable_at_ends w (x ∷ xs) (suc n) h k r =
    let q : suc n - 1 ≡ n = omega arith in
    let l = length-take-le n xs (le_of_suc-le-suc k) in
    rw (q, ← get_or-take (suc n) (x ∷ xs) n 0 (omega arith)) (rw l at (ends w x (take n xs) r))

-- `find_place`: where the last of the first i numbers is below n, n's place among those is behind all of them; where it is not, it can be left out
behind : (lo n i : ℕ) (xs : List ℕ) → Rises lo largest xs → i < length xs → get_or xs i 0 < n → place n (take (suc i) xs) ≡ suc i
unfolding place
behind lo n i [] r h l = absurd (not-suc-le-zero h)
behind lo n zero (x ∷ xs) r h l = rw (lt-ltb x n l)
behind lo n (suc i) (x ∷ xs) r h l =
    let q = rises_at largest (suc x) i xs r.2 (le_of_suc-le-suc h) in
    rw (lt-ltb x n (omega arith)) (ap suc (behind (suc x) n i xs r.2 (le_of_suc-le-suc h) l))

pub place_behind : (n i : ℕ) (xs : List ℕ) → Rises 0 largest xs → 0 < i → i ≤ length xs → get_or xs (i - 1) 0 < n → place n (take i xs) ≡ i
place_behind n i xs r h k l =
    let q : suc (i - 1) ≡ i = omega arith in
    rw q at (behind 0 n (i - 1) xs r (omega arith) l)

before : (n i : ℕ) (xs : List ℕ) → i < length xs → n ≤ get_or xs i 0 → place n (take (suc i) xs) ≡ place n (take i xs)
unfolding place
before n i [] h l = absurd (not-suc-le-zero h)
before n zero (x ∷ xs) h l = rw (le-ltb x n l)
before n (suc i) (x ∷ xs) h l = rw (before n i xs (le_of_suc-le-suc h) l)

pub place_before : (n i : ℕ) (xs : List ℕ) → 0 < i → i ≤ length xs → n ≤ get_or xs (i - 1) 0 → place n (take i xs) ≡ place n (take (i - 1) xs)
place_before n i xs h k l =
    let q : suc (i - 1) ≡ i = omega arith in
    rw q at (before n (i - 1) xs (omega arith) l)

-- `first_held`: the first held number stands at base's place, if there is one
place_cell : (b at : ℕ) (xs : List ℕ) → at ≡ place b xs → at < length xs → b ≤ get_or xs at 0
place_cell b at xs q h = rw (← q) at (place-from b xs (rw q at h))

before_cell : (lo hi b range at i : ℕ) (xs : List ℕ) → Rises lo hi xs → at ≡ place b xs → i ≤ range
    → (at < length xs → b + i ≤ get_or xs at 0) → (i < range → (at < length xs) × (get_or xs at 0 ≡ b + i)) → i ≡ before_held b range xs
before_cell lo hi b range at i xs r q l f m =
    sym (before_is b range i xs record {
      within = l;
      free = λ j h. not-before hi lo b (b + j) xs r (omega arith) (λ p. rw (← q) (let g = f (rw (← q) at p) in omega arith));
      held = λ h. let u = m h in is_member (b + i) at xs u.0 u.1;
    })

-- .. what the range is compared with: that number, or the largest where none stands there
abbrev pub Next : List ℕ → ℕ → ℕ → Type 0
Next xs at next = ((at < length xs) × (next ≡ get_or xs at 0)) ⊎ ((length xs ≤ at) × (next ≡ largest))

pub next_is : (xs : List ℕ) (at : ℕ) (got : Option (Bor ℕ)) {copied : Option ℕ} {next : ℕ} → is_some got ≡ ltb at (length xs)
    → IfSome got (λ x. x.now ≡ get_or xs at x.now) → copied ≡ option_copied got → next ≡ unwrap_or copied largest → Next xs at next
next_is xs at None e f c q = inr (ltb-false at (length xs) (sym e), q ∙ ap (λ o. unwrap_or o largest) c)
next_is xs at (Some x) e f c q = let h = ltb-true at (length xs) (sym e) in inl (h, q ∙ ap (λ o. unwrap_or o largest) c ∙ f ∙ get_or_default xs at x.now 0 h)

pub next_from : (b at : ℕ) (xs : List ℕ) {next : ℕ} → at ≡ place b xs → b ≤ largest → Next xs at next → b ≤ next
next_from b at xs q l (inl n) = omega (arith, place_cell b at xs q n.0)
next_from b at xs q l (inr n) = omega arith

pub before_next : (b range at i : ℕ) (xs : List ℕ) {next : ℕ} → Rises 0 largest xs → at ≡ place b xs → i ≤ range → b + range ≤ largest → Next xs at next
    → b + i ≤ next → (i < range → next ≡ b + i) → i ≡ before_held b range xs
before_next b range at i xs r q l top (inl n) f m = before_cell 0 largest b range at i xs r q l (λ h. omega arith) (λ h. (n.0, sym n.1 ∙ m h))
before_next b range at i xs r q l top (inr n) f m = before_cell 0 largest b range at i xs r q l (λ h. absurd (omega arith)) (λ h. let e = m h in absurd (omega arith))

-- `run_length`
pub run_at : (e i : ℕ) (xs : List ℕ) → i < length xs → run_length e (drop i xs) ≡ cond (eqb (get_or xs i 0) e) (run_length (e + 1) (drop (i + 1) xs) + 1) 0
unfolding run_length
run_at e i xs h = rw (drop-cons xs i 0 h, add-one e, add-one i, add-one (run_length (suc e) (drop (suc i) xs)))

-- `fill`
pub length-numbers : (b k : ℕ) → length (numbers b k) ≡ k
unfolding numbers
length-numbers b zero = refl
length-numbers b (suc k) = ap suc (length-numbers (suc b) k)

pub fill_turn : (d : List ℕ) (i n : ℕ) → i < length d → take (i + 1) (set d i n) ++ numbers (n + 1) (length d - (i + 1)) ≡ take i d ++ numbers n (length d - i)
unfolding numbers
fill_turn d i n h =
    let left : length d - i ≡ suc (length d - suc i) = omega arith in
    rw (left, add-one n, add-one i, take-suc-set d i n h) (append_snoc (take i d) n (numbers (suc n) (length d - suc i)))

pub fill_end : (d : List ℕ) (i n : ℕ) → length d ≤ i → take i d ++ numbers n (length d - i) ≡ d
unfolding numbers
fill_end d i n h = let none : length d - i ≡ 0 = omega arith in rw (none, take_all i d h) (append-nil d)

pub filled_is : (d : List ℕ) (at b k : ℕ) {filled : List ℕ} → at + k ≤ length d → filled ≡ numbers b (length (take (at + k - at) (drop at d)))
    → put_mid at (at + k - at) d filled ≡ paste d at (numbers b k) k
filled_is d at b k {filled} h s =
    let back : at + k - at ≡ k = omega arith in
    let is : filled ≡ numbers b k = s ∙ ap (numbers b) (rw back (length_part d at k h)) in
    put_mid-paste at (at + k - at) d filled (numbers b k) k is (sym back) (sym (length-numbers b k))

-- `shift_up`, then `fill`: k numbers stored at b's place
stored_is : (cells shifted left : List ℕ) (b k count at : ℕ) → at ≡ place b (take count cells) → at ≤ count → count + k ≤ length cells
    → shifted ≡ paste cells (at + k) (drop at cells) (count - at) → left ≡ paste shifted at (numbers b k) k
    → left ≡ stored b k (take count cells) ++ drop (count + k) cells
stored_is cells shifted left b k count at q h l s t =
    let e : at + k + (count - at) ≡ count + k = omega arith in
    let all : take k (numbers b k) ≡ numbers b k = rw (length-numbers b k) at (take-length (numbers b k)) in
    let front = take_before_paste cells (drop at cells) (at + k) (count - at) at (omega arith) (omega arith) in
    let back = drop_pasted cells (at + k) (drop at cells) (count - at) (omega arith) in
    rw (t, s, front, back, e, all, ← q, take-take at count cells h, drop-take at count cells)
    (sym (append_assoc (take at cells ++ numbers b k) (take (count - at) (drop at cells)) (drop (count + k) cells)))

-- no number stored changes nothing
pub stored_none : (w : SlidingWindow) (cells : List ℕ) (b : ℕ) → ◌≡◌ {A = SlidingWindow × List ℕ} (grown w 0, stored_cells w cells b 0) (w, cells)
unfolding numbers
stored_none w cells b =
    let z : w.count + 0 ≡ w.count = omega arith in
    let p = place b (held w cells) in
    rw (z, append-nil (take p (held w cells)), take-append-drop p (held w cells), take-append-drop w.count cells)

run_none : (w : SlidingWindow) (cells : List ℕ) (b count : ℕ) → w.count ≤ length cells → 0 < count → store_before w cells b count 0 ≡ refused w cells 7
run_none w cells b count h l =
    rw (le-ltb (length cells) (w.count + 0) (omega arith), lt-ltb 0 count l)
    (ap (λ (s : SlidingWindow × List ℕ). (refuses 7, s.0, s.1)) (stored_none w cells b))

-- `store_run`: what the searches found, and what a shift and a fill leave, is what the definition stores
module _ (w : SlidingWindow) (cells held_now : List ℕ) (b count k : ℕ) (now : held_now ≡ held w cells) (found : k ≡ before_held b count held_now) where
  pub run_of_none : w.count ≤ length cells → 0 < count → k ≡ 0 → (refuses 7, w, cells) ≡ store_run w cells b count
  run_of_none h l z =
      let none : before_held b count (held w cells) ≡ 0 = rw (← now, ← found) z in
      sym (ap (store_before w cells b count) none ∙ run_none w cells b count h l)

  pub run_of : (at : ℕ) {shifted left : List ℕ} → at ≡ place b held_now → at ≤ w.count → w.count + k ≤ length cells
      → shifted ≡ paste cells (at + k) (drop at cells) (w.count - at) → left ≡ paste shifted at (numbers b k) k
      → (cond (ltb k count) (refuses 7) (answers tt), grown w k, left) ≡ store_run w cells b count
  run_of at {shifted} {left} q h room s t =
      let stored = stored_is cells shifted left b k w.count at (q ∙ ap (place b) now) h room s t in
      let k_is : before_held b count (held w cells) ≡ k = rw (← now) (sym found) in
      rw (k_is, le-ltb (length cells) (w.count + k) room, stored)

-- a run of one number: 7 where it is held, 10 where there is no cell
abbrev pub store_one : SlidingWindow → List ℕ → ℕ → Outcome Unit
store_one w cells n = checks ((member n (held w cells), 7) ∷ (too_few w cells 1, 10) ∷ []) (refused w cells) (answers tt, grown w 1, stored_cells w cells n 1)

pub one_is : (w : SlidingWindow) (cells : List ℕ) (n : ℕ) → w.count ≤ length cells → store_run w cells n 1 ≡ store_one w cells n
unfolding before_held
one_is w cells n h = by (member n (held w cells))
  where
    by : (t : Bool) → store_before w cells n 1 (cond t 0 1)
        ≡ checks ((t, 7) ∷ (too_few w cells 1, 10) ∷ []) (refused w cells) (answers tt, grown w 1, stored_cells w cells n 1)
    by true = run_none w cells n 1 h (omega arith)
    by false = refl

-- past a single insertion's tests: what is left of the definition
pub one_past : (w : SlidingWindow) (cells : List ℕ) (n : ℕ) → well_formed w cells ≡ true → expected w ≤ n → n - expected w < window_size → n < largest
    → insert_packet_number w cells n ≡ store_run w cells n 1
unfolding insert_packet_number
one_past w cells n h l m u =
    simp (h, le-ltb n (expected w) l, lt-leb window_size (n - expected w) m, lt-leb largest n u) (sym (one_is w cells n (held_fits w cells h)))

-- a copy down, then a clearing: k numbers consumed
pub consumed_is : (cells : List ℕ) (k count : ℕ) {copied zeros : List ℕ} → k ≤ count → count ≤ length cells → length copied ≡ length cells
    → copied ≡ paste cells 0 (drop k cells) (count - k) → zeros ≡ replicate (length (take (count - (count - k)) (drop (count - k) copied))) 0
    → put_mid (count - k) (count - (count - k)) copied zeros ≡ drop k (take count cells) ++ replicate k 0 ++ drop count cells
consumed_is cells k count {copied} {zeros} h l m s z =
    let rest = take (count - k) (drop k cells) in
    let blank : List ℕ = replicate k 0 in
    let long : length rest ≡ count - k = length_part cells k (count - k) (omega arith) in
    let len : length blank ≡ k = length-replicate {A = ℕ} k 0 in
    let back : count - (count - k) ≡ k = omega arith in
    let all : 0 + length (rest ++ blank) ≡ count = rw (length-append, long, len) (omega arith) in
    let moved : copied ≡ paste cells 0 rest (length rest) = s ∙ paste-taken cells 0 (drop k cells) (count - k) (rw length-drop (omega arith)) in
    let cleared : zeros ≡ blank = z ∙ ap (λ (n : ℕ). replicate n 0) (rw back (length_part copied (count - k) k (omega arith))) in
    put_mid-paste (count - k) (count - (count - k)) copied zeros blank (length blank) cleared (len ∙ sym back) refl
    ∙ rw moved
    (paste_behind cells rest blank 0 (count - k) (omega arith) (omega arith) ∙ paste_all cells 0 (rest ++ blank) _ refl ∙ rw (all, drop-take k count cells))
