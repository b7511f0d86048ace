-- What a call on a well-formed window says and which numbers are held after it; and that any list of calls keeps the window well formed.
-- These are the laws that other crates cite. Assumes nothing.
use Prim.Native.Nat.{ℕ, zero, suc, ◌+◌, ◌-◌, ◌≤◌, ◌<◌}
use mathlib.Core.Path.{◌≡◌, refl, sym, ap, ◌∙◌}
use mathlib.Core.Bool.{Bool, true, false, cond, ◌&&◌, ◌||◌}
use mathlib.Core.List.{List, [], ◌∷◌}
use mathlib.Core.Option.{Option, none, some}
use native.Mathlib.Omega.{arith}
use lib.ListN.{length}
use lib.Dec.{ltb, leb, eqb}
use borrow.Author.Tests.{ltb-true, ltb-false, leb-false, le-ltb, lt-leb, ne_eqb, eqb-true, eqb-false}
use Rattle.refusal.specs.Said.{Said, answers, refuses, refusal_in, checks}
use Rattle.refusal.proofs.Checks.{Checked, passes, fails, checked}
use Rattle.refusal.proofs.Among.{never, failed_among}
use Rattle.lists.specs.Numbers.{largest}
use Rattle.window.specs.declared.SlidingWindow.{SlidingWindow}
use Rattle.window.specs.Window.{window_size, Outcome, refused, expected, window, held, below, beyond, exhausted, too_few, member, well_formed}
use Rattle.window.specs.Window.{stored_cells, grown, numbers, before_held, stored_before, store_run, insert_packet_number, range_checks, insert_range}
use Rattle.window.specs.Window.{run_length, consumed_cells, advanced, consumed_run, consume}
use Rattle.window.proofs.Rises.{bound, WellFormed, well_formed_lem, well_formed_is}
use Rattle.window.proofs.Loops.{stored_none, store_one, one_is}
use Rattle.window.proofs.Members.{among, member-stored, member-numbers, before, run-held, run_ends, run_dropped}
use Rattle.window.proofs.Kept.{held-stored, held-consumed, length_stored_cells, length_consumed_cells, stored_keeps, consumed_keeps}

-- a call that came to o leaves the window well formed
abbrev pub Keeps : {A : Type 0} → Outcome A → Type 0
Keeps o = well_formed o.1 o.2 ≡ true

-- after a call that came to o a number is held if it is one of the k from b on, none of them below the smallest expected, or was held before
pub record Adds (w : SlidingWindow) (cells : List ℕ) (o : Outcome Unit) (b k : ℕ) : Type 0 where
  pub same : expected o.1 ≡ expected w
  pub above : 0 < k → expected w ≤ b
  pub long : length o.2 ≡ length cells
  pub members : (n : ℕ) → member n (held o.1 o.2) ≡ (among b k n || member n (held w cells))

-- a call that came to o did not answer 12, and left as many cells
pub record Fine {A : Type 0} (cells : List ℕ) (o : Outcome A) : Type 0 where
  pub never : refusal_in o.0 ≡ 12 → ⊥
  pub long : length o.2 ≡ length cells

-- `insert_packet_number`: n is stored, or nothing has changed
pub data Insertion (w : SlidingWindow) (cells : List ℕ) (n : ℕ) (o : Outcome Unit) : Type 0 where
  stores : o.0 ≡ answers tt → member n (held w cells) ≡ false → Adds w cells o n 1 → Insertion w cells n o
  refusal : (r : ℕ) → o ≡ refused w cells r → (r ≡ 12 → ⊥) → Insertion w cells n o

-- `insert_range`: the whole range is stored, or the k numbers before the first held one, or nothing has changed
pub data RangeInsertion (w : SlidingWindow) (cells : List ℕ) (base count : ℕ) (o : Outcome Unit) : Type 0 where
  stores : o.0 ≡ answers tt → ((i : ℕ) → i < count → member (base + i) (held w cells) ≡ false) → Adds w cells o base count → RangeInsertion w cells base count o
  stops : (k : ℕ) → k < count → o.0 ≡ refuses 7 → ((i : ℕ) → i < k → member (base + i) (held w cells) ≡ false) → member (base + k) (held w cells) ≡ true
      → Adds w cells o base k → RangeInsertion w cells base count o
  refusal : (r : ℕ) → o ≡ refused w cells r → (r ≡ 7 → ⊥) → (r ≡ 12 → ⊥) → RangeInsertion w cells base count o

-- `consume`: the unbroken run from the smallest expected number on is dropped, or that number is absent and nothing has changed
pub data Consumption (w : SlidingWindow) (cells : List ℕ) (o : Outcome (Option (ℕ × ℕ))) : Type 0 where
  run : (last size : ℕ) → o.0 ≡ answers (some (last, size)) → 0 < size → last + 1 ≡ expected w + size → expected o.1 ≡ last + 1
      → ((n : ℕ) → expected w ≤ n → n ≤ last → member n (held w cells) ≡ true) → member (last + 1) (held w cells) ≡ false
      → ((n : ℕ) → member n (held o.1 o.2) ≡ (leb (last + 1) n && member n (held w cells))) → Consumption w cells o
  nothing : o ≡ (answers none, w, cells) → member (expected w) (held w cells) ≡ false → Consumption w cells o

module _ (w : SlidingWindow) (cells : List ℕ) (h : well_formed w cells ≡ true) where
  wf : WellFormed w cells
  wf = well_formed_lem w cells h

  adds : (s : Said Unit) (b k : ℕ) → expected w ≤ b → w.count + k ≤ length cells → Adds w cells (s, grown w k, stored_cells w cells b k) b k
  adds s b k low room =
      record {
        same = refl;
        above = λ l. low;
        long = length_stored_cells w cells wf b k room;
        members = λ n. ap (member n) (held-stored w cells wf b k) ∙ member-stored n b k (held w cells);
      }

  -- a run of numbers that the window may hold
  range_stored : (base count : ℕ) →
      let k = before_held base count (held w cells) in
      expected w ≤ base → w.count + k ≤ length cells → (t : Bool) → ltb k count ≡ t
      → RangeInsertion w cells base count (cond t (refuses 7) (answers tt), grown w k, stored_cells w cells base k)
  range_stored base count low room true q =
      let k = before_held base count (held w cells) in
      let l = ltb-true k count q in
      stops k l refl (before base count (held w cells)).free ((before base count (held w cells)).held l) (adds (refuses 7) base k low room)
  range_stored base count low room false q =
      let l = ltb-false (before_held base count (held w cells)) count q in
      let m = (before base count (held w cells)).within in
      let all : before_held base count (held w cells) ≡ count = omega arith in
      rw all (stores refl (λ i n. (before base count (held w cells)).free i (rw all n)) (adds (answers tt) base count low (rw all at room)))

  run_law : (base count : ℕ) → expected w ≤ base → base + count ≤ bound w → let o = store_run w cells base count in RangeInsertion w cells base count o × Keeps o
  run_law base count low near = by (too_few w cells (before_held base count (held w cells))) refl
    where
      by : (t : Bool) →
          let k = before_held base count (held w cells) in
          too_few w cells k ≡ t →
          let o = checks ((t, 10) ∷ []) (refused w cells) (stored_before w cells base count k) in
          RangeInsertion w cells base count o × Keeps o
      by true q = (refusal 10 refl (λ e. omega arith) (λ e. omega arith), h)
      by false q =
          let k = before_held base count (held w cells) in
          let room = ltb-false (length cells) (w.count + k) q in
          let within = (before base count (held w cells)).within in
          let keeps = stored_keeps w cells wf base count low (omega arith) room in
          (range_stored base count low room (ltb k count) refl, well_formed_is (grown w k) (stored_cells w cells base k) keeps)

  -- `insert_packet_number`: a run of one
  single : (n : ℕ) (o : Outcome Unit) → o ≡ store_run w cells n 1 → RangeInsertion w cells n 1 o → Insertion w cells n o
  single n o e (stores q free a) = let z : n + 0 ≡ n = omega arith in stores q (rw z at (free 0 (omega arith))) a
  single n o e (stops k u q free m a) =
      let z : n + k ≡ n = omega arith in
      refusal 7 (e ∙ one_is w cells n wf.fits ∙ rw (rw z at m)) (λ p. omega arith)
  single n o e (refusal r q not-7 not-12) = refusal r q not-12

  abbrev tests : ℕ → List (Bool × ℕ)
  tests n = (below w n, 5) ∷ (beyond w n, 6) ∷ (exhausted n, 9) ∷ []

  pub insert_law : (n : ℕ) → let o = insert_packet_number w cells n in Insertion w cells n o × Keeps o
  unfolding insert_packet_number
  insert_law n = rw h (by (checked (refused w cells) (store_one w cells n) (tests n)))
    where
      by : Checked (tests n) (refused w cells) (store_one w cells n) →
          let o = checks (tests n) (refused w cells) (store_one w cells n) in
          Insertion w cells n o × Keeps o
      by (passes p q) =
          let near = leb-false window_size (n - expected w) p.1.0 in
          let small = leb-false largest n p.1.1.0 in
          let law = run_law n 1 (ltb-false n (expected w) p.0) (omega arith) in
          rw (q, ← one_is w cells n wf.fits) (single n (store_run w cells n 1) refl law.0, law.1)
      by (fails r f q) = rw q (refusal r refl (never 12 refl (failed_among {ns = 5 ∷ 6 ∷ 9 ∷ []} (tests n) refl f)), h)

  -- `insert_range`
  pub range_law : (base count : ℕ) → let o = insert_range w cells base count in RangeInsertion w cells base count o × Keeps o
  unfolding insert_range member numbers
  range_law base count = rw h (by (eqb count 0) refl)
    where
      past : Checked (range_checks w base count) (refused w cells) (store_run w cells base count) → (count ≡ 0 → ⊥) →
          let o = checks (range_checks w base count) (refused w cells) (store_run w cells base count) in
          RangeInsertion w cells base count o × Keeps o
      past (passes p q) any =
          let small = ltb-false largest (base + count) p.1.0 in
          let near = leb-false window_size (base + count - 1 - expected w) p.1.1.0 in
          rw q (run_law base count (ltb-false base (expected w) p.0) (omega arith))
      past (fails r f q) any =
          let one = failed_among {ns = 5 ∷ 9 ∷ 6 ∷ []} (range_checks w base count) refl f in
          rw q (refusal r refl (never 7 refl one) (never 12 refl one), h)

      by : (t : Bool) → eqb count 0 ≡ t →
          let o : Outcome Unit = cond t (answers tt, w, cells) (checks (range_checks w base count) (refused w cells) (store_run w cells base count)) in
          RangeInsertion w cells base count o × Keeps o
      by true q =
          let z = eqb-true count 0 q in
          let adds_none : Adds w cells (answers tt, w, cells) base count =
          record { same = refl; above = λ l. absurd (omega arith); long = refl; members = λ n. rw (z, ← member-numbers n base 0) } in
          (stores refl (λ i l. absurd (omega arith)) adds_none, h)
      by false q = past (checked (refused w cells) (store_run w cells base count) (range_checks w base count)) (eqb-false count 0 q)

  -- a range of numbers that the window may hold, with a cell for each that is stored, is refused with nothing but 7
  pub range_is : (base count : ℕ) → expected w ≤ base → base + count ≤ bound w →
      let k = before_held base count (held w cells) in
      w.count + k ≤ length cells → insert_range w cells base count ≡ stored_before w cells base count k
  unfolding insert_range before_held
  range_is base zero low near room = rw h (ap (λ (s : SlidingWindow × List ℕ). (answers tt, s.0, s.1)) (sym (stored_none w cells base)))
  range_is base (suc c) low near room =
      rw (h, ne_eqb (suc c) 0 (λ q. omega arith), le-ltb base (expected w) low, le-ltb largest (base + suc c) (omega arith))
      (rw (lt-leb window_size (base + suc c - 1 - expected w) (omega arith), le-ltb (length cells) (w.count + before_held base (suc c) (held w cells)) room))

  -- `consume`
  pub consume_law : let o = consume w cells in Consumption w cells o × Keeps o
  unfolding consume
  consume_law = rw h (by (eqb k 0) refl)
    where
      e : ℕ
      e = expected w

      k : ℕ
      k = run_length e (held w cells)

      by : (t : Bool) → eqb k 0 ≡ t →
          let o : Outcome (Option (ℕ × ℕ)) = cond t (answers none, w, cells) (consumed_run w cells k) in
          Consumption w cells o × Keeps o
      by true q =
          let z : e + k ≡ e = let y = eqb-true k 0 q in omega arith in
          (nothing refl (rw z at (run_ends (bound w) e (held w cells) wf.rises)), h)
      by false q =
          let d = eqb-false k 0 q in
          let z : e + k - 1 + 1 ≡ e + k = omega arith in (
            run (e + k - 1) k refl (omega arith) z (sym z)
                (λ n l m. run-held (bound w) e (held w cells) wf.rises n l (omega arith))
                (rw z (run_ends (bound w) e (held w cells) wf.rises))
                (λ n. rw z (ap (member n) (held-consumed w cells wf k) ∙ run_dropped (bound w) e (held w cells) wf.rises n)),
            well_formed_is (advanced w k) (consumed_cells w cells k) (consumed_keeps w cells wf),
          )

  -- no call answers 12, or changes the number of cells
  pub insert_fine : (n : ℕ) → Fine cells (insert_packet_number w cells n)
  insert_fine n = by (insert_packet_number w cells n) (insert_law n).0
    where
      by : (o : Outcome Unit) → Insertion w cells n o → Fine cells o
      by o (stores q new a) = record { never = λ e. omega (arith, rw q at e); long = a.long }
      by o (refusal r q not-12) = rw q record { never = not-12; long = refl }

  pub range_fine : (base count : ℕ) → Fine cells (insert_range w cells base count)
  range_fine base count = by (insert_range w cells base count) (range_law base count).0
    where
      by : (o : Outcome Unit) → RangeInsertion w cells base count o → Fine cells o
      by o (stores q free a) = record { never = λ e. omega (arith, rw q at e); long = a.long }
      by o (stops k u q free m a) = record { never = λ e. omega (arith, rw q at e); long = a.long }
      by o (refusal r q not-7 not-12) = rw q record { never = not-12; long = refl }

  pub consume_fine : Fine cells (consume w cells)
  unfolding consume
  consume_fine = rw h (by (eqb (run_length (expected w) (held w cells)) 0))
    where
      by : (t : Bool) → Fine {A = Option (ℕ × ℕ)} cells (cond t (answers none, w, cells) (consumed_run w cells (run_length (expected w) (held w cells))))
      by true = record { never = λ e. omega arith; long = refl }
      by false = record { never = λ e. omega arith; long = length_consumed_cells w cells wf }

-- a new window is well formed on any cells, and holds nothing
pub new_well_formed : (s : ℕ) (cells : List ℕ) → well_formed (window s 0) cells ≡ true
new_well_formed s cells = well_formed_is (window s 0) cells (record { fits = omega arith; rises = tt })

pub new_empty : (s n : ℕ) (cells : List ℕ) → member n (held (window s 0) cells) ≡ false
unfolding member
new_empty s n cells = refl

-- Any list of calls, and the window and cells that it leaves

pub data Call : Type 0 where
  inserts : ℕ → Call
  inserts_range : ℕ → ℕ → Call
  consumes : Call

abbrev pub after : Call → SlidingWindow × List ℕ → SlidingWindow × List ℕ
after (inserts n) (w, cells) = let o = insert_packet_number w cells n in (o.1, o.2)
after (inserts_range base count) (w, cells) = let o = insert_range w cells base count in (o.1, o.2)
after consumes (w, cells) = let o = consume w cells in (o.1, o.2)

abbrev pub after_all : List Call → SlidingWindow × List ℕ → SlidingWindow × List ℕ
after_all [] s = s
after_all (c ∷ cs) s = after_all cs (after c s)

after_keeps : (c : Call) (s : SlidingWindow × List ℕ) → well_formed s.0 s.1 ≡ true → well_formed (after c s).0 (after c s).1 ≡ true
after_keeps (inserts n) (w, cells) h = (insert_law w cells h n).1
after_keeps (inserts_range base count) (w, cells) h = (range_law w cells h base count).1
after_keeps consumes (w, cells) h = (consume_law w cells h).1

pub calls_keep : (cs : List Call) (s : SlidingWindow × List ℕ) → well_formed s.0 s.1 ≡ true → well_formed (after_all cs s).0 (after_all cs s).1 ≡ true
calls_keep [] s h = h
calls_keep (c ∷ cs) s h = calls_keep cs (after c s) (after_keeps c s h)
