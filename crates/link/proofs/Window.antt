-- The window's side of the invariant: a fresh window has it, and every call on the window keeps it and is not refused with 12; and what follows of the number expected.
-- What a call says and which numbers it leaves held is taken from the window's own laws; here it is joined to what has entered.
-- Assumes nothing.
use Prim.Native.Nat.{ℕ, ◌+◌, ◌-◌, ◌≤◌, ◌<◌}
use mathlib.Core.Path.{◌≡◌, refl, sym, ap, ◌∙◌}
use mathlib.Core.Bool.{Bool, true, false, ◌||◌, false≢true, or-true}
use mathlib.Core.List.{List, ◌++◌}
use mathlib.Core.Option.{Option}
use native.Mathlib.Nat.{le_refl}
use native.Mathlib.Omega.{arith}
use lib.Dec.{ltb, leb}
use borrow.Author.Tests.{ltb-true, ltb-false, le-leb, ne_eqb}
use Rattle.lists.proofs.Tests.{both}
use Rattle.window.specs.Window.{Outcome, expected, held, member, well_formed, numbers, insert_packet_number, insert_range, consume}
use Rattle.window.specs.declared.SlidingWindow.{SlidingWindow}
use Rattle.ordered_bytes.specs.declared.OrderedBytes.{OrderedBytes}
use Rattle.window.proofs.Rises.{bound, not-below, well_formed_lem}
use Rattle.window.proofs.Members.{among, member-append, member-numbers, Before, before_is}
use Rattle.window.proofs.Calls as calls
use Rattle.link.specs.Demand3.{WindowSide, WindowCall, insert, insert_run, consume_window, Ack, Link, Memory, Called, with_cells, with_entered}
use Rattle.link.specs.Demand3.{inserted_by, range_inserted_by, consumed_by, expects_after, call_window, fresh, In, FairWindow, ExpectsFirst}
use Rattle.link.proofs.All.{only}
use Rattle.link.proofs.Invariant.{WindowKeeps}

-- ---- which numbers have entered

pub member-entering : (n b k : ℕ) (xs : List ℕ) → member n (numbers b k ++ xs) ≡ (among b k n || member n xs)
member-entering n b k xs = rw (member-append n (numbers b k) xs, member-numbers n b k)

-- ---- what the window's laws leave unsaid

-- a number held is not below the smallest expected
held_above : (w : SlidingWindow) (cells : List ℕ) (n : ℕ) → well_formed w cells ≡ true → member n (held w cells) ≡ true → expected w ≤ n
held_above w cells n h m = by (ltb n (expected w)) refl
  where
    by : (t : Bool) → ltb n (expected w) ≡ t → expected w ≤ n
    by true q = absurd (false≢true (sym (not-below (bound w) (expected w) n (held w cells) (well_formed_lem w cells h).rises (ltb-true n (expected w) q)) ∙ m))
    by false q = ltb-false n (expected w) q

-- ---- a fresh window

pub window-begins : (s w : ℕ) (o : OrderedBytes) (m : Memory) → WindowKeeps s s (fresh s w o m).acked
unfolding member
window-begins s w o m = record {
  good = calls.new_well_formed s m.cells;
  expects = refl;
  from = le_refl s;
  same = λ n l. calls.new_empty s n m.cells;
  passed = λ n l u. absurd (omega arith);
  inside = λ n m. absurd (false≢true m);
}

-- a read only moves the first number not taken up
pub window_extends : {s f g : ℕ} {d : WindowSide} → f ≤ g → WindowKeeps s f d → WindowKeeps s g d
window_extends l v = record {
  good = v.good;
  expects = v.expects;
  from = v.from;
  same = v.same;
  passed = v.passed;
  inside = λ n m. let u = v.inside n m in omega arith;
}

module _ {s f : ℕ} {d : WindowSide} (v : WindowKeeps s f d) where
  -- what is held has entered
  pub held_entered : (n : ℕ) → member n (held d.state d.cells) ≡ true → member n d.entered ≡ true
  held_entered n m = sym (v.same n (held_above d.state d.cells n v.good m)) ∙ m

  -- ---- numbers are stored

  -- where the window's law says that k numbers from b on were added, these have entered
  adds_keeps : (o : Outcome Unit) (b k : ℕ) → calls.Keeps o → calls.Adds d.state d.cells o b k → b + k ≤ f
      → WindowKeeps s f (with_cells o.1 o.2 (with_entered (numbers b k ++ d.entered) d))
  adds_keeps o b k g a l = record {
    good = g;
    expects = v.expects ∙ sym a.same;
    from = rw a.same v.from;
    same = λ n u. a.members n ∙ ap (λ (t : Bool). among b k n || t) (v.same n (rw a.same at u)) ∙ sym (member-entering n b k d.entered);
    passed = λ n m u. rw (member-entering n b k d.entered, v.passed n m (rw a.same at u)) (or-true (among b k n));
    inside = λ n m. within n (among b k n) refl (rw (member-entering n b k d.entered) at m);
  }
    where
      within : (n : ℕ) (t : Bool) → among b k n ≡ t → (t || member n d.entered) ≡ true → n < f
      within n true q m = let u = ltb-true n (b + k) (both (leb b n) (ltb n (b + k)) q).1 in omega arith
      within n false q m = v.inside n m

  insert_keeps : (n : ℕ) → n < f → WindowKeeps s f (call_window d (insert n)).left
  unfolding numbers
  insert_keeps n l =
      let law = calls.insert_law d.state d.cells v.good n in
      by (insert_packet_number d.state d.cells n) law.0 law.1
    where
      by : (o : Outcome Unit) → calls.Insertion d.state d.cells n o → calls.Keeps o → WindowKeeps s f (inserted_by o n d)
      by o (calls.stores q new a) g = rw q (adds_keeps o n 1 g a (omega arith))
      by o (calls.refusal r q not-12) g = rw q v

  -- at 7 what enters is what was stored: from the smallest expected on, the first that had entered is the first held
  pub range_keeps : (base count : ℕ) → base + count ≤ f → WindowKeeps s f (call_window d (insert_run base count)).left
  range_keeps base count l =
      let law = calls.range_law d.state d.cells v.good base count in
      by (insert_range d.state d.cells base count) law.0 law.1
    where
      by : (o : Outcome Unit) → calls.RangeInsertion d.state d.cells base count o → calls.Keeps o → WindowKeeps s f (range_inserted_by o base count d)
      by o (calls.stores q free a) g = rw q (adds_keeps o base count g a l)
      by o (calls.stops k u q free m a) g =
          let none_before : (i : ℕ) → i < k → member (base + i) d.entered ≡ false =
          λ i h. let low = a.above (omega arith) in sym (v.same (base + i) (omega arith)) ∙ free i h in
          let before : Before base count d.entered k = record { within = omega arith; free = none_before; held = λ h. held_entered (base + k) m } in
          rw (q, before_is base count k d.entered before) (adds_keeps o base k g a (omega arith))
      by o (calls.refusal r q not-7 not-12) g = rw (q, ne_eqb r 7 not-7) v

  -- ---- the run is consumed

  pub consume_keeps : WindowKeeps s f (call_window d consume_window).left
  consume_keeps =
      let law = calls.consume_law d.state d.cells v.good in
      by (consume d.state d.cells) law.0 law.1
    where
      by : (o : Outcome (Option (ℕ × ℕ))) → calls.Consumption d.state d.cells o → calls.Keeps o → WindowKeeps s f (consumed_by o d)
      by o (calls.run last size q any sum up run end kept) g = rw q record {
        good = g;
        expects = sym up;
        from = let low = v.from in omega arith;
        same = λ n l. kept n ∙ rw (le-leb (last + 1) n (rw up at l)) (v.same n (omega arith));
        passed = λ n l u. at n l (rw up at u) (ltb n (expected d.state)) refl;
        inside = v.inside;
      }
        where
          at : (n : ℕ) → s ≤ n → n < last + 1 → (t : Bool) → ltb n (expected d.state) ≡ t → member n d.entered ≡ true
          at n l u true e = v.passed n l (ltb-true n (expected d.state) e)
          at n l u false e = held_entered n (run n (ltb-false n (expected d.state) e) (omega arith))
      by o (calls.nothing q end) g = rw q v

  -- ---- the number expected

  -- the window never passes the first number not taken
  pub expects_within : s ≤ f → d.expects ≤ f
  expects_within l = rw v.expects (by (ltb s (expected d.state)) refl)
    where
      by : (t : Bool) → ltb s (expected d.state) ≡ t → expected d.state ≤ f
      by true q =
          let some-passed = ltb-true s (expected d.state) q in
          let last = v.inside (expected d.state - 1) (v.passed (expected d.state - 1) (omega arith) (omega arith)) in
          omega arith
      by false q = let none_passed = ltb-false s (expected d.state) q in omega arith

  -- all below it has entered, and after a consume it has not itself
  below-expected : (n : ℕ) → s ≤ n → n < d.expects → member n d.entered ≡ true
  below-expected n l u = v.passed n l (rw v.expects at u)

  consume-ends : member (call_window d consume_window).left.expects d.entered ≡ false
  consume-ends = by (consume d.state d.cells) (calls.consume_law d.state d.cells v.good).0
    where
      by : (o : Outcome (Option (ℕ × ℕ))) → calls.Consumption d.state d.cells o → member (expects_after o.0 d.expects) d.entered ≡ false
      by o (calls.run last size q any sum up run end kept) = rw q (sym (v.same (last + 1) (omega arith)) ∙ end)
      by o (calls.nothing q end) = rw (q, v.expects) (sym (v.same (expected d.state) (le_refl (expected d.state))) ∙ end)

-- after a consume, also one that answers none, the window expects the first number that has not entered
pub consume-first : {s f : ℕ} {d : WindowSide} → WindowKeeps s f d → ExpectsFirst s (call_window d consume_window).left
consume-first v =
    let after = consume_keeps v in
    record { from = omega (arith, after.from, after.expects); below = below-expected after; absent = consume-ends v }

pub record WindowDoes (s f : ℕ) (c : Called WindowSide) : Type 0 where
  pub keeps : WindowKeeps s f c.left
  pub never12 : In 12 c.refusals → ⊥

-- where the acks given reach no further than f
pub window_does : {s f : ℕ} (l : Link) (c : WindowCall) → WindowKeeps s f l.acked → ((a : Ack) → In a l.receiver.acks → a.base + a.count ≤ f)
    → FairWindow l c → WindowDoes s f (call_window l.acked c)
window_does l (insert n) v within fair = record {
  keeps = insert_keeps v n (omega (arith, within fair.ack fair.given, fair.below));
  never12 = λ h. (calls.insert_fine l.acked.state l.acked.cells v.good n).never (sym (only h));
}
window_does l (insert_run base count) v within fair = record {
  keeps = range_keeps v base count (within (record { base = base; count = count }) fair);
  never12 = λ h. (calls.range_fine l.acked.state l.acked.cells v.good base count).never (sym (only h));
}
window_does l consume_window v within fair = record {
  keeps = consume_keeps v;
  never12 = λ h. (calls.consume_fine l.acked.state l.acked.cells v.good).never (sym (only h));
}
