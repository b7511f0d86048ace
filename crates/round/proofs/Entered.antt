-- The window's part of the round (specs/Round.antt): single numbers below the first one not taken, and then ranges that follow one another from there on, all enter,
-- with 64 cells for at most 64 numbers; and a consume comes to the end of them. A range that met a number entered before in its middle would lose the rest (7):
-- a single number has no rest, and nothing at or above the first number not taken has entered.
-- Assumes nothing.
use Prim.Native.Nat.{ℕ, zero, suc, ◌+◌, ◌≤◌, ◌<◌}
use mathlib.Core.Path.{◌≡◌, refl, sym, ap, ◌∙◌}
use mathlib.Core.Logic.{◌⊎◌, inl, inr}
use mathlib.Core.Bool.{Bool, true, false, cond, ◌||◌, true≢false, or-true}
use mathlib.Core.List.{List, [], ◌∷◌, ◌++◌, map}
use native.Mathlib.Omega.{arith}
use native.Mathlib.Nat.{le_refl}
use lib.ListN.{length}
use lib.Seq.{length-take-le}
use lib.Dec.{ltb, eqb}
use borrow.Author.Tests.{eqb-false, le-leb, lt-ltb, eq-eqb}
use Rattle.refusal.specs.Said.{Said, answers, refuses}
use Rattle.lists.specs.Numbers.{largest}
use Rattle.lists.proofs.Order.{either}
use Rattle.window.specs.Window.{Outcome, expected, held, member, before_held, stored_before, insert_range}
use Rattle.window.proofs.Rises.{Rises, well_formed_lem}
use Rattle.window.proofs.Members.{among, before}
use Rattle.window.proofs.Calls as calls
use Rattle.link.specs.Demand3.{Ack, WindowSide, insert_run, consume_window, Link, with_window, range_inserted_by, call_window, run}
use Rattle.round.specs.Round.{entry}
use Rattle.link.proofs.Invariant.{WindowKeeps}
use Rattle.link.proofs.Receiver.{Chain}
use Rattle.link.proofs.Window.{member-entering, held_entered, window_extends, range_keeps, consume_keeps, consume-first, expects_within}

-- ---- how many numbers are held

neither : (a b : Bool) → (a || b) ≡ false → (a ≡ false) × (b ≡ false)
neither true b h = absurd (true≢false h)
neither false b h = (refl, h)

module _ (hi f : ℕ) where
  -- rising numbers from lo on, all below f
  rises_few : (lo : ℕ) (xs : List ℕ) → Rises lo hi xs → ((n : ℕ) → member n xs ≡ true → n < f) → lo ≤ f → lo + length xs ≤ f
  unfolding member
  rises_few lo [] r below l = omega arith
  rises_few lo (x ∷ xs) r below l =
      let here = below x (rw (eq-eqb x x refl)) in
      let rest = rises_few (suc x) xs r.2 (λ n m. below n (rw (m, or-true))) here in
      omega (arith, r.0)

  -- .. with one below f that is not among them
  rises_but : (n lo : ℕ) (xs : List ℕ) → Rises lo hi xs → ((m : ℕ) → member m xs ≡ true → m < f) → member n xs ≡ false → lo ≤ n → n < f → lo + suc (length xs) ≤ f
  unfolding member
  rises_but n lo [] r below free l u = omega arith
  rises_but n lo (x ∷ xs) r below free l u =
      let not-it = neither (eqb x n) (member n xs) free in
      let other = eqb-false x n not-it.0 in
      either x n
      (λ h. omega (arith, r.0, rises_but n (suc x) xs r.2 (λ m e. below m (rw (e, or-true))) not-it.1 (omega arith) u))
      (λ h. omega (arith, rises_few (suc n) (x ∷ xs) (h, r.1, r.2) below u))

-- ---- one ack goes to the window

-- the numbers from lo on and below hi have entered
pub record Enters (s g lo hi : ℕ) (d d' : WindowSide) : Type 0 where
  pub keeps : WindowKeeps s g d'
  pub same : expected d'.state ≡ expected d.state
  pub long : length d'.cells ≡ length d.cells
  pub grows : (n : ℕ) → member n d.entered ≡ true → member n d'.entered ≡ true
  pub all : (n : ℕ) → lo ≤ n → n < hi → member n d'.entered ≡ true

among_in : (b k n : ℕ) → b ≤ n → n < b + k → among b k n ≡ true
among_in b k n l u = rw (le-leb b n l, lt-ltb n (b + k) u)

-- all numbers that may be held, those of the ack too, lie within 64 of the one expected
pub record Near (g : ℕ) (d : WindowSide) : Type 0 where
  pub small : g ≤ largest
  pub near : g ≤ expected d.state + 64
  pub cells : 64 ≤ length d.cells

-- where the ack is of one number, or of numbers that are all new
module _ {s f : ℕ} {d : WindowSide} (v : WindowKeeps s f d) (g base n : ℕ) (up : f ≤ g) (low : expected d.state ≤ base) (first : expected d.state ≤ f)
    (end : base + n ≤ g) (fits : Near g d) (new : (n ≡ 1) ⊎ (f ≤ base)) where
  few : expected d.state + d.state.count ≤ f
  few =
      let wf = well_formed_lem d.state d.cells v.good in
      let long : length (held d.state d.cells) ≡ d.state.count = length-take-le d.state.count d.cells wf.fits in
      omega (arith, rises_few _ f (expected d.state) (held d.state d.cells) wf.rises (λ m e. v.inside m (held_entered v m e)) first)

  few_but : (m : ℕ) → member m (held d.state d.cells) ≡ false → expected d.state ≤ m → m < g → expected d.state + suc d.state.count ≤ g
  few_but m free l u =
      let wf = well_formed_lem d.state d.cells v.good in
      let long : length (held d.state d.cells) ≡ d.state.count = length-take-le d.state.count d.cells wf.fits in
      omega (arith, rises_but _ g m (expected d.state) (held d.state d.cells) wf.rises (λ m e. let i = v.inside m (held_entered v m e) in omega arith) free l u)

  room : d.state.count + before_held base n (held d.state d.cells) ≤ length d.cells
  unfolding before_held
  room = by new
    where
      one : (t : Bool) → member base (held d.state d.cells) ≡ t → base + 1 ≤ g → d.state.count + cond t 0 1 ≤ length d.cells
      one true q e = omega (arith, few, fits.near, fits.cells)
      one false q e = omega (arith, few_but base q low (omega arith), fits.near, fits.cells)

      by : (n ≡ 1) ⊎ (f ≤ base) → d.state.count + before_held base n (held d.state d.cells) ≤ length d.cells
      by (inl e) = rw e (one (member base (held d.state d.cells)) refl (rw e at end))
      by (inr h) = omega (arith, few, (before base n (held d.state d.cells)).within, fits.near, fits.cells)

  -- where one of them was held, it is the only one, and had entered
  had_entered : (k : ℕ) → k < n → member (base + k) (held d.state d.cells) ≡ true → (m : ℕ) → base ≤ m → m < base + n → member m d.entered ≡ true
  had_entered k u q m a b = by new
    where
      by : (n ≡ 1) ⊎ (f ≤ base) → member m d.entered ≡ true
      by (inl e) = let z : base + k ≡ m = omega arith in rw z at (held_entered v (base + k) q)
      by (inr h) = absurd (let i = v.inside (base + k) (held_entered v (base + k) q) in omega arith)

  pub enters : Enters s g base (base + n) d (call_window d (insert_run base n)).left
  enters =
      let is = calls.range_is d.state d.cells v.good base n low (omega (arith, fits.small, fits.near)) room in
      by (insert_range d.state d.cells base n) (calls.range_law d.state d.cells v.good base n).0 (range_keeps (window_extends up v) base n end) is
    where
      by : (o : Outcome Unit) → calls.RangeInsertion d.state d.cells base n o → WindowKeeps s g (range_inserted_by o base n d)
          → o ≡ stored_before d.state d.cells base n (before_held base n (held d.state d.cells)) → Enters s g base (base + n) d (range_inserted_by o base n d)
      by o (calls.stores q free a) keeps is = record {
        keeps = keeps;
        same = a.same;
        long = a.long;
        grows = λ m e. rw (q, member-entering m base n d.entered, e) (or-true (among base n m));
        all = λ m l u. rw (q, member-entering m base n d.entered, among_in base n m l u);
      }
      by o (calls.stops k u q free m a) keeps is = record {
        keeps = keeps;
        same = a.same;
        long = a.long;
        grows = λ i e. rw (q, member-entering i base (before_held base n d.entered) d.entered, e) (or-true (among base (before_held base n d.entered) i));
        all = λ i l r. rw (q, member-entering i base (before_held base n d.entered) d.entered, had_entered k u m i l r) (or-true (among base (before_held base n d.entered) i));
      }
      by o (calls.refusal r q not-7 not-12) keeps is =
          absurd (no (ltb (before_held base n (held d.state d.cells)) n) (ap (λ (x : Outcome Unit). x.0) (sym is ∙ q)))
        where
          no : (t : Bool) → ◌≡◌ {A = Said Unit} (cond t (refuses 7) (answers tt)) (refuses r) → ⊥
          no true e = not-7 (let z : 7 ≡ r = cc in sym z)
          no false e = let z : ◌≡◌ {A = ℕ} 0 1 = cc in omega arith

-- ---- the acks of a round go to the window

unfoldable pub enter_all : List Ack → WindowSide → WindowSide
enter_all [] d = d
enter_all (a ∷ acks) d = enter_all acks (call_window d (insert_run a.base a.count)).left

pub enter_append : (acks more : List Ack) (d : WindowSide) → enter_all (acks ++ more) d ≡ enter_all more (enter_all acks d)
unfolding enter_all
enter_append [] more d = refl
enter_append (a ∷ acks) more d = enter_append acks more (call_window d (insert_run a.base a.count)).left

pub run_entries : (l : Link) (acks : List Ack) → run l (map entry acks) ≡ with_window (enter_all acks l.acked) l
unfolding run enter_all
run_entries l [] = refl
run_entries l (a ∷ acks) = run_entries (with_window (call_window l.acked (insert_run a.base a.count)).left l) acks

enters_none : {s f lo hi : ℕ} {d : WindowSide} → hi ≤ lo → WindowKeeps s f d → Enters s f lo hi d d
enters_none l v = record { keeps = v; same = refl; long = refl; grows = λ n m. m; all = λ n a b. absurd (omega arith) }

enters_through : {s f g lo mid hi : ℕ} {d e x : WindowSide} (from until : ℕ) → from ≤ lo → mid ≤ until → Enters s f from until d e → Enters s g mid hi e x → Enters s g lo hi d x
enters_through {mid = mid} from until l u a b = record {
  keeps = b.keeps;
  same = b.same ∙ a.same;
  long = b.long ∙ a.long;
  grows = λ n m. b.grows n (a.grows n m);
  all = λ n low high. either mid n (λ h. b.all n h high) (λ h. b.grows n (a.all n (omega arith) (omega arith)));
}

still_near : {s f g h lo hi : ℕ} {d e : WindowSide} → h ≤ g → Near g d → Enters s f lo hi d e → Near h e
still_near l x a = record { small = omega (arith, x.small); near = omega (arith, x.near, a.same); cells = omega (arith, x.cells, a.long) }

-- c numbers from n on, one to an ack: those of packets refused with 5
unfoldable pub singles : ℕ → ℕ → List Ack
singles n zero = []
singles n (suc c) = record { base = n; count = 1 } ∷ singles (suc n) c

enter_singles : (s f n c : ℕ) (d : WindowSide) → WindowKeeps s f d → expected d.state ≤ n → expected d.state ≤ f → n + c ≤ f → Near f d
    → Enters s f n (n + c) d (enter_all (singles n c) d)
unfolding singles enter_all
enter_singles s f n zero d v low first end near = enters_none (omega arith) v
enter_singles s f n (suc c) d v low first end near =
    let one = enters v f n 1 (le_refl f) low first (omega arith) near (inl refl) in
    let same = one.same in
    let rest = enter_singles s f (suc n) c (call_window d (insert_run n 1)).left one.keeps (omega arith) (omega arith) (omega arith) (still_near (le_refl f) near one) in
    let z : n + suc c ≡ suc n + c = omega arith in
    rw z (enters_through n (n + 1) (le_refl n) (omega arith) one rest)

chain_up : (f : ℕ) (acks : List Ack) (g : ℕ) → Chain f acks g → f ≤ g
unfolding Chain
chain_up f [] g c = omega arith
chain_up f (a ∷ acks) g c = omega (arith, chain_up (f + a.count) acks g c.2)

-- acks that follow one another from the first number not taken: those of the reads
enter_chain : (s f : ℕ) (acks : List Ack) (g : ℕ) (d : WindowSide) → Chain f acks g → WindowKeeps s f d → expected d.state ≤ f → Near g d → Enters s g f g d (enter_all acks d)
unfolding Chain enter_all
enter_chain s f [] g d c v low near = rw (← c) (enters_none (le_refl f) v)
enter_chain s f (a ∷ acks) g d c v low near =
    let up = chain_up (f + a.count) acks g c.2 in
    let begin = c.0 in
    let here : Near (f + a.count) d = record { small = omega (arith, near.small); near = omega (arith, near.near); cells = near.cells } in
    let one = enters v (f + a.count) a.base a.count (omega arith) (omega arith) low (omega arith) here (inr (omega arith)) in
    let same = one.same in
    let rest = enter_chain s (f + a.count) acks g (call_window d (insert_run a.base a.count)).left c.2 one.keeps (omega arith) (still_near (le_refl g) near one) in
    enters_through a.base (a.base + a.count) (omega arith) (omega arith) one rest

-- where all from the number expected on and below g has entered, a consume comes to g
consume_all : {s g : ℕ} {d : WindowSide} → WindowKeeps s g d → s ≤ g → ((n : ℕ) → expected d.state ≤ n → n < g → member n d.entered ≡ true)
    → (call_window d consume_window).left.expects ≡ g
consume_all {s} {g} {d} v l all =
    let after = consume_keeps v in
    let end = (call_window d consume_window).left.expects in
    let first = consume-first v in
    let up : end ≤ g = expects_within after l in
    either g end (λ h. omega arith)
    (λ h. absurd (true≢false (sym (either (expected d.state) end (λ u. all end u h) (λ u. v.passed end first.from u)) ∙ first.absent)))

-- single numbers from n up to f, the first not taken, and then acks that follow one another from f to g: a consume comes to g
pub enters_all : {s f : ℕ} {d : WindowSide} (n c : ℕ) (acks : List Ack) (g : ℕ) → WindowKeeps s f d → s ≤ f → n ≡ expected d.state → n + c ≡ f → Chain f acks g → Near g d
    → (call_window (enter_all (singles n c ++ acks) d) consume_window).left.expects ≡ g
enters_all {s} {f} {d} n c acks g v from low end chain near =
    let up = chain_up f acks g chain in
    let here : Near f d = record { small = omega (arith, near.small); near = omega (arith, near.near); cells = near.cells } in
    let late = enter_singles s f n c d v (omega arith) (omega arith) (omega arith) here in
    let same = late.same in
    let rest = enter_chain s f acks g (enter_all (singles n c) d) chain late.keeps (omega arith) (still_near (le_refl g) near late) in
    let both = enters_through {lo = n} n (n + c) (le_refl n) (omega arith) late rest in
    rw enter_append (consume_all both.keeps (omega arith) (λ m above below. both.all m (omega (arith, both.same)) below))
