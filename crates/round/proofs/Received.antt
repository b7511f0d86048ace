-- The receiver's part of the round (specs/Round.antt): of the packets given to accepting in order, those below the front are refused with 5 and give an ack each,
-- the others are accepted or were held already; and the reads' acks follow one another from the front on.
-- Assumes nothing.
use Prim.Native.Nat.{ℕ, zero, suc, ◌+◌, ◌-◌, ◌≤◌, ◌<◌}
use mathlib.Core.Path.{◌≡◌, refl, sym, ap, ◌∙◌}
use mathlib.Core.Logic.{inl, inr}
use mathlib.Core.Bool.{true, true≢false, or-true}
use mathlib.Core.Option.{some}
use mathlib.Core.List.{List, [], ◌∷◌, ◌++◌, map, append_assoc, append-nil, flatten}
use native.Mathlib.Omega.{arith}
use native.Mathlib.Nat.{add-zero}
use lib.ListN.{length, drop, get_elem?, length-drop}
use lib.Dec.{eqb}
use borrow.Author.Tests.{ltb-true, ltb-false, leb-true, eqb-true, eq-eqb}
use Rattle.lists.specs.Numbers.{largest}
use Rattle.lists.proofs.Order.{either}
use Rattle.lists.proofs.Lookup.{lookup_drop}
use Rattle.packet.specs.Packet.{Packet}
use Rattle.window.specs.Window.{member}
use Rattle.ordered_bytes.specs.Buffer.{Buffer, slots, width, view}
use Rattle.ordered_bytes.proofs.View.{length-held}
use Rattle.ordered_bytes.proofs.Outcome.{Accepting, malformed, refused, stores, accept_ways}
use Rattle.link.specs.Demand3.{Ack, ReceiverSide, ReceiverCall, Link, on_receiver, with_receiver, accepted_one, accepted_all, call_receiver, run, All, key}
use Rattle.round.specs.Round.{Arrival, arrives, packets_of, IsRead, is_read, is_read_pieces, is_peek}
use Rattle.link.proofs.All.{all_map}
use Rattle.link.proofs.Invariant.{numbered_from, ReceiverKeeps}
use Rattle.link.proofs.Receiver.{Numbered, front_of, accept_keeps, Chain, ReadOn, read_none, read_keeps, read_pieces_keeps}
use Rattle.round.proofs.Sizes.{SameSlots, slots_stay, slots_through, accepted-slots}
use Rattle.round.proofs.Entered.{singles}

-- ---- the calls on the receiver's side alone

unfoldable pub receives : List ReceiverCall → ReceiverSide → ReceiverSide
receives [] d = d
receives (c ∷ cs) d = receives cs (call_receiver d c).left

pub receives_append : (cs ds : List ReceiverCall) (d : ReceiverSide) → receives (cs ++ ds) d ≡ receives ds (receives cs d)
unfolding receives
receives_append [] ds d = refl
receives_append (c ∷ cs) ds d = receives_append cs ds (call_receiver d c).left

pub run_receives : (l : Link) (cs : List ReceiverCall) → run l (map on_receiver cs) ≡ with_receiver (receives cs l.receiver) l
unfolding run receives
run_receives l [] = refl
run_receives l (c ∷ cs) = run_receives (with_receiver (call_receiver l.receiver c).left l) cs

accepted-append : (ps qs : List Packet) (d : ReceiverSide) → accepted_all (ps ++ qs) d ≡ accepted_all qs (accepted_all ps d)
unfolding accepted_all
accepted-append [] qs d = refl
accepted-append (p ∷ ps) qs d = accepted-append ps qs (accepted_one p d)

-- arrivals give their packets to accepting, one after another
pub receives_arrivals : (arrivals : List Arrival) (d : ReceiverSide) → receives (map arrives arrivals) d ≡ accepted_all (flatten (map packets_of arrivals)) d
unfolding receives accepted_all flatten
receives_arrivals [] d = refl
receives_arrivals (a ∷ arrivals) d = receives_arrivals arrivals (accepted_all a.packets d) ∙ sym (accepted-append a.packets (flatten (map packets_of arrivals)) d)

-- ---- the listed packets are given to accepting

-- those with numbers from s + lo on and below s + hi have been accepted, now or before, and these acks were given
pub record Got (s : ℕ) (made : List (List ℕ)) (k lo hi : ℕ) (new : List Ack) (d e : ReceiverSide) : Type 0 where
  pub keeps : ReceiverKeeps s made k e
  pub same : SameSlots d e
  pub acked : e.acks ≡ d.acks ++ new
  pub grows : (n : ℕ) → member n d.accepted ≡ true → member n e.accepted ≡ true
  pub all : (j : ℕ) → lo ≤ j → j < hi → member (s + j) e.accepted ≡ true

singles_late : (s k i : ℕ) → i < k → singles (s + i) 1 ++ singles (s + suc i) (k - suc i) ≡ singles (s + i) (k - i)
unfolding singles
singles_late s k i l =
    let one : k - i ≡ suc (k - suc i) = omega arith in
    let next : s + suc i ≡ suc (s + i) = omega arith in
    rw (one, next)

singles_done : (s k i : ℕ) → k ≤ i → singles (s + i) (k - i) ≡ []
unfolding singles
singles_done s k i l = let none_left : k - i ≡ 0 = omega arith in rw none_left

-- of a list whose drop is known
drop_next : {A : Type 0} (i : ℕ) (xs : List A) (x : A) (rest : List A) → drop i xs ≡ x ∷ rest → drop (suc i) xs ≡ rest
drop_next zero [] x rest e = absurd (let z : ◌≡◌ {A = ℕ} 0 1 = cc in omega arith)
drop_next zero (y ∷ ys) x rest e = cc
drop_next (suc i) [] x rest e = absurd (let z : ◌≡◌ {A = ℕ} 0 1 = cc in omega arith)
drop_next (suc i) (y ∷ ys) x rest e = drop_next i ys x rest e

all_at : (P : List ℕ → Type 0) (xs : List (List ℕ)) (i : ℕ) (x : List ℕ) → All P xs → get_elem? xs i ≡ some x → P x
unfolding All
all_at P [] i x a e = absurd (let z : ◌≡◌ {A = ℕ} 0 1 = cc in omega arith)
all_at P (y ∷ ys) zero x a e = let z : y ≡ x = cc in rw z at a.0
all_at P (y ∷ ys) (suc i) x a e = all_at P ys i x a.1 e

width_of : (b : Buffer) → (view b).width ≡ width b
unfolding view
width_of b = refl

module _ {s : ℕ} {made : List (List ℕ)} {k : ℕ} where
  got_none : {lo hi : ℕ} {d : ReceiverSide} → hi ≤ lo → ReceiverKeeps s made k d → Got s made k lo hi [] d d
  got_none {d = d} l v = record { keeps = v; same = slots_stay d; acked = sym (append-nil d.acks); grows = λ n m. m; all = λ j a b. absurd (omega arith) }

  got_through : {lo mid hi : ℕ} {a b : List Ack} {d e x : ReceiverSide} → Got s made k lo mid a d e → Got s made k mid hi b e x → Got s made k lo hi (a ++ b) d x
  got_through {mid = mid} {a = a} {b = b} {d = d} g h = record {
    keeps = h.keeps;
    same = slots_through g.same h.same;
    acked = h.acked ∙ rw g.acked (append_assoc d.acks a b);
    grows = λ n m. h.grows n (g.grows n m);
    all = λ j low high. either mid j (λ u. h.all j u high) (λ u. h.grows (s + j) (g.all j low u));
  }

  module _ {d : ReceiverSide} (p : Packet) (i : ℕ) (number : p.header.packet_number ≡ s + i) (numbered : Numbered s made p) (v : ReceiverKeeps s made k d) where
    abbrev n : ℕ
    n = p.header.packet_number

    -- below the front: 5, and an ack
    got_late : i < k → Got s made k i (suc i) (singles (s + i) 1) d (accepted_one p d)
    unfolding singles
    got_late less = by (accept_ways d.buffer n p.payload)
      where
        low : n < (view d.buffer).front
        low = omega (arith, v.front, front_of d.buffer)

        by : Accepting d.buffer n p.payload → Got s made k i (suc i) (singles (s + i) 1) d (accepted_one p d)
        by (malformed m e) = absurd (true≢false (sym v.good ∙ m))
        by (stores a e) = absurd (let l = low in omega (arith, a.low, front_of d.buffer))
        by (refused r g (inr (t, f)) e) = absurd (let l = low in omega (arith, ltb-false n (view d.buffer).front t))
        by (refused r g (inl (t, q)) e) = record {
          keeps = accept_keeps p numbered v;
          same = accepted-slots p d;
          acked = rw (e, ← q, number);
          grows = λ m h. rw e h;
          all = λ j a b. let z : j ≡ i = omega arith in rw (e, z) (v.below i less);
        }

    -- from the front on: accepted, or held already
    got_on : k ≤ i → i - k < slots d.buffer → s + i < largest → length p.payload ≤ width d.buffer → Got s made k i (suc i) [] d (accepted_one p d)
    unfolding member
    got_on from near last fits = by (accept_ways d.buffer n p.payload)
      where
        place : n - (view d.buffer).front ≡ i - k
        place = omega (arith, v.front, front_of d.buffer)

        by : Accepting d.buffer n p.payload → Got s made k i (suc i) [] d (accepted_one p d)
        by (malformed m e) = absurd (true≢false (sym v.good ∙ m))
        by (stores a e) = record {
          keeps = accept_keeps p numbered v;
          same = accepted-slots p d;
          acked = rw e;
          grows = λ m h. rw (e, h) (or-true (eqb n m));
          all = λ j a b. let z : j ≡ i = omega arith in rw (e, z, eq-eqb n (s + i) number);
        }
        by (refused r g (inl (t, q)) e) = absurd (let l = ltb-true n (view d.buffer).front t in omega (arith, v.front, front_of d.buffer))
        by (refused r g (inr (a, inl (t, q))) e) =
            absurd (let l = leb-true (length (view d.buffer).held) (n - (view d.buffer).front) t in omega (arith, place, length-held d.buffer))
        by (refused r g (inr (a, inr (b, inl (t, q)))) e) = absurd (omega (arith, eqb-true n largest t))
        by (refused r g (inr (a, inr (b, inr (c, inl (t, q))))) e) =
            let was : member (s + k + (i - k)) d.accepted ≡ true = sym (v.marks (i - k)) ∙ rw place at t in
            let sum : s + k + (i - k) ≡ s + i = omega arith in
            record {
              keeps = accept_keeps p numbered v;
              same = accepted-slots p d;
              acked = rw (e, ← q);
              grows = λ m h. rw e h;
              all = λ j a b. let z : j ≡ i = omega arith in rw (e, z) (rw sum at was);
            }
        by (refused r g (inr (a, inr (b, inr (c, inr (h, inl (t, q)))))) e) =
            absurd (let l = ltb-true (view d.buffer).width (length p.payload) t in omega (arith, width_of d.buffer))
        by (refused r g (inr (a, inr (b, inr (c, inr (h, inr f))))) e) = absurd f.1

  -- the packets with the payloads made from the i-th on
  pub got_all : (ps : List Packet) (i : ℕ) (rest : List (List ℕ)) {d : ReceiverSide} → map key ps ≡ numbered_from (s + i) rest → drop i made ≡ rest → k ≤ length made
      → length made ≤ k + slots d.buffer → s + length made ≤ largest → All (λ p. length p ≤ width d.buffer) made → ReceiverKeeps s made k d
      → Got s made k i (length made) (singles (s + i) (k - i)) d (accepted_all ps d)
  unfolding numbered_from accepted_all
  got_all [] i [] {d} keys are within slots last fits v =
      let end : length made - i ≡ 0 = sym (length-drop i made) ∙ ap length are in
      rw (singles_done s k i (omega arith)) (got_none (omega arith) v)
  got_all [] i (x ∷ rest) keys are within slots last fits v = absurd (let z : ◌≡◌ {A = ℕ} 0 1 = cc in omega arith)
  got_all (p ∷ ps) i [] keys are within slots last fits v = absurd (let z : ◌≡◌ {A = ℕ} 0 1 = cc in omega arith)
  got_all (p ∷ ps) i (x ∷ rest) {d} keys are within slots last fits v =
      let first : key p ≡ (s + i, x) = cc in
      let number : p.header.packet_number ≡ s + i = ap (λ (q : ℕ × List ℕ). q.0) first in
      let payload : p.payload ≡ x = ap (λ (q : ℕ × List ℕ). q.1) first in
      let next : suc (s + i) ≡ s + suc i = omega arith in
      let others : map key ps ≡ numbered_from (suc (s + i)) rest = cc in
      let there : get_elem? made (i + 0) ≡ some x = sym (lookup_drop i made 0) ∙ ap (λ (xs : List (List ℕ)). get_elem? xs 0) are in
      let here : get_elem? made i ≡ some x = rw add-zero at there in
      let left : length made - i ≡ suc (length rest) = sym (length-drop i made) ∙ ap length are in
      let place : p.header.packet_number - s ≡ i = omega arith in
      let numbered : Numbered s made p = (omega arith, rw (place, payload) here, omega arith) in
      let fit : length p.payload ≤ width d.buffer = rw payload (all_at (λ q. length q ≤ width d.buffer) made i x fits here) in
      let after : drop (suc i) made ≡ rest = drop_next i made x rest are in
      let same = accepted-slots p d in
      let many = same.many in
      let more = got_all ps (suc i) rest (rw next at others) after within (omega arith) last (all_map (λ q h. rw same.wide h) made fits) (accept_keeps p numbered v) in
      either k i
      (λ from.
      let one = got_on p i number numbered v from (omega arith) (omega arith) fit in
      rw (singles_done s k i from) (rw (singles_done s k (suc i) (omega arith)) at (got_through one more)))
      (λ less. rw (← singles_late s k i less) (got_through (got_late p i number numbered v less) more))

-- ---- the reads

chain_append : (f : ℕ) (acks more : List Ack) (g h : ℕ) → Chain f acks g → Chain g more h → Chain f (acks ++ more) h
unfolding Chain
chain_append f [] more g h c d = rw c d
chain_append f (a ∷ acks) more g h c d = (c.0, c.1, chain_append (f + a.count) acks more g h c.2 d)

module _ {s : ℕ} {made : List (List ℕ)} (filled : All (λ p. 0 < length p) made) where
  read_one : {k : ℕ} {d : ReceiverSide} (c : ReceiverCall) → IsRead c → ReceiverKeeps s made k d → ReadOn s made k d (call_receiver d c).left
  read_one c (is_read len out) v = read_keeps v filled len out
  read_one c (is_read_pieces limit out list) v = read_pieces_keeps v limit out list
  read_one c is_peek v = read_none v

  pub read_all : {k : ℕ} {d : ReceiverSide} (cs : List ReceiverCall) → All IsRead cs → ReceiverKeeps s made k d → ReadOn s made k d (receives cs d)
  unfolding receives All
  read_all [] a v = read_none v
  read_all {k} {d} (c ∷ cs) a v =
      let one = read_one c a.0 v in
      let rest = read_all {k = one.later.gone} cs a.1 one.later.keeps in
      record {
        later = record { gone = rest.later.gone; up = omega (arith, one.later.up, rest.later.up); keeps = rest.later.keeps };
        new = one.new ++ rest.new;
        acked = rest.acked ∙ ap (λ (z : List Ack). z ++ rest.new) one.acked ∙ append_assoc d.acks one.new rest.new;
        chain = chain_append (s + k) one.new rest.new (s + one.later.gone) (s + rest.later.gone) one.chain rest.chain;
        same = rest.same ∙ one.same;
      }
