-- Demand 3: every fair list of calls from a fresh link keeps the invariant, and the invariant gives every conclusion.
-- Assumes nothing.
use Prim.Native.Nat.{ℕ, zero, suc, ◌+◌, ◌-◌, ◌≤◌, ◌<◌}
use mathlib.Core.Path.{◌≡◌, sym, ap, ◌∙◌}
use mathlib.Core.Bool.{false}
use mathlib.Core.Option.{some}
use mathlib.Core.List.{List, [], ◌∷◌, ◌++◌, append-nil, flatten}
use native.Mathlib.Omega.{arith}
use native.Mathlib.Nat.{add-zero}
use lib.ListN.{length, take, get_elem?}
use lib.Seq.{length-take-le}
use Rattle.packet.specs.Packet.{Packet}
use Rattle.ordered_bytes.specs.Receiver.{is_held}
use Rattle.ordered_bytes.specs.Buffer.{view}
use Rattle.ordered_bytes.specs.declared.OrderedBytes.{OrderedBytes}
use Rattle.ordered_bytes.proofs.Reading.{Dry, weight}
use Rattle.window.specs.Window.{member}
use Rattle.rtt.proofs.Laws.{fresh_well_formed}
use Rattle.link.specs.Demand3.{Link, Memory, Call, on_sender, on_receiver, on_window, on_trips, consume_window, call_window, hears_of, fresh, step, run, refusals}
use Rattle.link.specs.Demand3.{Ack, In, MadeEarlier, Fair, Fairly, Premises}
use Rattle.link.specs.Demand3.{Start, Made, ToEmpty, Made_in, Delivers, Acknowledges, Demand3}
use Rattle.link.proofs.Invariant.{Below, Keeps}
use Rattle.link.proofs.All.{all_in, in_neither}
use Rattle.link.proofs.Runs.{run_last, fairly_before, fair_next}
use Rattle.link.proofs.Wrote.{wrote}
use Rattle.link.proofs.Covered.{longest, longest_covered, longest_most, reach, reach_is, reach_most, at_take, flatten_start, start_through}
use Rattle.link.proofs.Store.{length_keyed, store_begins, hears_does, resends}
use Rattle.link.proofs.Sender.{made_at, made_earlier_at, made_is, sender_begins, sender_does}
use Rattle.link.proofs.Receiver.{Numbered, receiver_begins, receiver_extends, receiver_does, emptied, reads_reach}
use Rattle.link.proofs.Window.{window-begins, window_extends, window_does, expects_within, consume-first}
use Rattle.link.proofs.Trips.{trips_does}

-- ---- the invariant holds of every link reached

pub begins : (s w : ℕ) (o : OrderedBytes) (m : Memory) (calls : List Call) → Premises s w o m calls → Keeps s (fresh s w o m)
begins s w o m calls p = record {
  payloads = [];
  gone = 0;
  sender = sender_begins s w o m (omega (arith, p.start));
  store = let none-answered : s - s ≡ 0 = omega arith in rw none-answered (store_begins s m p.room);
  receiver = receiver_begins s w o m [] p.new;
  acked = window_extends (omega arith) (window-begins s w o m);
  trips = fresh_well_formed;
}

at_length : (ps : List (List ℕ)) (i : ℕ) (p : List ℕ) → get_elem? ps i ≡ some p → i < length ps
at_length [] i p e = absurd (let z : ◌≡◌ {A = ℕ} 0 1 = cc in omega arith)
at_length (q ∷ ps) zero p e = omega arith
at_length (q ∷ ps) (suc i) p e = let h = at_length ps i p e in omega arith

module _ {s : ℕ} {l : Link} (v : Keeps s l) where
  -- a packet that arrives carries the payload of its number
  numbered : (p : Packet) → MadeEarlier l p → Numbered s v.payloads p
  numbered p m =
      let c = made_earlier_at v.sender p m in
      let below = at_length v.payloads (p.header.packet_number - s) p.payload c.here in
      (c.from, c.here, omega (arith, v.sender.above, v.sender.fits))

  -- an ack given reaches no further than what was taken
  ack_within : (a : Ack) → In a l.receiver.acks → a.base + a.count ≤ s + v.gone
  ack_within a h = (all_in (Below s (s + v.gone)) l.receiver.acks v.receiver.acks a h).1

  -- no more packets are answered than were made
  answered_made : l.acked.expects - s ≤ length l.sender.made
  answered_made =
      omega (arith, expects_within v.acked (omega arith), v.receiver.within, length_keyed s l.sender.made v.payloads v.sender.made)

-- what a call keeps, and that it is not refused with 12
record Does (s : ℕ) (l : Link) (c : Call) : Type 0 where
  keeps : Keeps s (step l c)
  never12 : In 12 (refusals l c) → ⊥

does : {s : ℕ} (l : Link) (c : Call) → Keeps s l → Fair l c → Does s l c
does {s = s} l (on_sender c) v f =
    let d = sender_does (l.acked.expects - s) l c v.sender (answered_made v) v.store f in
    record {
      keeps = record {
        payloads = v.payloads ++ d.more;
        gone = v.gone;
        sender = d.keeps;
        store = d.store;
        receiver = receiver_extends d.more v.receiver;
        acked = v.acked;
        trips = v.trips;
      };
      never12 = d.never12;
    }
does l (on_receiver c) v f =
    let d = receiver_does l v.receiver c v.sender.filled (numbered v) f in
    let later = d.later in
    record {
      keeps = record {
        payloads = v.payloads;
        gone = later.gone;
        sender = v.sender;
        store = v.store;
        receiver = later.keeps;
        acked = window_extends (omega (arith, later.up)) v.acked;
        trips = v.trips;
      };
      never12 = d.never12;
    }
does l (on_window c) v f =
    let d = window_does l c v.acked (ack_within v) f in
    let h = hears_does v.sender v.acked (omega arith) (omega (arith, v.receiver.within)) v.store c in
    record {
      keeps = record { payloads = v.payloads; gone = v.gone; sender = h.keeps; store = h.store; receiver = v.receiver; acked = d.keeps; trips = v.trips };
      never12 = in_neither 12 (call_window l.acked c).refusals (hears_of l.acked c l.sender).refusals d.never12 h.never12;
    }
does l (on_trips c) v f =
    let d = trips_does l.trips c v.trips in
    record {
      keeps = record { payloads = v.payloads; gone = v.gone; sender = v.sender; store = v.store; receiver = v.receiver; acked = v.acked; trips = d.keeps };
      never12 = d.never12;
    }

pub does_keeps : {s : ℕ} (l : Link) (c : Call) → Keeps s l → Fair l c → Keeps s (step l c)
does_keeps l c v f = (does l c v f).keeps

runs : {s : ℕ} (l : Link) (calls : List Call) → Keeps s l → Fairly l calls → Keeps s (run l calls)
unfolding run Fairly
runs l [] v f = v
runs l (c ∷ calls) v f = runs (step l c) calls (does_keeps l c v f.0) f.1

-- ---- what the invariant says of the bytes

module _ {s : ℕ} {l : Link} (v : Keeps s l) where
  prefix : List ℕ
  prefix = longest s l v.payloads

  placed : (i : ℕ) (p : List ℕ) → Made l (s + i) p → get_elem? v.payloads i ≡ some p
  placed i p m =
      let c = made_at v.sender m.packet m.made in
      let place : m.packet.header.packet_number - s ≡ i = omega (arith, m.number) in
      rw (place, m.carries) at c.here

  prefix_sent : Start prefix l.sender.queued
  unfolding prefix
  prefix_sent =
      start_through (flatten_start (reach s v.payloads l.receiver.accepted) v.payloads)
      (record { rest = l.sender.queue.bytes; whole = v.sender.stream })

  taken_within : Start (flatten (take v.gone v.payloads)) prefix
  unfolding prefix
  taken_within =
      let long : length (take v.gone v.payloads) ≡ v.gone = length-take-le v.gone v.payloads v.receiver.within in
      reach_most l.receiver.accepted s (take v.gone v.payloads) v.payloads (at_take v.gone v.payloads)
      (λ i h. v.receiver.below i (rw long at h))

  prefix_delivers : Start l.receiver.delivered prefix
  prefix_delivers = start_through (record { rest = (view l.receiver.buffer).carry; whole = v.receiver.flow }) taken_within

  prefix_empty : Dry l.receiver.buffer → l.receiver.delivered ≡ prefix
  unfolding prefix
  prefix_empty d =
      let gap : member (s + v.gone) l.receiver.accepted ≡ false = rw add-zero at (sym (v.receiver.marks 0) ∙ ap is_held d.front) in
      let all : reach s v.payloads l.receiver.accepted ≡ v.gone =
      reach_is l.receiver.accepted s v.gone v.payloads v.receiver.within v.receiver.below gap in
      sym (append-nil l.receiver.delivered) ∙ rw (← d.carry) (v.receiver.flow ∙ rw all)

-- ---- the theorem

module _ (s w : ℕ) (o : OrderedBytes) (m : Memory) (calls : List Call) (p : Premises s w o m calls) where
  abbrev pub first : Link
  first = fresh s w o m

  -- the invariant after every start of the list
  pub reached : (before after : List Call) → calls ≡ before ++ after → Keeps s (run first before)
  reached before after e = runs first before (begins s w o m calls p) (fairly_before first before after (rw e at p.fair))

  ends : Keeps s (run first calls)
  ends = reached calls [] (sym (append-nil calls))

  read_out : ToEmpty first calls → (run first calls).receiver.delivered ≡ prefix ends
  read_out t =
      let last : run first calls ≡ step (run first t.before) t.last = ap (run first) t.list ∙ run_last first t.before t.last in
      let before = reached t.before (t.last ∷ []) t.list in
      prefix_empty ends (rw last (emptied (run first t.before) t.last before.receiver.good t.reads t.empty))

  never_12 : (on : Link) (call : Call) → Made_in first calls on call → In 12 (refusals on call) → ⊥
  never_12 on call m h =
      let kept = reached m.before (call ∷ m.after) m.list in
      let fair = fair_next first m.before call m.after (rw m.list at p.fair) in
      (does (run first m.before) call kept fair).never12 (rw m.reached h)

  delivers : Delivers s first calls
  unfolding prefix
  delivers = record {
    longest = prefix ends;
    covered = longest_covered s (run first calls) ends.payloads (made_is ends.sender);
    most = longest_most s (run first calls) ends.payloads (placed ends);
    sent = prefix_sent ends;
    delivers = prefix_delivers ends;
    to_empty = read_out;
    enough = weight (run first calls).receiver.buffer;
    reaches = reads_reach (run first calls) ends.receiver.good;
  }

  acknowledges : Acknowledges s first calls
  acknowledges = record {
    taken = ends.receiver.front ∙ rw ends.receiver.counts;
    was_accepted = λ n from below.
        let place : s + (n - s) ≡ n = omega arith in
        rw place at (ends.receiver.below (n - s) (omega (arith, ends.receiver.counts)));
    not_past = rw ends.receiver.counts (expects_within ends.acked (omega arith));
    at_consume = λ before e.
        let last : run first calls ≡ step (run first before) (on_window consume_window) = ap (run first) e ∙ run_last first before (on_window consume_window) in
        rw last (consume-first (reached before (on_window consume_window ∷ []) e).acked);
  }

  pub demand3 : Demand3 s first calls
  demand3 = record {
    delivery = delivers;
    acknowledgement = acknowledges;
    resending = resends ends;
    wrote = λ on src dst out p made e. wrote on.sender src dst out p e;
    well_formed = never_12;
  }
