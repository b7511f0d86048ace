-- The round of document 02, §3: after it the store is empty. Outstanding are the numbers from the one that the window expects to the last made, at most 64. The window
-- never passes the front, so those below the front give 5 and an ack each, and the others are accepted or held already, never 6, 9 or 11. Reading to empty takes all of
-- them, with acks that follow one another from the front on, and all these acks enter the window (Received.antt, Entered.antt).
-- Assumes nothing.
use Prim.Native.Nat.{ℕ, zero, suc, ◌+◌, ◌-◌, ◌≤◌}
use mathlib.Core.Path.{◌≡◌, refl, sym, ap, ◌∙◌}
use mathlib.Core.Bool.{true≢false, false}
use mathlib.Core.Option.{Option, none, some}
use mathlib.Core.List.{List, [], ◌∷◌, ◌++◌, map, append_assoc, append-nil, flatten}
use native.Mathlib.Omega.{arith}
use native.Mathlib.Nat.{add-zero}
use lib.ListN.{length, drop, length-drop}
use lib.Seq.{drop-length, drop-append_seam}
use Rattle.refusal.specs.Said.{Said, answers, refuses, refuses_at}
use Rattle.lists.proofs.Order.{either}
use Rattle.window.specs.Window.{member, consume}
use Rattle.outstanding.specs.Outstanding.{places}
use Rattle.writer.specs.Packing.{payload_size}
use Rattle.ordered_bytes.specs.Receiver.{is_held}
use Rattle.ordered_bytes.specs.Buffer.{slots, width}
use Rattle.ordered_bytes.specs.declared.OrderedBytes.{OrderedBytes}
use Rattle.ordered_bytes.proofs.Reading.{Dry}
use Rattle.link.specs.Demand3.{SenderSide, ReceiverSide, ReceiverCall, read, read_pieces, consume_window, Ack, Link, Memory, Call, on_receiver, on_window, with_receiver, with_window}
use Rattle.link.specs.Demand3.{fresh, answered_by, call_receiver, call_window, accepted_all, step, run, All, Reads, reads, reads_in_pieces, key, outstanding_on}
use Rattle.round.specs.Round.{packets_of, IsRead, is_read, is_read_pieces, received, Round, read_calls, acks_of, round_calls, RoundPremises, Emptied}
use Rattle.link.proofs.All.{all_map, all_append}
use Rattle.link.proofs.Runs.{run_last, run-append, fairly_before}
use Rattle.link.proofs.Invariant.{numbered_from, Keeps}
use Rattle.link.proofs.Store.{map-drop, length_keyed, store_counts, store_few, outstanding_is}
use Rattle.link.proofs.Receiver.{ReadOn, emptied}
use Rattle.link.proofs.Window.{expects_within}
use Rattle.link.proofs.Demand3.{begins, reached}
use Rattle.round.proofs.Sizes.{run_memory, fresh-slots}
use Rattle.round.proofs.Entered.{singles, Near, enter_all, run_entries, enters_all}
use Rattle.round.proofs.Received.{receives, receives_append, run_receives, receives_arrivals, Got, got_all, read_all}

numbered-drop : (n i : ℕ) (ps : List (List ℕ)) → drop i (numbered_from n ps) ≡ numbered_from (n + i) (drop i ps)
unfolding numbered_from
numbered-drop n zero ps = rw add-zero
numbered-drop n (suc i) [] = refl
numbered-drop n (suc i) (p ∷ ps) = let z : suc n + i ≡ n + suc i = omega arith in numbered-drop (suc n) i ps ∙ rw z

-- the acks given since there were those of a
acks_since : (a b c d : List Ack) → d ≡ (a ++ b) ++ c → drop (length a) d ≡ b ++ c
acks_since a b c d e = rw (e, append_assoc) (drop-append_seam a (b ++ c))

-- a consume of the window makes no packet
hears_made : (said : Said (Option (ℕ × ℕ))) (d : SenderSide) → (answered_by said d).left.made ≡ d.made
hears_made (answers (some r)) d = refl
hears_made (answers none) d = refl
hears_made (refuses r) d = refl
hears_made (refuses_at r at) d = refl

is_a_read : (c : Call) (d : ReceiverCall) → Reads c → c ≡ on_receiver d → IsRead d
is_a_read c d (reads len out asked) e = let same : read len out ≡ d = cc in rw same at (is_read len out)
is_a_read c d (reads_in_pieces limit out list asked) e = let same : read_pieces limit out list ≡ d = cc in rw same at (is_read_pieces limit out list)

-- ---- the round on a link that keeps the invariant

module _ {s : ℕ} {l : Link} (v : Keeps s l) (r : Round l) (many : 64 ≤ slots l.receiver.buffer) (wide : payload_size ≤ width l.receiver.buffer)
    (cells : 64 ≤ length l.acked.cells) where
  -- the receiver's side after the arrivals, before the last read and after it
  abbrev arrived : ReceiverSide
  arrived = accepted_all (flatten (map packets_of r.arrivals)) l.receiver

  abbrev reading : ReceiverSide
  reading = receives r.reads arrived

  abbrev read_out : ReceiverSide
  read_out = (call_receiver reading r.last).left

  run-received : run l (received r.arrivals r.reads) ≡ with_receiver reading l
  run-received = rw (run_receives, receives_append, receives_arrivals)

  run_reads : run l (read_calls r) ≡ with_receiver read_out l
  run_reads = run_last l (received r.arrivals r.reads) (on_receiver r.last) ∙ rw run-received

  -- the link when all acks have entered, before the window is consumed
  abbrev entered : Link
  entered = with_window (enter_all (acks_of r) l.acked) (with_receiver read_out l)

  run_round : run l (round_calls r) ≡ step entered (on_window consume_window)
  run_round = rw (run-append, run_reads, run_last, run_entries)

  -- how many packets made have been answered
  abbrev x : ℕ
  x = l.acked.expects - s

  from : s ≤ l.acked.expects
  from = rw v.acked.expects v.acked.from

  past : l.acked.expects ≤ s + v.gone
  past = expects_within v.acked (omega arith)

  total : length l.sender.made ≡ length v.payloads
  total = length_keyed s l.sender.made v.payloads v.sender.made

  few : length v.payloads - x ≤ 64
  unfolding places
  few = omega (arith, store_few v.store, length-drop x l.sender.made, total)

  keys : map key (outstanding_on l) ≡ numbered_from (s + x) (drop x v.payloads)
  keys = ap (map key) (outstanding_is v) ∙ map-drop key x l.sender.made ∙ rw v.sender.made (numbered-drop s x v.payloads)

  got : Got s v.payloads v.gone x (length v.payloads) (singles (s + x) (v.gone - x)) l.receiver arrived
  got =
      got_all (flatten (map packets_of r.arrivals)) x (drop x v.payloads) (r.listed ∙ keys) refl v.receiver.within (omega (arith, few, past, v.receiver.within))
      (omega (arith, v.sender.above, v.sender.fits)) (all_map (λ p h. omega arith) v.payloads v.sender.small) v.receiver

  reads_on : ReadOn s v.payloads v.gone arrived read_out
  unfolding receives All
  reads_on =
      let before = read_all v.sender.filled r.reads r.are_reads got.keeps in
      let all = all_append IsRead r.reads (r.last ∷ []) r.are_reads (is_a_read (on_receiver r.last) r.last r.asks refl, tt) in
      rw (receives_append r.reads (r.last ∷ []) arrived) at (read_all v.sender.filled (r.reads ++ (r.last ∷ [])) all got.keeps)

  dry : Dry read_out.buffer
  dry =
      let before = read_all v.sender.filled r.reads r.are_reads got.keeps in
      emptied (with_receiver reading l) (on_receiver r.last) before.later.keeps.good r.asks (rw run-received at r.empty)

  -- all packets made have been read
  all_gone : reads_on.later.gone ≡ length v.payloads
  all_gone =
      let gone = reads_on.later.gone in
      let kept = reads_on.later.keeps in
      let gap : member (s + gone) read_out.accepted ≡ false = rw add-zero at (sym (kept.marks 0) ∙ ap is_held dry.front) in
      either (length v.payloads) gone (λ h. omega (arith, kept.within))
      (λ h. absurd (true≢false (sym (got.all gone (omega (arith, past, reads_on.later.up)) h) ∙ rw reads_on.same at gap)))

  acks_are : acks_of r ≡ singles (s + x) (v.gone - x) ++ reads_on.new
  acks_are =
      rw run_reads
      (acks_since l.receiver.acks (singles (s + x) (v.gone - x)) reads_on.new read_out.acks
      (reads_on.acked ∙ ap (λ (z : List Ack). z ++ reads_on.new) got.acked))

  round_expects : (run l (round_calls r)).acked.expects ≡ s + length v.payloads
  round_expects =
      let up = reads_on.later.up in
      let near : Near (s + reads_on.later.gone) l.acked =
      record { small = omega (arith, all_gone, v.sender.above, v.sender.fits); near = omega (arith, all_gone, few, from, v.acked.expects); cells = cells } in
      let comes : (call_window (enter_all (acks_of r) l.acked) consume_window).left.expects ≡ s + reads_on.later.gone =
      rw acks_are
      (enters_all (s + x) (v.gone - x) reads_on.new (s + reads_on.later.gone) v.acked (omega arith) (omega (arith, from, v.acked.expects)) (omega (arith, from, past))
      reads_on.chain near) in
      ap (λ (z : Link). z.acked.expects) run_round ∙ comes ∙ ap (λ (gone : ℕ). s + gone) all_gone

  round_made : (run l (round_calls r)).sender.made ≡ l.sender.made
  round_made = rw run_round (hears_made (consume entered.acked.state entered.acked.cells).0 l.sender)

  -- "then the store is empty"
  pub round_empties : Keeps s (run l (round_calls r)) → Emptied (run l (round_calls r))
  round_empties after =
      let all : (run l (round_calls r)).acked.expects - s ≡ length l.sender.made = rw (round_expects, total) (omega arith) in
      let none_left : outstanding_on (run l (round_calls r)) ≡ [] = outstanding_is after ∙ rw (all, round_made) (drop-length l.sender.made) in
      record { none_kept = store_counts after.store ∙ rw (← outstanding_is after) (ap length none_left); none_outstanding = none_left }

-- ---- of every list that ends by a round

pub round : (s w : ℕ) (o : OrderedBytes) (m : Memory) (calls : List Call) (r : Round (run (fresh s w o m) calls)) → RoundPremises s w o m calls r
    → Emptied (run (fresh s w o m) (calls ++ round_calls r))
round s w o m calls r p =
    let first = fresh s w o m in
    let all = calls ++ round_calls r in
    let before = reached s w o m all p.premises calls (round_calls r) refl in
    let after = reached s w o m all p.premises all [] (sym (append-nil all)) in
    let same = run_memory first calls (begins s w o m all p.premises) (fairly_before first calls (round_calls r) p.premises.fair) in
    let slots-fresh = fresh-slots s w o m p.premises.new in
    rw run-append
    (round_empties before r (omega (arith, same.receiver.many, slots-fresh.0, p.slots)) (omega (arith, same.receiver.wide, slots-fresh.1, p.premises.wide))
    (omega (arith, same.cells, p.cells)) (rw run-append at after))
