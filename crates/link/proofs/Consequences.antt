-- What the claim of demand 3 says of the sample run (Sample.antt). The claim is taken as given, and each line of it is read off, not computed: a claim that
-- said less would not give it, however it is proved. That it holds of the run is Shown.antt.
-- Assumes nothing.
use Prim.Native.Nat.{ℕ, zero, suc, ◌+◌, ◌≤◌, ◌<◌}
use mathlib.Core.Path.{◌≡◌, refl, sym, ap, ◌∙◌}
use mathlib.Core.Logic.{◌⊎◌}
use mathlib.Core.Bool.{Bool, true, false, ◌||◌, false≢true}
use mathlib.Core.List.{List, [], ◌∷◌, ◌++◌, append-nil, flatten}
use native.Mathlib.Omega.{arith}
use native.Mathlib.Decide.{dec_lt}
use lib.Dec.{eqb, lit≤, lit<}
use lib.ListN.{length, length-append, length-replicate, replicate}
use borrow.Author.Tests.{eqb-false}
use lib.Seq.{paste}
use Rattle.refusal.specs.Said.{answers, refuses}
use Rattle.header.specs.Header.{header_bytes}
use Rattle.packet.specs.Packet.{Packet, joined}
use Rattle.packet.specs.Datagram.{listed}
use Rattle.outstanding.specs.Outstanding.{listing}
use Rattle.window.specs.Window.{member}
use Rattle.link.specs.Demand3.{Link, WindowSide, Call, on_sender, pack, Parser, parsing, indexed, run, In, All, Reads, reads, refusals, Start, Accepted, Covered, ToEmpty}
use Rattle.link.specs.Demand3.{Made_in, ReadsBack, ExpectsFirst, Stops, outstanding_on, Demand3}
use Rattle.link.proofs.Sample.{s, first, bytes, read_at_hole, last, before_hole, to_hole, before_consume, to_consume, before_last, calls, holed, consumed}
use Rattle.link.proofs.Sample.{packet_a, packet_b, packet_c, packing_a, packed_a, written_a, entered, refusing, holds, packs_a}

-- ---- what the lines are applied to

start_both : (a b : List ℕ) → Start a b → Start b a → a ≡ b
start_both a b up down = by up.rest up.whole (ends up.rest up.whole)
  where
    ends : (rest : List ℕ) → a ++ rest ≡ b → length rest ≡ 0
    ends rest e = omega (arith, length-append a rest, ap length e, length-append b down.rest, ap length down.whole)

    by : (rest : List ℕ) → a ++ rest ≡ b → length rest ≡ 0 → a ≡ b
    by [] e none = sym (append-nil a) ∙ e
    by (x ∷ rest) e none = absurd (omega arith)

-- where the first packet was not accepted nothing is covered
covers_none : (l : Link) (bytes rest : List ℕ) (payloads : List (List ℕ)) → member s l.receiver.accepted ≡ false
    → Accepted l s payloads → bytes ++ rest ≡ flatten payloads → bytes ≡ []
unfolding Accepted flatten
covers_none l [] rest payloads gap accepted whole = refl
covers_none l (b ∷ bytes) rest [] gap accepted whole = let z : ◌≡◌ {A = ℕ} 0 1 = cc in absurd (omega arith)
covers_none l (b ∷ bytes) rest (p ∷ payloads) gap accepted whole = absurd (false≢true (sym gap ∙ accepted.1))

covers : Covered s (run first calls) bytes
unfolding flatten
covers = record { payloads = _; accepted = holds.accepted; start = record { rest = []; whole = refl } }

reads_last : Reads last
reads_last = reads 1 (replicate 8 0) (omega arith)

empties : ToEmpty first calls
empties = record { before = before_last; last = last; list = refl; reads = reads_last; empty = refusing.empty }

empties-hole : ToEmpty first to_hole
empties-hole = record { before = before_hole; last = read_at_hole; list = refl; reads = reads 5 (replicate 5 0) (omega arith); empty = refusing.at_hole }

all_read : (k : ℕ) → All Reads (replicate k last)
unfolding All
all_read zero = tt
all_read (suc k) = (reads_last, all_read k)

-- where all from s to below e has entered and e has not, the window expects e
expects_is : {d : WindowSide} (e : ℕ) → ExpectsFirst s d → s ≤ e → ((n : ℕ) → s ≤ n → n < e → member n d.entered ≡ true) → member e d.entered ≡ false → d.expects ≡ e
expects_is {d} e x from all none =
    elim (dec_lt d.expects e) [
      | yes less ↦ absurd (false≢true (sym x.absent ∙ all d.expects x.from less))
      | no more ↦ elim (dec_lt e d.expects) [
        | yes less ↦ absurd (false≢true (sym none ∙ x.below e from less))
        | no same ↦ omega arith
      ]
    ]

three_entered : (n : ℕ) → s ≤ n → n < s + 3 → member n entered ≡ true
unfolding member
three_entered n from below = by (eqb (s + 2) n) (eqb s n) (eqb (s + 1) n) refl refl refl
  where
    by : (a b c : Bool) → eqb (s + 2) n ≡ a → eqb s n ≡ b → eqb (s + 1) n ≡ c → (a || (b || (c || false))) ≡ true
    by true b c x y z = refl
    by false true c x y z = refl
    by false false true x y z = refl
    by false false false x y z =
        let third = eqb-false (s + 2) n x in
        let one = eqb-false s n y in
        let two = eqb-false (s + 1) n z in
        absurd (omega arith)

-- ---- what they say

pub record Shows : Type 0 where
  -- by `covered` with `to_empty`: at the hole nothing is delivered, though packets were accepted behind it
  pub stops : holed.receiver.delivered ≡ []
  -- by `most` and `sent` with `to_empty`: once it is filled all is, in order; and by `delivers`
  pub reads : (run first calls).receiver.delivered ≡ bytes
  pub starts : Start (run first calls).receiver.delivered bytes
  -- by `taken` and `was_accepted`: three packets were taken, the last of them accepted
  pub front : consumed.receiver.buffer.state.front_number ≡ s + 3
  pub accepted : member (s + 2) consumed.receiver.accepted ≡ true
  -- by `at_consume`, where the window stands; by `not_past`, that it is not further
  pub expects : consumed.acked.expects ≡ s + 3
  pub not_past : consumed.acked.expects ≤ s + 3
  -- by `wrote`: what the second packing wrote is packet A, as either parser counts and lists it
  pub counts : (parser : Parser) → (parsing parser written_a (9 ∷ 9 ∷ [])).0 ≡ answers 1
  pub lists : (parser : Parser) → listed written_a (parsing parser written_a (9 ∷ 9 ∷ [])).1 1 ≡ packet_a ∷ []
  pub indexes : (parser : Parser) (expected : ℕ) → indexed expected parser written_a (9 ∷ 9 ∷ []) ≡ packet_a ∷ []
  -- by `lists`, `short` and `few`: at the hole, where nothing was answered, all three packets are listed, or the buffer is short; once all were answered, none
  pub resends : listing holed.sender.kept (replicate 70 9) ≡ (answers 3, paste (replicate 70 9) 0 (joined (packet_a ∷ packet_b ∷ packet_c ∷ [])) 68)
  pub too_short : listing holed.sender.kept (replicate 67 9) ≡ (refuses 10, replicate 67 9)
  pub few : length (outstanding_on holed) ≤ 64
  pub resends_none : listing consumed.sender.kept [] ≡ (answers 0, [])
  -- by `well_formed`: no call is refused with 12
  pub never12 : (on : Link) (call : Call) → Made_in first calls on call → In 12 (refusals on call) → ⊥
  -- by `reaches`: after so many further reads one was refused with 8 or 10
  pub further : ℕ
  pub on : Link
  pub call : Call
  pub among : Made_in (run first calls) (replicate further last) on call
  pub stopped : In 8 (refusals on call) ⊎ In 10 (refusals on call)

module _ (at_hole : Demand3 s first to_hole) (at_consume : Demand3 s first to_consume) (at_end : Demand3 s first calls) where
  longest_is : at_end.delivery.longest ≡ bytes
  longest_is = start_both at_end.delivery.longest bytes (rw holds.queued at at_end.delivery.sent) (at_end.delivery.most bytes covers)

  stops_at_hole : holed.receiver.delivered ≡ []
  unfolding member
  stops_at_hole =
      let all : holed.receiver.delivered ≡ at_hole.delivery.longest = at_hole.delivery.to_empty empties-hole in
      let c : Covered s holed at_hole.delivery.longest = at_hole.delivery.covered in
      all ∙ covers_none holed at_hole.delivery.longest c.start.rest c.payloads (rw holds.behind) c.accepted c.start.whole

  wrote_a : (parser : Parser) → ReadsBack parser written_a (packet_a ∷ []) (9 ∷ 9 ∷ [])
  wrote_a parser =
      let made_in : Made_in first calls packing_a (on_sender (pack 1 2 (replicate 24 0))) = record { before = _; after = _; list = refl; reached = refl } in
      let w = at_end.wrote packing_a 1 2 (replicate 24 0) packed_a made_in packs_a.packs in
      let one : w.packets ≡ packet_a ∷ [] = sym (ap (λ (made : List Packet). made ++ w.packets) packs_a.makes) ∙ sym w.added ∙ packs_a.made in
      let written : written_a ≡ joined w.packets = w.written in
      let back = w.read_back (lit< tt) (lit< tt) (lit< tt) parser (9 ∷ 9 ∷ []) (lit≤ tt) in
      rw (written, one) (rw one at back)

  lists_at_hole : listing holed.sender.kept (replicate 70 9) ≡ (answers 3, paste (replicate 70 9) 0 (joined (packet_a ∷ packet_b ∷ packet_c ∷ [])) 68)
  unfolding joined header_bytes
  lists_at_hole = rw holds.outstanding at (at_hole.resending.lists (replicate 70 9) (rw holds.outstanding (lit≤ tt)))

  short_at_hole : listing holed.sender.kept (replicate 67 9) ≡ (refuses 10, replicate 67 9)
  unfolding joined header_bytes
  short_at_hole = at_hole.resending.short (replicate 67 9) (rw holds.outstanding (lit< tt))

  lists_none : listing consumed.sender.kept [] ≡ (answers 0, [])
  unfolding joined
  lists_none = rw holds.answered at (at_consume.resending.lists [] (rw holds.answered (lit≤ tt)))

  stops : Stops (run first calls) (replicate (suc at_end.delivery.enough) last)
  stops =
      let many = suc at_end.delivery.enough in
      at_end.delivery.reaches (replicate many last) (all_read many) (omega (arith, length-replicate many last))

  pub says : Shows
  unfolding member
  says = record {
    stops = stops_at_hole;
    reads = at_end.delivery.to_empty empties ∙ longest_is;
    starts = rw longest_is at at_end.delivery.delivers;
    front = rw holds.counted at at_consume.acknowledgement.taken;
    accepted = at_consume.acknowledgement.was_accepted (s + 2) (lit≤ tt) (rw holds.counted (lit< tt));
    expects = expects_is (s + 3) (at_consume.acknowledgement.at_consume before_consume refl) (lit≤ tt) (rw holds.entered three_entered) (rw holds.entered);
    not_past = rw holds.counted at at_consume.acknowledgement.not_past;
    counts = λ parser. (wrote_a parser).counts;
    lists = λ parser. (wrote_a parser).lists;
    indexes = λ parser. (wrote_a parser).indexes;
    resends = lists_at_hole;
    too_short = short_at_hole;
    few = at_hole.resending.few;
    resends_none = lists_none;
    never12 = at_end.well_formed;
    further = suc at_end.delivery.enough;
    on = stops.on;
    call = stops.call;
    among = stops.made;
    stopped = stops.stopped;
  }
