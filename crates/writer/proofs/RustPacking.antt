-- The Rust's packing of queued data and document 01's rule agree on every queue: `rust_packing`, at the end, and behind it `rust_call`, the same of the call with a store.
-- All before it is over any payload size s from 1 on and any number of packets k from 1 on, in a datagram of (s + 20) * k bytes; the theorem has 1,500 and 10.
-- A loop's law says what is answered from a state with room for j more packets on: the payloads still to come are `chunks` of the bytes still there. Each packet but the
-- last is full, so the room stays a multiple of s + 20. That the answer is no `none` shows that no loop runs out of its steps.
-- Assumes nothing.
use Prim.Native.Nat.{ℕ, zero, suc, ◌+◌, ◌-◌, ◌*◌, ◌/◌, ◌≤◌, ◌<◌, min}
use mathlib.Core.Path.{◌≡◌, refl, sym, ap, ap₂, ◌∙◌}
use mathlib.Core.Bool.{Bool, true, false, cond}
use mathlib.Core.List.{List, [], ◌∷◌, ◌++◌, map, flatten, append_assoc, append-nil}
use mathlib.Core.Option
use mathlib.Core.Option.{Option, some}
use native.Mathlib.Nat.{add-zero, add_assoc, add-mul, mul_comm, mul-zero, mul-suc, mul-pos, le-mul_of_pos_right, div-eq_of_lt, add-div_left}
use native.Mathlib.Numerals.{add-one}
use native.Mathlib.Omega.{arith}
use lib.ListN.{length, take, drop, length-append, length-take, length-drop, length-map, drop_of_length-le}
use lib.Seq.{length-take-le, take_all, take-length, take-take, take-add, take-append-le, drop-length, drop-nil, drop_at, drop-drop, drop-append-le, drop-append-add, append_snoc}
use lib.Dec.{ltb, leb, lit<}
use borrow.Author.Tests.{ltb-true, ltb-false, leb-true, leb-false, lt-ltb, le-ltb, le-leb, lt-leb}
use Rattle.refusal.specs.Said.{answers, refuses}
use Rattle.packet.specs.Packet.{Packet}
use Rattle.packet.specs.Sizes.{datagram_limit}
use Rattle.outstanding.specs.Outstanding.{Store, free, well_formed_below}
use Rattle.writer.specs.declared.DataPacked.{DataPacked}
use Rattle.writer.specs.Packing.{payload_size, byte_limit, bytes_taken, cut, data_packet, numbered, packets_made, removal, removed, Outcome}
use Rattle.writer.specs.RustPacking.{State, Consumed, is_empty, returned, emit, drain, finish, outer, consume, consume_data_into, queue_of, left_by, answered, AsRust}
use Rattle.writer.specs.Sending.{consumes_data}
use Rattle.writer.proofs.Made as made
use Rattle.writer.proofs.Made.{length_cut}
use Rattle.writer.proofs.Sending.{ten_free}

-- ---- the queue left

-- what stays of entries when q bytes are taken, or all entries go for want of bytes
unfoldable rest : ℕ → List (List ℕ) → List (List ℕ)
rest q [] = []
rest zero (e ∷ es) = e ∷ es
rest (suc q) (e ∷ es) = cond (leb (length e) (suc q)) (rest (suc q - length e) es) (drop (suc q) e ∷ es)

-- the same where r was popped: it does not come back if nothing of it is left, at q = 0 too
abbrev behind : ℕ → List ℕ → List (List ℕ) → List (List ℕ)
behind q r es = cond (leb (length r) q) (rest (q - length r) es) (drop q r ∷ es)

-- the Rust's `push_front` of what is left
abbrev pushed : List ℕ → List (List ℕ) → List (List ℕ)
pushed r es = cond (is_empty r) es (r ∷ es)

rest_zero : (es : List (List ℕ)) → rest 0 es ≡ es
unfolding rest
rest_zero [] = refl
rest_zero (e ∷ es) = refl

rest_cons : (q : ℕ) (e : List ℕ) (es : List (List ℕ)) → 0 < q → rest q (e ∷ es) ≡ behind q e es
unfolding rest
rest_cons zero e es h = absurd (omega arith)
rest_cons (suc q) e es h = refl

pushed_cons : (r : List ℕ) (es : List (List ℕ)) → 0 < length r → pushed r es ≡ r ∷ es
pushed_cons [] es h = absurd (omega arith)
pushed_cons (b ∷ r) es h = refl

-- nothing is taken from es
behind_pushed : (q : ℕ) (r : List ℕ) (es : List (List ℕ)) → rest (q - length r) es ≡ es → pushed (drop q r) es ≡ behind q r es
behind_pushed q r es e = by (leb (length r) q) refl
  where
    by : (t : Bool) → leb (length r) q ≡ t → pushed (drop q r) es ≡ cond t (rest (q - length r) es) (drop q r ∷ es)
    by true t = rw (drop_of_length-le r {i = q} (leb-true (length r) q t), e)
    by false t = pushed_cons (drop q r) es (rw length-drop (omega (arith, leb-false (length r) q t)))

-- s of the bytes were taken before
behind_drop : (q s : ℕ) (r : List ℕ) (es : List (List ℕ)) → s ≤ length r → behind q (drop s r) es ≡ behind (s + q) r es
behind_drop q s r es h = by (leb (length r) (s + q)) refl
  where
    by : (t : Bool) → leb (length r) (s + q) ≡ t → behind q (drop s r) es ≡ cond t (rest (s + q - length r) es) (drop (s + q) r ∷ es)
    by true t =
        let l : length r ≤ s + q = leb-true (length r) (s + q) t in
        let n : q - (length r - s) ≡ s + q - length r = omega arith in
        rw (length-drop, le-leb (length r - s) q (omega arith), n)
    by false t =
        let l : s + q < length r = leb-false (length r) (s + q) t in
        rw (length-drop, lt-leb (length r - s) q (omega arith), drop-drop)

-- all of r is taken and some byte more: an entry merged to its end makes no difference
behind_merge : (q : ℕ) (r d : List ℕ) (es : List (List ℕ)) → length r < q → behind q (r ++ d) es ≡ behind q r (d ∷ es)
behind_merge q r d es h = by (leb (length d) (q - length r)) refl
  where
    next : behind q r (d ∷ es) ≡ behind (q - length r) d es
    next = rw (le-leb (length r) q (omega arith)) (rest_cons (q - length r) d es (omega arith))

    by : (t : Bool) → leb (length d) (q - length r) ≡ t → behind q (r ++ d) es ≡ behind q r (d ∷ es)
    by true t =
        let l : length d ≤ q - length r = leb-true (length d) (q - length r) t in
        let n : q - (length r + length d) ≡ q - length r - length d = omega arith in
        rw (length-append, le-leb (length r + length d) q (omega arith), n) (sym (next ∙ rw t))
    by false t =
        let l : q - length r < length d = leb-false (length d) (q - length r) t in
        let n : q ≡ length r + (q - length r) = omega arith in
        let dropped : drop q (r ++ d) ≡ drop (q - length r) d = ap (λ (k : ℕ). drop k (r ++ d)) n ∙ drop-append-add r d (q - length r) in
        rw (length-append, lt-leb (length r + length d) q (omega arith), dropped) (sym (next ∙ rw t))

rest_removal : (q : ℕ) (es : List (List ℕ)) → left_by (removal q (map length es)) es ≡ rest q es
unfolding rest removal
rest_removal q [] = refl
rest_removal zero (e ∷ es) = refl
rest_removal (suc q) (e ∷ es) = by (leb (length e) (suc q)) (rest_removal (suc q - length e) es)
  where
    by : (t : Bool) → left_by (removal (suc q - length e) (map length es)) es ≡ rest (suc q - length e) es
        → left_by (cond t (suc (removal (suc q - length e) (map length es)).0, (removal (suc q - length e) (map length es)).1) (0, suc q)) (e ∷ es)
        ≡ cond t (rest (suc q - length e) es) (drop (suc q) e ∷ es)
    by true ih = ih
    by false ih = refl

rest_all : (q : ℕ) (es : List (List ℕ)) → length (flatten es) < q → rest q es ≡ []
unfolding rest flatten
rest_all q [] h = refl
rest_all zero (e ∷ es) h = absurd (omega arith)
rest_all (suc q) (e ∷ es) h =
    let l : length e + length (flatten es) < suc q = rw length-append at h in
    rw (le-leb (length e) (suc q) (omega arith)) (rest_all (suc q - length e) es (omega arith))

-- document 01's two cases in one
rest_removed : (limit : ℕ) (es : List (List ℕ)) → left_by (removed limit (queue_of es)) es ≡ rest limit es
rest_removed limit es = by (ltb (length (flatten es)) limit) refl
  where
    by : (t : Bool) → ltb (length (flatten es)) limit ≡ t → left_by (removed limit (queue_of es)) es ≡ rest limit es
    by true t =
        let all : drop (length (map length es)) es ≡ [] = rw length-map (drop-length es) in
        rw (t, all) (sym (rest_all limit es (ltb-true (length (flatten es)) limit t)))
    by false t =
        let enough : limit ≤ length (flatten es) = ltb-false (length (flatten es)) limit t in
        let q : min (length (flatten es)) limit ≡ limit = omega arith in
        rw (t, q) (rest_removal limit es)

-- ---- the payloads

-- at most j payloads of s bytes from the front, the last with what remains, none empty
unfoldable chunks : ℕ → ℕ → List ℕ → List (List ℕ)
chunks s zero b = []
chunks s (suc j) [] = []
chunks s (suc j) (x ∷ b) = take s (x ∷ b) ∷ chunks s j (drop s (x ∷ b))

chunks_nil : (s j : ℕ) → chunks s j [] ≡ []
unfolding chunks
chunks_nil s zero = refl
chunks_nil s (suc j) = refl

chunks_cons : (s j : ℕ) (b : List ℕ) → 0 < length b → chunks s (suc j) b ≡ take s b ∷ chunks s j (drop s b)
unfolding chunks
chunks_cons s j [] h = absurd (omega arith)
chunks_cons s j (x ∷ b) h = refl

chunks_bytes : (s j : ℕ) (b : List ℕ) → length (flatten (chunks s j b)) ≡ min (length b) (s * j)
unfolding chunks flatten
chunks_bytes s zero b = omega (arith, mul-zero s)
chunks_bytes s (suc j) [] = omega arith
chunks_bytes s (suc j) (x ∷ b) =
    rw (length-append, length-take, chunks_bytes s j (drop s (x ∷ b))) (omega (arith, mul-suc s j, length-drop s (x ∷ b)))

-- document 01's `packets_for`, over s
abbrev filled_by : ℕ → ℕ → ℕ
filled_by s q = (q + (s - 1)) / s

module _ (s : ℕ) (p : 0 < s) where
  chunks_full : (j : ℕ) (r t : List ℕ) → s ≤ length r → chunks s (suc j) (r ++ t) ≡ take s r ∷ chunks s j (drop s r ++ t)
  chunks_full j r t h = chunks_cons s j (r ++ t) (rw length-append (omega arith)) ∙ rw (take-append-le s r t h, drop-append-le s r t h)

  -- r has enough for all of them
  chunks_front : (j : ℕ) (r t : List ℕ) → s * j ≤ length r → chunks s j (r ++ t) ≡ chunks s j r
  unfolding chunks
  chunks_front zero r t h = refl
  chunks_front (suc j) r t h =
      let l : s * j + s ≤ length r = rw mul-suc at h in
      let ih : chunks s j (drop s r ++ t) ≡ chunks s j (drop s r) = chunks_front j (drop s r) t (rw length-drop (omega arith)) in
      chunks_full j r t (omega arith) ∙ ap (λ (cs : List (List ℕ)). take s r ∷ cs) ih ∙ sym (chunks_cons s j r (omega arith))

  filled_none : filled_by s 0 ≡ 0
  filled_none = div-eq_of_lt (omega arith)

  filled_one : (q : ℕ) → 0 < q → q ≤ s → filled_by s q ≡ 1
  filled_one q any few =
      let n : q + (s - 1) ≡ s + (q - 1) = omega arith in
      rw n (add-div_left (q - 1) p ∙ rw (div-eq_of_lt {n = q - 1} {m = s} (omega arith)))

  filled_more : (q : ℕ) → filled_by s (s + q) ≡ suc (filled_by s q)
  filled_more q =
      let n : s + q + (s - 1) ≡ s + (q + (s - 1)) = omega arith in
      rw n (add-div_left (q + (s - 1)) p ∙ add-one (filled_by s q))

  drop-front : (q : ℕ) (b : List ℕ) → s ≤ length b → drop s (take (s + q) b) ≡ take q (drop s b)
  drop-front q b h = rw take-add (drop_at (take s b) (take q (drop s b)) s (length-take-le s b h))

  -- the payloads are document 01's
  abbrev Cut : ℕ → List ℕ → Type 0
  Cut j b = (q : ℕ) → q ≡ min (length b) (s * j) → chunks s j b ≡ cut s (filled_by s q) (take q b)

  cut-one : (j : ℕ) (b : List ℕ) → 0 < length b → length b ≤ s → Cut (suc j) b
  unfolding cut
  cut-one j b any few q e =
      let n : q ≡ length b = omega (arith, mul-suc s j) in
      chunks_cons s j b any ∙ rw (n, filled_one (length b) any few, take-length b, drop_of_length-le b few, chunks_nil s j)

  cut_more : (j : ℕ) (b : List ℕ) → s ≤ length b → Cut j (drop s b) → Cut (suc j) b
  unfolding cut
  cut_more j b enough ih q e =
      let q' = min (length (drop s b)) (s * j) in
      let n : q ≡ s + q' = omega (arith, mul-suc s j, length-drop s b) in
      chunks_cons s j b (omega arith) ∙ rw (n, filled_more q', take-take s (s + q') b (omega arith), drop-front q' b enough, ih q' refl)

  chunks_cut : (j : ℕ) (b : List ℕ) → Cut j b
  unfolding cut chunks
  chunks_cut zero b q e = let n : q ≡ 0 = omega (arith, mul-zero s) in rw (n, filled_none)
  chunks_cut (suc j) [] q e = let n : q ≡ 0 = omega arith in rw (n, filled_none)
  chunks_cut (suc j) (x ∷ b) q e = by (leb (length (x ∷ b)) s) refl (chunks_cut j (drop s (x ∷ b))) q e
    where
      by : (t : Bool) → leb (length (x ∷ b)) s ≡ t → Cut j (drop s (x ∷ b)) → Cut (suc j) (x ∷ b)
      by true t ih = cut-one j (x ∷ b) (omega arith) (leb-true (length (x ∷ b)) s t)
      by false t ih = cut_more j (x ∷ b) (omega (arith, leb-false (length (x ∷ b)) s t)) ih

-- ---- the loops

abbrev at : List ℕ → ℕ → ℕ → ℕ → List Packet → State
at r room packed next ans = record {
  running_payload = r;
  bytes_remaining = room;
  payload_bytes_packed = packed;
  next_packet_num = next;
  ans = ans;
}

module _ (s src dst : ℕ) (p : 0 < s) where
  abbrev room_for : ℕ → ℕ
  room_for j = (s + 20) * j

  -- the answer where, after those that packed, next and ans stand for, the packets with the payloads cs are made
  abbrev out : ℕ → ℕ → List Packet → List (List ℕ) → List (List ℕ) → Option Consumed
  out packed next ans cs queue = some (
      record {
        payload_bytes_packed = packed + length (flatten cs);
        next_packet_num = next + length cs;
        ans = ans ++ numbered src dst next cs;
        queue = queue;
      }
      )

  module _ (packed next : ℕ) (ans : List Packet) where
    out_nil : (queue : List (List ℕ)) → some (record { payload_bytes_packed = packed; next_packet_num = next; ans = ans; queue = queue }) ≡ out packed next ans [] queue
    unfolding numbered flatten
    out_nil queue = simp (add-zero, append-nil)

    out_cons : (c : List ℕ) (cs queue : List (List ℕ))
        → out (packed + length c) (next + 1) (ans ++ (data_packet src dst next c ∷ [])) cs queue ≡ out packed next ans (c ∷ cs) queue
    unfolding numbered flatten
    out_cons c cs queue =
        let n : suc next + length cs ≡ next + suc (length cs) = omega arith in
        simp (length-append, append_snoc, add-one, add_assoc, n)

    emit-full : (j : ℕ) (r : List ℕ) → s ≤ length r
        → emit s src dst (at r (room_for (suc j)) packed next ans)
        ≡ at (drop s r) (room_for j) (packed + length (take s r)) (next + 1) (ans ++ (data_packet src dst next (take s r) ∷ []))
    emit-full j r h =
        let n : min (length r) (min s (room_for (suc j) - 20)) ≡ s = omega (arith, mul-suc (s + 20) j) in
        let room : room_for (suc j) - (s + 20) ≡ room_for j = omega (arith, mul-suc (s + 20) j) in
        rw (n, room, length-take-le s r h)

    emit_last : (room : ℕ) (r : List ℕ) → s + 20 ≤ room → length r ≤ s
        → emit s src dst (at r room packed next ans) ≡ at [] (room - (length r + 20)) (packed + length r) (next + 1) (ans ++ (data_packet src dst next r ∷ []))
    emit_last room r large few =
        let n : min (length r) (min s (room - 20)) ≡ length r = omega arith in
        rw (n, drop-length r, take-length r)

    drained_nil : (steps room : ℕ) (queue : List (List ℕ)) → 0 < steps
        → Option.map (returned queue) (drain s src dst steps (at [] room packed next ans)) ≡ out packed next ans [] queue
    unfolding drain
    drained_nil zero room queue h = absurd (omega arith)
    drained_nil (suc steps) room queue h = out_nil queue

  abbrev Drained : ℕ → ℕ → List ℕ → Type 0
  Drained steps j r =
      (packed next : ℕ) (ans : List Packet) (queue : List (List ℕ))
      → Option.map (returned queue) (drain s src dst steps (at r (room_for j) packed next ans)) ≡ out packed next ans (chunks s j r) (pushed (drop (s * j) r) queue)

  -- a turn that makes a packet
  drained_emit : (steps j : ℕ) (r : List ℕ) → 0 < length r → 0 < steps → Drained steps j (drop s r)
      → (packed next : ℕ) (ans : List Packet) (queue : List (List ℕ))
      → Option.map (returned queue) (drain s src dst steps (emit s src dst (at r (room_for (suc j)) packed next ans)))
      ≡ out packed next ans (chunks s (suc j) r) (pushed (drop (s * suc j) r) queue)
  drained_emit steps j r any more ih packed next ans queue = by (leb (length r) s) refl
    where
      go : State → Option Consumed
      go st = Option.map (returned queue) (drain s src dst steps st)

      by : (t : Bool) → leb (length r) s ≡ t
          → Option.map (returned queue) (drain s src dst steps (emit s src dst (at r (room_for (suc j)) packed next ans)))
          ≡ out packed next ans (chunks s (suc j) r) (pushed (drop (s * suc j) r) queue)
      by true t =
          let few : length r ≤ s = leb-true (length r) s t in
          let one : chunks s (suc j) r ≡ r ∷ [] = chunks_cons s j r any ∙ rw (take_all s r few, drop_of_length-le r few, chunks_nil s j) in
          let gone : drop (s * suc j) r ≡ [] = drop_of_length-le r {i = s * suc j} (omega (arith, mul-suc s j)) in
          ap go (emit_last packed next ans (room_for (suc j)) r (omega (arith, mul-suc (s + 20) j)) few)
          ∙ drained_nil (packed + length r) (next + 1) (ans ++ (data_packet src dst next r ∷ [])) steps _ queue more
          ∙ out_cons packed next ans r [] queue
          ∙ rw (one, gone)
      by false t =
          let full : s ≤ length r = omega (arith, leb-false (length r) s t) in
          let n : s * suc j ≡ s + s * j = omega (arith, mul-suc s j) in
          ap go (emit-full packed next ans j r full)
          ∙ ih (packed + length (take s r)) (next + 1) (ans ++ (data_packet src dst next (take s r) ∷ [])) queue
          ∙ out_cons packed next ans (take s r) (chunks s j (drop s r)) (pushed (drop (s * j) (drop s r)) queue)
          ∙ rw (chunks_cons s j r any, n, drop-drop (s * j) s r)

  drained : (steps j : ℕ) (r : List ℕ) → j < steps → Drained steps j r
  unfolding drain chunks
  drained zero j r h packed next ans queue = absurd (omega arith)
  drained (suc steps) j [] h packed next ans queue = rw (chunks_nil s j, drop-nil (s * j)) (out_nil packed next ans queue)
  drained (suc steps) zero (x ∷ xs) h packed next ans queue = rw (mul-zero (s + 20), mul-zero s) (out_nil packed next ans ((x ∷ xs) ∷ queue))
  drained (suc steps) (suc j) (x ∷ xs) h packed next ans queue =
      rw (le-leb 20 (room_for (suc j)) (omega (arith, mul-suc (s + 20) j)))
      (drained_emit steps j (x ∷ xs) (omega arith) (omega arith) (drained steps j (drop s (x ∷ xs)) (omega arith)) packed next ans queue)

  -- the steps that `finish` gives are enough
  drained_whole : (j : ℕ) (r : List ℕ) → Drained (suc (room_for j)) j r
  drained_whole j r = drained (suc (room_for j)) j r (omega (arith, le-mul_of_pos_right {m = s + 20} j (omega arith), mul_comm j (s + 20)))

  abbrev Looped : ℕ → ℕ → List (List ℕ) → List ℕ → Type 0
  Looped steps j es r =
      (packed next : ℕ) (ans : List Packet)
      → outer s src dst steps es (at r (room_for j) packed next ans) ≡ out packed next ans (chunks s j (r ++ flatten es)) (behind (s * j) r es)

  module _ (j : ℕ) (es : List (List ℕ)) (r : List ℕ) (packed next : ℕ) (ans : List Packet) where
    -- the first branch, and after the loop if the datagram is full
    finished : s * j ≤ length r → finish s src dst es (at r (room_for j) packed next ans) ≡ out packed next ans (chunks s j (r ++ flatten es)) (behind (s * j) r es)
    finished h =
        let n : s * j - length r ≡ 0 = omega arith in
        drained_whole j r packed next ans es
        ∙ ap₂ (out packed next ans) (sym (chunks_front s p j r (flatten es) h)) (behind_pushed (s * j) r es (rw n (rest_zero es)))

    looped_emit : (steps : ℕ) → s ≤ length r → Looped steps j es (drop s r)
        → outer s src dst steps es (emit s src dst (at r (room_for (suc j)) packed next ans)) ≡ out packed next ans (chunks s (suc j) (r ++ flatten es)) (behind (s * suc j) r es)
    looped_emit steps h ih =
        let n : s * suc j ≡ s + s * j = omega (arith, mul-suc s j) in
        ap (outer s src dst steps es) (emit-full packed next ans j r h)
        ∙ ih (packed + length (take s r)) (next + 1) (ans ++ (data_packet src dst next (take s r) ∷ []))
        ∙ out_cons packed next ans (take s r) (chunks s j (drop s r ++ flatten es)) (behind (s * j) (drop s r) es)
        ∙ ap₂ (out packed next ans) (sym (chunks_full s p j r (flatten es) h)) (behind_drop (s * j) s r es h ∙ rw n)

    out_merge : (d : List ℕ) → length r < s
        → out packed next ans (chunks s (suc j) (r ++ d ++ flatten es)) (behind (s * suc j) (r ++ d) es)
        ≡ out packed next ans (chunks s (suc j) (r ++ flatten (d ∷ es))) (behind (s * suc j) r (d ∷ es))
    unfolding flatten
    out_merge d h = ap₂ (out packed next ans) (ap (chunks s (suc j)) (append_assoc r d (flatten es))) (behind_merge (s * suc j) r d es (omega (arith, mul-suc s j)))

  -- a turn of the outer loop, by its four outcomes
  looped_turn : (steps j : ℕ) (d : List ℕ) (es : List (List ℕ)) (r : List ℕ)
      → Looped steps j (d ∷ es) (drop s r) → Looped steps j es (drop s (r ++ d)) → Looped steps (suc j) es (r ++ d)
      → Looped (suc steps) (suc j) (d ∷ es) r
  unfolding outer
  looped_turn steps j d es r full over merged packed next ans =
      rw (lt-ltb 20 (room_for (suc j)) (omega (arith, mul-suc (s + 20) j)))
      (by (leb (room_for (suc j) - 20) (length r)) (leb s (length r)) (ltb s (length d + length r)) refl refl refl)
    where
      by : (a b c : Bool) → leb (room_for (suc j) - 20) (length r) ≡ a → leb s (length r) ≡ b → ltb s (length d + length r) ≡ c
          → cond a (finish s src dst (d ∷ es) (at r (room_for (suc j)) packed next ans))
          (cond b (outer s src dst steps (d ∷ es) (emit s src dst (at r (room_for (suc j)) packed next ans)))
          (cond c (outer s src dst steps es (emit s src dst (at (r ++ d) (room_for (suc j)) packed next ans)))
          (outer s src dst steps es (at (r ++ d) (room_for (suc j)) packed next ans))))
          ≡ out packed next ans (chunks s (suc j) (r ++ flatten (d ∷ es))) (behind (s * suc j) r (d ∷ es))
      by true b c ta tb tc =
          finished (suc j) (d ∷ es) r packed next ans
          (omega (arith, leb-true (room_for (suc j) - 20) (length r) ta, mul-suc (s + 20) j, mul-suc s j, add-mul s 20 j))
      by false true c ta tb tc = looped_emit j (d ∷ es) r packed next ans steps (leb-true s (length r) tb) full
      by false false true ta tb tc =
          looped_emit j es (r ++ d) packed next ans steps (rw length-append (omega (arith, ltb-true s (length d + length r) tc))) over
          ∙ out_merge j es r packed next ans d (leb-false s (length r) tb)
      by false false false ta tb tc = merged packed next ans ∙ out_merge j es r packed next ans d (leb-false s (length r) tb)

  looped : (steps j : ℕ) (es : List (List ℕ)) (r : List ℕ) → room_for j + length es < steps → Looped steps j es r
  unfolding outer rest flatten
  looped zero j es r h packed next ans = absurd (omega arith)
  looped (suc steps) j [] r h packed next ans =
      drained_whole j r packed next ans [] ∙ ap₂ (out packed next ans) (ap (chunks s j) (sym (append-nil r))) (behind_pushed (s * j) r [] refl)
  looped (suc steps) zero (d ∷ es) r h packed next ans =
      rw (le-ltb 20 (room_for 0) (omega (arith, mul-zero (s + 20)))) (finished 0 (d ∷ es) r packed next ans (omega (arith, mul-zero s)))
  looped (suc steps) (suc j) (d ∷ es) r h packed next ans =
      let room : room_for (suc j) ≡ room_for j + (s + 20) = mul-suc (s + 20) j in
      looped_turn steps j d es r
      (looped steps j (d ∷ es) (drop s r) (omega arith))
      (looped steps j es (drop s (r ++ d)) (omega arith))
      (looped steps (suc j) es (r ++ d) (omega arith))
      packed next ans

  -- ---- the call

  -- document 01's answer, over s and k
  abbrev answered_by : ℕ → ℕ → List (List ℕ) → Consumed
  answered_by k next es =
      let q = bytes_taken (s * k) (length (flatten es)) in
      record {
        payload_bytes_packed = q;
        next_packet_num = next + filled_by s q;
        ans = numbered src dst next (cut s (filled_by s q) (take q (flatten es)));
        queue = left_by (removed (s * k) (queue_of es)) es;
      }

  out_answered : (k next : ℕ) (es : List (List ℕ)) → out 0 next [] (chunks s k (flatten es)) (rest (s * k) es) ≡ some (answered_by k next es)
  out_answered k next es =
      let q = bytes_taken (s * k) (length (flatten es)) in
      let same : chunks s k (flatten es) ≡ cut s (filled_by s q) (take q (flatten es)) = chunks_cut s p k (flatten es) q refl in
      let bytes : 0 + length (flatten (chunks s k (flatten es))) ≡ q = omega (arith, chunks_bytes s k (flatten es)) in
      let packets : length (chunks s k (flatten es)) ≡ filled_by s q = rw same (length_cut s (filled_by s q) (take q (flatten es))) in
      rw (bytes, packets, same, rest_removed (s * k) es)

  consumed : (k next : ℕ) (es : List (List ℕ)) → 0 < k → consume s src dst (room_for k) next es ≡ some (answered_by k next es)
  unfolding consume rest flatten
  consumed k next [] h = out_nil 0 next [] [] ∙ ap (λ (cs : List (List ℕ)). out 0 next [] cs []) (sym (chunks_nil s k)) ∙ out_answered k next []
  consumed k next (r ∷ es) h =
      looped (suc (room_for k + length es)) k es r (omega arith) 0 next []
      ∙ rw (← rest_cons (s * k) r es (mul-pos p h)) (out_answered k next (r ∷ es))

size : 0 < payload_size
unfolding payload_size
size = lit< tt

limit : byte_limit ≡ payload_size * 10
unfolding payload_size byte_limit
limit = refl

room : datagram_limit ≡ (payload_size + 20) * 10
unfolding payload_size datagram_limit
room = refl

-- For every queue, the Rust's loops end, and their packets, numbers, bytes counted and queue left are document 01's
pub rust_packing : (src dst next : ℕ) (entries : List (List ℕ)) → consume_data_into src dst next entries ≡ some (answered byte_limit src dst next entries)
rust_packing src dst next entries = rw (limit, room) (consumed payload_size src dst size 10 next entries (omega arith))

-- With at least ten places free the call, where it is not refused, answers what the Rust does and writes its packets
pub rust_call : (k : Store) (src dst next : ℕ) (entries : List (List ℕ)) (out : List ℕ) (d : DataPacked) → 10 ≤ free k
    → (consumes_data k (queue_of entries) next src dst out).said ≡ answers d → AsRust src dst next entries d (consumes_data k (queue_of entries) next src dst out).out
unfolding consumes_data
rust_call k src dst next entries out d ten e = by (well_formed_below next k) refl
  where
    by : (t : Bool) → well_formed_below next k ≡ t → AsRust src dst next entries d (consumes_data k (queue_of entries) next src dst out).out
    by true well =
        let same = ten_free k (queue_of entries) next src dst out well ten in
        let facts = made.answered byte_limit (queue_of entries) next src dst out d (sym (ap (λ (o : Outcome). o.0) same) ∙ e) in
        record {
          made = packets_made byte_limit src dst next (flatten entries);
          answer = rw facts.said (rust_packing src dst next entries);
          datagram = rw (ap (λ (o : Outcome). o.1) same) (made.written_made byte_limit (queue_of entries) next src dst out d facts);
        }
    by false malformed =
        let said : refuses 12 ≡ answers d = rw malformed at e in
        let z : ◌≡◌ {A = ℕ} 0 1 = cc in
        absurd (omega arith)
