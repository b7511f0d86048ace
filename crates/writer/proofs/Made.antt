-- What packing makes: payloads that are the bytes taken, packets numbered in a row, a datagram of packets that can be read back, and a queue whose lengths again add up.
-- Assumes nothing.
use Prim.Native.Nat.{ℕ, zero, suc, ◌+◌, ◌-◌, ◌*◌, ◌^◌, ◌<◌, ◌≤◌, min}
use mathlib.Core.Path.{◌≡◌, refl, sym, ap, ◌∙◌}
use mathlib.Core.Bool.{Bool, true, false, cond, true≢false}
use mathlib.Core.List.{List, [], ◌∷◌, ◌++◌, flatten}
use mathlib.Core.Logic.{inl, inr}
use native.Mathlib.Omega.{arith}
use native.Mathlib.Nat.{add-zero, suc-mul}
use lib.ListN.{length, take, drop, get_or, length-take, length-drop, take-append-drop}
use lib.Seq.{paste, take_all, take_at, length-take-le, drop-drop, drop-length}
use lib.Dec.{ltb, leb}
use borrow.Author.Tests.{not-false, eq-eqb, eqb-true, ltb-true, ltb-false, leb-true, leb-false}
use Rattle.refusal.specs.Said.{Said, answers, refuses, checks}
use Rattle.refusal.proofs.Checks.{Failed, Checked, passes, fails, checked}
use Rattle.lists.specs.Numbers.{largest}
use Rattle.packet.specs.Packet.{Packet, joined}
use Rattle.packet.specs.Datagram.{reading_limit}
use Rattle.packet.proofs.Trip.{Honest, Readable, last, before}
use Rattle.writer.specs.declared.DataPacked.{DataPacked}
use Rattle.writer.specs.Packing.{Queue, payload_size, byte_limit, bytes_taken, packets_for, packed_size, cut, payloads_of, data_packet, numbered, packets_made}
use Rattle.writer.specs.Packing.{removal, shortened, dequeued, sum, taking, data_checks, Outcome, packing}
use Rattle.writer.proofs.Run.{packets_zero, packets_suc, length_run}

-- ---- any list of bytes, cut into as many payloads as it fills

pub length_cut : (size k : ℕ) (s : List ℕ) → length (cut size k s) ≡ k
unfolding cut
length_cut size zero s = refl
length_cut size (suc k) s = ap suc (length_cut size k (drop size s))

flatten_cut : (k : ℕ) (s : List ℕ) → packets_for (length s) ≡ k → flatten (cut payload_size k s) ≡ s
unfolding cut flatten
flatten_cut zero [] e = refl
flatten_cut zero (b ∷ s) e = absurd (omega (arith, packets_zero _ e))
flatten_cut (suc k) s e =
    ap (λ (r : List ℕ). take payload_size s ++ r) (flatten_cut k (drop payload_size s) (rw length-drop (packets_suc (length s) k e)))
    ∙ take-append-drop payload_size s

cut_at : (size k i : ℕ) (s : List ℕ) → i < k → get_or (cut size k s) i [] ≡ take size (drop (i * size) s)
unfolding cut
cut_at size zero i s h = absurd (omega arith)
cut_at size (suc k) zero s h =
    let z : 0 * size ≡ 0 = omega arith in
    rw z
cut_at size (suc k) (suc i) s h =
    let z : suc i * size ≡ size + i * size = suc-mul i size ∙ omega arith in
    cut_at size k i (drop size s) (omega arith) ∙ rw (drop-drop, z)

numbered_at : (src dst n i : ℕ) (ps : List (List ℕ)) (d : Packet) → i < length ps → get_or (numbered src dst n ps) i d ≡ data_packet src dst (n + i) (get_or ps i [])
unfolding numbered
numbered_at src dst n i [] d h = absurd (omega arith)
numbered_at src dst n zero (p ∷ ps) d h = rw add-zero
numbered_at src dst n (suc i) (p ∷ ps) d h =
    let z : suc n + i ≡ n + suc i = omega arith in
    numbered_at src dst (suc n) i ps d (omega arith) ∙ rw z

pub length-numbered : (src dst n : ℕ) (ps : List (List ℕ)) → length (numbered src dst n ps) ≡ length ps
unfolding numbered
length-numbered src dst n [] = refl
length-numbered src dst n (p ∷ ps) = ap suc (length-numbered src dst (suc n) ps)

-- each payload begins within the bytes, and before the last one a whole payload fits
module _ (q i : ℕ) where
  begins : i < packets_for q → i * payload_size < q
  unfolding payload_size
  begins h = omega arith

  full : suc i < packets_for q → i * payload_size + payload_size ≤ q
  unfolding payload_size
  full h = omega arith

first_some : (q k : ℕ) → packets_for q ≡ suc k → 0 < min payload_size q
unfolding payload_size
first_some q k e = omega arith

-- ---- the payloads made

-- q and p
abbrev pub taken : ℕ → List ℕ → ℕ
taken limit bytes = bytes_taken limit (length bytes)

abbrev pub packets : ℕ → List ℕ → ℕ
packets limit bytes = packets_for (taken limit bytes)

module _ (limit : ℕ) (bytes : List ℕ) where
  length_taken : length (take (taken limit bytes) bytes) ≡ taken limit bytes
  length_taken = length-take-le (taken limit bytes) bytes (omega arith)

  -- end to end they are the bytes taken
  pub payloads-joined : flatten (payloads_of limit bytes) ≡ take (taken limit bytes) bytes
  payloads-joined = flatten_cut (packets limit bytes) (take (taken limit bytes) bytes) (rw length_taken)

  pub count_payloads : length (payloads_of limit bytes) ≡ packets limit bytes
  count_payloads = length_cut payload_size (packets limit bytes) (take (taken limit bytes) bytes)

  module _ (i : ℕ) (h : i < packets limit bytes) where
    length_payload : length (get_or (payloads_of limit bytes) i []) ≡ min payload_size (taken limit bytes - i * payload_size)
    length_payload = ap length (cut_at payload_size (packets limit bytes) i (take (taken limit bytes) bytes) h) ∙ rw (length-take, length-drop, length_taken)

    pub payload_some : 0 < length (get_or (payloads_of limit bytes) i [])
    unfolding payload_size
    payload_some = rw length_payload (omega (arith, begins (taken limit bytes) i h))

    pub payload_small : length (get_or (payloads_of limit bytes) i []) ≤ payload_size
    payload_small = rw length_payload (omega arith)

  -- all but the last are full
  pub payload_full : (i : ℕ) → suc i < packets limit bytes → length (get_or (payloads_of limit bytes) i []) ≡ payload_size
  payload_full i h = length_payload i (omega arith) ∙ omega (arith, full (taken limit bytes) i h)

-- ---- the packets made

module _ (limit src dst next : ℕ) (bytes : List ℕ) where
  pub count_made : length (packets_made limit src dst next bytes) ≡ packets limit bytes
  count_made = length-numbered src dst next (payloads_of limit bytes) ∙ count_payloads limit bytes

  -- the i-th packet has the i-th payload, and the next number with i more
  pub made_at : (i : ℕ) (d : Packet) → i < packets limit bytes → get_or (packets_made limit src dst next bytes) i d ≡ data_packet src dst (next + i) (get_or (payloads_of limit bytes) i [])
  made_at i d h = numbered_at src dst next i (payloads_of limit bytes) d (rw count_payloads h)

  pub number_made : (i : ℕ) (d : Packet) → i < packets limit bytes → (get_or (packets_made limit src dst next bytes) i d).header.packet_number ≡ next + i
  number_made i d h = ap (λ (p : Packet). p.header.packet_number) (made_at i d h)

  pub length_made : length (joined (packets_made limit src dst next bytes)) ≡ taken limit bytes + 20 * packets limit bytes
  length_made = length_run src dst next (packets limit bytes) (take (taken limit bytes) bytes) (rw length_taken) ∙ rw length_taken

  -- the datagram is one that parsing takes
  pub made_fits : limit ≤ byte_limit → length (joined (packets_made limit src dst next bytes)) ≤ reading_limit
  unfolding payload_size byte_limit reading_limit
  made_fits h = rw length_made (omega arith)

-- no number is used twice: those of a packing are all below those of the next one, which begins where the first ended
pub numbers_rise : (limit₁ limit₂ src dst next i j : ℕ) (bytes₁ bytes₂ : List ℕ) (d : Packet) → i < packets limit₁ bytes₁ → j < packets limit₂ bytes₂
    → (get_or (packets_made limit₁ src dst next bytes₁) i d).header.packet_number
    < (get_or (packets_made limit₂ src dst (next + packets limit₁ bytes₁) bytes₂) j d).header.packet_number
numbers_rise limit₁ limit₂ src dst next i j bytes₁ bytes₂ d h k =
    rw (number_made limit₁ src dst next bytes₁ i d h, number_made limit₂ src dst (next + packets limit₁ bytes₁) bytes₂ j d k) (omega arith)

-- ---- reading back

module _ (src dst : ℕ) (source : src < 2 ^ 32) (destination : dst < 2 ^ 32) where
  honest : (n : ℕ) (s : List ℕ) → n ≤ largest → Honest (data_packet src dst n (take payload_size s))
  unfolding payload_size
  honest n s h = record {
    sized = record {
      version = omega arith;
      field = rw length-take (omega arith);
      mask = omega arith;
      source = source;
      destination = destination;
      number = omega arith;
    };
    long = refl;
  }

  readable : (k n : ℕ) (s : List ℕ) → packets_for (length s) ≡ suc k → n + suc k ≤ largest → Readable (numbered src dst n (cut payload_size (suc k) s))
  unfolding numbered cut
  readable zero n s e h = last (honest n s (omega arith)) (λ p. rw length-take (first_some (length s) zero e))
  readable (suc k) n s e h =
      before (honest n s (omega arith)) (readable k (suc n) (drop payload_size s) (rw length-drop (packets_suc (length s) (suc k) e)) (omega arith))

  -- some packets, each with its header and payload as parsing asks
  pub readable_made : (limit next : ℕ) (bytes : List ℕ) → next + packets limit bytes ≤ largest → 0 < packets limit bytes → Readable (packets_made limit src dst next bytes)
  readable_made limit next bytes numbers some = by (packets limit bytes) refl some
    where
      by : (k : ℕ) → packets limit bytes ≡ k → 0 < k → Readable (packets_made limit src dst next bytes)
      by zero e h = absurd (omega arith)
      by (suc k) e h = rw e (readable k next (take (taken limit bytes) bytes) (rw length_taken e) (omega arith))

-- ---- what packing says

pub record Answered (limit : ℕ) (queue : Queue) (next src dst : ℕ) (out : List ℕ) (d : DataPacked) : Type 0 where
  pub add_up : sum queue.lengths ≡ length queue.bytes
  pub numbers : next + d.packets ≤ largest
  pub room : d.bytes + 20 * d.packets ≤ length out
  pub said : d ≡ taking limit queue next
  pub left : (packing limit queue next src dst out).1 ≡ paste out 0 (joined (packets_made limit src dst next queue.bytes)) (d.bytes + 20 * d.packets)

-- of a queue that adds up: all that it takes, or a refusal that is not 12
pub data Says (limit : ℕ) (queue : Queue) (next : ℕ) : Said DataPacked → Type 0 where
  takes : (taking limit queue next).next_packet_num ≤ largest → Says limit queue next (answers (taking limit queue next))
  stays : (n : ℕ) → (n ≡ 12 → ⊥) → Says limit queue next (refuses n)

module _ (limit : ℕ) (queue : Queue) (next src dst : ℕ) (out : List ℕ) where
  abbrev cs : List (Bool × ℕ)
  cs = data_checks limit queue next (length out)

  abbrev refused : ℕ → Outcome
  refused n = (refuses n, out)

  abbrev packed : Outcome
  packed = (answers (taking limit queue next), paste out 0 (joined (packets_made limit src dst next queue.bytes)) (packed_size (taking limit queue next).bytes))

  other : {n : ℕ} → sum queue.lengths ≡ length queue.bytes → Failed cs n → n ≡ 12 → ⊥
  other e (inl f) z =
      let wrong : false ≡ true = rw (eq-eqb (sum queue.lengths) (length queue.bytes) e) at f.0 in
      absurd (true≢false (sym wrong))
  other e (inr f) z = elim f.1 [ inl g ↦ omega (arith, g.1) | inr g ↦ elim g.1 [ inl h ↦ omega (arith, h.1) | inr h ↦ absurd h.1 ] ]

  pub packing_says : sum queue.lengths ≡ length queue.bytes → Says limit queue next (packing limit queue next src dst out).0
  unfolding packing
  packing_says e = by (checked refused packed cs)
    where
      by : Checked cs refused packed → Says limit queue next (checks cs refused packed).0
      by (passes t r) = rw r (takes (ltb-false _ _ t.1.0))
      by (fails n f r) = rw r (stays n (other e f))

module _ (limit : ℕ) (queue : Queue) (next src dst : ℕ) (out : List ℕ) (d : DataPacked) where
  pub answered : (packing limit queue next src dst out).0 ≡ answers d → Answered limit queue next src dst out d
  unfolding packing
  answered e = by (checked (refused limit queue next src dst out) (packed limit queue next src dst out) (cs limit queue next src dst out))
    where
      by : Checked (cs limit queue next src dst out) (refused limit queue next src dst out) (packed limit queue next src dst out) → Answered limit queue next src dst out d
      by (passes t r) =
          let same : d ≡ taking limit queue next = cc in
          rw same (record {
            add_up = eqb-true _ _ (not-false _ t.0);
            numbers = ltb-false _ _ t.1.0;
            room = ltb-false _ _ t.1.1.0;
            said = refl;
            left = ap (λ (x : Outcome). x.1) r;
          })
      by (fails n t r) =
          let refusal : ◌≡◌ {A = Said DataPacked} (refuses n) (answers d) = sym (ap (λ (x : Outcome). x.0) r) ∙ e in
          let z : ◌≡◌ {A = ℕ} 0 1 = cc in
          absurd (omega arith)

  module _ (a : Answered limit queue next src dst out d) where
    abbrev made : List Packet
    made = packets_made limit src dst next queue.bytes

    abbrev datagram : List ℕ
    datagram = take (d.bytes + 20 * d.packets) (packing limit queue next src dst out).1

    -- the datagram, the output's first bytes, is the packets made
    pub written_made : datagram ≡ joined made
    written_made =
        let n = d.bytes + 20 * d.packets in
        let long : length (joined made) ≡ n = length_made limit src dst next queue.bytes ∙ rw a.said in
        let part : length (take n (joined made)) ≡ n = length-take-le n (joined made) (omega arith) in
        rw a.left (take_at (take n (joined made)) (drop (0 + n) out) n part ∙ take_all n (joined made) (omega arith))

    few : d.packets ≡ packets limit queue.bytes
    few = ap (λ (x : DataPacked). x.packets) a.said

    pub made_counted : length made ≡ d.packets
    made_counted = count_made limit src dst next queue.bytes ∙ sym few

    -- and where there are any they can be read back (packet/proofs/Trip.antt); link/proofs/Wrote.antt does so with both parsers
    pub made_readable : src < 2 ^ 32 → dst < 2 ^ 32 → 0 < d.packets → Readable made
    made_readable source destination some = readable_made src dst source destination limit next queue.bytes (rw few at a.numbers) (rw few at some)

-- ---- the queue that a packing leaves

sum_left : (q : ℕ) (ls : List ℕ) → q ≤ sum ls → sum (shortened (removal q ls).1 (drop (removal q ls).0 ls)) ≡ sum ls - q
unfolding sum removal shortened
sum_left q [] h = omega arith
sum_left zero (l ∷ ls) h = omega arith
sum_left (suc q) (l ∷ ls) h = by (λ k. sum_left (suc q - l) ls k) (leb l (suc q)) refl
  where
    rest : ℕ × ℕ
    rest = removal (suc q - l) ls

    by : (suc q - l ≤ sum ls → sum (shortened rest.1 (drop rest.0 ls)) ≡ sum ls - (suc q - l)) → (t : Bool) → leb l (suc q) ≡ t
        → let gone : ℕ × ℕ = cond t (suc rest.0, rest.1) (0, suc q) in
        sum (shortened gone.1 (drop gone.0 (l ∷ ls))) ≡ l + sum ls - suc q
    by ih true e =
        let goes : l ≤ suc q = leb-true l (suc q) e in
        let left = ih (omega arith) in
        omega arith
    by ih false e =
        let stays : suc q < l = leb-false l (suc q) e in
        omega arith

module _ (limit : ℕ) (queue : Queue) (next : ℕ) where
  -- the lengths left add up to the bytes left
  pub dequeued_adds_up : sum queue.lengths ≡ length queue.bytes
      → sum (dequeued (taking limit queue next) queue).lengths ≡ length (dequeued (taking limit queue next) queue).bytes
  unfolding sum shortened
  dequeued_adds_up h = by (ltb (length queue.bytes) limit) refl
    where
      q : ℕ
      q = bytes_taken limit (length queue.bytes)

      by : (t : Bool) → ltb (length queue.bytes) limit ≡ t
          → let gone : ℕ × ℕ = cond t (length queue.lengths, 0) (removal q queue.lengths) in
          sum (shortened gone.1 (drop gone.0 queue.lengths)) ≡ length (drop q queue.bytes)
      by true e =
          let all : length queue.bytes < limit = ltb-true (length queue.bytes) limit e in
          rw (drop-length queue.lengths, length-drop) (omega arith)
      by false e = sum_left q queue.lengths (omega arith) ∙ rw length-drop (omega arith)
