-- What ack packing means for the queue and for who reads the datagram: the acks packed are the first k of the queue, popped one after the other; the rest of the queue stays, in a well formed ring;
-- no count is cut; and the bytes written parse back as exactly those acks. A refusal changes nothing.
-- Assumes nothing.
use Prim.Native.Nat.{ℕ, suc, ◌+◌, ◌-◌, ◌*◌, ◌<◌, ◌≤◌, ◌^◌}
use native.Mathlib.Nat.{add-zero}
use native.Mathlib.Omega.{arith}
use mathlib.Core.Path.{◌≡◌, refl, sym, ap, ap₂, ◌∙◌}
use mathlib.Core.Bool.{Bool, true, false}
use mathlib.Core.List.{List, [], ◌∷◌, ◌++◌, map}
use lib.ListN.{length, get_or, take, drop, length-drop, length-append}
use lib.Seq.{take-paste, take_all, take_at, drop_at, drop-drop, length-take-le, get_or-take}
use borrow.Author.Tests.{ltb-false}
use Rattle.refusal.specs.Said.{answers, refuses, checks}
use Rattle.refusal.proofs.Checks.{Passed, Checked, passes, fails, checked}
use Rattle.header.specs.Types.{row_of}
use Rattle.header.specs.Header.{header_bytes, type_at}
use Rattle.header.proofs.Trip.{Sized, length-header, read_at, type_read}
use Rattle.packet.specs.Packet.{Packet}
use Rattle.packet.specs.Datagram.{Walk, onto, walk_at, packet_at}
use Rattle.packet.proofs.Step.{at_end, at_bare}
use Rattle.packet.proofs.Walk.{walk_end, walk_packet}
use Rattle.packet.proofs.Index.{packet_is}
use Rattle.ring_buffer.specs.Ring.{blank, well_formed, contents, popped, blanked}
use Rattle.ring_buffer.specs.declared.AckData.{AckData}
use Rattle.ring_buffer.specs.declared.RingBuffer.{RingBuffer}
use Rattle.ring_buffer.proofs.Blanked.{length-blanked}
use Rattle.ring_buffer.proofs.Laws.{taken, taken_are, length-contents, popped_keeps, popped-contents}
use Rattle.writer.specs.Acks.{ack_count, acks_taken, ack_header, ack_bytes, any_too_large, ack_checks, packed, Outcome, leaves, consumes_acks}
use Rattle.writer.specs.declared.acks.AcksPacked.{AcksPacked}
use Rattle.writer.proofs.AckCount.{count_queued}
use Rattle.writer.proofs.AckChecks.{ring_well}
use Rattle.writer.proofs.AckTurns.{written, length_acks, ack_small, small_first}

-- ---- headers end to end, read again

-- the packet that an ack is sent as
abbrev pub ack_packet : ℕ → ℕ → AckData → Packet
ack_packet src dst a = record { header = ack_header src dst a; payload = [] }

-- the cells of acks from `at` on
unfoldable ack_cells : ℕ → List AckData → List (ℕ × ℕ)
ack_cells at [] = []
ack_cells at (a ∷ l) = (at, 0) ∷ ack_cells (at + 20) l

module _ (src dst : ℕ) (src-fits : src < 2 ^ 32) (dst-fits : dst < 2 ^ 32) (s : List ℕ) where
  -- an ack whose fields fit
  sized : (a : AckData) → a.num_packets_consumed ≤ 65535 → a.base_packet_num < 2 ^ 64 → Sized (ack_header src dst a)
  sized a small base = record { version = omega arith; field = omega arith; mask = omega arith; source = src-fits; destination = dst-fits; number = base }

  -- acks that stand from `at` to the end are what the walk meets, and what it reads
  abbrev Reads : ℕ → List AckData → Type 0
  Reads at l = (walk_at s at ≡ record { cells = ack_cells at l; ending = answers tt }) × (map (packet_at s) (ack_cells at l) ≡ map (ack_packet src dst) l)

  reads : (l : List AckData) (at : ℕ) → drop at s ≡ ack_bytes src dst l → any_too_large l ≡ false → ((i : ℕ) → i < length l → (get_or l i blank).base_packet_num < 2 ^ 64) → Reads at l
  unfolding ack_bytes ack_cells
  reads [] at q small base =
      let gone : length s - at ≡ 0 = sym (length-drop at s) ∙ ap length q in
      (walk_end s at (at_end s at gone), refl)
  reads (a ∷ l) at q small base =
      let h = ack_header src dst a in
      let fits = small_first a l small in
      let z = sized a fits.0 (base 0 (omega arith)) in
      let rest : drop (at + 20) s ≡ ack_bytes src dst l = sym (drop-drop 20 at s) ∙ ap (drop 20) q ∙ drop_at (header_bytes h) (ack_bytes src dst l) 20 (length-header h) in
      let long : length s - at ≡ 20 + length (ack_bytes src dst l) = sym (length-drop at s) ∙ ap length q ∙ length-append (header_bytes h) (ack_bytes src dst l) ∙ rw (length-header h) in
      let type : type_at s at ≡ 4 = type_read h z s (ack_bytes src dst l) at q in
      let known : (row_of (type_at s at)).known ≡ true = rw type refl in
      let bare : (row_of (type_at s at)).has_payload ≡ false = rw type refl in
      let on = reads l (at + 20) rest fits.1 (λ i h. base (suc i) (omega arith)) in (
        walk_packet s at (at_bare s at (omega (arith, long)) known bare) ∙ ap (λ (c : ℕ). onto (at, 0) (walk_at s c)) (add-zero (at + 20)) ∙ ap (onto (at, 0)) on.0,
        ap₂ ◌∷◌ (packet_is s at 0 (read_at h z s (ack_bytes src dst l) at q) refl) on.1,
      )

-- ---- the call

module _ (g : RingBuffer) (ys : List AckData) (used src dst : ℕ) (out : List ℕ) where
  abbrev k : ℕ
  k = ack_count g used

  abbrev acks : List AckData
  acks = acks_taken g ys used

  abbrev left : Outcome
  left = consumes_acks g ys used src dst out

  abbrev cs : List (Bool × ℕ)
  cs = ack_checks g (length ys) used (length out) (any_too_large acks)

  abbrev done : Outcome
  done = leaves (answers (packed g used)) (popped g (length ys) k) (blanked g.head k ys) (written g ys used src dst out k)

  -- "all unchanged" on a refusal
  pub refused_keeps : {n : ℕ} → left.said ≡ refuses n → left ≡ leaves (refuses n) g ys out
  unfolding consumes_acks
  refused_keeps {n} e = by (checked (λ r. leaves (refuses r) g ys out) done cs)
    where
      by : Checked cs (λ r. leaves (refuses r) g ys out) done → checks cs (λ r. leaves (refuses r) g ys out) done ≡ leaves (refuses n) g ys out
      by (passes p q) = let f = sym (ap (λ (x : Outcome). x.said) q) ∙ e in let z : ◌≡◌ {A = ℕ} 0 1 = cc in absurd (omega arith)
      by (fails r f q) = let d = sym (ap (λ (x : Outcome). x.said) q) ∙ e in let same : r ≡ n = cc in q ∙ ap (λ (m : ℕ). leaves (refuses m) g ys out) same

  module _ {p : AcksPacked} (e : left.said ≡ answers p) where
    went : Passed cs × (left ≡ done)
    unfolding consumes_acks
    went = by (checked (λ r. leaves (refuses r) g ys out) done cs)
      where
        by : Checked cs (λ r. leaves (refuses r) g ys out) done → Passed cs × (checks cs (λ r. leaves (refuses r) g ys out) done ≡ done)
        by (passes f q) = (f, q)
        by (fails r f q) = let d = sym (ap (λ (x : Outcome). x.said) q) ∙ e in let z : ◌≡◌ {A = ℕ} 0 1 = cc in absurd (omega arith)

    well : well_formed g (length ys) ≡ true
    well = ring_well g (length ys) used (length out) went.0.0

    room : used + 20 * k ≤ length out
    room = ltb-false (length out) (used + 20 * k) went.0.1.1.0

    length_taken : length acks ≡ k
    length_taken = length-take-le k (contents g ys) (rw (length-contents g ys well) (count_queued g used))

    -- k pops, one after the other, take the acks that are packed
    pub acks_popped : taken g ys k ≡ acks
    acks_popped = taken_are g ys well k (count_queued g used)

    -- and leave the rest of the queue, in order
    pub queue-left : contents left.ring left.cells ≡ drop k (contents g ys)
    queue-left = ap (λ (x : Outcome). contents x.ring x.cells) went.1 ∙ popped-contents g ys well k (count_queued g used)

    pub ring_keeps : well_formed left.ring (length left.cells) ≡ true
    ring_keeps =
        ap (λ (x : Outcome). well_formed x.ring (length x.cells)) went.1
        ∙ ap (well_formed (popped g (length ys) k)) (length-blanked g.head k ys) ∙ popped_keeps g ys well k (count_queued g used)

    -- "the Rust cuts it off": here no count that is packed is cut
    pub none_cut : (i : ℕ) → i < k → (get_or acks i blank).num_packets_consumed ≤ 65535
    none_cut i h = rw (get_or-take k (contents g ys) i blank h) (ack_small g ys well k i h (count_queued g used) went.0.1.0)

    -- the datagram's `used` bytes stay, and what follows them parses back as exactly the acks packed
    pub parses_back : src < 2 ^ 32 → dst < 2 ^ 32 → ((i : ℕ) → i < k → (get_or acks i blank).base_packet_num < 2 ^ 64)
        → let sent = take (used + 20 * k) left.out in
        (take used sent ≡ take used out) × ((walk_at sent used).ending ≡ answers tt) × (map (packet_at sent) (walk_at sent used).cells ≡ map (ack_packet src dst) acks)
    parses_back src-fits dst-fits base =
        let x = ack_bytes src dst acks in
        let sent = take (used + 20 * k) left.out in
        let inside : used ≤ length out = omega (arith, room) in
        let x-long : length x ≡ 20 * k = length_acks src dst acks ∙ ap (λ (n : ℕ). 20 * n) length_taken in
        let before : length (take used out) ≡ used = length-take-le used out inside in
        let whole : sent ≡ take used out ++ x =
        ap (λ (r : Outcome). take (used + 20 * k) r.out) went.1 ∙ take-paste out used x (20 * k) inside (omega (arith, x-long))
        ∙ ap (λ (r : List ℕ). take used out ++ r) (take_all (20 * k) x (omega (arith, x-long))) in
        let all = reads src dst src-fits dst-fits sent acks used (ap (drop used) whole ∙ drop_at (take used out) x used before) went.0.1.0 (λ i h. base i (omega (arith, length_taken, h))) in
        (ap (take used) whole ∙ take_at (take used out) x used before, ap (λ (w : Walk). w.ending) all.0, ap (λ (w : Walk). map (packet_at sent) w.cells) all.0 ∙ all.1)
