-- Bytes written as packets, one packet on: what the loop of `write_packets` has still to write.
-- Assumes nothing.
use Prim.Native.Nat.{ℕ, zero, suc, ◌+◌, ◌-◌, ◌*◌, ◌<◌, ◌≤◌, min}
use mathlib.Core.Path.{◌≡◌, refl, sym, ap, ◌∙◌}
use mathlib.Core.Bool.{false}
use mathlib.Core.List.{List, [], ◌++◌, append-nil, append_assoc}
use native.Mathlib.Omega.{arith}
use native.Mathlib.Numerals.{add-one}
use lib.ListN.{length, take, drop, length-append, length-take, length-drop, drop_of_length-le}
use borrow.Rule.Slice.PartMut.{mid_of, put_mid}
use native.Mathlib.Nat.{zero-add}
use lib.Seq.{paste, paste-zero, length-paste, take_at, drop_at, take_all, drop-drop}
use Rattle.lists.specs.Numbers.{largest}
use Rattle.lists.proofs.Paste.{paste_behind}
use Rattle.lists.proofs.Taken.{take_up_to, drop_up_to}
use Rattle.header.specs.Header.{header_bytes, header_of, with_number}
use Rattle.header.specs.declared.PacketType.TheVariants.{UnencryptedData}
use Rattle.header.specs.declared.BluefinSecurityFields.{BluefinSecurityFields}
use Rattle.header.specs.declared.BluefinHeader.{BluefinHeader}
use Rattle.header.proofs.Trip.{length-header}
use Rattle.packet.specs.Packet.{packet_bytes, joined}
use Rattle.packet.proofs.Alone.{length_packet}
use Rattle.writer.specs.Packing.{payload_size, packets_for, packed_size, cut, data_packet, numbered, all_packed}

-- One packet written: its header, then its payload right behind.
module _ (src dst n : ℕ) (payload : List ℕ) {m : ℕ} {security : BluefinSecurityFields} {made header : BluefinHeader} (long : length payload ≡ m) where
  pub header_made : (security.header_encrypted ≡ false) × (security.header_protection_mask ≡ 0) → made ≡ header_of src dst UnencryptedData m security
      → header ≡ with_number made n → header ≡ (data_packet src dst n payload).header
  header_made plain q r = rw (r, q, plain.0, plain.1, long)

module _ (src dst n : ℕ) (payload : List ℕ) where
  pub packet_written : (out : List ℕ) {d e : List ℕ} → 20 + length payload ≤ length out
      → d ≡ paste out 0 (header_bytes (data_packet src dst n payload).header) 20 → e ≡ paste d 20 payload (length payload)
      → e ≡ paste out 0 (packet_bytes (data_packet src dst n payload)) (20 + length payload)
  packet_written out room q r =
      let header = header_bytes (data_packet src dst n payload).header in
      let first : length header ≡ 20 = length-header (data_packet src dst n payload).header in
      let whole : length (header ++ payload) ≡ 20 + length payload = length-append header payload ∙ omega arith in
      r ∙ rw q (rw (first, whole) at (paste_behind out header payload 0 20 (omega arith) (omega arith)))

packets_none : packets_for 0 ≡ 0
unfolding payload_size
packets_none = refl

packets_next : (q : ℕ) → 0 < q → packets_for q ≡ suc (packets_for (q - payload_size))
unfolding payload_size
packets_next q some = omega arith

pub packets_zero : (q : ℕ) → packets_for q ≡ 0 → q ≡ 0
unfolding payload_size
packets_zero q e = omega arith

pub packets_suc : (q k : ℕ) → packets_for q ≡ suc k → packets_for (q - payload_size) ≡ k
unfolding payload_size
packets_suc q k e = omega arith

-- the k payloads of s, each behind its header, end to end
abbrev pub run : ℕ → ℕ → ℕ → ℕ → List ℕ → List ℕ
run src dst n k s = joined (numbered src dst n (cut payload_size k s))

module _ (src dst n k : ℕ) (s : List ℕ) where
  run_next : run src dst n (suc k) s ≡ packet_bytes (data_packet src dst n (take payload_size s)) ++ run src dst (suc n) k (drop payload_size s)
  unfolding joined numbered cut
  run_next = refl

  length_packet_next : (size : ℕ) → length (packet_bytes (data_packet src dst n (take size s))) ≡ 20 + min size (length s)
  length_packet_next size = length_packet _ (take size s) ∙ rw length-take

pub length_run : (src dst n k : ℕ) (s : List ℕ) → packets_for (length s) ≡ k → length (run src dst n k s) ≡ length s + 20 * k
unfolding joined numbered cut
length_run src dst n zero s e = omega (arith, packets_zero (length s) e)
length_run src dst n (suc k) s e =
    let rest : length (run src dst (suc n) k (drop payload_size s)) ≡ length s - payload_size + 20 * k =
    length_run src dst (suc n) k (drop payload_size s) (rw length-drop (packets_suc (length s) k e)) ∙ rw length-drop in
    length-append (packet_bytes (data_packet src dst n (take payload_size s))) (run src dst (suc n) k (drop payload_size s)) ∙ rw (length_packet_next src dst n k s payload_size, rest) (omega arith)

module _ (src dst n : ℕ) (s : List ℕ) where
  length_all : length (all_packed src dst n s) ≡ packed_size (length s)
  length_all = length_run src dst n (packets_for (length s)) s refl

  all_next : 0 < length s → all_packed src dst n s ≡ packet_bytes (data_packet src dst n (take payload_size s)) ++ all_packed src dst (n + 1) (drop payload_size s)
  all_next some = rw (packets_next (length s) some, add-one, length-drop) (run_next src dst n (packets_for (length s - payload_size)) s)

  all_none : length s ≤ 0 → all_packed src dst n s ≡ []
  unfolding joined numbered cut
  all_none h =
      let z : length s ≡ 0 = omega arith in
      rw (z, packets_none)

-- What the loop keeps: s is left to write, from `at` and number n on; once it stands written there, all of `all` stands in `out₀` from its start.
pub record Writing (src dst next : ℕ) (all out₀ : List ℕ) (n at : ℕ) (s out : List ℕ) : Type 0 where
  pub same : length out ≡ length out₀
  pub room : at + packed_size (length s) ≤ length out
  pub numbers : n + packets_for (length s) ≤ largest
  pub goal : paste out at (all_packed src dst n s) (length (all_packed src dst n s)) ≡ paste out₀ 0 (all_packed src dst next all) (length (all_packed src dst next all))

-- a packet with m bytes of those left
pub record Fits (n at left room m : ℕ) : Type 0 where
  pub some : 0 < m
  pub taken : m ≤ left
  pub small : m < 65536
  pub within : at + 20 + m ≤ room
  pub number : n < largest

module _ {src dst next : ℕ} {all out₀ : List ℕ} {n at : ℕ} {s out : List ℕ} (w : Writing src dst next all out₀ n at s out) where
  pub written_all : length s ≤ 0 → out ≡ paste out₀ 0 (all_packed src dst next all) (packed_size (length all))
  written_all h =
      let goal : out ≡ paste out₀ 0 (all_packed src dst next all) (length (all_packed src dst next all)) =
      paste-zero out at [] ∙ (rw (all_none src dst n s h) at w.goal) in
      rw length_all at goal

  -- the next packet, with m bytes
  module _ (m : ℕ) (some : 0 < length s) (small : m ≡ min (length s) payload_size) where
    pub next_fits : Fits n at (length s) (length out) m
    unfolding payload_size
    next_fits = record { some = omega arith; taken = omega arith; small = omega arith; within = omega (arith, w.room); number = omega (arith, w.numbers) }

    pub written_next : {e : List ℕ} → e ≡ paste out at (packet_bytes (data_packet src dst n (take m s))) (20 + m)
        → Writing src dst next all out₀ (n + 1) (at + 20 + m) (drop m s) e
    written_next {e} q =
        let packet = packet_bytes (data_packet src dst n (take payload_size s)) in
        let rest = all_packed src dst (n + 1) (drop payload_size s) in
        let long : length packet ≡ 20 + m = length_packet_next src dst n 0 s payload_size ∙ omega arith in
        let wrote : e ≡ paste out at packet (length packet) = q ∙ rw (take_up_to s m payload_size small, long) in
        let less : packets_for (length s) ≡ suc (packets_for (length (drop m s))) = packets_next (length s) some ∙ rw (drop_up_to s m payload_size small, length-drop) in
        let left : length (drop m s) ≡ length s - m = length-drop m s in
        let fits = next_fits in
        let same : length e ≡ length out = ap length wrote ∙ length-paste out at packet (length packet) (omega arith) (omega arith) in
        let behind : paste e (at + 20 + m) rest (length rest) ≡ paste out at (packet ++ rest) (length (packet ++ rest)) =
        rw wrote (paste_behind out packet rest at (at + 20 + m) (omega arith) (omega arith)) in
        record {
          same = same ∙ w.same;
          room = omega (arith, w.room);
          numbers = omega (arith, w.numbers);
          goal = rw (drop_up_to s m payload_size small) (behind ∙ (rw (all_next src dst n s some) at w.goal));
        }

-- What the loop over the chunks of `all` keeps: after k packets s is left, and of what was written before a packet every payload was whole.
pub record Chunked (src dst next : ℕ) (all out₀ : List ℕ) (k : ℕ) (s out : List ℕ) : Type 0 where
  pub part : length s ≤ length all
  pub whole : 0 < length s → length all - length s ≡ k * payload_size
  pub writing : Writing src dst next all out₀ (next + k) (packed_size (length all - length s)) s out

pub chunked_first : (src dst next : ℕ) (all out : List ℕ) {k : ℕ} {s : List ℕ} → next + packets_for (length all) ≤ largest → packed_size (length all) ≤ length out
    → k ≡ 0 → s ≡ all → Chunked src dst next all out k s out
unfolding payload_size
chunked_first src dst next all out numbers room ek es =
    let none : length all - length all ≡ 0 = omega arith in
    let first : next + 0 ≡ next = omega arith in
    rw (ek, es) (record {
      part = omega arith;
      whole = λ some. omega arith;
      writing = rw (none, first) (record { same = refl; room = omega arith; numbers = numbers; goal = refl });
    })

-- the part of d from a on, lent to a paste at its start
pub part_pasted : (d x e : List ℕ) (a n : ℕ) → e ≡ paste (mid_of a (length d - a) d) 0 x n → put_mid a (length d - a) d e ≡ paste d a x n
part_pasted d x e a n q =
    let rest : length (drop a d) ≤ length d - a = rw length-drop (omega arith) in
    let whole : mid_of a (length d - a) d ≡ drop a d = take_all (length d - a) (drop a d) rest in
    let none : drop (length d - a) (drop a d) ≡ [] = drop_of_length-le (drop a d) rest in
    let there : e ≡ take n x ++ drop (a + n) d = q ∙ rw (whole, zero-add, drop-drop n a d) in
    rw (none, append-nil, there) (sym (append_assoc (take a d) (take n x) (drop (a + n) d)))

-- a chunk p of s, with t behind it
pub record Chunk (s p t : List ℕ) : Type 0 where
  pub split : s ≡ p ++ t
  pub size : length p ≡ min payload_size (length s)
  pub some : 0 < length s

module _ {src dst next : ℕ} {all out₀ : List ℕ} {k : ℕ} {s out : List ℕ} (w : Chunked src dst next all out₀ k s out) where
  pub chunked_all : length s ≡ 0 → out ≡ paste out₀ 0 (all_packed src dst next all) (packed_size (length all))
  chunked_all h = written_all w.writing (omega arith)

  module _ {p t : List ℕ} (c : Chunk s p t) where
    place : packed_size (length all - length s) ≡ k * (20 + payload_size)
    unfolding payload_size
    place = rw (w.whole c.some) (omega arith)

    pub chunk_fits : Fits (next + k) (k * (20 + payload_size)) (length s) (length out) (length p)
    chunk_fits = rw place at (next_fits w.writing (length p) c.some (omega (arith, c.size)))

    front : take (length p) s ≡ p
    front = rw c.split (take_at p t (length p) refl)

    behind : drop (length p) s ≡ t
    behind = rw c.split (drop_at p t (length p) refl)

    next_chunk : {e : List ℕ} → e ≡ paste out (k * (20 + payload_size)) (packet_bytes (data_packet src dst (next + k) p)) (20 + length p)
        → Chunked src dst next all out₀ (k + 1) t e
    unfolding payload_size
    next_chunk {e} q =
        let m = length p in
        let long : length s ≡ m + length t = ap length c.split ∙ length-append p t in
        let wrote : e ≡ paste out (packed_size (length all - length s)) (packet_bytes (data_packet src dst (next + k) (take m s))) (20 + m) = rw (place, front) q in
        let next_written = written_next w.writing m c.some (omega (arith, c.size)) wrote in
        let number : next + k + 1 ≡ next + (k + 1) = omega arith in
        let room : packed_size (length all - length s) + 20 + m ≡ packed_size (length all - length t) = omega (arith, place, w.whole c.some, w.part, c.size, c.some) in
        record {
          part = omega (arith, w.part);
          whole = λ some. omega (arith, w.whole c.some, c.size, w.part);
          writing = rw (number, room, behind) at next_written;
        }

    -- .. written to the output from its place on, which was lent
    pub chunk_next : {i more : ℕ} {e : List ℕ} → i ≡ k → more ≡ k + 1
        → e ≡ paste (mid_of (i * (20 + payload_size)) (length out - i * (20 + payload_size)) out) 0 (packet_bytes (data_packet src dst (next + i) p)) (20 + length p)
        → Chunked src dst next all out₀ more t (put_mid (i * (20 + payload_size)) (length out - i * (20 + payload_size)) out e)
    chunk_next {i} {more} {e} ei em q =
        let packet = packet_bytes (data_packet src dst (next + k) p) in
        let there = rw ei at q in
        rw (em, ei) (next_chunk (part_pasted out packet e (k * (20 + payload_size)) (20 + length p) there))
