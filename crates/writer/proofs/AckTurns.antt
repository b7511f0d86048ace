-- One turn of each loop of ack packing: what i acks come to, and i + 1.
-- Assumes nothing.
use Prim.Native.Nat.{ℕ, zero, suc, ◌+◌, ◌*◌, ◌<◌, ◌≤◌}
use native.Mathlib.Numerals.{add-one}
use native.Mathlib.Omega.{arith}
use mathlib.Core.Path.{◌≡◌, refl, sym, ap, ◌∙◌}
use mathlib.Core.Bool.{Bool, true, false, ◌||◌}
use mathlib.Core.List.{List, [], ◌∷◌, ◌++◌, append_assoc, append-nil}
use lib.ListN.{length, get_or, take, drop, length-append}
use lib.Seq.{paste, paste-zero, take-suc, drop-cons, get_or-take, length-take-le}
use Rattle.std.specs.List.{list_any, range_with_len}
use borrow.Author.Tests.{ltb-false}
use Rattle.std.proofs.lemmas.Bool.{or_parts}
use Rattle.lists.proofs.Paste.{paste_behind}
use Rattle.header.specs.Header.{header_bytes}
use Rattle.header.proofs.Trip.{length-header}
use Rattle.ring_buffer.specs.Ring.{blank, well_formed, contents}
use Rattle.ring_buffer.specs.declared.AckData.{AckData}
use Rattle.ring_buffer.specs.declared.RingBuffer.{RingBuffer}
use Rattle.ring_buffer.proofs.Laws.{length-contents}
use Rattle.writer.specs.Acks.{ack_header, ack_bytes, too_large, any_too_large}

-- ---- counts too large

-- the test by places: of n acks from the place i on
pub any_by_places : (l : List AckData) (i n : ℕ) → i + n ≤ length l → list_any (λ j. too_large (get_or l j blank)) (range_with_len i n) ≡ any_too_large (take n (drop i l))
unfolding any_too_large
any_by_places l i zero h = refl
any_by_places l i (suc n) h =
    let rest = any_by_places l (i + 1) n (omega arith) ∙ ap (λ (m : ℕ). any_too_large (take n (drop m l))) (add-one i) in
    ap (λ (t : Bool). too_large (get_or l i blank) || t) rest ∙ ap (λ (m : List AckData). any_too_large (take (suc n) m)) (sym (drop-cons l i blank (omega arith)))

-- where none is too large, the first is not, nor any behind it
pub small_first : (a : AckData) (l : List AckData) → any_too_large (a ∷ l) ≡ false → (a.num_packets_consumed ≤ 65535) × (any_too_large l ≡ false)
unfolding any_too_large
small_first a l e = let both = or_parts (too_large a) (any_too_large l) e in (ltb-false 65535 a.num_packets_consumed both.0, both.1)

small_at : (l : List AckData) (i : ℕ) → any_too_large l ≡ false → i < length l → (get_or l i blank).num_packets_consumed ≤ 65535
small_at [] i e h = absurd (omega arith)
small_at (a ∷ l) zero e h = (small_first a l e).0
small_at (a ∷ l) (suc i) e h = small_at l i (small_first a l e).1 (omega arith)

-- ---- headers end to end

module _ (src dst : ℕ) where
  bytes_behind : (l : List AckData) (a : AckData) → ack_bytes src dst (l ++ (a ∷ [])) ≡ ack_bytes src dst l ++ header_bytes (ack_header src dst a)
  unfolding ack_bytes
  bytes_behind [] a = append-nil (header_bytes (ack_header src dst a))
  bytes_behind (b ∷ l) a =
      ap (λ (s : List ℕ). header_bytes (ack_header src dst b) ++ s) (bytes_behind l a)
      ∙ sym (append_assoc (header_bytes (ack_header src dst b)) (ack_bytes src dst l) (header_bytes (ack_header src dst a)))

  bytes_next : (l : List AckData) (i : ℕ) → i < length l → ack_bytes src dst (take (suc i) l) ≡ ack_bytes src dst (take i l) ++ header_bytes (ack_header src dst (get_or l i blank))
  bytes_next l i h = ap (ack_bytes src dst) (take-suc l i blank h) ∙ bytes_behind (take i l) (get_or l i blank)

  pub length_acks : (l : List AckData) → length (ack_bytes src dst l) ≡ 20 * length l
  unfolding ack_bytes
  length_acks [] = refl
  length_acks (a ∷ l) = length-append (header_bytes (ack_header src dst a)) (ack_bytes src dst l) ∙ rw (length-header (ack_header src dst a), length_acks l) (omega arith)

-- the output once the first i acks' headers are written
abbrev pub written : RingBuffer → List AckData → ℕ → ℕ → ℕ → List ℕ → ℕ → List ℕ
written g ys used src dst out i = paste out used (ack_bytes src dst (take i (contents g ys))) (20 * i)

pub written_none : (g : RingBuffer) (ys : List AckData) (used src dst : ℕ) (out : List ℕ) → out ≡ written g ys used src dst out 0
written_none g ys used src dst out = paste-zero out used (ack_bytes src dst (take 0 (contents g ys)))

module _ (g : RingBuffer) (ys : List AckData) (w : well_formed g (length ys) ≡ true) where
  -- a queued ack is small where none among the k in front is too large
  pub ack_small : (k i : ℕ) → i < k → k ≤ g.len → any_too_large (take k (contents g ys)) ≡ false → (get_or (contents g ys) i blank).num_packets_consumed ≤ 65535
  ack_small k i h few e =
      let long : length (take k (contents g ys)) ≡ k = length-take-le k (contents g ys) (rw (length-contents g ys w) few) in
      rw (sym (get_or-take k (contents g ys) i blank h)) (small_at (take k (contents g ys)) i e (rw long h))

  -- the next ack's header behind those written
  pub written_next : (used src dst : ℕ) (out : List ℕ) (i : ℕ) → i < g.len → used + 20 * i + 20 ≤ length out
      → paste (written g ys used src dst out i) (used + 20 * i) (header_bytes (ack_header src dst (get_or (contents g ys) i blank))) 20 ≡ written g ys used src dst out (i + 1)
  written_next used src dst out i h room =
      let l = contents g ys in
      let long : i < length l = rw (length-contents g ys w) h in
      let x = ack_bytes src dst (take i l) in
      let y = header_bytes (ack_header src dst (get_or l i blank)) in
      let next = used + 20 * i in
      let x-long : length x ≡ 20 * i = length_acks src dst (take i l) ∙ ap (λ (m : ℕ). 20 * m) (length-take-le i l (omega (arith, long))) in
      let y-long : length y ≡ 20 = length-header (ack_header src dst (get_or l i blank)) in
      let both : length (x ++ y) ≡ 20 * (i + 1) = length-append x y ∙ rw (x-long, y-long) (omega arith) in
      let bytes : x ++ y ≡ ack_bytes src dst (take (i + 1) l) = sym (bytes_next src dst l i long) ∙ ap (λ (m : ℕ). ack_bytes src dst (take m l)) (sym (add-one i)) in
      ap (λ (m : ℕ). paste (paste out used x m) next y 20) (sym x-long) ∙ ap (λ (m : ℕ). paste (paste out used x (length x)) next y m) (sym y-long)
      ∙ paste_behind out x y used next (omega (arith, x-long)) (omega (arith, room)) ∙ ap (λ (m : ℕ). paste out used (x ++ y) m) both ∙ ap (λ (s : List ℕ). paste out used s (20 * (i + 1))) bytes
