-- The header's round trips: reading what was written gives the header, and writing what was read gives the bytes.
-- Assumes nothing.
use Prim.Native.Nat.{ℕ, ◌+◌, ◌*◌, ◌/◌, ◌%◌, ◌^◌, ◌<◌, ◌≤◌}
use mathlib.Core.Path.{◌≡◌, refl, sym, ap, ap₂, ◌∙◌}
use mathlib.Core.Bool.{Bool, true, false}
use mathlib.Core.List.{List, [], ◌∷◌, ◌++◌}
use native.Mathlib.Omega.{arith}
use native.Mathlib.Nat.{add-zero}
use lib.ListN.{length, get_or, take, drop, get_or-append}
use lib.Seq.{paste, drop-cons, take-add, take_all, drop-drop, get_or-drop}
use lib.Dec.{ltb, leb}
use borrow.Author.Tests.{lt-ltb, le-leb, lt-leb, leb-true, leb-false}
use Rattle.refusal.specs.Said.{answers}
use Rattle.lists.proofs.Paste.{drop_pasted}
use Rattle.lists.proofs.Bytes.{Bytes}
use Rattle.parts.specs.BigEndian.{number_at}
use Rattle.parts.proofs.BigEndian.{number_append, number_drop, number_bytes, bytes_number}
use Rattle.header.specs.declared.BluefinSecurityFields.{BluefinSecurityFields}
use Rattle.header.specs.declared.BluefinHeader.{BluefinHeader}
use Rattle.header.specs.Types.{type_number, type_of}
use Rattle.header.specs.Header.{security_byte, security_of, header_bytes, type_at, header_at, deserialises_at}
use Rattle.header.proofs.Types.{number_known, type_of-type_number, number_type}

-- each field is a value of its type, and version and mask are in the ranges that writing asks for
pub record Sized (h : BluefinHeader) : Type 0 where
  pub version : h.version ≤ 15
  pub field : h.type_specific_payload < 2 ^ 16
  pub mask : h.security_fields.header_protection_mask ≤ 127
  pub source : h.source_connection_id < 2 ^ 32
  pub destination : h.destination_connection_id < 2 ^ 32
  pub number : h.packet_number < 2 ^ 64

pub length-header : (h : BluefinHeader) → length (header_bytes h) ≡ 20
unfolding header_bytes
length-header h = refl

-- The security byte.

abbrev held : Bool → ℕ → BluefinSecurityFields
held e m = record { header_encrypted = e; header_protection_mask = m }

module _ (m : ℕ) (small : m ≤ 127) where
  fields : (e : Bool) → security_of (security_byte (held e m)) ≡ held e m
  fields true = ap₂ held (le-leb 128 (128 + m) (omega arith)) (omega arith)
  fields false = ap₂ held (lt-leb 128 m (omega arith)) (omega arith)

pub read_security : (f : BluefinSecurityFields) → f.header_protection_mask ≤ 127 → security_of (security_byte f) ≡ f
read_security f h = fields f.header_protection_mask h f.header_encrypted

pub write_security : (b : ℕ) → b < 256 → security_byte (security_of b) ≡ b
write_security b h = by_bit (leb 128 b) refl
  where
    by_bit : (t : Bool) → leb 128 b ≡ t → security_byte (security_of b) ≡ b
    by_bit true e = let high : 128 ≤ b = leb-true 128 b e in rw e (omega arith)
    by_bit false e = let low : b < 128 = leb-false 128 b e in rw e (omega arith)

-- A read sees the 20 bytes from its cursor on, and no others.

module _ (s t : List ℕ) (i j : ℕ) where
  same_header : get_or s i 0 ≡ get_or t j 0
      → number_at s (i + 1) 2 ≡ number_at t (j + 1) 2
      → get_or s (i + 3) 0 ≡ get_or t (j + 3) 0
      → number_at s (i + 4) 4 ≡ number_at t (j + 4) 4
      → number_at s (i + 8) 4 ≡ number_at t (j + 8) 4
      → number_at s (i + 12) 8 ≡ number_at t (j + 12) 8
      → header_at s i ≡ header_at t j
  unfolding header_at
  same_header first field security source destination number = cc

pub header-drop : (s : List ℕ) (at : ℕ) → header_at (drop at s) 0 ≡ header_at s at
header-drop s at =
    same_header (drop at s) s 0 at (get_or-drop at s 0 0 ∙ rw add-zero) (number_drop s at 1 2) (get_or-drop at s 3 0) (number_drop s at 4 4)
    (number_drop s at 8 4) (number_drop s at 12 8)

pub header-append : (s t : List ℕ) → 20 ≤ length s → header_at (s ++ t) 0 ≡ header_at s 0
header-append s t h =
    same_header (s ++ t) s 0 0 (get_or-append s t 0 0 (omega arith)) (number_append s t 1 2 (omega arith))
    (get_or-append s t 0 3 (omega arith)) (number_append s t 4 4 (omega arith)) (number_append s t 8 4 (omega arith))
    (number_append s t 12 8 (omega arith))

-- reading what was written gives the header
pub read_header : (h : BluefinHeader) → Sized h → header_at (header_bytes h) 0 ≡ h
unfolding header_at header_bytes
read_header h z =
    let type = h.type_field in
    let small : type_number type < 7 = number_known type in
    let low : (h.version * 16 + type_number type) % 16 ≡ type_number type = omega arith in
    let high : (h.version * 16 + type_number type) / 16 ≡ h.version = omega arith in
    simp (
      low,
      high,
      type_of-type_number type,
      read_security h.security_fields z.mask,
      number_bytes 2 h.type_specific_payload z.field,
      number_bytes 4 h.source_connection_id z.source,
      number_bytes 4 h.destination_connection_id z.destination,
      number_bytes 8 h.packet_number z.number,
    )

-- the same at a cursor inside a longer list
module _ (h : BluefinHeader) (z : Sized h) (s rest : List ℕ) (at : ℕ) (q : drop at s ≡ header_bytes h ++ rest) where
  pub read_at : header_at s at ≡ h
  read_at =
      sym (header-drop s at)
      ∙ ap (λ (x : List ℕ). header_at x 0) q
      ∙ header-append (header_bytes h) rest (rw length-header (omega arith))
      ∙ read_header h z

  pub type_read : type_at s at ≡ type_number h.type_field
  unfolding header_bytes
  type_read =
      let small : type_number h.type_field < 7 = number_known h.type_field in
      let first : get_or (drop at s) 0 0 ≡ h.version * 16 + type_number h.type_field = ap (λ (x : List ℕ). get_or x 0 0) q in
      let here : get_or (drop at s) 0 0 ≡ get_or s at 0 = get_or-drop at s 0 0 ∙ rw add-zero in
      omega arith

  pub deserialise_written : deserialises_at s at ≡ answers h
  deserialise_written =
      let known : ltb (type_at s at) 7 ≡ true = lt-ltb (type_at s at) 7 (rw type_read (number_known h.type_field)) in
      simp (known, read_at)

-- and where it was written over others
pub read_written : (h : BluefinHeader) → Sized h → (d : List ℕ) (at : ℕ) → at + 20 ≤ length d → header_at (paste d at (header_bytes h) 20) at ≡ h
read_written h z d at room =
    let whole : take 20 (header_bytes h) ≡ header_bytes h = take_all 20 (header_bytes h) (rw length-header (omega arith)) in
    read_at h z (paste d at (header_bytes h) 20) (drop (at + 20) d) at (drop_pasted d at (header_bytes h) 20 (omega arith) ∙ rw whole)

-- writing what was read gives the bytes
module _ (s : List ℕ) (at : ℕ) (bytes : Bytes s) (room : at + 20 ≤ length s) (known : type_at s at < 7) where
  join : (n m : ℕ) → take n (drop at s) ++ take m (drop (at + n) s) ≡ take (n + m) (drop at s)
  join n m = sym (take-add n m (drop at s) ∙ rw drop-drop)

  one : (i : ℕ) → i < length s → get_or s i 0 ∷ [] ≡ take 1 (drop i s)
  one i h = rw (drop-cons s i 0)

  pub write_read : header_bytes (header_at s at) ≡ take 20 (drop at s)
  unfolding header_at header_bytes
  write_read =
      let type : type_number (type_of (type_at s at)) ≡ type_at s at = omega (arith, number_type (type_at s at)) in
      let byte : get_or s at 0 / 16 * 16 + type_number (type_of (type_at s at)) ≡ get_or s at 0 = omega arith in
      let first : (get_or s at 0 / 16 * 16 + type_number (type_of (type_at s at))) ∷ [] ≡ take 1 (drop at s) =
      ap (λ (x : ℕ). x ∷ []) byte ∙ one at (omega arith) in
      let security : security_byte (security_of (get_or s (at + 3) 0)) ∷ [] ≡ take 1 (drop (at + 3) s) =
      ap (λ (x : ℕ). x ∷ []) (write_security (get_or s (at + 3) 0) (bytes (at + 3))) ∙ one (at + 3) (omega arith) in
      let field = ap₂ ◌++◌ first (bytes_number 2 s (at + 1) bytes (omega arith)) ∙ join 1 2 in
      let leading = ap₂ ◌++◌ field security ∙ join 3 1 in
      let source = ap₂ ◌++◌ leading (bytes_number 4 s (at + 4) bytes (omega arith)) ∙ join 4 4 in
      let destination = ap₂ ◌++◌ source (bytes_number 4 s (at + 8) bytes (omega arith)) ∙ join 8 4 in
      ap₂ ◌++◌ destination (bytes_number 8 s (at + 12) bytes (omega arith)) ∙ join 12 8

pub write_header : (s : List ℕ) → Bytes s → length s ≡ 20 → type_at s 0 < 7 → header_bytes (header_at s 0) ≡ s
write_header s bytes l known = write_read s 0 bytes (omega arith) known ∙ take_all 20 s (omega arith)
