-- One packet written alone: the payload behind the header.
-- Assumes nothing.
use Prim.Native.Nat.{ℕ, ◌+◌, ◌≤◌}
use mathlib.Core.Path.{◌≡◌, ◌∙◌}
use mathlib.Core.Bool.{false}
use mathlib.Core.List.{List, ◌++◌}
use native.Mathlib.Omega.{arith}
use lib.ListN.{length, length-append}
use lib.Seq.{paste}
use borrow.Author.Tests.{le-ltb}
use Rattle.refusal.specs.Said.{Said, answers}
use Rattle.lists.proofs.Paste.{paste_behind}
use Rattle.header.specs.Header.{header_bytes, fields_too_large}
use Rattle.header.specs.declared.BluefinHeader.{BluefinHeader}
use Rattle.header.proofs.Trip.{length-header}
use Rattle.packet.specs.Packet.{serialises_into}

pub length_packet : (h : BluefinHeader) (payload : List ℕ) → length (header_bytes h ++ payload) ≡ 20 + length payload
length_packet h payload = length-append (header_bytes h) payload ∙ rw length-header

-- what `serialise_into` leaves where it is not refused; `total` is the packet's length as the code has it
pub behind_header : (h : BluefinHeader) (payload buf : List ℕ) {total : ℕ} {d e : List ℕ} → total ≡ 20 + length payload → fields_too_large h ≡ false → total ≤ length buf
    → d ≡ paste buf 0 (header_bytes h) 20 → e ≡ paste d 20 payload (length payload)
    → ◌≡◌ {A = Said ℕ × List ℕ} (answers total, e) (serialises_into (record { header = h; payload = payload }) buf)
behind_header h payload buf whole f room q r =
    let header : 20 ≡ 0 + length (header_bytes h) = rw length-header (omega arith) in
    let behind = paste_behind buf (header_bytes h) payload 0 20 header (omega arith) in
    let left : paste (paste buf 0 (header_bytes h) 20) 20 payload (length payload) ≡ paste buf 0 (header_bytes h ++ payload) (20 + length payload) =
    rw (length-header h, length_packet h payload) at behind in
    rw (f, le-ltb (length buf) (20 + length payload) (omega arith), r, q, whole, left)
