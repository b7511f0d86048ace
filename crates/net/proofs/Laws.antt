-- What is written to close a connection is read back; and no packet is both a hello and a client's ack.
-- Assumes nothing.
use Prim.Native.Nat.{ℕ, zero, suc, ◌^◌, ◌<◌, ◌≤◌}
use mathlib.Core.Path.{◌≡◌, refl, sym, ◌∙◌}
use mathlib.Core.Bool.{Bool, true, false, ◌&&◌, true≢false}
use mathlib.Core.List.{List, [], append-nil}
use native.Mathlib.Omega.{arith}
use lib.ListN.{length, take}
use lib.Seq.{take_all, take-paste}
use lib.Dec.{eqb}
use borrow.Author.Tests.{le-ltb, ne_eqb}
use Rattle.refusal.specs.Said.{answers}
use Rattle.header.specs.declared.PacketType.{PacketType}
use Rattle.header.specs.declared.BluefinHeader.{BluefinHeader}
use Rattle.header.specs.Types.{type_number, type_of}
use Rattle.header.specs.Header.{header_bytes, deserialises}
use Rattle.header.proofs.Trip.{Sized, length-header, deserialise_written}
use Rattle.net.specs.declared.BluefinHost.{BluefinHost}
use Rattle.net.specs.declared.BluefinHost.TheVariants.{PackLeader, Client, Other}
use Rattle.net.specs.Hello.{is_hello, is_client_ack}
use Rattle.net.specs.Control.{header_alone, writes_control, writes_fin, writes_fin_ack}

header_read : (h : BluefinHeader) → Sized h → deserialises (header_bytes h) ≡ answers h
header_read h z = simp (length-header h, deserialise_written h z (header_bytes h) [] 0 (sym (append-nil (header_bytes h))))

module _ (source destination number : ℕ) (s : source < 2 ^ 32) (d : destination < 2 ^ 32) (n : number < 2 ^ 64) (buf : List ℕ) (room : 20 ≤ length buf) where
  control_read : (type : PacketType) → deserialises (take 20 (writes_control type source destination number buf).1) ≡ answers (header_alone type source destination number)
  control_read type =
      let h = header_alone type source destination number in
      let z : Sized h = record { version = omega arith; field = omega arith; mask = omega arith; source = s; destination = d; number = n } in
      let l : 20 ≤ length (header_bytes h) = rw length-header (omega arith) in
      let whole : take 20 (header_bytes h) ≡ header_bytes h = take_all 20 (header_bytes h) (rw length-header (omega arith)) in
      simp (le-ltb _ _ room, take-paste buf 0 (header_bytes h) 20 (omega arith) l ∙ whole, header_read h z)

  -- the 20 bytes of a FIN are read as a FIN with its number and ids
  pub fin_read : deserialises (take 20 (writes_fin source destination number buf).1) ≡ answers (header_alone (type_of 5) source destination number)
  fin_read = control_read (type_of 5)

  -- and those of a FIN-ACK as a FIN-ACK
  pub fin_ack_read : deserialises (take 20 (writes_fin_ack source destination number buf).1) ≡ answers (header_alone (type_of 6) source destination number)
  fin_ack_read = control_read (type_of 6)

apart : (type : ℕ) (a b c d : Bool) → (eqb type 0 && a && b) ≡ true → (eqb type 2 && c && d) ≡ false
apart zero a b c d e = refl
apart (suc n) a b c d e = absurd (true≢false (sym (simp (ne_eqb (suc n) 0 (λ q. omega arith)) at e)))

-- no host takes a packet both for a hello and for a client's ack
pub hello_no_ack : (host : BluefinHost) (h : BluefinHeader) → is_hello host h ≡ true → is_client_ack host h ≡ false
hello_no_ack PackLeader h e = apart (type_number h.type_field) _ _ _ _ e
hello_no_ack Client h e = refl
hello_no_ack Other h e = refl
