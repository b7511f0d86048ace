-- Boundaries of closing and opening: the close record, the headers of a FIN and a FIN-ACK, and the tests of handshake packets. Document 01, "Closing".
use Rattle.std.specs.Prelude.{ℕ, ◌-◌, ◌^◌, ◌≡◌, Bool, true, false, List, [], ◌∷◌, ◌++◌, map, replicate, Option, Some, None}
use Rattle.refusal.specs.Said.{answers, refuses}
use Rattle.header.specs.declared.PacketType.{PacketType}
use Rattle.header.specs.declared.PacketType.TheVariants.{UnencryptedClientHello, UnencryptedServerHello, ClientAck, UnencryptedData, Ack, Fin, FinAck}
use Rattle.header.specs.declared.BluefinHeader.{BluefinHeader}
use Rattle.close_handler.specs.declared.CloseBuffer.{CloseBuffer}
use Rattle.close_handler.specs.declared.CloseState.{CloseState}
use Rattle.close_handler.specs.declared.CloseState.TheVariants.{Active, PeerFinReceived, LocalFinSent, Closed}
use Rattle.close_handler.specs.Close.{fresh, after_fin, after_fin_ack, after_local_fin, after_closed, taken}
use Rattle.net.specs.declared.BluefinHost.TheVariants.{PackLeader, Client, Other}
use Rattle.net.specs.Control.{header_alone, writes_fin, writes_fin_ack}
use Rattle.net.specs.Hello.{is_hello, is_client_ack}
use Rattle.samples.specs.Inputs.{Leaves, lent, security, header, head}

-- ---- the close record

-- a record by its state, the FIN-ACK owed, the one recorded, and the observed flag
abbrev pub close : CloseState → Option ℕ → Option ℕ → Bool → CloseBuffer
close state owed recorded observed = record {
  state = state;
  pending_fin_ack_send = owed;
  received_fin_ack_for = recorded;
  peer_fin_observed = observed;
}

-- "Taking the owed one": what is answered, and the record left
abbrev pub Takes : CloseBuffer → Option ℕ → CloseBuffer → Type 0
Takes c answer left = ◌≡◌ {A = Option ℕ × CloseBuffer} (taken c) (answer, left)

pub record CloseRows : Type 0 where
  pub new : fresh false ≡ close Active None None false
  pub new_observed : fresh true ≡ close Active None None true
  -- "FIN n: in Active or LocalFinSent, the state becomes PeerFinReceived(n), a FIN-ACK for n is owed, the observed flag is set"
  pub fin_active : after_fin (close Active None (Some 4) false) 7 ≡ close (PeerFinReceived 7) (Some 7) (Some 4) true
  pub fin_local : after_fin (close (LocalFinSent 5) None (Some 4) false) 7 ≡ close (PeerFinReceived 7) (Some 7) (Some 4) true
  pub fin_local_same_number : after_fin (close (LocalFinSent 7) None None true) 7 ≡ close (PeerFinReceived 7) (Some 7) None true
  pub fin_local_owing : after_fin (close (LocalFinSent 5) (Some 3) None true) 7 ≡ close (PeerFinReceived 7) (Some 7) None true
  -- "in PeerFinReceived(n) it is owed again; else ignored": after it was taken, while it is owed, with another number, and in Closed
  pub fin_again : after_fin (close (PeerFinReceived 7) None (Some 4) true) 7 ≡ close (PeerFinReceived 7) (Some 7) (Some 4) true
  pub fin_again_owed : after_fin (close (PeerFinReceived 7) (Some 7) None true) 7 ≡ close (PeerFinReceived 7) (Some 7) None true
  pub fin_again_flag_stays : after_fin (close (PeerFinReceived 7) None None false) 7 ≡ close (PeerFinReceived 7) (Some 7) None false
  pub fin_other_number : after_fin (close (PeerFinReceived 6) None (Some 4) true) 7 ≡ close (PeerFinReceived 6) None (Some 4) true
  pub fin_other_number_owed : after_fin (close (PeerFinReceived 6) (Some 6) None true) 7 ≡ close (PeerFinReceived 6) (Some 6) None true
  pub fin_closed : after_fin (close Closed None (Some 4) false) 7 ≡ close Closed None (Some 4) false
  pub fin_closed_owed : after_fin (close Closed (Some 6) None true) 7 ≡ close Closed (Some 6) None true
  -- "A FIN-ACK is always recorded, over the last."
  pub fin_ack_first : after_fin_ack (close Active None None false) 7 ≡ close Active None (Some 7) false
  pub fin_ack_active : after_fin_ack (close Active None (Some 4) false) 7 ≡ close Active None (Some 7) false
  pub fin_ack_peer : after_fin_ack (close (PeerFinReceived 6) (Some 6) (Some 4) true) 7 ≡ close (PeerFinReceived 6) (Some 6) (Some 7) true
  pub fin_ack_local : after_fin_ack (close (LocalFinSent 5) (Some 6) (Some 4) false) 7 ≡ close (LocalFinSent 5) (Some 6) (Some 7) false
  pub fin_ack_closed : after_fin_ack (close Closed (Some 6) (Some 4) false) 7 ≡ close Closed (Some 6) (Some 7) false
  -- "Sending our FIN n moves Active or PeerFinReceived to LocalFinSent(n); else ignored."
  pub local_active : after_local_fin (close Active None (Some 4) false) 7 ≡ close (LocalFinSent 7) None (Some 4) false
  pub local_peer : after_local_fin (close (PeerFinReceived 6) (Some 6) (Some 4) true) 7 ≡ close (LocalFinSent 7) (Some 6) (Some 4) true
  pub local_local : after_local_fin (close (LocalFinSent 5) (Some 6) (Some 4) true) 7 ≡ close (LocalFinSent 5) (Some 6) (Some 4) true
  pub local_closed : after_local_fin (close Closed (Some 6) (Some 4) true) 7 ≡ close Closed (Some 6) (Some 4) true
  -- "Taking the owed one clears it, or answers none."
  pub take_active : Takes (close Active (Some 7) (Some 4) false) (Some 7) (close Active None (Some 4) false)
  pub take_peer : Takes (close (PeerFinReceived 7) (Some 7) (Some 4) true) (Some 7) (close (PeerFinReceived 7) None (Some 4) true)
  pub take_local : Takes (close (LocalFinSent 5) (Some 7) (Some 4) true) (Some 7) (close (LocalFinSent 5) None (Some 4) true)
  pub take_closed : Takes (close Closed (Some 7) (Some 4) true) (Some 7) (close Closed None (Some 4) true)
  pub take_number_0 : Takes (close (PeerFinReceived 0) (Some 0) None true) (Some 0) (close (PeerFinReceived 0) None None true)
  pub take_none : Takes (close (PeerFinReceived 7) None (Some 4) true) None (close (PeerFinReceived 7) None (Some 4) true)
  pub take_twice : Takes (taken (close (PeerFinReceived 7) (Some 7) (Some 4) true)).1 None (close (PeerFinReceived 7) None (Some 4) true)
  -- "`mark_closed` gives Closed from any state."
  pub closed_active : after_closed (close Active None (Some 4) false) ≡ close Closed None (Some 4) false
  pub closed_peer : after_closed (close (PeerFinReceived 7) (Some 7) (Some 4) true) ≡ close Closed (Some 7) (Some 4) true
  pub closed_local : after_closed (close (LocalFinSent 5) (Some 7) (Some 4) false) ≡ close Closed (Some 7) (Some 4) false
  pub closed_closed : after_closed (close Closed (Some 7) None true) ≡ close Closed (Some 7) None true

-- ---- the headers of a FIN and a FIN-ACK

pub record FinRows : Type 0 where
  -- "A FIN or FIN-ACK is a header alone, type 5 or 6, field 0"
  pub header_alone_row : header_alone Fin 1 2 7 ≡ header 0 Fin 0 (security false 0) 1 2 7
  pub fin_20 : Leaves (writes_fin 1 2 7 (lent 20)) (answers 20) (head 5 0 7)
  pub fin_ack_20 : Leaves (writes_fin_ack 1 2 7 (lent 20)) (answers 20) (head 6 0 7)
  -- "writing either header is another, with 10 only": not even 2^64 − 1 is refused
  pub fin_19 : Leaves (writes_fin 1 2 7 (lent 19)) (refuses 10) (lent 19)
  pub fin_ack_19 : Leaves (writes_fin_ack 1 2 7 (lent 19)) (refuses 10) (lent 19)
  pub fin_21 : Leaves (writes_fin 1 2 7 (lent 21)) (answers 20) (head 5 0 7 ++ (99 ∷ []))
  pub fin_ack_21 : Leaves (writes_fin_ack 1 2 7 (lent 21)) (answers 20) (head 6 0 7 ++ (99 ∷ []))
  pub fin_largest : Leaves (writes_fin (2 ^ 32 - 1) (2 ^ 32 - 1) (2 ^ 64 - 1) (lent 20)) (answers 20) (5 ∷ 0 ∷ 0 ∷ 0 ∷ replicate 16 255)
  pub fin_ack_largest : Leaves (writes_fin_ack (2 ^ 32 - 1) (2 ^ 32 - 1) (2 ^ 64 - 1) (lent 20)) (answers 20) (6 ∷ 0 ∷ 0 ∷ 0 ∷ replicate 16 255)

-- ---- the tests of handshake packets

-- a header by type, source and destination; all types, in the order of their numbers
abbrev pub from : PacketType → ℕ → ℕ → BluefinHeader
from type source destination = header 0 type 0 (security false 0) source destination 7

abbrev pub types : List PacketType
types = UnencryptedClientHello ∷ UnencryptedServerHello ∷ ClientAck ∷ UnencryptedData ∷ Ack ∷ Fin ∷ FinAck ∷ []

pub record HelloRows : Type 0 where
  -- "PackLeader needs type 0, source not 0, destination 0"
  pub leader_types : map (λ t. is_hello PackLeader (from t 1 0)) types ≡ true ∷ replicate 6 false
  pub leader_no_source : is_hello PackLeader (from UnencryptedClientHello 0 0) ≡ false
  pub leader_destination : is_hello PackLeader (from UnencryptedClientHello 1 1) ≡ false
  pub leader_largest : is_hello PackLeader (from UnencryptedClientHello (2 ^ 32 - 1) 0) ≡ true
  -- "Client needs type 1, neither 0"
  pub client_types : map (λ t. is_hello Client (from t 1 1)) types ≡ false ∷ true ∷ replicate 5 false
  pub client_no_source : is_hello Client (from UnencryptedServerHello 0 1) ≡ false
  pub client_no_destination : is_hello Client (from UnencryptedServerHello 1 0) ≡ false
  pub client_neither : is_hello Client (from UnencryptedServerHello 0 0) ≡ false
  -- "any other host answers yes"
  pub other_types : map (λ t. is_hello Other (from t 1 1)) types ≡ replicate 7 true
  pub other_neither : is_hello Other (from UnencryptedData 0 0) ≡ true
  -- "`is_client_ack_packet`: only PackLeader, type 2, neither 0."
  pub ack_leader_types : map (λ t. is_client_ack PackLeader (from t 1 1)) types ≡ false ∷ false ∷ true ∷ replicate 4 false
  pub ack_leader_no_source : is_client_ack PackLeader (from ClientAck 0 1) ≡ false
  pub ack_leader_no_destination : is_client_ack PackLeader (from ClientAck 1 0) ≡ false
  pub ack_leader_neither : is_client_ack PackLeader (from ClientAck 0 0) ≡ false
  pub ack_client : map (λ t. is_client_ack Client (from t 1 1)) types ≡ replicate 7 false
  pub ack_other : map (λ t. is_client_ack Other (from t 1 1)) types ≡ replicate 7 false
