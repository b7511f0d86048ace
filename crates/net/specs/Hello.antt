-- Which packets of the handshake a host takes: document 01, end of "Closing"; `is_hello_packet` and `is_client_ack_packet` of net/mod.rs.
use Rattle.std.specs.Prelude.{ℕ, zero, suc, Bool, true, false, not, ◌&&◌, eqb}
use Rattle.header.specs.declared.BluefinHeader.{BluefinHeader}
use Rattle.header.specs.Types.{type_number}
use Rattle.net.specs.declared.BluefinHost.{BluefinHost}
use Rattle.net.specs.declared.BluefinHost.TheVariants.{PackLeader, Client, Other}

-- the kinds of host by number: "PackLeader ..; Client ..; any other host"
abbrev pub host_in : ℕ → BluefinHost
host_in zero = PackLeader
host_in (suc zero) = Client
host_in (suc (suc n)) = Other

abbrev pub has_type : BluefinHeader → ℕ → Bool
has_type h n = eqb (type_number h.type_field) n

abbrev pub source_is0 : BluefinHeader → Bool
source_is0 h = eqb h.source_connection_id 0

abbrev pub destination_is0 : BluefinHeader → Bool
destination_is0 h = eqb h.destination_connection_id 0

-- "PackLeader needs type 0, source not 0, destination 0; Client needs type 1, neither 0; any other host answers yes"
abbrev pub is_hello : BluefinHost → BluefinHeader → Bool
is_hello PackLeader h = has_type h 0 && not (source_is0 h) && destination_is0 h
is_hello Client h = has_type h 1 && not (source_is0 h) && not (destination_is0 h)
is_hello Other h = true

-- "only PackLeader, type 2, neither 0"
abbrev pub is_client_ack : BluefinHost → BluefinHeader → Bool
is_client_ack PackLeader h = has_type h 2 && not (source_is0 h) && not (destination_is0 h)
is_client_ack Client h = false
is_client_ack Other h = false
