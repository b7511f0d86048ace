-- Document 01, "Closing": what each event makes of a close record, and what is answered. The states are the paper's, by name; where one is answered, by number.
use Rattle.std.specs.Prelude.{ℕ, Bool, true, cond, eqb, Option, Some, None}
use Rattle.close_handler.specs.declared.CloseBuffer.{CloseBuffer}
use Rattle.close_handler.specs.declared.CloseState.{CloseState}
use Rattle.close_handler.specs.declared.CloseState.TheVariants.{Active, PeerFinReceived, LocalFinSent, Closed}

-- "states Active, PeerFinReceived(n), LocalFinSent(n), Closed": 0 to 3 in this order, with none or the FIN's number
abbrev pub state_says : CloseState → ℕ × Option ℕ
state_says Active = (0, None)
state_says (PeerFinReceived n) = (1, Some n)
state_says (LocalFinSent n) = (2, Some n)
state_says Closed = (3, None)

-- the state that a record is in, the FIN-ACK that is owed, and the one that is recorded
abbrev pub state_of : CloseBuffer → ℕ × Option ℕ
state_of c = state_says c.state

abbrev pub owed : CloseBuffer → Option ℕ
owed c = c.pending_fin_ack_send

abbrev pub recorded : CloseBuffer → Option ℕ
recorded c = c.received_fin_ack_for

-- ---- a record with one of its parts changed
abbrev pub in_state : CloseState → CloseBuffer → CloseBuffer
in_state s c = record c { state = s }

abbrev pub owing : Option ℕ → CloseBuffer → CloseBuffer
owing o c = record c { pending_fin_ack_send = o }

abbrev pub recording : Option ℕ → CloseBuffer → CloseBuffer
recording o c = record c { received_fin_ack_for = o }

abbrev pub observed : CloseBuffer → CloseBuffer
observed c = record c { peer_fin_observed = true }

-- ---- the rules
abbrev pub fresh : Bool → CloseBuffer
fresh flag = record { state = Active; pending_fin_ack_send = None; received_fin_ack_for = None; peer_fin_observed = flag }

-- "the state becomes PeerFinReceived(n), a FIN-ACK for n is owed, the observed flag is set"
abbrev pub fin_received : ℕ → CloseBuffer → CloseBuffer
fin_received n c = observed (owing (Some n) (in_state (PeerFinReceived n) c))

-- "FIN n: in Active or LocalFinSent, [that]; in PeerFinReceived(n) it is owed again; else ignored"
abbrev pub fin_in : CloseState → CloseBuffer → ℕ → CloseBuffer
fin_in Active c n = fin_received n c
fin_in (LocalFinSent m) c n = fin_received n c
fin_in (PeerFinReceived m) c n = cond (eqb m n) (owing (Some n) c) c
fin_in Closed c n = c

abbrev pub after_fin : CloseBuffer → ℕ → CloseBuffer
after_fin c n = fin_in c.state c n

-- "A FIN-ACK is always recorded, over the last."
abbrev pub after_fin_ack : CloseBuffer → ℕ → CloseBuffer
after_fin_ack c n = recording (Some n) c

-- "Sending our FIN n moves Active or PeerFinReceived to LocalFinSent(n); else ignored."
abbrev pub local_fin_in : CloseState → CloseBuffer → ℕ → CloseBuffer
local_fin_in Active c n = in_state (LocalFinSent n) c
local_fin_in (PeerFinReceived m) c n = in_state (LocalFinSent n) c
local_fin_in (LocalFinSent m) c n = c
local_fin_in Closed c n = c

abbrev pub after_local_fin : CloseBuffer → ℕ → CloseBuffer
after_local_fin c n = local_fin_in c.state c n

-- "`mark_closed` gives Closed from any state": what is owed and what is recorded stay
abbrev pub after_closed : CloseBuffer → CloseBuffer
after_closed c = in_state Closed c

-- "Taking the owed one clears it, or answers none."
abbrev pub after_take : CloseBuffer → CloseBuffer
after_take c = owing None c

abbrev pub taken : CloseBuffer → Option ℕ × CloseBuffer
taken c = (owed c, after_take c)
