-- A close record as a host is given it means that record: the numbers of specs/Closing.antt, read back.
-- Assumes nothing.
use mathlib.Core.Path.{◌≡◌, refl}
use Rattle.std.specs.Prelude.{ℕ, Option, Some, None, is_some, unwrap_or}
use Rattle.close_handler.specs.declared.CloseBuffer.{CloseBuffer}
use Rattle.close_handler.specs.declared.CloseState.{CloseState}
use Rattle.close_handler.specs.declared.CloseState.TheVariants.{Active, PeerFinReceived, LocalFinSent, Closed}
use Rattle.flat.specs.Closing.{state_in, state_number, fin_of_state, fin_number_in, close_in, flat_close}

state_back : (s : CloseState) → state_in (state_number s) (fin_of_state s) ≡ s
state_back Active = refl
state_back (PeerFinReceived n) = refl
state_back (LocalFinSent n) = refl
state_back Closed = refl

fin_back : (f : Option ℕ) → fin_number_in (is_some f) (unwrap_or f 0) ≡ f
fin_back None = refl
fin_back (Some n) = refl

pub close_back : (b : CloseBuffer) → close_in (flat_close b) ≡ b
close_back b = rw (state_back b.state, fin_back b.pending_fin_ack_send, fin_back b.received_fin_ack_for)
