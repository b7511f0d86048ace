-- The close record as a host has it: the state's number and its FIN's, and for each FIN that may be absent a flag beside its number.
use Rattle.std.specs.Prelude.{ℕ, Bool, false, cond, [], ◌∷◌, eqb, leb, Option, Some, None, is_some, unwrap_or}
use Rattle.refusal.specs.Said.{checks}
use Rattle.close_handler.specs.Close.{state_says, owed, recorded, taken}
use Rattle.close_handler.specs.declared.CloseBuffer.{CloseBuffer}
use Rattle.close_handler.specs.declared.CloseState.{CloseState}
use Rattle.close_handler.specs.declared.CloseState.TheVariants.{Active, PeerFinReceived, LocalFinSent, Closed}
use Rattle.flat.specs.declared.closing.CloseRecord.{CloseRecord}
use Rattle.flat.specs.declared.closing.CloseAfter.{CloseAfter}
use Rattle.flat.specs.declared.closing.FinAckTaken.{FinAckTaken}

-- the state's number, and its FIN's, or 0 where it has none
abbrev pub state_number : CloseState → ℕ
state_number s = (state_says s).0

abbrev pub fin_of_state : CloseState → ℕ
fin_of_state s = unwrap_or (state_says s).1 0

-- the state that has the number k, with the FIN n; no call asks for another number's
abbrev pub state_in : ℕ → ℕ → CloseState
state_in k n =
    cond (eqb k (state_number Active)) Active
    (cond (eqb k (state_number (PeerFinReceived n))) (PeerFinReceived n)
    (cond (eqb k (state_number (LocalFinSent n))) (LocalFinSent n) Closed))

abbrev pub fin_number_in : Bool → ℕ → Option ℕ
fin_number_in is_there n = cond is_there (Some n) None

-- the record that the numbers mean
abbrev pub close_in : CloseRecord → CloseBuffer
close_in c = record {
  state = state_in c.state c.state_fin;
  pending_fin_ack_send = fin_number_in c.is_pending c.pending_fin_ack_send;
  received_fin_ack_for = fin_number_in c.is_received c.received_fin_ack_for;
  peer_fin_observed = c.peer_fin_observed;
}

abbrev pub flat_close : CloseBuffer → CloseRecord
flat_close b = record {
  state_fin = fin_of_state b.state;
  pending_fin_ack_send = unwrap_or (owed b) 0;
  received_fin_ack_for = unwrap_or (recorded b) 0;
  state = state_number b.state;
  is_pending = is_some (owed b);
  is_received = is_some (recorded b);
  peer_fin_observed = b.peer_fin_observed;
}

-- "12 .. malformed state": a number that no state has; the record stays as it came
abbrev pub unless_malformed : {A : Type 0} → CloseRecord → (ℕ → A) → A → A
unless_malformed c = checks ((leb 4 c.state, 12) ∷ [])

-- the record after an event
abbrev pub close_after : CloseRecord → (CloseBuffer → CloseBuffer) → CloseAfter
close_after c event = unless_malformed c (λ n. record { close = c; refusal = n }) (record { close = flat_close (event (close_in c)); refusal = 0 })

abbrev pub fin_ack_taken : CloseRecord → FinAckTaken
fin_ack_taken c =
    unless_malformed c
    (λ n. record { close = c; number = 0; was_pending = false; refusal = n })
    (record {
      close = flat_close (taken (close_in c)).1;
      number = unwrap_or (taken (close_in c)).0 0;
      was_pending = is_some (taken (close_in c)).0;
      refusal = 0;
    })
