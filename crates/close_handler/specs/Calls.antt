-- Lists of calls on one close record, and what is counted along them: the words of proofs/Laws.antt.
-- The getters change nothing and are left out.
use Rattle.std.specs.Prelude.{ℕ, ◌+◌, ◌≡◌, Bool, true, false, cond, List, [], ◌∷◌, eqb, Option, Some, None}
use Rattle.close_handler.specs.Close.{owed, after_fin, after_fin_ack, after_local_fin, after_closed, taken}
use Rattle.close_handler.specs.declared.CloseBuffer.{CloseBuffer}
use Rattle.close_handler.specs.declared.CloseState.{CloseState}
use Rattle.close_handler.specs.declared.CloseState.TheVariants.{Active, PeerFinReceived, LocalFinSent, Closed}

pub data Call : Type 0 where
  fin : ℕ → Call
  fin_ack : ℕ → Call
  local_fin : ℕ → Call
  close : Call
  take : Call

abbrev pub after : CloseBuffer → Call → CloseBuffer
after c (fin n) = after_fin c n
after c (fin_ack n) = after_fin_ack c n
after c (local_fin n) = after_local_fin c n
after c close = after_closed c
after c take = (taken c).1

abbrev pub run : CloseBuffer → List Call → CloseBuffer
run c [] = c
run c (k ∷ ks) = run (after c k) ks

-- no call of the list is of this kind
abbrev pub Without : (Call → Bool) → List Call → Type 0
Without kind [] = Unit
Without kind (k ∷ ks) = (kind k ≡ false) × Without kind ks

abbrev pub is_fin : Call → Bool
is_fin (fin n) = true
is_fin (fin_ack n) = false
is_fin (local_fin n) = false
is_fin close = false
is_fin take = false

abbrev pub is_local_fin : Call → Bool
is_local_fin (fin n) = false
is_local_fin (fin_ack n) = false
is_local_fin (local_fin n) = true
is_local_fin close = false
is_local_fin take = false

-- ---- how often a FIN-ACK became owed, and how often a take answered one
abbrev pub total : (CloseBuffer → Call → ℕ) → CloseBuffer → List Call → ℕ
total f c [] = 0
total f c (k ∷ ks) = f c k + total f (after c k) ks

abbrev pub one : Option ℕ → ℕ
one None = 0
one (Some n) = 1

-- a FIN-ACK became owed where none was: one that is owed again while it still is counts once
abbrev pub newly : Option ℕ → Option ℕ → ℕ
newly None o = one o
newly (Some m) o = 0

abbrev pub became_owed : CloseBuffer → Call → ℕ
became_owed c k = newly (owed c) (owed (after c k))

abbrev pub answered : CloseBuffer → Call → ℕ
answered c (fin n) = 0
answered c (fin_ack n) = 0
answered c (local_fin n) = 0
answered c close = 0
answered c take = one (taken c).0

-- ---- the number of the last FIN of the list that was owed; `last` is that of the calls before it
abbrev pub is_owed : CloseState → ℕ → Bool
is_owed Active n = true
is_owed (LocalFinSent m) n = true
is_owed (PeerFinReceived m) n = eqb m n
is_owed Closed n = false

abbrev pub last_after : Option ℕ → CloseBuffer → Call → Option ℕ
last_after last c (fin n) = cond (is_owed c.state n) (Some n) last
last_after last c (fin_ack n) = last
last_after last c (local_fin n) = last
last_after last c close = last
last_after last c take = last

abbrev pub last_owed : Option ℕ → CloseBuffer → List Call → Option ℕ
last_owed last c [] = last
last_owed last c (k ∷ ks) = last_owed (last_after last c k) (after c k) ks
