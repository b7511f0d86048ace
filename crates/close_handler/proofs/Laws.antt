-- Laws of the close record's states, and of the record over lists of calls. They are of the definitions that the calls' contracts cite.
-- Assumes nothing.
use Prim.Native.Nat.{ℕ, ◌+◌}
use mathlib.Core.Path.{◌≡◌, refl, sym, ap, ◌∙◌}
use mathlib.Core.Bool.{Bool, true, false, cond}
use mathlib.Core.List.{List, [], ◌∷◌}
use native.Mathlib.Omega.{arith}
use lib.Dec.{eqb}
use Rattle.std.specs.Prelude.{Option, Some, None}
use Rattle.close_handler.specs.Calls.{Call, fin, fin_ack, local_fin, close, take, after, run, Without, is_fin, is_local_fin, total, one, newly, became_owed, answered, is_owed, last_after, last_owed}
use Rattle.close_handler.specs.Close.{state_says, owed, owing, fresh, fin_in, local_fin_in, after_fin, taken}
use Rattle.close_handler.specs.declared.CloseBuffer.{CloseBuffer}
use Rattle.close_handler.specs.declared.CloseState.{CloseState}
use Rattle.close_handler.specs.declared.CloseState.TheVariants.{Active, PeerFinReceived, LocalFinSent, Closed}

-- ---- a state is told by its number and its FIN's
abbrev state_from : ℕ → Option ℕ → CloseState
state_from k None = cond (eqb k 0) Active Closed
state_from k (Some n) = cond (eqb k 1) (PeerFinReceived n) (LocalFinSent n)

state_back : (s : CloseState) → state_from (state_says s).0 (state_says s).1 ≡ s
state_back Active = refl
state_back (PeerFinReceived n) = refl
state_back (LocalFinSent n) = refl
state_back Closed = refl

pub same_state : (s t : CloseState) → state_says s ≡ state_says t → s ≡ t
same_state s t e = sym (state_back s) ∙ ap (λ (p : ℕ × Option ℕ). state_from p.0 p.1) e ∙ state_back t

-- ---- after Closed no call leaves Closed
closed_step : (c : CloseBuffer) (k : Call) → c.state ≡ Closed → (after c k).state ≡ Closed
closed_step c (fin n) e = simp e
closed_step c (fin_ack n) e = e
closed_step c (local_fin n) e = simp e
closed_step c close e = refl
closed_step c take e = e

pub closed_stays : (c : CloseBuffer) (ks : List Call) → c.state ≡ Closed → (run c ks).state ≡ Closed
closed_stays c [] e = e
closed_stays c (k ∷ ks) e = closed_stays (after c k) ks (closed_step c k e)

-- ---- a repeated FIN changes nothing but what is owed, whatever came in between but our own FIN: in LocalFinSent any FIN is taken in anew
-- a FIN was received, or the record is closed
abbrev Past : CloseState → Type 0
Past Active = ⊥
Past (PeerFinReceived m) = Unit
Past (LocalFinSent m) = ⊥
Past Closed = Unit

-- a FIN in PeerFinReceived changes what is owed, or nothing
owes_again : (b : Bool) (c : CloseBuffer) (n : ℕ) → cond b (owing (Some n) c) c ≡ owing (cond b (Some n) c.pending_fin_ack_send) c
owes_again true c n = refl
owes_again false c n = refl

past_fin : (s : CloseState) (c : CloseBuffer) (n : ℕ) → c.state ≡ s → Past (fin_in s c n).state
past_fin Active c n e = tt
past_fin (PeerFinReceived m) c n e = rw (owes_again (eqb m n) c n, e) tt
past_fin (LocalFinSent m) c n e = tt
past_fin Closed c n e = rw e tt

past_step : (c : CloseBuffer) (k : Call) → is_local_fin k ≡ false → Past c.state → Past (after c k).state
past_step c (fin n) w p = past_fin c.state c n refl
past_step c (fin_ack n) w p = p
past_step c (local_fin n) w p = cc
past_step c close w p = tt
past_step c take w p = p

past_run : (c : CloseBuffer) (ks : List Call) → Without is_local_fin ks → Past c.state → Past (run c ks).state
past_run c [] w p = p
past_run c (k ∷ ks) w p = past_run (after c k) ks w.1 (past_step c k w.0 p)

only_owed : (s : CloseState) (c : CloseBuffer) (n : ℕ) → Past s → fin_in s c n ≡ owing (fin_in s c n).pending_fin_ack_send c
only_owed Active c n p = absurd p
only_owed (PeerFinReceived m) c n p = rw (owes_again (eqb m n) c n)
only_owed (LocalFinSent m) c n p = absurd p
only_owed Closed c n p = refl

pub repeated_fin : (c : CloseBuffer) (n : ℕ) (ks : List Call) → Without is_local_fin ks
    → let d = run (after_fin c n) ks in after_fin d n ≡ owing (after_fin d n).pending_fin_ack_send d
repeated_fin c n ks w = let d = run (after_fin c n) ks in only_owed d.state d n (past_run (after_fin c n) ks w (past_fin c.state c n refl))

-- ---- what a call makes of what is owed: a FIN that is owed replaces it, a take clears it, and nothing else touches it
abbrev owed_after : CloseBuffer → Call → Option ℕ
owed_after c (fin n) = cond (is_owed c.state n) (Some n) (owed c)
owed_after c (fin_ack n) = owed c
owed_after c (local_fin n) = owed c
owed_after c close = owed c
owed_after c take = None

owed-after : (c : CloseBuffer) (k : Call) → owed (after c k) ≡ owed_after c k
owed-after c (fin n) = by c.state
  where
    again : (b : Bool) → owed (cond b (owing (Some n) c) c) ≡ cond b (Some n) (owed c)
    again true = refl
    again false = refl

    by : (s : CloseState) → owed (fin_in s c n) ≡ cond (is_owed s n) (Some n) (owed c)
    by Active = refl
    by (PeerFinReceived m) = again (eqb m n)
    by (LocalFinSent m) = refl
    by Closed = refl
owed-after c (fin_ack n) = refl
owed-after c (local_fin n) = by c.state
  where
    by : (s : CloseState) → owed (local_fin_in s c n) ≡ owed c
    by Active = refl
    by (PeerFinReceived m) = refl
    by (LocalFinSent m) = refl
    by Closed = refl
owed-after c close = refl
owed-after c take = refl

-- ---- a second take with no FIN between answers none
none_step : (c : CloseBuffer) (k : Call) → is_fin k ≡ false → owed c ≡ None → owed_after c k ≡ None
none_step c (fin n) w e = cc
none_step c (fin_ack n) w e = e
none_step c (local_fin n) w e = e
none_step c close w e = e
none_step c take w e = refl

none_run : (c : CloseBuffer) (ks : List Call) → Without is_fin ks → owed c ≡ None → owed (run c ks) ≡ None
none_run c [] w e = e
none_run c (k ∷ ks) w e = none_run (after c k) ks w.1 (owed-after c k ∙ none_step c k w.0 e)

pub second-take : (c : CloseBuffer) (ks : List Call) → Without is_fin ks → (taken (run (taken c).1 ks)).0 ≡ None
second-take c ks w = none_run (taken c).1 ks w refl

-- ---- each time that a FIN-ACK became owed, one take answered it, or it is still owed
owed_still : (o : Option ℕ) → one o ≡ one o + newly o o
owed_still None = refl
owed_still (Some m) = refl

owed_anew : (b : Bool) (n : ℕ) (o : Option ℕ) → one (cond b (Some n) o) ≡ one o + newly o (cond b (Some n) o)
owed_anew true n None = refl
owed_anew true n (Some m) = refl
owed_anew false n o = owed_still o

owed-taken : (o : Option ℕ) → newly o None ≡ 0
owed-taken None = refl
owed-taken (Some m) = refl

count_step : (c : CloseBuffer) (k : Call) → answered c k + one (owed_after c k) ≡ one (owed c) + newly (owed c) (owed_after c k)
count_step c (fin n) = omega (arith, owed_anew (is_owed c.state n) n (owed c))
count_step c (fin_ack n) = omega (arith, owed_still (owed c))
count_step c (local_fin n) = omega (arith, owed_still (owed c))
count_step c close = omega (arith, owed_still (owed c))
count_step c take = omega (arith, owed-taken (owed c))

count_run : (c : CloseBuffer) (ks : List Call) → total answered c ks + one (owed (run c ks)) ≡ one (owed c) + total became_owed c ks
count_run c [] = omega arith
count_run c (k ∷ ks) = omega (arith, rw (← owed-after c k) at (count_step c k), count_run (after c k) ks)

pub answered_once : (flag : Bool) (ks : List Call) → total answered (fresh flag) ks + one (owed (run (fresh flag) ks)) ≡ total became_owed (fresh flag) ks
answered_once flag ks = omega (arith, count_run (fresh flag) ks)

-- ---- what a take answers is the number of the last FIN that was owed
abbrev Follows : Option ℕ → Option ℕ → Type 0
Follows o last = (n : ℕ) → o ≡ Some n → last ≡ Some n

last_step : (c : CloseBuffer) (k : Call) (last : Option ℕ) → Follows (owed c) last → Follows (owed_after c k) (last_after last c k)
last_step c (fin n) last f = by (is_owed c.state n)
  where
    by : (b : Bool) → Follows (cond b (Some n) (owed c)) (cond b (Some n) last)
    by true = λ m e. e
    by false = f
last_step c (fin_ack n) last f = f
last_step c (local_fin n) last f = f
last_step c close last f = f
last_step c take last f = λ n e. cc

last_run : (c : CloseBuffer) (ks : List Call) (last : Option ℕ) → Follows (owed c) last → Follows (owed (run c ks)) (last_owed last c ks)
last_run c [] last f = f
last_run c (k ∷ ks) last f = last_run (after c k) ks (last_after last c k) (rw (owed-after c k) (last_step c k last f))

pub take_answers_last : (flag : Bool) (ks : List Call) (n : ℕ) → (taken (run (fresh flag) ks)).0 ≡ Some n → last_owed None (fresh flag) ks ≡ Some n
take_answers_last flag ks = last_run (fresh flag) ks None (λ n e. e)
