-- The receiver of document 01, "From packets to the reader", apart from how it lies in memory: what is held, and the rules on it.
-- How the lent lists mean such a receiver is said in Buffer, what each call answers and leaves there in Calls.
use Rattle.std.specs.Prelude.{ℕ, zero, suc, ◌+◌, ◌-◌, Bool, true, false, not, cond, ◌&&◌, ◌||◌, length, take, drop, set, get_or, replicate, ltb, leb, eqb}
use Rattle.std.proofs.Math.Option.{Option, none, some}
use mathlib.Core.List.{List, [], ◌∷◌, ◌++◌, flatten}
use Rattle.lists.specs.Numbers.{largest}

-- `held` has N places, by distance from the front number; each is empty or holds a payload of at most `width` bytes
pub record Receiver : Type 0 where
  pub front : ℕ
  pub width : ℕ
  pub held : List (Option (List ℕ))
  pub carry : List ℕ

abbrev pub is_held : Option (List ℕ) → Bool
is_held none = false
is_held (some p) = true

-- the place at a distance from the front
abbrev pub place_at : Receiver → ℕ → Option (List ℕ)
place_at r distance = get_or r.held distance none

-- ---- accepting

-- "Accepting number n: n below the front number, 5; n − front at least N, 6; n = 2^64 − 1, 9; slot held, 7; payload longer than W, 11."
abbrev pub accept_checks : Receiver → ℕ → List ℕ → List (Bool × ℕ)
accept_checks r n payload =
    (ltb n r.front, 5)
    ∷ (leb (length r.held) (n - r.front), 6)
    ∷ (eqb n largest, 9)
    ∷ (is_held (place_at r (n - r.front)), 7)
    ∷ (ltb r.width (length payload), 11)
    ∷ []

abbrev pub accepted : Receiver → ℕ → List ℕ → Receiver
accepted r n payload = record r { held = set r.held (n - r.front) (some payload) }

-- ---- reading

-- what a walk over the held packets from the front takes: how many packets leave their places, the bytes given, and the rest of a split one
pub record Walk : Type 0 where
  pub packets : ℕ
  pub bytes : List ℕ
  pub rest : List ℕ

abbrev pub nothing : Walk
nothing = record { packets = zero; bytes = []; rest = [] }

abbrev pub whole : List ℕ → Walk → Walk
whole p w = record { packets = suc w.packets; bytes = p ++ w.bytes; rest = w.rest }

-- "A packet too long for the rest is split, leaves its slot, counts as taken, and its rest becomes carry-over."
abbrev pub split : ℕ → List ℕ → Walk
split room p = record { packets = 1; bytes = take room p; rest = drop room p }

-- "then held packets from the front while bytes given are fewer than the length", where `room` bytes are still to give
unfoldable pub walk : ℕ → List (Option (List ℕ)) → Walk
walk room [] = nothing
walk room (none ∷ h) = nothing
walk zero (some p ∷ h) = nothing
walk (suc room) (some p ∷ h) = cond (ltb (suc room) (length p)) (split (suc room) p) (whole p (walk (suc room - length p) h))

-- the receiver once k packets have left their places from the front, with another carry-over
abbrev pub moved : Receiver → ℕ → List ℕ → Receiver
moved r k carry = record { front = r.front + k; width = r.width; held = drop k r.held ++ replicate k none; carry = carry }

-- "Base is the front packet's number before the walk, or 0 if none is held."
abbrev pub base : Receiver → ℕ
base r = cond (is_held (place_at r 0)) r.front 0

-- what a read gives: packets taken and base as it answers them, the bytes, the carry-over that it leaves, and whether it is refused as empty
pub record Read : Type 0 where
  pub packets : ℕ
  pub base : ℕ
  pub bytes : List ℕ
  pub carry : List ℕ
  pub empty : Bool

-- "A carry-over longer than the length gives that many bytes and answers (0 packets, base 0, length)", also for length 0
abbrev pub carry_part : Receiver → ℕ → Read
carry_part r len = record { packets = 0; base = 0; bytes = take len r.carry; carry = drop len r.carry; empty = false }

-- "Otherwise the carry-over is taken whole, then held packets .." "If no byte was given: 8"
abbrev pub carry_and_packets : Receiver → Walk → Read
carry_and_packets r w = record {
  packets = w.packets;
  base = base r;
  bytes = r.carry ++ w.bytes;
  carry = w.rest;
  empty = eqb (length (r.carry ++ w.bytes)) 0;
}

unfoldable pub consumed : Receiver → ℕ → Read
consumed r len = cond (ltb len (length r.carry)) (carry_part r len) (carry_and_packets r (walk (len - length r.carry) r.held))

-- "held packets while pieces are fewer than the limit": the payloads of at most k of them, from the front
unfoldable pub payloads : ℕ → List (Option (List ℕ)) → List (List ℕ)
payloads zero h = []
payloads (suc k) [] = []
payloads (suc k) (none ∷ h) = []
payloads (suc k) (some p ∷ h) = p ∷ payloads k h

-- "carry-over is one piece", and "a carry-over length of 0 means none"
abbrev pub carry_piece : List ℕ → List (List ℕ)
carry_piece [] = []
carry_piece (b ∷ bs) = (b ∷ bs) ∷ []

-- the packets that `consume_bytes` takes: "carry-over goes even at limit 0"
abbrev pub taken_payloads : Receiver → ℕ → List (List ℕ)
taken_payloads r limit = payloads (limit - length (carry_piece r.carry)) r.held

abbrev pub pieces : Receiver → ℕ → List (List ℕ)
pieces r limit = carry_piece r.carry ++ taken_payloads r limit

-- "No piece: 8."
abbrev pub consumed_pieces : Receiver → ℕ → Read
consumed_pieces r limit = record {
  packets = length (taken_payloads r limit);
  base = base r;
  bytes = flatten (pieces r limit);
  carry = [];
  empty = eqb (length (pieces r limit)) 0;
}

-- "`peek`: yes if carry-over or the front slot is held"
abbrev pub available : Receiver → Bool
available r = ltb 0 (length r.carry) || is_held (place_at r 0)

-- any packet held
unfoldable pub any_held : List (Option (List ℕ)) → Bool
any_held [] = false
any_held (p ∷ h) = is_held p || any_held h

-- no "held number above 2^64 − 2", where the first place has number n
unfoldable pub numbers_fit : ℕ → List (Option (List ℕ)) → Bool
numbers_fit n [] = true
numbers_fit n (p ∷ h) = (not (is_held p) || ltb n largest) && numbers_fit (suc n) h
