-- Boundaries of a whole datagram taken by one call. The calls are this library's own (docs/DECISIONS.md, "A whole datagram"): document 01 has their parts,
-- document 02 §1 the limit at which they read.
use Rattle.std.specs.Prelude.{ℕ, ◌≡◌, true, false, List, [], ◌∷◌, ◌++◌, map, replicate}
use Rattle.refusal.specs.Said.{Said, answers, refuses, refuses_at}
use Rattle.ordered_bytes.specs.Buffer.{Buffer}
use Rattle.window.specs.declared.SlidingWindow.{SlidingWindow}
use Rattle.receive.specs.Datagram.{receiving, receiving_acks}
use Rattle.samples.specs.Inputs.{lent, head, head_of}
use Rattle.samples.specs.BufferRows.{state_of, buffer_of, nothing}
use Rattle.samples.specs.BufferRows as buffers
use Rattle.samples.specs.WindowRows.{window}
use Rattle.samples.specs.WindowRows as windows

-- a datagram received by a buffer, with an index and a list of answers: what is said, how many packets stand in the index, and the index, the answers and the buffer left
abbrev pub Receives : Buffer → List ℕ → List ℕ → List ℕ → Said ℕ → ℕ → List ℕ → List ℕ → Buffer → Type 0
Receives b datagram index list said n index_left list_left after =
    receiving b datagram index list ≡ record { said = said; cells = n; index = index_left; answers = list_left; state = after }

-- a datagram's acks entered into a window: what is said, how many packets stand in the index, and the index, the answers, the window and its cells left
abbrev pub ReceivesAcks : SlidingWindow → List ℕ → List ℕ → List ℕ → List ℕ → Said ℕ → ℕ → List ℕ → List ℕ → SlidingWindow → List ℕ → Type 0
ReceivesAcks w cells datagram index list said n index_left list_left w_after cells_after =
    receiving_acks w cells datagram index list ≡ record { said = said; cells = n; index = index_left; answers = list_left; state = record { window = w_after; cells = cells_after } }

-- data packets with 1 and 2, with 3, and with four bytes; an ack of base 10 and count 2
abbrev pub two : ℕ → List ℕ
two number = head 3 2 number ++ (1 ∷ 2 ∷ [])

abbrev pub one : ℕ → List ℕ
one number = head 3 1 number ++ (3 ∷ [])

abbrev pub four : ℕ → List ℕ
four number = head 3 4 number ++ replicate 4 4

abbrev pub ack_ten : List ℕ
ack_ten = head 4 2 10

-- 1 and 2 held at 100, and with them 3 at 101
abbrev pub hundred : Buffer
hundred = buffer_of (state_of 3 0 100 0) (true ∷ false ∷ []) (2 ∷ 0 ∷ []) (1 ∷ 2 ∷ 99 ∷ 99 ∷ 99 ∷ 99 ∷ 99 ∷ 99 ∷ 99 ∷ [])

abbrev pub both : Buffer
both = buffer_of (state_of 3 0 100 0) (true ∷ true ∷ []) (2 ∷ 1 ∷ []) (1 ∷ 2 ∷ 99 ∷ 3 ∷ 99 ∷ 99 ∷ 99 ∷ 99 ∷ 99 ∷ [])

-- 65,507 bytes: a data packet at 100 and a long one at 99, whose payload's 65,465 are 255 * 256 + 185
abbrev pub longest : List ℕ
longest = two 100 ++ head_of 3 255 185 99 ++ replicate 65465 0

-- .. and an ack before one of 65,467
abbrev pub longest_ack : List ℕ
longest_ack = ack_ten ++ head_of 3 255 187 99 ++ replicate 65467 0

-- the longest datagram, and one byte more
pub record LongestReceived : Type 0 where
  -- 02 §1: "the reading limit becomes 65,507; 11 covers 65,508 and up": with a byte more nothing is listed or taken
  pub bytes_65507 : Receives nothing longest (lent 4) (lent 2) (answers 2) 2 (0 ∷ 2 ∷ 22 ∷ 65465 ∷ []) (0 ∷ 5 ∷ []) hundred
  pub bytes_65508 : Receives nothing (longest ++ (0 ∷ [])) (lent 4) (lent 2) (refuses 11) 0 (lent 4) (lent 2) nothing
  pub answers_before_length : Receives nothing (longest ++ (0 ∷ [])) (lent 4) (lent 1) (refuses 10) 0 (lent 4) (lent 1) nothing

pub record LongestAcks : Type 0 where
  pub bytes_65507 : ReceivesAcks (window 10 0) (lent 3) longest_ack (lent 4) (lent 2)
      (answers 2) 2 (0 ∷ 0 ∷ 20 ∷ 65467 ∷ []) (0 ∷ 99 ∷ []) (window 10 2) (10 ∷ 11 ∷ 99 ∷ [])
  pub bytes_65508 : ReceivesAcks (window 10 0) (lent 3) (longest_ack ++ (0 ∷ [])) (lent 4) (lent 2) (refuses 11) 0 (lent 4) (lent 2) (window 10 0) (lent 3)
  pub answers_before_length : ReceivesAcks (window 10 0) (lent 3) (longest_ack ++ (0 ∷ [])) (lent 4) (lent 1) (refuses 10) 0 (lent 4) (lent 1) (window 10 0) (lent 3)

pub record ReceiveRows : Type 0 where
  pub longest_ones : LongestReceived
  -- each answer at its packet's own place, 0 or the refusal's number; the places of other packets stay
  pub two_of_three : Receives nothing (two 100 ++ ack_ten ++ one 101) (lent 7) (lent 4)
      (answers 3) 3 (0 ∷ 2 ∷ 22 ∷ 0 ∷ 42 ∷ 1 ∷ 99 ∷ []) (0 ∷ 99 ∷ 0 ∷ 99 ∷ []) both
  pub refused_ones : Receives nothing (one 99 ++ two 100 ++ two 100 ++ four 101 ++ one 102) (lent 10) (lent 5)
      (answers 5) 5 (0 ∷ 1 ∷ 21 ∷ 2 ∷ 43 ∷ 2 ∷ 65 ∷ 4 ∷ 89 ∷ 1 ∷ []) (5 ∷ 0 ∷ 7 ∷ 11 ∷ 6 ∷ []) hundred
  -- a refused listing still takes the packets before the refusal, and says how many they are
  pub tail : Receives nothing (two 100 ++ (7 ∷ [])) (lent 4) (lent 2) (refuses_at 3 22) 1 (0 ∷ 2 ∷ 99 ∷ 99 ∷ []) (0 ∷ 99 ∷ []) hundred
  pub no_cell : Receives nothing (two 100 ++ one 101) (lent 2) (lent 1) (refuses 10) 1 (0 ∷ 2 ∷ []) (0 ∷ []) hundred
  -- fewer answers than cells: 10, before the listing's own; then 12 before it
  pub answers_short : Receives nothing (two 100) (lent 4) (lent 1) (refuses 10) 0 (lent 4) (lent 1) nothing
  pub answers_before_listing : Receives nothing (7 ∷ []) (lent 2) [] (refuses 10) 0 (lent 2) [] nothing
  pub each_12 : map (λ b. receiving b (two 100) (lent 2) []) buffers.malformed
      ≡ map (λ b. record { said = refuses 12; cells = 0; index = lent 2; answers = []; state = b }) buffers.malformed

pub record ReceiveAcksRows : Type 0 where
  pub longest_ones : LongestAcks
  pub one_of_two : ReceivesAcks (window 10 0) (lent 3) (two 100 ++ ack_ten) (lent 4) (lent 2)
      (answers 2) 2 (0 ∷ 2 ∷ 22 ∷ 0 ∷ []) (99 ∷ 0 ∷ []) (window 10 2) (10 ∷ 11 ∷ 99 ∷ [])
  pub refused_ones : ReceivesAcks (window 10 0) (lent 3) (head 4 2 9 ++ head 4 0 9 ++ ack_ten ++ head 4 3 9 ++ head 4 2 11 ++ head 4 2 12) (lent 12) (lent 6)
      (answers 6) 6 (0 ∷ 0 ∷ 20 ∷ 0 ∷ 40 ∷ 0 ∷ 60 ∷ 0 ∷ 80 ∷ 0 ∷ 100 ∷ 0 ∷ []) (5 ∷ 0 ∷ 0 ∷ 5 ∷ 7 ∷ 10 ∷ []) (window 10 2) (10 ∷ 11 ∷ 99 ∷ [])
  pub tail : ReceivesAcks (window 10 0) (lent 3) (ack_ten ++ (7 ∷ [])) (lent 4) (lent 2)
      (refuses_at 3 20) 1 (0 ∷ 0 ∷ 99 ∷ 99 ∷ []) (0 ∷ 99 ∷ []) (window 10 2) (10 ∷ 11 ∷ 99 ∷ [])
  pub no_cell : ReceivesAcks (window 10 0) (lent 3) (ack_ten ++ ack_ten) (lent 2) (lent 1) (refuses 10) 1 (0 ∷ 0 ∷ []) (0 ∷ []) (window 10 2) (10 ∷ 11 ∷ 99 ∷ [])
  pub answers_short : ReceivesAcks (window 10 0) (lent 3) ack_ten (lent 4) (lent 1) (refuses 10) 0 (lent 4) (lent 1) (window 10 0) (lent 3)
  pub answers_before_listing : ReceivesAcks (window 10 0) (lent 3) (7 ∷ []) (lent 2) [] (refuses 10) 0 (lent 2) [] (window 10 0) (lent 3)
  pub each_12 : map (λ (m : SlidingWindow × List ℕ). receiving_acks m.0 m.1 ack_ten (lent 2) []) windows.malformed
      ≡ map (λ (m : SlidingWindow × List ℕ). record { said = refuses 12; cells = 0; index = lent 2; answers = []; state = record { window = m.0; cells = m.1 } }) windows.malformed
