-- Document 01, "The ring": what each call says, and what it leaves in the state and in the lent cells. The capacity is the number of cells.
use Rattle.std.specs.Prelude.{ℕ, zero, suc, ◌+◌, ◌-◌, ◌%◌, Bool, cond, not, ◌&&◌, List, [], ◌∷◌, ◌++◌, length, get_or, set, take, drop, eqb, ltb, leb}
use Rattle.std.proofs.Math.Option.{Option, none, some}
use Rattle.refusal.specs.Said.{Said, answers, refuses, checks}
use Rattle.ring_buffer.specs.declared.AckData.{AckData}
use Rattle.ring_buffer.specs.declared.RingBuffer.{RingBuffer}

-- "a popped cell becomes base 0, count 0"
abbrev pub blank : AckData
blank = record { base_packet_num = 0; num_packets_consumed = 0 }

-- not "ring positions that disagree with its count": the tail is as far behind the head as there are records, round the end
abbrev pub well_formed : RingBuffer → ℕ → Bool
well_formed g c = leb g.len c && cond (eqb c 0) (eqb g.head 0 && eqb g.tail 0) (ltb g.head c && eqb g.tail ((g.head + g.len) % c))

-- the queue's records in order: from the head on, round the end
abbrev pub contents : RingBuffer → List AckData → List AckData
contents g ys = take g.len (drop g.head ys ++ take g.head ys)

abbrev pub fresh : RingBuffer
fresh = record { head = 0; tail = 0; len = 0 }

-- the ring with one record more behind or in front, and with k fewer in front
abbrev pub grown_back : RingBuffer → ℕ → RingBuffer
grown_back g c = record { head = g.head; tail = (g.tail + 1) % c; len = g.len + 1 }

abbrev pub before : ℕ → ℕ → ℕ
before c p = cond (eqb p 0) (c - 1) (p - 1)

abbrev pub grown_front : RingBuffer → ℕ → RingBuffer
grown_front g c = record { head = before c g.head; tail = g.tail; len = g.len + 1 }

abbrev pub popped : RingBuffer → ℕ → ℕ → RingBuffer
popped g c k = record { head = (g.head + k) % c; tail = g.tail; len = g.len - k }

-- the k cells from `head` on, round the end, become blank
unfoldable pub blanked : ℕ → ℕ → List AckData → List AckData
blanked head zero ys = ys
blanked head (suc k) ys = set (blanked head k ys) ((head + k) % length ys) blank

-- what a call says, and the state and the cells that it leaves
pub record Outcome (A : Type 0) : Type 0 where
  pub said : Said A
  pub ring : RingBuffer
  pub cells : List AckData

abbrev pub leaves : {A : Type 0} → Said A → RingBuffer → List AckData → Outcome A
leaves s g ys = record { said = s; ring = g; cells = ys }

-- "12 comes first everywhere"
abbrev pub len_of : RingBuffer → ℕ → Said ℕ
len_of g c = checks ((not (well_formed g c), 12) ∷ []) refuses (answers g.len)

abbrev pub is_empty : RingBuffer → ℕ → Said Bool
is_empty g c = checks ((not (well_formed g c), 12) ∷ []) refuses (answers (eqb g.len 0))

abbrev pub is_full : RingBuffer → ℕ → Said Bool
is_full g c = checks ((not (well_formed g c), 12) ∷ []) refuses (answers (eqb g.len c))

-- "push at either end"; "A push on a full ring gives the record back"
abbrev pub push_back : RingBuffer → List AckData → AckData → Outcome (Option AckData)
push_back g ys a = checks ((not (well_formed g (length ys)), 12) ∷ []) (λ n. leaves (refuses n) g ys)
    (cond (eqb g.len (length ys)) (leaves (answers (some a)) g ys) (leaves (answers none) (grown_back g (length ys)) (set ys g.tail a)))

abbrev pub push_front : RingBuffer → List AckData → AckData → Outcome (Option AckData)
push_front g ys a = checks ((not (well_formed g (length ys)), 12) ∷ []) (λ n. leaves (refuses n) g ys)
    (cond (eqb g.len (length ys)) (leaves (answers (some a)) g ys) (leaves (answers none) (grown_front g (length ys)) (set ys (before (length ys) g.head) a)))

-- "pop at the front"; "A pop of an empty ring is refusal 8"
abbrev pub pop_front : RingBuffer → List AckData → Outcome AckData
pop_front g ys = checks ((not (well_formed g (length ys)), 12) ∷ (eqb g.len 0, 8) ∷ []) (λ n. leaves (refuses n) g ys)
    (leaves (answers (get_or ys g.head blank)) (popped g (length ys) 1) (set ys g.head blank))

abbrev pub front : RingBuffer → List AckData → Said AckData
front g ys = checks ((not (well_formed g (length ys)), 12) ∷ (eqb g.len 0, 8) ∷ []) refuses (answers (get_or ys g.head blank))

-- the Rust pops until the queue is empty
abbrev pub clear : RingBuffer → List AckData → Outcome Unit
clear g ys = checks ((not (well_formed g (length ys)), 12) ∷ []) (λ n. leaves (refuses n) g ys)
    (leaves (answers tt) (popped g (length ys) g.len) (blanked g.head g.len ys))
