-- The calls on the queue's records in order (`contents`): a push puts one at an end, a pop takes the first, `clear` leaves none, and every call keeps the ring well formed.
-- Popping k records in general, `popped` and `blanked`, is what ack packing does.
-- Assumes nothing.
use Prim.Native.Nat.{ℕ, zero, suc, ◌+◌, ◌-◌, ◌%◌, ◌<◌, ◌≤◌}
use native.Mathlib.Nat.{add-zero, add_assoc, mod-lt, mod_self, mod-eq_of_lt, mod-add-mod}
use native.Mathlib.Numerals.{add-one}
use native.Mathlib.Omega.{arith}
use mathlib.Core.Path.{◌≡◌, refl, sym, ap, ◌∙◌}
use mathlib.Core.Bool.{Bool, true, false}
use mathlib.Core.List.{List, [], ◌∷◌, ◌++◌}
use lib.ListN.{length, get_or, set, take, drop, replicate, length-set, length-drop, length-replicate}
use lib.Seq.{length-take-le, take-suc, drop-length, drop-cons, take-append-le, take-suc-set, get_or-take, drop_at}
use lib.Dec.{eqb, eqb-suc-zero}
use borrow.Author.Tests.{eqb-true, eqb-false}
use Rattle.lists.proofs.Rotated.{rotated, length_rotated, rotated_on, rotated_set, get_or_rotated}
use Rattle.lists.proofs.Take.{drop-take}
use Rattle.refusal.specs.Said.{answers}
use Rattle.ring_buffer.specs.Ring.{blank, well_formed, contents, fresh, before, grown_back, grown_front, popped, blanked, Outcome, leaves}
use Rattle.ring_buffer.specs.Ring.{is_empty, is_full, push_back, push_front, pop_front, front, clear}
use Rattle.ring_buffer.specs.declared.AckData.{AckData}
use Rattle.ring_buffer.specs.declared.RingBuffer.{RingBuffer}
use Rattle.ring_buffer.proofs.Positions.{Placed, nowhere, somewhere, room, placed, head_in, well, popped_none}
use Rattle.ring_buffer.proofs.Cases.{back_full, back_stored, front-full, front-stored, pop_empty, pop_held, peek_held, clear_well}
use Rattle.ring_buffer.proofs.Blanked.{length-blanked, blanked_none, blanked-one, rotated_blanked, get_or-blanked}

-- a new ring is well formed over any run of cells, and its queue empty
pub fresh_well : (c : ℕ) → well_formed fresh c ≡ true
fresh_well zero = refl
fresh_well (suc c) = well fresh (suc c) (omega arith) (omega arith) (sym (mod-eq_of_lt {m = suc c} (omega arith)))

pub fresh-contents : (ys : List AckData) → contents fresh ys ≡ []
fresh-contents ys = refl

-- the place before p, one on, is p
before_in : (c p : ℕ) → p < c → before c p < c
before_in c zero h = omega arith
before_in c (suc p) h = rw eqb-suc-zero (omega arith)

after-before : (c p : ℕ) → p < c → (before c p + 1) % c ≡ p
after-before c zero h = ap (λ (m : ℕ). m % c) {y = c} (omega arith) ∙ mod_self c
after-before c (suc p) h = rw eqb-suc-zero (ap (λ (m : ℕ). m % c) {y = suc p} (omega arith) ∙ mod-eq_of_lt h)

-- a record set in front of the n first is n + 1 records, where the list is read from the next place on
set_front : {A : Type 0} (l : List A) (n : ℕ) (a : A) → n < length l → take (suc n) (set l 0 a) ≡ a ∷ take n (rotated 1 l)
set_front [] n a h = absurd (omega arith)
set_front {A} (x ∷ l) n a h = ap (λ (r : List A). a ∷ r) (sym (take-append-le n l (x ∷ []) (omega arith)))

same_ring : {h i t l m : ℕ} → h ≡ i → l ≡ m → ◌≡◌ {A = RingBuffer} (record { head = h; tail = t; len = l }) (record { head = i; tail = t; len = m })
same_ring p q = rw (p, q) refl

-- what an outcome's ring and cells are, and that they fit
abbrev pub queue : {A : Type 0} → Outcome A → List AckData
queue x = contents x.ring x.cells

abbrev pub fit : {A : Type 0} → Outcome A → Bool
fit x = well_formed x.ring (length x.cells)

abbrev pub Keeps : {A : Type 0} → Outcome A → Type 0
Keeps x = fit x ≡ true

-- the records that k pops take, each from its cell as the pops before it left the cells
unfoldable pub taken : RingBuffer → List AckData → ℕ → List AckData
taken g ys zero = []
taken g ys (suc k) = taken g ys k ++ (get_or (blanked g.head k ys) ((g.head + k) % length ys) blank ∷ [])

module _ (g : RingBuffer) (ys : List AckData) (w : well_formed g (length ys) ≡ true) where
  abbrev c : ℕ
  c = length ys

  fits : g.len ≤ c
  fits = room g c w

  long : length (rotated g.head ys) ≡ c
  long = by (placed g c w)
    where
      by : Placed g c → length (rotated g.head ys) ≡ c
      by (nowhere z h t) = length_rotated g.head ys (omega arith)
      by (somewhere h t) = length_rotated g.head ys (omega arith)

  tail_is : 0 < c → g.tail ≡ (g.head + g.len) % c
  tail_is some = by (placed g c w)
    where
      by : Placed g c → g.tail ≡ (g.head + g.len) % c
      by (nowhere z h t) = absurd (omega arith)
      by (somewhere h t) = t

  pub length-contents : length (contents g ys) ≡ g.len
  length-contents = length-take-le g.len (rotated g.head ys) (rw long fits)

  -- the i-th record of the queue lies i cells from the head on
  pub record_in : (i : ℕ) → i < g.len → get_or (contents g ys) i blank ≡ get_or ys ((g.head + i) % c) blank
  record_in i h = get_or-take g.len (rotated g.head ys) i blank h ∙ get_or_rotated g.head i ys blank (head_in g c w (omega (arith, fits))) (omega (arith, fits))

  pub empty_says : is_empty g c ≡ answers (eqb (length (contents g ys)) 0)
  empty_says = simp (w, length-contents)

  pub full_says : is_full g c ≡ answers (eqb (length (contents g ys)) c)
  full_says = simp (w, length-contents)

  -- pushes, on a ring with a free cell
  module _ (free : g.len ≡ c → ⊥) (a : AckData) where
    spare : g.len < c
    spare = omega (arith, fits, free)

    inside : g.head < c
    inside = head_in g c w (omega (arith, spare))

    back_keeps : well_formed (grown_back g c) c ≡ true
    back_keeps = well (grown_back g c) c (omega (arith, spare)) inside
        (ap (λ (t : ℕ). (t + 1) % c) (tail_is (omega (arith, spare))) ∙ mod-add-mod (g.head + g.len) c 1 ∙ ap (λ (m : ℕ). m % c) (add_assoc g.head g.len 1))

    back_contents : contents (grown_back g c) (set ys g.tail a) ≡ contents g ys ++ (a ∷ [])
    back_contents =
        ap (λ (t : ℕ). take (g.len + 1) (rotated g.head (set ys t a))) (tail_is (omega (arith, spare))) ∙ ap (take (g.len + 1)) (rotated_set g.head g.len ys a inside spare)
        ∙ ap (λ (m : ℕ). take m (set (rotated g.head ys) g.len a)) (add-one g.len) ∙ take-suc-set (rotated g.head ys) g.len a (rw long spare)

    abbrev place : ℕ
    place = before c g.head

    place_in : place < c
    place_in = before_in c g.head inside

    front_keeps : well_formed (grown_front g c) c ≡ true
    front_keeps = well (grown_front g c) c (omega (arith, spare)) place_in
        (tail_is (omega (arith, spare)) ∙ ap (λ (p : ℕ). (p + g.len) % c) (sym (after-before c g.head inside))
        ∙ mod-add-mod (place + 1) c g.len ∙ ap (λ (m : ℕ). m % c) {y = place + (g.len + 1)} (omega arith))

    front-contents : contents (grown_front g c) (set ys place a) ≡ a ∷ contents g ys
    front-contents =
        let r = rotated place ys in
        let at_first : (place + 0) % c ≡ place = rw add-zero (mod-eq_of_lt place_in) in
        ap (λ (i : ℕ). take (g.len + 1) (rotated place (set ys i a))) (sym at_first) ∙ ap (take (g.len + 1)) (rotated_set place 0 ys a place_in (omega (arith, spare)))
        ∙ ap (λ (m : ℕ). take m (set r 0 a)) (add-one g.len) ∙ set_front r g.len a (rw (length_rotated place ys (omega (arith, place_in))) spare)
        ∙ ap (λ (l : List AckData). a ∷ take g.len l) (sym (rotated_on place 1 ys place_in (omega (arith, spare))) ∙ ap (λ (p : ℕ). rotated p ys) (after-before c g.head inside))

  -- the k first records popped
  module _ (k : ℕ) (few : k ≤ g.len) where
    pub popped_keeps : well_formed (popped g c k) c ≡ true
    popped_keeps = by (placed g c w)
      where
        by : Placed g c → well_formed (popped g c k) c ≡ true
        by (nowhere z h t) = let none : k ≡ 0 = omega (arith, fits) in rw none (ap (λ (r : RingBuffer). well_formed r c) (popped_none g c w) ∙ w)
        by (somewhere h t) = well (popped g c k) c (omega (arith, fits)) (mod-lt (g.head + k) (omega arith))
            (t ∙ ap (λ (m : ℕ). m % c) {y = g.head + k + (g.len - k)} (omega arith) ∙ sym (mod-add-mod (g.head + k) c (g.len - k)))

    pub popped-contents : contents (popped g c k) (blanked g.head k ys) ≡ drop k (contents g ys)
    popped-contents = by (placed g c w)
      where
        by : Placed g c → contents (popped g c k) (blanked g.head k ys) ≡ drop k (contents g ys)
        by (nowhere z h t) =
            let none : k ≡ 0 = omega (arith, fits) in
            rw none (ap (λ (r : RingBuffer). contents r (blanked g.head 0 ys)) (popped_none g c w) ∙ ap (contents g) (sym (blanked_none g.head ys)))
        by (somewhere h t) =
            let ls = blanked g.head k ys in
            let r = rotated g.head ys in
            let same = length-blanked g.head k ys in
            let rest : g.len - k ≤ length (drop k r) = rw (length-drop, long) (omega (arith, fits)) in
            ap (λ (m : ℕ). take (g.len - k) (rotated ((g.head + k) % m) ls)) (sym same) ∙ ap (take (g.len - k)) (rotated_on g.head k ls (rw same h) (rw same (omega (arith, fits))))
            ∙ ap (λ (l : List AckData). take (g.len - k) (rotated k l)) (rotated_blanked g.head ys h k (omega (arith, fits)))
            ∙ ap (λ (l : List AckData). take (g.len - k) (l ++ take k (replicate k blank ++ drop k r))) (drop_at (replicate k blank) (drop k r) k (length-replicate k blank))
            ∙ take-append-le (g.len - k) (drop k r) _ rest ∙ sym (drop-take k g.len r)

  -- the next record to pop is still in its cell, and popping it is one pop more: so k pops, one after the other, come to `popped` and `blanked`
  module _ (k : ℕ) (left_over : k < g.len) where
    pub next_record : get_or (blanked g.head k ys) ((g.head + k) % c) blank ≡ get_or (contents g ys) k blank
    next_record = get_or-blanked g.head ys (head_in g c w (omega (arith, fits))) k (omega (arith, fits)) ∙ sym (get_or-take g.len (rotated g.head ys) k blank left_over)

    pub pop_again : pop_front (popped g c k) (blanked g.head k ys) ≡ leaves (answers (get_or (contents g ys) k blank)) (popped g c (suc k)) (blanked g.head (suc k) ys)
    unfolding blanked
    pop_again =
        let next : popped (popped g c k) c 1 ≡ popped g c (suc k) = same_ring (mod-add-mod (g.head + k) c 1 ∙ ap (λ (m : ℕ). m % c) {y = g.head + suc k} (omega arith)) (omega arith) in
        pop_held (popped g c k) (blanked g.head k ys) c (length-blanked g.head k ys) (popped_keeps k (omega arith)) (λ e. omega arith)
        ∙ ap (λ (a : AckData). leaves (answers a) (popped (popped g c k) c 1) (blanked g.head (suc k) ys)) next_record
        ∙ ap (λ (r : RingBuffer). leaves (answers (get_or (contents g ys) k blank)) r (blanked g.head (suc k) ys)) next

  -- and they take the k first records, in order
  pub taken_are : (k : ℕ) → k ≤ g.len → taken g ys k ≡ take k (contents g ys)
  unfolding taken
  taken_are zero few = refl
  taken_are (suc k) few =
      rw (taken_are k (omega arith), next_record k few) (sym (take-suc (contents g ys) k blank (rw length-contents few)))

  -- the calls: what each leaves in the queue, and that the ring stays well formed
  module _ (a : AckData) where
    pub push_back-queue : (g.len ≡ c → ⊥) → queue (push_back g ys a) ≡ contents g ys ++ (a ∷ [])
    push_back-queue free = ap queue (back_stored g ys c refl w free a) ∙ back_contents free a

    pub push_front-queue : (g.len ≡ c → ⊥) → queue (push_front g ys a) ≡ a ∷ contents g ys
    push_front-queue free = ap queue (front-stored g ys c refl w free a) ∙ front-contents free a

    pub push_back_keeps : Keeps (push_back g ys a)
    push_back_keeps = by (eqb g.len c) refl
      where
        by : (b : Bool) → eqb g.len c ≡ b → Keeps (push_back g ys a)
        by true e = ap fit (back_full g ys c refl w (eqb-true g.len c e) a) ∙ w
        by false e = let free = eqb-false g.len c e in ap fit (back_stored g ys c refl w free a) ∙ ap (well_formed (grown_back g c)) (length-set ys g.tail a) ∙ back_keeps free a

    pub push_front_keeps : Keeps (push_front g ys a)
    push_front_keeps = by (eqb g.len c) refl
      where
        by : (b : Bool) → eqb g.len c ≡ b → Keeps (push_front g ys a)
        by true e = ap fit (front-full g ys c refl w (eqb-true g.len c e) a) ∙ w
        by false e = let free = eqb-false g.len c e in ap fit (front-stored g ys c refl w free a) ∙ ap (well_formed (grown_front g c)) (length-set ys (before c g.head) a) ∙ front_keeps free a

  pub pop_front-queue : (g.len ≡ 0 → ⊥) → contents g ys ≡ get_or ys g.head blank ∷ queue (pop_front g ys)
  pop_front-queue held =
      let some : 0 < g.len = omega (arith, held) in
      let inside : g.head < c = head_in g c w (omega (arith, fits)) in
      let first : get_or (contents g ys) 0 blank ≡ get_or ys g.head blank = record_in 0 some ∙ ap (λ (i : ℕ). get_or ys i blank) (rw add-zero (mod-eq_of_lt inside)) in
      let rest : queue (pop_front g ys) ≡ drop 1 (contents g ys) =
      ap queue (pop_held g ys c refl w held) ∙ ap (contents (popped g c 1)) (sym (blanked-one g.head ys inside)) ∙ popped-contents 1 some in
      drop-cons (contents g ys) 0 blank (rw length-contents some) ∙ ap (λ (x : AckData). x ∷ drop 1 (contents g ys)) first ∙ ap (λ (l : List AckData). get_or ys g.head blank ∷ l) (sym rest)

  pub pop_front_says : (g.len ≡ 0 → ⊥) → (pop_front g ys).said ≡ answers (get_or (contents g ys) 0 blank)
  pop_front_says held = ap (λ (x : Outcome AckData). x.said) (pop_held g ys c refl w held) ∙ ap answers (sym (ap (λ (l : List AckData). get_or l 0 blank) (pop_front-queue held)))

  pub front_says : (g.len ≡ 0 → ⊥) → front g ys ≡ answers (get_or (contents g ys) 0 blank)
  front_says held = peek_held g ys c refl w held ∙ ap answers (sym (ap (λ (l : List AckData). get_or l 0 blank) (pop_front-queue held)))

  pub pop_front_keeps : Keeps (pop_front g ys)
  pop_front_keeps = by (eqb g.len 0) refl
    where
      by : (b : Bool) → eqb g.len 0 ≡ b → Keeps (pop_front g ys)
      by true e = ap fit (pop_empty g ys c refl w (eqb-true g.len 0 e)) ∙ w
      by false e = let held = eqb-false g.len 0 e in ap fit (pop_held g ys c refl w held) ∙ ap (well_formed (popped g c 1)) (length-set ys g.head blank) ∙ popped_keeps 1 (omega (arith, held))

  pub clear-queue : queue (clear g ys) ≡ []
  clear-queue = ap queue (clear_well g ys c refl w) ∙ popped-contents g.len (omega arith) ∙ ap (λ (n : ℕ). drop n (contents g ys)) (sym length-contents) ∙ drop-length (contents g ys)

  pub clear_keeps : Keeps (clear g ys)
  clear_keeps = ap fit (clear_well g ys c refl w) ∙ ap (well_formed (popped g c g.len)) (length-blanked g.head g.len ys) ∙ popped_keeps g.len (omega arith)

  -- popping until the queue is empty, the head comes to the tail
  pub clear-ends : (clear g ys).ring ≡ record { head = g.tail; tail = g.tail; len = 0 }
  clear-ends = ap (λ (x : Outcome Unit). x.ring) (clear_well g ys c refl w) ∙ by (placed g c w)
    where
      by : Placed g c → popped g c g.len ≡ record { head = g.tail; tail = g.tail; len = 0 }
      by (nowhere z h t) = same_ring (let none : g.len ≡ 0 = omega (arith, fits) in rw (z, h, none, t) refl) (omega arith)
      by (somewhere h t) = same_ring (sym t) (omega arith)
