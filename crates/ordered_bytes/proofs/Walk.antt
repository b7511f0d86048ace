-- The walks of the two reads over the held packets: one step of each as a loop takes it, and how much they take and give at most.
-- Assumes nothing.
use Prim.Native.Nat.{ℕ, zero, suc, ◌+◌, ◌-◌, ◌≤◌, ◌<◌, zero-le, suc-le-suc}
use mathlib.Core.Path.{◌≡◌, refl, sym, ap, ◌∙◌}
use mathlib.Core.Logic.{◌≢◌}
use mathlib.Core.Bool.{Bool, true, false, cond, false≢true}
use mathlib.Core.Option.{Option, none, some}
use mathlib.Core.List.{List, [], ◌∷◌, ◌++◌, append_assoc, append-nil, flatten}
use native.Mathlib.Omega.{arith}
use native.Mathlib.Numerals.{add-one}
use lib.ListN.{length, drop, get_or, length-take, length-drop, length-append, drop_of_length-le, take-append-drop, get_or-eq_default}
use lib.Seq.{drop-cons}
use lib.Dec.{ltb}
use borrow.Author.Tests.{ltb-true, ltb-false, lt-ltb, le-ltb, eqb-true, eqb-false}
use Rattle.ordered_bytes.specs.Receiver.{Receiver, Walk, Read, is_held, place_at, base, nothing, whole, split, walk, payloads}
use Rattle.ordered_bytes.specs.Receiver.{carry_part, carry_and_packets, consumed, carry_piece, taken_payloads, pieces, consumed_pieces}
use Rattle.lists.proofs.Order.{either}

-- ---- a step, by what stands at distance k

whole_or_split : (room : ℕ) (p : List ℕ) (h : List (Option (List ℕ))) → 0 < room
    → walk room (some p ∷ h) ≡ cond (ltb room (length p)) (split room p) (whole p (walk (room - length p) h))
unfolding walk
whole_or_split zero p h free = absurd (omega arith)
whole_or_split (suc room) p h free = refl

payloads-empty : (room : ℕ) → payloads room [] ≡ []
unfolding payloads
payloads-empty zero = refl
payloads-empty (suc room) = refl

payloads_gap : (room : ℕ) (h : List (Option (List ℕ))) → payloads room (none ∷ h) ≡ []
unfolding payloads
payloads_gap zero h = refl
payloads_gap (suc room) h = refl

payloads-first : (room : ℕ) (p : List ℕ) (h : List (Option (List ℕ))) → 0 < room → payloads room (some p ∷ h) ≡ p ∷ payloads (room - 1) h
unfolding payloads
payloads-first zero p h free = absurd (omega arith)
payloads-first (suc room) p h free = rw (let z : suc room - 1 ≡ room = omega arith in z)

module _ (h : List (Option (List ℕ))) (k : ℕ) where
  -- a held place is one of the list
  pub held_below : {p : List ℕ} → get_or h k none ≡ some p → k < length h
  held_below e =
      either (length h) k
      (λ past. absurd (let z : get_or h k none ≡ none = get_or-eq_default h none past in let y : ◌≡◌ {A = ℕ} 0 1 = cc in omega arith))
      (λ below. below)

  drop-held : {p : List ℕ} → get_or h k none ≡ some p → drop k h ≡ some p ∷ drop (k + 1) h
  drop-held e = drop-cons h k none (held_below e) ∙ rw (e, add-one)

  -- no packet there: nothing is taken
  pub walk_none : (room : ℕ) → get_or h k none ≡ none → walk room (drop k h) ≡ nothing
  unfolding walk
  walk_none room e = either (length h) k (λ past. rw (drop_of_length-le h past)) (λ below. rw (drop-cons h k none below, e))

  pub payloads_none : (room : ℕ) → get_or h k none ≡ none → payloads room (drop k h) ≡ []
  payloads_none room e =
      either (length h) k (λ past. rw (drop_of_length-le h past) (payloads-empty room)) (λ below. rw (drop-cons h k none below, e) (payloads_gap room (drop (suc k) h)))

  -- a packet there, and room
  module _ {p : List ℕ} (e : get_or h k none ≡ some p) {room : ℕ} (free : 0 < room) where
    -- "too long for the rest is split"
    pub walk_split : room < length p → walk room (drop k h) ≡ split room p
    walk_split long = rw (drop-held e, whole_or_split room p (drop (k + 1) h) free, lt-ltb room (length p) long)

    pub walk-whole : length p ≤ room → walk room (drop k h) ≡ whole p (walk (room - length p) (drop (k + 1) h))
    walk-whole fits = rw (drop-held e, whole_or_split room p (drop (k + 1) h) free, le-ltb room (length p) fits)

    pub payloads-held : payloads room (drop k h) ≡ p ∷ payloads (room - 1) (drop (k + 1) h)
    payloads-held = rw (drop-held e) (payloads-first room p (drop (k + 1) h) free)

-- no room: nothing is taken
pub walk-full : (h : List (Option (List ℕ))) → walk 0 h ≡ nothing
unfolding walk
walk-full [] = refl
walk-full (none ∷ h) = refl
walk-full (some p ∷ h) = refl

pub payloads-full : (h : List (Option (List ℕ))) → payloads 0 h ≡ []
unfolding payloads
payloads-full h = refl

-- ---- what the walks take: as many payloads of held places as they say, from the front

-- the payloads of at most k held places are at most k, and at most the places
pub payloads_most : (k : ℕ) (h : List (Option (List ℕ))) → (length (payloads k h) ≤ k) × (length (payloads k h) ≤ length h)
unfolding payloads
payloads_most zero h = (zero-le, zero-le)
payloads_most (suc k) [] = (zero-le, zero-le)
payloads_most (suc k) (none ∷ h) = (zero-le, zero-le)
payloads_most (suc k) (some p ∷ h) = let most = payloads_most k h in (suc-le-suc most.0, suc-le-suc most.1)

-- asked for as many as there are, they are the same
pub payloads_again : (k : ℕ) (h : List (Option (List ℕ))) → payloads (length (payloads k h)) h ≡ payloads k h
unfolding payloads
payloads_again zero h = refl
payloads_again (suc k) [] = refl
payloads_again (suc k) (none ∷ h) = refl
payloads_again (suc k) (some p ∷ h) = rw (payloads_again k h)

-- every held payload is at most so long
abbrev pub Within : ℕ → List (Option (List ℕ)) → Type 0
Within most h = (d : ℕ) (p : List ℕ) → get_or h d none ≡ some p → length p ≤ most

-- what a walk took: the places were all held, what it gave and its rest are their payloads, it gave no more than it had room for,
-- and its rest is no longer than a held payload may be
pub record Walked (room : ℕ) (h : List (Option (List ℕ))) (w : Walk) : Type 0 where
  pub were : length (payloads w.packets h) ≡ w.packets
  pub flow : w.bytes ++ w.rest ≡ flatten (payloads w.packets h)
  pub gave : length w.bytes ≤ room
  pub left : (most : ℕ) → Within most h → length w.rest ≤ most

walked_nothing : (room : ℕ) (h : List (Option (List ℕ))) → Walked room h nothing
unfolding payloads flatten
walked_nothing room h = record { were = refl; flow = refl; gave = zero-le; left = λ most f. zero-le }

walked_split : (room : ℕ) (p : List ℕ) (h : List (Option (List ℕ))) → Walked room (some p ∷ h) (split room p)
unfolding payloads flatten
walked_split room p h = record {
  were = refl;
  flow = take-append-drop room p ∙ sym (append-nil p);
  gave = omega (arith, length-take room p);
  left = λ most f. omega (arith, length-drop room p, f 0 p refl);
}

walked_whole : {room : ℕ} {p : List ℕ} {h : List (Option (List ℕ))} {w : Walk} → length p ≤ room → Walked (room - length p) h w → Walked room (some p ∷ h) (whole p w)
unfolding payloads flatten
walked_whole {room} {p} {h} {w} fits k = record {
  were = ap suc k.were;
  flow = append_assoc p w.bytes w.rest ∙ ap (λ (x : List ℕ). p ++ x) k.flow;
  gave = omega (arith, length-append p w.bytes, k.gave);
  left = λ most f. k.left most (λ d q e. f (suc d) q e);
}

pub walked : (room : ℕ) (h : List (Option (List ℕ))) → Walked room h (walk room h)
unfolding walk
walked room [] = walked_nothing room []
walked room (none ∷ h) = walked_nothing room (none ∷ h)
walked zero (some p ∷ h) = walked_nothing zero (some p ∷ h)
walked (suc room) (some p ∷ h) = by (ltb (suc room) (length p)) refl (walked (suc room - length p) h)
  where
    by : (long : Bool) → ltb (suc room) (length p) ≡ long → Walked (suc room - length p) h (walk (suc room - length p) h)
        → Walked (suc room) (some p ∷ h) (cond long (split (suc room) p) (whole p (walk (suc room - length p) h)))
    by true e k = walked_split (suc room) p h
    by false e k = walked_whole (ltb-false (suc room) (length p) e) k

-- a walk with room that gave nothing came to a place that is not held, and split nothing
pub walk_dry : (room : ℕ) (h : List (Option (List ℕ))) → 0 < room → length (walk room h).bytes ≡ 0 → (get_or h (walk room h).packets none ≡ none) × ((walk room h).rest ≡ [])
unfolding walk
walk_dry room [] free dry = (refl, refl)
walk_dry room (none ∷ h) free dry = (refl, refl)
walk_dry zero (some p ∷ h) free dry = absurd (omega arith)
walk_dry (suc room) (some p ∷ h) free dry = by (ltb (suc room) (length p)) refl (walk_dry (suc room - length p) h) dry
  where
    rest : Walk
    rest = walk (suc room - length p) h

    by : (long : Bool) → ltb (suc room) (length p) ≡ long
        → (0 < suc room - length p → length rest.bytes ≡ 0 → (get_or h rest.packets none ≡ none) × (rest.rest ≡ []))
        → length (cond long (split (suc room) p) (whole p rest)).bytes ≡ 0
        → (get_or (some p ∷ h) (cond long (split (suc room) p) (whole p rest)).packets none ≡ none) × ((cond long (split (suc room) p) (whole p rest)).rest ≡ [])
    by true e ih none-given = absurd (omega (arith, length-take (suc room) p, ltb-true (suc room) (length p) e))
    by false e ih none-given =
        let both : length p + length rest.bytes ≡ 0 = sym (length-append p rest.bytes) ∙ none-given in
        ih (omega arith) (omega arith)

pub payloads_dry : (k : ℕ) (h : List (Option (List ℕ))) → 0 < k → length (payloads k h) ≡ 0 → get_or h 0 none ≡ none
unfolding payloads
payloads_dry zero h free dry = absurd (omega arith)
payloads_dry (suc k) [] free dry = refl
payloads_dry (suc k) (none ∷ h) free dry = refl
payloads_dry (suc k) (some p ∷ h) free dry = absurd (omega arith)

-- ---- the reads

-- a carry-over longer than the length
pub consumed_part : (r : Receiver) (len : ℕ) → len < length r.carry → consumed r len ≡ carry_part r len
unfolding consumed
consumed_part r len h = rw (lt-ltb len (length r.carry) h)

-- and one that is not
pub consumed-whole : (r : Receiver) (len : ℕ) → length r.carry ≤ len → consumed r len ≡ carry_and_packets r (walk (len - length r.carry) r.held)
unfolding consumed
consumed-whole r len h = rw (le-ltb len (length r.carry) h)

-- what a read took: the places were all held, what it gave with what it carries over are the old carry-over and their payloads,
-- and where it took some it names the first one's number
pub record Took (r : Receiver) (x : Read) : Type 0 where
  pub were : length (payloads x.packets r.held) ≡ x.packets
  pub flow : x.bytes ++ x.carry ≡ r.carry ++ flatten (payloads x.packets r.held)
  pub first : 0 < x.packets → x.base ≡ r.front

-- so there were as many places
pub took_few : {r : Receiver} {x : Read} → Took r x → x.packets ≤ length r.held
took_few {r} {x} t = omega (arith, t.were, payloads_most x.packets r.held)

-- where k payloads were taken, each of the first k places was held
pub front_held_row : (k : ℕ) (h : List (Option (List ℕ))) (i : ℕ) → length (payloads k h) ≡ k → i < k → is_held (get_or h i none) ≡ true
unfolding payloads
front_held_row zero h i e less = absurd (omega arith)
front_held_row (suc k) [] i e less = absurd (omega arith)
front_held_row (suc k) (none ∷ h) i e less = absurd (omega arith)
front_held_row (suc k) (some p ∷ h) zero e less = refl
front_held_row (suc k) (some p ∷ h) (suc i) e less = front_held_row k h i (omega arith) (omega arith)

base-first : (r : Receiver) (k : ℕ) → length (payloads k r.held) ≡ k → 0 < k → base r ≡ r.front
base-first r k e taken = rw (front_held_row k r.held 0 e taken)

took_part : (r : Receiver) (len : ℕ) → Took r (carry_part r len)
unfolding payloads flatten
took_part r len = record {
  were = refl;
  flow = take-append-drop len r.carry ∙ sym (append-nil r.carry);
  first = λ taken. absurd (omega arith);
}

took_walk : (r : Receiver) {room : ℕ} {w : Walk} → Walked room r.held w → Took r (carry_and_packets r w)
took_walk r {w = w} k = record {
  were = k.were;
  flow = append_assoc r.carry w.bytes w.rest ∙ ap (λ (x : List ℕ). r.carry ++ x) k.flow;
  first = base-first r w.packets k.were;
}

-- the carry-over as a piece, and payloads, end to end
pub flatten_carry : (c : List ℕ) (ps : List (List ℕ)) → flatten (carry_piece c ++ ps) ≡ c ++ flatten ps
unfolding flatten
flatten_carry [] ps = refl
flatten_carry (b ∷ bs) ps = refl

module _ (r : Receiver) where
  pub consumed_took : (len : ℕ) → Took r (consumed r len)
  consumed_took len =
      either (length r.carry) len
      (λ h. rw (consumed-whole r len h) (took_walk r (walked (len - length r.carry) r.held)))
      (λ h. rw (consumed_part r len h) (took_part r len))

  -- no more is given than asked for
  pub consumed_gives : (len : ℕ) → length (consumed r len).bytes ≤ len
  consumed_gives len =
      either (length r.carry) len
      (λ h. let k = walked (len - length r.carry) r.held in rw (consumed-whole r len h) (omega (arith, length-append r.carry (walk (len - length r.carry) r.held).bytes, k.gave)))
      (λ h. rw (consumed_part r len h) (omega (arith, length-take len r.carry)))

  -- a carry-over fits where the old one and every held payload do
  pub consumed_carries : (len : ℕ) {most : ℕ} → length r.carry ≤ most → Within most r.held → length (consumed r len).carry ≤ most
  consumed_carries len {most} c f =
      either (length r.carry) len
      (λ h. rw (consumed-whole r len h) ((walked (len - length r.carry) r.held).left most f))
      (λ h. rw (consumed_part r len h) (omega (arith, length-drop len r.carry)))

  -- the pieces end to end are the carry-over and the packets' payloads
  pub flatten_pieces : (limit : ℕ) → flatten (pieces r limit) ≡ r.carry ++ flatten (taken_payloads r limit)
  flatten_pieces limit = flatten_carry r.carry (taken_payloads r limit)

  pub pieces_took : (limit : ℕ) → Took r (consumed_pieces r limit)
  pieces_took limit =
      let again = payloads_again (limit - length (carry_piece r.carry)) r.held in
      record {
        were = ap length again;
        flow = append-nil _ ∙ flatten_pieces limit ∙ rw again;
        first = base-first r (length (taken_payloads r limit)) (ap length again);
      }

  -- a read of a length that is not empty gives a byte
  pub consumed_some : (len : ℕ) → 0 < len → (consumed r len).empty ≡ false → 0 < length (consumed r len).bytes
  consumed_some len asked =
      either (length r.carry) len
      (λ h. rw (consumed-whole r len h) (λ e. let z = eqb-false (length (r.carry ++ (walk (len - length r.carry) r.held).bytes)) 0 e in omega arith))
      (λ h. rw (consumed_part r len h) (λ e. omega (arith, length-take len r.carry)))

  -- one that is empty gives none
  pub consumed_none : (len : ℕ) → (consumed r len).empty ≡ true → length (consumed r len).bytes ≡ 0
  consumed_none len =
      either (length r.carry) len
      (λ h. rw (consumed-whole r len h) (λ e. eqb-true _ _ e))
      (λ h. rw (consumed_part r len h) (λ e. absurd (false≢true e)))

  -- and leaves nothing to give
  pub consumed_dry : (len : ℕ) → 0 < len → (consumed r len).empty ≡ true → ((consumed r len).carry ≡ []) × (place_at r (consumed r len).packets ≡ none)
  consumed_dry len asked =
      either (length r.carry) len
      (λ h. rw (consumed-whole r len h) (λ e.
      let w = walk (len - length r.carry) r.held in
      let z : length r.carry + length w.bytes ≡ 0 = sym (length-append r.carry w.bytes) ∙ eqb-true _ _ e in
      let dry = walk_dry (len - length r.carry) r.held (omega arith) (omega arith) in
      (dry.1, dry.0)))
      (λ h. rw (consumed_part r len h) (λ e. absurd (false≢true e)))

  -- no piece: nothing was there to give
  pub pieces_dry : (limit : ℕ) → 0 < limit → length (pieces r limit) ≡ 0 → (r.carry ≡ []) × (place_at r 0 ≡ none)
  pieces_dry limit asked = by r.carry r.held
    where
      by : (c : List ℕ) (h : List (Option (List ℕ))) → length (carry_piece c ++ payloads (limit - length (carry_piece c)) h) ≡ 0 → (c ≡ []) × (get_or h 0 none ≡ none)
      by [] h e = (refl, payloads_dry (limit - 0) h (omega arith) e)
      by (x ∷ c) h e = absurd (omega arith)

  -- a piece is a byte at least, or a packet
  pub pieces_some : (limit : ℕ) → length (pieces r limit) ≢ 0 → 0 < length (taken_payloads r limit) + length (flatten (pieces r limit))
  pieces_some limit e = rw flatten_pieces (by r.carry (taken_payloads r limit) e)
    where
      by : (c : List ℕ) (ps : List (List ℕ)) → length (carry_piece c ++ ps) ≢ 0 → 0 < length ps + length (c ++ flatten ps)
      by [] ps e = omega arith
      by (x ∷ c) ps e = omega arith
