-- The loops of `consume_bytes`: counting the payloads that it takes, and copying them.
-- Assumes nothing.
use Prim.Native.Nat.{ℕ, suc, ◌+◌, ◌-◌, ◌*◌, ◌≤◌, ◌<◌, min}
use mathlib.Core.Path.{◌≡◌, refl, ap, ◌∙◌}
use mathlib.Core.Bool.{Bool, true, false}
use mathlib.Core.Logic.{◌⊎◌, inl, inr}
use mathlib.Core.List.{List, [], ◌∷◌, map, flatten}
use native.Mathlib.Omega.{arith}
use native.Mathlib.Nat.{le_of_lt}
use lib.ListN.{length, take, drop, set, get_or, length-append, length-set, drop_of_length-le}
use lib.Seq.{paste, paste-zero, length-paste}
use Rattle.lists.proofs.Paste.{paste_behind}
use Rattle.lists.proofs.Flatten.{flatten_nil, flatten_cons}
use Rattle.lists.proofs.Cut.{paste_part, paste-cons}
use Rattle.lists.proofs.Order.{either}
use Rattle.ordered_bytes.specs.Receiver.{payloads}
use Rattle.ordered_bytes.specs.Buffer.{Buffer, slots, width, slot_at, view}
use Rattle.ordered_bytes.specs.declared.pieces.Payloads.{Payloads}
use Rattle.ordered_bytes.specs.Steps.{InRing, held_payloads, PayloadsCounted, RoomFor, PiecesCopied}
use Rattle.ordered_bytes.proofs.WellFormed.{Good}
use Rattle.ordered_bytes.proofs.View.{length_in_slot, length-held, slot_below}
use Rattle.ordered_bytes.proofs.Walk.{payloads_none, payloads-held, payloads-full, payloads_most}
use Rattle.ordered_bytes.proofs.Loops.{in_ring, held_in, free_in}

-- what is still to take of `most` payloads where k are taken
abbrev pub remaining : Buffer → ℕ → ℕ → List (List ℕ)
remaining b most k = payloads (most - k) (drop k (view b).held)

-- a slot's payload
abbrev payload : Buffer → ℕ → List ℕ
payload b slot = take (get_or b.lengths slot 0) (drop (slot * width b) b.store)

-- one payload more, where the slot is marked
next : (b : Buffer) {most k slot : ℕ} → k < slots b → k < most → slot ≡ slot_at b k → get_or b.marks slot false ≡ true
    → remaining b most k ≡ payload b slot ∷ remaining b most (k + 1)
next b {most} {k} more asked here mark =
    let free : 0 < most - k = omega arith in
    let less : most - k - 1 ≡ most - (k + 1) = omega arith in
    payloads-held (view b).held k (held_in b more here mark) free ∙ rw less

-- ---- counting

pub record Counting (b : Buffer) (most distance : ℕ) (p : Payloads) (left all : List (List ℕ)) : Type 0 where
  pub few : distance ≤ slots b
  pub asked : distance ≤ most
  pub took : p.packets ≡ distance
  pub counted : distance + length left ≡ length all
  pub counted-bytes : p.bytes + length (flatten left) ≡ length (flatten all)
  pub small : p.bytes ≤ 65535 * distance

abbrev pub CountState : Buffer → ℕ → ℕ → Payloads → Type 0
CountState b most distance p = Counting b most distance p (remaining b most distance) (payloads most (view b).held)

module _ {b : Buffer} (g : Good b) {most distance : ℕ} {p : Payloads} (s : CountState b most distance p) where
  pub counting_turn : {slot : ℕ} → slot ≡ slot_at b distance → distance < slots b → distance < most → get_or b.marks slot false ≡ true
      → CountState b most (distance + 1) (record { packets = distance + 1; bytes = p.bytes + get_or b.lengths slot 0 })
  counting_turn {slot} here more asked mark =
      let turn = next b more asked here mark in
      let a : InRing b slot = in_ring g (rw here (slot_below g s.few)) in
      let long = length_in_slot g a.marks in
      let counted = rw turn at s.counted in
      let counted-bytes = rw (turn, flatten_cons, length-append, long) at s.counted-bytes in
      record { few = omega arith; asked = omega arith; took = refl; counted = omega arith; counted-bytes = omega arith; small = omega arith }

  -- nothing more to count: no slot is left, or none was asked for, or the slot is not held
  counting-ends : (min most (slots b) ≤ distance) ⊎ ((distance < slots b) × (get_or b.marks (slot_at b distance) false ≡ false)) → remaining b most distance ≡ []
  counting-ends (inl past) =
      either (slots b) distance
      (λ all. let z : length (view b).held ≤ distance = rw (length-held b) all in rw (drop_of_length-le (view b).held z) (payloads_none [] 0 (most - distance) refl))
      (λ more. let none_left : most - distance ≡ 0 = omega arith in rw none_left (payloads-full (drop distance (view b).held)))
  counting-ends (inr free) = payloads_none (view b).held distance (most - distance) (free_in b free.0 refl free.1)

  pub counting_done : (min most (slots b) ≤ distance) ⊎ ((distance < slots b) × (get_or b.marks (slot_at b distance) false ≡ false))
      → PayloadsCounted (held_payloads b most) p
  counting_done end =
      let done = counting-ends end in
      let counted = rw done at s.counted in
      let counted-bytes = rw (done, flatten_nil) at s.counted-bytes in
      record { packets = omega (arith, s.took); bytes = omega arith; few = omega (arith, s.few, s.small, g.shape.few_slots) }

-- ---- copying

pub record Copying (b : Buffer) (packets at first : ℕ) (buf₀ buf list₀ list : List ℕ) (given done : ℕ) (left all : List (List ℕ)) : Type 0 where
  pub few : done ≤ packets
  pub were : done + length left ≡ packets
  pub counted-bytes : given + length (flatten left) ≡ at + length (flatten all)
  pub out : paste buf given (flatten left) (length (flatten left)) ≡ paste buf₀ at (flatten all) (length (flatten all))
  pub long : length buf ≡ length buf₀
  pub cells : paste list (first + done) (map length left) (length left) ≡ paste list₀ first (map length all) (length all)
  pub list_long : length list ≡ length list₀

abbrev pub CopyState : Buffer → ℕ → ℕ → ℕ → List ℕ → List ℕ → List ℕ → List ℕ → ℕ → ℕ → Type 0
CopyState b packets at first buf₀ buf list₀ list given done =
    Copying b packets at first buf₀ buf list₀ list given done (remaining b packets done) (payloads packets (view b).held)

-- as many as are held are no more than there are slots
pub held_few : (b : Buffer) (packets : ℕ) → length (held_payloads b packets) ≡ packets → packets ≤ slots b
held_few b packets all_held = omega (arith, (payloads_most packets (view b).held).1, length-held b)

pub held_below : (b : Buffer) {packets done : ℕ} → length (held_payloads b packets) ≡ packets → done < packets → done < slots b
held_below b {packets} all_held more = omega (arith, held_few b packets all_held)

module _ {b : Buffer} (g : Good b) {packets at first : ℕ} {buf₀ buf list₀ list : List ℕ} {given done slot : ℕ}
    (all_held : length (held_payloads b packets) ≡ packets) (room : RoomFor (held_payloads b packets) buf₀ at list₀ first)
    (s : CopyState b packets at first buf₀ buf list₀ list given done) (more : done < packets) (here : slot ≡ slot_at b done) where
  copying_in : InRing b slot
  copying_in = in_ring g (rw here (slot_below g (le_of_lt (held_below b all_held more))))

  marked : (m : Bool) → get_or b.marks slot false ≡ m → get_or b.marks slot false ≡ true
  marked true e = e
  marked false e = absurd (let none_left = rw (payloads_none (view b).held done (packets - done) (free_in b (held_below b all_held more) here e)) at s.were in omega arith)

  turn : remaining b packets done ≡ payload b slot ∷ remaining b packets (done + 1)
  turn = next b (held_below b all_held more) more here (marked (get_or b.marks slot false) refl)

  size_fits : given + get_or b.lengths slot 0 + length (flatten (remaining b packets (done + 1))) ≡ at + length (flatten (payloads packets (view b).held))
  size_fits = let bytes = rw (turn, flatten_cons, length-append, length_in_slot g copying_in.marks) at s.counted-bytes in omega arith

  -- the payload has room in the output
  pub copying_fits : given + get_or b.lengths slot 0 ≤ length buf
  copying_fits = omega (arith, size_fits, s.long)

  pub copying_turn : {buf' : List ℕ} → buf' ≡ paste buf given (drop (slot * width b) b.store) (get_or b.lengths slot 0)
      → CopyState b packets at first buf₀ buf' list₀ (set list (first + done) (get_or b.lengths slot 0)) (given + get_or b.lengths slot 0) (done + 1)
  copying_turn {buf'} copied =
      let size = get_or b.lengths slot 0 in
      let p = payload b slot in
      let v = remaining b packets (done + 1) in
      let long : length p ≡ size = length_in_slot g copying_in.marks in
      let pasted : buf' ≡ paste buf given p (length p) = copied ∙ paste_part buf (drop (slot * width b) b.store) p given size refl long in
      let were = rw turn at s.were in
      let within : first + done < length list = omega (arith, s.list_long) in
      let cell : paste (set list (first + done) size) (first + (done + 1)) (map length v) (length v) ≡ paste list (first + done) (size ∷ map length v) (suc (length v)) =
      rw (let z : first + (done + 1) ≡ first + done + 1 = omega arith in z) (paste-cons list (map length v) size (first + done) (length v) within) in
      record {
        few = omega arith;
        were = omega arith;
        counted-bytes = size_fits;
        out = rw pasted (paste_behind buf p (flatten v) given (given + size) (omega arith) copying_fits) ∙ rw (turn, flatten_cons) at s.out;
        long = ap length pasted ∙ length-paste buf given p (length p) (omega (arith, copying_fits)) (omega arith) ∙ s.long;
        cells = cell ∙ rw (turn, long) at s.cells;
        list_long = length-set list (first + done) size ∙ s.list_long;
      }

-- all copied
pub copying_done : {b : Buffer} {packets at first : ℕ} {buf₀ buf list₀ list : List ℕ} {given done : ℕ}
    → CopyState b packets at first buf₀ buf list₀ list given done → packets ≤ done → PiecesCopied (held_payloads b packets) buf₀ buf at list₀ list first
copying_done {b} {packets} {first = first} {buf = buf} {list = list} {given = given} {done = done} s end =
    let none_left : packets - done ≡ 0 = omega arith in
    let nothing : remaining b packets done ≡ [] = rw none_left (payloads-full (drop done (view b).held)) in
    record { bytes = paste-zero buf given [] ∙ rw (nothing, flatten_nil) at s.out; cells = paste-zero list (first + done) [] ∙ rw nothing at s.cells }
