-- The loops over the slots: from one slot to the next, and what a turn of a read takes.
-- Assumes nothing.
use Prim.Native.Nat.{ℕ, suc, ◌+◌, ◌-◌, ◌*◌, ◌≤◌, ◌<◌, min}
use mathlib.Core.Path.{◌≡◌, refl, sym, ap, ◌∙◌}
use mathlib.Core.Bool.{true, false}
use mathlib.Core.Logic.{◌⊎◌, inl, inr}
use mathlib.Core.Option.{Option, none, some}
use mathlib.Core.List.{List, [], ◌++◌, append-nil}
use native.Mathlib.Omega.{arith}
use native.Mathlib.Nat.{mul-le-mul}
use lib.ListN.{length, take, drop, get_or, length-append, drop_of_length-le}
use lib.Seq.{paste, paste-zero, take_all, length-paste}
use Rattle.lists.proofs.Paste.{length_part, paste_behind}
use Rattle.lists.proofs.Cut.{take-cut, drop-cut, paste_part}
use Rattle.ordered_bytes.specs.Receiver.{Walk, walk, nothing}
use Rattle.ordered_bytes.specs.Buffer.{Buffer, slots, width, slot_at, view}
use Rattle.ordered_bytes.specs.declared.stream.Walked.{Walked}
use Rattle.ordered_bytes.specs.Steps.{InRing, CarryAt, WalkCopied}
use Rattle.ordered_bytes.proofs.WellFormed.{Good}
use Rattle.lists.proofs.Order.{either}
use Rattle.ordered_bytes.proofs.View.{held_at, slot_below, slot_ends, store_long, length_in_slot, length-held}
use Rattle.ordered_bytes.proofs.Walk.{walk_none, walk_split, walk-whole, walk-full}

-- what a marked slot holds is the place's payload
pub held_in : (b : Buffer) {slot d : ℕ} → d < slots b → slot ≡ slot_at b d → get_or b.marks slot false ≡ true
    → get_or (view b).held d none ≡ some (take (get_or b.lengths slot 0) (drop (slot * width b) b.store))
held_in b h here mark = held_at b h ∙ rw (← here, mark)

pub free_in : (b : Buffer) {slot d : ℕ} → d < slots b → slot ≡ slot_at b d → get_or b.marks slot false ≡ false → get_or (view b).held d none ≡ none
free_in b h here mark = held_at b h ∙ rw (← here, mark)

-- 2,001 times 65,535
store_few : {b : Buffer} → Good b → length b.store ≤ 131135535
store_few {b} g = omega (arith, g.shape.store_n, mul-le-mul (let z : length b.marks + 1 ≤ 2001 = omega (arith, g.shape.few_slots) in z) g.shape.small_width)

pub in_ring : {b : Buffer} {slot : ℕ} → Good b → slot < slots b → InRing b slot
in_ring {b} {slot} g h = record {
  few = omega (arith, g.shape.few_slots);
  marks = h;
  lengths = rw g.shape.lengths_n h;
  size = g.lengths_w slot;
  wide = g.shape.small_width;
  ends = omega (arith, store_long g, slot_ends g h);
  store = store_few g;
}

pub carry_at : {b : Buffer} → Good b → CarryAt b (slots b * width b)
carry_at g = record { value = refl; small = g.carry_w; wide = g.shape.small_width; ends = omega (arith, store_long g); store = store_few g }

-- ---- `consume`

walk-empty : (room : ℕ) → walk room [] ≡ nothing
unfolding walk
walk-empty room = refl

-- a packet taken, of which x is given and y is left
abbrev turned : List ℕ → List ℕ → Walk → Walk
turned x y w = record { packets = suc w.packets; bytes = x ++ w.bytes; rest = y ++ w.rest }

walk_turn : (h : List (Option (List ℕ))) (k : ℕ) {p : List ℕ} → get_or h k none ≡ some p → {room : ℕ} → 0 < room
    → walk room (drop k h) ≡ turned (take room p) (drop room p) (walk (room - length p) (drop (k + 1) h))
walk_turn h k {p} e {room} free =
    either (length p) room
    (λ fits. walk-whole h k e free fits ∙ rw (take_all room p fits, drop_of_length-le p fits))
    (λ long.
    let none_left : room - length p ≡ 0 = omega arith in
    walk_split h k e free long ∙ rw (none_left, walk-full (drop (k + 1) h), append-nil (take room p), append-nil (drop room p)))

-- the loop's state: what the walk still takes from here, done here, is what the whole walk takes
pub record Walking (b : Buffer) (room at : ℕ) (buf₀ buf : List ℕ) (distance : ℕ) (w : Walked) (left all : Walk) : Type 0 where
  pub few : distance ≤ slots b
  pub took : w.packets ≡ distance
  pub gave : w.bytes ≤ room
  pub unsplit : w.bytes < room → w.rest ≡ 0
  pub counted : distance + left.packets ≡ all.packets
  pub counted-bytes : w.bytes + length left.bytes ≡ length all.bytes
  pub out : paste buf (at + w.bytes) left.bytes (length left.bytes) ≡ paste buf₀ at all.bytes (length all.bytes)
  pub long : length buf ≡ length buf₀
  pub kept : take w.rest (drop w.rest_at b.store) ++ left.rest ≡ all.rest
  pub within : w.rest_at + w.rest ≤ length b.store
  pub small : w.rest ≤ width b

-- what the walk still takes
abbrev pub remaining : Buffer → ℕ → ℕ → ℕ → Walk
remaining b room distance given = walk (room - given) (drop distance (view b).held)

abbrev pub WalkState : Buffer → ℕ → ℕ → List ℕ → List ℕ → ℕ → Walked → Type 0
WalkState b room at buf₀ buf distance w = Walking b room at buf₀ buf distance w (remaining b room distance w.bytes) (walk room (view b).held)

module _ {b : Buffer} (g : Good b) {room at : ℕ} {buf₀ buf : List ℕ} {distance : ℕ} {w : Walked} (s : WalkState b room at buf₀ buf distance w) where
  -- one packet
  pub walking_turn : {slot : ℕ} → slot ≡ slot_at b distance → at + room ≤ length buf₀ → distance < slots b → w.bytes < room → get_or b.marks slot false ≡ true
      → {buf' : List ℕ} {part : ℕ}
      → part ≡ min (get_or b.lengths slot 0) (room - w.bytes)
      → buf' ≡ paste buf (at + w.bytes) (drop (slot * width b) b.store) part
      → WalkState b room at buf₀ buf' (distance + 1) (record { packets = distance + 1; bytes = w.bytes + part; rest_at = slot * width b + part; rest = get_or b.lengths slot 0 - part })
  walking_turn {slot} here fits more free mark {buf'} {part} cut copied =
      let size = get_or b.lengths slot 0 in
      let start = slot * width b in
      let given = w.bytes in
      let a : InRing b slot = in_ring g (rw here (slot_below g s.few)) in
      let long : length (take size (drop start b.store)) ≡ size = length_in_slot g a.marks in
      let v = remaining b room (distance + 1) (given + part) in
      let x = take part (drop start b.store) in
      let y = take (size - part) (drop (start + part) b.store) in
      let part-long : length x ≡ part = length_part b.store start part (omega arith) in
      let same : room - given - size ≡ room - (given + part) = omega arith in
      let turn : remaining b room distance given ≡ turned x y v =
      walk_turn (view b).held distance (held_in b more here mark) (let z : 0 < room - given = omega arith in z)
      ∙ rw (take-cut (room - given) size (drop start b.store), drop-cut (room - given) size start b.store, ← cut, long, same) in
      let counted = rw turn at s.counted in
      let counted-bytes = rw (turn, length-append) at s.counted-bytes in
      let pasted : buf' ≡ paste buf (at + given) x (length x) = copied ∙ paste_part buf (drop start b.store) x (at + given) part refl part-long in
      record {
        few = omega arith;
        took = refl;
        gave = omega arith;
        unsplit = λ more_Room. omega arith;
        counted = omega arith;
        counted-bytes = omega arith;
        out = rw pasted (paste_behind buf x v.bytes (at + given) (at + (given + part)) (omega arith) (omega (arith, s.long))) ∙ rw turn at s.out;
        long = ap length pasted ∙ length-paste buf (at + given) x (length x) (omega (arith, s.long)) (omega arith) ∙ s.long;
        kept = rw (s.unsplit free, turn) at s.kept;
        within = omega arith;
        small = omega arith;
      }

  -- nothing more to take: no slot or no room is left, or the slot is not held
  walking_ends : (slots b ≤ distance) ⊎ ((room ≤ w.bytes) ⊎ ((distance < slots b) × (get_or b.marks (slot_at b distance) false ≡ false)))
      → remaining b room distance w.bytes ≡ nothing
  walking_ends (inl past) =
      let all : length (view b).held ≤ distance = rw (length-held b) past in
      rw (drop_of_length-le (view b).held all) (walk-empty (room - w.bytes))
  walking_ends (inr (inl full)) = let none_left : room - w.bytes ≡ 0 = omega arith in rw none_left (walk-full (drop distance (view b).held))
  walking_ends (inr (inr free)) = walk_none (view b).held distance (room - w.bytes) (free_in b free.0 refl free.1)

  -- what the loop leaves then
  pub walking_done : (slots b ≤ distance) ⊎ ((room ≤ w.bytes) ⊎ ((distance < slots b) × (get_or b.marks (slot_at b distance) false ≡ false)))
      → WalkCopied b room at buf₀ buf w
  walking_done end =
      let done = walking_ends end in
      let counted = rw done at s.counted in
      let counted-bytes = rw done at s.counted-bytes in
      let bytes : w.bytes ≡ length (walk room (view b).held).bytes = omega arith in
      record {
        packets = omega (arith, s.took);
        bytes = bytes;
        copied = paste-zero buf (at + w.bytes) [] ∙ rw done at s.out ∙ ap (paste buf₀ at (walk room (view b).held).bytes) (sym bytes);
        rest = record {
          are = sym (append-nil (take w.rest (drop w.rest_at b.store))) ∙ rw done at s.kept;
          within = s.within;
          small = s.small;
        };
      }
