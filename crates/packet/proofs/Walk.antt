-- The walk over a datagram, one packet on: what the loops of `from_bytes` and `write_cells` have still to answer and to write.
-- Assumes nothing.
use Prim.Native.Nat.{ℕ, zero, suc, ◌+◌, ◌-◌, ◌*◌, ◌<◌, ◌≤◌, min}
use mathlib.Core.Path.{◌≡◌, refl, sym, ap, subst, ◌∙◌}
use mathlib.Core.Bool.{Bool, true, false, cond}
use mathlib.Core.List.{List, []}
use native.Mathlib.Omega.{arith}
use native.Mathlib.Decide.{dec_le}
use native.Mathlib.Numerals.{unary_clauses}
use native.Mathlib.Nat.{zero-add}
use lib.ListN.{length, set}
use lib.Seq.{take-nil}
use lib.Dec.{ltb}
use Rattle.std.specs.Prelude.{Option, Some, None, Result, Ok, Err}
use borrow.Author.Tests.{lt-ltb, le-ltb}
use Rattle.refusal.specs.Refusal.{number_of}
use Rattle.refusal.specs.Said.{Said, answers, refuses, refuses_at, stopped, refusal_in}
use Rattle.refusal.specs.declared.Refusal.{Refusal}
use Rattle.packet.specs.Datagram.{Walk, ends, onto, walk_by, walk_at, reading_limit, packets_of}
use Rattle.packet.specs.Datagram.{cells_in, flat, counted, parsed, indexes, parses}
use Rattle.packet.specs.Step.{look_at, outcome}
use Rattle.packet.proofs.Step.{stepped, Sound, Looked, looked}

-- more steps than there are bytes left change nothing
steps_enough : (f g : ℕ) (s : List ℕ) (at : ℕ) → length s - at < f → length s - at < g → walk_by f s at ≡ walk_by g s at
steps_enough zero g s at h k = absurd (omega arith)
steps_enough (suc f) zero s at h k = absurd (omega arith)
steps_enough (suc f) (suc g) s at h k =
    let l = looked s at in
    l.step f ∙ by (look_at s at) l.sound (λ len w. steps_enough f g s (at + 20 + len) (omega arith) (omega arith)) ∙ sym (l.step g)
  where
    by : (r : Result (Option ℕ) Refusal) → Sound s at r → ((len : ℕ) → at + 20 + len ≤ length s → walk_by f s (at + 20 + len) ≡ walk_by g s (at + 20 + len))
        → stepped r at (λ len. walk_by f s (at + 20 + len)) ≡ stepped r at (λ len. walk_by g s (at + 20 + len))
    by (Ok (Some len)) w ih = ap (onto (at, len)) (ih len w)
    by (Err r) w ih = refl
    by (Ok None) w ih = refl

module _ (s : List ℕ) (at : ℕ) where
  walk_as : {r : Result (Option ℕ) Refusal} → look_at s at ≡ r → Looked s at r
  walk_as q = subst (Looked s at) q (looked s at)

  pub walk_end : look_at s at ≡ Ok None → walk_at s at ≡ ends (answers tt)
  walk_end q = (walk_as q).step (length s - at)

  pub walk_fault : {r : Refusal} → look_at s at ≡ Err r → walk_at s at ≡ ends (refuses_at (number_of r) at)
  walk_fault q = (walk_as q).step (length s - at)

  pub packet_within : {len : ℕ} → look_at s at ≡ Ok (Some len) → at + 20 + len ≤ length s
  packet_within q = (walk_as q).sound

  pub walk_packet : {len : ℕ} → look_at s at ≡ Ok (Some len) → walk_at s at ≡ onto (at, len) (walk_at s (at + 20 + len))
  walk_packet {len} q =
      let w = packet_within q in
      (walk_as q).step (length s - at) ∙ ap (onto (at, len)) (steps_enough (length s - at) (suc (length s - (at + 20 + len))) s (at + 20 + len) (omega arith) (omega arith))

-- the outcome, by the walk that is left
module _ (room n : ℕ) (index : List ℕ) (fits : n ≤ room) where
  pub out_ending : {e : Said Unit} {w : Walk} → w ≡ ends e → outcome room n index w ≡ (counted n e, index, n)
  unfolding flat
  out_ending {e} q =
      let none : n + 0 ≡ n = omega arith in
      let all : min room n ≡ n = omega arith in
      ap (outcome room n index) q ∙ rw (none, take-nil, le-ltb room n fits, all)

  pub out_full : {c : ℕ × ℕ} {v w : Walk} → room ≤ n → w ≡ onto c v → outcome room n index w ≡ (refuses 10, index, n)
  unfolding flat
  out_full {v = v} full q =
      let none : room - n ≡ 0 = omega arith in
      let all : min room (n + suc (length v.cells)) ≡ n = omega arith in
      ap (outcome room n index) q ∙ rw (none, lt-ltb room (n + suc (length v.cells)) (omega arith), all)

  pub out_onward : {c : ℕ × ℕ} {v w : Walk} → n < room → w ≡ onto c v → outcome room n index w ≡ outcome room (n + 1) (set (set index (2 * n) c.0) (2 * n + 1) c.1) v
  unfolding flat
  out_onward {c} {v} free q =
      let more : room - n ≡ suc (room - (n + 1)) = omega arith in
      let met : n + suc (length v.cells) ≡ n + 1 + length v.cells = omega arith in
      let next : 2 * (n + 1) ≡ suc (suc (2 * n)) = omega arith in
      ap (outcome room n index) q ∙ rw (more, met, next) (simp unary_clauses)

-- where the loops begin
module _ (s : List ℕ) where
  pub begin_long : reading_limit < length s → packets_of s ≡ ends (refuses 11)
  unfolding packets_of
  begin_long h = rw (lt-ltb _ _ h)

  pub begin_short : length s ≤ reading_limit → length s < 20 → packets_of s ≡ ends (refuses_at 1 0)
  unfolding packets_of
  begin_short h k = rw (le-ltb _ _ h, lt-ltb _ _ k)

  pub begin_walk : length s ≤ reading_limit → 20 ≤ length s → packets_of s ≡ walk_at s 0
  unfolding packets_of
  begin_walk h k = rw (le-ltb _ _ h, le-ltb _ _ k)

  pub said_all : (room : ℕ) → (outcome room 0 [] (packets_of s)).0 ≡ parsed s room
  unfolding parsed
  said_all room = rw (zero-add (length (packets_of s).cells))

  pub out_all : (index : List ℕ) → outcome (cells_in index) 0 index (packets_of s) ≡ indexes s index
  unfolding parsed
  out_all index =
      let room : cells_in index - 0 ≡ cells_in index = omega arith in
      rw (room, zero-add (length (packets_of s).cells))

-- what `from_bytes` leaves where its first pass is refused
module _ (s index : List ℕ) where
  pub parses_stopped : (n : ℕ) (cursor : Option ℕ) → parsed s (cells_in index) ≡ stopped n cursor → ◌≡◌ {A = Said ℕ × List ℕ} (stopped n cursor, index) (parses s index)
  parses_stopped n None e = rw e
  parses_stopped n (Some at) e = rw e

-- a property that every ending with another number than 12 has, and that a packet in front keeps, is the walk's
module _ (s : List ℕ) (P : ℕ → Walk → Type 0) (ended : (at : ℕ) (e : Said Unit) → (refusal_in e ≡ 12 → ⊥) → P at (ends e))
    (onward : (at len : ℕ) (w : Walk) → at + 20 + len ≤ length s → P (at + 20 + len) w → P at (onto (at, len) w)) where
  walk_steps : (steps at : ℕ) → length s - at < steps → P at (walk_at s at)
  walk_steps zero at h = absurd (omega arith)
  walk_steps (suc steps) at h = by (look_at s at) refl (λ len w. walk_steps steps (at + 20 + len) (omega arith))
    where
      by : (r : Result (Option ℕ) Refusal) → look_at s at ≡ r → ((len : ℕ) → at + 20 + len ≤ length s → P (at + 20 + len) (walk_at s (at + 20 + len))) → P at (walk_at s at)
      by (Ok (Some len)) q rest = let w = packet_within s at q in rw (walk_packet s at q) (onward at len _ w (rest len w))
      by (Err r) q rest = rw (walk_fault s at q) (ended at _ (walk_as s at q).sound)
      by (Ok None) q rest = rw (walk_end s at q) (ended at _ (λ z. omega arith))

  pub walk_all : P 0 (packets_of s)
  walk_all =
      elim (dec_le (length s) reading_limit) [
        | no long ↦ rw (begin_long s (omega arith)) (ended 0 _ (λ z. omega arith))
        | yes fits ↦ elim (dec_le 20 (length s)) [
          | no short ↦ rw (begin_short s fits (omega arith)) (ended 0 _ (λ z. omega arith))
          | yes more ↦ rw (begin_walk s fits more) (walk_steps (suc (length s - 0)) 0 (omega arith))
        ]
      ]

-- parsing never answers 12
pub parse_well : (s : List ℕ) (room : ℕ) → refusal_in (parsed s room) ≡ 12 → ⊥
unfolding parsed
parse_well s room =
    by (packets_of s).ending (walk_all s (λ at w. refusal_in w.ending ≡ 12 → ⊥) (λ at e never. never) (λ at len w h never. never))
    (ltb room (length (packets_of s).cells))
  where
    by : (e : Said Unit) → (refusal_in e ≡ 12 → ⊥) → (t : Bool) → refusal_in (cond t (refuses 10) (counted (length (packets_of s).cells) e)) ≡ 12 → ⊥
    by e f true q = omega arith
    by (answers u) f false q = omega arith
    by (refuses r) f false q = f q
    by (refuses_at r at) f false q = f q
