-- The ways in which each call ends: refused, with all as it came, or passed, with what its checks tell.
-- Assumes nothing.
use Prim.Native.Nat.{ℕ, ◌-◌, ◌≤◌, ◌<◌}
use mathlib.Core.Path.{◌≡◌, refl, sym, ap, ◌∙◌}
use mathlib.Core.Logic.{◌⊎◌, inl, inr, ◌≢◌}
use mathlib.Core.Bool.{Bool, true, false, not}
use mathlib.Core.Option.{none}
use mathlib.Core.List.{List, ◌∷◌, flatten}
use native.Mathlib.Omega.{arith}
use lib.ListN.{length}
use lib.Dec.{ltb, eqb}
use borrow.Author.Tests.{ltb-true, ltb-false, leb-false, eqb-true, eqb-false, not-true, not-false}
use Rattle.refusal.specs.Said.{answers, refuses}
use Rattle.refusal.proofs.Checks.{Failed, Checked, passes, fails, checked}
use Rattle.lists.specs.Numbers.{largest}
use Rattle.ordered_bytes.specs.Receiver.{is_held, place_at, accept_checks, consumed, pieces, any_held}
use Rattle.ordered_bytes.specs.Buffer.{Buffer, slots, width, slot_at, view, well_formed, shape_fits, stored}
use Rattle.ordered_bytes.specs.Calls.{creating, starting, Acceptance, ack_with, accepting, Consumption, given, consuming, PieceConsumption, given_pieces, consuming_bytes}
use Rattle.ordered_bytes.proofs.WellFormed.{Shaped, shaped, Good, good}
use Rattle.ordered_bytes.proofs.View.{fresh, length-held}

module _ (w s : ℕ) (marks : List Bool) (lengths store : List ℕ) where
  pub data Creating : Type 0 where
    malformed : shape_fits w marks lengths store ≡ false → creating w s marks lengths store ≡ record { said = refuses 12; marks = marks; lengths = lengths } → Creating
    makes : Shaped w marks lengths store
        → (let b = fresh w s marks lengths store in creating w s marks lengths store ≡ record { said = answers b.state; marks = b.marks; lengths = b.lengths }) → Creating

  pub create_ways : Creating
  unfolding creating
  create_ways = by (shape_fits w marks lengths store) refl
    where
      by : (fits : Bool) → shape_fits w marks lengths store ≡ fits → Creating
      by true e = makes (shaped w marks lengths store e) (rw e)
      by false e = malformed e (rw e)

module _ (b : Buffer) (s : ℕ) where
  -- the buffer with another front number
  abbrev pub renumbered : Buffer
  renumbered = record {
    state = record { slot_width = width b; front_slot = b.state.front_slot; front_number = s; carry_len = b.state.carry_len };
    marks = b.marks;
    lengths = b.lengths;
    store = b.store;
  }

  pub data Starting : Type 0 where
    malformed : well_formed b ≡ false → starting b s ≡ refuses 12 → Starting
    holds : Good b → any_held (view b).held ≡ true → starting b s ≡ refuses 13 → Starting
    starts : Good b → any_held (view b).held ≡ false → starting b s ≡ answers renumbered.state → Starting

  pub start_ways : Starting
  unfolding starting
  start_ways = by (well_formed b) (any_held (view b).held) refl refl
    where
      by : (well held : Bool) → well_formed b ≡ well → any_held (view b).held ≡ held → Starting
      by false held e f = malformed e (rw e)
      by true true e f = holds (good e) f (rw (e, f))
      by true false e f = starts (good e) f (rw (e, f))

module _ (b : Buffer) (n : ℕ) (payload : List ℕ) where
  -- what the checks of accepting tell where none holds
  pub record Acceptable : Type 0 where
    pub well : Good b
    pub low : b.state.front_number ≤ n
    pub near : n - b.state.front_number < slots b
    pub last : n ≢ largest
    pub free : is_held (place_at (view b) (n - b.state.front_number)) ≡ false
    pub fits : length payload ≤ width b

  -- refused, with all as it came and the ack that goes with the number
  abbrev pub refused_with : ℕ → Acceptance
  refused_with r = record { said = refuses r; ack = ack_with r n; buffer = b }

  -- not refused
  abbrev pub storing : Acceptance
  storing = record { said = answers tt; ack = none; buffer = stored b (slot_at b (n - b.state.front_number)) payload }

  pub data Accepting : Type 0 where
    malformed : well_formed b ≡ false → accepting b n payload ≡ refused_with 12 → Accepting
    refused : (r : ℕ) → Good b → Failed (accept_checks (view b) n payload) r → accepting b n payload ≡ refused_with r → Accepting
    stores : Acceptable → accepting b n payload ≡ storing → Accepting

  pub accept_ways : Accepting
  unfolding accepting view
  accept_ways = by (checked refused_with storing ((not (well_formed b), 12) ∷ accept_checks (view b) n payload))
    where
      by : Checked ((not (well_formed b), 12) ∷ accept_checks (view b) n payload) refused_with storing → Accepting
      by (fails r (inl f) e) = malformed (not-true _ f.0) (e ∙ ap refused_with (sym f.1))
      by (fails r (inr f) e) = refused r (good (not-false _ f.0)) f.1 e
      by (passes p e) = stores (record {
        well = good (not-false _ p.0);
        low = ltb-false _ _ p.1.0;
        near = rw length-held at (leb-false (length (view b).held) (n - b.state.front_number) p.1.1.0);
        last = eqb-false n largest p.1.1.1.0;
        free = p.1.1.1.1.0;
        fits = ltb-false (width b) (length payload) p.1.1.1.1.1.0;
      }) e

  -- what holds of a refusal that leaves all as it came, and of the stored payload where the checks pass, holds of accepting
  pub accept_case : (P : Acceptance → Type 0) → ((r : ℕ) → P (refused_with r)) → (Acceptable → P storing) → P (accepting b n payload)
  accept_case P refusing passing =
      elim accept_ways [
        | malformed m e ↦ rw e (refusing 12)
        | refused r g f e ↦ rw e (refusing r)
        | stores a e ↦ rw e (passing a)
      ]

module _ (b : Buffer) (len : ℕ) (out : List ℕ) where
  pub data Consuming : Type 0 where
    malformed : well_formed b ≡ false → consuming b len out ≡ record { said = refuses 12; buffer = b; out = out } → Consuming
    short : Good b → length out < len → consuming b len out ≡ record { said = refuses 10; buffer = b; out = out } → Consuming
    reads : Good b → len ≤ length out → consuming b len out ≡ given b (consumed (view b) len) out → Consuming

  pub consume_ways : Consuming
  unfolding consuming
  consume_ways = by (well_formed b) (ltb (length out) len) refl refl
    where
      by : (well less : Bool) → well_formed b ≡ well → ltb (length out) len ≡ less → Consuming
      by false less e f = malformed e (rw e)
      by true true e f = short (good e) (ltb-true _ _ f) (rw (e, f))
      by true false e f = reads (good e) (ltb-false _ _ f) (rw (e, f))

  -- what holds of a refusal but 8, and of what is given, holds of `consume`
  pub consume_case : (P : Consumption → Type 0) → ((r : ℕ) → r ≢ 8 → P (record { said = refuses r; buffer = b; out = out }))
      → (Good b → len ≤ length out → P (given b (consumed (view b) len) out)) → P (consuming b len out)
  consume_case P refusing passing =
      elim consume_ways [
        | malformed m e ↦ rw e (refusing 12 (λ q. omega arith))
        | short g s e ↦ rw e (refusing 10 (λ q. omega arith))
        | reads g s e ↦ rw e (passing g s)
      ]

module _ (b : Buffer) (limit : ℕ) (out list : List ℕ) where
  pub data ConsumingBytes : Type 0 where
    malformed : well_formed b ≡ false → consuming_bytes b limit out list ≡ record { said = refuses 12; buffer = b; out = out; list = list } → ConsumingBytes
    short : Good b → (length out < length (flatten (pieces (view b) limit))) ⊎ (length list < length (pieces (view b) limit))
        → consuming_bytes b limit out list ≡ record { said = refuses 10; buffer = b; out = out; list = list } → ConsumingBytes
    empty : Good b → length (pieces (view b) limit) ≡ 0
        → consuming_bytes b limit out list ≡ record { said = refuses 8; buffer = b; out = out; list = list } → ConsumingBytes
    reads : Good b → length (flatten (pieces (view b) limit)) ≤ length out → length (pieces (view b) limit) ≤ length list → length (pieces (view b) limit) ≢ 0
        → consuming_bytes b limit out list ≡ given_pieces b limit out list → ConsumingBytes

  pub consume_bytes_ways : ConsumingBytes
  unfolding consuming_bytes
  consume_bytes_ways =
      by (well_formed b) (ltb (length out) (length (flatten (pieces (view b) limit)))) (ltb (length list) (length (pieces (view b) limit)))
      (eqb (length (pieces (view b) limit)) 0) refl refl refl refl
    where
      by : (well less fewer none : Bool) → well_formed b ≡ well → ltb (length out) (length (flatten (pieces (view b) limit))) ≡ less
          → ltb (length list) (length (pieces (view b) limit)) ≡ fewer → eqb (length (pieces (view b) limit)) 0 ≡ none → ConsumingBytes
      by false less fewer zero e f g h = malformed e (rw e)
      by true true fewer zero e f g h = short (good e) (inl (ltb-true _ _ f)) (rw (e, f))
      by true false true zero e f g h = short (good e) (inr (ltb-true _ _ g)) (rw (e, f, g))
      by true false false true e f g h = empty (good e) (eqb-true _ _ h) (rw (e, f, g, h))
      by true false false false e f g h = reads (good e) (ltb-false _ _ f) (ltb-false _ _ g) (eqb-false _ _ h) (rw (e, f, g, h))

  -- what holds of a refusal, 8 only where there is no piece, and of what is given, holds of `consume_bytes`
  pub consume_bytes_case : (P : PieceConsumption → Type 0)
      → ((r : ℕ) → (r ≡ 8 → length (pieces (view b) limit) ≡ 0) → P (record { said = refuses r; buffer = b; out = out; list = list }))
      → (Good b → length (flatten (pieces (view b) limit)) ≤ length out → length (pieces (view b) limit) ≢ 0 → P (given_pieces b limit out list))
      → P (consuming_bytes b limit out list)
  consume_bytes_case P refusing passing =
      elim consume_bytes_ways [
        | malformed m e ↦ rw e (refusing 12 (λ q. absurd (omega arith)))
        | short g s e ↦ rw e (refusing 10 (λ q. absurd (omega arith)))
        | empty g s e ↦ rw e (refusing 8 (λ q. s))
        | reads g room cells any e ↦ rw e (passing g room any)
      ]
