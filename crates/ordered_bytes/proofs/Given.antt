-- What the reads leave is the definition's: the carry-over in the store, what stands in the output, the room that the numbers have.
-- Assumes nothing.
use Prim.Native.Nat.{ℕ, zero, suc, ◌+◌, ◌-◌, ◌*◌, ◌≤◌, ◌<◌, min}
use mathlib.Core.Path.{◌≡◌, refl, sym, ap, ◌∙◌}
use mathlib.Core.Bool.{true, cond, and-eq-true_iff}
use mathlib.Core.Option.{Option, none, some}
use mathlib.Core.List.{List, [], ◌∷◌, ◌++◌}
use native.Mathlib.Omega.{arith}
use lib.ListN.{length, take, drop, length-append}
use lib.Seq.{paste, length-take-le}
use lib.Dec.{eqb, ltb}
use borrow.Author.Tests.{ltb-true}
use Rattle.std.specs.Prelude.{Result, Ok}
use Rattle.refusal.specs.declared.Refusal.{Refusal}
use Rattle.refusal.specs.Said.{answers, refuses}
use Rattle.lists.specs.Numbers.{largest}
use Rattle.lists.proofs.Paste.{paste_behind}
use Rattle.lists.proofs.Cut.{take-cut, drop-cut, paste_part}
use Rattle.ordered_bytes.specs.Receiver.{walk, payloads, numbers_fit, base, consumed}
use Rattle.ordered_bytes.specs.Buffer.{Buffer, slots, width, view, taken}
use Rattle.ordered_bytes.specs.Calls.{consumed_says, given}
use Rattle.ordered_bytes.specs.Steps.{WalkCopied, ReadCopied}
use Rattle.ordered_bytes.specs.declared.stream.Walked.{Walked}
use Rattle.ordered_bytes.specs.declared.stream.BytesRead.{BytesRead}
use Rattle.ordered_bytes.specs.declared.ConsumeResult.{ConsumeResult}
use Rattle.ordered_bytes.proofs.WellFormed.{Good, is_fits}
use Rattle.ordered_bytes.proofs.View.{length-carry, store_long}
use Rattle.ordered_bytes.proofs.Walk.{consumed_part, consumed-whole}

-- ---- the numbers of taken packets are below the largest

fit_payloads : (n k : ℕ) (h : List (Option (List ℕ))) → n ≤ largest → numbers_fit n h ≡ true → n + length (payloads k h) ≤ largest
unfolding numbers_fit payloads
fit_payloads n zero h l e = omega arith
fit_payloads n (suc k) [] l e = omega arith
fit_payloads n (suc k) (none ∷ h) l e = omega arith
fit_payloads n (suc k) (some p ∷ h) l e =
    let both = (and-eq-true_iff (ltb n largest) (numbers_fit (suc n) h)).0 e in
    let first : n < largest = ltb-true n largest both.0 in
    let rest = fit_payloads (suc n) k h first both.1 in
    omega arith

module _ {b : Buffer} (g : Good b) where
  pub payloads_fit : (k : ℕ) → b.state.front_number ≤ largest → b.state.front_number + length (payloads k (view b).held) ≤ largest
  payloads_fit k l = fit_payloads b.state.front_number k (view b).held l (is_fits b.state.front_number (view b).held g.numbers)

  -- ---- the carry-over

  pub carry_in : b.state.carry_len + slots b * width b ≤ length b.store
  carry_in = omega (arith, store_long g, g.carry_w)

  view-carry : (view b).carry ≡ take b.state.carry_len (drop (slots b * width b) b.store)
  unfolding view
  view-carry = refl

  -- the carry-over, given whole
  carry_pasted : (out : List ℕ) → paste out 0 (drop (slots b * width b) b.store) b.state.carry_len ≡ paste out 0 (view b).carry (length (view b).carry)
  carry_pasted out = paste_part out (drop (slots b * width b) b.store) (view b).carry 0 b.state.carry_len (sym view-carry) (length-carry g)

  -- the carry-over whole, and x behind it
  pub carry_then : (x out : List ℕ) {out₁ out' : List ℕ} → b.state.carry_len ≤ length out
      → out₁ ≡ paste out 0 (drop (slots b * width b) b.store) b.state.carry_len
      → out' ≡ paste out₁ b.state.carry_len x (length x)
      → out' ≡ paste out 0 ((view b).carry ++ x) (length ((view b).carry ++ x))
  carry_then x out room first then =
      then ∙ rw (first ∙ carry_pasted out) (paste_behind out (view b).carry x 0 b.state.carry_len (omega (arith, length-carry g)) room)

-- ---- `consume`

module _ {b : Buffer} (g : Good b) (len : ℕ) (out : List ℕ) where
  -- "A carry-over longer than the length gives that many bytes"
  pub part_read : {out' : List ℕ} {part : ℕ} → len < b.state.carry_len → part ≡ min b.state.carry_len len
      → out' ≡ paste out 0 (drop (slots b * width b) b.store) part
      → ReadCopied b len out out' (record {
        answer = Ok (record { num_packets_consumed = 0; base_packet_number = 0; bytes_consumed = len });
        packets = 0;
        rest_at = slots b * width b + len;
        rest = b.state.carry_len - len;
      })
  part_read {out'} {part} less cut pasted =
      let at = slots b * width b in
      let some : min b.state.carry_len len ≡ len = omega arith in
      let all : part ≡ len = cut ∙ some in
      let bytes : take len (drop at b.store) ≡ take len (view b).carry = sym (rw (view-carry g, take-cut len b.state.carry_len (drop at b.store), some)) in
      let long : length (take len (view b).carry) ≡ len = length-take-le len (view b).carry (rw (length-carry g) (omega arith)) in
      let rest : take (b.state.carry_len - len) (drop (at + len) b.store) ≡ drop len (view b).carry =
      sym (rw (view-carry g, drop-cut len b.state.carry_len at b.store, some)) in
      let gave : out' ≡ paste out 0 (take len (view b).carry) (length (take len (view b).carry)) =
      rw all at pasted ∙ paste_part out (drop at b.store) (take len (view b).carry) 0 len bytes long in
      rw (consumed_part (view b) len (rw (length-carry g) less))
      (record {
        answer = rw long;
        packets = refl;
        copied = gave;
        carry = record { are = rest; within = omega (arith, carry_in g); small = omega (arith, g.carry_w) };
      })

  -- "Otherwise the carry-over is taken whole, then held packets"
  pub whole_read : {w : Walked} {out₁ out' : List ℕ} {part from : ℕ} {answer : Result ConsumeResult Refusal} → b.state.carry_len ≤ len → len ≤ length out
      → part ≡ min b.state.carry_len len
      → out₁ ≡ paste out 0 (drop (slots b * width b) b.store) part
      → WalkCopied b (len - b.state.carry_len) b.state.carry_len out₁ out' w
      → from ≡ base (view b)
      → (let bytes = b.state.carry_len + w.bytes in consumed_says answer ≡ cond (eqb bytes 0) (refuses 8) (answers (w.packets, from, bytes)))
      → ReadCopied b len out out' (record { answer = answer; packets = w.packets; rest_at = w.rest_at; rest = w.rest })
  whole_read {w} {out₁} {out'} {part} whole room cut first e based says =
      let c = b.state.carry_len in
      let x = (walk (len - c) (view b).held).bytes in
      let all : part ≡ c = omega arith in
      let long : c + w.bytes ≡ length ((view b).carry ++ x) = sym (rw (length-append, length-carry g, e.bytes)) in
      rw (consumed-whole (view b) len (rw (length-carry g) whole), length-carry g)
      (record {
        answer = says ∙ rw (long, e.packets, based);
        packets = e.packets;
        copied = carry_then g x out (omega arith) (rw all at first) (e.copied ∙ ap (paste out₁ c x) e.bytes);
        carry = e.rest;
      })

  -- the answer, the buffer and the output
  pub read_given : {r : BytesRead} {out' : List ℕ} {after : Buffer} → ReadCopied b len out out' r
      → after ≡ taken b r.packets (take r.rest (drop r.rest_at b.store))
      → record { said = consumed_says r.answer; buffer = after; out = out' } ≡ given b (consumed (view b) len) out
  read_given e left = rw (left, e.answer, e.copied, e.packets, e.carry.are)
