-- Each return of `consume_data_into`: what the packing under the store's limit came to, and what of it the store keeps.
-- Assumes nothing.
use Prim.Native.Nat.{ℕ, ◌+◌, ◌*◌, ◌≤◌}
use mathlib.Core.Path.{◌≡◌, sym, ap, ◌∙◌}
use mathlib.Core.Bool.{Bool, true}
use mathlib.Core.List.{List, [], ◌∷◌}
use native.Mathlib.Omega.{arith}
use lib.ListN.{length, take, length-take}
use lib.Seq.{paste}
use lib.Dec.{eqb}
use Rattle.std.specs.Prelude.{Result, Ok, Err}
use borrow.Author.Tests.{eq-eqb, ne_eqb}
use Rattle.refusal.specs.declared.Refusal.{Refusal}
use Rattle.refusal.specs.Refusal.{number_of}
use Rattle.refusal.specs.Said.{answers, refuses, refusal_in, checks}
use Rattle.refusal.proofs.Checks.{Passed, Checked, passes, fails, checked, passed_is, failed_is}
use Rattle.lists.specs.Numbers.{largest}
use Rattle.packet.specs.Packet.{Packet, joined}
use Rattle.outstanding.specs.Outstanding.{Store, places, count_of, lengths_of, size, well_formed_below}
use Rattle.outstanding.specs.Steps.{kept_as}
use Rattle.outstanding.proofs.Laws.{below_good, kept_fits}
use Rattle.writer.specs.declared.DataPacked.{DataPacked}
use Rattle.writer.specs.Packing.{Queue, payload_size, byte_limit, packed_size, packets_made, taking, data_checks, Outcome, leaves, packing}
use Rattle.writer.specs.Sending.{limit_for, Sending, unsent, sent, consumes_data}
use Rattle.writer.proofs.Made.{Answered, answered, written_made, made_counted, length_made}
use Rattle.writer.proofs.Sending.{limit_none, made_keepable, keeps_made}

module _ (k : Store) (queue : Queue) (next src dst : ℕ) (out : List ℕ) where
  abbrev defined : Sending
  defined = consumes_data k queue next src dst out

  abbrev cs : List (Bool × ℕ)
  cs = data_checks (limit_for k) queue next (length out)

  abbrev refused : ℕ → Outcome
  refused n = (refuses n, out)

  abbrev made : List Packet
  made = packets_made (limit_for k) src dst next queue.bytes

  abbrev packed : Outcome
  packed = (answers (taking (limit_for k) queue next), paste out 0 (joined made) (packed_size (taking (limit_for k) queue next).bytes))

  -- what is left to decide once packing's checks have passed
  abbrev decided : Sending
  decided = checks ((eqb (count_of k) places, 15) ∷ []) (unsent k out) (sent k queue next src dst out)

  module _ (well : well_formed_below next k ≡ true) {limit : ℕ} (limited : limit ≡ limit_for k) {t : Result DataPacked Refusal} {e : List ℕ} (did : leaves t e ≡ packing limit queue next src dst out) where
    pub refuses_too : {r : Refusal} → t ≡ Err r → unsent k e (number_of r) ≡ defined
    unfolding consumes_data packing
    refuses_too {r} is = rw well (by (checked refused packed cs) (rw (is, limited) at did))
      where
        by : Checked cs refused packed → ◌≡◌ {A = Outcome} (refuses (number_of r), e) (checks cs refused packed) → unsent k e (number_of r) ≡ checks cs (unsent k out) decided
        by (passes t p) q =
            let said : refuses (number_of r) ≡ packed.0 = ap (λ (o : Outcome). o.0) (q ∙ p) in
            let z : ◌≡◌ {A = ℕ} 0 1 = cc in
            absurd (omega arith)
        by (fails n f p) q =
            let number : number_of r ≡ n = ap (λ (o : Outcome). refusal_in o.0) (q ∙ p) in
            rw (number, ap (λ (o : Outcome). o.1) (q ∙ p)) (sym (failed_is (unsent k out) decided cs f))

    module _ {d : DataPacked} (is : t ≡ Ok d) where
      answer : ◌≡◌ {A = Outcome} (answers d, e) (packing (limit_for k) queue next src dst out)
      answer = rw (is, limited) at did

      passed : Passed cs
      unfolding packing
      passed = by (checked refused packed cs) answer
        where
          by : Checked cs refused packed → ◌≡◌ {A = Outcome} (answers d, e) (checks cs refused packed) → Passed cs
          by (passes t p) q = t
          by (fails n f p) q =
              let said : answers d ≡ refuses n = ap (λ (o : Outcome). o.0) (q ∙ p) in
              let z : ◌≡◌ {A = ℕ} 0 1 = cc in
              absurd (omega arith)

      facts : Answered (limit_for k) queue next src dst out d
      facts = answered (limit_for k) queue next src dst out d (sym (ap (λ (o : Outcome). o.0) answer))

      written : e ≡ packed.1
      unfolding packing
      written = ap (λ (o : Outcome). o.1) answer ∙ ap (λ (o : Outcome). o.1) (passed_is refused packed cs passed)

      -- with every place taken nothing was packed, so nothing was written
      pub refuses_full : count_of k ≡ places → unsent k e 15 ≡ defined
      unfolding consumes_data payload_size
      refuses_full full =
          let none : packed_size (taking (limit_for k) queue next).bytes ≡ 0 = omega (arith, limit_none k (omega arith)) in
          let same : e ≡ out = written ∙ rw none in
          rw (well, passed_is (unsent k out) decided cs passed, eq-eqb (count_of k) places full, same)

      -- the datagram that the store is given
      datagram : take (d.bytes + 20 * d.packets) e ≡ joined made
      datagram = rw (ap (λ (o : Outcome). o.1) answer) (written_made (limit_for k) queue next src dst out d facts)

      count : length made ≡ d.packets
      count = made_counted (limit_for k) queue next src dst out d facts

      pub sends_kept : {s : Store} → (count_of k ≡ places → ⊥) → s ≡ kept_as k next d.bytes d.packets (take (d.bytes + 20 * d.packets) e)
          → ◌≡◌ {A = Sending} (record { said = answers d; out = e; store = s }) defined
      unfolding consumes_data
      sends_kept {s} some kept =
          let store : s ≡ (sent k queue next src dst out).store = kept ∙ rw (datagram, ← count, facts.said) (keeps_made k src dst next queue.bytes) in
          rw (well, passed_is (unsent k out) decided cs passed, ne_eqb (count_of k) places some, store, written, facts.said)

      -- the datagram is no longer than the longest, and within the output
      pub small : d.bytes + 20 * d.packets ≤ 15200
      unfolding payload_size byte_limit
      small = rw facts.said (omega arith)

      pub within : d.bytes + 20 * d.packets ≤ length e
      within =
          let n = d.bytes + 20 * d.packets in
          let long : length (joined made) ≡ n = length_made (limit_for k) src dst next queue.bytes ∙ rw facts.said in
          omega (arith, length-take n e, ap length datagram)

      -- what `keep` asks
      pub keep_fits : (count_of k + d.packets ≤ 64) × (next + d.packets ≤ largest) × (count_of k + d.packets ≤ length k.numbers) × (count_of k + d.packets ≤ length k.lengths)
          × (size (lengths_of k) + length (take (d.bytes + 20 * d.packets) e) ≤ length k.packets)
      unfolding places
      keep_fits =
          let g = (below_good next well).0 in
          let c = made_keepable k src dst next queue.bytes well in
          let room : count_of k + d.packets ≤ places = omega (arith, c.room, count) in
          (room, facts.numbers, omega (arith, g.numbers), omega (arith, g.lengths), rw datagram (kept_fits next made well c))
