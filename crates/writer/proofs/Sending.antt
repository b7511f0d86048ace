-- What packing with a store comes to: document 01's packing under the store's limit, whose packets the store takes; never more of them than places are free; 15 exactly
-- with none free; and with ten free, what it was without a store.
-- Assumes nothing.
use Prim.Native.Nat.{ℕ, zero, suc, ◌*◌, ◌≤◌, ◌<◌}
use mathlib.Core.Path.{◌≡◌, refl, sym, ap, ◌∙◌}
use mathlib.Core.Bool.{Bool, true, false, cond}
use mathlib.Core.List.{List, [], ◌∷◌, map}
use mathlib.Core.Logic.{inl, inr}
use native.Mathlib.Omega.{arith}
use lib.ListN.{length, take, drop, get_or, length-take, length-drop}
use lib.Seq.{length-take-le}
use lib.Dec.{ltb, eqb}
use borrow.Author.Tests.{le-leb, le-ltb, ltb-false, eqb-true, eqb-false, eq-eqb, ne_eqb}
use Rattle.refusal.specs.Said.{Said, answers, refuses}
use Rattle.refusal.proofs.Checks.{Failed, Checked, passes, fails, checked, passed_is, failed_is, checks-map}
use Rattle.lists.specs.Numbers.{largest}
use Rattle.lists.specs.Within.{all_within}
use Rattle.packet.specs.Packet.{Packet, joined}
use Rattle.outstanding.specs.Outstanding.{Store, places, count_of, free, well_formed_below, number_in, length_in, keeping}
use Rattle.outstanding.specs.Steps.{counting, sizes_for, kept_as}
use Rattle.outstanding.proofs.Laws.{Keepable, below_good, kept_is}
use Rattle.writer.specs.declared.DataPacked.{DataPacked}
use Rattle.writer.specs.Packing.{Queue, payload_size, byte_limit, bytes_taken, packets_for, packed_size, cut, payloads_of, numbered, packets_made, sum, taking, data_checks, Outcome, packing}
use Rattle.writer.specs.Sending.{limit_for, send_checks, Sending, unsent, sent, consumes_data}
use Rattle.writer.proofs.Made.{count_payloads, payload_small, count_made}

-- ---- the limit

packets_within : (limit total f : ℕ) → limit ≤ payload_size * f → packets_for (bytes_taken limit total) ≤ f
unfolding payload_size
packets_within limit total f h = omega arith

-- "A packing makes no more packets than there are free places"
pub packets_free : (k : Store) (total : ℕ) → packets_for (bytes_taken (limit_for k) total) ≤ free k
packets_free k total = packets_within (limit_for k) total (free k) (omega arith)

-- with ten free the limit is document 01's
pub limit_ten : (k : Store) → 10 ≤ free k → limit_for k ≡ byte_limit
unfolding payload_size byte_limit
limit_ten k h = omega arith

-- with none free nothing is taken
pub limit_none : (k : Store) → places ≤ count_of k → limit_for k ≡ 0
unfolding payload_size byte_limit
limit_none k h = let z : free k ≡ 0 = omega arith in rw z (omega arith)

-- ---- the packets made are ones that the store takes

numbers_made : (src dst n : ℕ) (ps : List (List ℕ)) → map number_in (numbered src dst n ps) ≡ counting n (length ps)
unfolding numbered counting
numbers_made src dst n [] = refl
numbers_made src dst n (p ∷ ps) = ap (λ (r : List ℕ). n ∷ r) (numbers_made src dst (suc n) ps)

small_made : (src dst n : ℕ) (ps : List (List ℕ)) → ((i : ℕ) → i < length ps → length (get_or ps i []) ≤ payload_size)
    → all_within payload_size (map length_in (numbered src dst n ps)) ≡ true
unfolding numbered all_within
small_made src dst n [] f = refl
small_made src dst n (p ∷ ps) f =
    rw (le-leb (length p) payload_size (f 0 (omega arith))) (small_made src dst (suc n) ps (λ i h. f (suc i) (omega arith)))

lengths_made : (src dst n c : ℕ) (s : List ℕ) → map length_in (numbered src dst n (cut payload_size c s)) ≡ sizes_for (length s) c
unfolding numbered cut sizes_for
lengths_made src dst n zero s = refl
lengths_made src dst n (suc c) s =
    rw (length-take, lengths_made src dst (suc n) c (drop payload_size s), length-drop)

module _ (k : Store) (src dst next : ℕ) (bytes : List ℕ) where
  abbrev made : List Packet
  made = packets_made (limit_for k) src dst next bytes

  numbers-kept : map number_in made ≡ counting next (length made)
  numbers-kept = numbers_made src dst next (payloads_of (limit_for k) bytes) ∙ ap (counting next) (count_payloads (limit_for k) bytes ∙ sym (count_made (limit_for k) src dst next bytes))

  pub made_keepable : well_formed_below next k ≡ true → Keepable next k made
  made_keepable well =
      let g = (below_good next well).0 in
      record {
        room = omega (arith, count_made (limit_for k) src dst next bytes, packets_free k (length bytes), g.few);
        numbered = numbers-kept;
        small = small_made src dst next (payloads_of (limit_for k) bytes) (λ i h. payload_small (limit_for k) bytes i (rw (count_payloads (limit_for k) bytes) at h));
      }

  -- as the code keeps them, by how many they are and what they carry
  pub keeps_made : kept_as k next (bytes_taken (limit_for k) (length bytes)) (length made) (joined made) ≡ keeping k made
  keeps_made =
      let q = bytes_taken (limit_for k) (length bytes) in
      let long : length (take q bytes) ≡ q = length-take-le q bytes (omega arith) in
      kept_is k next q made numbers-kept
      (lengths_made src dst next (packets_for q) (take q bytes) ∙ rw long (ap (sizes_for q) (sym (count_made (limit_for k) src dst next bytes))))

-- ---- how the call ends

-- of a well-formed store and a queue that adds up: what is taken goes out and is kept, or a refusal that is not 12, and 15 only with every place taken, leaves all as it came
pub data Ways (k : Store) (queue : Queue) (next src dst : ℕ) (out : List ℕ) : Sending → Type 0 where
  sends : count_of k < places → (taking (limit_for k) queue next).next_packet_num ≤ largest → Ways k queue next src dst out (sent k queue next src dst out)
  stays : (n : ℕ) → (n ≡ 12 → ⊥) → (n ≡ 15 → count_of k ≡ places) → Ways k queue next src dst out (unsent k out n)

module _ (k : Store) (queue : Queue) (next src dst : ℕ) (out : List ℕ) where
  -- the store is looked at before all else
  pub malformed_refuses : well_formed_below next k ≡ false → consumes_data k queue next src dst out ≡ unsent k out 12
  unfolding consumes_data
  malformed_refuses e = rw e

  -- no other check has the number 15
  full_failed : {n : ℕ} → Failed (send_checks k queue next (length out)) n → n ≡ 15 → count_of k ≡ places
  full_failed (inl f) z = absurd (omega (arith, f.1))
  full_failed (inr (a, inl f)) z = absurd (omega (arith, f.1))
  full_failed (inr (a, inr (b, inl f))) z = absurd (omega (arith, f.1))
  full_failed (inr (a, inr (b, inr (c, inl f)))) z = absurd (omega (arith, f.1))
  full_failed (inr (a, inr (b, inr (c, inr (d, inl f))))) z = eqb-true _ _ f.0
  full_failed (inr (a, inr (b, inr (c, inr (d, inr f))))) z = absurd f.1

  -- a 15 means that all 64 packets are outstanding
  pub full_said : (consumes_data k queue next src dst out).said ≡ refuses 15 → count_of k ≡ places
  unfolding consumes_data
  full_said e = by (checked (unsent k out) (sent k queue next src dst out) (send_checks k queue next (length out)))
    where
      by : Checked (send_checks k queue next (length out)) (unsent k out) (sent k queue next src dst out) → count_of k ≡ places
      by (passes t r) = let z : ◌≡◌ {A = ℕ} 0 1 = cc in absurd (omega arith)
      by (fails n f r) = full_failed f (cc)

  -- an unrefused call says and writes what packing up to the store's limit does
  pub answered_packs : {d : DataPacked} → (consumes_data k queue next src dst out).said ≡ answers d
      → packing (limit_for k) queue next src dst out ≡ (answers d, (consumes_data k queue next src dst out).out)
  unfolding consumes_data packing
  answered_packs {d} e = by (checked (unsent k out) (sent k queue next src dst out) (send_checks k queue next (length out)))
    where
      by : Checked (send_checks k queue next (length out)) (unsent k out) (sent k queue next src dst out)
          → packing (limit_for k) queue next src dst out ≡ (answers d, (consumes_data k queue next src dst out).out)
      by (passes t r) =
          let written : List ℕ = (sent k queue next src dst out).out in
          let said : Said DataPacked = answers (taking (limit_for k) queue next) in
          let same : said ≡ answers d = sym (ap (λ (s : Sending). s.said) r) ∙ e in
          rw r
          (passed_is (λ n. (refuses n, out)) (said, written) (data_checks (limit_for k) queue next (length out)) (t.1.0, (t.1.1.0, (t.1.1.1.0, tt)))
          ∙ ap (λ (x : Said DataPacked). (x, written)) same)
      by (fails n f r) = let z : ◌≡◌ {A = ℕ} 0 1 = cc in absurd (omega arith)

  module _ (well : well_formed_below next k ≡ true) (adds : sum queue.lengths ≡ length queue.bytes) where
    pub ways : Ways k queue next src dst out (consumes_data k queue next src dst out)
    unfolding consumes_data
    ways =
        let d = taking (limit_for k) queue next in
        rw (well, eq-eqb (sum queue.lengths) (length queue.bytes) adds)
        (by (ltb largest d.next_packet_num) (ltb (length out) (packed_size d.bytes)) (eqb (count_of k) places) refl refl)
      where
        by : (exhausted short full : Bool) → ltb largest (taking (limit_for k) queue next).next_packet_num ≡ exhausted → eqb (count_of k) places ≡ full
            → Ways k queue next src dst out (cond exhausted (unsent k out 9) (cond short (unsent k out 10) (cond full (unsent k out 15) (sent k queue next src dst out))))
        by true short full a c = stays 9 (λ z. omega arith) (λ z. absurd (omega arith))
        by false true full a c = stays 10 (λ z. omega arith) (λ z. absurd (omega arith))
        by false false true a c = stays 15 (λ z. omega arith) (λ z. eqb-true _ _ c)
        by false false false a c = sends (omega (arith, eqb-false (count_of k) places c, (below_good next well).0.few)) (ltb-false _ _ a)

    -- with all 64 packets outstanding neither 9 nor 10 can be, whatever is queued, and be it nothing
    pub full_refuses : count_of k ≡ places → next ≤ largest → consumes_data k queue next src dst out ≡ unsent k out 15
    unfolding consumes_data payload_size
    full_refuses full fits =
        let d = taking (limit_for k) queue next in
        let none : d.bytes ≡ 0 = omega (arith, limit_none k (omega arith)) in
        failed_is (unsent k out) (sent k queue next src dst out) (send_checks k queue next (length out))
        (inr (
          rw well,
          inr (
            rw (eq-eqb (sum queue.lengths) (length queue.bytes) adds),
            inr (le-ltb largest d.next_packet_num (omega arith), inr (le-ltb (length out) (packed_size d.bytes) (omega arith), inl (eq-eqb (count_of k) places full, refl))),
          ),
        ))

-- with ten places free, what is said and written is document 01's packing, as it was without a store
pub ten_free : (k : Store) (queue : Queue) (next src dst : ℕ) (out : List ℕ) → well_formed_below next k ≡ true → 10 ≤ free k
    → ◌≡◌ {A = Outcome} ((consumes_data k queue next src dst out).said, (consumes_data k queue next src dst out).out) (packing byte_limit queue next src dst out)
unfolding consumes_data packing
ten_free k queue next src dst out well ten =
    let some : eqb (count_of k) places ≡ false = ne_eqb (count_of k) places (λ e. omega arith) in
    rw (well, limit_ten k ten, some)
    (checks-map (λ (s : Sending). (s.said, s.out)) (unsent k out) _ (data_checks byte_limit queue next (length out)))
