-- The empty packet of document 02, §5: what each return of `pack_empty_into` leaves, the ways in which it ends, and that what it wrote can be read back.
-- Assumes nothing.
use Prim.Native.Nat.{ℕ, ◌+◌, ◌^◌, ◌≤◌, ◌<◌, zero-le}
use mathlib.Core.Path.{◌≡◌, refl, sym, ap, ◌∙◌}
use mathlib.Core.Bool.{Bool, true, false, cond}
use mathlib.Core.List.{List, [], ◌∷◌, append-nil}
use native.Mathlib.Omega.{arith}
use lib.ListN.{length, take, drop}
use lib.Seq.{paste, take_at, take_all}
use lib.Dec.{ltb, eqb}
use borrow.Author.Tests.{le-leb, lt-ltb, le-ltb, ltb-false, eq-eqb, ne_eqb, eqb-true, eqb-false}
use Rattle.refusal.specs.Said.{answers, checks}
use Rattle.refusal.proofs.Checks.{Checked, passes, fails, checked}
use Rattle.lists.specs.Numbers.{largest}
use Rattle.lists.specs.Within.{all_within}
use Rattle.header.specs.Header.{header_bytes}
use Rattle.header.specs.declared.BluefinHeader.{BluefinHeader}
use Rattle.header.proofs.Trip.{length-header}
use Rattle.packet.specs.Packet.{Packet, packet_bytes, joined}
use Rattle.packet.proofs.Trip.{Honest}
use Rattle.outstanding.specs.Outstanding.{Store, places, count_of, lengths_of, size, well_formed_below, keeping}
use Rattle.outstanding.specs.Steps.{counting, sizes_for, kept_as}
use Rattle.outstanding.proofs.Laws.{Keepable, below_good, kept_fits, kept_is}
use Rattle.writer.specs.Packing.{payload_size}
use Rattle.writer.specs.Empty.{empty_packet, empty_checks, SendingEmpty, empty_unsent, empty_sent, packs_empty}

-- ---- the packet

module _ (src dst next : ℕ) where
  abbrev pub one : List Packet
  one = empty_packet src dst next ∷ []

  -- its bytes are its header's
  pub joined-one : joined one ≡ header_bytes (empty_packet src dst next).header
  unfolding joined
  joined-one = rw append-nil (append-nil (header_bytes (empty_packet src dst next).header))

  pub length-one : length (joined one) ≡ 20
  length-one = rw joined-one (length-header (empty_packet src dst next).header)

  pub empty-written : (out : List ℕ) → take 20 (paste out 0 (packet_bytes (empty_packet src dst next)) 20) ≡ joined one
  empty-written out =
      let header = header_bytes (empty_packet src dst next).header in
      let long = length-header (empty_packet src dst next).header in
      let whole : take 20 header ≡ header = take_all 20 header (omega arith) in
      rw (joined-one, append-nil, take_at (take 20 header) (drop 20 out) 20 (rw whole long)) whole

  pub empty_honest : src < 2 ^ 32 → dst < 2 ^ 32 → next ≤ largest → Honest (empty_packet src dst next)
  empty_honest source destination number = record {
    sized = record { version = omega arith; field = omega arith; mask = omega arith; source = source; destination = destination; number = omega arith };
    long = refl;
  }

  -- the store takes it
  pub empty_keepable : (k : Store) → count_of k < places → Keepable next k one
  unfolding counting all_within
  empty_keepable k few = record { room = omega arith; numbered = refl; small = rw (le-leb 0 payload_size zero-le) }

-- ---- what the call comes to

module _ (k : Store) (next src dst : ℕ) (out : List ℕ) where
  pub empty-malformed : well_formed_below next k ≡ false → packs_empty k next src dst out ≡ empty_unsent k out 12
  unfolding packs_empty
  empty-malformed e = rw e

  module _ (well : well_formed_below next k ≡ true) where
    -- with every place taken too
    pub empty-exhausted : largest ≤ next → packs_empty k next src dst out ≡ empty_unsent k out 9
    unfolding packs_empty
    empty-exhausted most = rw (well, lt-ltb largest (next + 1) (omega arith))

    module _ (some : next < largest) where
      pub empty_short : length out < 20 → packs_empty k next src dst out ≡ empty_unsent k out 10
      unfolding packs_empty
      empty_short few = rw (well, le-ltb largest (next + 1) (omega arith), lt-ltb (length out) 20 few)

      module _ (room : 20 ≤ length out) where
        pub empty_full : count_of k ≡ places → packs_empty k next src dst out ≡ empty_unsent k out 15
        unfolding packs_empty
        empty_full full = rw (well, le-ltb largest (next + 1) (omega arith), le-ltb (length out) 20 room, eq-eqb (count_of k) places full)

        -- the header written, and its 20 bytes given to the store
        module _ {header : BluefinHeader} {e : List ℕ} (is : header ≡ (empty_packet src dst next).header) (wrote : e ≡ paste out 0 (header_bytes header) 20) where
          datagram : take 20 e ≡ joined (one src dst next)
          datagram = rw (wrote, is) (rw append-nil at (empty-written src dst next out))

          pub empty_long : 20 ≡ length (take 20 e)
          empty_long = sym (ap length datagram ∙ length-one src dst next)

          -- what `keep` asks
          pub empty_fits : (count_of k ≡ places → ⊥)
              → (count_of k + 1 ≤ 64) × (next + 1 ≤ largest) × (count_of k + 1 ≤ length k.numbers) × (count_of k + 1 ≤ length k.lengths)
              × (size (lengths_of k) + length (take 20 e) ≤ length k.packets)
          unfolding places
          empty_fits free =
              let g = (below_good next well).0 in
              let few : count_of k < places = omega (arith, free, g.few) in
              let fits = kept_fits next (one src dst next) well (empty_keepable src dst next k few) in
              (omega arith, omega arith, omega (arith, g.numbers), omega (arith, g.lengths), rw datagram fits)

          pub empty_sends : {s : Store} → (count_of k ≡ places → ⊥) → s ≡ kept_as k next 0 1 (take 20 e)
              → ◌≡◌ {A = SendingEmpty} (record { said = answers (next + 1); out = e; store = s }) (packs_empty k next src dst out)
          unfolding packs_empty counting sizes_for payload_size
          empty_sends {s} free kept =
              let store : s ≡ keeping k (one src dst next) = kept ∙ rw datagram (kept_is k next 0 (one src dst next) refl refl) in
              rw (well, le-ltb largest (next + 1) (omega arith), le-ltb (length out) 20 room, ne_eqb (count_of k) places free, store, wrote, is, append-nil)

-- ---- how it ends

-- of a well-formed store: the packet goes out and is kept, or a refusal that is not 12, and 15 only with every place taken, leaves all as it came
pub data EmptyWays (k : Store) (next src dst : ℕ) (out : List ℕ) : SendingEmpty → Type 0 where
  sends : count_of k < places → next + 1 ≤ largest → EmptyWays k next src dst out (empty_sent k next src dst out)
  stays : (n : ℕ) → (n ≡ 12 → ⊥) → (n ≡ 15 → count_of k ≡ places) → EmptyWays k next src dst out (empty_unsent k out n)

module _ (k : Store) (next src dst : ℕ) (out : List ℕ) where
  pub empty_ways : well_formed_below next k ≡ true → EmptyWays k next src dst out (packs_empty k next src dst out)
  unfolding packs_empty
  empty_ways well = rw well (by (ltb largest (next + 1)) (ltb (length out) 20) (eqb (count_of k) places) refl refl)
    where
      by : (exhausted short full : Bool) → ltb largest (next + 1) ≡ exhausted → eqb (count_of k) places ≡ full
          → EmptyWays k next src dst out (cond exhausted (empty_unsent k out 9) (cond short (empty_unsent k out 10) (cond full (empty_unsent k out 15) (empty_sent k next src dst out))))
      by true short full a c = stays 9 (λ z. omega arith) (λ z. absurd (omega arith))
      by false true full a c = stays 10 (λ z. omega arith) (λ z. absurd (omega arith))
      by false false true a c = stays 15 (λ z. omega arith) (λ z. eqb-true _ _ c)
      by false false false a c = sends (omega (arith, eqb-false (count_of k) places c, (below_good next well).0.few)) (ltb-false _ _ a)

  -- what an unrefused call left
  pub empty-answered : {n : ℕ} → (packs_empty k next src dst out).said ≡ answers n → (packs_empty k next src dst out ≡ empty_sent k next src dst out) × (next + 1 ≤ largest)
  unfolding packs_empty
  empty-answered {n} e = by (checked (empty_unsent k out) (empty_sent k next src dst out) (empty_checks k next (length out)))
    where
      by : Checked (empty_checks k next (length out)) (empty_unsent k out) (empty_sent k next src dst out)
          → (checks (empty_checks k next (length out)) (empty_unsent k out) (empty_sent k next src dst out) ≡ empty_sent k next src dst out) × (next + 1 ≤ largest)
      by (passes t r) = (r, ltb-false _ _ t.1.0)
      by (fails m t r) = let z : ◌≡◌ {A = ℕ} 0 1 = cc in absurd (omega arith)
