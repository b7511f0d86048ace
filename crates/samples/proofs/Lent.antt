-- Stores of outstanding packets in just enough lent memory (specs/Inputs.antt, `counts`): that it has 97,280 bytes is a law, so that a row computes its call without counting them.
-- Assumes nothing.
use Prim.Native.Nat.{ℕ, ◌+◌, ◌-◌, ◌*◌, ◌≤◌}
use mathlib.Core.Path.{◌≡◌, refl, ap, ap₂, ◌∙◌}
use mathlib.Core.Bool.{Bool, true, false, not, ◌&&◌}
use mathlib.Core.List.{List, [], ◌∷◌, ◌++◌, map}
use native.Mathlib.Omega.{arith}
use lib.ListN.{length, drop, length-append, length-replicate}
use lib.Seq.{paste}
use lib.Dec.{leb, ltb, lit≤}
use borrow.Author.Tests.{le-leb}
use Rattle.refusal.specs.Said.{answers, refuses, checks}
use Rattle.lists.specs.Rising.{rising}
use Rattle.lists.specs.Within.{all_within}
use Rattle.packet.specs.Sizes.{payload_size}
use Rattle.outstanding.specs.Outstanding.{Store, fresh, store_of, places, count_of, numbers_of, lengths_of, size, bytes_of, well_formed, all_below, well_formed_below}
use Rattle.outstanding.specs.Outstanding.{listing, up_to, without, answering}
use Rattle.writer.specs.Packing.{Queue}
use Rattle.writer.specs.Sending.{Sending, send_checks, unsent, sent, consumes_data}
use Rattle.writer.specs.Empty.{SendingEmpty, empty_checks, empty_unsent, empty_sent, packs_empty}
use Rattle.samples.specs.Inputs.{lent, begins, nothing_kept}
use Rattle.samples.specs.OutstandingRows.{bare}

-- ---- the bytes of lent memory are enough

abbrev pub Roomy : List ℕ → Type 0
Roomy packets = leb (places * (20 + payload_size)) (length packets) ≡ true

length-lent : (n : ℕ) → length (lent n) ≡ n
length-lent n = length-replicate {A = ℕ} n 99

length-begins : (front : List ℕ) (n : ℕ) → length front ≤ n → length (begins front n) ≡ n
length-begins front n few = length-append front (lent (n - length front)) ∙ rw (length-lent (n - length front)) (omega arith)

length_both : (front : List ℕ) (n m : ℕ) → length front ≤ n → length (begins front n ++ lent m) ≡ n + m
length_both front n m few = length-append (begins front n) (lent m) ∙ ap₂ (λ (i j : ℕ). i + j) (length-begins front n few) (length-lent m)

pub roomy : (packets : List ℕ) (n : ℕ) → length packets ≤ n → 17280 ≤ n → Roomy (begins packets n ++ lent 80000)
unfolding places payload_size
roomy packets n few many = le-leb 97280 (length (begins packets n ++ lent 80000)) (omega (arith, length_both packets n 80000 few))

-- ---- the calls, where lent bytes are enough: the test of refusal 12 without them, and all else as it is defined

abbrev pub fits : Store → Bool
fits k =
    leb places (length k.numbers) && (leb places (length k.lengths) && true)
    && (leb (count_of k) places && (rising (numbers_of k) && all_within payload_size (lengths_of k)))

-- packing from source 1 to destination 2
abbrev pub sending : Store → Queue → ℕ → List ℕ → Sending
sending k queue next out =
    checks ((not (fits k && all_below next (numbers_of k)), 12) ∷ drop 1 (send_checks k queue next (length out))) (unsent k out) (sent k queue next 1 2 out)

-- an empty packet from source 1 to destination 2
abbrev pub making : Store → ℕ → List ℕ → SendingEmpty
making k next out = checks ((not (fits k && all_below next (numbers_of k)), 12) ∷ drop 1 (empty_checks k next (length out))) (empty_unsent k out) (empty_sent k next 1 2 out)

module _ (k : Store) (room : Roomy k.packets) where
  well_is : well_formed k ≡ fits k
  unfolding well_formed
  well_is = rw room

  pub lists : (out : List ℕ) → listing k out
      ≡ checks ((not (fits k), 12) ∷ (ltb (length out) (size (lengths_of k)), 10) ∷ []) (λ n. (refuses n, out)) (answers (count_of k), paste out 0 (bytes_of k) (size (lengths_of k)))
  unfolding listing
  lists out = rw well_is

  pub drops : (last : ℕ) → answering k last ≡ checks ((not (fits k), 12) ∷ []) (λ n. (refuses n, k)) (answers tt, without (up_to last (numbers_of k)) k)
  unfolding answering
  drops last = rw well_is

  pub packs : (queue : Queue) (next : ℕ) (out : List ℕ) → consumes_data k queue next 1 2 out ≡ sending k queue next out
  unfolding consumes_data well_formed_below
  packs queue next out = rw well_is

  pub makes : (next : ℕ) (out : List ℕ) → packs_empty k next 1 2 out ≡ making k next out
  unfolding packs_empty well_formed_below
  makes next out = rw well_is

-- where nothing is kept: packing, and what it says
pub none_roomy : Roomy nothing_kept.packets
none_roomy = roomy [] 17280 (lit≤ tt) (lit≤ tt)

pub made : (queue : Queue) (next : ℕ) (out : List ℕ) → consumes_data nothing_kept queue next 1 2 out ≡ sending nothing_kept queue next out
made = packs nothing_kept none_roomy

pub says : (queue : Queue) (next : ℕ) (out : List ℕ) → (consumes_data nothing_kept queue next 1 2 out).said ≡ (sending nothing_kept queue next out).said
says queue next out = ap (λ (s : Sending). s.said) (made queue next out)

-- ---- the calls, where the test of refusal 12 fails: on each store of a list 12, and all stays

unfoldable pub Malformed : List Store → Type 0
Malformed [] = Unit
Malformed (k ∷ ks) = (well_formed k ≡ false) × Malformed ks

-- stores that fail by their cells, where lent bytes are enough
unfoldable pub Unfit : List (ℕ × List ℕ × List ℕ) → Type 0
Unfit [] = Unit
Unfit (m ∷ ms) = (fits (bare m) ≡ false) × Unfit ms

pub unfit : (ms : List (ℕ × List ℕ × List ℕ)) → Unfit ms → Malformed (map bare ms)
unfolding Malformed Unfit
unfit [] u = tt
unfit (m ∷ ms) u = (well_is (bare m) none_roomy ∙ u.0, unfit ms u.1)

-- a store that fails by its bytes, where cells are enough
pub short : (n : ℕ) → leb (places * (20 + payload_size)) n ≡ false → well_formed (store_of fresh (lent 64) (lent 64) (lent n)) ≡ false
unfolding well_formed places
short n few = rw (length-lent n, few)

-- what is equal of every malformed store is equal on a list of them
alike : {B : Type 0} (f g : Store → B) → ((k : Store) → well_formed k ≡ false → f k ≡ g k) → (ks : List Store) → Malformed ks → map f ks ≡ map g ks
unfolding Malformed
alike f g same [] m = refl
alike f g same (k ∷ ks) m = ap₂ ◌∷◌ (same k m.0) (alike f g same ks m.1)

module _ (ks : List Store) (bad : Malformed ks) where
  pub lists_none : (out : List ℕ) → map (λ k. listing k out) ks ≡ map (λ k. (refuses 12, out)) ks
  unfolding listing
  lists_none out = alike (λ k. listing k out) (λ k. (refuses 12, out)) (λ k e. rw e) ks bad

  pub drops_none : (last : ℕ) → map (λ k. answering k last) ks ≡ map (λ k. (refuses 12, k)) ks
  unfolding answering
  drops_none last = alike (λ k. answering k last) (λ k. (refuses 12, k)) (λ k e. rw e) ks bad

  pub packs_none : (queue : Queue) (next : ℕ) (out : List ℕ) → map (λ k. consumes_data k queue next 1 2 out) ks ≡ map (λ k. unsent k out 12) ks
  unfolding consumes_data well_formed_below
  packs_none queue next out = alike (λ k. consumes_data k queue next 1 2 out) (λ k. unsent k out 12) (λ k e. rw e) ks bad

  pub makes_none : (next : ℕ) (out : List ℕ) → map (λ k. packs_empty k next 1 2 out) ks ≡ map (λ k. empty_unsent k out 12) ks
  unfolding packs_empty well_formed_below
  makes_none next out = alike (λ k. packs_empty k next 1 2 out) (λ k. empty_unsent k out 12) (λ k e. rw e) ks bad
