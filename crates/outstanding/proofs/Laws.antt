-- Laws of the store: what is kept after a packing, after an answer, and that both keep the store well formed. These are the laws that other crates cite.
-- Assumes nothing.
use Prim.Native.Nat.{ℕ, zero, suc, ◌+◌, ◌-◌, ◌*◌, ◌≤◌, ◌<◌, zero-le, suc-le-suc}
use mathlib.Core.Path.{◌≡◌, refl, sym, ap, ◌∙◌}
use mathlib.Core.Bool.{Bool, true, false, cond, ◌&&◌, and-true, and-false}
use mathlib.Core.List.{List, [], ◌∷◌, ◌++◌, map}
use native.Mathlib.Omega.{arith}
use lib.ListN.{length, take, drop, get_or, length-append, length-drop, take-append-drop}
use lib.Seq.{paste, length-paste, length-take-le, take_all, take_at, take-take, take-paste, get_or-take, drop-drop, drop_at}
use lib.Dec.{ltb, leb}
use borrow.Author.Tests.{ltb-true, leb-true, leb-false, lt-ltb, le-ltb, le-leb}
use Rattle.refusal.specs.Said.{answers, refuses}
use Rattle.lists.specs.Rising.{rising}
use Rattle.lists.specs.Within.{all_within}
use Rattle.std.proofs.lemmas.List.{drop-take}
use Rattle.lists.proofs.Rising.{first_last}
use Rattle.lists.proofs.Tests.{both}
use Rattle.header.specs.Header.{header_bytes}
use Rattle.header.proofs.Trip.{length-header}
use Rattle.packet.specs.Packet.{Packet, packet_bytes, joined}
use Rattle.packet.specs.Sizes.{payload_size}
use Rattle.outstanding.specs.Outstanding.{places, Store, store_of, count_of, numbers_of, lengths_of, size, bytes_of, all_below, roomy, well_formed, well_formed_below}
use Rattle.outstanding.specs.Outstanding.{number_in, length_in, keeping, listing, up_to, without, answering}
use Rattle.outstanding.specs.Steps.{counting, sizes_for, kept_as}

-- ---- lists

module _ {A : Type 0} where
  -- a run pasted behind the first c elements
  take_behind : (d s : List A) (c n : ℕ) → c + n ≤ length d → length s ≡ n → take (c + n) (paste d c s n) ≡ take c d ++ s
  take_behind d s c n h e = take-paste d c s n (omega arith) (omega arith) ∙ ap (λ (r : List A). take c d ++ r) (take_all n s (omega arith))

  -- a part moved to the front
  take-front : (d : List A) (c n : ℕ) → n ≤ c → c ≤ length d → take (c - n) (paste d 0 (drop n d) (c - n)) ≡ drop n (take c d)
  take-front d c n l h =
      let part : length (take (c - n) (drop n d)) ≡ c - n = length-take-le (c - n) (drop n d) (rw length-drop (omega arith)) in
      let sum : n + (c - n) ≡ c = omega arith in
      take_at (take (c - n) (drop n d)) (drop (0 + (c - n)) d) (c - n) part ∙ sym (drop-take n (c - n) d) ∙ rw sum

  length_front : (d : List A) (a n : ℕ) → a + n ≤ length d → length (paste d 0 (drop a d) n) ≡ length d
  length_front d a n h = length-paste d 0 (drop a d) n (omega arith) (rw length-drop (omega arith))

size-append : (a b : List ℕ) → size (a ++ b) ≡ size a + size b
unfolding size
size-append [] b = omega arith
size-append (x ∷ a) b = omega (arith, size-append a b)

-- packets of at most 1,500 bytes fit a store of 64
size_within : (ls : List ℕ) → all_within payload_size ls ≡ true → size ls ≤ length ls * (20 + payload_size)
unfolding size all_within payload_size
size_within [] h = zero-le
size_within (l ∷ ls) h =
    let b = both (leb l payload_size) (all_within payload_size ls) h in
    omega (arith, leb-true l payload_size b.0, size_within ls b.1)

-- ---- the test of refusal 12, as facts

pub record Good (k : Store) : Type 0 where
  pub numbers : places ≤ length k.numbers
  pub lengths : places ≤ length k.lengths
  pub packets : places * (20 + payload_size) ≤ length k.packets
  pub few : count_of k ≤ places
  pub rises : rising (numbers_of k) ≡ true
  pub within : all_within payload_size (lengths_of k) ≡ true

pub roomy_is : (numbers lengths packets : List ℕ) → roomy numbers lengths packets ≡ true
    → (places ≤ length numbers) × (places ≤ length lengths) × (places * (20 + payload_size) ≤ length packets)
roomy_is numbers lengths packets h =
    let b = both (leb places (length numbers)) (leb places (length lengths) && leb (places * (20 + payload_size)) (length packets)) h in
    let c = both (leb places (length lengths)) (leb (places * (20 + payload_size)) (length packets)) b.1 in
    (leb-true _ _ b.0, leb-true _ _ c.0, leb-true _ _ c.1)

pub good : {k : Store} → well_formed k ≡ true → Good k
unfolding well_formed
good {k} h =
    let a = both (roomy k.numbers k.lengths k.packets) (leb (count_of k) places && (rising (numbers_of k) && all_within payload_size (lengths_of k))) h in
    let r = roomy_is k.numbers k.lengths k.packets a.0 in
    let d = both (leb (count_of k) places) (rising (numbers_of k) && all_within payload_size (lengths_of k)) a.1 in
    let e = both (rising (numbers_of k)) (all_within payload_size (lengths_of k)) d.1 in
    record {
      numbers = r.0;
      lengths = r.1;
      packets = r.2;
      few = leb-true _ _ d.0;
      rises = e.0;
      within = e.1;
    }

pub good_is : {k : Store} → Good k → well_formed k ≡ true
unfolding well_formed
good_is {k} g =
    let packets = le-leb (places * (20 + payload_size)) (length k.packets) g.packets in
    rw (le-leb places (length k.numbers) g.numbers, le-leb places (length k.lengths) g.lengths, packets, le-leb (count_of k) places g.few, g.rises, g.within)

pub below_good : (next : ℕ) {k : Store} → well_formed_below next k ≡ true → Good k × (all_below next (numbers_of k) ≡ true)
unfolding well_formed_below
below_good next {k} h = let a = both (well_formed k) (all_below next (numbers_of k)) h in (good a.0, a.1)

-- what a view answers of the store that it reads
pub viewed_below : (next : ℕ) {v k : Store} {t : Bool} → v ≡ k → t ≡ well_formed_below next v → well_formed_below next k ≡ t
viewed_below next e q = ap (well_formed_below next) (sym e) ∙ sym q

pub below_is : (next : ℕ) {k : Store} → Good k → all_below next (numbers_of k) ≡ true → well_formed_below next k ≡ true
unfolding well_formed_below
below_is next g h = rw (good_is g) h

pub length-numbers : {k : Store} → Good k → length (numbers_of k) ≡ count_of k
length-numbers {k} g = length-take-le (count_of k) k.numbers (omega (arith, g.few, g.numbers))

length_lengths : {k : Store} → Good k → length (lengths_of k) ≡ count_of k
length_lengths {k} g = length-take-le (count_of k) k.lengths (omega (arith, g.few, g.lengths))

-- all that is kept fits the bytes lent
pub size_fits : {k : Store} → Good k → size (lengths_of k) ≤ length k.packets
unfolding places payload_size
size_fits {k} g = let l = size_within (lengths_of k) g.within in omega (arith, length_lengths g, g.few, g.packets)

-- .. and is moved in one part of at most 131,072 bytes
pub size_small : {k : Store} → Good k → size (lengths_of k) ≤ 131072
unfolding places payload_size
size_small {k} g = let l = size_within (lengths_of k) g.within in omega (arith, length_lengths g, g.few)

-- what the test lets a call rely on: its cells and bytes lie within what is lent
pub room : (k : Store) → well_formed k ≡ true
    → (count_of k ≤ 64) × (count_of k ≤ length k.numbers) × (count_of k ≤ length k.lengths) × (size (lengths_of k) ≤ length k.packets)
unfolding places
room k h = let g = good h in (g.few, omega (arith, g.few, g.numbers), omega (arith, g.few, g.lengths), size_fits g)

-- ---- rising numbers

rising-drop : (n : ℕ) (xs : List ℕ) → rising xs ≡ true → rising (drop n xs) ≡ true
unfolding rising
rising-drop zero xs h = h
rising-drop (suc n) [] h = h
rising-drop (suc n) (x ∷ []) h = rising-drop n [] refl
rising-drop (suc n) (x ∷ y ∷ ys) h = rising-drop n (y ∷ ys) (both (ltb x y) (rising (y ∷ ys)) h).1

below-drop : (next n : ℕ) (xs : List ℕ) → all_below next xs ≡ true → all_below next (drop n xs) ≡ true
unfolding all_below
below-drop next zero xs h = h
below-drop next (suc n) [] h = h
below-drop next (suc n) (x ∷ xs) h = below-drop next n xs (both (ltb x next) (all_below next xs) h).1

within_drop : (limit n : ℕ) (xs : List ℕ) → all_within limit xs ≡ true → all_within limit (drop n xs) ≡ true
unfolding all_within
within_drop limit zero xs h = h
within_drop limit (suc n) [] h = h
within_drop limit (suc n) (x ∷ xs) h = within_drop limit n xs (both (leb x limit) (all_within limit xs) h).1

rising-counting : (n c : ℕ) → rising (counting n c) ≡ true
unfolding rising counting
rising-counting n zero = refl
rising-counting n (suc zero) = refl
rising-counting n (suc (suc c)) = rw (lt-ltb n (suc n) (omega arith)) (rising-counting (suc n) (suc c))

-- numbers below n, and then n and those after it
rising-append : (n c : ℕ) (xs : List ℕ) → rising xs ≡ true → all_below n xs ≡ true → rising (xs ++ counting n c) ≡ true
unfolding rising all_below counting
rising-append n c [] h b = rising-counting n c
rising-append n zero (x ∷ []) h b = refl
rising-append n (suc c) (x ∷ []) h b = rw (both (ltb x n) true b).0 (rising-counting n (suc c))
rising-append n c (x ∷ y ∷ ys) h b =
    let u = both (ltb x y) (rising (y ∷ ys)) h in
    rw u.0 (rising-append n c (y ∷ ys) u.1 (both (ltb x n) (all_below n (y ∷ ys)) b).1)

below-counting : (n c m : ℕ) → n + c ≤ m → all_below m (counting n c) ≡ true
unfolding all_below counting
below-counting n zero m h = refl
below-counting n (suc c) m h = rw (lt-ltb n m (omega arith)) (below-counting (suc n) c m (omega arith))

below-append : (n c : ℕ) (xs : List ℕ) → all_below n xs ≡ true → all_below (n + c) (xs ++ counting n c) ≡ true
unfolding all_below
below-append n c [] h = below-counting n c (n + c) (omega arith)
below-append n c (x ∷ xs) h =
    let u = both (ltb x n) (all_below n xs) h in
    let l = ltb-true x n u.0 in
    rw (lt-ltb x (n + c) (omega arith)) (below-append n c xs u.1)

within_append : (limit : ℕ) (xs ys : List ℕ) → all_within limit xs ≡ true → all_within limit ys ≡ true → all_within limit (xs ++ ys) ≡ true
unfolding all_within
within_append limit [] ys h g = g
within_append limit (x ∷ xs) ys h g = let u = both (leb x limit) (all_within limit xs) h in rw u.0 (within_append limit xs ys u.1 g)

-- all are below a greater next number too
below_up : (next more : ℕ) (xs : List ℕ) → next ≤ more → all_below next xs ≡ true → all_below more xs ≡ true
unfolding all_below
below_up next more [] l h = refl
below_up next more (x ∷ xs) l h =
    let u = both (ltb x next) (all_below next xs) h in
    let m = ltb-true x next u.0 in
    rw (lt-ltb x more (omega arith)) (below_up next more xs l u.1)

pub next_up : (next more : ℕ) (k : Store) → next ≤ more → well_formed_below next k ≡ true → well_formed_below more k ≡ true
next_up next more k l h = let g = below_good next h in below_is more g.0 (below_up next more (numbers_of k) l g.1)

-- of rising numbers the last is the greatest
below_last : (next x : ℕ) (xs : List ℕ) → rising (x ∷ xs) ≡ true → all_below next (x ∷ xs) ≡ ltb (get_or (x ∷ xs) (length xs) 0) next
unfolding rising all_below
below_last next x [] h = and-true (ltb x next)
below_last next x (y ∷ ys) h =
    let u = both (ltb x y) (rising (y ∷ ys)) h in
    let up = ltb-true x y u.0 in
    let last = get_or (y ∷ ys) (length ys) 0 in
    let most = first_last y ys u.1 in
    rw (below_last next y ys u.1) (by last (ltb last next) refl (omega arith))
  where
    by : (last : ℕ) (t : Bool) → ltb last next ≡ t → x < last → (ltb x next && ltb last next) ≡ ltb last next
    by last true e l = let m = ltb-true last next e in rw (lt-ltb x next (omega arith))
    by last false e l = rw e (and-false (ltb x next))

below_end : (next : ℕ) (xs : List ℕ) → rising xs ≡ true → 0 < length xs → all_below next xs ≡ ltb (get_or xs (length xs - 1) 0) next
below_end next [] h l = absurd (omega arith)
below_end next (x ∷ xs) h l = let z : suc (length xs) - 1 ≡ length xs = omega arith in rw z (below_last next x xs h)

-- the test with a next number: of a store with no packets, and of one whose last number is compared
pub below_none : (next : ℕ) (k : Store) → well_formed k ≡ true → count_of k ≡ 0 → well_formed_below next k ≡ true
unfolding well_formed_below all_below
below_none next k h e = rw (h, e)

pub below_by_last : (next : ℕ) (k : Store) → well_formed k ≡ true → 0 < count_of k → well_formed_below next k ≡ ltb (get_or k.numbers (count_of k - 1) 0) next
unfolding well_formed_below
below_by_last next k h l =
    let g = good h in
    let long = length-numbers g in
    rw (h, below_end next (numbers_of k) g.rises (rw long l), long, get_or-take (count_of k) k.numbers (count_of k - 1) 0 (omega arith))

-- ---- packets kept

length_map_number : (ps : List Packet) → length (map number_in ps) ≡ length ps
length_map_number [] = refl
length_map_number (p ∷ ps) = ap suc (length_map_number ps)

length_map_length : (ps : List Packet) → length (map length_in ps) ≡ length ps
length_map_length [] = refl
length_map_length (p ∷ ps) = ap suc (length_map_length ps)

-- the bytes of packets are as many as their lengths say
pub size-joined : (ps : List Packet) → length (joined ps) ≡ size (map length_in ps)
unfolding joined size
size-joined [] = refl
size-joined (p ∷ ps) =
    length-append (packet_bytes p) (joined ps) ∙ omega (arith, size-joined ps, length-append (header_bytes p.header) p.payload, length-header p.header)

-- .. and end at each packet
pub joined-drop : (n : ℕ) (ps : List Packet) → drop (size (take n (map length_in ps))) (joined ps) ≡ joined (drop n ps)
unfolding joined size
joined-drop zero ps = refl
joined-drop (suc n) [] = refl
joined-drop (suc n) (p ∷ ps) =
    let long : length (packet_bytes p) ≡ 20 + length_in p = length-append (header_bytes p.header) p.payload ∙ rw (length-header p.header) in
    sym (drop-drop (size (take n (map length_in ps))) (20 + length_in p) (packet_bytes p ++ joined ps))
    ∙ ap (drop (size (take n (map length_in ps)))) (drop_at (packet_bytes p) (joined ps) (20 + length_in p) long) ∙ joined-drop n ps

-- as many packets as places free, each of at most 1,500 bytes, numbered from the next number on
pub record Keepable (next : ℕ) (k : Store) (ps : List Packet) : Type 0 where
  pub room : count_of k + length ps ≤ places
  pub numbered : map number_in ps ≡ counting next (length ps)
  pub small : all_within payload_size (map length_in ps) ≡ true

pub record Keeps (next : ℕ) (k : Store) (ps : List Packet) : Type 0 where
  pub numbers : numbers_of (keeping k ps) ≡ numbers_of k ++ map number_in ps
  pub lengths : lengths_of (keeping k ps) ≡ lengths_of k ++ map length_in ps
  pub bytes : bytes_of (keeping k ps) ≡ bytes_of k ++ joined ps
  pub well : well_formed_below (next + length ps) (keeping k ps) ≡ true

module _ (next : ℕ) {k : Store} (ps : List Packet) (h : well_formed_below next k ≡ true) (c : Keepable next k ps) where
  kept_lengths : lengths_of (keeping k ps) ≡ lengths_of k ++ map length_in ps
  unfolding keeping
  kept_lengths = let g = (below_good next h).0 in take_behind k.lengths (map length_in ps) (count_of k) (length ps) (omega (arith, c.room, g.lengths)) (length_map_length ps)

  kept-size : size (lengths_of (keeping k ps)) ≡ size (lengths_of k) + length (joined ps)
  kept-size = rw (kept_lengths, size-joined) (size-append (lengths_of k) (map length_in ps))

  pub kept_fits : size (lengths_of k) + length (joined ps) ≤ length k.packets
  unfolding places payload_size
  kept_fits =
      let g = (below_good next h).0 in
      let all = within_append payload_size (lengths_of k) (map length_in ps) g.within c.small in
      let most = size_within (lengths_of k ++ map length_in ps) all in
      omega (arith, size-append (lengths_of k) (map length_in ps), size-joined ps, length-append (lengths_of k) (map length_in ps), length_lengths g, length_map_length ps, c.room, g.packets)

  pub keeps : Keeps next k ps
  unfolding keeping
  keeps =
      let g = (below_good next h).0 in
      let numbers : numbers_of (keeping k ps) ≡ numbers_of k ++ map number_in ps =
      take_behind k.numbers (map number_in ps) (count_of k) (length ps) (omega (arith, c.room, g.numbers)) (length_map_number ps) in
      record {
        numbers = numbers;
        lengths = kept_lengths;
        bytes = rw kept-size (take_behind k.packets (joined ps) (size (lengths_of k)) (length (joined ps)) kept_fits refl);
        well = below_is (next + length ps)
            (record {
              numbers = rw (length-paste k.numbers (count_of k) (map number_in ps) (length ps) (omega (arith, c.room, g.numbers)) (omega (arith, length_map_number ps))) g.numbers;
              lengths = rw (length-paste k.lengths (count_of k) (map length_in ps) (length ps) (omega (arith, c.room, g.lengths)) (omega (arith, length_map_length ps))) g.lengths;
              packets = rw (length-paste k.packets (size (lengths_of k)) (joined ps) (length (joined ps)) kept_fits (omega arith)) g.packets;
              few = c.room;
              rises = rw (numbers, c.numbered) (rising-append next (length ps) (numbers_of k) g.rises (below_good next h).1);
              within = rw kept_lengths (within_append payload_size (lengths_of k) (map length_in ps) g.within c.small);
            })
            (rw (numbers, c.numbered) (below-append next (length ps) (numbers_of k) (below_good next h).1));
      }

-- ---- packets dropped

within_up_to : (last : ℕ) (xs : List ℕ) → up_to last xs ≤ length xs
unfolding up_to
within_up_to last [] = zero-le
within_up_to last (x ∷ xs) = by (leb x last) (within_up_to last xs)
  where
    by : (t : Bool) → up_to last xs ≤ length xs → cond t (suc (up_to last xs)) 0 ≤ suc (length xs)
    by true h = suc-le-suc h
    by false h = zero-le

-- of numbers in a row, those up to the last one answered
pub up_to-counting : (n c last : ℕ) → n ≤ last + 1 → last + 1 ≤ n + c → up_to last (counting n c) ≡ last + 1 - n
unfolding up_to counting
up_to-counting n zero last l u = omega arith
up_to-counting n (suc c) last l u = by (leb n last) refl (up_to-counting (suc n) c last)
  where
    by : (t : Bool) → leb n last ≡ t → (suc n ≤ last + 1 → last + 1 ≤ suc n + c → up_to last (counting (suc n) c) ≡ last + 1 - suc n)
        → cond t (suc (up_to last (counting (suc n) c))) 0 ≡ last + 1 - n
    by true e ih = let m = leb-true n last e in omega (arith, ih (omega arith) (omega arith))
    by false e ih = let m = leb-false n last e in omega arith

size-split : (n : ℕ) (ls : List ℕ) → size (take n ls) + size (drop n ls) ≡ size ls
size-split n ls = sym (size-append (take n ls) (drop n ls)) ∙ ap size (take-append-drop n ls)

pub record Drops (k : Store) (n : ℕ) : Type 0 where
  pub numbers : numbers_of (without n k) ≡ drop n (numbers_of k)
  pub lengths : lengths_of (without n k) ≡ drop n (lengths_of k)
  pub bytes : bytes_of (without n k) ≡ drop (size (take n (lengths_of k))) (bytes_of k)
  pub well : (next : ℕ) → all_below next (numbers_of k) ≡ true → well_formed_below next (without n k) ≡ true

module _ {k : Store} (n : ℕ) (g : Good k) (few : n ≤ count_of k) where
  dropped_lengths : lengths_of (without n k) ≡ drop n (lengths_of k)
  unfolding without
  dropped_lengths = take-front k.lengths (count_of k) n few (omega (arith, g.few, g.lengths))

  pub sizes : size (take n k.lengths) + size (drop n (lengths_of k)) ≡ size (lengths_of k)
  sizes = rw (← take-take n (count_of k) k.lengths few) (size-split n (lengths_of k))

  pub drops : Drops k n
  unfolding without
  drops =
      let total = size_fits g in
      let numbers : numbers_of (without n k) ≡ drop n (numbers_of k) = take-front k.numbers (count_of k) n few (omega (arith, g.few, g.numbers)) in
      let rest : size (drop n (lengths_of k)) ≡ size (lengths_of k) - size (take n k.lengths) = omega (arith, sizes) in
      let part = take-front k.packets (size (lengths_of k)) (size (take n k.lengths)) (omega (arith, sizes)) total in
      record {
        numbers = numbers;
        lengths = dropped_lengths;
        bytes = rw (dropped_lengths, rest, take-take n (count_of k) k.lengths few) part;
        well = λ next below. below_is next
            (record {
              numbers = rw (length_front k.numbers n (count_of k - n) (omega (arith, g.few, g.numbers))) g.numbers;
              lengths = rw (length_front k.lengths n (count_of k - n) (omega (arith, g.few, g.lengths))) g.lengths;
              packets = rw (length_front k.packets (size (take n k.lengths)) (size (drop n (lengths_of k))) (omega (arith, sizes))) g.packets;
              few = omega (arith, g.few);
              rises = rw numbers (rising-drop n (numbers_of k) g.rises);
              within = rw dropped_lengths (within_drop payload_size n (lengths_of k) g.within);
            })
            (rw numbers (below-drop next n (numbers_of k) below));
      }

-- an answer drops so many packets
pub answering_is : (k : Store) → well_formed k ≡ true → (last : ℕ) → answering k last ≡ (answers tt, without (up_to last (numbers_of k)) k)
unfolding answering
answering_is k h last = rw h

pub answered_few : {k : Store} → Good k → (last : ℕ) → up_to last (numbers_of k) ≤ count_of k
answered_few {k} g last = omega (arith, length-numbers g, within_up_to last (numbers_of k))

-- a well-formed store, and a buffer long enough: what is listed
pub listing_is : (k : Store) (out : List ℕ) → well_formed k ≡ true → size (lengths_of k) ≤ length out
    → listing k out ≡ (answers (count_of k), paste out 0 (bytes_of k) (size (lengths_of k)))
unfolding listing
listing_is k out h room = rw (h, le-ltb (length out) (size (lengths_of k)) room)

-- .. and of one too short
pub listing_short : (k : Store) (out : List ℕ) → well_formed k ≡ true → length out < size (lengths_of k) → listing k out ≡ (refuses 10, out)
unfolding listing
listing_short k out h short = rw (h, lt-ltb (length out) (size (lengths_of k)) short)

-- ---- what each call's steps come to

-- the bytes of packets in front are among those of all
pub gone_within : (k : Store) (n : ℕ) → well_formed k ≡ true → n ≤ count_of k → size (take n k.lengths) ≤ size (lengths_of k)
gone_within k n h few = omega (arith, sizes n (good h) few)

pub dropped_law : (k : Store) (n gone total : ℕ) (ns ls bs : List ℕ) → well_formed k ≡ true → n ≤ count_of k
    → gone ≡ size (take n k.lengths) → total ≡ size (lengths_of k)
    → ns ≡ paste k.numbers 0 (drop n k.numbers) (count_of k - n) → ls ≡ paste k.lengths 0 (drop n k.lengths) (count_of k - n)
    → bs ≡ paste k.packets 0 (drop gone k.packets) (total - gone)
    → store_of (record { count = count_of k - n }) ns ls bs ≡ without n k
unfolding without
dropped_law k n gone total ns ls bs well few eg et ens els eb =
    let rest : total - gone ≡ size (drop n (lengths_of k)) = omega (arith, sizes n (good well) few) in
    rw (eb, ens, els, rest, eg)

pub kept_law : (k : Store) (next q c total : ℕ) (datagram bs ns ls : List ℕ) → total ≡ size (lengths_of k)
    → bs ≡ paste k.packets total datagram (length datagram)
    → ns ≡ paste k.numbers (count_of k) (counting next c) c → ls ≡ paste k.lengths (count_of k) (sizes_for q c) c
    → store_of (record { count = count_of k + c }) ns ls bs ≡ kept_as k next q c datagram
unfolding kept_as
kept_law k next q c total datagram bs ns ls et eb ens els = rw (eb, ens, els, et)

-- what packing keeps: `keeping`'s store, where the packets' numbers and lengths are these
pub kept_is : (k : Store) (next q : ℕ) (ps : List Packet) → map number_in ps ≡ counting next (length ps) → map length_in ps ≡ sizes_for q (length ps)
    → kept_as k next q (length ps) (joined ps) ≡ keeping k ps
unfolding kept_as keeping
kept_is k next q ps en el = rw (en, el)
