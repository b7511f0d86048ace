-- The store's side of demand 3: it has the packets outstanding. A packing adds those that it makes, a consume of the window drops those that it answers, and a
-- listing gives what is left. Document 02, §3.
-- Assumes nothing.
use Prim.Native.Nat.{ℕ, zero, suc, ◌+◌, ◌-◌, ◌≤◌, ◌<◌, zero-le}
use mathlib.Core.Path.{◌≡◌, refl, sym, ap, ◌∙◌}
use mathlib.Core.Bool.{true, false}
use mathlib.Core.Option.{Option}
use mathlib.Core.List.{List, [], ◌∷◌, ◌++◌, map, map-append, append_assoc}
use native.Mathlib.Omega.{arith}
use native.Mathlib.Nat.{add-zero}
use lib.ListN.{length, take, drop, length-map}
use lib.Seq.{paste, drop-drop, drop-append-le, length-take-le}
use lib.Dec.{leb}
use borrow.Author.Tests.{le-leb, lt-leb}
use Rattle.refusal.specs.Said.{answers, refuses, refusal_in}
use Rattle.lists.specs.Rising.{rising}
use Rattle.lists.specs.Within.{all_within}
use Rattle.lists.proofs.Order.{either}
use Rattle.packet.specs.Packet.{Packet, packet_bytes, joined}
use Rattle.outstanding.specs.Outstanding.{places, Store, count_of, numbers_of, lengths_of, size, all_below, roomy, number_in, length_in, keeping, listing, up_to, answering}
use Rattle.outstanding.specs.Steps.{counting}
use Rattle.outstanding.proofs.Laws.{Good, good_is, below_good, below_is, roomy_is, next_up, size-joined, joined-drop, Keepable, keeps, up_to-counting, drops}
use Rattle.outstanding.proofs.Laws.{answering_is, answered_few, listing_is, listing_short}
use Rattle.window.specs.Window.{Outcome, consume}
use Rattle.window.proofs.Calls as calls
use Rattle.link.specs.Demand3.{SenderSide, WindowSide, WindowCall, insert, insert_run, consume_window, Link, Memory, Called, empty_store, with_kept, answered_by, hears_of, expects_after}
use Rattle.link.specs.Demand3.{call_window, In, key, numbered_on, outstanding_on, Resends}
use Rattle.link.proofs.All.{only}
use Rattle.link.proofs.Invariant.{numbered_from, SenderKeeps, StoreKeeps, WindowKeeps, Keeps}
use Rattle.link.proofs.Window.{consume_keeps, expects_within}

-- ---- lists

pub map-drop : {A B : Type 0} (f : A → B) (i : ℕ) (xs : List A) → map f (drop i xs) ≡ drop i (map f xs)
map-drop f zero xs = refl
map-drop f (suc i) [] = refl
map-drop f (suc i) (x ∷ xs) = map-drop f i xs

drop-nil : {A : Type 0} (i : ℕ) → ◌≡◌ {A = List A} (drop i []) []
drop-nil zero = refl
drop-nil (suc i) = refl

joined-append : (a b : List Packet) → joined (a ++ b) ≡ joined a ++ joined b
unfolding joined
joined-append [] b = refl
joined-append (p ∷ a) b = rw (joined-append a b) (sym (append_assoc (packet_bytes p) (joined a) (joined b)))

counting-drop : (n i c : ℕ) → drop i (counting n c) ≡ counting (n + i) (c - i)
unfolding counting
counting-drop n zero c = let z : c - 0 ≡ c = omega arith in rw (add-zero, z)
counting-drop n (suc i) zero = let z : 0 - suc i ≡ 0 = omega arith in rw z
counting-drop n (suc i) (suc c) =
    let z : suc n + i ≡ n + suc i = omega arith in
    let y : suc c - suc i ≡ c - i = omega arith in
    counting-drop (suc n) i c ∙ rw (z, y)

-- ---- packets with payloads numbered from n on

-- their numbers
numbers_keyed : (n : ℕ) (ps : List Packet) (xs : List (List ℕ)) → map key ps ≡ numbered_from n xs → map number_in ps ≡ counting n (length ps)
unfolding numbered_from counting
numbers_keyed n [] xs e = refl
numbers_keyed n (p ∷ ps) [] e = absurd (let z : ◌≡◌ {A = ℕ} 0 1 = cc in omega arith)
numbers_keyed n (p ∷ ps) (x ∷ xs) e =
    let first : key p ≡ (n, x) = cc in
    let rest : map key ps ≡ numbered_from (suc n) xs = cc in
    rw (ap (λ (q : ℕ × List ℕ). q.0) first) (ap (λ (r : List ℕ). n ∷ r) (numbers_keyed (suc n) ps xs rest))

-- how many they are
pub length_keyed : (n : ℕ) (ps : List Packet) (xs : List (List ℕ)) → map key ps ≡ numbered_from n xs → length ps ≡ length xs
unfolding numbered_from
length_keyed n [] [] e = refl
length_keyed n [] (x ∷ xs) e = absurd (let z : ◌≡◌ {A = ℕ} 0 1 = cc in omega arith)
length_keyed n (p ∷ ps) [] e = absurd (let z : ◌≡◌ {A = ℕ} 0 1 = cc in omega arith)
length_keyed n (p ∷ ps) (x ∷ xs) e = ap suc (length_keyed (suc n) ps xs (cc))

-- those with number e and later ones
all_on : (e n : ℕ) (ps : List Packet) (xs : List (List ℕ)) → map key ps ≡ numbered_from n xs → e ≤ n → numbered_on e ps ≡ ps
unfolding numbered_from numbered_on
all_on e n [] xs k l = refl
all_on e n (p ∷ ps) [] k l = absurd (let z : ◌≡◌ {A = ℕ} 0 1 = cc in omega arith)
all_on e n (p ∷ ps) (x ∷ xs) k l =
    let first : key p ≡ (n, x) = cc in
    let number : p.header.packet_number ≡ n = ap (λ (q : ℕ × List ℕ). q.0) first in
    let here : leb e p.header.packet_number ≡ true = rw number (le-leb e n l) in
    rw here (ap (λ (r : List Packet). p ∷ r) (all_on e (suc n) ps xs (cc) (omega arith)))

numbered_on_lem : (e n : ℕ) (ps : List Packet) (xs : List (List ℕ)) → map key ps ≡ numbered_from n xs → n ≤ e → numbered_on e ps ≡ drop (e - n) ps
unfolding numbered_from numbered_on
numbered_on_lem e n [] xs k l = sym (drop-nil (e - n))
numbered_on_lem e n (p ∷ ps) [] k l = absurd (let z : ◌≡◌ {A = ℕ} 0 1 = cc in omega arith)
numbered_on_lem e n (p ∷ ps) (x ∷ xs) k l =
    let first : key p ≡ (n, x) = cc in
    let number : p.header.packet_number ≡ n = ap (λ (q : ℕ × List ℕ). q.0) first in
    let rest : map key ps ≡ numbered_from (suc n) xs = cc in
    either e n
    (λ h.
    let here : leb e p.header.packet_number ≡ true = rw number (le-leb e n h) in
    let none_before : e - n ≡ 0 = omega arith in
    rw (here, none_before, all_on e (suc n) ps xs rest (omega arith)))
    (λ h.
    let here : leb e p.header.packet_number ≡ false = rw number (lt-leb e n h) in
    let one_more : e - n ≡ suc (e - suc n) = omega arith in
    rw (here, one_more) (numbered_on_lem e (suc n) ps xs rest (omega arith)))

-- ---- the store

pub store_begins : (s : ℕ) (m : Memory) → roomy m.numbers m.payload_lengths m.packets ≡ true → StoreKeeps s [] (empty_store m)
unfolding all_below rising all_within size joined
store_begins s m room =
    let r = roomy_is m.numbers m.payload_lengths m.packets room in
    record {
      well = below_is s {k = empty_store m} (record { numbers = r.0; lengths = r.1; packets = r.2; few = zero-le; rises = refl; within = refl }) refl;
      numbers = refl;
      lengths = refl;
      bytes = refl;
    }

-- a packing adds the packets that it makes
pub store_packs : {next : ℕ} {k : Store} (x : ℕ) (made ps : List Packet) → x ≤ length made → StoreKeeps next (drop x made) k → Keepable next k ps
    → StoreKeeps (next + length ps) (drop x (made ++ ps)) (keeping k ps)
store_packs {next} {k} x made ps within v fits =
    let a = keeps next ps v.well fits in
    let all : drop x (made ++ ps) ≡ drop x made ++ ps = drop-append-le x made ps within in
    record {
      well = a.well;
      numbers = rw (all, map-append, ← v.numbers) a.numbers;
      lengths = rw (all, map-append, ← v.lengths) a.lengths;
      bytes = rw (all, joined-append, ← v.bytes) a.bytes;
    }

-- a FIN's number makes the next one greater
pub store_up : {next : ℕ} {ps : List Packet} {k : Store} (more : ℕ) → next ≤ more → StoreKeeps next ps k → StoreKeeps more ps k
store_up {next} {ps} {k} more l v = record { well = next_up next more k l v.well; numbers = v.numbers; lengths = v.lengths; bytes = v.bytes }

module _ {next : ℕ} {ps : List Packet} {k : Store} (v : StoreKeeps next ps k) where
  store_good : Good k
  store_good = (below_good next v.well).0

  pub store_counts : count_of k ≡ length ps
  store_counts =
      sym (length-take-le (count_of k) k.numbers (omega (arith, store_good.few, store_good.numbers))) ∙ rw v.numbers (length-map ps number_in)

  pub store_few : length ps ≤ places
  store_few = omega (arith, store_counts, store_good.few)

  store_size : size (lengths_of k) ≡ length (joined ps)
  store_size = rw v.lengths (sym (size-joined ps))

  store_lists : (out : List ℕ) → length (joined ps) ≤ length out → listing k out ≡ (answers (length ps), paste out 0 (joined ps) (length (joined ps)))
  store_lists out room =
      listing_is k out (good_is store_good) (omega (arith, store_size)) ∙ rw (v.bytes, store_size, store_counts)

  store_short : (out : List ℕ) → length out < length (joined ps) → listing k out ≡ (refuses 10, out)
  store_short out short = listing_short k out (good_is store_good) (omega (arith, store_size))

  -- of a well-formed store no listing and no dropping answers 12
  pub list_never : (out : List ℕ) → refusal_in (listing k out).0 ≡ 12 → ⊥
  list_never out = either (length (joined ps)) (length out)
      (λ room e. let z : ◌≡◌ {A = ℕ} 0 12 = rw (store_lists out room) at e in omega arith)
      (λ short e. let z : ◌≡◌ {A = ℕ} 10 12 = rw (store_short out short) at e in omega arith)

  pub drop_never : (last : ℕ) → refusal_in (answering k last).0 ≡ 12 → ⊥
  drop_never last e = let z : ◌≡◌ {A = ℕ} 0 12 = rw (answering_is k (good_is store_good) last) at e in omega arith

-- ---- a consume of the window

-- the sender's side, but for the store
pub kept_keeps : {s : ℕ} {payloads : List (List ℕ)} {d : SenderSide} (k : Store) → SenderKeeps s payloads d → SenderKeeps s payloads (with_kept k d)
kept_keeps k v = record {
  made = v.made;
  filled = v.filled;
  small = v.small;
  stream = v.stream;
  adds_up = v.adds_up;
  unclosed = v.unclosed;
  above = v.above;
  fits = v.fits;
}

-- what a window's call leaves of the sender's side, where the window expects e then
pub record HearsDoes (s : ℕ) (payloads : List (List ℕ)) (e : ℕ) (c : Called SenderSide) : Type 0 where
  pub keeps : SenderKeeps s payloads c.left
  pub store : StoreKeeps c.left.next (drop (e - s) c.left.made) c.left.kept
  pub never12 : In 12 c.refusals → ⊥

module _ {s f : ℕ} {payloads : List (List ℕ)} {w : WindowSide} {d : SenderSide} (sender : SenderKeeps s payloads d) (window : WindowKeeps s f w) (low : s ≤ f)
    (within : f ≤ s + length payloads) (store : StoreKeeps d.next (drop (w.expects - s) d.made) d.kept) where
  hears_none : HearsDoes s payloads w.expects (record { refusals = []; left = d })
  unfolding In
  hears_none = record { keeps = sender; store = store; never12 = λ h. h }

  -- the packets up to the last number answered are dropped
  dropped : (last : ℕ) → w.expects ≤ last + 1 → last + 1 ≤ f → StoreKeeps d.next (drop (last + 1 - s) d.made) (answering d.kept last).1
  dropped last up end =
      let k = d.kept in
      let made = d.made in
      let x = w.expects - s in
      let from : s ≤ w.expects = rw window.expects window.from in
      let total : length made ≡ length payloads = length_keyed s made payloads sender.made in
      let numbers : numbers_of k ≡ counting (s + x) (length made - x) =
      store.numbers ∙ map-drop number_in x made ∙ rw (numbers_keyed s made payloads sender.made) (counting-drop s x (length made)) in
      let y = up_to last (numbers_of k) in
      let count : y ≡ last + 1 - (s + x) = rw numbers (up_to-counting (s + x) (length made - x) last (omega arith) (omega arith)) in
      let sum : x + y ≡ last + 1 - s = omega arith in
      let rest : drop y (drop x made) ≡ drop (last + 1 - s) made = drop-drop y x made ∙ rw sum in
      let g = store_good store in
      let after = drops y g (answered_few g last) in
      rw (answering_is k (good_is g) last) (record {
        well = after.well d.next (below_good d.next store.well).1;
        numbers = after.numbers ∙ ap (drop y) store.numbers ∙ sym (map-drop number_in y (drop x made)) ∙ ap (map number_in) rest;
        lengths = after.lengths ∙ ap (drop y) store.lengths ∙ sym (map-drop length_in y (drop x made)) ∙ ap (map length_in) rest;
        bytes =
            after.bytes ∙ ap (drop (size (take y (lengths_of k)))) store.bytes ∙ ap (λ (ls : List ℕ). drop (size (take y ls)) (joined (drop x made))) store.lengths
            ∙ joined-drop y (drop x made) ∙ ap joined rest;
      })

  hears_consume : HearsDoes s payloads (call_window w consume_window).left.expects (hears_of w consume_window d)
  hears_consume =
      by (consume w.state w.cells) (calls.consume_law w.state w.cells window.good).0 (expects_within (consume_keeps window) low)
    where
      by : (o : Outcome (Option (ℕ × ℕ))) → calls.Consumption w.state w.cells o → expects_after o.0 w.expects ≤ f
          → HearsDoes s payloads (expects_after o.0 w.expects) (answered_by o.0 d)
      by o (calls.run last size q any sum up run end kept) u =
          let past : last + 1 ≤ f = rw q at u in
          rw q (record {
            keeps = kept_keeps _ sender;
            store = dropped last (omega (arith, window.expects)) past;
            never12 = λ h. drop_never store last (sym (only h));
          })
      by o (calls.nothing q end) u = rw q hears_none

  pub hears_does : (c : WindowCall) → HearsDoes s payloads (call_window w c).left.expects (hears_of w c d)
  hears_does (insert n) = hears_none
  hears_does (insert_run base count) = hears_none
  hears_does consume_window = hears_consume

-- ---- what is claimed

module _ {s : ℕ} {l : Link} (v : Keeps s l) where
  -- those outstanding are the packets made but for the first ones
  pub outstanding_is : outstanding_on l ≡ drop (l.acked.expects - s) l.sender.made
  outstanding_is = numbered_on_lem l.acked.expects s l.sender.made v.payloads v.sender.made (rw v.acked.expects v.acked.from)

  pub resends : Resends l
  unfolding places
  resends = record { few = rw outstanding_is (store_few v.store); lists = rw outstanding_is (store_lists v.store); short = rw outstanding_is (store_short v.store) }
