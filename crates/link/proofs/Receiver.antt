-- The receiver's side of demand 3: each call on it keeps its part of the invariant and is not refused with 12, a read that says 8 leaves nothing
-- to give, and reads come to that. Payloads may be empty but at an 8 of `consume`, which takes the empty packets that it meets and counts none.
-- Assumes nothing.
use Prim.Native.Nat.{ℕ, zero, suc, ◌+◌, ◌-◌, ◌≤◌, ◌<◌, zero-le, suc-le-suc}
use mathlib.Core.Path.{◌≡◌, refl, sym, ap, ◌∙◌}
use mathlib.Core.Logic.{◌⊎◌, inl, inr}
use mathlib.Core.Bool.{true, or-true, true≢false}
use mathlib.Core.Option.{Option, none, some}
use mathlib.Core.List.{List, [], ◌∷◌, ◌++◌, append_assoc, append-nil, flatten}
use native.Mathlib.Omega.{arith}
use native.Mathlib.Decide.{ℕ_discrete}
use native.Mathlib.Nat.{add-zero, add_assoc, le_refl}
use lib.ListN.{length, take, drop, set, get_or, replicate, get_elem?, length-append, length-drop}
use lib.Seq.{take-add, take-append-le, get_or-set_same, get_or-set_other}
use borrow.Author.Tests.{ltb-true, eq-eqb, ne_eqb}
use Rattle.refusal.specs.Said.{answers, refuses, refusal_in}
use Rattle.refusal.proofs.Checks.{Failed}
use Rattle.refusal.proofs.Among.{never, failed_among}
use Rattle.lists.specs.Numbers.{largest}
use Rattle.lists.proofs.Pad.{get_or_all, get_d_moved}
use Rattle.lists.proofs.Flatten.{flatten_append}
use Rattle.lists.proofs.Lookup.{lookup_append, lookup_drop}
use Rattle.packet.specs.Packet.{Packet}
use Rattle.packet.proofs.Walk.{parse_well}
use Rattle.ordered_bytes.specs.declared.OrderedBytes.{OrderedBytes}
use Rattle.ordered_bytes.specs.Receiver.{Receiver, is_held, place_at, accept_checks, accepted, payloads, consumed}
use Rattle.ordered_bytes.specs.Buffer.{Buffer, view, well_formed}
use Rattle.ordered_bytes.specs.Calls.{creating, ack_with, accepting, consuming, consuming_bytes}
use Rattle.lists.proofs.Order.{either}
use Rattle.ordered_bytes.proofs.View as buffer
use Rattle.ordered_bytes.proofs.View.{view-fresh, length-held}
use Rattle.ordered_bytes.proofs.Walk.{walk-full, consumed_part, consumed-whole, front_held_row}
use Rattle.ordered_bytes.proofs.Outcome.{Creating, makes, create_ways, Acceptable, Accepting, malformed, refused, stores, accept_ways}
use Rattle.ordered_bytes.proofs.Outcome.{Consuming, short, reads as takes-bytes, consume_ways}
use Rattle.ordered_bytes.proofs.Refused.{accept_never, peek_never, Ends, values, eight, ten, ends-eight, consume-ends, consume_never, consume_bytes_ends, consume_bytes_never}
use Rattle.ordered_bytes.proofs.Kept.{create_kept, accept-kept, consume-kept, consume_bytes_kept}
use Rattle.ordered_bytes.proofs.Reading.{accept_stores, Takes, Gives, Dry, Empties, consume_gives, consume-empty, consume_dry, consume-refused}
use Rattle.ordered_bytes.proofs.Reading.{consume_bytes_gives, consume_bytes_refused, consume_bytes_dry, weight, consume_lowers, consume_bytes_lowers}
use Rattle.window.specs.Window.{member}
use Rattle.link.specs.Demand3.{ReceiverSide, ReceiverCall, Parser, from_bytes, from_bytes_into, parsing, arrive, read, read_pieces, peek, Ack, Link, Memory, Call, on_receiver, Called, fresh}
use Rattle.link.specs.Demand3.{with_buffer, with_accepted, with_delivered, with_acks, with_counted, ack_of, ack_at5, accepted_one, accepted_all, accept_refusals, gave, call_receiver}
use Rattle.link.specs.Demand3.{indexed_on, refusals, step, run, In, All, MadeEarlier, FairReceiver, Reads, reads, reads_in_pieces, Stops}
use Rattle.link.proofs.All.{only, all_map, all_drop, all_append, all_among}
use Rattle.link.proofs.Invariant.{Below, ReceiverKeeps}

-- ---- lists

-- so many payloads, none empty, have so many bytes at least
filled_flatten : (c : ℕ) (ps : List (List ℕ)) → All (λ p. 0 < length p) ps → c ≤ length ps → c ≤ length (flatten (take c ps))
unfolding All flatten
filled_flatten zero ps f h = zero-le
filled_flatten (suc c) [] f h = absurd (omega arith)
filled_flatten (suc c) (p ∷ ps) f h = omega (arith, f.0, filled_flatten c ps f.1 (omega arith), length-append p (flatten (take c ps)))

-- ---- the packets at the front

-- c of them are held: where each held payload is the one at its place in a list, they are that list's first c
front_made : (c : ℕ) (h : List (Option (List ℕ))) (ps : List (List ℕ)) → ((i : ℕ) (p : List ℕ) → get_or h i none ≡ some p → get_elem? ps i ≡ some p)
    → length (payloads c h) ≡ c → (payloads c h ≡ take c ps) × (c ≤ length ps)
unfolding payloads
front_made zero h ps agrees e = (refl, zero-le)
front_made (suc c) [] ps agrees e = absurd (omega arith)
front_made (suc c) (none ∷ h) ps agrees e = absurd (omega arith)
front_made (suc c) (some p ∷ h) [] agrees e = absurd (let y = agrees 0 p refl in let z : ◌≡◌ {A = ℕ} 0 1 = cc in omega arith)
front_made (suc c) (some p ∷ h) (q ∷ ps) agrees e =
    let y = agrees 0 p refl in
    let same : q ≡ p = cc in
    let rest = front_made c h ps (λ i x u. agrees (suc i) x u) (omega arith) in
    (rw (same, rest.0), suc-le-suc rest.1)

-- ---- a fresh link, and more payloads made

-- nothing is held, carried over or accepted, whatever is made
pub receiver_begins : (s w : ℕ) (o : OrderedBytes) (m : Memory) (made : List (List ℕ))
    → (creating w s m.marks m.lengths m.store).said ≡ answers o → ReceiverKeeps s made 0 (fresh s w o m).receiver
unfolding member All flatten
receiver_begins s w o m made said = by (create_ways w s m.marks m.lengths m.store)
  where
    by : Creating w s m.marks m.lengths m.store → ReceiverKeeps s made 0 (fresh s w o m).receiver
    by (malformed bad e) = absurd (let z : ◌≡◌ {A = ℕ} 0 1 = cc in omega arith)
    by (makes h e) =
        let b = (fresh s w o m).receiver.buffer in
        let slots = length m.marks in
        let state : o ≡ (buffer.fresh w s m.marks m.lengths m.store).state = cc in
        let same : view b ≡ record { front = s; width = w; held = replicate slots none; carry = [] } =
        rw (state, e) (view-fresh w s m.marks m.lengths m.store) in
        let free : (i : ℕ) → place_at (view b) i ≡ none = λ i. rw same (get_or_all {A = Option (List ℕ)} none slots i) in
        record {
          good = create_kept w s m.marks m.lengths m.store said;
          front = rw (state, add-zero);
          within = zero-le;
          counts = refl;
          flow = rw same;
          below = λ i less. absurd (omega arith);
          marks = λ i. rw (free i);
          agrees = λ i p held. absurd (let y = free i in let z : ◌≡◌ {A = ℕ} 0 1 = cc in omega arith);
          acks = tt;
        }

pub receiver_extends : {s : ℕ} {made : List (List ℕ)} {k : ℕ} {d : ReceiverSide} (more : List (List ℕ)) → ReceiverKeeps s made k d → ReceiverKeeps s (made ++ more) k d
receiver_extends {made = made} {k = k} more keeps = record {
  good = keeps.good;
  front = keeps.front;
  within = omega (arith, keeps.within, length-append made more);
  counts = keeps.counts;
  flow = rw (take-append-le k made more keeps.within) keeps.flow;
  below = keeps.below;
  marks = keeps.marks;
  agrees = λ i p held. lookup_append made more (k + i) (keeps.agrees i p held);
  acks = keeps.acks;
}

-- ---- accepting

-- an ack of c numbers from s on, all below f
ack-below : (s f base c : ℕ) → s ≤ base → base + c ≤ f → All (Below s f) (ack_of base c)
unfolding All
ack-below s f base zero low high = tt
ack-below s f base (suc c) low high = ((low, high), tt)

-- a packet whose payload is the one made with its number, where those made are numbered from s on
abbrev pub Numbered : ℕ → List (List ℕ) → Packet → Type 0
Numbered s made p =
    let n = p.header.packet_number in
    (s ≤ n) × (get_elem? made (n - s) ≡ some p.payload) × (n ≤ largest)

module _ (h : List (Option (List ℕ))) (i : ℕ) (payload : List ℕ) (near : i < length h) where
  -- a payload more is held at distance i, and its number was accepted
  set_marks : (front n : ℕ) (numbers : List ℕ) → n ≡ front + i → ((j : ℕ) → is_held (get_or h j none) ≡ member (front + j) numbers)
      → (j : ℕ) → is_held (get_or (set h i (some payload)) j none) ≡ member (front + j) (n ∷ numbers)
  unfolding member
  set_marks front n numbers number marks j =
      elim (ℕ_discrete j i) [
        | yes q ↦ rw (q, get_or-set_same h i (some payload) none near, eq-eqb n (front + i) number)
        | no q ↦ rw (get_or-set_other h i j (some payload) none q, ne_eqb n (front + j) (λ e. q (omega arith))) (marks j)
      ]

  set_agrees : (made : ℕ → Option (List ℕ)) → made i ≡ some payload → ((j : ℕ) (p : List ℕ) → get_or h j none ≡ some p → made j ≡ some p)
      → (j : ℕ) (p : List ℕ) → get_or (set h i (some payload)) j none ≡ some p → made j ≡ some p
  set_agrees made here agrees j p held =
      elim (ℕ_discrete j i) [
        | yes q ↦ rw q (here ∙ sym (get_or-set_same h i (some payload) none near) ∙ rw q at held)
        | no q ↦ agrees j p (sym (get_or-set_other h i j (some payload) none q) ∙ held)
      ]

pub front_of : (b : Buffer) → (view b).front ≡ b.state.front_number
unfolding view
front_of b = refl

front-after : (after : Buffer) {r : Receiver} → view after ≡ r → after.state.front_number ≡ r.front
unfolding view
front-after after same = ap (λ (r : Receiver). r.front) same

module _ {s : ℕ} {made : List (List ℕ)} {k : ℕ} where
  stored_keeps : {d : ReceiverSide} {after : Buffer} {n : ℕ} {payload : List ℕ} → get_elem? made (n - s) ≡ some payload → ReceiverKeeps s made k d
      → Acceptable d.buffer n payload → view after ≡ accepted (view d.buffer) n payload → well_formed after ≡ true
      → ReceiverKeeps s made k (with_buffer after (with_accepted (n ∷ d.accepted) d))
  unfolding member
  stored_keeps {d} {after} {n} {payload} carries keeps a same well =
      let held = (view d.buffer).held in
      let i = n - (view d.buffer).front in
      let near : i < length held = rw (length-held d.buffer, front_of d.buffer) a.near in
      let number : n ≡ s + k + i = omega (arith, keeps.front, a.low, front_of d.buffer) in
      let place : n - s ≡ k + i = omega arith in
      record {
        good = well;
        front = front-after after same ∙ front_of d.buffer ∙ keeps.front;
        within = keeps.within;
        counts = keeps.counts;
        flow = rw same keeps.flow;
        below = λ j less. rw (keeps.below j less, or-true);
        marks = λ j. rw same (set_marks held i payload near (s + k) n d.accepted number keeps.marks j);
        agrees = λ j q there. set_agrees held i payload near (λ j. get_elem? made (k + j)) (rw place at carries) keeps.agrees j q (rw same at there);
        acks = keeps.acks;
      }

  acked_keeps : {d : ReceiverSide} (acks : List Ack) → All (Below s (s + k)) acks → ReceiverKeeps s made k d → ReceiverKeeps s made k (with_acks acks d)
  acked_keeps acks all keeps = record {
    good = keeps.good;
    front = keeps.front;
    within = keeps.within;
    counts = keeps.counts;
    flow = keeps.flow;
    below = keeps.below;
    marks = keeps.marks;
    agrees = keeps.agrees;
    acks = all;
  }

  -- a refusal that gives an ack is 5, and then the number is below the front
  refusal_acks : {d : ReceiverSide} (n r : ℕ) (payload : List ℕ) → s ≤ n → Failed (accept_checks (view d.buffer) n payload) r → ReceiverKeeps s made k d
      → All (Below s (s + k)) (ack_at5 (ack_with r n))
  unfolding All
  refusal_acks {d} n r payload low (inl (t, q)) keeps =
      let less = ltb-true n (view d.buffer).front t in
      rw (← q) (ack-below s (s + k) n 1 low (omega (arith, keeps.front, front_of d.buffer)))
  refusal_acks {d} n r payload low (inr (t, f)) keeps = rw (ne_eqb r 5 (never 5 refl (failed_among {ns = 6 ∷ 9 ∷ 7 ∷ 11 ∷ []} (drop 1 (accept_checks (view d.buffer) n payload)) refl f))) tt

  pub accept_keeps : {d : ReceiverSide} (p : Packet) → Numbered s made p → ReceiverKeeps s made k d → ReceiverKeeps s made k (accepted_one p d)
  unfolding All
  accept_keeps {d} p numbered keeps = by (accept_ways d.buffer p.header.packet_number p.payload)
    where
      by : Accepting d.buffer p.header.packet_number p.payload → ReceiverKeeps s made k (accepted_one p d)
      by (malformed m e) = absurd (true≢false (sym keeps.good ∙ m))
      by (refused r g f e) =
          let n = p.header.packet_number in
          rw e
          (acked_keeps (d.acks ++ ack_at5 (ack_with r n)) (all_append (Below s (s + k)) d.acks _ keeps.acks (refusal_acks n r p.payload numbered.0 f keeps)) keeps)
      by (stores a e) =
          let n = p.header.packet_number in
          let said : (accepting d.buffer n p.payload).said ≡ answers tt = rw e in
          let kept = stored_keeps numbered.1 keeps a (accept_stores d.buffer n p.payload said).1 (accept-kept d.buffer n p.payload numbered.2 keeps.good) in
          let no-ack : (accepting d.buffer n p.payload).ack ≡ none = rw e in
          rw (said, no-ack, append-nil) kept

  accept_all_keeps : (packets : List Packet) {d : ReceiverSide} → All (Numbered s made) packets → ReceiverKeeps s made k d → ReceiverKeeps s made k (accepted_all packets d)
  unfolding All accepted_all
  accept_all_keeps [] all keeps = keeps
  accept_all_keeps (p ∷ ps) all keeps = accept_all_keeps ps all.1 (accept_keeps p all.0 keeps)

  accept_all_well : (packets : List Packet) {d : ReceiverSide} → All (Numbered s made) packets → ReceiverKeeps s made k d → In 12 (accept_refusals packets d) → ⊥
  unfolding All In accept_refusals
  accept_all_well [] all keeps never = never
  accept_all_well (p ∷ ps) {d} all keeps (inl e) = accept_never d.buffer keeps.good p.header.packet_number p.payload (sym e)
  accept_all_well (p ∷ ps) all keeps (inr later) = accept_all_well ps all.1 (accept_keeps p all.0 keeps) later

-- ---- reading

-- as many packets have left their slots, or more
pub record Later (s : ℕ) (made : List (List ℕ)) (k : ℕ) (d : ReceiverSide) : Type 0 where
  pub gone : ℕ
  pub up : k ≤ gone
  pub keeps : ReceiverKeeps s made gone d

-- acks that follow one another from f to g
unfoldable pub Chain : ℕ → List Ack → ℕ → Type 0
Chain f [] g = f ≡ g
Chain f (a ∷ l) g = (a.base ≡ f) × (0 < a.count) × Chain (f + a.count) l g

-- what a read leaves besides: the acks that it gave follow one another from the front to where it is then, and nothing was accepted
pub record ReadOn (s : ℕ) (made : List (List ℕ)) (k : ℕ) (before d : ReceiverSide) : Type 0 where
  pub later : Later s made k d
  pub new : List Ack
  pub acked : d.acks ≡ before.acks ++ new
  pub chain : Chain (s + k) new (s + later.gone)
  pub same : d.accepted ≡ before.accepted

chain_ack : (f c base : ℕ) → (0 < c → base ≡ f) → Chain f (ack_of base c) (f + c)
unfolding Chain
chain_ack f zero base first = omega arith
chain_ack f (suc c) base first = (first (suc-le-suc zero-le), suc-le-suc zero-le, refl)

-- as the front moves on by c
acks_stay : (s k c : ℕ) (acks : List Ack) → All (Below s (s + k)) acks → All (Below s (s + (k + c))) acks
acks_stay s k c acks all = all_map (λ a h. (h.0, omega (arith, h.1))) acks all

-- and beside them that of the c packets
acks_grow : (s k c base : ℕ) (acks : List Ack) → (0 < c → base ≡ s + k) → All (Below s (s + k)) acks → All (Below s (s + (k + c))) (acks ++ ack_of base c)
acks_grow s k zero base acks first all = rw append-nil (acks_stay s k 0 acks all)
acks_grow s k (suc c) base acks first all =
    let here = first (suc-le-suc zero-le) in
    all_append (Below s (s + (k + suc c))) acks (ack_of base (suc c)) (acks_stay s k (suc c) acks all) (ack-below s (s + (k + suc c)) base (suc c) (omega arith) (omega arith))

-- a read of length 0 takes no packet
idle_front : (b : Buffer) (out : List ℕ) → (consuming b 0 out).buffer.state.front_number ≡ b.state.front_number
idle_front b out = by (consume_ways b 0 out)
  where
    none_taken : (r : Receiver) → (consumed r 0).packets ≡ 0
    none_taken r =
        either (length r.carry) 0
        (λ h. let room : 0 - length r.carry ≡ 0 = omega arith in rw (consumed-whole r 0 h, room, walk-full r.held))
        (λ h. rw (consumed_part r 0 h))

    by : Consuming b 0 out → (consuming b 0 out).buffer.state.front_number ≡ b.state.front_number
    by (malformed m e) = rw e
    by (short g s e) = rw e
    by (takes-bytes g s e) = rw (e, none_taken (view b), add-zero)

module _ {s : ℕ} {made : List (List ℕ)} {k : ℕ} {d : ReceiverSide} (keeps : ReceiverKeeps s made k d) where
  -- the c packets taken are the next ones made
  taken_made : {c : ℕ} {bytes : List ℕ} {after : Buffer} → Takes d.buffer c bytes after
      → (payloads c (view d.buffer).held ≡ take c (drop k made)) × (c ≤ length (drop k made))
  taken_made {c} t =
      front_made c (view d.buffer).held (drop k made) (λ i p held. lookup_drop k made i ∙ keeps.agrees i p held) t.were

  -- c packets leave their slots, empty ones too, and what is counted and acked has followed
  takes_keeps : {c : ℕ} {bytes : List ℕ} {after : Buffer} (acks : List Ack) (counted : ℕ) → Takes d.buffer c bytes after → well_formed after ≡ true
      → All (Below s (s + (k + c))) acks → counted ≡ k + c
      → ReceiverKeeps s made (k + c) (with_buffer after (with_delivered (d.delivered ++ bytes) (with_acks acks (with_counted counted d))))
  takes_keeps {c} {bytes} {after} acks counted t well below counts =
      let b = d.buffer in
      let next = taken_made t in
      let place : (i : ℕ) → place_at (view after) i ≡ place_at (view b) (c + i) = λ i. rw t.moves (get_d_moved none (view b).held c i) in
      record {
        good = well;
        front = front-after after t.moves ∙ rw (front_of b, keeps.front) (add_assoc s k c);
        within = omega (arith, keeps.within, next.1, length-drop k made);
        counts = counts;
        flow = rw (append_assoc, t.flow, ← append_assoc, keeps.flow, next.0, take-add, flatten_append);
        below = λ i less.
            either k i
            (λ h. let sum : s + i ≡ s + k + (i - k) = omega arith in rw (sum, ← keeps.marks (i - k)) (front_held_row c (view b).held (i - k) t.were (omega arith)))
            (λ h. keeps.below i h);
        marks = λ i. let sum : s + (k + c) + i ≡ s + k + (c + i) = omega arith in rw (place i, sum) (keeps.marks (c + i));
        agrees = λ i p held. rw (add_assoc k c i) (keeps.agrees (c + i) p (sym (place i) ∙ held));
        acks = below;
      }

  gives_keeps : {v : ℕ × ℕ × ℕ} {out out' : List ℕ} {after : Buffer} → Gives d.buffer out v after out' → well_formed after ≡ true → ReadOn s made k d (gave v after out' d)
  gives_keeps {v} {out} {out'} {after} g well =
      let first : 0 < v.0 → v.1 ≡ s + k = λ taken. g.first taken ∙ front_of d.buffer ∙ keeps.front in
      record {
        later = record {
          gone = k + v.0;
          up = omega arith;
          keeps =
              takes_keeps (d.acks ++ ack_of v.1 v.0) (d.counted + v.0) g.takes well
              (acks_grow s k v.0 v.1 d.acks first keeps.acks) (rw keeps.counts);
        };
        new = ack_of v.1 v.0;
        acked = refl;
        chain = rw (← add_assoc) (chain_ack (s + k) v.0 v.1 first);
        same = refl;
      }

  -- nothing given and nothing carried over: no packet was taken, where none made is empty
  dry_takes : {c : ℕ} {after : Buffer} → All (λ p. 0 < length p) made → Takes d.buffer c [] after → (view after).carry ≡ [] → c ≡ 0
  dry_takes {c} {after} filled t dry =
      let b = d.buffer in
      let next = taken_made t in
      let nil : (view b).carry ++ flatten (take c (drop k made)) ≡ [] = rw next.0 at (sym t.flow ∙ dry) in
      omega (arith, ap length nil, length-append (view b).carry (flatten (take c (drop k made))), filled_flatten c (drop k made) (all_drop (λ p. 0 < length p) k made filled) next.1)

  empties_keeps : {after : Buffer} (e : Empties d.buffer after) → e.packets ≡ 0 → well_formed after ≡ true → ReadOn s made k d (with_buffer after d)
  unfolding Chain
  empties_keeps {after} e z well = record {
    later = record {
      gone = k + e.packets;
      up = omega arith;
      keeps =
          rw append-nil at (takes_keeps d.acks d.counted e.takes well (acks_stay s k e.packets d.acks keeps.acks) (omega (arith, keeps.counts)));
    };
    new = [];
    acked = sym (append-nil d.acks);
    chain = omega arith;
    same = refl;
  }

  -- an 8 takes no packet, where none made is empty
  eight-takes : All (λ p. 0 < length p) made → (len : ℕ) (out : List ℕ) (said : (consuming d.buffer len out).said ≡ refuses 8)
      → (consume-empty d.buffer len out said).0.packets ≡ 0
  eight-takes filled zero out said =
      let t = (consume-empty d.buffer 0 out said).0.takes in
      omega (arith, idle_front d.buffer out, front-after (consuming d.buffer 0 out).buffer t.moves, front_of d.buffer)
  eight-takes filled (suc len) out said =
      dry_takes filled (consume-empty d.buffer (suc len) out said).0.takes (consume_dry d.buffer (suc len) out said (suc-le-suc zero-le)).carry

  stay : Later s made k d
  stay = record { gone = k; up = le_refl k; keeps = keeps }

  pub read_none : ReadOn s made k d d
  unfolding Chain stay
  read_none = record { later = stay; new = []; acked = sym (append-nil d.acks); chain = refl; same = refl }

  pub read_keeps : All (λ p. 0 < length p) made → (len : ℕ) (out : List ℕ) → ReadOn s made k d (call_receiver d (read len out)).left
  read_keeps filled len out = by (consume-ends d.buffer keeps.good len out)
    where
      well : well_formed (consuming d.buffer len out).buffer ≡ true
      well = consume-kept d.buffer len out keeps.good

      by : Ends (consuming d.buffer len out).said → ReadOn s made k d (call_receiver d (read len out)).left
      by (values v e) = rw e (gives_keeps (consume_gives d.buffer len out e) well)
      by (eight e) = rw e (empties_keeps (consume-empty d.buffer len out e).0 (eight-takes filled len out e) well)
      by (ten e) = rw (e, (consume-refused d.buffer len out e (λ q. omega arith)).0) read_none

  pub read_pieces_keeps : (limit : ℕ) (out list : List ℕ) → ReadOn s made k d (call_receiver d (read_pieces limit out list)).left
  read_pieces_keeps limit out list = by (consume_bytes_ends d.buffer keeps.good limit out list)
    where
      by : Ends (consuming_bytes d.buffer limit out list).said → ReadOn s made k d (call_receiver d (read_pieces limit out list)).left
      by (values v e) = rw e (gives_keeps (consume_bytes_gives d.buffer limit out list e) (consume_bytes_kept d.buffer limit out list keeps.good))
      by (eight e) = rw (e, (consume_bytes_refused d.buffer limit out list e).0) read_none
      by (ten e) = rw (e, (consume_bytes_refused d.buffer limit out list e).0) read_none

-- ---- every call

pub record ReceiverDoes (s : ℕ) (made : List (List ℕ)) (k : ℕ) (c : Called ReceiverSide) : Type 0 where
  pub later : Later s made k c.left
  pub never12 : In 12 c.refusals → ⊥

never_parsed : (parser : Parser) (datagram index : List ℕ) → refusal_in (parsing parser datagram index).0 ≡ 12 → ⊥
never_parsed from_bytes datagram index = parse_well datagram _
never_parsed from_bytes_into datagram index = parse_well datagram _

module _ {s : ℕ} {made : List (List ℕ)} {k : ℕ} (l : Link) (keeps : ReceiverKeeps s made k l.receiver) where
  -- where none made is empty, and a packet that was made earlier carries the payload of its number
  pub receiver_does : (c : ReceiverCall) → All (λ p. 0 < length p) made → ((p : Packet) → MadeEarlier l p → Numbered s made p) → FairReceiver l c
      → ReceiverDoes s made k (call_receiver l.receiver c)
  unfolding In
  receiver_does (arrive parser datagram index packets) filled numbered fair =
      let arrived = all_map numbered packets (all_among (MadeEarlier l) (indexed_on l parser datagram index) packets fair.0 fair.1) in
      record { later = stay (accept_all_keeps packets arrived keeps); never12 = λ h. never h arrived }
    where
      never : In 12 (call_receiver l.receiver (arrive parser datagram index packets)).refusals → All (Numbered s made) packets → ⊥
      never (inl e) arrived = never_parsed parser datagram index (sym e)
      never (inr h) arrived = accept_all_well packets arrived keeps h
  receiver_does (read len out) filled numbered fair =
      record { later = (read_keeps keeps filled len out).later; never12 = λ h. consume_never l.receiver.buffer keeps.good len out (sym (only h)) }
  receiver_does (read_pieces limit out list) filled numbered fair =
      record { later = (read_pieces_keeps keeps limit out list).later; never12 = λ h. consume_bytes_never l.receiver.buffer keeps.good limit out list (sym (only h)) }
  receiver_does peek filled numbered fair = record { later = stay keeps; never12 = λ h. peek_never l.receiver.buffer keeps.good (sym (only h)) }

-- ---- reading to empty

-- "To empty": 8, asked for a byte or a piece at least, leaves nothing to give
pub emptied : (l : Link) (c : Call) → well_formed l.receiver.buffer ≡ true → Reads c → In 8 (refusals l c) → Dry (step l c).receiver.buffer
emptied l c well (reads len out asked) h =
    let said = ends-eight (consume-ends l.receiver.buffer well len out) (sym (only h)) in
    rw said (consume_dry l.receiver.buffer len out said asked)
emptied l c well (reads_in_pieces limit out list asked) h =
    let said = ends-eight (consume_bytes_ends l.receiver.buffer well limit out list) (sym (only h)) in
    rw said (consume_bytes_dry l.receiver.buffer limit out list said asked)

-- ---- reads come to an 8, unless refused with 10

-- such a read is refused with 8 or 10, or leaves less to give
data Settles (l : Link) (c : Call) : Type 0 where
  stops : In 8 (refusals l c) ⊎ In 10 (refusals l c) → Settles l c
  lowers : well_formed (step l c).receiver.buffer ≡ true → weight (step l c).receiver.buffer < weight l.receiver.buffer → Settles l c

settles : (l : Link) (c : Call) → well_formed l.receiver.buffer ≡ true → Reads c → Settles l c
unfolding In
settles l c well (reads len out asked) = by (consume-ends l.receiver.buffer well len out)
  where
    by : Ends (consuming l.receiver.buffer len out).said → Settles l (on_receiver (read len out))
    by (values v e) = lowers (rw e (consume-kept l.receiver.buffer len out well)) (rw e (consume_lowers l.receiver.buffer len out e (omega (arith, asked))))
    by (eight e) = stops (inl (rw e (inl refl)))
    by (ten e) = stops (inr (rw e (inl refl)))
settles l c well (reads_in_pieces limit out list asked) = by (consume_bytes_ends l.receiver.buffer well limit out list)
  where
    by : Ends (consuming_bytes l.receiver.buffer limit out list).said → Settles l (on_receiver (read_pieces limit out list))
    by (values v e) = lowers (rw e (consume_bytes_kept l.receiver.buffer limit out list well)) (rw e (consume_bytes_lowers l.receiver.buffer limit out list e))
    by (eight e) = stops (inl (rw e (inl refl)))
    by (ten e) = stops (inr (rw e (inl refl)))

stops_later : {l : Link} {c : Call} {cs : List Call} → Stops (step l c) cs → Stops l (c ∷ cs)
unfolding run
stops_later {l} {c} {cs} s = record {
  on = s.on;
  call = s.call;
  made = record { before = c ∷ s.made.before; after = s.made.after; list = ap (λ (x : List Call). c ∷ x) s.made.list; reached = s.made.reached };
  stopped = s.stopped;
}

pub reads_reach : (l : Link) → well_formed l.receiver.buffer ≡ true → (calls : List Call) → All Reads calls → weight l.receiver.buffer < length calls → Stops l calls
unfolding All run
reads_reach l well [] all more = absurd (omega arith)
reads_reach l well (c ∷ cs) all more =
    elim (settles l c well all.0) [
      | stops h ↦ record { on = l; call = c; made = record { before = []; after = cs; list = refl; reached = refl }; stopped = h }
      | lowers kept less ↦ stops_later (reads_reach (step l c) kept cs all.1 (omega arith))
    ]
