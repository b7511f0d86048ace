-- The sender's side of demand 3: which number carries which payload, and that each of the sender's calls keeps `SenderKeeps` and is not refused with 12.
-- Document 01, "From the queue to a datagram", "Closing" and "Premises of demand 3".
-- Assumes nothing.
use Prim.Native.Nat.{ℕ, zero, suc, ◌+◌, ◌-◌, ◌≤◌, ◌<◌}
use mathlib.Core.Path.{◌≡◌, refl, sym, ap, ◌∙◌}
use mathlib.Core.Logic.{inl, inr}
use mathlib.Core.Bool.{Bool, true, false, true≢false}
use mathlib.Core.Option.{some}
use mathlib.Core.List.{List, [], ◌∷◌, ◌++◌, map, map-append, append_assoc, append-nil, flatten}
use native.Mathlib.Nat.{add-zero, add-suc, suc-add}
use native.Mathlib.Omega.{arith}
use lib.ListN.{length, drop, get_elem?, length-append, take-append-drop}
use lib.Dec.{leb}
use borrow.Author.Tests.{leb-false}
use Rattle.refusal.specs.Said.{Said, answers, refuses, refusal_in, checks}
use Rattle.lists.specs.Numbers.{largest}
use Rattle.lists.proofs.Flatten.{flatten_append}
use Rattle.packet.specs.Packet.{Packet}
use Rattle.writer.specs.Packing.{payload_size, payloads_of, numbered, packets_made, sum}
use Rattle.writer.specs.Sending.{Sending}
use Rattle.writer.proofs.Made.{payloads-joined, count_payloads, payload_some, payload_small, dequeued_adds_up, length-numbered, count_made}
use Rattle.writer.proofs.Sending.{made_keepable, Ways, sends, stays, ways}
use Rattle.ordered_bytes.specs.declared.OrderedBytes.{OrderedBytes}
use Rattle.link.specs.Demand3.{SenderSide, SenderCall, enqueue, pack, reserve, list_outstanding, Link, Memory, fresh, Called, enqueued, limit_of, packed_by, reserved_by, call_sender}
use Rattle.link.specs.Demand3.{In, All, key, MadeEarlier, FairSender, Made}
use Rattle.link.proofs.All.{only, all_append, all_get_d}
use Rattle.link.proofs.Invariant.{numbered_from, SenderKeeps, StoreKeeps}
use Rattle.link.proofs.Store.{store_packs, store_up, list_never}

-- ---- which number carries which payload

pub numbered_from_append : (n : ℕ) (xs ys : List (List ℕ)) → numbered_from n (xs ++ ys) ≡ numbered_from n xs ++ numbered_from (n + length xs) ys
unfolding numbered_from
numbered_from_append n [] ys = rw add-zero
numbered_from_append n (p ∷ xs) ys = rw (add-suc, ← suc-add) (ap (λ (r : List (ℕ × List ℕ)). (n, p) ∷ r) (numbered_from_append (suc n) xs ys))

-- packets numbered from n on have these numbers and these payloads
pub keys_numbered : (src dst n : ℕ) (ps : List (List ℕ)) → map key (numbered src dst n ps) ≡ numbered_from n ps
unfolding numbered_from numbered
keys_numbered src dst n [] = refl
keys_numbered src dst n (p ∷ ps) = ap (λ (r : List (ℕ × List ℕ)). (n, p) ∷ r) (keys_numbered src dst (suc n) ps)

-- of the payloads numbered from s on, p is the one with number n
pub record Carries (s : ℕ) (payloads : List (List ℕ)) (n : ℕ) (p : List ℕ) : Type 0 where
  pub from : s ≤ n
  pub here : get_elem? payloads (n - s) ≡ some p

-- where the packets made are the payloads numbered from n on: a packet among them, and the packet of each payload
keyed_at : (n : ℕ) (made : List Packet) (payloads : List (List ℕ)) (p : Packet) → map key made ≡ numbered_from n payloads → In p made
    → Carries n payloads p.header.packet_number p.payload
unfolding numbered_from In
keyed_at n [] payloads p e i = absurd i
keyed_at n (q ∷ made) [] p e i = absurd (let z : ◌≡◌ {A = ℕ} 0 1 = cc in omega arith)
keyed_at n (q ∷ made) (x ∷ payloads) p e (inl i) =
    let first : key q ≡ (n, x) = cc in
    let number : p.header.packet_number ≡ n = ap (λ (r : Packet). r.header.packet_number) i ∙ ap (λ (k : ℕ × List ℕ). k.0) first in
    let none : n - n ≡ 0 = omega arith in
    let payload : x ≡ p.payload = ap (λ (k : ℕ × List ℕ). k.1) (sym first) ∙ ap (λ (r : Packet). r.payload) (sym i) in
    record { from = omega arith; here = rw (number, none) (ap some payload) }
keyed_at n (q ∷ made) (x ∷ payloads) p e (inr i) =
    let later = keyed_at (suc n) made payloads p (cc) i in
    let from : suc n ≤ p.header.packet_number = later.from in
    let next : p.header.packet_number - n ≡ suc (p.header.packet_number - suc n) = omega arith in
    record { from = omega arith; here = rw next later.here }

keyed_is : (l : Link) (n : ℕ) (made : List Packet) (payloads : List (List ℕ)) (i : ℕ) (p : List ℕ) → ((q : Packet) → In q made → In q l.sender.made)
    → map key made ≡ numbered_from n payloads → get_elem? payloads i ≡ some p → Made l (n + i) p
unfolding numbered_from In
keyed_is l n made [] i p within e at = absurd (let z : ◌≡◌ {A = ℕ} 0 1 = cc in omega arith)
keyed_is l n [] (x ∷ payloads) i p within e at = absurd (let z : ◌≡◌ {A = ℕ} 0 1 = cc in omega arith)
keyed_is l n (q ∷ made) (x ∷ payloads) zero p within e at =
    let first : key q ≡ (n, x) = cc in
    let same : x ≡ p = cc in
    record { packet = q; made = within q (inl refl); number = rw add-zero (ap (λ (k : ℕ × List ℕ). k.0) first); carries = ap (λ (k : ℕ × List ℕ). k.1) first ∙ same }
keyed_is l n (q ∷ made) (x ∷ payloads) (suc i) p within e at =
    rw (add-suc, ← suc-add) (keyed_is l (suc n) made payloads i p (λ r h. within r (inr h)) (cc) at)

module _ {s : ℕ} {payloads : List (List ℕ)} {d : SenderSide} (v : SenderKeeps s payloads d) where
  -- a packet made carries the payload of its number
  pub made_at : (p : Packet) → In p d.made → Carries s payloads p.header.packet_number p.payload
  made_at p i = keyed_at s d.made payloads p v.made i

module _ {s : ℕ} {payloads : List (List ℕ)} {l : Link} (v : SenderKeeps s payloads l.sender) where
  -- and so does one that was made earlier, as each that arrives
  pub made_earlier_at : (p : Packet) → MadeEarlier l p → Carries s payloads p.header.packet_number p.payload
  made_earlier_at p m = rw (m.number, m.payload) (made_at v m.original m.made)

  -- each payload is carried by a packet made
  pub made_is : (i : ℕ) (p : List ℕ) → get_elem? payloads i ≡ some p → Made l (s + i) p
  made_is i p at = keyed_is l s l.sender.made payloads i p (λ q h. h) v.made at

-- ---- laws of the words that the sender keeps

sum-append : (xs ys : List ℕ) → sum (xs ++ ys) ≡ sum xs + sum ys
unfolding sum
sum-append [] ys = omega arith
sum-append (x ∷ xs) ys = omega (arith, sum-append xs ys)

sum_lengths : (xs : List (List ℕ)) → sum (map length xs) ≡ length (flatten xs)
unfolding sum flatten
sum_lengths [] = refl
sum_lengths (x ∷ xs) = omega (arith, sum_lengths xs, length-append x (flatten xs))

-- no payload made is empty, none longer than a packet takes
payloads_filled : (limit : ℕ) (bytes : List ℕ) → All (λ p. 0 < length p) (payloads_of limit bytes)
payloads_filled limit bytes =
    all_get_d (λ p. 0 < length p) [] (payloads_of limit bytes) (λ i h. payload_some limit bytes i (rw (count_payloads limit bytes) at h))

payloads_small : (limit : ℕ) (bytes : List ℕ) → All (λ p. length p ≤ payload_size) (payloads_of limit bytes)
payloads_small limit bytes = all_get_d (λ p. length p ≤ payload_size) [] (payloads_of limit bytes) (λ i h. payload_small limit bytes i (rw (count_payloads limit bytes) at h))

-- ---- the sender's calls

pub sender_begins : (s w : ℕ) (o : OrderedBytes) (m : Memory) → s ≤ largest → SenderKeeps s [] (fresh s w o m).sender
unfolding numbered_from All flatten sum
sender_begins s w o m h = record {
  made = refl;
  filled = tt;
  small = tt;
  stream = refl;
  adds_up = refl;
  unclosed = λ e. omega arith;
  above = omega arith;
  fits = h;
}

-- what is made next has the numbers after the payloads made before: once a FIN's number was reserved nothing is made, which is numbered alike from any number
numbered_next : (closing : Bool) (next n : ℕ) (more : List (List ℕ)) → (closing ≡ false → next ≡ n) → (closing ≡ true → length more ≡ 0)
    → numbered_from next more ≡ numbered_from n more
unfolding numbered_from
numbered_next false next n more same none = rw (same refl)
numbered_next true next n [] same none = refl
numbered_next true next n (p ∷ more) same none = absurd (omega (arith, none refl))

-- what a call keeps, which may add payloads to those made before it, where the first x packets made have been answered
pub record SenderDoes (s : ℕ) (payloads : List (List ℕ)) (x : ℕ) (c : Called SenderSide) : Type 0 where
  pub more : List (List ℕ)
  pub keeps : SenderKeeps s (payloads ++ more) c.left
  pub store : StoreKeeps c.left.next (drop x c.left.made) c.left.kept
  pub never12 : In 12 c.refusals → ⊥

module _ {s : ℕ} {payloads : List (List ℕ)} {d : SenderSide} (v : SenderKeeps s payloads d) (x : ℕ) (store : StoreKeeps d.next (drop x d.made) d.kept) where
  enqueue_keeps : (entries : List (List ℕ)) → SenderKeeps s payloads (enqueued entries d)
  enqueue_keeps entries = record {
    made = v.made;
    filled = v.filled;
    small = v.small;
    stream = sym (append_assoc (flatten payloads) d.queue.bytes (flatten entries)) ∙ ap (λ (r : List ℕ). r ++ flatten entries) v.stream;
    adds_up = rw (sum-append, v.adds_up, sum_lengths) (sym (length-append d.queue.bytes (flatten entries)));
    unclosed = v.unclosed;
    above = v.above;
    fits = v.fits;
  }

  pack_does : x ≤ length d.made → (src dst : ℕ) (out : List ℕ) → (d.closing ≡ true → (call_sender d (pack src dst out)).left.made ≡ d.made)
      → SenderDoes s payloads x (call_sender d (pack src dst out))
  pack_does answered src dst out fair = by _ (ways d.kept d.queue d.next src dst out store.well v.adds_up) fair
    where
      bytes : List ℕ
      bytes = d.queue.bytes

      more : List (List ℕ)
      more = payloads_of (limit_of d) bytes

      none_made : d.made ++ numbered src dst d.next more ≡ d.made → length more ≡ 0
      none_made e = omega (arith, length-append d.made (numbered src dst d.next more), ap length e, length-numbered src dst d.next more)

      by : (o : Sending) → Ways d.kept d.queue d.next src dst out o → (d.closing ≡ true → (packed_by o.said o.store src dst d).made ≡ d.made)
          → SenderDoes s payloads x (record { refusals = refusal_in o.said ∷ []; left = packed_by o.said o.store src dst d })
      by o (stays n other full) fair = record { more = []; keeps = rw append-nil v; store = store; never12 = λ h. other (sym (only h)) }
      by o (sends few h) fair =
          let next = numbered_next d.closing d.next (s + length payloads) more v.unclosed (λ c. none_made (fair c)) in
          let made = packets_made (limit_of d) src dst d.next bytes in
          let kept = store_packs x d.made made answered store (made_keepable d.kept src dst d.next bytes store.well) in
          record {
            more = more;
            keeps = record {
              made = rw (map-append, v.made, keys_numbered, numbered_from_append) (ap (λ (r : List (ℕ × List ℕ)). numbered_from s payloads ++ r) next);
              filled = all_append _ payloads more v.filled (payloads_filled (limit_of d) bytes);
              small = all_append _ payloads more v.small (payloads_small (limit_of d) bytes);
              stream = rw (flatten_append, payloads-joined, append_assoc, take-append-drop) v.stream;
              adds_up = dequeued_adds_up (limit_of d) d.queue d.next v.adds_up;
              unclosed = λ c. rw (v.unclosed c, length-append, count_payloads) (omega arith);
              above = rw (length-append, count_payloads) (omega arith);
              fits = h;
            };
            store = rw (count_made (limit_of d) src dst d.next bytes) at kept;
            never12 = λ z. omega (arith, only z);
          }

  reserve_does : SenderDoes s payloads x (call_sender d reserve)
  reserve_does = by (leb largest d.next) refl
    where
      by : (exhausted : Bool) → leb largest d.next ≡ exhausted →
          let said : Said (ℕ × ℕ) = checks ((exhausted, 9) ∷ []) refuses (answers (d.next, d.next + 1)) in
          SenderDoes s payloads x (record { refusals = refusal_in said ∷ []; left = reserved_by said d })
      by true t = record { more = []; keeps = rw append-nil v; store = store; never12 = λ h. omega (arith, only h) }
      by false t =
          let room = leb-false largest d.next t in
          record {
            more = [];
            keeps = rw append-nil record {
              made = v.made;
              filled = v.filled;
              small = v.small;
              stream = v.stream;
              adds_up = v.adds_up;
              unclosed = λ c. absurd (true≢false c);
              above = omega (arith, v.above);
              fits = omega arith;
            };
            store = store_up (d.next + 1) (omega arith) store;
            never12 = λ h. omega (arith, only h);
          }

pub sender_does : {s : ℕ} {payloads : List (List ℕ)} (x : ℕ) (l : Link) (c : SenderCall) → SenderKeeps s payloads l.sender → x ≤ length l.sender.made
    → StoreKeeps l.sender.next (drop x l.sender.made) l.sender.kept → FairSender l c → SenderDoes s payloads x (call_sender l.sender c)
unfolding In
sender_does x l (enqueue entries) v answered store fair = record { more = []; keeps = rw append-nil (enqueue_keeps v x store entries); store = store; never12 = λ h. h }
sender_does x l (pack src dst out) v answered store fair = pack_does v x store answered src dst out fair
sender_does x l reserve v answered store fair = reserve_does v x store
sender_does x l (list_outstanding out) v answered store fair =
    record { more = []; keeps = rw append-nil v; store = store; never12 = λ h. list_never store out (sym (only h)) }
