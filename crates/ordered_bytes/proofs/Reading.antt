-- What demand 3 asks of the receive buffer, as laws of the calls' definitions. Accepting puts one payload at its distance. A read takes packets
-- from the front and gives their bytes in order, none missing, none twice; where it says 8 nothing is left to give; and reading comes to that.
-- Payloads may be empty. Assumes nothing.
use Prim.Native.Nat.{ℕ, zero, suc, ◌+◌, ◌≤◌, ◌<◌, zero-le}
use mathlib.Core.Path.{◌≡◌, refl, sym, ap, ◌∙◌}
use mathlib.Core.Logic.{◌≢◌}
use mathlib.Core.Bool.{Bool, true, false, cond}
use mathlib.Core.Option.{Option, none, some}
use mathlib.Core.List.{List, [], ◌∷◌, ◌++◌, flatten}
use native.Mathlib.Omega.{arith}
use native.Mathlib.Nat.{add-zero, zero-add}
use lib.ListN.{length, take, drop, replicate, length-append}
use lib.Seq.{paste, take-length, drop-append_seam}
use Rattle.refusal.specs.Said.{Said, answers, refuses}
use Rattle.lists.proofs.Part.{part_pasted}
use Rattle.lists.proofs.Pad.{get_d_moved}
use Rattle.ordered_bytes.specs.Receiver.{Read, place_at, accepted, moved, payloads, consumed, consumed_pieces}
use Rattle.ordered_bytes.specs.Buffer.{Buffer, view, width, slots, taken}
use Rattle.ordered_bytes.specs.Calls.{accepting, consuming, consuming_bytes}
use Rattle.ordered_bytes.proofs.WellFormed.{Good}
use Rattle.ordered_bytes.proofs.View.{view-stored, view-taken}
use Rattle.ordered_bytes.proofs.Walk.{Took, consumed_took, consumed_gives, consumed_some, consumed_none, consumed_dry, pieces_took, pieces_some, pieces_dry}
use Rattle.ordered_bytes.proofs.Outcome.{Acceptable, accept_case, consume_case, consume_bytes_case}
use Rattle.ordered_bytes.proofs.Sizes.{consume_fits, pieces_fit}

-- a refusal is no answer
unlike : {A : Type 0} {v : A} {r : ℕ} → ◌≡◌ {A = Said A} (refuses r) (answers v) → ⊥
unlike e = let z : ◌≡◌ {A = ℕ} 0 1 = cc in omega arith

-- ---- accepting

module _ (b : Buffer) (n : ℕ) (payload : List ℕ) where
  -- one payload at its distance
  pub accept_stores : (accepting b n payload).said ≡ answers tt → Acceptable b n payload × (view (accepting b n payload).buffer ≡ accepted (view b) n payload)
  accept_stores =
      accept_case b n payload (λ o. o.said ≡ answers tt → Acceptable b n payload × (view o.buffer ≡ accepted (view b) n payload))
      (λ r said. absurd (unlike said)) (λ a said. (a, view-stored a.well n payload a.near a.fits))

-- ---- reading

-- k packets were taken from the front, each held, and these bytes given
pub record Takes (b : Buffer) (k : ℕ) (bytes : List ℕ) (after : Buffer) : Type 0 where
  pub were : length (payloads k (view b).held) ≡ k
  pub flow : bytes ++ (view after).carry ≡ (view b).carry ++ flatten (payloads k (view b).held)
  pub moves : view after ≡ moved (view b) k (view after).carry

-- an answer of a read, (packets, base, bytes): that many packets were taken, that many bytes stand at the output's start, and the rest of it stays
pub record Gives (b : Buffer) (out : List ℕ) (v : ℕ × ℕ × ℕ) (after : Buffer) (out' : List ℕ) : Type 0 where
  pub takes : Takes b v.0 (take v.2 out') after
  pub first : 0 < v.0 → v.1 ≡ (view b).front
  pub gave : length (take v.2 out') ≡ v.2
  pub stays : drop v.2 out' ≡ drop v.2 out

-- nothing is carried over, and the front place is not held
pub record Dry (b : Buffer) : Type 0 where
  pub carry : (view b).carry ≡ []
  pub front : place_at (view b) 0 ≡ none

-- an 8 of `consume`: empty packets may have been taken, and no byte was given
pub record Empties (b after : Buffer) : Type 0 where
  pub packets : ℕ
  pub takes : Takes b packets [] after

module _ {b : Buffer} (x : Read) (g : Good b) (t : Took (view b) x) (few : x.packets ≤ slots b) (fits : length x.carry ≤ width b) where
  taken-takes : Takes b x.packets x.bytes (taken b x.packets x.carry)
  taken-takes =
      let same = view-taken g x.carry few fits in
      record { were = t.were; flow = rw same t.flow; moves = rw same }

  taken_gives : (out : List ℕ) → length x.bytes ≤ length out
      → Gives b out (x.packets, x.base, length x.bytes) (taken b x.packets x.carry) (paste out 0 x.bytes (length x.bytes))
  taken_gives out room =
      let start : take (length x.bytes) (paste out 0 x.bytes (length x.bytes)) ≡ x.bytes = part_pasted out x.bytes 0 (omega arith) in
      record {
        takes = rw start taken-takes;
        first = t.first;
        gave = ap length start;
        stays = rw (zero-add, take-length) (drop-append_seam x.bytes (drop (length x.bytes) out));
      }

  taken-empties : x.bytes ≡ [] → Empties b (taken b x.packets x.carry)
  taken-empties e = record { packets = x.packets; takes = rw e at taken-takes }

  taken_dry : x.carry ≡ [] → place_at (view b) x.packets ≡ none → Dry (taken b x.packets x.carry)
  taken_dry c e =
      let same = view-taken g x.carry few fits in
      record { carry = rw same c; front = rw (same, get_d_moved none (view b).held x.packets 0, add-zero) e }

-- ---- `consume`

-- a read that is not refused before it says its values, or 8
abbrev says : Read → Said (ℕ × ℕ × ℕ)
says x = cond x.empty (refuses 8) (answers (x.packets, x.base, length x.bytes))

says_values : (x : Read) {v : ℕ × ℕ × ℕ} → says x ≡ answers v → (x.empty ≡ false) × (v ≡ (x.packets, x.base, length x.bytes))
says_values x {v} = by x.empty
  where
    by : (none : Bool) → ◌≡◌ {A = Said (ℕ × ℕ × ℕ)} (cond none (refuses 8) (answers (x.packets, x.base, length x.bytes))) (answers v)
        → (none ≡ false) × (v ≡ (x.packets, x.base, length x.bytes))
    by true e = absurd (unlike e)
    by false e = (refl, cc)

says_eight : (x : Read) {r : ℕ} → says x ≡ refuses r → (x.empty ≡ true) × (r ≡ 8)
says_eight x {r} = by x.empty
  where
    by : (none : Bool) → ◌≡◌ {A = Said (ℕ × ℕ × ℕ)} (cond none (refuses 8) (answers (x.packets, x.base, length x.bytes))) (refuses r) → (none ≡ true) × (r ≡ 8)
    by true e = (refl, cc)
    by false e = absurd (unlike (sym e))

module _ (b : Buffer) (len : ℕ) (out : List ℕ) where
  pub consume_gives : {v : ℕ × ℕ × ℕ} → (consuming b len out).said ≡ answers v → Gives b out v (consuming b len out).buffer (consuming b len out).out
  consume_gives {v} =
      consume_case b len out (λ o. o.said ≡ answers v → Gives b out v o.buffer o.out)
      (λ r other said. absurd (unlike said))
      (λ g room said.
      let x = consumed (view b) len in
      let fit = consume_fits g len in
      rw (says_values x said).1 (taken_gives x g (consumed_took (view b) len) fit.0 fit.1 out (omega (arith, consumed_gives (view b) len))))

  -- asked for a byte at least, an answer gives one at least
  pub consume_some : {v : ℕ × ℕ × ℕ} → (consuming b len out).said ≡ answers v → 0 < len → 0 < v.2
  consume_some {v} =
      consume_case b len out (λ o. o.said ≡ answers v → 0 < len → 0 < v.2)
      (λ r other said. absurd (unlike said))
      (λ g room said asked. let a = says_values (consumed (view b) len) said in rw a.1 (consumed_some (view b) len asked a.0))

  -- 8: the output stays
  pub consume-empty : (consuming b len out).said ≡ refuses 8 → Empties b (consuming b len out).buffer × ((consuming b len out).out ≡ out)
  consume-empty =
      consume_case b len out (λ o. o.said ≡ refuses 8 → Empties b o.buffer × (o.out ≡ out))
      (λ r other said. absurd (other (cc)))
      (λ g room said.
      let x = consumed (view b) len in
      let nil : x.bytes ≡ [] = sym (take-length x.bytes) ∙ rw (consumed_none (view b) len (says_eight x said).0) in
      let fit = consume_fits g len in
      (taken-empties x g (consumed_took (view b) len) fit.0 fit.1 nil, rw nil))

  -- 8, asked for a byte at least: nothing was left to give
  pub consume_dry : (consuming b len out).said ≡ refuses 8 → 0 < len → Dry (consuming b len out).buffer
  consume_dry =
      consume_case b len out (λ o. o.said ≡ refuses 8 → 0 < len → Dry o.buffer)
      (λ r other said. absurd (other (cc)))
      (λ g room said asked.
      let x = consumed (view b) len in
      let fit = consume_fits g len in
      let dry = consumed_dry (view b) len asked (says_eight x said).0 in
      taken_dry x g (consumed_took (view b) len) fit.0 fit.1 dry.0 dry.1)

  -- another refusal: all stays
  pub consume-refused : {r : ℕ} → (consuming b len out).said ≡ refuses r → r ≢ 8 → ((consuming b len out).buffer ≡ b) × ((consuming b len out).out ≡ out)
  consume-refused {r} =
      consume_case b len out (λ o. o.said ≡ refuses r → r ≢ 8 → (o.buffer ≡ b) × (o.out ≡ out))
      (λ q other said not-8. (refl, refl)) (λ g room said not-8. absurd (not-8 (says_eight (consumed (view b) len) said).1))

-- ---- `consume_bytes`

values_same : {A : Type 0} {v w : A} → ◌≡◌ {A = Said A} (answers v) (answers w) → w ≡ v
values_same e = cc

module _ (b : Buffer) (limit : ℕ) (out list : List ℕ) where
  -- the first of its values are those of a read
  pub consume_bytes_gives : {v : (ℕ × ℕ × ℕ) × ℕ} → (consuming_bytes b limit out list).said ≡ answers v
      → Gives b out v.0 (consuming_bytes b limit out list).buffer (consuming_bytes b limit out list).out
  consume_bytes_gives {v} =
      consume_bytes_case b limit out list (λ o. o.said ≡ answers v → Gives b out v.0 o.buffer o.out)
      (λ r none_left said. absurd (unlike said))
      (λ g room any said. rw (values_same said) (taken_gives (consumed_pieces (view b) limit) g (pieces_took (view b) limit) (pieces_fit b limit) zero-le out room))

  -- an answer takes a packet or gives a byte
  pub consume_bytes_some : {v : (ℕ × ℕ × ℕ) × ℕ} → (consuming_bytes b limit out list).said ≡ answers v → 0 < v.0.0 + v.0.2
  consume_bytes_some {v} =
      consume_bytes_case b limit out list (λ o. o.said ≡ answers v → 0 < v.0.0 + v.0.2)
      (λ r none_left said. absurd (unlike said)) (λ g room any said. rw (values_same said) (pieces_some (view b) limit any))

  -- any refusal: all stays
  pub consume_bytes_refused : {r : ℕ} → (consuming_bytes b limit out list).said ≡ refuses r
      → ((consuming_bytes b limit out list).buffer ≡ b) × ((consuming_bytes b limit out list).out ≡ out) × ((consuming_bytes b limit out list).list ≡ list)
  consume_bytes_refused {r} =
      consume_bytes_case b limit out list (λ o. o.said ≡ refuses r → (o.buffer ≡ b) × (o.out ≡ out) × (o.list ≡ list))
      (λ q none_left said. (refl, refl, refl)) (λ g room any said. absurd (unlike (sym said)))

  -- 8, asked for a piece at least: nothing was left to give
  pub consume_bytes_dry : (consuming_bytes b limit out list).said ≡ refuses 8 → 0 < limit → Dry (consuming_bytes b limit out list).buffer
  consume_bytes_dry =
      consume_bytes_case b limit out list (λ o. o.said ≡ refuses 8 → 0 < limit → Dry o.buffer)
      (λ r none_left said asked. let dry = pieces_dry (view b) limit asked (none_left (cc)) in record { carry = dry.0; front = dry.1 })
      (λ g room any said. absurd (unlike (sym said)))

-- ---- reading comes to an end

-- for each held packet one, and its length
unfoldable pub held_weight : List (Option (List ℕ)) → ℕ
held_weight [] = 0
held_weight (none ∷ h) = held_weight h
held_weight (some p ∷ h) = suc (length p) + held_weight h

-- the bytes carried over beside it
abbrev pub weight : Buffer → ℕ
weight b = length (view b).carry + held_weight (view b).held

weight_pad : (h : List (Option (List ℕ))) (k : ℕ) → held_weight (h ++ replicate k none) ≡ held_weight h
unfolding held_weight
weight_pad [] zero = refl
weight_pad [] (suc k) = weight_pad [] k
weight_pad (none ∷ h) k = weight_pad h k
weight_pad (some p ∷ h) k = rw (weight_pad h k)

weight_drop : (k : ℕ) (h : List (Option (List ℕ))) → length (payloads k h) ≡ k → held_weight (drop k h) + (k + length (flatten (payloads k h))) ≡ held_weight h
unfolding held_weight payloads flatten
weight_drop zero h e = omega arith
weight_drop (suc k) [] e = absurd (omega arith)
weight_drop (suc k) (none ∷ h) e = absurd (omega arith)
weight_drop (suc k) (some p ∷ h) e = omega (arith, weight_drop k h (omega arith), length-append p (flatten (payloads k h)))

-- what is left is lighter by the packets taken and the bytes given
pub takes_weight : {b : Buffer} {k : ℕ} {bytes : List ℕ} {after : Buffer} → Takes b k bytes after → weight after + (k + length bytes) ≡ weight b
takes_weight {b} {k} {bytes} {after} t =
    let left : held_weight (view after).held ≡ held_weight (drop k (view b).held) = rw t.moves (weight_pad (drop k (view b).held) k) in
    let sum : length bytes + length (view after).carry ≡ length (view b).carry + length (flatten (payloads k (view b).held)) =
    sym (length-append bytes (view after).carry) ∙ ap length t.flow ∙ length-append (view b).carry (flatten (payloads k (view b).held)) in
    omega (arith, weight_drop k (view b).held t.were)

-- asked for a byte at least, an answer leaves less
pub consume_lowers : (b : Buffer) (len : ℕ) (out : List ℕ) {v : ℕ × ℕ × ℕ} → (consuming b len out).said ≡ answers v → 0 < len → weight (consuming b len out).buffer < weight b
consume_lowers b len out said asked =
    let g = consume_gives b len out said in
    omega (arith, takes_weight g.takes, g.gave, consume_some b len out said asked)

pub consume_bytes_lowers : (b : Buffer) (limit : ℕ) (out list : List ℕ) {v : (ℕ × ℕ × ℕ) × ℕ} → (consuming_bytes b limit out list).said ≡ answers v
    → weight (consuming_bytes b limit out list).buffer < weight b
consume_bytes_lowers b limit out list said =
    let g = consume_bytes_gives b limit out list said in
    omega (arith, takes_weight g.takes, g.gave, consume_bytes_some b limit out list said)

-- n reads in a row, each asked for a byte or a piece and answered
pub data Answered : Buffer → ℕ → Type 0 where
  rest : {b : Buffer} → Answered b 0
  bytes : {b : Buffer} {n : ℕ} (len : ℕ) (out : List ℕ) {v : ℕ × ℕ × ℕ} → 0 < len → (consuming b len out).said ≡ answers v
      → Answered (consuming b len out).buffer n → Answered b (suc n)
  packets : {b : Buffer} {n : ℕ} (limit : ℕ) (out list : List ℕ) {v : (ℕ × ℕ × ℕ) × ℕ} → (consuming_bytes b limit out list).said ≡ answers v
      → Answered (consuming_bytes b limit out list).buffer n → Answered b (suc n)

-- are no more than the weight: so reads to empty come to an 8, unless refused with 10
pub reads_end : {b : Buffer} {n : ℕ} → Answered b n → n ≤ weight b
reads_end rest = zero-le
reads_end {b} (bytes len out asked said more) = omega (arith, reads_end more, consume_lowers b len out said asked)
reads_end {b} (packets limit out list said more) = omega (arith, reads_end more, consume_bytes_lowers b limit out list said)
