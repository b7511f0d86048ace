-- Which refusals a call on a well-formed buffer may answer: a read answers, or says 8 or 10, and no call says 12. Of accepting on any buffer: an ack comes with 5 alone.
-- Assumes nothing.
use Prim.Native.Nat.{ℕ}
use mathlib.Core.Path.{◌≡◌, refl, sym, ◌∙◌}
use mathlib.Core.Bool.{Bool, true, false, true≢false, not, cond}
use mathlib.Core.List.{List, [], ◌∷◌}
use native.Mathlib.Omega.{arith}
use Rattle.refusal.specs.Said.{Said, answers, refuses, refusal_in}
use Rattle.refusal.proofs.Among.{computes, never, checks_among}
use Rattle.ordered_bytes.specs.Receiver.{accept_checks, consumed, any_held, available}
use Rattle.ordered_bytes.specs.Buffer.{Buffer, view, well_formed}
use Rattle.ordered_bytes.specs.Calls.{starting, Acceptance, ack_with, accepting, peeking, consuming, consuming_bytes}
use Rattle.ordered_bytes.proofs.Outcome.{accept_case, malformed, short, reads, consume_ways, empty, consume_bytes_ways}

-- ---- the ends of a read

-- a read of a well-formed buffer answers, or is refused with 8 or with 10
pub data Ends {A : Type 0} (said : Said A) : Type 0 where
  values : (v : A) → said ≡ answers v → Ends said
  eight : said ≡ refuses 8 → Ends said
  ten : said ≡ refuses 10 → Ends said

ends_never : {A : Type 0} {said : Said A} → Ends said → refusal_in said ≡ 12 → ⊥
ends_never (values v e) h = let z : ◌≡◌ {A = ℕ} 0 12 = rw e at h in omega arith
ends_never (eight e) h = let z : ◌≡◌ {A = ℕ} 8 12 = rw e at h in omega arith
ends_never (ten e) h = let z : ◌≡◌ {A = ℕ} 10 12 = rw e at h in omega arith

pub ends-eight : {A : Type 0} {said : Said A} → Ends said → refusal_in said ≡ 8 → said ≡ refuses 8
ends-eight (values v e) h = absurd (let z : ◌≡◌ {A = ℕ} 0 8 = rw e at h in omega arith)
ends-eight (eight e) h = e
ends-eight (ten e) h = absurd (let z : ◌≡◌ {A = ℕ} 10 8 = rw e at h in omega arith)

given-ends : {A : Type 0} (none : Bool) (v : A) → Ends (cond none (refuses 8) (answers v))
given-ends true v = eight refl
given-ends false v = values v refl

-- ---- the ack that goes with a refusal

-- accepting gives the ack of the packet's number, count 1, exactly where it says 5
pub accept_acks_5 : (b : Buffer) (n : ℕ) (payload : List ℕ) → (accepting b n payload).ack ≡ ack_with (refusal_in (accepting b n payload).said) n
accept_acks_5 b n payload = accept_case b n payload (λ o. o.ack ≡ ack_with (refusal_in o.said) n) (λ r. refl) (λ a. refl)

-- ---- the calls

module _ (b : Buffer) (well : well_formed b ≡ true) where
  pub start_never : (s : ℕ) → refusal_in (starting b s) ≡ 12 → ⊥
  unfolding starting
  start_never s = rw well (never 12 refl (checks_among refusal_in refuses {ns = 13 ∷ []} ((any_held (view b).held, 13) ∷ []) refl (computes refl)))

  pub accept_never : (n : ℕ) (payload : List ℕ) → refusal_in (accepting b n payload).said ≡ 12 → ⊥
  unfolding accepting
  accept_never n payload =
      rw well
      (never 12 refl
      (checks_among (λ (o : Acceptance). refusal_in o.said) (λ r. record { said = refuses r; ack = ack_with r n; buffer = b }) {ns = 5 ∷ 6 ∷ 9 ∷ 7 ∷ 11 ∷ []}
      (accept_checks (view b) n payload) refl (computes refl)))

  pub peek_never : refusal_in (peeking b) ≡ 12 → ⊥
  unfolding peeking
  peek_never = rw well (never 12 refl (checks_among {A = Said Unit} refusal_in refuses {ns = 8 ∷ []} ((not (available (view b)), 8) ∷ []) refl (computes refl)))

  pub consume-ends : (len : ℕ) (out : List ℕ) → Ends (consuming b len out).said
  consume-ends len out =
      elim (consume_ways b len out) [
        | malformed m e ↦ absurd (true≢false (sym well ∙ m))
        | short g s e ↦ rw e (ten refl)
        | reads g s e ↦ rw e (given-ends (consumed (view b) len).empty _)
      ]

  pub consume_never : (len : ℕ) (out : List ℕ) → refusal_in (consuming b len out).said ≡ 12 → ⊥
  consume_never len out = ends_never (consume-ends len out)

  pub consume_bytes_ends : (limit : ℕ) (out list : List ℕ) → Ends (consuming_bytes b limit out list).said
  consume_bytes_ends limit out list =
      elim (consume_bytes_ways b limit out list) [
        | malformed m e ↦ absurd (true≢false (sym well ∙ m))
        | short g s e ↦ rw e (ten refl)
        | empty g s e ↦ rw e (eight refl)
        | reads g room cells any e ↦ rw e (values _ refl)
      ]

  pub consume_bytes_never : (limit : ℕ) (out list : List ℕ) → refusal_in (consuming_bytes b limit out list).said ≡ 12 → ⊥
  consume_bytes_never limit out list = ends_never (consume_bytes_ends limit out list)
