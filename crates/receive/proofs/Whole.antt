-- Laws of `takes_datagram`: what the checks leave, and that an index written by `index_packets` can be walked.
-- Assumes nothing.
use Prim.Native.Nat.{ℕ, ◌<◌, ◌≤◌}
use mathlib.Core.Path.{◌≡◌, sym, ap, subst, ◌∙◌}
use mathlib.Core.Bool.{Bool, true, false}
use mathlib.Core.List.{List}
use native.Mathlib.Omega.{arith}
use lib.ListN.{length}
use borrow.Author.Tests.{lt-ltb, le-ltb}
use Rattle.refusal.specs.Said.{Said}
use Rattle.refusal.proofs.Checks.{Checked, passes, fails, checked}
use Rattle.packet.specs.Packet.{Packet}
use Rattle.packet.specs.Datagram.{cells_in, cells_written, parses_into, indexes, Listed}
use Rattle.packet.proofs.Index.{lists_into}
use Rattle.receive.specs.Datagram.{Progress, Reception, progress, takes_listed, untouched, takes_parsed, datagram_checks, takes_datagram}

module _ (s index : List ℕ) {after : List ℕ} {said : Said ℕ} {n : ℕ} (e : ◌≡◌ {A = Said ℕ × List ℕ × ℕ} (said, after, n) (indexes s index)) where
  left-index : after ≡ (parses_into s index).1
  left-index = ap (λ (x : Said ℕ × List ℕ × ℕ). x.1) e

  many : n ≡ cells_written s index
  many = ap (λ (x : Said ℕ × List ℕ × ℕ). x.2) e

  pub lists : Listed s after n
  lists = rw (left-index, many) (lists_into s index)

  pub few : n ≤ cells_in index
  few = omega (arith, many)

  module _ {S : Type 0} (type : ℕ) (call : S → Packet → Said Unit × S) (state : S) (answers : List ℕ) where
    pub whole-taken : {well : Bool} {x : S} {given : List ℕ} → well ≡ true → cells_in index ≤ length answers
        → progress x given ≡ takes_listed type call s after n (progress state answers)
        → record { said = said; cells = n; index = after; answers = given; state = x } ≡ takes_datagram well type call state s index answers
    whole-taken {x = x} {given = given} fits room q =
        let told : said ≡ (parses_into s index).0 = ap (λ (y : Said ℕ × List ℕ × ℕ). y.0) e in
        let all : progress x given ≡ takes_listed type call s (parses_into s index).1 (cells_written s index) (progress state answers) = q ∙ rw (left-index, many) in
        let to : Progress S → Reception S = λ d. record { said = (parses_into s index).0; cells = cells_written s index; index = (parses_into s index).1; answers = d.answers; state = d.state } in
        rw (fits, le-ltb (length answers) (cells_in index) room, told, many, left-index) (ap to all)

module _ {S : Type 0} (type : ℕ) (call : S → Packet → Said Unit × S) (state : S) (s index answers : List ℕ) where
  pub whole-malformed : {well : Bool} → well ≡ false → untouched 12 state index answers ≡ takes_datagram well type call state s index answers
  whole-malformed fits = rw fits

  pub whole_short : {well : Bool} → well ≡ true → length answers < cells_in index → untouched 10 state index answers ≡ takes_datagram well type call state s index answers
  whole_short fits short = rw (fits, lt-ltb (length answers) (cells_in index) short)

  -- in every case: nothing is changed, or the datagram is parsed and its packets are taken
  pub whole_ways : (well : Bool) (P : Reception S → Type 0) → ((n : ℕ) → P (untouched n state index answers)) → P (takes_parsed type call state s index answers)
      → P (takes_datagram well type call state s index answers)
  whole_ways well P refused taken = by (checked (λ n. untouched n state index answers) (takes_parsed type call state s index answers) (datagram_checks well index answers))
    where
      by : Checked (datagram_checks well index answers) (λ n. untouched n state index answers) (takes_parsed type call state s index answers)
          → P (takes_datagram well type call state s index answers)
      by (passes p q) = subst P (sym q) taken
      by (fails n f q) = subst P (sym q) (refused n)
