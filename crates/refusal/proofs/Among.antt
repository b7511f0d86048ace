-- Which numbers a call refuses with, read off its definition: those of its checks, and of what is left where none of them holds.
-- So no call needs a proof of its own that it never answers some number: that the list lacks it computes. Assumes nothing.
use Prim.Native.Nat.{ℕ}
use mathlib.Core.Path.{◌≡◌, sym, subst, ◌∙◌}
use mathlib.Core.Bool.{Bool, true, false, ◌&&◌, ◌||◌, cond, true≢false, and-eq-true_iff}
use mathlib.Core.List.{List, [], ◌∷◌}
use mathlib.Core.Logic.{inl, inr}
use lib.Dec.{eqb}
use Rattle.refusal.specs.Said.{checks}
use Rattle.refusal.proofs.Checks.{Failed}

abbrev pub one_of : ℕ → List ℕ → Bool
one_of n [] = false
one_of n (x ∷ xs) = eqb n x || one_of n xs

-- no refusal, or one of these
pub data Among (ns : List ℕ) (n : ℕ) : Type 0 where
  computes : one_of n (0 ∷ ns) ≡ true → Among ns n

pub never : {ns : List ℕ} {n : ℕ} (r : ℕ) → one_of r (0 ∷ ns) ≡ false → Among ns n → n ≡ r → ⊥
never {ns} r lacks (computes h) e = true≢false (sym (listed_at e h) ∙ lacks)
  where
    listed_at : {n : ℕ} → n ≡ r → one_of n (0 ∷ ns) ≡ true → one_of r (0 ∷ ns) ≡ true
    listed_at e h = subst (λ m. one_of m (0 ∷ ns) ≡ true) e h

-- the numbers of the checks, as `number` gives them, are among these
abbrev pub listed : List ℕ → (ℕ → ℕ) → List (Bool × ℕ) → Bool
listed ns number [] = true
listed ns number (c ∷ cs) = one_of (number c.1) (0 ∷ ns) && listed ns number cs

-- a list of checks comes to a number of theirs, or to that of what is left where none holds. A `cond` is a list of one check.
module _ {A : Type 0} (says : A → ℕ) (refused : ℕ → A) where
  pub checks_among : {ns : List ℕ} (cs : List (Bool × ℕ)) {passed : A} → listed ns (λ n. says (refused n)) cs ≡ true → Among ns (says passed)
      → Among ns (says (checks cs refused passed))
  checks_among [] l h = h
  checks_among {ns} (c ∷ cs) {passed} l h =
      let all = (and-eq-true_iff (one_of (says (refused c.1)) (0 ∷ ns)) (listed ns (λ n. says (refused n)) cs)).0 l in
      by c.0 all.0 (checks_among cs all.1 h)
    where
      by : (t : Bool) → one_of (says (refused c.1)) (0 ∷ ns) ≡ true → Among ns (says (checks cs refused passed))
          → Among ns (says (cond t (refused c.1) (checks cs refused passed)))
      by true q k = computes q
      by false q k = k

-- the same of the number that is known to be refused with
pub failed_among : {ns : List ℕ} (cs : List (Bool × ℕ)) {r : ℕ} → listed ns (λ n. n) cs ≡ true → Failed cs r → Among ns r
failed_among [] l f = absurd f
failed_among {ns} (c ∷ cs) l (inl (e, q)) = computes (subst (λ m. one_of m (0 ∷ ns) ≡ true) q ((and-eq-true_iff (one_of c.1 (0 ∷ ns)) (listed ns (λ n. n) cs)).0 l).0)
failed_among {ns} (c ∷ cs) l (inr (e, f)) = failed_among cs ((and-eq-true_iff (one_of c.1 (0 ∷ ns)) (listed ns (λ n. n) cs)).0 l).1 f
