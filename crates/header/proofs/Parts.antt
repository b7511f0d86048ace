-- A header from its parts: the four runs that writing puts one behind the other.
-- Assumes nothing.
use Prim.Native.Nat.{ℕ, ◌+◌, ◌≤◌}
use mathlib.Core.Path.{◌≡◌, ap, ap₂, ◌∙◌}
use mathlib.Core.List.{List, ◌++◌}
use native.Mathlib.Omega.{arith}
use lib.ListN.{length, length-append}
use lib.Seq.{paste}
use Rattle.lists.proofs.Paste.{paste_behind}
use Rattle.parts.specs.BigEndian.{bytes_of}
use Rattle.header.specs.declared.BluefinHeader.{BluefinHeader}
use Rattle.header.specs.Header.{leading_bytes, header_bytes}

module _ (h : BluefinHeader) (d : List ℕ) (at : ℕ) {w a b n d₁ d₂ d₃ d₄ : List ℕ} where
  pub written : at + 20 ≤ length d
      → w ≡ leading_bytes h
      → a ≡ bytes_of 4 h.source_connection_id
      → b ≡ bytes_of 4 h.destination_connection_id
      → n ≡ bytes_of 8 h.packet_number
      → d₁ ≡ paste d at w (length w)
      → d₂ ≡ paste d₁ (at + 4) a (length a)
      → d₃ ≡ paste d₂ (at + 8) b (length b)
      → d₄ ≡ paste d₃ (at + 12) n (length n)
      → d₄ ≡ paste d at (header_bytes h) 20
  unfolding header_bytes
  written room qw qa qb qn q₁ q₂ q₃ q₄ =
      let lw : length w ≡ 4 = ap length qw in
      let la : length (w ++ a) ≡ 8 = length-append w a ∙ ap₂ (λ (x y : ℕ). x + y) lw (ap length qa) in
      let lb : length (w ++ a ++ b) ≡ 12 = length-append (w ++ a) b ∙ ap₂ (λ (x y : ℕ). x + y) la (ap length qb) in
      let r₂ : d₂ ≡ paste d at (w ++ a) (length (w ++ a)) =
      q₂ ∙ ap (λ (x : List ℕ). paste x (at + 4) a (length a)) q₁ ∙ paste_behind d w a at (at + 4) (omega arith) (omega arith) in
      let r₃ : d₃ ≡ paste d at (w ++ a ++ b) (length (w ++ a ++ b)) =
      q₃ ∙ ap (λ (x : List ℕ). paste x (at + 8) b (length b)) r₂ ∙ paste_behind d (w ++ a) b at (at + 8) (omega arith) (omega arith) in
      let r₄ : d₄ ≡ paste d at (w ++ a ++ b ++ n) (length (w ++ a ++ b ++ n)) =
      q₄ ∙ ap (λ (x : List ℕ). paste x (at + 12) n (length n)) r₃ ∙ paste_behind d (w ++ a ++ b) n at (at + 12) (omega arith) (omega arith) in
      r₄ ∙ rw (qw, qa, qb, qn)
