-- `samples::main` proves what it compares: the header that it makes is the table's, and so are the answer and the bytes written. Assumes nothing.
use Rattle.std.proofs.Common.{◌≡◌, ℕ, Bool, true, List, nat_eq, replicate, ap, ap₂, ◌∙◌, Result, Ok, Err}
use lib.Pointwise.{pointwise}
use Rattle.refusal.specs.Said.{Said, answers, says}
use Rattle.refusal.specs.declared.Refusal.{Refusal}
use Rattle.header.specs.Header.{header_of, with_number, serialises_into}
use Rattle.header.specs.declared.PacketType.TheVariants.{UnencryptedData}
use Rattle.header.specs.declared.BluefinSecurityFields.{BluefinSecurityFields}
use Rattle.header.specs.declared.BluefinHeader.{BluefinHeader}
use Rattle.samples.specs.Samples.{data_header_bytes}
use Rattle.samples.proofs.Samples.{samples}
use Rattle.samples.proofs.main.Goals as goal
use Rattle.samples.proofs.main.Goals.{then-eq, else-eq}

abbrev held : Bool → ℕ → BluefinSecurityFields
held e m = record { header_encrypted = e; header_protection_mask = m }

answered : (r : Result ℕ Refusal) (n : ℕ) → says (λ m. m) r ≡ answers n → r ≡ Ok n
answered (Ok a) n e = cc
answered (Err r) n e = cc

pub prove-unreachable-requires : goal.prove-unreachable-requires
prove-unreachable-requires c =
    let security = ap₂ held c.new-security.ensures.0 c.new-security.ensures.1 in
    let header = c.with_packet_number-numbered.ensures
    ∙ ap (λ (h : BluefinHeader). with_number h 7) (c.new-header.ensures ∙ ap (header_of 1 2 UnencryptedData 5) security) in
    let said = c.serialise_into-written.ensures ∙ ap (λ (h : BluefinHeader). serialises_into h (replicate 20 0)) header ∙ samples.data_header in
    let answer = answered c.serialise_into-written.result 20 (ap (λ (x : Said ℕ × List ℕ). x.0) said) in
    let written = ap (λ (x : Said ℕ × List ℕ). x.1) said in
    elim c.if-eq.branch [
      | then-eq w ↦
          let same : w.eq-same.result ≡ true = w.eq-same.ensures ∙ ap (λ (bytes : List ℕ). pointwise nat_eq bytes data_header_bytes) written in
          cc
      | else-eq w ↦ let same : c.eq.result ≡ true = rw answer at c.eq.ensures in cc
    ]
