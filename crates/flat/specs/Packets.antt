-- A parsed datagram's answer as a host has it.
use Rattle.std.specs.Prelude.{ℕ, List}
use Rattle.refusal.specs.Said.{Said, refusal_in}
use Rattle.flat.specs.declared.packets.Parsed.{Parsed}
use Rattle.flat.specs.Answers.{cursor_in, value_or}

-- beside the answer, how many packets stand in the index, refused or not
abbrev pub indexed_of : Said ℕ → ℕ → Parsed
indexed_of s n = record { packets = n; cursor = cursor_in s; refusal = refusal_in s }

-- "`from_bytes` writes nothing on refusal": then there are none
abbrev pub parsed_of : Said ℕ → Parsed
parsed_of s = indexed_of s (value_or 0 (λ n. n) s)

-- the answer beside what is left
abbrev pub flat_index : Said ℕ × List ℕ × ℕ → Parsed × List ℕ
flat_index d = (indexed_of d.0 d.2, d.1)
