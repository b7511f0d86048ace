-- What each call of the receive buffer says and leaves, on every input: decode the lent lists, apply document 01's rule, write the change back.
use Rattle.std.specs.Prelude.{ℕ, ◌-◌, Bool, false, not, cond, List, [], ◌∷◌, map, length, replicate, ltb, eqb, Result, Ok, Err}
use Rattle.std.proofs.Math.Option.{Option, none, some}
use Rattle.std.proofs.Math.Seq.{paste}
use Rattle.refusal.specs.declared.Refusal.{Refusal}
use Rattle.refusal.specs.Refusal.{number_of}
use Rattle.refusal.specs.Said.{Said, answers, refuses, says, checks}
use Rattle.ordered_bytes.specs.declared.OrderedBytes.{OrderedBytes}
use Rattle.ordered_bytes.specs.declared.BufferViewMut.{BufferViewMut}
use Rattle.ordered_bytes.specs.declared.ConsumeResult.{ConsumeResult}
use Rattle.ordered_bytes.specs.declared.AcceptError.{AcceptError}
use Rattle.ordered_bytes.specs.declared.AcceptError.TheVariants.{Below, Refused}
use Rattle.ordered_bytes.specs.Receiver.{Read, accept_checks, consumed, consumed_pieces, pieces, available, any_held}
use Rattle.ordered_bytes.specs.Buffer.{Buffer, buffer_now, view, well_formed, shape_fits, slot_at, stored, taken}

-- ---- the answers in document 01's terms

-- (packets, base, bytes)
abbrev pub result_says : ConsumeResult → ℕ × ℕ × ℕ
result_says c = (c.num_packets_consumed, c.base_packet_number, c.bytes_consumed)

abbrev pub accepted_says : Result Unit AcceptError → Said Unit
accepted_says (Ok u) = answers tt
accepted_says (Err (Below c)) = refuses 5
accepted_says (Err (Refused r)) = refuses (number_of r)

abbrev pub accepted_ack : Result Unit AcceptError → Option (ℕ × ℕ × ℕ)
accepted_ack (Ok u) = none
accepted_ack (Err (Below c)) = some (result_says c)
accepted_ack (Err (Refused r)) = none

abbrev pub consumed_says : Result ConsumeResult Refusal → Said (ℕ × ℕ × ℕ)
consumed_says r = says result_says r

-- "The answer is `consume`'s, with the count of pieces."
abbrev pub consumed_bytes_says : Result (ConsumeResult × ℕ) Refusal → Said ((ℕ × ℕ × ℕ) × ℕ)
consumed_bytes_says r = says (λ p. (result_says p.0, p.1)) r

-- ---- the calls

-- `new`: all slots empty, all from s; the store is not written
pub record Creation : Type 0 where
  pub said : Said OrderedBytes
  pub marks : List Bool
  pub lengths : List ℕ

-- what a call answered, and the lent lists as it left them, are one such record
abbrev pub creation_of : Result OrderedBytes Refusal → List Bool → List ℕ → Creation
creation_of r marks lengths = record { said = says (λ o. o) r; marks = marks; lengths = lengths }

unfoldable pub creating : ℕ → ℕ → List Bool → List ℕ → List ℕ → Creation
creating w s marks lengths store =
    checks ((not (shape_fits w marks lengths store), 12) ∷ [])
    (λ n. record { said = refuses n; marks = marks; lengths = lengths })
    (record {
      said = answers (record { slot_width = w; front_slot = 0; front_number = s; carry_len = 0 });
      marks = replicate (length marks) false;
      lengths = replicate (length lengths) 0;
    })

-- "`set_start_packet_number` with a packet held is 13"
unfoldable pub starting : Buffer → ℕ → Said OrderedBytes
starting b s =
    checks ((not (well_formed b), 12) ∷ (any_held (view b).held, 13) ∷ [])
    refuses
    (answers (record {
      slot_width = b.state.slot_width;
      front_slot = b.state.front_slot;
      front_number = s;
      carry_len = b.state.carry_len;
    }))

-- what is said, the ack that goes with it as a read answers one, and the buffer left
pub record Acceptance : Type 0 where
  pub said : Said Unit
  pub ack : Option (ℕ × ℕ × ℕ)
  pub buffer : Buffer

abbrev pub acceptance_of : Result Unit AcceptError → BufferViewMut → Acceptance
acceptance_of r v = record { said = accepted_says r; ack = accepted_ack r; buffer = buffer_now v }

-- "Accepting's refusal 5 also gives an ack of that number, count 1" (document 02, §3)
abbrev pub ack_with : ℕ → ℕ → Option (ℕ × ℕ × ℕ)
ack_with r n = cond (eqb r 5) (some (1, n, 0)) none

unfoldable pub accepting : Buffer → ℕ → List ℕ → Acceptance
accepting b n payload =
    checks ((not (well_formed b), 12) ∷ accept_checks (view b) n payload)
    (λ r. record { said = refuses r; ack = ack_with r n; buffer = b })
    (record { said = answers tt; ack = none; buffer = stored b (slot_at b (n - b.state.front_number)) payload })

unfoldable pub peeking : Buffer → Said Unit
peeking b = checks ((not (well_formed b), 12) ∷ (not (available (view b)), 8) ∷ []) refuses (answers tt)

pub record Consumption : Type 0 where
  pub said : Said (ℕ × ℕ × ℕ)
  pub buffer : Buffer
  pub out : List ℕ

abbrev pub consumption_of : Result ConsumeResult Refusal → BufferViewMut → List ℕ → Consumption
consumption_of r v out = record { said = consumed_says r; buffer = buffer_now v; out = out }

-- what is given stands at the start of the output, whose other bytes stay
abbrev pub given : Buffer → Read → List ℕ → Consumption
given b r out = record {
  said = cond r.empty (refuses 8) (answers (r.packets, r.base, length r.bytes));
  buffer = taken b r.packets r.carry;
  out = paste out 0 r.bytes (length r.bytes);
}

-- "`consume` with a length: 10 if the length exceeds the buffer." .. "If no byte was given: 8, though empty packets met on the way are taken."
unfoldable pub consuming : Buffer → ℕ → List ℕ → Consumption
consuming b len out =
    checks ((not (well_formed b), 12) ∷ (ltb (length out) len, 10) ∷ [])
    (λ r. record { said = refuses r; buffer = b; out = out })
    (given b (consumed (view b) len) out)

pub record PieceConsumption : Type 0 where
  pub said : Said ((ℕ × ℕ × ℕ) × ℕ)
  pub buffer : Buffer
  pub out : List ℕ
  pub list : List ℕ

abbrev pub piece_consumption_of : Result (ConsumeResult × ℕ) Refusal → BufferViewMut → List ℕ → List ℕ → PieceConsumption
piece_consumption_of r v out list = record { said = consumed_bytes_says r; buffer = buffer_now v; out = out; list = list }

-- "Pieces are copied to a lent buffer, their lengths to a lent list"
abbrev pub given_pieces : Buffer → ℕ → List ℕ → List ℕ → PieceConsumption
given_pieces b limit out list =
    let r = consumed_pieces (view b) limit in
    let ps = pieces (view b) limit in
    record {
      said = answers ((r.packets, r.base, length r.bytes), length ps);
      buffer = taken b r.packets r.carry;
      out = paste out 0 r.bytes (length r.bytes);
      list = paste list 0 (map length ps) (length ps);
    }

-- "(32 bits each; 10 if either is short). No piece: 8."
unfoldable pub consuming_bytes : Buffer → ℕ → List ℕ → List ℕ → PieceConsumption
consuming_bytes b limit out list =
    let r = consumed_pieces (view b) limit in
    let ps = pieces (view b) limit in
    checks
    ((not (well_formed b), 12)
    ∷ (ltb (length out) (length r.bytes), 10)
    ∷ (ltb (length list) (length ps), 10)
    ∷ (r.empty, 8)
    ∷ [])
    (λ n. record { said = refuses n; buffer = b; out = out; list = list })
    (given_pieces b limit out list)
