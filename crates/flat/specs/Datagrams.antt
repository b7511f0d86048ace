-- A received datagram's answers as a host has them.
use Rattle.std.specs.Prelude.{ℕ, List}
use Rattle.refusal.specs.Said.{Said, refusal_in}
use Rattle.ordered_bytes.specs.Buffer.{Buffer}
use Rattle.window.specs.declared.SlidingWindow.{SlidingWindow}
use Rattle.receive.specs.Datagram.{Acks, Reception}
use Rattle.flat.specs.declared.packets.Parsed.{Parsed}
use Rattle.flat.specs.declared.datagrams.AcksReceived.{AcksReceived}
use Rattle.flat.specs.Answers.{cursor_in}
use Rattle.flat.specs.Packets.{indexed_of}

-- the listing's answer, and how many packets stand in the index, beside the window to go on with
abbrev pub acks_received_of : SlidingWindow → Said ℕ → ℕ → AcksReceived
acks_received_of w s n = record { window = w; packets = n; cursor = cursor_in s; refusal = refusal_in s }

-- Each answer beside what is left.

abbrev pub flat_reception : Reception Buffer → Parsed × List ℕ × List ℕ × Buffer
flat_reception d = (indexed_of d.said d.cells, d.index, d.answers, d.state)

abbrev pub flat_acks_reception : Reception Acks → AcksReceived × List ℕ × List ℕ × List ℕ
flat_acks_reception d = (acks_received_of d.state.window d.said d.cells, d.state.cells, d.index, d.answers)
