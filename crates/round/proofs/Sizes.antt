-- The lent memory keeps its size: no call of a fair list changes the number of slots, their width or the number of the window's cells. The round needs 64 of each
-- where it is made, and its premises ask for them of the fresh link.
-- Assumes nothing.
use Prim.Native.Nat.{ℕ}
use mathlib.Core.Path.{◌≡◌, refl, ◌∙◌}
use mathlib.Core.List.{List, [], ◌∷◌}
use mathlib.Core.Bool.{true}
use lib.ListN.{length}
use Rattle.refusal.specs.Said.{Said, answers, refuses, refuses_at}
use Rattle.packet.specs.Packet.{Packet}
use Rattle.ordered_bytes.specs.Buffer.{Buffer, slots, width}
use Rattle.ordered_bytes.specs.Calls.{creating, consuming, consuming_bytes}
use Rattle.ordered_bytes.specs.declared.OrderedBytes.{OrderedBytes}
use Rattle.ordered_bytes.proofs.Sizes.{SameSizes, create_sizes, accept_sizes, consume_sizes, consume_bytes_sizes}
use Rattle.window.specs.Window.{well_formed}
use Rattle.window.proofs.Calls as calls
use Rattle.link.specs.Demand3.{ReceiverSide, ReceiverCall, arrive, read, read_pieces, peek, WindowSide, WindowCall, insert, insert_run, consume_window, Link, Memory, Call, on_sender}
use Rattle.link.specs.Demand3.{on_receiver, on_window, on_trips, fresh, accept, accepted_by, accepted_one, accepted_all, read_by, read_pieces_by, call_receiver, call_window, step, run, Fairly}
use Rattle.link.proofs.Invariant.{Keeps}
use Rattle.link.proofs.Demand3.{does_keeps}

-- ---- the receiver's side

pub record SameSlots (d e : ReceiverSide) : Type 0 where
  pub many : slots e.buffer ≡ slots d.buffer
  pub wide : width e.buffer ≡ width d.buffer

pub slots_stay : (d : ReceiverSide) → SameSlots d d
slots_stay d = record { many = refl; wide = refl }

pub slots_through : {d e f : ReceiverSide} → SameSlots d e → SameSlots e f → SameSlots d f
slots_through a b = record { many = b.many ∙ a.many; wide = b.wide ∙ a.wide }

pub accepted-slots : (p : Packet) (d : ReceiverSide) → SameSlots d (accepted_one p d)
accepted-slots p d =
    let same = by (accept p d).said (accept p d).buffer (accept_sizes d.buffer p.header.packet_number p.payload) in
    record { many = same.many; wide = same.wide }
  where
    by : (said : Said Unit) (b : Buffer) → SameSizes d.buffer b → SameSlots d (accepted_by said b p.header.packet_number d)
    by (answers u) b s = record { many = s.many; wide = s.wide }
    by (refuses r) b s = record { many = s.many; wide = s.wide }
    by (refuses_at r at) b s = record { many = s.many; wide = s.wide }

all_accepted_slots : (ps : List Packet) (d : ReceiverSide) → SameSlots d (accepted_all ps d)
unfolding accepted_all
all_accepted_slots [] d = slots_stay d
all_accepted_slots (p ∷ ps) d = slots_through (accepted-slots p d) (all_accepted_slots ps (accepted_one p d))

receiver_slots : (d : ReceiverSide) (c : ReceiverCall) → SameSlots d (call_receiver d c).left
receiver_slots d (arrive parser datagram index packets) = all_accepted_slots packets d
receiver_slots d (read len out) = by (consuming d.buffer len out).said (consuming d.buffer len out).buffer (consume_sizes d.buffer len out)
  where
    by : (said : Said (ℕ × ℕ × ℕ)) (b : Buffer) → SameSizes d.buffer b → SameSlots d (read_by said b (consuming d.buffer len out).out d)
    by (answers v) b s = record { many = s.many; wide = s.wide }
    by (refuses r) b s = record { many = s.many; wide = s.wide }
    by (refuses_at r at) b s = record { many = s.many; wide = s.wide }
receiver_slots d (read_pieces limit out list) =
    by (consuming_bytes d.buffer limit out list).said (consuming_bytes d.buffer limit out list).buffer (consume_bytes_sizes d.buffer limit out list)
  where
    by : (said : Said ((ℕ × ℕ × ℕ) × ℕ)) (b : Buffer) → SameSizes d.buffer b → SameSlots d (read_pieces_by said b (consuming_bytes d.buffer limit out list).out d)
    by (answers v) b s = record { many = s.many; wide = s.wide }
    by (refuses r) b s = record { many = s.many; wide = s.wide }
    by (refuses_at r at) b s = record { many = s.many; wide = s.wide }
receiver_slots d peek = slots_stay d

-- ---- the window's

window_cells : (d : WindowSide) (c : WindowCall) → well_formed d.state d.cells ≡ true → length (call_window d c).left.cells ≡ length d.cells
window_cells d (insert n) well = (calls.insert_fine d.state d.cells well n).long
window_cells d (insert_run base count) well = (calls.range_fine d.state d.cells well base count).long
window_cells d consume_window well = (calls.consume_fine d.state d.cells well).long

-- ---- a list of calls

pub record SameMemory (l m : Link) : Type 0 where
  pub receiver : SameSlots l.receiver m.receiver
  pub cells : length m.acked.cells ≡ length l.acked.cells

memory_stays : (l : Link) (c : Call) → well_formed l.acked.state l.acked.cells ≡ true → SameMemory l (step l c)
memory_stays l (on_sender c) well = record { receiver = slots_stay l.receiver; cells = refl }
memory_stays l (on_receiver c) well = record { receiver = receiver_slots l.receiver c; cells = refl }
memory_stays l (on_window c) well = record { receiver = slots_stay l.receiver; cells = window_cells l.acked c well }
memory_stays l (on_trips c) well = record { receiver = slots_stay l.receiver; cells = refl }

pub run_memory : {s : ℕ} (l : Link) (calls : List Call) → Keeps s l → Fairly l calls → SameMemory l (run l calls)
unfolding run Fairly
run_memory l [] v f = record { receiver = slots_stay l.receiver; cells = refl }
run_memory l (c ∷ cs) v f =
    let one = memory_stays l c v.acked.good in
    let rest = run_memory (step l c) cs (does_keeps l c v f.0) f.1 in
    record { receiver = slots_through one.receiver rest.receiver; cells = rest.cells ∙ one.cells }

-- a fresh link has as many slots as marks were lent, of the width given
pub fresh-slots : (s w : ℕ) (o : OrderedBytes) (m : Memory) → (creating w s m.marks m.lengths m.store).said ≡ answers o
    → (slots (fresh s w o m).receiver.buffer ≡ length m.marks) × (width (fresh s w o m).receiver.buffer ≡ w)
fresh-slots s w o m said = let sizes = create_sizes w s m.marks m.lengths m.store said in (sizes.0.many, sizes.1)
