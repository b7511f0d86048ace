-- What an unrefused packing wrote is what it added to the packets made, and both parsers read it back as these.
-- That packets written end to end are read back is taken from packet/proofs/Trip.antt, what packing makes from writer/proofs/Made.antt.
-- Assumes nothing.
use Prim.Native.Nat.{ℕ, suc, ◌≤◌}
use mathlib.Core.Path.{◌≡◌, refl, sym, ap, ◌∙◌}
use mathlib.Core.List.{List, [], ◌∷◌}
use native.Mathlib.Omega.{arith}
use lib.ListN.{length}
use Rattle.refusal.specs.Said.{answers}
use Rattle.packet.specs.Packet.{Packet, joined}
use Rattle.packet.specs.Datagram.{reading_limit, cells_in, cells_written, parses_into, parsed, listed}
use Rattle.packet.proofs.Trip.{Readable, parsed-joined, listed-joined}
use Rattle.packet.proofs.Index.{answered_all, listed_all, listed-parsed}
use Rattle.writer.specs.Packing.{data_packet, numbered, packets_made, Outcome, packing}
use Rattle.writer.specs.declared.DataPacked.{DataPacked}
use Rattle.writer.proofs.Made.{Answered, answered, made_counted, made_fits, made_readable, written_made}
use Rattle.writer.proofs.Sending.{answered_packs}
use Rattle.link.specs.Demand3.{SenderSide, limit_of, packing_of, Parser, from_bytes, from_bytes_into, data_of, ReadsBack, Wrote}

-- all packets made carry data
data_numbered : (src dst n : ℕ) (ps : List (List ℕ)) → data_of (numbered src dst n ps) ≡ numbered src dst n ps
unfolding data_of numbered
data_numbered src dst n [] = refl
data_numbered src dst n (p ∷ ps) = ap (λ (r : List Packet). data_packet src dst n p ∷ r) (data_numbered src dst (suc n) ps)

-- data packets that make a datagram, read back from it
module _ {ps : List Packet} (r : Readable ps) (fits : length (joined ps) ≤ reading_limit) (all-data : data_of ps ≡ ps) (index : List ℕ) (room : length ps ≤ cells_in index) where
  counts_back : parsed (joined ps) (cells_in index) ≡ answers (length ps)
  counts_back = parsed-joined r fits index room

  lists_back : listed (joined ps) (parses_into (joined ps) index).1 (length ps) ≡ ps
  lists_back = listed_all (joined ps) index counts_back ∙ sym (listed-parsed (joined ps) index counts_back) ∙ listed-joined r fits index room

  reads_back : (parser : Parser) → ReadsBack parser (joined ps) ps index
  reads_back from_bytes = record {
    counts = counts_back;
    lists = listed-joined r fits index room;
    indexes = λ expected. rw counts_back (ap data_of lists_back ∙ all-data);
  }
  reads_back from_bytes_into =
      let a = answered_all (joined ps) (cells_in index) (length ps) counts_back in
      let all : cells_written (joined ps) index ≡ length ps = omega (arith, a.all, a.fits) in
      record { counts = counts_back; lists = lists_back; indexes = λ expected. rw all (ap data_of lists_back ∙ all-data) }

module _ (d : SenderSide) (src dst : ℕ) (out : List ℕ) (p : DataPacked) (e : (packing_of d src dst out).said ≡ answers p) where
  made : List Packet
  made = packets_made (limit_of d) src dst d.next d.queue.bytes

  packs : packing (limit_of d) d.queue d.next src dst out ≡ (answers p, (packing_of d src dst out).out)
  packs = answered_packs d.kept d.queue d.next src dst out e

  did : Answered (limit_of d) d.queue d.next src dst out p
  did = answered (limit_of d) d.queue d.next src dst out p (ap (λ (o : Outcome). o.0) packs)

  pub wrote : Wrote d src dst out p
  unfolding made
  wrote =
      let count = made_counted (limit_of d) d.queue d.next src dst out p did in
      record {
        packets = made;
        counted = count;
        added = rw e;
        written = rw packs at (written_made (limit_of d) d.queue d.next src dst out p did);
        read_back = λ source destination some parser index room.
            reads_back (made_readable (limit_of d) d.queue d.next src dst out p did source destination some)
            (made_fits (limit_of d) src dst d.next d.queue.bytes (omega arith))
            (data_numbered src dst d.next _) index (rw count room) parser;
      }
