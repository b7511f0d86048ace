-- The premises of demand 3 let through what document 01 lets through.
-- Assumes nothing.
use Prim.Native.Nat.{ℕ, ◌+◌, ◌*◌}
use mathlib.Core.Path.{◌≡◌, refl}
use native.Mathlib.Omega.{arith}
use lib.ListN.{length}
use borrow.Author.Tests.{le-leb}
use Rattle.outstanding.specs.Outstanding.{places}
use Rattle.writer.specs.Packing.{payload_size}
use Rattle.link.specs.Demand3.{on_receiver, read, read_pieces, reads, reads_in_pieces}
use Rattle.link.specs.Admits.{Admits}

pub admits : Admits
unfolding payload_size places
admits = record {
  enqueues = λ l entries. tt;
  reads = λ l len out. tt;
  reads_pieces = λ l limit out list. tt;
  peeks = λ l. tt;
  consumes = λ l. tt;
  reserves = λ l. tt;
  lists = λ l out. tt;
  samples = λ l r. tt;
  waits = λ l. tt;
  packs = λ l src dst out before after. absurd (let z : ◌≡◌ {A = ℕ} 0 1 = cc in omega arith);
  packs_none = λ l src dst out none after. none;
  arrives = λ l parser datagram index packets made among. (made, among);
  made_earlier = λ l p made given number payload. record { original = made; made = given; number = number; payload = payload };
  inserts_range = λ l a given. given;
  inserts = λ l a n given from below. record { ack = a; given = given; from = from; below = below };
  begins = λ s w o m calls start wide new numbers lengths packets fair. record {
    start = omega (arith, start);
    new = new;
    wide = omega (arith, wide);
    room = rw (le-leb places (length m.numbers) numbers, le-leb places (length m.payload_lengths) lengths) (le-leb (places * (20 + payload_size)) (length m.packets) packets);
    fair = fair;
  };
  empties = λ l before len out asked eight. record { before = before; last = on_receiver (read len out); list = refl; reads = reads len out (omega (arith, asked)); empty = eight };
  empties_pieces = λ l before limit out list asked eight.
      record { before = before; last = on_receiver (read_pieces limit out list); list = refl; reads = reads_in_pieces limit out list (omega (arith, asked)); empty = eight };
  covers = λ s l payloads bytes rest accepted whole. record { payloads = payloads; accepted = accepted; start = record { rest = rest; whole = whole } };
}
