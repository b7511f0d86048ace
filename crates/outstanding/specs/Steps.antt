-- What keeping packets writes, as the inner functions do it: they are given how many packets there are and how many bytes these carry, not the packets.
use Rattle.std.specs.Prelude.{ℕ, zero, suc, ◌+◌, ◌-◌, min, List, [], ◌∷◌, length}
use Rattle.std.proofs.Math.Seq.{paste}
use Rattle.packet.specs.Sizes.{payload_size}
use Rattle.outstanding.specs.Outstanding.{Store, count_of, lengths_of, size}

-- n, n + 1 and so on, c numbers
unfoldable pub counting : ℕ → ℕ → List ℕ
counting n zero = []
counting n (suc c) = n ∷ counting (suc n) c

-- the lengths of c payloads of 1,500 bytes, the last with what remains of q
unfoldable pub sizes_for : ℕ → ℕ → List ℕ
sizes_for q zero = []
sizes_for q (suc c) = min payload_size q ∷ sizes_for (q - payload_size) c

-- the store with c packets more, numbered from `next` on, with q bytes of payload, and whole in a datagram
unfoldable pub kept_as : Store → ℕ → ℕ → ℕ → List ℕ → Store
kept_as k next q c datagram = record {
  state = record { count = count_of k + c };
  numbers = paste k.numbers (count_of k) (counting next c) c;
  lengths = paste k.lengths (count_of k) (sizes_for q c) c;
  packets = paste k.packets (size (lengths_of k)) datagram (length datagram);
}
