-- Laws of the packet types: each has a known number, and number and type undo each other.
-- Assumes nothing.
use Prim.Native.Nat.{ℕ, zero, suc, ◌<◌, min}
use mathlib.Core.Path.{◌≡◌, refl}
use native.Mathlib.Omega.{arith}
use lib.Dec.{lit<}
use Rattle.header.specs.declared.PacketType.{PacketType}
use Rattle.header.specs.declared.PacketType.TheVariants.{UnencryptedClientHello, UnencryptedServerHello, ClientAck, UnencryptedData, Ack, Fin, FinAck}
use Rattle.header.specs.Types.{type_number, type_of}

pub number_known : (t : PacketType) → type_number t < 7
number_known UnencryptedClientHello = lit< tt
number_known UnencryptedServerHello = lit< tt
number_known ClientAck = lit< tt
number_known UnencryptedData = lit< tt
number_known Ack = lit< tt
number_known Fin = lit< tt
number_known FinAck = lit< tt

pub type_of-type_number : (t : PacketType) → type_of (type_number t) ≡ t
type_of-type_number UnencryptedClientHello = refl
type_of-type_number UnencryptedServerHello = refl
type_of-type_number ClientAck = refl
type_of-type_number UnencryptedData = refl
type_of-type_number Ack = refl
type_of-type_number Fin = refl
type_of-type_number FinAck = refl

-- every other number stands for the last type
pub number_type : (n : ℕ) → type_number (type_of n) ≡ min n 6
number_type zero = refl
number_type (suc zero) = refl
number_type (suc (suc zero)) = refl
number_type (suc (suc (suc zero))) = refl
number_type (suc (suc (suc (suc zero)))) = refl
number_type (suc (suc (suc (suc (suc zero))))) = refl
number_type (suc (suc (suc (suc (suc (suc n)))))) = omega arith
