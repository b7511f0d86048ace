-- A ring with its lent cells, in the definitions' terms.
use Rattle.std.specs.Prelude.{◌≡◌, Option, Some, None}
use Rattle.std.proofs.Math.Option as maybe
use Rattle.refusal.specs.Said.{Said}
use Rattle.ring_buffer.specs.Ring.{Outcome, leaves}
use Rattle.ring_buffer.specs.declared.AckData.{AckData}
use Rattle.ring_buffer.specs.declared.RingViewMut.{RingViewMut}

-- what a call says, with the state and the cells as they are in the view
abbrev pub leaving : {A : Type 0} → Said A → RingViewMut → Outcome A
leaving s v = leaves s v.state v.records.now

-- the same cells stay lent, so that who lent them learns what they hold
abbrev pub SameLent : RingViewMut → RingViewMut → Type 0
SameLent v w = w.records.ghost_name ≡ v.records.ghost_name

-- the record that a full ring gives back
abbrev pub given_back : Option AckData → maybe.Option AckData
given_back None = maybe.none
given_back (Some a) = maybe.some a
