-- What stands at the cursor decides the outcome. Assumes nothing.
use Rattle.std.proofs.Common.{◌≡◌, Ok, Err, Some, None, refl, ◌∙◌}
use Rattle.packet.specs.Step.{look_at}
use Rattle.packet.proofs.Walk.{walk_end, walk_fault, walk_packet, out_ending, out_full, out_onward}
use Rattle.packet.proofs.parse.Packets.next_packet.Goals as goal

pub returns-in-Err : goal.returns-in-Err
returns-in-Err c index =
    let here : look_at c.args.self.now.datagram.now c.args.self.now.at ≡ Err c.in-Err.r = cc in
    out_ending _ _ index c.args.self.now.fits (walk_fault _ _ here) ∙ rw (c.at.ensures.0, c.at.ensures.1)

pub returns-in-Ok-None : goal.returns-in-Ok-None
returns-in-Ok-None c index =
    let here : look_at c.args.self.now.datagram.now c.args.self.now.at ≡ Ok None = cc in
    out_ending _ _ index c.args.self.now.fits (walk_end _ _ here)

pub returns-then-self : goal.returns-then-self
returns-then-self c index =
    let here : look_at c.args.self.now.datagram.now c.args.self.now.at ≡ Ok (Some c.in-Ok-Some.payload) = cc in
    out_full _ _ index c.args.self.now.fits c.if-self.true (walk_packet _ _ here) ∙ rw c.into.ensures

pub returns-else-self : goal.returns-else-self
returns-else-self c =
    let here : look_at c.args.self.now.datagram.now c.args.self.now.at ≡ Ok (Some c.in-Ok-Some.payload) = cc in
    record {
      free = c.if-self.false;
      same = (refl, refl);
      met = refl;
      here = refl;
      behind = refl;
      rest = λ index. out_onward _ _ index c.args.self.now.fits c.if-self.false (walk_packet _ _ here);
    }
