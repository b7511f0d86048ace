-- What was counted is what is taken, and the sums are small.
use Rattle.std.proofs.Common.{eqb, arith}
use Rattle.ordered_bytes.specs.Buffer.{buffer_in, view}
use Rattle.ordered_bytes.proofs.View.{length-held}
use Rattle.ordered_bytes.proofs.Walk.{payloads_most}
use Rattle.ordered_bytes.proofs.Gathered.{at_most_one, pieces-counted}
use Rattle.ordered_bytes.proofs.checked.Checked.count_pieces.Goals as goal

pub overflow_add-result-2 : goal.overflow_add-result-2
overflow_add-result-2 c =
    let b = buffer_in c.args.self.now.view in
    let few = (payloads_most c.saturating_sub.result (view b).held).1 in
    let one = at_most_one (eqb c.args.self.now.view.state.carry_len 0) in
    omega (arith, c.carry_pieces-first.ensures, c.count_payloads-counted.ensures.packets, length-held b, c.args.self.now.good.shape.few_slots)

pub returns : goal.returns
returns c =
    pieces-counted c.args.self.now.good c.args.limit c.carry_pieces-first.ensures c.saturating_sub.ensures c.count_payloads-counted.ensures c.base_packet_number.ensures
