-- What the first pass met is what is still to be said. Assumes nothing.
use Rattle.std.proofs.Common.{◌≡◌, ℕ, List, [], Ok, Err, rules, sym, ap, subst, ◌∙◌}
use Rattle.refusal.specs.Said.{Said}
use Rattle.packet.specs.Step.{Stepped}
use Rattle.packet.proofs.Walk.{said_all, parses_stopped}
use Rattle.packet.proofs.from_bytes.Goals as goal

abbrev said : Said ℕ × List ℕ × ℕ → Said ℕ
said x = x.0

pub returns-in_err-packets : goal.returns-in_err-packets
returns-in_err-packets c =
    let is : c.from_residual.result ≡ Err c.in_err-packets.field-0.0 = search rules in
    rw is (parses_stopped _ _ _ _ (sym (said_all _ _) ∙ ap said (c.in_err-packets.ensures [])))

pub loop-init : goal.loop-init
loop-init c = ap said (c.in_ok-packets.ensures.2 []) ∙ said_all _ _

pub returns-in_err-next_packet : goal.returns-in_err-next_packet
returns-in_err-next_packet c =
    let is : c.from_residual-in_err-next_packet.result ≡ Err c.in_err-next_packet.field-0.0 = search rules in
    rw is (parses_stopped _ _ _ _ (sym c.loop.invariant ∙ ap said (c.in_err-next_packet.ensures [])))

pub loop-preserved : goal.loop-preserved
loop-preserved c =
    let onward = subst (Stepped c.loop.packets c.next_packet.new.self) (ap Ok c.in-Some.is) c.in_ok-next_packet.ensures in
    ap said (sym (onward.rest [])) ∙ c.loop.invariant
