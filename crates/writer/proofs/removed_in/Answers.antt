-- With no bytes left, or an entry longer than what is left, it stays, and a shorter one goes. Assumes nothing.
use Rattle.std.proofs.Common.{sym, ap, ◌∙◌, ℕ, arith}
use Rattle.writer.proofs.Entries.{removal_next, removal_stops, removal_end, removal_used}
use Rattle.writer.proofs.removed_in.Goals as goal
use Rattle.writer.proofs.removed_in.Goals.{then-left-eq0-via-then-left-eq0, then-left-eq0-via-else-left-eq0+then-entry-left}

pub returns-then-left-eq0 : goal.returns-then-left-eq0
returns-then-left-eq0 c =
    let w = c.loop-i in
    elim c.then-left-eq0.branch [
      | then-left-eq0-via-then-left-eq0 v ↦
          sym (removal_used w.left c.args.lengths.now w.i (omega (arith, v.if-left-eq0.true)) ∙ ap (λ (n : ℕ). (w.i, n)) (sym v.if-left-eq0.true)) ∙ w.invariant
      | then-left-eq0-via-else-left-eq0+then-entry-left v ↦ sym (removal_stops _ _ _ (omega arith) v.if-entry-left.true) ∙ w.invariant
    ]

pub loop-i-preserved : goal.loop-i-preserved
loop-i-preserved c =
    let w = c.loop-i in
    sym (removal_next w.left c.args.lengths.now w.i (omega arith) (omega arith) c.if-entry-left.false) ∙ w.invariant

pub returns : goal.returns
returns c =
    let w = c.loop-i in
    sym (removal_end w.left c.args.lengths.now w.i w.auto.i-end c.loop-i-test.false) ∙ w.invariant
