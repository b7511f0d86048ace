-- `consume_unchecked`: a copy down and a clearing are what the definition leaves.
use Rattle.std.proofs.Common.{◌≡◌, ◌-◌, sym, ap, ◌∙◌, arith}
use borrow.Author.Tests.{ne_eqb}
use Rattle.lists.specs.Numbers.{largest}
use Rattle.window.specs.Window.{expected, held, run_length, Rises, consume}
use Rattle.window.proofs.Rises.{held_fits, held_rises, rises_at}
use Rattle.window.proofs.Loops.{consumed_is}
use Rattle.window.proofs.WindowViewMut.consume_unchecked.Goals as goal

pub overflow_add-next : goal.overflow_add-next
overflow_add-next c =
    let a = c.args.self.now in
    let e = expected a.state in
    let rises : Rises e largest c.held.result.now = rw c.held.ensures.numbers (held_rises a.state a.cells.now e c.requires (omega arith)) in
    omega (arith, rises_at largest e (c.run_length-k.result - 1) c.held.result.now rises (omega arith))

pub returns-clause-outcome : goal.returns-clause-outcome
unfolding consume
returns-clause-outcome c =
    let a = c.args.self.now in
    let r = c.run_length-k in
    let fits = held_fits _ _ c.requires in
    let left = consumed_is a.cells.now r.result a.state.count (omega arith) fits c.copy_within.ensures.len c.copy_within.ensures.after (c.fill.ensures.after (λ y e. e)) in
    let k : run_length (expected a.state) (held a.state a.cells.now) ≡ r.result = sym (r.ensures.0 ∙ ap (run_length (expected a.state)) c.held.ensures.numbers) in
    simp (c.requires, k, ne_eqb _ _ c.if-k-eq0.false, left)
