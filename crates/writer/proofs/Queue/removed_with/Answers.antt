-- A block whose bytes are fewer than those left goes whole, and in another one the removal ends. Assumes nothing.
use Rattle.std.proofs.Common.{ℕ, ◌+◌, ◌-◌, ap, ◌∙◌, arith, length}
use Rattle.std.specs.Slice.Iter.{chunks_rest, chunks_size}
use Rattle.writer.specs.Packing.{removal}
use Rattle.writer.proofs.Entries.{after, removal_few, removal_first, removal_here, removal_on, removal_none, passed_on}
use Rattle.writer.proofs.Queue.removed_with.Goals as goal

abbrev first : ℕ × ℕ → ℕ
first r = r.0

pub loop-block-init : goal.loop-block-init
loop-block-init c =
    let made = c.into_iter-block-iterator.ensures.into_iter_gives in
    let rest = ap chunks_rest made ∙ c.chunks-block-items.ensures.rest in
    (ap chunks_size made ∙ c.chunks-block-items.ensures.size, omega (arith, ap length rest), removal_first c.args.q rest)

pub overflow_add-result : goal.overflow_add-result
overflow_add-result c =
    let block = c.in-Some.block.now in
    let on = passed_on c.loop-block.passed block (chunks_rest c.next.new.self) c.in-Some.ensures.steps.1.0 in
    omega (arith, ap first c.removed_in-last.ensures, removal_few c.loop-block.left block)

pub returns-then-bytes-left : goal.returns-then-bytes-left
returns-then-bytes-left c =
    let w = c.loop-block in
    ap (after w.passed) c.removed_in-last.ensures
    ∙ removal_here w.left w.passed c.in-Some.block.now (chunks_rest c.next.new.self) c.in-Some.ensures.steps.1.0 (omega arith) ∙ w.invariant.2

pub overflow_add-passed : goal.overflow_add-passed
overflow_add-passed c =
    let on = passed_on c.loop-block.passed c.in-Some.block.now (chunks_rest c.next.new.self) c.in-Some.ensures.steps.1.0 in
    omega arith

pub loop-block-preserved : goal.loop-block-preserved
loop-block-preserved c =
    let w = c.loop-block in
    let h = c.in-Some.ensures.steps in
    let block = c.in-Some.block.now in
    let rest = chunks_rest c.next.new.self in
    let left = ap (λ (n : ℕ). after (w.passed + length block) (removal (w.left - n) rest)) c.sum_of-bytes.ensures in
    (h.0 ∙ w.invariant.0, passed_on w.passed block rest h.1.0 ∙ w.invariant.1, left ∙ removal_on w.left w.passed block rest h.1.0 (omega arith) ∙ w.invariant.2)

pub returns : goal.returns
returns c =
    let w = c.loop-block in
    removal_none w.left w.passed _ c.in-None.ensures.steps.1.0 ∙ w.invariant.2
