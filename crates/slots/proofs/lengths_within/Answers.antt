-- Each block's largest length is within the width, and so is that of the lengths left over.
use Rattle.std.proofs.Common.{rules, tests, ◌∙◌, ◌/◌, max, fold, leb, length}
use Rattle.std.proofs.lemmas.Iterator.{YieldsList-from_slice}
use Rattle.std.proofs.lemmas.Iterator.Search.{all_from_yields_List}
use Rattle.slots.proofs.Within.{blocks_within}
use Rattle.slots.proofs.lengths_within.Goals as goal

pub returns-then-all : goal.returns-then-all
returns-then-all c =
    let w = c.args.slot_width in
    let l = c.args.lengths.now in
    let e = all_from_yields_List (λ b. leb (fold max 0 b) w) _ _ c.all.result c.all.ensures.ran (YieldsList-from_slice c.as_chunks.result.0.now cc) (λ x b q k. search (rules, tests)) in
    rw (c.longest.ensures, c.as_chunks.ensures.back) (rw (← c.as_chunks.ensures.front, ← e, c.if-all.true) at (blocks_within w 64 (length l / 64) l))

pub returns-else-all : goal.returns-else-all
returns-else-all c =
    let w = c.args.slot_width in
    let l = c.args.lengths.now in
    let e = all_from_yields_List (λ b. leb (fold max 0 b) w) _ _ c.all.result c.all.ensures.ran (YieldsList-from_slice c.as_chunks.result.0.now cc) (λ x b q k. search (rules, tests)) in
    c.if-all.false ∙ (rw (← c.as_chunks.ensures.front, ← e, c.if-all.false) at (blocks_within w 64 (length l / 64) l))
