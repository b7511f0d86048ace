-- `lists::longest`: with the largest so far, the lengths that are left have the largest of all.
use Rattle.std.proofs.Common.{◌≡◌, max, fold, drop}
use Rattle.lists.proofs.longest.Given as goal

abbrev pub invariant-loop-length : goal.invariant-loop-length
invariant-loop-length l = fold max l.most (drop l.length-index l.lengths) ≡ fold max 0 l.lengths
