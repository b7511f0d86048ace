-- `find_place`: n's place among all numbers held is its place among those that are left; it stops behind the last number below n. Those passed are paid.
use Rattle.std.proofs.Common.{◌≡◌, ◌+◌, ◌-◌, length, take}
use Rattle.window.specs.Window.{place}
use Rattle.window.proofs.find_place.Given as goal

abbrev pub invariant-loop-behind : goal.invariant-loop-behind
invariant-loop-behind l = record {
  same : place l.n l.held ≡ place l.n (take (length l.held - l.behind) l.held);
  paid : l.fn.budget ≡ l.budget + l.behind;
}
