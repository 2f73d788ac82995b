-- `admission::need::need` meets its contract. The invariant: the sum is the need over the rows passed, which has a bound.
use Rattle.std.proofs.Common.{◌≡◌, ℕ, ◌+◌, ◌*◌, ◌<◌, ◌≤◌}
use Rattle.times.specs.Times.{need}
use Rattle.admission.proofs.need.need.Given as goal

abbrev pub invariant-loop-j : goal.invariant-loop-j
invariant-loop-j g l =
    (l.sum ≤ l.own + l.j * 1160000000000)
    × ((period charge : ℕ → ℕ) → ((j : ℕ) (r : _) → j < l.rows → goal.E-post g l.earlier j r → (r.0 ≡ period j) × (r.1 ≡ charge j)) → l.sum ≡ need l.own period charge l.j l.t)
