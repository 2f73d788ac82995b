-- `board_tests::domains::in_order` meets its contract. The invariant: no domain below `d` is at fault, and `seen` is the union of their grants.
use Prim.Native.Nat.{◌≤◌}
use Rattle.board_tests.proofs.FaultlessBoard.{InOrderTo}
use Rattle.board_tests.proofs.domains.in_order.Given as goal

abbrev pub invariant-loop-d : goal.invariant-loop-d
invariant-loop-d l = (l.d ≤ l.board.domains) × InOrderTo l.board l.d l.seen
