-- The claims on page order, from the laws of their own crates: the page of claims says in its own words what it is to be in order.
use mathlib.Core.List.{List, [], ◌∷◌}
use mathlib.Core.Path.{◌≡◌, refl}
use Rattle.calls.specs.Calls.{Move}
use Rattle.calls.proofs.Moves.{EachMove, Sorted}
use Rattle.calls.proofs.MoveList.{in_page_order, moved_once, move_count, only_list}
use Rattle.calls.proofs.AnyOrder.{table_by_list}
use Rattle.isolation.proofs.MoveLists.{triples_told, rest_stays, refused_stays}
use Rattle.claims.specs.PageOrder.{Before, BeforeAll, Ascending, PageOrderClaims}

all_is : (m : Move) (ms : List Move) → EachMove (Before m) ms ≡ BeforeAll m ms
all_is m [] = refl
all_is m (a ∷ ms) = rw (all_is m ms)

order_is : (ms : List Move) → Sorted Before ms ≡ Ascending ms
order_is [] = refl
order_is (m ∷ ms) = rw (all_is m ms, order_is ms)

pub page_order_claims : PageOrderClaims
page_order_claims =
    record {
      in_page_order = λ s d c lent. rw (← (order_is _)) (in_page_order s d c lent);
      each_once = moved_once;
      count_is = move_count;
      only_list = λ s d c lent n e ms same ordered. only_list s d c lent n e ms same (rw (order_is ms) ordered);
      table_by_list = table_by_list;
      triples_told = triples_told;
      rest_stays = rest_stays;
      refused_stays = refused_stays;
    }
