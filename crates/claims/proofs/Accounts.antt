-- The claims on the accounts of frames: the theorems from their own crates, and the history by computation and by the theorems.
use native.Mathlib.Omega.{arith}
use mathlib.Core.List.{[], ◌∷◌}
use mathlib.Core.Path.{◌≡◌, refl, ◌∙◌}
use Rattle.lists.specs.Range.{from, keep, lowest_from, is_fewest, fewest}
use Rattle.refusal.specs.Reply.{Answers, each, unless}
use Rattle.colours.specs.Sets.{is_colour_set, has}
use Rattle.colours.specs.Cache.{is_colour_count}
use Rattle.board.specs.Tests.{bad_quotas, domain_tests, board_tests, state_tests, call_tests}
use Rattle.calls.specs.Table.{frames_with, mapped_to, frees, frames_held, strays}
use Rattle.calls.specs.FrameChoice.{in_colour, next_colour, next_frame, taken, choices}
use Rattle.calls.specs.Calls.{Unmapped, New, Freed, settle, called, look, fault, release, pair_up, insert_move, in_order, move_all, recolour, set_quota, triples}
use Rattle.calls.specs.TakeBack.{move_list, any_move, frames_named, twice, backward, take_back}
use Rattle.calls.proofs.NewFrame.{only_frame}
use Rattle.isolation.specs.DomainRule.{Recolour, run, own, answers}
use Rattle.isolation.specs.Accounts.{how_many, new_in, freed_in, held_by_log, OnlyFree}
use Rattle.isolation.proofs.Balance.{held_since}
use Rattle.isolation.proofs.Accounts.{frames_accounted_for, log_is_enough, difference_tells, replay_tells}
use Rattle.examples.specs.Table.{recorder}
use Rattle.claims.specs.Accounts.{full, before, others, served, log, two_free, not_empty, AccountClaims}
use Rattle.claims.proofs.Looks.{accepted, empty}

logged : (answers 0 recorder served ≡ log) × (new_in log ≡ 3) × (freed_in log ≡ 1) × (held_by_log log ≡ 2)
unfolding
    from keep lowest_from is_fewest fewest unless each is_colour_set has is_colour_count bad_quotas domain_tests board_tests state_tests call_tests
    frames_with mapped_to frees frames_held strays in_colour next_colour next_frame taken choices
    settle called fault release pair_up insert_move in_order move_all recolour set_quota triples move_list any_move frames_named twice backward take_back
    how_many answers
logged = (refl, refl, refl, refl)

two_held : frames_held (run recorder served) 0 ≡ 2
two_held = (log_is_enough log recorder accepted empty 0 (omega arith) served logged.0).0 ∙ logged.3

released :
    ((release before 0 9).reply ≡ Answers (Freed 0)) × OnlyFree 0 (release before 0 9).next 0 × (own 0 others ≡ [])
    × ((look (run (release before 0 9).next others) 0 2).reply ≡ Answers Unmapped)
unfolding
    from keep lowest_from is_fewest fewest unless each is_colour_set has is_colour_count bad_quotas domain_tests board_tests state_tests call_tests
    frames_with mapped_to frees frames_held strays in_colour next_colour next_frame taken choices
    settle called look fault release pair_up insert_move in_order move_all recolour set_quota run own
released = (refl, refl, refl, refl)

got_back : (fault (run (release before 0 9).next others) 0 2).reply ≡ Answers (New 0)
got_back =
    let r = frames_accounted_for recorder accepted empty 0 (omega arith) full in
    r.3 9 0 released.0 released.1 others released.2 2 released.3

own_call_between : (fault (run (release before 0 9).next (Recolour 0 0x3 [] ∷ [])) 0 2).reply ≡ Answers (New 1)
unfolding
    from keep lowest_from is_fewest fewest unless each is_colour_set has is_colour_count bad_quotas domain_tests board_tests state_tests call_tests
    frames_with mapped_to frees frames_held strays in_colour next_colour next_frame taken choices
    settle called fault release pair_up insert_move in_order move_all recolour run
own_call_between = refl

another_free : (frees two_free 0xC ≡ 2 ∷ 7 ∷ []) × ((fault two_free 1 4).reply ≡ Answers (New 2))
unfolding
    from keep lowest_from is_fewest fewest unless each is_colour_set has is_colour_count bad_quotas domain_tests board_tests state_tests call_tests
    frames_with mapped_to frees frames_held in_colour next_colour next_frame taken choices settle called fault release run
another_free = (refl, refl)

not_in_the_log : (frames_held not_empty 0 ≡ 1) × (held_by_log (answers 0 not_empty []) ≡ 0)
unfolding from keep frames_with frames_held how_many answers
not_in_the_log = (refl, refl)

pub account_claims : AccountClaims
account_claims =
    record {
      frames_accounted_for = frames_accounted_for;
      log_is_enough = log_is_enough;
      difference_tells = difference_tells;
      held_since = held_since;
      replay_tells = replay_tells;
      only_frame = only_frame;
      logged = logged;
      two_held = two_held;
      released = released;
      got_back = got_back;
      own_call_between = own_call_between;
      another_free = another_free;
      not_in_the_log = not_in_the_log;
    }
