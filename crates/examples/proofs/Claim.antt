-- Every example of the table holds, by computation: the definitions on the `unfolding` lines are run.
use mathlib.Core.Bool.{true}
use mathlib.Core.Path.{◌≡◌, refl}
use lib.Count.{ones, ones_in}
use Rattle.lists.specs.Range.{from, keep, lowest_from, is_fewest, fewest}
use Rattle.refusal.specs.Reply.{each, unless}
use Rattle.board.specs.Tests.{bad_quotas, domain_tests, board_tests, state_tests, call_tests}
use Rattle.calls.specs.Table.{frames_with, mapped_to, frees, frames_held, strays}
use Rattle.calls.specs.FrameChoice.{in_colour, next_colour, next_frame, taken, choices}
use Rattle.calls.specs.Calls.{settle, called, look, fault, release, colours, pair_up, insert_move, in_order, move_all, recolour, set_quota, triples}
use Rattle.calls.specs.TakeBack.{move_list, any_move, frames_named, twice, backward, take_back}
use Rattle.isolation.specs.DomainRule.{run}
use Rattle.colours.specs.Sets.{is_colour_set, has, colours_below, colour_at, place_of}
use Rattle.colours.specs.Cache.{is_colour_count, cache_reply}
use Rattle.colours.specs.Pages.{layout_page, layout_reply, bleach_index, bleach_reply, drop_bits, equation_one}
use Rattle.supply.specs.Supply.{supply}
use Rattle.rows.specs.RowWords.{cost}
use Rattle.rows.specs.Reload.{held_from, reloaded_set, reloaded, arrival_charge}
use Rattle.rows.specs.Part.{part_start, part_end, rows_from, part_of}
use Rattle.plan.specs.Tests.{row_tests, plan_tests}
use Rattle.times.specs.FirstTime.{first_from, first_time}
use Rattle.times.specs.Times.{arrivals, need, task_need, time_in_part, task_time, vcpu_charge, vcpu_need, vcpu_time}
use Rattle.times.specs.Rounds.{covering, rounds_from, rounds, rounds_in_part, task_rounds, vcpu_rounds, rounds_bound, task_bound, vcpu_bound}
use Rattle.times.specs.Pairwise.{colours_shared, pairwise_need, pairwise_time}
use Rattle.admission.specs.Admission.{time_tests, admission_reply}
use Rattle.examples.specs.Example.{same_reply, same_list, numbers, time_numbers, admission_numbers, holds, all_hold}
use Rattle.examples.specs.Table.{examples}

pub claim : all_hold examples ≡ true
unfolding
    ones ones_in from keep each unless lowest_from is_fewest fewest
    is_colour_set has colours_below colour_at place_of is_colour_count cache_reply layout_page layout_reply bleach_index bleach_reply drop_bits equation_one
    bad_quotas domain_tests board_tests state_tests call_tests frames_with mapped_to frees frames_held strays in_colour next_colour next_frame taken choices
    settle called look fault release colours pair_up insert_move in_order move_all recolour set_quota triples run
    move_list any_move frames_named twice backward take_back
    supply cost held_from reloaded_set reloaded arrival_charge part_start part_end rows_from part_of row_tests plan_tests
    first_from first_time arrivals need task_need time_in_part task_time vcpu_charge vcpu_need vcpu_time
    covering rounds_from rounds rounds_in_part task_rounds vcpu_rounds rounds_bound task_bound vcpu_bound
    colours_shared pairwise_need pairwise_time time_tests admission_reply
    same_reply same_list numbers time_numbers admission_numbers holds all_hold examples
claim = refl
