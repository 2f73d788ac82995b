-- Every claim, from the theorem of its own crate.
use native.Mathlib.Nat.{le_refl}
use Rattle.lists.proofs.Members.{member_has}
use Rattle.colours.proofs.Bits.{place_ones}
use Rattle.colours.proofs.DroppedBits.{masked, shifted}
use Rattle.colours.proofs.Theorems as colour
use Rattle.calls.specs.FrameChoice.{choices}
use Rattle.calls.proofs.ChoiceLaws.{Chosen, chosen, choice_local}
use Rattle.isolation.proofs.Theorems as history
use Rattle.calls.proofs.OnePass as pass
use Rattle.supply.proofs.Laws as law
use Rattle.times.proofs.Planner as planner
use Rattle.times.proofs.AddedRows.{added_rows_change_nothing}
use Rattle.times.proofs.SafeSide as safe
use Rattle.times.proofs.PlanRounds as round
use Rattle.examples.proofs.Claim.{claim}
use Rattle.report.proofs.LongInputs.{first_bytes_tell}
use Rattle.marshal.proofs.BoardRoundTrip as lent
use Rattle.claims.specs.Colours.{ColourClaims}
use Rattle.claims.specs.Histories.{HistoryClaims}
use Rattle.claims.specs.OnePass.{OnePassClaims}
use Rattle.claims.specs.Times.{SupplyClaims, TimeClaims}
use Rattle.claims.specs.Reload.{ReloadClaims}
use Rattle.claims.specs.Rounds.{RoundClaims}
use Rattle.claims.specs.Interface.{InterfaceClaims}
use Rattle.claims.specs.Claims.{Claims}
use Rattle.claims.proofs.EveryCall.{every_call_claims}
use Rattle.claims.proofs.RowTimes.{row_time_claims}
use Rattle.claims.proofs.Looks.{look_claims}
use Rattle.claims.proofs.EvenUse.{even_use_claims}
use Rattle.claims.proofs.PageOrder.{page_order_claims}
use Rattle.claims.proofs.Quotas.{quota_claims}
use Rattle.claims.proofs.TakingBack.{taking_back_claims}
use Rattle.claims.proofs.Accounts.{account_claims}
use Rattle.claims.proofs.Reload.{reloaded_counts}
use Rattle.claims.proofs.Rounds as reached

colour_claims : ColourClaims
colour_claims =
    record {
      cache_size = colour.cache_size;
      one_set_one_colour = colour.one_set_one_colour;
      layout_then_bleaching = colour.layout_then_bleaching;
      bleaching_then_layout = colour.bleaching_then_layout;
      laid_out_colour = colour.laid_out_colour;
      different_pages = colour.different_pages;
      index_back = colour.index_back;
      page_back = colour.page_back;
      consecutive_colours = colour.consecutive_colours;
      aligned_drops_bits = colour.aligned_drops_bits;
      aligned_reply = colour.aligned_reply;
      interval_equation = λ n l u b a order. colour.interval_equation n l u order b a;
      interval_reply = λ n l u b a i order. colour.interval_reply n l u order b a i;
      place_ones = place_ones;
      mask_is_remainder = λ w p k word. masked w p word k;
      shifts_drop_bits = λ w p m k word. shifted w p word m k;
    }

history_claims : HistoryClaims
history_claims =
    record {
      reserved_stays = history.reserved_stays;
      one_frame_a_page = history.one_frame_a_page;
      held_in_grant = history.held_in_grant;
      no_shared_cache_set = history.no_shared_cache_set;
      chosen_is_free = λ s d c f coloured e.
          let r = member_has (Chosen s c) f (choices s d c) (chosen s d c coloured) e in
          (r.below, r.free, r.inside);
      choice_local = choice_local;
    }

one_pass_claims : OnePassClaims
one_pass_claims = record { one_pass = pass.one_pass; few_numbers = pass.few_numbers }

supply_claims : SupplyClaims
supply_claims =
    record {
      supply_early = λ p q t b. law.supply_early b t;
      supply_le = λ p q t b. law.supply_le b t;
      supply_mono = λ p q t u b. law.supply_mono b t u;
      supply_step = λ p q t b. law.supply_step b t;
      supply_budget = law.supply_budget;
      first_supplies = λ p q x b some. law.le_supply b x _ some (le_refl _);
      none_before = λ p q x t b. law.first_le b x t;
    }

time_claims : TimeClaims
time_claims =
    record {
      time_is_first = planner.time_is_first;
      late_is_late = planner.late_is_late;
      vcpu_time_is_first = planner.vcpu_time_is_first;
      vcpu_late_is_late = planner.vcpu_late_is_late;
      less_is_no_later = planner.less_is_no_later;
      budget_is_no_later = planner.budget_is_no_later;
      added_rows_change_nothing = added_rows_change_nothing;
    }

reload_claims : ReloadClaims
reload_claims =
    record {
      reloaded_counts = reloaded_counts;
      shared_are_reloaded = safe.shared_are_reloaded;
      no_earlier_than_pairwise = safe.no_earlier_than_pairwise;
    }

round_claims : RoundClaims
round_claims =
    record {
      task_rounds_bounded = λ b reload vcpus tasks room p. round.task_rounds_bounded reload vcpus tasks (reached.plan_of b reload vcpus tasks room p);
      vcpu_rounds_bounded = λ b reload vcpus tasks room p. round.vcpu_rounds_bounded vcpus (reached.plan_of b reload vcpus tasks room p).vcpu_rows_lem;
      plans_pass = reached.plans_pass;
      bound_is_reached = (reached.crowded_rounds, reached.crowded_bound);
      bound_grows = round.bound_grows;
      long_period_adds_nothing = round.long_period_adds_nothing;
      most_task_bound = λ b reload vcpus tasks room p. round.most_task_bound tasks (reached.plan_of b reload vcpus tasks room p).task_rows_lem;
      most_vcpu_bound = λ b reload vcpus tasks room p. round.most_vcpu_bound vcpus (reached.plan_of b reload vcpus tasks room p).vcpu_rows_lem;
      task_bound_at_most = reached.task_bound_at_most;
      vcpu_bound_at_most = reached.vcpu_bound_at_most;
      task_rounds_in_time = λ b reload vcpus tasks room p. round.task_rounds_in_time reload vcpus tasks (reached.plan_of b reload vcpus tasks room p);
      vcpu_rounds_in_time = round.vcpu_rounds_in_time;
      a_million_task_rounds = reached.a_million_task_rounds;
      a_million_vcpu_rounds = reached.a_million_vcpu_rounds;
      task_search_ends = λ b reload vcpus tasks room p. round.task_search_ends reload vcpus tasks (reached.plan_of b reload vcpus tasks room p);
      vcpu_search_ends = λ b reload vcpus tasks room p. round.vcpu_search_ends vcpus (reached.plan_of b reload vcpus tasks room p).vcpu_rows_lem;
    }

interface_claims : InterfaceClaims
interface_claims =
    record {
      words_back = lent.words_back;
      board_back = lent.board_back;
      one_word = lent.one_word;
      quota_word = lent.quota_word;
      words_stand = lent.words_stand;
      words_stand_again = lent.words_stand_again;
      first_bytes_tell = first_bytes_tell;
    }

pub claims : Claims
claims =
    record {
      colours = colour_claims;
      domain_rule = history.the_domain_rule;
      histories = history_claims;
      every_call = every_call_claims;
      looks = look_claims;
      even_use = even_use_claims;
      page_order = page_order_claims;
      quotas = quota_claims;
      taking_back = taking_back_claims;
      accounts = account_claims;
      one_pass = one_pass_claims;
      supply = supply_claims;
      times = time_claims;
      row_times = row_time_claims;
      reload = reload_claims;
      rounds = round_claims;
      examples_hold = claim;
      interface = interface_claims;
    }
