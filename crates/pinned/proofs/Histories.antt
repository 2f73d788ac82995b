-- Instances of the domain rule and of what else holds of histories and of every call: on eight domains, and on document 01's example board.
use Prim.Native.Nat.{ℕ, zero, suc, ◌<◌}
use native.Mathlib.Nat.{not-suc-le-zero, le_of_suc-le-suc}
use native.Mathlib.Omega.{arith}
use mathlib.Core.Bool.{Bool, true, false≢true}
use mathlib.Core.List.{List, [], ◌∷◌}
use mathlib.Core.Logic.{◌↔◌}
use mathlib.Core.Path.{◌≡◌, refl, ap}
use lib.Dec.{eqb}
use Rattle.lists.specs.Range.{from, keep, any_of, lowest_from, is_fewest, fewest}
use Rattle.refusal.specs.declared.RowNames.TheVariants.{Nothing}
use Rattle.refusal.specs.Reply.{Reply, Refuses, each, unless}
use Rattle.refusal.specs.Rows.{row_names}
use Rattle.colours.specs.Sets.{is_colour_set, has}
use Rattle.colours.specs.Cache.{is_colour_count, cache_reply}
use Rattle.colours.specs.Pages.{layout_reply, bleach_reply}
use Rattle.board.specs.declared.Board.{Board}
use Rattle.board.specs.Tests.{grant, active_set, quota, bad_quotas, domain_tests, board_tests, state_tests, call_tests}
use Rattle.calls.specs.Table.{State, state_of, word, is_of, in_set, frames_with, mapped_to, frees, frames_held}
use Rattle.calls.specs.FrameChoice.{in_colour, next_colour, next_frame, taken, choices}
use Rattle.calls.specs.Calls.{Answer, settle, called, look, fault, set_quota, with_active}
use Rattle.plan.specs.Tests.{plan_tests}
use Rattle.admission.specs.Admission.{admission_reply, judged}
use Rattle.isolation.specs.DomainRule.{Fault, outcome, run, own, told, answers, LookTheSame, SameMap}
use Rattle.isolation.specs.Accounts.{OneFrameAPage}
use Rattle.report.specs.Report.{extent_reply, verdict}
use Rattle.examples.specs.Example.{same_list, numbers}
use Rattle.examples.specs.Table.{recorder, planned}
use Rattle.claims.specs.Histories.{HistoryClaims}
use Rattle.claims.specs.EveryCall.{AgreeBelow, EveryCallClaims}
use Rattle.pinned.proofs.Pinned.{all}
use Rattle.pinned.proofs.Boards.{eight, eight_accepted, eight_empty, early, later, alone}

abbrev histories : HistoryClaims
histories = all.histories

abbrev calls : EveryCallClaims
calls = all.every_call

says : List ℕ → Reply Answer → Bool
says ns r = same_list ns (numbers r)

-- by computation: domain 7 then holds frame 7, which page 9 has; and it has none before
premises :
    (SameMap 7 (run eight (own 7 alone)) (run eight (own 7 [])) → ⊥)
    × (is_of 7 (word (run eight early).table 7) ≡ true)
    × (any_of (eqb 0) (choices recorder 0 0x3) ≡ true)
    × ((outcome recorder (Fault 2 7)).reply ≡ Refuses 8 0)
    × ((judged planned 0 [] [] (5 ∷ []) (6 ∷ [])).reply ≡ Refuses 15 0)
unfolding
    from keep lowest_from is_fewest fewest unless each is_colour_set has is_colour_count bad_quotas domain_tests board_tests state_tests call_tests
    frames_with mapped_to frees frames_held in_colour next_colour next_frame taken choices settle called look fault set_quota run own says same_list numbers
    plan_tests judged admission_reply
premises = (λ same. false≢true (ap (says (2 ∷ [])) (same 9 (omega arith))), refl, refl, refl, refl)

-- the rule of eight domains, to the last of them: two histories with the same own call look the same, and one with it and one without do not
pub the_rule : LookTheSame 7 (run eight early) (run eight later)
unfolding own
the_rule = (all.domain_rule eight eight_accepted eight_empty 7 (omega arith) early later).1 (refl, λ p small. refl)

pub the_rule_back : LookTheSame 7 (run eight alone) (run eight []) → ⊥
the_rule_back same = premises.0 ((all.domain_rule eight eight_accepted eight_empty 7 (omega arith) alone []).0 same).1

pub reserved_stays : (word eight.table 0 ≡ 65535) ↔ (word (run eight early).table 0 ≡ 65535)
reserved_stays = histories.reserved_stays eight eight_accepted eight_empty early 0 (omega arith)

pub one_frame_a_page : OneFrameAPage 7 (run eight early)
one_frame_a_page = histories.one_frame_a_page eight eight_accepted eight_empty early 7 (omega arith)

pub held_in_grant : has 128 7 ≡ true
held_in_grant = histories.held_in_grant eight eight_accepted eight_empty early 7 7 (omega arith) (omega arith) premises.1

-- whoever else held the frame of domain 7 would be domain 7
pub no_shared_cache_set : (e : ℕ) → e < 8 → is_of e (word (run eight early).table 7) ≡ true → 7 ≡ e
no_shared_cache_set e low held =
    histories.no_shared_cache_set eight eight_accepted eight_empty early 7 e 28672 28672 (omega arith) low (omega arith) (omega arith) premises.1 held refl

pub chosen_is_free : (0 < 8) × (word recorder.table 0 ≡ 0) × (in_set 4 0x3 0 ≡ true)
chosen_is_free = histories.chosen_is_free recorder 0 0x3 0 (omega arith) premises.2

pub choice_local : choices recorder 0 0x3 ≡ choices (state_of (with_active recorder.board 0 0x1) recorder.table) 0 0x3
choice_local = histories.choice_local recorder (state_of (with_active recorder.board 0 0x1) recorder.table) 0 0x3 refl refl (λ f low in_set_lem. refl)

-- document 01's board with other fields of a third domain, of which there is none
abbrev with_a_third : Board
with_a_third =
    record {
      colours = 4;
      frames = 8;
      domains = 2;
      grants = 0x3 ∷ 0xC ∷ 0xFFFF ∷ [];
      active = 0x3 ∷ 0xC ∷ 0x1 ∷ [];
      quotas = 4096 ∷ 4096 ∷ 0 ∷ [];
    }

abbrev third : State
third = state_of with_a_third recorder.table

below_two : (P : ℕ → Type 0) → P 0 → P 1 → (d : ℕ) → d < 2 → P d
below_two P p q zero l = p
below_two P p q (suc zero) l = q
below_two P p q (suc (suc d)) l = absurd (not-suc-le-zero (le_of_suc-le-suc (le_of_suc-le-suc l)))

agree : AgreeBelow recorder.board with_a_third
agree =
    record {
      same_colours = refl;
      same_frames = refl;
      same_domains = refl;
      same_grants = below_two (λ d. grant recorder.board d ≡ grant with_a_third d) refl refl;
      same_active = below_two (λ d. active_set recorder.board d ≡ active_set with_a_third d) refl refl;
      same_quotas = below_two (λ d. quota recorder.board d ≡ quota with_a_third d) refl refl;
    }

pub beyond_count_unread : told recorder (Fault 1 3) ≡ told third (Fault 1 3)
beyond_count_unread = (calls.beyond_count_unread recorder third agree refl (Fault 1 3)).0

pub beyond_count_unread_again : AgreeBelow (outcome recorder (Fault 1 3)).next.board (outcome third (Fault 1 3)).next.board
beyond_count_unread_again = (calls.beyond_count_unread recorder third agree refl (Fault 1 3)).2

pub beyond_count_untold : answers 1 recorder (Fault 0 9 ∷ Fault 1 3 ∷ []) ≡ answers 1 third (Fault 0 9 ∷ Fault 1 3 ∷ [])
beyond_count_untold = calls.beyond_count_untold recorder third agree refl 1 (Fault 0 9 ∷ Fault 1 3 ∷ [])

pub beyond_count_unplanned : judged recorder.board 0 [] [] (5 ∷ []) (6 ∷ []) ≡ judged with_a_third 0 [] [] (5 ∷ []) (6 ∷ [])
beyond_count_unplanned = calls.beyond_count_unplanned recorder.board with_a_third agree 0 [] [] (5 ∷ []) (6 ∷ [])

pub beyond_count_stays : (active_set (run third (Fault 1 3 ∷ [])).board 2 ≡ 0x1) × (quota (run third (Fault 1 3 ∷ [])).board 2 ≡ 0)
beyond_count_stays = calls.beyond_count_stays third (Fault 1 3 ∷ []) 2 (omega arith)

pub grants_stay : (run third (Fault 1 3 ∷ [])).board.grants ≡ 0x3 ∷ 0xC ∷ 0xFFFF ∷ []
grants_stay = (calls.grants_stay third (Fault 1 3 ∷ [])).0

pub refused_changes_nothing : ((outcome recorder (Fault 2 7)).next ≡ recorder) × ((told recorder (Fault 2 7)).list ≡ [])
refused_changes_nothing = calls.refused_changes_nothing recorder (Fault 2 7) 8 0 premises.3

pub refused_plan_changes_nothing : ((judged planned 0 [] [] (5 ∷ []) (6 ∷ [])).times ≡ 5 ∷ []) × ((judged planned 0 [] [] (5 ∷ []) (6 ∷ [])).rounds ≡ 6 ∷ [])
refused_plan_changes_nothing = calls.refused_plan_changes_nothing planned 0 [] [] (5 ∷ []) (6 ∷ []) 15 0 premises.4

-- the row of 8, 15, 2, 9, 10 and 1 is 0
unnamed : (row_names 8 ≡ Nothing) × (row_names 15 ≡ Nothing) × (row_names 2 ≡ Nothing) × (row_names 9 ≡ Nothing) × (row_names 10 ≡ Nothing) × (row_names 1 ≡ Nothing)
unfolding row_names
unnamed = (refl, refl, refl, refl, refl, refl)

pub call_row : (r : ℕ) → (outcome recorder (Fault 2 7)).reply ≡ Refuses 8 r → r ≡ 0
call_row r e = calls.call_row recorder (Fault 2 7) 8 r e unnamed.0

pub admission_row : (r : ℕ) → admission_reply planned 0 [] [] 0 ≡ Refuses 15 r → r ≡ 0
admission_row r e = calls.admission_row planned 0 [] [] 0 15 r e unnamed.1

pub cache_row : (r : ℕ) → cache_reply 0 0 ≡ Refuses 2 r → r ≡ 0
cache_row r e = calls.cache_row 0 0 2 r e unnamed.2

pub layout_row : (r : ℕ) → layout_reply 16 0 6 ≡ Refuses 9 r → r ≡ 0
layout_row r e = calls.layout_row 16 0 6 9 r e unnamed.3

pub bleach_row : (r : ℕ) → bleach_reply 16 1 268435456 ≡ Refuses 10 r → r ≡ 0
bleach_row r e = calls.bleach_row 16 1 268435456 10 r e unnamed.4

pub verdict_row : (r : ℕ) → verdict [] ≡ Refuses 1 r → r ≡ 0
verdict_row r e = calls.verdict_row [] 1 r e unnamed.5

pub extent_row : (r : ℕ) → extent_reply [] ≡ Refuses 1 r → r ≡ 0
extent_row r e = calls.extent_row [] 1 r e unnamed.5
