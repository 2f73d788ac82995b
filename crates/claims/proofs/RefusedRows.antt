-- A row is 0 but for refusals 5 to 7 and 17 to 22: each list of tests has only such rows, and a refusal is that of one of its tests.
use Prim.Native.Nat.{ℕ}
use mathlib.Core.Bool.{Bool}
use mathlib.Core.List.{List, [], ◌∷◌, ◌++◌}
use mathlib.Core.Path.{◌≡◌, refl}
use lib.ListN.{length}
use Rattle.lists.proofs.CaseSplits.{cases}
use Rattle.refusal.specs.declared.RowNames.TheVariants.{Nothing}
use Rattle.refusal.specs.Reply.{Reply, Answers, Refuses, Test, each, unless}
use Rattle.refusal.specs.Rows.{row_names}
use Rattle.colours.specs.Cache.{cache_reply}
use Rattle.colours.specs.Pages.{layout_reply, bleach_reply}
use Rattle.board.specs.declared.Board.{Board}
use Rattle.board.specs.Tests.{quotas_test, caller_test, board_tests, state_tests, call_tests}
use Rattle.calls.specs.Table.{State}
use Rattle.calls.specs.Calls.{Done, settle, called, look, fault, release, colours, recolour, set_quota}
use Rattle.calls.specs.TakeBack.{take_back}
use Rattle.rows.specs.RowWords.{vcpu_rows, task_rows}
use Rattle.plan.specs.Tests.{plan_tests}
use Rattle.times.specs.Times.{task_time, vcpu_time}
use Rattle.admission.specs.Admission.{is_late, time_tests, admission_reply}
use Rattle.isolation.specs.DomainRule.{Call, Look, Fault, Release, Colours, Recolour, SetQuota, TakeBack, outcome}
use Rattle.report.specs.Report.{extent_reply, not_a_plan, verdict}
use Rattle.claims.specs.EveryCall.{RowIsZero}
use Rattle.claims.proofs.TestNumbers.{AllTests, refusal_has, both, each_has, board_has, plan_has}

-- the row is 0 where the number names nothing
abbrev Zero : ℕ → ℕ → Type 0
Zero n r = row_names n ≡ Nothing → r ≡ 0

refused_row : {A : Type 0} (ts : List Test) (a : A) → AllTests Zero ts → RowIsZero (unless ts a)
refused_row ts a p n r e = refusal_has Zero ts a p n r e

settled : (s : State) (reply : Reply Done) (n r : ℕ) → (settle s reply).reply ≡ Refuses n r → reply ≡ Refuses n r
unfolding settle
settled s (Answers d) n r e = cc
settled s (Refuses m q) n r e = cc

board_rows : (b : Board) (words : ℕ) → AllTests Zero (board_tests b words)
unfolding row_names
board_rows b words = board_has Zero (λ e. refl, λ e. refl, λ e. refl, λ r e. cc, λ r e. cc, λ r e. cc) b words

call_rows : (b : Board) (words d : ℕ) → AllTests Zero (call_tests b words d)
unfolding call_tests state_tests
call_rows b words d =
    both Zero (board_tests b words ++ (quotas_test b ∷ [])) (caller_test b d ∷ [])
    (both Zero (board_tests b words) (quotas_test b ∷ []) (board_rows b words) (λ e. refl, tt)) (λ e. refl, tt)

called_row : (s : State) (d : ℕ) (own : List Test) (done : Done) → AllTests Zero own → RowIsZero (called s d own done).reply
unfolding called
called_row s d own done p n r e =
    let first : List Test = call_tests s.board (length s.table) d in
    refused_row (first ++ own) done (both Zero first own (call_rows s.board (length s.table) d) p) n r
    (settled s (unless (first ++ own) done) n r e)

pub call_row : (s : State) (c : Call) → RowIsZero (outcome s c).reply
unfolding look fault release colours recolour set_quota take_back
call_row s (Look d p) = called_row s d _ _ (λ e. refl, tt)
call_row s (Fault d p) = called_row s d _ _ (λ e. refl, (λ e. refl, (λ e. refl, tt)))
call_row s (Release d p) = called_row s d _ _ (λ e. refl, (λ e. refl, tt))
call_row s (Colours d) = called_row s d _ _ tt
call_row s (Recolour d c list) = called_row s d _ _ (λ e. refl, (λ e. refl, (λ e. refl, tt)))
call_row s (SetQuota d q) = called_row s d _ _ (λ e. refl, tt)
call_row s (TakeBack d c list) = called_row s d _ _ (λ e. refl, (λ e. refl, (λ e. refl, tt)))

plan_rows : (b : Board) (reload : ℕ) (vcpus tasks : List ℕ) (room : ℕ) → AllTests Zero (plan_tests b reload vcpus tasks room)
unfolding row_names
plan_rows b reload vcpus tasks room = plan_has Zero (λ e. refl, λ e. refl, λ r e. cc, λ r e. cc, λ r e. cc, λ r e. cc) b reload vcpus tasks room

time_rows : (reload : ℕ) (vcpus tasks : List ℕ) → AllTests Zero (time_tests reload vcpus tasks)
unfolding time_tests row_names
time_rows reload vcpus tasks =
    let late_vcpu : ℕ → Bool = λ i. is_late (vcpu_time vcpus i) in
    let late_task : ℕ → Bool = λ j. is_late (task_time reload vcpus tasks j) in
    both Zero (each (vcpu_rows vcpus) 21 late_vcpu) (each (task_rows tasks) 22 late_task)
    (each_has Zero 21 late_vcpu (λ r e. cc) (vcpu_rows vcpus)) (each_has Zero 22 late_task (λ r e. cc) (task_rows tasks))

pub admission_row : (b : Board) (reload : ℕ) (vcpus tasks : List ℕ) (room : ℕ) → RowIsZero (admission_reply b reload vcpus tasks room)
unfolding admission_reply
admission_row b reload vcpus tasks room =
    let first : List Test = board_tests b b.frames in
    let second : List Test = plan_tests b reload vcpus tasks room in
    let third : List Test = time_tests reload vcpus tasks in
    refused_row (first ++ (second ++ third)) tt
    (both Zero first (second ++ third) (board_rows b b.frames) (both Zero second third (plan_rows b reload vcpus tasks room) (time_rows reload vcpus tasks)))

pub cache_row : (bytes ways : ℕ) → RowIsZero (cache_reply bytes ways)
unfolding cache_reply
cache_row bytes ways = refused_row _ _ (λ e. refl, (λ e. refl, (λ e. refl, tt)))

pub layout_row : (n s i : ℕ) → RowIsZero (layout_reply n s i)
unfolding layout_reply
layout_row n s i = refused_row _ _ (λ e. refl, (λ e. refl, (λ e. refl, tt)))

pub bleach_row : (n s p : ℕ) → RowIsZero (bleach_reply n s p)
unfolding bleach_reply
bleach_row n s p = refused_row _ _ (λ e. refl, (λ e. refl, (λ e. refl, (λ e. refl, tt))))

pub extent_row : (input : List ℕ) → RowIsZero (extent_reply input)
unfolding extent_reply
extent_row input = refused_row _ _ (λ e. refl, tt)

pub verdict_row : (input : List ℕ) → RowIsZero (verdict input)
unfolding verdict
verdict_row input n r e none =
    cases (not_a_plan input) (λ f. cc (rw f at e)) (λ f. admission_row _ _ _ _ _ n r (rw f at e) none)
