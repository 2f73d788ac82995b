-- What holds of every call on any board and table, accepted or not: the fields of domains at or beyond the count play no part, grants never change, a refused
-- call changes nothing, and a row is 0 but where document 01 gives it a meaning. Admission and the other operations are here too, as far as they have these.
use Rattle.std.specs.Prelude.{ℕ, ◌<◌, ◌≤◌, List, ◌≡◌}
use Rattle.refusal.specs.declared.RowNames.TheVariants.{Nothing}
use Rattle.refusal.specs.Reply.{Reply, Refuses}
use Rattle.refusal.specs.Rows.{row_names}
use Rattle.colours.specs.Cache.{cache_reply}
use Rattle.colours.specs.Pages.{layout_reply, bleach_reply}
use Rattle.board.specs.declared.Board.{Board}
use Rattle.board.specs.Tests.{grant, active_set, quota}
use Rattle.calls.specs.Table.{State}
use Rattle.admission.specs.Admission.{admission_reply, judged}
use Rattle.isolation.specs.DomainRule.{Call, outcome, run, lent, told, answers}
use Rattle.report.specs.Report.{extent_reply, verdict}

-- Two boards agree below the count: in N, F and the count, and in grant, active set and quota of each domain below it.
pub record AgreeBelow (a b : Board) : Type 0 where
  pub same_colours : a.colours ≡ b.colours
  pub same_frames : a.frames ≡ b.frames
  pub same_domains : a.domains ≡ b.domains
  pub same_grants : (d : ℕ) → d < a.domains → grant a d ≡ grant b d
  pub same_active : (d : ℕ) → d < a.domains → active_set a d ≡ active_set b d
  pub same_quotas : (d : ℕ) → d < a.domains → quota a d ≡ quota b d

-- The row of a reply is 0, except for the refusals whose row names something: 5 to 7 and 17 to 22.
abbrev pub RowIsZero : {A : Type 0} → Reply A → Type 0
RowIsZero reply = (n r : ℕ) → reply ≡ Refuses n r → row_names n ≡ Nothing → r ≡ 0

pub record EveryCallClaims : Type 0 where
  -- Fields of domains at or beyond the count are not read. On boards that agree below it, and one table, a call tells the same and leaves the same table, and
  -- boards that agree below it again; and so each domain is told the same in any history.
  pub beyond_count_unread :
      (s r : State) → AgreeBelow s.board r.board → s.table ≡ r.table → (c : Call)
      → (told s c ≡ told r c) × ((outcome s c).next.table ≡ (outcome r c).next.table) × AgreeBelow (outcome s c).next.board (outcome r c).next.board
  pub beyond_count_untold :
      (s r : State) → AgreeBelow s.board r.board → s.table ≡ r.table → (d : ℕ) (h : List Call) → answers d s h ≡ answers d r h
  -- Nor does admission read them: its reply and both lists are the same.
  pub beyond_count_unplanned :
      (a b : Board) → AgreeBelow a b
      → (reload : ℕ) (vcpus tasks times rounds : List ℕ) → judged a reload vcpus tasks times rounds ≡ judged b reload vcpus tasks times rounds
  -- Nor are they changed, in any history.
  pub beyond_count_stays :
      (s : State) (h : List Call) (d : ℕ) → s.board.domains ≤ d
      → (active_set (run s h).board d ≡ active_set s.board d) × (quota (run s h).board d ≡ quota s.board d)
  -- Grants never change, and neither do N, F and the count.
  pub grants_stay :
      (s : State) (h : List Call)
      → ((run s h).board.grants ≡ s.board.grants) × ((run s h).board.colours ≡ s.board.colours)
      × ((run s h).board.frames ≡ s.board.frames) × ((run s h).board.domains ≡ s.board.domains)
  -- A refused call changes nothing: neither board nor table, nor the list lent to it. A refused plan changes neither list.
  pub refused_changes_nothing :
      (s : State) (c : Call) (n r : ℕ) → (outcome s c).reply ≡ Refuses n r → ((outcome s c).next ≡ s) × ((told s c).list ≡ lent c)
  pub refused_plan_changes_nothing :
      (b : Board) (reload : ℕ) (vcpus tasks times rounds : List ℕ) (n r : ℕ) → (judged b reload vcpus tasks times rounds).reply ≡ Refuses n r
      → ((judged b reload vcpus tasks times rounds).times ≡ times) × ((judged b reload vcpus tasks times rounds).rounds ≡ rounds)
  -- In every reply the row is 0, except for refusals 5 to 7 and 17 to 22: of calls, of admission, of the colours of the cache and of the input of `admit`.
  pub call_row : (s : State) (c : Call) → RowIsZero (outcome s c).reply
  pub admission_row : (b : Board) (reload : ℕ) (vcpus tasks : List ℕ) (room : ℕ) → RowIsZero (admission_reply b reload vcpus tasks room)
  pub cache_row : (bytes ways : ℕ) → RowIsZero (cache_reply bytes ways)
  pub layout_row : (n s i : ℕ) → RowIsZero (layout_reply n s i)
  pub bleach_row : (n s p : ℕ) → RowIsZero (bleach_reply n s p)
  pub verdict_row : (input : List ℕ) → RowIsZero (verdict input)
  pub extent_row : (input : List ℕ) → RowIsZero (extent_reply input)
