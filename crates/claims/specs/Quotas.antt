-- Quotas: document 02, No. 6. What holds of them after any history, which `isolation/specs/Quotas.antt` states in one page; what a quota call gives and
-- changes, and which operations do not look at quotas; and a history in which a domain comes to its quota.
use Rattle.std.specs.Prelude.{ℕ, ◌<◌, ◌≤◌, List, ◌≡◌}
use Rattle.refusal.specs.Reply.{Answers}
use Rattle.board.specs.declared.Board.{Board}
use Rattle.board.specs.Tests.{active_set, quota, bad_quotas}
use Rattle.calls.specs.Table.{State, state_of, frames_held}
use Rattle.calls.specs.Calls.{New, Active, Quota, fault, colours, recolour, with_quotas, set_quota}
use Rattle.admission.specs.Admission.{admission_reply}
use Rattle.isolation.specs.DomainRule.{run}
use Rattle.isolation.specs.Quotas.{NeverAboveQuota, OthersQuotaUnseen, RoomToRecolour}
use Rattle.examples.specs.Table.{recorder, allotted}

pub record QuotaClaims : Type 0 where
  -- From an accepted board with an empty table, after any history, no domain holds more frames than its quota.
  pub never_above_quota : NeverAboveQuota
  -- Another domain's quota call changes nothing that a domain sees.
  pub others_quota_unseen : OthersQuotaUnseen
  -- A domain whose quota is at most the frames of a set of its grant that are not reserved can recolour to that set after any history.
  pub room_to_recolour : RoomToRecolour
  -- Of any board and table: where set quota answers, it answers the quota asked for, which is 1 to 4,096 and no less than the frames held. Of the board
  -- it changes that domain's quota and nothing else, and colours tells it from then on.
  pub quota_given :
      (s : State) (d q n : ℕ) → (set_quota s d q).reply ≡ Answers (Quota n)
      → (n ≡ q) × (0 < q) × (q ≤ 4096) × (frames_held s d ≤ q)
  pub one_field :
      (s : State) (d q n : ℕ) → (set_quota s d q).reply ≡ Answers (Quota n)
      → let b = (set_quota s d q).next.board in
      (b ≡ with_quotas s.board b.quotas) × (quota b d ≡ q) × ((e : ℕ) → (e ≡ d → ⊥) → quota b e ≡ quota s.board e)
      × ((set_quota s d q).next.table ≡ s.table)
  pub told_by_colours :
      (s : State) (d q n : ℕ) → (set_quota s d q).reply ≡ Answers (Quota n)
      → (colours (set_quota s d q).next d).reply ≡ Answers (Active (active_set s.board d) q)
  -- A fault that takes a new frame does so below the quota.
  pub new_below_quota : (s : State) (d p f : ℕ) → (fault s d p).reply ≡ Answers (New f) → frames_held s d < quota s.board d
  -- Recolouring does not look at quotas, but for 26, and admission not at all.
  pub recolouring_goes_on :
      (s : State) (qs : List ℕ) (d c : ℕ) (lent : List ℕ) → bad_quotas (with_quotas s.board qs) ≡ bad_quotas s.board
      → let r = recolour (state_of (with_quotas s.board qs) s.table) d c lent in
      (r.reply ≡ (recolour s d c lent).reply) × (r.moves ≡ (recolour s d c lent).moves)
  pub admission_ignores_quotas :
      (b : Board) (qs : List ℕ) (reload : ℕ) (vcpus tasks : List ℕ) (room : ℕ)
      → admission_reply (with_quotas b qs) reload vcpus tasks room ≡ admission_reply b reload vcpus tasks room
  -- The theorem speaks of something: on document 01's example board, domain 1 asks for a quota of 2 and comes to it.
  pub comes_to_quota : (frames_held (run recorder allotted) 1 ≡ 2) × (quota (run recorder allotted).board 1 ≡ 2)
