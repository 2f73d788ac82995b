-- Quotas over whole histories: document 02, No. 6. No domain ever holds more frames than its quota, a quota call of another domain changes nothing
-- that a domain sees, and a domain whose quota fits a set can always recolour to it.
use Rattle.std.specs.Prelude.{ℕ, ◌*◌, ◌<◌, ◌≤◌, false, not, ◌&&◌, List, ◌∷◌, ◌++◌, ◌≡◌, length}
use Rattle.refusal.specs.Reply.{Answers}
use Rattle.board.specs.Tests.{grant, quota, empty_or_outside, bad_quotas}
use Rattle.calls.specs.Table.{State, in_set, has_word, frames_with, frames_held, strays}
use Rattle.calls.specs.Calls.{Moved, recolour}
use Rattle.isolation.specs.DomainRule.{Call, SetQuota, run, LookTheSame, Accepted, Empty}

-- From an accepted board with an empty table, after any history, a domain holds no more frames than its quota then is.
abbrev pub WithinQuota : ℕ → State → Type 0
WithinQuota d s = frames_held s d ≤ quota s.board d

abbrev pub NeverAboveQuota : Type 0
NeverAboveQuota =
    (start : State) → Accepted start → Empty start
    → (d : ℕ) → d < start.board.domains
    → (h : List Call)
    → WithinQuota d (run start h)

-- A case of the domain rule, said aloud: a history looks to a domain as it does with a quota call of another domain anywhere in it, refused or not.
abbrev pub OthersQuotaUnseen : Type 0
OthersQuotaUnseen =
    (start : State) → Accepted start → Empty start
    → (d : ℕ) → d < start.board.domains
    → (e q : ℕ) → (e ≡ d → ⊥)
    → (h k : List Call)
    → LookTheSame d (run start (h ++ k)) (run start (h ++ (SetQuota e q ∷ k)))

-- How many frames have a colour in set c and are not reserved.
abbrev pub open_in : State → ℕ → ℕ
open_in s c = length (frames_with s (λ f. in_set s.board.colours c f && not (has_word s.table 65535 f)))

-- From an accepted board with an empty table that 26 does not refuse, for a set that 9 does not refuse: a domain whose quota is at most the frames of
-- that set that are not reserved can recolour to it after any history, with a move list of three words for each frame of the quota.
abbrev pub RoomToRecolour : Type 0
RoomToRecolour =
    (start : State) → Accepted start → Empty start → bad_quotas start.board ≡ false
    → (d c : ℕ) → d < start.board.domains → empty_or_outside (grant start.board d) c ≡ false
    → (h : List Call) → let s = run start h in
    quota s.board d ≤ open_in start c
    → (lent : List ℕ) → 3 * quota s.board d ≤ length lent
    → (recolour s d c lent).reply ≡ Answers (Moved (length (strays s d c)))
