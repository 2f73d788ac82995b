-- Frames accounted for. The count of a history is that of its log, and from an empty table that of the frames held; the two facts on words are the invariant's;
-- and calls of others leave what a domain sees alone, so that the only frame free in its active colours is its for the next page.
use Prim.Native.Nat.{ℕ, ◌+◌, ◌<◌}
use native.Mathlib.Omega.{arith}
use mathlib.Core.Bool.{Bool, ◌&&◌}
use mathlib.Core.List.{List, [], ◌∷◌}
use mathlib.Core.Path.{◌≡◌, refl, sym, ap, ◌∙◌}
use lib.Dec.{eqb}
use borrow.Author.Tests.{eq-eqb}
use Rattle.refusal.specs.Reply.{Reply, Answers}
use Rattle.board.specs.Tests.{active_set, quota}
use Rattle.calls.specs.Table.{State, frames_held, frees}
use Rattle.calls.specs.Calls.{Answer, Unmapped, New, Freed, look, fault, release}
use Rattle.calls.proofs.NewFrame.{only_frame}
use Rattle.isolation.specs.DomainRule.{Call, Look, Fault, Release, names, outcome, run, own, Told, answers, Accepted, Empty}
use Rattle.isolation.specs.Kinds.{is_new, is_freed}
use Rattle.isolation.specs.Accounts.{how_many, Entry, entries, new_faults, accepted_releases, new_in, freed_in}
use Rattle.isolation.specs.Accounts.{FramesAccountedFor, LogIsEnough, DifferenceTells, ReplayTells}
use Rattle.isolation.proofs.DomainView.{agree_self}
use Rattle.isolation.proofs.InvariantPreservation.{call_keeps}
use Rattle.isolation.proofs.Rule.{start_good, history_good, own_step, meets_again, others_unseen}
use Rattle.isolation.proofs.Theorems.{reserved_stays, one_frame_a_page}
use Rattle.isolation.proofs.Holding.{one}
use Rattle.isolation.proofs.Balance.{one_entry, one_call, tied, call_balanced, held_since}
use Rattle.isolation.proofs.Quotas.{same_quota, start_none, never_above_quota}

-- A test of calls and replies that comes to a test of the replies to d alone counts as many, over a history from any state
counts_log : (p : Reply Answer → Bool) (q : Entry → Bool) (d : ℕ)
    → ((s : State) (c : Call) → q (record { call = c; reply = (outcome s c).reply }) ≡ (p (outcome s c).reply && eqb (names c) d))
    → (s : State) (h : List Call) → how_many q (entries s h) ≡ how_many (λ t. p t.reply) (answers d s h)
unfolding how_many entries answers
counts_log p q d same s [] = refl
counts_log p q d same s (c ∷ cs) =
    let n : State = (outcome s c).next in
    let entry : Entry = record { call = c; reply = (outcome s c).reply } in
    let rest : ℕ = how_many q (entries n cs) in
    let first : how_many q (entry ∷ entries n cs) ≡ one (p (outcome s c).reply && eqb (names c) d) + rest =
    one_entry q entry (entries n cs) ∙ ap (λ (b : Bool). one b + rest) (same s c) in
    omega (arith, first, one_call p d s c cs, counts_log p q d same n cs)

new_logged : (s : State) (d : ℕ) (h : List Call) → new_faults d s h ≡ new_in (answers d s h)
new_logged s d h = counts_log is_new _ d (λ r c. (tied d r c).0) s h

freed_logged : (s : State) (d : ℕ) (h : List Call) → accepted_releases d s h ≡ freed_in (answers d s h)
freed_logged s d h = counts_log is_freed _ d (λ r c. (tied d r c).1) s h

module _ (start : State) (ok : Accepted start) (empty : Empty start) (d : ℕ) (below : d < start.board.domains) (h : List Call) where
  abbrev s : State
  s = run start h

  balance : frames_held s d + freed_in (answers d start h) ≡ new_in (answers d start h)
  balance = held_since start d h ∙ rw (start_none start ok empty d below) (omega arith)

  -- A release that is done leaves the domain below its quota
  module _ (p f : ℕ) (e : (release s d p).reply ≡ Answers (Freed f)) where
    abbrev after : State
    after = (release s d p).next

    quota_stays : quota after.board d ≡ quota s.board d
    unfolding release
    quota_stays = same_quota d s d _ _ refl

    room : frames_held after d < quota after.board d
    room =
        let counts = rw (e, eq-eqb d d refl) at (call_balanced d s (Release d p)) in
        rw quota_stays (omega (arith, counts, never_above_quota start ok empty d below h))

    -- at once, or after calls of others, which the domain does not see
    gets_it : frees after (active_set after.board d) ≡ f ∷ [] → (others : List Call) → own d others ≡ []
        → (q : ℕ) → (look (run after others) d q).reply ≡ Answers Unmapped → (fault (run after others) d q).reply ≡ Answers (New f)
    gets_it only others alone q unmapped =
        let found = history_good start (start_good start ok empty) h in
        let later = others_unseen below after (call_keeps found (Release d p)).good_next others alone in
        let same : (c : Call) → names c ≡ d → (outcome (run after others) c).reply ≡ (outcome after c).reply =
        λ c its. ap (λ (t : Told). t.reply) (own_step below (run after others) after c later (eq-eqb (names c) d its)).0 in
        same (Fault d q) refl ∙ only_frame after d q f (sym (same (Look d q) refl) ∙ unmapped) room only

-- the premises of the last fact may stand either way round
pub frames_accounted_for : FramesAccountedFor
frames_accounted_for start ok empty d below h = (
  rw (new_logged start d h, freed_logged start d h) (balance start ok empty d below h),
  one_frame_a_page start ok empty h d below,
  reserved_stays start ok empty h,
  λ p f e only others alone q unmapped. gets_it start ok empty d below h p f e (cc) others (cc) q (cc),
)

pub log_is_enough : LogIsEnough
log_is_enough log start ok empty d below h e =
    rw (← e) (omega (arith, balance start ok empty d below h), new_logged start d h, freed_logged start d h)

pub difference_tells : DifferenceTells
difference_tells s d log other start ok empty below h e q = other (rw (← q, ← e) (balance start ok empty d below h))

pub replay_tells : ReplayTells
replay_tells start ok empty d below h p small =
    let g = start_good start ok empty in
    let met = meets_again below h start start (record { left_good = g; right_good = g; agree = agree_self start }) in
    ap (λ (t : Told). t.reply) (sym (own_step below (run start h) (run start (own d h)) (Look d p) met (eq-eqb d d refl)).0)
