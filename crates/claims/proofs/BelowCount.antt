-- The fields of domains at or beyond the count play no part: the tests of a board and of a plan go by those below it, an accepted call is made by a domain below
-- it, and what a call writes it writes there.
use Prim.Native.Nat.{ℕ, zero, suc, ◌+◌, ◌<◌, ◌≤◌}
use native.Mathlib.Nat.{le_refl, lt_irrefl}
use native.Mathlib.Omega.{arith}
use mathlib.Core.Bool.{Bool, true, false, not, ◌&&◌, ◌||◌}
use mathlib.Core.List.{List, [], ◌∷◌, ◌++◌, map, append_assoc}
use mathlib.Core.Path.{◌≡◌, refl, sym, ap, ap₂, ◌∙◌, subst}
use lib.Dec.{eqb, ltb}
use lib.ListN.{length, get_or, set}
use lib.Seq.{get_or-set_same, get_or-set_other}
use borrow.Author.Tests.{eqb-true, eqb-false, ltb-true, le-ltb, not-false}
use Rattle.lists.specs.Range.{from, upto, any_of}
use Rattle.lists.proofs.CaseSplits.{cases, below_or_not, neither}
use Rattle.refusal.specs.Reply.{Answers, Test, test, each, unless, passes}
use Rattle.refusal.proofs.Replies.{passed_answers}
use Rattle.refusal.proofs.Order.{each_passed}
use Rattle.board.specs.declared.Board.{Board}
use Rattle.board.specs.Tests.{grant, active_set, quota, shares, bad_grant, shares_with_another, bad_active, no_quota, bad_quotas, domain_tests, board_tests, state_tests, call_tests, call_reply}
use Rattle.board.proofs.PassedTests.{Passed, split, join, quotas_split, quota_placed, CallAccepted, accepted}
use Rattle.calls.specs.Table.{State, state_of, word_of, frames_with, mapped_to, frees, frames_held, strays}
use Rattle.calls.specs.FrameChoice.{choices}
use Rattle.calls.specs.Calls.{Answer, Move, Done, settle, called, fault_done, look, fault, release, colours, recolour, set_quota, with_active, with_quota}
use Rattle.calls.proofs.RecolouringDone.{active_placed}
use Rattle.rows.specs.RowWords.{core, domain, vcpu_period, budget, vcpu_of, vcpu_rows, task_rows}
use Rattle.plan.specs.Tests.{bad_vcpu_words, bad_task_words, bad_times, bad_vcpu, bad_task, bad_order, shares_colour, row_tests, plan_tests}
use Rattle.admission.specs.Admission.{time_tests, room_of, admission_reply, judged_by, judged}
use Rattle.isolation.specs.DomainRule.{Call, Look, Fault, Release, Colours, Recolour, SetQuota, TakeBack, outcome, run, told, answers}
use Rattle.calls.specs.TakeBack.{take_back}
use Rattle.isolation.proofs.TestLists.{Meet, answered, unless_both, unless_two, next_any}
use Rattle.claims.specs.EveryCall.{AgreeBelow}

-- one test for each of n domains or rows from i on
abbrev tests : ℕ → (ℕ → Bool) → ℕ → ℕ → List Test
tests number p i n = map (λ (r : ℕ). record { number = number; row = r; fails = p r }) (from i n)

-- tests that agree on a range
module _ (p q : ℕ → Bool) where
  any_from : (n i : ℕ) → ((d : ℕ) → i ≤ d → d < i + n → p d ≡ q d) → any_of p (from i n) ≡ any_of q (from i n)
  unfolding from
  any_from zero i same = refl
  any_from (suc n) i same = rw (same i (le_refl i) (omega arith), any_from n (suc i) (λ d l h. same d (omega arith) (omega arith)))

  same_any : (n : ℕ) → ((d : ℕ) → d < n → p d ≡ q d) → any_of p (upto n) ≡ any_of q (upto n)
  same_any n same = any_from n 0 (λ d l h. same d (omega arith))

  each_from : (number n i : ℕ) → ((d : ℕ) → i ≤ d → d < i + n → p d ≡ q d)
      → tests number p i n ≡ tests number q i n
  unfolding from
  each_from number zero i same = refl
  each_from number (suc n) i same = rw (same i (le_refl i) (omega arith), each_from number n (suc i) (λ d l h. same d (omega arith) (omega arith)))

  same_each : (number n : ℕ) → ((d : ℕ) → d < n → p d ≡ q d) → each n number p ≡ each n number q
  unfolding each
  same_each number n same = each_from number n 0 (λ d l h. same d (omega arith))

-- the same board with other fields
abbrev with_fields : Board → List ℕ → List ℕ → List ℕ → Board
with_fields b gs xs qs = record { colours = b.colours; frames = b.frames; domains = b.domains; grants = gs; active = xs; quotas = qs }

-- fields that agree below the count
pub record Fields (b : Board) (gs xs qs : List ℕ) : Type 0 where
  pub grants : (d : ℕ) → d < b.domains → grant b d ≡ get_or gs d 0
  pub active : (d : ℕ) → d < b.domains → active_set b d ≡ get_or xs d 0
  pub quotas : (d : ℕ) → d < b.domains → quota b d ≡ get_or qs d 0

module _ (b : Board) (gs xs qs : List ℕ) (f : Fields b gs xs qs) where
  abbrev other : Board
  other = with_fields b gs xs qs

  same_domain_tests : domain_tests b ≡ domain_tests other
  unfolding domain_tests
  same_domain_tests =
      let five = same_each (bad_grant b) (bad_grant other) 5 b.domains
      (λ d l. rw (f.grants d l)) in
      let six = same_each (shares_with_another b) (shares_with_another other) 6 b.domains
      (λ d l. same_any (λ (e : ℕ). not (eqb e d) && shares (grant b d) (grant b e)) (λ (e : ℕ). not (eqb e d) && shares (get_or gs d 0) (get_or gs e 0)) b.domains
      (λ e m. rw (f.grants d l, f.grants e m))) in
      let seven = same_each (bad_active b) (bad_active other) 7 b.domains (λ d l. rw (f.grants d l, f.active d l)) in
      rw (five, six, seven)

  pub same_board_tests : (words : ℕ) → board_tests b words ≡ board_tests other words
  unfolding board_tests
  same_board_tests words = rw same_domain_tests

  same_quotas : bad_quotas b ≡ bad_quotas other
  unfolding bad_quotas
  same_quotas = same_any (λ (d : ℕ). no_quota (quota b d)) (λ (d : ℕ). no_quota (get_or qs d 0)) b.domains (λ d l. rw (f.quotas d l))

  pub same_call_tests : (words d : ℕ) → call_tests b words d ≡ call_tests other words d
  unfolding call_tests state_tests
  same_call_tests words d = rw (same_board_tests words, same_quotas)

-- two states whose boards agree below the count, with one table
pub record Alike (s r : State) : Type 0 where
  pub boards : AgreeBelow s.board r.board
  pub tables : s.table ≡ r.table

-- a field written in two lists
written_alike : (xs ys : List ℕ) (d c e : ℕ) → d < length xs → d < length ys → get_or xs e 0 ≡ get_or ys e 0 → get_or (set xs d c) e 0 ≡ get_or (set ys d c) e 0
written_alike xs ys d c e lx ly same =
    cases (eqb e d)
    (λ o. let at = eqb-true e d o in rw (at, get_or-set_same xs d c 0 lx, get_or-set_same ys d c 0 ly))
    (λ o. let off = eqb-false e d o in get_or-set_other xs d e c 0 off ∙ same ∙ sym (get_or-set_other ys d e c 0 off))

pub fields_alike : (b : Board) (gs xs qs : List ℕ) → Fields b gs xs qs → (t : List ℕ) → Alike (state_of b t) (state_of (with_fields b gs xs qs) t)
fields_alike b gs xs qs f t =
    record {
      boards = record { same_colours = refl; same_frames = refl; same_domains = refl; same_grants = f.grants; same_active = f.active; same_quotas = f.quotas };
      tables = refl;
    }

module _ (b : Board) (gs xs qs : List ℕ) (f : Fields b gs xs qs) (words d : ℕ) (a : CallAccepted b words d) where
  -- the domain has its place in the other lists too
  other_passed : Passed (with_fields b gs xs qs) words
  other_passed = split (with_fields b gs xs qs) words (rw (← (same_board_tests b gs xs qs f words)) (join b words a.passed))

  allowed : no_quota (quota b d) ≡ false
  allowed = quotas_split b a.quotas d a.caller

  -- an active set or a quota of its own that is written on both
  pub recoloured : (c : ℕ) → Fields (with_active b d c) gs (set xs d c) qs
  recoloured c =
      record {
        grants = f.grants;
        active = λ e l. written_alike b.active xs d c e (active_placed b words d a.passed a.caller) (active_placed (with_fields b gs xs qs) words d other_passed a.caller) (f.active e l);
        quotas = f.quotas;
      }

  pub allotted : (q : ℕ) → Fields (with_quota b d q) gs xs (set qs d q)
  allotted q =
      record {
        grants = f.grants;
        active = f.active;
        quotas = λ e l. written_alike b.quotas qs d q e (quota_placed b.quotas d allowed) (quota_placed qs d (rw (← (f.quotas d a.caller)) allowed)) (f.quotas e l);
      }

module _ (b : Board) (gs xs qs t : List ℕ) (f : Fields b gs xs qs) where
  abbrev s : State
  s = state_of b t

  abbrev r : State
  r = state_of (with_fields b gs xs qs) t

  begun : Alike s r
  begun = fields_alike b gs xs qs f t

  -- a call on both, by a domain below the count
  under : (d : ℕ) (us us' : List Test) (o q : Done)
      → (CallAccepted b (length t) d → Meet Alike (settle s (unless us o)) (settle r (unless us' q)))
      → Meet Alike (called s d us o) (called r d us' q)
  unfolding called call_reply
  under d us us' o q go =
      rw (← (same_call_tests b gs xs qs f (length t) d))
      (unless_both Alike begun (call_tests b (length t) d) us us' o q
      (λ p. go (accepted b (length t) d (passed_answers (call_tests b (length t) d) (tt {0}) p))))

  -- with the same tests, answer and moves
  done : (us : List Test) (a : Answer) (ms : List Move) (m n : State) → Alike m n
      → Meet Alike (settle s (unless us (record { answer = a; moves = ms; next = m }))) (settle r (unless us (record { answer = a; moves = ms; next = n })))
  done us a ms m n k = unless_two Alike begun us _ _ (λ p. answered Alike begun refl refl k)

  fault_done_lem : (w : ℕ) (ms hs : List ℕ) → Meet Alike (settle s (Answers (fault_done s w ms hs))) (settle r (Answers (fault_done r w ms hs)))
  fault_done_lem w (m ∷ ms) hs = answered Alike begun refl refl begun
  fault_done_lem w [] hs = answered Alike begun refl refl (fields_alike b gs xs qs f _)

  pub met : (c : Call) → Meet Alike (outcome s c) (outcome r c)
  unfolding look fault release colours recolour set_quota take_back mapped_to frames_held strays choices frees frames_with
  met (Look d p) = under d _ _ _ _ (λ a. done _ _ _ _ _ begun)
  met (Fault d p) =
      under d _ _ _ _ (λ a.
      rw (← (f.active d a.caller), ← (f.quotas d a.caller)) (unless_two Alike begun _ _ _ (λ o. fault_done_lem (word_of d p) (mapped_to s d p) (choices s d (active_set b d)))))
  met (Release d p) = under d _ _ _ _ (λ a. done _ _ _ _ _ (fields_alike b gs xs qs f _))
  met (Colours d) = under d _ _ _ _ (λ a. rw (← (f.active d a.caller), ← (f.quotas d a.caller)) (done _ _ _ _ _ begun))
  met (Recolour d c list) =
      under d _ _ _ _ (λ a. rw (← (f.grants d a.caller)) (done _ _ _ _ _ (fields_alike _ gs _ qs (recoloured b gs xs qs f (length t) d a c) _)))
  met (SetQuota d q) = under d _ _ _ _ (λ a. done _ _ _ _ _ (fields_alike _ gs xs _ (allotted b gs xs qs f (length t) d a q) _))
  met (TakeBack d c list) =
      under d _ _ _ _ (λ a. rw (← (f.grants d a.caller)) (done _ _ _ _ _ (fields_alike _ gs _ qs (recoloured b gs xs qs f (length t) d a c) _)))

-- any two boards that agree
other_is : (a b : Board) → AgreeBelow a b → b ≡ with_fields a b.grants b.active b.quotas
other_is a b k = rw (k.same_colours, k.same_frames, k.same_domains) refl

fields_of : (a b : Board) → AgreeBelow a b → Fields a b.grants b.active b.quotas
fields_of a b k = record { grants = k.same_grants; active = k.same_active; quotas = k.same_quotas }

pub alike_met : (s r : State) → Alike s r → (c : Call) → Meet Alike (outcome s c) (outcome r c)
alike_met s r k c =
    let same : r ≡ state_of (with_fields s.board r.board.grants r.board.active r.board.quotas) s.table =
    ap₂ state_of (other_is s.board r.board k.boards) (sym k.tables) in
    subst (λ (u : State). Meet Alike (outcome s c) (outcome u c)) (sym same)
    (met s.board r.board.grants r.board.active r.board.quotas s.table (fields_of s.board r.board k.boards) c)

pub same_told : (s r : State) → Alike s r → (c : Call) → told s c ≡ told r c
same_told s r k c = let m = alike_met s r k c in rw (m.reply, m.moves)

pub same_answers : (d : ℕ) (h : List Call) (s r : State) → Alike s r → answers d s h ≡ answers d r h
unfolding answers
same_answers d [] s r k = refl
same_answers d (c ∷ cs) s r k = rw (same_told s r k c, same_answers d cs (outcome s c).next (outcome r c).next (alike_met s r k c).next)

-- where the first tests pass, the others decide
later_same : {A : Type 0} (a : A) (xs ys zs : List Test) → (passes xs ≡ true → unless ys a ≡ unless zs a) → unless (xs ++ ys) a ≡ unless (xs ++ zs) a
unfolding unless passes
later_same a [] ys zs same = same refl
later_same a (x ∷ xs) ys zs same = cases x.fails (λ e. rw e) (λ e. rw e (later_same a xs ys zs (λ p. same (rw e p))))

-- The tests of a plan read the count, and the grants of domains below it: 17 refuses a VCPU of any other, and 18 asks for the grant of its VCPU's domain
module _ (b : Board) (gs xs qs : List ℕ) (f : Fields b gs xs qs) (reload : ℕ) (vcpus tasks : List ℕ) (room : ℕ) where
  same_task : ((i : ℕ) → i < vcpu_rows vcpus → bad_vcpu b vcpus i ≡ false) → (j : ℕ) → bad_task b vcpus tasks j ≡ bad_task (with_fields b gs xs qs) vcpus tasks j
  same_task ok j =
      let v : ℕ = vcpu_of tasks j in
      below_or_not v (vcpu_rows vcpus)
      (λ l.
      let first = neither (ltb 3 (core vcpus v) || not (ltb (domain vcpus v) b.domains)) (bad_times (vcpu_period vcpus v) (budget vcpus v)) (ok v l) in
      let low = ltb-true _ _ (not-false _ (neither (ltb 3 (core vcpus v)) _ first.0).1) in
      rw (f.grants (domain vcpus v) low))
      (λ l. rw (le-ltb v (vcpu_rows vcpus) l))

  abbrev vcpu_tests : List Test
  vcpu_tests = each (vcpu_rows vcpus) 17 (bad_vcpu b vcpus)

  abbrev task_tests : Board → List Test
  task_tests c = each (task_rows tasks) 18 (bad_task c vcpus tasks)

  abbrev other_tests : List Test
  other_tests = each (task_rows tasks) 19 (bad_order tasks) ++ each (task_rows tasks) 20 (shares_colour tasks)

  abbrev last : Board → List Test
  last c = (task_tests c ++ other_tests) ++ time_tests reload vcpus tasks

  abbrev first : List Test
  first = test 15 (bad_vcpu_words reload (length vcpus)) ∷ test 16 (bad_task_words (vcpu_rows vcpus) (length tasks) room) ∷ []

  same_last : passes vcpu_tests ≡ true → last b ≡ last (with_fields b gs xs qs)
  same_last ok =
      let each_is = same_each (bad_task b vcpus tasks) (bad_task (with_fields b gs xs qs) vcpus tasks) 18 (task_rows tasks)
      (λ j l. same_task (each_passed 17 (bad_vcpu b vcpus) (vcpu_rows vcpus) ok) j) in
      ap (λ (ts : List Test). (ts ++ other_tests) ++ time_tests reload vcpus tasks) each_is

  plan_is : (c : Board) → c.domains ≡ b.domains
      → plan_tests c reload vcpus tasks room ++ time_tests reload vcpus tasks ≡ first ++ (each (vcpu_rows vcpus) 17 (bad_vcpu c vcpus) ++ last c)
  unfolding plan_tests row_tests
  plan_is c same = ap (λ (ts : List Test). first ++ ts) (append_assoc (each (vcpu_rows vcpus) 17 (bad_vcpu c vcpus)) (task_tests c ++ other_tests) (time_tests reload vcpus tasks))

  pub same_admission : admission_reply b reload vcpus tasks room ≡ admission_reply (with_fields b gs xs qs) reload vcpus tasks room
  unfolding admission_reply
  same_admission =
      rw (← (same_board_tests b gs xs qs f b.frames), plan_is b refl, plan_is (with_fields b gs xs qs) refl)
      (later_same tt (board_tests b b.frames) _ _ (λ o.
      later_same tt first (vcpu_tests ++ last b) (vcpu_tests ++ last (with_fields b gs xs qs)) (λ p.
      later_same tt vcpu_tests (last b) (last (with_fields b gs xs qs)) (λ q. ap (λ (ts : List Test). unless ts tt) (same_last q)))))

pub same_judged : (a b : Board) → AgreeBelow a b → (reload : ℕ) (vcpus tasks times rounds : List ℕ)
    → judged a reload vcpus tasks times rounds ≡ judged b reload vcpus tasks times rounds
unfolding judged
same_judged a b k reload vcpus tasks times rounds =
    let same : admission_reply a reload vcpus tasks (room_of times rounds) ≡ admission_reply b reload vcpus tasks (room_of times rounds) =
    same_admission a b.grants b.active b.quotas (fields_of a b k) reload vcpus tasks (room_of times rounds)
    ∙ ap (λ (c : Board). admission_reply c reload vcpus tasks (room_of times rounds)) (sym (other_is a b k)) in
    ap (λ reply. judged_by reply reload vcpus tasks times rounds) same

-- What is written is a field of the caller, who is below the count: the rest of the board stays
pub record Stays (s : State) (b : Board) : Type 0 where
  pub colours : b.colours ≡ s.board.colours
  pub frames : b.frames ≡ s.board.frames
  pub domains : b.domains ≡ s.board.domains
  pub grants : b.grants ≡ s.board.grants
  pub active : (e : ℕ) → s.board.domains ≤ e → active_set b e ≡ active_set s.board e
  pub quotas : (e : ℕ) → s.board.domains ≤ e → quota b e ≡ quota s.board e

module _ (s : State) where
  same : Stays s s.board
  same = record { colours = refl; frames = refl; domains = refl; grants = refl; active = λ e l. refl; quotas = λ e l. refl }

  abbrev After : State → Type 0
  After u = Stays s u.board

  -- a field of a domain below the count
  elsewhere : (xs : List ℕ) (d x e : ℕ) → d < s.board.domains → s.board.domains ≤ e → get_or (set xs d x) e 0 ≡ get_or xs e 0
  elsewhere xs d x e low high = get_or-set_other xs d e x 0 (λ at. lt_irrefl d (omega (arith, low, high, at)))

  with_active_lem : (d c : ℕ) → d < s.board.domains → Stays s (with_active s.board d c)
  with_active_lem d c low =
      record { colours = refl; frames = refl; domains = refl; grants = refl; active = λ e l. elsewhere s.board.active d c e low l; quotas = λ e l. refl }

  with_quota_lem : (d q : ℕ) → d < s.board.domains → Stays s (with_quota s.board d q)
  with_quota_lem d q low =
      record { colours = refl; frames = refl; domains = refl; grants = refl; active = λ e l. refl; quotas = λ e l. elsewhere s.board.quotas d q e low l }

  fault_stays : (w : ℕ) (ms gs : List ℕ) → After (fault_done s w ms gs).next
  fault_stays w (m ∷ ms) gs = same
  fault_stays w [] gs = same

  call_stays : (c : Call) → After (outcome s c).next
  unfolding look fault release colours recolour set_quota take_back
  call_stays (Look d p) = next_any After s same d _ _ (λ a ok. same)
  call_stays (Fault d p) = next_any After s same d _ _ (λ a ok. fault_stays (word_of d p) (mapped_to s d p) (choices s d (active_set s.board d)))
  call_stays (Release d p) = next_any After s same d _ _ (λ a ok. same)
  call_stays (Colours d) = next_any After s same d _ _ (λ a ok. same)
  call_stays (Recolour d c list) = next_any After s same d _ _ (λ a ok. with_active_lem d c a.caller)
  call_stays (SetQuota d q) = next_any After s same d _ _ (λ a ok. with_quota_lem d q a.caller)
  call_stays (TakeBack d c list) = next_any After s same d _ _ (λ a ok. with_active_lem d c a.caller)

pub history_stays : (h : List Call) (s : State) → Stays s (run s h).board
unfolding run
history_stays [] s = same s
history_stays (c ∷ cs) s =
    let one = call_stays s c in
    let rest = history_stays cs (outcome s c).next in
    record {
      colours = rest.colours ∙ one.colours;
      frames = rest.frames ∙ one.frames;
      domains = rest.domains ∙ one.domains;
      grants = rest.grants ∙ one.grants;
      active = λ e l. rest.active e (omega (arith, l, one.domains)) ∙ one.active e l;
      quotas = λ e l. rest.quotas e (omega (arith, l, one.domains)) ∙ one.quotas e l;
    }
