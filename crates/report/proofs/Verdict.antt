-- Refusal 1 and what is left where it is not given: the counts within their limits, and how long the input is.
use Prim.Native.Nat.{ℕ, ◌+◌, ◌*◌, ◌<◌, ◌≤◌}
use mathlib.Core.Bool.{Bool, true, false, not, ◌||◌}
use mathlib.Core.List.{List, [], ◌∷◌, ◌++◌, append_assoc}
use mathlib.Core.Path.{◌≡◌, refl, sym, ap, ◌∙◌}
use native.Mathlib.Omega.{arith}
use lib.Dec.{ltb, eqb}
use lib.ListN.{length, take, drop}
use lib.Seq.{take_at, drop_at}
use borrow.Author.Tests.{lt-ltb, le-ltb, ltb-false, eq-eqb, ne_eqb, eqb-true, not-false}
use Rattle.lists.proofs.CaseSplits.{cases, neither}
use Rattle.refusal.specs.Reply.{Reply, Answers, Refuses, test, unless}
use Rattle.refusal.proofs.Replies.{answers_passed, passed_first}
use Rattle.admission.specs.Admission.{room_of, admission_reply, vcpu_times, task_times, all_times, Judged, judged}
use Rattle.admission.proofs.LentLists.{length-vcpu_times, length-task_times}
use Rattle.report.specs.Input.{domain_count, vcpu_count, task_count, plan_words, over_limit, board_in, reload_in, vcpus_in, tasks_in}
use Rattle.text.specs.Text.{line, refused_name, admitted_lines}
use Rattle.report.specs.Report.{extent_reply, not_a_plan, verdict, words_taken, text_of}
use Rattle.report.proofs.InputWords.{length-words}

pub limits : (d v t : ℕ) → (ltb 8 d || ltb 16 v || ltb 32 t) ≡ false → (d ≤ 8) × (v ≤ 16) × (t ≤ 32)
limits d v t e =
    let front = neither (ltb 8 d || ltb 16 v) (ltb 32 t) e in
    let both = neither (ltb 8 d) (ltb 16 v) front.0 in
    (ltb-false 8 d both.0, ltb-false 16 v both.1, ltb-false 32 t front.1)

module _ (input : List ℕ) where
  pub extent_over : over_limit input ≡ true → extent_reply input ≡ Refuses 1 0
  unfolding extent_reply unless
  extent_over e = rw e

  pub extent_short : length input < 4 * plan_words input → extent_reply input ≡ Refuses 1 0
  unfolding extent_reply unless
  extent_short h = rw (lt-ltb (length input) (4 * plan_words input) h, or_true (over_limit input))
    where
      or_true : (b : Bool) → (b || true) ≡ true
      or_true true = refl
      or_true false = refl

  pub extent_whole : over_limit input ≡ false → 4 * plan_words input ≤ length input → extent_reply input ≡ Answers (plan_words input)
  unfolding extent_reply unless
  extent_whole e h = rw (e, le-ltb (length input) (4 * plan_words input) h)

  -- what an extent says
  answered : (n : ℕ) → extent_reply input ≡ Answers n → (over_limit input ≡ false) × (plan_words input ≡ n)
  unfolding extent_reply
  answered n e =
      let a = answers_passed (test 1 (over_limit input || ltb (length input) (4 * plan_words input)) ∷ []) (plan_words input) n e in
      let fits = (passed_first (test 1 (over_limit input || ltb (length input) (4 * plan_words input))) [] a.0).0 in
      ((neither (over_limit input) (ltb (length input) (4 * plan_words input)) fits).0, a.1)

  -- the input is a plan where the plan in front of it ends with it
  pub ends : (n : ℕ) → extent_reply input ≡ Answers n → length input ≡ 4 * n → (not_a_plan input ≡ false) × (n ≡ words_taken input)
  unfolding words_taken not_a_plan
  ends n e h =
      let a = answered n e in
      let long : length input ≡ 4 * plan_words input = omega (arith, h, a.1) in
      (rw (a.0, eq-eqb (length input) (4 * plan_words input) long) refl, sym a.1 ∙ rw (a.0, eq-eqb (length input) (4 * plan_words input) long) refl)

  pub goes_on : (n : ℕ) → extent_reply input ≡ Answers n → (length input ≡ 4 * n → ⊥) → not_a_plan input ≡ true
  unfolding not_a_plan
  goes_on n e h =
      let a = answered n e in
      rw (a.0, ne_eqb (length input) (4 * plan_words input) (λ l. h (l ∙ ap (λ (k : ℕ). 4 * k) a.1))) refl

  plain : not_a_plan input ≡ false → (over_limit input ≡ false) × (4 * plan_words input ≤ length input)
  unfolding not_a_plan
  plain y =
      let both = neither (over_limit input) (not (eqb (length input) (4 * plan_words input))) y in
      (both.0, omega (arith, eqb-true (length input) (4 * plan_words input) (not-false _ both.1)))

  pub no_extent : (n r : ℕ) → extent_reply input ≡ Refuses n r → not_a_plan input ≡ true
  no_extent n r e =
      cases (not_a_plan input) (λ y. y)
      (λ y. let whole = extent_whole (plain y).0 (plain y).1 in let clash : Answers (plan_words input) ≡ Refuses n r = sym whole ∙ e in cc)

  -- no words are taken of what is no plan, and of a plan, which has at least 6, some
  pub no_words : not_a_plan input ≡ true → 0 ≡ words_taken input
  unfolding words_taken
  no_words e = rw e refl

  pub none_taken : words_taken input ≡ 0 → not_a_plan input ≡ true
  unfolding words_taken plan_words
  none_taken e = cases (not_a_plan input) (λ y. y) (λ y. absurd (six (rw y at e)))
    where
      six : 6 + domain_count input + 4 * vcpu_count input + 20 * task_count input ≡ 0 → ⊥
      six z = omega (arith, z)

  pub some_taken : (n : ℕ) → n ≡ words_taken input → (n ≡ 0 → ⊥) → not_a_plan input ≡ false
  some_taken n e h = cases (not_a_plan input) (λ y. absurd (h (e ∙ sym (no_words y)))) (λ y. y)

  pub counts_few : not_a_plan input ≡ false → (domain_count input ≤ 8) × (vcpu_count input ≤ 16) × (task_count input ≤ 32)
  unfolding not_a_plan over_limit
  counts_few e = limits (domain_count input) (vcpu_count input) (task_count input) (neither (over_limit input) _ e).0

  -- refusal 1
  pub refused_1 : not_a_plan input ≡ true → (verdict input ≡ Refuses 1 0) × (text_of input ≡ line refused_name 1 0)
  unfolding verdict text_of
  refused_1 e = (rw e, rw e)

  -- as many times as the counts say
  vcpu_lines : length (vcpu_times (vcpus_in input)) ≡ vcpu_count input
  unfolding vcpus_in
  vcpu_lines = omega (arith, length-vcpu_times (vcpus_in input), length-words input (4 * vcpu_count input) (5 + domain_count input))

  task_lines : length (task_times (reload_in input) (vcpus_in input) (tasks_in input)) ≡ task_count input
  unfolding tasks_in
  task_lines =
      omega (arith, length-task_times (reload_in input) (vcpus_in input) (tasks_in input), length-words input (20 * task_count input) (6 + domain_count input + 4 * vcpu_count input))

  -- a plan: its verdict is that of admission
  module _ (plan : not_a_plan input ≡ false) where
    abbrev reply : Reply (Unit {0})
    reply = admission_reply (board_in input) (reload_in input) (vcpus_in input) (tasks_in input) 48

    pub as_judged : verdict input ≡ reply
    unfolding verdict
    as_judged = rw plan

    pub refused_text : (n r : ℕ) → reply ≡ Refuses n r → text_of input ≡ line refused_name n r
    unfolding text_of
    refused_text n r e = rw (as_judged ∙ e)

    admitted_text : reply ≡ Answers tt → text_of input ≡ admitted_lines (vcpu_times (vcpus_in input)) (task_times (reload_in input) (vcpus_in input) (tasks_in input))
    unfolding text_of
    admitted_text e = rw (as_judged ∙ e)

    -- two lists of 48 words have that room
    abbrev done : List ℕ → List ℕ → Judged
    done lent rounds = judged (board_in input) (reload_in input) (vcpus_in input) (tasks_in input) lent rounds

    pub judged_reply : (lent rounds : List ℕ) → length lent ≡ 48 → length rounds ≡ 48 → (done lent rounds).reply ≡ reply
    unfolding judged
    judged_reply lent rounds h g =
        let both : room_of lent rounds ≡ 48 = omega (arith, h, g) in
        ap (λ (n : ℕ). admission_reply (board_in input) (reload_in input) (vcpus_in input) (tasks_in input) n) both

    -- the times in front of the list are those of VCPUs and then of tasks
    times_read : (lent rounds times : List ℕ) → length lent ≡ 48 → length rounds ≡ 48 → reply ≡ Answers tt
        → times ≡ (done lent rounds).times
        → (take (vcpu_count input) times ≡ vcpu_times (vcpus_in input)) × (take (task_count input) (drop (vcpu_count input) times) ≡ task_times (reload_in input) (vcpus_in input) (tasks_in input))
    unfolding judged all_times
    times_read lent rounds times h g e t =
        let vcpus : List ℕ = vcpu_times (vcpus_in input) in
        let tasks : List ℕ = task_times (reload_in input) (vcpus_in input) (tasks_in input) in
        let rest : List ℕ = drop (length (vcpus ++ tasks)) lent in
        let all : times ≡ vcpus ++ (tasks ++ rest) = t ∙ rw (judged_reply lent rounds h g ∙ e) (append_assoc vcpus tasks rest) in (
          ap (λ (l : List ℕ). take (vcpu_count input) l) all ∙ take_at vcpus (tasks ++ rest) (vcpu_count input) vcpu_lines,
          ap (λ (l : List ℕ). take (task_count input) (drop (vcpu_count input) l)) all
              ∙ ap (λ (l : List ℕ). take (task_count input) l) (drop_at vcpus (tasks ++ rest) (vcpu_count input) vcpu_lines)
              ∙ take_at tasks rest (task_count input) task_lines,
        )

    pub times_told : (lent rounds times : List ℕ) (v t : ℕ) → length lent ≡ 48 → length rounds ≡ 48 → reply ≡ Answers tt
        → times ≡ (done lent rounds).times
        → v ≡ vcpu_count input → t ≡ task_count input → admitted_lines (take v times) (take t (drop v times)) ≡ text_of input
    times_told lent rounds times v t h g e w hv ht =
        let read = times_read lent rounds times h g e w in
        rw (hv, ht, read.0, read.1) (sym (admitted_text e))
