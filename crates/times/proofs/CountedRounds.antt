-- The rounds of a search, over any need and supply with a first time for each amount: what one round does, that the search ends by itself, and
-- what a loop by rounds knows when it comes to t, of the time and of the rounds. The laws of one round go by its cases and not by the words of
-- the definition, so that another wording of the same round meets them too; what else is said of a round goes by these laws.
use Prim.Native.Nat.{ℕ, zero, suc, ◌+◌, ◌-◌, ◌<◌, ◌≤◌}
use native.Mathlib.Nat.{le_refl, lt_irrefl, le_trans, zero-add, le_of_suc-le-suc, not-suc-le-zero}
use native.Mathlib.Omega.{arith}
use mathlib.Core.Bool.{false, true≢false, or-true, or-false}
use mathlib.Core.Path.{◌≡◌, refl, sym, ap, ◌∙◌}
use lib.Dec.{eqb, leb}
use borrow.Author.Tests.{le-leb, lt-leb, lt-ltb, le-ltb, eq-eqb, ne_eqb, eqb-true, eqb-false}
use Rattle.lists.proofs.CaseSplits.{cases, below_or_not}
use Rattle.times.specs.FirstTime.{Time, At, Late, first_time}
use Rattle.times.specs.Rounds.{microsecond_or, covering, rounds_from, rounds}
use Rattle.times.proofs.Search.{Searchable, Before, first_at, first_none, before_one, next, found, missed, exceeded}

-- one round from t, by the microsecond that it takes: t itself, one past the deadline, or another
module _ (sup want : ℕ → ℕ) (due n t next : ℕ) (takes : covering sup due (want t) ≡ next) where
  by_equal : next ≡ t → rounds_from sup want due (suc n) t ≡ 1
  unfolding rounds_from
  by_equal e = simp (takes, eq-eqb next t e, eq-eqb t next (sym e), or-true) (omega arith)

  by_past : due < next → rounds_from sup want due (suc n) t ≡ 1
  unfolding rounds_from
  by_past l = simp (takes, lt-ltb due next l, or-true) (omega arith)

  by_later : (next ≡ t → ⊥) → next ≤ due → rounds_from sup want due (suc n) t ≡ suc (rounds_from sup want due n next)
  unfolding rounds_from
  by_later d l = simp (takes, ne_eqb next t d, ne_eqb t next (λ e. d (sym e)), le-ltb due next l, or-false) (omega arith)

-- no more rounds than are allowed
pub allowed : (sup want : ℕ → ℕ) (due n t : ℕ) → rounds_from sup want due n t ≤ n
unfolding rounds_from
allowed sup want due zero t = le_refl 0
allowed sup want due (suc n) t =
    let next : ℕ = covering sup due (want t) in
    cases (eqb next t)
    (λ e. omega (arith, by_equal sup want due n t next refl (eqb-true next t e)))
    (λ e.
    below_or_not due next
    (λ l. omega (arith, by_past sup want due n t next refl l))
    (λ l. omega (arith, by_later sup want due n t next refl (eqb-false next t e) l, allowed sup want due n next)))

module _ {sup want first : ℕ → ℕ} (r : Searchable sup want first) (due : ℕ) where
  -- no microsecond before the first has the supply
  none_before : (x : ℕ) → 0 < x → (s : ℕ) → s < first x → leb x (sup s) ≡ false
  none_before x pos s b =
      lt-leb x (sup s) (below_or_not (sup s) x (λ m. m) (λ m. absurd (lt_irrefl s (omega (arith, r.first_le x s pos m)))))

  covering_first : (x : ℕ) → 0 < x → first x ≤ due → covering sup due x ≡ first x
  unfolding covering
  covering_first x pos h =
      ap (microsecond_or (due + 1))
      (first_at _ due (first x) (omega (arith, r.le_first x pos)) h (λ s a b. none_before x pos s b) (le-leb x (sup (first x)) (r.le_sup x (first x) pos (le_refl (first x)))))

  covering_past : (x : ℕ) → 0 < x → due < first x → covering sup due x ≡ due + 1
  unfolding covering
  covering_past x pos h = ap (microsecond_or (due + 1)) (first_none _ due (λ s a b. none_before x pos s (omega arith)))

  -- a round at t: it ends the search at t, or past the deadline, or goes on
  pub ends : (n t : ℕ) → t ≤ due → first (want t) ≡ t → rounds_from sup want due (suc n) t ≡ 1
  ends n t h e = by_equal sup want due n t (first (want t)) (covering_first (want t) (r.some t) (omega arith)) e

  pub exceeds : (n t : ℕ) → due < first (want t) → rounds_from sup want due (suc n) t ≡ 1
  exceeds n t h = by_past sup want due n t (due + 1) (covering_past (want t) (r.some t) h) (omega arith)

  pub goes_on : (n t : ℕ) → t < first (want t) → first (want t) ≤ due → rounds_from sup want due (suc n) t ≡ suc (rounds_from sup want due n (first (want t)))
  goes_on n t l h = by_later sup want due n t (first (want t)) (covering_first (want t) (r.some t) h) (λ e. lt_irrefl t (omega arith)) h

  -- where no time before t will do, a round at t takes none before it
  pub forward : (t : ℕ) → Before sup want t → t ≤ first (want t)
  forward t none =
      below_or_not (first (want t)) t
      (λ l.
      let s : ℕ = first (want t) in
      let pos = r.some t in
      let low : 1 ≤ s = le_trans pos (r.le_first (want t) pos) in
      let covered : want s ≤ sup s = le_trans (r.mono s t (omega arith)) (r.le_sup (want t) s pos (le_refl s)) in
      absurd (true≢false (sym (le-leb (want s) (sup s) covered) ∙ none s low l)))
      (λ l. l)

  -- a larger amount has its first time no earlier
  first_mono : (x y : ℕ) → 0 < x → x ≤ y → first x ≤ first y
  first_mono x y pos l = r.first_le x (first y) pos (le_trans l (r.le_sup y (first y) (le_trans pos l) (le_refl (first y))))

  -- a round that went forward is followed by one that does
  pub later : (t : ℕ) → t ≤ first (want t) → first (want t) ≤ first (want (first (want t)))
  later t l = first_mono (want t) (want (first (want t))) (r.some t) (r.mono t (first (want t)) l)

  -- each round but the last goes to a later microsecond, so that no allowance for more rounds changes their number
  more_from : (n m t : ℕ) → t ≤ due → due < n + t → t ≤ first (want t) → rounds_from sup want due (n + m) t ≡ rounds_from sup want due n t
  more_from zero m t h enough low = absurd (lt_irrefl t (omega arith))
  more_from (suc n) m t h enough low =
      let one : suc n + m ≡ suc (n + m) = omega arith in
      let s : ℕ = first (want t) in
      rw one
      (below_or_not due s
      (λ l. exceeds (n + m) t l ∙ sym (exceeds n t l))
      (λ l.
      below_or_not t s
      (λ g.
      goes_on (n + m) t g l
      ∙ ap suc (more_from n m s l (omega arith) (later t low))
      ∙ sym (goes_on n t g l))
      (λ g. let at : s ≡ t = omega arith in ends (n + m) t h at ∙ sym (ends n t h at))))

  pub ends_by_itself : (m : ℕ) → 1 ≤ due → rounds_from sup want due (due + m) 1 ≡ rounds sup want due
  unfolding rounds
  ends_by_itself m h = more_from due m 1 h (omega arith) (le_trans (r.some 1) (r.le_first (want 1) (r.some 1)))

  -- where each round takes the microsecond after t, there are as many rounds as microseconds
  one_by_one : (n t : ℕ) → t + n ≡ due + 1 → ((s : ℕ) → s ≤ due → first (want s) ≡ s + 1) → rounds_from sup want due n t ≡ n
  unfolding rounds_from
  one_by_one zero t e next = refl
  one_by_one (suc n) t e next =
      let one = next t (omega arith) in
      below_or_not t due
      (λ l. goes_on n t (omega (arith, one)) (omega (arith, one)) ∙ rw one (ap suc (one_by_one n (t + 1) (omega arith) next)))
      (λ l. exceeds n t (omega (arith, one)) ∙ omega arith)

  pub as_many_as_microseconds : ((s : ℕ) → s ≤ due → first (want s) ≡ s + 1) → rounds sup want due ≡ due
  unfolding rounds
  as_many_as_microseconds next = one_by_one due 1 (omega arith) next

  -- where the rounds start at known places, the last of which is its own first time, they are as many as the places
  module _ (place : ℕ → ℕ) (top : ℕ)
      (step : (k : ℕ) → k < top → (first (want (place k)) ≡ place (suc k)) × (place k < place (suc k)))
      (within : (k : ℕ) → k ≤ top → place k ≤ due) (stays : first (want (place top)) ≡ place top) where
    pub climb : (m n k : ℕ) → k + m ≡ top → m < n → rounds_from sup want due n (place k) ≡ suc m
    climb m zero k e l = absurd (not-suc-le-zero l)
    climb zero (suc n) k e l = let at : k ≡ top = omega arith in rw at (ends n (place top) (within top (le_refl top)) stays)
    climb (suc m) (suc n) k e l =
        let s = step k (omega arith) in
        let later = within (suc k) (omega arith) in
        goes_on n (place k) (omega (arith, s.0, s.1)) (omega (arith, s.0, later))
        ∙ rw s.0 (ap suc (climb m n (suc k) (omega arith) (le_of_suc-le-suc l)))

-- the time by definition
abbrev pub time_of : (ℕ → ℕ) → (ℕ → ℕ) → ℕ → Time
time_of sup want due = first_time (λ (t : ℕ). leb (want t) (sup t)) due

-- a search has come to t: no time before it will do, and so many rounds are behind it
pub record Searching (sup want : ℕ → ℕ) (due count t : ℕ) : Type 0 where
  pub low : 1 ≤ t
  pub none : Before sup want t
  pub fewer : count < t
  pub going : t ≤ due → rounds sup want due ≡ count + rounds_from sup want due (due - count) t
  pub over : due < t → rounds sup want due ≡ count

module _ {sup want first : ℕ → ℕ} (r : Searchable sup want first) {due : ℕ} where
  pub search_start : Searching sup want due 0 1
  unfolding rounds rounds_from
  search_start =
      record {
        low = le_refl 1;
        none = before_one r;
        fewer = omega arith;
        going = λ h. let all : due - 0 ≡ due = omega arith in rw all (sym (zero-add (rounds_from sup want due due 1)));
        over = λ h. let none : due ≡ 0 = omega arith in rw none refl;
      }

  module _ {count t : ℕ} (c : Searching sup want due count t) where
    -- the rounds behind it and those of the search from t on
    behind : t ≤ due → {n : ℕ} → rounds_from sup want due (suc (due - (count + 1))) t ≡ n → rounds sup want due ≡ count + n
    behind h e =
        let left : due - count ≡ suc (due - (count + 1)) = omega (arith, c.fewer) in
        c.going h ∙ rw left (ap (λ (n : ℕ). count + n) e)

    pub search_found : t ≤ due → first (want t) ≤ t → (time_of sup want due ≡ At t) × (rounds sup want due ≡ count + 1)
    search_found h l =
        let at : first (want t) ≡ t = omega (arith, forward r due t c.none) in
        (found r due t c.low h c.none l, behind h (ends r due _ t h at))

    pub search_exceeded : t ≤ due → due < want t → (time_of sup want due ≡ Late) × (rounds sup want due ≡ count + 1)
    search_exceeded h l =
        (exceeded r due t c.low c.none l, behind h (exceeds r due _ t (omega (arith, r.le_first (want t) (r.some t)))))

    pub search_missed : due < t → (time_of sup want due ≡ Late) × (rounds sup want due ≡ count)
    search_missed h = (missed r due t h c.none, c.over h)

    pub search_next : t ≤ due → t < first (want t) → Searching sup want due (count + 1) (first (want t))
    search_next h l =
        record {
          low = omega (arith, c.low);
          none = next r t c.none;
          fewer = omega (arith, c.fewer);
          going = λ m. behind h (goes_on r due _ t l m) ∙ omega arith;
          over = λ m. behind h (exceeds r due _ t m);
        }
