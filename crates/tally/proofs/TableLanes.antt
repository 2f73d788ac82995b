-- The lanes of a whole table: what they have counted is how many frames there are, and the lowest frame that they have noted is the lowest free one.
use Rattle.std.specs.Prelude.{if◌then◌else◌}
use Prim.Native.Nat.{ℕ, zero, suc, ◌+◌, ◌%◌, ◌<◌, ◌≤◌, zero-le}
use native.Mathlib.Nat.{lt_irrefl, eq-or-lt_of_le, mod-lt, zero-add}
use native.Mathlib.Numerals.{add-one}
use native.Mathlib.Omega.{arith}
use mathlib.Core.Bool.{Bool, true, false, ◌&&◌, and-false, true≢false}
use mathlib.Core.List.{List, [], ◌∷◌}
use mathlib.Core.Logic.{⊎_elim}
use mathlib.Core.Path.{◌≡◌, refl, sym, ap, ◌∙◌}
use lib.Dec.{eqb}
use lib.ListN.{length, get_or, set, drop, length-set, drop_of_length-le}
use lib.Seq.{get_or-set_same, get_or-set_other}
use borrow.Author.Tests.{eqb-true, eqb-false, eq-eqb, ne_eqb}
use Rattle.lists.specs.Range.{upto, keep, lowest, total}
use Rattle.lists.proofs.CaseSplits.{cases, below_or_not, and_both}
use Rattle.lists.proofs.PassingNumbers.{ahead, ahead_start, ahead_take, ahead_skip, ahead_end}
use Rattle.lists.proofs.Searches.{found, missed, none_any, none_lowest, sought_is}
use Rattle.lists.proofs.FewestNumber.{some_any}
use Rattle.lists.proofs.Totals.{same_total, one_total}
use Rattle.tally.specs.Tally.{zeros, count_in, count_all, note_in, note_all}
use Rattle.tally.specs.Lanes.{sum_lanes, in_lanes, least_lane}
use Rattle.tally.proofs.ClosedForm.{count_next, note_next, noted, not_noted, no_entry, zeros_length}

module _ (t : List ℕ) where
  abbrev n : ℕ
  n = length t

  -- Counts of the words that pass p, in the lanes that pass q
  module _ (p q : ℕ → Bool) where
    abbrev pub counts : ℕ → Bool
    counts f = p (get_or t f 0) && q (f % 16)

    one_count : (lanes : List ℕ) (f x : ℕ) → length lanes ≡ 16 → sum_lanes q (count_in p lanes f x) ≡ sum_lanes q lanes + (if q (f % 16) then (if p x then 1 else 0) else 0)
    unfolding sum_lanes count_in
    one_count lanes f x l =
        let j : ℕ = f % 16 in
        let low : j < 16 = mod-lt f (omega arith) in
        let v : ℕ = if p x then 1 else 0 in
        one_total q (λ (i : ℕ). get_or lanes i 0) (λ (i : ℕ). get_or (set lanes j (get_or lanes j 0 + v)) i 0) j v
        (get_or-set_same lanes j (get_or lanes j 0 + v) 0 (omega (arith, l, low)))
        (λ i other. get_or-set_other lanes j i (get_or lanes j 0 + v) 0 other)
        16 0 (omega arith) (omega (arith, low))

    more : (a b : Bool) → ◌≡◌ {A = ℕ} (if b then (if a then 1 else 0) else 0) (if a && b then 1 else 0)
    more true true = refl
    more true false = refl
    more false true = refl
    more false false = refl

    counted_length : (lanes : List ℕ) (f x : ℕ) → length lanes ≡ 16 → length (count_in p lanes f x) ≡ 16
    unfolding count_in
    counted_length lanes f x l = length-set lanes (f % 16) _ ∙ l

    counted_from : (r i : ℕ) (lanes : List ℕ) → i + r ≡ n → length lanes ≡ 16 → sum_lanes q (count_all p lanes (0 + i) (drop i t)) ≡ sum_lanes q lanes + length (ahead counts i n)
    unfolding count_all
    counted_from zero i lanes e l =
        let all : n ≤ i = omega arith in
        rw (drop_of_length-le t all, ahead_end counts i n all) (omega arith)
    counted_from (suc r) i lanes e l =
        let low : i < n = omega arith in
        let x : ℕ = get_or t i 0 in
        let one : sum_lanes q (count_in p lanes (0 + i) x) ≡ sum_lanes q lanes + (if counts i then 1 else 0) =
        one_count lanes (0 + i) x l ∙ ap (λ (v : ℕ). sum_lanes q lanes + v) (ap (λ (f : ℕ). if q (f % 16) then (if p x then 1 else 0) else 0) (zero-add i) ∙ more (p x) (q (i % 16))) in
        let rest = counted_from r (i + 1) (count_in p lanes (0 + i) x) (omega arith) (counted_length lanes (0 + i) x l) in
        ap (sum_lanes q) (count_next p lanes 0 t i low)
        ∙ cases (counts i)
        (λ u. omega (arith, rest, one, ap {A = Bool} {B = ℕ} (λ (o : Bool). if o then 1 else 0) u, ap length (ahead_take counts i n low u)))
        (λ u. omega (arith, rest, one, ap {A = Bool} {B = ℕ} (λ (o : Bool). if o then 1 else 0) u, ap length (ahead_skip counts i n low u)))

    pub sum_counted : sum_lanes q (count_all p zeros 0 t) ≡ length (keep counts (upto n))
    unfolding sum_lanes total
    sum_counted =
        let none : total (λ (i : ℕ). get_or zeros i 0) (keep q (upto 16)) ≡ 0 = same_total q (λ (i : ℕ). 0) (λ (i : ℕ). get_or zeros i 0) 16 0 (λ x l m. no_entry x) ∙ empty (keep q (upto 16)) in
        omega (arith, counted_from n 0 zeros (omega arith) zeros_length, none, ap length (ahead_start counts n))
      where
        empty : (xs : List ℕ) → total (λ (i : ℕ). 0) xs ≡ 0
        empty [] = refl
        empty (x ∷ xs) = omega (arith, empty xs)

  -- The lowest free frame of each lane, of the frames before a
  abbrev lane : ℕ → ℕ → Bool
  lane i f = eqb (get_or t f 0) 0 && eqb (f % 16) i

  pub record Noted (free : List ℕ) (a i : ℕ) : Type 0 where
    pub none : get_or free i 0 ≡ 0 → (f : ℕ) → f < a → lane i f ≡ false
    pub low : (g : ℕ) → get_or free i 0 ≡ g + 1 → (g < a) × (lane i g ≡ true) × ((f : ℕ) → f < g → lane i f ≡ false)

  module _ (free : List ℕ) (a : ℕ) (l : length free ≡ 16) where
    abbrev j : ℕ
    j = a % 16

    small : j < length free
    small = omega (arith, mod-lt a {m = 16} (omega arith))

    earlier : (P : ℕ → Type 0) (f : ℕ) → f < a + 1 → (f < a → P f) → P a → P f
    earlier P f h before here = ⊎_elim (λ z. rw z here) before (eq-or-lt_of_le (omega arith))

    -- frame a is the lowest of its lane
    first_of_lane : eqb (get_or t a 0) 0 ≡ true → get_or free j 0 ≡ 0 → (i : ℕ) → Noted free a i → Noted (set free j (a + 1)) (a + 1) i
    first_of_lane e z i r =
        cases (eqb i j)
        (λ o.
        let is = eqb-true i j o in
        let entry : get_or (set free j (a + 1)) i 0 ≡ a + 1 = rw is (get_or-set_same free j (a + 1) 0 small) in
        record {
          none = λ u. absurd (lt_irrefl 0 (omega (arith, u, entry)));
          low = λ g u.
              let at : g ≡ a = omega (arith, u, entry) in
              (omega arith, rw (at, e) (eq-eqb j i (sym is)), λ f h. r.none (rw is z) f (omega arith));
        })
        (λ o.
        let off = eqb-false i j o in
        let entry : get_or (set free j (a + 1)) i 0 ≡ get_or free i 0 = get_or-set_other free j i (a + 1) 0 off in
        let away : lane i a ≡ false = rw (ne_eqb j i (λ q. off (sym q))) (and-false (eqb (get_or t a 0) 0)) in
        record {
          none = λ u f h. earlier (λ (k : ℕ). lane i k ≡ false) f h (r.none (sym entry ∙ u) f) away;
          low = λ g u. let k = r.low g (sym entry ∙ u) in (omega (arith, k.0), k.1, k.2);
        })

    -- it is not
    not_first : (i : ℕ) → Noted free a i → (eqb (get_or t a 0) 0 && eqb (get_or free j 0) 0) ≡ false → Noted free (a + 1) i
    not_first i r e =
        record {
          none = λ u f h.
              earlier (λ (k : ℕ). lane i k ≡ false) f h (r.none u f)
              (cases (lane i a)
              (λ o.
              let both = and_both (eqb (get_or t a 0) 0) (eqb j i) o in
              let is = eqb-true j i both.1 in
              absurd (true≢false (sym (rw both.0 (eq-eqb (get_or free j 0) 0 (rw is u))) ∙ e)))
              (λ o. o));
          low = λ g u. let k = r.low g u in (omega (arith, k.0), k.1, k.2);
        }

    one_noted : (i : ℕ) → Noted free a i → Noted (note_in free a (get_or t a 0)) (a + 1) i
    one_noted i r =
        cases (eqb (get_or t a 0) 0 && eqb (get_or free j 0) 0)
        (λ e.
        let both = and_both (eqb (get_or t a 0) 0) (eqb (get_or free j 0) 0) e in
        rw (noted free a (get_or t a 0) e) (first_of_lane both.0 (eqb-true (get_or free j 0) 0 both.1) i r))
        (λ e. rw (not_noted free a (get_or t a 0) e) (not_first i r e))

    noted_length : length (note_in free a (get_or t a 0)) ≡ 16
    noted_length =
        cases (eqb (get_or t a 0) 0 && eqb (get_or free j 0) 0)
        (λ e. ap length (noted free a (get_or t a 0) e) ∙ length-set free j (a + 1) ∙ l)
        (λ e. ap length (not_noted free a (get_or t a 0) e) ∙ l)

  noted_from : (r a : ℕ) (free : List ℕ) → a + r ≡ n → length free ≡ 16 → (i : ℕ) → Noted free a i → Noted (note_all free (0 + a) (drop a t)) n i
  unfolding note_all
  noted_from zero a free e l i r =
      let all : n ≤ a = omega arith in
      let same : a ≡ n = omega arith in
      rw (drop_of_length-le t all) (rw same at r)
  noted_from (suc k) a free e l i r =
      rw (note_next free 0 t a (omega arith), zero-add a)
      (noted_from k (a + 1) (note_in free a (get_or t a 0)) (omega arith) (noted_length free a l) i (one_noted free a l i r))

  pub noted_all : (i : ℕ) → Noted (note_all zeros 0 t) n i
  noted_all i =
      noted_from n 0 zeros (omega arith) zeros_length i
      (record { none = λ u f h. absurd (lt_irrefl 0 (omega arith)); low = λ g u. absurd (lt_irrefl 0 (omega (arith, u, no_entry i))) })

  -- The lowest frame noted in the lanes that pass q
  module _ (q : ℕ → Bool) where
    abbrev pub frees : ℕ → Bool
    frees f = eqb (get_or t f 0) 0 && q (f % 16)

    abbrev lanes : List ℕ
    lanes = note_all zeros 0 t

    -- a frame that stands in a lane is free
    stands_free : (f i : ℕ) → (q i && eqb (get_or lanes i 0) (f + 1)) ≡ true → frees f ≡ true
    stands_free f i e =
        let both = and_both (q i) (eqb (get_or lanes i 0) (f + 1)) e in
        let o = and_both (eqb (get_or t f 0) 0) (eqb (f % 16) i) ((noted_all i).low f (eqb-true _ _ both.1)).1 in
        rw (o.0, eqb-true (f % 16) i o.1) both.0

    stands_none : (f : ℕ) → frees f ≡ false → in_lanes q lanes f ≡ false
    unfolding in_lanes
    stands_none f e =
        none_any _ 16 (λ i l. cases (q i && eqb (get_or lanes i 0) (f + 1)) (λ o. absurd (true≢false (sym (stands_free f i o) ∙ e))) (λ o. o))

    -- the lowest free one stands in its lane
    stands : (f : ℕ) → f < n → frees f ≡ true → ((g : ℕ) → g < f → frees g ≡ false) → in_lanes q lanes f ≡ true
    unfolding in_lanes
    stands f h e before =
        let i : ℕ = f % 16 in
        let both = and_both (eqb (get_or t f 0) 0) (q i) e in
        let mine : lane i f ≡ true = rw both.0 (eq-eqb i i refl) in
        some_any (λ (k : ℕ). q k && eqb (get_or lanes k 0) (f + 1)) 16 i (mod-lt f (omega arith))
        (rw both.1 (eq-eqb (get_or lanes i 0) (f + 1) (entry (get_or lanes i 0) refl mine)))
      where
        entry : (v : ℕ) → get_or lanes (f % 16) 0 ≡ v → lane (f % 16) f ≡ true → v ≡ f + 1
        entry zero u mine = absurd (true≢false (sym mine ∙ (noted_all (f % 16)).none u f h))
        entry (suc g) u mine =
            let k = (noted_all (f % 16)).low g (u ∙ sym (add-one g)) in
            let own = and_both (eqb (get_or t g 0) 0) (eqb (g % 16) (f % 16)) k.1 in
            below_or_not f g
            (λ l. absurd (true≢false (sym mine ∙ k.2 f l)))
            (λ l.
            below_or_not g f
            (λ m. absurd (true≢false (sym (rw (own.0, eqb-true (g % 16) (f % 16) own.1) (and_both (eqb (get_or t f 0) 0) (q (f % 16)) e).1) ∙ before g m)))
            (λ m. omega arith))

    pub least_noted : least_lane q lanes n ≡ lowest frees n
    unfolding least_lane
    least_noted =
        below_or_not (lowest frees n) n
        (λ h.
        let r = found frees 0 n h in
        sought_is (in_lanes q lanes) 0 n (lowest frees n) zero-le h (stands (lowest frees n) h r.passes (λ g l. r.before g zero-le l))
        (λ f low high. stands_none f (r.before f zero-le high)))
        (λ h.
        let none = missed frees 0 n h in
        none_lowest (in_lanes q lanes) n (λ f l. stands_none f (none f zero-le l)) ∙ sym (none_lowest frees n (λ f l. none f zero-le l)))
