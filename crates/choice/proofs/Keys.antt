-- The key of a colour, by its cases; and the colour with the fewest frames held, by the least of the keys.
use Rattle.std.proofs.Common.{◌≡◌, ℕ, ◌+◌, ◌*◌, ◌%◌, ◌<◌, ◌≤◌, Bool, true, false, ◌&&◌, ltb, List, get_or, min, refl, ◌∙◌, le_refl, lt_irrefl, mod-eq_of_lt, arith, ltb-true, le-ltb, lt-ltb}
use mathlib.Core.Bool.{and-false}
use Rattle.lists.specs.Range.{fewest}
use Rattle.lists.proofs.CaseSplits.{cases, below_or_not, and_both}
use Rattle.lists.proofs.FewestNumber.{fewest_is, fewest_none}
use Rattle.colours.specs.Sets.{has}
use Rattle.choice.specs.Keys.{full_key, key_of, LeastOf, LeastKey, KeysFit}

module _ (n m c : ℕ) (count free : ℕ → ℕ) where
  module _ (x : ℕ) where
    pub key_word : x < n → has c x ≡ true → free x < m → key_of n m c count free x ≡ (16 * count x + x) % 65536
    unfolding key_of
    key_word l e h = rw (lt-ltb x n l, e, lt-ltb (free x) m h) refl

    pub key_in : x < n → has c x ≡ true → free x < m → 16 * count x + x < full_key → key_of n m c count free x ≡ 16 * count x + x
    key_in l e h fit = key_word l e h ∙ mod-eq_of_lt (omega arith)

    pub key_other : (x < n → (has c x && ltb (free x) m) ≡ false) → key_of n m c count free x ≡ full_key
    unfolding key_of
    key_other none = below_or_not x n (λ l. rw (none l, and-false (ltb x n))) (λ h. rw (le-ltb x n h))

    pub key_full : m ≤ free x → key_of n m c count free x ≡ full_key
    key_full h = key_other (λ l. rw (le-ltb (free x) m h) (and-false (has c x)))

    pub key_outside : has c x ≡ false → key_of n m c count free x ≡ full_key
    key_outside e = key_other (λ l. rw e)

  abbrev takes : ℕ → Bool
  takes x = has c x && ltb (free x) m

  -- a least key below that of a colour without a frame is the key of a colour that can be taken from
  pub record Takes (r x : ℕ) : Type 0 where
    pub colour : r % 16 ≡ x
    pub below : x < n
    pub takes_it : takes x ≡ true

  pub below_full : (r : ℕ) (low : LeastOf (key_of n m c count free) r) → r < full_key → Takes r low.colour
  below_full r low h =
      let x : ℕ = low.colour in
      let never : key_of n m c count free x ≡ full_key → ⊥ = λ e. lt_irrefl full_key (omega (arith, h, low.is, e)) in
      let l : x < n = below_or_not x n (λ q. q) (λ q. absurd (never (key_other x (λ o. absurd (lt_irrefl n (omega (arith, o, q))))))) in
      let e : takes x ≡ true = cases (takes x) (λ q. q) (λ q. absurd (never (key_other x (λ o. q)))) in
      let both = and_both (has c x) (ltb (free x) m) e in
      let k = key_word x l both.0 (ltb-true (free x) m both.1) in
      record { colour = omega (arith, low.is, k, low.below); below = l; takes_it = e }

  -- the least of sixteen keys
  module _ (few : n ≤ 16) (fits : KeysFit n m count free c) (r : ℕ) (low : LeastOf (key_of n m c count free) r) where
    key_is : (x : ℕ) → x < n → takes x ≡ true → key_of n m c count free x ≡ 16 * count x + x
    key_is x l e =
        let both = and_both (has c x) (ltb (free x) m) e in
        let there = ltb-true (free x) m both.1 in
        key_in x l both.0 there (fits x l both.0 there)

    abbrev k : ℕ
    k = low.colour

    pub key_of_it : r < full_key → r ≡ 16 * count k + k
    key_of_it h = let t = below_full r low h in low.is ∙ key_is k t.below t.takes_it

    pub fewest_key : r < full_key → fewest takes count n ≡ k
    fewest_key h =
        let t = below_full r low h in
        let none_less : (y : ℕ) → y < n → takes y ≡ true → 16 * count k + k ≤ 16 * count y + y = λ y l e. omega (arith, key_of_it h, low.least y (omega (arith, l, few)), key_is y l e) in
        fewest_is takes count n k
        (record { below = t.below; passes = t.takes_it; least = λ y l e. omega (arith, none_less y l e, l, few) })
        (λ y l e. omega (arith, none_less y (omega (arith, l, t.below)) e, l))

    pub no_key : full_key ≤ r → fewest takes count n ≡ n
    no_key h =
        fewest_none takes count n
        (λ x l.
        cases (takes x)
        (λ e.
        let both = and_both (has c x) (ltb (free x) m) e in
        absurd (lt_irrefl full_key (omega (arith, h, low.least x (omega (arith, l, few)), key_is x l e, fits x l both.0 (ltb-true (free x) m both.1)))))
        (λ e. e))

-- the least of an array of keys
module _ (keys : List ℕ) (key : ℕ → ℕ) (are : (x : ℕ) → x < 16 → get_or keys x 0 ≡ key x) (r : ℕ) (low : LeastKey keys r) where
  abbrev pub least_by : LeastOf key r
  least_by =
      record {
        colour = low.colour;
        below = low.below;
        is = low.is ∙ are low.colour low.below;
        least = λ y l. omega (arith, low.least y l, are y l);
      }

-- a search for the least of sixteen keys that has come to i
module _ (keys : List ℕ) where
  pub record LeastYet (low i : ℕ) : Type 0 where
    pub place : ℕ
    pub passed : place < i
    pub within : i ≤ 16
    pub is : low ≡ get_or keys place 0
    pub least : (y : ℕ) → y < i → low ≤ get_or keys y 0

  pub least_start : LeastYet (get_or keys 0 0) 1
  least_start =
      record {
        place = 0;
        passed = omega arith;
        within = omega arith;
        is = refl;
        least = λ y l. let z : y ≡ 0 = omega arith in rw z (le_refl (get_or keys 0 0));
      }

  module _ {low i : ℕ} (s : LeastYet low i) (l : i < 16) where
    pub least_lower : get_or keys i 0 < low → LeastYet (get_or keys i 0) (i + 1)
    least_lower h =
        record {
          place = i;
          passed = omega arith;
          within = omega arith;
          is = refl;
          least = λ y k. below_or_not y i (λ m. omega (arith, h, s.least y m)) (λ m. let z : y ≡ i = omega arith in rw z (le_refl (get_or keys i 0)));
        }

    pub least_not : low ≤ get_or keys i 0 → LeastYet low (i + 1)
    least_not h =
        record {
          place = s.place;
          passed = omega (arith, s.passed);
          within = omega arith;
          is = s.is;
          least = λ y k. below_or_not y i (λ m. s.least y m) (λ m. let z : y ≡ i = omega arith in rw z h);
        }

    pub least_min : (r : ℕ) → r ≡ min low (get_or keys i 0) → LeastYet r (i + 1)
    least_min r e =
        below_or_not (get_or keys i 0) low
        (λ h. let same : r ≡ get_or keys i 0 = omega (arith, e, h) in rw same (least_lower h))
        (λ h. let same : r ≡ low = omega (arith, e, h) in rw same (least_not h))

  pub least_end : {low i : ℕ} → LeastYet low i → 16 ≤ i → LeastKey keys low
  least_end s l =
      record { colour = s.place; below = omega (arith, s.passed, s.within); is = s.is; least = λ y k. s.least y (omega (arith, k, l)) }
