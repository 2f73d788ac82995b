-- The order of tests: what the tests before decide is decided, and of one test for each domain or row the lowest at fault refuses.
use Rattle.std.specs.Prelude.{if◌then◌else◌}
use Prim.Native.Nat.{ℕ, zero, suc, ◌+◌, ◌<◌, ◌≤◌}
use native.Mathlib.Nat.{le_refl, zero-add, sub-zero, lt_irrefl}
use native.Mathlib.Omega.{arith}
use mathlib.Core.Bool.{Bool, true, false}
use mathlib.Core.List.{List, [], ◌∷◌, ◌++◌, map, append-nil}
use mathlib.Core.Path.{◌≡◌, refl, sym, ap, ◌∙◌}
use lib.Dec.{ltb}
use borrow.Author.Tests.{lt-ltb, le-ltb}
use Rattle.std.specs.Prelude.{Some, None}
use Rattle.lists.specs.Range.{from, keep, head_or, lowest, lowest_from, lowest_below}
use Rattle.lists.proofs.CaseSplits.{cases}
use Rattle.lists.proofs.Searches.{from_on}
use Rattle.refusal.specs.Reply.{Answers, Refuses, Test, each, unless, also, passes}
use Rattle.refusal.proofs.Replies.{passed_first}

module _ {A B : Type 0} (a : A) (b : B) where
  -- a refusal among the first tests is the reply
  pub unless_refused : (xs ys : List Test) (n r : ℕ) → unless xs a ≡ Refuses n r → unless (xs ++ ys) b ≡ Refuses n r
  unfolding unless
  unless_refused [] ys n r e = cc
  unless_refused (t ∷ ts) ys n r e =
      cases t.fails (λ f. rw f (cc (rw f at e))) (λ f. rw f (unless_refused ts ys n r (rw f at e)))

  -- whatever the answer would be
  pub refuses_alike : (xs : List Test) (n r : ℕ) → unless xs a ≡ Refuses n r → unless xs b ≡ Refuses n r
  refuses_alike xs n r e = ap (λ (ts : List Test). unless ts b) (sym (append-nil xs)) ∙ unless_refused xs [] n r e

  -- where none of the first tests fails, the others decide
  pub unless_passed : (xs ys : List Test) → unless xs a ≡ Answers a → unless (xs ++ ys) b ≡ unless ys b
  unfolding unless
  unless_passed [] ys e = refl
  unless_passed (t ∷ ts) ys e =
      cases t.fails (λ f. cc (rw f at e)) (λ f. rw f (unless_passed ts ys (rw f at e)))

-- one test more behind a list of tests
pub unless_also : {A : Type 0} (a : A) (ts : List Test) (t : Test) → unless (ts ++ (t ∷ [])) a ≡ also (unless ts a) t
unfolding unless also
unless_also a [] t = refl
unless_also a (s ∷ ss) t = cases s.fails (λ f. rw f) (λ f. rw f (unless_also a ss t))

module _ {A : Type 0} (n number : ℕ) (f : ℕ → Bool) (rest : List Test) (a : A) where
  -- the lowest of the k rows before n
  rows :
      (k i : ℕ)
      → i + k ≡ n
      → unless (map (λ (r : ℕ). record { number = number; row = r; fails = f r }) (from i k) ++ rest) a
      ≡ (if ltb (head_or n (keep f (from i k))) n then Refuses number (head_or n (keep f (from i k))) else unless rest a)
  unfolding unless keep from
  rows zero i e = rw (le-ltb n n (le_refl n))
  rows (suc k) i e =
      let l : i < n = omega arith in
      let next : suc i + k ≡ n = omega arith in
      cases (f i) (λ h. rw (h, lt-ltb i n l)) (λ h. rw h (rows k (suc i) next))

  pub unless_each :
      unless (each n number f ++ rest) a ≡ (if ltb (lowest f n) n then Refuses number (lowest f n) else unless rest a)
  unfolding each lowest_from
  unless_each = rw (sub-zero n) (rows n 0 (zero-add n))

  -- the lowest of the n refuses, if one does, and else the rest decides
  pub refused_lowest : {r : ℕ} → lowest_below f n ≡ Some r → unless (each n number f ++ rest) a ≡ Refuses number r
  unfolding lowest_below
  refused_lowest e = unless_each ∙ cases (ltb (lowest f n) n) (λ h. rw h (cc (rw h at e))) (λ h. cc (rw h at e))

  pub passed_lowest : lowest_below f n ≡ None → unless (each n number f ++ rest) a ≡ unless rest a
  unfolding lowest_below
  passed_lowest e = unless_each ∙ cases (ltb (lowest f n) n) (λ h. cc (rw h at e)) (λ h. rw h)

-- where no test of two lists fails, none of the second does
pub passed_later : (xs ys : List Test) → passes (xs ++ ys) ≡ true → passes ys ≡ true
unfolding passes
passed_later [] ys e = e
passed_later (t ∷ ts) ys e = passed_later ts ys (passed_first t (ts ++ ys) e).1

-- and none of the first
pub passed_earlier : (xs ys : List Test) → passes (xs ++ ys) ≡ true → passes xs ≡ true
unfolding passes
passed_earlier [] ys e = refl
passed_earlier (t ∷ ts) ys e =
    let first = passed_first t (ts ++ ys) e in
    rw first.0 (passed_earlier ts ys first.1)

pub passed_both : (xs ys : List Test) → passes xs ≡ true → passes ys ≡ true → passes (xs ++ ys) ≡ true
unfolding passes
passed_both [] ys e f = f
passed_both (t ∷ ts) ys e f =
    let first = passed_first t ts e in
    rw first.0 (passed_both ts ys first.1 f)

-- one test for each of the numbers from i on
module _ (number : ℕ) (fails : ℕ → Bool) where
  abbrev tests : ℕ → ℕ → List Test
  tests i n = map (λ (r : ℕ). record { number = number; row = r; fails = fails r }) (from i n)

  from_passed : (n i d : ℕ) → passes (tests i n) ≡ true → i ≤ d → d < i + n → fails d ≡ false
  unfolding passes from
  from_passed zero i d e l h = absurd (lt_irrefl d (omega arith))
  from_passed (suc n) i d e l h =
      let r = passed_first (record { number = number; row = i; fails = fails i }) (tests (suc i) n) e in
      from_on (λ (x : ℕ). fails x ≡ false) i d l r.0 (λ m. from_passed n (suc i) d r.1 m (omega arith))

  from_passes : (n i : ℕ) → ((d : ℕ) → i ≤ d → d < i + n → fails d ≡ false) → passes (tests i n) ≡ true
  unfolding passes from
  from_passes zero i f = refl
  from_passes (suc n) i f = rw (f i (le_refl i) (omega arith)) (from_passes n (suc i) (λ d l h. f d (omega arith) (omega arith)))

  pub each_passed : (n : ℕ) → passes (each n number fails) ≡ true → (d : ℕ) → d < n → fails d ≡ false
  unfolding each
  each_passed n e d h = from_passed n 0 d e (omega arith) (omega arith)

  pub each_passes : (n : ℕ) → ((d : ℕ) → d < n → fails d ≡ false) → passes (each n number fails) ≡ true
  unfolding each
  each_passes n f = from_passes n 0 (λ d l h. f d (omega arith))
