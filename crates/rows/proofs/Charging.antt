-- The loop that goes down from row i: the union of the sets passed is that of the row it has come to and of those after it, up to row i, so
-- that the charges written are those of the definition.
use Prim.Native.Nat.{ℕ, suc, ◌+◌, ◌-◌, ◌*◌, ◌<◌, ◌≤◌}
use native.Mathlib.Nat.{lt_irrefl, zero-add}
use native.Mathlib.Omega.{arith}
use mathlib.Core.List.{List}
use mathlib.Core.Path.{◌≡◌, refl, sym, ap, ap₂, ◌∙◌}
use lib.Bits.{bit_and, bit_or, and_comm, or_zero_r}
use lib.Count.{ones}
use lib.ListN.{length, get_or, set, replicate, get_or-replicate, length-set, get_or-eq_default}
use lib.Seq.{ext_get_or, get_or-set_same, get_or-set_other}
use borrow.Author.Tests.{lt-ltb, le-ltb}
use Rattle.lists.proofs.CaseSplits.{below_or_not}
use Rattle.lists.proofs.WrittenLists.{length-table, table_entry}
use Rattle.rows.specs.RowWords.{colour_set, cost}
use Rattle.rows.specs.Reload.{held_from, reloaded_set, reloaded, arrival_charge, planned_row, charges}

-- the colours reloaded, by any wording of the definition that means this
pub reloaded_is : (tasks : List ℕ) (i j : ℕ) → reloaded tasks i j ≡ ones (bit_and (colour_set tasks j) (held_from tasks (suc j) (i - j)))
unfolding reloaded reloaded_set
reloaded_is tasks i j =
    let next : suc j ≡ j + 1 = omega arith in
    let again : suc j ≡ 1 + j = omega arith in
    cc (next, again, and_comm (colour_set tasks j) (held_from tasks (suc j) (i - j)))

charge_is : (reload : ℕ) (tasks : List ℕ) (i j : ℕ)
    → arrival_charge reload tasks i j ≡ cost tasks j + reload * ones (bit_and (colour_set tasks j) (held_from tasks (suc j) (i - j)))
unfolding arrival_charge
charge_is reload tasks i j = ap (λ (n : ℕ). cost tasks j + reload * n) (reloaded_is tasks i j)

-- no charge is written yet
abbrev none : List ℕ
none = replicate 32 0

none_yet : (k : ℕ) → get_or none k 0 ≡ 0
none_yet k = below_or_not k 32 (λ l. get_or-replicate 32 k 0 0 l) (λ l. get_or-eq_default none 0 l)

planned_low : (i : ℕ) → planned_row i < 32
unfolding planned_row
planned_low i = below_or_not i 32 (λ l. rw (lt-ltb i 32 l) l) (λ l. rw (le-ltb i 32 l) (omega arith))

planned_is : (i : ℕ) → i < 32 → planned_row i ≡ i
unfolding planned_row
planned_is i l = rw (lt-ltb i 32 l)

module _ (reload : ℕ) (tasks : List ℕ) (i : ℕ) where
  abbrev row : ℕ
  row = planned_row i

  -- the rows from j on are passed
  pub record Charging (held j : ℕ) (found : List ℕ) : Type 0 where
    pub down : j ≤ row
    pub few : row < 32
    pub union : held ≡ held_from tasks j (suc (row - j))
    pub room : length found ≡ 32
    pub passed : (k : ℕ) → j ≤ k → k < row → get_or found k 0 ≡ arrival_charge reload tasks row k
    pub rest : (k : ℕ) → row ≤ k → get_or found k 0 ≡ 0

  pub charging_start : (held j : ℕ) → j ≡ row → held ≡ colour_set tasks j → Charging held j none
  unfolding held_from
  charging_start held j at e =
      let one : suc (row - j) ≡ 1 = omega arith in
      record {
        down = omega arith;
        few = planned_low i;
        union = e ∙ sym (ap (held_from tasks j) one ∙ or_zero_r (colour_set tasks j));
        room = refl;
        passed = λ k a b. absurd (lt_irrefl k (omega arith));
        rest = λ k l. none_yet k;
      }

  pub charging_next : {held j : ℕ} {found : List ℕ} → Charging held j found → (m x held' : ℕ) → m + 1 ≡ j
      → x ≡ cost tasks m + reload * ones (bit_and (colour_set tasks m) held) → held' ≡ bit_or (colour_set tasks m) held → Charging held' m (set found m x)
  unfolding held_from
  charging_next {held} {j} {found} c m x held' e is grown =
      let first : j ≡ suc m = omega arith in
      let many : suc (row - j) ≡ row - m = omega (arith, c.down) in
      let held_is : held ≡ held_from tasks (suc m) (row - m) = c.union ∙ ap₂ (held_from tasks) first many in
      let other : (k : ℕ) → (k ≡ m → ⊥) → get_or (set found m x) k 0 ≡ get_or found k 0 = λ k n. get_or-set_other found m k x 0 n in
      record {
        down = omega (arith, c.down);
        few = c.few;
        union = grown ∙ ap (bit_or (colour_set tasks m)) held_is;
        room = length-set found m x ∙ c.room;
        passed = λ k a b.
            below_or_not m k
            (λ l. other k (λ q. lt_irrefl k (omega arith)) ∙ c.passed k (omega arith) b)
            (λ l. let same : k ≡ m = omega arith in rw same (get_or-set_same found m x 0 (omega (arith, c.room, c.down, c.few)) ∙ is ∙ rw held_is (sym (charge_is reload tasks row m))));
        rest = λ k l. other k (λ q. lt_irrefl k (omega (arith, c.down))) ∙ c.rest k l;
      }

  pub charging_end : {held j : ℕ} {found : List ℕ} → Charging held j found → j ≤ 0 → found ≡ charges reload tasks i
  unfolding charges
  charging_end {held} {j} {found} c z =
      ext_get_or 0 found _ (c.room ∙ sym (length-table _ 32 0))
      (λ k l.
      below_or_not k row
      (λ h. c.passed k (omega arith) h ∙ sym (table_entry _ 32 0 k (omega (arith, c.room)) ∙ rw (zero-add k, lt-ltb k row h) refl))
      (λ h. c.rest k h ∙ sym (table_entry _ 32 0 k (omega (arith, c.room)) ∙ rw (zero-add k, le-ltb k row h) refl)))

  -- the charge of a row before row i
  pub charge_kept : i < 32 → (k : ℕ) → k < i → get_or (charges reload tasks i) k 0 ≡ arrival_charge reload tasks i k
  unfolding charges
  charge_kept few k h = table_entry _ 32 0 k (omega arith) ∙ rw (zero-add k, planned_is i few, lt-ltb k i h) refl
