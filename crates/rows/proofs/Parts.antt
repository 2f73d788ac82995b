-- The part of a VCPU: document 01, "The rows of one VCPU are handed back as that part of the caller's task list". Its ends lie within
-- the rows; where the rows stand in ascending VCPU it holds every row of the VCPU, and its words are those of the list.
use Prim.Native.Nat.{ℕ, zero, suc, ◌+◌, ◌-◌, ◌*◌, ◌<◌, ◌≤◌}
use native.Mathlib.Nat.{le_refl}
use native.Mathlib.Omega.{arith}
use mathlib.Core.Bool.{Bool, true, false, not, false≢true}
use mathlib.Core.List.{List}
use mathlib.Core.Path.{◌≡◌, refl, sym, ap, ◌∙◌}
use lib.Count.{ones}
use lib.ListN.{length, get_or, take, drop, length-drop}
use lib.Seq.{length-take-le, get_or-take, get_or-drop}
use borrow.Author.Tests.{eqb-true, eqb-false, eq-eqb, ne_eqb, not-true, not-false}
use Rattle.std.specs.Prelude.{Option, None, Some, MatchOption, unwrap_or}
use Rattle.lists.specs.Range.{lowest_from}
use Rattle.lists.proofs.CaseSplits.{below_or_not}
use Rattle.lists.proofs.RangeLoops.{sought_end}
use Rattle.lists.proofs.Searches.{found, missed, sought_past, sought_le, sought_is}
use Rattle.rows.specs.RowWords.{task_word, vcpu_of, colour_set, cost, task_rows}
use Rattle.rows.specs.Part.{is_row_of, next_own, next_other, part_start, part_end, rows_from, part_from, part_of}
use Rattle.rows.specs.ValidRows.{TaskRow, Tasks, AscendingVcpus}

module _ (p : ℕ → Bool) (i n : ℕ) where
  -- a search goes no lower than it starts
  pub sought_ge : i ≤ n → i ≤ lowest_from p i n
  sought_ge l = below_or_not (lowest_from p i n) n (λ h. (found p i n h).low) (λ h. omega arith)

  -- nor beyond the rows, wherever it starts
  pub sought_within : lowest_from p i n ≤ n
  sought_within = below_or_not i n (λ l. sought_le p i n (omega arith)) (λ l. omega (arith, sought_end p i n l))

  -- and passes over nothing that passes
  none_sooner : (m : ℕ) → i ≤ m → m < lowest_from p i n → p m ≡ false
  none_sooner m l h =
      below_or_not (lowest_from p i n) n (λ g. (found p i n g).before m l h) (λ g. missed p i n g m l (omega (arith, sought_within)))

  -- what `find` answers among the rows from row i on, or the number of rows where it finds none
  pub first_or_end :
      (r : Option ℕ)
      → MatchOption r ((k : ℕ) → i ≤ k → k < n → p k ≡ false) (λ m. (i ≤ m) × (m < n) × (p m ≡ true) × ((k : ℕ) → i ≤ k → k < m → p k ≡ false))
      → unwrap_or r n ≡ lowest_from p i n
  first_or_end None none =
      below_or_not i n (λ l. sym (sought_past p i n n (omega arith) (le_refl n) none ∙ sought_end p n n (le_refl n))) (λ l. sym (sought_end p i n l))
  first_or_end (Some m) h = sym (sought_is p i n m h.0 h.1 h.2 h.3)

module _ (tasks : List ℕ) (v : ℕ) where
  abbrev pub own : ℕ → Bool
  own j = is_row_of tasks v j

  abbrev pub other : ℕ → Bool
  other j = not (is_row_of tasks v j)

  -- the next rows of the VCPU from row i on begin and end within the rows
  pub start_within : (i : ℕ) → next_own tasks i v ≤ task_rows tasks
  start_within i = sought_within own i (task_rows tasks)

  pub end_within : (i : ℕ) → next_other tasks i v ≤ task_rows tasks
  end_within i = sought_within other i (task_rows tasks)

  pub end_later : (i : ℕ) → i ≤ task_rows tasks → i ≤ next_other tasks i v
  end_later i = sought_ge other i (task_rows tasks)

  pub part_from_is : (i : ℕ) → let s = next_own tasks i v in part_from tasks i v ≡ take (20 * next_other tasks s v - 20 * s) (drop (20 * s) tasks)
  unfolding part_from rows_from
  part_from_is i = refl

  -- a search from a row that no row of the VCPU stands before finds the first
  pub start_from : (i : ℕ) → i ≤ task_rows tasks → ((m : ℕ) → m < i → own m ≡ false) → next_own tasks i v ≡ part_start tasks v
  unfolding part_start
  start_from i h none = sym (sought_past own 0 i (task_rows tasks) (omega arith) h (λ m low high. none m high))

  -- no row before the part is the VCPU's
  pub none_before : (m : ℕ) → m < part_start tasks v → own m ≡ false
  unfolding part_start
  none_before m h = none_sooner own 0 (task_rows tasks) m (omega arith) h

  pub start_low : (j : ℕ) → own j ≡ true → part_start tasks v ≤ j
  start_low j e = below_or_not j (part_start tasks v) (λ l. absurd (false≢true (sym (none_before j l) ∙ e))) (λ l. l)

  pub start_le : part_start tasks v ≤ task_rows tasks
  unfolding part_start
  start_le = start_within 0

  pub start_le_end : part_start tasks v ≤ part_end tasks v
  unfolding part_end
  start_le_end = end_later (part_start tasks v) start_le

  pub end_le : part_end tasks v ≤ task_rows tasks
  unfolding part_end
  end_le = end_within (part_start tasks v)

  pub part_at_start : part_from tasks (part_start tasks v) v ≡ part_of tasks v
  unfolding part_from part_of
  part_at_start = ap (λ (s : ℕ). rows_from tasks s v) (start_from (part_start tasks v) start_le none_before)

  pub part_is : part_of tasks v ≡ take (20 * part_end tasks v - 20 * part_start tasks v) (drop (20 * part_start tasks v) tasks)
  unfolding part_of rows_from part_end
  part_is = refl

  -- the rows of the part
  abbrev pub count : ℕ
  count = part_end tasks v - part_start tasks v

  abbrev words : ℕ
  words = 20 * part_end tasks v - 20 * part_start tasks v

  pub part_length : length (part_of tasks v) ≡ 20 * count
  part_length =
      let rest : List ℕ = drop (20 * part_start tasks v) tasks in
      let fits : words ≤ length rest = omega (arith, end_le, length-drop (20 * part_start tasks v) tasks) in
      let same : words ≡ 20 * count = omega arith in
      ap length part_is ∙ length-take-le words rest fits ∙ same

  -- word k of row i of the part is that word of its row in the list
  pub part_word : (i k : ℕ) → i < count → k < 20 → task_word (part_of tasks v) i k ≡ task_word tasks (part_start tasks v + i) k
  part_word i k l h =
      let a : ℕ = 20 * part_start tasks v in
      let inside : 20 * i + k < words = omega arith in
      let same : a + (20 * i + k) ≡ 20 * (part_start tasks v + i) + k = omega arith in
      ap (λ (part : List ℕ). task_word part i k) part_is
      ∙ get_or-take words (drop a tasks) (20 * i + k) 0 inside
      ∙ get_or-drop a tasks (20 * i + k) 0
      ∙ ap (λ (m : ℕ). get_or tasks m 0) same

  -- every row of the part is the VCPU's own
  pub part_own : (i : ℕ) → i < count → vcpu_of tasks (part_start tasks v + i) ≡ v
  unfolding part_end
  part_own i l =
      let s : ℕ = part_start tasks v in
      eqb-true (vcpu_of tasks (s + i)) v (not-false (own (s + i)) (none_sooner other s (task_rows tasks) (s + i) (omega arith) (omega arith)))

  -- so a row of the part has the cost of its row in the list, and what refusals leave of that row holds of it
  pub part_cost : (i : ℕ) → i < count → ones (colour_set tasks (part_start tasks v + i)) ≤ 16 → cost (part_of tasks v) i ≡ cost tasks (part_start tasks v + i)
  unfolding cost
  part_cost i l h = rw (part_word i 3 l (omega arith)) (part_word i (3 + ones (colour_set tasks (part_start tasks v + i))) l (omega arith))

  part_row : (i : ℕ) → i < count → TaskRow tasks (part_start tasks v + i) → TaskRow (part_of tasks v) i
  part_row i l r =
      record {
        period_low = rw (part_word i 1 l (omega arith)) r.period_low;
        period_high = rw (part_word i 1 l (omega arith)) r.period_high;
        due_low = rw (part_word i 2 l (omega arith)) r.due_low;
        due_high = rw (part_word i 2 l (omega arith), part_word i 1 l (omega arith)) r.due_high;
        colours_low = rw (part_word i 3 l (omega arith)) r.colours_low;
        colours_high = rw (part_word i 3 l (omega arith)) r.colours_high;
        cost_low = rw (part_cost i l r.colours_high) r.cost_low;
        cost_high = rw (part_cost i l r.colours_high) r.cost_high;
      }

  pub part_rows : task_rows (part_of tasks v) ≡ count
  part_rows = omega (arith, part_length)

  pub part_tasks : Tasks tasks → Tasks (part_of tasks v)
  part_tasks t =
      record {
        few = omega (arith, part_rows, end_le, t.few);
        row = λ i l. (let h : i < count = omega (arith, part_rows) in part_row i h (t.row _ (omega (arith, end_le))));
      }

-- the next rows of a VCPU, and that they lie within the rows
pub ruleset next_rows = (start_within, end_within, end_later, part_from_is)

module _ (tasks : List ℕ) (ascending : AscendingVcpus tasks) where
  climbs : (k i : ℕ) → i + k < task_rows tasks → vcpu_of tasks i ≤ vcpu_of tasks (i + k)
  climbs zero i h = let same : i + 0 ≡ i = omega arith in rw same (le_refl (vcpu_of tasks i))
  climbs (suc k) i h =
      let same : i + suc k ≡ i + k + 1 = omega arith in
      let step : vcpu_of tasks (i + k) ≤ vcpu_of tasks (i + k + 1) = ascending (i + k) (omega arith) in
      rw same (omega (arith, climbs k i (omega arith), step))

  pub never_lower : (i j : ℕ) → i ≤ j → j < task_rows tasks → vcpu_of tasks i ≤ vcpu_of tasks j
  never_lower i j l h =
      let same : i + (j - i) ≡ j = omega arith in
      rw (← same) (climbs (j - i) i (omega arith))

  -- a row of a VCPU lies in that VCPU's part
  pub row_in_part : (j : ℕ) → j < task_rows tasks → (part_start tasks (vcpu_of tasks j) ≤ j) × (j < part_end tasks (vcpu_of tasks j))
  unfolding part_start part_end
  row_in_part j h =
      let v : ℕ = vcpu_of tasks j in
      let n : ℕ = task_rows tasks in
      let s : ℕ = next_own tasks 0 v in
      let e : ℕ = next_other tasks s v in
      let low : s ≤ j = start_low tasks v j (eq-eqb v v refl) in
      let first : own tasks v s ≡ true = (found (own tasks v) 0 n (omega arith)).passes in
      let high : j < e =
      below_or_not j e (λ l. l)
      (λ l.
      let next = found (other tasks v) s n (omega arith) in
      let up = never_lower s e next.low next.high in
      let on = never_lower e j l h in
      let same : vcpu_of tasks e ≡ v = omega (arith, up, on, eqb-true (vcpu_of tasks s) v first) in
      absurd (false≢true (sym (not-true (own tasks v e) next.passes) ∙ eq-eqb (vcpu_of tasks e) v same))) in
      (low, high)

  -- no row before the part of a row's VCPU is of a VCPU that a row from it on names
  pub before_part : (j k m : ℕ) → j ≤ k → k < task_rows tasks → m < part_start tasks (vcpu_of tasks j) → is_row_of tasks (vcpu_of tasks k) m ≡ false
  before_part j k m l h b =
      let v : ℕ = vcpu_of tasks j in
      let low = (row_in_part j (omega arith)).0 in
      let off = eqb-false (vcpu_of tasks m) v (none_before tasks v m b) in
      let up = never_lower m j (omega (arith, low)) (omega arith) in
      let on = never_lower j k l h in
      ne_eqb (vcpu_of tasks m) (vcpu_of tasks k) (λ e. off (omega (arith, up, on, e)))
