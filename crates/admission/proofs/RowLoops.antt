-- The loops over the rows: no row passed is late, and their times and rounds stand after those known.
use Prim.Native.Nat.{ℕ, ◌+◌, ◌<◌, ◌≤◌}
use native.Mathlib.Nat.{add-zero}
use native.Mathlib.Omega.{arith}
use mathlib.Core.Bool.{Bool}
use mathlib.Core.List.{List, [], ◌∷◌, ◌++◌, map, append-nil, append_assoc}
use mathlib.Core.Path.{◌≡◌, refl, sym, ap, ◌∙◌}
use lib.ListN.{length, take, set, length-set}
use borrow.Author.Tests.{lt-ltb, le-ltb}
use Rattle.std.specs.Prelude.{Some, None}
use Rattle.lists.specs.Range.{upto, from, lowest, lowest_below}
use Rattle.lists.proofs.RangeLoops.{Seeking, seek_start, seek_hit, seek_miss, seek_end}
use Rattle.lists.proofs.WrittenLists.{map_next, take_next}
use Rattle.times.specs.FirstTime.{Time, At, Late}
use Rattle.admission.specs.Admission.{is_late, microseconds}
use Rattle.admission.specs.declared.row_times.RowTimes.{RowTimes}
use Rattle.admission.specs.RowTimes.{Roomy, Recorded, Timed}

-- one word more after those of the rows passed
module _ (number : ℕ → ℕ) (first : ℕ) (known : List ℕ) where
  kept_start : (kept : List ℕ) → take first kept ≡ take first known → 48 ≡ length kept → Recorded number first known 0 kept
  unfolding from
  kept_start kept e r = record { front = rw (add-zero first) (e ∙ sym (append-nil (take first known))); room = r }

  kept_next : {i : ℕ} {kept : List ℕ} (k x : ℕ) → k ≡ first + i → k < 48 → Recorded number first known i kept → x ≡ number i → Recorded number first known (i + 1) (set kept k x)
  kept_next {i} {kept} k x at h t e =
      let next : first + (i + 1) ≡ k + 1 = omega arith in
      record {
        front = rw next (take_next kept k x (omega (arith, t.room)) ∙ rw (at, t.front, e) (append_assoc (take first known) (map number (upto i)) (number i ∷ [])) ∙ ap (λ (r : List ℕ). take first known ++ r) (sym (map_next number i)));
        room = t.room ∙ sym (length-set kept k x);
      }

module _ (time : ℕ → Time) (taken : ℕ → ℕ) (n first : ℕ) (known : RowTimes) where
  abbrev late : ℕ → Bool
  late i = is_late (time i)

  pub record Timing (i : ℕ) (kept : RowTimes) : Type 0 where
    pub ahead : Seeking late 0 n i
    pub times : Recorded (λ (k : ℕ). microseconds (time k)) first known.times i kept.times
    pub counts : Recorded taken first known.rounds i kept.rounds

  pub timing_start : {kept : RowTimes} → take first kept.times ≡ take first known.times → take first kept.rounds ≡ take first known.rounds → Roomy kept → Timing 0 kept
  timing_start {kept} p q room =
      record {
        ahead = seek_start late 0 n (omega arith);
        times = kept_start (λ (k : ℕ). microseconds (time k)) first known.times kept.times p room.times;
        counts = kept_start taken first known.rounds kept.rounds q room.rounds;
      }

  pub timing_room : {i : ℕ} {kept : RowTimes} → Timing i kept → Roomy kept
  timing_room t = record { times = t.times.room; rounds = t.counts.room }

  pub timing_next : {i : ℕ} {kept kept' : RowTimes} (k x m : ℕ) → kept'.times ≡ set kept.times k x → kept'.rounds ≡ set kept.rounds k m → k ≡ first + i → k < 48 → Timing i kept → i < n → time i ≡ At x → m ≡ taken i
      → Timing (i + 1) kept'
  timing_next k x m p q at h t l e c =
      record {
        ahead = seek_miss late t.ahead l (ap is_late e);
        times = rw p (kept_next (λ (j : ℕ). microseconds (time j)) first known.times k x at h t.times (sym (ap microseconds e)));
        counts = rw q (kept_next taken first known.rounds k m at h t.counts c);
      }

  pub timing_late : {i : ℕ} {kept : RowTimes} → Timing i kept → i < n → time i ≡ Late → Timed time taken n first known (Some i) kept
  unfolding lowest_below
  timing_late {i} t l e =
      let here : i ≡ lowest late n = seek_hit late t.ahead l (ap is_late e) in
      record { late_lem = rw (← here, lt-ltb i n l) refl; times = t.times; counts = t.counts }

  pub timing_end : {i : ℕ} {kept : RowTimes} → Timing i kept → n ≤ i → Timed time taken n first known None kept
  unfolding lowest_below
  timing_end {i} t l =
      let end : i ≡ lowest late n = seek_end late t.ahead l in
      let all : i ≡ n = omega (arith, t.ahead.within) in
      record { late_lem = rw (← end, le-ltb i n l) refl; times = rw all at t.times; counts = rw all at t.counts }
