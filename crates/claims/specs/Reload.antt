-- The claims on reload: document 02, No. 3, the UCB-union rule of Tan and Mooney over colours, which is equation (3) of document 000.
use Rattle.std.specs.Prelude.{ℕ, suc, ◌-◌, ◌^◌, ◌<◌, ◌≤◌, ◌&&◌, List, ◌≡◌, length}
use Rattle.lists.specs.Range.{from, upto, keep, any_of}
use Rattle.colours.specs.Sets.{has}
use Rattle.rows.specs.RowWords.{colour_set}
use Rattle.rows.specs.Reload.{reloaded}
use Rattle.times.specs.FirstTime.{NoLater}
use Rattle.times.specs.Times.{time_in_part}
use Rattle.times.specs.Pairwise.{colours_shared, pairwise_time}

pub record ReloadClaims : Type 0 where
  -- An arrival of row j reloads as many colours as there are that j holds and that some row from j + 1 to i holds, each counted once.
  pub reloaded_counts :
      (n : ℕ) (tasks : List ℕ) (i j : ℕ) → colour_set tasks j < 2 ^ n
      → reloaded tasks i j
      ≡ length (keep (λ (c : ℕ). has (colour_set tasks j) c && any_of (λ (k : ℕ). has (colour_set tasks k) c) (from (suc j) (i - j))) (upto n))
  -- These are at least the colours that it shares with the task in question, and with any task between.
  pub shared_are_reloaded : (part : List ℕ) (i j k : ℕ) → j < k → k ≤ i → colours_shared part k j ≤ reloaded part i j
  -- So no time is earlier than by the pairwise rule, which charged the colours shared with the task in question alone.
  pub no_earlier_than_pairwise :
      (p q reload : ℕ) (part : List ℕ) (i : ℕ) → NoLater (time_in_part p q reload part i) (pairwise_time p q reload part i)
