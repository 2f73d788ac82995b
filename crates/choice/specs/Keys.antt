-- The keys by which the code chooses a colour: document 02, No. 7. What each function gives is determined for every input; that the least key is that of the
-- colour with the fewest frames held is a law, where the keys fit into 16 bits.
use Rattle.std.specs.Prelude.{◌≡◌, ℕ, ◌+◌, ◌*◌, ◌%◌, ◌<◌, ◌≤◌, true, ◌&&◌, ltb, List, Option, None, Some, length, nat_lt, slice_index, if◌then◌else◌}
use Rattle.lists.specs.Range.{lowest}
use Rattle.colours.specs.Sets.{has}
use Rattle.calls.specs.Table.{has_word}
use Rattle.calls.specs.FrameChoice.{of_colour}
use Rattle.calls.specs.OnePass.{held_by, free_by}

-- a number of colours, at most 16: that of a board is itself
unfoldable pub as_count : ℕ → ℕ
as_count n = if nat_lt n 17 then n else 16

-- the key of a colour of which no frame can be taken
abbrev pub full_key : ℕ
full_key = 65535

-- by colour: sixteen times the count, and the colour, in 16 bits, where it is one of n, in the set, and has a free frame below m; else the number above
unfoldable pub key_of : ℕ → ℕ → ℕ → (ℕ → ℕ) → (ℕ → ℕ) → ℕ → ℕ
key_of n m c count free x = if nat_lt x n && (has c x && nat_lt (free x) m) then (16 * count x + x) % 65536 else full_key

-- arrays by colour: the lowest free frame by the lanes, for the colours of the set, and the keys
abbrev pub FreesBy : ℕ → ℕ → ℕ → List ℕ → List ℕ → Type 0
FreesBy n m c free frees = (x : ℕ) → x < n → has c x ≡ true → slice_index frees x ≡ free_by n m free x

abbrev pub KeysBy : ℕ → ℕ → ℕ → List ℕ → List ℕ → List ℕ → Type 0
KeysBy n m c held frees keys = (x : ℕ) → x < 16 → slice_index keys x ≡ key_of n m c (held_by n held) (λ (y : ℕ). slice_index frees y) x

-- one of sixteen numbers, and none is less
pub record LeastOf (key : ℕ → ℕ) (r : ℕ) : Type 0 where
  pub colour : ℕ
  pub below : colour < 16
  pub is : r ≡ key colour
  pub least : (y : ℕ) → y < 16 → r ≤ key y

abbrev pub LeastKey : List ℕ → ℕ → Type 0
LeastKey keys r = LeastOf (λ (x : ℕ). slice_index keys x) r

-- the lowest free frame of the colour with the least key, or none where no key is below that of a colour without a frame
pub record ByLeastKey (n m c : ℕ) (held free : List ℕ) (r : Option ℕ) : Type 0 where
  pub key : ℕ
  pub low : LeastOf (key_of n m c (held_by n held) (free_by n m free)) key
  pub is : r ≡ (if ltb key full_key then Some (free_by n m free (key % 16)) else None)

-- on a table: the lowest free frame of colour x, of n
abbrev pub lowest_in : List ℕ → ℕ → ℕ → ℕ
lowest_in t n x = lowest (of_colour n (has_word t 0) x) (length t)

-- the keys are words, and below that one
abbrev pub KeysFit : ℕ → ℕ → (ℕ → ℕ) → (ℕ → ℕ) → ℕ → Type 0
KeysFit n m count free c = (x : ℕ) → x < n → has c x ≡ true → free x < m → 16 * count x + x < full_key
