-- Colour sets as the code tests them: the colour of a frame by a mask, and by lane how many words of a domain are those of strays.
use Rattle.std.specs.Prelude.{◌≡◌, ℕ, ◌+◌, ◌-◌, ◌%◌, ◌<◌, Bool, List, length, bit_and, slice_index, if◌then◌else◌}
use Rattle.limits.specs.Limits.{pages}
use Rattle.lists.specs.Range.{lowest_from}
use Rattle.colours.specs.Sets.{has}
use Rattle.table_words.specs.Words.{among}

-- one less, in 64 bits
abbrev pub one_less : ℕ → ℕ
one_less n = (n + 18446744073709551615) % 18446744073709551616

-- the bit of set c that the mask of n colours gives frame f
unfoldable pub masked_in : ℕ → ℕ → ℕ → Bool
masked_in n c f = has c (bit_and f (one_less n) % 32)

-- how many words from a domain's first one on are those of strays of a lane: none where its colour is in the set, else all
abbrev pub limit_of : ℕ → ℕ → ℕ → ℕ
limit_of n c lane = if masked_in n c lane then 0 else pages

abbrev pub LimitsBy : ℕ → ℕ → List ℕ → Type 0
LimitsBy n c limits = (i : ℕ) → i < 16 → slice_index limits i ≡ limit_of n c i

-- the word of frame f is among those of strays, by the limit of its lane
abbrev pub stray_by : List ℕ → ℕ → List ℕ → ℕ → Bool
stray_by t first limits f = among first (slice_index limits (f % 16)) (slice_index t f)

-- the lowest such frame from v on, or the end of the frames that lie there
abbrev pub next_stray : List ℕ → ℕ → List ℕ → ℕ → ℕ
next_stray t first limits v = lowest_from (stray_by t first limits) v (v + (length t - v))
