-- The number of colours, the colour of a frame and the cache set of an address: document 01, "Colours of the cache" and refusal 2.
use Rattle.std.specs.Prelude.{ℕ, ◌*◌, ◌/◌, ◌%◌, Bool, not, [], ◌∷◌, eqb}
use Rattle.lists.specs.Range.{any_of}
use Rattle.refusal.specs.Reply.{Reply, Test, test, unless}

-- only N = 1, 2, 4, 8 or 16 is taken
unfoldable pub is_colour_count : ℕ → Bool
is_colour_count n = any_of (eqb n) (1 ∷ 2 ∷ 4 ∷ 8 ∷ 16 ∷ [])

-- refusal 2: no such N
abbrev pub count_test : ℕ → Test
count_test n = test 2 (not (is_colour_count n))

-- a cache of b bytes in w ways has b / (w × 4,096) colours, where w is above 0 and the division exact
unfoldable pub cache_reply : ℕ → ℕ → Reply ℕ
cache_reply b w =
    unless (test 2 (eqb w 0) ∷ test 2 (not (eqb (b % (w * 4096)) 0)) ∷ count_test (b / (w * 4096)) ∷ [])
    (b / (w * 4096))

-- a frame's colour is its number modulo N
abbrev pub colour_of : ℕ → ℕ → ℕ
colour_of n f = f % n

-- the frame or page of byte address a: pages are 4,096 bytes
abbrev pub page_of : ℕ → ℕ
page_of a = a / 4096

-- the cache set of byte address a: lines are 64 bytes
abbrev pub cache_set : ℕ → ℕ → ℕ
cache_set n a = a / 64 % (64 * n)
