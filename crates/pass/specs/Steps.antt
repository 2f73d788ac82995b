-- What the code works out on its way: how much of a table it reads, which word of a block matters, and what it knows at the start of one; and the
-- counts of a table for a quota and for a recolouring.
use Rattle.std.specs.Prelude.{ℕ, ◌+◌, ◌%◌, ◌≤◌, Bool, ◌&&◌, ◌||◌, List, ◌≡◌, eqb, ltb, length, get_or, take, if◌then◌else◌}
use Rattle.limits.specs.Limits.{most_frames}
use Rattle.lists.specs.Range.{upto, keep}
use Rattle.tally.specs.Tally.{is_own, zeros, LanesAtMost, count_all}
use Rattle.pass.specs.declared.lanes.Surveyed.{Surveyed}

-- no table has more words than the most frames, so that those beyond are not read
abbrev pub read : List ℕ → List ℕ
read t = take most_frames t

unfoldable pub at_most : ℕ → ℕ → ℕ
at_most m n = if ltb n m then n else m

-- word i of a block is w, or is that of a free frame whose lane has none yet
abbrev pub matters : List ℕ → ℕ → List ℕ → ℕ → Bool
matters xs w free i = eqb (get_or xs i 0) w || (eqb (get_or xs i 0) 0 && eqb (get_or free i 0) 0)

-- a block of so many words is about to be taken in, after so many words
pub record AtBlock (taken filled : ℕ) : Type 0 where
  pub aligned : taken % 16 ≡ 0
  pub few : filled ≤ 16
  pub counted : taken + filled ≤ most_frames

-- sixteen lanes that have counted no more words than a table has
pub record LanesFit (lanes : List ℕ) : Type 0 where
  pub size : 16 ≡ length lanes
  pub room : LanesAtMost most_frames lanes

-- how many words are those of the domain with this first word
unfoldable pub own_in : ℕ → List ℕ → ℕ
own_in first t = length (keep (λ (f : ℕ). is_own first (get_or t f 0)) (upto (length t)))

-- word x is that of a free frame, and free frames are counted
abbrev pub is_free : Bool → ℕ → Bool
is_free counted x = counted && eqb 0 x

-- by lane, the frames that the domain with this first word holds, and the free frames where they are counted
unfoldable pub lanes_of : Bool → ℕ → List ℕ → Surveyed
lanes_of counted first t = record { held = count_all (is_own first) zeros 0 t; free = count_all (is_free counted) zeros 0 t }

-- by lane, the frames that the domain with this first word holds, and the free frames
unfoldable pub survey_of : ℕ → List ℕ → Surveyed
survey_of first t = record { held = count_all (is_own first) zeros 0 t; free = count_all (eqb 0) zeros 0 t }
