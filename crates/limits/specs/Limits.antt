-- The limits of the frame table: document 01, "Board and frame table". Each number has one name.
use Rattle.std.specs.Prelude.{ℕ}

-- the most frames that a table has
abbrev pub most_frames : ℕ
most_frames = 4096

-- the largest quota of a domain
abbrev pub most_quota : ℕ
most_quota = 4096

-- the pages of a domain, 0 to the last one; each has a word, one after the other
abbrev pub pages : ℕ
pages = 4096

abbrev pub last_page : ℕ
last_page = 4095

-- the highest first word from which on a domain has room for the words of all its pages
abbrev pub last_first : ℕ
last_first = 61440
