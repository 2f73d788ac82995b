-- A search by rounds, for any need and any supply. The two are given by what the code asks of each: the need in t, and the first microsecond in
-- which so much has been supplied.
use Rattle.std.specs.Prelude.{ℕ, ◌<◌, ◌≤◌, ◌≡◌, leb}
use Rattle.times.specs.FirstTime.{first_time}
use Rattle.times.specs.Rounds.{rounds}
use Rattle.admission.specs.Paper.{paper_found}
use Rattle.admission.specs.declared.search.Search.{Search}

-- a need that is never 0 and never falls, and a supply with a first microsecond for each amount, no earlier than as many as that
pub record Met (supplied needed first : ℕ → ℕ) : Type 0 where
  pub some : (t : ℕ) → 0 < needed t
  pub rises : (s t : ℕ) → s ≤ t → needed s ≤ needed t
  pub no_sooner : (x t : ℕ) → 0 < x → x ≤ supplied t → first x ≤ t
  pub from_then : (x t : ℕ) → 0 < x → first x ≤ t → x ≤ supplied t
  pub no_faster : (x : ℕ) → 0 < x → x ≤ first x

-- the search found the time by definition up to a bound, in the rounds by definition
pub record Searched (supplied needed : ℕ → ℕ) (due : ℕ) (search : Search) : Type 0 where
  pub found : paper_found search.found ≡ first_time (λ (t : ℕ). leb (needed t) (supplied t)) due
  pub counted : search.rounds ≡ rounds supplied needed due
