-- What holds after any history from an accepted board and an empty table, beside the domain rule: document 01, "Board and frame table" and
-- "Colours of the cache". With it the laws of the choice of a free frame, of any table, on which the rule stands.
use Rattle.std.specs.Prelude.{ℕ, ◌<◌, true, List, ◌≡◌, eqb}
use Rattle.lists.specs.Range.{any_of}
use Rattle.colours.specs.Cache.{colour_of, page_of, cache_set}
use Rattle.colours.specs.Sets.{has}
use Rattle.board.specs.Tests.{grant}
use Rattle.calls.specs.Table.{State, word, is_of, in_set}
use Rattle.calls.specs.FrameChoice.{choices}
use Rattle.isolation.specs.DomainRule.{Call, run, Accepted, Empty}
use Rattle.isolation.specs.Accounts.{OneFrameAPage, SameReserved}

pub record HistoryClaims : Type 0 where
  -- Reserved words never change, and no other word becomes one.
  pub reserved_stays :
      (start : State) → Accepted start → Empty start → (h : List Call) → SameReserved start (run start h)
  -- No page of a domain has two frames.
  pub one_frame_a_page :
      (start : State) → Accepted start → Empty start → (h : List Call)
      → (d : ℕ) → d < start.board.domains → OneFrameAPage d (run start h)
  -- Every held frame's colour is in its domain's grant.
  pub held_in_grant :
      (start : State) → Accepted start → Empty start → (h : List Call)
      → (d f : ℕ) → d < start.board.domains → f < start.board.frames → is_of d (word (run start h).table f) ≡ true
      → has (grant start.board d) (colour_of start.board.colours f) ≡ true
  -- No two domains' frames share a cache set: x and y are byte addresses in frames that d and e hold.
  pub no_shared_cache_set :
      (start : State) → Accepted start → Empty start → (h : List Call)
      → (d e x y : ℕ) → d < start.board.domains → e < start.board.domains
      → page_of x < start.board.frames → page_of y < start.board.frames
      → is_of d (word (run start h).table (page_of x)) ≡ true → is_of e (word (run start h).table (page_of y)) ≡ true
      → cache_set start.board.colours x ≡ cache_set start.board.colours y → d ≡ e
  -- Of any table and any board that has a colour: a frame chosen for a set is free and has a colour of it. And of any board and table: the choice depends
  -- on the frames of the set alone. Which of them is chosen first is said in `EvenUse`.
  pub chosen_is_free :
      (s : State) (d c f : ℕ) → 0 < s.board.colours → any_of (eqb f) (choices s d c) ≡ true
      → (f < s.board.frames) × (word s.table f ≡ 0) × (in_set s.board.colours c f ≡ true)
  pub choice_local :
      (s r : State) (d c : ℕ) → s.board.frames ≡ r.board.frames → s.board.colours ≡ r.board.colours
      → ((f : ℕ) → f < s.board.frames → in_set s.board.colours c f ≡ true → word s.table f ≡ word r.table f)
      → choices s d c ≡ choices r d c
