-- What holds after any history from an accepted board and an empty table, beside the domain rule: document 01, "Board and frame table"
-- and "Colours of the cache".
use Prim.Native.Nat.{ℕ, ◌<◌}
use mathlib.Core.Bool.{true}
use mathlib.Core.List.{List}
use mathlib.Core.Path.{◌≡◌}
use Rattle.colours.specs.Cache.{colour_of, page_of, cache_set}
use Rattle.colours.proofs.Theorems.{one_set_one_colour}
use Rattle.colours.specs.Sets.{has}
use Rattle.board.specs.declared.Board.{Board}
use Rattle.board.specs.Tests.{grant}
use Rattle.calls.specs.Table.{State, word, is_of}
use Rattle.isolation.specs.DomainRule.{Call, run, Accepted, Empty, DomainRule}
use Rattle.isolation.specs.Accounts.{OneFrameAPage, SameReserved}
use Rattle.isolation.proofs.AcceptedBoard.{live}
use Rattle.isolation.proofs.Invariant.{Inv, Good, good, invariant, known}
use Rattle.isolation.proofs.CallSearches.{word_page, own_frame}
use Rattle.isolation.proofs.Rule.{start_good, history_good, domain_rule}

-- Demand 3.
pub the_domain_rule : DomainRule
the_domain_rule = domain_rule

-- the frames are those of the start
unique_pages : {b : Board} {t₀ : List ℕ} {s : State} → Good b t₀ s → (d : ℕ) → d < b.domains → OneFrameAPage d s
unique_pages (good inv) d below p f g small low = inv.unique d p f g below small low

module _ (start : State) (ok : Accepted start) (empty : Empty start) (h : List Call) where
  after : Inv start.board start.table (live (run start h))
  after = invariant (history_good start (start_good start ok empty) h)

  -- Reserved words never change, and no other word becomes one.
  pub reserved_stays : SameReserved start (run start h)
  reserved_stays f low = let r = after.reserved f low in (r.1, r.0)

  -- No page of a domain has two frames.
  pub one_frame_a_page : (d : ℕ) → d < start.board.domains → OneFrameAPage d (run start h)
  one_frame_a_page d below = unique_pages (history_good start (start_good start ok empty) h) d below

  -- Every held frame's colour is in its domain's grant.
  pub held_in_grant :
      (d f : ℕ) → d < start.board.domains → f < start.board.frames → is_of d (word (run start h).table f) ≡ true
      → has (grant start.board d) (colour_of start.board.colours f) ≡ true
  held_in_grant d f below low e = (own_frame after below f low (word_page d (word (run start h).table f) e)).own

  -- No two domains' frames share a cache set, so no guest can evict another's line: x and y are byte addresses in frames that d and e hold.
  pub no_shared_cache_set :
      (d e x y : ℕ) → d < start.board.domains → e < start.board.domains
      → page_of x < start.board.frames → page_of y < start.board.frames
      → is_of d (word (run start h).table (page_of x)) ≡ true → is_of e (word (run start h).table (page_of y)) ≡ true
      → cache_set start.board.colours x ≡ cache_set start.board.colours y → d ≡ e
  no_shared_cache_set d e x y hd he fx fy px py q =
      let one = one_set_one_colour start.board.colours x y (known after).coloured q in
      (known after).disjoint d e (colour_of start.board.colours (page_of x)) hd he (held_in_grant d (page_of x) hd fx px)
      (rw one (held_in_grant e (page_of y) he fy py))
