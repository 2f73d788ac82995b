-- The part of a state that calls change, and what an accepted board has: its table's length and its domain count, grants that share no
-- colour, active sets inside their grants. And which other active sets and quotas leave it accepted.
use Prim.Native.Nat.{ℕ, ◌<◌, ◌≤◌}
use mathlib.Core.Bool.{true, false}
use mathlib.Core.List.{List}
use mathlib.Core.Path.{◌≡◌, sym}
use lib.Bits.{bit_and}
use lib.Dec.{eqb}
use lib.ListN.{length, get_or, set}
use borrow.Author.Tests.{eqb-true, not-false}
use Rattle.lists.proofs.CaseSplits.{cases, neither}
use Rattle.lists.proofs.Searches.{any_none}
use Rattle.colours.specs.Sets.{has}
use Rattle.colours.proofs.Ranges.{count_range}
use Rattle.colours.proofs.CommonColours.{inside_has, apart_has}
use Rattle.board.specs.declared.Board.{Board}
use Rattle.board.specs.Tests.{grant, empty_or_outside}
use Rattle.board.proofs.PassedTests.{Passed, split, join, sized}
use Rattle.calls.specs.Table.{State, state_of}
use Rattle.calls.proofs.RecolouringDone.{active_placed, active_still}
use Rattle.isolation.specs.DomainRule.{Accepted}

-- What calls change of a state: the active sets and the quotas of its board, and its table. The rest of the board is as at the start, after any
-- history. Whatever else a call comes to change is one field more here, and in what a domain sees (Agree).
pub record Live : Type 0 where
  pub active : List ℕ
  pub quotas : List ℕ
  pub table : List ℕ

abbrev pub live : State → Live
live s = record { active = s.board.active; quotas = s.board.quotas; table = s.table }

-- the state that has it, on board b
abbrev pub at : Board → Live → State
at b x =
    state_of (record {
      colours = b.colours;
      frames = b.frames;
      domains = b.domains;
      grants = b.grants;
      active = x.active;
      quotas = x.quotas;
    })
    x.table

-- with another table, with another active set of domain d, and with another quota
abbrev pub with_table : Live → List ℕ → Live
with_table x t = record { active = x.active; quotas = x.quotas; table = t }

abbrev pub with_set : Live → ℕ → ℕ → Live
with_set x d c = record { active = set x.active d c; quotas = x.quotas; table = x.table }

abbrev pub with_limit : Live → ℕ → ℕ → Live
with_limit x d q = record { active = x.active; quotas = set x.quotas d q; table = x.table }

-- the active set of domain d, and its quota
abbrev pub set_of : Live → ℕ → ℕ
set_of x d = get_or x.active d 0

abbrev pub limit_of : Live → ℕ → ℕ
limit_of x d = get_or x.quotas d 0

-- a set lies inside the grant of domain d
abbrev pub Inside : Board → ℕ → ℕ → Type 0
Inside b d s = (c : ℕ) → has s c ≡ true → has (grant b d) c ≡ true

-- what an accepted board has
pub record Facts (b : Board) (x : Live) : Type 0 where
  pub coloured : 0 < b.colours
  pub long : length x.table ≡ b.frames
  pub few : b.domains ≤ 8
  pub disjoint : (d e c : ℕ) → d < b.domains → e < b.domains → has (grant b d) c ≡ true → has (grant b e) c ≡ true → d ≡ e
  pub inside : (d : ℕ) → d < b.domains → Inside b d (set_of x d)
  -- a domain below the count has its place in the list of active sets
  pub placed : (d : ℕ) → d < b.domains → d < length x.active

-- a set that is not refused lies inside the grant
pub set_inside : (b : Board) (d s : ℕ) → empty_or_outside (grant b d) s ≡ false → Inside b d s
set_inside b d s f c h =
    inside_has s (grant b d) c (eqb-true _ _ (not-false (eqb (bit_and s (grant b d)) s) (neither (eqb s 0) _ f).1)) h

module _ (b : Board) (x : Live) (ok : Accepted (at b x)) where
  passed : Passed (at b x).board (length x.table)
  passed = split (at b x).board (length x.table) ok

  -- of two domains whose grants have one colour
  grants_apart : (d e c : ℕ) → d < b.domains → e < b.domains → has (grant b d) c ≡ true → has (grant b e) c ≡ true → d ≡ e
  grants_apart d e c hd he kd ke =
      cases (eqb e d)
      (λ q. sym (eqb-true e d q))
      (λ q.
      let none = any_none _ b.domains e (passed.shared d hd) he in
      let zero = eqb-true _ _ (not-false (eqb (bit_and (grant b d) (grant b e)) 0) (rw q at none)) in
      absurd (apart_has (grant b d) (grant b e) c zero kd ke))

  pub facts : Facts b x
  facts =
      let z = sized (at b x).board (length x.table) passed in
      record {
        coloured = (count_range b.colours passed.count).0;
        long = z.long;
        few = z.few;
        disjoint = grants_apart;
        inside = λ d h. set_inside b d (set_of x d) (passed.actives d h);
        placed = λ d h. active_placed (at b x).board (length x.table) d passed h;
      }

  -- it stays accepted with another set of a domain that is not refused
  pub still : (d c : ℕ) → d < b.domains → empty_or_outside (grant b d) c ≡ false → Accepted (at b (with_set x d c))
  still d c h fine = join (at b (with_set x d c)).board (length x.table) (active_still (at b x).board (length x.table) d passed h c fine)
