-- Even use of colours: document 02, No. 7. The rule by which a free frame is chosen; the theorem for a planner that follows, which
-- `isolation/specs/EvenUse.antt` states in one page; and a history of which it speaks, in which twelve frames of six colours stand two by two.
use Rattle.std.specs.Prelude.{ℕ, ◌<◌, ◌≤◌, true, false, List, [], ◌∷◌, ◌≡◌, replicate}
use Rattle.refusal.specs.Reply.{Answers}
use Rattle.colours.specs.Cache.{colour_of}
use Rattle.colours.specs.Sets.{has}
use Rattle.board.specs.Tests.{active_set, first_quotas}
use Rattle.calls.specs.Table.{State, state_of, word, in_set}
use Rattle.calls.specs.Calls.{New, Moved, Move, fault, pairs, move, recolour}
use Rattle.isolation.specs.DomainRule.{Call, Fault, Release, run, Accepted, Empty}
use Rattle.isolation.specs.EvenUse.{KeptAll, is_active, free_in, held_in, EvenUse}

-- Frame f is what domain d takes for set c: it is free and has a colour of the set. Of the colours of the set that have a free frame the domain holds in
-- none fewer than in this one, and in each lower one more; and no lower frame of this colour is free.
pub record FewestFirst (s : State) (d c f : ℕ) : Type 0 where
  pub below : f < s.board.frames
  pub free : word s.table f ≡ 0
  pub inside : in_set s.board.colours c f ≡ true
  pub fewest : (x : ℕ) → has c x ≡ true → 0 < free_in s x → held_in s d (colour_of s.board.colours f) ≤ held_in s d x
  pub lowest_colour :
      (x : ℕ) → has c x ≡ true → 0 < free_in s x → x < colour_of s.board.colours f
      → held_in s d (colour_of s.board.colours f) < held_in s d x
  pub lowest_frame : (g : ℕ) → word s.table g ≡ 0 → colour_of s.board.colours g ≡ colour_of s.board.colours f → f ≤ g

-- Each target of a list of moves is what the domain takes for the set, on the table that the moves before it leave; and what a move vacates is outside
-- the set.
abbrev pub OneByOne : State → ℕ → ℕ → List Move → Type 0
OneByOne s d c [] = Unit {0}
OneByOne s d c (m ∷ ms) =
    FewestFirst s d c m.target × (in_set s.board.colours c m.source ≡ false) × OneByOne (state_of s.board (move s.table m)) d c ms

-- N 8, F 32, an empty table of zeros; domain 0 has six colours and domain 1 the other two
abbrev pub six_colours : State
six_colours =
    record {
      board =
          record {
            colours = 8;
            frames = 32;
            domains = 2;
            grants = 0x3F ∷ 0xC0 ∷ 0 ∷ 0 ∷ 0 ∷ 0 ∷ 0 ∷ 0 ∷ [];
            active = 0x3F ∷ 0xC0 ∷ 0 ∷ 0 ∷ 0 ∷ 0 ∷ 0 ∷ 0 ∷ [];
            quotas = first_quotas;
          };
      table = replicate 32 0;
    }

-- twelve pages of domain 0 get frames, with one for domain 1 and a release that is refused, of a page without a frame
abbrev pub twelve_faults : List Call
twelve_faults =
    Fault 0 0
    ∷ Fault 0 1
    ∷ Fault 0 2
    ∷ Fault 0 3
    ∷ Fault 1 0
    ∷ Fault 0 4
    ∷ Fault 0 5
    ∷ Fault 0 6
    ∷ Fault 0 7
    ∷ Release 0 11
    ∷ Fault 0 8
    ∷ Fault 0 9
    ∷ Fault 0 10
    ∷ Fault 0 11
    ∷ []

pub record EvenUseClaims : Type 0 where
  -- Of any board and table: a fault that gives a page a frame takes it by the rule, for the active set. A recolouring takes its targets by it one by one,
  -- for the new set, counting those already moved; frames that it vacates are none of them. These are its moves before they are put in order.
  pub fault_takes : (s : State) (d p f : ℕ) → (fault s d p).reply ≡ Answers (New f) → FewestFirst s d (active_set s.board d) f
  pub recolouring_takes : (s : State) (d c : ℕ) (lent : List ℕ) (n : ℕ) → (recolour s d c lent).reply ≡ Answers (Moved n) → OneByOne s d c (pairs s d c)
  -- In a history in which a domain has neither released nor recoloured it holds at most one frame more in one active colour than in another that still
  -- has a free frame.
  pub even_use : EvenUse
  -- The theorem speaks of something: there is a start, and a history in which domain 0 has neither released nor recoloured. It holds two frames of each
  -- of its colours.
  pub accepted : Accepted six_colours
  pub empty : Empty six_colours
  pub kept_all : KeptAll 0 six_colours twelve_faults
  pub two_by_two :
      (x : ℕ) → is_active (run six_colours twelve_faults) 0 x ≡ true → held_in (run six_colours twelve_faults) 0 x ≡ 2
