-- The claims on even use: the theorem and the laws of the choice from their own crates, and the twelve faults by computation.
use Prim.Native.Nat.{ℕ}
use mathlib.Core.Bool.{Bool, true, false, not, ◌&&◌}
use mathlib.Core.List.{List, [], ◌∷◌}
use mathlib.Core.Logic.{inl}
use mathlib.Core.Path.{◌≡◌, refl, sym, ◌∙◌}
use lib.Dec.{eqb, ltb, leb}
use lib.ListN.{replicate, get_or-replicate}
use borrow.Author.Tests.{eqb-true, ltb-true, not-true, not-false}
use Rattle.lists.specs.Range.{from, upto, keep, any_of, lowest_from, is_fewest, fewest}
use Rattle.lists.proofs.CaseSplits.{and_both}
use Rattle.lists.proofs.Searches.{any_none}
use Rattle.refusal.specs.Reply.{each, unless, passes}
use Rattle.colours.specs.Sets.{is_colour_set, has, consecutive}
use Rattle.colours.specs.Cache.{is_colour_count}
use Rattle.colours.proofs.Theorems.{consecutive_colours}
use Rattle.board.specs.Tests.{bad_quotas, domain_tests, board_tests, state_tests, call_tests}
use Rattle.calls.specs.Table.{State, state_of, frames_with, mapped_to, frees, frames_held}
use Rattle.calls.specs.FrameChoice.{in_colour, next_colour, next_frame, taken, choices}
use Rattle.calls.specs.Calls.{Move, settle, called, fault, release, pairs}
use Rattle.calls.proofs.ChoiceLaws.{First}
use Rattle.calls.proofs.NewFrame.{new_frame}
use Rattle.calls.proofs.Targets.{EachFirst, each_target_first}
use Rattle.isolation.specs.DomainRule.{Call, outcome, run, Accepted, Empty}
use Rattle.isolation.specs.EvenUse.{freed_or_moved, KeptAll, is_active, held_in}
use Rattle.isolation.proofs.EvenUse.{even_use}
use Rattle.claims.specs.EvenUse.{FewestFirst, OneByOne, six_colours, twelve_faults, EvenUseClaims}

accepted : Accepted six_colours
unfolding from keep each passes is_colour_set has is_colour_count domain_tests board_tests
accepted = refl

empty : Empty six_colours
empty f h = inl (get_or-replicate 32 f 0 0 h)

-- no call of a history, whosever it is, has released or recoloured
abbrev none_gone : State → List Call → Bool
none_gone s [] = true
none_gone s (c ∷ cs) = not (freed_or_moved (outcome s c).reply) && none_gone (outcome s c).next cs

so_kept : (d : ℕ) (s : State) (cs : List Call) → none_gone s cs ≡ true → KeptAll d s cs
so_kept d s [] e = tt
so_kept d s (c ∷ cs) e =
    let o = and_both (not (freed_or_moved (outcome s c).reply)) (none_gone (outcome s c).next cs) e in
    (λ own. not-true _ o.0, so_kept d (outcome s c).next cs o.1)

kept_all : KeptAll 0 six_colours twelve_faults
unfolding
    from keep lowest_from is_fewest fewest unless each is_colour_set has is_colour_count bad_quotas domain_tests board_tests state_tests call_tests
    frames_with mapped_to frees frames_held in_colour next_colour next_frame taken choices settle called fault release
kept_all = so_kept 0 six_colours twelve_faults refl

-- what the history leaves
abbrev left : State
left = state_of six_colours.board (1 ∷ 2 ∷ 3 ∷ 4 ∷ 5 ∷ 6 ∷ 4097 ∷ 0 ∷ 7 ∷ 8 ∷ 9 ∷ 10 ∷ 11 ∷ 12 ∷ replicate 18 0)

leaves : run six_colours twelve_faults ≡ left
unfolding
    from keep lowest_from is_fewest fewest unless each is_colour_set has is_colour_count bad_quotas domain_tests board_tests state_tests call_tests
    frames_with mapped_to frees frames_held in_colour next_colour next_frame taken choices settle called fault release run
leaves = refl

two_of_each : any_of (λ (x : ℕ). not (eqb (held_in left 0 x) 2)) (upto 6) ≡ false
unfolding from keep in_colour
two_of_each = refl

two_by_two : (x : ℕ) → is_active (run six_colours twelve_faults) 0 x ≡ true → held_in (run six_colours twelve_faults) 0 x ≡ 2
unfolding consecutive
two_by_two x e =
    let six : ltb x 6 ≡ true = (and_both (leb 0 x) (ltb x 6) (sym (consecutive_colours 0 6 x) ∙ rw leaves at e)).1 in
    rw leaves (eqb-true (held_in left 0 x) 2 (not-false _ (any_none (λ (y : ℕ). not (eqb (held_in left 0 y) 2)) 6 x two_of_each (ltb-true x 6 six))))

-- the rule, by the laws of the choice
by_the_rule : (s : State) (d c f : ℕ) → First s d c f → FewestFirst s d c f
by_the_rule s d c f r =
    record {
      below = r.choice.below;
      free = r.choice.free;
      inside = r.choice.inside;
      fewest = r.least;
      lowest_colour = r.lowest_colour;
      lowest_frame = r.lowest_frame;
    }

each_by_the_rule : (s : State) (d c : ℕ) (ms : List Move) → EachFirst s d c ms → OneByOne s d c ms
each_by_the_rule s d c [] r = tt
each_by_the_rule s d c (m ∷ ms) r = (by_the_rule s d c m.target r.0, r.1, each_by_the_rule _ d c ms r.2)

pub even_use_claims : EvenUseClaims
even_use_claims =
    record {
      fault_takes = λ s d p f e. by_the_rule s d _ f (new_frame s d p f e).0;
      recolouring_takes = λ s d c lent n e. each_by_the_rule s d c (pairs s d c) (each_target_first s d c lent n e);
      even_use = even_use;
      accepted = accepted;
      empty = empty;
      kept_all = kept_all;
      two_by_two = two_by_two;
    }
