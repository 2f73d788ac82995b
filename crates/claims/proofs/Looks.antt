-- The examples of the domain rule: its right side by computation, and with the rule its left side.
use Prim.Native.Nat.{ℕ}
use native.Mathlib.Omega.{arith}
use mathlib.Core.Bool.{Bool, false≢true}
use mathlib.Core.List.{List, [], ◌∷◌}
use mathlib.Core.Logic.{◌↔◌, inl}
use mathlib.Core.Path.{◌≡◌, refl, sym, ap, ◌∙◌}
use lib.ListN.{replicate, get_or-replicate}
use borrow.Author.Tests.{le-ltb}
use Rattle.lists.specs.Range.{from, keep, lowest_from, is_fewest, fewest}
use Rattle.refusal.specs.Reply.{Reply, each, unless, passes}
use Rattle.colours.specs.Sets.{is_colour_set, has}
use Rattle.colours.specs.Cache.{is_colour_count}
use Rattle.board.specs.Tests.{bad_quotas, domain_tests, board_tests, state_tests, call_tests}
use Rattle.calls.specs.Table.{State, state_of, frames_with, mapped_to, frees, frames_held, strays}
use Rattle.calls.specs.FrameChoice.{in_colour, next_colour, next_frame, taken, choices}
use Rattle.calls.specs.Calls.{Answer, settle, called, look, fault, release, colours, pair_up, insert_move, in_order, move_all, recolour, set_quota}
use Rattle.isolation.specs.DomainRule.{Call, run, own, Accepted, Empty}
use Rattle.isolation.proofs.Theorems.{the_domain_rule}
use Rattle.examples.specs.Example.{same_list, numbers}
use Rattle.examples.specs.Table.{recorder}
use Rattle.claims.specs.Looks.{LookAlike, ColoursAlike, MapsAlike, faulted, nothing, straight, roundabout, recoloured, allowed, LookClaims}

pub accepted : Accepted recorder
unfolding from keep each passes is_colour_set has is_colour_count domain_tests board_tests
accepted = refl

pub empty : Empty recorder
empty f h = inl (get_or-replicate 8 f 0 0 h)

-- whether a reply says so, as numbers
says : List ℕ → Reply Answer → Bool
says ns r = same_list ns (numbers r)

-- page 9 has frame 0
abbrev left : State
left = state_of recorder.board (10 ∷ replicate 7 0)

-- what the replays leave, by computation: page 9 is not unmapped, the set is not 3, and the quota is not 4,096; looking up a page of an empty map goes by the
-- page alone, and the two replays that agree leave one state
replays :
    (MapsAlike faulted nothing → ⊥) × ColoursAlike faulted nothing
    × (ColoursAlike recoloured nothing → ⊥) × MapsAlike recoloured nothing
    × (run recorder (own 0 straight) ≡ left) × (run recorder (own 0 roundabout) ≡ left)
    × (ColoursAlike allowed nothing → ⊥) × MapsAlike allowed nothing
unfolding
    from keep lowest_from is_fewest fewest unless each is_colour_set has is_colour_count bad_quotas domain_tests board_tests state_tests call_tests
    frames_with mapped_to frees frames_held strays in_colour next_colour next_frame taken choices
    settle called look fault release colours pair_up insert_move in_order move_all recolour set_quota run own says same_list numbers
replays = (
  λ same. false≢true (ap (says (2 ∷ [])) (same 9 (omega arith))),
  refl,
  λ same. false≢true (ap (says (6 ∷ 3 ∷ 4096 ∷ [])) same),
  λ p small. rw (le-ltb 4095 p small),
  refl,
  refl,
  λ same. false≢true (ap (says (6 ∷ 3 ∷ 4096 ∷ [])) same),
  λ p small. rw (le-ltb 4095 p small),
)

all_agree : ColoursAlike straight roundabout × MapsAlike straight roundabout
all_agree =
    let same = replays.4 ∙ sym replays.5 in
    (ap (λ s. (colours s 0).reply) same, λ p small. ap (λ s. (look s 0 p).reply) same)

-- the rule of two histories, to domain 0
rule : (h k : List Call) → LookAlike h k ↔ (ColoursAlike h k × MapsAlike h k)
rule = the_domain_rule recorder accepted empty 0 (omega arith)

pub look_claims : LookClaims
look_claims =
    record {
      accepted = accepted;
      empty = empty;
      maps_differ = replays.0;
      colours_agree = replays.1;
      do_not_look_alike = λ same. replays.0 ((rule faulted nothing).0 same).1;
      all_agree = all_agree;
      look_alike = (rule straight roundabout).1 all_agree;
      colours_differ = replays.2;
      maps_agree = replays.3;
      told_apart_by_colours = λ same. replays.2 ((rule recoloured nothing).0 same).0;
      quotas_differ = replays.6;
      maps_still_agree = replays.7;
      told_apart_by_quotas = λ same. replays.6 ((rule allowed nothing).0 same).0;
    }
