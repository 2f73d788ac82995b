-- The boards and histories of the instances, with the premises that they meet, by computation: eight domains of a colour each, with a reserved frame; and
-- document 01's example board.
use Prim.Native.Nat.{ℕ, zero, suc}
use mathlib.Core.List.{List, [], ◌∷◌}
use mathlib.Core.Logic.{inl, inr}
use mathlib.Core.Path.{refl}
use lib.ListN.{replicate, get_or-replicate}
use native.Mathlib.Omega.{arith}
use Rattle.lists.specs.Range.{from, keep}
use Rattle.refusal.specs.Reply.{each, passes}
use Rattle.colours.specs.Sets.{is_colour_set, has}
use Rattle.colours.specs.Cache.{is_colour_count}
use Rattle.board.specs.Tests.{first_quotas, domain_tests, board_tests}
use Rattle.calls.specs.Table.{State}
use Rattle.isolation.specs.DomainRule.{Call, Fault, SetQuota, Accepted, Empty}
use Rattle.examples.specs.Table.{recorder}

-- N 8, F 16, frame 0 reserved; domain d has colour d
abbrev pub eight_sets : List ℕ
eight_sets = 1 ∷ 2 ∷ 4 ∷ 8 ∷ 16 ∷ 32 ∷ 64 ∷ 128 ∷ []

abbrev pub eight : State
eight =
    record {
      board = record { colours = 8; frames = 16; domains = 8; grants = eight_sets; active = eight_sets; quotas = first_quotas };
      table = 65535 ∷ replicate 15 0;
    }

pub eight_accepted : Accepted eight
unfolding from keep each passes is_colour_set has is_colour_count domain_tests board_tests
eight_accepted = refl

pub eight_empty : Empty eight
eight_empty zero h = inr refl
eight_empty (suc f) h = inl (get_or-replicate 15 f 0 0 (omega arith))

pub recorder_accepted : Accepted recorder
unfolding from keep each passes is_colour_set has is_colour_count domain_tests board_tests
recorder_accepted = refl

pub recorder_empty : Empty recorder
recorder_empty f h = inl (get_or-replicate 8 f 0 0 h)

-- domain 7 gets a frame for page 9, before and after calls of others
abbrev pub early : List Call
early = Fault 7 9 ∷ Fault 3 1 ∷ []

abbrev pub later : List Call
later = Fault 2 5 ∷ SetQuota 3 1 ∷ Fault 7 9 ∷ []

abbrev pub alone : List Call
alone = Fault 7 9 ∷ []
