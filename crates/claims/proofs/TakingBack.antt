-- The claims on taking back: the theorems from their own crates, an accepted one by its tests, and the history by computation and by the theorem.
use Prim.Native.Nat.{ℕ}
use native.Mathlib.Omega.{arith}
use mathlib.Core.List.{List, [], ◌∷◌}
use mathlib.Core.Path.{◌≡◌, refl, ap, ◌∙◌}
use lib.ListN.{length}
use lib.Seq.{get_or-set_same, get_or-set_other}
use Rattle.lists.specs.Range.{from, keep, lowest_from, is_fewest, fewest}
use Rattle.refusal.specs.Reply.{Answers, Refuses, each, unless}
use Rattle.colours.specs.Sets.{is_colour_set, has}
use Rattle.colours.specs.Cache.{is_colour_count}
use Rattle.board.specs.Tests.{active_set, bad_quotas, domain_tests, board_tests, state_tests, call_tests}
use Rattle.calls.specs.Table.{State, frames_with, mapped_to, frees, frames_held, strays}
use Rattle.calls.specs.FrameChoice.{in_colour, next_colour, next_frame, taken, choices}
use Rattle.calls.specs.Calls.{Mapped, Moved, settle, called, look, fault, release, pair_up, insert_move, in_order, move_all, recolour, set_quota, triples}
use Rattle.calls.specs.TakeBack.{move_list, any_move, frames_named, twice, backward, take_back}
use Rattle.calls.proofs.RecolouringDone.{active_placed}
use Rattle.calls.proofs.FramesInside as inside
use Rattle.calls.proofs.Undoing.{undone}
use Rattle.calls.proofs.TakingBackDone.{took_back}
use Rattle.isolation.specs.DomainRule.{run, own}
use Rattle.isolation.specs.TakingBack.{wrote}
use Rattle.isolation.proofs.ActiveFrames.{held_in_active}
use Rattle.isolation.proofs.TakingBack.{taking_back_restores, taking_back_unseen, taking_back_at_once}
use Rattle.examples.specs.Table.{recorder, three_faults}
use Rattle.claims.specs.TakingBack.{before, room, done, others, released, back, TakingBackClaims}
use Rattle.claims.proofs.Looks.{accepted, empty}

goes :
    (done.reply ≡ Answers (Moved 1)) × (wrote done room 1 ≡ 1 ∷ 1 ∷ 4 ∷ []) × (own 0 others ≡ [])
    × ((look before 0 1).reply ≡ Answers (Mapped 1)) × ((look (run done.next others) 0 1).reply ≡ Answers (Mapped 4))
unfolding
    from keep lowest_from is_fewest fewest unless each is_colour_set has is_colour_count bad_quotas domain_tests board_tests state_tests call_tests
    frames_with mapped_to frees frames_held strays in_colour next_colour next_frame taken choices
    settle called look fault pair_up insert_move in_order move_all recolour set_quota triples run own
goes = (refl, refl, refl, refl, refl)

-- by the theorem, of the premises above
comes_back : ((back others).reply ≡ Answers (Moved 1)) × ((look (back others).next 0 1).reply ≡ Answers (Mapped 1))
comes_back =
    let r = taking_back_restores recorder accepted empty three_faults 0 0x1 room 1 goes.0 others goes.2 in
    (r.0, r.2 1 (omega arith) ∙ goes.3)

own_call_between : (back released).reply ≡ Refuses 31 0
unfolding
    from keep lowest_from is_fewest fewest unless each is_colour_set has is_colour_count bad_quotas domain_tests board_tests state_tests call_tests
    frames_with mapped_to frees frames_held strays in_colour next_colour next_frame taken choices
    settle called fault release pair_up insert_move in_order move_all recolour triples move_list any_move frames_named twice backward take_back run
own_call_between = refl

none_outside : (s : State) (d c : ℕ) (list : List ℕ) (n : ℕ) → (take_back s d c list).reply ≡ Answers (Moved n) → strays (take_back s d c list).next d c ≡ []
none_outside s d c list n e = let r = took_back s d c list n e in ap (λ (u : State). strays u d c) r.next ∙ r.none_outside

set_is_active : (s : State) (d c : ℕ) (list : List ℕ) (n : ℕ) → (take_back s d c list).reply ≡ Answers (Moved n)
    → let b = (take_back s d c list).next.board in
    (active_set b d ≡ c) × ((e : ℕ) → (e ≡ d → ⊥) → active_set b e ≡ active_set s.board e)
set_is_active s d c list n e =
    let r = took_back s d c list n e in
    let placed = active_placed s.board (length s.table) d r.fine.passed r.fine.caller in
    rw r.next (get_or-set_same s.board.active d c 0 placed, λ e other. get_or-set_other s.board.active d e c 0 other)

pub taking_back_claims : TakingBackClaims
taking_back_claims =
    record {
      taking_back_restores = taking_back_restores;
      taking_back_unseen = taking_back_unseen;
      taking_back_at_once = taking_back_at_once;
      held_in_active = held_in_active;
      recoloured_inside = inside.none_outside;
      undone = undone;
      a_third = λ s d c list n e. (took_back s d c list n e).words;
      none_outside = none_outside;
      set_is_active = set_is_active;
      goes = goes;
      comes_back = comes_back;
      own_call_between = own_call_between;
    }
