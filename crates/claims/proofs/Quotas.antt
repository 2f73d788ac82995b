-- The claims on quotas: the theorems from their own crates, the quota call by its tests, and the history by computation.
use Prim.Native.Nat.{ℕ}
use mathlib.Core.List.{List}
use mathlib.Core.Path.{◌≡◌, refl, ap, ◌∙◌}
use Rattle.lists.specs.Range.{from, keep, lowest_from, is_fewest, fewest}
use Rattle.refusal.specs.Reply.{Answers, each, unless}
use Rattle.colours.specs.Sets.{is_colour_set, has}
use Rattle.colours.specs.Cache.{is_colour_count}
use Rattle.board.specs.declared.Board.{Board}
use Rattle.board.specs.Tests.{quota, bad_quotas, domain_tests, board_tests, state_tests, call_tests}
use Rattle.calls.specs.Table.{State, frames_with, mapped_to, frees, frames_held}
use Rattle.calls.specs.FrameChoice.{in_colour, next_colour, next_frame, taken, choices}
use Rattle.calls.specs.Calls.{Quota, settle, called, fault, colours, with_quotas, set_quota}
use Rattle.calls.proofs.NewFrame.{new_frame}
use Rattle.calls.proofs.Quotas.{given, recolour_goes_on}
use Rattle.plan.specs.Tests.{row_tests, plan_tests}
use Rattle.admission.specs.Admission.{admission_reply}
use Rattle.isolation.specs.DomainRule.{run}
use Rattle.isolation.proofs.Quotas.{never_above_quota, others_quota_unseen}
use Rattle.isolation.proofs.RecolouringRoom.{room_to_recolour}
use Rattle.examples.specs.Table.{recorder, allotted}
use Rattle.claims.specs.Quotas.{QuotaClaims}

one_field :
    (s : State) (d q n : ℕ) → (set_quota s d q).reply ≡ Answers (Quota n)
    → let b = (set_quota s d q).next.board in
    (b ≡ with_quotas s.board b.quotas) × (quota b d ≡ q) × ((e : ℕ) → (e ≡ d → ⊥) → quota b e ≡ quota s.board e)
    × ((set_quota s d q).next.table ≡ s.table)
one_field s d q n e =
    let g = given s d q n e in
    rw g.next (refl, g.own, g.others, refl)

admission_ignores_quotas :
    (b : Board) (qs : List ℕ) (reload : ℕ) (vcpus tasks : List ℕ) (room : ℕ)
    → admission_reply (with_quotas b qs) reload vcpus tasks room ≡ admission_reply b reload vcpus tasks room
unfolding admission_reply board_tests domain_tests plan_tests row_tests
admission_ignores_quotas b qs reload vcpus tasks room = refl

comes_to_quota : (frames_held (run recorder allotted) 1 ≡ 2) × (quota (run recorder allotted).board 1 ≡ 2)
unfolding
    from keep lowest_from is_fewest fewest unless each is_colour_set has is_colour_count bad_quotas domain_tests board_tests state_tests call_tests
    frames_with mapped_to frees frames_held in_colour next_colour next_frame taken choices settle called fault set_quota run
comes_to_quota = (refl, refl)

pub quota_claims : QuotaClaims
quota_claims =
    record {
      never_above_quota = never_above_quota;
      others_quota_unseen = others_quota_unseen;
      room_to_recolour = room_to_recolour;
      quota_given = λ s d q n e. let g = given s d q n e in (g.asked, g.some, g.most, g.enough);
      one_field = one_field;
      told_by_colours = λ s d q n e. let g = given s d q n e in ap (λ (r : State). (colours r d).reply) g.next ∙ g.told;
      new_below_quota = λ s d p f e. (new_frame s d p f e).1;
      recolouring_goes_on = recolour_goes_on;
      admission_ignores_quotas = admission_ignores_quotas;
      comes_to_quota = comes_to_quota;
    }
