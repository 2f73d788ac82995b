-- The claims on every call: what is refused changes nothing, by the tests of a call; the rest from the files on rows and on fields below the count.
use Prim.Native.Nat.{ℕ}
use mathlib.Core.List.{List, []}
use mathlib.Core.Path.{◌≡◌, refl}
use Rattle.refusal.specs.Reply.{Reply, Answers, Refuses, Test}
use Rattle.board.specs.declared.Board.{Board}
use Rattle.calls.specs.Table.{State}
use Rattle.calls.specs.Calls.{Done, Outcome, settle, called, look, fault, release, colours, recolour, set_quota, triples}
use Rattle.calls.specs.TakeBack.{take_back}
use Rattle.admission.specs.Admission.{list_after, judged}
use Rattle.isolation.specs.DomainRule.{Call, Look, Fault, Release, Colours, Recolour, SetQuota, TakeBack, outcome, lent, told}
use Rattle.claims.specs.EveryCall.{EveryCallClaims}
use Rattle.claims.proofs.RefusedRows as row
use Rattle.claims.proofs.BelowCount.{Alike, alike_met, same_told, same_answers, same_judged, history_stays}

-- nothing moved, and the state is the one that the call got
abbrev NothingDone : State → Outcome → Type 0
NothingDone s o = (n r : ℕ) → o.reply ≡ Refuses n r → (o.next ≡ s) × (o.moves ≡ [])

settled : (s : State) (reply : Reply Done) → NothingDone s (settle s reply)
unfolding settle
settled s (Answers d) n r e = (cc, cc)
settled s (Refuses m q) n r e = (refl, refl)

under : (s : State) (d : ℕ) (own : List Test) (done : Done) → NothingDone s (called s d own done)
unfolding called
under s d own done = settled s _

refused : (s : State) (c : Call) → NothingDone s (outcome s c)
unfolding look fault release colours recolour set_quota take_back
refused s (Look d p) = under s d _ _
refused s (Fault d p) = under s d _ _
refused s (Release d p) = under s d _ _
refused s (Colours d) = under s d _ _
refused s (Recolour d c list) = under s d _ _
refused s (SetQuota d q) = under s d _ _
refused s (TakeBack d c list) = under s d _ _

refused_changes_nothing : (s : State) (c : Call) (n r : ℕ) → (outcome s c).reply ≡ Refuses n r → ((outcome s c).next ≡ s) × ((told s c).list ≡ lent c)
unfolding triples
refused_changes_nothing s c n r e = let z = refused s c n r e in (z.0, rw z.1)

left : (reply : Reply (Unit {0})) (numbers list : List ℕ) (n r : ℕ) → reply ≡ Refuses n r → list_after reply numbers list ≡ list
left (Answers a) numbers list n r e = cc
left (Refuses m q) numbers list n r e = refl

refused_plan_changes_nothing : (b : Board) (reload : ℕ) (vcpus tasks times rounds : List ℕ) (n r : ℕ) → (judged b reload vcpus tasks times rounds).reply ≡ Refuses n r
    → ((judged b reload vcpus tasks times rounds).times ≡ times) × ((judged b reload vcpus tasks times rounds).rounds ≡ rounds)
unfolding judged
refused_plan_changes_nothing b reload vcpus tasks times rounds n r e = (left _ _ times n r e, left _ _ rounds n r e)

pub every_call_claims : EveryCallClaims
every_call_claims =
    record {
      beyond_count_unread = λ s r k t c.
          let both : Alike s r = record { boards = k; tables = t } in
          let m = (alike_met s r both c).next in
          (same_told s r both c, m.tables, m.boards);
      beyond_count_untold = λ s r k t d h. same_answers d h s r (record { boards = k; tables = t });
      beyond_count_unplanned = same_judged;
      beyond_count_stays = λ s h d l. let z = history_stays h s in (z.active d l, z.quotas d l);
      grants_stay = λ s h. let z = history_stays h s in (z.grants, z.colours, z.frames, z.domains);
      refused_changes_nothing = refused_changes_nothing;
      refused_plan_changes_nothing = refused_plan_changes_nothing;
      call_row = row.call_row;
      admission_row = row.admission_row;
      cache_row = row.cache_row;
      layout_row = row.layout_row;
      bleach_row = row.bleach_row;
      verdict_row = row.verdict_row;
      extent_row = row.extent_row;
    }
