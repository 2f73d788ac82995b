-- What it means that 2 to 8 and 26 pass: the lists of tests taken apart and put together, and the bounds that each test leaves. Whoever relies
-- on them cites this file and no list.
use Prim.Native.Nat.{ℕ, ◌<◌, ◌≤◌}
use native.Mathlib.Nat.{pos_of_ne-zero}
use mathlib.Core.Bool.{true, false}
use mathlib.Core.List.{List, [], ◌∷◌, ◌++◌}
use mathlib.Core.Path.{◌≡◌}
use lib.Dec.{eqb, ltb}
use lib.ListN.{length, get_or, get_or-eq_default}
use borrow.Author.Tests.{ltb-true, ltb-false, eqb-true, eqb-false, not-false}
use Rattle.limits.specs.Limits.{most_frames, most_quota}
use Rattle.lists.proofs.CaseSplits.{below_or_not, neither}
use Rattle.lists.proofs.Searches.{any_none, none_any}
use Rattle.refusal.specs.Reply.{Answers, Test, test, each, passes}
use Rattle.refusal.proofs.Replies.{passed_first, answers_passed}
use Rattle.refusal.proofs.Order.{passed_earlier, passed_later, passed_both, each_passed, each_passes}
use Rattle.colours.specs.Cache.{is_colour_count, count_test}
use Rattle.board.specs.declared.Board.{Board}
use Rattle.board.specs.Tests.{bad_frames, bad_domains, bad_grant, shares_with_another, bad_active, quota, no_quota, bad_quotas, quotas_test, caller_test, domain_tests, board_tests, state_tests, call_tests, call_reply}

-- 2 to 7, test by test
pub record Passed (b : Board) (words : ℕ) : Type 0 where
  pub count : is_colour_count b.colours ≡ true
  pub frames : bad_frames b words ≡ false
  pub domains : bad_domains b ≡ false
  pub grants : (d : ℕ) → d < b.domains → bad_grant b d ≡ false
  pub shared : (d : ℕ) → d < b.domains → shares_with_another b d ≡ false
  pub actives : (d : ℕ) → d < b.domains → bad_active b d ≡ false

module _ (b : Board) where
  abbrev five : List Test
  five = each b.domains 5 (bad_grant b)

  abbrev six : List Test
  six = each b.domains 6 (shares_with_another b)

  abbrev seven : List Test
  seven = each b.domains 7 (bad_active b)

  pub split : (words : ℕ) → passes (board_tests b words) ≡ true → Passed b words
  unfolding board_tests domain_tests
  split words e =
      let two = passed_first (count_test b.colours) _ e in
      let three = passed_first (test 3 (bad_frames b words)) _ two.1 in
      let four = passed_first (test 4 (bad_domains b)) _ three.1 in
      let later = passed_later five (six ++ seven) four.1 in
      record {
        count = not-false _ two.0;
        frames = three.0;
        domains = four.0;
        grants = each_passed 5 (bad_grant b) b.domains (passed_earlier five (six ++ seven) four.1);
        shared = each_passed 6 (shares_with_another b) b.domains (passed_earlier six seven later);
        actives = each_passed 7 (bad_active b) b.domains (passed_later six seven later);
      }

  pub join : (words : ℕ) → Passed b words → passes (board_tests b words) ≡ true
  unfolding board_tests domain_tests passes
  join words p =
      let n : ℕ = b.domains in
      let later = passed_both six seven (each_passes 6 (shares_with_another b) n p.shared) (each_passes 7 (bad_active b) n p.actives) in
      rw (p.count, p.frames, p.domains) (passed_both five (six ++ seven) (each_passes 5 (bad_grant b) n p.grants) later)

-- the bounds that 3 and 4 leave
pub record Sized (b : Board) (words : ℕ) : Type 0 where
  pub some : 0 < b.frames
  pub most : b.frames ≤ most_frames
  pub long : words ≡ b.frames
  pub few : b.domains ≤ 8

pub sized : (b : Board) (words : ℕ) → Passed b words → Sized b words
sized b words p =
    let frames = neither (eqb b.frames 0) _ p.frames in
    let table = neither (ltb most_frames b.frames) _ frames.1 in
    record {
      some = pos_of_ne-zero (eqb-false _ _ frames.0);
      most = ltb-false _ _ table.0;
      long = eqb-true _ _ (not-false _ table.1);
      few = ltb-false _ _ (neither (eqb b.domains 0) _ p.domains).1;
    }

-- the caller is below the count
pub caller_below : (b : Board) (d : ℕ) → (caller_test b d).fails ≡ false → d < b.domains
caller_below b d e = ltb-true _ _ (not-false _ e)

-- 26, domain by domain
pub quotas_split : (b : Board) → bad_quotas b ≡ false → (d : ℕ) → d < b.domains → no_quota (quota b d) ≡ false
unfolding bad_quotas
quotas_split b e d l = any_none (λ (d : ℕ). no_quota (quota b d)) b.domains d e l

pub quotas_join : (b : Board) → ((d : ℕ) → d < b.domains → no_quota (quota b d) ≡ false) → bad_quotas b ≡ false
unfolding bad_quotas
quotas_join b each = none_any (λ (d : ℕ). no_quota (quota b d)) b.domains each

pub quota_range : (q : ℕ) → no_quota q ≡ false → (0 < q) × (q ≤ most_quota)
quota_range q e =
    let n = neither (eqb q 0) (ltb most_quota q) e in
    (pos_of_ne-zero (eqb-false _ _ n.0), ltb-false _ _ n.1)

-- a domain whose quota is one has its place in the list
pub quota_placed : (qs : List ℕ) (d : ℕ) → no_quota (get_or qs d 0) ≡ false → d < length qs
quota_placed qs d e =
    below_or_not d (length qs) (λ l. l)
    (λ l. absurd (eqb-false (get_or qs d 0) 0 (neither _ _ e).0 (get_or-eq_default qs 0 l)))

-- of a state: 2 to 7, and 26
pub state_split : (b : Board) (words : ℕ) → passes (state_tests b words) ≡ true → (passes (board_tests b words) ≡ true) × (bad_quotas b ≡ false)
unfolding state_tests
state_split b words e =
    let last = passed_later (board_tests b words) (quotas_test b ∷ []) e in
    (passed_earlier (board_tests b words) (quotas_test b ∷ []) e, (passed_first (quotas_test b) [] last).0)

pub state_join : (b : Board) (words : ℕ) → passes (board_tests b words) ≡ true → bad_quotas b ≡ false → passes (state_tests b words) ≡ true
unfolding state_tests passes
state_join b words p q = passed_both (board_tests b words) (quotas_test b ∷ []) p (rw q)

-- a call whose 2 to 7, 26 and 8 pass
pub record CallAccepted (b : Board) (words d : ℕ) : Type 0 where
  pub passed : Passed b words
  pub bounds : Sized b words
  pub quotas : bad_quotas b ≡ false
  pub caller : d < b.domains

pub accepted : (b : Board) (words d : ℕ) → call_reply b words d ≡ Answers tt → CallAccepted b words d
unfolding call_reply call_tests
accepted b words d e =
    let all = (answers_passed (call_tests b words d) tt tt e).0 in
    let state = state_split b words (passed_earlier (state_tests b words) (caller_test b d ∷ []) all) in
    let p = split b words state.0 in
    let eight = passed_first (caller_test b d) [] (passed_later (state_tests b words) (caller_test b d ∷ []) all) in
    record { passed = p; bounds = sized b words p; quotas = state.1; caller = caller_below b d eight.0 }
