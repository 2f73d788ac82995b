-- Refusals 2 to 8, and 26 of document 02, No. 6, as lists of tests in their order: each test by its name, then those of a board, of a call's state,
-- and of a call.
use Rattle.std.specs.Prelude.{ℕ, Bool, not, ◌&&◌, ◌||◌, List, [], ◌∷◌, ◌++◌, eqb, ltb, get_or, replicate}
use Rattle.std.specs.Int.Bits.{bit_and}
use Rattle.limits.specs.Limits.{most_frames, most_quota}
use Rattle.lists.specs.Range.{upto, any_of}
use Rattle.refusal.specs.Reply.{Reply, Test, test, each, unless}
use Rattle.colours.specs.Cache.{count_test}
use Rattle.colours.specs.Sets.{is_colour_set}
use Rattle.board.specs.declared.Board.{Board}

-- a domain's grant, its active set and its quota
abbrev pub grant : Board → ℕ → ℕ
grant b d = get_or b.grants d 0

abbrev pub active_set : Board → ℕ → ℕ
active_set b d = get_or b.active d 0

abbrev pub quota : Board → ℕ → ℕ
quota b d = get_or b.quotas d 0

-- two sets have a bit in common
abbrev pub shares : ℕ → ℕ → Bool
shares s g = not (eqb (bit_and s g) 0)

-- a set is 0 or has a bit outside a grant
abbrev pub empty_or_outside : ℕ → ℕ → Bool
empty_or_outside g s = eqb s 0 || not (eqb (bit_and s g) s)

-- 3: F is 0 or above 4,096, or the table has another number of words
abbrev pub bad_frames : Board → ℕ → Bool
bad_frames b words = eqb b.frames 0 || (ltb most_frames b.frames || not (eqb words b.frames))

-- 4: the domain count is 0 or above 8
abbrev pub bad_domains : Board → Bool
bad_domains b = eqb b.domains 0 || ltb 8 b.domains

-- 5: a domain's grant is 0 or has a bit at N or above
abbrev pub bad_grant : Board → ℕ → Bool
bad_grant b d = not (is_colour_set b.colours (grant b d))

-- 6: it shares a bit with another's
abbrev pub shares_with_another : Board → ℕ → Bool
shares_with_another b d = any_of (λ (e : ℕ). not (eqb e d) && shares (grant b d) (grant b e)) (upto b.domains)

-- 7: a domain's active set is 0 or has a bit outside its grant
abbrev pub bad_active : Board → ℕ → Bool
bad_active b d = empty_or_outside (grant b d) (active_set b d)

-- the quotas that whoever fills a board in gives it: 4,096 at first
abbrev pub first_quotas : List ℕ
first_quotas = replicate 8 most_quota

-- 26: a quota is 0 or above 4,096; on a board, that of a domain below the count
abbrev pub no_quota : ℕ → Bool
no_quota q = eqb q 0 || ltb most_quota q

unfoldable pub bad_quotas : Board → Bool
bad_quotas b = any_of (λ (d : ℕ). no_quota (quota b d)) (upto b.domains)

abbrev pub quotas_test : Board → Test
quotas_test b = test 26 (bad_quotas b)

-- 8: the calling domain is not below the domain count
abbrev pub caller_test : Board → ℕ → Test
caller_test b d = test 8 (not (ltb d b.domains))

-- 5 to 7, for each domain below the count, the lowest first
unfoldable pub domain_tests : Board → List Test
domain_tests b = each b.domains 5 (bad_grant b) ++ (each b.domains 6 (shares_with_another b) ++ each b.domains 7 (bad_active b))

-- of a board, with a table of so many words: 2 to 7
unfoldable pub board_tests : Board → ℕ → List Test
board_tests b words = count_test b.colours ∷ test 3 (bad_frames b words) ∷ test 4 (bad_domains b) ∷ domain_tests b

-- of the state that a call gets: those of its board, then 26, which admission does not test
unfoldable pub state_tests : Board → ℕ → List Test
state_tests b words = board_tests b words ++ (quotas_test b ∷ [])

-- of a call: those of its state, then 8
unfoldable pub call_tests : Board → ℕ → ℕ → List Test
call_tests b words d = state_tests b words ++ (caller_test b d ∷ [])

-- the replies
unfoldable pub board_reply : Board → ℕ → Reply (Unit {0})
board_reply b words = unless (board_tests b words) tt

unfoldable pub state_reply : Board → ℕ → Reply (Unit {0})
state_reply b words = unless (state_tests b words) tt

unfoldable pub call_reply : Board → ℕ → ℕ → Reply (Unit {0})
call_reply b words d = unless (call_tests b words d) tt
