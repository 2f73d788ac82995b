-- The domain rule: the start has the invariant, every call keeps it, own calls go by what the domain sees and others leave that alone, and
-- colours and look tell all of it; on a board that 26 refuses nothing ever changes. Unwinding gives the rule.
use Prim.Native.Nat.{ℕ, ◌<◌}
use native.Mathlib.Omega.{arith}
use mathlib.Core.Bool.{Bool, true, false}
use mathlib.Core.List.{List, [], ◌∷◌}
use mathlib.Core.Logic.{◌⊎◌, inl, inr, ⊎_elim, ◌↔◌}
use mathlib.Core.Path.{◌≡◌, refl, sym, ap, ◌∙◌}
use lib.Dec.{eqb}
use borrow.Author.Tests.{eqb-true, eqb-false, eq-eqb}
use Rattle.lists.proofs.CaseSplits.{cases}
use Rattle.board.specs.declared.Board.{Board}
use Rattle.board.specs.Tests.{bad_quotas}
use Rattle.calls.specs.Table.{State, word, is_held}
use Rattle.isolation.specs.DomainRule.{Call, Look, Colours, names, outcome, run, own, Told, told, answers}
use Rattle.isolation.specs.DomainRule.{LookTheSame, SameColours, SameMap, Accepted, Empty, DomainRule}
use Rattle.isolation.proofs.Unwinding.{runs, owns, heard, meet, alike, rule}
use Rattle.isolation.proofs.AcceptedBoard.{live, facts}
use Rattle.isolation.proofs.Invariant.{free, reserved, Good, good, invariant, not_reserved}
use Rattle.isolation.proofs.DomainView.{Agree, agree_self, agree_back, agree_on}
use Rattle.isolation.proofs.CallSearches.{word_page}
use Rattle.isolation.proofs.InvariantPreservation.{call_keeps}
use Rattle.isolation.proofs.OwnCalls.{call_meets}
use Rattle.isolation.proofs.RevealedState.{reveals}
use Rattle.isolation.proofs.IdleBoard.{Still, still_own, still_other, still_left, still_shown}

abbrev pub step : State → Call → State
step s c = (outcome s c).next

abbrev pub names_it : ℕ → Call → Bool
names_it d c = eqb (names c) d

-- a word of an empty table, whichever of its two is named first
pub empty_word : (s : State) → Empty s → (f : ℕ) → f < s.board.frames → (word s.table f ≡ 0) ⊎ (word s.table f ≡ 65535)
empty_word s empty f h = ⊎_elim (λ e. search (inl, inr)) (λ e. search (inl, inr)) (empty f h)

-- the start has the invariant
pub start_good : (s : State) → Accepted s → Empty s → Good s.board s.table s
start_good s ok empty =
    let few = (facts s.board (live s) ok).few in
    good {x = live s} (record {
      accepted = ok;
      quotas = refl;
      lawful = λ f h. ⊎_elim free reserved (empty_word s empty f h);
      unique = λ d p f g below small hf hg q r. absurd (⊎_elim (λ z. omega arith) (λ z. omega arith) (empty_word s empty f hf));
      reserved = λ f h. (λ e. e, λ e. e);
    })

-- no frame of an empty table is held
pub none_held : (s : State) → Accepted s → Empty s → (d : ℕ) → d < s.board.domains → (f : ℕ) → f < s.board.frames → is_held s.table d f ≡ false
none_held s ok empty d below f l =
    cases (is_held s.table d f)
    (λ e.
    let w = word_page d (word s.table f) e in
    absurd (⊎_elim (λ z. omega arith) (not_reserved (invariant (start_good s ok empty)) below w) (empty_word s empty f l)))
    (λ e. e)

-- every state of a history from the start has the invariant
pub history_good : {b : Board} {t₀ : List ℕ} (s : State) → Good b t₀ s → (h : List Call) → Good b t₀ (run s h)
unfolding run
history_good s g [] = g
history_good s g (c ∷ cs) = history_good (step s c) (call_keeps g c).good_next cs

-- the statement's own definitions are those of the unwinding
run_is : (s : State) (h : List Call) → runs step s h ≡ run s h
unfolding run runs
run_is s [] = refl
run_is s (c ∷ cs) = run_is (step s c) cs

own_is : (d : ℕ) (h : List Call) → owns (names_it d) h ≡ own d h
unfolding own owns
own_is d [] = refl
own_is d (c ∷ cs) = rw (own_is d cs)

heard_is : (d : ℕ) (s : State) (h : List Call) → heard step told (names_it d) s h ≡ answers d s h
unfolding answers heard
heard_is d s [] = refl
heard_is d s (c ∷ cs) = rw (heard_is d (step s c) cs)

-- two states of histories from the start, with the same to see for domain d
pub record Related (b : Board) (t₀ : List ℕ) (d : ℕ) (s r : State) : Type 0 where
  pub left_good : Good b t₀ s
  pub right_good : Good b t₀ r
  pub agree : Agree b d s r

left : {b : Board} {t₀ : List ℕ} {d : ℕ} (s r : State) → Related b t₀ d s r → Related b t₀ d s s
left s r k = record { left_good = k.left_good; right_good = k.left_good; agree = agree_self s }

abbrev Shows : ℕ → State → State → Type 0
Shows d s r = SameColours d s r × SameMap d s r

module _ {b : Board} {t₀ : List ℕ} {d : ℕ} (below : d < b.domains) where
  pub own_step : (s r : State) (c : Call) → Related b t₀ d s r → names_it d c ≡ true
      → (told s c ≡ told r c) × Related b t₀ d (step s c) (step r c)
  own_step s r c k e =
      let m = call_meets k.left_good k.right_good k.agree c (eqb-true (names c) d e) in (
        simp (m.reply, m.moves),
        record {
          left_good = (call_keeps k.left_good c).good_next;
          right_good = (call_keeps k.right_good c).good_next;
          agree = m.next;
        },
      )

  other_step : (s r : State) (c : Call) → Related b t₀ d s r → names_it d c ≡ false → Related b t₀ d (step s c) r
  other_step s r c k e =
      let kept = call_keeps k.left_good c in
      record {
        left_good = kept.good_next;
        right_good = k.right_good;
        agree = agree_on (kept.others d below (eqb-false (names c) d e)) k.agree;
      }

  -- a list run from one of them, and its own calls run from the other, lead to two such states again
  pub meets_again : (l : List Call) (s r : State) → Related b t₀ d s r → Related b t₀ d (run s l) (run r (own d l))
  meets_again l s r k = simp (run_is, own_is) at (meet step told (names_it d) (Related b t₀ d) own_step other_step l s r k)

  -- so calls of others leave what the domain sees alone
  pub others_unseen : (s : State) → Good b t₀ s → (others : List Call) → own d others ≡ [] → Related b t₀ d (run s others) s
  unfolding run
  others_unseen s g others alone = rw alone at (meets_again others s s (record { left_good = g; right_good = g; agree = agree_self s }))

  -- and two such states look the same to the domain
  pub looks_same : (s r : State) → Related b t₀ d s r → LookTheSame d s r
  looks_same s r k l m e =
      let on_right : Related b t₀ d r r = record { left_good = k.right_good; right_good = k.right_good; agree = agree_self r } in
      let first = alike step told (names_it d) (Related b t₀ d) own_step other_step l s r k in
      let last = alike step told (names_it d) (Related b t₀ d) own_step other_step m r r on_right in
      (simp (heard_is, own_is) at first) ∙ rw e (sym (simp (heard_is, own_is) at last))

  reveal : bad_quotas b ≡ false → (s r s' r' : State) → Related b t₀ d s s' → Related b t₀ d r r' → Shows d s' r' → Related b t₀ d s r
  reveal awake s r s' r' k l w =
      let m = reveals awake below k.right_good l.right_good w.0 w.1 in
      record {
        left_good = k.left_good;
        right_good = l.left_good;
        agree = agree_on k.agree (agree_on m (agree_back l.agree));
      }

  shown : (s r s' r' : State) → Related b t₀ d s s' → Related b t₀ d r r'
      → ((c : Call) → names_it d c ≡ true → told s c ≡ told r c) → Shows d s' r'
  shown s r s' r' k l same =
      let at_reply : (c : Call) → names_it d c ≡ true → (outcome s' c).reply ≡ (outcome r' c).reply = λ c e.
      ap (λ (a : Told). a.reply) (sym (own_step s s' c k e).0 ∙ same c e ∙ (own_step r r' c l e).0) in
      (at_reply (Colours d) (eq-eqb d d refl), λ p small. at_reply (Look d p) (eq-eqb d d refl))

-- the rule of the unwinding: on a board with a quota that is none, where nothing ever changes, and on any other
abbrev Alike : ℕ → State → State → Type 0
Alike d s r = (l m : List Call) → owns (names_it d) l ≡ owns (names_it d) m → heard step told (names_it d) s l ≡ heard step told (names_it d) r m

unwound : (start : State) → Accepted start → Empty start → (d : ℕ) → d < start.board.domains → (h k : List Call)
    → Alike d (runs step start h) (runs step start k) ↔ Shows d (runs step start (owns (names_it d) h)) (runs step start (owns (names_it d) k))
unwound start ok empty d below h k =
    let g = start_good start ok empty in
    let self : Related start.board start.table d start start =
    record { left_good = g; right_good = g; agree = agree_self start } in
    cases (bad_quotas start.board)
    (λ asleep.
    rule step told (names_it d) (Still start) (λ s r c q e. still_own start ok asleep s r c q) (λ s r c q e. still_other start ok asleep s r c q)
    (Shows d) (still_left start) (λ s r s' r' q z w. (q.0, z.0)) (λ s r s' r' q z same. still_shown start d s' r' q.1 z.1) start (refl, refl) h k)
    (λ awake.
    rule step told (names_it d) (Related start.board start.table d) (own_step below) (other_step below)
    (Shows d) left (reveal below awake) (shown below) start self h k)

-- its equation of own calls may stand either way round
pub domain_rule : DomainRule
domain_rule start ok empty d below h k =
    let r = simp (run_is, own_is, heard_is) at (unwound start ok empty d below h k) in
    (λ same. r.0 (λ l m e. same l m (cc)), λ w l m e. r.1 w l m (cc))
