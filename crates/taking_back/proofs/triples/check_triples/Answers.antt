-- `taking_back::triples::check_triples` meets its contract. The invariant: what the list comes to is what its triples from here on come to, with the marks so far.
use Prim.Native.Nat.{ℕ, ◌+◌, ◌<◌}
use native.Mathlib.Omega.{arith}
use mathlib.Core.Bool.{Bool, true, false, ◌||◌}
use mathlib.Core.List.{List}
use mathlib.Core.Path.{◌≡◌, refl, sym, ap, ap₂, ◌∙◌}
use lib.ListN.{length, get_or, set, replicate, get_or-replicate, get_or-eq_default}
use borrow.Author.Tests.{not-true, not-false}
use Rattle.limits.specs.Limits.{most_frames}
use Rattle.lists.proofs.CaseSplits.{below_or_not}
use Rattle.refusal.specs.Reply.{Answers, Refuses, unless}
use Rattle.calls.specs.Calls.{Move}
use Rattle.calls.specs.TakeBack.{move_list}
use Rattle.calls.proofs.TakingBackDone.{fits_on}
use Rattle.taking_back.specs.Triples.{move_of, move_at, unfit, is_marked, outside, outsides, wrong_triples, triples_reply}
use Rattle.taking_back.proofs.CheckedTriples.{checking_same, not_whole, checking_start, wrong_itself, wrong_twice, checking_next, checked_right, checked_count}
use Rattle.taking_back.proofs.triples.check_triples.Goals as goal
use Rattle.taking_back.proofs.triples.check_triples.Goals.{After-mark-new_again, After-triple_at-triple, Else-not-fits}

-- the triple as it is read
abbrev read : After-triple_at-triple → Move
read w = let m = w.triple_at-triple.result in move_of m.page m.old m.new

-- nothing against it, so that its frames are there
fits_read : (k : Else-not-fits) → let s = k.args.former in let m = k.triple_at-triple.result in
    unfit k.args.table.now s.colours s.domain s.set (move_of m.page m.old m.new) ≡ false
fits_read k = not-true _ (sym k.fits.ensures ∙ k.if-not-fits.false)

there : (k : Else-not-fits) → (k.triple_at-triple.result.old < most_frames) × (k.triple_at-triple.result.new < most_frames)
there k =
    let t = k.args.table.now in
    let s = k.args.former in
    let ok = fits_on t s.colours (length t) s.domain s.set _ (fits_read k) in
    (omega (arith, ok.old_below, k.requires), omega (arith, ok.new_below, k.requires))

-- after both marks
once : (k : After-mark-new_again) → k.mark-old_again.new.marks ≡ set k.loop-i.marks (move_at k.args.moves.now k.loop-i.i).source 1
once k = k.mark-old_again.ensures.marks_after ∙ ap (λ (m : Move). set k.loop-i.marks m.source 1) k.triple_at-triple.ensures

again_told : (k : After-mark-new_again) → let m = move_at k.args.moves.now k.loop-i.i in
    (k.mark-old_again.result || k.mark-new_again.result)
    ≡ (is_marked k.loop-i.marks m.source || is_marked (set k.loop-i.marks m.source 1) m.target)
again_told k =
    ap₂ (λ (a b : Bool). a || b)
    (k.mark-old_again.ensures.value ∙ ap (λ (m : Move). is_marked k.loop-i.marks m.source) k.triple_at-triple.ensures)
    (k.mark-new_again.ensures.value ∙ ap₂ (λ (marks : List ℕ) (m : Move). is_marked marks m.target) (once k) k.triple_at-triple.ensures)

-- the marks at first
none : (f : ℕ) → get_or {A = ℕ} (replicate most_frames 0) f 0 ≡ 0
none f = below_or_not f most_frames (λ l. get_or-replicate {A = ℕ} most_frames f 0 0 l) (λ l. get_or-eq_default (replicate most_frames 0) 0 l)

list_wrong : (t : List ℕ) (n d c : ℕ) (list : List ℕ) → wrong_triples t n d c list ≡ true → Refuses 31 0 ≡ triples_reply t n d c list
unfolding triples_reply unless
list_wrong t n d c list e = rw e refl

list_right : (t : List ℕ) (n d c : ℕ) (list : List ℕ) (out : ℕ) → wrong_triples t n d c list ≡ false → outsides n c (move_list list) ≡ out
    → Answers out ≡ triples_reply t n d c list
unfolding triples_reply unless
list_right t n d c list out e f = rw (e, f) refl

pub returns-then-moves-ne0 : goal.returns-then-moves-ne0
returns-then-moves-ne0 c = list_wrong _ _ _ _ _ (not_whole _ _ _ _ _ c.if-moves-ne0.true)

pub loop-i-init : goal.loop-i-init
loop-i-init c = checking_start _ _ _ _ _ c.requires _ refl (λ f. none f) c.if-moves-ne0.false

pub returns-then-not-fits : goal.returns-then-not-fits
returns-then-not-fits c =
    let s = c.args.former in
    let w = (goal.at.returns-then-not-fits c).After-triple_at-triple in
    let e : unfit c.args.table.now s.colours s.domain s.set (read w) ≡ true = not-false _ (sym c.fits.ensures ∙ c.if-not-fits.true) in
    let wrong = ap (unfit c.args.table.now s.colours s.domain s.set) (sym w.triple_at-triple.ensures) ∙ e in
    list_wrong _ _ _ _ _ (wrong_itself _ _ _ _ _ c.loop-i.invariant c.loop-i-test.true wrong)

-- nothing against the triple as it stands in the list
fitting : (k : Else-not-fits) → let s = k.args.former in
    unfit k.args.table.now s.colours s.domain s.set (move_at k.args.moves.now k.loop-i.i) ≡ false
fitting k =
    let s = k.args.former in
    ap (unfit k.args.table.now s.colours s.domain s.set) (sym k.triple_at-triple.ensures) ∙ fits_read k

pub returns-then-old_again-new_again : goal.returns-then-old_again-new_again
returns-then-old_again-new_again c =
    let at = goal.at.returns-then-old_again-new_again c in
    let told = sym (again_told at.After-mark-new_again) ∙ c.if-old_again-new_again.true in
    list_wrong _ _ _ _ _ (wrong_twice _ _ _ _ _ c.loop-i.invariant c.loop-i-test.true (fitting at.Else-not-fits) told)

pub loop-i-preserved : goal.loop-i-preserved
loop-i-preserved c =
    let s = c.args.former in
    let at = goal.at.loop-i-preserved c in
    let told = sym (again_told at.After-mark-new_again) ∙ c.if-old_again-new_again.false in
    let marks = c.mark-new_again.ensures.marks_after ∙ ap₂ (λ (marks : List ℕ) (m : Move). set marks m.target 1) (once at.After-mark-new_again) c.triple_at-triple.ensures in
    let out = c.is_outside-outside.ensures ∙ ap (λ (m : Move). outside s.colours s.set m.target) c.triple_at-triple.ensures in
    checking_same _ _ _ _ _ marks (ap (λ (o : ℕ). c.loop-i.outside + o) out) (checking_next _ _ _ _ _ c.loop-i.invariant c.loop-i-test.true (fitting at.Else-not-fits) told)

pub returns : goal.returns
returns c =
    list_right _ _ _ _ _ _ (checked_right _ _ _ _ _ c.loop-i.invariant c.loop-i-test.false)
    (checked_count _ _ _ _ _ c.loop-i.invariant c.loop-i-test.false)
