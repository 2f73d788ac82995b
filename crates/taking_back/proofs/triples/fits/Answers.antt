-- `taking_back::triples::fits` meets its contract: what 31 has against a triple by itself (`OwnPage`).
use Prim.Native.Nat.{ℕ}
use native.Mathlib.Omega.{arith}
use mathlib.Core.Bool.{Bool, true, false, not, ◌&&◌, ◌||◌}
use mathlib.Core.Path.{◌≡◌, refl, sym, ap, ap₂, ◌∙◌}
use lib.Dec.{eqb}
use mir.Syntax.{w16}
use mir.Val.{Fits}
use borrow.Author.Rules.{rules}
use Rattle.limits.specs.Limits.{pages}
use Rattle.table_words.specs.Words.{among}
use Rattle.table_words.proofs.Masks.{masked_is}
use Rattle.calls.specs.Table.{word, has_word, is_free}
use Rattle.calls.proofs.PageWords.{word_fits}
use Rattle.taking_back.specs.Triples.{unfit, move_of}
use Rattle.taking_back.proofs.OwnPage.{own_page, unfit_by}
use Rattle.taking_back.proofs.triples.fits.Goals as goal
use Rattle.taking_back.proofs.triples.fits.Goals.{After-is_among}

twice_not : (a : Bool) → a ≡ not (not a)
twice_not true = refl
twice_not false = refl

-- its frames are there, and 31 goes by the word for its page and by the old frame
by_page : (c : After-is_among) → let a = c.args in let s = a.former in let m = a.triple in
    unfit a.table.now s.colours s.domain s.set (move_of m.page m.old m.new)
    ≡ ((not c.is_among.result || not (eqb (word a.table.now m.new) c.word_for-word.result)) || not (is_free a.table.now s.colours s.set m.old))
by_page c =
    let a = c.args in
    let s = a.former in
    let m = a.triple in
    let page : Fits w16 m.page = search rules in
    let first = c.word_for-first.ensures ∙ word_fits s.domain 0 s.low (omega arith) in
    let x = c.word_for-word.ensures in
    unfit_by a.table.now s.colours s.domain s.set m.page m.old m.new
    ∙ rw c.if-table-triple.false refl
    ∙ ap (λ (o : Bool). o || not (is_free a.table.now s.colours s.set m.old))
    (sym (own_page s.domain m.page s.low (omega (arith, page)) (word a.table.now m.new))
    ∙ ap₂ (λ (o : Bool) (w : ℕ). not o || not (eqb (word a.table.now m.new) w))
    (sym (c.is_among.ensures ∙ ap₂ (λ (f w : ℕ). among f pages w) first x)) (sym x))

pub returns-then-is_among-table : goal.returns-then-is_among-table
returns-then-is_among-table c = rw (by_page (goal.at.returns-then-is_among-table c).After-is_among, c.if-is_among-table.true) refl

pub returns : goal.returns
returns c =
    let a = c.args in
    let s = a.former in
    let inside = c.in_set.ensures ∙ masked_is s.colours s.set a.triple.old s.counted in
    ap (λ (o : Bool). has_word a.table.now 0 a.triple.old && o) inside
    ∙ twice_not (is_free a.table.now s.colours s.set a.triple.old)
    ∙ rw (by_page (goal.at.returns c).After-is_among, c.if-is_among-table.false) refl
