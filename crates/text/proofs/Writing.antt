-- What is written one after another is written as one, and the text stays as long as it was.
use Prim.Native.Nat.{ℕ, ◌+◌, ◌-◌, ◌≤◌}
use native.Mathlib.Omega.{arith}
use mathlib.Core.List.{List, [], ◌++◌}
use mathlib.Core.Path.{◌≡◌, refl, sym, ap, ◌∙◌}
use borrow.Rule.Slice.PartMut.{put_mid}
use lib.ListN.{length, take, drop, length-append}
use lib.Seq.{sets, sets-eq, length-sets, take-length}
use Rattle.std.proofs.lemmas.Slice.{put_mid-paste}
use Rattle.text.specs.declared.Writer.{Writer}
use Rattle.text.specs.Writing.{Wrote}
use Rattle.text.specs.Text.{over}
use Rattle.text.proofs.Lines.{sets_append, sets_over}

pub wrote_length : {a b : Writer} {xs : List ℕ} → Wrote a b xs → length b.text.now ≡ length a.text.now
wrote_length {a} {b} {xs} w = ap length w.text_after ∙ length-sets a.text.now a.end xs

pub wrote_none : (a : Writer) → Wrote a a []
wrote_none a = record { same_text = refl; end_after = omega arith; text_after = refl }

pub wrote_append : {a b c : Writer} {xs ys : List ℕ} → Wrote a b xs → Wrote b c ys → Wrote a c (xs ++ ys)
wrote_append {a} {b} {c} {xs} {ys} w v =
    record {
      same_text = v.same_text ∙ w.same_text;
      end_after = omega (arith, v.end_after, w.end_after, length-append xs ys);
      text_after = v.text_after ∙ ap (λ (l : List ℕ). sets l b.end ys) w.text_after ∙ sets_append xs ys a.text.now a.end b.end w.end_after;
    }

-- a part of a text that is written as a whole
pub part_written : (text bytes part : List ℕ) (at : ℕ) → at + length bytes ≤ length text → part ≡ bytes
    → put_mid at (at + length bytes - at) text part ≡ sets text at bytes
part_written text bytes part at h e =
    put_mid-paste at (at + length bytes - at) text part bytes (length bytes) e (omega arith) refl
    ∙ ap (λ (l : List ℕ). take at text ++ l ++ drop (at + length bytes) text) (take-length bytes)
    ∙ sym (sets-eq bytes text at h)

-- of a text written from its start, what was there stands behind what is written
pub wrote_over : {a b : Writer} {xs : List ℕ} → Wrote a b xs → a.end ≡ 0 → length xs ≤ length a.text.now → b.text.now ≡ over xs a.text.now
wrote_over {a} {b} {xs} w start h = w.text_after ∙ ap (λ (at : ℕ). sets a.text.now at xs) start ∙ sets_over xs a.text.now h
