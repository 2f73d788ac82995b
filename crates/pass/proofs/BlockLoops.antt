-- The loops over the words of a block of at most sixteen frames, which starts at a multiple of sixteen: lane and place in the block are one number there.
use Rattle.std.specs.Prelude.{if◌then◌else◌}
use Prim.Native.Nat.{ℕ, ◌+◌, ◌-◌, ◌%◌, ◌<◌, ◌≤◌}
use native.Mathlib.Nat.{mod-eq_of_lt}
use native.Mathlib.Omega.{arith}
use mathlib.Core.Bool.{Bool, true, false, ◌&&◌}
use mathlib.Core.List.{List, [], ◌∷◌, ◌++◌}
use mathlib.Core.Path.{◌≡◌, refl, sym, ap, ap₂, ◌∙◌}
use lib.Dec.{eqb}
use lib.ListN.{length, get_or, take, drop, set}
use lib.Seq.{length-take-le, drop-cons, take-add, take_all}
use Rattle.limits.specs.Limits.{most_frames}
use Rattle.tally.specs.Tally.{LanesAtMost, count_in, count_all, note_in, note_all}
use Rattle.tally.proofs.ClosedForm.{count_append, count_length, count_within, note_append, note_length, noted, not_noted}
use Rattle.pass.specs.Steps.{LanesFit}

-- the words of a list from a on and before b, which follow those before a
abbrev pub part : List ℕ → ℕ → ℕ → List ℕ
part xs a b = take (b - a) (drop a xs)

pub up_to : (xs : List ℕ) (a b : ℕ) → a ≤ b → take b xs ≡ take a xs ++ part xs a b
up_to xs a b h = let same : b ≡ a + (b - a) = omega arith in ap (λ (n : ℕ). take n xs) same ∙ take-add a (b - a) xs

-- lanes that words are taken into, from frame f on, one list after another
module _ (into : List ℕ → ℕ → List ℕ → List ℕ) (append : (l : List ℕ) (f : ℕ) (xs ys : List ℕ) → into l f (xs ++ ys) ≡ into (into l f xs) (f + length xs) ys) where
  pub then_part : (l : List ℕ) (f : ℕ) (xs : List ℕ) (a b : ℕ) → a ≤ b → a ≤ length xs → into l f (take b xs) ≡ into (into l f (take a xs)) (f + a) (part xs a b)
  then_part l f xs a b h k =
      ap (into l f) (up_to xs a b h)
      ∙ append l f (take a xs) (part xs a b)
      ∙ ap (λ (n : ℕ). into (into l f (take a xs)) (f + n) (part xs a b)) (length-take-le a xs k)

  then_one : (l : List ℕ) (f : ℕ) (xs : List ℕ) (i : ℕ) → i < length xs → into l f (take (i + 1) xs) ≡ into (into l f (take i xs)) (f + i) (get_or xs i 0 ∷ [])
  then_one l f xs i h =
      let one : i + 1 - i ≡ 1 = omega arith in
      then_part l f xs i (i + 1) (omega arith) (omega arith)
      ∙ ap₂ (λ (n : ℕ) (r : List ℕ). into (into l f (take i xs)) (f + i) (take n r)) one (drop-cons xs i 0 h)

pub one_at_most : (t : Bool) (r : ℕ) → r ≡ (if t then 1 else 0) → r ≤ 1
one_at_most true r e = omega (arith, e)
one_at_most false r e = omega (arith, e)

-- a loop that counts the words of a block has come to word i
module _ (p : ℕ → Bool) (lanes xs : List ℕ) where
  pub record Counted (now : List ℕ) (i : ℕ) : Type 0 where
    pub size : length now ≡ 16
    pub room : LanesAtMost (most_frames + i) now
    pub so_far : now ≡ count_all p lanes 0 (take i xs)

  pub counted_start : LanesFit lanes → Counted lanes 0
  unfolding count_all
  counted_start fit = record { size = sym fit.size; room = fit.room; so_far = refl }

  pub counted_end : {now : List ℕ} {i : ℕ} → Counted now i → length xs ≤ i → now ≡ count_all p lanes 0 xs
  counted_end {i = i} r l = r.so_far ∙ ap (count_all p lanes 0) (take_all i xs l)

  module _ {now : List ℕ} {i : ℕ} (r : Counted now i) (l : i < length xs) (few : i < 16) where
    abbrev x : ℕ
    x = get_or xs i 0

    in_lane : count_all p now (0 + i) (x ∷ []) ≡ set now i (get_or now i 0 + (if p x then 1 else 0))
    unfolding count_all count_in
    in_lane = let lane : (0 + i) % 16 ≡ i = omega arith in ap (λ (j : ℕ). set now j (get_or now j 0 + (if p x then 1 else 0))) lane

    pub counted_next : (more : ℕ) → more ≡ (if p x then 1 else 0) → Counted (set now i (get_or now i 0 + more)) (i + 1)
    counted_next more e =
        rw (e, ← in_lane)
        (record {
          size = count_length p now (0 + i) (x ∷ []) ∙ r.size;
          room = λ j. omega (arith, count_within p (most_frames + i) now (0 + i) (x ∷ []) r.room j);
          so_far = ap (λ (h : List ℕ). count_all p h (0 + i) (x ∷ [])) r.so_far ∙ sym (then_one (count_all p) (count_append p) lanes 0 xs i l);
        })

    pub counted_small : (more : ℕ) → more ≡ (if p x then 1 else 0) → get_or now i 0 + more < 8192
    counted_small more e = omega (arith, r.room i, one_at_most (p x) more e)

    -- the remainder is the count itself
    pub counted_less : (more : ℕ) → more ≡ (if p x then 1 else 0) → Counted (set now i ((get_or now i 0 + more) % 8192)) (i + 1)
    counted_less more e = rw (mod-eq_of_lt (counted_small more e)) (counted_next more e)

-- a loop that notes the free frames of a block has come to word i
module _ (free : List ℕ) (f : ℕ) (xs : List ℕ) where
  pub record BlockNoted (now : List ℕ) (i : ℕ) : Type 0 where
    pub size : length now ≡ 16
    pub so_far : now ≡ note_all free f (take i xs)

  pub noted_start : length free ≡ 16 → BlockNoted free 0
  unfolding note_all
  noted_start size = record { size = size; so_far = refl }

  module _ {now : List ℕ} {i : ℕ} (r : BlockNoted now i) (l : i < length xs) (aligned : f % 16 ≡ 0) (few : i < 16) where
    abbrev y : ℕ
    y = get_or xs i 0

    lane : (f + i) % 16 ≡ i
    lane = omega arith

    next : BlockNoted (note_in now (f + i) y) (i + 1)
    unfolding note_all
    next =
        record {
          size = note_length now (f + i) (y ∷ []) ∙ r.size;
          so_far = ap (λ (h : List ℕ). note_in h (f + i) y) r.so_far ∙ sym (then_one note_all note_append free f xs i l);
        }

    pub noted_hit : (eqb y 0 && eqb (get_or now i 0) 0) ≡ true → BlockNoted (set now i (f + i + 1)) (i + 1)
    noted_hit e = rw (noted now (f + i) y (rw lane e), lane) at next

    pub noted_miss : (eqb y 0 && eqb (get_or now i 0) 0) ≡ false → BlockNoted now (i + 1)
    noted_miss e = rw (not_noted now (f + i) y (rw lane e)) at next
