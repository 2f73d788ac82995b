-- The invariant of every history from an accepted board and an empty table, and that a write of a domain to a frame of its own keeps it.
-- It knows no call.
use Prim.Native.Nat.{ℕ, ◌<◌, ◌≤◌}
use native.Mathlib.Omega.{arith}
use mathlib.Core.Bool.{Bool, true, false}
use mathlib.Core.List.{List, [], ◌∷◌}
use mathlib.Core.Logic.{◌⊎◌, inl, inr, ⊎_elim, ◌↔◌}
use mathlib.Core.Path.{◌≡◌, refl, sym, ap, ◌∙◌}
use lib.Dec.{eqb}
use lib.ListN.{length, set, length-set}
use lib.Seq.{get_or-set_same, get_or-set_other}
use borrow.Author.Tests.{eqb-true, eqb-false}
use Rattle.lists.proofs.CaseSplits.{cases}
use Rattle.refusal.specs.Reply.{passes}
use Rattle.board.specs.declared.Board.{Board}
use Rattle.board.specs.Tests.{grant, empty_or_outside, no_quota, bad_quotas}
use Rattle.calls.specs.Table.{State, word, word_of, in_set}
use Rattle.calls.specs.Calls.{Move, move, move_all}
use Rattle.calls.proofs.Quotas.{board_still, quotas_still}
use Rattle.isolation.specs.DomainRule.{Accepted}
use Rattle.isolation.proofs.AcceptedBoard.{Live, live, at, with_table, with_set, with_limit, Facts, facts, still}

-- a word after a write, at the frame written and at every other
pub after_write : (P : ℕ → Type 0) (t : List ℕ) (f w g : ℕ) → f < length t → (g ≡ f → P w) → ((g ≡ f → ⊥) → P (word t g))
    → P (word (set t f w) g)
after_write P t f w g l here there =
    cases (eqb g f)
    (λ e. let q = eqb-true g f e in rw (q, get_or-set_same t f w 0 l) (here q))
    (λ e. let q = eqb-false g f e in rw (get_or-set_other t f g w 0 q) (there q))

-- w is a word of domain e
pub record PageWord (e w : ℕ) : Type 0 where
  pub page : ℕ
  pub small : page ≤ 4095
  pub is : w ≡ word_of e page

-- the colour of frame f is granted to domain e
abbrev pub granted : Board → ℕ → ℕ → Bool
granted b e f = in_set b.colours (grant b e) f

-- a word that a domain below the count holds, in a frame whose colour it was granted
pub record Held (b : Board) (f w : ℕ) : Type 0 where
  pub domain : ℕ
  pub below : domain < b.domains
  pub own : granted b domain f ≡ true
  pub has_page : PageWord domain w

-- free, reserved or held
pub data Lawful (b : Board) (f w : ℕ) : Type 0 where
  free : w ≡ 0 → Lawful b f w
  reserved : w ≡ 65535 → Lawful b f w
  held : Held b f w → Lawful b f w

pub record Inv (b : Board) (t₀ : List ℕ) (x : Live) : Type 0 where
  pub accepted : Accepted (at b x)
  -- 26 refuses every call, as at the start, or none
  pub quotas : bad_quotas (at b x).board ≡ bad_quotas b
  pub lawful : (f : ℕ) → f < b.frames → Lawful b f (word x.table f)
  pub unique :
      (d p f g : ℕ) → d < b.domains → p ≤ 4095 → f < b.frames → g < b.frames
      → word x.table f ≡ word_of d p → word x.table g ≡ word_of d p → f ≡ g
  pub reserved : (f : ℕ) → f < b.frames → (word x.table f ≡ 65535) ↔ (word t₀ f ≡ 65535)

-- a state that has it
pub data Good (b : Board) (t₀ : List ℕ) : State → Type 0 where
  good : {x : Live} → Inv b t₀ x → Good b t₀ (at b x)

pub invariant : {b : Board} {t₀ : List ℕ} {s : State} → Good b t₀ s → Inv b t₀ (live s)
invariant (good inv) = inv

-- a frame that domain e may write: its colour is granted, and it is not reserved
pub record Mine (b : Board) (t₀ : List ℕ) (e f : ℕ) : Type 0 where
  pub below : f < b.frames
  pub own : granted b e f ≡ true
  pub open_to : word t₀ f ≡ 65535 → ⊥

-- a word that domain e may write: free, or a word of its own that no frame has
abbrev pub Fresh : Board → List ℕ → ℕ → ℕ → Type 0
Fresh b t e w = (w ≡ 0) ⊎ (PageWord e w × ((g : ℕ) → g < b.frames → word t g ≡ w → ⊥))

module _ {b : Board} {t₀ : List ℕ} {x : Live} (inv : Inv b t₀ x) where
  pub known : Facts b x
  known = facts b x inv.accepted

  -- a word of a domain below the count is not the reserved one
  pub not_reserved : {e w : ℕ} → e < b.domains → PageWord e w → w ≡ 65535 → ⊥
  not_reserved below k q = omega (arith, known.few)

  -- a frame of the grant of e that is held is held by e
  pub held_own : {e f w : ℕ} → e < b.domains → granted b e f ≡ true → Held b f w → PageWord e w
  held_own {e} below g k = rw (known.disjoint k.domain e _ k.below below k.own g) at k.has_page

  module _ {e : ℕ} (below : e < b.domains) where
    -- a fresh word that is a page's is in no frame
    fresh_nowhere : (w d p g : ℕ) → Fresh b x.table e w → g < b.frames → w ≡ word_of d p → word x.table g ≡ word_of d p → ⊥
    fresh_nowhere w d p g fresh h q r = ⊎_elim (λ z. omega arith) (λ u. u.1 g h (r ∙ sym q)) fresh

    put_unique : (f w : ℕ) → f < length x.table → Fresh b x.table e w → (d p g h : ℕ) → d < b.domains → p ≤ 4095
        → g < b.frames → h < b.frames
        → word (set x.table f w) g ≡ word_of d p → word (set x.table f w) h ≡ word_of d p → g ≡ h
    put_unique f w l fresh d p g h low small hg hh =
        after_write (λ (v : ℕ). v ≡ word_of d p → word (set x.table f w) h ≡ word_of d p → g ≡ h) x.table f w g l
        (λ here q.
        after_write (λ (v : ℕ). v ≡ word_of d p → g ≡ h) x.table f w h l
        (λ there _. here ∙ sym there)
        (λ _ r. absurd (fresh_nowhere w d p h fresh hh q r)))
        (λ _ q.
        after_write (λ (v : ℕ). v ≡ word_of d p → g ≡ h) x.table f w h l
        (λ _ r. absurd (fresh_nowhere w d p g fresh hg r q))
        (λ _. inv.unique d p g h low small hg hh q))

    pub put : (f w : ℕ) → Mine b t₀ e f → Fresh b x.table e w → Inv b t₀ (with_table x (set x.table f w))
    put f w m fresh =
        let l : f < length x.table = rw known.long m.below in
        record {
          accepted = rw (length-set x.table f w) inv.accepted;
          quotas = inv.quotas;
          lawful = λ g h.
              after_write (Lawful b g) x.table f w g l
              (λ q. ⊎_elim free (λ u. held (record { domain = e; below = below; own = rw q m.own; has_page = u.0 })) fresh)
              (λ _. inv.lawful g h);
          unique = put_unique f w l fresh;
          reserved = λ g h.
              after_write (λ (v : ℕ). (v ≡ 65535) ↔ (word t₀ g ≡ 65535)) x.table f w g l
              (λ q. (λ r. absurd (⊎_elim (λ z. omega arith) (λ u. not_reserved below u.0 r) fresh), λ r. absurd (m.open_to (rw q at r))))
              (λ _. inv.reserved g h);
        }

    -- the word of a frame of e's that was just cleared is nowhere else
    cleared_fresh : (f : ℕ) → Mine b t₀ e f → (w : ℕ) → word x.table f ≡ w → Lawful b f w → Fresh b (set x.table f 0) e w
    cleared_fresh f m w q (free z) = inl z
    cleared_fresh f m w q (reserved r) = absurd (m.open_to ((inv.reserved f m.below).0 (q ∙ r)))
    cleared_fresh f m w q (held k) =
        let mine = held_own below m.own k in
        inr (
          mine,
          λ g h.
              after_write (λ (v : ℕ). v ≡ w → ⊥) x.table f 0 g (rw known.long m.below)
              (λ _ z. omega arith)
              (λ other r. other (inv.unique e mine.page g f below mine.small h m.below (r ∙ mine.is) (q ∙ mine.is))),
        )

  -- another active set that refusal 9 does not refuse keeps it
  pub recoloured : (e c : ℕ) → e < b.domains → empty_or_outside (grant b e) c ≡ false → Inv b t₀ (with_set x e c)
  unfolding bad_quotas
  recoloured e c below fine =
      record {
        accepted = still b x inv.accepted e c below fine;
        quotas = inv.quotas;
        lawful = inv.lawful;
        unique = inv.unique;
        reserved = inv.reserved;
      }

  -- and so does another quota that refusal 27 does not refuse
  pub allowed : (e q : ℕ) → bad_quotas (at b x).board ≡ false → e < b.domains → no_quota q ≡ false → Inv b t₀ (with_limit x e q)
  allowed e q awake below fine =
      record {
        accepted = ap passes (board_still (at b x).board (set x.quotas e q) (length x.table)) ∙ inv.accepted;
        quotas = quotas_still (at b x).board e q awake below fine ∙ sym awake ∙ inv.quotas;
        lawful = inv.lawful;
        unique = inv.unique;
        reserved = inv.reserved;
      }

-- moves between frames that domain e may write
abbrev pub MovesMine : Board → List ℕ → ℕ → List Move → Type 0
MovesMine b t₀ e [] = Unit {0}
MovesMine b t₀ e (m ∷ ms) = Mine b t₀ e m.source × Mine b t₀ e m.target × MovesMine b t₀ e ms

-- a move: the old frame becomes free, and the new one gets the word
pub moves_keep : {b : Board} {t₀ : List ℕ} {e : ℕ} (below : e < b.domains) (x : Live) (ms : List Move) → MovesMine b t₀ e ms → Inv b t₀ x
    → Inv b t₀ (with_table x (move_all x.table ms))
unfolding move_all
moves_keep below x [] mine inv = inv
moves_keep below x (m ∷ ms) mine inv =
    let cleared = put inv below m.source 0 mine.0 (inl refl) in
    let fresh = cleared_fresh inv below m.source mine.0 _ refl (inv.lawful m.source mine.0.below) in
    moves_keep below (with_table x (move x.table m)) ms mine.2 (put cleared below m.target (word x.table m.source) mine.1 fresh)
