-- What the code of a taking back goes by: document 02, No. 10. A triple and a list as 31 judges them, on a table whose length is F; the marks of the frames
-- named; and how many new frames lie outside the former set, by which 32 is judged.
use Rattle.std.specs.Prelude.{ℕ, ◌+◌, ◌*◌, ◌%◌, Bool, false, not, ◌||◌, List, [], ◌∷◌, ◌≡◌, eqb, leb, length, get_or, set, if◌then◌else◌}
use Rattle.lists.specs.Range.{upto, keep, is_empty}
use Rattle.refusal.specs.Reply.{Reply, test, unless}
use Rattle.calls.specs.Table.{in_set, is_stray}
use Rattle.calls.specs.Calls.{Answer, Moved, Move, move_all}
use Rattle.calls.specs.TakeBack.{move_list, any_move, wrong_triple, wrong_words, backward}

abbrev pub move_of : ℕ → ℕ → ℕ → Move
move_of p v g = record { page = p; source = v; target = g }

-- the k-th triple of a list
abbrev pub move_at : List ℕ → ℕ → Move
move_at list k = move_of (get_or list (3 * k) 0) (get_or list (3 * k + 1) 0) (get_or list (3 * k + 2) 0)

-- what 31 has against a triple by itself, and against a list
abbrev pub unfit : List ℕ → ℕ → ℕ → ℕ → Move → Bool
unfit t n d c m = wrong_triple t n (length t) d c m

unfoldable pub wrong_triples : List ℕ → ℕ → ℕ → ℕ → List ℕ → Bool
wrong_triples t n d c list = wrong_words t n (length t) d c list

-- a frame that is marked
abbrev pub is_marked : List ℕ → ℕ → Bool
is_marked marks f = eqb (get_or marks f 0) 1

-- the same by marks: a triple is wrong by itself, or one of its frames is marked, or so it is with a later triple
unfoldable pub wrong_from : List ℕ → ℕ → ℕ → ℕ → List ℕ → List Move → Bool
wrong_from t n d c marks [] = false
wrong_from t n d c marks (m ∷ ms) =
    let rest = wrong_from t n d c (set (set marks m.source 1) m.target 1) ms in
    unfit t n d c m || is_marked marks m.source || is_marked (set marks m.source 1) m.target || rest

-- 1 where a frame lies outside the set; how many new frames do
abbrev pub outside : ℕ → ℕ → ℕ → ℕ
outside n c f = if in_set n c f then 0 else 1

unfoldable pub outsides : ℕ → ℕ → List Move → ℕ
outsides n c [] = 0
outsides n c (m ∷ ms) = outside n c m.target + outsides n c ms

-- what a list comes to: 31, or how many of its new frames lie outside the set
unfoldable pub triples_reply : List ℕ → ℕ → ℕ → ℕ → List ℕ → Reply ℕ
triples_reply t n d c list = unless (test 31 (wrong_triples t n d c list) ∷ []) (outsides n c (move_list list))

-- the domain's frames outside the set after the moves back
abbrev pub left : List ℕ → ℕ → ℕ → ℕ → List ℕ → List ℕ
left t n d c list = keep (is_stray (move_all t (backward (move_list list))) n d c) (upto (length t))

-- 31 and 32, and the count of moves
unfoldable pub taken_back : List ℕ → ℕ → ℕ → ℕ → List ℕ → Reply Answer
taken_back t n d c list =
    unless (test 31 (wrong_triples t n d c list) ∷ test 32 (not (is_empty (left t n d c list))) ∷ []) (Moved (length (move_list list)))

-- a list of whole triples whose frames lie below F
abbrev pub beyond : ℕ → Move → Bool
beyond frames m = leb frames m.source || leb frames m.target

abbrev pub NamesFrames : ℕ → List ℕ → Type 0
NamesFrames frames list = (length list % 3 ≡ 0) × (any_move (beyond frames) (move_list list) ≡ false)
