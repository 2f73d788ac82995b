-- What a caller in C is told of a reply: the refusal's number and row, 0 where the call answers, and the answer's numbers, 0 on a refusal.
use Rattle.std.specs.Prelude.{ℕ, ◌≡◌}
use Rattle.refusal.specs.Reply.{Reply, Answers, Refuses}
use Rattle.calls.specs.Calls.{Answer, Mapped, Unmapped, Old, New, Freed, Active, Moved, Quota}
use Rattle.marshal.specs.declared.replies.ReplyNumbers.{ReplyNumbers}

module _ {A : Type 0} where
  abbrev pub number_of : Reply A → ℕ
  number_of (Answers a) = 0
  number_of (Refuses n r) = n

  abbrev pub row_of : Reply A → ℕ
  row_of (Answers a) = 0
  row_of (Refuses n r) = r

  abbrev pub value_of : (A → ℕ) → Reply A → ℕ
  value_of f (Answers a) = f a
  value_of f (Refuses n r) = 0

  -- a struct tells a reply: its number, its row and two numbers of its answer
  pub record Tells (f g : A → ℕ) (reply : Reply A) (told : ReplyNumbers) : Type 0 where
    pub number : told.number ≡ number_of reply
    pub row : told.row ≡ row_of reply
    pub value : told.value ≡ value_of f reply
    pub second : told.second ≡ value_of g reply

-- an answer that is a number, and one that has none to tell
abbrev pub itself : ℕ → ℕ
itself n = n

abbrev pub nothing : {A : Type 0} → A → ℕ
nothing a = 0

-- the frame, the set, the count of moves or the quota that a frame call answers; 0 for unmapped
abbrev pub number_in : Answer → ℕ
number_in (Mapped f) = f
number_in Unmapped = 0
number_in (Old f) = f
number_in (New f) = f
number_in (Freed f) = f
number_in (Active s q) = s
number_in (Moved n) = n
number_in (Quota q) = q

-- what tells mapped from unmapped and new from old: 1 for a page that is mapped and for a frame that is new; and beside the set the quota
abbrev pub second_in : Answer → ℕ
second_in (Mapped f) = 1
second_in Unmapped = 0
second_in (Old f) = 0
second_in (New f) = 1
second_in (Freed f) = 0
second_in (Active s q) = q
second_in (Moved n) = 0
second_in (Quota q) = 0
