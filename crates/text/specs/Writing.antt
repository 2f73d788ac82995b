-- What writing leaves of a lent text: the bytes from its end on are those written, and the end moves behind them.
use Rattle.std.specs.Prelude.{◌≡◌, ℕ, ◌+◌, List, length}
use Rattle.std.proofs.lemmas.List.Edits.{sets}
use Rattle.text.specs.declared.Writer.{Writer}

pub record Wrote (before after : Writer) (bytes : List ℕ) : Type 0 where
  pub same_text : after.text.ghost_name ≡ before.text.ghost_name
  pub end_after : after.end ≡ before.end + length bytes
  pub text_after : after.text.now ≡ sets before.text.now before.end bytes
