-- The number of the C interface. A caller's header has it too, and an archive of another number is not that header's.
use Rattle.std.specs.Prelude.{ℕ}

abbrev pub interface_number : ℕ
interface_number = 7
