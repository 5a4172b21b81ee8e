-- Private: no public contract cites this file.
-- The lent slices as entries, each a list of its five numbers: how many bytes they have, and what they say.
use Rattle.std.specs.Prelude.{ℕ, ◌+◌, List, [], ◌∷◌, drop}
use Rattle.account_state.specs.Reading.{EntryReading}
use Rattle.account_state_writer.specs.Slices.{lent_bytes}
use Rattle.account_state_writer.specs.Writer.{entry_from}

unfoldable pub bytes_needed : List (List ℕ) → ℕ
bytes_needed [] = 0
bytes_needed (f ∷ fs) = lent_bytes f + bytes_needed fs

unfoldable pub entries_in : List (List ℕ) → List ℕ → List EntryReading
entries_in [] bytes = []
entries_in (f ∷ fs) bytes = entry_from f bytes ∷ entries_in fs (drop (lent_bytes f) bytes)
