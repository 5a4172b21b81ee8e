-- Text stored from the front of a list, part by part.
-- Assumes nothing.
use Prim.Native.Nat.{ℕ, ◌+◌}
use mathlib.Core.Path.{◌≡◌, ◌∙◌}
use mathlib.Core.List.{List, [], ◌∷◌, ◌++◌}
use native.Mathlib.Omega.{arith}
use lib.ListN.{length, length-append}
use lib.Seq.{sets}
use Rattle.octets.proofs.Stores.{sets-append}
use Rattle.text.proofs.HexLaws.{hex-text-length}

-- l is the list `out` with this text stored from its front on; the text ends at `end`
pub record Stored (out l text : List ℕ) (end : ℕ) : Type 0 where
  pub here : l ≡ sets out 0 text
  pub ends : end ≡ length text

-- one part more
pub stored_more : {out l text : List ℕ} {end : ℕ} (part m : List ℕ) (next : ℕ) → Stored out l text end → m ≡ sets l end part → next ≡ end + length part → Stored out m (text ++ part) next
stored_more {out} {l} {text} {end} part m next s e n =
    let k : length (text ++ part) ≡ length text + length part = length-append text part in
    record {
      here = e ∙ rw s.here (sets-append out 0 text part end (omega (arith, s.ends)));
      ends = omega (arith, s.ends);
    }

-- a byte, and a text behind it
pub one_before : (l : List ℕ) (at x next : ℕ) (text : List ℕ) → next ≡ at + 1 → sets (sets l at (x ∷ [])) next text ≡ sets l at (x ∷ text)
one_before l at x next text e = sets-append l at (x ∷ []) text next e

pub ruleset behind_comma = (one_before, hex-text-length)
