-- Lines and their records: how many bytes, one list of lines behind another, the entries of a table as a list, and a scene's
-- lines kind by kind.
-- Assumes nothing.
use mathlib.Core.Path.{◌≡◌, refl, sym, ap, ◌∙◌}
use mathlib.Core.List.{List, [], ◌∷◌, ◌++◌, map, append_assoc}
use Prim.Native.Nat.{ℕ, zero, suc, ◌+◌, ◌≤◌, ◌<◌}
use native.Mathlib.Nat.{zero-add, add-zero, add_assoc, suc-add}
use native.Mathlib.Numerals.{add-one}
use native.Mathlib.Omega.{arith}
use lib.ListN.{length, take, drop, length-append}
use lib.Seq.{drop-cons, take_at, drop_at}
use Rattle.octets.specs.Lists.{joined}
use Rattle.scene_table.specs.Scene.{Scene, Line, bytes_line, hash_line, input_line, output_line, cell_line, digits_line, lines_of, records_from}
use Rattle.scene_table.specs.Lent.{table_entry, records_at}
use Rattle.scene_table.proofs.Records.{length-records}

-- the bytes of lines
unfoldable pub total : List Line → ℕ
total [] = 0
total (l ∷ ls) = length l.bytes + total ls

pub total-joined : (ls : List Line) → length (joined (map (λ (l : Line). l.bytes) ls)) ≡ total ls
unfolding total joined
total-joined [] = refl
total-joined (l ∷ ls) = rw (length-append, total-joined ls)

-- one list of lines behind another
pub records-append : (used : ℕ) (ls ms : List Line) → records_from used (ls ++ ms) ≡ records_from used ls ++ records_from (used + total ls) ms
unfolding records_from total
records-append used [] ms = rw add-zero
records-append used (l ∷ ls) ms =
    rw (records-append (used + length l.bytes) ls ms, add_assoc) (sym (append_assoc (used ∷ l.numbers) _ _))

pub total-append : (ls ms : List Line) → total (ls ++ ms) ≡ total ls + total ms
unfolding total
total-append [] ms = sym (zero-add (total ms))
total-append (l ∷ ls) ms = rw (total-append ls ms, add_assoc)

-- equal lists of two parts have equal parts
pub append-parts : (xs ys us vs : List ℕ) (n : ℕ) → length xs ≡ n → length us ≡ n → xs ++ ys ≡ us ++ vs → (xs ≡ us) × (ys ≡ vs)
append-parts xs ys us vs n p q e =
    (sym (take_at xs ys n p) ∙ (ap (take n) e ∙ take_at us vs n q), sym (drop_at xs ys n p) ∙ (ap (drop n) e ∙ drop_at us vs n q))

-- n entries of a table from `at` on
unfoldable pub cut : List ℕ → ℕ → ℕ → List ℕ
cut table n at = records_at (table_entry table) 1 n at

records-parts : (read : ℕ → ℕ) (n m at : ℕ) → records_at read 1 (n + m) at ≡ records_at read 1 n at ++ records_at read 1 m (at + n)
unfolding records_at
records-parts read zero m at = rw (zero-add, add-zero)
records-parts read (suc n) m at =
    let e : at + suc n ≡ at + 1 + n = omega arith in
    rw (suc-add, e, records-parts read n m (at + 1))

pub cut_parts : (table : List ℕ) (n m at : ℕ) → cut table (n + m) at ≡ cut table n at ++ cut table m (at + n)
unfolding cut
cut_parts table n m at = records-parts (table_entry table) n m at

pub length_cut : (table : List ℕ) (n at : ℕ) → length (cut table n at) ≡ n
unfolding cut
length_cut table n at = length-records (table_entry table) 1 n at

-- entries that the table has
pub cut-take : (table : List ℕ) (n at : ℕ) → at + n ≤ length table → cut table n at ≡ take n (drop at table)
unfolding cut records_at table_entry
cut-take table zero at h = refl
cut-take table (suc n) at h =
    let l : at < length table = omega arith in
    let k : at + 1 + n ≤ length table = omega arith in
    rw (drop-cons table at 0 l, cut-take table n (at + 1) k, add-one)

-- a scene's lines, kind by kind
unfoldable pub from_witnesses : Scene → List Line
from_witnesses s = map bytes_line s.witnesses ++ (digits_line s.digits ∷ [])

unfoldable pub from_deps : Scene → List Line
from_deps s = map cell_line s.deps ++ from_witnesses s

unfoldable pub from_outputs : Scene → List Line
from_outputs s = map output_line s.outputs ++ from_deps s

unfoldable pub from_inputs : Scene → List Line
from_inputs s = map input_line s.inputs ++ from_outputs s

-- five lists end to end
pub right-nested : {A : Type 0} (a b c d e : List A) → a ++ b ++ c ++ d ++ e ≡ a ++ (b ++ (c ++ (d ++ e)))
right-nested a b c d e = simp append_assoc

pub lines-by-kind : (s : Scene) → lines_of s ≡ bytes_line s.script ∷ hash_line s.transaction ∷ from_inputs s
unfolding lines_of from_inputs from_outputs from_deps from_witnesses
lines-by-kind s =
    right-nested
    (bytes_line s.script ∷ hash_line s.transaction ∷ map input_line s.inputs)
    (map output_line s.outputs)
    (map cell_line s.deps)
    (map bytes_line s.witnesses)
    (digits_line s.digits ∷ [])
