-- The test of a table answers yes exactly where there is a scene that leaves it with a store this long.
-- Assumes nothing.
use mathlib.Core.Path.{◌≡◌, refl, sym, ap, ◌∙◌}
use mathlib.Core.Bool.{Bool, true, ◌&&◌}
use mathlib.Core.List.{List, [], ◌∷◌, ◌++◌, map}
use mathlib.Core.Logic.{◌↔◌}
use Prim.Native.Nat.{ℕ, ◌+◌, ◌^◌, ◌≤◌}
use borrow.Author.Tests.{le-leb, leb-true}
use lib.Dec.{ltb}
use lib.ListN.{length, replicate, length-append, length-replicate, length-map}
use Rattle.octets.proofs.Same.{same-eq, eq-same}
use Rattle.octets.specs.Lists.{every}
use Rattle.protocol.specs.Limits.{table_min_entries}
use Rattle.octets.proofs.Every.{every_map}
use Rattle.scene_table.specs.Scene.{Cell, Input, Output, Scene, Line, cell_bytes, cell_lengths, bytes_line, hash_line, input_line, output_line, cell_line, lines_of, scene_bytes, counts_of, records_from, scene_numbers, padded_to, scene_table}
use Rattle.scene_table.specs.Lent.{cell_from, blank_scene, cell_field_places, zeros_at}
use Rattle.scene_table.specs.Valid.{bytes_ok, hash_bytes_ok, cell_ok, input_ok, output_ok, few_of, digits_ok, scene_ok, valid_table}
use Rattle.scene_table.proofs.Lines.{total, total-joined, total-append, records-append}
use Rattle.octets.proofs.Truth.{and_both}
use Rattle.scene_table.proofs.BlankScene.{blank-bytes, blank-hash, blank-cell}
use Rattle.scene_table.proofs.ReadBack.{cell_with, input_with, output_with, scene_with, hash-long, cell-hashes}
use Rattle.scene_table.proofs.SceneBack.{Sayable, sayable, scene-back}

-- as many zeros as a list has elements
abbrev pub zeroed : List ℕ → List ℕ
zeroed q = replicate (length q) 0

-- lines of the same records and as many bytes
record Alike (ls ms : List Line) : Type 0 where
  records : (used : ℕ) → records_from used ls ≡ records_from used ms
  long : total ls ≡ total ms

alike-append : (ls ms ls' ms' : List Line) → Alike ls ms → Alike ls' ms' → Alike (ls ++ ls') (ms ++ ms')
alike-append ls ms ls' ms' a b = record {
  records = λ used. rw (records-append used ls ls', records-append used ms ms', a.records used, a.long, b.records (used + total ms));
  long = rw (total-append ls ls', total-append ms ms', a.long, b.long);
}

alike-one : (l m : Line) → l.numbers ≡ m.numbers → length l.bytes ≡ length m.bytes → Alike (l ∷ []) (m ∷ [])
unfolding records_from total
alike-one l m e f = record { records = λ used. rw e; long = rw f }

alike-map : {A : Type 0} (line : A → Line) (f : A → A) → ((x : A) → Alike (line (f x) ∷ []) (line x ∷ [])) → (xs : List A) → Alike (map line (map f xs)) (map line xs)
alike-map line f one [] = record { records = λ used. refl; long = refl }
alike-map line f one (x ∷ xs) = alike-append (line (f x) ∷ []) (line x ∷ []) (map line (map f xs)) (map line xs) (one x) (alike-map line f one xs)

pub length-zeroed : (q : List ℕ) → length (zeroed q) ≡ length q
length-zeroed q = length-replicate (length q) 0

cell-long : (c : Cell) → length (cell_bytes (cell_with zeroed c)) ≡ length (cell_bytes c)
unfolding cell_bytes cell_with
cell-long c = simp (length-append, length-replicate)

alike-bytes : (bs : List ℕ) → Alike (bytes_line (zeroed bs) ∷ []) (bytes_line bs ∷ [])
unfolding bytes_line
alike-bytes bs = alike-one (bytes_line (zeroed bs)) (bytes_line bs) (rw (length-zeroed bs)) (length-zeroed bs)

alike-cell : (c : Cell) → Alike (cell_line (cell_with zeroed c) ∷ []) (cell_line c ∷ [])
unfolding cell_line cell_lengths cell_with
alike-cell c =
    alike-one (cell_line (cell_with zeroed c)) (cell_line c) (rw (length-zeroed c.type_script, length-zeroed c.content)) (cell-long c)

alike-input : (i : Input) → Alike (input_line (input_with zeroed i) ∷ []) (input_line i ∷ [])
unfolding input_line cell_lengths input_with cell_with
alike-input i =
    alike-one
    (input_line (input_with zeroed i))
    (input_line i)
    (rw (length-zeroed i.cell.type_script, length-zeroed i.cell.content))
    (cell-long i.cell)

alike-output : (o : Output) → Alike (output_line (output_with zeroed o) ∷ []) (output_line o ∷ [])
unfolding output_line cell_lengths output_with cell_with
alike-output o =
    alike-one
    (output_line (output_with zeroed o))
    (output_line o)
    (rw (length-zeroed o.cell.type_script, length-zeroed o.cell.content))
    (cell-long o.cell)

hash-record : (hash : List ℕ) → (hash_line (zeroed hash)).numbers ≡ (hash_line hash).numbers
unfolding hash_line
hash-record hash = refl

hash-bytes : (hash : List ℕ) → length (hash_line (zeroed hash)).bytes ≡ length (hash_line hash).bytes
unfolding hash_line
hash-bytes hash = length-zeroed hash

alike-lines : (s : Scene) → Alike (lines_of (scene_with zeroed s)) (lines_of s)
unfolding lines_of scene_with
alike-lines s =
    let hash = alike-one (hash_line (zeroed s.transaction)) (hash_line s.transaction) (hash-record s.transaction) (hash-bytes s.transaction) in
    alike-append _ _ _ _
    (alike-append _ _ _ _
    (alike-append _ _ _ _
    (alike-append _ _ _ _
    (alike-append (bytes_line (zeroed s.script) ∷ []) (bytes_line s.script ∷ []) _ _ (alike-bytes s.script) (alike-append (hash_line (zeroed s.transaction) ∷ []) (hash_line s.transaction ∷ []) _ _ hash (alike-map input_line (input_with zeroed) alike-input s.inputs)))
    (alike-map output_line (output_with zeroed) alike-output s.outputs))
    (alike-map cell_line (cell_with zeroed) alike-cell s.deps))
    (alike-map bytes_line zeroed alike-bytes s.witnesses))
    (record { records = λ used. refl; long = refl })

-- so a scene and its zeroed one have the same table and as many bytes
zeroed-numbers : (s : Scene) → scene_numbers (scene_with zeroed s) ≡ scene_numbers s
unfolding scene_numbers counts_of scene_with
zeroed-numbers s =
    rw (
      length-map s.inputs (input_with zeroed),
      length-map s.outputs (output_with zeroed),
      length-map s.deps (cell_with zeroed),
      length-map s.witnesses zeroed,
      (alike-lines s).records 0,
    )

zeroed-table : (s : Scene) (m : ℕ) → scene_table (scene_with zeroed s) m ≡ scene_table s m
unfolding scene_table
zeroed-table s m = ap (padded_to m) (zeroed-numbers s)

pub zeroed-long : (s : Scene) → length (scene_bytes (scene_with zeroed s)) ≡ length (scene_bytes s)
unfolding scene_bytes
zeroed-long s = total-joined (lines_of (scene_with zeroed s)) ∙ ((alike-lines s).long ∙ sym (total-joined (lines_of s)))

-- and one is a scene that a text can say where the other is
zeroed-cell : (c : Cell) → cell_ok c ≡ true → cell_ok (cell_with zeroed c) ≡ true
unfolding cell_from cell_field_places cell_with
zeroed-cell c h =
    let l = cell-hashes c h in
    rw (← l.0, l.1) (blank-cell 0 (length c.type_script) (length c.content))

zeroed-input : (i : Input) → input_ok i ≡ true → input_ok (input_with zeroed i) ≡ true
unfolding input_ok input_with
zeroed-input i h =
    let group = ltb i.group 2 in
    let since = ltb i.since (2 ^ 64) in
    let capacity = ltb i.capacity (2 ^ 64) in
    let a = and_both group (since && (cell_ok i.cell && capacity)) h in
    let b = and_both since (cell_ok i.cell && capacity) a.1 in
    let c = and_both (cell_ok i.cell) capacity b.1 in
    rw (a.0, b.0, zeroed-cell i.cell c.0) c.1

zeroed-output : (o : Output) → output_ok o ≡ true → output_ok (output_with zeroed o) ≡ true
unfolding output_ok output_with
zeroed-output o h =
    let a = and_both (cell_ok o.cell) (ltb o.capacity (2 ^ 64)) h in
    rw (zeroed-cell o.cell a.0) a.1

few : {A : Type 0} (p : A → Bool) (f : A → A) → ((x : A) → p x ≡ true → p (f x) ≡ true) → (xs : List A) → length xs ≤ 64 → every p xs ≡ true → few_of p (map f xs) ≡ true
unfolding few_of
few p f h xs l e = rw (length-map xs f, le-leb (length xs) 64 l) (every_map p p f h xs e)

zeroed-hash : (hash : List ℕ) → hash_bytes_ok hash ≡ true → hash_bytes_ok (zeroed hash) ≡ true
zeroed-hash hash h = rw (hash-long hash h) blank-hash

pub zeroed-ok : (s : Scene) → Sayable s → scene_ok (scene_with zeroed s) ≡ true
unfolding scene_ok scene_with digits_ok
zeroed-ok s ok =
    rw (
      blank-bytes (length s.script),
      zeroed-hash s.transaction ok.transaction,
      few input_ok (input_with zeroed) zeroed-input s.inputs ok.few_inputs ok.inputs,
      few output_ok (output_with zeroed) zeroed-output s.outputs ok.few_outputs ok.outputs,
      few cell_ok (cell_with zeroed) zeroed-cell s.deps ok.few_deps ok.deps,
      few bytes_ok zeroed (λ bs h. blank-bytes (length bs)) s.witnesses ok.few_witnesses ok.witnesses,
      le-leb (length s.digits) 16 ok.few_digits,
      ok.digits,
    )

-- a table says the zeroed scene of a scene that leaves it
blank-scene : (s : Scene) (m : ℕ) → Sayable s → blank_scene (scene_table s m) ≡ scene_with zeroed s
unfolding blank_scene
blank-scene s m ok = scene-back s m zeros_at zeroed (λ p q r at n e lp lq. rw lq) ok

-- a table that a scene leaves passes
pub scene-passes : (table : List ℕ) (n : ℕ) (s : Scene) → table_min_entries ≤ length table → scene_ok s ≡ true → length (scene_bytes s) ≤ n → table ≡ scene_table s (length table)
    → valid_table table n ≡ true
unfolding valid_table
scene-passes table n s enough ok room e =
    let said : blank_scene table ≡ scene_with zeroed s = ap blank_scene e ∙ blank-scene s (length table) (sayable s ok) in
    rw
    (le-leb table_min_entries (length table) enough, said, zeroed-ok s (sayable s ok), zeroed-long s, le-leb (length (scene_bytes s)) n room)
    (eq-same table (scene_table (scene_with zeroed s) (length table)) (e ∙ sym (zeroed-table s (length table))))

-- a table that passes is the one of the scene that it says
pub passes-scene : (table : List ℕ) (n : ℕ) → valid_table table n ≡ true
    → (table_min_entries ≤ length table) × (s : Scene) × (scene_ok s ≡ true) × (length (scene_bytes s) ≤ n) × (table ≡ scene_table s (length table))
unfolding valid_table
passes-scene table n h =
    let a = and_both _ _ h in
    let b = and_both _ _ a.1 in
    let c = and_both _ _ b.1 in (
      leb-true table_min_entries (length table) a.0,
      blank_scene table,
      b.0,
      leb-true (length (scene_bytes (blank_scene table))) n c.0,
      same-eq table (scene_table (blank_scene table) (length table)) c.1,
    )

-- 01, the row for 7: yes exactly for a table that some scene leaves, scene length aside, with a store of n bytes
pub valid-table : (table : List ℕ) (n : ℕ) → (valid_table table n ≡ true)
    ↔ ((table_min_entries ≤ length table) × (s : Scene) × (scene_ok s ≡ true) × (length (scene_bytes s) ≤ n) × (table ≡ scene_table s (length table)))
valid-table table n = (passes-scene table n, λ t. scene-passes table n t.1 t.0 t.2 t.3 t.4)
