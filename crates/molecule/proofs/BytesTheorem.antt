-- The bytes in a field, the lock of a witness and the args of a script: accepted exactly where every check passes, and then
-- the field is the vector of the bytes at the place that the reader gives.
-- Assumes nothing.
use Rattle.std.specs.Prelude.{Err, Ok}
use mathlib.Core.Path.{◌≡◌, sym, ap, ◌∙◌}
use mathlib.Core.List.{List, [], ◌∷◌, ◌++◌}
use mathlib.Core.Logic.{◌↔◌}
use Prim.Native.Nat.{ℕ, ◌+◌, ◌-◌, ◌^◌, ◌<◌}
use native.Mathlib.Omega.{arith}
use lib.ListN.{length, take, drop, length-append}
use lib.Seq.{take-add, take_all, drop_at, drop-drop}
use Rattle.octets.specs.declared.place.Place.{Place}
use Rattle.octets.specs.Le.{Bytes}
use Rattle.octets.specs.Places.{bytes_at}
use Rattle.octets.proofs.LeLaws.{number_lt, length_to, bytes_take, bytes_drop}
use Rattle.octets.proofs.Parts.{part_length}
use Rattle.protocol.specs.Rows.{Row, ◌then◌, decide, AllPass, FirstFailed}
use Rattle.protocol.specs.Reading.{OneReading}
use Rattle.protocol.specs.declared.error.ProtocolError.{ProtocolError}
use Rattle.protocol.specs.declared.error.ProtocolError.TheVariants.{InvalidArgs, InvalidWitness}
use Rattle.protocol.proofs.AllPass.{passed-all-pass, all-pass-passed, all-pass-split}
use Rattle.protocol.proofs.Answers.{then-given, then-accepts, then-refuses}
use Rattle.molecule.specs.Molecule.{bytes_vector, table_bytes}
use Rattle.molecule.specs.Table3.{table_rows, between, field1, field2, field3, second_offset_of, table_total_of, third_offset_of}
use Rattle.molecule.specs.Bytes.{bytes_rows, bytes_place_from, read_bytes, witness_lock_rows, witness_lock_place, read_witness_lock, script_args_rows, script_args_place, read_script_args, bytes_in}
use Rattle.molecule.proofs.Form.{TablePasses, table-passes, length-field1}
use Rattle.molecule.proofs.Inverse.{table-written, vector-length, vector-written, vector-read}

-- the place that a reader gives, and where it gives one its rows pass
place-given : (rows : List Row) (g p : Place) → decide (Ok tt) rows then Ok g ≡ Ok p → AllPass rows × (p ≡ g)
place-given rows g p h =
    let z = then-given g (decide (Ok tt) rows) p h in
    (passed-all-pass rows z.0, sym z.1)

-- the bytes of a lock and of args that pass
pub lock-read : (s : List ℕ) → AllPass (witness_lock_rows s) → bytes_at s (witness_lock_place s) ≡ bytes_in s (read_witness_lock s)
unfolding read_witness_lock bytes_in
lock-read s h = rw (all-pass-passed (witness_lock_rows s) h)

pub args_read : (s : List ℕ) → AllPass (script_args_rows s) → bytes_at s (script_args_place s) ≡ bytes_in s (read_script_args s)
unfolding read_script_args bytes_in
args_read s h = rw (all-pass-passed (script_args_rows s) h)

-- accepted exactly where every check passes, refused exactly with the first that fails
pub bytes-accepts : (field : List ℕ) → (read_bytes field ≡ Ok (bytes_place_from 0 field)) ↔ AllPass (bytes_rows InvalidWitness field)
unfolding read_bytes
bytes-accepts field = then-accepts (bytes_place_from 0 field) (bytes_rows InvalidWitness field)

pub bytes-refuses : (field : List ℕ) (e : ProtocolError) → (read_bytes field ≡ Err e) ↔ FirstFailed (bytes_rows InvalidWitness field) e
unfolding read_bytes
bytes-refuses field e = then-refuses (bytes_place_from 0 field) (bytes_rows InvalidWitness field) e

pub witness-lock-accepts : (s : List ℕ) → (read_witness_lock s ≡ Ok (bytes_place_from 16 (field1 s))) ↔ AllPass (witness_lock_rows s)
unfolding read_witness_lock
witness-lock-accepts s = then-accepts (bytes_place_from 16 (field1 s)) (witness_lock_rows s)

pub witness-lock-refuses : (s : List ℕ) (e : ProtocolError) → (read_witness_lock s ≡ Err e) ↔ FirstFailed (witness_lock_rows s) e
unfolding read_witness_lock
witness-lock-refuses s e = then-refuses (bytes_place_from 16 (field1 s)) (witness_lock_rows s) e

pub script-args-accepts : (s : List ℕ) → (read_script_args s ≡ Ok (bytes_place_from (third_offset_of s) (field3 s))) ↔ AllPass (script_args_rows s)
unfolding read_script_args
script-args-accepts s = then-accepts (bytes_place_from (third_offset_of s) (field3 s)) (script_args_rows s)

pub script-args-refuses : (s : List ℕ) (e : ProtocolError) → (read_script_args s ≡ Err e) ↔ FirstFailed (script_args_rows s) e
unfolding read_script_args
script-args-refuses s e = then-refuses (bytes_place_from (third_offset_of s) (field3 s)) (script_args_rows s) e

length-vector : (q : List ℕ) → length (bytes_vector q) ≡ 4 + length q
unfolding bytes_vector
length-vector q = simp (length-append, length_to)

-- the one reading of a field whose rows pass
vector-one : (e : ProtocolError) (v : List ℕ) → Bytes v → AllPass (bytes_rows e v) → OneReading (λ (items : List ℕ). Unit {0}) bytes_vector v (take (table_total_of v) (drop 4 v))
vector-one e v b h =
    record {
      typed = tt;
      written = vector-written e v h b;
      unique = λ q t w. sym (vector-read q (small q w)) ∙ ap (λ (u : List ℕ). take (table_total_of u) (drop 4 u)) w;
    }
  where
    small : (q : List ℕ) → bytes_vector q ≡ v → length q < 2 ^ 32
    small q w =
        let n : 4 + table_total_of v ≡ length v = vector-length e v h in
        let l : table_total_of v < 2 ^ 32 = number_lt v 0 4 b in
        let k : length (bytes_vector q) ≡ 4 + length q = length-vector q in
        let m : length (bytes_vector q) ≡ length v = ap length w in
        omega arith

-- The bytes in a field: exactly one list of bytes has the field as its vector, that at the place.
pub bytes-theorem : (field : List ℕ) (p : Place) → Bytes field → read_bytes field ≡ Ok p → OneReading (λ (items : List ℕ). Unit {0}) bytes_vector field (bytes_at field p)
unfolding read_bytes bytes_place_from bytes_at
bytes-theorem field p b h =
    let g = place-given (bytes_rows InvalidWitness field) (bytes_place_from 0 field) p h in
    rw g.1 (vector-one InvalidWitness field b g.0)

field-split : (s : List ℕ) (n : ℕ) → 4 + n ≡ second_offset_of s - 16 → field1 s ≡ take 4 (drop 16 s) ++ take n (drop 20 s)
unfolding field1 between
field-split s n e = rw (← e) (take-add 4 n (drop 16 s) ∙ rw (drop-drop 4 16 s))

field1-bytes : (s : List ℕ) → Bytes s → Bytes (field1 s)
unfolding field1 between
field1-bytes s b = bytes_take (second_offset_of s - 16) (drop 16 s) (bytes_drop 16 s b)

field3-bytes : (s : List ℕ) → Bytes s → Bytes (field3 s)
unfolding field3
field3-bytes s b = bytes_drop (third_offset_of s) s b

-- the bytes of field 1, in the witness
lock-bytes : (s : List ℕ) → TablePasses s → AllPass (bytes_rows InvalidWitness (field1 s))
    → take (table_total_of (field1 s)) (drop 4 (field1 s)) ≡ take (table_total_of (field1 s)) (drop 20 s)
lock-bytes s z h =
    let n : ℕ = table_total_of (field1 s) in
    let e : 4 + n ≡ length (field1 s) = vector-length InvalidWitness (field1 s) h in
    let l : length (field1 s) ≡ second_offset_of s - 16 = length-field1 s z in
    let k : 4 + n ≡ second_offset_of s - 16 = omega arith in
    let f : field1 s ≡ take 4 (drop 16 s) ++ take n (drop 20 s) = field-split s n k in
    let d : drop 4 (field1 s) ≡ take n (drop 20 s) =
    ap (drop 4) f ∙ drop_at (take 4 (drop 16 s)) (take n (drop 20 s)) 4 (part_length s 16 4 (omega arith)) in
    let t : length (take n (drop 20 s)) ≡ n = part_length s 20 n (omega arith) in
    rw d (take_all n (take n (drop 20 s)) (omega arith))

-- and those of field 3, in the script
args-bytes : (s : List ℕ) → drop 4 (field3 s) ≡ drop (third_offset_of s + 4) s
unfolding field3
args-bytes s = drop-drop 4 (third_offset_of s) s

-- The lock of a witness: field 1 is the vector of just those bytes that stand at the place, and the witness is the table of it and the other two fields.
pub witness-lock-theorem : (s : List ℕ) (p : Place) → Bytes s → read_witness_lock s ≡ Ok p
    → OneReading (λ (items : List ℕ). Unit {0}) bytes_vector (field1 s) (bytes_at s p) × (table_bytes (bytes_vector (bytes_at s p) ∷ field2 s ∷ field3 s ∷ []) ≡ s)
unfolding read_witness_lock witness_lock_rows bytes_place_from bytes_at
witness-lock-theorem s p b h =
    let g = place-given (witness_lock_rows s) (bytes_place_from 16 (field1 s)) p h in
    let q = all-pass-split (table_rows InvalidWitness s) _ g.0 in
    let z : TablePasses s = table-passes InvalidWitness s q.0 in
    let v : AllPass (bytes_rows InvalidWitness (field1 s)) = q.1.1 in
    let o : OneReading (λ (items : List ℕ). Unit {0}) bytes_vector (field1 s) (take (table_total_of (field1 s)) (drop 20 s)) =
    rw (lock-bytes s z v) at (vector-one InvalidWitness (field1 s) (field1-bytes s b) v) in
    rw g.1 (o, rw o.written (table-written s b z))

-- The args of a script, likewise of field 3.
pub script-args-theorem : (s : List ℕ) (p : Place) → Bytes s → read_script_args s ≡ Ok p
    → OneReading (λ (items : List ℕ). Unit {0}) bytes_vector (field3 s) (bytes_at s p) × (table_bytes (field1 s ∷ field2 s ∷ bytes_vector (bytes_at s p) ∷ []) ≡ s)
unfolding read_script_args script_args_rows bytes_place_from bytes_at
script-args-theorem s p b h =
    let g = place-given (script_args_rows s) (bytes_place_from (third_offset_of s) (field3 s)) p h in
    let q = all-pass-split (table_rows InvalidArgs s) (bytes_rows InvalidArgs (field3 s)) g.0 in
    let z : TablePasses s = table-passes InvalidArgs s q.0 in
    let o : OneReading (λ (items : List ℕ). Unit {0}) bytes_vector (field3 s) (take (table_total_of (field3 s)) (drop (third_offset_of s + 4) s)) =
    rw (args-bytes s) at (vector-one InvalidArgs (field3 s) (field3-bytes s b) q.1) in
    rw g.1 (o, rw o.written (table-written s b z))
