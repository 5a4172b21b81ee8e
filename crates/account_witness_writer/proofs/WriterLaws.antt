-- The writer's laws: a turn of each of its loops, the lengths of what the slices lend, and the parts stored one behind another.
-- Assumes nothing.
use Rattle.std.specs.Prelude.{Err, Ok}
use Rattle.std.specs.List.{list_all}
use mathlib.Core.Path.{◌≡◌, refl, sym, ap, ◌∙◌}
use mathlib.Core.Bool.{Bool}
use mathlib.Core.List.{List, [], ◌∷◌, ◌++◌}
use Prim.Native.Nat.{ℕ, suc, ◌+◌, ◌*◌, ◌-◌, ◌≤◌, ◌<◌}
use native.Mathlib.Nat.{add_assoc}
use native.Mathlib.Numerals.{add-one}
use native.Mathlib.Omega.{arith}
use borrow.Author.Tests.{eqb-true, leb-true}
use lib.ListN.{length, take, drop, get_or, length-append, length-drop, drop_of_length-le}
use lib.Seq.{sets, drop-cons, length-take-le}
use Rattle.octets.specs.Le.{to_le}
use Rattle.octets.specs.Lists.{every, sum, joined}
use Rattle.octets.specs.Layout.{layout_bytes}
use Rattle.octets.proofs.Sums.{sum-turn, sum-end}
use Rattle.octets.proofs.Stores.{sets-append, sets-front}
use Rattle.octets.proofs.LayoutLaws.{store_numbers, numbers-stored, length-numbers}
use Rattle.protocol.specs.Rows.{Check}
use Rattle.protocol.specs.Write.{write_answer, after_write}
use Rattle.protocol.proofs.Back.{write-passed}
use Rattle.account_witness.specs.Header.{witness_header_fields}
use Rattle.account_witness.proofs.Unique.{length-proof}
use Rattle.account_witness.specs.Reading.{ProofReading, proof_fields, proof_bytes, proofs_bytes, witness_bytes}
use Rattle.account_witness_writer.specs.Writer.{lent_proofs, witness_from, witness_total, lent_proof_rows, witness_writer_rows, witness_writer_fault, witness_stored}

-- a turn of the loop that adds, and its end
pub sum_turn : (l : List ℕ) (i : ℕ) → i < length l → sum (drop i l) ≡ get_or l i 0 + sum (drop (i + 1) l)
sum_turn l i h = sum-turn l i h

pub sum_end : (l : List ℕ) (i : ℕ) → length l ≤ i → sum (drop i l) ≡ 0
sum_end l i h = sum-end l i h

-- the library's test of every element
pub every_is_all : (p : ℕ → Bool) (l : List ℕ) → every p l ≡ list_all p l
unfolding every
every_is_all p [] = refl
every_is_all p (x ∷ l) = rw (every_is_all p l)

-- a proof's numbers and bytes, stored one behind another
pub proof_stored : (l : List ℕ) (at slot : ℕ) (bytes : List ℕ)
    → sets l at (proof_bytes (record { slot = slot; bytes = bytes }))
    ≡ sets (sets (sets (sets l at (to_le 2 slot)) (at + 2) (to_le 2 0)) (at + 4) (to_le 4 (length bytes))) (at + 8) bytes
unfolding proof_bytes proof_fields store_numbers
proof_stored l at slot bytes =
    let t = proof_fields slot (length bytes) in
    let n : sets (sets (sets l at (to_le 2 slot)) (at + 2) (to_le 2 0)) (at + 4) (to_le 4 (length bytes)) ≡ sets l at (layout_bytes t) = simp add_assoc at (numbers-stored l at t) in
    rw n (sym (sets-append l at (layout_bytes t) bytes (at + 8) (ap (λ (k : ℕ). at + k) (sym (length-numbers t)))))

-- a turn of the loop that stores the proofs, with `rest` of the bytes left, and its end
pub store_turn : (out slots lengths rest : List ℕ) (at i : ℕ) → i < length slots → i < length lengths → get_or lengths i 0 ≤ length rest
    → sets out at (proofs_bytes (lent_proofs (drop i slots) (drop i lengths) rest))
    ≡ sets
    (sets out at (proof_bytes (record { slot = get_or slots i 0; bytes = take (get_or lengths i 0) rest })))
    (at + (8 + get_or lengths i 0))
    (proofs_bytes (lent_proofs (drop (i + 1) slots) (drop (i + 1) lengths) (drop (get_or lengths i 0) rest)))
unfolding lent_proofs proofs_bytes joined
store_turn out slots lengths rest at i h k l =
    let p : ProofReading = record { slot = get_or slots i 0; bytes = take (get_or lengths i 0) rest } in
    let n : length (proof_bytes p) ≡ 8 + get_or lengths i 0 = length-proof p ∙ ap (λ (x : ℕ). 8 + x) (length-take-le (get_or lengths i 0) rest l) in
    rw (add-one i, drop-cons slots i 0 h, drop-cons lengths i 0 k) (sym (sets-append out at (proof_bytes p) _ (at + (8 + get_or lengths i 0)) (ap (λ (x : ℕ). at + x) (sym n))))

pub store_end : (out slots lengths rest : List ℕ) (at i : ℕ) → length slots ≤ i → sets out at (proofs_bytes (lent_proofs (drop i slots) (drop i lengths) rest)) ≡ out
unfolding lent_proofs proofs_bytes joined
store_end out slots lengths rest at i h = rw (drop_of_length-le slots h)

-- slices that agree lend as many proofs as there are slots, with all the bytes
pub length_from : (slots lengths bytes : List ℕ) → length slots ≡ length lengths → length (lent_proofs slots lengths bytes) ≡ length slots
unfolding lent_proofs
length_from [] lengths bytes e = refl
length_from (slot ∷ slots) [] bytes e = absurd (omega arith)
length_from (slot ∷ slots) (len ∷ lengths) bytes e =
    let n : length slots ≡ length lengths = omega arith in
    ap suc (length_from slots lengths (drop len bytes) n)

pub length-lent : (slots lengths bytes : List ℕ) → length slots ≡ length lengths → sum lengths ≡ length bytes
    → length (proofs_bytes (lent_proofs slots lengths bytes)) ≡ 8 * length slots + length bytes
unfolding lent_proofs proofs_bytes joined sum
length-lent [] [] bytes e n = omega arith
length-lent [] (len ∷ lengths) bytes e n = absurd (omega arith)
length-lent (slot ∷ slots) [] bytes e n = absurd (omega arith)
length-lent (slot ∷ slots) (len ∷ lengths) bytes e n =
    let d : length (drop len bytes) ≡ length bytes - len = length-drop len bytes in
    let t : length (take len bytes) ≡ len = length-take-le len bytes (omega arith) in
    let p : ProofReading = record { slot = slot; bytes = take len bytes } in
    let a : length (proof_bytes p) ≡ 8 + length (take len bytes) = length-proof p in
    let b : length slots ≡ length lengths = omega arith in
    let c : sum lengths ≡ length (drop len bytes) = omega arith in
    let r : length (proofs_bytes (lent_proofs slots lengths (drop len bytes))) ≡ 8 * length slots + length (drop len bytes) = length-lent slots lengths (drop len bytes) b c in
    length-append (proof_bytes p) _ ∙ omega arith

-- what a writer that passes says
pub record WitnessWriterHolds (slots lengths bytes : List ℕ) (room : ℕ) : Type 0 where
  pub counts : length slots ≡ length lengths
  pub sums : sum lengths ≡ length bytes
  pub most : witness_total slots bytes ≤ 131072
  pub fits : witness_total slots bytes ≤ room

pub witness-writer-holds : (operation : ℕ) (slots lengths bytes : List ℕ) (room : ℕ) → witness_writer_fault operation slots lengths bytes room ≡ Ok tt → WitnessWriterHolds slots lengths bytes room
unfolding witness_writer_fault witness_writer_rows lent_proof_rows
witness-writer-holds operation slots lengths bytes room h =
    let z = write-passed (witness_writer_rows operation slots lengths bytes) (witness_total slots bytes) room h in
    record {
      counts = eqb-true _ _ z.0.0;
      sums = eqb-true _ _ z.0.1.0;
      most = leb-true _ _ z.0.1.1.1.1.1.0;
      fits = z.1;
    }

-- so where it answers a length
answered : (k : Check) (total n : ℕ) → write_answer k total ≡ Ok n → k ≡ Ok tt
unfolding write_answer
answered (Ok _) total n h = refl
answered (Err e) total n h = absurd (let z : ◌≡◌ {A = ℕ} 0 1 = cc in omega arith)

pub witness-answered-holds : (operation : ℕ) (slots lengths bytes : List ℕ) (room n : ℕ)
    → write_answer (witness_writer_fault operation slots lengths bytes room) (witness_total slots bytes) ≡ Ok n → WitnessWriterHolds slots lengths bytes room
witness-answered-holds operation slots lengths bytes room n h = witness-writer-holds operation slots lengths bytes room (answered _ _ n h)

-- the header and the proofs, stored one behind another
pub witness_parts : (operation sequence : ℕ) (slots lengths bytes out : List ℕ) → witness_writer_fault operation slots lengths bytes (length out) ≡ Ok tt
    → witness_stored operation sequence slots lengths bytes out
    ≡ sets (sets out 0 (layout_bytes (witness_header_fields operation (length slots) sequence))) 16 (proofs_bytes (lent_proofs slots lengths bytes))
unfolding witness_stored after_write witness_bytes witness_from witness_header_fields
witness_parts operation sequence slots lengths bytes out passed =
    let z = witness-writer-holds operation slots lengths bytes (length out) passed in
    let h = layout_bytes (witness_header_fields operation (length slots) sequence) in
    let b = proofs_bytes (lent_proofs slots lengths bytes) in
    let m : length h ≡ 16 = length-numbers (witness_header_fields operation (length slots) sequence) in
    let n : length b ≡ 8 * length slots + length bytes = length-lent slots lengths bytes z.counts z.sums in
    let r : length (h ++ b) ≤ length out = rw (length-append h b, m, n) z.fits in
    rw (passed, length_from slots lengths bytes z.counts) (sym (sets-append out 0 h b 16 (omega arith) ∙ sets-front out (h ++ b) r))
