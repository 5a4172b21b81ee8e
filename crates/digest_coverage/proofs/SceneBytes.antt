-- What a scene is made of is bytes, where a text can say it: its hashed witnesses, its account's state, and the inputs of its sighash
-- and of its digest.
-- Assumes nothing.
use Rattle.std.specs.Prelude.{Err, Ok, Result}
use Rattle.protocol.specs.declared.error.ProtocolError.{ProtocolError}
use Rattle.octets.specs.declared.place.Place.{Place}
use mathlib.Core.Path.{◌≡◌, refl}
use mathlib.Core.Bool.{true, cond, ◌&&◌}
use mathlib.Core.List.{List, [], ◌∷◌, ◌++◌}
use Prim.Native.Nat.{ℕ, zero, suc, ◌-◌, ◌<◌}
use native.Mathlib.Omega.{arith}
use borrow.Author.Tests.{ltb-true}
use lib.Dec.{eqb}
use lib.ListN.{length, drop}
use Rattle.octets.specs.Le.{to_le, Bytes}
use Rattle.octets.specs.Lists.{every, joined}
use Rattle.octets.specs.Layout.{layout_bytes}
use Rattle.octets.specs.Places.{bytes_at}
use Rattle.octets.proofs.Every.{every-split, every_map}
use Rattle.octets.proofs.LayoutLaws.{layout-bytes}
use Rattle.octets.proofs.LeLaws.{bytes_drop, bytes_take, bytes-append, bytes-to, number_lt}
use Rattle.octets.proofs.Truth.{and_right}
use Rattle.blake2b.specs.Rfc7693.{bytes_of, hash_words, hash_of}
use Rattle.blake2b.specs.State.{ckb_parameters, ckb_hash}
use Rattle.protocol.specs.Args.{account_of}
use Rattle.molecule.specs.Bytes.{bytes_in, read_witness_lock, read_script_args}
use Rattle.molecule.specs.Canonical.{canonical_of}
use Rattle.molecule.specs.Molecule.{bytes_vector, table_head, table_bytes}
use Rattle.molecule.specs.Table3.{second_offset_of, third_offset_of, between, field2, field3}
use Rattle.authorization.specs.Digest.{auth_domain, digest_head, digest_input}
use Rattle.authorization.specs.Hashed.{hashed_witness}
use Rattle.authorization.specs.Sighash.{hashed_witnesses, sighash_input, sighash_of}
use Rattle.scene_table.specs.Scene.{Cell, Input, Output, Scene}
use Rattle.scene_table.specs.Valid.{bytes_ok, hash_bytes_ok, cell_ok, input_ok, output_ok}
use Rattle.scene_table.proofs.SceneBack.{Sayable}
use Rattle.scene_table.proofs.Shape.{input-cell, output-cell}
use Rattle.cell_search.specs.declared.cells.Source.{Source}
use Rattle.cell_search.specs.declared.cells.Source.TheVariants as source
use Rattle.cell_search.specs.Search.{cells_of, cell_at, no_cell}
use Rattle.group_sighash.specs.Witnesses.{first_witness, other_witnesses, lock_in}
use Rattle.group_sighash.specs.GroupSighash.{group_sighash}
use Rattle.state_transition.specs.Resolve.{state_source, current_state}
use Rattle.account_state.specs.Fields.{sequence_of}
use Rattle.account_lock.specs.Lock as lock
use Rattle.digest_coverage.proofs.HashedWitnesses.{every_first, every-other}
use Rattle.digest_coverage.specs.Coverage.{sighash_input_of, sighash_parts, scene_digest_input}

-- ---- bytes

pub no_bytes : Bytes []
no_bytes i = omega arith

one_byte : (b : ℕ) → b < 256 → Bytes (b ∷ [])
one_byte b h zero = h
one_byte b h (suc i) = omega arith

-- what passes the test of bytes is bytes
pub ok-bytes : (s : List ℕ) → bytes_ok s ≡ true → Bytes s
unfolding bytes_ok
ok-bytes [] h i = omega arith
ok-bytes (b ∷ s) h zero = ltb-true b 256 (every-split _ b s h).0
ok-bytes (b ∷ s) h (suc i) = ok-bytes s (every-split _ b s h).1 i

-- the bytes of words are, and so CKB's hash is
bytes-words : (h : List ℕ) → Bytes (bytes_of h)
unfolding bytes_of
bytes-words [] = no_bytes
bytes-words (w ∷ h) = bytes-append (to_le 8 w) (bytes_of h) (bytes-to 8 w) (bytes-words h)

hash-bytes : (xs : List ℕ) → Bytes (ckb_hash xs)
unfolding ckb_hash hash_of
hash-bytes xs = bytes_take 32 (bytes_of (hash_words ckb_parameters xs)) (bytes-words (hash_words ckb_parameters xs))

domain-bytes : Bytes auth_domain
unfolding auth_domain bytes_ok every
domain-bytes = ok-bytes auth_domain refl

-- a part of bytes is, read or not
part_bytes : (s : List ℕ) (a : Result Place ProtocolError) → Bytes s → Bytes (bytes_in s a)
unfolding bytes_in bytes_at
part_bytes s (Ok p) b = bytes_take p.len (drop p.start s) (bytes_drop p.start s b)
part_bytes s (Err e) b = no_bytes

-- the canonical witness
canonical-bytes : (w : List ℕ) → Bytes w → Bytes (canonical_of w)
unfolding canonical_of table_bytes joined bytes_vector field2 field3 between
canonical-bytes w b =
    let second = bytes_take (third_offset_of w - second_offset_of w) (drop (second_offset_of w) w) (bytes_drop (second_offset_of w) w b) in
    let third = bytes-append (field3 w) [] (bytes_drop (third_offset_of w) w b) no_bytes in
    let fields = bytes-append (field2 w) (field3 w ++ []) second third in
    let lock = bytes-append (to_le 4 0) [] (bytes-to 4 0) no_bytes in
    bytes-append (layout_bytes (table_head (bytes_vector [] ∷ field2 w ∷ field3 w ∷ []))) _ (layout-bytes _) (bytes-append (bytes_vector []) _ lock fields)

hashed-bytes : (w : List ℕ) → Bytes w → Bytes (hashed_witness w)
unfolding hashed_witness
hashed-bytes w b = bytes-append (to_le 8 (length w)) w (bytes-to 8 (length w)) b

row-bytes : (ws : List (List ℕ)) → every bytes_ok ws ≡ true → Bytes (hashed_witnesses ws)
unfolding hashed_witnesses joined
row-bytes [] h = no_bytes
row-bytes (w ∷ ws) h =
    let z = every-split bytes_ok w ws h in
    bytes-append (hashed_witness w) (hashed_witnesses ws) (hashed-bytes w (ok-bytes w z.0)) (row-bytes ws z.1)

-- ---- a scene that a text can say

cell-bytes : (c : Cell) → cell_ok c ≡ true → Bytes c.content
unfolding cell_ok
cell-bytes c h =
    let content = bytes_ok c.content in
    let scripts = bytes_ok c.type_script && content in
    let hashes = hash_bytes_ok c.data_hash && scripts in
    let typed = cond (eqb (length c.type_script) 0) (eqb (length c.type_hash) 0) (hash_bytes_ok c.type_hash) in
    ok-bytes c.content (and_right (bytes_ok c.type_script) content (and_right (hash_bytes_ok c.data_hash) scripts (and_right typed hashes h)))

-- the data of a cell, found or not
content-bytes : (cells : List Cell) (i : ℕ) → every cell_ok cells ≡ true → Bytes (cell_at cells i).content
unfolding cell_at no_cell
content-bytes [] i h = no_bytes
content-bytes (c ∷ cs) zero h = cell-bytes c (every-split cell_ok c cs h).0
content-bytes (c ∷ cs) (suc i) h = content-bytes cs i (every-split cell_ok c cs h).1

module _ (s : Scene) (ok : Sayable s) where
  cells-ok : (from : Source) → every cell_ok (cells_of from s) ≡ true
  unfolding cells_of
  cells-ok source.Input = every_map input_ok cell_ok (λ (i : Input). i.cell) input-cell s.inputs ok.inputs
  cells-ok source.Output = every_map output_ok cell_ok (λ (o : Output). o.cell) output-cell s.outputs ok.outputs
  cells-ok source.CellDep = ok.deps

  first-bytes : Bytes (first_witness s)
  unfolding bytes_ok every
  first-bytes = ok-bytes (first_witness s) (every_first bytes_ok s ok.witnesses refl)

  -- the account's current state
  pub state-bytes : Bytes (lock.current s)
  unfolding lock.current current_state
  state-bytes = content-bytes (cells_of (state_source (lock.operation s)) s) _ (cells-ok (state_source (lock.operation s)))

  account-bytes : Bytes (lock.account s)
  unfolding lock.account lock.account_in account_of lock.args_in
  account-bytes =
      let args = part_bytes s.script (read_script_args s.script) (ok-bytes s.script ok.script) in
      bytes_take 32 (drop 1 (lock.args_in s.script)) (bytes_drop 1 (lock.args_in s.script) args)

  operation-byte : lock.operation s < 256
  unfolding lock.operation lock.witness_lock lock_in
  operation-byte = number_lt (lock.witness_lock s) 5 1 (part_bytes (first_witness s) (read_witness_lock (first_witness s)) first-bytes)

  transaction-bytes : Bytes s.transaction
  unfolding hash_bytes_ok
  transaction-bytes = ok-bytes s.transaction (and_right (eqb (length s.transaction) 32) (bytes_ok s.transaction) ok.transaction)

  -- the input of its sighash
  pub sighash-input-bytes : Bytes (sighash_input_of (sighash_parts s))
  unfolding sighash_input_of sighash_parts sighash_input
  sighash-input-bytes =
      let first = hashed_witness (canonical_of (first_witness s)) in
      let first-hashed = hashed-bytes (canonical_of (first_witness s)) (canonical-bytes (first_witness s) first-bytes) in
      let others = row-bytes (other_witnesses s) (every-other bytes_ok s ok.witnesses) in
      bytes-append (s.transaction ++ first) (hashed_witnesses (other_witnesses s)) (bytes-append s.transaction first transaction-bytes first-hashed) others

  sighash-bytes : Bytes (group_sighash s)
  unfolding group_sighash sighash_of
  sighash-bytes = bytes_take 32 (bytes_of _) (bytes-words _)

  -- and of its digest
  pub digest-input-bytes : Bytes (scene_digest_input s)
  unfolding scene_digest_input digest_input digest_head
  digest-input-bytes =
      let operation = lock.operation s ∷ [] in
      let account = lock.account s in
      let sequence = to_le 8 (sequence_of (lock.current s)) in
      let state = ckb_hash (lock.current s) in
      let domain = bytes-append auth_domain operation domain-bytes (one_byte (lock.operation s) operation-byte) in
      let named = bytes-append (auth_domain ++ operation) account domain account-bytes in
      let head = bytes-append (auth_domain ++ operation ++ account) sequence named (bytes-to 8 (sequence_of (lock.current s))) in
      let stated = bytes-append (auth_domain ++ operation ++ account ++ sequence) state head (hash-bytes (lock.current s)) in
      bytes-append (auth_domain ++ operation ++ account ++ sequence ++ state) (group_sighash s) stated sighash-bytes
